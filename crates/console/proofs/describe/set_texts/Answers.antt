use Rattle.std.proofs.Common.{◌≡◌, Ok, codes, string_bytes, rules, tests}
use Rattle.universe.specs.Tables.{universe_of}
use Rattle.console.specs.Described.{set_text_of}
use Rattle.console.proofs.Rows.{set_of_filter}
use Rattle.console.proofs.describe.set_texts.Goals as goal

pub returns : goal.returns
returns c =
    let u = universe_of c.args.universe.now.tables in
    let t = c.args.kind in
    let q = c.args.state in
    let provided : string_bytes c.in_ok-provided.provided ≡ set_text_of (codes "provides") (u.provides t q) u.ports =
    set_of_filter {E = Unit {0}} _ _ _ _ _ (Ok c.in_ok-provided.provided) c.in_ok-provided.ensures (search rules) (λ x b f k. search (rules, tests)) in
    let required : string_bytes c.in_ok-required.required ≡ set_text_of (codes "requires") (u.requires t q) u.ports =
    set_of_filter {E = Unit {0}} _ _ _ _ _ (Ok c.in_ok-required.required) c.in_ok-required.ensures (search rules) (λ x b f k. search (rules, tests)) in
    let next : string_bytes c.in_ok-next.next ≡ set_text_of (codes "next") (u.next t q) (u.states t) =
    set_of_filter {E = Unit {0}} _ _ _ _ _ (Ok c.in_ok-next.next) c.in_ok-next.ensures (search rules) (λ x b f k. search (rules, tests)) in
    (provided, required, next)
