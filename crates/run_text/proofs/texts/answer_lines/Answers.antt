use Rattle.std.proofs.Common.{◌≡◌, ◌+◌, ◌<◌, ◌≤◌, ◌++◌, length, get_or, None, ap, ◌∙◌, string_bytes, arith}
use Rattle.std.proofs.lemmas.List.{length-map, get_or-map}
use Rattle.executor.specs.Steps.{order_at}
use Rattle.runs.specs.declared.request.Act.{Act}
use Rattle.runs.specs.declared.request.Action.TheVariants.{Step}
use Rattle.runs.specs.Promise.{answers_of}
use Rattle.run_text.proofs.Lines.{told_all, told_more}
use Rattle.run_text.proofs.texts.answer_lines.Goals as goal

pub loop-act-preserved : goal.loop-act-preserved
loop-act-preserved c =
    let l = c.loop-act in
    let orders = order_at c.args.lines.now in
    let answers = answers_of c.args.acts.now in
    let blank : Act = record { action = Step; answer = None } in
    let act : Act = get_or c.args.acts.now l.act-index blank in
    let size = length-map c.args.acts.now (λ (a : Act). a.answer) in
    let inside : l.act-index < length answers = rw size (omega arith) in
    let found = get_or-map (λ (a : Act). a.answer) c.args.acts.now l.act-index blank None (omega arith) in
    let near : c.next_place-place.result ≤ l.act-index + 1 = omega (arith, l.invariant.0, c.next_place-place.ensures.near) in
    let text = c.in_ok-push_str.ensures.bytes ∙ ap (λ bs. string_bytes l.text ++ bs) c.deref.ensures in
    (near, rw (text, c.next_place-place.ensures.value) (told_more orders answers (string_bytes l.text) _ l.place l.act-index act.answer inside found l.invariant.1 c.in_ok-answer_line.ensures))

pub returns : goal.returns
returns c =
    let orders = order_at c.args.lines.now in
    let answers = answers_of c.args.acts.now in
    let size = length-map c.args.acts.now (λ (a : Act). a.answer) in
    let end : c.loop-act.act-index ≡ length answers = rw size (omega arith) in
    told_all orders answers (string_bytes c.loop-act.text) c.loop-act.place (rw end at c.loop-act.invariant.1)
