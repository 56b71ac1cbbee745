use Rattle.std.proofs.Common.{◌+◌, [], ◌∷◌, length, vec_items, Err, ap, ◌∙◌, append-nil, rules, tests}
use Rattle.std.proofs.lemmas.List.{length_push}
use Rattle.scripts.proofs.ParseTurns.{orders_more, orders_bad, orders_end, piece_turn, piece_end, pieces, numbers_of}
use Rattle.scripts.proofs.parse_orders.Goals as goal

pub loop-before-preserved-in-Continue-1 : goal.loop-before-preserved-in-Continue-1
loop-before-preserved-in-Continue-1 c =
    let turn = piece_turn c.loop-before.yielded c.loop-before.before-iterator c.loop-before.yielded_by c.next.result c.next.new.self (pieces c.args.text.now) (c.in-Some.before, c.in-Some.line) c.in-Some.is
    c.next.ensures.steps (numbers_of _ {split = c.split.result} c.args.text.now c.split.ensures.rest c.split.ensures.done c.split.ensures.closure (cc) (cc) (λ x b q k. search (rules, tests))) in
    let told = rw c.in-Ok-Some.field-0-is at c.in-Ok-Some.ensures in
    rw (length_push c.loop-before.yielded (c.in-Some.before, c.in-Some.line), c.in_ok-push-in-Ok-Some.ensures.items)
    (orders_more (vec_items c.loop-before.orders) (pieces c.args.text.now) (length c.loop-before.yielded) _ c.loop-before.invariant c.in-Some.line.now (c.in-Ok-Some.order ∷ []) turn.0 turn.2 told)

pub returns-in-Err : goal.returns-in-Err
returns-in-Err c =
    let turn = piece_turn c.loop-before.yielded c.loop-before.before-iterator c.loop-before.yielded_by c.next.result c.next.new.self (pieces c.args.text.now) (c.in-Some.before, c.in-Some.line) c.in-Some.is
    c.next.ensures.steps (numbers_of _ {split = c.split.result} c.args.text.now c.split.ensures.rest c.split.ensures.done c.split.ensures.closure (cc) (cc) (λ x b q k. search (rules, tests))) in
    ap Err (c.in-Err.ensures.1 ∙ ap (λ n. n + 1) turn.1)
    ∙ orders_bad (vec_items c.loop-before.orders) (pieces c.args.text.now) (length c.loop-before.yielded) _ c.loop-before.invariant c.in-Some.line.now turn.0 turn.2 c.in-Err.ensures.0

pub loop-before-preserved : goal.loop-before-preserved
loop-before-preserved c =
    let turn = piece_turn c.loop-before.yielded c.loop-before.before-iterator c.loop-before.yielded_by c.next.result c.next.new.self (pieces c.args.text.now) (c.in-Some.before, c.in-Some.line) c.in-Some.is
    c.next.ensures.steps (numbers_of _ {split = c.split.result} c.args.text.now c.split.ensures.rest c.split.ensures.done c.split.ensures.closure (cc) (cc) (λ x b q k. search (rules, tests))) in
    let told = rw c.in-Ok-None.field-0-is at c.in-Ok-None.ensures in
    let more = orders_more (vec_items c.loop-before.orders) (pieces c.args.text.now) (length c.loop-before.yielded) _ c.loop-before.invariant c.in-Some.line.now [] turn.0 turn.2 told in
    rw length_push (rw append-nil at more)

pub returns : goal.returns
returns c =
    orders_end (vec_items c.loop-before.orders) (pieces c.args.text.now) (length c.loop-before.yielded) _ c.loop-before.invariant
    (piece_end c.loop-before.yielded c.loop-before.before-iterator c.loop-before.yielded_by c.next.result c.next.new.self (pieces c.args.text.now) c.in-None.is c.next.ensures.steps
    (numbers_of _ {split = c.split.result} c.args.text.now c.split.ensures.rest c.split.ensures.done c.split.ensures.closure (cc) (cc) (λ x b q k. search (rules, tests))))
