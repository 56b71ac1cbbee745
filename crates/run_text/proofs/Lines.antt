-- The lines of answers, one after the other. Assumes nothing.
use Rattle.std.proofs.Common.{◌≡◌, ℕ, ◌+◌, ◌<◌, List, ◌++◌, length, drop, get_or, None, Option, Result, sym, ap, ◌∙◌, append_assoc}
use Rattle.std.proofs.Math.Seq.{drop-length}
use Rattle.std.proofs.lemmas.List.{append-nil, drop_more}
use Rattle.model.specs.declared.order.Order.{Order}
use Rattle.executor.specs.declared.fault.StepFault.{StepFault}
use Rattle.run_text.specs.Texts.{answer_text, answers_text, place_after}

module _ (orders : ℕ → Option Order) (answers : List (Option (Result (Unit {0}) StepFault))) where
  -- what is told so far, and what is then to tell, is all that is to tell
  abbrev pub Telling : List ℕ → ℕ → ℕ → Type 0
  Telling text place i = text ++ answers_text orders place (drop i answers) ≡ answers_text orders 0 answers

  -- one more is told
  pub told_more : (text line : List ℕ) (place i : ℕ) (r : Option (Result (Unit {0}) StepFault)) → i < length answers → get_or answers i None ≡ r →
      Telling text place i → line ≡ answer_text orders place r → Telling (text ++ line) (place_after place r) (i + 1)
  unfolding answers_text
  told_more text line place i r low is t e =
      let next = drop_more answers i None low in
      append_assoc text line (answers_text orders (place_after place r) (drop (i + 1) answers))
      ∙ ap (λ bs. text ++ (bs ++ answers_text orders (place_after place r) (drop (i + 1) answers))) e
      ∙ ap (λ q. text ++ (answer_text orders place q ++ answers_text orders (place_after place q) (drop (i + 1) answers))) (sym is)
      ∙ ap (λ rs. text ++ answers_text orders place rs) (sym next)
      ∙ t

  -- all is told at the end
  pub told_all : (text : List ℕ) (place : ℕ) → Telling text place (length answers) → text ≡ answers_text orders 0 answers
  unfolding answers_text
  told_all text place t =
      sym (append-nil text) ∙ ap (λ rs. text ++ answers_text orders place rs) (sym (drop-length answers)) ∙ t
