-- The turns of the loop over the lines of a script.
use Rattle.std.proofs.Common.{◌≡◌, ℕ, suc, ◌+◌, ◌<◌, ◌≤◌, cond, ◌||◌, List, [], ◌++◌, true, false, length, get_or, drop, is_err, Ok, Err, Result, sym, ap, ◌∙◌, add-one}
use Rattle.std.proofs.lemmas.List.{at_drop_more, at_drop_all, append-nil, append_assoc}
use Rattle.model.specs.declared.order.Order.{Order}
use Rattle.lines.specs.declared.refusal.LineRefusal.{LineRefusal}
use Rattle.lines.specs.Line.{decoded}
use Rattle.console.specs.Told.{report}
use Rattle.scripts.specs.Scripts.{line_text, order_at, lines_text, lines_refused}

-- what is printed from a place on, and whether a line is refused there
unfoldable pub report_on : List ℕ → ℕ → List ℕ → Result (List ℕ) (List ℕ)
report_on before i xs = report (lines_refused xs) (before ++ lines_text i xs)

-- before the first line nothing is printed
pub report_start : (text xs : List ℕ) → text ≡ [] → report_on text 0 xs ≡ report (lines_refused xs) (lines_text 0 xs)
unfolding report_on
report_start text xs e = rw e

module _ (before xs : List ℕ) (i : ℕ) (all : Result (List ℕ) (List ℕ)) (so_far : report_on before i (drop i xs) ≡ all) where
  -- by the answer of the line there
  report_step : (o : Result Order LineRefusal) → i < length xs → o ≡ decoded (get_or xs i 0)
      → report (is_err o || lines_refused (drop (i + 1) xs)) (before ++ (line_text i o ++ cond (is_err o) [] (lines_text (i + 1) (drop (i + 1) xs)))) ≡ all
  unfolding lines_text lines_refused report_on order_at
  report_step o h e =
      sym (at_drop_more (report_on before i) xs i 0 h
      ∙ ap (λ p. report (is_err p || lines_refused (drop (i + 1) xs)) (before ++ (line_text i p ++ cond (is_err p) [] (lines_text (suc i) (drop (i + 1) xs))))) (sym e)
      ∙ ap (λ k. report (is_err o || lines_refused (drop (i + 1) xs)) (before ++ (line_text i o ++ cond (is_err o) [] (lines_text k (drop (i + 1) xs))))) (sym (add-one i)))
      ∙ so_far

  -- what is printed of the line goes behind what was printed before it
  module _ (o : Result Order LineRefusal) (row text : List ℕ) (told : row ≡ line_text i o) (pushed : text ≡ before ++ row) (e : o ≡ decoded (get_or xs i 0)) (h : i < length xs) where
    said : text ≡ before ++ line_text i o
    said = pushed ∙ ap (λ r. before ++ r) told

    -- a line that tells an order, and the rest follows
    pub report_more : is_err o ≡ false → report_on text (i + 1) (drop (i + 1) xs) ≡ all
    unfolding report_on
    report_more good =
        ap (λ t. report_on t (i + 1) (drop (i + 1) xs)) said
        ∙ ap (report (lines_refused (drop (i + 1) xs))) (append_assoc before (line_text i o) (lines_text (i + 1) (drop (i + 1) xs)))
        ∙ (let step = report_step o h e in rw good at step)

    -- a refused line is the last
    pub report_last : is_err o ≡ true → Err text ≡ all
    report_last bad = ap Err (said ∙ ap (λ r. before ++ r) (sym (append-nil (line_text i o)))) ∙ (let step = report_step o h e in rw bad at step)

  -- behind the last line nothing is printed
  pub report_end : length xs ≤ i → Ok before ≡ all
  unfolding lines_text lines_refused report_on
  report_end h = sym (at_drop_all (report_on before i) xs i h ∙ ap Ok (append-nil before)) ∙ so_far
