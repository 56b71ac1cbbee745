-- What is printed of a run.
use Rattle.std.specs.Prelude.{ℕ, ◌+◌, Bool, true, false, not, List, [], ◌∷◌, ◌++◌, Some, None, Ok, Err, Option, Result, codes, decimal}
use Rattle.model.specs.declared.order.Order.{Order}
use Rattle.model.specs.Written.{written}
use Rattle.hosts.specs.Refusals.{refusal_text}
use Rattle.hosts.specs.Survey.{Situation, bindings_of, has_gap, instances_of}
use Rattle.hosting.specs.Hosting.{stands_text_of}
use Rattle.executor.specs.declared.fault.StepFault.{StepFault}
use Rattle.executor.specs.declared.fault.StepFault.TheVariants.{NoLine, Refused}
use Rattle.executor.specs.Refusals.{fault_number}
use Rattle.runs.specs.declared.request.Ran.{Ran}

-- the line of a step that was done: its place, and the order in its written form; a step without an order is never done
abbrev pub done_line_of : ℕ → Option Order → List ℕ
done_line_of place (Some o) = decimal place ++ (codes " " ++ (written o ++ codes ": done\n"))
done_line_of place None = decimal place ++ codes ": done\n"

-- the line of a step at the place, where these orders are at the places: it was done, no line was left, or the host refused
-- the order
abbrev pub step_line : (ℕ → Option Order) → ℕ → Result (Unit {0}) StepFault → List ℕ
step_line orders place (Ok x) = done_line_of place (orders place)
step_line orders place (Err NoLine) = decimal place ++ (codes ": refused " ++ (decimal (fault_number NoLine) ++ codes "\n"))
step_line orders place (Err (Refused i o e)) =
    decimal i ++ (codes " " ++ (written o ++ (codes ": refused " ++ (refusal_text e ++ codes "\n"))))

-- the line of an answer, if there is one
abbrev pub answer_text : (ℕ → Option Order) → ℕ → Option (Result (Unit {0}) StepFault) → List ℕ
answer_text orders place (Some r) = step_line orders place r
answer_text orders place None = []

-- the place after an answer: one further where the step was done
abbrev pub place_after : ℕ → Option (Result (Unit {0}) StepFault) → ℕ
place_after place (Some (Ok x)) = place + 1
place_after place (Some (Err e)) = place
place_after place None = place

-- the lines of answers, one after the other, from a place on
unfoldable pub answers_text : (ℕ → Option Order) → ℕ → List (Option (Result (Unit {0}) StepFault)) → List ℕ
answers_text orders place [] = []
answers_text orders place (r ∷ rs) = answer_text orders place r ++ answers_text orders (place_after place r) rs

-- of a goal, whether it is met
abbrev pub met_text : Option Bool → List ℕ
met_text None = []
met_text (Some true) = codes ", goal met"
met_text (Some false) = codes ", goal not met"

-- where a run was finished, and its leases
abbrev pub finish_text : Ran → List ℕ
finish_text r = codes "place " ++ (decimal r.place ++ (codes " of " ++ (decimal r.lines ++ (codes ", leases " ++ decimal r.leases))))

-- the last line
abbrev pub end_line_of : Ran → ℕ → ℕ → Bool → Option Bool → List ℕ
end_line_of r instances bindings gap_free met =
    finish_text r ++ (codes ", " ++ (stands_text_of instances bindings gap_free ++ (met_text met ++ codes "\n")))

-- the same for what a survey tells
abbrev pub survey_line : Situation → Ran → Option Bool → List ℕ
survey_line s r met = end_line_of r (instances_of s) (bindings_of s) (not (has_gap s)) met
