-- What the command `check` prints.
use Rattle.std.specs.Prelude.{ℕ, List, ◌++◌, length, Ok, Err, Result, codes, decimal}
use Rattle.universe.specs.declared.tables.Tables.{Tables}
use Rattle.universe.specs.Reading.{Read}
use Rattle.universe.specs.Refusals.{universe_number}
use Rattle.universe.specs.Tables.{universe_of}
use Rattle.checking.specs.declared.refusal.CheckRefusal.{CheckRefusal}
use Rattle.checking.specs.Judging.{judged}
use Rattle.checking.specs.Refusals.{check_text}
use Rattle.console.specs.Refused.{refused_line_of}

-- the line of an answer: so many lines pass, or the refusal
abbrev pub answer_line_of : ℕ → Result (Unit {0}) CheckRefusal → Result (List ℕ) (List ℕ)
answer_line_of n (Ok _) = Ok (codes "passes, " ++ (decimal n ++ codes " lines\n"))
answer_line_of n (Err e) = Err (codes "refused " ++ (check_text e ++ codes "\n"))

-- what is printed of lines in the universe of a file: the judgement of the lines, or the refusal of the universe
abbrev pub check_report_of : List ℕ → Read Tables → Result (List ℕ) (List ℕ)
check_report_of xs (Ok held) = answer_line_of (length xs) (judged (universe_of held) xs)
check_report_of xs (Err e) = Err (refused_line_of (universe_number e))
