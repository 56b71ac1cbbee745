use Rattle.std.proofs.Common.{◌≡◌, take, Some}
use Rattle.text.specs.Written.{number_from}
use Rattle.text.proofs.parse_number.Given as goal

-- the digits up to here give the number
abbrev pub invariant-loop-digit : goal.invariant-loop-digit
invariant-loop-digit l = Some l.number ≡ number_from (Some 0) (take l.digit-index l.fn.digits)
