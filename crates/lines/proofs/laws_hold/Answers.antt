use Rattle.lines.proofs.Coding.{round_trip, lines_bounded}
use Rattle.lines.proofs.laws_hold.Goals as goal

pub returns : goal.returns
returns c = record { trip = round_trip; bounded = lines_bounded }
