use Rattle.std.proofs.Common.{◌/◌, ◌^◌}
use Rattle.std.proofs.lemmas.Nat.{and_mask, one_shl}
use Rattle.lines.proofs.fields.bits.Goals as goal

pub returns : goal.returns
returns c = rw (one_shl c.args.width 32 c.requires.1, and_mask (c.args.line / 2 ^ c.args.place) c.args.width)
