-- Heights of layers. Assumes nothing.
use Rattle.std.proofs.Common.{ℕ, ◌≤◌, Ok, Err, arith}
use Rattle.hosts.specs.Service.{above}
use Rattle.hosts.specs.Answers.{Answer, UpTo}

-- a refusal from below comes from a lower layer
pub up_to : (h : ℕ) (r : Answer) → h ≤ 255 → UpTo h r → UpTo (above h) r
up_to h (Ok x) l u = tt
up_to h (Err e) l u = omega arith
