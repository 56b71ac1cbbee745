-- What a host means besides what stands in it.
use Rattle.std.specs.Prelude.{ℕ, ◌+◌, ◌≤◌, min, Bool}
use Rattle.hosts.specs.declared.load.Load.{Load}

-- what no call alters
pub record Profile : Type 0 where
  -- the longest wait
  pub longest : ℕ
  -- changes and unbinds that leave a gap are refused
  pub watchful : Bool
  -- of a cloud 0, of a layer one more than of the host below it; the laws ask only that it is at most 255
  pub height : ℕ

-- what orders move, and what no call alters
pub record Service : Type 0 where
  pub load : Load
  pub profile : Profile

-- the law of hosts: waits are up to the longest wait, and the height is up to 255
pub record Sane (v : Service) : Type 0 where
  pub waits : v.load.waits ≤ v.profile.longest
  pub height : v.profile.height ≤ 255

-- the height over a host of the height h: one more, held at 255
abbrev pub above : ℕ → ℕ
above h = min (h + 1) 255
