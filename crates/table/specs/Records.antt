-- The configuration of records, and what the work of an order on them asks.
use Rattle.std.specs.Prelude.{◌≡◌, ◌<◌, true, false}
use Rattle.model.specs.declared.order.Order.{Order}
use Rattle.model.specs.declared.order.Order.TheVariants.{Create, Bind, Change, Unbind, Delete}
use Rattle.model.specs.Config.{Config, stands}
use Rattle.model.specs.Counts.{bindings}
use Rattle.table.specs.declared.records.Records.{Records}
use Rattle.table.specs.Fit.{config}

-- the configuration that the records stand for
abbrev pub config_of : Records → Config
config_of t = config t.slots t.rows t.len

-- what the work of an order asks: numbers in range, room, and what it makes or ends not there or there
abbrev pub Able : Config → Order → Type 0
Able c (Create z t) = (z < 256) × (t < 256) × (stands (c.inst z) ≡ false)
Able c (Bind b) = (b.port < 32) × (b.provider < 256) × (b.requirer < 256) × (c.bound b.port b.provider b.requirer ≡ false) × (bindings 32 256 c < 2048)
Able c (Change z q) = (z < 256) × (q < 256)
Able c (Unbind b) = (b.port < 32) × (b.provider < 256) × (b.requirer < 256) × (c.bound b.port b.provider b.requirer ≡ true)
Able c (Delete z) = (z < 256) × (stands (c.inst z) ≡ true)
