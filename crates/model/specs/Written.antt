-- The written form of bindings and orders.
use Rattle.std.specs.Prelude.{ℕ, List, ◌++◌, codes, decimal}
use Rattle.model.specs.declared.binding.Binding.{Binding}
use Rattle.model.specs.declared.order.Order.{Order}
use Rattle.model.specs.declared.order.Order.TheVariants.{Create, Bind, Change, Unbind, Delete}

-- two numbers with a blank between them
abbrev pub pair_text : ℕ → ℕ → List ℕ
pair_text a b = decimal a ++ (codes " " ++ decimal b)

-- a binding: its port, its provider and its requirer, with blanks between them
abbrev pub binding_text : Binding → List ℕ
binding_text b = decimal b.port ++ (codes " " ++ pair_text b.provider b.requirer)

-- an order: its letter and its numbers, with blanks between them
abbrev pub written : Order → List ℕ
written (Create z t) = codes "c " ++ pair_text z t
written (Bind b) = codes "b " ++ binding_text b
written (Change z q) = codes "s " ++ pair_text z q
written (Unbind b) = codes "u " ++ binding_text b
written (Delete z) = codes "d " ++ decimal z
