-- The numbers of the refusals of a universe file.
use Rattle.std.specs.Prelude.{ℕ}
use Rattle.universe.specs.declared.refusal.UniverseRefusal.{UniverseRefusal}
use Rattle.universe.specs.declared.refusal.UniverseRefusal.TheVariants.{Length, Count, ZeroBit, Port, Successor, InitialState}

abbrev pub universe_number : UniverseRefusal → ℕ
universe_number Length = 1
universe_number Count = 2
universe_number ZeroBit = 3
universe_number Port = 4
universe_number Successor = 5
universe_number InitialState = 6
