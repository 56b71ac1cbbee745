-- A file is accepted exactly if it is the packed form of a universe.
use Rattle.std.proofs.Common.{◌≡◌, ℕ, List, [], ◌∷◌, Ok, Err, sym, refl, ap, ◌∙◌, arith}
use Rattle.universe.specs.declared.refusal.UniverseRefusal.{UniverseRefusal}
use Rattle.universe.specs.declared.tables.Tables.{Tables}
use Rattle.universe.specs.Tables.{Sound, tables_of_least, universe_of}
use Rattle.universe.specs.Reading.{tables_read, header_read, kind_read, count_read, state_read, many, total}
use Rattle.universe.specs.Sets.{has, has_from}
use Rattle.model.specs.Search.{any}
use Rattle.universe.specs.Packed.{FormOf, FormOfNone}
use Rattle.universe.proofs.Checked.{read_sound}
use Rattle.universe.proofs.Eaches.{ok_same}
use Rattle.universe.proofs.PackedBack.{Bytes, packed_back}
use Rattle.universe.proofs.PackedRead.{packed_read, universe_same}

-- what is accepted is the packed form of what was read, and of no other universe
pub accepted : (bs : List ℕ) (held : Tables) → Bytes bs → tables_read bs ≡ Ok held → FormOf bs held
accepted bs held b r =
    record {
      valid = (read_sound bs held r).valid;
      form = packed_back bs held b r;
      only = λ u v e. ap universe_of (ok_same held _ (sym r ∙ (ap tables_read e ∙ packed_read u v))) ∙ universe_same u v;
    }

-- what is refused is the packed form of no universe
pub refused : (bs : List ℕ) (d : UniverseRefusal) → tables_read bs ≡ Err d → FormOfNone bs
refused bs d r u v e =
    let read = ap tables_read e ∙ packed_read u v in
    let z : ◌≡◌ {A = ℕ} 0 1 = cc in
    omega arith

-- the least universe is valid: its packed form is read
pub least_sound : Sound tables_of_least
unfolding tables_read header_read kind_read count_read state_read many total has has_from any
least_sound = read_sound (8 ∷ 0 ∷ 16 ∷ 0 ∷ 0 ∷ 0 ∷ 0 ∷ 0 ∷ 0 ∷ 0 ∷ 0 ∷ 0 ∷ []) tables_of_least refl
