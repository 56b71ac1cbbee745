-- The worked case of the file: it is read as the tables that mean the harbour.
use Rattle.std.proofs.lemmas.Bool.Decides.{nat_tests}
use Rattle.std.proofs.Common.{◌≡◌, ℕ, min, Ok, refl, ap, ◌∙◌, arith}
use Rattle.model.specs.Universe.{Universe, Valid}
use Rattle.model.specs.Config.{empty}
use Rattle.model.specs.Search.{any}
use Rattle.universe.specs.declared.tables.Tables.{Tables}
use Rattle.universe.specs.Sets.{field, has, has_from}
use Rattle.universe.specs.Packed.{rows}
use Rattle.universe.specs.Reading.{count_read, held_after, header_read, kind_read, many, state_read, tables_read, total}
use Rattle.universe.specs.Tables.{universe_of}
use Rattle.universe.proofs.PackedRead.{numbered, universe_same}
use Rattle.harbour.specs.Harbour.{harbour, harbour_file, harbour_tables}
use Rattle.cloud.specs.Cloud.{CloudState}
use Rattle.harbour.specs.Cases.{FileCases}
use Rattle.harbour.specs.Runs.{slow}

-- the harbour keeps to what every universe does
harbour_valid : Valid harbour
harbour_valid = record {
  types = omega arith;
  ports = omega arith;
  states = λ t l. grind (arith, nat_tests);
  provides = λ t q p e. grind (arith, nat_tests);
  requires = λ t q p e. grind (arith, nat_tests);
  next = λ t q n e. grind (arith, nat_tests);
  initial = λ t p. grind (arith, nat_tests);
  beyond = λ t l. grind (arith, nat_tests);
}

-- by computation
read : tables_read harbour_file ≡ Ok harbour_tables
unfolding tables_read header_read kind_read count_read state_read many total has has_from any
read = refl

-- by the law of packed forms, whose tables compute to these
means : universe_of harbour_tables ≡ harbour
unfolding field numbered
means = universe_same harbour harbour_valid

pub file_cases : FileCases
unfolding field rows
file_cases = record { form = refl; size = refl; read = read; means = means }

-- where the file is read into a place, the place means the harbour
pub read_means : (held before : Tables) → held ≡ held_after (tables_read harbour_file) before → universe_of held ≡ harbour
read_means held before is = ap universe_of (is ∙ ap (λ r. held_after r before) read) ∙ means

-- so a fresh cloud of it, with the delay of 2, is the slow one
pub slow_is : (u : Universe) (n : ℕ) (k : CloudState) → u ≡ harbour →
    k ≡ record { held = record { situation = record { universe = u; config = empty }; limits = record { instances = min n 256; bindings = 2048 } }; waits = 2; delay = 2 } →
    k ≡ slow (min n 256)
slow_is u n k is opened = opened ∙ ap (λ (v : Universe). record { held = record { situation = record { universe = v; config = empty }; limits = record { instances = min n 256; bindings = 2048 } }; waits = 2; delay = 2 }) is
