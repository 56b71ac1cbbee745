-- Worked cases.
use Rattle.std.specs.Prelude.{◌≡◌, length, Ok, Err}
use Rattle.model.specs.declared.order.Order.TheVariants.{Create, Bind, Unbind}
use Rattle.lines.specs.declared.refusal.LineRefusal.TheVariants.{NotALine}
use Rattle.universe.specs.Packed.{packed_form}
use Rattle.universe.specs.Reading.{tables_read}
use Rattle.universe.specs.Tables.{universe_of}
use Rattle.plans.specs.Plan.{binding}
use Rattle.harbour.specs.Harbour.{harbour, harbour_file, harbour_tables}
use Rattle.harbour.specs.Plans.{PlanCases}
use Rattle.harbour.specs.Checks.{CheckCases}
use Rattle.harbour.specs.Runs.{RunCases}
use Rattle.lines.specs.Line.{encoded, decoded}

-- lines of orders, and numbers that are no lines
pub record LineCases : Type 0 where
  -- the instance 1 of the type 1 is created
  pub create : encoded (Create 1 1) ≡ Ok 0x20200010
  pub created : decoded 0x20200010 ≡ Ok (Create 1 1)
  -- on the port 1 the instance 1 is bound to the instance 2
  pub bind : encoded (Bind (binding 1 1 2)) ≡ Ok 0x40204100
  pub bound : decoded 0x40204100 ≡ Ok (Bind (binding 1 1 2))
  -- on the port 0 the instance 0 is unbound from the instance 2
  pub unbind : encoded (Unbind (binding 0 0 2)) ≡ Ok 0x80004000
  pub unbound : decoded 0x80004000 ≡ Ok (Unbind (binding 0 0 2))
  -- the line of the create with the spare bit set is none
  pub spare : decoded 0x20200011 ≡ Err NotALine
  -- 0 is no operation
  pub zero : decoded 0x00000000 ≡ Err NotALine

-- the file of the harbour universe is its packed form, and has 68 bytes
pub record FileCases : Type 0 where
  pub form : packed_form harbour ≡ harbour_file
  pub size : length harbour_file ≡ 68
  -- it is read as these tables
  pub read : tables_read harbour_file ≡ Ok harbour_tables
  -- which mean the harbour universe
  pub means : universe_of harbour_tables ≡ harbour

-- all worked cases, jointly
pub record HarbourCases : Type 0 where
  pub file : FileCases
  pub lines : LineCases
  pub plans : PlanCases
  pub checks : CheckCases
  pub runs : RunCases
