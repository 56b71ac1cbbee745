-- The text of a load.
use Rattle.std.specs.Prelude.{ℕ, List, ◌++◌, codes, decimal}
use Rattle.hosts.specs.declared.load.Load.{Load}

-- waits and allowances
abbrev pub load_text : Load → List ℕ
load_text l =
    codes "(waits " ++ (decimal l.waits ++ (codes ", creations " ++ (decimal l.creations ++ (codes ", bindings " ++ (decimal l.bindings ++ codes ")")))))
