-- A mast as text: `mast`, the number and the name, with tabs between them.
use Rattle.std.specs.Prelude.{ℕ, List, ◌++◌, codes, decimal}
use Rattle.mast.specs.Masts.{name_of}
use Rattle.mast.specs.declared.record.Mast.{Mast}

abbrev pub mast_text : Mast → List ℕ
mast_text m = codes "mast\t" ++ (decimal m.number ++ (codes "\t" ++ name_of m))
