-- A tile as text: `tile`, the column, the row, the plan and the level of sample 0, with tabs between them.
use Rattle.std.specs.Prelude.{ℕ, List, ◌++◌, pos, codes, decimal, slice_index_or}
use Rattle.std.specs.Fmt.{signed_decimal}
use Rattle.tile.specs.declared.record.Tile.{Tile}

abbrev pub tile_text : Tile → List ℕ
tile_text t =
    codes "tile\t" ++ (decimal t.column ++ (codes "\t" ++ (decimal t.row ++ (codes "\t" ++ (decimal t.plan ++ (codes "\t"
    ++ signed_decimal (slice_index_or t.levels 0 (pos 0))))))))
