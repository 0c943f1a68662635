-- The rows of the map of a script that stands in a source.
use Rattle.std.specs.Prelude.{All, List, ℕ}
use Rattle.jl_ast.specs.Tree.{Program}
use Rattle.jl_op.specs.IdMap.{id_map}
use Rattle.jl_op.specs.Map.{BeginsIn}
use Rattle.jl_text.specs.Places.{line_table}
use Rattle.jl_text.specs.declared.span.Span.{Span}

-- the part that each of them shows begins in a source of these units
abbrev pub RowsBeginIn : (units : List ℕ) → Program Span → Type 0
RowsBeginIn units p = All (BeginsIn (line_table units)) (id_map p)
