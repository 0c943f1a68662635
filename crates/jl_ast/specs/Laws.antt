-- What the definitions of height, numbering and places have to do with one another.
use Rattle.std.specs.Prelude.{◌≡◌, map}
use Rattle.std.specs.List.{range_with_len}
use Rattle.jl_text.specs.declared.span.Span.{Span}
use Rattle.jl_ast.specs.Tree.{Program}
use Rattle.jl_ast.specs.Spans.{without_spans}
use Rattle.jl_ast.specs.Height.{program_height}
use Rattle.jl_ast.specs.Numbering.{functions_in, with_numbers}
use Rattle.jl_ast.specs.Table.{table, number_of}

-- a program is as high without its places
abbrev pub PlacesKeepHeights : Type 0
PlacesKeepHeights = (p : Program Span) → program_height (without_spans p) ≡ program_height p

-- a program is as high however its functions are numbered
abbrev pub NumbersKeepHeights : Type 0
NumbersKeepHeights = (p : Program Span) → program_height (with_numbers p) ≡ program_height p

-- a program gets the same numbers without its places
abbrev pub PlacesKeepNumbers : Type 0
PlacesKeepNumbers = (p : Program Span) → with_numbers (without_spans p) ≡ without_spans (with_numbers p)

-- the functions of a numbered program have the numbers 0, 1, 2 and so on, in the order of the table
abbrev pub NumbersCountTheTable : Type 0
NumbersCountTheTable =
    (p : Program Span) → map number_of (table (with_numbers p)) ≡ range_with_len 0 (functions_in p.body)
