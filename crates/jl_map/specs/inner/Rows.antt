-- How many rows a map can take, and the rows of parts that may not be there.
use Rattle.std.specs.Prelude.{[], ◌+◌, ◌<◌, ◌^◌, ◌∷◌, length, List, ℕ}
use Rattle.jl_text.specs.declared.span.Span.{Span}
use Rattle.jl_ast.specs.Spans.{place}
use Rattle.jl_ast.specs.Tree.{absent, catch, expr, handler, present, OptionalTree}
use Rattle.jl_op.specs.IdMap.{MapEntries}
use Rattle.jl_op.specs.Map.{MapRow}
use Rattle.jl_op.specs.declared.kind.OpKind.TheVariants as kind

-- so many rows more fit a map
abbrev pub HasRoom : List MapRow → (count : ℕ) → Type 0
HasRoom rows count = length rows + count < 2 ^ 32

-- a test, if it is there
abbrev pub tested_entries : OptionalTree Span expr → MapEntries Span
tested_entries absent = []
tested_entries (present e) = (kind.Conditional, place e) ∷ []

-- a name that is caught, if there is one
abbrev pub caught_entries : OptionalTree Span handler → MapEntries Span
caught_entries absent = []
caught_entries (present (catch x l)) = (kind.Catch, x.at) ∷ []
