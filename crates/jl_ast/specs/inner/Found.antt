use Rattle.std.specs.Prelude.{◌≡◌, List, map, ◌++◌}
use Rattle.jl_text.specs.declared.span.Span.{Span}
use Rattle.jl_ast.specs.declared.tree.Function.{Function}
use Rattle.jl_ast.specs.Tree.{Tree, func}
use Rattle.jl_ast.specs.View.{view_function}

-- what a walk has found grows by these functions, in their order
abbrev pub Adds : List (Tree Span func) → List Function → List Function → Type 0
Adds more old new = map view_function new ≡ map view_function old ++ more
