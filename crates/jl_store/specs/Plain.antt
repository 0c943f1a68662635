-- Trees of the code as a run sees them that records no operations of its own: without the places of their nodes.
use Rattle.std.specs.Prelude.{map, None, Bool, List, ℕ}
use Rattle.jl_ast.specs.Spans.{map_forest, map_tree}
use Rattle.jl_ast.specs.Tree as tree
use Rattle.jl_ast.specs.Tree.{Forest}
use Rattle.jl_ast.specs.View.{view_body, view_function, view_functions}
use Rattle.jl_ast.specs.declared.tree.Body.{Body}
use Rattle.jl_ast.specs.declared.tree.Function.{Function}
use Rattle.jl_ast.specs.declared.tree.Ident.{Ident}
use Rattle.jl_heap.specs.Objects.{Name}
use Rattle.jl_meaning.specs.Parts.{Code, Context, Func}

abbrev pub plain_function : Function → Func
plain_function f = map_tree (λ s. 0) (view_function f)

abbrev pub plain_functions : List Function → Forest ℕ tree.func
plain_functions fs = map_forest (λ s. 0) (view_functions fs)

abbrev pub plain_code : Body → Code
plain_code b = map_tree (λ s. 0) (view_body b)

abbrev pub names_of : List Ident → List Name
names_of xs = map (λ (x : Ident). x.text) xs

-- where code of no call in particular runs
abbrev pub code_in : (env : ℕ) → (strict : Bool) → Context
code_in env strict = record { env = env; strict = strict; call = None }
