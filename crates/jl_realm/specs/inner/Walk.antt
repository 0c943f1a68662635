-- The functions in a tree of the code, and what a walk adds to those that it has found.
use Rattle.std.specs.Prelude.{◌≡◌, ◌++◌, Bool, List}
use Rattle.jl_text.specs.declared.span.Span.{Span}
use Rattle.jl_ast.specs.Tree.{Forest, OptionalTree, Sort, Tree}
use Rattle.jl_meaning.specs.FunctionObjects.{FunctionTable}
use Rattle.jl_meaning.specs.FunctionTable.{forest_functions, functions_in, optional_functions}
use Rattle.jl_state.specs.Trees.{plain, plain_forest, plain_optional}
use Rattle.jl_state.specs.Words.{table_of}
use Rattle.jl_state.specs.declared.script_function.ScriptFunction.{ScriptFunction}

-- the functions in a tree by number, inside code that is strict or not
abbrev pub functions_of : {x : Sort} → (strict : Bool) → Tree Span x → FunctionTable
functions_of strict t = functions_in strict (plain t)

abbrev pub functions_of_list : {x : Sort} → (strict : Bool) → Forest Span x → FunctionTable
functions_of_list strict l = forest_functions strict (plain_forest l)

abbrev pub functions_of_optional : {x : Sort} → (strict : Bool) → OptionalTree Span x → FunctionTable
functions_of_optional strict o = optional_functions strict (plain_optional o)

-- what a walk has found grows by these functions, in their order
abbrev pub Adds : FunctionTable → List ScriptFunction → List ScriptFunction → Type 0
Adds more old new = table_of new ≡ table_of old ++ more
