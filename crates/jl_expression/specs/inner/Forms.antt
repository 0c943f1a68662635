-- What stands where a form looks at the tree of its part.
use Rattle.std.specs.Prelude.{false, true, Bool}
use Rattle.jl_ast.specs.Tree as tree
use Rattle.jl_meaning.specs.Parts.{Expr}

-- an expression that is neither a member nor a call
abbrev pub is_value : Expr → Bool
is_value (tree.dot o k s) = false
is_value (tree.index o k s) = false
is_value (tree.call f l s) = false
is_value _ = true

-- an expression that is a name
abbrev pub is_name : Expr → Bool
is_name (tree.name x s) = true
is_name _ = false
