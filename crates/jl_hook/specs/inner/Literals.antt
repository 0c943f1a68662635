-- What an expression is where a call of a hook is looked for.
use Rattle.std.specs.Prelude.{false, if◌then◌else◌, nat_lt, pos, Bool, None, Option, Some, ℕ}
use Rattle.jl_num.specs.Number.{Number}
use Rattle.jl_ast.specs.Tree as tree
use Rattle.jl_meaning.specs.Parts.{Expr}
use Rattle.jl_meaning.specs.forms.Names.{is_hooks}
use Rattle.jl_state.specs.declared.hook.HookId.{HookId}

abbrev pub number_in : Expr → Option Number
number_in (tree.number m s) = Some m
number_in _ = None

abbrev pub text_in : Expr → Option tree.Text
text_in (tree.string t s) = Some t
text_in _ = None

-- an expression is the object with the hooks
abbrev pub is_hooks_object : Expr → Bool
is_hooks_object (tree.name x s) = is_hooks x
is_hooks_object _ = false

-- the id that a number is
abbrev pub id_of : Number → Option ℕ
id_of (Some (pos n)) = if nat_lt n 4294967294 then Some n else None
id_of _ = None

abbrev pub id_seen : HookId → ℕ
id_seen h = h.id
