-- The values of expressions that are there at once: literals, `this`, and names that need no call (11.1.1 to 11.1.3).
use Rattle.std.specs.Option.{option_map_or}
use Rattle.std.specs.Prelude.{if◌then◌else◌, List, None, Option, Some, ℕ}
use Rattle.jl_ast.specs.Tree as tree
use Rattle.jl_value.specs.declared.value.Value.{Value}
use Rattle.jl_value.specs.declared.value.Value.TheVariants as value
use Rattle.jl_heap.specs.Objects.{Name}
use Rattle.jl_meaning.specs.Expressions.{this_of}
use Rattle.jl_meaning.specs.Intrinsics.{global_object}
use Rattle.jl_meaning.specs.Parts.{Context, Expr, Running}
use Rattle.jl_meaning.specs.References.{identifier_reference}
use Rattle.jl_meaning.specs.Store.{Store}
use Rattle.jl_meaning.specs.forms.Names.{is_hooks}
use Rattle.jl_store.specs.LookUps.{value_referred}
use Rattle.jl_state.specs.Words.{running}
use Rattle.jl_state.specs.declared.calls.Call.{Call}

-- what `this` is in the innermost of the calls (10.3, 11.1.1)
abbrev pub this_in : List Call → Value
this_in calls = option_map_or (λ (r : Running). r.this) (running calls) (value.Obj global_object)

-- the value of a name that is no hook's
abbrev pub value_of_name : Store → (env : ℕ) → Name → Option Value
value_of_name store env x = if is_hooks x then None else value_referred store x (identifier_reference store env x)

abbrev pub value_at_once : Store → Context → Expr → Option Value
value_at_once store c (tree.this id) = Some (this_of c)
value_at_once store c (tree.name x id) = value_of_name store c.env x
value_at_once store c (tree.number m id) = Some (value.Num m)
value_at_once store c (tree.string t id) = Some (value.Text t)
value_at_once store c (tree.boolean b id) = Some (value.Bool b)
value_at_once store c (tree.null id) = Some value.Null
value_at_once store c e = None
