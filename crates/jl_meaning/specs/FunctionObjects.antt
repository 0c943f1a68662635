-- The functions of a script, and function objects (clause 13, 13.2).
use Rattle.std.specs.Prelude.{codes, false, if◌then◌else◌, is_some, length, map, option_map, pos, slice_get, true}
use Rattle.std.specs.Prelude.{Bool, List, None, Option, Some, ℕ}
use Rattle.jl_ast.specs.Table.{table}
use Rattle.jl_ast.specs.Table as functions
use Rattle.jl_ast.specs.Tree as tree
use Rattle.jl_scope.specs.Hoisting.{strict_in}
use Rattle.jl_scope.specs.Mentions.{mentions}
use Rattle.jl_scope.specs.Names.{arguments_name}
use Rattle.jl_value.specs.BuiltinPlaces.{bound}
use Rattle.jl_value.specs.Builtins.{entry_of}
use Rattle.jl_value.specs.declared.builtin.Builtin.{Builtin}
use Rattle.jl_value.specs.declared.object.Class.TheVariants as class
use Rattle.jl_value.specs.declared.object.ObjId.{ObjId}
use Rattle.jl_value.specs.declared.value.Value.{Value}
use Rattle.jl_value.specs.declared.value.Value.TheVariants as value
use Rattle.jl_heap.specs.Define.{length_name}
use Rattle.jl_heap.specs.Objects.{Name}
use Rattle.jl_heap.specs.declared.inner.Inner.{Inner}
use Rattle.jl_heap.specs.declared.inner.Inner.TheVariants as inner
use Rattle.jl_heap.specs.declared.property.Prop.{Prop}
use Rattle.jl_heap.specs.declared.property.Prop.TheVariants.{Accessor, Plain}
use Rattle.jl_op.specs.declared.callee.Callee.{Callee}
use Rattle.jl_op.specs.declared.callee.Callee.TheVariants as callee
use Rattle.jl_meaning.specs.Changes.{NewBinding, NewEnvironment}
use Rattle.jl_meaning.specs.Intrinsics.{function_prototype, object_prototype, thrower}
use Rattle.jl_meaning.specs.Parts.{add_property, change_store, give, look, new_object, ◌>>=◌, Algorithm, Code, Func}
use Rattle.jl_meaning.specs.Store.{next_environment}

-- a function of the script, and whether it is strict code
pub record ScriptFunction : Type 0 where
  pub func : Func
  pub strict : Bool

-- the functions of a script by number
abbrev pub FunctionTable : Type 0
FunctionTable = List ScriptFunction

abbrev pub function_body : Func → Code
function_body (tree.function number name params b id) = b

abbrev pub function_params : Func → List Name
function_params (tree.function number name params b id) = map (λ (x : tree.Ident ℕ). x.text) params

abbrev pub function_name : Func → Option Name
function_name (tree.function number name params b id) = option_map (λ (x : tree.Ident ℕ). x.text) name

-- the id with which it tells that it is entered; the next one tells that it is left
abbrev pub function_id : Func → ℕ
function_id (tree.function number name params b id) = id

-- whether a function is strict code (10.1.1), in code that is strict or not
abbrev pub is_strict : (outer : Bool) → Func → Bool
is_strict outer f = strict_in outer (function_body f)

abbrev pub whole : ℕ → Value
whole n = value.Num (Some (pos n))

-- a property that throws a TypeError when it is got or put (13.2.3)
abbrev pub thrower_property : Prop
thrower_property = Accessor (Some thrower) (Some thrower) false false

-- the two of a strict function (13.2, step 19), and of one that `bind` makes (15.3.4.5, steps 20 and 21)
abbrev pub add_poison : ObjId → Algorithm (Unit {0})
add_poison f = do
  _ ← add_property f (codes "caller") thrower_property
  add_property f arguments_name thrower_property

-- Creating Function Objects (13.2): a function object for a function in an environment, with its length, and with a
-- prototype whose constructor it is
unfoldable pub create_function : (strict : Bool) → (number params env : ℕ) → Algorithm ObjId
create_function strict number params env = do
  f ← new_object class.Function (Some function_prototype) (inner.Script number env)
  _ ← add_property f length_name (Plain (whole params) false false false)
  proto ← new_object class.Object (Some object_prototype) inner.Nothing
  _ ← add_property proto (codes "constructor") (Plain (value.Obj f) true false true)
  _ ← add_property f (codes "prototype") (Plain (value.Obj proto) true false false)
  _ ← (if strict then add_poison f else give tt)
  give f

-- that of a function of the script, in code that is strict or not
abbrev pub make_function : (outer_strict : Bool) → (env : ℕ) → Func → Algorithm ObjId
make_function outer env f = create_function (is_strict outer f) (functions.number_of f) (length (function_params f)) env

-- that of a function expression with a name has an environment in which the name is bound, and can't be changed
-- (clause 13)
abbrev pub make_named : (outer_strict : Bool) → (env : ℕ) → Func → Option Name → Algorithm ObjId
make_named outer env f None = make_function outer env f
make_named outer env f (Some x) = do
  store ← look
  _ ← change_store (NewEnvironment env)
  id ← make_function outer (next_environment store) f
  _ ← change_store (NewBinding (next_environment store) (record { name = x; value = value.Obj id; mutable = false }))
  give id

unfoldable pub make_function_expression : (outer_strict : Bool) → (env : ℕ) → Func → Algorithm ObjId
make_function_expression outer env f = make_named outer env f (function_name f)

-- the number of the function of the script that an object is, if it is one
abbrev pub script_number : Inner → Option ℕ
script_number (inner.Script number env) = Some number
script_number _ = None

-- how many parameters a function has, and whether its body mentions `arguments`
abbrev pub script_callee : ℕ → Option ScriptFunction → Callee
script_callee number (Some f) =
    callee.Script number (length (function_params f.func)) (mentions arguments_name (function_body f.func))
script_callee number None = callee.Script number 0 false

-- what operations tell of a function
unfoldable pub callee_of : FunctionTable → Inner → Callee
callee_of table (inner.Script number env) = script_callee number (slice_get table number)
callee_of table (inner.Native b) = callee.Native b
callee_of table _ = callee.Native bound

-- whether a builtin constructs (clause 15): its entry then has the prototype of what it constructs
abbrev pub is_constructor : Builtin → Bool
is_constructor b = is_some (entry_of b).prototype

-- whether an object with this inner part has [[Construct]] (8.6.2)
abbrev pub has_construct : Inner → Bool
has_construct (inner.Script function env) = true
has_construct (inner.Native b) = is_constructor b
has_construct (inner.Bound target this args) = true
has_construct _ = false
