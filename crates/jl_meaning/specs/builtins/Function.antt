-- Function (15.3): the functions of its prototype, what `bind` makes, and the thrower (13.2.3).
use Rattle.std.specs.Option.{unwrap_or}
use Rattle.std.specs.Prelude.{[], codes, drop, false, length, map, slice_index_or, ◌++◌, ◌-◌, ◌∷◌, List, None, Option}
use Rattle.std.specs.Prelude.{Some, ℕ}
use Rattle.jl_ast.specs.Table.{table}
use Rattle.jl_value.specs.declared.builtin.Builtin.TheVariants as builtin
use Rattle.jl_value.specs.declared.builtin_groups.FunctionBuiltin.{FunctionBuiltin}
use Rattle.jl_value.specs.declared.builtin_groups.FunctionBuiltin.TheVariants as function_builtin
use Rattle.jl_value.specs.BuiltinPlaces.{bound}
use Rattle.jl_value.specs.Builtins.{name_of}
use Rattle.jl_value.specs.declared.object.Class.{Class}
use Rattle.jl_value.specs.declared.object.Class.TheVariants as class
use Rattle.jl_value.specs.declared.object.ObjId.{ObjId}
use Rattle.jl_value.specs.declared.value.Value.{Value}
use Rattle.jl_value.specs.declared.value.Value.TheVariants as value
use Rattle.jl_heap.specs.Define.{length_name}
use Rattle.jl_heap.specs.Define as heaps
use Rattle.jl_heap.specs.Objects.{object_at, own, Name, Objects}
use Rattle.jl_heap.specs.declared.inner.Inner.{Inner}
use Rattle.jl_heap.specs.declared.inner.Inner.TheVariants as inner
use Rattle.jl_heap.specs.declared.property.Prop.TheVariants.{Plain}
use Rattle.jl_effects.specs.Effects.{Fail}
use Rattle.jl_meaning.specs.Errors.{string_within, throw_type_error}
use Rattle.jl_meaning.specs.FunctionObjects.{add_poison, function_name, whole, FunctionTable, ScriptFunction}
use Rattle.jl_meaning.specs.Intrinsics.{function_prototype}
use Rattle.jl_meaning.specs.Parts.{add_property, call, give, look, new_object, ◌>>=◌, Algorithm, Call, CodeFromText}
use Rattle.jl_meaning.specs.Realm.{last_part}
use Rattle.jl_meaning.specs.builtins.Arguments.{argument, give_object, give_string, need_function, need_object}
use Rattle.jl_meaning.specs.builtins.Arguments.{need_receiver, unsupported}
use Rattle.jl_meaning.specs.builtins.Elements.{get_index, get_length}
use Rattle.jl_meaning.specs.builtins.Turns.{upward}

-- the names of the functions of a script, by number
abbrev pub FunctionNames : Type 0
FunctionNames = List (Option Name)

abbrev pub names_of : FunctionTable → FunctionNames
names_of table = map (λ (f : ScriptFunction). function_name f.func) table

-- Function(..) and new Function(..) (15.3.1.1, 15.3.2.1) would make code of a string
abbrev pub function_constructor : Call → Algorithm Value
function_constructor c = Fail CodeFromText

-- Function.prototype(..) (15.3.4)
abbrev pub function_prototype_call : Call → Algorithm Value
function_prototype_call c = give value.Undefined

-- the name of a function with this inner part: that of a builtin is the last part of its path
abbrev pub name_inside : FunctionNames → Inner → Name
name_inside names (inner.Script number env) = unwrap_or (slice_index_or names number None) []
name_inside names (inner.Native b) = last_part (name_of b)
name_inside names (inner.Bound target this args) = last_part (name_of bound)
name_inside names i = []

-- the inner part of an object of class Function
abbrev pub function_inside : Class → Inner → Option Inner
function_inside class.Function i = Some i
function_inside _ i = None

abbrev pub inner_of_function : Objects → Value → Option Inner
inner_of_function heap (value.Obj id) = function_inside (object_at heap id.0).class (object_at heap id.0).inner
inner_of_function heap v = None

-- Function.prototype.toString() (15.3.4.2)
abbrev pub function_to_string : FunctionNames → Call → Algorithm Value
function_to_string names c = do
  store ← look
  i ← need_receiver (inner_of_function store.heap c.this)
  units ← string_within (codes "function " ++ name_inside names i ++ codes "() { [code] }")
  give_string units

-- after those so far the element at an index (15.3.4.3, step 8)
abbrev pub append_element : ObjId → ℕ → (so_far : List Value) → Algorithm (List Value)
append_element id k so_far = do
  v ← get_index id k
  give (so_far ++ v ∷ [])

-- the arguments that a list has (15.3.4.3, steps 2 to 8)
abbrev pub arguments_in : Value → Algorithm (List Value)
arguments_in value.Undefined = give []
arguments_in value.Null = give []
arguments_in v = do
  id ← need_object v
  n ← get_length id
  upward (append_element id) n 0 []

-- Function.prototype.apply(thisArg, argArray) (15.3.4.3)
abbrev pub function_apply : Call → Algorithm Value
function_apply c = do
  f ← need_function c.this
  args ← arguments_in (argument c 1)
  call f (argument c 0) args

-- Function.prototype.call(thisArg, arg1, ..) (15.3.4.4)
abbrev pub function_call : Call → Algorithm Value
function_call c = do
  f ← need_function c.this
  call f (argument c 0) (drop 1 c.args)

-- the length of a function that `bind` makes: that of the target without the arguments that are there, and not below 0
-- (15.3.4.5, steps 15 and 16); the target's own length is a plain property that never changes
abbrev pub bound_length : Objects → (target : ObjId) → List Value → ℕ
bound_length heap target args = heaps.length_of (own heap target.0 length_name) - length args

-- a function that calls another with this `this` and these arguments before those of the call (15.3.4.5)
abbrev pub create_bound : (target : ObjId) → (this : Value) → List Value → Algorithm ObjId
create_bound target this args = do
  store ← look
  id ← new_object class.Function (Some function_prototype) (inner.Bound target this args)
  _ ← add_property id length_name (Plain (whole (bound_length store.heap target args)) false false false)
  _ ← add_poison id
  give id

-- Function.prototype.bind(thisArg, arg1, ..) (15.3.4.5)
abbrev pub function_bind : Call → Algorithm Value
function_bind c = do
  target ← need_function c.this
  id ← create_bound target (argument c 0) (drop 1 c.args)
  give_object id

-- [[ThrowTypeError]] (13.2.3)
abbrev pub throw_forbidden : Call → Algorithm Value
throw_forbidden c = throw_type_error (codes "forbidden")

-- what a call of each does
abbrev pub function_algorithm : FunctionNames → FunctionBuiltin → Call → Algorithm Value
function_algorithm names function_builtin.Constructor c = function_constructor c
function_algorithm names function_builtin.Prototype c = function_prototype_call c
function_algorithm names function_builtin.ToString c = function_to_string names c
function_algorithm names function_builtin.Apply c = function_apply c
function_algorithm names function_builtin.Call c = function_call c
function_algorithm names function_builtin.Bind c = function_bind c
function_algorithm names function_builtin.Bound c = unsupported (builtin.Function function_builtin.Bound) c
function_algorithm names function_builtin.Thrower c = throw_forbidden c
