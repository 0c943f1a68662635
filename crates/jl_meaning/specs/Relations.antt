-- What the relational and the equality operators do with their operands (11.8, 11.9).
use Rattle.std.specs.Option.{option_map_or}
use Rattle.std.specs.Prelude.{codes, false, if◌then◌else◌, nat_lt, not, suc, zero, ◌==◌, ◌||◌, Bool, None}
use Rattle.std.specs.Prelude.{Option, Some, ℕ}
use Rattle.jl_value.specs.Tests.{is_nothing, is_object}
use Rattle.jl_value.specs.declared.object.ObjId.{ObjId}
use Rattle.jl_value.specs.declared.value.Value.{Value}
use Rattle.jl_value.specs.declared.value.Value.TheVariants as value
use Rattle.jl_conv.specs.Comparisons.{less_than, loosely_equal}
use Rattle.jl_heap.specs.Objects.{object_at, Objects}
use Rattle.jl_heap.specs.declared.inner.Inner.{Inner}
use Rattle.jl_heap.specs.declared.inner.Inner.TheVariants as inner
use Rattle.jl_meaning.specs.Conversions.{no_hint, number_hint, to_primitive, to_string}
use Rattle.jl_meaning.specs.Errors.{throw_type_error}
use Rattle.jl_meaning.specs.Getting.{get, has_call}
use Rattle.jl_meaning.specs.Parts.{give, look, or_fault, ◌>>=◌, Algorithm, NumberOutside}
use Rattle.jl_meaning.specs.Properties.{has_property}

abbrev pub give_truth : Bool → Algorithm Value
give_truth b = give (value.Bool b)

-- a relation where a number is NaN, which is false
abbrev pub or_false : Option Bool → Bool
or_false r = option_map_or (λ b. b) r false

-- the negation of a relation, which is false too where a number is NaN
abbrev pub opposite : Option Bool → Bool
opposite r = option_map_or not r false

-- the primitive values of both operands, the left one first, are compared (11.8.5)
abbrev pub compare_primitives : (Value → Value → Option (Option Bool)) → (Option Bool → Bool) → Value → Value
    → Algorithm Value
compare_primitives test outcome a b = do
  x ← to_primitive number_hint a
  y ← to_primitive number_hint b
  r ← or_fault NumberOutside (test x y)
  give_truth (outcome r)

-- a < b (11.8.1)
abbrev pub less : Value → Value → Algorithm Value
less a b = compare_primitives (λ x y. less_than x y) or_false a b

-- a > b (11.8.2)
abbrev pub greater : Value → Value → Algorithm Value
greater a b = compare_primitives (λ x y. less_than y x) or_false a b

-- a <= b (11.8.3)
abbrev pub less_or_equal : Value → Value → Algorithm Value
less_or_equal a b = compare_primitives (λ x y. less_than y x) opposite a b

-- a >= b (11.8.4)
abbrev pub greater_or_equal : Value → Value → Algorithm Value
greater_or_equal a b = compare_primitives (λ x y. less_than x y) opposite a b

-- of values that are no objects, or objects both (11.9.3)
abbrev pub primitive_equality : Value → Value → Algorithm Bool
primitive_equality a b = or_fault NumberOutside (loosely_equal a b)

-- of an object and a value that is no object, the object is converted, unless the other is undefined or null
abbrev pub equality_of_object : (object other : Value) → Algorithm Bool
equality_of_object object other =
    if is_nothing other then give false
    else (do
      primitive ← to_primitive no_hint object
      primitive_equality primitive other)

-- a == b: the Abstract Equality Comparison Algorithm (11.9.3)
abbrev pub abstract_equality : Value → Value → Algorithm Bool
abstract_equality (value.Obj a) (value.Obj b) = give (a.0 == b.0)
abstract_equality (value.Obj a) b = equality_of_object (value.Obj a) b
abstract_equality a (value.Obj b) = equality_of_object (value.Obj b) a
abstract_equality a b = primitive_equality a b

abbrev pub negate_if : (negative : Bool) → Algorithm Bool → Algorithm Value
negate_if negative p = do
  b ← p
  give_truth (if negative then not b else b)

-- whether an object is among the prototypes of one, of which there are at most so many (15.3.5.3, step 4)
abbrev pub is_prototype_within : ℕ → Objects → (proto address : ℕ) → Bool
is_prototype_within zero heap proto address = false
is_prototype_within (suc more) heap proto address =
    option_map_or (λ p. p.0 == proto || is_prototype_within more heap proto p.0) (object_at heap address).proto false

abbrev pub is_prototype_of : Objects → (proto address : ℕ) → Bool
is_prototype_of heap proto address = is_prototype_within address heap proto address

-- a function, or of one that `bind` made its target, which stands at a smaller address; any other is none (15.3.4.5.3)
abbrev pub target_inside : (ObjId → Option ObjId) → ObjId → Inner → Option ObjId
target_inside go_on f (inner.Bound target this args) = if nat_lt target.0 f.0 then go_on target else None
target_inside go_on f i = if has_call i then Some f else None

abbrev pub target_within : ℕ → Objects → ObjId → Option ObjId
target_within zero heap f = target_inside (λ target. None) f (object_at heap f.0).inner
target_within (suc more) heap f = target_inside (λ target. target_within more heap target) f (object_at heap f.0).inner

-- whether the object is among the prototypes of the value (15.3.5.3, steps 3 and 4)
abbrev pub has_prototype : Objects → (v proto : Value) → Algorithm Value
has_prototype heap (value.Obj id) (value.Obj proto) = give_truth (is_prototype_of heap proto.0 id.0)
has_prototype heap v proto = throw_type_error (codes "not an object")

-- [[HasInstance]] (15.3.5.3)
abbrev pub has_instance : Option ObjId → Value → Algorithm Value
has_instance None v = throw_type_error (codes "not a function")
has_instance (Some f) v =
    if not (is_object v) then give_truth false
    else (do
      proto ← get (value.Obj f) (codes "prototype")
      store ← look
      has_prototype store.heap v proto)

-- a instanceof b (11.8.6)
abbrev pub instance_of : Value → Value → Algorithm Value
instance_of a (value.Obj f) = do
  store ← look
  has_instance (target_within f.0 store.heap f) a
instance_of a b = throw_type_error (codes "not a function")

-- a in b (11.8.7)
abbrev pub in_object : Value → Value → Algorithm Value
in_object a (value.Obj id) = do
  x ← to_string a
  store ← look
  give_truth (has_property store id.0 x)
in_object a b = throw_type_error (codes "not an object")
