-- Boolean (15.6): the constructor, and the functions of its prototype.
use Rattle.std.specs.Prelude.{[], ◌∷◌, Bool, List, None, Option, Some}
use Rattle.jl_value.specs.declared.builtin_groups.BooleanBuiltin.{BooleanBuiltin}
use Rattle.jl_value.specs.declared.builtin_groups.BooleanBuiltin.TheVariants as boolean_builtin
use Rattle.jl_value.specs.declared.object.Class.{Class}
use Rattle.jl_value.specs.declared.object.Class.TheVariants as class
use Rattle.jl_value.specs.declared.value.Value.{Value}
use Rattle.jl_value.specs.declared.value.Value.TheVariants as value
use Rattle.jl_conv.specs.Conversions.{text_of_value, truth_of}
use Rattle.jl_heap.specs.Objects.{object_at, Objects}
use Rattle.jl_heap.specs.declared.inner.Inner.{Inner}
use Rattle.jl_heap.specs.declared.inner.Inner.TheVariants as inner
use Rattle.jl_meaning.specs.Intrinsics.{boolean_prototype}
use Rattle.jl_meaning.specs.Parts.{look, ◌>>=◌, Algorithm, Call}
use Rattle.jl_meaning.specs.Relations.{give_truth}
use Rattle.jl_meaning.specs.builtins.Arguments.{argument, give_string, need_receiver, value_or_object}

-- Boolean(value) and new Boolean(value) (15.6.1.1, 15.6.2.1)
abbrev pub boolean_constructor : Call → Algorithm Value
boolean_constructor c = value_or_object c.by_new class.Boolean boolean_prototype (value.Bool (truth_of (argument c 0)))

-- the Boolean that a Boolean object stands for
abbrev pub boolean_inside : Class → Inner → Option Bool
boolean_inside class.Boolean (inner.Wrapped (value.Bool b)) = Some b
boolean_inside _ i = None

abbrev pub boolean_of_receiver : Objects → Value → Option Bool
boolean_of_receiver heap (value.Bool b) = Some b
boolean_of_receiver heap (value.Obj id) = boolean_inside (object_at heap id.0).class (object_at heap id.0).inner
boolean_of_receiver heap v = None

abbrev pub boolean_of_this : Call → Algorithm Bool
boolean_of_this c = do
  store ← look
  need_receiver (boolean_of_receiver store.heap c.this)

-- Boolean.prototype.toString() (15.6.4.2)
abbrev pub boolean_to_string : Call → Algorithm Value
boolean_to_string c = do
  b ← boolean_of_this c
  give_string (text_of_value (value.Bool b))

-- Boolean.prototype.valueOf() (15.6.4.3)
abbrev pub boolean_value_of : Call → Algorithm Value
boolean_value_of c = do
  b ← boolean_of_this c
  give_truth b

-- what a call of each does
abbrev pub boolean_algorithm : BooleanBuiltin → Call → Algorithm Value
boolean_algorithm boolean_builtin.Constructor c = boolean_constructor c
boolean_algorithm boolean_builtin.ToString c = boolean_to_string c
boolean_algorithm boolean_builtin.ValueOf c = boolean_value_of c
