-- Getting the value of a property (8.7.1, 8.12.3), and what can be called (8.6.2).
use Rattle.std.specs.Prelude.{[], false, true, Bool, None, Option, Some}
use Rattle.jl_value.specs.declared.value.Value.{Value}
use Rattle.jl_value.specs.declared.value.Value.TheVariants as value
use Rattle.jl_heap.specs.Objects.{object_at, Name, Objects}
use Rattle.jl_heap.specs.declared.inner.Inner.{Inner}
use Rattle.jl_heap.specs.declared.inner.Inner.TheVariants as inner
use Rattle.jl_heap.specs.declared.property.Prop.TheVariants.{Accessor, Plain}
use Rattle.jl_meaning.specs.Parts.{call, give, look, ◌>>=◌, Algorithm}
use Rattle.jl_meaning.specs.Properties.{property_of_value, Property}

-- whether an object with this inner part has [[Call]]
abbrev pub has_call : Inner → Bool
has_call (inner.Script function env) = true
has_call (inner.Native builtin) = true
has_call (inner.Bound target this args) = true
has_call _ = false

-- IsCallable (9.11)
abbrev pub is_callable : Objects → Value → Bool
is_callable heap (value.Obj id) = has_call (object_at heap id.0).inner
is_callable heap _ = false

-- the value of a property, which a getter gives for `this` (8.12.3)
abbrev pub value_of_property : (this : Value) → Option Property → Algorithm Value
value_of_property this None = give value.Undefined
value_of_property this (Some (_, Plain v _ _ _)) = give v
value_of_property this (Some (_, Accessor None _ _ _)) = give value.Undefined
value_of_property this (Some (_, Accessor (Some getter) _ _ _)) = call getter this []

-- [[Get]] (8.12.3), and that of a base that is no object (8.7.1). That of functions and of arguments objects is the
-- same, also of `caller` (15.3.5.4, 10.6).
unfoldable pub get : (base : Value) → Name → Algorithm Value
get base x = do
  store ← look
  value_of_property base (property_of_value store base x)
