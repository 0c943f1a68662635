-- What is left of an algorithm when an object has been made.
use Rattle.std.specs.Prelude.{codes, false, if◌then◌else◌, length, true, Bool, List, Some, ℕ}
use Rattle.jl_value.specs.declared.object.Class.TheVariants as class
use Rattle.jl_value.specs.declared.object.ObjId.{ObjId}
use Rattle.jl_value.specs.declared.value.Value.{Value}
use Rattle.jl_value.specs.declared.value.Value.TheVariants as value
use Rattle.jl_heap.specs.Define.{length_name}
use Rattle.jl_heap.specs.declared.inner.Inner.TheVariants as inner
use Rattle.jl_heap.specs.declared.property.Prop.TheVariants.{Plain}
use Rattle.jl_meaning.specs.ArgumentsObject.{add_callee, add_elements}
use Rattle.jl_meaning.specs.FunctionObjects.{add_poison, whole}
use Rattle.jl_meaning.specs.Intrinsics.{object_prototype}
use Rattle.jl_meaning.specs.Parts.{add_property, give, new_object, ◌>>=◌, Algorithm}

abbrev pub function_with_prototype : (strict : Bool) → (f proto : ObjId) → Algorithm ObjId
function_with_prototype strict f proto = do
  _ ← add_property proto (codes "constructor") (Plain (value.Obj f) true false true)
  _ ← add_property f (codes "prototype") (Plain (value.Obj proto) true false false)
  _ ← (if strict then add_poison f else give tt)
  give f

abbrev pub function_alone : (strict : Bool) → (params : ℕ) → (f : ObjId) → Algorithm ObjId
function_alone strict params f = do
  _ ← add_property f length_name (Plain (whole params) false false false)
  proto ← new_object class.Object (Some object_prototype) inner.Nothing
  function_with_prototype strict f proto

abbrev pub arguments_alone : (strict : Bool) → (callee : ObjId) → List Value → (id : ObjId) → Algorithm ObjId
arguments_alone strict callee args id = do
  _ ← add_property id length_name (Plain (whole (length args)) true false true)
  _ ← add_elements id 0 args
  _ ← add_callee strict callee id
  give id
