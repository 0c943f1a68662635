-- The arguments object (10.6).
use Rattle.std.specs.Prelude.{[], codes, false, if◌then◌else◌, length, take, true, ◌+◌, ◌∷◌, Bool, List, None, Option}
use Rattle.std.specs.Prelude.{Some, ℕ}
use Rattle.jl_scope.specs.Names.{among}
use Rattle.jl_value.specs.declared.object.Class.TheVariants as class
use Rattle.jl_value.specs.declared.object.ObjId.{ObjId}
use Rattle.jl_value.specs.declared.value.Value.{Value}
use Rattle.jl_value.specs.declared.value.Value.TheVariants as value
use Rattle.jl_heap.specs.Define.{length_name}
use Rattle.jl_heap.specs.Objects.{Name}
use Rattle.jl_heap.specs.declared.inner.Inner.{Inner}
use Rattle.jl_heap.specs.declared.inner.Inner.TheVariants as inner
use Rattle.jl_heap.specs.declared.property.Prop.TheVariants.{Plain}
use Rattle.jl_meaning.specs.FunctionObjects.{thrower_property, whole}
use Rattle.jl_meaning.specs.Intrinsics.{object_prototype}
use Rattle.jl_meaning.specs.Parts.{add_property, give, new_object, ◌>>=◌, Algorithm}
use Rattle.jl_meaning.specs.forms.Literals.{index_name}

-- the parameters that the indices of the arguments are mapped to: an index whose name stands at a later index too is
-- mapped to none (step 11)
abbrev pub mapped_names : List Name → List (Option Name)
mapped_names [] = []
mapped_names (x ∷ xs) = (if among x xs then None else Some x) ∷ mapped_names xs

-- in code that isn't strict the indices of arguments that were given are mapped
abbrev pub mapping : (strict : Bool) → (env : ℕ) → List Name → List Value → Inner
mapping true env params args = inner.Nothing
mapping false env params args = inner.Mapped env (mapped_names (take (length args) params))

-- the arguments at their indices, from one on
abbrev pub add_elements : ObjId → (index : ℕ) → List Value → Algorithm (Unit {0})
add_elements id index [] = give tt
add_elements id index (v ∷ vs) = do
  _ ← add_property id (index_name index) (Plain v true true true)
  add_elements id (index + 1) vs

-- `callee`, and in strict code what throws in its place (steps 13 and 14)
abbrev pub add_callee : (strict : Bool) → (callee : ObjId) → ObjId → Algorithm (Unit {0})
add_callee false callee id = add_property id (codes "callee") (Plain (value.Obj callee) true false true)
add_callee true callee id = do
  _ ← add_property id (codes "caller") thrower_property
  add_property id (codes "callee") thrower_property

-- CreateArgumentsObject (10.6)
unfoldable pub create_arguments_object : (strict : Bool) → (callee : ObjId) → (env : ℕ) → List Name → List Value
    → Algorithm ObjId
create_arguments_object strict callee env params args = do
  id ← new_object class.Arguments (Some object_prototype) (mapping strict env params args)
  _ ← add_property id length_name (Plain (whole (length args)) true false true)
  _ ← add_elements id 0 args
  _ ← add_callee strict callee id
  give id
