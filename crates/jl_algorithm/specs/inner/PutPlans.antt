-- How puts are done (8.12.5).
use Rattle.std.specs.Prelude.{[], false, true, ◌∷◌, Bool, None, Option, Some}
use Rattle.jl_value.specs.declared.object.ObjId.{ObjId}
use Rattle.jl_value.specs.declared.value.Value.{Value}
use Rattle.jl_value.specs.declared.value.Value.TheVariants as value
use Rattle.jl_heap.specs.Objects.{Name}
use Rattle.jl_heap.specs.declared.property.Prop.TheVariants.{Accessor, Plain}
use Rattle.jl_meaning.specs.Defining.{define_own_property, plain_change, value_change}
use Rattle.jl_meaning.specs.Parts.{call, give, ◌>>=◌, Algorithm}
use Rattle.jl_meaning.specs.Properties.{Property}
use Rattle.jl_store.specs.LookUps.{setter_of}
use Rattle.jl_algorithm.specs.declared.putting.PutPlan.{PutPlan}
use Rattle.jl_algorithm.specs.declared.putting.PutPlan.TheVariants.{Added, Called, Changed, Refused}

-- by what was found
abbrev pub way_found : Option Property → PutPlan
way_found (Some (true, Plain _ _ _ _)) = Changed
way_found (Some (_, Accessor _ (Some setter) _ _)) = Called setter
way_found _ = Added

abbrev pub plan_put : (can_put : Bool) → Option Property → PutPlan
plan_put true property = way_found property
plan_put false property = Refused

-- a put that is done so
abbrev pub put_by : ObjId → Name → Value → PutPlan → Algorithm Bool
put_by id x v Refused = give false
put_by id x v Changed = define_own_property id x (value_change v)
put_by id x v (Called setter) = do
  _ ← call setter (value.Obj id) (v ∷ [])
  give true
put_by id x v Added = define_own_property id x (plain_change v)

abbrev pub found_setter : Option Property → Option ObjId
found_setter (Some (_, p)) = setter_of p
found_setter None = None
