-- How puts are done.
use Rattle.std.proofs.Common.{◌≡◌, refl, false, true, ◌&&◌, Bool, None, Option, Some}
use Rattle.jl_value.specs.declared.object.ObjId.{ObjId}
use Rattle.jl_value.specs.declared.value.Value.{Value}
use Rattle.jl_heap.specs.Objects.{Name}
use Rattle.jl_heap.specs.declared.property.Prop.{Prop}
use Rattle.jl_heap.specs.declared.property.Prop.TheVariants.{Accessor, Plain}
use Rattle.jl_meaning.specs.Properties.{Property}
use Rattle.jl_meaning.specs.Putting.{put_if}
use Rattle.jl_store.specs.LookUps.{is_data, setter_of}
use Rattle.jl_algorithm.specs.declared.putting.PutPlan.TheVariants.{Added, Called, Changed}
use Rattle.jl_algorithm.specs.inner.PutPlans.{put_by, way_found, plan_put}

pub way_called : (own : Bool) (p : Prop) (setter : ObjId) → setter_of p ≡ Some setter
    → Called setter ≡ way_found (Some (own, p))
way_called own (Plain _ _ _ _) setter e = absurd (let differ = e in cc)
way_called own (Accessor _ None _ _) setter e = absurd (let differ = e in cc)
way_called true (Accessor _ (Some s) _ _) setter e = let same = e in cc
way_called false (Accessor _ (Some s) _ _) setter e = let same = e in cc

pub way_changed : (own : Bool) (p : Prop) → own ≡ true → is_data p ≡ true → Changed ≡ way_found (Some (own, p))
way_changed true (Plain _ _ _ _) e f = refl
way_changed false (Plain _ _ _ _) e f = absurd (let differ = e in cc)
way_changed own (Accessor _ _ _ _) e f = absurd (let differ = f in cc)

pub way_added : (own : Bool) (p : Prop) → setter_of p ≡ None → (own && is_data p) ≡ false
    → Added ≡ way_found (Some (own, p))
way_added true (Plain _ _ _ _) e f = absurd (let differ = f in cc)
way_added false (Plain _ _ _ _) e f = refl
way_added true (Accessor _ None _ _) e f = refl
way_added false (Accessor _ None _ _) e f = refl
way_added own (Accessor _ (Some s) _ _) e f = absurd (let differ = e in cc)

-- the put that is done so is the one of the language
pub way_is : (can_put : Bool) (id : ObjId) (x : Name) (v : Value) (property : Option Property)
    → put_if can_put id x v property ≡ put_by id x v (plan_put can_put property)
way_is false id x v property = refl
way_is true id x v None = refl
way_is true id x v (Some (true, Plain _ _ _ _)) = refl
way_is true id x v (Some (false, Plain _ _ _ _)) = refl
way_is true id x v (Some (true, Accessor _ None _ _)) = refl
way_is true id x v (Some (false, Accessor _ None _ _)) = refl
way_is true id x v (Some (true, Accessor _ (Some s) _ _)) = refl
way_is true id x v (Some (false, Accessor _ (Some s) _ _)) = refl

pub ruleset ways = (way_called, way_changed, way_added)
