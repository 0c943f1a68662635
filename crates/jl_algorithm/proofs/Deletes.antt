-- Properties that are deleted.
use Rattle.std.proofs.Common.{◌≡◌, subst, codes, false, true, Bool}
use Rattle.std.specs.Prelude.{if◌then◌else◌, is_some, ◌&&◌}
use Rattle.jl_value.specs.declared.error_kind.ErrorKind.TheVariants.{TypeError}
use Rattle.jl_value.specs.declared.object.ObjId.{ObjId}
use Rattle.jl_value.specs.declared.value.Value.{Value}
use Rattle.jl_value.specs.declared.value.Value.TheVariants as value
use Rattle.jl_heap.specs.Objects.{delete_property, Name}
use Rattle.jl_effects.specs.Running.{Ends}
use Rattle.jl_meaning.specs.Changes.{DeleteProperty}
use Rattle.jl_meaning.specs.Errors.{require}
use Rattle.jl_meaning.specs.Parts.{give, gives, throws, ◌>>=◌}
use Rattle.jl_meaning.specs.Properties.{mapped_parameter}
use Rattle.jl_meaning.specs.Putting.{delete, delete_on, delete_stored, end_mapping_if}
use Rattle.jl_meaning.specs.Store.{Store}
use Rattle.jl_store.specs.Answers.{MakesError}
use Rattle.jl_store.specs.Changes.{after}
use Rattle.jl_store.specs.BigStep.{BigStep}
use Rattle.jl_store.proofs.Chains.{comes_after, comes_on, comes_thrown, error_comes}
use Rattle.jl_store.proofs.Steps.{comes_changed, comes_to}

-- the property is deleted, and its mapping ends where there is one
pub comes_deleted : (s t u : Store) (id : ObjId) (x : Name) (free mapped : Bool)
    → free ≡ (delete_property s.heap id.0 x).1 → mapped ≡ is_some (mapped_parameter s id.0 x)
    → t ≡ after (DeleteProperty id x) s → BigStep (end_mapping_if (free && mapped) id x) t u (Ends (gives tt))
    → BigStep (delete_on (value.Obj id) x) s u (Ends (gives free))
comes_deleted s t u id x free mapped is_free is_mapped made ends = record {
  refines = (subst (λ (f : Bool).
      BigStep (delete_stored f (is_some (mapped_parameter s id.0 x)) id x) s u (Ends (gives free))) is_free
      (subst (λ (m : Bool). BigStep (delete_stored free m id x) s u (Ends (gives free))) is_mapped
      (comes_changed (DeleteProperty id x) made (comes_after ends comes_to)))).refines;
}

-- a property that stays, where that throws
pub throws_kept : (s t u : Store) (throwing : Bool) (base : Value) (x message : Name) (free : Bool) (v : Value)
    → throwing ≡ true → free ≡ false → message ≡ codes "cannot delete"
    → BigStep (delete_on base x) s t (Ends (gives free)) → MakesError TypeError message t u v
    → BigStep (delete throwing base x) s u (Ends (throws v))
unfolding delete
throws_kept s t u throwing base x message free v throws_so stays named comes makes =
    comes_on (λ b. require (if throwing then b else true) (codes "cannot delete") >>= λ _. give b) comes
    (rest throwing free throws_so stays)
  where
    rest : (throwing free : Bool) → throwing ≡ true → free ≡ false
        → BigStep (require (if throwing then free else true) (codes "cannot delete") >>= λ _. give free) t u
        (Ends (throws v))
    rest true false e f =
        comes_thrown (λ _. give false)
        (error_comes (subst (λ (m : Name). MakesError TypeError m t u v) named makes))
    rest false free e f = absurd (let differ = e in cc)
    rest true true e f = absurd (let differ = f in cc)
