-- What follows a property that has been defined.
use Rattle.std.proofs.Common.{◌≡◌, ◌∙◌, ℕ, true, ap, refl, subst, sym}
use Rattle.std.specs.Prelude.{None, Option, Some, option_map}
use Rattle.jl_value.specs.declared.object.ObjId.{ObjId}
use Rattle.jl_heap.specs.Define as heaps
use Rattle.jl_heap.specs.Objects.{Name}
use Rattle.jl_heap.specs.declared.property.Change.{Change}
use Rattle.jl_heap.specs.declared.property.Defined.{Defined}
use Rattle.jl_heap.specs.declared.property.Defined.TheVariants.{Done}
use Rattle.jl_effects.specs.Running.{Ends}
use Rattle.jl_meaning.specs.Changes.{DefineProperty}
use Rattle.jl_meaning.specs.Defining.{define_with_number, is_done, update_mapping, update_mapping_if}
use Rattle.jl_meaning.specs.Parts.{gives}
use Rattle.jl_meaning.specs.Properties.{mapped_parameter}
use Rattle.jl_meaning.specs.Store.{Store}
use Rattle.jl_store.specs.Changes.{after}
use Rattle.jl_store.specs.BigStep.{refines, BigStep}
use Rattle.jl_store.specs.Defining.{remapped_if, remapping_of}
use Rattle.jl_store.specs.declared.defining.Remapping.{Remapping}
use Rattle.jl_store.proofs.Chains.{comes_after}
use Rattle.jl_store.proofs.Steps.{comes_to}

same_mapping : (id : ObjId) (x : Name) (change : Change) (p : Option (ℕ × Name))
    → update_mapping id x change p ≡ remapped_if id x (option_map (remapping_of change) p)
same_mapping id x change None = refl
same_mapping id x change (Some p) = refl

pub done_comes : (id : ObjId) (x : Name) (change : Change) (s t u : Store) (r : Option Remapping) (d : Defined)
    → t ≡ after (DefineProperty id x change) s → d ≡ (heaps.define_own_property s.heap id.0 x change).1 → d ≡ Done
    → option_map (remapping_of change) (mapped_parameter s id.0 x) ≡ r
    → BigStep (remapped_if id x r) t u (Ends (gives tt))
    → BigStep (define_with_number id x change) s u (Ends (gives true))
done_comes id x change s t u r d made is done mapping comes =
    let p = mapped_parameter s id.0 x in
    let same : update_mapping id x change p ≡ remapped_if id x r =
    same_mapping id x change p ∙ ap (remapped_if id x) mapping in
    let updated : BigStep (update_mapping id x change p) t u (Ends (gives tt)) =
    subst (λ q. BigStep q t u (Ends (gives tt))) (sym same) comes in
    let all : refines (update_mapping_if true id x change p) t u (Ends (gives true)) =
    (comes_after updated comes_to).refines in
    let truth : true ≡ is_done (heaps.define_own_property s.heap id.0 x change).1 = ap is_done (sym done ∙ is) in
    record {
      refines =
          subst (λ b. refines (update_mapping_if b id x change p) (after (DefineProperty id x change) s) u
          (Ends (gives true)))
          truth
          (subst (λ v. refines (update_mapping_if true id x change p) v u (Ends (gives true))) made all);
    }
