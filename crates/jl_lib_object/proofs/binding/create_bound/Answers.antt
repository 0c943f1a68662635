use Rattle.std.proofs.Common.{◌∙◌, ap, false, refl}
use Rattle.jl_heap.specs.Define.{length_name}
use Rattle.jl_heap.specs.declared.property.Prop.TheVariants.{Plain}
use Rattle.jl_scope.specs.Names.{arguments_name}
use Rattle.jl_meaning.specs.FunctionObjects.{add_poison, whole}
use Rattle.jl_meaning.specs.Parts.{add_property, give, ◌>>=◌}
use Rattle.jl_meaning.specs.builtins.Function.{bound_length}
use Rattle.jl_store.proofs.Chains.{comes_after}
use Rattle.jl_store.proofs.Fresh.{is_free, names_added, names_new}
use Rattle.jl_store.proofs.Steps.{comes_added, comes_new, comes_to}
use Rattle.jl_lib_object.proofs.binding.create_bound.Goals as goal

pub add_property-requires : goal.add_property-requires
add_property-requires c =
    is_free _ refl (names_new _ _ _ _ _ _ c.in_ok-id.ensures.next c.in_ok-id.ensures.made refl) refl

pub add_poison-requires-clause-caller : goal.add_poison-requires-clause-caller
add_poison-requires-clause-caller c =
    let new = names_new _ _ _ _ _ _ c.in_ok-id.ensures.next c.in_ok-id.ensures.made refl in
    is_free _ refl (names_added _ _ _ c.in_ok-name.ensures c.in_ok-add_property.ensures.made new) refl

pub add_poison-requires-clause-arguments : goal.add_poison-requires-clause-arguments
unfolding arguments_name
add_poison-requires-clause-arguments c =
    let new = names_new _ _ _ _ _ _ c.in_ok-id.ensures.next c.in_ok-id.ensures.made refl in
    is_free _ refl (names_added _ _ _ c.in_ok-name.ensures c.in_ok-add_property.ensures.made new) refl

pub returns : goal.returns
unfolding length_name
returns c =
    let heap = c.args.store.now.heap in
    record {
      refines = (comes_new _ _ _ c.in_ok-id.id (λ id. add_property id length_name
          (Plain (whole (bound_length heap c.args.target c.args.args)) false false false)
          >>= λ _. add_poison id >>= λ _. give id) c.in_ok-id.ensures.next c.in_ok-id.ensures.made
          (comes_added c.in_ok-id.id c.in_ok-name.ensures
          (c.constant_property.ensures ∙ ap (λ v. Plain v false false false) (c.in_ok-length.ensures
          ∙ ap whole (c.in_ok-bound_length.ensures ∙ ap (λ l. bound_length heap c.args.target l) c.items.ensures)))
          c.in_ok-add_property.ensures.made (comes_after c.in_ok-add_poison.ensures.made comes_to))).refines;
    }
