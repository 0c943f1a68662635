use Rattle.std.proofs.Common.{ap, not, ◌∙◌}
use Rattle.jl_scope.specs.Names.{arguments_name}
use Rattle.jl_value.specs.declared.object.ObjId.{ObjId}
use Rattle.jl_value.specs.declared.value.Value.TheVariants as value
use Rattle.jl_meaning.specs.Changes.{NewBinding}
use Rattle.jl_meaning.specs.Parts.{change_store}
use Rattle.jl_store.specs.Changes.{after}
use Rattle.jl_store.proofs.Chains.{comes_on}
use Rattle.jl_store.proofs.Steps.{comes_by}
use Rattle.jl_store.proofs.store.Store.bind_arguments.Goals as goal

pub returns : goal.returns
unfolding arguments_name
returns c =
    comes_on
    (λ (id : ObjId). change_store
    (NewBinding c.args.env (record { name = arguments_name; value = value.Obj id; mutable = not c.args.strict })))
    c.in_ok-id.ensures.made
    (comes_by _ (c.in_ok-new_binding.ensures.made
    ∙ ap (λ x. after (NewBinding c.args.env (record {
      name = x;
      value = value.Obj c.in_ok-id.id;
      mutable = not c.args.strict;
    }))
    c.create_arguments_object.new.self) c.in_ok-name.ensures))
