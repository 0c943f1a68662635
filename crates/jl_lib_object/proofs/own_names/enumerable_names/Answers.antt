use Rattle.std.proofs.Common.{◌∙◌, ap}
use Rattle.std.specs.Prelude.{filter}
use Rattle.jl_meaning.specs.builtins.Descriptors.{has_enumerable}
use Rattle.jl_lib_object.proofs.own_names.enumerable_names.Goals as goal

pub returns : goal.returns
returns c =
    c.in_ok-names.ensures
    ∙ ap (filter (has_enumerable c.args.store.now c.args.id.0)) (c.items.ensures ∙ c.in_ok-all.ensures)
