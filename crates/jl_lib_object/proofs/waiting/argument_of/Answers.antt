use Rattle.std.proofs.Common.{◌∙◌, ap}
use Rattle.std.specs.Prelude.{slice_index_or}
use Rattle.jl_value.specs.declared.value.Value.TheVariants as value
use Rattle.jl_lib_object.proofs.waiting.argument_of.Goals as goal

pub returns : goal.returns
returns c = c.in_ok-v.ensures ∙ ap (λ l. slice_index_or l c.args.index value.Undefined) c.items.ensures
