use Rattle.std.proofs.Common.{ap, ◌∙◌, List}
use Rattle.std.proofs.lemmas.Result.{IfOk-weaker}
use Rattle.std.specs.Prelude.{slice_index_or}
use Rattle.jl_value.specs.declared.value.Value.{Value}
use Rattle.jl_value.specs.declared.value.Value.TheVariants as value
use Rattle.jl_lib_array.proofs.Spliced.{splices_start}
use Rattle.jl_lib_array.proofs.splicing.splice.Goals as goal

pub returns-clause-refines : goal.returns-clause-refines
returns-clause-refines c =
    IfOk-weaker _ _ _ (λ a refines. splices_start _ _ _ c.args.object c.args.array c.args.length c.args.args _
    (c.in_ok-start.ensures ∙ ap (λ (l : List Value). slice_index_or l 0 value.Undefined) c.items.ensures) refines)
    c.wait_for_number.ensures.refines
