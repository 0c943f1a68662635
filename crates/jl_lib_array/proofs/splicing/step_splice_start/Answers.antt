use Rattle.std.proofs.Common.{ap, sym, ◌∙◌, List}
use Rattle.std.proofs.lemmas.Result.{IfOk-weaker}
use Rattle.std.specs.Prelude.{slice_index_or}
use Rattle.jl_value.specs.declared.value.Value.{Value}
use Rattle.jl_value.specs.declared.value.Value.TheVariants as value
use Rattle.jl_meaning.specs.Conversions.{integer_of}
use Rattle.jl_meaning.specs.builtins.Elements.{relative_index}
use Rattle.jl_progress.specs.Arrays.{splice_from}
use Rattle.jl_builtin.proofs.Waits.{number_outside}
use Rattle.jl_lib_array.proofs.Spliced.{splices_count}
use Rattle.jl_lib_array.proofs.splicing.step_splice_start.Goals as goal

pub returns-in_default-clause-refines : goal.returns-in_default-clause-refines
returns-in_default-clause-refines c =
    number_outside _ c.args.p.now _
    (λ n. splice_from c.args.object c.args.array c.args.length (relative_index (integer_of n) c.args.length)
    c.args.args)
    c.number_of_primitive.ensures c.in_default.is

pub returns-clause-refines : goal.returns-clause-refines
returns-clause-refines c =
    IfOk-weaker _ _ _ (λ a refines. splices_count _ _ _ c.args.object c.args.array c.args.length c.args.args
    c.args.p.now
    c.in-Some.n _ _ (sym c.in-Some.is ∙ c.number_of_primitive.ensures) c.relative_index-start.ensures
    (c.in_ok-count.ensures ∙ ap (λ (l : List Value). slice_index_or l 1 value.Undefined) c.items.ensures) refines)
    c.wait_for_number.ensures.refines
