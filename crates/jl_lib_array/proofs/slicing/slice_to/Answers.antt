use Rattle.std.proofs.Common.{refl, sym, ◌-◌, ◌∙◌}
use Rattle.std.proofs.lemmas.Result.{IfOk-weaker}
use Rattle.jl_meaning.specs.builtins.Elements.{relative_index}
use Rattle.jl_progress.specs.ArrayCalls.{copy_from}
use Rattle.jl_progress.specs.declared.array_call.ArrayCallProgress.TheVariants as array_call
use Rattle.jl_progress.specs.declared.progress.Progress.TheVariants as progress
use Rattle.jl_builtin.proofs.Waits.{integer_waits}
use Rattle.jl_lib_array.proofs.Slices.{converts_end, ends_with_length}
use Rattle.jl_lib_array.proofs.slicing.slice_to.Goals as goal

pub returns-then-is_undefined-clause-refines : goal.returns-then-is_undefined-clause-refines
returns-then-is_undefined-clause-refines c =
    IfOk-weaker _ _ _ (λ a refines. ends_with_length _ c.args.object c.args.array c.args.length c.args.start c.args.end
    _
    _ (sym c.is_undefined.ensures ∙ c.if-is_undefined.true) refines) c.begin_copy.ensures.refines

pub returns-clause-refines : goal.returns-clause-refines
returns-clause-refines c =
    IfOk-weaker _ _ _ (λ a refines. converts_end _ c.args.object c.args.array c.args.length c.args.start c.args.end _ _
    (sym c.is_undefined.ensures ∙ c.if-is_undefined.false) (integer_waits _ _ (progress.ArrayCall (array_call.SliceEnd
    c.args.object c.args.array c.args.length c.args.start)) (λ z. copy_from c.args.object c.args.start c.args.array
    (relative_index z c.args.length - c.args.start) 0) c.args.end _ _ (λ w. refl) c.in_ok-push_builtin.ensures.waits
    refines)) c.to_primitive.ensures.refines
