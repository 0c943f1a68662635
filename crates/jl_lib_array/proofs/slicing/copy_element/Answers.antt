use Rattle.std.proofs.lemmas.Result.{IfOk-weaker}
use Rattle.jl_lib_array.proofs.Slices.{copy_misses, copy_waits}
use Rattle.jl_lib_array.proofs.slicing.copy_element.Goals as goal

pub returns-then-not-there-clause-refines : goal.returns-then-not-there-clause-refines
returns-then-not-there-clause-refines c =
    IfOk-weaker _ _ _ (λ a refines. copy_misses _ c.args.object c.args.start _ c.args.array c.args.count c.args.index _
    _
    _ c.in_ok-from.ensures c.in_ok-there.ensures c.if-not-there.true refines) c.next_copy.ensures.refines

pub returns-clause-refines : goal.returns-clause-refines
returns-clause-refines c =
    IfOk-weaker _ _ _ (λ a refines. copy_waits _ _ c.args.object c.args.start _ c.args.array c.args.count c.args.index _
    _
    _ c.in_ok-from.ensures c.in_ok-there.ensures c.if-not-there.false c.in_ok-push_builtin.ensures.waits refines)
    c.get_index.ensures.refines
