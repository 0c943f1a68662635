use Rattle.std.proofs.lemmas.Result.{IfOk-weaker}
use Rattle.jl_state.specs.Words.{call_of}
use Rattle.jl_lib_misc.proofs.Arguments.{argument_is, argument_waits}
use Rattle.jl_lib_misc.proofs.math.on_argument.Goals as goal

pub returns-clause-refines : goal.returns-clause-refines
returns-clause-refines c =
    IfOk-weaker _ _ _ (λ a refines. argument_waits _ _ _ (call_of c.args.call.now) c.args.function _ (argument_is
    (call_of c.args.call.now) _ 0 _ c.items.ensures c.in_ok-first.ensures) refines) c.wait_for_number.ensures.refines
