use Rattle.std.proofs.lemmas.Result.{IfOk-weaker}
use Rattle.jl_state.specs.Words.{call_of}
use Rattle.jl_lib_misc.proofs.Arguments.{argument_is, base_waits}
use Rattle.jl_lib_misc.proofs.math.math_pow.Goals as goal

pub returns-clause-refines : goal.returns-clause-refines
returns-clause-refines c =
    IfOk-weaker _ _ _ (λ a refines. base_waits _ _ _ (call_of c.args.call.now) _ _
    (argument_is (call_of c.args.call.now)
    _ 0 _ c.items-args.ensures c.in_ok-base.ensures) (argument_is (call_of c.args.call.now) _ 1 _ c.items-args.ensures
    c.in_ok-exponent.ensures) refines) c.wait_for_number.ensures.refines
