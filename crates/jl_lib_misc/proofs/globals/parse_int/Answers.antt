use Rattle.std.proofs.lemmas.Result.{IfOk-weaker}
use Rattle.jl_state.specs.Words.{call_of}
use Rattle.jl_lib_misc.proofs.Arguments.{argument_is, numeral_waits}
use Rattle.jl_lib_misc.proofs.globals.parse_int.Goals as goal

pub returns-clause-refines : goal.returns-clause-refines
returns-clause-refines c =
    IfOk-weaker _ _ _ (λ a refines. numeral_waits _ _ _ (call_of c.args.call.now) _ _ (argument_is
    (call_of c.args.call.now) _ 0 _ c.items-args.ensures c.in_ok-numeral.ensures) (argument_is (call_of c.args.call.now)
    _ 1 _ c.items-args.ensures c.in_ok-radix.ensures) refines) c.wait_for_string.ensures.refines
