use Rattle.std.proofs.Common.{◌∙◌}
use Rattle.std.proofs.lemmas.Result.{IfOk-weaker}
use Rattle.jl_lib_object.proofs.FunctionNames.{no_receiver, receiver}
use Rattle.jl_state.specs.Words.{call_of}
use Rattle.jl_lib_object.proofs.function_text.function_to_string.Goals as goal

pub returns-in_default-clause-refines : goal.returns-in_default-clause-refines
returns-in_default-clause-refines c =
    IfOk-weaker _ _ _ (λ a refines. no_receiver _ _ (call_of c.args.call.now) _ _ _ c.in_ok-name.ensures c.in_default.is
    refines) c.throw_native.ensures.refines

pub returns-clause-refines : goal.returns-clause-refines
returns-clause-refines c =
    IfOk-weaker _ _ _ (λ a refines. receiver _ _ (call_of c.args.call.now) _ _ _ _ _ c.in_ok-name.ensures c.in-Some.is
    (c.items.ensures ∙ c.in_ok-text.ensures) (refines c.args.state.now)) c.give_text.ensures.refines
