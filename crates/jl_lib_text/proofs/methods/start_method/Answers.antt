use Rattle.std.proofs.Common.{◌∙◌}
use Rattle.std.proofs.lemmas.Result.{IfOk-weaker}
use Rattle.jl_meaning.specs.builtins.String.{method_of_string}
use Rattle.jl_state.specs.Words.{call_of}
use Rattle.jl_lib_text.proofs.Called.{method_waits, refuses_null, refuses_undefined}
use Rattle.jl_lib_text.proofs.methods.start_method.Goals as goal

pub returns-in-Undefined-clause-refines : goal.returns-in-Undefined-clause-refines
returns-in-Undefined-clause-refines c =
    IfOk-weaker _ _ _ (λ a refines. refuses_undefined c.args.state.now
    (λ units. method_of_string c.args.method units c.args.call.now.args) _ _ c.args.call.now.this c.in-Undefined.is
    refines) c.throw_native.ensures.refines

pub returns-in-Null-clause-refines : goal.returns-in-Null-clause-refines
returns-in-Null-clause-refines c =
    IfOk-weaker _ _ _ (λ a refines. refuses_null c.args.state.now
    (λ units. method_of_string c.args.method units c.args.call.now.args) _ _ c.args.call.now.this c.in-Null.is refines)
    c.throw_native-in-Null.ensures.refines

pub returns-in_ok-value-in_default : goal.returns-in_ok-value-in_default
returns-in_ok-value-in_default c = record {
  refines =
      IfOk-weaker _ _ _ (λ a refines. method_waits c.args.state.now c.args.method (call_of c.args.call.now) _ _ _ _
      c.in_default.not-Undefined c.in_default.not-Null (c.in_ok-args-in_default.ensures ∙ c.items.ensures)
      c.in_ok-value-in_default.ensures refines) c.wait_for_string.ensures.refines;
  bounded = c.wait_for_string.ensures.bounded;
}
