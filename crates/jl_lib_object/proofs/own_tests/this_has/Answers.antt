use Rattle.std.proofs.lemmas.Result.{IfOk-weaker}
use Rattle.jl_state.specs.Words.{call_of}
use Rattle.jl_lib_object.proofs.Descriptions.{asks_name}
use Rattle.jl_lib_object.proofs.own_tests.this_has.Goals as goal

pub returns-clause-refines : goal.returns-clause-refines
returns-clause-refines c =
    IfOk-weaker _ _ _ (λ a refines. asks_name _ _ c.args.test (call_of c.args.call.now) _ _ _ _ c.in_ok-name.ensures
    c.in_ok-this.ensures c.in_ok-wait_object.ensures.waits refines) c.to_primitive.ensures.refines
