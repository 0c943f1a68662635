use Rattle.std.proofs.Common.{refl}
use Rattle.std.proofs.lemmas.Result.{IfOk-weaker}
use Rattle.jl_state.specs.Words.{call_of}
use Rattle.jl_builtin.proofs.FoundItems.{some_from}
use Rattle.jl_lib_text.proofs.Objects.{constructs_with}
use Rattle.jl_lib_text.proofs.constructing.string_constructor.Goals as goal

pub returns-in-Some-clause-refines : goal.returns-in-Some-clause-refines
returns-in-Some-clause-refines c =
    IfOk-weaker _ _ _ (λ a refines. constructs_with c.args.state.now (call_of c.args.call.now) c.items.result.now
    c.args.call.now.by_new _ _ c.items.ensures refl c.in-Some.v _ (some_from 0 _ c.items.result.now c.items.result.now
    c.in-Some.v c.in_ok-value_from.field-0 refl c.in_ok-value_from.ensures.found c.in-Some.is) refines)
    c.wait_for_string.ensures.refines
