use Rattle.std.proofs.Common.{subst, sym}
use Rattle.std.proofs.lemmas.Result.{IfOk-weaker}
use Rattle.jl_state.specs.Rest.{RefinesAlgorithm}
use Rattle.jl_builtin.proofs.FoundItems.{some_from}
use Rattle.jl_lib_text.specs.inner.Turns.{string_joined}
use Rattle.jl_lib_text.proofs.joining.string_joined.Goals as goal

pub returns-clause-refines : goal.returns-clause-refines
returns-clause-refines c =
    IfOk-weaker _ _ _ (λ a refines. subst (λ l. RefinesAlgorithm c.args.state.now (string_joined c.args.units l)
    c.convert_next.new.state a) (sym (some_from c.args.from c.in-Some.next c.items.result.now c.args.args c.in-Some.v
    c.in_ok-value_from.field-0 c.items.ensures c.in_ok-value_from.ensures.found c.in-Some.is)) refines)
    c.convert_next.ensures.refines
