use Rattle.std.proofs.Common.{refl, subst, List}
use Rattle.std.proofs.lemmas.Result.{IfOk-weaker}
use Rattle.jl_value.specs.declared.value.Value.{Value}
use Rattle.jl_meaning.specs.Conversions.{to_object}
use Rattle.jl_state.specs.Rest.{RefinesAlgorithm}
use Rattle.jl_builtin.proofs.Ends.{answer_given, answer_thrown}
use Rattle.jl_lib_array.specs.inner.Functions.{concat_on}
use Rattle.jl_lib_array.proofs.appending.array_concat.Goals as goal

pub returns-in-Gives-clause-refines : goal.returns-in-Gives-clause-refines
returns-in-Gives-clause-refines c =
    IfOk-weaker _ _ _ (λ a refines. answer_given c.args.state.now
    (record c.args.state.now { store = c.to_object.new.self }) refl (to_object c.args.call.this)
    (λ o. concat_on o c.args.call.args) _ c.in_ok-answer.ensures _ _ _ c.in-Gives.is
    (subst (λ (l : List Value). RefinesAlgorithm
    (record c.args.state.now { store = c.to_object.new.self }) (concat_on c.in-Gives.object l) c.concat.new.state a)
    c.items.ensures refines)) c.concat.ensures.refines

pub returns-clause-refines : goal.returns-clause-refines
returns-clause-refines c =
    answer_thrown c.args.state.now (record c.args.state.now { store = c.to_object.new.self }) refl
    (to_object c.args.call.this) (λ o. concat_on o c.args.call.args) _ c.in_ok-answer.ensures _ c.in-Throws.is
