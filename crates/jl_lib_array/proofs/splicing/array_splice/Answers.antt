use Rattle.std.proofs.Common.{refl}
use Rattle.std.proofs.lemmas.Result.{IfOk-weaker}
use Rattle.jl_meaning.specs.Conversions.{to_object}
use Rattle.jl_builtin.proofs.Ends.{answer_given, answer_thrown}
use Rattle.jl_lib_array.specs.inner.Functions.{splice_on}
use Rattle.jl_lib_array.proofs.splicing.array_splice.Goals as goal

pub returns-in-Gives-clause-refines : goal.returns-in-Gives-clause-refines
returns-in-Gives-clause-refines c =
    IfOk-weaker _ _ _ (λ a refines. answer_given c.args.state.now
    (record c.args.state.now { store = c.to_object.new.self }) refl (to_object c.args.call.this)
    (λ o. splice_on o c.args.call.args) _ c.in_ok-answer.ensures _ _ _ c.in-Gives.is refines)
    c.splice_into_new.ensures.refines

pub returns-clause-refines : goal.returns-clause-refines
returns-clause-refines c =
    answer_thrown c.args.state.now (record c.args.state.now { store = c.to_object.new.self }) refl
    (to_object c.args.call.this) (λ o. splice_on o c.args.call.args) _ c.in_ok-answer.ensures _ c.in-Throws.is
