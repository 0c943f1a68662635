use Rattle.std.proofs.Common.{refl, subst}
use Rattle.std.proofs.lemmas.Result.{IfOk-weaker}
use Rattle.jl_value.specs.declared.value.Value.TheVariants as value
use Rattle.jl_conv.specs.Conversions.{text_of_value}
use Rattle.jl_meaning.specs.builtins.Arguments.{give_string}
use Rattle.jl_meaning.specs.builtins.Boolean.{boolean_of_receiver}
use Rattle.jl_state.specs.Rest.{RefinesAlgorithm}
use Rattle.jl_state.specs.declared.act.Act.TheVariants as act
use Rattle.jl_builtin.proofs.Receivers.{receives, refuses}
use Rattle.jl_lib_misc.proofs.booleans.boolean_to_string.Goals as goal

pub returns-in_ok-text_of-in-Some-clause-refines : goal.returns-in_ok-text_of-in-Some-clause-refines
returns-in_ok-text_of-in-Some-clause-refines c =
    receives c.args.state.now (λ store. boolean_of_receiver store.heap c.args.call.now.this) _
    (λ b. give_string (text_of_value (value.Bool b))) _ _ c.boolean_of_receiver.ensures c.in-Some.truth c.in-Some.is
    (subst (λ x. RefinesAlgorithm c.args.state.now (give_string x) c.args.state.now
    (act.Give (value.Text c.in_ok-text_of-in-Some.field-0))) c.in_ok-text_of-in-Some.ensures
    (record { is = λ kept told. refl }))

pub returns-in-None-clause-refines : goal.returns-in-None-clause-refines
returns-in-None-clause-refines c =
    IfOk-weaker _ _ _ (λ a refines. refuses c.args.state.now
    (λ store. boolean_of_receiver store.heap c.args.call.now.this) _ (λ b. give_string (text_of_value (value.Bool b))) _
    _ c.boolean_of_receiver.ensures c.in-None.is refines) c.throw_native.ensures.refines
