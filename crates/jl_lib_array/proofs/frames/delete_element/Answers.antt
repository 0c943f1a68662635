use Rattle.std.proofs.Common.{refl}
use Rattle.jl_value.specs.declared.value.Value.TheVariants as value
use Rattle.jl_meaning.specs.Parts.{give}
use Rattle.jl_meaning.specs.builtins.Elements.{delete_index}
use Rattle.jl_builtin.proofs.Ends.{answer_given, answer_thrown}
use Rattle.jl_lib_array.proofs.frames.delete_element.Goals as goal

pub returns-in-Gives-clause-refines : goal.returns-in-Gives-clause-refines
returns-in-Gives-clause-refines c =
    answer_given c.args.state.now _ c.delete_index.ensures.stored (delete_index c.args.object c.args.index)
    (λ _. give value.Undefined) _ c.in_ok-answer.ensures.comes _ _ _ c.in-Gives.is (record { is = λ kept told. refl })

pub returns-in-Throws-clause-refines : goal.returns-in-Throws-clause-refines
returns-in-Throws-clause-refines c =
    answer_thrown c.args.state.now _ c.delete_index.ensures.stored (delete_index c.args.object c.args.index)
    (λ _. give value.Undefined) _ c.in_ok-answer.ensures.comes _ c.in-Throws.is
