use Rattle.std.proofs.Common.{refl}
use Rattle.std.proofs.lemmas.Result.{IfOk-weaker}
use Rattle.jl_meaning.specs.Conversions.{to_object}
use Rattle.jl_meaning.specs.Parts.{◌>>=◌}
use Rattle.jl_meaning.specs.builtins.Elements.{get_length}
use Rattle.jl_progress.specs.Arrays.{with_length}
use Rattle.jl_builtin.proofs.Ends.{answer_given, answer_thrown}
use Rattle.jl_lib_array.proofs.lengths.begin_with_length.Goals as goal

pub returns-in-Gives-clause-refines : goal.returns-in-Gives-clause-refines
returns-in-Gives-clause-refines c =
    IfOk-weaker _ _ _ (λ a refines. answer_given c.args.state.now
    (record c.args.state.now { store = c.to_object.new.self }) refl (to_object c.args.call.this)
    (λ o. get_length o >>= with_length c.args.function o c.args.call.args) _ c.in_ok-answer.ensures _ _ _
    c.in-Gives.is refines) c.get_length.ensures.refines

pub returns-clause-refines : goal.returns-clause-refines
returns-clause-refines c =
    answer_thrown c.args.state.now (record c.args.state.now { store = c.to_object.new.self }) refl
    (to_object c.args.call.this) (λ o. get_length o >>= with_length c.args.function o c.args.call.args)
    _ c.in_ok-answer.ensures _ c.in-Throws.is
