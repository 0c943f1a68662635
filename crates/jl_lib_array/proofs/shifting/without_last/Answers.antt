use Rattle.std.proofs.lemmas.Result.{IfOk-weaker}
use Rattle.jl_meaning.specs.Parts.{give, ◌>>=◌}
use Rattle.jl_meaning.specs.builtins.Elements.{delete_index, put_length}
use Rattle.jl_builtin.proofs.Ends.{answer_given, answer_thrown}
use Rattle.jl_lib_array.proofs.shifting.without_last.Goals as goal

pub returns-in-Gives-clause-refines : goal.returns-in-Gives-clause-refines
returns-in-Gives-clause-refines c =
    IfOk-weaker _ _ _ (λ a refines. answer_given c.args.state.now _ c.delete_index.ensures.stored
    (delete_index c.args.object c.args.last) (λ _. put_length c.args.object c.args.last >>= λ _. give c.args.gives) _
    c.in_ok-answer.ensures.comes _ _ _ c.in-Gives.is refines) c.put_length.ensures.refines

pub returns-in-Throws-clause-refines : goal.returns-in-Throws-clause-refines
returns-in-Throws-clause-refines c =
    answer_thrown c.args.state.now _ c.delete_index.ensures.stored (delete_index c.args.object c.args.last)
    (λ _. put_length c.args.object c.args.last >>= λ _. give c.args.gives) _ c.in_ok-answer.ensures.comes _
    c.in-Throws.is
