use Rattle.std.proofs.Common.{◌+◌}
use Rattle.std.proofs.lemmas.Result.{IfOk-weaker}
use Rattle.jl_meaning.specs.Parts.{◌>>=◌}
use Rattle.jl_meaning.specs.builtins.Elements.{delete_index, put_index}
use Rattle.jl_progress.specs.Arrays.{reverse_others, upper_of}
use Rattle.jl_builtin.proofs.Ends.{answer_given, answer_thrown}
use Rattle.jl_lib_array.proofs.reversing.move_to_upper.Goals as goal

pub returns-in-Gives-clause-refines : goal.returns-in-Gives-clause-refines
returns-in-Gives-clause-refines c =
    let r = c.args.reversing in
    IfOk-weaker _ _ _ (λ a refines. answer_given c.args.state.now _ c.delete_index.ensures.stored
    (delete_index r.object r.lower) (λ _. put_index r.object (upper_of r) c.args.low >>= λ _. reverse_others r r.left
    (r.lower + 1)) _ c.in_ok-answer.ensures.comes _ _ _ c.in-Gives.is refines) c.put_above.ensures.refines

pub returns-in-Throws-clause-refines : goal.returns-in-Throws-clause-refines
returns-in-Throws-clause-refines c =
    let r = c.args.reversing in
    answer_thrown c.args.state.now _ c.delete_index.ensures.stored (delete_index r.object r.lower)
    (λ _. put_index r.object (upper_of r) c.args.low >>= λ _. reverse_others r r.left (r.lower + 1)) _
    c.in_ok-answer.ensures.comes _ c.in-Throws.is
