use Rattle.std.proofs.Common.{sym, ◌∙◌}
use Rattle.std.proofs.lemmas.Result.{IfOk-weaker}
use Rattle.jl_algorithm.proofs.Defined.{counts_length}
use Rattle.jl_algorithm.proofs.lengths.step_length_count.Goals as goal

pub returns-clause-refines : goal.returns-clause-refines
returns-clause-refines c =
    IfOk-weaker _ _ _ (λ a refines. counts_length c.args.state.now _ c.args.array c.args.length c.args.attributes
    c.args.purpose c.args.v _ _ _ _ (sym c.number_of.ensures ∙ c.in-Some.is) c.to_uint32.ensures
    c.in_ok-push_algorithm.ensures.waits refines) c.to_primitive.ensures.refines
