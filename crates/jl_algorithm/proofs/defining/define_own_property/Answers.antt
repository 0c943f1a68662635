use Rattle.std.proofs.Common.{sym, ◌∙◌}
use Rattle.std.proofs.lemmas.Result.{IfOk-weaker}
use Rattle.jl_algorithm.proofs.Defined.{defines_now}
use Rattle.jl_algorithm.proofs.defining.define_own_property.Goals as goal

pub returns-clause-refines : goal.returns-clause-refines
returns-clause-refines c =
    IfOk-weaker _ _ _ (λ a refines. defines_now c.args.state.now c.args.id c.args.name.now c.args.change c.args.purpose
    _ _ (sym c.is_array_length.ensures ∙ c.if-is_array_length.false) refines) c.define_now.ensures.refines
