use Rattle.std.proofs.lemmas.Result.{IfOk-weaker}
use Rattle.jl_algorithm.proofs.Defined.{defines_no_length}
use Rattle.jl_algorithm.proofs.defining.define_length.Goals as goal

pub returns-in_default-clause-refines : goal.returns-in_default-clause-refines
returns-in_default-clause-refines c =
    IfOk-weaker _ _ _ (λ a refines. defines_no_length c.args.state.now c.args.id c.args.name.now c.args.change
    c.args.purpose _ _ c.requires.length c.in_default.is refines) c.define_now.ensures.refines
