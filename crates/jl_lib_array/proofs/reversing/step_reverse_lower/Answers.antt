use Rattle.std.proofs.lemmas.Result.{IfOk-weaker}
use Rattle.jl_lib_array.proofs.Exchanged.{gets_upper}
use Rattle.jl_lib_array.proofs.reversing.step_reverse_lower.Goals as goal

pub returns-clause-refines : goal.returns-clause-refines
returns-clause-refines c =
    IfOk-weaker _ _ _ (λ a refines. gets_upper _ _ _ c.args.reversing c.args.low _ c.upper_of-upper.ensures refines)
    c.get_for.ensures.refines
