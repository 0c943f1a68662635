use Rattle.std.proofs.Common.{ap, sym, ◌∙◌}
use Rattle.std.proofs.lemmas.Result.{IfOk-weaker}
use Rattle.std.specs.Result.{result_ok}
use Rattle.jl_builtin.proofs.Fills.{puts_length}
use Rattle.jl_builtin.proofs.elements.put_length.Goals as goal

pub returns-clause-refines : goal.returns-clause-refines
returns-clause-refines c =
    IfOk-weaker _ _ _ (λ a refines. puts_length c.args.state.now c.args.object c.args.length _ _ c.args.gives _ _
    (sym c.number.ensures ∙ ap result_ok c.in-Ok.is) c.in_ok-name.ensures refines) c.put.ensures.refines
