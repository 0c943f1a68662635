use Rattle.std.proofs.Common.{refl}
use Rattle.std.proofs.lemmas.Result.{IfOk-weaker}
use Rattle.jl_builtin.proofs.Fills.{fills_found}
use Rattle.jl_builtin.proofs.filling.fill_array.Goals as goal

pub returns-clause-refines : goal.returns-clause-refines
returns-clause-refines c =
    IfOk-weaker _ _ _ (λ a refines. fills_found c.args.state.now _ c.args.array c.args.from _ c.args.values _ _ _ _ _
    c.items.ensures c.in_ok-found.ensures.found c.in_ok-found.ensures.next c.in-Some.is
    (c.if-not-spend.ensures.took refl) refines) c.add_and_go_on.ensures.refines
