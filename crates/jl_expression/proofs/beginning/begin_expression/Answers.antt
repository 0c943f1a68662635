use Rattle.std.proofs.Common.{refl}
use Rattle.std.proofs.lemmas.Result.{IfOk-weaker}
use Rattle.jl_ast.specs.View.{view_expression}
use Rattle.jl_state.specs.Trees.{plain}
use Rattle.jl_expression.proofs.Begun.{begins, runs_out}
use Rattle.jl_expression.proofs.beginning.begin_expression.Goals as goal

pub returns-then-not-spend-clause-refines : goal.returns-then-not-spend-clause-refines
returns-then-not-spend-clause-refines c =
    runs_out _ _ (plain (view_expression c.args.e.now)) c.args.here (c.if-not-spend.ensures.ran_out refl)
    (c.if-not-spend.ensures.same refl)

pub returns-clause-refines : goal.returns-clause-refines
returns-clause-refines c =
    IfOk-weaker _ _ _ (λ a refines. begins _ _ _ _ (plain (view_expression c.args.e.now)) c.args.here
    (c.if-not-spend.ensures.took refl) (c.if-not-spend.ensures.left refl) refines) c.begin.ensures.refines
