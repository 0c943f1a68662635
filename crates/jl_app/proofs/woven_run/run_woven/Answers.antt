use Rattle.std.proofs.lemmas.Result.{IfOk-weaker}
use Rattle.std.proofs.Common.{[]}
use Rattle.jl_ast.specs.View.{view}
use Rattle.jl_op.specs.KindSets.{is_member}
use Rattle.jl_app.proofs.ToldRuns.{is_told_run}
use Rattle.jl_app.proofs.woven_run.run_woven.Goals as goal

pub returns-clause-is : goal.returns-clause-is
returns-clause-is g c = λ fresh.
    IfOk-weaker c.run_program.result _ _
    (λ r is. is_told_run _ _ r (is_member c.args.kinds) (view c.args.program.now) (view c.in_ok-woven.woven)
    c.woven_budget.result c.args.budget c.woven_budget.ensures c.in_ok-woven.ensures.woven is)
    (c.run_program.ensures.is [] fresh)
