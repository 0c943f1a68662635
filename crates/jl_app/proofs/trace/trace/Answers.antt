use Rattle.std.proofs.Common.{◌∙◌}
use Rattle.std.proofs.lemmas.Result.{IfOk-weaker}
use Rattle.jl_ast.specs.View.{view}
use Rattle.jl_app.specs.WovenRuns.{woven_budget}
use Rattle.jl_app.proofs.OwnRun.{same_own_run}
use Rattle.jl_app.proofs.Traced.{of_all_woven, same_traced_run}
use Rattle.jl_app.proofs.trace.trace.Goals as goal

pub returns : goal.returns
returns c =
    let p = view c.args.program.now in
    let q = view c.in_ok-woven.woven in
    let same = same_own_run p q (woven_budget c.args.budget)
    (c.in_ok-woven.ensures.woven ∙ of_all_woven c.all.result c.all.ensures p) in
    IfOk-weaker c.trace_alone.result _ _
    (λ a answered. same_traced_run q p c.woven_budget.result c.args.budget
    c.woven_budget.ensures same answered)
    c.trace_alone.ensures
