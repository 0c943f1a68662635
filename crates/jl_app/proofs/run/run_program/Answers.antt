use Rattle.std.proofs.lemmas.Result.{IfOk-weaker}
use Rattle.jl_ast.specs.View.{view}
use Rattle.jl_op.specs.KindSets.{is_member}
use Rattle.jl_app.proofs.Meant.{is_meant}
use Rattle.jl_app.proofs.run.run_program.Goals as goal

pub returns-clause-is : goal.returns-clause-is
returns-clause-is g c = λ before stands.
    let kinds = is_member c.args.kinds in
    let p = view c.args.program.now in
    IfOk-weaker c.run.result _ _
    (λ r is. is_meant _ before c.args.budget r _ kinds p (c.runs_are_meant.ensures kinds p c.args.budget)
    (c.quiet_means.ensures kinds p) is)
    (c.run.ensures.is before stands)
