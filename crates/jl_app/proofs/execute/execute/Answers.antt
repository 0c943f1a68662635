use Rattle.std.proofs.Common.{[]}
use Rattle.jl_ast.specs.View.{view}
use Rattle.jl_app.proofs.Executing.{all_executed}
use Rattle.jl_app.proofs.execute.execute.Goals as goal

pub returns : goal.returns
returns c =
    all_executed c.all.result c.all.ensures (view c.args.program.now) c.args.budget c.ending_status.result
    c.in_ok-answer_bytes.field-0.items (c.in_ok-run.ensures.is [] tt) c.ending_status.ensures
    c.in_ok-answer_bytes.ensures
