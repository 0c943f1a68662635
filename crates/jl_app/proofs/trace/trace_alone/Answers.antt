use Rattle.std.proofs.Common.{[]}
use Rattle.jl_ast.specs.View.{view}
use Rattle.jl_effects.specs.Running.{state_of as world_of}
use Rattle.jl_app.specs.OwnRuns.{own_run}
use Rattle.jl_app.proofs.Traced.{all_kinds, is_traced}
use Rattle.jl_app.proofs.trace.trace_alone.Goals as goal

pub returns : goal.returns
returns c =
    let p = view c.args.program.now in
    let budget = c.args.budget in
    let is = all_kinds c.all.result c.all.ensures p budget (c.in_ok-run.ensures.is [] c.new-tracer.ensures) in
    let told = c.into_lines.ensures (world_of (own_run p budget)).hooks is.told in
    is_traced budget (own_run p budget) is c.into_lines.result.items told
    c.ending_status.result c.in_ok-answer_bytes.field-0.items
    c.ending_status.ensures c.in_ok-answer_bytes.ensures
