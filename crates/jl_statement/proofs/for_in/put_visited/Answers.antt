use Rattle.jl_value.specs.declared.value.Value.TheVariants as value
use Rattle.jl_meaning.specs.References.{put_name}
use Rattle.jl_state.specs.StatementFrames.{loop_body}
use Rattle.jl_state.specs.Words.{table_of}
use Rattle.jl_statement.proofs.Results.{if_ok}
use Rattle.jl_statement.proofs.Visiting.{no_hooks, uncounted, unless_hooked}
use Rattle.jl_statement.proofs.for_in.put_visited.Goals as goal

pub returns-then-is_hooks-clause-refines : goal.returns-then-is_hooks-clause-refines
returns-then-is_hooks-clause-refines c = no_hooks _ c.args.variable.now _ _ c.if-is_hooks.ensures

pub returns-clause-refines : goal.returns-clause-refines
returns-clause-refines c =
    let here = c.args.turn.here in
    if_ok _ _ _ (rw c.get.ensures at c.put_name.ensures.refines)
    (λ a refines. unless_hooked _ c.args.variable.now _ _ _ _ c.if-is_hooks.ensures
    (uncounted _ (put_name here.strict here.env c.args.variable.now (value.Text c.args.name)) value.Undefined
    (loop_body (table_of c.args.state.now.functions) c.args.state.now.calls c.args.turn) _ _
    (c.in_ok-push_statement.ensures.waits.works _ _ _ refines)))
