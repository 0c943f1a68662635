use Rattle.std.proofs.Common.{◌∙◌, arith}
use Rattle.jl_srcmap.proofs.Calls.{all_made, made_in_order}
use Rattle.jl_srcmap.proofs.hooks.origins.Goals as goal

pub loop-at-preserved : goal.loop-at-preserved
loop-at-preserved c = c.in_ok-add_call.ensures ∙ c.loop-at.invariant

pub returns-clause-are : goal.returns-clause-are
returns-clause-are c =
    all_made c.args.woven.now c.args.map.now c.args.lines.now c.args.tokens.now c.loop-at.at c.loop-at.segments.items
    (omega arith) c.loop-at.invariant

pub returns-clause-in_order : goal.returns-clause-in_order
returns-clause-in_order c =
    made_in_order c.args.woven.now c.args.map.now c.args.lines.now c.args.tokens.now c.loop-at.at
    c.loop-at.segments.items (omega arith) c.loop-at.invariant
