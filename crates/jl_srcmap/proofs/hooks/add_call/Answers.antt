use Rattle.jl_srcmap.proofs.Calls.{call_absent, call_added}
use Rattle.jl_srcmap.proofs.hooks.add_call.Goals as goal

pub returns-in_default : goal.returns-in_default
returns-in_default c =
    call_absent c.args.woven.now c.args.map.now c.args.lines.now c.args.tokens.now c.args.at c.args.segments.now.items
    c.requires.at c.in_default.ensures

pub returns : goal.returns
returns c =
    call_added c.args.woven.now c.args.map.now c.args.lines.now c.args.tokens.now c.args.at c.in-Some.number
    c.index-tokens-at.result c.args.segments.now.items c.push.new.self.items c.call_segment.result c.requires.at
    c.in-Some.ensures c.call_segment.ensures c.in_ok-push.ensures.items
