use Rattle.std.proofs.Common.{◌∙◌, sym}
use Rattle.std.proofs.lemmas.Bool.{false≢true}
use Rattle.jl_state.proofs.Unwinding.{follows_on, goes_lower, looked_at, looks_within, none_left, takes_it}
use Rattle.jl_state.proofs.stack.innermost_handler.Goals as goal

pub returns-in_err-linked : goal.returns-in_err-linked
returns-in_err-linked c =
    absurd (false≢true (c.in_err-linked.ensures.lookup.2
    (looks_within _ c.args.frames.now _ (looked_at _ _ _ _ c.loop-at.invariant c.in-Some.is))))

pub returns-then-handles : goal.returns-then-handles
returns-then-handles c =
    takes_it _ c.args.frames.now _ (looked_at _ _ _ _ c.loop-at.invariant c.in-Some.is) _
    c.in_ok-linked.ensures.lookup.1 (sym c.handles.ensures ∙ c.if-handles.true)

pub loop-at-preserved : goal.loop-at-preserved
loop-at-preserved c =
    follows_on _ c.args.frames.now _ (looked_at _ _ _ _ c.loop-at.invariant c.in-Some.is) _
    c.in_ok-linked.ensures.lookup.1 (sym c.handles.ensures ∙ c.if-handles.false)

pub loop-at-smaller : goal.loop-at-smaller
loop-at-smaller c =
    goes_lower _ c.args.frames.now _ (looked_at _ _ _ _ c.loop-at.invariant c.in-Some.is) _
    c.in_ok-linked.ensures.lookup.1 _ c.in-Some.is

pub returns : goal.returns
returns c = none_left _ _ _ c.loop-at.invariant c.in_default.is
