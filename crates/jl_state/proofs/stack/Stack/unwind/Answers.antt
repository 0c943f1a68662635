use Rattle.std.proofs.Common.{reverse, subst}
use Rattle.jl_state.specs.Handlers.{IsInnermost}
use Rattle.jl_state.proofs.Unwinding.{links_left, nearest_left, unwinds}
use Rattle.jl_state.proofs.stack.Stack.unwind.Goals as goal

pub invariant_of-self : goal.invariant_of-self
invariant_of-self c =
    let found : IsInnermost c.args.how.now (reverse c.self.inside.frames.items) c.in_ok-depth.depth =
    subst (λ l. IsInnermost c.args.how.now (reverse l) c.in_ok-depth.depth) c.deref.ensures.value
    c.in_ok-depth.ensures in
    record {
      links = rw c.truncate.ensures.items (links_left _ c.self.inside.frames.items _ found c.self.invariant.links);
      nearest = rw c.truncate.ensures.items (nearest_left _ c.self.inside.frames.items _ found);
    }

pub returns : goal.returns
returns c =
    let found : IsInnermost c.args.how.now (reverse c.self.inside.frames.items) c.in_ok-depth.depth =
    subst (λ l. IsInnermost c.args.how.now (reverse l) c.in_ok-depth.depth) c.deref.ensures.value
    c.in_ok-depth.ensures in
    rw (c.truncate.ensures.items, ← c.self.view_is) (unwinds _ c.self.inside.frames.items _ found)
