use Rattle.std.proofs.Common.{◌≡◌, ◌++◌, drop}
use Rattle.jl_srcmap.specs.Hooks.{segments_of}
use Rattle.jl_srcmap.proofs.hooks.origins.Given as goal

abbrev pub invariant-loop-at : goal.invariant-loop-at
invariant-loop-at l =
    l.segments.items ++ segments_of l.woven l.map l.lines (drop l.at l.tokens)
    ≡ segments_of l.woven l.map l.lines l.tokens
