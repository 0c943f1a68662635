use Rattle.std.proofs.Common.{◌≡◌, take}
use Rattle.jl_cover.specs.Coverage.{gaps_of, in_order, numbered}
use Rattle.jl_cover.specs.inner.Observed.{lacks_by}
use Rattle.jl_cover.proofs.cover.Cover.gaps.Given as goal

abbrev pub invariant-loop-before : goal.invariant-loop-before
invariant-loop-before l =
    l.gaps.entries ≡ in_order (gaps_of l.lines (lacks_by l.self) (numbered (take l.before l.map)))
