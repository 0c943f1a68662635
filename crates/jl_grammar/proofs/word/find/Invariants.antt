use Rattle.std.proofs.Common.{◌≡◌, map, length}
use Rattle.jl_grammar.specs.Words.{look_up}
use Rattle.jl_grammar.proofs.word.find.Given as goal

abbrev pub invariant-loop-table : goal.invariant-loop-table
invariant-loop-table l = look_up (map (λ entry. (entry.0.now, entry.1)) l.table) l.units
    ≡ look_up (map (λ entry. (entry.0.now, entry.1)) l.fn.table) l.units

abbrev pub decreases-loop-table : goal.decreases-loop-table
decreases-loop-table l = length l.table
