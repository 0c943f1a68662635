use Rattle.std.proofs.Common.{◌≡◌, map, length}
use Rattle.jl_hook.specs.inner.Tables.{form_in}
use Rattle.jl_hook.proofs.hook_names.form_in.Given as goal

abbrev pub invariant-loop-table : goal.invariant-loop-table
invariant-loop-table l = form_in (map (λ entry. (entry.0.now, entry.1)) l.table) l.name
    ≡ form_in (map (λ entry. (entry.0.now, entry.1)) l.fn.table) l.name

abbrev pub decreases-loop-table : goal.decreases-loop-table
decreases-loop-table l = length l.table
