use Rattle.std.proofs.Common.{◌≡◌, ◌<◌, ℕ, Some}
use Rattle.std.specs.Prelude.{slice_get}
use Rattle.jl_record.proofs.named.among.Given as goal

abbrev pub invariant-loop-it : goal.invariant-loop-it
invariant-loop-it g l =
    (at : ℕ) (it : g.row.T.Denot) → at < l.it-index → slice_get l.table at ≡ Some it → l.name ≡ g.T.Named.name it → ⊥
