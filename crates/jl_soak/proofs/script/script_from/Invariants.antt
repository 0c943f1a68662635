use Rattle.std.proofs.Common.{◌≡◌, ◌∷◌, ◌++◌, []}
use Rattle.std.specs.Prelude.{codes}
use Rattle.jl_soak.specs.Script.{lines_below}
use Rattle.jl_soak.proofs.script.script_from.Given as goal

abbrev pub invariant-loop-before : goal.invariant-loop-before
invariant-loop-before l = l.text.items ≡ codes "var total = 0;" ++ (10 ∷ [] ++ lines_below l.before)
