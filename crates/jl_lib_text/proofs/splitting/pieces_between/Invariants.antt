use Rattle.std.proofs.Common.{◌≡◌, ◌≤◌, ◌++◌, ◌-◌, [], drop, length, map}
use Rattle.jl_meaning.specs.builtins.String.{pieces, pieces_from}
use Rattle.jl_value.specs.declared.value.Value.TheVariants as value
use Rattle.jl_lib_text.proofs.splitting.pieces_between.Given as goal

abbrev pub invariant-loop-place : goal.invariant-loop-place
invariant-loop-place l = record {
  within : l.start ≤ length l.units;
  rest : l.list ++ map (λ part. value.Text part) (pieces_from l.separator 0 [] (drop l.start l.units))
      ≡ map (λ part. value.Text part) (pieces l.separator l.units);
}

abbrev pub decreases-loop-place : goal.decreases-loop-place
decreases-loop-place l = length l.units - l.start
