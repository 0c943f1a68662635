-- Arguments of which the greatest or least is taken, one a turn.
use Rattle.std.proofs.Common.{◌∷◌, drop, refl, List, Option, Some, ℕ}
use Rattle.jl_num.specs.Number.{Number}
use Rattle.jl_value.specs.declared.value.Value.{Value}
use Rattle.jl_meaning.specs.Conversions.{number_hint, to_number, to_primitive}
use Rattle.jl_meaning.specs.Parts.{◌>>=◌}
use Rattle.jl_meaning.specs.builtins.Math.{one_of_all}
use Rattle.jl_progress.specs.Numbers.{pick_of}
use Rattle.jl_progress.specs.Progress.{progress_after}
use Rattle.jl_progress.specs.declared.number.Extreme.{Extreme}
use Rattle.jl_progress.specs.declared.number.NumberProgress.TheVariants as number
use Rattle.jl_progress.specs.declared.progress.Progress.TheVariants as progress
use Rattle.jl_state.specs.Rest.{RefinesAlgorithm}
use Rattle.jl_state.specs.Steps.{Took}
use Rattle.jl_state.specs.declared.act.Act.{Act}
use Rattle.jl_state.specs.declared.state.State.{State}
use Rattle.jl_builtin.proofs.Conversions.{as_number}
use Rattle.jl_lib_misc.specs.inner.Extremes.{next_extreme}

pub extreme_waits : (s t : State) (which : Extreme) (so_far : Option Number) (v : Value) (args : List Value) (from : ℕ)
    (u : State) (a : Act) → Took s t
    → RefinesAlgorithm t (to_primitive number_hint v
    >>= progress_after (progress.Number (number.Extreme which so_far args from))) u a
    → RefinesAlgorithm s (one_of_all (pick_of which) so_far (v ∷ drop from args)) u a
extreme_waits s t which so_far v args from u a took refines =
    took.works (to_number v >>= λ n. one_of_all (pick_of which) (Some (next_extreme which so_far n)) (drop from args))
    u a
    (as_number t u a v (progress_after (progress.Number (number.Extreme which so_far args from)))
    (λ n. one_of_all (pick_of which) (Some (next_extreme which so_far n)) (drop from args)) (λ p. refl) refines)
