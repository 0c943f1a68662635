-- Frames of this crate that wait for a value, and how much they may do.
use Rattle.std.proofs.Common.{◌≡◌, ◌+◌, ◌∷◌, arith, subst, ℕ}
use Rattle.jl_progress.specs.Arrays.{rank_array}
use Rattle.jl_progress.specs.declared.array.ArrayProgress.{ArrayProgress}
use Rattle.jl_progress.specs.declared.progress.Progress.TheVariants as progress
use Rattle.jl_state.specs.Rank.{RankedBelow}
use Rattle.jl_state.specs.declared.act.Act.{Act}
use Rattle.jl_state.specs.declared.algorithm_frame.AlgorithmFrame.TheVariants as algorithm
use Rattle.jl_state.specs.declared.frame.Frame.TheVariants as frame
use Rattle.jl_state.specs.declared.state.State.{State}

pub falls_waiting : (s t u : State) (a : Act) (p : ArrayProgress) (n : ℕ)
    → t ≡ record s { stack = frame.Algorithm (algorithm.Builtin (progress.Array p)) ∷ s.stack }
    → RankedBelow t n u a → RankedBelow s (rank_array p + n) u a
falls_waiting s t u a p n pushed bounded =
    let before = subst (λ (w : State). RankedBelow w n u a) pushed bounded in
    record { left = before.left; lower = λ same. omega (arith, before.lower same) }
