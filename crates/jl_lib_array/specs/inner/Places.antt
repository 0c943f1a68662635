-- Which turns there are.
use Rattle.std.specs.Prelude.{if◌then◌else◌, nat_lt, suc, zero, None, Option, Some, ℕ}
use Rattle.jl_progress.specs.declared.array_call.Direction.{Direction}
use Rattle.jl_progress.specs.declared.array_call.Direction.TheVariants as direction
use Rattle.jl_progress.specs.declared.array_call.Task.{Task}
use Rattle.jl_progress.specs.declared.array_call.Task.TheVariants as task

-- the index below a place, if there is one
abbrev pub index_below : ℕ → Option ℕ
index_below zero = None
index_below (suc k) = Some k

-- the index of the turn that begins at a place, if there is one
abbrev pub index_at : Direction → (at length : ℕ) → Option ℕ
index_at direction.Up at length = if nat_lt at length then Some at else None
index_at direction.Down at length = index_below at

abbrev pub direction_of : Task → Direction
direction_of (task.Reduce so_far d) = d
direction_of _ = direction.Up
