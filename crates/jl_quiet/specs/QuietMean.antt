-- What a program comes to as it looks from its hooks: what they emit is recorded, and what the script performs is not.
use Rattle.std.specs.Prelude.{◌≡◌, ℕ}
use Rattle.jl_ast.specs.Spans.{map_spans, without_spans}
use Rattle.jl_ast.specs.Tree.{Program}
use Rattle.jl_op.specs.Chosen.{is_kept, Kinds}
use Rattle.jl_op.specs.Operations.{Operation}
use Rattle.jl_effects.specs.Running.{nothing_done, run, RunState}
use Rattle.jl_effects.specs.Traces.{quietly, with_state, without_operations}
use Rattle.jl_meaning.specs.FunctionTable.{function_table}
use Rattle.jl_meaning.specs.Jobs.{job}
use Rattle.jl_meaning.specs.Mean.{language, mean, script, Run}
use Rattle.jl_meaning.specs.Realm.{realm}
use Rattle.jl_meaning.specs.Store.{Store}

-- what runs begin with
abbrev pub Start : Type 0
Start = RunState Store Operation

-- the run of a program from there, with so many steps
abbrev pub quiet_run : Kinds → Program ℕ → (steps : ℕ) → Start → Run
quiet_run chosen p n start = run language (quietly (is_kept chosen)) (job (function_table p)) n (script p) start

-- the program with no ids: each of its places is 0
abbrev pub without_ids : {S : Type 0} → Program S → Program ℕ
without_ids p = map_spans (λ s. 0) p

-- what a program comes to from the realm: the run of it with no ids
abbrev pub quiet_mean : {S : Type 0} → Kinds → Program S → (steps : ℕ) → Run
quiet_mean chosen p n = quiet_run chosen (without_ids p) n (nothing_done realm)

-- Programs that are the same but for their places have the same quiet runs.
abbrev pub IdsDoNotMatter : Kinds → Program ℕ → Program ℕ → Type 0
IdsDoNotMatter chosen p q =
    without_spans p ≡ without_spans q
    → (n : ℕ) (start : Start) → quiet_run chosen p n start ≡ quiet_run chosen q n start

-- What a program means, but for what it performs, is what it comes to with no ids.
abbrev pub QuietMeans : {S : Type 0} → Kinds → Program S → Type 0
QuietMeans chosen p = (n : ℕ) → with_state without_operations (mean chosen p n) ≡ quiet_mean chosen p n
