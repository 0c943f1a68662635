-- Runs that record less than all, and what they come to.
use Rattle.std.specs.Prelude.{Bool, false, [], filter}
use Rattle.jl_effects.specs.Running.{Recorded, RunState, Outcome, Over, Spent}

abbrev pub none : {O : Type 0} → O → Bool
none o = false

-- nothing that the script performs, and of what hooks emit what is kept: how a run looks from its hooks
abbrev pub quietly : {O : Type 0} → (kept : O → Bool) → Recorded O
quietly kept = record { performed = none; emitted = kept }

-- the same outcome, but for what is made of the state
abbrev pub with_state : {S F O A : Type 0} → (RunState S O → RunState S O) → Outcome S F O A → Outcome S F O A
with_state f (Over e left w) = Over e left (f w)
with_state f (Spent w) = Spent (f w)

-- the state, where hooks have emitted the kept operations alone
abbrev pub keep_hooks : {S O : Type 0} → (kept : O → Bool) → RunState S O → RunState S O
keep_hooks kept w = record w { hooks = filter kept w.hooks }

-- the state, where the script has performed nothing
abbrev pub without_operations : {S O : Type 0} → RunState S O → RunState S O
without_operations w = record w { operations = [] }
