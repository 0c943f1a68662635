-- Small parts and their runs, computed.
use Rattle.std.proofs.Common.{◌≡◌, ℕ, zero, suc, ◌+◌, ◌-◌, List, [], ◌∷◌, Bool, refl, arith}
use Rattle.std.specs.Prelude.{nat_eq}
use Rattle.jl_effects.specs.Effects.{Part, End, Fail, Step, Look, Change, Begin, Print, Perform, Emit, ◌>>=◌, job}
use Rattle.jl_effects.specs.Effects.{Row, row}
use Rattle.jl_effects.specs.Running.{Language, RunState, nothing_done, Ends, Fails, Over, Spent, run}
use Rattle.jl_effects.specs.Running.{any, everything, keeping}
use Rattle.jl_effects.specs.Traces.{quietly}
use Rattle.jl_effects.specs.Matching.{Matches, ends, both, extra, told, silent, own, spare}
use Rattle.jl_effects.specs.Matching.{begins, JobsMatch, ArePaired, IsWithin, Simulates}
use Rattle.jl_effects.specs.Following.{CallsFollow, PartFollows}
use Rattle.jl_effects.proofs.Chains.{run_then_nothing}
use Rattle.jl_effects.proofs.Match.{row_matches}
use Rattle.jl_effects.proofs.Simulation.{simulates}
use Rattle.jl_effects.proofs.Follow.{within_prefixed}
use Rattle.jl_effects.proofs.MatchRuns.{follows}
use Rattle.jl_effects.proofs.Rows.{row_follows}

-- A counter: the store is its number, and a change is one up or one down. There is room for six bytes.
data Count : Type 0 where
  up : Count
  down : Count

data Trouble : Type 0 where
  too_long : Trouble
  broken : Trouble

abbrev counted : Count → ℕ → ℕ
counted up n = suc n
counted down n = n - 1

abbrev counter : Language ℕ Count Trouble
counter = record { apply = counted; limit = 6; full = too_long }

-- A job is a turn of a loop, which ends with a number. An operation is a number.
abbrev Counting : Type 0 → Type 0
Counting A = Part ℕ Count Trouble (Unit {0}) ℕ ℕ A

-- what a run has come to that has this number, output, operations and hooks
abbrev at : ℕ → List ℕ → List ℕ → List ℕ → RunState ℕ ℕ
at n output operations hooks = record { store = n; output = output; operations = operations; hooks = hooks }

-- At 0 the loop ends, and else it counts down, prints the digit that is left, and has its next turn.
abbrev count : ℕ → Counting ℕ
count zero = End 9
count (suc n) = Change down (Print ((48 + n) ∷ []) (job tt))

abbrev turn : Unit {0} → Counting ℕ
turn u = Look count

-- from 2 the loop has three turns
loops : run counter everything turn 5 (job tt) (nothing_done 2) ≡ Over (Ends 9) 2 (at 0 (49 ∷ 10 ∷ 48 ∷ 10 ∷ []) [] [])
loops = refl

-- where two steps are left it has two
spends : run counter everything turn 2 (job tt) (nothing_done 2) ≡ Spent (at 0 (49 ∷ 10 ∷ 48 ∷ 10 ∷ []) [] [])
spends = refl

-- from 4 there is no room for the fourth line
fills : run counter everything turn 9 (job tt) (nothing_done 4)
    ≡ Over (Fails too_long) 5 (at 0 (51 ∷ 10 ∷ 50 ∷ 10 ∷ 49 ∷ 10 ∷ []) [] [])
fills = refl

-- a part that changes the store, and one that looks at it
passes_on : run counter everything turn 1 (Change up (End 3) >>= (λ n. Step (Look (λ m. End (m + n))))) (nothing_done 2)
    ≡ Over (Ends 6) 0 (at 3 [] [] [])
passes_on = refl

-- a fault ends the run, and takes no step
fails_here : run counter everything turn 4 (Step (Fail broken) >>= (λ n. Step (End (n + 1)))) (nothing_done 2)
    ≡ Over (Fails broken) 3 (at 2 [] [] [])
fails_here = refl

-- An expression performs the operation 7. In the rewritten script it is a call of a hook, which takes two steps more
-- and emits it.
abbrev own_part : Counting ℕ
own_part = Step (Perform 7 (End 1))

abbrev hooked_part : Counting ℕ
hooked_part = Step (Step (Step (Emit 7 (End 1))))

own_runs : run counter everything turn 4 own_part (nothing_done 2) ≡ Over (Ends 1) 3 (at 2 [] (7 ∷ []) [])
own_runs = refl

hooked_runs : run counter everything turn 4 hooked_part (nothing_done 2) ≡ Over (Ends 1) 1 (at 2 [] [] (7 ∷ []))
hooked_runs = refl

-- with another operation kept the hook adds nothing
hooked_keeps : run counter (keeping (nat_eq 5)) turn 4 hooked_part (nothing_done 2) ≡ Over (Ends 1) 1 (at 2 [] [] [])
hooked_keeps = refl

-- a quiet run does not see what the script performs
own_quietly : run counter (quietly any) turn 4 own_part (nothing_done 2) ≡ Over (Ends 1) 3 (at 2 [] [] [])
own_quietly = refl

-- so there an operation after a part makes no difference
noted_after : (n : ℕ) (p : Counting ℕ) (w : RunState ℕ ℕ)
    → run counter (quietly any) turn n (p >>= (λ a. Look (λ s. Perform (s + a) (End a)))) w
    ≡ run counter (quietly any) turn n p w
noted_after n p w =
    run_then_nothing counter (quietly any) turn (λ a. Look (λ s. Perform (s + a) (End a))) (λ a m v. refl) n p w

no_pair : Unit {0} → Unit {0} → Type 0
no_pair i j = ⊥

-- the hook matches the operation, whatever is kept; its two steps are paid for by the 31 that the step of both is worth
hooked_matches : (kept : ℕ → Bool) {IsPair : Unit {0} → Unit {0} → Type 0} {s : ℕ} (c : ℕ)
    → Matches counted kept IsPair s c c own_part hooked_part
hooked_matches kept {IsPair} {s} c = both (extra (extra (told (ends (omega arith)))))

-- where 7 is not kept the expression may keep its form, and matches itself
form_matches : (c : ℕ) → Matches counted (nat_eq 5) no_pair 2 c c own_part own_part
form_matches c = both (silent refl (own (ends (omega arith))))

-- A builtin calls a function and adds one; in another table of jobs the call is the rewritten one. Its own faults are
-- none of the program's but the one that they are mapped to.
abbrev adds_one : Row ℕ Count (Unit {0}) (Unit {0}) ℕ ℕ
adds_one = Begin tt (λ n. Change up (End (n + 1)))

abbrev own_call : Unit {0} → Counting ℕ
own_call u = own_part

abbrev hooked_call : Unit {0} → Counting ℕ
hooked_call u = hooked_part

abbrev of_row : Unit {0} → Trouble
of_row u = too_long

row_runs : run counter everything own_call 4 (row (λ c. c) of_row adds_one) (nothing_done 2)
    ≡ Over (Ends 2) 2 (at 3 [] (7 ∷ []) [])
row_runs = refl

row_runs_hooked : run counter everything hooked_call 4 (row (λ c. c) of_row adds_one) (nothing_done 2)
    ≡ Over (Ends 2) 0 (at 3 [] [] (7 ∷ []))
row_runs_hooked = refl

abbrev fails_after_a_step : Row ℕ Count (Unit {0}) (Unit {0}) ℕ ℕ
fails_after_a_step = Step (Fail tt)

row_fails : run counter everything own_call 4 (row (λ c. c) of_row fails_after_a_step) (nothing_done 2)
    ≡ Over (Fails too_long) 3 (at 2 [] [] [])
row_fails = refl

-- so the row over the rewritten call simulates the row over the call
calls_match : JobsMatch counted any (ArePaired (λ u. u) (λ u. u)) own_call hooked_call
calls_match i j pair s = spare (omega arith) (hooked_matches any 0)

row_simulates : (s : ℕ) → Simulates any
    (λ n. run counter everything own_call n (row (λ c. c) of_row adds_one) (nothing_done s))
    (λ n. run counter everything hooked_call n (row (λ c. c) of_row adds_one) (nothing_done s))
row_simulates s =
    simulates counter any (ArePaired (λ u. u) (λ u. u)) own_call hooked_call calls_match s _ _
    (spare (omega arith) (row_matches counted any (ArePaired (λ u. u) (λ u. u)) (λ c. c) of_row (λ c. (c, refl, refl))
    adds_one s 0))

-- and it follows, since the calls do
abbrev job_of : Unit {0} → Counting ℕ
job_of u = job u

calls_follow : CallsFollow counter any (IsWithin any) (λ c. c) own_call hooked_call
calls_follow k v n =
    follows counter any (ArePaired (λ u. u) (λ u. u)) own_call hooked_call calls_match n (calls_begin k v.store)
    v.output
    v.operations v.hooks
  where
    calls_begin : (k : Unit {0}) (s : ℕ)
        → Matches counted any (ArePaired (λ u. u) (λ u. u)) s 0 0 (job_of k) (job_of k)
    calls_begin k s = begins (k, refl, refl) (λ end t. ends (omega arith))

row_follows_calls : PartFollows counter any (IsWithin any) own_call hooked_call (row (λ c. c) of_row adds_one)
row_follows_calls =
    row_follows counter any (IsWithin any) (within_prefixed any) (λ c. c) of_row own_call hooked_call calls_follow
    adds_one
