-- Parts of a script that pay for what their hooks emit, and how they are put together.
use Rattle.std.proofs.Common.{ℕ, suc, ◌+◌, ◌≤◌, Bool, true, false, arith}
use Rattle.std.specs.Prelude.{if◌then◌else◌}
use Rattle.jl_value.specs.declared.ending.Completion.{Completion}
use Rattle.jl_value.specs.declared.ending.Completion.TheVariants as completion
use Rattle.jl_value.specs.declared.ending.Fault.{Fault}
use Rattle.jl_value.specs.declared.value.Value.{Value}
use Rattle.jl_op.specs.Operations.{Operation}
use Rattle.jl_effects.specs.Effects.{and_then, Begin, Emit, End, Fail, Look, Perform, Step}
use Rattle.jl_meaning.specs.Completions.{ends_as, if_normal, on_given, then_do}
use Rattle.jl_meaning.specs.Parts.{answer_of, begin_call, continue_with, fault_of, give, gives, lift, throws, ◌>>=◌}
use Rattle.jl_meaning.specs.Parts.{Algorithm, Answer, Call, CallOf, Job, Part}
use Rattle.jl_meaning.specs.Store.{Store}
use Rattle.jl_effects.specs.Credit.{Pays}
use Rattle.jl_effects.proofs.Credit.{pays_more, pays_then, row_pays}

-- a part that begins with so much, and leaves so much; a record, so that a goal says of which part it is
pub record Paid (credit left : ℕ) {A : Type 0} (p : Part A) : Type 0 where
  pub at : Pays (λ a. left) p credit

-- a part that leaves so much more where it gives a value
abbrev pub more_of : {A : Type 0} → (A → ℕ) → (left : ℕ) → Answer A → ℕ
more_of more left (gives a) = more a + left
more_of more left (throws v) = left

pub record Gains {A : Type 0} (more : A → ℕ) (credit left : ℕ) (p : Part (Answer A)) : Type 0 where
  pub at : Pays (λ r. more_of more left r) p credit

-- an expression leaves one more, since it takes a step when it begins
abbrev pub Earns : {A : Type 0} → Part A → Type 0
Earns p = Paid 0 1 p

pub add : {A : Type 0} {credit left : ℕ} {p : Part A} (d : ℕ) → Paid credit left p → Paid (credit + d) (left + d) p
add {credit = c} {left = l} {p = p} d x = record {
  at = pays_more (λ a. l) (λ a. l + d) p c (c + d) (omega arith) (λ a. omega arith) x.at;
}

pub weaken : {A : Type 0} {credit left : ℕ} {p : Part A} (credit' left' : ℕ) → credit ≤ credit' → left' ≤ left
    → Paid credit left p → Paid credit' left' p
weaken {credit = c} {left = l} {p = p} c' l' h k x = record {
  at = pays_more (λ a. l) (λ a. l') p c c' h (λ a. omega arith) x.at;
}

pub free : {A : Type 0} {p : Part A} → Earns p → {d : ℕ} → Paid d d p
free {p = p} x {d = d} = record {
  at = pays_more (λ a. 1) (λ a. d) p 0 d (omega arith) (λ a. omega arith) x.at;
}

pub ended : {A : Type 0} (a : A) {d : ℕ} → Paid d d (End a)
ended a {d = d} = record { at = let same : d ≤ d = omega arith in same }

pub ok : {A : Type 0} (a : A) {d : ℕ} → Paid d d (give a)
ok a = ended (gives a)

pub fails : {A : Type 0} {credit left : ℕ} (f : Fault) → Paid credit left {A = A} (Fail f)
fails f = record { at = tt }

-- parts in a row
pub in_a_row : {A B : Type 0} {credit middle left : ℕ} {p : Part A} {k : A → Part B} → Paid credit middle p
    → ((a : A) → Paid middle left (k a)) → Paid credit left (and_then p k)
in_a_row {credit = c} {middle = m} {left = l} {p = p} {k = k} x f = record {
  at = pays_then (λ a. m) (λ b. l) p k c x.at (λ a. (f a).at);
}

-- ANSWERS
pub bind : {A B : Type 0} {credit left : ℕ} {p : Part (Answer A)} {k : A → Part (Answer B)} → Paid credit left p
    → ((a : A) → Paid left left (k a)) → Paid credit left (p >>= k)
bind {left = l} {k = k} x f = in_a_row x on
  where
    on : (r : Answer _) → Paid l l (continue_with k r)
    on (gives a) = f a
    on (throws v) = ended _

-- where what the first gives more is taken by the second
pub gain : {A B : Type 0} (more : A → ℕ) {credit left : ℕ} {p : Part (Answer A)} {k : A → Part (Answer B)}
    → Gains more credit left p → ((a : A) → Paid (more a + left) left (k a)) → Paid credit left (p >>= k)
gain more {credit = c} {left = l} {p = p} {k = k} x f = record {
  at = pays_then (λ r. more_of more l r) (λ b. l) p (continue_with k) c x.at on;
}
  where
    on : (r : Answer _) → Pays (λ b. l) (continue_with k r) (more_of more l r)
    on (gives a) = (f a).at
    on (throws v) = let same : l ≤ l = omega arith in same

pub algorithm : {A : Type 0} (p : Algorithm A) {d : ℕ} → Paid d d (lift p)
algorithm p {d = d} = record { at = row_pays Operation CallOf fault_of p d d (omega arith) }

pub lift_then : {A B : Type 0} (p : Algorithm A) {d left : ℕ} {k : A → Part (Answer B)} → left ≤ d
    → ((a : A) → Paid d left (k a)) → Paid d left (lift p >>= k)
lift_then p {d = d} {left = left} {k = k} h f = in_a_row (algorithm p {d = d}) on
  where
    on : (r : Answer _) → Paid d left (continue_with k r)
    on (gives a) = f a
    on (throws v) = record { at = h }

pub step_paid : {A : Type 0} {credit left : ℕ} {p : Part A} → Paid (suc credit) left p → Paid credit left (Step p)
step_paid x = record { at = x.at }

pub look_paid : {A : Type 0} {credit left : ℕ} {p : Store → Part A} → ((s : Store) → Paid credit left (p s))
    → Paid credit left (Look p)
look_paid f = record { at = λ s. (f s).at }

pub perform_now : {A : Type 0} {credit left : ℕ} {o : Operation} {p : Part A} → Paid credit left p
    → Paid credit left (Perform o p)
perform_now x = record { at = x.at }

-- the script performs an operation
pub perform_paid : {A : Type 0} {credit left : ℕ} {g : Store → Operation} {p : Part A} → Paid credit left p
    → Paid credit left (Look (λ s. Perform (g s) p))
perform_paid x = record { at = λ s. x.at }

-- a hook emits one
pub emit_paid : {A : Type 0} {credit left : ℕ} {g : Store → Operation} {p : Part A} → Paid credit left p
    → Paid (suc credit) left (Look (λ s. Emit (g s) p))
emit_paid x = record { at = λ s. x.at }

pub call_paid : {B : Type 0} (call : Call) {credit left : ℕ} {k : Value → Part (Answer B)} → left ≤ suc credit
    → ((v : Value) → Paid (suc credit) left (k v)) → Paid credit left (begin_call CallOf call >>= k)
call_paid call {credit = credit} {left = left} {k = k} h f = record { at = λ end. (on (answer_of end)).at }
  where
    on : (r : Answer Value) → Paid (suc credit) left (continue_with k r)
    on (gives v) = f v
    on (throws v) = record { at = h }

pub pick : {A : Type 0} {credit left : ℕ} (b : Bool) {p q : Part A} → Paid credit left p → Paid credit left q
    → Paid credit left (if b then p else q)
pick true x y = x
pick false x y = y

-- STATEMENTS
-- a value, and then a statement
pub value_then : {A : Type 0} {d : ℕ} {p : Part (Answer A)} {k : A → Part Completion} → Paid d d p
    → ((v : A) → Paid d d (k v)) → Paid d d (and_then p (on_given k))
value_then {d = d} {k = k} x f = in_a_row x on
  where
    on : (r : Answer _) → Paid d d (on_given k r)
    on (gives v) = f v
    on (throws v) = ended _

pub sequence : {d : ℕ} {p q : Part Completion} → Paid d d p → Paid d d q → Paid d d (then_do p q)
sequence {d = d} {q = q} x y = in_a_row x on
  where
    on : (how : Completion) → Paid d d (if_normal q how)
    on completion.Normal = y
    on (completion.Return v) = ended _
    on (completion.Throw v) = ended _
    on (completion.Break l) = ended _
    on (completion.Continue l) = ended _

pub ending : {d : ℕ} (f : Completion → Completion) {p : Part Completion} → Paid d d p → Paid d d (ends_as f p)
ending f x = in_a_row x (λ how. ended _)

-- a job begins, which takes a step
pub begin_free : {d : ℕ} (job : Job) → Paid d d (Begin job End)
begin_free {d = d} job = record { at = λ end. let more : d ≤ suc d = omega arith in more }

-- what takes a step has no less than before
pub step_free : {A : Type 0} {d : ℕ} {p : Part A} → Paid d d p → Paid d d (Step p)
step_free {d = d} {p = p} x = record {
  at = pays_more (λ a. d) (λ a. d) p d (suc d) (omega arith) (λ a. omega arith) x.at;
}

-- PARTS THAT EMIT
-- where the first leaves less than it has
pub down : {A B : Type 0} {credit left : ℕ} (middle : ℕ) {p : Part (Answer A)} {k : A → Part (Answer B)}
    → left ≤ middle → Paid credit middle p → ((a : A) → Paid middle left (k a)) → Paid credit left (p >>= k)
down {left = l} middle {k = k} h x f = in_a_row x on
  where
    on : (r : Answer _) → Paid middle l (continue_with k r)
    on (gives a) = f a
    on (throws v) = record { at = h }

pub emit_now : {A : Type 0} {credit left : ℕ} {o : Operation} {p : Part A} → Paid credit left p
    → Paid (suc credit) left (Emit o p)
emit_now x = record { at = x.at }

pub gives_more : {A : Type 0} (more : A → ℕ) (a : A) {credit left : ℕ} → more a + left ≤ credit
    → Gains more credit left (give a)
gives_more more a h = record { at = h }

pub down_gains : {A B : Type 0} (more : B → ℕ) {credit left : ℕ} (middle : ℕ) {p : Part (Answer A)}
    {k : A → Part (Answer B)} → left ≤ middle → Paid credit middle p → ((a : A) → Gains more middle left (k a))
    → Gains more credit left (p >>= k)
down_gains more {credit = c} {left = l} middle {p = p} {k = k} h x f = record {
  at = pays_then (λ r. middle) (λ r. more_of more l r) p (continue_with k) c x.at on;
}
  where
    on : (r : Answer _) → Pays (λ r. more_of more l r) (continue_with k r) middle
    on (gives a) = (f a).at
    on (throws v) = h

pub gains_with : {A : Type 0} (more : A → ℕ) {credit left : ℕ} {p : Part (Answer A)} (credit' : ℕ) → credit ≤ credit'
    → Gains more credit left p → Gains more credit' left p
gains_with more {credit = c} {left = l} {p = p} c' h x = record {
  at = pays_more (λ r. more_of more l r) (λ r. more_of more l r) p c c' h (λ r. omega arith) x.at;
}
