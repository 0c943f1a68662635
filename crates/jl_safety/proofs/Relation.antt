-- Parts of a sound script: none fails by Misuse, and statements complete only as what stands round them allows. How
-- such parts are put together.
use Rattle.std.proofs.Common.{◌≡◌, List, Bool, true, false, refl}
use Rattle.std.specs.Prelude.{if◌then◌else◌}
use Rattle.jl_ast.specs.Tree.{Text}
use Rattle.jl_value.specs.declared.ending.Completion.{Completion}
use Rattle.jl_value.specs.declared.ending.Completion.TheVariants as completion
use Rattle.jl_value.specs.declared.value.Value.{Value}
use Rattle.jl_op.specs.Operations.{Operation}
use Rattle.jl_effects.specs.Effects.{and_then, End, Look, Perform, Step}
use Rattle.jl_effects.specs.inner.Steady.{IsSteady}
use Rattle.jl_effects.proofs.Steady.{row_steady, steady_then, steady_weaken}
use Rattle.jl_meaning.specs.Changes.{apply}
use Rattle.jl_meaning.specs.Completions.{ends_as, if_normal, normal, on_given, then_do}
use Rattle.jl_meaning.specs.Mean.{IsNoMisuse}
use Rattle.jl_meaning.specs.Parts.{answer_of, begin_call, do_loop, fault_of, for_in_loop, for_loop, give, continue_with}
use Rattle.jl_meaning.specs.Parts.{gives, lift, throw, throws, while_loop, ◌>>=◌, Algorithm, AlgorithmFault, Answer}
use Rattle.jl_meaning.specs.Parts.{Call, CallOf, CodeFromText, Job, Loop, NumberOutside, Part, StringTooLong, Turn}
use Rattle.jl_meaning.specs.Parts.{TurnOf, Unsupported}
use Rattle.jl_meaning.specs.Store.{Store}
use Rattle.jl_meaning.specs.forms.Names.{is_hooks}
use Rattle.jl_safety.specs.inner.Jumps.{in_a_loop, AllJumpsFit, Around, MayComplete}
use Rattle.jl_safety.specs.inner.Sound.{AreSound, IsSound, IsSoundIfPresent}
use Rattle.jl_safety.proofs.Changes.{keeps_change, keeps_same, keeps_then, Keeps}

-- the parts of a loop that has these labels
abbrev pub LoopIsSound : Around → (own : List Text) → Loop → Type 0
LoopIsSound a own (do_loop l e) = AllJumpsFit (in_a_loop own a) l × AreSound l × IsSound e
LoopIsSound a own (while_loop e l) = AllJumpsFit (in_a_loop own a) l × AreSound l × IsSound e
LoopIsSound a own (for_loop e u l) =
    AllJumpsFit (in_a_loop own a) l × AreSound l × IsSoundIfPresent e × IsSoundIfPresent u
LoopIsSound a own (for_in_loop x y rest l) = AllJumpsFit (in_a_loop own a) l × AreSound l × (is_hooks x ≡ false)

-- the jobs of a sound script, and what each may end with
pub data SoundJob : Type 0 where
  sound_call : Call → SoundJob
  sound_turn : (a : Around) → (t : Turn) → LoopIsSound a t.labels t.loop → SoundJob

abbrev pub job_of : SoundJob → Job
job_of (sound_call c) = CallOf c
job_of (sound_turn a t h) = TurnOf t

abbrev pub MayEnd : SoundJob → Completion → Type 0
MayEnd (sound_call c) how = Unit {0}
MayEnd (sound_turn a t h) how = MayComplete a how

-- from this store on
abbrev pub From : {A : Type 0} → Store → (A → Store → Type 0) → Part A → Type 0
From s E p = IsSteady apply Keeps IsNoMisuse job_of MayEnd s E p

pub from_then : {A B : Type 0} (s : Store) (E : A → Store → Type 0) (E' : B → Store → Type 0) (p : Part A)
    (k : A → Part B) → From s E p → ((a : A) (t : Store) → E a t → From t E' (k a)) → From s E' (and_then p k)
from_then s E E' p k x f = steady_then apply Keeps IsNoMisuse job_of MayEnd s E E' p k x f

pub from_weaken : {A : Type 0} (s : Store) (E E' : A → Store → Type 0) (p : Part A)
    → ((a : A) (t : Store) → E a t → E' a t) → From s E p → From s E' p
from_weaken s E E' p f x = steady_weaken apply Keeps IsNoMisuse job_of MayEnd s E E' p f x

-- no algorithm fails by Misuse
own_faults : (e : AlgorithmFault) → IsNoMisuse (fault_of e)
own_faults NumberOutside is = cc
own_faults StringTooLong is = cc
own_faults (Unsupported b) is = cc
own_faults CodeFromText is = cc

pub lift_from : {A : Type 0} (p : Algorithm A) (s : Store) → From s (λ a t. Keeps s t) (lift p)
lift_from p s =
    row_steady apply Keeps IsNoMisuse job_of MayEnd CallOf fault_of (λ c. (sound_call c, refl)) own_faults keeps_change
    keeps_then s Operation keeps_same p

-- A part that gives or throws; a record, so that a goal says of which part it is.
pub record Safe {A : Type 0} (p : Part (Answer A)) : Type 0 where
  pub at : (s : Store) → From s (λ a t. Keeps s t) p

-- a statement's part
pub record Completes (a : Around) (p : Part Completion) : Type 0 where
  pub at : (s : Store) → From s (λ how t. Keeps s t × MayComplete a how) p

-- from a later store on
pub safe_later : {A : Type 0} {p : Part (Answer A)} → Safe p → (s t : Store) → Keeps s t
    → From t (λ a u. Keeps s u) p
safe_later {p = p} x s t kept =
    from_weaken t (λ a u. Keeps t u) (λ a u. Keeps s u) p (λ a u k. keeps_then s t u kept k) (x.at t)

pub completes_later : {a : Around} {p : Part Completion} → Completes a p → (s t : Store) → Keeps s t
    → From t (λ how u. Keeps s u × MayComplete a how) p
completes_later {a = a} {p = p} x s t kept =
    from_weaken t (λ how u. Keeps t u × MayComplete a how) (λ how u. Keeps s u × MayComplete a how) p
    (λ how u k. (keeps_then s t u kept k.0, k.1)) (x.at t)

-- ANSWERS
pub ok : {A : Type 0} (a : A) → Safe (give a)
ok a = record { at = λ s. keeps_same s }

pub thrown : {A : Type 0} (v : Value) → Safe {A = A} (throw v)
thrown v = record { at = λ s. keeps_same s }

pub bind : {A B : Type 0} {p : Part (Answer A)} {k : A → Part (Answer B)} → Safe p → ((a : A) → Safe (k a))
    → Safe (p >>= k)
bind {p = p} {k = k} x f = record {
  at = λ s. from_then s (λ r t. Keeps s t) (λ r t. Keeps s t) p (continue_with k) (x.at s) (λ r t kept. on s r t kept);
}
  where
    on : (s : Store) (r : Answer _) (t : Store) → Keeps s t → From t (λ r u. Keeps s u) (continue_with k r)
    on s (gives a) t kept = safe_later (f a) s t kept
    on s (throws v) t kept = kept

pub algorithm : {A : Type 0} (p : Algorithm A) → Safe (lift p)
algorithm p = record { at = λ s. lift_from p s }

pub lift_then : {A B : Type 0} (p : Algorithm A) {k : A → Part (Answer B)} → ((a : A) → Safe (k a))
    → Safe (lift p >>= k)
lift_then p f = bind (algorithm p) f

pub step_safe : {A : Type 0} {p : Part (Answer A)} → Safe p → Safe (Step p)
step_safe x = record { at = x.at }

pub look_safe : {A : Type 0} {p : Store → Part (Answer A)} → ((s : Store) → Safe (p s)) → Safe (Look p)
look_safe f = record { at = λ s. (f s).at s }

-- the script performs an operation
pub perform_safe : {A : Type 0} {g : Store → Operation} {p : Part (Answer A)} → Safe p
    → Safe (Look (λ s. Perform (g s) p))
perform_safe x = record { at = x.at }

pub call_safe : {B : Type 0} (call : Call) {k : Value → Part (Answer B)} → ((v : Value) → Safe (k v))
    → Safe (begin_call CallOf call >>= k)
call_safe call {k = k} f = record { at = λ s. (sound_call call, refl, λ r t kept e. on s (answer_of r) t kept) }
  where
    on : (s : Store) (r : Answer Value) (t : Store) → Keeps s t → From t (λ r u. Keeps s u) (continue_with k r)
    on s (gives v) t kept = safe_later (f v) s t kept
    on s (throws v) t kept = kept

pub pick_safe : {A : Type 0} (b : Bool) {p q : Part (Answer A)} → Safe p → Safe q → Safe (if b then p else q)
pick_safe true x y = x
pick_safe false x y = y

-- STATEMENTS
module _ {a : Around} where
  pub completed : {how : Completion} → MayComplete a how → Completes a (End how)
  completed h = record { at = λ s. (keeps_same s, h) }

  pub normally : Completes a normal
  normally = record { at = λ s. (keeps_same s, tt) }

  -- a value, and then a statement
  pub value_then : {A : Type 0} {p : Part (Answer A)} {k : A → Part Completion} → Safe p
      → ((v : A) → Completes a (k v)) → Completes a (and_then p (on_given k))
  value_then {p = p} {k = k} x f = record {
    at = λ s.
        from_then s (λ r t. Keeps s t) (λ how t. Keeps s t × MayComplete a how) p (on_given k) (x.at s)
        (λ r t kept. on s r t kept);
  }
    where
      on : (s : Store) (r : Answer _) (t : Store) → Keeps s t
          → From t (λ how u. Keeps s u × MayComplete a how) (on_given k r)
      on s (gives v) t kept = completes_later (f v) s t kept
      on s (throws v) t kept = (kept, tt)

  pub pick_completes : (b : Bool) {p q : Part Completion} → Completes a p → Completes a q
      → Completes a (if b then p else q)
  pick_completes true x y = x
  pick_completes false x y = y

  pub step_completes : {p : Part Completion} → Completes a p → Completes a (Step p)
  step_completes x = record { at = x.at }

  pub look_completes : {p : Store → Part Completion} → ((s : Store) → Completes a (p s)) → Completes a (Look p)
  look_completes f = record { at = λ s. (f s).at s }

  pub perform_completes : {g : Store → Operation} {p : Part Completion} → Completes a p
      → Completes a (Look (λ s. Perform (g s) p))
  perform_completes x = record { at = x.at }

  -- a statement, and then what follows each completion that it may have
  pub completion_then : {b : Around} {p : Part Completion} {k : Completion → Part Completion} → Completes b p
      → ((how : Completion) → MayComplete b how → Completes a (k how)) → Completes a (and_then p k)
  completion_then {b = b} {p = p} {k = k} x f = record {
    at = λ s.
        from_then s (λ how t. Keeps s t × MayComplete b how) (λ how t. Keeps s t × MayComplete a how) p k (x.at s)
        (λ how t h. completes_later (f how h.1) s t h.0);
  }

  -- statements one after another
  pub sequence : {p q : Part Completion} → Completes a p → Completes a q → Completes a (then_do p q)
  sequence {q = q} x y = completion_then x on
    where
      on : (how : Completion) → MayComplete a how → Completes a (if_normal q how)
      on completion.Normal h = y
      on (completion.Return v) h = completed h
      on (completion.Throw v) h = completed h
      on (completion.Break l) h = completed h
      on (completion.Continue l) h = completed h

  -- a part whose completion becomes another
  pub ending : {b : Around} (f : Completion → Completion) {p : Part Completion} → Completes b p
      → ((how : Completion) → MayComplete b how → MayComplete a (f how)) → Completes a (ends_as f p)
  ending f x h = completion_then x (λ how e. completed (h how e))

-- what a statement completes with, and then an answer
pub answer_then : {a : Around} {A : Type 0} {p : Part Completion} {k : Completion → Part (Answer A)} → Completes a p
    → ((how : Completion) → MayComplete a how → Safe (k how)) → Safe (and_then p k)
answer_then {a = a} {p = p} {k = k} x f = record {
  at = λ s.
      from_then s (λ how t. Keeps s t × MayComplete a how) (λ r t. Keeps s t) p k (x.at s)
      (λ how t h. safe_later (f how h.1) s t h.0);
}
