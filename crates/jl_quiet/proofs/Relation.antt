-- Parts that do the same but for what the script performs and for the ids of loops, and how they are put together.
use Rattle.std.proofs.Common.{◌≡◌, Bool, true, false, refl, sym, ap, ap₂, ◌∙◌, subst}
use Rattle.std.specs.Prelude.{if◌then◌else◌}
use mathlib.Core.Path.{fun_ext}
use Rattle.jl_value.specs.declared.ending.Completion.{Completion}
use Rattle.jl_value.specs.declared.ending.Completion.TheVariants as completion
use Rattle.jl_value.specs.declared.value.Value.{Value}
use Rattle.jl_op.specs.Operations.{Operation}
use Rattle.jl_effects.specs.Effects.{and_then, Begin, Change, End, Look, Perform, Step}
use Rattle.jl_meaning.specs.Changes.{StoreChange}
use Rattle.jl_meaning.specs.Completions.{ends_as, if_normal, on_given, then_do}
use Rattle.jl_meaning.specs.Parts.{answer_of, begin_call, do_loop, for_in_loop, for_loop, continue_with, gives, lift}
use Rattle.jl_meaning.specs.Parts.{throws, while_loop, ◌>>=◌, Algorithm, Answer, Call, CallOf, Job, Loop, Part, Turn}
use Rattle.jl_meaning.specs.Parts.{TurnOf}
use Rattle.jl_meaning.specs.Store.{Store}
use Rattle.jl_quiet.proofs.Bare.{bare, bare_forest, bare_optional}
use Rattle.jl_quiet.proofs.QuietParts.{quiet_part, quiet_then}

-- jobs with no ids
abbrev pub bare_loop : Loop → Loop
bare_loop (do_loop l e) = do_loop (bare_forest l) (bare e)
bare_loop (while_loop e l) = while_loop (bare e) (bare_forest l)
bare_loop (for_loop e u l) = for_loop (bare_optional e) (bare_optional u) (bare_forest l)
bare_loop (for_in_loop x y rest l) = for_in_loop x y rest (bare_forest l)

abbrev pub bare_turn : Turn → Turn
bare_turn t = record { loop = bare_loop t.loop; context = t.context; labels = t.labels; id = 0 }

abbrev pub bare_job : Job → Job
bare_job (CallOf call) = CallOf call
bare_job (TurnOf t) = TurnOf (bare_turn t)

-- a record, so that a goal says of which parts it is
pub record Alike {A : Type 0} (p q : Part A) : Type 0 where
  pub same : quiet_part bare_job p ≡ quiet_part bare_job q

pub itself : {A : Type 0} (p : Part A) → Alike p p
itself p = record { same = refl }

-- parts in a row
pub then_alike : {A B : Type 0} {p q : Part A} {k l : A → Part B} → Alike p q → ((a : A) → Alike (k a) (l a))
    → Alike (and_then p k) (and_then q l)
then_alike {p = p} {q = q} {k = k} {l = l} x f = record {
  same = quiet_then bare_job p k
      ∙ ap₂ (λ r m. and_then r m) x.same (fun_ext (λ a. (f a).same))
      ∙ sym (quiet_then bare_job q l);
}

pub bind : {A B : Type 0} {p q : Part (Answer A)} {k l : A → Part (Answer B)} → Alike p q
    → ((a : A) → Alike (k a) (l a)) → Alike (p >>= k) (q >>= l)
bind {k = k} {l = l} x f = then_alike x on
  where
    on : (r : Answer _) → Alike (continue_with k r) (continue_with l r)
    on (gives a) = f a
    on (throws v) = record { same = refl }

-- what a statement does with a value
pub value_alike : {A : Type 0} {p q : Part (Answer A)} {k l : A → Part Completion} → Alike p q
    → ((a : A) → Alike (k a) (l a)) → Alike (and_then p (on_given k)) (and_then q (on_given l))
value_alike {k = k} {l = l} x f = then_alike x on
  where
    on : (r : Answer _) → Alike (on_given k r) (on_given l r)
    on (gives a) = f a
    on (throws v) = record { same = refl }

pub lift_alike : {A B : Type 0} (p : Algorithm A) {k l : A → Part (Answer B)} → ((a : A) → Alike (k a) (l a))
    → Alike (lift p >>= k) (lift p >>= l)
lift_alike p f = bind (itself (lift p)) f

pub step_alike : {A : Type 0} {p q : Part A} → Alike p q → Alike (Step p) (Step q)
step_alike x = record { same = ap Step x.same }

pub look_alike : {A : Type 0} {p q : Store → Part A} → ((s : Store) → Alike (p s) (q s)) → Alike (Look p) (Look q)
look_alike f = record { same = ap Look (fun_ext (λ s. (f s).same)) }

pub change_alike : {A : Type 0} {change : StoreChange} {p q : Part A} → Alike p q
    → Alike (Change change p) (Change change q)
change_alike {change = change} x = record { same = ap (Change change) x.same }

-- a call
pub begin_call_alike : {B : Type 0} (call : Call) {k l : Value → Part (Answer B)} → ((v : Value) → Alike (k v) (l v))
    → Alike (begin_call CallOf call >>= k) (begin_call CallOf call >>= l)
begin_call_alike call {k = k} {l = l} f = record {
  same = ap (Begin (CallOf call)) (fun_ext (λ end. (on (answer_of end)).same));
}
  where
    on : (r : Answer Value) → Alike (continue_with k r) (continue_with l r)
    on (gives v) = f v
    on (throws v) = record { same = refl }

-- a test that goes the same way for both
pub pick : {A : Type 0} (b : Bool) {p q p' q' : Part A} → Alike p p' → Alike q q'
    → Alike (if b then p else q) (if b then p' else q')
pick true x y = x
pick false x y = y

-- by what the second part is
pub second_is : {A : Type 0} {p q r : Part A} → q ≡ r → Alike p q → Alike p r
second_is {p = p} e x = subst (Alike p) e x

-- the script performs an operation, and the parts go on
pub perform_alike : {A : Type 0} {g h : Store → Operation} {p q : Part A} → Alike p q
    → Alike (Look (λ s. Perform (g s) p)) (Look (λ s. Perform (h s) q))
perform_alike x = record { same = ap (λ r. Look (λ s. r)) x.same }

-- statements one after another
pub sequence : {p p' q q' : Part Completion} → Alike p p' → Alike q q' → Alike (then_do p q) (then_do p' q')
sequence {q = q} {q' = q'} x y = then_alike x on
  where
    on : (how : Completion) → Alike (if_normal q how) (if_normal q' how)
    on completion.Normal = y
    on (completion.Return v) = record { same = refl }
    on (completion.Throw v) = record { same = refl }
    on (completion.Break l) = record { same = refl }
    on (completion.Continue l) = record { same = refl }

-- a part whose completion becomes another
pub ending_alike : (f : Completion → Completion) {p q : Part Completion} → Alike p q
    → Alike (ends_as f p) (ends_as f q)
ending_alike f x = then_alike x (λ how. itself (End (f how)))
