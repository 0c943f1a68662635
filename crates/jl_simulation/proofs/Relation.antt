-- How the parts of a script and of the woven script stand to one another, and what their forms need of that.
use Rattle.std.proofs.Common.{◌≡◌, ℕ, ◌≤◌, Bool, false, List, refl, sym, ap, ◌∙◌, subst, subst₂, arith}
use Rattle.std.specs.Prelude.{if◌then◌else◌}
use mathlib.Core.Path.{fun_ext}
use Rattle.jl_ast.specs.Tree.{Text}
use Rattle.jl_value.specs.declared.ending.Completion.{Completion}
use Rattle.jl_value.specs.declared.value.Value.{Value}
use Rattle.jl_op.specs.Chosen.{is_kept, Kinds}
use Rattle.jl_op.specs.Ids.{with_ids, forest_with_ids, optional_with_ids}
use Rattle.jl_op.specs.Kinds.{kind_of}
use Rattle.jl_op.specs.declared.op.Op.{Op}
use Rattle.jl_effects.specs.Effects.{End, Perform, and_then}
use Rattle.jl_effects.specs.Matching.{Matches, ends, begins, silent, plus}
use Rattle.jl_effects.proofs.Match as match
use Rattle.jl_effects.proofs.Chains.{and_then-end}
use Rattle.jl_meaning.specs.Store.{Store}
use Rattle.jl_meaning.specs.Changes.{apply}
use Rattle.jl_meaning.specs.Parts.{Context, Call, Loop, Turn, Job, CallOf, TurnOf, Part, Answer, gives, throws}
use Rattle.jl_meaning.specs.Parts.{Algorithm, continue_with, ◌>>=◌, give, lift, fault_of, answer_of, begin_call}
use Rattle.jl_meaning.specs.Parts.{do_loop, while_loop, for_loop, for_in_loop}
use Rattle.jl_meaning.proofs.Binds.{bind_assoc}
use Rattle.jl_simulation.specs.Weaving.{weave, woven_forest, woven_optional, woven_test, hook_test}
use Rattle.jl_simulation.specs.inner.Fit.{LoopFits}

-- the loop of the woven run, with any ids of its parts
abbrev pub woven_loop : (chosen : Kinds) (id j k m : ℕ) → Loop → Loop
woven_loop chosen id j k m (do_loop l e) =
    do_loop (forest_with_ids j (woven_forest chosen l)) (with_ids k (hook_test chosen id (weave chosen e)))
woven_loop chosen id j k m (while_loop e l) =
    while_loop (with_ids j (hook_test chosen id (weave chosen e))) (forest_with_ids k (woven_forest chosen l))
woven_loop chosen id j k m (for_loop e u l) =
    for_loop (optional_with_ids j (woven_test chosen id e)) (optional_with_ids k (woven_optional chosen u))
    (forest_with_ids m (woven_forest chosen l))
woven_loop chosen id j k m (for_in_loop x y rest l) = for_in_loop x y rest (forest_with_ids j (woven_forest chosen l))

abbrev pub turn_with : Loop → Context → (labels : List Text) → (id : ℕ) → Turn
turn_with l c labels id = record { loop = l; context = c; labels = labels; id = id }

-- the jobs that match: the same calls, and turns of a loop and of the woven loop
pub data AreJobs (chosen : Kinds) : Job → Job → Type 0 where
  calls : (call : Call) → AreJobs chosen (CallOf call) (CallOf call)
  turns : (l : Loop) → (c : Context) → (labels : List Text) → (id : ℕ) → LoopFits l id → (id' j k m : ℕ)
      → AreJobs chosen (TurnOf (turn_with l c labels id))
      (TurnOf (turn_with (woven_loop chosen id j k m l) c labels id'))

-- the second part matches the first from this store on, with c steps to spare before and d after
abbrev pub Matched : {A : Type 0} → Kinds → Store → (c d : ℕ) → Part A → Part A → Type 0
Matched chosen s c d p q = Matches apply (is_kept chosen) (AreJobs chosen) s c d p q

pub bind_assoc4 : {A B B' B'' C : Type 0} (q : Part (Answer A)) (f : A → Part (Answer B)) (g : B → Part (Answer B'))
    (h : B' → Part (Answer B'')) (i : B'' → Part (Answer C))
    → ((((q >>= f) >>= g) >>= h) >>= i) ≡ (q >>= (λ a. (((f a >>= g) >>= h) >>= i)))
bind_assoc4 q f g h i =
    ap (λ x. (x >>= h) >>= i) (bind_assoc q f g) ∙ ap (λ x. x >>= i) (bind_assoc q (λ a. (f a >>= g)) h)
    ∙ bind_assoc q (λ a. ((f a >>= g) >>= h)) i

-- a part, and what it gives given on
pub unit : {A : Type 0} (p : Part (Answer A)) → (p >>= give) ≡ p
unit {A} p = ap (and_then p) (fun_ext on) ∙ and_then-end p
  where
    on : (r : Answer A) → ◌≡◌ {A = Part (Answer A)} (continue_with give r) (End r)
    on (gives a) = refl
    on (throws v) = refl

module _ {chosen : Kinds} where
  -- both end, and all that may be taken is left
  pub done : {A : Type 0} {s : Store} {c : ℕ} {a : A} → Matched chosen s c c (End a) (End a)
  done = ends (omega arith)

  -- parts in a row
  pub followed : {A B : Type 0} {s : Store} {c d e : ℕ} {p q : Part A} {k l : A → Part B} → Matched chosen s c d p q
      → ((a : A) (t : Store) → Matched chosen t d e (k a) (l a)) → Matched chosen s c e (and_then p k) (and_then q l)
  followed m f = match.matches_then apply (is_kept chosen) (AreJobs chosen) m f

  -- fewer steps may be left
  pub fewer : {A : Type 0} {s : Store} {c d e : ℕ} {p q : Part A} → e ≤ d → Matched chosen s c d p q
      → Matched chosen s c e p q
  fewer le m = match.fewer apply (is_kept chosen) (AreJobs chosen) le m

  -- a test that goes the same way for both
  pub pick : {A : Type 0} {s : Store} {c d : ℕ} (b : Bool) {p q p' q' : Part A} → Matched chosen s c d p p'
      → Matched chosen s c d q q' → Matched chosen s c d (if b then p else q) (if b then p' else q')
  pick b x y = match.pick apply (is_kept chosen) (AreJobs chosen) b x y

  -- the script performs an operation of a kind that is not chosen
  pub quiet : {A : Type 0} {s : Store} {c d : ℕ} {id : ℕ} {o : Op} {p q : Part A} → chosen (kind_of o) ≡ false
      → Matched chosen s c d p q → Matched chosen s c d (Perform (record { 0 = id }, o) p) q
  unfolding is_kept
  quiet e m = silent e m

  pub bind : {A B : Type 0} {s : Store} {c d e : ℕ} {p q : Part (Answer A)} {k l : A → Part (Answer B)} → e ≤ d
      → Matched chosen s c d p q → ((a : A) (t : Store) → Matched chosen t d e (k a) (l a))
      → Matched chosen s c e (p >>= k) (q >>= l)
  bind {d = d} {e = e} {k = k} {l = l} le m f = followed m on
    where
      on : (r : Answer _) (t : Store) → Matched chosen t d e (continue_with k r) (continue_with l r)
      on (gives a) t = f a t
      on (throws v) t = ends le

  -- the second goes on alone
  pub alone : {A : Type 0} {s : Store} {c d e : ℕ} {p q : Part A} {l : A → Part A} → Matched chosen s c d p q
      → ((a : A) (t : Store) → Matched chosen t d e (End a) (l a)) → Matched chosen s c e p (and_then q l)
  alone m f = match.second_then apply (is_kept chosen) (AreJobs chosen) m f

  -- an algorithm of the standard
  pub algorithm : {A : Type 0} {s : Store} {c : ℕ} (p : Algorithm A) → Matched chosen s c c (lift p) (lift p)
  algorithm {s = s} {c = c} p = match.row_matches apply (is_kept chosen) (AreJobs chosen) CallOf fault_of calls p s c

  -- one, and then what is made of what it gives
  pub lifted : {A B : Type 0} {s : Store} {c e : ℕ} (p : Algorithm A) {k l : A → Part (Answer B)} → e ≤ c
      → ((a : A) (t : Store) → Matched chosen t c e (k a) (l a))
      → Matched chosen s c e (lift p >>= k) (lift p >>= l)
  lifted p le f = bind le (algorithm p) f

  -- a call
  pub begun : {B : Type 0} {s : Store} {c e : ℕ} (call : Call) {k l : Value → Part (Answer B)} → e ≤ c
      → ((a : Value) (t : Store) → Matched chosen t c e (k a) (l a))
      → Matched chosen s c e (begin_call CallOf call >>= k) (begin_call CallOf call >>= l)
  begun {c = c} {e = e} call {k = k} {l = l} le f = begins (calls call) (λ end t. on (answer_of end) t)
    where
      on : (r : Answer Value) (t : Store) → Matched chosen t c e (continue_with k r) (continue_with l r)
      on (gives a) t = f a t
      on (throws v) t = ends le

  -- the second's parts put together otherwise
  pub bind2 : {A B C : Type 0} {s : Store} {c d e : ℕ} {p q : Part (Answer A)} {k : A → Part (Answer C)}
      (l : A → Part (Answer B)) (m : B → Part (Answer C)) → e ≤ d → Matched chosen s c d p q
      → ((a : A) (t : Store) → Matched chosen t d e (k a) (l a >>= m))
      → Matched chosen s c e (p >>= k) ((q >>= l) >>= m)
  bind2 {s = s} {c = c} {e = e} {p = p} {q = q} {k = k} l m le x f =
      subst (Matched chosen s c e (p >>= k)) (sym (bind_assoc q l m)) (bind le x f)

  -- both parts put together otherwise
  pub bind_both : {A B C D : Type 0} {s : Store} {c d e : ℕ} {p q : Part (Answer A)} (k : A → Part (Answer B))
      (m : B → Part (Answer C)) (l : A → Part (Answer D)) (n : D → Part (Answer C)) → e ≤ d
      → Matched chosen s c d p q → ((a : A) (t : Store) → Matched chosen t d e (k a >>= m) (l a >>= n))
      → Matched chosen s c e ((p >>= k) >>= m) ((q >>= l) >>= n)
  bind_both {s = s} {c = c} {e = e} {p = p} {q = q} k m l n le x f =
      subst₂ (Matched chosen s c e) (sym (bind_assoc p k m)) (sym (bind_assoc q l n)) (bind le x f)

  -- the second's parts put together otherwise, more deeply
  pub bind3 : {A B B' C : Type 0} {s : Store} {c d e : ℕ} {p q : Part (Answer A)} {k : A → Part (Answer C)}
      (f : A → Part (Answer B)) (g : B → Part (Answer B')) (h : B' → Part (Answer C)) → e ≤ d
      → Matched chosen s c d p q → ((a : A) (t : Store) → Matched chosen t d e (k a) ((f a >>= g) >>= h))
      → Matched chosen s c e (p >>= k) (((q >>= f) >>= g) >>= h)
  bind3 {s = s} {c = c} {e = e} {p = p} {q = q} {k = k} f g h le x y =
      subst (Matched chosen s c e (p >>= k))
      (sym (ap (λ x. x >>= h) (bind_assoc q f g) ∙ bind_assoc q (λ a. (f a >>= g)) h)) (bind le x y)

  pub bind4 : {A B B' B'' C : Type 0} {s : Store} {c d e : ℕ} {p q : Part (Answer A)} {k : A → Part (Answer C)}
      (f : A → Part (Answer B)) (g : B → Part (Answer B')) (h : B' → Part (Answer B'')) (i : B'' → Part (Answer C))
      → e ≤ d → Matched chosen s c d p q
      → ((a : A) (t : Store) → Matched chosen t d e (k a) (((f a >>= g) >>= h) >>= i))
      → Matched chosen s c e (p >>= k) ((((q >>= f) >>= g) >>= h) >>= i)
  bind4 {s = s} {c = c} {e = e} {p = p} {q = q} {k = k} f g h i le x y =
      subst (Matched chosen s c e (p >>= k)) (sym (bind_assoc4 q f g h i)) (bind le x y)

-- An expression's own step is worth 31; four of these are left.
pub record ExpressionMatch (chosen : Kinds) (p q : Part (Answer Value)) : Type 0 where
  pub at : (s : Store) (c : ℕ) → Matched chosen s c (plus 4 c) p q

-- what takes no step of its own, and leaves what there is
pub record EvenMatch {A : Type 0} (chosen : Kinds) (p q : Part (Answer A)) : Type 0 where
  pub at : (s : Store) (c : ℕ) → Matched chosen s c c p q

-- a statement leaves what may be taken before it
pub record StatementMatch (chosen : Kinds) (p q : Part Completion) : Type 0 where
  pub at : (s : Store) (c : ℕ) → Matched chosen s c c p q

module _ {chosen : Kinds} where
  pub even : {p q : Part (Answer Value)} → ExpressionMatch chosen p q → EvenMatch chosen p q
  even x = record { at = λ s c. fewer (omega arith) (x.at s c) }
