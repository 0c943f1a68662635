-- Two scripts that are the same but for their places, and what they do: the same but for the ids of what they perform
-- and for the places in the loops whose turns they begin. How such parts are put together.
use Rattle.std.proofs.Common.{◌≡◌, ℕ, ◌+◌, Bool, true, false, refl, subst}
use Rattle.std.specs.Prelude.{if◌then◌else◌}
use Rattle.jl_ast.specs.Spans.{map_forest, map_optional, map_tree}
use Rattle.jl_value.specs.declared.ending.Completion.{Completion}
use Rattle.jl_value.specs.declared.ending.Completion.TheVariants as completion
use Rattle.jl_value.specs.declared.value.Value.{Value}
use Rattle.jl_op.specs.Operations.{Operation}
use Rattle.jl_op.specs.declared.op.Op.{Op}
use Rattle.jl_effects.specs.Effects.{and_then, Look, Perform}
use Rattle.jl_meaning.specs.Completions.{ends_as, if_normal, on_given, then_do}
use Rattle.jl_meaning.specs.Parts.{answer_of, begin_call, continue_with, do_loop, fault_of, for_in_loop, for_loop}
use Rattle.jl_meaning.specs.Parts.{gives, lift, throws, while_loop, ◌>>=◌, Algorithm, Answer, Call, CallOf, Job, Loop}
use Rattle.jl_meaning.specs.Parts.{Part, Turn, TurnOf}
use Rattle.jl_meaning.specs.Store.{Store}
use Rattle.jl_operation_rows.proofs.Pairs.{begins, ends, looks, paired_then, performs, row_paired, silent_paired}
use Rattle.jl_operation_rows.proofs.Pairs.{Paired}
use Rattle.jl_operation_rows.proofs.Relation.{IsBegun, IsOwn, Performs}

-- What two trees have for the places of a third, and what an id of the first tree is in the second. A node takes three
-- ids at most.
pub record Renaming : Type 0 where
  pub from : ℕ → ℕ
  pub to : ℕ → ℕ
  pub rename : ℕ → ℕ
  pub first : (s : ℕ) → rename (from s) ≡ to s
  pub second : (s : ℕ) → rename (from s + 1) ≡ to s + 1
  pub third : (s : ℕ) → rename (from s + 2) ≡ to s + 2

-- one id in both; a record, so that a goal says which
pub record Twin (r : Renaming) (i j : ℕ) : Type 0 where
  pub same : r.rename i ≡ j

-- the three ids of one node
pub record Twins (r : Renaming) (i j : ℕ) : Type 0 where
  pub first : Twin r i j
  pub second : Twin r (i + 1) (j + 1)
  pub third : Twin r (i + 2) (j + 2)

pub at_first : (r : Renaming) (s : ℕ) → Twin r (r.from s) (r.to s)
at_first r s = record { same = r.first s }

pub at_place : (r : Renaming) (s : ℕ) → Twins r (r.from s) (r.to s)
at_place r s =
    record { first = at_first r s; second = record { same = r.second s }; third = record { same = r.third s } }

-- the same operation, each with its own id
pub record SameOperation (r : Renaming) (a b : Operation) : Type 0 where
  pub ids : Twin r a.0.0 b.0.0
  pub same : b.1 ≡ a.1

-- turns of loops with other places
abbrev pub map_loop : (ℕ → ℕ) → Loop → Loop
map_loop f (do_loop l e) = do_loop (map_forest f l) (map_tree f e)
map_loop f (while_loop e l) = while_loop (map_tree f e) (map_forest f l)
map_loop f (for_loop e u l) = for_loop (map_optional f e) (map_optional f u) (map_forest f l)
map_loop f (for_in_loop x y rest l) = for_in_loop x y rest (map_forest f l)

abbrev pub map_turn : (ℕ → ℕ) → Turn → Turn
map_turn f t = record { loop = map_loop f t.loop; context = t.context; labels = t.labels; id = f t.id }

pub data SameJob (r : Renaming) : Job → Job → Type 0 where
  same_call : (c : Call) → SameJob r (CallOf c) (CallOf c)
  same_turn : (t : Turn) → SameJob r (TurnOf (map_turn r.from t)) (TurnOf (map_turn r.to t))

abbrev pub Same : Renaming → {A : Type 0} → Part A → Part A → Type 0
Same r p q = Paired (SameOperation r) (SameJob r) p q

module _ {r : Renaming} where
  -- parts in a row
  pub then_same : {A B : Type 0} {p q : Part A} {k l : A → Part B} → Same r p q → ((a : A) → Same r (k a) (l a))
      → Same r (and_then p k) (and_then q l)
  then_same x f = paired_then (SameOperation r) (SameJob r) x f

  pub bind : {A B : Type 0} {p q : Part (Answer A)} {k l : A → Part (Answer B)} → Same r p q
      → ((a : A) → Same r (k a) (l a)) → Same r (p >>= k) (q >>= l)
  bind {k = k} {l = l} x f = then_same x on
    where
      on : (a : Answer _) → Same r (continue_with k a) (continue_with l a)
      on (gives a) = f a
      on (throws v) = ends

  -- what a statement does with a value
  pub value_then : {A : Type 0} {p q : Part (Answer A)} {k l : A → Part Completion} → Same r p q
      → ((a : A) → Same r (k a) (l a)) → Same r (and_then p (on_given k)) (and_then q (on_given l))
  value_then {k = k} {l = l} x f = then_same x on
    where
      on : (a : Answer _) → Same r (on_given k a) (on_given l a)
      on (gives a) = f a
      on (throws v) = ends

  pub algorithm : {A : Type 0} (p : Algorithm A) → Same r (lift p) (lift p)
  algorithm p = row_paired (SameOperation r) (SameJob r) CallOf fault_of same_call p

  pub lift_then : {A B : Type 0} (p : Algorithm A) {k l : A → Part (Answer B)} → ((a : A) → Same r (k a) (l a))
      → Same r (lift p >>= k) (lift p >>= l)
  lift_then p f = bind (algorithm p) f

  -- what performs nothing and begins no turn, as a hook
  pub silent : {A : Type 0} {p : Part A} → Performs (λ e. ⊥) (λ t. ⊥) p → Same r p p
  silent {p = p} x =
      silent_paired (SameOperation r) (SameJob r) (IsOwn (λ e. ⊥)) (IsBegun (λ t. ⊥)) (λ o own. own.0) itself p x.at
    where
      itself : (j : Job) → IsBegun (λ t. ⊥) j → SameJob r j j
      itself (CallOf c) h = same_call c
      itself (TurnOf t) h = absurd h

  -- the script performs an operation
  pub perform_now : {A : Type 0} {i j : ℕ} {o : Op} {p q : Part A} → Twin r i j → Same r p q
      → Same r (Perform (record { 0 = i }, o) p) (Perform (record { 0 = j }, o) q)
  perform_now h x = performs (record { ids = h; same = refl }) x

  pub perform : {A : Type 0} {i j : ℕ} {o : Store → Op} {p q : Part A} → Twin r i j → Same r p q
      → Same r (Look (λ s. Perform (record { 0 = i }, o s) p)) (Look (λ s. Perform (record { 0 = j }, o s) q))
  perform h x = looks (λ s. perform_now h x)

  pub call_same : {B : Type 0} (call : Call) {k l : Value → Part (Answer B)} → ((v : Value) → Same r (k v) (l v))
      → Same r (begin_call CallOf call >>= k) (begin_call CallOf call >>= l)
  call_same call {k = k} {l = l} f = begins (same_call call) (λ end. on (answer_of end))
    where
      on : (a : Answer Value) → Same r (continue_with k a) (continue_with l a)
      on (gives v) = f v
      on (throws v) = ends

  -- a test that goes the same way for both
  pub pick : {A : Type 0} (b : Bool) {p q p' q' : Part A} → Same r p p' → Same r q q'
      → Same r (if b then p else q) (if b then p' else q')
  pick true x y = x
  pick false x y = y

  -- by what the second part is
  pub second_is : {A : Type 0} {p q q' : Part A} → q ≡ q' → Same r p q → Same r p q'
  second_is {p = p} e x = subst (λ part. Same r p part) e x

  -- STATEMENTS
  pub sequence : {p p' q q' : Part Completion} → Same r p p' → Same r q q' → Same r (then_do p q) (then_do p' q')
  sequence {q = q} {q' = q'} x y = then_same x on
    where
      on : (how : Completion) → Same r (if_normal q how) (if_normal q' how)
      on completion.Normal = y
      on (completion.Return v) = ends
      on (completion.Throw v) = ends
      on (completion.Break l) = ends
      on (completion.Continue l) = ends

  pub ending : (f : Completion → Completion) {p q : Part Completion} → Same r p q
      → Same r (ends_as f p) (ends_as f q)
  ending f x = then_same x (λ how. ends)
