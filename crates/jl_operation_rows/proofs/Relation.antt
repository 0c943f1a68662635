-- Parts of a script that perform operations of its rows alone, and how they are put together.
use Rattle.std.proofs.Common.{ℕ, zero, suc, ◌+◌, Bool, true, false}
use Rattle.std.specs.Prelude.{if◌then◌else◌}
use Rattle.jl_ast.specs.Tree as tree
use Rattle.jl_ast.specs.Tree.{Forest, OptionalTree, Sort, Tree}
use Rattle.jl_value.specs.declared.ending.Completion.{Completion}
use Rattle.jl_value.specs.declared.ending.Completion.TheVariants as completion
use Rattle.jl_value.specs.declared.ending.Fault.{Fault}
use Rattle.jl_value.specs.declared.value.Value.{Value}
use Rattle.jl_op.specs.IdMap.{entries, forest_entries, optional_entries, optional_test_entries, MapEntry, Saying}
use Rattle.jl_op.specs.Kinds.{kind_of}
use Rattle.jl_op.specs.Operations.{Operation}
use Rattle.jl_op.specs.declared.kind.OpKind.TheVariants as kind
use Rattle.jl_effects.specs.Effects.{and_then, Begin, Emit, End, Fail, Look, Perform, Step}
use Rattle.jl_meaning.specs.Completions.{ends_as, if_normal, on_given, then_do}
use Rattle.jl_meaning.specs.Parts.{answer_of, begin_call, continue_with, do_loop, fault_of, for_in_loop, for_loop, give}
use Rattle.jl_meaning.specs.Parts.{gives, lift, throws, while_loop, ◌>>=◌, Algorithm, Answer, Call, CallOf, Job, Loop}
use Rattle.jl_meaning.specs.Parts.{Part, Turn, TurnOf}
use Rattle.jl_meaning.specs.Store.{Store}
use Rattle.jl_effects.specs.Telling.{Tells}
use Rattle.jl_effects.proofs.Tells.{row_tells, tells_then, Each}
use Rattle.jl_operation_rows.specs.Seeing.{SeesValues}

-- the id of an operation, counted as the language counts it
abbrev pub id_at : ℕ → ℕ → ℕ
id_at s zero = s
id_at s (suc i) = s + suc i

abbrev pub by_id : Saying ℕ ℕ
by_id = record { of_node = id_at; of_test = λ s e. s }

-- the rows of a tree, of trees, and of what may be absent
module _ (IsRow : MapEntry ℕ → Type 0) where
  abbrev pub Rows : {x : Sort} → Tree ℕ x → Type 0
  Rows t = Each IsRow (entries by_id t)

  abbrev pub AllRows : {x : Sort} → Forest ℕ x → Type 0
  AllRows l = Each IsRow (forest_entries by_id l)

  abbrev pub RowsIfPresent : {x : Sort} → OptionalTree ℕ x → Type 0
  RowsIfPresent m = Each IsRow (optional_entries by_id m)

  abbrev pub TestRows : (id : ℕ) → OptionalTree ℕ tree.expr → Type 0
  TestRows id e = Each IsRow (optional_test_entries by_id id e)

  -- those of a loop
  abbrev pub LoopRows : Loop → (id : ℕ) → Type 0
  LoopRows (do_loop l e) id = IsRow (kind.Conditional, id) × AllRows l × Rows e
  LoopRows (while_loop e l) id = IsRow (kind.Conditional, id) × AllRows l × Rows e
  LoopRows (for_loop e u l) id = TestRows id e × AllRows l × RowsIfPresent e × RowsIfPresent u
  LoopRows (for_in_loop x y rest l) id = AllRows l

  -- an operation of one of the rows, which sees its values as they are
  abbrev pub IsOwn : Operation → Type 0
  IsOwn o = IsRow (kind_of o.1, o.0.0) × SeesValues o

  abbrev pub IsOwnTurn : Turn → Type 0
  IsOwnTurn t = LoopRows t.loop t.id

-- a call, or such a turn
abbrev pub IsBegun : (IsTurn : Turn → Type 0) → Job → Type 0
IsBegun IsTurn (CallOf c) = Unit {0}
IsBegun IsTurn (TurnOf t) = IsTurn t

abbrev pub IsGood : (IsRow : MapEntry ℕ → Type 0) → Job → Type 0
IsGood IsRow j = IsBegun (IsOwnTurn IsRow) j

-- a part that performs operations of these rows alone, and begins such turns alone; a record, so that a goal says of
-- which part it is
pub record Performs (IsRow : MapEntry ℕ → Type 0) (IsTurn : Turn → Type 0) {A : Type 0} (p : Part A) : Type 0 where
  pub at : Tells (IsOwn IsRow) (IsBegun IsTurn) p

-- and whose turns perform the same
abbrev pub Told : (IsRow : MapEntry ℕ → Type 0) → {A : Type 0} → Part A → Type 0
Told IsRow p = Performs IsRow (IsOwnTurn IsRow) p

module _ {IsRow : MapEntry ℕ → Type 0} {IsTurn : Turn → Type 0} where
  pub fails : {A : Type 0} (f : Fault) → Performs IsRow IsTurn {A = A} (Fail f)
  fails f = record { at = tt }

  pub ended : {A : Type 0} (a : A) → Performs IsRow IsTurn (End a)
  ended a = record { at = tt }

  pub ok : {A : Type 0} (a : A) → Performs IsRow IsTurn (give a)
  ok a = record { at = tt }

  -- parts in a row
  pub in_a_row : {A B : Type 0} {p : Part A} {k : A → Part B} → Performs IsRow IsTurn p
      → ((a : A) → Performs IsRow IsTurn (k a))
      → Performs IsRow IsTurn (and_then p k)
  in_a_row {p = p} {k = k} x f = record {
    at = tells_then (IsOwn IsRow) (IsBegun IsTurn) p k x.at (λ a. (f a).at);
  }

  -- ANSWERS
  pub bind : {A B : Type 0} {p : Part (Answer A)} {k : A → Part (Answer B)} → Performs IsRow IsTurn p
      → ((a : A) → Performs IsRow IsTurn (k a)) → Performs IsRow IsTurn (p >>= k)
  bind {k = k} x f = in_a_row x on
    where
      on : (r : Answer _) → Performs IsRow IsTurn (continue_with k r)
      on (gives a) = f a
      on (throws v) = ended _

  pub algorithm : {A : Type 0} (p : Algorithm A) → Performs IsRow IsTurn (lift p)
  algorithm p = record { at = row_tells (IsOwn IsRow) (IsBegun IsTurn) CallOf fault_of (λ c. tt) p }

  pub lift_then : {A B : Type 0} (p : Algorithm A) {k : A → Part (Answer B)} → ((a : A) → Performs IsRow IsTurn (k a))
      → Performs IsRow IsTurn (lift p >>= k)
  lift_then p f = bind (algorithm p) f

  pub step_told : {A : Type 0} {p : Part A} → Performs IsRow IsTurn p → Performs IsRow IsTurn (Step p)
  step_told x = record { at = x.at }

  pub look_told : {A : Type 0} {p : Store → Part A} → ((s : Store) → Performs IsRow IsTurn (p s))
      → Performs IsRow IsTurn (Look p)
  look_told f = record { at = λ s. (f s).at }

  -- the script performs an operation
  pub perform_told : {A : Type 0} {g : Store → Operation} {p : Part A} → ((s : Store) → IsOwn IsRow (g s))
      → Performs IsRow IsTurn p → Performs IsRow IsTurn (Look (λ s. Perform (g s) p))
  perform_told h x = record { at = λ s. (h s, x.at) }

  pub perform_now : {A : Type 0} {o : Operation} {p : Part A} → IsOwn IsRow o → Performs IsRow IsTurn p
      → Performs IsRow IsTurn (Perform o p)
  perform_now h x = record { at = (h, x.at) }

  -- a hook emits one
  pub emit_told : {A : Type 0} {g : Store → Operation} {p : Part A} → Performs IsRow IsTurn p
      → Performs IsRow IsTurn (Look (λ s. Emit (g s) p))
  emit_told x = record { at = λ s. x.at }

  pub emit_now : {A : Type 0} {o : Operation} {p : Part A} → Performs IsRow IsTurn p → Performs IsRow IsTurn (Emit o p)
  emit_now x = record { at = x.at }

  pub call_told : {B : Type 0} (call : Call) {k : Value → Part (Answer B)} → ((v : Value) → Performs IsRow IsTurn (k v))
      → Performs IsRow IsTurn (begin_call CallOf call >>= k)
  call_told call {k = k} f = record { at = (tt, λ end. (on (answer_of end)).at) }
    where
      on : (r : Answer Value) → Performs IsRow IsTurn (continue_with k r)
      on (gives v) = f v
      on (throws v) = ended _

  pub pick : {A : Type 0} (b : Bool) {p q : Part A} → Performs IsRow IsTurn p → Performs IsRow IsTurn q
      → Performs IsRow IsTurn (if b then p else q)
  pick true x y = x
  pick false x y = y

  -- STATEMENTS
  -- a value, and then a statement
  pub value_then : {A : Type 0} {p : Part (Answer A)} {k : A → Part Completion} → Performs IsRow IsTurn p
      → ((v : A) → Performs IsRow IsTurn (k v)) → Performs IsRow IsTurn (and_then p (on_given k))
  value_then {k = k} x f = in_a_row x on
    where
      on : (r : Answer _) → Performs IsRow IsTurn (on_given k r)
      on (gives v) = f v
      on (throws v) = ended _

  pub sequence : {p q : Part Completion} → Performs IsRow IsTurn p → Performs IsRow IsTurn q
      → Performs IsRow IsTurn (then_do p q)
  sequence {q = q} x y = in_a_row x on
    where
      on : (how : Completion) → Performs IsRow IsTurn (if_normal q how)
      on completion.Normal = y
      on (completion.Return v) = ended _
      on (completion.Throw v) = ended _
      on (completion.Break l) = ended _
      on (completion.Continue l) = ended _

  pub ending : (f : Completion → Completion) {p : Part Completion} → Performs IsRow IsTurn p
      → Performs IsRow IsTurn (ends_as f p)
  ending f x = in_a_row x (λ how. ended _)

-- a turn begins
pub turn_begins : {IsRow : MapEntry ℕ → Type 0} (t : Turn) → LoopRows IsRow t.loop t.id
    → Told IsRow (Begin (TurnOf t) End)
turn_begins t h = record { at = (h, λ end. tt) }
