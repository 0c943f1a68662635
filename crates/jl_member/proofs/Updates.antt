-- The numbers of `++` and `--`.
use Rattle.std.proofs.Common.{◌≡◌, ◌∙◌, None, Option, Some, refl, subst, sym, ap, ℕ}
use mathlib.Core.Path.{fun_ext}
use Rattle.jl_num.specs.Number.{Number}
use Rattle.jl_value.specs.declared.ending.Fault.TheVariants as fault
use Rattle.jl_value.specs.declared.value.Value.{Value}
use Rattle.jl_value.specs.declared.value.Value.TheVariants as value
use Rattle.jl_conv.specs.Conversions.{number_of_value}
use Rattle.jl_heap.specs.Describe.{seen_of}
use Rattle.jl_op.specs.declared.op.Op.TheVariants as op
use Rattle.jl_op.specs.declared.sign.UnKind.{UnKind}
use Rattle.jl_meaning.specs.Conversions.{number_hint, to_number, to_primitive}
use Rattle.jl_meaning.specs.Noting.{note, Noting}
use Rattle.jl_meaning.specs.Operators.{give_next, give_number, next_after}
use Rattle.jl_meaning.specs.Parts.{give, lift, or_fault, ◌>>=◌, Answer, NumberOutside, Part}
use Rattle.jl_meaning.specs.forms.Operators.{update}
use Rattle.jl_state.specs.AlgorithmFrames.{number_of_primitive}
use Rattle.jl_state.specs.Rest.{RefinesExpression, RefinesAlgorithm}
use Rattle.jl_state.specs.Steps.{ValueWaits}
use Rattle.jl_state.specs.ValueFrames.{value_after}
use Rattle.jl_state.specs.Words.{table_of}
use Rattle.jl_state.specs.declared.act.Act.{Act}
use Rattle.jl_state.specs.declared.act.Act.TheVariants as act
use Rattle.jl_state.specs.declared.state.State.{State}
use Rattle.jl_state.specs.declared.value_frame.ValueFrame.{ValueFrame}
use Rattle.jl_member.specs.inner.Nexts.{next_of, pair_from, pair_of}
use Rattle.jl_meaning.proofs.Binds.{bind_assoc, bind_same, lift_bind}

-- a primitive value as a number, the one after it, and what is done with both
abbrev pub next_then : UnKind → Value → (Number → Value → Part (Answer Value)) → Part (Answer Value)
next_then o p k = do
  n ← lift (number_of_primitive p)
  w ← lift (give_next o n)
  k n w

module _ (how : Noting) (id : ℕ) (o : UnKind) (v : Value) (k : Number × Value → Part (Answer Value)) where
  abbrev noted : Value → Part (Answer (Unit {0}))
  noted w = note how id (λ heap. op.Unary o (seen_of heap v) (seen_of heap w))

  abbrev pair : Number → Value → Part (Answer (Number × Value))
  pair n w = do
    _ ← noted w
    give (n, w)

  abbrev numbered : Number → Part (Answer (Number × Value))
  numbered n = do
    w ← lift (give_next o n)
    pair n w

  abbrev pub after_number : Number → Part (Answer Value)
  after_number n = do
    w ← lift (give_next o n)
    _ ← noted w
    k (n, w)

  each : (n : Number) → (numbered n >>= k) ≡ after_number n
  each n =
      bind_assoc (lift (give_next o n)) (pair n) k
      ∙ bind_same (lift (give_next o n)) (λ w. pair n w >>= k) (λ w. noted w >>= λ _. k (n, w))
      (λ w. bind_assoc (noted w) (λ _. give (n, w)) k)

  -- an update converts its operand first
  pub update_then : (update how id o v >>= k)
      ≡ (lift (to_primitive number_hint v) >>= λ p. lift (number_of_primitive p) >>= after_number)
  unfolding update to_number
  update_then =
      bind_assoc (lift (to_number v)) numbered k
      ∙ bind_same (lift (to_number v)) (λ n. numbered n >>= k) after_number each
      ∙ ap (λ q. q >>= after_number) (lift_bind (to_primitive number_hint v) number_of_primitive)
      ∙ bind_assoc (lift (to_primitive number_hint v)) (λ p. lift (number_of_primitive p)) after_number

-- a frame waits for the operand as a primitive value
pub update_waits : (s t u : State) (how : Noting) (id : ℕ) (o : UnKind) (v : Value)
    (k : Number × Value → Part (Answer Value)) (f : ValueFrame) (a : Act)
    → ((p : Value) → value_after (table_of s.functions) s.calls f p
    ≡ (lift (number_of_primitive p) >>= after_number how id o v k))
    → ValueWaits s f t → RefinesAlgorithm t (to_primitive number_hint v) u a
    → RefinesExpression s (update how id o v >>= k) u a
update_waits s t u how id o v k f a after waits refines =
    subst (λ q. RefinesExpression s q u a) (sym (update_then how id o v k))
    (subst (λ (g : Value → Part (Answer Value)). RefinesExpression s (lift (to_primitive number_hint v) >>= g) u a)
    (fun_ext after)
    (waits.works (to_primitive number_hint v) u a refines))

-- a number needs no frame: it is a primitive value
pub update_number : (s : State) (how : Noting) (id : ℕ) (o : UnKind) (v : Value) (n : Number)
    (k : Number × Value → Part (Answer Value)) (u : State) (a : Act) → v ≡ value.Num n
    → RefinesExpression s (lift (number_of_primitive v) >>= after_number how id o v k) u a
    → RefinesExpression s (update how id o v >>= k) u a
unfolding to_primitive
update_number s how id o v n k u a is refines =
    subst (λ q. RefinesExpression s q u a) (sym (update_then how id o v k)) (by v is refines)
  where
    by : (p : Value) → p ≡ value.Num n → RefinesExpression s
        (lift (number_of_primitive p) >>= after_number how id o v k) u a
        → RefinesExpression s (lift (to_primitive number_hint p) >>= λ q. lift
        (number_of_primitive q) >>= after_number how id o v k)
        u a
    by p e given =
        subst (λ (q : Value). RefinesExpression s
        (lift (to_primitive number_hint q) >>= λ r. lift (number_of_primitive r)
        >>= after_number how id o v k) u a) (sym e)
        (subst (λ (q : Value). RefinesExpression s
        (lift (number_of_primitive q) >>= after_number how id o v k) u a) e given)

-- the number of a primitive value, and the one after it

abbrev first_or : Number → Option (Number × Number) → Number
first_or n None = n
first_or n (Some found) = found.0

abbrev second_or : Number → Option (Number × Number) → Number
second_or n None = n
second_or n (Some found) = found.1

pub finds_next : (s : State) (o : UnKind) (p : Value) (r : Option (Number × Number)) (n m : Number)
    (k : Number → Value → Part (Answer Value)) (t : State) (a : Act)
    → r ≡ next_of o p → r ≡ Some (n, m) → RefinesExpression s (k n (value.Num m)) t a
    → RefinesExpression s (next_then o p k) t a
finds_next s o p r n m k t a same is refines = by (number_of_value p) (sym same ∙ is)
  where
    next : (i : Number) (x : Option Number) → pair_of i x ≡ Some (n, m)
        → RefinesExpression s (lift (give_number x) >>= λ w. k i w) t a
    next i None e = absurd (let differ = e in cc)
    next i (Some j) e =
        subst (λ (x : Number). RefinesExpression s (k x (value.Num j)) t a) (sym (ap (first_or n) e))
        (subst (λ (y : Number). RefinesExpression s (k n (value.Num y)) t a) (sym (ap (second_or m) e)) refines)

    by : (x : Option Number) → pair_from o x ≡ Some (n, m)
        → RefinesExpression s (lift (or_fault NumberOutside x) >>= λ i. lift (give_next o i) >>= λ w. k i w) t a
    by None e = absurd (let differ = e in cc)
    by (Some i) e = next i (next_after o i) e

pub no_next : (s : State) (o : UnKind) (p : Value) (r : Option (Number × Number))
    (k : Number → Value → Part (Answer Value))
    → r ≡ next_of o p → r ≡ None → RefinesExpression s (next_then o p k) s (act.Fault fault.NumberOutside)
no_next s o p r k same is = by (number_of_value p) (sym same ∙ is)
  where
    next : (i : Number) (x : Option Number) → pair_of i x ≡ None
        → RefinesExpression s (lift (give_number x) >>= λ w. k i w) s (act.Fault fault.NumberOutside)
    next i None e = record { is = λ kept told. refl }
    next i (Some j) e = absurd (let differ = e in cc)

    by : (x : Option Number) → pair_from o x ≡ None
        → RefinesExpression s (lift (or_fault NumberOutside x) >>= λ i. lift (give_next o i) >>= λ w. k i w) s
        (act.Fault fault.NumberOutside)
    by None e = record { is = λ kept told. refl }
    by (Some i) e = next i (next_after o i) e
