-- What statements make of how their parts end.
use Rattle.std.proofs.Common.{◌≡◌, ℕ, suc, ◌≤◌, Bool, false, refl, sym, ap, ◌∙◌, subst, arith}
use mathlib.Core.Path.{fun_ext}
use Rattle.jl_value.specs.declared.ending.Completion.{Completion}
use Rattle.jl_value.specs.declared.ending.Completion.TheVariants as completion
use Rattle.jl_value.specs.declared.value.Seen.{Seen}
use Rattle.jl_value.specs.declared.value.Value.{Value}
use Rattle.jl_op.specs.Chosen.{Kinds}
use Rattle.jl_op.specs.Kinds.{kind_of}
use Rattle.jl_op.specs.declared.kind.OpKind.TheVariants as kind
use Rattle.jl_op.specs.declared.op.Op.{Op}
use Rattle.jl_effects.specs.Effects.{End, Step, and_then}
use Rattle.jl_effects.specs.Matching.{ends, both, extra, looks, peeks, told, own, spare, plus}
use Rattle.jl_effects.proofs.Chains.{and_then-assoc}
use Rattle.jl_meaning.specs.Completions.{ends_as, if_normal, on_given, then_do}
use Rattle.jl_meaning.specs.Noting.{emits, note_value, performs}
use Rattle.jl_meaning.specs.Parts.{gives, throws, continue_with, ◌>>=◌, give, Answer, Context, Part}
use Rattle.jl_meaning.specs.Store.{Store}
use Rattle.jl_meaning.specs.forms.Hooks.{enter_hook}
use Rattle.jl_meaning.specs.forms.Operators.{decide, decide_by}
use Rattle.jl_simulation.proofs.Operators.{tell_test}
use Rattle.jl_simulation.proofs.Relation.{Matched, done, followed, quiet, bind, bind2, ExpressionMatch, EvenMatch}
use Rattle.jl_simulation.proofs.Relation.{StatementMatch}

-- a test, and what is done by it
pub test_is : (e : Part (Answer Value)) (id : ℕ) (f : Bool → Part Completion)
    → and_then (decide_by id e) (on_given f)
    ≡ and_then e (on_given (λ v. and_then (decide id v) (on_given f)))
test_is e id f = and_then-assoc e (continue_with (λ v. decide id v)) (on_given f) ∙ ap (and_then e) (fun_ext on)
  where
    on : (r : Answer Value) → and_then (continue_with (λ v. decide id v) r) (on_given f)
        ≡ on_given (λ v. and_then (decide id v) (on_given f)) r
    on (gives v) = refl
    on (throws v) = refl

-- an operation on a value, and then what is done with it
abbrev pub noted : (id : ℕ) → (Seen → Op) → (Value → Part Completion) → Value → Part Completion
noted id f k v = and_then (note_value performs id f v) (on_given (λ _. k v))

module _ {chosen : Kinds} where
  pub valued : {A : Type 0} {s : Store} {c d e : ℕ} {p q : Part (Answer A)} {k l : A → Part Completion} → e ≤ d
      → Matched chosen s c d p q → ((a : A) (t : Store) → Matched chosen t d e (k a) (l a))
      → Matched chosen s c e (and_then p (on_given k)) (and_then q (on_given l))
  valued {d = d} {e = e} {k = k} {l = l} le m f = followed m on
    where
      on : (r : Answer _) (t : Store) → Matched chosen t d e (on_given k r) (on_given l r)
      on (gives a) t = f a t
      on (throws v) t = ends le

  -- an expression, and the call of a hook that tells of its value
  told_value : {d d' : Part (Answer Value)} {k : Value → Part Completion} (k' : Value → Part Completion)
      (tell : Value → Part (Answer Value)) {s : Store} {c : ℕ} → ExpressionMatch chosen d d'
      → ((v : Value) (t : Store) → Matched chosen t (plus 4 c) c (k v) (and_then (tell v) (on_given k')))
      → Matched chosen s (suc c) c (and_then d (on_given k)) (and_then (Step (d' >>= tell)) (on_given k'))
  told_value {d = d} {d' = d'} {k = k} k' tell {s} {c} x f =
      extra (subst (Matched chosen s c c (and_then d (on_given k)))
      (sym (and_then-assoc d' (continue_with tell) (on_given k'))) (followed (x.at s c) on))
    where
      on : (r : Answer Value) (t : Store)
          → Matched chosen t (plus 4 c) c (on_given k r) (and_then (continue_with tell r) (on_given k'))
      on (gives v) t = f v t
      on (throws v) t = ends (omega arith)

  -- an operation on a value: by a hook, or as it stands
  pub noted_told : {d d' : Part (Answer Value)} (tell : Value → Part (Answer Value)) (id id' : ℕ) (f : Seen → Op)
      {k k' : Value → Part Completion} → ExpressionMatch chosen d d'
      → ((v : Value) → tell v ≡ Step (note_value emits id f v >>= (λ _. give v)))
      → ((v : Value) → StatementMatch chosen (k v) (k' v))
      → StatementMatch chosen (Step (and_then d (on_given (noted id f k))))
      (Step (and_then (Step (d' >>= tell)) (on_given (noted id' f k'))))
  noted_told tell id id' f {k} {k'} x is y = record {
    at = λ s c. both (spare {c = suc c} (omega arith) (told_value (noted id' f k') tell x (λ v t.
        subst (λ p. Matched chosen t (plus 4 c) c (noted id f k v) (and_then p (on_given (noted id' f k'))))
        (sym (is v)) (looks (extra (peeks (told (peeks (own (spare (omega arith) ((y v).at t c)))))))))));
  }

  pub noted_silent : {d d' : Part (Answer Value)} (id id' : ℕ) (f : Seen → Op) {k k' : Value → Part Completion}
      → ((v : Seen) → chosen (kind_of (f v)) ≡ false) → ExpressionMatch chosen d d'
      → ((v : Value) → StatementMatch chosen (k v) (k' v))
      → StatementMatch chosen (Step (and_then d (on_given (noted id f k))))
      (Step (and_then d' (on_given (noted id' f k'))))
  noted_silent id id' f e x y = record {
    at = λ s c. both (valued (omega arith) (x.at s _) (λ v t.
        looks (peeks (quiet (e _) (own (spare (omega arith) ((y v).at t c)))))));
  }

  -- a test: by a hook, or as it stands
  pub decide_by_told : (k : Context) {d d' : Part (Answer Value)} (id id' : ℕ) → ExpressionMatch chosen d d'
      → (s : Store) (c : ℕ)
      → Matched chosen s (suc c) (plus 3 c) (decide_by id d) (decide_by id' (Step (d' >>= tell_test id k)))
  unfolding decide enter_hook
  decide_by_told k id id' x s c =
      extra (bind2 (tell_test id k) (λ v. decide id' v) (omega arith) (x.at s c)
      (λ v t. looks (extra (peeks (told (peeks (own done)))))))

  pub decide_by_silent : {d d' : Part (Answer Value)} (id id' : ℕ) → chosen kind.Conditional ≡ false
      → ExpressionMatch chosen d d' → (s : Store) (c : ℕ)
      → Matched chosen s (suc c) (plus 3 c) (decide_by id d) (decide_by id' d')
  unfolding decide
  decide_by_silent id id' e x s c =
      spare {c = c} (omega arith) (bind (omega arith) (x.at s c) (λ v t.
      looks (peeks (quiet e (own (ends (omega arith)))))))

  pub sequence : {p q p' q' : Part Completion} → StatementMatch chosen p p' → StatementMatch chosen q q'
      → StatementMatch chosen (then_do p q) (then_do p' q')
  sequence {q = q} {q' = q'} x y = record { at = λ s c. followed (x.at s c) (λ r t. on c r t) }
    where
      on : (c : ℕ) (r : Completion) (t : Store) → Matched chosen t c c (if_normal q r) (if_normal q' r)
      on c completion.Normal t = y.at t c
      on c (completion.Return v) t = done
      on c (completion.Throw v) t = done
      on c (completion.Break x) t = done
      on c (completion.Continue x) t = done

  pub ending : (f : Completion → Completion) {p q : Part Completion} → StatementMatch chosen p q
      → StatementMatch chosen (ends_as f p) (ends_as f q)
  ending f x = record { at = λ s c. followed (x.at s c) (λ r t. done) }

  pub stepped : {p q : Part Completion} → StatementMatch chosen p q → StatementMatch chosen (Step p) (Step q)
  stepped x = record { at = λ s c. both (spare {c = c} (omega arith) (x.at s c)) }

  pub end_match : {a : Completion} → StatementMatch chosen (End a) (End a)
  end_match = record { at = λ s c. done }

  pub value_match : {d d' : Part (Answer Value)} {f f' : Value → Part Completion} → ExpressionMatch chosen d d'
      → ((v : Value) → StatementMatch chosen (f v) (f' v))
      → StatementMatch chosen (Step (and_then d (on_given f))) (Step (and_then d' (on_given f')))
  value_match x y = record {
    at = λ s c. both (valued (omega arith) (x.at s _) (λ v t. spare (omega arith) ((y v).at t c)));
  }

  pub even_then : {A : Type 0} {d d' : Part (Answer A)} {f f' : A → Part Completion} → EvenMatch chosen d d'
      → ((a : A) → StatementMatch chosen (f a) (f' a))
      → StatementMatch chosen (and_then d (on_given f)) (and_then d' (on_given f'))
  even_then x y = record { at = λ s c. valued (omega arith) (x.at s c) (λ v t. (y v).at t c) }
