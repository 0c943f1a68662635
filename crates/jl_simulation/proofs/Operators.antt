-- Operators, tests, and parts in a row: each is matched by its woven form, by the call of a hook or as it stands.
use Rattle.std.proofs.Common.{◌≡◌, ℕ, ◌≤◌, [], ◌∷◌, Bool, false, Option, Some, None, refl, sym, subst, arith}
use Rattle.jl_num.specs.Number.{Number}
use Rattle.jl_ast.specs.declared.ops.BinOp.{BinOp}
use Rattle.jl_value.specs.declared.value.Value.{Value}
use Rattle.jl_value.specs.declared.value.Value.TheVariants as value
use Rattle.jl_conv.specs.Conversions.{truth_of}
use Rattle.jl_heap.specs.Describe.{seen_of}
use Rattle.jl_op.specs.Chosen.{Kinds}
use Rattle.jl_op.specs.declared.kind.OpKind.TheVariants as kind
use Rattle.jl_op.specs.declared.op.Op.TheVariants as op
use Rattle.jl_op.specs.declared.sign.UnKind.{UnKind}
use Rattle.jl_effects.specs.Effects.{Step}
use Rattle.jl_effects.specs.Matching.{fails, both, extra, looks, peeks, told, own, spare, plus}
use Rattle.jl_meaning.specs.Conversions.{to_number}
use Rattle.jl_meaning.specs.Noting.{performs, emits, note, Noting}
use Rattle.jl_meaning.specs.Operators.{binary_result, give_next, give_number, next_after, unary_result}
use Rattle.jl_meaning.specs.Parts.{Context, Part, Answer, ◌>>=◌, give, lift}
use Rattle.jl_meaning.specs.Store.{Store}
use Rattle.jl_meaning.specs.forms.HookCalls.{binary_of, tests, unary_of}
use Rattle.jl_meaning.specs.forms.Hooks.{enter_hook, hooked_unary}
use Rattle.jl_meaning.specs.forms.Operators.{decide, operate, operate_on, update}
use Rattle.jl_simulation.proofs.Relation.{Matched, done, bind, algorithm, lifted, bind2, bind_both, quiet, fewer}
use Rattle.jl_simulation.proofs.Relation.{ExpressionMatch}

-- what tells of a test
abbrev pub tell_test : (id : ℕ) → Context → Value → Part (Answer Value)
tell_test id k v = Step (enter_hook k id tests (v ∷ []))

module _ {chosen : Kinds} where
  -- an operator between two values
  pub operate_told : (id : ℕ) (o : BinOp) (a b : Value) {s : Store} {c : ℕ}
      → Matched chosen s c c (operate performs id o a b) (operate emits id o a b)
  unfolding operate
  operate_told id o a b = lifted (binary_result o a b) (omega arith) (λ v t. looks (peeks (told done)))

  pub operate_silent : (id id' : ℕ) (o : BinOp) (a b : Value) → chosen kind.Binary ≡ false → {s : Store} {c : ℕ}
      → Matched chosen s c c (operate performs id o a b) (operate performs id' o a b)
  unfolding operate
  operate_silent id id' o a b e =
      lifted (binary_result o a b) (omega arith) (λ v t. looks (peeks (quiet e (own done))))

  -- an operator on one
  pub operate_on_told : (id : ℕ) (o : UnKind) (a : Value) {s : Store} {c : ℕ}
      → Matched chosen s c c (operate_on performs id o a) (operate_on emits id o a)
  unfolding operate_on
  operate_on_told id o a = lifted (unary_result o a) (omega arith) (λ v t. looks (peeks (told done)))

  pub operate_on_silent : (id id' : ℕ) (o : UnKind) (a : Value) → chosen kind.Unary ≡ false → {s : Store} {c : ℕ}
      → Matched chosen s c c (operate_on performs id o a) (operate_on performs id' o a)
  unfolding operate_on
  operate_on_silent id id' o a e =
      lifted (unary_result o a) (omega arith) (λ v t. looks (peeks (quiet e (own done))))

  pub update_silent : (id id' : ℕ) (o : UnKind) (a : Value) → chosen kind.Unary ≡ false → {s : Store} {c : ℕ}
      → Matched chosen s c c (update performs id o a) (update performs id' o a)
  unfolding update
  update_silent id id' o a e =
      lifted (to_number a) (omega arith) (λ n t.
      lifted (give_next o n) (omega arith) (λ v t. looks (peeks (quiet e (own done)))))

  -- `++` and `--`: the number that it was, and the new one, which is known by it
  pub update_told : (o : UnKind) (id : ℕ) (a : Value) {A : Type 0} (k l : Number × Value → Part (Answer A)) {s : Store}
      {c d : ℕ} → d ≤ c
      → ((n m : Number) → next_after o n ≡ Some m
      → (t : Store) → Matched chosen t c d (k (n, value.Num m)) (l (n, value.Num m)))
      → Matched chosen s c d (update performs id o a >>= k) (update emits id o a >>= l)
  unfolding update
  update_told o id a {A} k l {s} {c} {d} le f =
      let made_of : Noting → Number → Option Number → Part (Answer (Number × Value)) = λ how n r.
      (lift (give_number r) >>= (λ v.
      (note how id (λ heap. op.Unary o (seen_of heap a) (seen_of heap v)) >>= (λ _. give (n, v))))) in
      let at : (n : Number) (r : Option Number) → next_after o n ≡ r → (t : Store)
      → Matched chosen t c d (made_of performs n r >>= k) (made_of emits n r >>= l) = λ n r.
      elim r as (λ r. next_after o n ≡ r → (t : Store)
      → Matched chosen t c d (made_of performs n r >>= k) (made_of emits n r >>= l)) [
        | None ↦ λ e t. fails
        | Some m ↦ λ e t. looks (peeks (told (f n m e t)))
      ] in
      bind_both (λ n. made_of performs n (next_after o n)) k (λ n. made_of emits n (next_after o n)) l le
      (algorithm (to_number a)) (λ n t. at n (next_after o n) refl t)

  -- EXPRESSIONS
  pub unary_told : (k : Context) {e e' : Part (Answer Value)} (o : UnKind) (id : ℕ) → ExpressionMatch chosen e e'
      → ((v : Value) → hooked_unary id o v ≡ operate_on emits id o v)
      → ExpressionMatch chosen (Step (e >>= (λ v. operate_on performs id o v)))
      (Step (e' >>= (λ v. Step (enter_hook k id (unary_of o) (v ∷ [])))))
  unfolding enter_hook
  unary_told k o id x is = record {
    at = λ s c. both (bind (omega arith) (x.at s _) (λ v t. extra
        (subst (Matched chosen t _ _ (operate_on performs id o v)) (sym (is v))
        (fewer (omega arith) (operate_on_told id o v)))));
  }

  pub unary_silent : {e e' : Part (Answer Value)} (o : UnKind) (id id' : ℕ) → chosen kind.Unary ≡ false
      → ExpressionMatch chosen e e'
      → ExpressionMatch chosen (Step (e >>= (λ v. operate_on performs id o v)))
      (Step (e' >>= (λ v. operate_on performs id' o v)))
  unary_silent o id id' e x = record {
    at = λ s c. both (bind (omega arith) (x.at s _) (λ v t. fewer (omega arith) (operate_on_silent id id' o v e)));
  }

  pub binary_told : (k : Context) {a a' b b' : Part (Answer Value)} (o : BinOp) (id : ℕ) → ExpressionMatch chosen a a'
      → ExpressionMatch chosen b b'
      → ExpressionMatch chosen (Step (a >>= (λ x. (b >>= (λ y. operate performs id o x y)))))
      (Step (a' >>= (λ v. (b' >>= (λ w. Step (enter_hook k id (binary_of o) (v ∷ w ∷ [])))))))
  unfolding enter_hook
  binary_told k o id x y = record {
    at = λ s c. both (bind (omega arith) (x.at s _) (λ v t. bind (omega arith) (y.at t _) (λ w t.
        extra (fewer (omega arith) (operate_told id o v w)))));
  }

  pub binary_silent : {a a' b b' : Part (Answer Value)} (o : BinOp) (id id' : ℕ) → chosen kind.Binary ≡ false
      → ExpressionMatch chosen a a' → ExpressionMatch chosen b b'
      → ExpressionMatch chosen (Step (a >>= (λ x. (b >>= (λ y. operate performs id o x y)))))
      (Step (a' >>= (λ x. (b' >>= (λ y. operate performs id' o x y)))))
  binary_silent o id id' e x y = record {
    at = λ s c. both (bind (omega arith) (x.at s _) (λ v t. bind (omega arith) (y.at t _) (λ w t.
        fewer (omega arith) (operate_silent id id' o v w e))));
  }

  pub comma_match : {a a' b b' : Part (Answer Value)} → ExpressionMatch chosen a a' → ExpressionMatch chosen b b'
      → ExpressionMatch chosen (Step (a >>= (λ _. b))) (Step (a' >>= (λ _. b')))
  comma_match x y = record {
    at = λ s c. both (bind (omega arith) (x.at s _) (λ v t. spare {c = c} (omega arith) (y.at t c)));
  }

  -- what decides between two parts
  pub decide_told : (k : Context) {a a' : Part (Answer Value)} {f g : Bool → Value → Part (Answer Value)} (id id' : ℕ)
      → ExpressionMatch chosen a a'
      → ((b : Bool) (v : Value) → (s : Store) (c : ℕ) → Matched chosen s (plus 4 c) (plus 4 c) (f b v) (g b v))
      → ExpressionMatch chosen (Step (a >>= (λ v. (decide id v >>= (λ truth. f truth v)))))
      (Step (Step (a' >>= tell_test id k) >>= (λ v. (decide id' v >>= (λ truth. g truth v)))))
  unfolding enter_hook decide
  decide_told k {f = f} {g = g} id id' x y = record {
    at = λ s c. both (extra (bind2 (tell_test id k) (λ v. (decide id' v >>= (λ truth. g truth v))) (omega arith)
        (x.at s _) (λ v t. extra (looks (peeks (told
        (peeks (own (spare (omega arith) (y (truth_of v) v t c))))))))));
  }

  pub decide_silent : {a a' : Part (Answer Value)} {f g : Bool → Value → Part (Answer Value)} (id id' : ℕ)
      → chosen kind.Conditional ≡ false → ExpressionMatch chosen a a'
      → ((b : Bool) (v : Value) → (s : Store) (c : ℕ) → Matched chosen s (plus 4 c) (plus 4 c) (f b v) (g b v))
      → ExpressionMatch chosen (Step (a >>= (λ v. (decide id v >>= (λ truth. f truth v)))))
      (Step (a' >>= (λ v. (decide id' v >>= (λ truth. g truth v)))))
  unfolding decide
  decide_silent id id' e x y = record {
    at = λ s c. both (bind (omega arith) (x.at s _) (λ v t.
        looks (peeks (quiet e (own (spare (omega arith) (y (truth_of v) v t c)))))));
  }
