-- `++` and `--` by hooks: the new value, and for a postfix the number that it was, which is had back by it.
use Rattle.std.proofs.Common.{◌≡◌, ℕ, suc, ◌+◌, ◌≤◌, [], ◌∷◌, Bool, true, false, Option, Some, None, refl, sym, subst}
use Rattle.std.proofs.Common.{subst₂, arith}
use Rattle.std.specs.Prelude.{if◌then◌else◌}
use Rattle.jl_num.specs.Arithmetic.{difference_of, sum_of}
use Rattle.jl_num.specs.Number.{is_number, Number}
use Rattle.jl_ast.specs.Tree.{Text}
use Rattle.jl_ast.specs.declared.ops.BinOp.{BinOp}
use Rattle.jl_ast.specs.declared.ops.BinOp.TheVariants as binary
use Rattle.jl_value.specs.declared.value.Value.{Value}
use Rattle.jl_value.specs.declared.value.Value.TheVariants as value
use Rattle.jl_heap.specs.Describe.{seen_of}
use Rattle.jl_heap.specs.Objects.{Name}
use Rattle.jl_op.specs.Chosen.{Kinds}
use Rattle.jl_op.specs.declared.op.Op.TheVariants as op
use Rattle.jl_op.specs.declared.sign.UnKind.{UnKind}
use Rattle.jl_op.specs.UnaryKinds.{update_kind}
use Rattle.jl_effects.specs.Effects.{Step}
use Rattle.jl_effects.specs.Matching.{ends, both, extra, looks, peeks, told, own, spare, plus}
use Rattle.jl_meaning.specs.Conversions.{to_number, to_primitive}
use Rattle.jl_meaning.specs.Noting.{emits, note, performs, Noting}
use Rattle.jl_meaning.specs.Operators.{binary_result, give_number, next_after, one}
use Rattle.jl_meaning.specs.Parts.{Context, Part, Answer, ◌>>=◌, give, lift}
use Rattle.jl_meaning.specs.References.{identifier_reference, put_value, resolve, Reference}
use Rattle.jl_meaning.specs.Store.{Store}
use Rattle.jl_meaning.specs.forms.HookCalls.{unary_of, updates}
use Rattle.jl_meaning.specs.forms.Hooks.{enter_hook}
use Rattle.jl_meaning.specs.forms.Literals.{literal}
use Rattle.jl_meaning.specs.forms.Members.{get_member, member_name, put_member, update_expression, update_member}
use Rattle.jl_meaning.specs.forms.Names.{assign_name, is_hooks, read_reference, update_name, write_name}
use Rattle.jl_meaning.specs.forms.Operators.{operate, update}
use Rattle.jl_meaning.proofs.Binds.{bind_assoc}
use Rattle.jl_simulation.proofs.Members.{get_told, key_argument, put_told}
use Rattle.jl_simulation.proofs.Names.{assigning, no_hooks, read_by_hook, read_to, tell_write, written}
use Rattle.jl_simulation.proofs.Numbers.{down_again, up_again}
use Rattle.jl_simulation.proofs.Operators.{update_told}
use Rattle.jl_simulation.proofs.Relation.{Matched, done, algorithm, bind2, bind4, bind_both, bind_assoc4, unit}
use Rattle.jl_simulation.proofs.Relation.{ExpressionMatch}

-- the operator that has the number back that an update began with
abbrev pub back : (up : Bool) → BinOp
back true = binary.Sub
back false = binary.Add

abbrev back_number : (up : Bool) → Number → Option Number
back_number true m = difference_of m one
back_number false m = sum_of m one

back_is : (up : Bool) (n m : Number) → next_after (update_kind up) n ≡ Some m → back_number up m ≡ Some n
back_is true None m e = let is : None ≡ m = cc in subst (λ m. difference_of m one ≡ Some None) is refl
back_is true (Some z) m e = at (is_number z) refl e
  where
    at : (b : Bool) → is_number z ≡ b → (if b then sum_of (Some z) one else None) ≡ Some m
        → difference_of m one ≡ Some (Some z)
    at true h e = down_again z m h e
    at false h e = cc
back_is false None m e = let is : None ≡ m = cc in subst (λ m. sum_of m one ≡ Some None) is refl
back_is false (Some z) m e = at (is_number z) refl e
  where
    at : (b : Bool) → is_number z ≡ b → (if b then difference_of (Some z) one else None) ≡ Some m
        → sum_of m one ≡ Some (Some z)
    at true h e = up_again z m h e
    at false h e = cc

-- 1 is taken off again, or added
abbrev pub one_back : (id id' : ℕ) → (up : Bool) → Value → Part (Answer Value)
one_back id id' up v = Step (literal performs id' (value.Num one)) >>= (λ w. operate performs id (back up) v w)

abbrev had_back : (id : ℕ) → (up : Bool) → (m : Number) → Option Number → Part (Answer Value)
had_back id up m r = do
  v ← lift (give_number r)
  _ ← note performs id (λ heap.
      op.Binary (back up) (seen_of heap (value.Num m)) (seen_of heap (value.Num one)) (seen_of heap v))
  give v

-- the number that it was, or the new value
abbrev pub result_of_update : (prefix : Bool) → Number × Value → Value
result_of_update prefix v = if prefix then v.1 else value.Num v.0

-- ++x and x++, past the test of the name
abbrev updating : (id : ℕ) → Context → Name → (up : Bool) → (Number × Value → Value) → Part (Answer Value)
updating id k x up g = do
  reference ← lift (resolve k.env x)
  held ← read_reference id x reference
  v ← update performs (id + 1) (update_kind up) held
  _ ← write_name (id + 2) k x reference v.1
  give (g v)

abbrev pub tell_update : (id : ℕ) → Context → (up : Bool) → Value → Part (Answer Value)
tell_update id k up v = Step (enter_hook k id (unary_of (update_kind up)) (v ∷ []))

-- U of what R gives
abbrev pub updated_by_hook : (id id' : ℕ) → Context → Name → (up : Bool) → Part (Answer Value)
updated_by_hook id id' k x up = Step (read_by_hook id id' k x >>= tell_update (id + 1) k up)

-- x = W of that
abbrev pub assigned_update : (id id' id2 : ℕ) → Context → Name → (up : Bool) → Part (Answer Value)
assigned_update id id' id2 k x up =
    assigning id2 k x (Step (updated_by_hook id id' k x up >>= tell_write (id + 2) k x))

-- J$.I(id, "op", o, k)
abbrev pub tell_update_member : (id : ℕ) → Context → (up : Bool) → (base key : Value) → Part (Answer Value)
tell_update_member id k up base key = Step (enter_hook k id (updates (update_kind up)) (base ∷ key ∷ []))

module _ {chosen : Kinds} where
  pub one_back_to : (id id' : ℕ) (up : Bool) (n m : Number) → next_after (update_kind up) n ≡ Some m → {s : Store}
      {c d : ℕ} → suc d ≤ c → Matched chosen s c d (give (value.Num n)) (one_back id id' up (value.Num m))
  unfolding literal operate binary_result to_number to_primitive
  one_back_to id id' true n m e {s} {d = d} le =
      spare {c = suc d} le (extra (peeks (own
      (subst (λ r. Matched chosen s d d (give (value.Num n)) (had_back id true m r)) (sym (back_is true n m e))
      (peeks (own done))))))
  one_back_to id id' false n m e {s} {d = d} le =
      spare {c = suc d} le (extra (peeks (own
      (subst (λ r. Matched chosen s d d (give (value.Num n)) (had_back id false m r)) (sym (back_is false n m e))
      (peeks (own done))))))

  -- what follows the update of a name, once its value is read
  update_rest : (x : Name) (k : Context) (up : Bool) (reference : Reference) (g : Number × Value → Value) (id id2 : ℕ)
      (T : Value → Part (Answer Value))
      → ((n m : Number) → next_after (update_kind up) n ≡ Some m
      → (t : Store) (c : ℕ) → Matched chosen t (plus 2 c) c (give (g (n, value.Num m))) (T (value.Num m)))
      → (h : Value) (t : Store) (c : ℕ)
      → Matched chosen t (plus 4 c) c
      (update performs (id + 1) (update_kind up) h >>= (λ v. (write_name (id + 2) k x reference v.1 >>=
      (λ _. give (g v)))))
      (((tell_update (id + 1) k up h >>= tell_write (id + 2) k x) >>= written id2 k x reference) >>= T)
  unfolding enter_hook
  update_rest x k true reference g id id2 T f h t c =
      let after : Number × Value → Part (Answer Value) = λ v. (write_name (id + 2) k x reference v.1 >>=
      (λ _. give (g v))) in
      extra (subst (Matched chosen t (plus 3 c) c (update performs (id + 1) (update_kind true) h >>= after))
      (sym (bind_assoc4 (update emits (id + 1) (update_kind true) h) (λ r. give r.1) (tell_write (id + 2) k x)
      (written id2 k x reference) T))
      (update_told (update_kind true) (id + 1) h after
      (λ r. (((give r.1 >>= tell_write (id + 2) k x) >>= written id2 k x reference) >>= T)) (omega arith)
      (λ n m e t. looks (extra (peeks (told (peeks (own (bind2 (λ _. give (value.Num m)) T (omega arith)
      (algorithm (put_value k.strict x (value.Num m) reference)) (λ u t. f n m e t c))))))))))
  update_rest x k false reference g id id2 T f h t c =
      let after : Number × Value → Part (Answer Value) = λ v. (write_name (id + 2) k x reference v.1 >>=
      (λ _. give (g v))) in
      extra (subst (Matched chosen t (plus 3 c) c (update performs (id + 1) (update_kind false) h >>= after))
      (sym (bind_assoc4 (update emits (id + 1) (update_kind false) h) (λ r. give r.1) (tell_write (id + 2) k x)
      (written id2 k x reference) T))
      (update_told (update_kind false) (id + 1) h after
      (λ r. (((give r.1 >>= tell_write (id + 2) k x) >>= written id2 k x reference) >>= T)) (omega arith)
      (λ n m e t. looks (extra (peeks (told (peeks (own (bind2 (λ _. give (value.Num m)) T (omega arith)
      (algorithm (put_value k.strict x (value.Num m) reference)) (λ u t. f n m e t c))))))))))

  update_name_to : (x : Name) (k : Context) (up : Bool) (g : Number × Value → Value) (id id' id2 : ℕ)
      (T : Value → Part (Answer Value)) → is_hooks x ≡ false
      → ((n m : Number) → next_after (update_kind up) n ≡ Some m
      → (t : Store) (c : ℕ) → Matched chosen t (plus 2 c) c (give (g (n, value.Num m))) (T (value.Num m)))
      → (s : Store) (c : ℕ)
      → Matched chosen s (plus 9 c) c (updating id k x up g) (assigned_update id id' id2 k x up >>= T)
  update_name_to x k up g id id' id2 T h f s c =
      let reference : Reference = identifier_reference s k.env x in
      looks (peeks (extra (extra (bind4 (tell_update (id + 1) k up) (tell_write (id + 2) k x)
      (written id2 k x reference) T
      (omega arith) (read_to x k id id' h s (plus 4 c)) (λ v t. update_rest x k up reference g id id2 T f v t c)))))

  -- ++x
  pub update_prefix_told : (x : Name) (k : Context) (up : Bool) (id id' id2 : ℕ) → is_hooks x ≡ false
      → ExpressionMatch chosen (Step (update_name id k x up true))
      (Step (assign_name id2 k x (Step (updated_by_hook id id' k x up >>= tell_write (id + 2) k x))))
  unfolding update_name
  update_prefix_told x k up id id' id2 h =
      subst₂ (λ p q. ExpressionMatch chosen (Step p) (Step q))
      (sym (no_hooks x h (updating id k x up (result_of_update true))))
      (sym (no_hooks x h (assigned_update id id' id2 k x up))) (record {
        at = λ s c. both (spare {c = plus 13 c} (omega arith)
            (subst (Matched chosen s (plus 13 c) (plus 4 c) (updating id k x up (result_of_update true)))
            (unit (assigned_update id id' id2 k x up))
            (update_name_to x k up (result_of_update true) id id' id2 give h (λ n m e t c. ends (omega arith)) s
            (plus 4 c))));
      })

  -- x++
  pub update_postfix_told : (x : Name) (k : Context) (up : Bool) (id id' id2 id3 id4 : ℕ) → is_hooks x ≡ false
      → ExpressionMatch chosen (Step (update_name id k x up false))
      (Step (Step (assign_name id2 k x (Step (updated_by_hook id id' k x up >>= tell_write (id + 2) k x)))
      >>= one_back id3 id4 up))
  unfolding update_name
  update_postfix_told x k up id id' id2 id3 id4 h =
      subst₂ (λ p q. ExpressionMatch chosen (Step p) (Step (Step q >>= one_back id3 id4 up)))
      (sym (no_hooks x h (updating id k x up (result_of_update false))))
      (sym (no_hooks x h (assigned_update id id' id2 k x up))) (record {
        at = λ s c. both (spare {c = plus 14 c} (omega arith) (extra
            (update_name_to x k up (result_of_update false) id id' id2 (one_back id3 id4 up) h
            (λ n m e t c. one_back_to id3 id4 up n m e (omega arith)) s (plus 4 c))));
      })

  -- ++o[k] and o[k]++
  update_member_told : (id : ℕ) (strict : Bool) (o : UnKind) (base key : Value) {A : Type 0}
      (k l : Number × Value → Part (Answer A)) {s : Store} {c d : ℕ} → d ≤ c
      → ((n m : Number) → next_after o n ≡ Some m
      → (t : Store) → Matched chosen t c d (k (n, value.Num m)) (l (n, value.Num m)))
      → Matched chosen s c d (update_member performs id strict o base key >>= k)
      (update_member emits id strict o base key >>= l)
  unfolding update_member
  update_member_told id strict o base key {A} k l {s} {c} {d} le f =
      let put_back : Noting → Name → Number × Value → Part (Answer (Number × Value)) = λ how x v.
      (put_member how (id + 2) strict base x v.1 >>= (λ _. give v)) in
      let from_held : Noting → Name → Value → Part (Answer (Number × Value)) = λ how x held.
      (update how (id + 1) o held >>= put_back how x) in
      let from : Noting → Name → Part (Answer (Number × Value)) = λ how x.
      (get_member how id base x >>= from_held how x) in
      bind_both (from performs) k (from emits) l le (algorithm (member_name base key))
      (λ x t. bind_both (from_held performs x) k (from_held emits x) l le (get_told id base x)
      (λ held t. subst₂ (Matched chosen t c d)
      (sym (bind_assoc (update performs (id + 1) o held) (put_back performs x) k))
      (sym (bind_assoc (update emits (id + 1) o held) (put_back emits x) l))
      (update_told o (id + 1) held (λ v. (put_back performs x v >>= k)) (λ v. (put_back emits x v >>= l)) le
      (λ n m e t. bind_both (λ _. give (n, value.Num m)) k (λ _. give (n, value.Num m)) l le
      (put_told (id + 2) strict base x (value.Num m)) (λ u t. f n m e t)))))

  member_to : (id : ℕ) (k : Context) (up : Bool) (base key : Value) (g : Number × Value → Value)
      (T : Value → Part (Answer Value)) {s : Store} {c d : ℕ}
      → ((n m : Number) → next_after (update_kind up) n ≡ Some m
      → (t : Store) (c : ℕ) → Matched chosen t (plus 2 c) c (give (g (n, value.Num m))) (T (value.Num m)))
      → plus 3 d ≤ c
      → Matched chosen s c d (update_member performs id k.strict (update_kind up) base key >>= (λ v. give (g v)))
      (tell_update_member id k up base key >>= T)
  unfolding enter_hook
  member_to id k up base key g T {s} {c} {d} f le =
      spare {c = plus 3 d} le (extra
      (subst (Matched chosen s (plus 2 d) d
      (update_member performs id k.strict (update_kind up) base key >>= (λ v. give (g v))))
      (sym (bind_assoc (update_member emits id k.strict (update_kind up) base key) (λ r. give r.1) T))
      (update_member_told id k.strict (update_kind up) base key (λ v. give (g v)) (λ r. T r.1) (omega arith)
      (λ n m e t. f n m e t d))))

  module _ (k : Context) (up : Bool) (id : ℕ) where
    -- the update of a member, and what is made of the new value
    update_dot_to : {o o' : Part (Answer Value)} (key : Text) (id' : ℕ) (g : Number × Value → Value)
        (T : Value → Part (Answer Value)) → ExpressionMatch chosen o o'
        → ((n m : Number) → next_after (update_kind up) n ≡ Some m
        → (t : Store) (c : ℕ) → Matched chosen t (plus 2 c) c (give (g (n, value.Num m))) (T (value.Num m)))
        → (s : Store) (c : ℕ)
        → Matched chosen s (plus 4 c) c
        (o >>= (λ base. (update_member performs id k.strict (update_kind up) base (value.Text key)
        >>= (λ v. give (g v)))))
        ((o' >>= (λ v. (key_argument id' key >>= (λ w. tell_update_member id k up v w)))) >>= T)
    unfolding literal
    update_dot_to key id' g T x f s c =
        bind2 (λ v. (key_argument id' key >>= (λ w. tell_update_member id k up v w))) T (omega arith) (x.at s _)
        (λ base t. extra (peeks (own (member_to id k up base (value.Text key) g T f (omega arith)))))

    update_index_to : {o o' e e' : Part (Answer Value)} (g : Number × Value → Value) (T : Value → Part (Answer Value))
        → ExpressionMatch chosen o o' → ExpressionMatch chosen e e'
        → ((n m : Number) → next_after (update_kind up) n ≡ Some m
        → (t : Store) (c : ℕ) → Matched chosen t (plus 2 c) c (give (g (n, value.Num m))) (T (value.Num m)))
        → (s : Store) (c : ℕ)
        → Matched chosen s (plus 4 c) c
        (o >>= (λ base. (e >>= (λ key. (update_member performs id k.strict (update_kind up) base key
        >>= (λ v. give (g v)))))))
        ((o' >>= (λ v. (e' >>= (λ w. tell_update_member id k up v w)))) >>= T)
    update_index_to {e' = e'} g T x y f s c =
        bind2 (λ v. (e' >>= (λ w. tell_update_member id k up v w))) T (omega arith) (x.at s _)
        (λ base t. bind2 (λ w. tell_update_member id k up base w) T (omega arith) (y.at t _)
        (λ key t. member_to id k up base key g T f (omega arith)))

    pub update_dot_prefix : {o o' : Part (Answer Value)} (key : Text) (id' : ℕ) → ExpressionMatch chosen o o'
        → ExpressionMatch chosen (Step (o >>= (λ base. update_expression id k base (value.Text key) up true)))
        (Step (o' >>= (λ v. (key_argument id' key >>= (λ w. tell_update_member id k up v w)))))
    unfolding update_expression
    update_dot_prefix key id' x = record {
      at = λ s c. both (spare {c = plus 8 c} (omega arith) (subst (Matched chosen s (plus 8 c) (plus 4 c) _) (unit _)
          (update_dot_to key id' (result_of_update true) give x (λ n m e t c. ends (omega arith)) s (plus 4 c))));
    }

    pub update_dot_postfix : {o o' : Part (Answer Value)} (key : Text) (id' id3 id4 : ℕ) → ExpressionMatch chosen o o'
        → ExpressionMatch chosen (Step (o >>= (λ base. update_expression id k base (value.Text key) up false)))
        (Step (Step (o' >>= (λ v. (key_argument id' key >>= (λ w. tell_update_member id k up v w))))
        >>= one_back id3 id4 up))
    unfolding update_expression
    update_dot_postfix key id' id3 id4 x = record {
      at = λ s c. both (spare {c = plus 9 c} (omega arith) (extra
          (update_dot_to key id' (result_of_update false) (one_back id3 id4 up) x
          (λ n m e t c. one_back_to id3 id4 up n m e (omega arith)) s (plus 4 c))));
    }

    pub update_index_prefix : {o o' e e' : Part (Answer Value)} → ExpressionMatch chosen o o'
        → ExpressionMatch chosen e e'
        → ExpressionMatch chosen (Step (o >>= (λ base. (e >>= (λ key. update_expression id k base key up true)))))
        (Step (o' >>= (λ v. (e' >>= (λ w. tell_update_member id k up v w)))))
    unfolding update_expression
    update_index_prefix x y = record {
      at = λ s c. both (spare {c = plus 8 c} (omega arith) (subst (Matched chosen s (plus 8 c) (plus 4 c) _) (unit _)
          (update_index_to (result_of_update true) give x y (λ n m e t c. ends (omega arith)) s (plus 4 c))));
    }

    pub update_index_postfix : {o o' e e' : Part (Answer Value)} (id3 id4 : ℕ) → ExpressionMatch chosen o o'
        → ExpressionMatch chosen e e'
        → ExpressionMatch chosen (Step (o >>= (λ base. (e >>= (λ key. update_expression id k base key up false)))))
        (Step (Step (o' >>= (λ v. (e' >>= (λ w. tell_update_member id k up v w)))) >>= one_back id3 id4 up))
    unfolding update_expression
    update_index_postfix id3 id4 x y = record {
      at = λ s c. both (spare {c = plus 9 c} (omega arith) (extra
          (update_index_to (result_of_update false) (one_back id3 id4 up) x y
          (λ n m e t c. one_back_to id3 id4 up n m e (omega arith)) s (plus 4 c))));
    }
