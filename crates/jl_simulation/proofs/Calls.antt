-- Calls, constructions and assignments to members: their woven forms are pairs of calls, of which the first prepares.
use Rattle.std.proofs.Common.{◌≡◌, ℕ, suc, ◌+◌, ◌≤◌, List, [], ◌∷◌, Bool, true, false, Some, None, subst, arith}
use Rattle.std.specs.Prelude.{map}
use mathlib.Core.Path.{fun_ext}
use Rattle.jl_ast.specs.Tree.{Text}
use Rattle.jl_ast.specs.declared.ops.BinOp.{BinOp}
use Rattle.jl_value.specs.declared.value.Value.{Value}
use Rattle.jl_value.specs.declared.value.Value.TheVariants as value
use Rattle.jl_heap.specs.Describe.{seen_of}
use Rattle.jl_heap.specs.Objects.{object_at}
use Rattle.jl_heap.specs.declared.inner.Inner.{Inner}
use Rattle.jl_op.specs.Chosen.{Kinds}
use Rattle.jl_op.specs.declared.callee.Callee.{Callee}
use Rattle.jl_op.specs.declared.kind.OpKind.TheVariants as kind
use Rattle.jl_op.specs.declared.op.Op.TheVariants as op
use Rattle.jl_effects.specs.Effects.{Step}
use Rattle.jl_effects.specs.Matching.{both, extra, looks, peeks, told, own, spare}
use Rattle.jl_meaning.specs.FunctionObjects.{callee_of, FunctionTable}
use Rattle.jl_meaning.specs.Noting.{emits, note, note_value, performs, Noting}
use Rattle.jl_meaning.specs.Parts.{begin_call, CallOf, Context, Part, Answer, ◌>>=◌, give, lift, look}
use Rattle.jl_meaning.specs.Store.{Store}
use Rattle.jl_meaning.specs.forms.Calls.{call_member, call_value, function_of, invoke}
use Rattle.jl_meaning.specs.forms.HookCalls.{opens_assign, opens_call, opens_method, opens_new, opens_put, Opener}
use Rattle.jl_meaning.specs.forms.Hooks.{close, enter_opener, pending_assign, pending_call, pending_put, Pending}
use Rattle.jl_meaning.specs.forms.Literals.{literal}
use Rattle.jl_meaning.specs.forms.Members.{assign_member, get_member, member_name, read_member}
use Rattle.jl_simulation.proofs.Members.{get_told, key_argument, put_told, read_silent}
use Rattle.jl_simulation.proofs.Operators.{operate_told}
use Rattle.jl_simulation.proofs.Relation.{Matched, done, bind, algorithm, lifted, begun, bind2, bind_both, quiet, fewer}
use Rattle.jl_simulation.proofs.Relation.{ExpressionMatch, EvenMatch}

-- a call, where what operations tell of functions is given
abbrev invoke_as : Noting → (Inner → Callee) → (id : ℕ) → (callee this : Value) → List Value → (by_new : Bool)
    → Part (Answer Value)
invoke_as how of id callee this args by_new = do
  store ← look
  f ← lift (function_of by_new store.heap callee)
  _ ← note how id (λ heap. op.InvokePre f (of (object_at heap f.0).inner) (seen_of heap this) (map (seen_of heap) args)
      by_new)
  v ← begin_call CallOf (record { callee = f; this = this; args = args; by_new = by_new })
  _ ← note_value how (id + 1) (op.InvokePost f) v
  give v

-- what has been prepared, and the second call
abbrev pub closing : FunctionTable → Context → Part (Answer (List Value)) → Pending → Part (Answer Value)
closing table k args pending = args >>= (λ ws. close table k pending ws)

abbrev pub pair : FunctionTable → Context → (id : ℕ) → Opener → Part (Answer (List Value)) → List Value
    → Part (Answer Value)
pair table k id h args vs = Step (enter_opener id h vs) >>= closing table k args

abbrev pub only_value : Part (Answer Value) → Part (Answer (List Value))
only_value e = e >>= (λ v. give (v ∷ []))

module _ {chosen : Kinds} (table table' : FunctionTable) (same : (i : Inner) → callee_of table i ≡ callee_of table' i)
  where
    invoke_told : (id : ℕ) (callee this : Value) (args : List Value) (by_new : Bool) {s : Store} {c : ℕ}
        → Matched chosen s c c (invoke table performs id callee this args by_new)
        (invoke table' emits id callee this args by_new)
    unfolding invoke
    invoke_told id callee this args by_new {s} {c} =
        subst (λ of. Matched chosen s c c (invoke_as performs (callee_of table) id callee this args by_new)
        (invoke_as emits of id callee this args by_new)) (fun_ext same)
        (looks (peeks (lifted (function_of by_new s.heap callee) (omega arith) (λ f t. looks (peeks (told
        (begun _ (omega arith) (λ v t. looks (peeks (told done))))))))))

    invoke_silent : (id id' : ℕ) (callee this : Value) (args : List Value) (by_new : Bool)
        → chosen kind.InvokePre ≡ false → chosen kind.InvokePost ≡ false → {s : Store} {c : ℕ}
        → Matched chosen s c c (invoke table performs id callee this args by_new)
        (invoke table' performs id' callee this args by_new)
    unfolding invoke
    invoke_silent id id' callee this args by_new e f {s} {c} =
        subst (λ of. Matched chosen s c c (invoke_as performs (callee_of table) id callee this args by_new)
        (invoke_as performs of id' callee this args by_new)) (fun_ext same)
        (looks (peeks (lifted (function_of by_new s.heap callee) (omega arith) (λ g t. looks (peeks (quiet e (own
        (begun _ (omega arith) (λ v t. looks (peeks (quiet f (own done))))))))))))

    module _ (k : Context) where
      -- f(..) by F, and new f(..) by N
      pub call_told : {f f' : Part (Answer Value)} {args args' : Part (Answer (List Value))} (id : ℕ)
          → ExpressionMatch chosen f f' → EvenMatch chosen args args'
          → ExpressionMatch chosen (Step (call_value table id f args))
          (Step (Step (f' >>= (λ v. pair table' k id opens_call args' (v ∷ [])))))
      unfolding enter_opener close
      call_told id x y = record {
        at = λ s c. both (extra (bind (omega arith) (x.at s _) (λ f t. extra (bind (omega arith) (y.at t _) (λ vs t.
            fewer (omega arith) (invoke_told id f value.Undefined vs false))))));
      }

      pub new_told : {f f' : Part (Answer Value)} {args args' : Part (Answer (List Value))} (id : ℕ)
          → ExpressionMatch chosen f f' → EvenMatch chosen args args'
          → ExpressionMatch chosen
          (Step (f >>= (λ f. (args >>= (λ vs. invoke table performs id f value.Undefined vs true)))))
          (Step (Step (f' >>= (λ v. pair table' k id opens_new args' (v ∷ [])))))
      unfolding enter_opener close
      new_told id x y = record {
        at = λ s c. both (extra (bind (omega arith) (x.at s _) (λ f t. extra (bind (omega arith) (y.at t _) (λ vs t.
            fewer (omega arith) (invoke_told id f value.Undefined vs true))))));
      }

      -- o[k](..) by M: the member is got before the arguments
      method_to : {args args' : Part (Answer (List Value))} (id : ℕ) (base key : Value) → EvenMatch chosen args args'
          → {s : Store} {c d : ℕ} → suc d ≤ c
          → Matched chosen s c d (call_member table id (id + 1) base key args)
          (pair table' k id opens_method args' (base ∷ key ∷ []))
      unfolding enter_opener close read_member
      method_to {args = args} {args' = args'} id base key y {d = d} le =
          spare {c = suc d} le (extra (bind_both (λ x. get_member performs id base x)
          (λ f. (args >>= (λ vs. invoke table performs (id + 1) f base vs false)))
          (λ x. (get_member emits id base x >>= (λ f. give (pending_call (id + 1) f base)))) (closing table' k args')
          (omega arith) (algorithm (member_name base key))
          (λ x t. bind2 (λ f. give (pending_call (id + 1) f base)) (closing table' k args') (omega arith)
          (get_told id base x) (λ f t. bind (omega arith) (y.at t _) (λ vs t. invoke_told (id + 1) f base vs false)))))

      pub method_dot_told : {o o' : Part (Answer Value)} {args args' : Part (Answer (List Value))} (key : Text)
          (id id' : ℕ) → ExpressionMatch chosen o o' → EvenMatch chosen args args'
          → ExpressionMatch chosen (Step (o >>= (λ base. call_member table id (id + 1) base (value.Text key) args)))
          (Step (Step (o' >>= (λ v. (key_argument id' key >>= (λ w. pair table' k id opens_method args'
          (v ∷ w ∷ [])))))))
      unfolding literal
      method_dot_told key id id' x y = record {
        at = λ s c. both (extra (bind (omega arith) (x.at s _) (λ base t. extra (peeks (own
            (method_to id base (value.Text key) y (omega arith)))))));
      }

      pub method_index_told : {o o' e e' : Part (Answer Value)} {args args' : Part (Answer (List Value))} (id : ℕ)
          → ExpressionMatch chosen o o' → ExpressionMatch chosen e e' → EvenMatch chosen args args'
          → ExpressionMatch chosen (Step (o >>= (λ base. (e >>= (λ key. call_member table id (id + 1) base key args)))))
          (Step (Step (o' >>= (λ v. (e' >>= (λ w. pair table' k id opens_method args' (v ∷ w ∷ [])))))))
      method_index_told id x y z = record {
        at = λ s c. both (extra (bind (omega arith) (x.at s _) (λ base t. bind (omega arith) (y.at t _) (λ key t.
            method_to id base key z (omega arith)))));
      }

      -- o[k] = e by P
      put_to : {e e' : Part (Answer Value)} (id : ℕ) (base key : Value) → ExpressionMatch chosen e e' → {s : Store}
          {c d : ℕ} → suc d ≤ c
          → Matched chosen s c d (assign_member id k base key None e)
          (pair table' k id opens_put (only_value e') (base ∷ key ∷ []))
      unfolding enter_opener close
      put_to {e' = e'} id base key x {d = d} le =
          spare {c = suc d} le (extra (bind2 (λ x. give (pending_put id base x)) (closing table' k (only_value e'))
          (omega arith) (algorithm (member_name base key))
          (λ y t. bind2 (λ v. give (v ∷ [])) (λ ws. close table' k (pending_put id base y) ws) (omega arith) (x.at t _)
          (λ v t. fewer (omega arith) (bind (omega arith) (put_told id k.strict base y v) (λ u t. done))))))

      pub put_dot_told : {o o' e e' : Part (Answer Value)} (key : Text) (id id' : ℕ) → ExpressionMatch chosen o o'
          → ExpressionMatch chosen e e'
          → ExpressionMatch chosen (Step (o >>= (λ base. assign_member id k base (value.Text key) None e)))
          (Step (Step (o' >>= (λ v. (key_argument id' key >>= (λ w.
          pair table' k id opens_put (only_value e') (v ∷ w ∷ [])))))))
      unfolding literal
      put_dot_told key id id' x y = record {
        at = λ s c. both (extra (bind (omega arith) (x.at s _) (λ base t. extra (peeks (own
            (put_to id base (value.Text key) y (omega arith)))))));
      }

      pub put_index_told : {o o' i i' e e' : Part (Answer Value)} (id : ℕ) → ExpressionMatch chosen o o'
          → ExpressionMatch chosen i i' → ExpressionMatch chosen e e'
          → ExpressionMatch chosen (Step (o >>= (λ base. (i >>= (λ key. assign_member id k base key None e)))))
          (Step (Step (o' >>= (λ v. (i' >>= (λ w. pair table' k id opens_put (only_value e') (v ∷ w ∷ [])))))))
      put_index_told id x y z = record {
        at = λ s c. both (extra (bind (omega arith) (x.at s _) (λ base t. bind (omega arith) (y.at t _) (λ key t.
            put_to id base key z (omega arith)))));
      }

      -- o[k] op= e by A
      assign_to : {e e' : Part (Answer Value)} (o : BinOp) (id : ℕ) (base key : Value) → ExpressionMatch chosen e e'
          → {s : Store} {c d : ℕ} → suc d ≤ c
          → Matched chosen s c d (assign_member id k base key (Some o) e)
          (pair table' k id (opens_assign o) (only_value e') (base ∷ key ∷ []))
      unfolding enter_opener close
      assign_to {e' = e'} o id base key x {d = d} le =
          spare {c = suc d} le (extra (bind2
          (λ y. (get_member emits id base y >>= (λ held. give (pending_assign id o base y held))))
          (closing table' k (only_value e')) (omega arith) (algorithm (member_name base key))
          (λ y t. bind2 (λ held. give (pending_assign id o base y held)) (closing table' k (only_value e'))
          (omega arith)
          (get_told id base y)
          (λ held t. bind2 (λ v. give (v ∷ [])) (λ ws. close table' k (pending_assign id o base y held) ws)
          (omega arith)
          (x.at t _) (λ v t. fewer (omega arith) (bind (omega arith) (operate_told (id + 1) o held v) (λ r t.
          bind (omega arith) (put_told (id + 2) k.strict base y r) (λ u t. done))))))))

      pub assign_dot_told : {o o' e e' : Part (Answer Value)} (q : BinOp) (key : Text) (id id' : ℕ)
          → ExpressionMatch chosen o o' → ExpressionMatch chosen e e'
          → ExpressionMatch chosen (Step (o >>= (λ base. assign_member id k base (value.Text key) (Some q) e)))
          (Step (Step (o' >>= (λ v. (key_argument id' key >>= (λ w.
          pair table' k id (opens_assign q) (only_value e') (v ∷ w ∷ [])))))))
      unfolding literal
      assign_dot_told q key id id' x y = record {
        at = λ s c. both (extra (bind (omega arith) (x.at s _) (λ base t. extra (peeks (own
            (assign_to q id base (value.Text key) y (omega arith)))))));
      }

      pub assign_index_told : {o o' i i' e e' : Part (Answer Value)} (q : BinOp) (id : ℕ) → ExpressionMatch chosen o o'
          → ExpressionMatch chosen i i' → ExpressionMatch chosen e e'
          → ExpressionMatch chosen (Step (o >>= (λ base. (i >>= (λ key. assign_member id k base key (Some q) e)))))
          (Step (Step (o' >>= (λ v. (i' >>= (λ w. pair table' k id (opens_assign q) (only_value e') (v ∷ w ∷ [])))))))
      assign_index_told q id x y z = record {
        at = λ s c. both (extra (bind (omega arith) (x.at s _) (λ base t. bind (omega arith) (y.at t _) (λ key t.
            assign_to q id base key z (omega arith)))));
      }

    -- CALLS AS THEY STAND
    module _ (pre : chosen kind.InvokePre ≡ false) (post : chosen kind.InvokePost ≡ false) where
      pub call_silent : {f f' : Part (Answer Value)} {args args' : Part (Answer (List Value))} (id id' : ℕ)
          → ExpressionMatch chosen f f' → EvenMatch chosen args args'
          → ExpressionMatch chosen (Step (call_value table id f args)) (Step (call_value table' id' f' args'))
      call_silent id id' x y = record {
        at = λ s c. both (bind (omega arith) (x.at s _) (λ f t. bind (omega arith) (y.at t _) (λ vs t.
            fewer (omega arith) (invoke_silent id id' f value.Undefined vs false pre post))));
      }

      pub new_silent : {f f' : Part (Answer Value)} {args args' : Part (Answer (List Value))} (id id' : ℕ)
          → ExpressionMatch chosen f f' → EvenMatch chosen args args'
          → ExpressionMatch chosen
          (Step (f >>= (λ f. (args >>= (λ vs. invoke table performs id f value.Undefined vs true)))))
          (Step (f' >>= (λ f. (args' >>= (λ vs. invoke table' performs id' f value.Undefined vs true)))))
      new_silent id id' x y = record {
        at = λ s c. both (bind (omega arith) (x.at s _) (λ f t. bind (omega arith) (y.at t _) (λ vs t.
            fewer (omega arith) (invoke_silent id id' f value.Undefined vs true pre post))));
      }

      method_silent : {args args' : Part (Answer (List Value))} (get get' id id' : ℕ) (base key : Value)
          → chosen kind.GetField ≡ false → EvenMatch chosen args args' → {s : Store} {c d : ℕ} → d ≤ c
          → Matched chosen s c d (call_member table get id base key args) (call_member table' get' id' base key args')
      method_silent get get' id id' base key e y le =
          bind le (read_silent get get' base key e (omega arith)) (λ f t. bind le (y.at t _) (λ vs t.
          fewer le (invoke_silent id id' f base vs false pre post)))

      pub method_dot_silent : {o o' : Part (Answer Value)} {args args' : Part (Answer (List Value))} (key : Text)
          (get get' id id' : ℕ) → chosen kind.GetField ≡ false → ExpressionMatch chosen o o'
          → EvenMatch chosen args args'
          → ExpressionMatch chosen (Step (o >>= (λ base. call_member table get id base (value.Text key) args)))
          (Step (o' >>= (λ base. call_member table' get' id' base (value.Text key) args')))
      method_dot_silent key get get' id id' e x y = record {
        at = λ s c. both (bind (omega arith) (x.at s _) (λ base t.
            method_silent get get' id id' base (value.Text key) e y (omega arith)));
      }

      pub method_index_silent : {o o' i i' : Part (Answer Value)} {args args' : Part (Answer (List Value))}
          (get get' id id' : ℕ) → chosen kind.GetField ≡ false → ExpressionMatch chosen o o'
          → ExpressionMatch chosen i i' → EvenMatch chosen args args'
          → ExpressionMatch chosen (Step (o >>= (λ base. (i >>= (λ key. call_member table get id base key args)))))
          (Step (o' >>= (λ base. (i' >>= (λ key. call_member table' get' id' base key args')))))
      method_index_silent get get' id id' e x y z = record {
        at = λ s c. both (bind (omega arith) (x.at s _) (λ base t. bind (omega arith) (y.at t _) (λ key t.
            method_silent get get' id id' base key e z (omega arith))));
      }
