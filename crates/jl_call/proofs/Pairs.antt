-- Pairs of calls of hooks: what the first prepares, and then the second.
use Rattle.std.proofs.Common.{◌≡◌, ◌+◌, [], ap, sym, subst, List, ℕ}
use Rattle.std.specs.Borrow.{Bor}
use mathlib.Core.Path.{fun_ext}
use Rattle.jl_ast.specs.View.{view_expressions}
use Rattle.jl_ast.specs.declared.ops.BinOp.{BinOp}
use Rattle.jl_ast.specs.declared.tree.Expr.{Expr}
use Rattle.jl_value.specs.declared.value.Value.{Value}
use Rattle.jl_value.specs.declared.value.Value.TheVariants as value
use Rattle.jl_heap.specs.Objects.{Name}
use Rattle.jl_effects.specs.Effects.{Step}
use Rattle.jl_meaning.specs.Expressions.{evaluate_all}
use Rattle.jl_meaning.specs.Noting.{emits}
use Rattle.jl_meaning.specs.Parts.{give, lift, ◌>>=◌, Answer, Part}
use Rattle.jl_meaning.specs.forms.HookCalls.{opens_assign, opens_call, opens_method, opens_new, opens_put}
use Rattle.jl_meaning.specs.forms.Hooks.{close, enter_opener, first_of}
use Rattle.jl_meaning.specs.forms.Hooks.{pending_assign, pending_call, pending_new, pending_put}
use Rattle.jl_meaning.specs.forms.Hooks.{second_of, Pending}
use Rattle.jl_meaning.specs.forms.Members.{get_member, member_name}
use Rattle.jl_state.specs.Rest.{RefinesExpression}
use Rattle.jl_state.specs.Steps.{RanOut, Took}
use Rattle.jl_state.specs.Trees.{plain_forest}
use Rattle.jl_state.specs.ValueFrames.{key_after}
use Rattle.jl_state.specs.Words.{context_of, opener_of, pending_of, table_of}
use Rattle.jl_state.specs.declared.act.Act.TheVariants as act
use Rattle.jl_state.specs.declared.calls.Call.{Call}
use Rattle.jl_state.specs.declared.frame.Here.{Here}
use Rattle.jl_state.specs.declared.hook.CallId.{CallId}
use Rattle.jl_state.specs.declared.hook.HookId.{HookId}
use Rattle.jl_state.specs.declared.hook.Opener.{Opener}
use Rattle.jl_state.specs.declared.hook.Opener.TheVariants as opener
use Rattle.jl_state.specs.declared.hook.Pending.TheVariants as pending
use Rattle.jl_state.specs.declared.script_function.ScriptFunction.{ScriptFunction}
use Rattle.jl_state.specs.declared.value_frame.MemberUse.{MemberUse}
use Rattle.jl_state.specs.declared.value_frame.MemberUse.TheVariants as key_for
use Rattle.jl_state.specs.declared.act.Act.{Act}
use Rattle.jl_state.specs.declared.state.State.{State}
use Rattle.jl_meaning.proofs.Binds.{bind_assoc}
use Rattle.jl_state.proofs.Chains.{gives_assoc}

module _ (s t : State) (a : Act) (id : ℕ) (vs : List Value) (k : Pending → Part (Answer Value)) where
  abbrev named : (Name → Part (Answer Value)) → Part (Answer Value)
  named l = lift (member_name (first_of vs) (second_of vs)) >>= l

  -- a value is got, and then something is prepared
  got : (name : Name → Value → Pending)
      → RefinesExpression s (named (λ x. get_member emits id (first_of vs) x >>= λ v. k (name x v))) t a
      → RefinesExpression s (named (λ x. (get_member emits id (first_of vs) x >>= λ v. give (name x v)) >>= k)) t a
  got name refines =
      subst (λ (l : Name → Part (Answer Value)). RefinesExpression s (named l) t a)
      (fun_ext (λ x. sym (bind_assoc (get_member emits id (first_of vs) x) (λ v. give (name x v)) k))) refines

  put_prepared : RefinesExpression s (named (λ x. k (pending_put id (first_of vs) x))) t a
      → RefinesExpression s (enter_opener id opens_put vs >>= k) t a
  unfolding enter_opener
  put_prepared refines =
      gives_assoc s (lift (member_name (first_of vs) (second_of vs))) (λ x. give (pending_put id (first_of vs) x)) k t a
      refines

  assign_prepared : (o : BinOp)
      → RefinesExpression s (named (λ x.
      get_member emits id (first_of vs) x >>= λ v. k (pending_assign id o (first_of vs) x v))) t a
      → RefinesExpression s (enter_opener id (opens_assign o) vs >>= k) t a
  unfolding enter_opener
  assign_prepared o refines =
      gives_assoc s (lift (member_name (first_of vs) (second_of vs)))
      (λ x. get_member emits id (first_of vs) x >>= λ v. give (pending_assign id o (first_of vs) x v)) k t a
      (got (λ x v. pending_assign id o (first_of vs) x v) refines)

  method_prepared :
      RefinesExpression s (named (λ x. get_member emits id (first_of vs) x >>= λ v. k
      (pending_call (id + 1) v (first_of vs)))) t a
      → RefinesExpression s (enter_opener id opens_method vs >>= k) t a
  unfolding enter_opener
  method_prepared refines =
      gives_assoc s (lift (member_name (first_of vs) (second_of vs)))
      (λ x. get_member emits id (first_of vs) x >>= λ v. give (pending_call (id + 1) v (first_of vs))) k t a
      (got (λ x v. pending_call (id + 1) v (first_of vs)) refines)

  call_prepared : RefinesExpression s (k (pending_call id (first_of vs) value.Undefined)) t a
      → RefinesExpression s (enter_opener id opens_call vs >>= k) t a
  unfolding enter_opener
  call_prepared refines = refines

  new_prepared : RefinesExpression s (k (pending_new id (first_of vs))) t a
      → RefinesExpression s (enter_opener id opens_new vs >>= k) t a
  unfolding enter_opener
  new_prepared refines = refines

-- the same of the code's own types
module _ (s t : State) (a : Act) (id : HookId) (o : Opener) (vs : List Value) (second : Bor (List Expr)) (here : Here)
    (base : Value) (is_base : base ≡ first_of vs) where
  abbrev closes : Pending → Part (Answer Value)
  closes prepared =
      evaluate_all (table_of s.functions) 0 [] (plain_forest (view_expressions second.now)) (context_of s.calls here)
      >>= close (table_of s.functions) (context_of s.calls here) prepared

  abbrev opens : Opener → Part (Answer Value)
  opens p = enter_opener id.id (opener_of p) vs >>= closes

  abbrev named_for : MemberUse → Part (Answer Value)
  named_for purpose =
      lift (member_name (first_of vs) (second_of vs)) >>= key_after (table_of s.functions) s.calls purpose

  -- the base is the first of the values
  with_base : (F : Value → Part (Answer Value)) → RefinesExpression s (F base) t a
      → RefinesExpression s (F (first_of vs)) t a
  with_base F refines = subst (λ (b : Value). RefinesExpression s (F b) t a) is_base refines

  opened : (p : Opener) → o ≡ p → RefinesExpression s (opens p) t a → RefinesExpression s (opens o) t a
  opened p is refines = subst (λ (q : Opener). RefinesExpression s (opens q) t a) (sym is) refines

  pub prepares_put : o ≡ opener.Put → RefinesExpression s (named_for (key_for.Put id base second here)) t a
      → RefinesExpression s (opens o) t a
  prepares_put is refines =
      opened opener.Put is (put_prepared s t a id.id vs closes
      (with_base (λ b. named_for (key_for.Put id b second here)) refines))

  pub prepares_assign : (p : BinOp) → o ≡ opener.Assign p
      → RefinesExpression s (named_for (key_for.Compute id p base second here)) t a → RefinesExpression s (opens o) t a
  prepares_assign p is refines =
      opened (opener.Assign p) is (assign_prepared s t a id.id vs closes p
      (with_base (λ b. named_for (key_for.Compute id p b second here)) refines))

  pub prepares_method : o ≡ opener.Method → RefinesExpression s (named_for (key_for.Method id base second here)) t a
      → RefinesExpression s (opens o) t a
  prepares_method is refines =
      opened opener.Method is (method_prepared s t a id.id vs closes
      (with_base (λ b. named_for (key_for.Method id b second here)) refines))

  pub prepares_call : (call : CallId) → call.pre ≡ id.id → o ≡ opener.Call
      → RefinesExpression s (closes (pending_of (pending.Call call base value.Undefined))) t a
      → RefinesExpression s (opens o) t a
  prepares_call call same is refines =
      opened opener.Call is (call_prepared s t a id.id vs closes
      (with_base (λ b. closes (pending_call id.id b value.Undefined))
      (subst (λ (i : ℕ). RefinesExpression s (closes (pending_call i base value.Undefined)) t a) same refines)))

  pub prepares_new : (call : CallId) → call.pre ≡ id.id → o ≡ opener.New
      → RefinesExpression s (closes (pending_of (pending.New call base))) t a → RefinesExpression s (opens o) t a
  prepares_new call same is refines =
      opened opener.New is (new_prepared s t a id.id vs closes
      (with_base (λ b. closes (pending_new id.id b))
      (subst (λ (i : ℕ). RefinesExpression s (closes (pending_new i base)) t a) same refines)))

-- the first call takes a step when it is entered, and none is left
pub spent_first : {A : Type 0} (s : State) (p : Part (Answer A)) (k : A → Part (Answer Value)) → RanOut s
    → RefinesExpression s (Step p >>= k) s act.Spent
spent_first s p k ran_out = ran_out.gives (p >>= k)

module _ (id : HookId) (o : Opener) (vs : List Value) (second : Bor (List Expr)) (here : Here) where
  abbrev closes_in : List ScriptFunction → List Call → Pending → Part (Answer Value)
  closes_in functions calls prepared =
      evaluate_all (table_of functions) 0 [] (plain_forest (view_expressions second.now)) (context_of calls here)
      >>= close (table_of functions) (context_of calls here) prepared

  abbrev opens_in : List ScriptFunction → List Call → Part (Answer Value)
  opens_in functions calls = enter_opener id.id (opener_of o) vs >>= closes_in functions calls

  -- one is, which changes neither the functions nor the calls that are running
  pub took_first : (s t u : State) (a : Act) (n : ℕ) → Took s t → t ≡ record s { left = n }
      → RefinesExpression t (opens_in t.functions t.calls) u a
      → RefinesExpression s (Step (enter_opener id.id (opener_of o) vs) >>= closes_in s.functions s.calls) u a
  took_first s t u a n took is refines =
      took.gives (opens_in s.functions s.calls) u a
      (subst (λ (f : List ScriptFunction). RefinesExpression t (opens_in f s.calls) u a)
      (ap (λ (v : State). v.functions) is)
      (subst (λ (l : List Call). RefinesExpression t (opens_in t.functions l) u a)
      (ap (λ (v : State). v.calls) is) refines))
