-- Calls of functions and of hooks do the same with other ids, but for these. A hook reads its id in the text of the
-- script.
use Rattle.std.proofs.Common.{◌≡◌, ℕ, suc, ◌+◌, ◌==◌, List, Bool, false, true, Option, Some, None, pos, refl, ap, ap₂}
use Rattle.std.specs.Option.{option_and_then}
use Rattle.std.specs.Prelude.{if◌then◌else◌, map, option_map}
use mathlib.Core.Path.{fun_ext}
use Rattle.jl_ast.specs.Spans.{map_forest, map_tree}
use Rattle.jl_ast.specs.Tree as tree
use Rattle.jl_value.specs.declared.ending.Fault.TheVariants.{Misuse}
use Rattle.jl_value.specs.declared.value.Value.{Value}
use Rattle.jl_value.specs.declared.value.Value.TheVariants as value
use Rattle.jl_heap.specs.Describe.{seen_of}
use Rattle.jl_heap.specs.Objects.{object_at, Name}
use Rattle.jl_heap.specs.declared.inner.Inner.{Inner}
use Rattle.jl_op.specs.declared.callee.Callee.{Callee}
use Rattle.jl_op.specs.declared.op.Op.TheVariants as op
use Rattle.jl_effects.specs.Effects.{Fail}
use Rattle.jl_meaning.specs.FunctionObjects.{callee_of, FunctionTable}
use Rattle.jl_meaning.specs.Noting.{emits, note, note_value, performs, Noting}
use Rattle.jl_meaning.specs.Parts.{begin_call, give, lift, look, ◌>>=◌, Answer, CallOf, Context, Expr, Exprs, Part}
use Rattle.jl_meaning.specs.forms.Calls.{call_member, call_value, function_of, invoke}
use Rattle.jl_meaning.specs.forms.HookCalls.{asked_of, count, form_of, form_of_member, hook, hook_call, id_in}
use Rattle.jl_meaning.specs.forms.HookCalls.{literals_of, no_hook, opener, plain, takes_arguments, word_in, worded}
use Rattle.jl_meaning.specs.forms.HookCalls.{CalleeForm, Hook, HookCall, Opener, Shape}
use Rattle.jl_meaning.specs.forms.Hooks.{call_by_form, call_hook, call_of_call, call_opener, call_pair, close}
use Rattle.jl_meaning.specs.forms.Hooks.{pending_assign, pending_call, pending_new, pending_put, Arguments, Pending}
use Rattle.jl_operation_rows.proofs.Hooks.{close_emits, hook_emits, opener_emits}
use Rattle.jl_operation_rows.proofs.Pairs.{ends, fails, looks, steps}
use Rattle.jl_operation_rows.proofs.Renaming.{bind, call_same, lift_then, perform, pick, second_is, silent}
use Rattle.jl_operation_rows.proofs.Renaming.{Renaming, Same, Twins}
use Rattle.jl_operation_rows.proofs.SameForms.{read_member_same}

-- WHAT CALLS OF HOOKS LOOK LIKE
module _ (f g : ℕ → ℕ) where
  pub count_same : (l : Exprs) → count (map_forest f l) ≡ count (map_forest g l)
  count_same tree.end = refl
  count_same (tree.more e l) = ap suc (count_same l)

  id_same : (l : Exprs) → id_in (map_forest f l) ≡ id_in (map_forest g l)
  id_same (tree.more (tree.number (Some (pos n)) s) l) = refl
  id_same _ = refl

  word_same : (l : Exprs) → word_in (map_forest f l) ≡ word_in (map_forest g l)
  word_same (tree.more e (tree.more (tree.string units s) l)) = refl
  word_same _ = refl

  member_same : (o : Expr) (k : Name) → form_of_member (map_tree f o) k ≡ form_of_member (map_tree g o) k
  member_same (tree.name x s) k = refl
  member_same _ k = refl

  form_same : (e : Expr) → form_of (map_tree f e) ≡ form_of (map_tree g e)
  form_same (tree.dot o k s) = member_same o k
  form_same _ = refl

  asked_same : {H : Type 0} (shape : Shape H) (l : Exprs)
      → asked_of shape (map_forest f l) ≡ asked_of shape (map_forest g l)
  asked_same (plain h n) l = ap (λ k. if k == 1 + n then Some h else None) (count_same l)
  asked_same (worded h n) l =
      ap₂ (λ k word. if k == 2 + n then option_and_then h word else None) (count_same l) (word_same l)

  -- a call of a hook, by its id and what it is asked for
  abbrev asks : {H : Type 0} → (literals : ℕ) → (asked : Option H) → Option ℕ → Option (HookCall H)
  asks literals asked id =
      option_and_then (λ id. option_map (λ h. record { id = id; asked = h; literals = literals }) asked) id

  hook_call_same : {H : Type 0} (shape : Shape H) (l : Exprs)
      → hook_call shape (map_forest f l) ≡ hook_call shape (map_forest g l)
  hook_call_same shape l = ap₂ (λ asked id. asks (literals_of shape) asked id) (asked_same shape l) (id_same l)

-- the arguments of both calls
abbrev pub SameArguments : Renaming → Arguments → Arguments → Type 0
SameArguments r args args' = (literals : ℕ) → Same r (args literals) (args' literals)

module _ {r : Renaming} where
  hook_same : (c : Context) (h : Option (HookCall Hook)) {args args' : Arguments} → SameArguments r args args'
      → Same r (call_hook c h args) (call_hook c h args')
  hook_same c None y = fails
  hook_same c (Some h) y = bind (y h.literals) (λ vs. steps (silent (hook_emits c h.id h.asked vs)))

  at_form : (form : CalleeForm) (l : Exprs) (c : Context) {args args' : Arguments} → SameArguments r args args'
      → {p p' : Part (Answer Value)} → Same r p p'
      → Same r (call_by_form form (map_forest r.from l) c args p) (call_by_form form (map_forest r.to l) c args' p')
  at_form (hook shape) l c {args' = args'} y x =
      second_is (ap (λ h. call_hook c h args') (hook_call_same r.from r.to shape l))
      (hook_same c (hook_call shape (map_forest r.from l)) y)
  at_form (opener shape) l c y x = fails
  at_form no_hook l c y x = x

  pub by_form_same : (o : Expr) (k : Name) (l : Exprs) (c : Context) {args args' : Arguments}
      → SameArguments r args args' → {p p' : Part (Answer Value)} → Same r p p'
      → Same r (call_by_form (form_of_member (map_tree r.from o) k) (map_forest r.from l) c args p)
      (call_by_form (form_of_member (map_tree r.to o) k) (map_forest r.to l) c args' p')
  by_form_same o k l c {args' = args'} y {p' = p'} x =
      second_is (ap (λ form. call_by_form form (map_forest r.to l) c args' p') (member_same r.from r.to o k))
      (at_form (form_of_member (map_tree r.from o) k) l c y x)

-- a call, where what operations tell of functions is given
abbrev call_noting : (Inner → Callee) → Noting → (id : ℕ) → (callee this : Value) → List Value → (by_new : Bool)
    → Part (Answer Value)
call_noting of how id callee this args by_new = do
  store ← look
  f ← lift (function_of by_new store.heap callee)
  _ ← note how id (λ heap.
      op.InvokePre f (of (object_at heap f.0).inner) (seen_of heap this) (map (seen_of heap) args) by_new)
  v ← begin_call CallOf (record { callee = f; this = this; args = args; by_new = by_new })
  _ ← note_value how (id + 1) (op.InvokePost f) v
  give v

module _ (table table' : FunctionTable) (same : (i : Inner) → callee_of table i ≡ callee_of table' i) where
  -- over another table
  over_table : (how : Noting) (id : ℕ) (callee this : Value) (args : List Value) (by_new : Bool)
      → invoke table how id callee this args by_new ≡ invoke table' how id callee this args by_new
  unfolding invoke
  over_table how id callee this args by_new = ap (λ of. call_noting of how id callee this args by_new) (fun_ext same)

  close_over : (c : Context) (pending : Pending) (vs : List Value)
      → close table c pending vs ≡ close table' c pending vs
  unfolding close
  close_over c (pending_put id base x) vs = refl
  close_over c (pending_assign id o base x held) vs = refl
  close_over c (pending_call pre callee this) vs = over_table emits pre callee this vs false
  close_over c (pending_new pre callee) vs = over_table emits pre callee value.Undefined vs true

module _ {r : Renaming} (table table' : FunctionTable)
    (same : (i : Inner) → callee_of table i ≡ callee_of table' i) where
  -- CALLS OF FUNCTIONS
  with_ids : {i j : ℕ} → Twins r i j → (callee this : Value) (args : List Value) (by_new : Bool)
      → Same r (invoke table performs i callee this args by_new) (invoke table performs j callee this args by_new)
  unfolding invoke
  with_ids ids callee this args by_new =
      looks (λ s. lift_then (function_of by_new s.heap callee) (λ f.
      perform ids.first (call_same (record { callee = f; this = this; args = args; by_new = by_new }) (λ v.
      perform ids.second ends))))

  pub invoke_same : {i j : ℕ} → Twins r i j → (callee this : Value) (args : List Value) (by_new : Bool)
      → Same r (invoke table performs i callee this args by_new) (invoke table' performs j callee this args by_new)
  invoke_same {j = j} ids callee this args by_new =
      second_is (over_table table table' same performs j callee this args by_new) (with_ids ids callee this args by_new)

  pub call_value_same : {i j : ℕ} → Twins r i j → {f f' : Part (Answer Value)} {args args' : Part (Answer (List Value))}
      → Same r f f' → Same r args args' → Same r (call_value table i f args) (call_value table' j f' args')
  call_value_same ids x y = bind x (λ f. bind y (λ vs. invoke_same ids f value.Undefined vs false))

  pub call_member_same : {a b i j : ℕ} → Twins r a b → Twins r i j → (base key : Value)
      {args args' : Part (Answer (List Value))} → Same r args args'
      → Same r (call_member table a i base key args) (call_member table' b j base key args')
  call_member_same get ids base key y =
      bind (read_member_same get.first base key) (λ f. bind y (λ vs. invoke_same ids f base vs false))

  -- PAIRS OF CALLS
  close_same : (c : Context) (pending : Pending) (vs : List Value)
      → Same r (close table c pending vs) (close table' c pending vs)
  close_same c pending vs =
      second_is (close_over table table' same c pending vs) (silent (close_emits table c pending vs))

  pair_same : (c : Context) (h : Option (HookCall Opener)) {first first' : Arguments} → SameArguments r first first'
      → {second second' : Part (Answer (List Value))} → Same r second second'
      → Same r (call_pair table c h first second) (call_pair table' c h first' second')
  pair_same c None x y = steps fails
  pair_same c (Some h) x y =
      steps (bind (x h.literals) (λ vs. bind (steps (silent (opener_emits h.id h.asked vs))) (λ pending.
      bind y (λ ws. close_same c pending ws))))

  opener_same : (c : Context) (shape : Shape Opener) (inner l : Exprs) {first first' : Arguments}
      → SameArguments r first first' → {second second' : Part (Answer (List Value))} → Same r second second'
      → Same r (call_opener table c shape (map_forest r.from inner) first (count (map_forest r.from l)) second)
      (call_opener table' c shape (map_forest r.to inner) first' (count (map_forest r.to l)) second')
  opener_same c shape inner l {first' = first'} x {second' = second'} y =
      second_is (ap₂ (λ h n. if takes_arguments shape n then call_pair table' c h first' second' else Fail Misuse)
      (hook_call_same r.from r.to shape inner) (count_same r.from r.to l))
      (pick (takes_arguments shape (count (map_forest r.from l)))
      (pair_same c (hook_call shape (map_forest r.from inner)) x y) fails)

  at_callee : (c : Context) (form : CalleeForm) (inner l : Exprs) {first first' : Arguments}
      → SameArguments r first first' → {second second' : Part (Answer (List Value))} → Same r second second'
      → {p p' : Part (Answer Value)} → Same r p p'
      → Same r (call_of_call table c form (map_forest r.from inner) first (count (map_forest r.from l)) second p)
      (call_of_call table' c form (map_forest r.to inner) first' (count (map_forest r.to l)) second' p')
  at_callee c (hook shape) inner l x y z = z
  at_callee c (opener shape) inner l x y z = opener_same c shape inner l x y
  at_callee c no_hook inner l x y z = z

  pub call_of_call_same : (c : Context) (f : Expr) (inner l : Exprs) {first first' : Arguments}
      → SameArguments r first first' → {second second' : Part (Answer (List Value))} → Same r second second'
      → {p p' : Part (Answer Value)} → Same r p p'
      → Same r (call_of_call table c (form_of (map_tree r.from f)) (map_forest r.from inner) first
      (count (map_forest r.from l)) second p)
      (call_of_call table' c (form_of (map_tree r.to f)) (map_forest r.to inner) first'
      (count (map_forest r.to l)) second' p')
  call_of_call_same c f inner l {first' = first'} x {second' = second'} y {p' = p'} z =
      second_is (ap (λ form. call_of_call table' c form (map_forest r.to inner) first'
      (count (map_forest r.to l)) second' p') (form_same r.from r.to f))
      (at_callee c (form_of (map_tree r.from f)) inner l x y z)
