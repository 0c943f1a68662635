-- Calls of functions and of hooks do the same with any ids, but for what the script performs: a hook reads its id in
-- the
-- text of the script.
use Rattle.std.proofs.Common.{◌≡◌, ℕ, suc, ◌+◌, ◌==◌, List, Bool, false, true, Option, Some, None, pos, refl, sym, ap}
use Rattle.std.proofs.Common.{ap₂}
use Rattle.std.specs.Option.{option_and_then}
use Rattle.std.specs.Prelude.{if◌then◌else◌, map, option_map}
use mathlib.Core.Path.{fun_ext}
use Rattle.jl_ast.specs.Tree as tree
use Rattle.jl_value.specs.declared.ending.Fault.TheVariants.{Misuse}
use Rattle.jl_value.specs.declared.value.Value.{Value}
use Rattle.jl_value.specs.declared.value.Value.TheVariants as value
use Rattle.jl_heap.specs.Describe.{seen_of}
use Rattle.jl_heap.specs.Objects.{object_at, Name}
use Rattle.jl_heap.specs.declared.inner.Inner.{Inner}
use Rattle.jl_op.specs.declared.callee.Callee.{Callee}
use Rattle.jl_op.specs.declared.op.Op.TheVariants as op
use Rattle.jl_effects.specs.Effects.{Fail, Step}
use Rattle.jl_meaning.specs.FunctionObjects.{callee_of, FunctionTable}
use Rattle.jl_meaning.specs.Noting.{emits, note, note_value, performs}
use Rattle.jl_meaning.specs.Parts.{begin_call, give, lift, look, ◌>>=◌, Answer, CallOf, Context, Expr, Exprs, Part}
use Rattle.jl_meaning.specs.forms.Calls.{call_member, call_value, function_of, invoke}
use Rattle.jl_meaning.specs.forms.HookCalls.{asked_of, count, form_of, form_of_member, hook, hook_call, id_in}
use Rattle.jl_meaning.specs.forms.HookCalls.{literals_of, no_hook, opener, plain, takes_arguments, word_in, worded}
use Rattle.jl_meaning.specs.forms.HookCalls.{CalleeForm, Hook, HookCall, Opener, Shape}
use Rattle.jl_meaning.specs.forms.Hooks.{call_by_form, call_hook, call_of_call, call_opener, call_pair, close}
use Rattle.jl_meaning.specs.forms.Hooks.{enter_hook}
use Rattle.jl_meaning.specs.forms.Hooks.{enter_opener, pending_assign, pending_call, pending_new, pending_put}
use Rattle.jl_meaning.specs.forms.Hooks.{Arguments, Pending}
use Rattle.jl_quiet.proofs.Bare.{bare, bare_forest}
use Rattle.jl_quiet.proofs.Forms.{read_member_alike}
use Rattle.jl_quiet.proofs.Relation.{begin_call_alike, bind, itself, lift_alike, look_alike, perform_alike, pick}
use Rattle.jl_quiet.proofs.Relation.{second_is, step_alike, Alike}

-- WHAT CALLS OF HOOKS LOOK LIKE
pub count_same : (l : Exprs) → count (bare_forest l) ≡ count l
count_same tree.end = refl
count_same (tree.more e l) = ap suc (count_same l)

id_same : (l : Exprs) → id_in (bare_forest l) ≡ id_in l
id_same (tree.more (tree.number (Some (pos n)) s) l) = refl
id_same _ = refl

word_same : (l : Exprs) → word_in (bare_forest l) ≡ word_in l
word_same (tree.more e (tree.more (tree.string units s) l)) = refl
word_same _ = refl

pub member_same : (o : Expr) (k : Name) → form_of_member (bare o) k ≡ form_of_member o k
member_same (tree.name x s) k = refl
member_same _ k = refl

pub form_same : (f : Expr) → form_of (bare f) ≡ form_of f
form_same (tree.dot o k s) = member_same o k
form_same _ = refl

asked_same : {H : Type 0} (shape : Shape H) (l : Exprs) → asked_of shape (bare_forest l) ≡ asked_of shape l
asked_same (plain h n) l = ap (λ k. if k == 1 + n then Some h else None) (count_same l)
asked_same (worded h n) l =
    ap₂ (λ k word. if k == 2 + n then option_and_then h word else None) (count_same l) (word_same l)

-- a call of a hook, by its id and what it is asked for
abbrev asks : {H : Type 0} → (literals : ℕ) → (asked : Option H) → Option ℕ → Option (HookCall H)
asks literals asked id =
    option_and_then (λ id. option_map (λ h. record { id = id; asked = h; literals = literals }) asked) id

call_same : {H : Type 0} (shape : Shape H) (l : Exprs) → hook_call shape (bare_forest l) ≡ hook_call shape l
call_same shape l = ap₂ (λ asked id. asks (literals_of shape) asked id) (asked_same shape l) (id_same l)

-- the arguments of both calls
abbrev pub ArgumentsAlike : Arguments → Arguments → Type 0
ArgumentsAlike args args' = (literals : ℕ) → Alike (args literals) (args' literals)

hook_alike : (c : Context) (h : Option (HookCall Hook)) {args args' : Arguments} → ArgumentsAlike args args'
    → Alike (call_hook c h args) (call_hook c h args')
hook_alike c None y = record { same = refl }
hook_alike c (Some h) y = bind (y h.literals) (λ vs. itself (Step (enter_hook c h.id h.asked vs)))

at_form : (form : CalleeForm) (l : Exprs) (c : Context) {args args' : Arguments} → ArgumentsAlike args args'
    → {p p' : Part (Answer Value)} → Alike p p'
    → Alike (call_by_form form l c args p) (call_by_form form (bare_forest l) c args' p')
at_form (hook shape) l c {args' = args'} y x =
    second_is (ap (λ h. call_hook c h args') (sym (call_same shape l))) (hook_alike c (hook_call shape l) y)
at_form (opener shape) l c y x = record { same = refl }
at_form no_hook l c y x = x

pub by_form_alike : (o : Expr) (k : Name) (l : Exprs) (c : Context) {args args' : Arguments}
    → ArgumentsAlike args args'
    → {p p' : Part (Answer Value)} → Alike p p'
    → Alike (call_by_form (form_of_member o k) l c args p)
    (call_by_form (form_of_member (bare o) k) (bare_forest l) c args' p')
by_form_alike o k l c {args' = args'} y {p' = p'} x =
    second_is (ap (λ form. call_by_form form (bare_forest l) c args' p') (sym (member_same o k)))
    (at_form (form_of_member o k) l c y x)

-- a call, where what operations tell of functions is given
abbrev call_emitting : (Inner → Callee) → (id : ℕ) → (callee this : Value) → List Value → (by_new : Bool)
    → Part (Answer Value)
call_emitting of id callee this args by_new = do
  store ← look
  f ← lift (function_of by_new store.heap callee)
  _ ← note emits id (λ heap.
      op.InvokePre f (of (object_at heap f.0).inner) (seen_of heap this) (map (seen_of heap) args) by_new)
  v ← begin_call CallOf (record { callee = f; this = this; args = args; by_new = by_new })
  _ ← note_value emits (id + 1) (op.InvokePost f) v
  give v

module _ (table table' : FunctionTable) (same : (i : Inner) → callee_of table i ≡ callee_of table' i) where
  -- CALLS OF FUNCTIONS
  pub invoke_alike : (id id' : ℕ) (callee this : Value) (args : List Value) (by_new : Bool)
      → Alike (invoke table performs id callee this args by_new) (invoke table' performs id' callee this args by_new)
  unfolding invoke
  invoke_alike id id' callee this args by_new =
      look_alike (λ s. lift_alike (function_of by_new s.heap callee) (λ f.
      perform_alike (begin_call_alike _ (λ v. record { same = refl }))))

  pub call_value_alike : (id id' : ℕ) {f f' : Part (Answer Value)} {args args' : Part (Answer (List Value))}
      → Alike f f'
      → Alike args args' → Alike (call_value table id f args) (call_value table' id' f' args')
  call_value_alike id id' x y = bind x (λ f. bind y (λ vs. invoke_alike id id' f value.Undefined vs false))

  pub call_member_alike : (get get' id id' : ℕ) (base key : Value) {args args' : Part (Answer (List Value))}
      → Alike args args' → Alike (call_member table get id base key args) (call_member table' get' id' base key args')
  call_member_alike get get' id id' base key y =
      bind (read_member_alike get get' base key) (λ f. bind y (λ vs. invoke_alike id id' f base vs false))

  -- PAIRS OF CALLS
  invoke_emits_alike : (id : ℕ) (callee this : Value) (args : List Value) (by_new : Bool)
      → Alike (invoke table emits id callee this args by_new) (invoke table' emits id callee this args by_new)
  unfolding invoke
  invoke_emits_alike id callee this args by_new =
      second_is (ap (λ of. call_emitting of id callee this args by_new) (fun_ext same))
      (itself (invoke table emits id callee this args by_new))

  close_alike : (c : Context) (pending : Pending) (vs : List Value)
      → Alike (close table c pending vs) (close table' c pending vs)
  unfolding close
  close_alike c (pending_put id base x) vs = record { same = refl }
  close_alike c (pending_assign id o base x held) vs = record { same = refl }
  close_alike c (pending_call pre callee this) vs = invoke_emits_alike pre callee this vs false
  close_alike c (pending_new pre callee) vs = invoke_emits_alike pre callee value.Undefined vs true

  pair_alike : (c : Context) (h : Option (HookCall Opener)) {first first' : Arguments} → ArgumentsAlike first first'
      → {second second' : Part (Answer (List Value))} → Alike second second'
      → Alike (call_pair table c h first second) (call_pair table' c h first' second')
  pair_alike c None x y = record { same = refl }
  pair_alike c (Some h) x y =
      step_alike (bind (x h.literals) (λ vs. step_alike (bind (itself (enter_opener h.id h.asked vs)) (λ pending.
      bind y (λ ws. close_alike c pending ws)))))

  opener_alike : (c : Context) (shape : Shape Opener) (inner l : Exprs) {first first' : Arguments}
      → ArgumentsAlike first first' → {second second' : Part (Answer (List Value))} → Alike second second'
      → Alike (call_opener table c shape inner first (count l) second)
      (call_opener table' c shape (bare_forest inner) first' (count (bare_forest l)) second')
  opener_alike c shape inner l {first' = first'} x {second' = second'} y =
      second_is (ap₂ (λ h n. if takes_arguments shape n then call_pair table' c h first' second' else Fail Misuse)
      (sym (call_same shape inner)) (sym (count_same l)))
      (pick (takes_arguments shape (count l)) (pair_alike c (hook_call shape inner) x y) (itself (Fail Misuse)))

  at_callee : (c : Context) (form : CalleeForm) (inner l : Exprs) {first first' : Arguments}
      → ArgumentsAlike first first' → {second second' : Part (Answer (List Value))} → Alike second second'
      → {p p' : Part (Answer Value)} → Alike p p'
      → Alike (call_of_call table c form inner first (count l) second p)
      (call_of_call table' c form (bare_forest inner) first' (count (bare_forest l)) second' p')
  at_callee c (hook shape) inner l x y z = z
  at_callee c (opener shape) inner l x y z = opener_alike c shape inner l x y
  at_callee c no_hook inner l x y z = z

  pub call_of_call_alike : (c : Context) (f : Expr) (inner l : Exprs) {first first' : Arguments}
      → ArgumentsAlike first first' → {second second' : Part (Answer (List Value))} → Alike second second'
      → {p p' : Part (Answer Value)} → Alike p p'
      → Alike (call_of_call table c (form_of f) inner first (count l) second p)
      (call_of_call table' c (form_of (bare f)) (bare_forest inner) first' (count (bare_forest l)) second' p')
  call_of_call_alike c f inner l {first' = first'} x {second' = second'} y {p' = p'} z =
      second_is (ap (λ form. call_of_call table' c form (bare_forest inner) first' (count (bare_forest l)) second' p')
      (sym (form_same f))) (at_callee c (form_of f) inner l x y z)
