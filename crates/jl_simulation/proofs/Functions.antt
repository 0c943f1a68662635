-- Calls of functions match calls of the woven functions.
use Rattle.std.proofs.Common.{◌≡◌, ℕ, ◌+◌, ◌<◌, List, [], length, Bool, false, Option, Some, codes, sym, ap, ap₂}
use Rattle.std.proofs.Common.{◌∙◌, subst, arith}
use Rattle.std.specs.Prelude.{if◌then◌else◌, ◌||◌}
use Rattle.jl_ast.specs.Tree as tree
use Rattle.jl_ast.specs.Tree.{Forest, Ident}
use Rattle.jl_value.specs.declared.ending.Completion.{Completion}
use Rattle.jl_value.specs.declared.ending.Completion.TheVariants as completion
use Rattle.jl_value.specs.declared.value.Value.{Value}
use Rattle.jl_heap.specs.Describe.{seen_of}
use Rattle.jl_heap.specs.declared.inner.Inner.{Inner}
use Rattle.jl_op.specs.Chosen.{Kinds}
use Rattle.jl_op.specs.Ids.{forest_id_count, forest_with_ids, id_count, with_ids}
use Rattle.jl_op.specs.declared.kind.OpKind.TheVariants as kind
use Rattle.jl_op.specs.declared.op.Op.TheVariants as op
use Rattle.jl_effects.specs.Effects.{and_then, End, Step}
use Rattle.jl_effects.specs.Matching.{changes, ends, extra, fails, looks, own, peeks, plus, told}
use Rattle.jl_effects.proofs.Chains.{and_then-assoc}
use Rattle.jl_meaning.specs.Changes.{apply, NewEnvironment}
use Rattle.jl_meaning.specs.Completions.{ends_as, if_normal, normal, on_given, then_do}
use Rattle.jl_meaning.specs.DeclarationBinding.{declare_body}
use Rattle.jl_meaning.specs.FunctionObjects.{callee_of, function_params, FunctionTable, ScriptFunction}
use Rattle.jl_meaning.specs.Noting.{note, performs}
use Rattle.jl_meaning.specs.Parts.{give, lift, ◌>>=◌, Algorithm, Answer, Call}
use Rattle.jl_meaning.specs.Parts.{Context, Func, Part, Running, Stmts}
use Rattle.jl_meaning.specs.Statements.{execute_all}
use Rattle.jl_meaning.specs.Store.{next_environment, Store}
use Rattle.jl_meaning.specs.forms.Functions.{begin_script, call_script, construct_script, enter_function}
use Rattle.jl_meaning.specs.forms.Functions.{function_context, new_instance, result_of, run_function, this_within}
use Rattle.jl_meaning.specs.forms.HookCalls.{enters_function, exits_function}
use Rattle.jl_meaning.specs.forms.Hooks.{enter_hook}
use Rattle.jl_meaning.specs.forms.Try.{unless_abrupt}
use Rattle.jl_meaning.proofs.Binds.{lift_bind}
use Rattle.jl_simulation.specs.HookCalls as weaving
use Rattle.jl_simulation.specs.HookCalls.{enter_and_leave, hook, hook_statement}
use Rattle.jl_simulation.specs.Plain.{id_limit}
use Rattle.jl_simulation.specs.Weaving.{weave, woven_forest}
use Rattle.jl_simulation.specs.inner.Fit.{AllFit, Fits}
use Rattle.jl_simulation.proofs.Chosen.{first_not, second_not, split}
use Rattle.jl_simulation.proofs.Declarations.{enter_same, function_of}
use Rattle.jl_simulation.proofs.HookCalls.{hook_plain_0}
use Rattle.jl_simulation.proofs.HookNames.{form_E, form_L}
use Rattle.jl_simulation.proofs.Relation.{algorithm, bind, bind_both, followed, lifted, pick, quiet, Matched}
use Rattle.jl_simulation.proofs.Relation.{StatementMatch}
use Rattle.jl_simulation.proofs.Statements.{execute_all_match}

-- the body of a woven function, with what its hooks E and L do
abbrev woven_function : (enters exits : Part (Answer Value)) → Part Completion → Part Completion
woven_function enters exits p =
    then_do (Step (and_then (then_do (Step (and_then enters (on_given (λ _. normal)))) p) (λ tried.
    and_then (End tried) (λ handled. ends_as (unless_abrupt handled)
    (then_do (Step (and_then exits (on_given (λ _. normal)))) normal))))) normal

-- how a function ends
abbrev leaving : (id m : ℕ) → Completion → Part (Answer Value)
leaving id m how = note performs id (λ heap. op.FunctionExit m) >>= (λ _. result_of how)

-- what a function does once it has been entered
abbrev running : (id id' : ℕ) → Running → Part Completion → Part (Answer Value)
running id id' r p =
    note performs id (λ heap. op.FunctionEnter r.function (seen_of heap r.this) r.args r.by_new)
    >>= (λ _. and_then p (leaving id' r.function))

-- where the code of a call of a function runs
abbrev in_call : ℕ → Bool → Running → Context
in_call env strict r = record { env = env; strict = strict; call = Some r }

-- and how it ends by L
abbrev left_by_hook : (id id' env : ℕ) → Bool → Running → Completion → Part (Answer Value)
left_by_hook id id' env strict r z =
    and_then (and_then (ends_as (unless_abrupt z) (then_do
    (Step (and_then (Step (Step (enter_hook (in_call env strict r) id exits_function [])))
    (on_given (λ _. normal)))) normal))
    (if_normal normal)) (leaving id' r.function)

module _ {chosen : Kinds} where
  -- the first part's end is taken by three in a row of the second
  then_three : {A B C E : Type 0} {s : Store} {c d e : ℕ} {p : Part A} {k : A → Part E} {q : Part A} (f : A → Part B)
      (g : B → Part C) (h : C → Part E) → Matched chosen s c d p q
      → ((a : A) (t : Store) → Matched chosen t d e (k a) (and_then (and_then (f a) g) h))
      → Matched chosen s c e (and_then p k) (and_then (and_then (and_then q f) g) h)
  then_three {s = s} {c = c} {e = e} {p = p} {k = k} {q = q} f g h m n =
      subst (Matched chosen s c e (and_then p k))
      (sym (ap (λ x. and_then x h) (and_then-assoc q f g) ∙ and_then-assoc q (λ a. and_then (f a) g) h)) (followed m n)

  leave_told : (id id' env : ℕ) (strict : Bool) (r : Running) (z : Completion) (t : Store) (c : ℕ)
      → Matched chosen t (plus 3 c) 0 (leaving id r.function z) (left_by_hook id id' env strict r z)
  unfolding enter_hook
  leave_told id id' env strict r completion.Normal t c =
      looks (extra (extra (extra (told (peeks (own (ends (omega arith))))))))
  leave_told id id' env strict r (completion.Return v) t c =
      looks (extra (extra (extra (told (peeks (own (ends (omega arith))))))))
  leave_told id id' env strict r (completion.Throw v) t c =
      looks (extra (extra (extra (told (peeks (own (ends (omega arith))))))))
  leave_told id id' env strict r (completion.Break x) t c = looks (extra (extra (extra (told (peeks (own fails))))))
  leave_told id id' env strict r (completion.Continue x) t c = looks (extra (extra (extra (told (peeks (own fails))))))

  result_to : (z : Completion) (t : Store) (c : ℕ) → Matched chosen t c 0 (result_of z) (result_of z)
  result_to completion.Normal t c = ends (omega arith)
  result_to (completion.Return v) t c = ends (omega arith)
  result_to (completion.Throw v) t c = ends (omega arith)
  result_to (completion.Break x) t c = fails
  result_to (completion.Continue x) t c = fails

  running_told : (id id' id2 id3 env : ℕ) (strict : Bool) (r : Running) {p p' : Part Completion}
      → StatementMatch chosen p p' → (s : Store)
      → Matched chosen s 31 0 (running id id' r p)
      (running id2 id3 r (woven_function (Step (Step (enter_hook (in_call env strict r) id enters_function [])))
      (Step (Step (enter_hook (in_call env strict r) id' exits_function []))) p'))
  unfolding enter_hook
  running_told id id' id2 id3 env strict r {p} {p'} x s =
      looks (peeks (own (extra (extra (extra (extra (peeks (told
      (then_three (λ tried. and_then (End tried) (λ handled. ends_as (unless_abrupt handled) (then_do
      (Step (and_then (Step (Step (enter_hook (in_call env strict r) id' exits_function []))) (on_given (λ _. normal))))
      normal))) (if_normal normal) (leaving id3 r.function) (x.at s 27)
      (λ z t. leave_told id' id3 env strict r z t 24))))))))))

  running_silent : (id id' id2 id3 : ℕ) (r : Running) → chosen kind.FunctionEnter ≡ false
      → chosen kind.FunctionExit ≡ false → {p p' : Part Completion} → StatementMatch chosen p p' → (s : Store)
      → Matched chosen s 31 0 (running id id' r p) (running id2 id3 r p')
  running_silent id id' id2 id3 r e f x s =
      looks (peeks (quiet e (own (followed (x.at s 31) (λ z t. looks (peeks (quiet f (own (result_to z t 31)))))))))

module _ (chosen : Kinds) (table table' : FunctionTable)
    (same : (i : Inner) → callee_of table i ≡ callee_of table' i) where
  -- the body of a function, and the woven body
  run_match : (m : ℕ) (x : Option (Ident ℕ)) (ps : List (Ident ℕ)) (st : Bool) (fs : Forest ℕ tree.func) (l : Stmts)
      (id : ℕ) → AllFit l → id + 1 < id_limit → (j : ℕ) (strict : Bool) (env : ℕ) (this : Value) (call : Call)
      (s : Store)
      → Matched chosen s 31 0
      (run_function table (function_of (tree.function m x ps (tree.body st fs l) id) strict) this call
      (function_context (function_of (tree.function m x ps (tree.body st fs l) id) strict) env this call))
      (run_function table'
      (function_of (with_ids j (weave chosen (tree.function m x ps (tree.body st fs l) id))) strict) this call
      (function_context (function_of (tree.function m x ps (tree.body st fs l) id) strict) env this call))
  run_match m x ps st fs l id p small j strict env this call s =
      let r : Running = record { function = m; this = this; args = length call.args; by_new = call.by_new } in
      let c : Context = in_call env strict r in
      let l' : weaving.Stmts = woven_forest chosen l in
      let n : ℕ = j + 2 + forest_id_count (woven_forest chosen fs) in
      let k : ℕ = n + 0 in
      let first : weaving.Stmt = hook_statement (hook (codes "E") id tree.end) in
      split (chosen kind.FunctionEnter || chosen kind.FunctionExit)
      (λ which. Matched chosen s 31 0 (running id (id + 1) r (execute_all table l c))
      (running j (j + 1) r
      (execute_all table' (forest_with_ids n (if which then enter_and_leave id l' else l')) c)))
      (subst (Matched chosen s 31 0 (running id (id + 1) r (execute_all table l c)))
      (ap₂ (λ a b. running j (j + 1) r
      (woven_function a b (execute_all table' (forest_with_ids (k + id_count first) l') c)))
      (sym (hook_plain_0 table' c (codes "E") enters_function form_E id (omega arith) k))
      (sym (hook_plain_0 table' c (codes "L") exits_function form_L (id + 1) small
      (k + forest_id_count (tree.more first l') + 0))))
      (running_told id (id + 1) j (j + 1) env strict r
      (execute_all_match chosen table table' same l p (k + id_count first) c) s))
      (λ e. running_silent id (id + 1) j (j + 1) r (first_not (chosen kind.FunctionEnter) (chosen kind.FunctionExit) e)
      (second_not (chosen kind.FunctionEnter) (chosen kind.FunctionExit) e)
      (execute_all_match chosen table table' same l p n c) s)

  call_match : (f : Func) → Fits f → (j : ℕ) (strict : Bool) (env : ℕ) (call : Call) (s : Store)
      → Matched chosen s 31 0 (call_script table (function_of f strict) env call)
      (call_script table' (function_of (with_ids j (weave chosen f)) strict) env call)
  unfolding enter_function
  call_match (tree.function m x ps (tree.body st fs l) id) p j strict env call s =
      let f : ScriptFunction = function_of (tree.function m x ps (tree.body st fs l) id) strict in
      let f' : ScriptFunction = function_of (with_ids j (weave chosen (tree.function m x ps
      (tree.body st fs l) id))) strict in
      let k : Value → Context → Part (Answer Value) = λ this c. run_function table f this call c in
      let k' : Value → Context → Part (Answer Value) = λ this c. run_function table' f' this call c in
      lifted (this_within strict call.this) (omega arith) (λ this t.
      let inside : Context = function_context f (next_environment t) this call in
      let declared : Algorithm (Unit {0}) =
      declare_body (tree.body st fs l) strict call.callee
      (function_params (tree.function m x ps (tree.body st fs l) id)) call.args inside in
      subst (λ p. Matched chosen t 31 0 (lift (enter_function f env this call) >>= k this) (lift p >>= k' this))
      (enter_same chosen (tree.function m x ps (tree.body st fs l) id) strict j env this call)
      (looks (peeks (changes (subst (λ p. Matched chosen (apply (NewEnvironment env) t) 31 0 (p >>= k this)
      (p >>= k' this))
      (sym (lift_bind declared (λ _. give inside)))
      (bind_both (λ _. give inside) (k this) (λ _. give inside) (k' this) (omega arith) (algorithm declared)
      (λ u t'. run_match m x ps st fs l id p.0.1 p.1 j strict (next_environment t) this call t')))))))

  construct_match : (f : Func) → Fits f → (j : ℕ) (strict : Bool) (env : ℕ) (call : Call) (s : Store)
      → Matched chosen s 31 0 (construct_script table (function_of f strict) env call)
      (construct_script table' (function_of (with_ids j (weave chosen f)) strict) env call)
  construct_match f p j strict env call s =
      lifted (new_instance call.callee) (omega arith) (λ object t.
      bind (omega arith) (call_match f p j strict env (record call { this = object }) t) (λ v t. ends (omega arith)))

  pub begin_match : (f : Func) → Fits f → (j : ℕ) (strict : Bool) (env : ℕ) (call : Call) (s : Store)
      → Matched chosen s 31 0 (begin_script table (function_of f strict) env call)
      (begin_script table' (function_of (with_ids j (weave chosen f)) strict) env call)
  begin_match f p j strict env call s =
      pick call.by_new (construct_match f p j strict env call s) (call_match f p j strict env call s)
