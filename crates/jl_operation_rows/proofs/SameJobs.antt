-- Calls of functions, and all jobs, do the same with other places, but for the ids of what they perform.
use Rattle.std.proofs.Common.{◌≡◌, ◌∙◌, ◌++◌, ℕ, zero, suc, Bool, [], ◌∷◌, length, slice_get, Some, refl}
use Rattle.std.proofs.Common.{sym, ap, ap₂}
use Rattle.std.specs.Prelude.{map}
use Rattle.jl_ast.specs.Spans.{map_tree}
use Rattle.jl_ast.specs.Tree as tree
use Rattle.jl_scope.specs.Names.{arguments_name}
use Rattle.jl_scope.proofs.Places.{mentions_same}
use Rattle.jl_value.specs.declared.ending.Completion.{Completion}
use Rattle.jl_value.specs.declared.ending.Completion.TheVariants as completion
use Rattle.jl_value.specs.declared.value.Value.{Value}
use Rattle.jl_heap.specs.Objects.{object_at, Objects}
use Rattle.jl_heap.specs.declared.inner.Inner.{Inner}
use Rattle.jl_heap.specs.declared.inner.Inner.TheVariants as inner
use Rattle.jl_op.specs.declared.callee.Callee.TheVariants as callee
use Rattle.jl_meaning.specs.FunctionObjects.{callee_of, has_construct, script_callee, FunctionTable, ScriptFunction}
use Rattle.jl_meaning.specs.Jobs.{begin_known, call_bound, call_inside, job}
use Rattle.jl_meaning.specs.Parts.{lift, Call, Code, Context, Func, Job}
use Rattle.jl_meaning.specs.builtins.Function.{names_of}
use Rattle.jl_meaning.specs.builtins.Table.{builtin_algorithm}
use Rattle.jl_meaning.specs.forms.Functions.{begin_script, call_script, construct_script, enter_function}
use Rattle.jl_meaning.specs.forms.Functions.{new_instance, result_of, run_body, run_function, this_within}
use Rattle.jl_operation_rows.proofs.Pairs.{ends, fails, looks}
use Rattle.jl_operation_rows.proofs.Renaming.{algorithm, at_place, bind, lift_then, perform, pick, same_call, same_turn}
use Rattle.jl_operation_rows.proofs.Renaming.{second_is, then_same, Renaming, Same, SameJob}
use Rattle.jl_operation_rows.proofs.SameMade.{enter_same, made_same, map_function, params_same}
use Rattle.jl_operation_rows.proofs.SameStatements.{execute_all_same, turn_same}

abbrev pub map_table : (ℕ → ℕ) → FunctionTable → FunctionTable
map_table f table = map (map_function f) table

-- what operations tell of functions is the same
module _ (f g : ℕ → ℕ) where
  script_same : (number : ℕ) (x : ScriptFunction)
      → script_callee number (Some (map_function f x)) ≡ script_callee number (Some (map_function g x))
  script_same number x = at x.func
    where
      at : (y : Func) → script_callee number (Some (record { func = map_tree f y; strict = x.strict }))
          ≡ script_callee number (Some (record { func = map_tree g y; strict = x.strict }))
      at (tree.function m name params b s) =
          ap₂ (λ names mentioned. callee.Script number (length names) mentioned) (params_same f g params)
          (mentions_same f arguments_name b ∙ sym (mentions_same g arguments_name b))

  lookup_same : (l : FunctionTable) (number k : ℕ)
      → script_callee number (slice_get (map_table f l) k) ≡ script_callee number (slice_get (map_table g l) k)
  lookup_same [] number k = refl
  lookup_same (x ∷ l) number zero = script_same number x
  lookup_same (x ∷ l) number (suc k) = lookup_same l number k

  pub callees_same : (l : FunctionTable) (i : Inner) → callee_of (map_table f l) i ≡ callee_of (map_table g l) i
  unfolding callee_of
  callees_same l (inner.Script number env) = lookup_same l number number
  callees_same l (inner.Native b) = refl
  callees_same l _ = refl

  names_same : (l : FunctionTable) → names_of (map_table f l) ≡ names_of (map_table g l)
  names_same [] = refl
  names_same (x ∷ l) = ap₂ (λ name names. name ∷ names) (made_same f g x.func).name (names_same l)

result_same : {r : Renaming} (how : Completion) → Same r (result_of how) (result_of how)
result_same completion.Normal = ends
result_same (completion.Return v) = ends
result_same (completion.Throw v) = ends
result_same (completion.Break x) = fails
result_same (completion.Continue x) = fails

abbrev function_of : Func → (strict : Bool) → ScriptFunction
function_of f strict = record { func = f; strict = strict }

module _ (r : Renaming) where
  enters_same : (f : Func) (strict : Bool) (env : ℕ) (this : Value) (call : Call)
      → Same r (lift (enter_function (map_function r.from (function_of f strict)) env this call))
      (lift (enter_function (map_function r.to (function_of f strict)) env this call))
  enters_same f strict env this call =
      second_is (ap (λ p. lift p) (enter_same r.from r.to f strict env this call))
      (algorithm (enter_function (map_function r.from (function_of f strict)) env this call))

module _ (r : Renaming) (table : FunctionTable) where
  abbrev old : FunctionTable
  old = map_table r.from table

  abbrev new : FunctionTable
  new = map_table r.to table

  abbrev same : (i : Inner) → callee_of old i ≡ callee_of new i
  same = callees_same r.from r.to table

  pub body_same : (b : Code) (c : Context)
      → Same r (run_body old (map_tree r.from b) c) (run_body new (map_tree r.to b) c)
  body_same (tree.body strict fs l) c = execute_all_same r old new same l c

  run_same : (f : Func) (strict : Bool) (this : Value) (call : Call) (c : Context)
      → Same r (run_function old (map_function r.from (function_of f strict)) this call c)
      (run_function new (map_function r.to (function_of f strict)) this call c)
  run_same (tree.function m x params b s) strict this call c =
      let ids = at_place r s in
      perform ids.first (then_same (body_same b c) (λ how. perform ids.second (result_same how)))

  call_same : (f : Func) (strict : Bool) (env : ℕ) (call : Call)
      → Same r (call_script old (map_function r.from (function_of f strict)) env call)
      (call_script new (map_function r.to (function_of f strict)) env call)
  call_same f strict env call =
      lift_then (this_within strict call.this) (λ this. bind (enters_same r f strict env this call) (λ c.
      run_same f strict this call c))

  construct_same : (f : Func) (strict : Bool) (env : ℕ) (call : Call)
      → Same r (construct_script old (map_function r.from (function_of f strict)) env call)
      (construct_script new (map_function r.to (function_of f strict)) env call)
  construct_same f strict env call =
      lift_then (new_instance call.callee) (λ object.
      bind (call_same f strict env (record call { this = object })) (λ v. ends))

  begins_same : (f : ScriptFunction) (env : ℕ) (call : Call)
      → Same r (begin_script old (map_function r.from f) env call) (begin_script new (map_function r.to f) env call)
  begins_same f env call =
      pick call.by_new (construct_same f.func f.strict env call) (call_same f.func f.strict env call)

  known_same : (l : FunctionTable) (k env : ℕ) (call : Call)
      → Same r (begin_known old (slice_get (map_table r.from l) k) env call)
      (begin_known new (slice_get (map_table r.to l) k) env call)
  known_same [] k env call = ends
  known_same (f ∷ l) zero env call = begins_same f env call
  known_same (f ∷ l) (suc k) env call = known_same l k env call

  inside_same : (heap : Objects) (call : Call) (i : Inner)
      → Same r (call_inside old heap call i) (call_inside new heap call i)
  inside_same heap call (inner.Script number env) = known_same table number env call
  inside_same heap call (inner.Native b) =
      second_is (ap (λ names. lift (builtin_algorithm names b call)) (names_same r.from r.to table))
      (algorithm (builtin_algorithm (names_of old) b call))
  inside_same heap call (inner.Bound target this args) =
      algorithm (call_bound (has_construct (object_at heap target.0).inner) target this (args ++ call.args)
      call.by_new)
  inside_same heap call _ = ends

  pub jobs_same : (i j : Job) → SameJob r i j → Same r (job old i) (job new j)
  jobs_same i j (same_call call) =
      looks (λ s. then_same (inside_same s.heap call (object_at s.heap call.callee.0).inner) (λ a. ends))
  jobs_same i j (same_turn t) = turn_same r old new same t
