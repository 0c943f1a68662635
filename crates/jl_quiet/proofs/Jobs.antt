-- Jobs do the same with no ids, but for what they perform.
use Rattle.std.proofs.Common.{◌≡◌, ℕ, zero, suc, [], ◌∷◌, length, slice_get, Some, refl, sym, ap, ap₂}
use Rattle.jl_ast.specs.Tree as tree
use Rattle.jl_heap.specs.Objects.{object_at, Objects}
use Rattle.jl_heap.specs.declared.inner.Inner.{Inner}
use Rattle.jl_heap.specs.declared.inner.Inner.TheVariants as inner
use Rattle.jl_op.specs.declared.callee.Callee.TheVariants as callee
use Rattle.jl_scope.specs.Names.{arguments_name}
use Rattle.jl_scope.proofs.Places.{mentions_same}
use Rattle.jl_effects.specs.Effects.{End}
use Rattle.jl_meaning.specs.FunctionObjects.{callee_of, script_callee, FunctionTable, ScriptFunction}
use Rattle.jl_meaning.specs.Jobs.{begin_known, call_inside, job}
use Rattle.jl_meaning.specs.Parts.{completion_of, lift, Call, CallOf, Func, Job, TurnOf}
use Rattle.jl_meaning.specs.builtins.Function.{names_of}
use Rattle.jl_meaning.specs.builtins.Table.{builtin_algorithm}
use Rattle.jl_quiet.proofs.Bare.{bare}
use Rattle.jl_quiet.proofs.Functions.{script_alike}
use Rattle.jl_quiet.proofs.MadeFunctions.{made_alike, params_same}
use Rattle.jl_quiet.proofs.Relation.{bare_job, then_alike, itself, look_alike, second_is, Alike}
use Rattle.jl_quiet.proofs.Tables.{bare_function, bare_table}
use Rattle.jl_quiet.proofs.Turns.{turn_alike}

-- what operations tell of functions is the same
script_same : (number : ℕ) (f : ScriptFunction)
    → script_callee number (Some f) ≡ script_callee number (Some (bare_function f))
script_same number f = at f.func
  where
    at : (g : Func) → script_callee number (Some (record { func = g; strict = f.strict }))
        ≡ script_callee number (Some (record { func = bare g; strict = f.strict }))
    at (tree.function m x params b s) =
        ap₂ (λ names mentioned. callee.Script number (length names) mentioned) (params_same params)
        (sym (mentions_same (λ s. 0) arguments_name b))

lookup_same : (l : FunctionTable) (number k : ℕ)
    → script_callee number (slice_get l k) ≡ script_callee number (slice_get (bare_table l) k)
lookup_same [] number k = refl
lookup_same (f ∷ l) number zero = script_same number f
lookup_same (f ∷ l) number (suc k) = lookup_same l number k

pub callees_same : (l : FunctionTable) (i : Inner) → callee_of l i ≡ callee_of (bare_table l) i
unfolding callee_of
callees_same l (inner.Script number env) = lookup_same l number number
callees_same l (inner.Native b) = refl
callees_same l _ = refl

names_same : (l : FunctionTable) → names_of l ≡ names_of (bare_table l)
names_same [] = refl
names_same (f ∷ l) = ap₂ (λ x names. x ∷ names) (made_alike f.func).name (names_same l)

module _ (table : FunctionTable) where
  known_alike : (l : FunctionTable) (k env : ℕ) (call : Call)
      → Alike (begin_known table (slice_get l k) env call)
      (begin_known (bare_table table) (slice_get (bare_table l) k) env call)
  known_alike [] k env call = record { same = refl }
  known_alike (f ∷ l) zero env call = script_alike table (bare_table table) (callees_same table) f env call
  known_alike (f ∷ l) (suc k) env call = known_alike l k env call

  inside_alike : (heap : Objects) (call : Call) (i : Inner)
      → Alike (call_inside table heap call i) (call_inside (bare_table table) heap call i)
  inside_alike heap call (inner.Script number env) = known_alike table number env call
  inside_alike heap call (inner.Native b) =
      second_is (ap (λ names. lift (builtin_algorithm names b call)) (names_same table))
      (itself (lift (builtin_algorithm (names_of table) b call)))
  inside_alike heap call (inner.Bound target this args) = record { same = refl }
  inside_alike heap call _ = record { same = refl }

  pub job_alike : (j : Job) → Alike (job table j) (job (bare_table table) (bare_job j))
  job_alike (CallOf call) =
      look_alike (λ s. then_alike (inside_alike s.heap call (object_at s.heap call.callee.0).inner) (λ a.
      itself (End (completion_of a))))
  job_alike (TurnOf t) = turn_alike table (bare_table table) (callees_same table) t
