-- Jobs that match have parts that match.
use Rattle.std.proofs.Common.{ℕ, zero, suc, slice_get, subst, arith}
use Rattle.jl_heap.specs.Objects.{object_at}
use Rattle.jl_heap.specs.declared.inner.Inner.{Inner}
use Rattle.jl_heap.specs.declared.inner.Inner.TheVariants as inner
use Rattle.jl_op.specs.Chosen.{is_kept, Kinds}
use Rattle.jl_effects.specs.Matching.{ends, looks, peeks, JobsMatch}
use Rattle.jl_meaning.specs.Changes.{apply}
use Rattle.jl_meaning.specs.FunctionObjects.{FunctionTable}
use Rattle.jl_meaning.specs.Jobs.{begin_known, call_inside, job}
use Rattle.jl_meaning.specs.Parts.{lift, Call}
use Rattle.jl_meaning.specs.Store.{Store}
use Rattle.jl_meaning.specs.builtins.Function.{names_of}
use Rattle.jl_meaning.specs.builtins.Table.{builtin_algorithm}
use Rattle.jl_simulation.proofs.Functions.{begin_match}
use Rattle.jl_simulation.proofs.Relation.{algorithm, calls, fewer, followed, turns, AreJobs, Matched}
use Rattle.jl_simulation.proofs.Tables.{callees_same, names_same, none, one, TableMatch}
use Rattle.jl_simulation.proofs.Turns.{turn_match}

module _ (chosen : Kinds) (table table' : FunctionTable) (all : TableMatch chosen table table') where
  known_match : {l m : FunctionTable} → TableMatch chosen l m → (k env : ℕ) (call : Call) (s : Store)
      → Matched chosen s 31 0 (begin_known table (slice_get l k) env call)
      (begin_known table' (slice_get m k) env call)
  known_match none k env call s = ends (omega arith)
  known_match (one f p j strict x) zero env call s =
      begin_match chosen table table' (callees_same all) f p j strict env call s
  known_match (one f p j strict x) (suc k) env call s = known_match x k env call s

  inside_match : (call : Call) (i : Inner) (s : Store)
      → Matched chosen s 31 0 (call_inside table s.heap call i) (call_inside table' s.heap call i)
  inside_match call (inner.Script number env) s = known_match all number env call s
  inside_match call (inner.Native b) s =
      subst (λ names. Matched chosen s 31 0 (lift (builtin_algorithm (names_of table) b call)) (lift (builtin_algorithm names b call)))
      (names_same all) (fewer (omega arith) (algorithm (builtin_algorithm (names_of table) b call)))
  inside_match call (inner.Bound target this args) s = fewer (omega arith) (algorithm _)
  inside_match call _ s = ends (omega arith)

  pub jobs_match : JobsMatch apply (is_kept chosen) (AreJobs chosen) (job table) (job table')
  jobs_match _ _ (calls call) s =
      looks (peeks (followed (inside_match call (object_at s.heap call.callee.0).inner s) (λ a t. ends (omega arith))))
  jobs_match _ _ (turns l c labels id p id' j k m) s =
      turn_match chosen table table' (callees_same all) l c labels id p id' j k m s
