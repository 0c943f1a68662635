-- The jobs of a sound script fail by no Misuse.
use Rattle.std.proofs.Common.{ℕ, zero, suc, [], ◌∷◌, ◌++◌, slice_get}
use Rattle.jl_value.specs.declared.value.Value.TheVariants as value
use Rattle.jl_heap.specs.Objects.{object_at, Objects}
use Rattle.jl_heap.specs.declared.inner.Inner.{Inner}
use Rattle.jl_heap.specs.declared.inner.Inner.TheVariants as inner
use Rattle.jl_effects.specs.Effects.{End}
use Rattle.jl_meaning.specs.FunctionObjects.{has_construct, FunctionTable}
use Rattle.jl_meaning.specs.Jobs.{begin_known, call_bound, call_inside, job}
use Rattle.jl_meaning.specs.Parts.{completion_of, Call}
use Rattle.jl_meaning.specs.Store.{Store}
use Rattle.jl_meaning.specs.builtins.Function.{names_of}
use Rattle.jl_meaning.specs.builtins.Table.{builtin_algorithm}
use Rattle.jl_safety.proofs.Changes.{Keeps}
use Rattle.jl_safety.proofs.Functions.{script_safe}
use Rattle.jl_safety.proofs.Relation.{algorithm, from_then, job_of, ok, sound_call, sound_turn, From, MayEnd, Safe}
use Rattle.jl_safety.proofs.Relation.{SoundJob}
use Rattle.jl_safety.proofs.Tables.{AllSound}
use Rattle.jl_safety.proofs.Turns.{turn_safe}

module _ (table : FunctionTable) where
  known_safe : (l : FunctionTable) → AllSound l → (k env : ℕ) (call : Call)
      → Safe (begin_known table (slice_get l k) env call)
  known_safe [] h k env call = ok value.Undefined
  known_safe (f ∷ l) h zero env call = script_safe table f h.0 env call
  known_safe (f ∷ l) h (suc k) env call = known_safe l h.1 k env call

  module _ (all : AllSound table) where
    inside_safe : (heap : Objects) (call : Call) (i : Inner) → Safe (call_inside table heap call i)
    inside_safe heap call (inner.Script number env) = known_safe table all number env call
    inside_safe heap call (inner.Native b) = algorithm (builtin_algorithm (names_of table) b call)
    inside_safe heap call (inner.Bound target this args) =
        algorithm (call_bound (has_construct (object_at heap target.0).inner) target this (args ++ call.args)
        call.by_new)
    inside_safe heap call _ = ok value.Undefined

    called : (s : Store) (call : Call)
        → From s (λ how t. Keeps s t × MayEnd (sound_call call) how) (job table (job_of (sound_call call)))
    called s call =
        let i = (object_at s.heap call.callee.0).inner in
        from_then s (λ r t. Keeps s t) (λ how t. Keeps s t × MayEnd (sound_call call) how)
        (call_inside table s.heap call i) (λ a. End (completion_of a)) ((inside_safe s.heap call i).at s)
        (λ r t kept. (kept, tt))

    pub job_safe : (i : SoundJob) (s : Store) → From s (λ how t. Keeps s t × MayEnd i how) (job table (job_of i))
    job_safe (sound_call call) s = called s call
    job_safe (sound_turn a t h) s = (turn_safe table a t h).at s
