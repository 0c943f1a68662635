-- Operands that are no objects (11.8.6, 11.8.7, 15.3.5.3).
use Rattle.std.proofs.Common.{◌≡◌, codes, refl}
use Rattle.jl_value.specs.declared.object.ObjId.{ObjId}
use Rattle.jl_value.specs.declared.value.Value.{Value}
use Rattle.jl_value.specs.declared.value.Value.TheVariants as value
use Rattle.jl_heap.specs.Objects.{Objects}
use Rattle.jl_meaning.specs.Errors.{throw_type_error}
use Rattle.jl_meaning.specs.Relations.{has_prototype, in_object}
use Rattle.jl_state.specs.AlgorithmFrames.{algorithm_after}
use Rattle.jl_state.specs.Rest.{RefinesAlgorithm}
use Rattle.jl_state.specs.declared.act.Act.{Act}
use Rattle.jl_state.specs.declared.algorithm_frame.AlgorithmFrame.TheVariants as algorithm
use Rattle.jl_state.specs.declared.state.State.{State}

abbrev IsNone : Value → Type 0
IsNone v = (id : ObjId) → v ≡ value.Obj id → ⊥

pub nothing_in : (a b : Value) (s t : State) (x : Act) → IsNone b
    → RefinesAlgorithm s (throw_type_error (codes "not an object")) t x → RefinesAlgorithm s (in_object a b) t x
nothing_in a (value.Obj id) s t x none refines = absurd (none id refl)
nothing_in a b s t x none refines = refines

pub no_prototype : (heap : Objects) (id : ObjId) (proto : Value) (s t : State) (x : Act) → IsNone proto
    → RefinesAlgorithm s (throw_type_error (codes "not an object")) t x
    → RefinesAlgorithm s (has_prototype heap (value.Obj id) proto) t x
no_prototype heap id (value.Obj proto) s t x none refines = absurd (none proto refl)
no_prototype heap id proto s t x none refines = refines

pub no_instance : (v proto : Value) (s t : State) (x : Act) → IsNone v
    → RefinesAlgorithm s (throw_type_error (codes "not an object")) t x
    → RefinesAlgorithm s (algorithm_after (algorithm.InstanceOf v) proto) t x
no_instance (value.Obj id) proto s t x none refines = absurd (none id refl)
no_instance v proto s t x none refines = record { is = refines.is }
