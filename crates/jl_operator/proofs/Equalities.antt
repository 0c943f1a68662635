-- Equalities by what their operands are (11.9.3).
use Rattle.std.proofs.Common.{◌≡◌, false, true, if◌then◌else◌, not, refl, subst, Bool}
use Rattle.jl_value.specs.Tests.{is_nothing, is_object}
use Rattle.jl_value.specs.declared.value.Value.{Value}
use Rattle.jl_value.specs.declared.value.Value.TheVariants as value
use Rattle.jl_meaning.specs.Conversions.{no_hint, to_primitive}
use Rattle.jl_meaning.specs.Parts.{give, ◌>>=◌}
use Rattle.jl_meaning.specs.Relations.{abstract_equality, equality_of_object, give_truth, negate_if}
use Rattle.jl_meaning.specs.Relations.{primitive_equality}
use Rattle.jl_state.specs.Rest.{RefinesAlgorithm}
use Rattle.jl_state.specs.Steps.{AlgorithmWaits}
use Rattle.jl_state.specs.declared.act.Act.{Act}
use Rattle.jl_state.specs.declared.algorithm_frame.AlgorithmFrame.TheVariants as algorithm
use Rattle.jl_state.specs.declared.state.State.{State}
use Rattle.jl_operator.proofs.Operands.{chained}

pub of_objects_or_primitives : (a b : Value) → is_object a ≡ is_object b → abstract_equality a b
    ≡ primitive_equality a b
of_objects_or_primitives (value.Obj a) (value.Obj b) same = refl
of_objects_or_primitives (value.Obj a) b same = absurd (let e = same in cc)
of_objects_or_primitives a (value.Obj b) same = absurd (let e = same in cc)
of_objects_or_primitives a b same = refl

pub of_left_object : (a b : Value) → true ≡ is_object a → false ≡ is_object b
    → equality_of_object a b ≡ abstract_equality a b
of_left_object (value.Obj a) (value.Obj b) left right = absurd (let e = right in cc)
of_left_object (value.Obj a) b left right = refl
of_left_object a b left right = absurd (let e = left in cc)

pub of_right_object : (a b : Value) → false ≡ is_object a → true ≡ is_object b
    → equality_of_object b a ≡ abstract_equality a b
of_right_object (value.Obj a) b left right = absurd (let e = left in cc)
of_right_object a (value.Obj b) left right = refl
of_right_object a b left right = absurd (let e = right in cc)

-- a frame waits for the primitive value of an object that is compared
pub equality_waits : (s t u : State) (object other : Value) (negative : Bool) (a : Act) → false ≡ is_nothing other
    → AlgorithmWaits s (algorithm.EqualTo other negative) t → RefinesAlgorithm t (to_primitive no_hint object) u a
    → RefinesAlgorithm s (negate_if negative (equality_of_object object other)) u a
equality_waits s t u object other negative a is waits refines =
    subst (λ (n : Bool). RefinesAlgorithm s (negate_if negative (if n then give false
    else (to_primitive no_hint object >>= λ p. primitive_equality p other))) u a) is
    (subst (λ q. RefinesAlgorithm s q u a)
    (chained (to_primitive no_hint object) (λ p. primitive_equality p other)
    (λ b. give_truth (if negative then not b else b)))
    (waits.works (to_primitive no_hint object) u a refines))
