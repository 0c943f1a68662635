-- Primitive values added as strings, or as numbers.
use Rattle.std.proofs.Common.{◌≡◌, List, false, true, if◌then◌else◌, ◌||◌, subst, ℕ, Bool}
use Rattle.jl_value.specs.declared.value.Value.{Value}
use Rattle.jl_conv.specs.Conversions.{text_of_value}
use Rattle.jl_meaning.specs.Operators.{is_string, sum_of_primitives}
use Rattle.jl_state.specs.Rest.{RefinesAlgorithm}
use Rattle.jl_state.specs.declared.act.Act.{Act}
use Rattle.jl_state.specs.declared.state.State.{State}
use Rattle.jl_operator.specs.inner.Sums.{sum_of_numbers, text_of_texts}

pub adds_texts : (x y : Value) (front back : List ℕ) (s : State) (a : Act) → true ≡ (is_string x || is_string y)
    → front ≡ text_of_value x → back ≡ text_of_value y → RefinesAlgorithm s (text_of_texts front back) s a
    → RefinesAlgorithm s (sum_of_primitives x y) s a
adds_texts x y front back s a is first second refines =
    subst (λ (b : Bool). RefinesAlgorithm s
    (if b then text_of_texts (text_of_value x) (text_of_value y) else sum_of_numbers x y) s
    a) is
    (subst (λ l. RefinesAlgorithm s (text_of_texts l (text_of_value y)) s a) first
    (subst (λ l. RefinesAlgorithm s (text_of_texts front l) s a) second refines))

pub adds_numbers : (x y : Value) (s : State) (a : Act) → false ≡ (is_string x || is_string y)
    → RefinesAlgorithm s (sum_of_numbers x y) s a → RefinesAlgorithm s (sum_of_primitives x y) s a
adds_numbers x y s a is refines =
    subst (λ (b : Bool). RefinesAlgorithm s
    (if b then text_of_texts (text_of_value x) (text_of_value y) else sum_of_numbers x y) s
    a) is
    refines
