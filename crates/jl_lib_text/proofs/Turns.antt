-- Builtins that take their arguments one a turn.
use Rattle.std.proofs.Common.{◌≡◌, ◌∙◌, ◌∷◌, ◌++◌, [], ap, drop, refl, subst, List}
use Rattle.std.proofs.Common.{ℕ}
use mathlib.Core.Path.{fun_ext}
use Rattle.jl_num.specs.Bits.{uint16_of}
use Rattle.jl_value.specs.declared.value.Value.{Value}
use Rattle.jl_effects.specs.Effects.{Step}
use Rattle.jl_meaning.specs.Conversions.{number_hint, string_hint, to_number, to_primitive, to_string}
use Rattle.jl_meaning.specs.Errors.{string_within}
use Rattle.jl_meaning.specs.Parts.{◌>>=◌, Algorithm}
use Rattle.jl_meaning.specs.builtins.Arguments.{give_string}
use Rattle.jl_meaning.specs.builtins.String.{concat_all, units_from}
use Rattle.jl_progress.specs.Strings.{string_after}
use Rattle.jl_progress.specs.declared.string.StringProgress.TheVariants as progress
use Rattle.jl_state.specs.Rest.{RefinesAlgorithm}
use Rattle.jl_state.specs.Steps.{Took}
use Rattle.jl_state.specs.declared.act.Act.{Act}
use Rattle.jl_state.specs.declared.state.State.{State}
use Rattle.jl_operator.proofs.Operands.{chained}
use Rattle.jl_builtin.proofs.Conversions.{as_number, as_string}
use Rattle.jl_lib_text.specs.inner.Turns.{string_joined, string_of_codes}

-- an argument of `fromCharCode` takes a turn

codes_from : (units : List ℕ) (v : Value) (vs : List Value)
    → Step (to_number v >>= λ n. string_of_codes (units ++ uint16_of n ∷ []) vs) ≡ string_of_codes units (v ∷ vs)
codes_from units v vs =
    ap Step (chained (to_number v) (λ n. units_from (units ++ uint16_of n ∷ []) vs)
    (λ all. string_within all >>= λ within. give_string within))

pub code_waits : (s t : State) (units : List ℕ) (v : Value) (args : List Value) (from : ℕ) (u : State) (a : Act)
    → Took s t → RefinesAlgorithm t (to_primitive number_hint v >>= string_after
    (progress.CharCode units args from)) u a
    → RefinesAlgorithm s (string_of_codes units (v ∷ drop from args)) u a
code_waits s t units v args from u a took refines =
    subst (λ q. RefinesAlgorithm s q u a) (codes_from units v (drop from args))
    (took.works (to_number v >>= λ n. string_of_codes (units ++ uint16_of n ∷ []) (drop from args)) u a
    (as_number t u a v (string_after (progress.CharCode units args from))
    (λ n. string_of_codes (units ++ uint16_of n ∷ []) (drop from args)) (λ p. refl) refines))

-- an argument of `concat` takes a turn

joined_from : (units : List ℕ) (v : Value) (vs : List Value)
    → Step (to_string v >>= λ more. string_within (units ++ more) >>= λ all. string_joined all vs)
    ≡ string_joined units (v ∷ vs)
joined_from units v vs =
    ap Step (ap (λ (g : List ℕ → Algorithm Value). to_string v >>= g)
    (fun_ext (λ more. chained (string_within (units ++ more)) (λ all. concat_all all vs) (λ all. give_string all)))
    ∙ chained (to_string v) (λ more. string_within (units ++ more) >>= λ all. concat_all all vs)
    (λ all. give_string all))

pub joined_waits : (s t : State) (units : List ℕ) (v : Value) (args : List Value) (from : ℕ) (u : State) (a : Act)
    → Took s t → RefinesAlgorithm t (to_primitive string_hint v >>= string_after (progress.Joined units args from)) u a
    → RefinesAlgorithm s (string_joined units (v ∷ drop from args)) u a
joined_waits s t units v args from u a took refines =
    subst (λ q. RefinesAlgorithm s q u a) (joined_from units v (drop from args))
    (took.works (to_string v >>= λ more. string_within (units ++ more) >>= λ all. string_joined all (drop from args))
    u a
    (as_string t u a v (string_after (progress.Joined units args from))
    (λ more. string_within (units ++ more) >>= λ all. string_joined all (drop from args)) (λ p. refl) refines))
