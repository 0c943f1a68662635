-- Builtins that begin with an argument.
use Rattle.std.proofs.Common.{◌≡◌, ◌∙◌, ap, false, pos, refl, subst, true, List, ℕ}
use Rattle.std.specs.Prelude.{slice_index_or}
use Rattle.jl_num.specs.Number.{Number}
use Rattle.jl_num.specs.Power.{power_of}
use Rattle.jl_value.specs.Tests.{is_undefined}
use Rattle.jl_value.specs.declared.value.Value.{Value}
use Rattle.jl_value.specs.declared.value.Value.TheVariants as value
use Rattle.jl_meaning.specs.Conversions.{number_hint, string_hint, to_integer, to_number, to_primitive}
use Rattle.jl_meaning.specs.Conversions.{to_string}
use Rattle.jl_meaning.specs.Operators.{give_number}
use Rattle.jl_meaning.specs.Parts.{give, ◌>>=◌, Algorithm, Call}
use Rattle.jl_meaning.specs.Relations.{give_truth}
use Rattle.jl_meaning.specs.builtins.Arguments.{argument, unless_undefined}
use Rattle.jl_meaning.specs.builtins.Global.{parse_int}
use Rattle.jl_meaning.specs.builtins.Math.{math_pow, on_argument}
use Rattle.jl_meaning.specs.builtins.Number.{string_in_radix}
use Rattle.jl_progress.specs.Globals.{parse_in, passes}
use Rattle.jl_progress.specs.Numbers.{of_number}
use Rattle.jl_progress.specs.Progress.{progress_after}
use Rattle.jl_progress.specs.declared.global.GlobalProgress.TheVariants as global
use Rattle.jl_progress.specs.declared.global.NumberTest.{NumberTest}
use Rattle.jl_progress.specs.declared.number.NumberFunction.{NumberFunction}
use Rattle.jl_progress.specs.declared.number.NumberProgress.TheVariants as number
use Rattle.jl_progress.specs.declared.progress.Progress.TheVariants as progress
use Rattle.jl_state.specs.Rest.{RefinesAlgorithm}
use Rattle.jl_state.specs.declared.act.Act.{Act}
use Rattle.jl_state.specs.declared.state.State.{State}
use Rattle.jl_builtin.proofs.Conversions.{as_integer, as_number, as_string, missing, there}

-- an argument by its index
pub argument_is : (c : Call) (args : List Value) (i : ℕ) (v : Value) → args ≡ c.args
    → v ≡ slice_index_or args i value.Undefined → v ≡ argument c i
argument_is c args i v args_are is = is ∙ ap (λ l. slice_index_or l i value.Undefined) args_are

module _ (s t : State) (a : Act) (c : Call) where
  pub numeral_waits : (numeral radix : Value) → numeral ≡ argument c 0 → radix ≡ argument c 1
      → RefinesAlgorithm s (to_primitive string_hint numeral >>= progress_after
      (progress.Global (global.Numeral radix))) t a
      → RefinesAlgorithm s (parse_int c) t a
  numeral_waits numeral radix numeral_is radix_is refines =
      subst (λ (w : Value). RefinesAlgorithm s (to_string w >>= parsed (argument c 1)) t a) numeral_is
      (subst (λ (w : Value). RefinesAlgorithm s (to_string numeral >>= parsed w) t a) radix_is
      (as_string s t a numeral (progress_after (progress.Global (global.Numeral radix))) (parsed radix) (λ p. refl)
      refines))
    where
      parsed : Value → List ℕ → Algorithm Value
      parsed w units = to_number w >>= λ n. parse_in n units

  pub test_waits : (which : NumberTest) (v : Value) → v ≡ argument c 0
      → RefinesAlgorithm s (to_primitive number_hint v >>= progress_after (progress.Global (global.Test which))) t a
      → RefinesAlgorithm s (to_number (argument c 0) >>= λ n. give_truth (passes which n)) t a
  test_waits which v is refines =
      subst (λ (w : Value). RefinesAlgorithm s (to_number w >>= λ n. give_truth (passes which n)) t a) is
      (as_number s t a v (progress_after (progress.Global (global.Test which))) (λ n. give_truth (passes which n))
      (λ p. refl) refines)

  pub argument_waits : (f : NumberFunction) (v : Value) → v ≡ argument c 0
      → RefinesAlgorithm s (to_primitive number_hint v >>= progress_after (progress.Number (number.Argument f))) t a
      → RefinesAlgorithm s (on_argument (of_number f) c) t a
  argument_waits f v is refines =
      subst (λ (w : Value). RefinesAlgorithm s (to_number w >>= λ n. give (value.Num (of_number f n))) t a) is
      (as_number s t a v (progress_after (progress.Number (number.Argument f)))
      (λ n. give (value.Num (of_number f n))) (λ p. refl) refines)

  pub base_waits : (base exponent : Value) → base ≡ argument c 0 → exponent ≡ argument c 1
      → RefinesAlgorithm s (to_primitive number_hint base >>= progress_after
      (progress.Number (number.Base exponent))) t a
      → RefinesAlgorithm s (math_pow c) t a
  base_waits base exponent base_is exponent_is refines =
      subst (λ (w : Value). RefinesAlgorithm s (to_number w >>= raised (argument c 1)) t a) base_is
      (subst (λ (w : Value). RefinesAlgorithm s (to_number base >>= raised w) t a) exponent_is
      (as_number s t a base (progress_after (progress.Number (number.Base exponent))) (raised exponent) (λ p. refl)
      refines))
    where
      raised : Value → Number → Algorithm Value
      raised w x = to_number w >>= λ y. give_number (power_of x y)

-- the radix of a number's string
module _ (s t : State) (a : Act) (n : Number) where
  pub radix_missing : (radix : Value) → is_undefined radix ≡ true → RefinesAlgorithm s (string_in_radix n (pos 10)) t a
      → RefinesAlgorithm s (unless_undefined (pos 10) to_integer radix >>= string_in_radix n) t a
  radix_missing radix none refines = missing s t a (pos 10) to_integer radix (string_in_radix n) none refines

  pub radix_waits : (radix : Value) → is_undefined radix ≡ false
      → RefinesAlgorithm s (to_primitive number_hint radix >>= progress_after (progress.Number (number.Radix n))) t a
      → RefinesAlgorithm s (unless_undefined (pos 10) to_integer radix >>= string_in_radix n) t a
  radix_waits radix some refines =
      there s t a (pos 10) to_integer radix (string_in_radix n) some
      (as_integer s t a radix (progress_after (progress.Number (number.Radix n))) (string_in_radix n)
      (λ p. refl) refines)
