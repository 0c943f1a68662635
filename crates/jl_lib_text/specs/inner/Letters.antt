-- Cases of letters (15.5.4.16, 15.5.4.18).
use Rattle.std.specs.Prelude.{List, ℕ}
use Rattle.jl_value.specs.declared.builtin_groups.StringMethod.{StringMethod}
use Rattle.jl_value.specs.declared.builtin_groups.StringMethod.TheVariants as string_method
use Rattle.jl_value.specs.declared.value.Value.{Value}
use Rattle.jl_meaning.specs.Parts.{Algorithm}
use Rattle.jl_meaning.specs.builtins.String.{in_case, lower, upper}
use Rattle.jl_lib_text.specs.declared.casing.LetterCase.{LetterCase}
use Rattle.jl_lib_text.specs.declared.casing.LetterCase.TheVariants as letter_case

abbrev pub letter_in : LetterCase → ℕ → ℕ
letter_in letter_case.Lower u = lower u
letter_in letter_case.Upper u = upper u

abbrev pub method_of_case : LetterCase → StringMethod
method_of_case letter_case.Lower = string_method.ToLowerCase
method_of_case letter_case.Upper = string_method.ToUpperCase

-- a string is given in a case
abbrev pub string_in_case : LetterCase → List ℕ → Algorithm Value
string_in_case case units = in_case (method_of_case case) (letter_in case) units
