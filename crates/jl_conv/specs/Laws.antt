-- What the definitions of this crate come to.
use Rattle.std.specs.Prelude.{◌≡◌, ◌≢◌, ℕ, List, [], Option, Some, None}
use Rattle.jl_num.specs.Number.{Number, IsNumber}
use Rattle.jl_num.specs.Digits.{number_text}
use Rattle.jl_conv.specs.Numerals.{trim, text_number}
use Rattle.jl_conv.specs.Literals.{Literal}

-- the text of a number (9.8.1) converts to that number (9.3.1)
abbrev pub TextsReadBack : Type 0
TextsReadBack = (n : Number) → IsNumber n → text_number (number_text n 10) ≡ Some n

-- what stands between spaces and is a literal by the productions converts to its value
abbrev pub LiteralsHaveTheirValue : Type 0
LiteralsHaveTheirValue = (us : List ℕ) (v : Option Number) → Literal (trim us) v → text_number us ≡ v

-- what stands between spaces is a literal by the productions, or nothing, where it converts to another number than NaN
abbrev pub OnlyLiteralsHaveOne : Type 0
OnlyLiteralsHaveOne =
    (us : List ℕ) → text_number us ≢ Some None → trim us ≢ [] → Literal (trim us) (text_number us)
