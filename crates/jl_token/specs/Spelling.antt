-- How a token is spelled.
use Rattle.std.specs.Prelude.{ℕ, List}
use Rattle.jl_num.specs.Digits.{number_text}
use Rattle.jl_text.specs.Quoted.{quote}
use Rattle.jl_token.specs.Punctuators.{punctuator_units}
use Rattle.jl_token.specs.declared.token.TokenKind.{TokenKind}
use Rattle.jl_token.specs.declared.token.TokenKind.TheVariants.{Name, Punct, Number, Str}

-- a name by its characters, a punctuator by its own, a number by its decimal digits, a string between quotes
abbrev pub spelling_of : TokenKind → List ℕ
spelling_of (Name text escaped) = text
spelling_of (Punct p) = punctuator_units p
spelling_of (Number n) = number_text n 10
spelling_of (Str text plain) = quote text
