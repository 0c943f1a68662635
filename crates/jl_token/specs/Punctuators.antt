-- The table of punctuators (7.7): the units of each.
use Rattle.std.specs.Prelude.{ℕ, List, [], ◌∷◌, codes}
use Rattle.jl_token.specs.declared.punct.Punct.{Punct}
use Rattle.jl_token.specs.declared.punct.Punct.TheVariants.{LeftBrace, RightBrace, LeftParen, RightParen, LeftBracket}
use Rattle.jl_token.specs.declared.punct.Punct.TheVariants.{RightBracket, Dot, Semicolon, Comma, Less, Greater}
use Rattle.jl_token.specs.declared.punct.Punct.TheVariants.{LessEqual, GreaterEqual, Equal, NotEqual, StrictEqual}
use Rattle.jl_token.specs.declared.punct.Punct.TheVariants.{StrictNotEqual, Plus, Minus, Star, Percent, PlusPlus}
use Rattle.jl_token.specs.declared.punct.Punct.TheVariants.{MinusMinus, ShiftLeft, ShiftRight, ShiftRightUnsigned, And}
use Rattle.jl_token.specs.declared.punct.Punct.TheVariants.{Or, Caret, Bang, Tilde, AndAnd, OrOr, Question, Colon}
use Rattle.jl_token.specs.declared.punct.Punct.TheVariants.{Assign, PlusAssign, MinusAssign, StarAssign, PercentAssign}
use Rattle.jl_token.specs.declared.punct.Punct.TheVariants.{ShiftLeftAssign, ShiftRightAssign, ShiftRightUnsignedAssign}
use Rattle.jl_token.specs.declared.punct.Punct.TheVariants.{AndAssign, OrAssign, CaretAssign, Slash, SlashAssign}

abbrev pub punctuator_units : Punct → List ℕ
punctuator_units LeftBrace = codes "{"
punctuator_units RightBrace = codes "}"
punctuator_units LeftParen = codes "("
punctuator_units RightParen = codes ")"
punctuator_units LeftBracket = codes "["
punctuator_units RightBracket = codes "]"
punctuator_units Dot = codes "."
punctuator_units Semicolon = codes ";"
punctuator_units Comma = codes ","
punctuator_units Less = codes "<"
punctuator_units Greater = codes ">"
punctuator_units LessEqual = codes "<="
punctuator_units GreaterEqual = codes ">="
punctuator_units Equal = codes "=="
punctuator_units NotEqual = codes "!="
punctuator_units StrictEqual = codes "==="
punctuator_units StrictNotEqual = codes "!=="
punctuator_units Plus = codes "+"
punctuator_units Minus = codes "-"
punctuator_units Star = codes "*"
punctuator_units Percent = codes "%"
punctuator_units PlusPlus = codes "++"
punctuator_units MinusMinus = codes "--"
punctuator_units ShiftLeft = codes "<<"
punctuator_units ShiftRight = codes ">>"
punctuator_units ShiftRightUnsigned = codes ">>>"
punctuator_units And = codes "&"
punctuator_units Or = codes "|"
punctuator_units Caret = codes "^"
punctuator_units Bang = codes "!"
punctuator_units Tilde = codes "~"
punctuator_units AndAnd = codes "&&"
punctuator_units OrOr = codes "||"
punctuator_units Question = codes "?"
punctuator_units Colon = codes ":"
punctuator_units Assign = codes "="
punctuator_units PlusAssign = codes "+="
punctuator_units MinusAssign = codes "-="
punctuator_units StarAssign = codes "*="
punctuator_units PercentAssign = codes "%="
punctuator_units ShiftLeftAssign = codes "<<="
punctuator_units ShiftRightAssign = codes ">>="
punctuator_units ShiftRightUnsignedAssign = codes ">>>="
punctuator_units AndAssign = codes "&="
punctuator_units OrAssign = codes "|="
punctuator_units CaretAssign = codes "^="
punctuator_units Slash = codes "/"
punctuator_units SlashAssign = codes "/="

-- all of them, the longer ones first
abbrev pub all_punctuators : List Punct
all_punctuators = ShiftRightUnsignedAssign
    ∷ StrictEqual ∷ StrictNotEqual ∷ ShiftRightUnsigned ∷ ShiftLeftAssign ∷ ShiftRightAssign
    ∷ LessEqual ∷ GreaterEqual ∷ Equal ∷ NotEqual ∷ PlusPlus ∷ MinusMinus ∷ ShiftLeft ∷ ShiftRight ∷ AndAnd ∷ OrOr
    ∷ PlusAssign ∷ MinusAssign ∷ StarAssign ∷ PercentAssign ∷ AndAssign ∷ OrAssign ∷ CaretAssign ∷ SlashAssign
    ∷ LeftBrace ∷ RightBrace ∷ LeftParen ∷ RightParen ∷ LeftBracket ∷ RightBracket ∷ Dot ∷ Semicolon ∷ Comma
    ∷ Less ∷ Greater ∷ Plus ∷ Minus ∷ Star ∷ Percent ∷ And ∷ Or ∷ Caret ∷ Bang ∷ Tilde ∷ Question ∷ Colon ∷ Assign
    ∷ Slash ∷ []
