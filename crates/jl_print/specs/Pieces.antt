-- The tokens that the printer writes.
use Rattle.std.specs.Prelude.{ℕ, Bool, true, false, ◌&&◌, ◌||◌, ◌==◌, nat_le, List, [], ◌∷◌, ◌++◌, codes, if◌then◌else◌}
use Rattle.jl_ast.specs.Tree.{Text}
use Rattle.jl_ast.specs.declared.ops.BinOp.{BinOp}
use Rattle.jl_ast.specs.declared.ops.BinOp.TheVariants as ops
use Rattle.jl_ast.specs.declared.ops.UnOp.{UnOp}
use Rattle.jl_ast.specs.declared.ops.UnOp.TheVariants as prefixes
use Rattle.jl_grammar.specs.Words.{same_text}
use Rattle.jl_text.specs.Quoted.{quoted_after}
use Rattle.jl_token.specs.declared.punct.Punct.{Punct}
use Rattle.jl_token.specs.declared.punct.Punct.TheVariants as puncts
use Rattle.jl_token.specs.declared.token.TokenKind.{TokenKind}
use Rattle.jl_token.specs.declared.token.TokenKind.TheVariants as kinds

abbrev pub name : Text → TokenKind
name text = kinds.Name text false

abbrev pub punct : Punct → TokenKind
punct p = kinds.Punct p

-- a string literal, which is plain where none of its characters needs an escape (7.8.4)
abbrev pub string : Text → TokenKind
string text = kinds.Str text (same_text (quoted_after 0 text) text)

-- `A` to `Z`, `a` to `z`, `$` and `_`
abbrev pub is_plain_letter : ℕ → Bool
is_plain_letter u = (nat_le 65 u && nat_le u 90) || ((nat_le 97 u && nat_le u 122) || (u == 36 || u == 95))

abbrev pub is_plain_digit : ℕ → Bool
is_plain_digit u = nat_le 48 u && nat_le u 57

abbrev pub are_plain : List ℕ → Bool
are_plain [] = true
are_plain (u ∷ us) = (is_plain_letter u || is_plain_digit u) && are_plain us

-- the keys that are written as names: ASCII letters, digits, `$` and `_`, with no digit in front
abbrev pub is_bare_key : Text → Bool
is_bare_key [] = false
is_bare_key (u ∷ us) = is_plain_letter u && are_plain us

-- the key of a property (11.1.5)
abbrev pub key : Text → TokenKind
key text = if is_bare_key text then name text else string text

-- an operator between two operands (11.5 to 11.10)
abbrev pub operator : BinOp → TokenKind
operator ops.Mul = punct puncts.Star
operator ops.Div = punct puncts.Slash
operator ops.Rem = punct puncts.Percent
operator ops.Add = punct puncts.Plus
operator ops.Sub = punct puncts.Minus
operator ops.Shl = punct puncts.ShiftLeft
operator ops.Sar = punct puncts.ShiftRight
operator ops.Shr = punct puncts.ShiftRightUnsigned
operator ops.Less = punct puncts.Less
operator ops.Greater = punct puncts.Greater
operator ops.LessEq = punct puncts.LessEqual
operator ops.GreaterEq = punct puncts.GreaterEqual
operator ops.InstanceOf = name (codes "instanceof")
operator ops.In = name (codes "in")
operator ops.Equal = punct puncts.Equal
operator ops.NotEqual = punct puncts.NotEqual
operator ops.StrictEqual = punct puncts.StrictEqual
operator ops.StrictNotEqual = punct puncts.StrictNotEqual
operator ops.BitAnd = punct puncts.And
operator ops.BitXor = punct puncts.Caret
operator ops.BitOr = punct puncts.Or

-- an operator before one operand (11.4)
abbrev pub prefix_operator : UnOp → TokenKind
prefix_operator prefixes.Minus = punct puncts.Minus
prefix_operator prefixes.Plus = punct puncts.Plus
prefix_operator prefixes.Not = punct puncts.Bang
prefix_operator prefixes.Tilde = punct puncts.Tilde
prefix_operator prefixes.Typeof = name (codes "typeof")
prefix_operator prefixes.Void = name (codes "void")
prefix_operator prefixes.Delete = name (codes "delete")

-- `++`, or `--`
abbrev pub update_operator : (up : Bool) → TokenKind
update_operator true = punct puncts.PlusPlus
update_operator false = punct puncts.MinusMinus

-- an assignment operator (11.13): `=`, or an operator and `=`; other operators than those of the standard have none
abbrev pub assign_punct : BinOp → Punct
assign_punct ops.Mul = puncts.StarAssign
assign_punct ops.Div = puncts.SlashAssign
assign_punct ops.Rem = puncts.PercentAssign
assign_punct ops.Add = puncts.PlusAssign
assign_punct ops.Sub = puncts.MinusAssign
assign_punct ops.Shl = puncts.ShiftLeftAssign
assign_punct ops.Sar = puncts.ShiftRightAssign
assign_punct ops.Shr = puncts.ShiftRightUnsignedAssign
assign_punct ops.BitAnd = puncts.AndAssign
assign_punct ops.BitXor = puncts.CaretAssign
assign_punct ops.BitOr = puncts.OrAssign
assign_punct _ = puncts.Assign

abbrev pub in_parens : List TokenKind → List TokenKind
in_parens ks = punct puncts.LeftParen ∷ (ks ++ punct puncts.RightParen ∷ [])

-- as it is where it fits, and else in brackets
abbrev pub in_parens_unless : Bool → List TokenKind → List TokenKind
in_parens_unless true ks = ks
in_parens_unless false ks = in_parens ks

-- in braces
abbrev pub within_braces : List TokenKind → List TokenKind
within_braces ks = punct puncts.LeftBrace ∷ (ks ++ punct puncts.RightBrace ∷ [])
