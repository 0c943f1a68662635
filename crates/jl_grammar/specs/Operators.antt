-- The operators (11.4 to 11.14), by the tokens that they are.
use Rattle.std.specs.Prelude.{ℕ, ◌-◌, Bool, true, false, ◌&&◌, nat_le, Option, Some, None, is_some}
use Rattle.jl_ast.specs.declared.ops.BinOp.{BinOp}
use Rattle.jl_ast.specs.declared.ops.BinOp.TheVariants as ops
use Rattle.jl_ast.specs.declared.ops.UnOp.{UnOp}
use Rattle.jl_ast.specs.declared.ops.UnOp.TheVariants as prefixes
use Rattle.jl_ast.specs.Tree.{Tree, expr, binary, and, or}
use Rattle.jl_token.specs.declared.punct.Punct.TheVariants as puncts
use Rattle.jl_grammar.specs.declared.terminal.Terminal.{Terminal}
use Rattle.jl_grammar.specs.declared.terminal.Terminal.TheVariants as terminals
use Rattle.jl_grammar.specs.declared.word.Word.TheVariants as words

-- the operators between two operands (11.5 to 11.10)
abbrev pub binary_operator : Terminal → Option BinOp
binary_operator (terminals.Punct puncts.Star) = Some ops.Mul
binary_operator (terminals.Punct puncts.Slash) = Some ops.Div
binary_operator (terminals.Punct puncts.Percent) = Some ops.Rem
binary_operator (terminals.Punct puncts.Plus) = Some ops.Add
binary_operator (terminals.Punct puncts.Minus) = Some ops.Sub
binary_operator (terminals.Punct puncts.ShiftLeft) = Some ops.Shl
binary_operator (terminals.Punct puncts.ShiftRight) = Some ops.Sar
binary_operator (terminals.Punct puncts.ShiftRightUnsigned) = Some ops.Shr
binary_operator (terminals.Punct puncts.Less) = Some ops.Less
binary_operator (terminals.Punct puncts.Greater) = Some ops.Greater
binary_operator (terminals.Punct puncts.LessEqual) = Some ops.LessEq
binary_operator (terminals.Punct puncts.GreaterEqual) = Some ops.GreaterEq
binary_operator (terminals.Word words.InstanceOf) = Some ops.InstanceOf
binary_operator (terminals.Word words.In) = Some ops.In
binary_operator (terminals.Punct puncts.Equal) = Some ops.Equal
binary_operator (terminals.Punct puncts.NotEqual) = Some ops.NotEqual
binary_operator (terminals.Punct puncts.StrictEqual) = Some ops.StrictEqual
binary_operator (terminals.Punct puncts.StrictNotEqual) = Some ops.StrictNotEqual
binary_operator (terminals.Punct puncts.And) = Some ops.BitAnd
binary_operator (terminals.Punct puncts.Caret) = Some ops.BitXor
binary_operator (terminals.Punct puncts.Or) = Some ops.BitOr
binary_operator _ = None

-- how tightly they bind: `|`, `^`, `&` (11.10), equality (11.9), relations (11.8), shifts (11.7), sums (11.6),
-- products (11.5)
abbrev pub level : BinOp → ℕ
level ops.BitOr = 1
level ops.BitXor = 2
level ops.BitAnd = 3
level ops.Equal = 4
level ops.NotEqual = 4
level ops.StrictEqual = 4
level ops.StrictNotEqual = 4
level ops.Less = 5
level ops.Greater = 5
level ops.LessEq = 5
level ops.GreaterEq = 5
level ops.InstanceOf = 5
level ops.In = 5
level ops.Shl = 6
level ops.Sar = 6
level ops.Shr = 6
level ops.Add = 7
level ops.Sub = 7
level ops.Mul = 8
level ops.Div = 8
level ops.Rem = 8

-- the assignment operators (11.13), by what they do before they assign; `=` does nothing
abbrev pub assign_operator : Terminal → Option (Option BinOp)
assign_operator (terminals.Punct puncts.Assign) = Some None
assign_operator (terminals.Punct puncts.StarAssign) = Some (Some ops.Mul)
assign_operator (terminals.Punct puncts.SlashAssign) = Some (Some ops.Div)
assign_operator (terminals.Punct puncts.PercentAssign) = Some (Some ops.Rem)
assign_operator (terminals.Punct puncts.PlusAssign) = Some (Some ops.Add)
assign_operator (terminals.Punct puncts.MinusAssign) = Some (Some ops.Sub)
assign_operator (terminals.Punct puncts.ShiftLeftAssign) = Some (Some ops.Shl)
assign_operator (terminals.Punct puncts.ShiftRightAssign) = Some (Some ops.Sar)
assign_operator (terminals.Punct puncts.ShiftRightUnsignedAssign) = Some (Some ops.Shr)
assign_operator (terminals.Punct puncts.AndAssign) = Some (Some ops.BitAnd)
assign_operator (terminals.Punct puncts.CaretAssign) = Some (Some ops.BitXor)
assign_operator (terminals.Punct puncts.OrAssign) = Some (Some ops.BitOr)
assign_operator _ = None

-- the operators before one operand (11.4) but `++` and `--`
abbrev pub unary_operator : Terminal → Option UnOp
unary_operator (terminals.Punct puncts.Minus) = Some prefixes.Minus
unary_operator (terminals.Punct puncts.Plus) = Some prefixes.Plus
unary_operator (terminals.Punct puncts.Bang) = Some prefixes.Not
unary_operator (terminals.Punct puncts.Tilde) = Some prefixes.Tilde
unary_operator (terminals.Word words.Typeof) = Some prefixes.Typeof
unary_operator (terminals.Word words.Void) = Some prefixes.Void
unary_operator (terminals.Word words.Delete) = Some prefixes.Delete
unary_operator _ = None

-- `++` and `--` (11.3, 11.4), by whether they count up
abbrev pub update_operator : Terminal → Option Bool
update_operator (terminals.Punct puncts.PlusPlus) = Some true
update_operator (terminals.Punct puncts.MinusMinus) = Some false
update_operator _ = None

-- what stands between two operands: an operator, or a logical one (11.11)
pub data InfixOperator : Type 0 where
  plain : BinOp → InfixOperator
  both : InfixOperator
  either : InfixOperator

abbrev plainly : Option BinOp → Option InfixOperator
plainly None = None
plainly (Some op) = Some (plain op)

-- the infix operator that a token is; `in` is none where the grammar says NoIn (11.8)
abbrev pub infix_operator : Bool → Terminal → Option InfixOperator
infix_operator no_in (terminals.Punct puncts.AndAnd) = Some both
infix_operator no_in (terminals.Punct puncts.OrOr) = Some either
infix_operator true (terminals.Word words.In) = None
infix_operator no_in k = plainly (binary_operator k)

abbrev pub infix_node : {S : Type 0} → InfixOperator → Tree S expr → Tree S expr → S → Tree S expr
infix_node (plain op) a b s = binary op a b s
infix_node both a b s = and a b s
infix_node either a b s = or a b s

-- the precedence of an infix operator, tightest first: products have 1, `|` has 8, `&&` has 9 and `||` has 10
abbrev pub infix_precedence : InfixOperator → ℕ
infix_precedence (plain op) = 9 - level op
infix_precedence both = 9
infix_precedence either = 10

-- the precedence of the infix operator that a token is, and 0 where it is none
abbrev pub infix_precedence_of : Option InfixOperator → ℕ
infix_precedence_of None = 0
infix_precedence_of (Some o) = infix_precedence o

-- the tokens that continue infix operators as loose as l
abbrev pub continues : Bool → ℕ → Terminal → Bool
continues no_in l k =
    nat_le 1 (infix_precedence_of (infix_operator no_in k)) && nat_le (infix_precedence_of (infix_operator no_in k)) l

abbrev pub assigns : Terminal → Bool
assigns k = is_some (assign_operator k)

abbrev pub updates : Terminal → Bool
updates k = is_some (update_operator k)
