-- The precedence of an expression (11.1 to 11.14), tightest first: 0 for what may stand left of a dot, 1 for a
-- postfix and 2 for a unary expression, 3 to 10 for the operators between two operands, 11 for `&&` and 12 for `||`,
-- 13 for a conditional expression and an assignment, and 14 for a comma.
use Rattle.std.specs.Prelude.{ℕ, ◌+◌, Bool, true, false, nat_le, if◌then◌else◌}
use Rattle.jl_ast.specs.declared.ops.BinOp.{BinOp}
use Rattle.jl_ast.specs.declared.ops.BinOp.TheVariants as ops
use Rattle.jl_ast.specs.Tree.{Tree, expr, unary, update, binary, and, or, conditional, assign, comma}
use Rattle.jl_grammar.specs.Operators.{infix_precedence, plain}

-- `in` stands in brackets wherever it is, since it would end the first part of a `for` (11.8, 12.6.3)
abbrev pub is_in : BinOp → Bool
is_in ops.In = true
is_in _ = false

abbrev pub operator_precedence : BinOp → ℕ
operator_precedence op = 2 + infix_precedence (plain op)

-- of an expression as it is written
abbrev pub precedence_of : {S : Type 0} → Tree S expr → ℕ
precedence_of (update up false g s) = 1
precedence_of (update up true g s) = 2
precedence_of (unary op a s) = 2
precedence_of (binary op a b s) = if is_in op then 0 else operator_precedence op
precedence_of (and a b s) = 11
precedence_of (or a b s) = 12
precedence_of (conditional a b c s) = 13
precedence_of (assign op g e s) = 13
precedence_of (comma a b s) = 14
precedence_of _ = 0

-- it needs no brackets where something as loose as r may stand
abbrev pub fits : {S : Type 0} → Tree S expr → ℕ → Bool
fits t r = nat_le (precedence_of t) r
