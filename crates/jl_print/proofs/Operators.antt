-- What the grammar sees of the operators that are written.
use Rattle.std.proofs.Common.{◌≡◌, ℕ, suc, ◌-◌, ◌≤◌, ◌<◌, Bool, true, false, ◌&&◌, not, refl, ap, ◌∙◌}
use Rattle.std.proofs.Common.{List, arith}
use Rattle.std.specs.Prelude.{Some}
use Rattle.jl_ast.specs.declared.ops.BinOp.{BinOp}
use Rattle.jl_ast.specs.declared.ops.BinOp.TheVariants as ops
use Rattle.jl_ast.specs.declared.ops.UnOp.{UnOp}
use Rattle.jl_ast.specs.declared.ops.UnOp.TheVariants as prefixes
use Rattle.jl_token.specs.declared.punct.Punct.TheVariants as puncts
use Rattle.jl_token.specs.declared.token.Token.{Token}
use Rattle.jl_token.specs.declared.token.TokenKind.{TokenKind}
use Rattle.jl_grammar.specs.Next.{continues_left}
use Rattle.jl_grammar.specs.Operators.{InfixOperator, infix_operator, plain, both, either, infix_precedence}
use Rattle.jl_grammar.specs.Operators.{infix_precedence_of, updates}
use Rattle.jl_grammar.specs.Operators.{assign_operator, unary_operator, update_operator as update_of}
use Rattle.jl_grammar.specs.Reads.{JoinsAt, AssignsAt, PrefixAt, UpdateAt}
use Rattle.jl_grammar.specs.Terminals.{terminal_of}
use Rattle.jl_grammar.specs.Tokens.{terminal_at, line_at}
use Rattle.jl_grammar.proofs.SoundExpressions.{looser_stops}
use Rattle.jl_print.specs.Pieces.{punct, operator, prefix_operator, update_operator, assign_punct}
use Rattle.jl_print.specs.Precedence.{is_in}
use Rattle.jl_print.specs.WellFormed.{is_compound}
use Rattle.jl_print.proofs.Fronts.{Quiet}
use Rattle.jl_print.proofs.Spells.{Spelled, at}

-- a token that joins operands
pub record InfixOperatorToken (no_in : Bool) (k : TokenKind) (o : InfixOperator) : Type 0 where
  pub joins : infix_operator no_in (terminal_of k) ≡ Some o
  pub left : continues_left true (terminal_of k) ≡ false
  pub update : updates (terminal_of k) ≡ false

pub binary_token : (no_in : Bool) (op : BinOp) → is_in op ≡ false → InfixOperatorToken no_in (operator op) (plain op)
binary_token no_in ops.In h = cc
binary_token true ops.InstanceOf h = record { joins = refl; left = refl; update = refl }
binary_token false ops.InstanceOf h = record { joins = refl; left = refl; update = refl }
binary_token no_in _ h = record { joins = refl; left = refl; update = refl }

pub in_token : InfixOperatorToken false (operator ops.In) (plain ops.In)
in_token = record { joins = refl; left = refl; update = refl }

pub and_token : (no_in : Bool) → InfixOperatorToken no_in (punct puncts.AndAnd) both
and_token no_in = record { joins = refl; left = refl; update = refl }

pub or_token : (no_in : Bool) → InfixOperatorToken no_in (punct puncts.OrOr) either
or_token no_in = record { joins = refl; left = refl; update = refl }

-- it does not go on with what is as loose as it
pub quiet_infix_operator : {ts : List Token} {j : ℕ} {line no_in : Bool} {k : TokenKind} {o : InfixOperator} (l : ℕ)
    → l ≤ 9
    → Spelled ts j line k → InfixOperatorToken no_in k o → infix_precedence o ≡ suc l
    → Quiet no_in (suc (suc (suc l))) ts j
quiet_infix_operator {ts} {j} {line} {no_in} {k} {o} l top s t e = record {
  left = λ g. ap (continues_left true) (at s).is ∙ t.left;
  update = λ g. ap (λ x. updates x && not (line_at ts j)) (at s).is ∙ ap (λ b. b && not (line_at ts j)) t.update;
  operator = looser_stops (infix_precedence_of (infix_operator no_in (terminal_at ts j))) (suc (suc (suc l)) - 3) below;
  question = λ g. absurd (omega arith);
  assigns = λ g. absurd (omega arith);
}
  where
    loose : infix_precedence_of (infix_operator no_in (terminal_at ts j)) ≡ suc l
    loose = ap (λ x. infix_precedence_of (infix_operator no_in x)) (at s).is ∙ ap infix_precedence_of t.joins ∙ e

    below : suc (suc (suc l)) - 3 < infix_precedence_of (infix_operator no_in (terminal_at ts j))
    below = omega (arith, loose)

pub joins_at : {ts : List Token} {j : ℕ} {line no_in : Bool} {k : TokenKind} {o : InfixOperator} → Spelled ts j line k
    → InfixOperatorToken no_in k o → JoinsAt ts no_in j o
joins_at {no_in = no_in} s t = record { is = ap (infix_operator no_in) (at s).is ∙ t.joins }

pub prefix_at : {ts : List Token} {i : ℕ} {line : Bool} (op : UnOp) → Spelled ts i line (prefix_operator op)
    → PrefixAt ts i op
prefix_at op s = record { is = ap unary_operator (at s).is ∙ same op }
  where
    same : (op : UnOp) → unary_operator (terminal_of (prefix_operator op)) ≡ Some op
    same prefixes.Minus = refl
    same prefixes.Plus = refl
    same prefixes.Not = refl
    same prefixes.Tilde = refl
    same prefixes.Typeof = refl
    same prefixes.Void = refl
    same prefixes.Delete = refl

pub update_at : {ts : List Token} {i : ℕ} {line : Bool} (up : Bool) → Spelled ts i line (update_operator up)
    → UpdateAt ts i up
update_at up s = record { is = ap update_of (at s).is ∙ same up }
  where
    same : (up : Bool) → update_of (terminal_of (update_operator up)) ≡ Some up
    same true = refl
    same false = refl

pub update_is_no_part : {ts : List Token} {i : ℕ} {line : Bool} (up : Bool) → Spelled ts i line (update_operator up)
    → continues_left true (terminal_at ts i) ≡ false
update_is_no_part up s = ap (continues_left true) (at s).is ∙ same up
  where
    same : (up : Bool) → continues_left true (terminal_of (update_operator up)) ≡ false
    same true = refl
    same false = refl

pub assigns_at : {ts : List Token} {i : ℕ} {line : Bool} (op : BinOp) → is_compound op ≡ true
    → Spelled ts i line (punct (assign_punct op)) → AssignsAt ts i (Some op)
assigns_at op h s = record { is = ap assign_operator (at s).is ∙ same op h }
  where
    same : (op : BinOp) → is_compound op ≡ true → assign_operator (terminal_of (punct (assign_punct op)))
        ≡ Some (Some op)
    same ops.Mul h = refl
    same ops.Div h = refl
    same ops.Rem h = refl
    same ops.Add h = refl
    same ops.Sub h = refl
    same ops.Shl h = refl
    same ops.Sar h = refl
    same ops.Shr h = refl
    same ops.BitAnd h = refl
    same ops.BitXor h = refl
    same ops.BitOr h = refl
    same _ h = cc

pub assign_is_no_part : {ts : List Token} {i : ℕ} {line : Bool} (op : BinOp)
    → Spelled ts i line (punct (assign_punct op)) → continues_left true (terminal_at ts i) ≡ false
assign_is_no_part op s = ap (continues_left true) (at s).is ∙ same op
  where
    same : (op : BinOp) → continues_left true (terminal_of (punct (assign_punct op))) ≡ false
    same ops.Mul = refl
    same ops.Div = refl
    same ops.Rem = refl
    same ops.Add = refl
    same ops.Sub = refl
    same ops.Shl = refl
    same ops.Sar = refl
    same ops.Shr = refl
    same ops.BitAnd = refl
    same ops.BitXor = refl
    same ops.BitOr = refl
    same _ = refl
