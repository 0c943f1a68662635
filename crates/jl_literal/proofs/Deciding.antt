-- Operators that go on with an operand, by what the value of another one is.
use Rattle.std.proofs.Common.{◌≡◌, false, true, if◌then◌else◌, subst, Bool}
use Rattle.std.specs.Borrow.{Bor}
use Rattle.std.specs.Global.{Global}
use Rattle.std.specs.declared.boxed.Box.{Box}
use Rattle.jl_ast.specs.View.{view_expression}
use Rattle.jl_ast.specs.declared.ops.BinOp.{BinOp}
use Rattle.jl_ast.specs.declared.tree.Expr.{Expr}
use Rattle.jl_value.specs.declared.value.Value.{Value}
use Rattle.jl_conv.specs.Conversions.{truth_of}
use Rattle.jl_meaning.specs.Expressions.{evaluate}
use Rattle.jl_meaning.specs.Parts.{give, ◌>>=◌, Answer, Part}
use Rattle.jl_meaning.specs.Noting.{performs}
use Rattle.jl_meaning.specs.forms.Operators.{decide, operate}
use Rattle.jl_state.specs.Rest.{RefinesExpression}
use Rattle.jl_state.specs.Steps.{Supplies}
use Rattle.jl_state.specs.Trees.{plain}
use Rattle.jl_state.specs.ValueFrames.{value_after}
use Rattle.jl_state.specs.Words.{context_of, table_of}
use Rattle.jl_state.specs.declared.act.Act.{Act}
use Rattle.jl_state.specs.declared.frame.Here.{Here}
use Rattle.jl_state.specs.declared.state.State.{State}
use Rattle.jl_state.specs.declared.value_frame.ValueFrame.TheVariants as waiting

-- the value of a test is noted, which nobody is told of, and decides
decided : (s : State) (v : Value) (b : Bool) (k : Bool → Part (Answer Value)) (t : State) (a : Act) → b ≡ truth_of v
    → RefinesExpression s (k b) t a → RefinesExpression s (decide 0 v >>= k) t a
unfolding decide
decided s v b k t a is refines = record { is = (subst (λ c. RefinesExpression s (k c) t a) is refines).is }

module _ (s : State) (right : Bor (Box Expr Global)) (e : Expr) (here : Here) (v : Value) (t : State) (a : Act) where
  abbrev value_of : Expr → Part (Answer Value)
  value_of b = evaluate (table_of s.functions) (plain (view_expression b)) (context_of s.calls here)

  pub and_goes_on : true ≡ truth_of v → e ≡ right.now.value → RefinesExpression s (value_of e) t a
      → RefinesExpression s (value_after (table_of s.functions) s.calls (waiting.And right here) v) t a
  and_goes_on holds same refines =
      decided s v true (λ truth. if truth then value_of right.now.value else give v) t a holds
      (subst (λ b. RefinesExpression s (value_of b) t a) same refines)

  pub or_goes_on : false ≡ truth_of v → e ≡ right.now.value → RefinesExpression s (value_of e) t a
      → RefinesExpression s (value_after (table_of s.functions) s.calls (waiting.Or right here) v) t a
  or_goes_on fails same refines =
      decided s v false (λ truth. if truth then give v else value_of right.now.value) t a fails
      (subst (λ b. RefinesExpression s (value_of b) t a) same refines)

  pub takes_first : (other : Bor (Box Expr Global)) → true ≡ truth_of v → e ≡ right.now.value
      → RefinesExpression s (value_of e) t a
      → RefinesExpression s (value_after (table_of s.functions) s.calls (waiting.Conditional right other here) v) t a
  takes_first other holds same refines =
      decided s v true (λ truth. if truth then value_of right.now.value else value_of other.now.value) t a holds
      (subst (λ b. RefinesExpression s (value_of b) t a) same refines)

  pub takes_second : (other : Bor (Box Expr Global)) → false ≡ truth_of v → e ≡ right.now.value
      → RefinesExpression s (value_of e) t a
      → RefinesExpression s (value_after (table_of s.functions) s.calls (waiting.Conditional other right here) v) t a
  takes_second other fails same refines =
      decided s v false (λ truth. if truth then value_of other.now.value else value_of right.now.value) t a fails
      (subst (λ b. RefinesExpression s (value_of b) t a) same refines)

  pub takes_right : (o : BinOp) → e ≡ right.now.value
      → RefinesExpression s (value_of e >>= value_after (table_of s.functions) s.calls (waiting.RightOperand o v)) t a
      → RefinesExpression s (value_after (table_of s.functions) s.calls (waiting.LeftOperand o right here) v) t a
  takes_right o same refines =
      subst (λ b. RefinesExpression s (value_of b >>= value_after (table_of s.functions) s.calls
      (waiting.RightOperand o v)) t a)
      same
      refines

  -- where the right operand has a value at once
  pub takes_leaf : (o : BinOp) (b : Value) (u : State) → e ≡ right.now.value → Supplies s (value_of e) b u
      → RefinesExpression u (operate performs 0 o v b) t a
      → RefinesExpression s (value_after (table_of s.functions) s.calls (waiting.LeftOperand o right here) v) t a
  takes_leaf o b u same supplied refines =
      takes_right o same
      (supplied.gives (value_after (table_of s.functions) s.calls (waiting.RightOperand o v)) t a refines)
