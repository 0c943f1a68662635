-- Arguments whose values are there at once.
use Rattle.std.specs.Prelude.{◌≡◌, ◌≤◌, List}
use Rattle.jl_ast.specs.View.{view_expressions}
use Rattle.jl_ast.specs.declared.tree.Expr.{Expr}
use Rattle.jl_value.specs.declared.value.Value.{Value}
use Rattle.jl_meaning.specs.Expressions.{evaluate_all}
use Rattle.jl_meaning.specs.Parts.{◌>>=◌, Answer, Part}
use Rattle.jl_state.specs.Rest.{RefinesExpression}
use Rattle.jl_state.specs.Trees.{plain_forest}
use Rattle.jl_state.specs.Words.{context_of, table_of}
use Rattle.jl_state.specs.declared.act.Act.{Act}
use Rattle.jl_state.specs.declared.frame.Here.{Here}
use Rattle.jl_state.specs.declared.state.State.{State}

-- the values of these expressions, after those that there are
abbrev pub values_in : State → List Value → List Expr → Here → Part (Answer (List Value))
values_in s so_far items here =
    evaluate_all (table_of s.functions) 0 so_far (plain_forest (view_expressions items)) (context_of s.calls here)

-- of the items some have their values at once: with these t goes on with the others, as s would with all, and nothing
-- but the number of steps is another one
pub record Takes (s : State) (here : Here) (so_far : List Value) (items : List Expr) (t : State) (values : List Value)
    (others : List Expr) : Type 0 where
  pub gives : (k : List Value → Part (Answer Value)) (u : State) (a : Act)
      → RefinesExpression t (values_in s values others here >>= k) u a
      → RefinesExpression s (values_in s so_far items here >>= k) u a
  pub same : t ≡ record s { left = t.left }
  pub left : t.left ≤ s.left
