-- Arguments that are left (11.2.4).
use Rattle.std.proofs.Common.{◌≡◌, ◌∷◌, ◌++◌, [], sym, subst, List}
use Rattle.jl_ast.specs.View.{view_expression, view_expressions}
use Rattle.jl_ast.specs.declared.tree.Expr.{Expr}
use Rattle.jl_value.specs.declared.value.Value.{Value}
use Rattle.jl_meaning.specs.Expressions.{evaluate, evaluate_all}
use Rattle.jl_meaning.specs.Parts.{◌>>=◌, Answer, Context, Part}
use Rattle.jl_state.specs.Rest.{RefinesExpression}
use Rattle.jl_state.specs.Trees.{plain, plain_forest}
use Rattle.jl_state.specs.Words.{table_of}
use Rattle.jl_state.specs.declared.act.Act.{Act}
use Rattle.jl_state.specs.declared.state.State.{State}
use Rattle.jl_state.proofs.Chains.{gives_assoc}

module _ (s t : State) (a : Act) (so_far : List Value) (items : List Expr) (c : Context)
    (k : List Value → Part (Answer Value)) where
  abbrev values_of : List Expr → Part (Answer Value)
  values_of l = evaluate_all (table_of s.functions) 0 so_far (plain_forest (view_expressions l)) c >>= k

  -- none is left
  pub ends_rest : items ≡ [] → RefinesExpression s (k so_far) t a → RefinesExpression s (values_of items) t a
  ends_rest is refines = subst (λ (l : List Expr). RefinesExpression s (values_of l) t a) (sym is) refines

  -- one is evaluated, and then the others
  pub goes_on : (e : Expr) (others : List Expr) → items ≡ e ∷ others
      → RefinesExpression s (evaluate (table_of s.functions) (plain (view_expression e)) c >>= λ v.
      evaluate_all (table_of s.functions) 0 (so_far ++ v ∷ []) (plain_forest (view_expressions others)) c >>= k) t a
      → RefinesExpression s (values_of items) t a
  goes_on e others is refines =
      subst (λ (l : List Expr). RefinesExpression s (values_of l) t a) (sym is)
      (gives_assoc s (evaluate (table_of s.functions) (plain (view_expression e)) c)
      (λ v. evaluate_all (table_of s.functions) 0 (so_far ++ v ∷ []) (plain_forest (view_expressions others)) c) k t a
      refines)
