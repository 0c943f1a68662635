-- Assignments and updates by what they are to.
use Rattle.std.proofs.Common.{◌≡◌, Bool, None, Option, subst, sym, ℕ}
use Rattle.jl_text.specs.declared.span.Span.{Span}
use Rattle.jl_ast.specs.Tree as tree
use Rattle.jl_ast.specs.Tree.{Tree}
use Rattle.jl_ast.specs.View.{view_expression, view_target}
use Rattle.jl_ast.specs.declared.ops.BinOp.{BinOp}
use Rattle.jl_ast.specs.declared.tree.Expr.{Expr}
use Rattle.jl_ast.specs.declared.tree.Target.{Target}
use Rattle.jl_value.specs.declared.value.Value.{Value}
use Rattle.jl_value.specs.declared.value.Value.TheVariants as value
use Rattle.jl_heap.specs.Objects.{Name}
use Rattle.jl_meaning.specs.Expressions.{evaluate, evaluate_assignment, evaluate_update}
use Rattle.jl_meaning.specs.Parts as parts
use Rattle.jl_meaning.specs.Parts.{◌>>=◌, Answer, Part}
use Rattle.jl_meaning.specs.forms.Members.{update_expression}
use Rattle.jl_meaning.specs.forms.Names.{assign_name}
use Rattle.jl_state.specs.Rest.{RefinesExpression}
use Rattle.jl_state.specs.Trees.{plain}
use Rattle.jl_state.specs.Words.{context_of, table_of}
use Rattle.jl_state.specs.declared.act.Act.{Act}
use Rattle.jl_state.specs.declared.frame.Here.{Here}
use Rattle.jl_state.specs.declared.state.State.{State}
use Rattle.jl_expression.specs.inner.Begun.{assigned_name}
use Rattle.jl_expression.proofs.ByKind.{of_target}

module _ (s : State) (here : Here) (w : Target) (t : State) (a : Act) where
  pub update_of : (up prefix : Bool) (v : Target) (x : Tree Span tree.target) → w ≡ v → view_target v ≡ x
      → RefinesExpression s (evaluate_update (table_of s.functions) (plain x) up prefix 0 (context_of s.calls here)) t a
      → RefinesExpression s (evaluate_update (table_of s.functions) (plain (view_target w)) up prefix 0
      (context_of s.calls here))
      t a
  update_of up prefix v x is seen refines =
      of_target (λ (y : Tree ℕ tree.target). evaluate_update (table_of s.functions) y up prefix 0
      (context_of s.calls here)) s w v x t a is seen refines

  module _ (o : Option BinOp) (d : Expr) where
    abbrev assigns : Tree ℕ tree.target → Part (Answer Value)
    assigns y =
        evaluate_assignment (table_of s.functions) y o
        (evaluate (table_of s.functions) (plain (view_expression d)) (context_of s.calls here)) 0
        (context_of s.calls here)

    pub assignment_of : (v : Target) (x : Tree Span tree.target) → w ≡ v → view_target v ≡ x
        → RefinesExpression s (assigns (plain x)) t a → RefinesExpression s (assigns (plain (view_target w))) t a
    assignment_of v x is seen refines = of_target assigns s w v x t a is seen refines

-- an update of a member asks the context for nothing but whether it is strict
pub updates_dot : (s : State) (here : Here) (o : parts.Expr) (k : Name) (up prefix : Bool) (t : State) (a : Act)
    → RefinesExpression s (evaluate (table_of s.functions) o (context_of s.calls here)
    >>= λ base. update_expression 0 (context_of s.calls (record { env = 0; strict = here.strict })) base (value.Text k)
    up prefix) t a
    → RefinesExpression s (evaluate_update (table_of s.functions) (tree.to_dot o k 0) up prefix 0
    (context_of s.calls here)) t a
unfolding update_expression
updates_dot s here o k up prefix t a refines = refines

-- a name is assigned a value
module _ (s : State) (here : Here) (o : Option BinOp) (x : Name) (d : Expr) (t : State) (a : Act) where
  abbrev assigned_to : Expr → Option BinOp → Part (Answer Value)
  assigned_to b p =
      assigned_name p (context_of s.calls here) x
      (evaluate (table_of s.functions) (plain (view_expression b)) (context_of s.calls here))

  pub assigns_value : (b : Expr) → o ≡ None → b ≡ d
      → RefinesExpression s (assign_name 0 (context_of s.calls here) x
      (evaluate (table_of s.functions) (plain (view_expression b)) (context_of s.calls here))) t a
      → RefinesExpression s (assigned_to d o) t a
  assigns_value b is same refines =
      subst (λ (p : Option BinOp). RefinesExpression s (assigned_to d p) t a) (sym is)
      (subst (λ (e : Expr). RefinesExpression s (assigned_to e None) t a) same refines)
