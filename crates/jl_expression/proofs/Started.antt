-- Expressions by their kinds, after the step that begins them.
use Rattle.std.proofs.Common.{◌≡◌, Bool, List, Option, subst}
use Rattle.std.specs.Global.{Global}
use Rattle.std.specs.declared.boxed.Box.{Box}
use Rattle.jl_text.specs.declared.span.Span.{Span}
use Rattle.jl_ast.specs.Tree as tree
use Rattle.jl_ast.specs.Tree.{Tree}
use Rattle.jl_ast.specs.View.{view_expression, view_expression_kind, view_expressions, view_function, view_target}
use Rattle.jl_ast.specs.declared.ops.BinOp.{BinOp}
use Rattle.jl_ast.specs.declared.ops.UnOp.{UnOp}
use Rattle.jl_ast.specs.declared.tree.Expr.{Expr}
use Rattle.jl_ast.specs.declared.tree.ExprKind as expression
use Rattle.jl_ast.specs.declared.tree.ExprKind.{ExprKind}
use Rattle.jl_ast.specs.declared.tree.Function.{Function}
use Rattle.jl_ast.specs.declared.tree.Target.{Target}
use Rattle.jl_ast.proofs.Views.{expression_Assign, expression_Call, expression_Function, expression_Unary}
use Rattle.jl_ast.proofs.Views.{expression_Update}
use Rattle.jl_value.specs.declared.value.Value.{Value}
use Rattle.jl_value.specs.declared.value.Value.TheVariants as value
use Rattle.jl_meaning.specs.Expressions.{evaluate, evaluate_assignment, evaluate_update}
use Rattle.jl_meaning.specs.FunctionObjects.{make_function_expression}
use Rattle.jl_meaning.specs.Parts as parts
use Rattle.jl_meaning.specs.Parts.{lift, ◌>>=◌, Answer, Part}
use Rattle.jl_meaning.specs.forms.Literals.{literal_of, of_function}
use Rattle.jl_state.specs.Rest.{RefinesExpression}
use Rattle.jl_state.specs.Trees.{plain, plain_forest}
use Rattle.jl_state.specs.Words.{context_of, table_of}
use Rattle.jl_state.specs.declared.act.Act.{Act}
use Rattle.jl_state.specs.declared.frame.Here.{Here}
use Rattle.jl_state.specs.declared.state.State.{State}
use Rattle.jl_expression.specs.inner.Begun.{begin, call_expression}
use Rattle.jl_expression.proofs.ByKind.{of_kind}

module _ (s : State) (here : Here) (e : Expr) (t : State) (a : Act) where
  abbrev begins : parts.Expr → Part (Answer Value)
  begins x = begin (table_of s.functions) x (context_of s.calls here)

  pub of_form : (k : ExprKind) (x : Tree Span tree.expr) → e.kind ≡ k → view_expression_kind k e.span ≡ x
      → RefinesExpression s (begins (plain x)) t a → RefinesExpression s (begins (plain (view_expression e))) t a
  of_form k x is seen refines = of_kind begins s e k x t a is seen refines

  pub function_begun : (f : Box Function Global) (d : Function) → e.kind ≡ expression.Function f → d ≡ f.value
      → RefinesExpression s (lift (make_function_expression here.strict here.env (plain (view_function d)))
      >>= λ object. literal_of of_function 0 (value.Obj object)) t a
      → RefinesExpression s (begins (plain (view_expression e))) t a
  function_begun f d is same refines =
      of_form (expression.Function f) _ is (expression_Function f e.span)
      (subst (λ (b : Function). RefinesExpression s
      (lift (make_function_expression here.strict here.env (plain (view_function b)))
      >>= λ object. literal_of of_function 0 (value.Obj object)) t a) same refines)

  pub call_begun : (f : Box Expr Global) (l : List Expr) (d : Expr) → e.kind ≡ expression.Call f l → d ≡ f.value
      → RefinesExpression s (call_expression (table_of s.functions) (plain (view_expression d))
      (plain_forest (view_expressions l))
      (context_of s.calls here)) t a
      → RefinesExpression s (begins (plain (view_expression e))) t a
  call_begun f l d is same refines =
      of_form (expression.Call f l) _ is (expression_Call f l e.span)
      (subst (λ (b : Expr). RefinesExpression s (call_expression (table_of s.functions) (plain (view_expression b))
      (plain_forest (view_expressions l)) (context_of s.calls here)) t a) same refines)

  pub unary_begun : (o : UnOp) (f : Box Expr Global) (d : Expr) → e.kind ≡ expression.Unary o f → d ≡ f.value
      → RefinesExpression s (begins (tree.unary o (plain (view_expression d)) 0)) t a
      → RefinesExpression s (begins (plain (view_expression e))) t a
  unary_begun o f d is same refines =
      of_form (expression.Unary o f) _ is (expression_Unary o f e.span)
      (subst (λ (b : Expr). RefinesExpression s (begins (tree.unary o (plain (view_expression b)) 0)) t a) same refines)

  pub update_begun : (up prefix : Bool) (w : Box Target Global) (d : Target) → e.kind ≡ expression.Update up prefix w
      → d ≡ w.value
      → RefinesExpression s (evaluate_update (table_of s.functions) (plain (view_target d)) up prefix 0
      (context_of s.calls here)) t a
      → RefinesExpression s (begins (plain (view_expression e))) t a
  update_begun up prefix w d is same refines =
      of_form (expression.Update up prefix w) _ is (expression_Update up prefix w e.span)
      (subst (λ (b : Target). RefinesExpression s
      (evaluate_update (table_of s.functions) (plain (view_target b)) up prefix 0
      (context_of s.calls here)) t a) same refines)

  pub assignment_begun : (o : Option BinOp) (w : Box Target Global) (v : Box Expr Global) (d : Target)
      → e.kind ≡ expression.Assign o w v → d ≡ w.value
      → RefinesExpression s (evaluate_assignment (table_of s.functions) (plain (view_target d)) o
      (evaluate (table_of s.functions) (plain (view_expression v.value)) (context_of s.calls here)) 0
      (context_of s.calls here)) t a
      → RefinesExpression s (begins (plain (view_expression e))) t a
  assignment_begun o w v d is same refines =
      of_form (expression.Assign o w v) _ is (expression_Assign o w v e.span)
      (subst (λ (b : Target). RefinesExpression s (evaluate_assignment (table_of s.functions) (plain (view_target b)) o
      (evaluate (table_of s.functions) (plain (view_expression v.value)) (context_of s.calls here)) 0
      (context_of s.calls here)) t a) same refines)
