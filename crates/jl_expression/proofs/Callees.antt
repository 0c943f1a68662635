-- Calls by what stands as their callee.
use Rattle.std.proofs.Common.{◌≡◌, ◌∙◌, Bool, List, true, ℕ, ap, refl, length, subst, sym}
use Rattle.std.proofs.lemmas.Bool.{false≢true}
use Rattle.jl_text.specs.declared.span.Span.{Span}
use Rattle.jl_ast.specs.Tree as tree
use Rattle.jl_ast.specs.Tree.{Tree}
use Rattle.jl_ast.specs.View.{view_expression, view_expression_kind, view_expressions}
use Rattle.jl_ast.specs.declared.tree.Expr.{Expr}
use Rattle.jl_ast.specs.declared.tree.ExprKind.{ExprKind}
use Rattle.jl_value.specs.declared.value.Value.{Value}
use Rattle.jl_value.specs.declared.value.Value.TheVariants as value
use Rattle.jl_heap.specs.Objects.{Name}
use Rattle.jl_meaning.specs.Expressions.{evaluate, evaluate_call}
use Rattle.jl_meaning.specs.FunctionObjects.{FunctionTable}
use Rattle.jl_meaning.specs.Parts as parts
use Rattle.jl_meaning.specs.Parts.{◌>>=◌, Answer, Context, Exprs, Part}
use Rattle.jl_meaning.specs.forms.Calls.{call_member, call_value}
use Rattle.jl_meaning.specs.forms.HookCalls.{form_of, form_of_member, CalleeForm}
use Rattle.jl_meaning.specs.forms.Hooks.{call_by_form, call_of_call}
use Rattle.jl_state.specs.Rest.{RefinesExpression}
use Rattle.jl_state.specs.Trees.{plain, plain_forest}
use Rattle.jl_state.specs.Words.{context_of, table_of}
use Rattle.jl_state.specs.declared.act.Act.{Act}
use Rattle.jl_state.specs.declared.frame.Here.{Here}
use Rattle.jl_state.specs.declared.state.State.{State}
use Rattle.jl_hook.proofs.HookCalls.{counted}
use Rattle.jl_expression.specs.inner.Begun.{arguments, call_expression}
use Rattle.jl_expression.specs.inner.Forms.{is_value}
use Rattle.jl_expression.proofs.ByKind.{of_kind}

-- what is neither a member nor a call is evaluated first
pub value_called : (table : FunctionTable) (f : parts.Expr) (l : Exprs) (c : Context) → is_value f ≡ true
    → call_value table 0 (evaluate table f c) (arguments table l c 0) ≡ call_expression table f l c
value_called table (tree.dot o k s) l c is = absurd (false≢true is)
value_called table (tree.index o k s) l c is = absurd (false≢true is)
value_called table (tree.call f m s) l c is = absurd (false≢true is)
value_called table f l c is = refl

-- a callee is called by its kind
module _ (s : State) (here : Here) (callee : Expr) (args : List Expr) (t : State) (a : Act) where
  abbrev calls_as : parts.Expr → Part (Answer Value)
  calls_as f =
      evaluate_call (table_of s.functions) f (plain_forest (view_expressions args))
      (evaluate (table_of s.functions) (plain (view_expression callee)) (context_of s.calls here))
      (arguments (table_of s.functions) (plain_forest (view_expressions args)) (context_of s.calls here)) 0
      (context_of s.calls here)

  pub called_form : (k : ExprKind) (x : Tree Span tree.expr) → callee.kind ≡ k → view_expression_kind k callee.span ≡ x
      → RefinesExpression s (calls_as (plain x)) t a
      → RefinesExpression s (calls_as (plain (view_expression callee))) t a
  called_form k x is seen refines = of_kind calls_as s callee k x t a is seen refines

  pub calls_value : is_value (plain (view_expression callee)) ≡ true
      → RefinesExpression s (call_value (table_of s.functions) 0
      (evaluate (table_of s.functions) (plain (view_expression callee)) (context_of s.calls here))
      (arguments (table_of s.functions) (plain_forest (view_expressions args)) (context_of s.calls here) 0)) t a
      → RefinesExpression s (calls_as (plain (view_expression callee))) t a
  calls_value is refines =
      subst (λ (p : Part (Answer Value)). RefinesExpression s p t a)
      (value_called (table_of s.functions) (plain (view_expression callee)) (plain_forest (view_expressions args))
      (context_of s.calls here) is) refines

-- a member is called by what it is
pub calls_member : (s : State) (here : Here) (l : Exprs) (seen : CalleeForm) (e b : Expr) (k : Name) (t : State)
    (a : Act) → e ≡ b → seen ≡ form_of_member (plain (view_expression e)) k
    → RefinesExpression s (call_by_form seen l (context_of s.calls here)
    (arguments (table_of s.functions) l (context_of s.calls here))
    (evaluate (table_of s.functions) (plain (view_expression b)) (context_of s.calls here)
    >>= λ base. call_member (table_of s.functions) 0 0 base (value.Text k)
    (arguments (table_of s.functions) l (context_of s.calls here) 0))) t a
    → RefinesExpression s (call_expression (table_of s.functions) (tree.dot (plain (view_expression b)) k 0) l
    (context_of s.calls here)) t a
calls_member s here l seen e b k t a same is refines =
    let table = table_of s.functions in
    let c = context_of s.calls here in
    let otherwise : Part (Answer Value) =
    evaluate table (plain (view_expression b)) c
    >>= λ base. call_member table 0 0 base (value.Text k) (arguments table l c 0) in
    subst (λ (form : CalleeForm). RefinesExpression s (call_by_form form l c (arguments table l c) otherwise) t a)
    (is ∙ ap (λ (d : Expr). form_of_member (plain (view_expression d)) k) same) refines

-- the callee of a call is a call, for which its arguments are counted
pub calls_second : (s : State) (here : Here) (args : List Expr) (f : parts.Expr) (inner : Exprs)
    (itself : Part (Answer Value)) (t : State) (a : Act)
    → RefinesExpression s (call_of_call (table_of s.functions) (context_of s.calls here) (form_of f) inner
    (arguments (table_of s.functions) inner (context_of s.calls here)) (length args)
    (arguments (table_of s.functions) (plain_forest (view_expressions args)) (context_of s.calls here) 0)
    (call_value (table_of s.functions) 0 itself
    (arguments (table_of s.functions) (plain_forest (view_expressions args)) (context_of s.calls here) 0))) t a
    → RefinesExpression s (evaluate_call (table_of s.functions) (tree.call f inner 0)
    (plain_forest (view_expressions args)) itself
    (arguments (table_of s.functions) (plain_forest (view_expressions args)) (context_of s.calls here)) 0
    (context_of s.calls here)) t a
calls_second s here args f inner itself t a refines =
    let table = table_of s.functions in
    let c = context_of s.calls here in
    let second = arguments table (plain_forest (view_expressions args)) c 0 in
    subst (λ (n : ℕ). RefinesExpression s (call_of_call table c (form_of f) inner (arguments table inner c) n second
    (call_value table 0 itself second)) t a) (sym (counted args)) refines
