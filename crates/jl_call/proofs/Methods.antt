-- Calls of members.
use Rattle.std.proofs.Common.{◌≡◌, [], false, subst, List}
use Rattle.std.specs.Borrow.{Bor}
use Rattle.std.specs.Global.{Global}
use Rattle.std.specs.declared.boxed.Box.{Box}
use Rattle.jl_ast.specs.View.{view_expression, view_expressions}
use Rattle.jl_ast.specs.declared.tree.Expr.{Expr}
use Rattle.jl_value.specs.declared.value.Value.{Value}
use Rattle.jl_meaning.specs.Expressions.{evaluate, evaluate_all}
use Rattle.jl_meaning.specs.Noting.{performs}
use Rattle.jl_meaning.specs.Parts.{lift, ◌>>=◌, Answer, Part}
use Rattle.jl_meaning.specs.forms.Calls.{call_member, invoke}
use Rattle.jl_meaning.specs.forms.Members.{get_member, member_name, read_member}
use Rattle.jl_state.specs.Rest.{RefinesExpression}
use Rattle.jl_state.specs.Trees.{plain, plain_forest}
use Rattle.jl_state.specs.ValueFrames.{key_after, value_after}
use Rattle.jl_state.specs.Words.{context_of, table_of}
use Rattle.jl_state.specs.declared.act.Act.{Act}
use Rattle.jl_state.specs.declared.frame.Here.{Here}
use Rattle.jl_state.specs.declared.state.State.{State}
use Rattle.jl_state.specs.declared.value_frame.MemberUse.TheVariants as key_for
use Rattle.jl_state.specs.declared.value_frame.ValueFrame.TheVariants as waiting
use Rattle.jl_state.proofs.Chains.{gives_assoc}

module _ (s t : State) (a : Act) (args : Bor (List Expr)) (here : Here) where
  abbrev values : Part (Answer (List Value))
  values = evaluate_all (table_of s.functions) 0 [] (plain_forest (view_expressions args.now)) (context_of s.calls here)

  -- the name of the member is found first
  pub calls_member : (base object key : Value) → object ≡ base
      → RefinesExpression s (lift (member_name object key)
      >>= key_after (table_of s.functions) s.calls (key_for.Call base args here))
      t a
      → RefinesExpression s (call_member (table_of s.functions) 0 0 base key values) t a
  unfolding read_member
  calls_member base object key same refines =
      gives_assoc s (lift (member_name base key)) (λ x. get_member performs 0 base x)
      (λ f. values >>= λ vs. invoke (table_of s.functions) performs 0 f base vs false) t a
      (subst (λ (v : Value). RefinesExpression s
      (lift (member_name v key) >>= key_after (table_of s.functions) s.calls (key_for.Call base args here)) t a) same
      refines)

  -- the key is evaluated first
  pub evaluates_key : (base : Value) (k : Bor (Box Expr Global)) (e : Expr) → e ≡ k.now.value
      → RefinesExpression s (evaluate (table_of s.functions) (plain (view_expression e)) (context_of s.calls here)
      >>= value_after (table_of s.functions) s.calls (waiting.CalleeIndexKey base args here)) t a
      → RefinesExpression s (value_after (table_of s.functions) s.calls (waiting.CalleeIndexBase k args here) base) t a
  evaluates_key base k e same refines =
      subst (λ (b : Expr). RefinesExpression s
      (evaluate (table_of s.functions) (plain (view_expression b)) (context_of s.calls here)
      >>= value_after (table_of s.functions) s.calls (waiting.CalleeIndexKey base args here)) t a) same refines
