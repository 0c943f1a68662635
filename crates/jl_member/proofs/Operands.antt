-- Frames that are handed a value and wait for that of an expression in a box.
use Rattle.std.proofs.Common.{◌≡◌, false, subst, sym, Bool, None, Option, Some, ℕ}
use Rattle.std.specs.Borrow.{Bor}
use Rattle.std.specs.Global.{Global}
use Rattle.std.specs.declared.boxed.Box.{Box}
use Rattle.jl_ast.specs.View.{view_expression}
use Rattle.jl_ast.specs.declared.ops.BinOp.{BinOp}
use Rattle.jl_ast.specs.declared.tree.Expr.{Expr}
use Rattle.jl_value.specs.declared.value.Value.{Value}
use Rattle.jl_heap.specs.Describe.{seen_of}
use Rattle.jl_heap.specs.Objects.{Name}
use Rattle.jl_op.specs.declared.op.Op.TheVariants as op
use Rattle.jl_meaning.specs.Expressions.{evaluate}
use Rattle.jl_meaning.specs.Parts.{◌>>=◌, Answer, Part}
use Rattle.jl_meaning.specs.forms.Members.{get_member}
use Rattle.jl_store.specs.declared.names.Reference.{Reference as Resolved}
use Rattle.jl_state.specs.Rest.{RefinesExpression}
use Rattle.jl_state.specs.Trees.{plain}
use Rattle.jl_state.specs.ValueFrames.{key_after, value_after}
use Rattle.jl_state.specs.Words.{context_of, noting, table_of}
use Rattle.jl_state.specs.declared.act.Act.{Act}
use Rattle.jl_state.specs.declared.frame.Here.{Here}
use Rattle.jl_state.specs.declared.state.State.{State}
use Rattle.jl_state.specs.declared.value_frame.MemberUse.TheVariants as key_for
use Rattle.jl_state.specs.declared.value_frame.ValueFrame.{ValueFrame}
use Rattle.jl_state.specs.declared.value_frame.ValueFrame.TheVariants as waiting
use Rattle.jl_member.proofs.Gets.{gets_so}
use Rattle.jl_member.proofs.Quiet.{performed}

module _ (s : State) (k : Bor (Box Expr Global)) (e : Expr) (here : Here) (v : Value) (t : State) (a : Act) where
  -- the expression is evaluated for a frame
  abbrev pub evaluated : ValueFrame → Expr → Part (Answer Value)
  evaluated f b =
      evaluate (table_of s.functions) (plain (view_expression b)) (context_of s.calls here)
      >>= value_after (table_of s.functions) s.calls f

  unboxed : (f : ValueFrame) → e ≡ k.now.value → RefinesExpression s (evaluated f e) t a
      → RefinesExpression s (evaluated f k.now.value) t a
  unboxed f same refines = subst (λ (b : Expr). RefinesExpression s (evaluated f b) t a) same refines

  pub evaluates_key : e ≡ k.now.value → RefinesExpression s (evaluated (waiting.IndexKey v) e) t a
      → RefinesExpression s (value_after (table_of s.functions) s.calls (waiting.IndexBase k here) v) t a
  evaluates_key same refines = unboxed (waiting.IndexKey v) same refines

  pub evaluates_deleted_key : e ≡ k.now.value
      → RefinesExpression s (evaluated (waiting.DeleteIndexKey v here.strict) e) t a
      → RefinesExpression s (value_after (table_of s.functions) s.calls (waiting.DeleteIndexBase k here) v) t a
  evaluates_deleted_key same refines = unboxed (waiting.DeleteIndexKey v here.strict) same refines

  pub evaluates_for_name : (x : Bor Name) (r : Resolved) (o : BinOp) → e ≡ k.now.value
      → RefinesExpression s (evaluated (waiting.ComputeNameOperand x r o v here.strict) e) t a
      → RefinesExpression s (value_after (table_of s.functions) s.calls (waiting.ComputeName x r o k here) v) t a
  evaluates_for_name x r o same refines =
      performed s (λ store. (record { 0 = 0 }, op.Read x.now (seen_of store.heap v)))
      (evaluated (waiting.ComputeNameOperand x r o v here.strict) k.now.value) t a
      (unboxed (waiting.ComputeNameOperand x r o v here.strict) same refines)

  pub evaluates_for_member : (base : Value) (x : Name) (o : BinOp) → e ≡ k.now.value
      → RefinesExpression s (evaluated (waiting.ComputeMemberOperand base x o v here.strict) e) t a
      → RefinesExpression s (value_after (table_of s.functions) s.calls (waiting.ComputeMember base x o k here) v) t a
  evaluates_for_member base x o same refines = unboxed
      (waiting.ComputeMemberOperand base x o v here.strict) same refines

  -- a member whose name has been found gets it
  pub evaluates_assigned : (x : Name) (o : Option BinOp) → o ≡ None → e ≡ k.now.value
      → RefinesExpression s (evaluated (waiting.PutMember false (record { 0 = 0 }) v x here.strict) e) t a
      → RefinesExpression s (key_after (table_of s.functions) s.calls (key_for.Assign v o k here) x) t a
  evaluates_assigned x o is same refines =
      subst (λ (p : Option BinOp). RefinesExpression s
      (key_after (table_of s.functions) s.calls (key_for.Assign v p k here) x) t a)
      (sym is) (unboxed (waiting.PutMember false (record { 0 = 0 }) v x here.strict) same refines)

  -- where there is no operator
  pub assigns_plainly : (x : Name) (o : Option BinOp) → o ≡ None
      → RefinesExpression s (key_after (table_of s.functions) s.calls (key_for.Assign v None k here) x) t a
      → RefinesExpression s (key_after (table_of s.functions) s.calls (key_for.Assign v o k here) x) t a
  assigns_plainly x o is refines =
      subst (λ (p : Option BinOp). RefinesExpression s
      (key_after (table_of s.functions) s.calls (key_for.Assign v p k here) x) t a)
      (sym is) refines

-- the value of the member is got first
pub computes_got : (s : State) (emitting : Bool) (id : ℕ) (base held : Value) (x named : Name) (o : BinOp)
    (k : Bor (Box Expr Global)) (here : Here) (t : State) (a : Act) → emitting ≡ false → id ≡ 0
    → held ≡ base → named ≡ x
    → RefinesExpression s (get_member (noting emitting) id base x
    >>= value_after (table_of s.functions) s.calls (waiting.ComputeMember held named o k here)) t a
    → RefinesExpression s (key_after (table_of s.functions) s.calls (key_for.Assign base (Some o) k here) x) t a
computes_got s emitting id base held x named o k here t a is first same_base same_name refines =
    gets_so s emitting id base x
    (value_after (table_of s.functions) s.calls (waiting.ComputeMember base x o k here)) t a is first
    (subst (λ (b : Value). RefinesExpression s (get_member (noting emitting) id base x
    >>= value_after (table_of s.functions) s.calls (waiting.ComputeMember b x o k here)) t a) same_base
    (subst (λ (y : Name). RefinesExpression s (get_member (noting emitting) id base x
    >>= value_after (table_of s.functions) s.calls (waiting.ComputeMember held y o k here)) t a) same_name refines))
