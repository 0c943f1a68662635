-- Array literals, element by element.
use Rattle.std.proofs.Common.{◌≡◌, ◌∙◌, ◌+◌, ℕ, Bool, List, refl, sym, ap, subst}
use Rattle.std.specs.Borrow.{Bor}
use Rattle.std.specs.Prelude.{Option}
use Rattle.jl_ast.specs.Tree as tree
use Rattle.jl_ast.specs.View.{view_expression, view_items}
use Rattle.jl_ast.specs.declared.tree.Expr.{Expr}
use Rattle.jl_value.specs.declared.ending.Completion.TheVariants as completion
use Rattle.jl_value.specs.declared.ending.Fault.{Fault}
use Rattle.jl_value.specs.declared.object.ObjId.{ObjId}
use Rattle.jl_value.specs.declared.value.Value.{Value}
use Rattle.jl_meaning.specs.Expressions.{evaluate, fill}
use Rattle.jl_meaning.specs.FunctionObjects.{FunctionTable}
use Rattle.jl_meaning.specs.Parts.{fault_of, gives, lift, ◌>>=◌, Context}
use Rattle.jl_meaning.specs.Parts as parts
use Rattle.jl_meaning.specs.forms.Literals.{end_array, new_array, put_element}
use Rattle.jl_effects.specs.Running.{Ends}
use Rattle.jl_store.specs.Answers.{fault_seen, finish_of}
use Rattle.jl_store.specs.BigStep.{BigStep}
use Rattle.jl_store.specs.declared.answer.AlgorithmFault.{AlgorithmFault}
use Rattle.jl_store.specs.declared.answer.Finished.{Finished}
use Rattle.jl_store.specs.declared.answer.Finished.TheVariants as ended
use Rattle.jl_state.specs.Rest.{RefinesExpression}
use Rattle.jl_state.specs.Trees.{items_left, plain, plain_forest}
use Rattle.jl_state.specs.ValueFrames.{value_after}
use Rattle.jl_state.specs.Words.{context_of, table_of}
use Rattle.jl_state.specs.declared.act.Act.{Act}
use Rattle.jl_state.specs.declared.act.Act.TheVariants as act
use Rattle.jl_state.specs.declared.frame.Here.{Here}
use Rattle.jl_state.specs.declared.remaining.Remaining.{Remaining}
use Rattle.jl_state.specs.declared.state.State.{State}
use Rattle.jl_state.specs.declared.value_frame.ValueFrame.TheVariants as waiting
use Rattle.jl_state.proofs.Stores.{gives_comes, gives_failed, gives_thrown, IsStored}
use Rattle.jl_literal.specs.Filling.{array_from}
use Rattle.jl_literal.specs.inner.Elements.{after_holes, next_seen}
use Rattle.jl_literal.specs.declared.array_literals.Next.{Next}
use Rattle.jl_literal.specs.declared.array_literals.Next.TheVariants.{Element, Length}
use Rattle.jl_literal.proofs.Chains.{bind_assoc_twice}

-- holes are passed over
passed : (table : FunctionTable) (l : tree.Forest ℕ tree.item) (array : ObjId) (k : ℕ) (c : Context)
    → fill table l array k c ≡ fill table (after_holes l k).0 array (after_holes l k).1 c
passed table tree.end array k c = refl
passed table (tree.more tree.hole l) array k c = passed table l array (k + 1) c
passed table (tree.more (tree.filled e) l) array k c = refl

filled_from : (table : FunctionTable) (l m : tree.Forest ℕ tree.item) (array : ObjId) (k n : ℕ) (c : Context)
    → (m, n) ≡ after_holes l k → array_from table m array n c ≡ array_from table l array k c
filled_from table l m array k n c is =
    ap (λ p. p >>= λ length. end_array 0 array length)
    (ap (λ (q : tree.Forest ℕ tree.item × ℕ). fill table q.0 array q.1 c) is ∙ sym (passed table l array k c))

element_before : (table : FunctionTable) (l m : tree.Forest ℕ tree.item) (e : parts.Expr) (array : ObjId) (k n : ℕ)
    (c : Context) → (tree.more (tree.filled e) m, n) ≡ after_holes l k
    → (evaluate table e c >>= λ v. lift (put_element array n v) >>= λ _. array_from table m array (n + 1) c)
    ≡ array_from table l array k c
element_before table l m e array k n c is =
    sym (bind_assoc_twice (evaluate table e c) (λ v. lift (put_element array n v)) (fill table m array (n + 1) c)
    (λ length. end_array 0 array length))
    ∙ filled_from table l (tree.more (tree.filled e) m) array k n c is

-- what comes next is the length, or an element before others
module _ (s t : State) (a : Act) (rest : Remaining (Option Expr)) (array : ObjId) (k : ℕ) (here : Here) (next : Next)
    (seen : next_seen next ≡ after_holes (plain_forest (view_items (items_left rest))) k) where
  abbrev left_from : Remaining (Option Expr) → ℕ → parts.Part (parts.Answer Value)
  left_from r index =
      array_from (table_of s.functions) (plain_forest (view_items (items_left r))) array index (context_of s.calls here)

  pub array_ends : (n : ℕ) → next ≡ Length n → RefinesExpression s (end_array 0 array n) t a
      → RefinesExpression s (left_from rest k) t a
  array_ends n is refines =
      subst (λ p. RefinesExpression s p t a)
      (filled_from (table_of s.functions) (plain_forest (view_items (items_left rest))) tree.end array k n
      (context_of s.calls here) (ap next_seen (sym is) ∙ seen)) refines

  pub array_goes_on : (n : ℕ) (e : Bor Expr) (others : Remaining (Option Expr)) → next ≡ Element n e others
      → RefinesExpression s (evaluate (table_of s.functions) (plain (view_expression e.now)) (context_of s.calls here)
      >>= value_after (table_of s.functions) s.calls (waiting.Element array n others here)) t a
      → RefinesExpression s (left_from rest k) t a
  array_goes_on n e others is refines =
      subst (λ p. RefinesExpression s p t a)
      (element_before (table_of s.functions) (plain_forest (view_items (items_left rest)))
      (plain_forest (view_items (items_left others))) (plain (view_expression e.now)) array k n
      (context_of s.calls here)
      (ap next_seen (sym is) ∙ seen)) refines

-- an array literal begins with its elements
pub array_begun : (s t : State) → IsStored s t → (array : ObjId) (items : List (Option Expr)) (here : Here) (u : State)
    (a : Act) → BigStep new_array s.store t.store (Ends (gives array))
    → RefinesExpression t (array_from (table_of t.functions) (plain_forest (view_items items)) array 0
    (context_of t.calls here)) u
    a
    → RefinesExpression s (lift new_array >>= λ array. array_from (table_of s.functions)
    (plain_forest (view_items items)) array 0
    (context_of s.calls here)) u a
array_begun s t stored array items here u a comes refines =
    gives_comes s t stored new_array array (filling s) u a comes
    (subst (λ p. RefinesExpression t p u a) (ap (λ (w : State). filling w array) stored) refines)
  where
    filling : State → ObjId → parts.Part (parts.Answer Value)
    filling w b = array_from (table_of w.functions) (plain_forest (view_items items)) b 0 (context_of w.calls here)

-- an element is put, and the others follow
module _ (s t : State) (stored : IsStored s t) (array : ObjId) (index : ℕ) (v : Value)
    (rest : Remaining (Option Expr)) (here : Here) (answer : Finished Bool)
    (comes : BigStep (put_element array index v) s.store t.store (finish_of answer)) where
  abbrev others : State → ℕ → parts.Part (parts.Answer Value)
  others u next =
      array_from (table_of u.functions) (plain_forest (view_items (items_left rest))) array next
      (context_of u.calls here)

  puts : (end : Finished Bool) → answer ≡ end → BigStep (put_element array index v) s.store t.store (finish_of end)
  puts end is = subst (λ (f : Finished Bool). BigStep (put_element array index v) s.store t.store
      (finish_of f)) is comes

  pub element_put : (next : ℕ) (done : Bool) (u : State) (a : Act) → answer ≡ ended.Gives done → next ≡ index + 1
      → RefinesExpression t (others t next) u a
      → RefinesExpression s (value_after (table_of s.functions) s.calls (waiting.Element array index rest here) v) u a
  element_put next done u a end is refines =
      gives_comes s t stored (put_element array index v) done (λ _. others s (index + 1)) u a
      (puts (ended.Gives done) end)
      (subst (λ p. RefinesExpression t p u a) (ap (others t) is ∙ ap (λ w. others w (index + 1)) stored) refines)

  pub element_thrown : (w : Value) → answer ≡ ended.Throws w
      → RefinesExpression s (value_after (table_of s.functions) s.calls (waiting.Element array index rest here) v) t
      (act.Complete (completion.Throw w))
  element_thrown w end =
      gives_thrown s t stored (put_element array index v) w (λ _. others s (index + 1)) (puts (ended.Throws w) end)

  pub element_failed : (f : AlgorithmFault) (g : Fault) → answer ≡ ended.Fails f → g ≡ fault_of (fault_seen f)
      → RefinesExpression s (value_after (table_of s.functions) s.calls (waiting.Element array index rest here) v) t
      (act.Fault g)
  element_failed f g end is =
      subst (λ h. RefinesExpression s (value_after (table_of s.functions) s.calls
      (waiting.Element array index rest here) v) t
      (act.Fault h)) (sym is)
      (gives_failed s t stored (put_element array index v) (fault_seen f) (λ _. others s (index + 1))
      (puts (ended.Fails f) end))
