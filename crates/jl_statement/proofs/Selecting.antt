-- The cases of a `switch` (12.11).
use Rattle.std.proofs.Common.{◌≡◌, ◌+◌, ◌∷◌, [], List, None, Option, Some, ℕ, drop, suc, zero}
use Rattle.std.proofs.Common.{ap, refl, sym, ◌∙◌, subst}
use Rattle.std.proofs.Common.{◌≤◌, arith, length, option_map, Bool, false, if◌then◌else◌, true}
use Rattle.std.specs.Borrow.{Bor}
use Rattle.std.specs.List.{slice_get}
use Rattle.jl_ast.specs.Tree as tree
use Rattle.jl_ast.specs.View.{view_case, view_cases, view_expression, view_optional, view_statements}
use Rattle.jl_ast.specs.declared.tree.Case.{Case, out-Case}
use Rattle.jl_ast.specs.declared.tree.Expr.{Expr}
use Rattle.jl_ast.proofs.Views.{case_is}
use Rattle.jl_value.specs.declared.ending.Completion.{Completion}
use Rattle.jl_value.specs.declared.ending.Completion.TheVariants as completion
use Rattle.jl_value.specs.declared.value.Value.{Value}
use Rattle.jl_effects.specs.Effects.{and_then}
use Rattle.jl_conv.specs.Comparisons.{strictly_equal}
use Rattle.jl_meaning.specs.Completions.{ends_as, normal, on_given, then_do}
use Rattle.jl_meaning.specs.Expressions.{evaluate}
use Rattle.jl_meaning.specs.FunctionObjects.{FunctionTable}
use Rattle.jl_meaning.specs.Parts.{give, Answer, Context, Part}
use Rattle.jl_meaning.specs.Statements.{execute_all, execute_clause, execute_from, select}
use Rattle.jl_meaning.specs.forms.Switch.{after_switch, default_of, gives_value, select_first}
use Rattle.jl_state.specs.Rest.{RefinesStatement}
use Rattle.jl_state.specs.StatementFrames.{statement_after}
use Rattle.jl_state.specs.Trees.{items_left, plain, plain_forest}
use Rattle.jl_state.specs.Words.{context_of, table_of}
use Rattle.jl_state.specs.declared.act.Act.{Act}
use Rattle.jl_state.specs.declared.act.Act.TheVariants as act
use Rattle.jl_state.specs.declared.frame.Frame.TheVariants as frame
use Rattle.jl_state.specs.declared.frame.Here.{Here}
use Rattle.jl_state.specs.declared.remaining.Remaining.{Remaining}
use Rattle.jl_state.specs.declared.statement_frame.CompletionFrame.TheVariants as completing
use Rattle.jl_state.specs.declared.statement_frame.StatementFrame.TheVariants as statement
use Rattle.jl_state.specs.declared.state.State.{State}
use Rattle.jl_statement.specs.inner.Selections.{run_from, run_selected, select_and_run}
use Rattle.jl_statement.specs.inner.Selections.{selected_at, selected_from, IsNextTest}
use Rattle.jl_statement.proofs.Dropped.{dropped_beyond, dropped_next, dropped_none}
use Rattle.jl_statement.proofs.Executes.{part_over, statements_over}
use Rattle.jl_statement.proofs.Followed.{together}

-- a case and what it tests
case_with : (x : Case) (test : Option Expr) → (out-Case x).test ≡ test
    → view_case x ≡ tree.case (view_optional test) (view_statements (out-Case x).body)
case_with x test is = case_is x ∙ ap (λ o. tree.case (view_optional o) (view_statements (out-Case x).body)) is

module _ (table : FunctionTable) (c : Context) (v : Value) (k : ℕ) (l : List Case) (x : Case) where
  seen_at : (test : Option Expr) → slice_get l k ≡ Some x → (out-Case x).test ≡ test
      → selected_from table c v k l
      ≡ select table k (tree.more (plain (tree.case (view_optional test) (view_statements (out-Case x).body)))
      (plain_forest (view_cases (drop (k + 1) l)))) v c
  seen_at test is tests =
      ap (λ m. select table k (plain_forest (view_cases m)) v c) (dropped_next l k x is)
      ∙ ap (λ t. select table k (tree.more (plain t) (plain_forest (view_cases (drop (k + 1) l)))) v c)
      (case_with x test tests)

  -- the default has no test
  pub selected_after : slice_get l k ≡ Some x → (out-Case x).test ≡ None
      → selected_from table c v k l ≡ selected_from table c v (k + 1) l
  selected_after is tests = seen_at None is tests

  pub selected_here : (e : Expr) → slice_get l k ≡ Some x → (out-Case x).test ≡ Some e
      → selected_from table c v k l
      ≡ select_first (gives_value v (evaluate table (plain (view_expression e)) c)) k
      (selected_from table c v (k + 1) l)
  selected_here e is tests = seen_at (Some e) is tests

-- from this index on the same is selected as from that one
pub record SelectsSame (l : List Case) (from at : ℕ) : Type 0 where
  pub same : (table : FunctionTable) (c : Context) (v : Value)
      → selected_from table c v from l ≡ selected_from table c v at l

pub selects_itself : (l : List Case) (from : ℕ) → SelectsSame l from from
selects_itself l from = record { same = λ table c v. refl }

pub selects_next : (l : List Case) (from at : ℕ) (x : Case) → SelectsSame l from at → slice_get l at ≡ Some x
    → (out-Case x).test ≡ None → SelectsSame l from (at + 1)
selects_next l from at x before is tests = record {
  same = λ table c v. before.same table c v ∙ selected_after table c v at l x is tests;
}

pub next_found : (l : List Case) (from at : ℕ) (x : Case) (e : Bor Expr) → SelectsSame l from at
    → slice_get l at ≡ Some x → (out-Case x).test ≡ Some e.now → IsNextTest l from (Some (at, e))
next_found l from at x e before is tests = record {
  same = λ table c v. before.same table c v ∙ selected_here table c v at l x e.now is tests;
}

pub next_missing : (l : List Case) (from at : ℕ) → SelectsSame l from at → slice_get l at ≡ None
    → IsNextTest l from None
next_missing l from at before is = record {
  same = λ table c v.
      before.same table c v
      ∙ ap (λ m. select table at (plain_forest (view_cases m)) v c) (dropped_none l at is);
}

-- a test that gives the value of the `switch` selects its case, and any other goes on
pub selects : (s : State) (p : Part (Answer Value)) (v : Value) (k : ℕ) (next : Part (Answer (Option ℕ)))
    (f : Option ℕ → Part Completion) (t : State) (a : Act)
    → RefinesStatement s (and_then p (on_given (λ w. and_then (if strictly_equal v w then give (Some k) else next)
    (on_given f)))) t a
    → RefinesStatement s (and_then (select_first (gives_value v p) k next) (on_given f)) t a
selects s p v k next f t a refines =
    together s (gives_value v p) (λ selected. if selected then give (Some k) else next) f t a
    (together s p (λ w. give (strictly_equal v w))
    (λ selected. and_then (if selected then give (Some k) else next) (on_given f)) t a refines)

-- the cases before the one from which on they are executed don't count
pub executed_from : (table : FunctionTable) (c : Context) (k : ℕ) (l : List Case)
    → execute_from table (Some k) (plain_forest (view_cases l)) c
    ≡ execute_from table (Some 0) (plain_forest (view_cases (drop k l))) c
executed_from table c zero l = refl
executed_from table c (suc k) [] = refl
executed_from table c (suc k) (x ∷ l) = executed_from table c k l

-- where the default is, if it is at this index or after it
abbrev pub default_at : ℕ → List Case → Option ℕ
default_at k l = option_map (λ n. n + k) (default_of (plain_forest (view_cases (drop k l))))

default_seen : (k : ℕ) (l : List Case) (x : Case) (test : Option Expr) → slice_get l k ≡ Some x
    → (out-Case x).test ≡ test
    → default_at k l
    ≡ option_map (λ n. n + k) (default_of (tree.more (plain (tree.case (view_optional test)
    (view_statements (out-Case x).body))) (plain_forest (view_cases (drop (k + 1) l)))))
default_seen k l x test is tests =
    ap (λ m. option_map (λ n. n + k) (default_of (plain_forest (view_cases m)))) (dropped_next l k x is)
    ∙ ap (λ t. option_map (λ n. n + k) (default_of (tree.more (plain t) (plain_forest (view_cases (drop (k + 1) l))))))
    (case_with x test tests)

moved : (k : ℕ) (d : Option ℕ) → option_map (λ n. n + k) (option_map suc d) ≡ option_map (λ n. n + (k + 1)) d
moved k None = refl
moved k (Some n) = ap Some (let same : suc n + k ≡ n + (k + 1) = omega arith in same)

pub default_here : (k : ℕ) (l : List Case) (x : Case) → slice_get l k ≡ Some x → (out-Case x).test ≡ None
    → default_at k l ≡ Some k
default_here k l x is tests = default_seen k l x None is tests ∙ ap Some (let same : 0 + k ≡ k = omega arith in same)

pub default_after : (k : ℕ) (l : List Case) (x : Case) (e : Expr) → slice_get l k ≡ Some x
    → (out-Case x).test ≡ Some e → default_at k l ≡ default_at (k + 1) l
default_after k l x e is tests =
    default_seen k l x (Some e) is tests ∙ moved k (default_of (plain_forest (view_cases (drop (k + 1) l))))

pub default_missing : (k : ℕ) (l : List Case) → slice_get l k ≡ None → default_at k l ≡ None
default_missing k l is =
    ap (λ m. option_map (λ n. n + k) (default_of (plain_forest (view_cases m)))) (dropped_none l k is)

pub default_first : (l : List Case) → default_of (plain_forest (view_cases l)) ≡ default_at 0 l
default_first l = unmoved (default_of (plain_forest (view_cases l)))
  where
    unmoved : (d : Option ℕ) → d ≡ option_map (λ n. n + 0) d
    unmoved None = refl
    unmoved (Some n) = ap Some (let same : n ≡ n + 0 = omega arith in same)

-- the cases are tested from an index on

module _ (s : State) (here : Here) (v : Value) (from : ℕ) (l : List Case) (next : Option (ℕ × Bor Expr)) (t : State)
    (a : Act)
  where
    pub selects_default : (d : Option ℕ) → IsNextTest l from next → next ≡ None
        → d ≡ default_of (plain_forest (view_cases l))
        → RefinesStatement s (run_from (table_of s.functions) (context_of s.calls here) d l) t a
        → RefinesStatement s (select_and_run (table_of s.functions) (context_of s.calls here) v from l) t a
    selects_default d is none default refines =
        let table = table_of s.functions in
        let c = context_of s.calls here in
        subst (λ p. RefinesStatement s (and_then p (on_given (run_selected table c l))) t a)
        (sym (is.same table c v ∙ ap (selected_at table c v l) none))
        (subst (λ o. RefinesStatement s (run_from table c o l) t a) default refines)

    pub selects_tested : (k : ℕ) (e : Bor Expr) → IsNextTest l from next → next ≡ Some (k, e)
        → RefinesStatement s (and_then (evaluate (table_of s.functions) (plain (view_expression e.now))
        (context_of s.calls here)) (on_given (λ w. and_then (if strictly_equal v w then give (Some k)
        else selected_from (table_of s.functions) (context_of s.calls here) v (k + 1) l)
        (on_given (run_selected (table_of s.functions) (context_of s.calls here) l))))) t a
        → RefinesStatement s (select_and_run (table_of s.functions) (context_of s.calls here) v from l) t a
    selects_tested k e is tested refines =
        let table = table_of s.functions in
        let c = context_of s.calls here in
        subst (λ p. RefinesStatement s (and_then p (on_given (run_selected table c l))) t a)
        (sym (is.same table c v ∙ ap (selected_at table c v l) tested))
        (selects s (evaluate table (plain (view_expression e.now)) c) v k (selected_from table c v (k + 1) l)
        (run_selected table c l) t a refines)

-- the value of a case decides

module _ (s : State) (here : Here) (v w : Value) (k : ℕ) (l : Bor (List Case)) (t : State) (a : Act) where
  decided_case : (b : Bool) → b ≡ strictly_equal v w
      → RefinesStatement s (and_then (if b then give (Some k)
      else selected_from (table_of s.functions) (context_of s.calls here) v (k + 1) l.now)
      (on_given (run_selected (table_of s.functions) (context_of s.calls here) l.now))) t a
      → RefinesStatement s (statement_after (table_of s.functions) s.calls (statement.CaseTest v k l here) w) t a
  decided_case b is refines =
      subst (λ d. RefinesStatement s (and_then (if d then give (Some k)
      else selected_from (table_of s.functions) (context_of s.calls here) v (k + 1) l.now)
      (on_given (run_selected (table_of s.functions) (context_of s.calls here) l.now))) t a) is refines

  pub case_selected : true ≡ strictly_equal v w
      → RefinesStatement s (run_from (table_of s.functions) (context_of s.calls here) (Some k) l.now) t a
      → RefinesStatement s (statement_after (table_of s.functions) s.calls (statement.CaseTest v k l here) w) t a
  case_selected is refines = decided_case true is refines

  pub case_passed : false ≡ strictly_equal v w
      → RefinesStatement s (select_and_run (table_of s.functions) (context_of s.calls here) v (k + 1) l.now) t a
      → RefinesStatement s (statement_after (table_of s.functions) s.calls (statement.CaseTest v k l here) w) t a
  case_passed is refines = decided_case false is refines

  pub case_last : (d : Option ℕ) → false ≡ strictly_equal v w → length l.now ≤ k
      → d ≡ default_of (plain_forest (view_cases l.now))
      → RefinesStatement s (run_from (table_of s.functions) (context_of s.calls here) d l.now) t a
      → RefinesStatement s (statement_after (table_of s.functions) s.calls (statement.CaseTest v k l here) w) t a
  case_last d is short default refines =
      let table = table_of s.functions in
      let c = context_of s.calls here in
      case_passed is
      (subst (λ m. RefinesStatement s (and_then (select table (k + 1) (plain_forest (view_cases m)) v c)
      (on_given (run_selected table c l.now))) t a)
      (sym (dropped_beyond l.now (k + 1) (omega (arith, short))))
      (subst (λ o. RefinesStatement s (run_from table c o l.now) t a) default refines))

-- clauses one after another

pub clauses_over : (s t : State) (l : List Case) (x : Case) (rest : Remaining Case) (here : Here) (u : State) (a : Act)
    → l ≡ x ∷ items_left rest → t ≡ record s { stack = frame.Completion (completing.Clauses rest here) ∷ s.stack }
    → RefinesStatement t (execute_all (table_of t.functions) (plain_forest (view_statements (out-Case x).body))
    (context_of t.calls here)) u a
    → RefinesStatement s (execute_from (table_of s.functions) (Some 0) (plain_forest (view_cases l))
    (context_of s.calls here)) u a
clauses_over s t l x rest here u a first is refines =
    let table = table_of s.functions in
    let c = context_of s.calls here in
    subst (λ m. RefinesStatement s (execute_from table (Some 0) (plain_forest (view_cases m)) c) u a) (sym first)
    (subst (λ y. RefinesStatement s (then_do (execute_clause table (plain y) c)
    (execute_from table (Some 0) (plain_forest (view_cases (items_left rest))) c)) u a) (sym (case_is x))
    (statements_over s t (completing.Clauses rest here) (out-Case x).body here u a is refines))

pub from_over : (s t : State) (k : ℕ) (l : List Case) (here : Here) (u : State) (a : Act)
    → t ≡ record s { stack = frame.Completion completing.Switch ∷ s.stack }
    → RefinesStatement t (execute_from (table_of t.functions) (Some 0) (plain_forest (view_cases (drop k l)))
    (context_of t.calls here)) u a
    → RefinesStatement s (run_from (table_of s.functions) (context_of s.calls here) (Some k) l) u a
from_over s t k l here u a is refines =
    subst (λ p. RefinesStatement s (ends_as after_switch p) u a)
    (sym (executed_from (table_of s.functions) (context_of s.calls here) k l))
    (part_over s t completing.Switch
    (λ table calls. execute_from table (Some 0) (plain_forest (view_cases (drop k l))) (context_of calls here)) u a is
    refines)

pub from_selected : (s t : State) (selected : Option ℕ) (k : ℕ) (l : List Case) (here : Here) (u : State) (a : Act)
    → selected ≡ Some k → t ≡ record s { stack = frame.Completion completing.Switch ∷ s.stack }
    → RefinesStatement t (execute_from (table_of t.functions) (Some 0) (plain_forest (view_cases (drop k l)))
    (context_of t.calls here)) u a
    → RefinesStatement s (run_from (table_of s.functions) (context_of s.calls here) selected l) u a
from_selected s t selected k l here u a some is refines =
    subst (λ o. RefinesStatement s (run_from (table_of s.functions) (context_of s.calls here) o l) u a) (sym some)
    (from_over s t k l here u a is refines)

pub from_none : (s t : State) (selected : Option ℕ) (l : List Case) (here : Here) → selected ≡ None
    → t ≡ record s { stack = frame.Completion completing.Switch ∷ s.stack }
    → RefinesStatement s (run_from (table_of s.functions) (context_of s.calls here) selected l) t
    (act.Complete completion.Normal)
from_none s t selected l here none is =
    subst (λ o. RefinesStatement s (run_from (table_of s.functions) (context_of s.calls here) o l) t
    (act.Complete completion.Normal)) (sym none)
    (part_over s t completing.Switch (λ table calls. normal) t (act.Complete completion.Normal) is
    (record { is = λ kept told. refl }))
