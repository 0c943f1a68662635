-- The case that a `switch` selects, by the next one that has a test (12.11).
use Rattle.std.specs.Borrow.{Bor}
use Rattle.std.specs.Option.{option_or}
use Rattle.std.specs.Prelude.{drop, ◌+◌, ◌≡◌, List, None, Option, Some, ℕ}
use Rattle.jl_ast.specs.View.{view_cases, view_expression}
use Rattle.jl_ast.specs.declared.tree.Case.{Case}
use Rattle.jl_ast.specs.declared.tree.Expr.{Expr}
use Rattle.jl_value.specs.declared.ending.Completion.{Completion}
use Rattle.jl_value.specs.declared.value.Value.{Value}
use Rattle.jl_meaning.specs.Completions.{ends_as}
use Rattle.jl_meaning.specs.Completions as completions
use Rattle.jl_meaning.specs.Expressions.{evaluate}
use Rattle.jl_meaning.specs.FunctionObjects.{FunctionTable}
use Rattle.jl_meaning.specs.Parts.{give, Answer, Context, Part}
use Rattle.jl_meaning.specs.Statements.{execute_from, select}
use Rattle.jl_meaning.specs.forms.Switch.{after_switch, default_of, gives_value, select_first}
use Rattle.jl_state.specs.Trees.{plain, plain_forest}

-- what is selected of the cases from an index on
abbrev pub selected_from : FunctionTable → Context → Value → ℕ → List Case → Part (Answer (Option ℕ))
selected_from table c v k l = select table k (plain_forest (view_cases (drop k l))) v c

-- the same, where this is the next case that has a test
abbrev pub selected_at : FunctionTable → Context → Value → List Case → Option (ℕ × Bor Expr)
    → Part (Answer (Option ℕ))
selected_at table c v l None = give None
selected_at table c v l (Some (k, e)) =
    select_first (gives_value v (evaluate table (plain (view_expression e.now)) c)) k
    (selected_from table c v (k + 1) l)

pub record IsNextTest (l : List Case) (from : ℕ) (next : Option (ℕ × Bor Expr)) : Type 0 where
  pub same : (table : FunctionTable) (c : Context) (v : Value)
      → selected_from table c v from l ≡ selected_at table c v l next

-- the statements from the case that is selected, or else from the default
abbrev pub run_from : FunctionTable → Context → Option ℕ → List Case → Part Completion
run_from table c selected l = ends_as after_switch (execute_from table selected (plain_forest (view_cases l)) c)

abbrev pub run_selected : FunctionTable → Context → List Case → Option ℕ → Part Completion
run_selected table c l selected = run_from table c (option_or selected (default_of (plain_forest (view_cases l)))) l

abbrev pub select_and_run : FunctionTable → Context → Value → ℕ → List Case → Part Completion
select_and_run table c v k l = completions.◌>>=◌ (selected_from table c v k l) (run_selected table c l)
