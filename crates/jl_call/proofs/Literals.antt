-- Arguments after the literals that stand first.
use Rattle.std.proofs.Common.{◌≡◌, ◌∷◌, [], refl, subst, List, ℕ}
use Rattle.std.specs.Prelude.{drop, suc, zero}
use Rattle.jl_ast.specs.View.{view_expressions}
use Rattle.jl_ast.specs.declared.tree.Expr.{Expr}
use Rattle.jl_value.specs.declared.value.Value.{Value}
use Rattle.jl_meaning.specs.Expressions.{evaluate_all}
use Rattle.jl_meaning.specs.FunctionObjects.{FunctionTable}
use Rattle.jl_meaning.specs.Parts.{◌>>=◌, Answer, Context, Part}
use Rattle.jl_state.specs.Rest.{RefinesExpression}
use Rattle.jl_state.specs.Trees.{plain_forest}
use Rattle.jl_state.specs.Words.{table_of}
use Rattle.jl_state.specs.declared.act.Act.{Act}
use Rattle.jl_state.specs.declared.state.State.{State}

skipped : (table : FunctionTable) (from : ℕ) (so_far : List Value) (l : List Expr) (c : Context)
    → evaluate_all table 0 so_far (plain_forest (view_expressions (drop from l))) c
    ≡ evaluate_all table from so_far (plain_forest (view_expressions l)) c
skipped table zero so_far l c = refl
skipped table (suc n) so_far [] c = refl
skipped table (suc n) so_far (e ∷ l) c = skipped table n so_far l c

-- the literals are left out
pub skips_literals : (s : State) (from : ℕ) (so_far : List Value) (l : List Expr) (c : Context)
    (k : List Value → Part (Answer Value)) (t : State) (a : Act)
    → RefinesExpression s (evaluate_all (table_of s.functions) 0 so_far
    (plain_forest (view_expressions (drop from l))) c >>= k) t a
    → RefinesExpression s (evaluate_all (table_of s.functions) from so_far
    (plain_forest (view_expressions l)) c >>= k) t a
skips_literals s from so_far l c k t a refines =
    subst (λ (p : Part (Answer (List Value))). RefinesExpression s (p >>= k) t a)
    (skipped (table_of s.functions) from so_far l c)
    refines
