use Rattle.std.proofs.Common.{◌≡◌, ℕ, ◌+◌, ◌*◌, ◌<◌, ◌++◌, List, ap, subst}
use Rattle.jl_ast.specs.Tree as tree
use Rattle.jl_state.specs.Words.{table_of}
use Rattle.jl_state.specs.declared.script_function.ScriptFunction.{ScriptFunction}
use Rattle.jl_realm.specs.declared.function_walk.Found.{Found}
use Rattle.jl_realm.specs.inner.Walk.{functions_of, functions_of_optional}
use Rattle.jl_ast.specs.View.{view_ident, view_expression, view_optional, view_statement}
use Rattle.jl_ast.specs.View.{view_statements, view_init, view_cases, view_branch, view_catch}
use Rattle.jl_ast.specs.declared.tree.StmtKind as statement
use Rattle.jl_ast.specs.declared.tree.Stmt.{size-Stmt}
use denote.Param.Weighed.{most}
use Rattle.jl_ast.proofs.Views.{statement_placed, statement_If, statement_DoWhile, statement_While}
use Rattle.jl_ast.proofs.Views.{statement_For, statement_ForIn, statement_Switch, statement_Try}
use Rattle.jl_ast.proofs.Parts.{then_part, last_part, no_last_part, branch_there, below_for}
use Rattle.jl_realm.proofs.Walks.{caught_there, caught_absent}
use Rattle.jl_realm.proofs.function_walk.+functions.Goals as goal
use Rattle.jl_realm.proofs.function_walk.+functions.Goals.{}
use Rattle.jl_realm.proofs.function_walk.+functions.Goals.{add_statement-in-Some-catch+in_ok-add_statements-in-Some-catch}
use Rattle.jl_realm.proofs.function_walk.+functions.Goals.{add_statement-in-None-catch}

abbrev found_functions : Found → List ScriptFunction
found_functions found = found.functions

pub add_statement-add_statements-requires-in-For : goal.add_statement-add_statements-requires-in-For
add_statement-add_statements-requires-in-For t c =
    let h = c.in-For in
    let k : c.args.s.now.kind ≡ statement.For h.init h.test h.step c.items-in-For.result.now =
    cc (h.is, c.items-in-For.ensures) in
    let d : 2 * size-Stmt c.args.s.now + 0 ≡ t = c.decreases in
    let P : ℕ → Type 0 = λ n. 2 * most size-Stmt c.items-in-For.result.now + 1 < n in
    (subst P d (below_for c.args.s.now h.init h.test h.step c.items-in-For.result.now k), tt)

pub add_statement-returns-in_ok-add_statements-in-DoWhile : goal.add_statement-returns-in_ok-add_statements-in-DoWhile
add_statement-returns-in_ok-add_statements-in-DoWhile t c =
    let h = c.in-DoWhile in
    let v : view_statement c.args.s.now ≡ tree.do_while (view_statements c.items-in-DoWhile.result.now)
    (view_expression h.test) c.args.s.now.span =
    cc (statement_placed c.args.s.now, statement_DoWhile h.body h.test c.args.s.now.span) in
    last_part _ _ _ _ _ _ _
    (ap (functions_of c.args.strict) v) c.in_ok-add_statements-in-DoWhile.ensures c.add_expression-in-DoWhile.ensures

pub add_statement-returns-in_ok-add_expression-in-While : goal.add_statement-returns-in_ok-add_expression-in-While
add_statement-returns-in_ok-add_expression-in-While t c =
    let h = c.in-While in
    let v : view_statement c.args.s.now ≡ tree.while (view_expression h.test)
    (view_statements c.items-in-While.result.now) c.args.s.now.span =
    cc (statement_placed c.args.s.now, statement_While h.test h.body c.args.s.now.span) in
    last_part _ _ _ _ _ _ _
    (ap (functions_of c.args.strict) v) c.in_ok-add_expression-in-While.ensures c.add_statements-in-While.ensures

pub add_statement-returns-in_ok-add_held-in-For-2 : goal.add_statement-returns-in_ok-add_held-in-For-2
add_statement-returns-in_ok-add_held-in-For-2 t c =
    let h = c.in-For in
    let v : view_statement c.args.s.now ≡ tree.for (view_init h.init) (view_optional h.test) (view_optional h.step)
    (view_statements c.items-in-For.result.now) c.args.s.now.span =
    cc (statement_placed c.args.s.now, statement_For h.init h.test h.step h.body c.args.s.now.span) in
    let m = then_part _ _ _ _ _
    (then_part _ _ _ _ _ c.in_ok-add_init-in-For.ensures c.in_ok-add_held-in-For.ensures)
    c.in_ok-add_held-in-For-2.ensures in
    last_part _ _ _ _ _ _ _ (ap (functions_of c.args.strict) v) m c.add_statements-in-For.ensures

pub add_statement-returns-in_ok-add_expression-in-ForIn : goal.add_statement-returns-in_ok-add_expression-in-ForIn
add_statement-returns-in_ok-add_expression-in-ForIn t c =
    let h = c.in-ForIn in
    let v : view_statement c.args.s.now ≡ tree.for_in h.is_var (view_ident h.name) (view_expression h.object)
    (view_statements c.items-in-ForIn.result.now) c.args.s.now.span =
    cc (statement_placed c.args.s.now, statement_ForIn h.is_var h.name h.object h.body c.args.s.now.span) in
    last_part _ _ _ _ _ _ _
    (ap (functions_of c.args.strict) v) c.in_ok-add_expression-in-ForIn.ensures c.add_statements-in-ForIn.ensures

pub add_statement-returns-in_ok-add_expression-in-Switch : goal.add_statement-returns-in_ok-add_expression-in-Switch
add_statement-returns-in_ok-add_expression-in-Switch t c =
    let h = c.in-Switch in
    let v : view_statement c.args.s.now ≡ tree.switch (view_expression h.e)
    (view_cases c.items-in-Switch.result.now) c.args.s.now.span =
    cc (statement_placed c.args.s.now, statement_Switch h.e h.cases c.args.s.now.span) in
    last_part _ _ _ _ _ _ _ (ap (functions_of c.args.strict) v) c.in_ok-add_expression-in-Switch.ensures
    c.add_cases.ensures

pub add_statement-returns-in-Some : goal.add_statement-returns-in-Some
add_statement-returns-in-Some t c =
    let h = c.in-If in
    let b : view_branch h.other ≡ tree.present (tree.branch_of (view_statements c.items-in-Some.result.now)) =
    branch_there h.other c.in-Some.is c.items-in-Some.ensures in
    let v : view_statement c.args.s.now ≡ tree.if_else (view_expression h.test)
    (view_statements c.items-in-If.result.now)
    (tree.present (tree.branch_of (view_statements c.items-in-Some.result.now))) c.args.s.now.span =
    cc (b, statement_placed c.args.s.now, statement_If h.test h.body h.other c.args.s.now.span) in
    last_part _ _ _ _ _ _ _ (ap (functions_of c.args.strict) v)
    (then_part _ _ _ _ _ c.in_ok-add_expression-in-If.ensures c.in_ok-add_statements-in-If.ensures)
    c.add_statements-in-Some.ensures

pub add_statement-returns-in-None : goal.add_statement-returns-in-None
add_statement-returns-in-None t c =
    let h = c.in-If in
    let b : view_branch h.other ≡ tree.absent = ap view_branch c.in-None.is in
    let v : view_statement c.args.s.now ≡ tree.if_else (view_expression h.test)
    (view_statements c.items-in-If.result.now) tree.absent c.args.s.now.span =
    cc (b, statement_placed c.args.s.now, statement_If h.test h.body h.other c.args.s.now.span) in
    no_last_part _ _ _ _ (ap (functions_of c.args.strict) v)
    (then_part _ _ _ _ _ c.in_ok-add_expression-in-If.ensures c.in_ok-add_statements-in-If.ensures)

pub add_statement-returns-in-Some-finally : goal.add_statement-returns-in-Some-finally
add_statement-returns-in-Some-finally t c =
    let h = c.in-Try in
    let caught : table_of c.match-catch.found.functions
    ≡ table_of c.add_statements-in-Try.new.found.functions ++ functions_of_optional c.args.strict (view_catch h.catch) =
    elim c.match-catch.branch [
      | add_statement-in-Some-catch+in_ok-add_statements-in-Some-catch w ↦
          caught_there c.args.strict h.catch _ _ _ _ _ w.in-Some-catch.is w.items-in-Some-catch.ensures
          (ap found_functions w.found-is)
          w.in_ok-add_statements-in-Some-catch.ensures
      | add_statement-in-None-catch w ↦
          caught_absent c.args.strict h.catch _ _ w.in-None-catch.is (ap found_functions w.found-is)
    ] in
    let b : view_branch h.finally ≡ tree.present (tree.branch_of
    (view_statements c.items-in-Some-finally.result.now)) =
    branch_there h.finally c.in-Some-finally.is c.items-in-Some-finally.ensures in
    let v : view_statement c.args.s.now ≡ tree.try (view_statements c.items-in-Try.result.now)
    (view_catch h.catch) (tree.present (tree.branch_of
    (view_statements c.items-in-Some-finally.result.now))) c.args.s.now.span =
    cc (b, statement_placed c.args.s.now, statement_Try h.body h.catch h.finally c.args.s.now.span) in
    last_part _ _ _ _ _ _ _ (ap (functions_of c.args.strict) v)
    (then_part _ _ _ _ _ c.in_ok-add_statements-in-Try.ensures caught) c.add_statements-in-Some-finally.ensures

pub add_statement-returns-in-None-finally : goal.add_statement-returns-in-None-finally
add_statement-returns-in-None-finally t c =
    let h = c.in-Try in
    let caught : table_of c.match-catch.found.functions
    ≡ table_of c.add_statements-in-Try.new.found.functions ++ functions_of_optional c.args.strict (view_catch h.catch) =
    elim c.match-catch.branch [
      | add_statement-in-Some-catch+in_ok-add_statements-in-Some-catch w ↦
          caught_there c.args.strict h.catch _ _ _ _ _ w.in-Some-catch.is w.items-in-Some-catch.ensures
          (ap found_functions w.found-is)
          w.in_ok-add_statements-in-Some-catch.ensures
      | add_statement-in-None-catch w ↦
          caught_absent c.args.strict h.catch _ _ w.in-None-catch.is (ap found_functions w.found-is)
    ] in
    let b : view_branch h.finally ≡ tree.absent = ap view_branch c.in-None-finally.is in
    let v : view_statement c.args.s.now ≡ tree.try (view_statements c.items-in-Try.result.now)
    (view_catch h.catch) tree.absent c.args.s.now.span =
    cc (b, statement_placed c.args.s.now, statement_Try h.body h.catch h.finally c.args.s.now.span) in
    no_last_part _ _ _ _ (ap (functions_of c.args.strict) v)
    (then_part _ _ _ _ _ c.in_ok-add_statements-in-Try.ensures caught)
