use Rattle.std.proofs.Common.{◌≡◌, ℕ, ◌+◌, ◌*◌, ◌<◌, ◌++◌, refl, option_map, ap, sym, ◌∙◌, subst, arith}
use Rattle.jl_ast.specs.Tree as tree
use Rattle.jl_ast.specs.View.{view_functions, view_function, view_statements, view_statement, view_entries, view_entry}
use Rattle.jl_ast.specs.View.{view_expressions, view_expression, view_cases, view_case, view_declarators}
use Rattle.jl_ast.specs.View.{view_declarator, view_items, item, view_optional, view_init, view_branch}
use Rattle.jl_ast.specs.declared.tree.StmtKind as statement
use Rattle.jl_ast.specs.declared.tree.Stmt.{size-Stmt}
use Rattle.jl_ast.specs.declared.tree.Case.{out-Case}
use denote.Param.Weighed.{most}
use Rattle.jl_ast.proofs.Views.{statement_placed, statement_If, statement_For, case_is}
use Rattle.jl_ast.proofs.Parts.{branch_there, below_for}
use Rattle.jl_scope.specs.EarlyErrors.{early_errors, forest_early_errors, optional_early_errors, written_early_errors}
use Rattle.jl_scope.specs.Kinds.{first_from}
use Rattle.jl_scope.specs.inner.Steps.{scope_of}
use Rattle.jl_scope.proofs.Firsts.{turn, then_part, last_part, held_there, held_absent, item_is}
use Rattle.jl_scope.proofs.walk.+walk.Goals as goal
use Rattle.jl_scope.proofs.walk.+walk.Goals.{walk_items-in-Some+in_ok-walk_expression-in-Some, walk_items-in-None}
use Rattle.jl_scope.proofs.walk.+walk.Goals.{walk_declarators-in-Some+in_ok-walk_expression-in-Some}
use Rattle.jl_scope.proofs.walk.+walk.Goals.{walk_declarators-in-None}

pub walk_functions-loop-f-preserved : goal.walk_functions-loop-f-preserved
walk_functions-loop-f-preserved t c =
    turn view_functions view_function (λ a l. refl) (scope_of c.args.s.now) c.args.functions.now _ _ _ _ _
    c.f-item.is c.loop-f-test.true c.loop-f.invariant c.in_ok-walk_function.ensures

pub walk_statements-loop-statement-preserved : goal.walk_statements-loop-statement-preserved
walk_statements-loop-statement-preserved t c =
    turn view_statements view_statement (λ a l. refl) (scope_of c.args.s.now) c.args.statements.now _ _ _ _ _
    c.statement-item.is c.loop-statement-test.true c.loop-statement.invariant c.in_ok-walk_statement.ensures

pub walk_entries-loop-entry-preserved : goal.walk_entries-loop-entry-preserved
walk_entries-loop-entry-preserved t c =
    turn view_entries view_entry (λ a l. refl) (scope_of c.args.s.now) c.args.entries.now _ _ _ _ _
    c.entry-item.is c.loop-entry-test.true c.loop-entry.invariant c.in_ok-walk_entry.ensures

pub walk_expressions-loop-e-preserved : goal.walk_expressions-loop-e-preserved
walk_expressions-loop-e-preserved t c =
    turn view_expressions view_expression (λ a l. refl) (scope_of c.args.s.now) c.args.expressions.now _ _ _ _ _
    c.e-item.is c.loop-e-test.true c.loop-e.invariant c.in_ok-walk_expression.ensures

pub walk_cases-loop-c-preserved : goal.walk_cases-loop-c-preserved
walk_cases-loop-c-preserved t c =
    let s = scope_of c.args.s.now in
    let test = optional_early_errors s (view_optional (out-Case c.c-item.result).test) in
    let body = forest_early_errors s (view_statements c.items.result.now) in
    let v : view_case c.c-item.result
    ≡ tree.case (view_optional (out-Case c.c-item.result).test) (view_statements c.items.result.now) =
    cc (case_is c.c-item.result, c.items.ensures) in
    let e = then_part c.loop-c.found c.walk_held.new.found c.walk_statements.new.found test body
    c.in_ok-walk_held.ensures c.in_ok-walk_statements.ensures in
    turn view_cases view_case (λ a l. refl) s c.args.cases.now _ _ _ _ _
    c.c-item.is c.loop-c-test.true c.loop-c.invariant
    (e ∙ ap (λ x. first_from c.loop-c.found (early_errors s x)) (sym v))

pub walk_declarators-loop-d-preserved : goal.walk_declarators-loop-d-preserved
walk_declarators-loop-d-preserved t c =
    let s = scope_of c.args.s.now in
    let held : c.match-d.found
    ≡ first_from c.written_name.new.self (optional_early_errors s (view_optional c.d-item.result.1)) =
    elim c.match-d.branch [
      | walk_declarators-in-Some+in_ok-walk_expression-in-Some w ↦
          held_there s _ _ _ _ _ w.in-Some.is w.found-is w.in_ok-walk_expression-in-Some.ensures
      | walk_declarators-in-None w ↦ held_absent s _ _ _ w.in-None.is w.found-is
    ] in
    turn view_declarators view_declarator (λ a l. refl) s c.args.declarators.now _ _ _ _ _
    c.d-item.is c.loop-d-test.true c.loop-d.invariant (then_part c.loop-d.found c.written_name.new.self c.match-d.found
    (written_early_errors s c.d-item.result.0.text c.d-item.result.0.span)
    (optional_early_errors s (view_optional c.d-item.result.1)) c.written_name.ensures held)

pub walk_items-loop-e-preserved : goal.walk_items-loop-e-preserved
walk_items-loop-e-preserved t c =
    let s = scope_of c.args.s.now in
    let held : c.match-e.found ≡ first_from c.loop-e.found (optional_early_errors s (view_optional c.e-item.result)) =
    elim c.match-e.branch [
      | walk_items-in-Some+in_ok-walk_expression-in-Some w ↦
          held_there s _ _ _ _ _ w.in-Some.is w.found-is w.in_ok-walk_expression-in-Some.ensures
      | walk_items-in-None w ↦ held_absent s _ _ _ w.in-None.is w.found-is
    ] in
    turn view_items (λ e. item (option_map view_expression e)) (λ a l. refl) s c.args.items.now _ _ _ _ _
    c.e-item.is c.loop-e-test.true c.loop-e.invariant
    (held ∙ ap (first_from c.loop-e.found) (item_is s c.e-item.result))

pub walk_statement-walk_statements-requires-in-For : goal.walk_statement-walk_statements-requires-in-For
walk_statement-walk_statements-requires-in-For t c =
    let h = c.in-For in
    let k : c.args.statement.now.kind ≡ statement.For h.init h.test h.step c.items-in-For.result.now =
    cc (h.is, c.items-in-For.ensures) in
    let d : 3 * size-Stmt c.args.statement.now + 0 ≡ t = c.decreases in
    let P : ℕ → Type 0 = λ n. 3 * most size-Stmt c.items-in-For.result.now + 1 < n in
    let below = below_for c.args.statement.now h.init h.test h.step c.items-in-For.result.now k in
    (subst P d (omega (arith, below)), tt)

pub walk_statement-returns-in-Some : goal.walk_statement-returns-in-Some
walk_statement-returns-in-Some t c =
    let h = c.in-If in
    let s = scope_of c.args.s.now in
    let b : view_branch h.other ≡ tree.present (tree.branch_of (view_statements c.items-in-Some.result.now)) =
    branch_there h.other c.in-Some.is c.items-in-Some.ensures in
    let v : view_statement c.args.statement.now ≡ tree.if_else (view_expression h.test)
    (view_statements c.items-in-If.result.now)
    (tree.present (tree.branch_of (view_statements c.items-in-Some.result.now))) c.args.statement.now.span =
    cc (b, statement_placed c.args.statement.now, statement_If h.test h.body h.other c.args.statement.now.span) in
    let test = early_errors s (view_expression h.test) in
    let held = forest_early_errors s (view_statements c.items-in-If.result.now) in
    let other = forest_early_errors s (view_statements c.items-in-Some.result.now) in
    last_part c.walk_statements-in-Some.result c.args.found.now c.walk_statements-in-If.new.found
    c.walk_statements-in-Some.new.found (early_errors s (view_statement c.args.statement.now)) (test ++ held) other
    (ap (λ x. early_errors s x) v)
    (then_part c.args.found.now c.walk_expression.new.found c.walk_statements-in-If.new.found test held
    c.in_ok-walk_expression-in-If.ensures c.in_ok-walk_statements-in-If.ensures)
    c.walk_statements-in-Some.ensures

pub walk_statement-returns-in_ok-walk_held-in-For-2 : goal.walk_statement-returns-in_ok-walk_held-in-For-2
walk_statement-returns-in_ok-walk_held-in-For-2 t c =
    let h = c.in-For in
    let s = scope_of c.args.s.now in
    let v : view_statement c.args.statement.now
    ≡ tree.for (view_init h.init) (view_optional h.test) (view_optional h.step)
    (view_statements c.items-in-For.result.now) c.args.statement.now.span =
    cc (
      statement_placed c.args.statement.now,
      statement_For h.init h.test h.step h.body c.args.statement.now.span,
    ) in
    let init = early_errors s (view_init h.init) in
    let test = optional_early_errors s (view_optional h.test) in
    let step = optional_early_errors s (view_optional h.step) in
    let body = forest_early_errors (scope_of c.in_a_loop-in-For.result) (view_statements c.items-in-For.result.now) in
    let all : early_errors s (view_statement c.args.statement.now) ≡ (init ++ test ++ step) ++ body =
    ap (λ x. early_errors s x) v
    ∙ ap (λ q. (init ++ test ++ step) ++ forest_early_errors q (view_statements c.items-in-For.result.now))
    (sym c.in_a_loop-in-For.ensures) in
    let m = then_part c.args.found.now c.walk_init.new.found c.walk_held.new.found init test
    c.in_ok-walk_init-in-For.ensures c.in_ok-walk_held-in-For.ensures in
    let n = then_part c.args.found.now c.walk_held.new.found c.walk_held-in-For.new.found (init ++ test) step
    m c.in_ok-walk_held-in-For-2.ensures in
    last_part c.walk_statements-in-For.result c.args.found.now c.walk_held-in-For.new.found
    c.walk_statements-in-For.new.found (early_errors s (view_statement c.args.statement.now)) (init ++ test ++ step)
    body
    all n c.walk_statements-in-For.ensures
