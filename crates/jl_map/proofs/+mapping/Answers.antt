use Rattle.std.proofs.Common.{◌≡◌, ◌∙◌, ◌++◌, ◌∷◌, [], ap, rules}
use Rattle.jl_text.specs.declared.span.Span.{Span}
use Rattle.jl_ast.specs.Spans.{place}
use Rattle.jl_ast.specs.Tree as tree
use Rattle.jl_ast.specs.View.{view_branch, view_cases, view_catch, view_expression, view_ident, view_init}
use Rattle.jl_ast.specs.View.{view_optional, view_statement, view_statement_kind, view_statements}
use Rattle.jl_ast.specs.declared.tree.ExprKind.{the_lemmas}
use Rattle.jl_ast.proofs.Views.{init_Var, statement_DoWhile, statement_For, statement_ForIn, statement_If}
use Rattle.jl_ast.proofs.Views.{statement_Switch, statement_Try, statement_Var, statement_While, statement_placed}
use Rattle.jl_op.specs.IdMap.{entries, forest_entries, optional_entries, place_of, MapEntries}
use Rattle.jl_op.specs.declared.kind.OpKind.TheVariants as kind
use Rattle.jl_map.specs.inner.Rows.{caught_entries, tested_entries}
use Rattle.jl_map.proofs.Forms.{do_while_is, for_is, initialiser_there, last_part, placed, same_rows, then_part, try_is}
use Rattle.jl_map.proofs.Forms.{value_there}
use Rattle.jl_map.proofs.+mapping.Goals as goal

pub statements::add_declarator-returns-in-Some-clause-added :
    goal.statements::add_declarator-returns-in-Some-clause-added
statements::add_declarator-returns-in-Some-clause-added t c =
    initialiser_there c.add_with.result c.args.map.now c.add_with.new.map c.args.d.now.0 c.args.d.now.1 c.in-Some.e
    c.in-Some.is c.add_with.ensures.added

pub statements::add_return-returns-in-Some-clause-added : goal.statements::add_return-returns-in-Some-clause-added
statements::add_return-returns-in-Some-clause-added t c =
    value_there c.add_with.result c.args.map.now c.add_with.new.map c.args.e.now c.in-Some.e c.args.span c.in-Some.is
    c.add_with.ensures.added

pub statements::add_init-add_declarators-requires : goal.statements::add_init-add_declarators-requires
statements::add_init-add_declarators-requires t c =
    let h = c.in-Var in let d = c.decreases in let f = c.requires.few in
    (search (rules, the_lemmas), rw (h.is, init_Var) at f)

pub statements::add_statement-add_declarators-requires : goal.statements::add_statement-add_declarators-requires
statements::add_statement-add_declarators-requires t c =
    let h = c.in-Var in let d = c.decreases in let f = c.requires.few in
    (search (rules, the_lemmas), rw (statement_placed, h.is, statement_Var) at f)

pub statements::add_statement-returns-in_ok-add_statements-in-If-clause-added :
    goal.statements::add_statement-returns-in_ok-add_statements-in-If-clause-added
statements::add_statement-returns-in_ok-add_statements-in-If-clause-added t c =
    let h = c.in-If in
    let s = c.args.s.now in
    let e = view_expression h.test in
    let l = forest_entries place_of (view_statements h.body) in
    let test : MapEntries Span = (kind.Conditional, place e) ∷ entries place_of e in
    let v : view_statement s ≡ tree.if_else e (view_statements h.body) (view_branch h.other) s.span =
    statement_placed s ∙ ap (λ k. view_statement_kind k s.span) h.is ∙ statement_If h.test h.body h.other s.span in
    placed c.add_branch.result c.args.map.now c.add_branch.new.map (view_statement s)
    (tree.if_else e (view_statements h.body) (view_branch h.other) s.span) v
    (last_part c.add_branch.result c.args.map.now c.add_statements-in-If.new.map c.add_branch.new.map
    (test ++ l) (optional_entries place_of (view_branch h.other))
    (then_part c.args.map.now c.add_test.new.map c.add_statements-in-If.new.map test l
    c.in_ok-add_test-in-If.ensures.added c.in_ok-add_statements-in-If.ensures.added)
    c.add_branch.ensures.added)

pub statements::add_statement-returns-in_ok-add_statements-in-DoWhile-clause-added :
    goal.statements::add_statement-returns-in_ok-add_statements-in-DoWhile-clause-added
statements::add_statement-returns-in_ok-add_statements-in-DoWhile-clause-added t c =
    let h = c.in-DoWhile in
    let s = c.args.s.now in
    let e = view_expression h.test in
    let l = forest_entries place_of (view_statements h.body) in
    let v : view_statement s ≡ tree.do_while (view_statements h.body) e s.span =
    statement_placed s ∙ ap (λ k. view_statement_kind k s.span) h.is ∙ statement_DoWhile h.body h.test s.span in
    placed c.add_expression-in-DoWhile.result c.args.map.now c.add_expression-in-DoWhile.new.map (view_statement s)
    (tree.do_while (view_statements h.body) e s.span) v
    (same_rows c.add_expression-in-DoWhile.result c.args.map.now c.add_expression-in-DoWhile.new.map
    (((kind.Conditional, h.test.span) ∷ []) ++ l ++ entries place_of e)
    (entries place_of (tree.do_while (view_statements h.body) e s.span))
    (do_while_is h.test (view_statements h.body) s.span)
    (last_part c.add_expression-in-DoWhile.result c.args.map.now c.add_statements-in-DoWhile.new.map
    c.add_expression-in-DoWhile.new.map (((kind.Conditional, h.test.span) ∷ []) ++ l) (entries place_of e)
    (then_part c.args.map.now c.add_row.new.map c.add_statements-in-DoWhile.new.map
    ((kind.Conditional, h.test.span) ∷ []) l
    c.in_ok-add_row-in-DoWhile.ensures.added c.in_ok-add_statements-in-DoWhile.ensures.added)
    c.add_expression-in-DoWhile.ensures.added))

pub statements::add_statement-returns-in_ok-add_test-in-While-clause-added :
    goal.statements::add_statement-returns-in_ok-add_test-in-While-clause-added
statements::add_statement-returns-in_ok-add_test-in-While-clause-added t c =
    let h = c.in-While in
    let s = c.args.s.now in
    let e = view_expression h.test in
    let v : view_statement s ≡ tree.while e (view_statements h.body) s.span =
    statement_placed s ∙ ap (λ k. view_statement_kind k s.span) h.is ∙ statement_While h.test h.body s.span in
    placed c.add_statements-in-While.result c.args.map.now c.add_statements-in-While.new.map (view_statement s)
    (tree.while e (view_statements h.body) s.span) v
    (last_part c.add_statements-in-While.result c.args.map.now c.add_test-in-While.new.map
    c.add_statements-in-While.new.map ((kind.Conditional, place e) ∷ entries place_of e)
    (forest_entries place_of (view_statements h.body))
    c.in_ok-add_test-in-While.ensures.added c.add_statements-in-While.ensures.added)

pub statements::add_statement-returns-in_ok-add_optional-in-For-2-clause-added :
    goal.statements::add_statement-returns-in_ok-add_optional-in-For-2-clause-added
statements::add_statement-returns-in_ok-add_optional-in-For-2-clause-added t c =
    let h = c.in-For in
    let s = c.args.s.now in
    let tested = tested_entries (view_optional h.test) in
    let init = entries place_of (view_init h.init) in
    let test = optional_entries place_of (view_optional h.test) in
    let step = optional_entries place_of (view_optional h.step) in
    let l = forest_entries place_of (view_statements h.body) in
    let all = tree.for (view_init h.init) (view_optional h.test) (view_optional h.step) (view_statements h.body) s.span
    in
    let v : view_statement s ≡ all =
    statement_placed s ∙ ap (λ k. view_statement_kind k s.span) h.is
    ∙ statement_For h.init h.test h.step h.body s.span in
    placed c.add_statements-in-For.result c.args.map.now c.add_statements-in-For.new.map (view_statement s) all v
    (same_rows c.add_statements-in-For.result c.args.map.now c.add_statements-in-For.new.map
    (tested ++ init ++ test ++ step ++ l) (entries place_of all)
    (for_is (view_init h.init) (view_optional h.test) (view_optional h.step) (view_statements h.body) s.span)
    (last_part c.add_statements-in-For.result c.args.map.now c.add_optional-in-For.new.map
    c.add_statements-in-For.new.map (tested ++ init ++ test ++ step) l
    (then_part c.args.map.now c.add_optional.new.map c.add_optional-in-For.new.map (tested ++ init ++ test) step
    (then_part c.args.map.now c.add_init.new.map c.add_optional.new.map (tested ++ init) test
    (then_part c.args.map.now c.add_tested.new.map c.add_init.new.map tested init
    c.in_ok-add_tested-in-For.ensures.added c.in_ok-add_init-in-For.ensures.added)
    c.in_ok-add_optional-in-For.ensures.added)
    c.in_ok-add_optional-in-For-2.ensures.added)
    c.add_statements-in-For.ensures.added))

pub statements::add_statement-returns-in_ok-add_with-in-ForIn-clause-added :
    goal.statements::add_statement-returns-in_ok-add_with-in-ForIn-clause-added
statements::add_statement-returns-in_ok-add_with-in-ForIn-clause-added t c =
    let h = c.in-ForIn in
    let s = c.args.s.now in
    let o = view_expression h.object in
    let all = tree.for_in h.is_var (view_ident h.name) o (view_statements h.body) s.span in
    let v : view_statement s ≡ all =
    statement_placed s ∙ ap (λ k. view_statement_kind k s.span) h.is
    ∙ statement_ForIn h.is_var h.name h.object h.body s.span in
    placed c.add_statements-in-ForIn.result c.args.map.now c.add_statements-in-ForIn.new.map (view_statement s) all v
    (last_part c.add_statements-in-ForIn.result c.args.map.now c.add_with.new.map c.add_statements-in-ForIn.new.map
    ((kind.ForIn, s.span) ∷ entries place_of o) (forest_entries place_of (view_statements h.body))
    c.in_ok-add_with-in-ForIn.ensures.added c.add_statements-in-ForIn.ensures.added)

pub statements::add_statement-returns-in_ok-add_expression-in-Switch-clause-added :
    goal.statements::add_statement-returns-in_ok-add_expression-in-Switch-clause-added
statements::add_statement-returns-in_ok-add_expression-in-Switch-clause-added t c =
    let h = c.in-Switch in
    let s = c.args.s.now in
    let all = tree.switch (view_expression h.e) (view_cases h.cases) s.span in
    let v : view_statement s ≡ all =
    statement_placed s ∙ ap (λ k. view_statement_kind k s.span) h.is ∙ statement_Switch h.e h.cases s.span in
    placed c.add_cases.result c.args.map.now c.add_cases.new.map (view_statement s) all v
    (last_part c.add_cases.result c.args.map.now c.add_expression-in-Switch.new.map c.add_cases.new.map
    (entries place_of (view_expression h.e)) (forest_entries place_of (view_cases h.cases))
    c.in_ok-add_expression-in-Switch.ensures.added c.add_cases.ensures.added)

pub statements::add_statement-returns-in_ok-add_catch-in-Try-clause-added :
    goal.statements::add_statement-returns-in_ok-add_catch-in-Try-clause-added
statements::add_statement-returns-in_ok-add_catch-in-Try-clause-added t c =
    let h = c.in-Try in
    let s = c.args.s.now in
    let caught = caught_entries (view_catch h.catch) in
    let l = forest_entries place_of (view_statements h.body) in
    let handler = optional_entries place_of (view_catch h.catch) in
    let last = optional_entries place_of (view_branch h.finally) in
    let all = tree.try (view_statements h.body) (view_catch h.catch) (view_branch h.finally) s.span in
    let v : view_statement s ≡ all =
    statement_placed s ∙ ap (λ k. view_statement_kind k s.span) h.is
    ∙ statement_Try h.body h.catch h.finally s.span in
    placed c.add_branch-in-Try.result c.args.map.now c.add_branch-in-Try.new.map (view_statement s) all v
    (same_rows c.add_branch-in-Try.result c.args.map.now c.add_branch-in-Try.new.map
    (caught ++ l ++ handler ++ last) (entries place_of all)
    (try_is (view_statements h.body) (view_catch h.catch) (view_branch h.finally) s.span)
    (last_part c.add_branch-in-Try.result c.args.map.now c.add_catch.new.map c.add_branch-in-Try.new.map
    (caught ++ l ++ handler) last
    (then_part c.args.map.now c.add_statements-in-Try.new.map c.add_catch.new.map (caught ++ l) handler
    (then_part c.args.map.now c.add_caught.new.map c.add_statements-in-Try.new.map caught l
    c.in_ok-add_caught-in-Try.ensures.added c.in_ok-add_statements-in-Try.ensures.added)
    c.in_ok-add_catch-in-Try.ensures.added)
    c.add_branch-in-Try.ensures.added))
