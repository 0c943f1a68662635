use Rattle.std.proofs.Common.{codes, ◌∙◌, ap, arith, refl, rules, subst, ◌+◌}
use Rattle.jl_ast.proofs.Views.{statement_For, statement_Return}
use Rattle.jl_ast.specs.Tree as tree
use Rattle.jl_ast.specs.View.{view_expression, view_ident, view_init, view_optional, view_statements}
use Rattle.jl_ast.specs.declared.tree.ExprKind.{the_lemmas}
use Rattle.jl_op.specs.Ids.{id_count}
use Rattle.jl_op.specs.declared.kind.OpKind.TheVariants as kind
use Rattle.jl_simulation.specs.HookCalls.{hook_1, write}
use Rattle.jl_weave.specs.inner.Bare.{bare_all, bare_case, bare_declarator, bare_entry, bare_expression, bare_function}
use Rattle.jl_weave.specs.inner.Bare.{bare_ident, bare_item, bare_optional, bare_statements}
use Rattle.jl_weave.specs.inner.Forms.{told_if_present}
use Rattle.jl_weave.specs.inner.Woven.{chosen_of, HasIds}
use Rattle.jl_weave.proofs.ListsSeen.{cases, declarators, entries, expressions, functions, item_id_count, item_woven}
use Rattle.jl_weave.proofs.ListsSeen.{items, statements}
use Rattle.jl_weave.proofs.OtherCallees.{callee_left, counted_left}
use Rattle.jl_weave.proofs.Parts.{placed}
use Rattle.jl_weave.proofs.StatementForms.{declarator_woven, for_woven, return_woven}
use Rattle.jl_weave.proofs.StatementViews.{one_if_there, seen}
use Rattle.jl_weave.proofs.Walk.{all_counted, all_woven, at_first, item_has_ids, one_more}
use Rattle.jl_weave.proofs.WalkedFunction.{function_walked}
use Rattle.jl_weave.proofs.+weaving.Goals as goal

pub lists::weave_expressions-loop-e-init : goal.lists::weave_expressions-loop-e-init
lists::weave_expressions-loop-e-init t c =
    at_first (chosen_of c.args.w.now) expressions (tree.end) c.args.expressions.now c.new-made.result
    c.args.ids.now.next (ap (bare_all bare_expression) c.new-made.ensures)

pub lists::weave_expressions-loop-e-preserved : goal.lists::weave_expressions-loop-e-preserved
lists::weave_expressions-loop-e-preserved t c =
    let l = c.loop-e in
    one_more (chosen_of c.args.w.now) expressions (tree.end) c.args.expressions.now l.made c.push.new.self l.e-index
    c.args.ids.now.next l.ids.next
    c.weave_expression.new.ids.next c.e-item.result c.in_ok-weave_expression.field-0 l.invariant c.loop-e-test.true
    c.e-item.is c.in_ok-push.ensures.ok
    (record { is = c.in_ok-weave_expression.ensures.woven; counted = c.in_ok-weave_expression.ensures.counted })

pub lists::weave_expressions-weave_expression-requires : goal.lists::weave_expressions-weave_expression-requires
lists::weave_expressions-weave_expression-requires t c =
    let l = c.loop-e in (
      search (rules, the_lemmas),
      item_has_ids (chosen_of c.args.w.now) expressions (tree.end) c.args.expressions.now l.made l.e-index
          c.args.ids.now.next l.ids.next
          c.e-item.result l.invariant c.loop-e-test.true c.e-item.is c.requires.few,
    )

pub lists::weave_expressions-returns-clause-woven : goal.lists::weave_expressions-returns-clause-woven
lists::weave_expressions-returns-clause-woven t c =
    let l = c.loop-e in
    all_woven (chosen_of c.args.w.now) expressions (tree.end) c.args.expressions.now l.made l.e-index
    c.args.ids.now.next l.ids.next l.invariant (omega arith)

pub lists::weave_expressions-returns-clause-counted : goal.lists::weave_expressions-returns-clause-counted
lists::weave_expressions-returns-clause-counted t c =
    let l = c.loop-e in
    all_counted (chosen_of c.args.w.now) expressions (tree.end) c.args.expressions.now l.made l.e-index
    c.args.ids.now.next l.ids.next l.invariant (omega arith)

pub lists::weave_items-loop-e-init : goal.lists::weave_items-loop-e-init
lists::weave_items-loop-e-init t c =
    at_first (chosen_of c.args.w.now) items (tree.end) c.args.items.now c.new-made.result c.args.ids.now.next
    (ap (bare_all bare_item) c.new-made.ensures)

pub lists::weave_items-loop-e-preserved : goal.lists::weave_items-loop-e-preserved
lists::weave_items-loop-e-preserved t c =
    let l = c.loop-e in
    one_more (chosen_of c.args.w.now) items (tree.end) c.args.items.now l.made c.push.new.self l.e-index
    c.args.ids.now.next l.ids.next
    c.weave_optional.new.ids.next c.e-item.result c.in_ok-weave_optional.field-0 l.invariant c.loop-e-test.true
    c.e-item.is c.in_ok-push.ensures.ok
    (item_woven (chosen_of c.args.w.now) c.e-item.result c.in_ok-weave_optional.field-0 c.loop-e.ids.next
    c.weave_optional.new.ids.next (record {
      is = c.in_ok-weave_optional.ensures.woven;
      counted = c.in_ok-weave_optional.ensures.counted;
    }))

pub lists::weave_items-weave_optional-requires : goal.lists::weave_items-weave_optional-requires
lists::weave_items-weave_optional-requires t c =
    let l = c.loop-e in (
      search (rules, the_lemmas),
      subst (λ k. HasIds l.ids.next k) (item_id_count c.e-item.result)
          (item_has_ids (chosen_of c.args.w.now) items (tree.end) c.args.items.now l.made l.e-index c.args.ids.now.next
          l.ids.next
          c.e-item.result l.invariant c.loop-e-test.true c.e-item.is c.requires.few),
    )

pub lists::weave_items-returns-clause-woven : goal.lists::weave_items-returns-clause-woven
lists::weave_items-returns-clause-woven t c =
    let l = c.loop-e in
    all_woven (chosen_of c.args.w.now) items (tree.end) c.args.items.now l.made l.e-index c.args.ids.now.next l.ids.next
    l.invariant (omega arith)

pub lists::weave_items-returns-clause-counted : goal.lists::weave_items-returns-clause-counted
lists::weave_items-returns-clause-counted t c =
    let l = c.loop-e in
    all_counted (chosen_of c.args.w.now) items (tree.end) c.args.items.now l.made l.e-index c.args.ids.now.next
    l.ids.next l.invariant (omega arith)

pub lists::weave_entries-loop-entry-init : goal.lists::weave_entries-loop-entry-init
lists::weave_entries-loop-entry-init t c =
    at_first (chosen_of c.args.w.now) entries (tree.end) c.args.entries.now c.new-made.result c.args.ids.now.next
    (ap (bare_all bare_entry) c.new-made.ensures)

pub lists::weave_entries-loop-entry-preserved : goal.lists::weave_entries-loop-entry-preserved
lists::weave_entries-loop-entry-preserved t c =
    let l = c.loop-entry in
    one_more (chosen_of c.args.w.now) entries (tree.end) c.args.entries.now l.made c.push.new.self l.entry-index
    c.args.ids.now.next l.ids.next
    c.weave_entry.new.ids.next c.entry-item.result c.in_ok-weave_entry.field-0 l.invariant c.loop-entry-test.true
    c.entry-item.is c.in_ok-push.ensures.ok
    (record { is = c.in_ok-weave_entry.ensures.woven; counted = c.in_ok-weave_entry.ensures.counted })

pub lists::weave_entries-weave_entry-requires : goal.lists::weave_entries-weave_entry-requires
lists::weave_entries-weave_entry-requires t c =
    let l = c.loop-entry in (
      search (rules, the_lemmas),
      item_has_ids (chosen_of c.args.w.now) entries (tree.end) c.args.entries.now l.made l.entry-index
          c.args.ids.now.next l.ids.next
          c.entry-item.result l.invariant c.loop-entry-test.true c.entry-item.is c.requires.few,
    )

pub lists::weave_entries-returns-clause-woven : goal.lists::weave_entries-returns-clause-woven
lists::weave_entries-returns-clause-woven t c =
    let l = c.loop-entry in
    all_woven (chosen_of c.args.w.now) entries (tree.end) c.args.entries.now l.made l.entry-index c.args.ids.now.next
    l.ids.next l.invariant (omega arith)

pub lists::weave_entries-returns-clause-counted : goal.lists::weave_entries-returns-clause-counted
lists::weave_entries-returns-clause-counted t c =
    let l = c.loop-entry in
    all_counted (chosen_of c.args.w.now) entries (tree.end) c.args.entries.now l.made l.entry-index c.args.ids.now.next
    l.ids.next l.invariant (omega arith)

pub lists::weave_functions-loop-f-init : goal.lists::weave_functions-loop-f-init
lists::weave_functions-loop-f-init t c =
    at_first (chosen_of c.args.w.now) functions (tree.end) c.args.functions.now c.new-made.result c.args.ids.now.next
    (ap (bare_all bare_function) c.new-made.ensures)

pub lists::weave_functions-loop-f-preserved : goal.lists::weave_functions-loop-f-preserved
lists::weave_functions-loop-f-preserved t c =
    let l = c.loop-f in
    one_more (chosen_of c.args.w.now) functions (tree.end) c.args.functions.now l.made c.push.new.self l.f-index
    c.args.ids.now.next l.ids.next
    c.weave_function.new.ids.next c.f-item.result c.in_ok-weave_function.field-0 l.invariant c.loop-f-test.true
    c.f-item.is c.in_ok-push.ensures.ok
    (record { is = c.in_ok-weave_function.ensures.woven; counted = c.in_ok-weave_function.ensures.counted })

pub lists::weave_functions-weave_function-requires : goal.lists::weave_functions-weave_function-requires
lists::weave_functions-weave_function-requires t c =
    let l = c.loop-f in (
      search (rules, the_lemmas),
      item_has_ids (chosen_of c.args.w.now) functions (tree.end) c.args.functions.now l.made l.f-index
          c.args.ids.now.next l.ids.next
          c.f-item.result l.invariant c.loop-f-test.true c.f-item.is c.requires.few,
    )

pub lists::weave_functions-returns-clause-woven : goal.lists::weave_functions-returns-clause-woven
lists::weave_functions-returns-clause-woven t c =
    let l = c.loop-f in
    all_woven (chosen_of c.args.w.now) functions (tree.end) c.args.functions.now l.made l.f-index c.args.ids.now.next
    l.ids.next l.invariant (omega arith)

pub lists::weave_functions-returns-clause-counted : goal.lists::weave_functions-returns-clause-counted
lists::weave_functions-returns-clause-counted t c =
    let l = c.loop-f in
    all_counted (chosen_of c.args.w.now) functions (tree.end) c.args.functions.now l.made l.f-index c.args.ids.now.next
    l.ids.next l.invariant (omega arith)

pub lists::weave_declarators-loop-d-init : goal.lists::weave_declarators-loop-d-init
lists::weave_declarators-loop-d-init t c =
    at_first (chosen_of c.args.w.now) declarators (tree.end) c.args.declarators.now c.new-made.result
    c.args.ids.now.next (ap (bare_all bare_declarator) c.new-made.ensures)

pub lists::weave_declarators-loop-d-preserved : goal.lists::weave_declarators-loop-d-preserved
lists::weave_declarators-loop-d-preserved t c =
    let l = c.loop-d in
    one_more (chosen_of c.args.w.now) declarators (tree.end) c.args.declarators.now l.made c.push.new.self l.d-index
    c.args.ids.now.next l.ids.next
    c.weave_declarator.new.ids.next c.d-item.result c.in_ok-weave_declarator.field-0 l.invariant c.loop-d-test.true
    c.d-item.is c.in_ok-push.ensures.ok
    (record { is = c.in_ok-weave_declarator.ensures.woven; counted = c.in_ok-weave_declarator.ensures.counted })

pub lists::weave_declarators-weave_declarator-requires : goal.lists::weave_declarators-weave_declarator-requires
lists::weave_declarators-weave_declarator-requires t c =
    let l = c.loop-d in (
      search (rules, the_lemmas),
      item_has_ids (chosen_of c.args.w.now) declarators (tree.end) c.args.declarators.now l.made l.d-index
          c.args.ids.now.next l.ids.next
          c.d-item.result l.invariant c.loop-d-test.true c.d-item.is c.requires.few,
    )

pub lists::weave_declarators-returns-clause-woven : goal.lists::weave_declarators-returns-clause-woven
lists::weave_declarators-returns-clause-woven t c =
    let l = c.loop-d in
    all_woven (chosen_of c.args.w.now) declarators (tree.end) c.args.declarators.now l.made l.d-index
    c.args.ids.now.next l.ids.next l.invariant (omega arith)

pub lists::weave_declarators-returns-clause-counted : goal.lists::weave_declarators-returns-clause-counted
lists::weave_declarators-returns-clause-counted t c =
    let l = c.loop-d in
    all_counted (chosen_of c.args.w.now) declarators (tree.end) c.args.declarators.now l.made l.d-index
    c.args.ids.now.next l.ids.next l.invariant (omega arith)

pub lists::weave_cases-loop-c-init : goal.lists::weave_cases-loop-c-init
lists::weave_cases-loop-c-init t c =
    at_first (chosen_of c.args.w.now) cases (tree.end) c.args.cases.now c.new-made.result c.args.ids.now.next
    (ap (bare_all bare_case) c.new-made.ensures)

pub lists::weave_cases-loop-c-preserved : goal.lists::weave_cases-loop-c-preserved
lists::weave_cases-loop-c-preserved t c =
    let l = c.loop-c in
    one_more (chosen_of c.args.w.now) cases (tree.end) c.args.cases.now l.made c.push.new.self l.c-index
    c.args.ids.now.next l.ids.next
    c.weave_case.new.ids.next c.c-item.result c.in_ok-weave_case.field-0 l.invariant c.loop-c-test.true c.c-item.is
    c.in_ok-push.ensures.ok
    (record { is = c.in_ok-weave_case.ensures.woven; counted = c.in_ok-weave_case.ensures.counted })

pub lists::weave_cases-weave_case-requires : goal.lists::weave_cases-weave_case-requires
lists::weave_cases-weave_case-requires t c =
    let l = c.loop-c in (
      search (rules, the_lemmas),
      item_has_ids (chosen_of c.args.w.now) cases (tree.end) c.args.cases.now l.made l.c-index c.args.ids.now.next
          l.ids.next
          c.c-item.result l.invariant c.loop-c-test.true c.c-item.is c.requires.few,
    )

pub lists::weave_cases-returns-clause-woven : goal.lists::weave_cases-returns-clause-woven
lists::weave_cases-returns-clause-woven t c =
    let l = c.loop-c in
    all_woven (chosen_of c.args.w.now) cases (tree.end) c.args.cases.now l.made l.c-index c.args.ids.now.next l.ids.next
    l.invariant (omega arith)

pub lists::weave_cases-returns-clause-counted : goal.lists::weave_cases-returns-clause-counted
lists::weave_cases-returns-clause-counted t c =
    let l = c.loop-c in
    all_counted (chosen_of c.args.w.now) cases (tree.end) c.args.cases.now l.made l.c-index c.args.ids.now.next
    l.ids.next l.invariant (omega arith)

pub lists::weave_statements-loop-s-init : goal.lists::weave_statements-loop-s-init
lists::weave_statements-loop-s-init t c =
    at_first (chosen_of c.args.w.now) statements (bare_statements c.args.first) c.args.statements.now c.args.first
    c.args.ids.now.next (refl)

pub lists::weave_statements-loop-s-preserved : goal.lists::weave_statements-loop-s-preserved
lists::weave_statements-loop-s-preserved t c =
    let l = c.loop-s in
    one_more (chosen_of c.args.w.now) statements (bare_statements c.args.first) c.args.statements.now l.made
    c.push.new.self l.s-index c.args.ids.now.next l.ids.next
    c.weave_statement.new.ids.next c.s-item.result c.in_ok-weave_statement.field-0 l.invariant c.loop-s-test.true
    c.s-item.is c.in_ok-push.ensures.ok
    (record { is = c.in_ok-weave_statement.ensures.woven; counted = c.in_ok-weave_statement.ensures.counted })

pub lists::weave_statements-weave_statement-requires : goal.lists::weave_statements-weave_statement-requires
lists::weave_statements-weave_statement-requires t c =
    let l = c.loop-s in (
      search (rules, the_lemmas),
      item_has_ids (chosen_of c.args.w.now) statements (bare_statements c.args.first) c.args.statements.now l.made
          l.s-index c.args.ids.now.next l.ids.next
          c.s-item.result l.invariant c.loop-s-test.true c.s-item.is c.requires.few,
    )

pub lists::weave_statements-returns-clause-woven : goal.lists::weave_statements-returns-clause-woven
lists::weave_statements-returns-clause-woven t c =
    let l = c.loop-s in
    all_woven (chosen_of c.args.w.now) statements (bare_statements c.args.first) c.args.statements.now l.made l.s-index
    c.args.ids.now.next l.ids.next l.invariant (omega arith)

pub lists::weave_statements-returns-clause-counted : goal.lists::weave_statements-returns-clause-counted
lists::weave_statements-returns-clause-counted t c =
    let l = c.loop-s in
    all_counted (chosen_of c.args.w.now) statements (bare_statements c.args.first) c.args.statements.now l.made
    l.s-index c.args.ids.now.next l.ids.next l.invariant (omega arith)

pub expressions::weave_callee-returns-in_ok-f-in_default : goal.expressions::weave_callee-returns-in_ok-f-in_default
expressions::weave_callee-returns-in_ok-f-in_default t c =
    let f = c.in_ok-f-in_default in let d = c.take-id-in_default in let p = c.weave_expression-in_default in
    record {
      woven = callee_left (chosen_of c.args.w.now) c.args.f.now f.f c.callee.result d.result d.new.self.next
          c.args.ids.now.next p.new.ids.next c.in_default.not-Dot c.in_default.not-Index d.ensures.first d.ensures.taken
          f.ensures.woven f.ensures.counted c.callee.ensures;
      counted = counted_left c.callee.result d.new.self.next c.args.ids.now.next p.new.ids.next
          (id_count (view_expression c.args.f.now)) d.ensures.taken f.ensures.counted;
    }

pub expressions::weave_function-returns-clause-woven : goal.expressions::weave_function-returns-clause-woven
expressions::weave_function-returns-clause-woven t c =
    (function_walked (chosen_of c.args.w.now) c.args.f.now c.function.result c.in_ok-name.name c.in_ok-params.params
    c.items-2.result.now c.in_ok-functions.functions c.items-3.result.now c.in_ok-first.first
    c.in_ok-statements.statements c.in_ok-statements-2.statements c.take-id.result c.take-id.new.self.next
    c.args.ids.now.next c.weave_functions.new.ids.next c.weave_statements.new.ids.next c.take-id.ensures.first
    c.take-id.ensures.taken c.in_ok-name.ensures (c.in_ok-params.ensures ∙ c.items.ensures) c.items-2.ensures
    c.items-3.ensures c.in_ok-functions.ensures.woven c.in_ok-functions.ensures.counted c.in_ok-first.ensures
    c.in_ok-statements.ensures.woven c.in_ok-statements.ensures.counted c.in_ok-statements-2.ensures
    c.function.ensures).is

pub loops::weave_for-returns-clause-woven : goal.loops::weave_for-returns-clause-woven
loops::weave_for-returns-clause-woven t c =
    let w = placed (chosen_of c.args.w.now)
    (seen c.args.s.now c.requires.is (statement_For c.args.init.now c.args.test.now c.args.step.now c.args.body.now
    c.args.s.now.span))
    (for_woven (chosen_of c.args.w.now) (view_init c.args.init.now) (view_optional c.args.test.now)
    (view_optional c.args.step.now) (view_statements c.args.body.now) c.args.s.now.span {n = c.args.ids.now.next}
    (c.take_one_if-id.ensures.taken
    ∙ ap (λ k. c.args.ids.now.next + k) (one_if_there c.args.test.now c.is_some.ensures))
    (record { is = c.in_ok-init.ensures.woven; counted = c.in_ok-init.ensures.counted })
    (record { is = c.in_ok-test.ensures.woven; counted = c.in_ok-test.ensures.counted })
    (c.in_ok-test-2.ensures
    ∙ ap (λ i. told_if_present (chosen_of c.args.w.now) kind.Conditional (hook_1 (codes "C") i)
    (bare_optional c.in_ok-test.test)) c.take_one_if-id.ensures.first)
    (record { is = c.in_ok-step.ensures.woven; counted = c.in_ok-step.ensures.counted })
    (record { is = c.in_ok-body.ensures.woven; counted = c.in_ok-body.ensures.counted }) c.for_loop.ensures) in
    w.is

pub statements::weave_return-returns-clause-woven : goal.statements::weave_return-returns-clause-woven
statements::weave_return-returns-clause-woven t c =
    let w = placed (chosen_of c.args.w.now)
    (seen c.args.s.now c.requires.is (statement_Return c.args.e.now c.args.s.now.span))
    (return_woven (chosen_of c.args.w.now) (view_optional c.args.e.now) c.args.s.now.span {n = c.args.ids.now.next}
    (c.take_one_if-id.ensures.taken ∙ ap (λ k. c.args.ids.now.next + k) (one_if_there c.args.e.now c.is_some.ensures))
    (record { is = c.in_ok-e.ensures.woven; counted = c.in_ok-e.ensures.counted })
    (c.in_ok-e-2.ensures
    ∙ ap (λ i. told_if_present (chosen_of c.args.w.now) kind.Return (hook_1 (codes "V") i) (bare_optional c.in_ok-e.e))
    c.take_one_if-id.ensures.first)
    c.return_statement.ensures) in
    w.is

pub statements::weave_declarator-returns-clause-woven : goal.statements::weave_declarator-returns-clause-woven
statements::weave_declarator-returns-clause-woven t c =
    let w = declarator_woven (chosen_of c.args.w.now) (view_ident c.args.d.now.0) (view_optional c.args.d.now.1)
    {n = c.args.ids.now.next}
    (c.take_one_if-id.ensures.taken ∙ ap (λ k. c.args.ids.now.next + k) (one_if_there c.args.d.now.1 c.is_some.ensures))
    (record { is = c.in_ok-e.ensures.woven; counted = c.in_ok-e.ensures.counted })
    (c.in_ok-e-2.ensures
    ∙ ap (λ i. told_if_present (chosen_of c.args.w.now) kind.Write (write i c.args.d.now.0.text)
    (bare_optional c.in_ok-e.e)) c.take_one_if-id.ensures.first)
    (ap (λ x. tree.declarator (bare_ident x) (bare_optional c.in_ok-e-2.e)) c.in_ok-x.ensures) in
    w.is
