use Rattle.std.proofs.Common.{rules, ◌≡◌, ◌<◌, length, get_or, arith, ap, refl}
use Rattle.jl_ast.specs.declared.tree.ExprKind.{the_lemmas}
use Rattle.jl_ast.specs.View.{view_expression, view_function, view_statement, view_target}
use Rattle.jl_ast.proofs.Views.{init_Var, statement_placed, statement_Var}
use Rattle.jl_numbering.proofs.Nodes.{boxed, listed, function_numbered, dot_numbered, index_numbered}
use Rattle.jl_numbering.proofs.Nodes.{call_numbered, new_numbered, unary_numbered}
use Rattle.jl_numbering.proofs.Nodes.{update_numbered, binary_numbered, and_numbered, or_numbered}
use Rattle.jl_numbering.proofs.Nodes.{comma_numbered, conditional_numbered, assign_numbered, labelled_numbered}
use Rattle.jl_numbering.proofs.Walk.{same_beyond, one_more, all_numbered}
use Rattle.jl_numbering.proofs.Lists.{functions, statements, declarators, cases, items, entries, expressions}
use Rattle.jl_numbering.proofs.Lists.{item_numbered, item_counted}
use Rattle.jl_ast.specs.Tree.{declarator}
use Rattle.jl_ast.specs.View.{view_ident}
use Rattle.jl_numbering.proofs.numbers.+numbering.Goals as goal

pub number_functions-loop-f-preserved : goal.number_functions-loop-f-preserved
number_functions-loop-f-preserved t c =
    let l = c.loop-f in let k : l.f-index < length l.f-items = omega arith in
    record {
      unvisited = same_beyond l.f-index c.args.functions.now l.f-items
          c.number_function-after.new.f l.invariant.unvisited;
      halfway = one_more functions _ _ _ _ _ c.f-item.result _ _ l.invariant.halfway k
          c.number_function-after.ensures.numbered c.number_function-after.ensures.counted;
    }

pub number_functions-returns-clause-numbered : goal.number_functions-returns-clause-numbered
number_functions-returns-clause-numbered t c =
    let l = c.loop-f in let k : l.f-index ≡ length l.f-items = omega arith in
    all_numbered functions _ _ _ _ _ l.invariant.halfway l.invariant.unvisited k

pub number_statements-loop-s-preserved : goal.number_statements-loop-s-preserved
number_statements-loop-s-preserved t c =
    let l = c.loop-s in let k : l.s-index < length l.s-items = omega arith in
    record {
      unvisited = same_beyond l.s-index c.args.statements.now l.s-items
          c.number_statement-after.new.s l.invariant.unvisited;
      halfway = one_more statements _ _ _ _ _ c.s-item.result _ _ l.invariant.halfway k
          c.number_statement-after.ensures.numbered c.number_statement-after.ensures.counted;
    }

pub number_statements-returns-clause-numbered : goal.number_statements-returns-clause-numbered
number_statements-returns-clause-numbered t c =
    let l = c.loop-s in let k : l.s-index ≡ length l.s-items = omega arith in
    all_numbered statements _ _ _ _ _ l.invariant.halfway l.invariant.unvisited k

pub number_cases-loop-c-preserved : goal.number_cases-loop-c-preserved
number_cases-loop-c-preserved t c =
    let l = c.loop-c in let k : l.c-index < length l.c-items = omega arith in
    record {
      unvisited = same_beyond l.c-index c.args.cases.now l.c-items c.number_case-after.new.c l.invariant.unvisited;
      halfway = one_more cases _ _ _ _ _ c.c-item.result _ _ l.invariant.halfway k
          c.number_case-after.ensures.numbered c.number_case-after.ensures.counted;
    }

pub number_cases-returns-clause-numbered : goal.number_cases-returns-clause-numbered
number_cases-returns-clause-numbered t c =
    let l = c.loop-c in let k : l.c-index ≡ length l.c-items = omega arith in
    all_numbered cases _ _ _ _ _ l.invariant.halfway l.invariant.unvisited k

pub number_entries-loop-entry-preserved : goal.number_entries-loop-entry-preserved
number_entries-loop-entry-preserved t c =
    let l = c.loop-entry in let k : l.entry-index < length l.entry-items = omega arith in
    record {
      unvisited = same_beyond l.entry-index c.args.entries.now l.entry-items
          c.number_entry-after.new.entry l.invariant.unvisited;
      halfway = one_more entries _ _ _ _ _ c.entry-item.result _ _ l.invariant.halfway k
          c.number_entry-after.ensures.numbered c.number_entry-after.ensures.counted;
    }

pub number_entries-returns-clause-numbered : goal.number_entries-returns-clause-numbered
number_entries-returns-clause-numbered t c =
    let l = c.loop-entry in let k : l.entry-index ≡ length l.entry-items = omega arith in
    all_numbered entries _ _ _ _ _ l.invariant.halfway l.invariant.unvisited k

pub number_expressions-loop-e-preserved : goal.number_expressions-loop-e-preserved
number_expressions-loop-e-preserved t c =
    let l = c.loop-e in let k : l.e-index < length l.e-items = omega arith in
    record {
      unvisited = same_beyond l.e-index c.args.expressions.now l.e-items
          c.number_expression-after.new.e l.invariant.unvisited;
      halfway = one_more expressions _ _ _ _ _ c.e-item.result _ _ l.invariant.halfway k
          c.number_expression-after.ensures.numbered c.number_expression-after.ensures.counted;
    }

pub number_expressions-returns-clause-numbered : goal.number_expressions-returns-clause-numbered
number_expressions-returns-clause-numbered t c =
    let l = c.loop-e in let k : l.e-index ≡ length l.e-items = omega arith in
    all_numbered expressions _ _ _ _ _ l.invariant.halfway l.invariant.unvisited k

pub number_items-loop-e-preserved : goal.number_items-loop-e-preserved
number_items-loop-e-preserved t c =
    let l = c.loop-e in let k : l.e-index < length l.e-items = omega arith in
    let a = get_or l.e-items l.e-index c.e-item.result in
    record {
      unvisited = same_beyond l.e-index c.args.items.now l.e-items c.number_held-after.new.e l.invariant.unvisited;
      halfway = one_more items _ _ _ _ _ c.e-item.result _ _ l.invariant.halfway k
          (item_numbered a c.number_held-after.new.e _ c.number_held-after.ensures.numbered)
          (item_counted a _ _ c.number_held-after.ensures.counted);
    }

pub number_declarators-loop-d-preserved : goal.number_declarators-loop-d-preserved
number_declarators-loop-d-preserved t c =
    let l = c.loop-d in let k : l.d-index < length l.d-items = omega arith in
    let a = get_or l.d-items l.d-index c.d-item.result in
    record {
      unvisited = same_beyond l.d-index c.args.declarators.now l.d-items
          (a.0, c.number_held-after.new.e) l.invariant.unvisited;
      halfway = one_more declarators _ _ _ _ _ c.d-item.result _ _ l.invariant.halfway k
          (ap (declarator (view_ident a.0)) c.number_held-after.ensures.numbered)
          c.number_held-after.ensures.counted;
    }

pub number_items-returns-clause-numbered : goal.number_items-returns-clause-numbered
number_items-returns-clause-numbered t c =
    let l = c.loop-e in let k : l.e-index ≡ length l.e-items = omega arith in
    all_numbered items _ _ _ _ _ l.invariant.halfway l.invariant.unvisited k

pub number_declarators-returns-clause-numbered : goal.number_declarators-returns-clause-numbered
number_declarators-returns-clause-numbered t c =
    let l = c.loop-d in let k : l.d-index ≡ length l.d-items = omega arith in
    all_numbered declarators _ _ _ _ _ l.invariant.halfway l.invariant.unvisited k

-- arms that go into a box

pub number_expression-returns-in-Function-clause-numbered :
    goal.number_expression-returns-in-Function-clause-numbered
number_expression-returns-in-Function-clause-numbered t c =
    let h = c.in-Function in
    function_numbered c.args.e.now _ h.f c.number_function.new.f
    _ _ h.is (rw h.is (search (rules, the_lemmas))) refl
    (boxed view_function h.f _ _ _ _ _ h.f-is c.deref_mut.ensures.value
    c.number_function.ensures.numbered c.number_function.ensures.counted)

pub number_expression-returns-in-Dot-clause-numbered :
    goal.number_expression-returns-in-Dot-clause-numbered
number_expression-returns-in-Dot-clause-numbered t c =
    let h = c.in-Dot in
    dot_numbered c.args.e.now _ h.o h.field-1 c.number_expression.new.e
    _ _ h.is (rw h.is (search (rules, the_lemmas))) refl
    (boxed view_expression h.o _ _ _ _ _ h.o-is c.deref_mut-in-Dot.ensures.value
    c.number_expression.ensures.numbered c.number_expression.ensures.counted)

pub number_expression-returns-in-Index-clause-numbered :
    goal.number_expression-returns-in-Index-clause-numbered
number_expression-returns-in-Index-clause-numbered t c =
    let h = c.in-Index in
    index_numbered c.args.e.now _ h.a h.b c.number_expression-after-in-Index.new.e c.number_expression-in-Index.new.e
    _ _ _ h.is (rw h.is (search (rules, the_lemmas))) refl
    (boxed view_expression h.a _ _ _ _ _ h.a-is c.deref_mut-in-Index.ensures.value
    c.number_expression-after-in-Index.ensures.numbered c.number_expression-after-in-Index.ensures.counted)
    (boxed view_expression h.b _ _ _ _ _ h.b-is c.deref_mut-in-Index-2.ensures.value
    c.number_expression-in-Index.ensures.numbered c.number_expression-in-Index.ensures.counted)

pub number_expression-returns-in-Call-clause-numbered :
    goal.number_expression-returns-in-Call-clause-numbered
number_expression-returns-in-Call-clause-numbered t c =
    let h = c.in-Call in
    call_numbered c.args.e.now _ h.f h.arguments c.number_expression-after.new.e c.number_expressions.new.expressions
    _ _ h.is (rw h.is (search (rules, the_lemmas))) refl
    (boxed view_expression h.f _ _ _ _ _ h.f-is c.deref_mut-in-Call.ensures.value
    c.number_expression-after.ensures.numbered c.number_expression-after.ensures.counted)
    (listed h.arguments _ _ _ h.arguments-is c.number_expressions.ensures.numbered)

pub number_expression-returns-in-New-clause-numbered :
    goal.number_expression-returns-in-New-clause-numbered
number_expression-returns-in-New-clause-numbered t c =
    let h = c.in-New in
    new_numbered c.args.e.now _ h.f h.arguments c.number_expression-after-in-New.new.e
    c.number_expressions-in-New.new.expressions
    _ _ h.is (rw h.is (search (rules, the_lemmas))) refl
    (boxed view_expression h.f _ _ _ _ _ h.f-is c.deref_mut-in-New.ensures.value
    c.number_expression-after-in-New.ensures.numbered c.number_expression-after-in-New.ensures.counted)
    (listed h.arguments _ _ _ h.arguments-is c.number_expressions-in-New.ensures.numbered)

pub number_expression-returns-in-Unary-clause-numbered :
    goal.number_expression-returns-in-Unary-clause-numbered
number_expression-returns-in-Unary-clause-numbered t c =
    let h = c.in-Unary in
    unary_numbered c.args.e.now _ h.field-0 h.e c.number_expression-in-Unary.new.e
    _ _ h.is (rw h.is (search (rules, the_lemmas))) refl
    (boxed view_expression h.e _ _ _ _ _ h.e-is c.deref_mut-in-Unary.ensures.value
    c.number_expression-in-Unary.ensures.numbered c.number_expression-in-Unary.ensures.counted)

pub number_expression-returns-in-Update-clause-numbered :
    goal.number_expression-returns-in-Update-clause-numbered
number_expression-returns-in-Update-clause-numbered t c =
    let h = c.in-Update in
    update_numbered c.args.e.now _ h.up h.prefix h.target c.number_target.new.t
    _ _ h.is (rw h.is (search (rules, the_lemmas))) refl
    (boxed view_target h.target _ _ _ _ _ h.target-is c.deref_mut-in-Update.ensures.value
    c.number_target.ensures.numbered c.number_target.ensures.counted)

pub number_expression-returns-in-Binary-clause-numbered :
    goal.number_expression-returns-in-Binary-clause-numbered
number_expression-returns-in-Binary-clause-numbered t c =
    let h = c.in-Binary in
    binary_numbered c.args.e.now _ h.field-0 h.a h.b c.number_expression-after-in-Binary.new.e
    c.number_expression-in-Binary.new.e
    _ _ _ h.is (rw h.is (search (rules, the_lemmas))) refl
    (boxed view_expression h.a _ _ _ _ _ h.a-is c.deref_mut-in-Binary.ensures.value
    c.number_expression-after-in-Binary.ensures.numbered c.number_expression-after-in-Binary.ensures.counted)
    (boxed view_expression h.b _ _ _ _ _ h.b-is c.deref_mut-in-Binary-2.ensures.value
    c.number_expression-in-Binary.ensures.numbered c.number_expression-in-Binary.ensures.counted)

pub number_expression-returns-in-And-clause-numbered :
    goal.number_expression-returns-in-And-clause-numbered
number_expression-returns-in-And-clause-numbered t c =
    let h = c.in-And in
    and_numbered c.args.e.now _ h.a h.b c.number_expression-after-in-And.new.e c.number_expression-in-And.new.e
    _ _ _ h.is (rw h.is (search (rules, the_lemmas))) refl
    (boxed view_expression h.a _ _ _ _ _ h.a-is c.deref_mut-in-And.ensures.value
    c.number_expression-after-in-And.ensures.numbered c.number_expression-after-in-And.ensures.counted)
    (boxed view_expression h.b _ _ _ _ _ h.b-is c.deref_mut-in-And-2.ensures.value
    c.number_expression-in-And.ensures.numbered c.number_expression-in-And.ensures.counted)

pub number_expression-returns-in-Or-clause-numbered :
    goal.number_expression-returns-in-Or-clause-numbered
number_expression-returns-in-Or-clause-numbered t c =
    let h = c.in-Or in
    or_numbered c.args.e.now _ h.a h.b c.number_expression-after-in-Or.new.e c.number_expression-in-Or.new.e
    _ _ _ h.is (rw h.is (search (rules, the_lemmas))) refl
    (boxed view_expression h.a _ _ _ _ _ h.a-is c.deref_mut-in-Or.ensures.value
    c.number_expression-after-in-Or.ensures.numbered c.number_expression-after-in-Or.ensures.counted)
    (boxed view_expression h.b _ _ _ _ _ h.b-is c.deref_mut-in-Or-2.ensures.value
    c.number_expression-in-Or.ensures.numbered c.number_expression-in-Or.ensures.counted)

pub number_expression-returns-in-Comma-clause-numbered :
    goal.number_expression-returns-in-Comma-clause-numbered
number_expression-returns-in-Comma-clause-numbered t c =
    let h = c.in-Comma in
    comma_numbered c.args.e.now _ h.a h.b c.number_expression-after-in-Comma.new.e c.number_expression-in-Comma.new.e
    _ _ _ h.is (rw h.is (search (rules, the_lemmas))) refl
    (boxed view_expression h.a _ _ _ _ _ h.a-is c.deref_mut-in-Comma.ensures.value
    c.number_expression-after-in-Comma.ensures.numbered c.number_expression-after-in-Comma.ensures.counted)
    (boxed view_expression h.b _ _ _ _ _ h.b-is c.deref_mut-in-Comma-2.ensures.value
    c.number_expression-in-Comma.ensures.numbered c.number_expression-in-Comma.ensures.counted)

pub number_expression-returns-in-Cond-clause-numbered :
    goal.number_expression-returns-in-Cond-clause-numbered
number_expression-returns-in-Cond-clause-numbered t c =
    let h = c.in-Cond in
    conditional_numbered c.args.e.now _ h.a h.b h.c c.number_expression-after-in-Cond.new.e
    c.number_expression-after-in-Cond-2.new.e c.number_expression-in-Cond.new.e
    _ _ _ _ h.is (rw h.is (search (rules, the_lemmas))) refl
    (boxed view_expression h.a _ _ _ _ _ h.a-is c.deref_mut-in-Cond.ensures.value
    c.number_expression-after-in-Cond.ensures.numbered c.number_expression-after-in-Cond.ensures.counted)
    (boxed view_expression h.b _ _ _ _ _ h.b-is c.deref_mut-in-Cond-2.ensures.value
    c.number_expression-after-in-Cond-2.ensures.numbered c.number_expression-after-in-Cond-2.ensures.counted)
    (boxed view_expression h.c _ _ _ _ _ h.c-is c.deref_mut-in-Cond-3.ensures.value
    c.number_expression-in-Cond.ensures.numbered c.number_expression-in-Cond.ensures.counted)

pub number_expression-returns-in-Assign-clause-numbered :
    goal.number_expression-returns-in-Assign-clause-numbered
number_expression-returns-in-Assign-clause-numbered t c =
    let h = c.in-Assign in
    assign_numbered c.args.e.now _ h.field-0 h.t h.e c.number_target-after.new.t c.number_expression-in-Assign.new.e
    _ _ _ h.is (rw h.is (search (rules, the_lemmas))) refl
    (boxed view_target h.t _ _ _ _ _ h.t-is c.deref_mut-in-Assign.ensures.value
    c.number_target-after.ensures.numbered c.number_target-after.ensures.counted)
    (boxed view_expression h.e _ _ _ _ _ h.e-is c.deref_mut-in-Assign-2.ensures.value
    c.number_expression-in-Assign.ensures.numbered c.number_expression-in-Assign.ensures.counted)

pub number_statement-returns-in-Labelled-clause-numbered :
    goal.number_statement-returns-in-Labelled-clause-numbered
number_statement-returns-in-Labelled-clause-numbered t c =
    let h = c.in-Labelled in
    labelled_numbered c.args.s.now _ h.field-0 h.s c.number_statement.new.s
    _ _ h.is (rw h.is (search (rules, the_lemmas))) refl
    (boxed view_statement h.s _ _ _ _ _ h.s-is c.deref_mut.ensures.value
    c.number_statement.ensures.numbered c.number_statement.ensures.counted)

pub number_init-number_declarators-requires : goal.number_init-number_declarators-requires
number_init-number_declarators-requires t c =
    let h = c.in-Var in let d = c.decreases in let f = c.requires.few in
    (rw h.declarators-is (search (rules, the_lemmas)), rw h.declarators-is (rw (h.is, init_Var) at f))

pub number_statement-number_declarators-requires : goal.number_statement-number_declarators-requires
number_statement-number_declarators-requires t c =
    let h = c.in-Var in let d = c.decreases in let f = c.requires.few in (
      rw h.declarators-is (search (rules, the_lemmas)),
      rw h.declarators-is (rw
          (statement_placed, h.is, statement_Var) at f),
    )
