use Rattle.std.proofs.Common.{◌≡◌, ◌∙◌, ◌&&◌, ◌||◌, ap, arith, rules, subst, suc, sym, true, false, length, map}
use Rattle.std.specs.Prelude.{None, option_map, Some}
use Rattle.jl_ast.specs.Tree as tree
use Rattle.jl_ast.specs.View.{view_case, view_cases, view_declarator, view_declarators, view_expression}
use Rattle.jl_ast.specs.View.{view_body, view_entry, view_expressions, view_function, view_ident}
use Rattle.jl_grammar.specs.Next.{is_colon, is_comma, is_directive, is_key}
use Rattle.jl_grammar.specs.Reader.{declaration_at, succeed, ends_at, getter_by, is_case, node, rest_at, setter_by}
use Rattle.jl_grammar.specs.Reader.{is_close_brace, is_close_paren, statement_by}
use Rattle.jl_grammar.specs.Tokens.{key_ident_at, span, terminal_at, strict_at}
use Rattle.jl_grammar.specs.declared.terminal.Terminal.TheVariants as terminals
use Rattle.jl_parse.specs.inner.Steps.{GivesStatement, append, clause_of, infix_operator_of, within}
use Rattle.jl_parse.proofs.Lists.{accessor_read, body_more, cases_push, clauses_more, declarations_more}
use Rattle.jl_parse.proofs.Lists.{declarators_push, getter_one}
use Rattle.jl_parse.proofs.Lists.{setter_one}
use Rattle.jl_parse.proofs.Turns.{arguments_more, binary_none, expressions_push}
use Rattle.jl_parse.proofs.+parser.Goals.{clauses::clauses-then-fresh, clauses::clauses-else-fresh}
use Rattle.jl_parse.proofs.+parser.Goals.{functions::body-then-strict, functions::body-else-strict}
use Rattle.jl_parse.proofs.+parser.Goals as goal

pub expressions::binary-returns-then-room-eq0 : goal.expressions::binary-returns-then-room-eq0
expressions::binary-returns-then-room-eq0 t c =
    let ts = c.args.tokens.now in
    c.parts.invariant ∙ binary_none ts (within ts c.args.depth) c.args.no_in c.parts.room c.args.loosest c.args.at
    (view_expression c.parts.operand.value) c.parts.end (infix_operator_of c.in-Some.infix_operator) c.if-room-eq0.true
    (sym c.infix_operator.ensures ∙ ap (option_map infix_operator_of) c.in-Some.is) (omega arith) (omega arith)

pub clauses::clauses-parts-preserved : goal.clauses::clauses-parts-preserved
clauses::clauses-parts-preserved t c =
    let ts = c.args.tokens.now in
    let d = within ts c.args.depth in
    let p : view_cases c.push_case.new.list
    ≡ append (view_cases c.parts.clauses) (tree.more (view_case c.in_ok-c.c) tree.end) =
    search (rules, cases_push) in
    let f : c.if-fresh.fresh ≡ (c.parts.fresh && is_case (terminal_at ts c.parts.next)) = elim c.if-fresh.branch [
      | clauses::clauses-then-fresh w ↦ search rules
      | clauses::clauses-else-fresh w ↦ search rules
    ] in
    let e : is_close_brace (terminal_at ts c.parts.next) ≡ false = search rules in
    let o : clause_of ts d c.parts.fresh c.parts.next ≡ Some (view_case c.in_ok-c.c, c.in_ok-c.end) = search rules in
    let m = clauses_more ts d (view_cases c.parts.clauses) c.parts.room c.parts.fresh c.parts.next
    (view_case c.in_ok-c.c)
    c.in_ok-c.end (search rules) e o in
    rw (p, f) (sym m ∙ c.parts.invariant)

pub functions::body-parts-preserved : goal.functions::body-parts-preserved
functions::body-parts-preserved t c =
    let ts = c.args.tokens.now in
    let d = within ts c.args.depth in
    let f : c.if-strict.strict ≡ (c.parts.strict || strict_at ts c.parts.next) = elim c.if-strict.branch [
      | functions::body-then-strict w ↦ search rules
      | functions::body-else-strict w ↦ search rules
    ] in
    let e : is_directive ts c.parts.next ≡ true = search rules in
    let o : ends_at ts (suc c.parts.next) ≡ Some c.in-Some.end = search rules in
    let m = body_more ts d c.parts.strict c.parts.room c.parts.next c.in-Some.end (search rules) e o in
    rw f (sym m ∙ c.parts.invariant)

pub functions::getter-returns : goal.functions::getter-returns
functions::getter-returns t c =
    let ts = c.args.tokens.now in
    let d = within ts c.args.depth in
    let ps = c.in_ok-params.params in
    let b = view_body c.in_ok-params.body in
    let j = c.in_ok-params.end in
    let f = view_function c.in_ok-function.function in
    let k = c.in_ok-function.end in
    let e : is_colon (terminal_at ts (suc c.args.at)) ≡ false = search rules in
    let g : is_key (terminal_at ts (suc c.args.at)) ≡ true = search rules in
    let r : rest_at ts d (suc (suc c.args.at)) ≡ Some ((map view_ident ps, b), j) = search rules in
    let n : length ps ≡ 0 = search rules in
    let m : node (d.room c.args.at) (tree.function 0 None (map view_ident ps) b (span ts c.args.at j)) j succeed
    ≡ Some (f, k) =
    search rules in
    let y : view_ident c.in_ok-key.key ≡ key_ident_at ts (suc c.args.at) = search rules in
    let v : view_entry c.getter_entry.result ≡ tree.getter (view_ident c.in_ok-key.key) f = search rules in
    accessor_read ts d (getter_by ts d) c.args.at (map view_ident ps) b j e g r
    ∙ getter_one ts d c.args.at ps b j f k n m ∙ ap (λ x. Some (x, k)) (sym (v ∙ ap (λ x. tree.getter x f) y))

pub functions::setter-returns : goal.functions::setter-returns
functions::setter-returns t c =
    let ts = c.args.tokens.now in
    let d = within ts c.args.depth in
    let ps = c.in_ok-params.params in
    let b = view_body c.in_ok-params.body in
    let j = c.in_ok-params.end in
    let f = view_function c.in_ok-function.function in
    let k = c.in_ok-function.end in
    let e : is_colon (terminal_at ts (suc c.args.at)) ≡ false = search rules in
    let g : is_key (terminal_at ts (suc c.args.at)) ≡ true = search rules in
    let r : rest_at ts d (suc (suc c.args.at)) ≡ Some ((map view_ident ps, b), j) = search rules in
    let n : length ps ≡ 1 = search rules in
    let m : node (d.room c.args.at) (tree.function 0 None (map view_ident ps) b (span ts c.args.at j)) j succeed
    ≡ Some (f, k) =
    search rules in
    let y : view_ident c.in_ok-key.key ≡ key_ident_at ts (suc c.args.at) = search rules in
    let v : view_entry c.setter_entry.result ≡ tree.setter (view_ident c.in_ok-key.key) f = search rules in
    accessor_read ts d (setter_by ts d) c.args.at (map view_ident ps) b j e g r
    ∙ setter_one ts d c.args.at ps b j f k n m ∙ ap (λ x. Some (x, k)) (sym (v ∙ ap (λ x. tree.setter x f) y))

pub primary::some_arguments-parts-preserved : goal.primary::some_arguments-parts-preserved
primary::some_arguments-parts-preserved t c =
    let ts = c.args.tokens.now in
    let d = within ts c.args.depth in
    let x = c.in_ok-e.e.value in
    let p : view_expressions c.push_argument.new.list
    ≡ append (view_expressions c.parts.arguments) (tree.more (view_expression x) tree.end) =
    search (rules, expressions_push) in
    let o : d.assignment false c.parts.next ≡ Some (view_expression x, c.in_ok-e.end) = search rules in
    let e : is_close_paren (terminal_at ts c.in_ok-e.end) ≡ false = search rules in
    let f : is_comma (terminal_at ts c.in_ok-e.end) ≡ true = search rules in
    let a : c.after-next.result ≡ suc c.in_ok-e.end = search rules in
    let m = arguments_more ts d (view_expressions c.parts.arguments) c.parts.room c.parts.next (view_expression x)
    c.in_ok-e.end (search rules) o e f in
    rw (p, a) (sym m ∙ c.parts.invariant)

pub statements::declarators-parts-preserved : goal.statements::declarators-parts-preserved
statements::declarators-parts-preserved t c =
    let ts = c.args.tokens.now in
    let d = within ts c.args.depth in
    let x = c.in_ok-d.d in
    let p : view_declarators c.push_declarator.new.list
    ≡ append (view_declarators c.parts.declarators) (tree.more (view_declarator x) tree.end) =
    search (rules, declarators_push) in
    let o : declaration_at ts d c.args.no_in c.parts.next ≡ Some (view_declarator x, c.in_ok-d.end) = search rules in
    let f : is_comma (terminal_at ts c.in_ok-d.end) ≡ true = search rules in
    let a : c.after-next.result ≡ suc c.in_ok-d.end = search rules in
    let m = declarations_more ts d c.args.no_in (view_declarators c.parts.declarators) c.parts.room c.parts.next
    (view_declarator x) c.in_ok-d.end (search rules) o f in
    rw (p, a) (sym m ∙ c.parts.invariant)

pub statements::word_statement-returns-in-Debugger : goal.statements::word_statement-returns-in-Debugger
statements::word_statement-returns-in-Debugger t c =
    let ts = c.args.tokens.now in
    let d = within ts c.args.depth in
    subst (λ w. GivesStatement c.debugger_statement.result (statement_by ts d c.args.at (terminals.Word w)))
    (sym c.in-Debugger.is) (c.debugger_statement.ensures d)
