-- What is in the grammar is what the reader reads, where it has levels enough.
use Rattle.std.proofs.Common.{◌≡◌, ℕ, zero, suc, pred, ◌+◌, ◌≤◌, max, Bool, true, false, not, ◌&&◌, ap, refl, ◌∙◌}
use Rattle.std.proofs.Common.{sym, List, length, Some, None, arith}
use Rattle.jl_ast.specs.Height.{height, forest_height, optional_height}
use Rattle.jl_token.specs.declared.punct.Punct.TheVariants as puncts
use Rattle.jl_grammar.specs.declared.terminal.Terminal.TheVariants as terminals
use Rattle.jl_grammar.specs.declared.word.Word.TheVariants as words
use Rattle.jl_ast.specs.Tree.{Ident, Tree, Forest, OptionalTree}
use Rattle.jl_ast.specs.Tree as tree
use Rattle.jl_text.specs.declared.span.Span.{Span}
use Rattle.jl_token.specs.declared.token.Token.{Token}
use Rattle.jl_grammar.specs.declared.terminal.Terminal.{Terminal}
use Rattle.jl_grammar.specs.Reads.{Expr, Stmt, Exprs, Stmts, Code, EndsAt, there, inserted, ReadsNames, last_name}
use Rattle.jl_grammar.specs.Reads.{more_names, ReadsParameters, no_parameters, parameters, ReadsPrimary, a_this}
use Rattle.jl_grammar.specs.Reads.{a_name, a_null, a_true, a_false, a_number, a_string, an_array, an_object}
use Rattle.jl_grammar.specs.Reads.{in_parens, a_function, a_named_function, ReadsItems, no_items, a_hole, last_item}
use Rattle.jl_grammar.specs.Reads.{more_items, ReadsEntries, no_entries, last_entry, more_entries, ReadsEntry}
use Rattle.jl_grammar.specs.Reads.{a_value, a_getter, a_setter, ReadsRest, a_rest, BeginsLeft, primary, a_dot}
use Rattle.jl_grammar.specs.Reads.{an_index, a_call, a_new, a_bare_new, ReadsLeft, whole_left, ReadsArguments}
use Rattle.jl_grammar.specs.Reads.{no_arguments, arguments, ReadsArgumentList, last_argument, more_arguments}
use Rattle.jl_grammar.specs.Reads.{ReadsPostfix, left, a_postfix, ReadsUnary, postfix, a_prefix, an_update}
use Rattle.jl_grammar.specs.Reads.{BeginsBinary, operand, tighter, an_infix_operator, ReadsBinary, whole_binary}
use Rattle.jl_grammar.specs.Reads.{ReadsConditional, operands, a_conditional, ReadsAssignment, conditional}
use Rattle.jl_grammar.specs.Reads.{an_assignment, BeginsExpression, assignment, a_comma, ReadsExpression}
use Rattle.jl_grammar.specs.Reads.{whole_expression, ReadsStatement, a_block, a_var, an_empty, an_expression}
use Rattle.jl_grammar.specs.Reads.{an_if_else, an_if, a_do_while, a_while, a_for, a_for_in, a_for_var_in}
use Rattle.jl_grammar.specs.Reads.{a_continue, a_continue_to, a_break, a_break_to, a_return, a_return_of, a_switch}
use Rattle.jl_grammar.specs.Reads.{a_label, a_throw, a_try_catch, a_try_finally, a_try_both, a_debugger, ReadsBlock}
use Rattle.jl_grammar.specs.Reads.{in_braces, ReadsStatements, no_statements, more_statements, ReadsSub, several}
use Rattle.jl_grammar.specs.Reads.{alone, ReadsHead, a_head, ReadsDeclaration, declared, initialised}
use Rattle.jl_grammar.specs.Reads.{ReadsDeclarations, last_declaration, more_declarations, no_init, an_init}
use Rattle.jl_grammar.specs.Reads.{init_vars, ReadsOptional, no_expression, one_expression, ReadsClauses, no_clauses}
use Rattle.jl_grammar.specs.Reads.{a_case, a_default, ReadsCatch, a_catch, ReadsElements, no_elements}
use Rattle.jl_grammar.specs.Reads.{a_declaration, a_statement, a_declared_function, ReadsBody, a_directive}
use Rattle.jl_grammar.specs.Reads.{no_directive}
use Rattle.jl_grammar.specs.Brackets.{open_brackets}
use Rattle.jl_grammar.specs.Next.{is_identifier, is_open_brace, is_semicolon, is_colon, is_label, bars_expression}
use Rattle.jl_grammar.specs.Operators.{infix_node, infix_precedence}
use Rattle.jl_grammar.specs.Reader.{Read, Deeper, names_from, parameters_at, statements_from, block_at}
use Rattle.jl_grammar.specs.ReaderLevels.{deeper}
use Rattle.jl_grammar.specs.Reader.{elements_from, body_from, rest_at, items_from, entry_at, entries_from}
use Rattle.jl_grammar.specs.Reader.{primary_at, arguments_from, arguments_at, left_from, left_at, postfix_at}
use Rattle.jl_grammar.specs.Reader.{unary_at, binary_from, binary_at, conditional_at, assignment_at, comma_from}
use Rattle.jl_grammar.specs.Reader.{expression_at, head_at, sub_at, declaration_at, declarations_from, express_at}
use Rattle.jl_grammar.specs.Reader.{optional_at, clauses_from, catch_at, statement_by, statement_at, is_close_paren}
use Rattle.jl_grammar.specs.Reader.{is_in}
use Rattle.jl_grammar.specs.Tokens.{terminal_at, line_at, text_at, span, ident_at}
use Rattle.jl_grammar.proofs.Balanced.{parameters_closes, entry_closes, rest_closes, begins_left_closes, ends_at_closes}
use Rattle.jl_grammar.proofs.Balanced.{left_closes, begins_binary_closes, binary_closes, assignment_closes}
use Rattle.jl_grammar.proofs.Balanced.{begins_expression_closes, expression_closes, statement_closes, block_closes}
use Rattle.jl_grammar.proofs.Balanced.{statements_closes, sub_closes, head_closes, declaration_closes}
use Rattle.jl_grammar.proofs.Balanced.{declarations_closes, optional_closes, catch_closes}
use Rattle.jl_grammar.proofs.Expressions as expressions
use Rattle.jl_grammar.proofs.Levels.{height_pos, statement_pos, joined_height, target_height, left_conditional}
use Rattle.jl_grammar.proofs.Levels.{room_is, left_expression, deeper_expression, deeper_assignment, deeper_unary}
use Rattle.jl_grammar.proofs.Levels.{deeper_binary, deeper_member, deeper_statement, deeper_rest}
use Rattle.jl_grammar.proofs.Opened.{after, after_identifier, after_key, after_infix_operator, after_assign}
use Rattle.jl_grammar.proofs.Opened.{after_prefix}
use Rattle.jl_grammar.proofs.Opened.{after_update}
use Rattle.jl_grammar.proofs.Progress.{names_goes, items_goes, entries_goes, entry_goes, rest_goes, ends_at_goes}
use Rattle.jl_grammar.proofs.Progress.{argument_list_goes, assignment_goes, expression_goes, statement_goes}
use Rattle.jl_grammar.proofs.Progress.{statements_goes, declaration_goes, declarations_goes, clauses_goes}
use Rattle.jl_grammar.proofs.Progress.{elements_goes, function_goes, body_goes}
use Rattle.jl_grammar.proofs.Starts.{primary_is_not_new, update_is_no_prefix, left_is_no_prefix, left_is_no_update}
use Rattle.jl_grammar.proofs.Starts.{left_begins_expression, begins_expression, no_semicolon, no_close_paren}
use Rattle.jl_grammar.proofs.Starts.{no_close_bracket, no_comma, no_var, no_statement_end, key_is_no_colon}
use Rattle.jl_grammar.proofs.Starts.{no_label, primary_starts, left_starts, postfix_starts, assignment_starts}
use Rattle.jl_grammar.proofs.Starts.{expression_starts, argument_list_starts, names_start, entry_starts}
use Rattle.jl_grammar.proofs.Starts.{rest_starts, catch_starts, block_starts, statement_starts, no_in_follows}
use Rattle.jl_grammar.proofs.Statements as statements
use Rattle.jl_grammar.proofs.Within.{names_within, items_within, entries_within, argument_list_within}
use Rattle.jl_grammar.proofs.Within.{statements_within, declarations_within, clauses_within, elements_within}
use Rattle.jl_grammar.proofs.Within.{body_within}

-- Reading from i comes to t, with so many parts left, and goes on from there.
record Comes (f : ℕ) (t : Expr) (result : Read Expr) (from_here : ℕ → Read Expr) : Type 0 where
  parts : ℕ
  is : result ≡ from_here parts
  enough : suc f ≤ parts + height t

-- one more part
goes_on : (f : ℕ) (t u : Expr) (result : Read Expr) (a b : ℕ → Read Expr) → Comes f t result a
    → suc (height t) ≤ height u → height u ≤ suc f → ((n : ℕ) → a (suc n) ≡ b n) → Comes f u result b
goes_on f t u result a b c h g step = go c.parts c.is c.enough
  where
    go : (n : ℕ) → result ≡ a n → suc f ≤ n + height t → Comes f u result b
    go zero e m = absurd (omega arith)
    go (suc n) e m = record { parts = n; is = e ∙ step n; enough = omega arith }

names_complete : {ts : List Token} {i j : ℕ} {ps : List (Ident Span)} → ReadsNames ts i ps j → (n : ℕ) → j ≤ n + i
    → names_from ts n i ≡ Some (ps, j)
names_complete (last_name a b) zero l = absurd (omega arith)
names_complete {ts} {i} (last_name a b) (suc n) l = expressions.last_name_step ts n i a b
names_complete (more_names a b c) zero l = let g = names_goes c in absurd (omega arith)
names_complete {ts} {i} {j} (more_names {ps = ps} a b c) (suc n) l =
    expressions.more_names_step ts n i j ps a b (names_complete c n (omega arith))

parameters_complete : {ts : List Token} {i j : ℕ} {ps : List (Ident Span)} → ReadsParameters ts i ps j
    → parameters_at ts i ≡ Some (ps, j)
parameters_complete {ts} {i} (no_parameters a) = expressions.no_parameters_step ts i a
parameters_complete {ts} {i} (parameters a) =
    let w = names_within a in
    expressions.parameters_step ts i (names_start a) ∙ names_complete a (length ts) (omega arith)

ends_at_label : {ts : List Token} {i k : ℕ} → EndsAt ts i k
    → (is_identifier (terminal_at ts i) && not (line_at ts i)) ≡ false
ends_at_label {ts} {i} (there e) = ap (λ k. is_identifier k && not (line_at ts i)) e.is
ends_at_label {ts} {i} (inserted e f) = no_label (terminal_at ts i) (line_at ts i) f

-- a statement that begins neither with a label nor with what bars one is an expression
expresses : (ts : List Token) (d : Deeper) (i : ℕ) (k : Terminal) → begins_expression k ≡ true
    → bars_expression k ≡ false
    → is_identifier k ≡ false → statement_by ts d i k ≡ express_at ts d i
unfolding statement_by
expresses ts d i (terminals.Punct puncts.LeftBrace) b h e = cc
expresses ts d i (terminals.Punct puncts.Semicolon) b h e = cc
expresses ts d i (terminals.Word words.Var) b h e = cc
expresses ts d i (terminals.Word words.If) b h e = cc
expresses ts d i (terminals.Word words.Do) b h e = cc
expresses ts d i (terminals.Word words.While) b h e = cc
expresses ts d i (terminals.Word words.For) b h e = cc
expresses ts d i (terminals.Word words.Continue) b h e = cc
expresses ts d i (terminals.Word words.Break) b h e = cc
expresses ts d i (terminals.Word words.Return) b h e = cc
expresses ts d i (terminals.Word words.Switch) b h e = cc
expresses ts d i (terminals.Word words.Throw) b h e = cc
expresses ts d i (terminals.Word words.Try) b h e = cc
expresses ts d i (terminals.Word words.Debugger) b h e = cc
expresses ts d i (terminals.Word words.Function) b h e = cc
expresses ts d i terminals.Identifier b h e = cc
expresses ts d i terminals.Get b h e = cc
expresses ts d i terminals.Set b h e = cc
expresses ts d i _ b h e = refl

express_begins : (ts : List Token) (d : Deeper) (i : ℕ) (b : Bool) → is_identifier (terminal_at ts i) ≡ b
    → begins_expression (terminal_at ts i) ≡ true → bars_expression (terminal_at ts i) ≡ false → is_label ts i ≡ false
    → statement_at ts d i ≡ express_at ts d i
unfolding statement_at
express_begins ts d i true e b h l =
    let q : is_colon (terminal_at ts (suc i)) ≡ false = sym (ap (λ x. x && is_colon (terminal_at ts (suc i))) e) ∙ l in
    statements.named_expression_step ts d i (record { is = e }) q
express_begins ts d i false e b h l = expresses ts d i (terminal_at ts i) b h e

and_no : (a : Bool) (b : Bool) → b ≡ false → (a && b) ≡ false
and_no true b h = h
and_no false b h = refl

module _ (ts : List Token) (cap : ℕ) (wide : (i : ℕ) → open_brackets ts i ≤ cap) where
  -- what is low enough for its place fits there
  fit : (f i h : ℕ) → h + cap ≤ suc (f + open_brackets ts i) → h ≤ suc ((deeper ts cap f).room i)
  fit f i h m = let w = wide i in let r = room_is ts cap f i in omega arith

  mutual
    primary_complete : {i j : ℕ} {t : Expr} → ReadsPrimary ts i t j → (f : ℕ)
        → height t + cap ≤ suc (f + open_brackets ts i)
        → primary_at ts (deeper ts cap f) i ≡ Some (t, j)
    primary_complete {i} (a_this a) f m = expressions.this_step ts (deeper ts cap f) i a
    primary_complete {i} (a_name a) f m = expressions.name_step ts (deeper ts cap f) i a
    primary_complete {i} (a_null a) f m = expressions.null_step ts (deeper ts cap f) i a
    primary_complete {i} (a_true a) f m = expressions.true_step ts (deeper ts cap f) i a
    primary_complete {i} (a_false a) f m = expressions.false_step ts (deeper ts cap f) i a
    primary_complete {i} (a_number a) f m = expressions.number_step ts (deeper ts cap f) i a
    primary_complete {i} (a_string a) f m = expressions.string_step ts (deeper ts cap f) i a
    primary_complete {i} {j} (an_array {xs = xs} a b) f m =
        let p = after a in let w = items_within b in
        expressions.array_step ts (deeper ts cap f) i j xs a
        (items_complete b f (omega arith) (length ts) (omega arith)) (fit f i _ m)
    primary_complete {i} {j} (an_object {xs = xs} a b) f m =
        let p = after a in let w = entries_within b in
        expressions.object_step ts (deeper ts cap f) i j xs a
        (entries_complete b f (omega arith) (length ts) (omega arith)) (fit f i _ m)
    primary_complete {i} (in_parens {j = j} {t = t} a b c) f m =
        let p = after a in let w = wide (suc i) in let q = height_pos t in
        expressions.parens_step ts (deeper ts cap f) i j t a
        (deeper_expression ts cap f false (suc i) (Some (t, j)) (omega arith)
        (λ h z. expression_complete b h (omega arith))) c
    primary_complete {i} {j} (a_function {ps = ps} {c = c} a b) f m =
        let p = after a in let e = rest_starts b in
        expressions.function_step ts (deeper ts cap f) i j ps c a (ap is_identifier e.is)
        (rest_complete b f (omega arith)) (fit f i _ m)
    primary_complete {i} {j} (a_named_function {ps = ps} {c = x} a b c) f m =
        let p = after a in let q = after_identifier b in
        expressions.named_function_step ts (deeper ts cap f) i j ps x a b (rest_complete c f (omega arith))
        (fit f i _ m)

    items_complete : {i j : ℕ} {t : Forest Span tree.item} → ReadsItems ts i t j → (f : ℕ)
        → forest_height t + cap ≤ f + open_brackets ts i → (n : ℕ) → j ≤ n + i → items_from ts (deeper ts cap f) n i
        ≡ Some (t, j)
    items_complete {i} (no_items a) f m n l = expressions.no_items_step ts (deeper ts cap f) n i a
    items_complete (a_hole a b) f m zero l = let g = items_goes b in absurd (omega arith)
    items_complete {i} {j} (a_hole {xs = xs} a b) f m (suc n) l =
        let p = after a in
        expressions.hole_step ts (deeper ts cap f) n i j xs a (items_complete b f (omega arith) n (omega arith))
    items_complete (last_item a b) f m zero l = let g = assignment_goes a in absurd (omega arith)
    items_complete {i} (last_item {j = j} {t = t} a b) f m (suc n) l =
        let w = wide i in let p = height_pos t in let s = assignment_starts a in
        expressions.last_item_step ts (deeper ts cap f) n i j t (no_close_bracket (terminal_at ts i) s)
        (no_comma (terminal_at ts i) s) (deeper_assignment ts cap f false i (Some (t, j)) (omega arith)
        (λ h z. assignment_complete a h (omega arith))) b
    items_complete (more_items a b c) f m zero l = let g = assignment_goes a in let h = items_goes c in
        absurd (omega arith)
    items_complete {i} (more_items {j = j} {k = k} {t = t} {xs = xs} a b c) f m (suc n) l =
        let w = wide i in let p = height_pos t in let s = assignment_starts a in let g = assignment_goes a in
        let q = assignment_closes a in let u = after b in
        expressions.more_items_step ts (deeper ts cap f) n i j k t xs (no_close_bracket (terminal_at ts i) s)
        (no_comma (terminal_at ts i) s) (deeper_assignment ts cap f false i (Some (t, j)) (omega arith)
        (λ h z. assignment_complete a h (omega arith))) b (items_complete c f (omega arith) n (omega arith))

    entries_complete : {i j : ℕ} {t : Forest Span tree.entry} → ReadsEntries ts i t j → (f : ℕ)
        → forest_height t + cap ≤ f + open_brackets ts i → (n : ℕ) → j ≤ n + i → entries_from ts (deeper ts cap f) n i
        ≡ Some (t, j)
    entries_complete {i} (no_entries a) f m n l = expressions.no_entries_step ts (deeper ts cap f) n i a
    entries_complete (last_entry a b) f m zero l = let g = entry_goes a in absurd (omega arith)
    entries_complete {i} (last_entry {j = j} {t = t} a b) f m (suc n) l =
        expressions.last_entry_step ts (deeper ts cap f) n i j t (entry_starts a) (entry_complete a f (omega arith)) b
    entries_complete (more_entries a b c) f m zero l = let g = entry_goes a in let h = entries_goes c in
        absurd (omega arith)
    entries_complete {i} (more_entries {j = j} {k = k} {t = t} {xs = xs} a b c) f m (suc n) l =
        let g = entry_goes a in let q = entry_closes a in let u = after b in
        expressions.more_entries_step ts (deeper ts cap f) n i j k t xs (entry_starts a)
        (entry_complete a f (omega arith)) b (entries_complete c f (omega arith) n (omega arith))

    entry_complete : {i j : ℕ} {t : Tree Span tree.entry} → ReadsEntry ts i t j → (f : ℕ)
        → height t + cap ≤ f + open_brackets ts i → entry_at ts (deeper ts cap f) i ≡ Some (t, j)
    entry_complete {i} {j} (a_value {t = t} a b c) f m =
        let w = wide (suc (suc i)) in let p = height_pos t in let q = after_key a in let u = after b in
        expressions.value_step ts (deeper ts cap f) i j t a b
        (deeper_assignment ts cap f false (suc (suc i)) (Some (t, j)) (omega arith)
        (λ h z. assignment_complete c h (omega arith)))
    entry_complete {i} {j} (a_getter {c = x} a b c) f m =
        let p = after a in let q = after_key b in
        expressions.getter_step ts (deeper ts cap f) i j x a (key_is_no_colon (terminal_at ts (suc i)) b.is) b
        (rest_complete c f (omega arith)) (fit f i (height x + 1) (omega arith))
    entry_complete {i} {j} (a_setter {p = y} {c = x} a b c) f m =
        let p = after a in let q = after_key b in
        expressions.setter_step ts (deeper ts cap f) i j y x a (key_is_no_colon (terminal_at ts (suc i)) b.is) b
        (rest_complete c f (omega arith)) (fit f i (height x + 1) (omega arith))

    rest_complete : {i j : ℕ} {ps : List (Ident Span)} {c : Code} → ReadsRest ts i ps c j → (f : ℕ)
        → height c + cap ≤ f + open_brackets ts i → rest_at ts (deeper ts cap f) i ≡ Some ((ps, c), j)
    rest_complete {i} (a_rest {j = j} {k = k} {ps = ps} {c = x} a b c d e) f m =
        let p = after a in let q = parameters_closes b in let u = after c in let w = body_within d in
        expressions.rest_step ts (deeper ts cap f) i j k ps x a (parameters_complete b) c
        (body_complete d f (omega arith) (length ts) (omega arith)) e

    begins_left_complete : {calls : Bool} {i j : ℕ} {t : Expr} → BeginsLeft ts calls i t j → (f : ℕ)
        → height t + cap ≤ suc (f + open_brackets ts i)
        → Comes f t (left_at ts (deeper ts cap f) calls f i) (λ n. left_from ts (deeper ts cap f) calls n i t j)
    begins_left_complete {calls} {i} {j} {t} (primary a) f m =
        let p = height_pos t in
        record {
          parts = f;
          is = expressions.left_step ts (deeper ts cap f) calls f i j t
              (expressions.primary_start_step ts (deeper ts cap f) i
              (primary_is_not_new (terminal_at ts i) (primary_starts a))
              ∙ primary_complete a f m);
          enough = omega arith;
        }
    begins_left_complete {calls} {i} (a_dot {j = j} {t = t} a b c) f m =
        let w = wide i in
        goes_on f t (tree.dot t (text_at ts (suc j)) (span ts i (suc (suc j)))) _ _ _
        (begins_left_complete a f (omega arith)) (omega arith) (omega arith)
        (λ n. expressions.dot_step ts (deeper ts cap f) calls n i j t b c (fit f i _ m))
    begins_left_complete {calls} {i} (an_index {j = j} {k = k} {t = t} {u = u} a b c d) f m =
        let w = wide i in let x = wide (suc j) in let p = height_pos u in let q = begins_left_closes a in
        let y = after b in
        goes_on f t (tree.index t u (span ts i (suc k))) _ _ _ (begins_left_complete a f (omega arith)) (omega arith)
        (omega arith) (λ n. expressions.index_step ts (deeper ts cap f) calls n i j k t u b
        (deeper_expression ts cap f false (suc j) (Some (u, k)) (omega arith)
        (λ h z. expression_complete c h (omega arith))) d (fit f i _ m))
    begins_left_complete {i = i} (a_call {j = j} {k = k} {t = t} {us = us} a b c) f m =
        let w = wide i in let q = begins_left_closes a in let y = after b in
        goes_on f t (tree.call t us (span ts i k)) _ _ _ (begins_left_complete a f (omega arith)) (omega arith)
        (omega arith) (λ n. expressions.call_step ts (deeper ts cap f) n i j k t us b
        (arguments_complete c f (omega arith)) (fit f i _ m))
    begins_left_complete {calls} {i} {j} (a_new {j = k} {t = t} {us = us} a b c d) f m =
        let w = wide i in let p = height_pos t in let q = left_closes b in let x = after a in let y = after c in
        record {
          parts = f;
          is = expressions.left_step ts (deeper ts cap f) calls f i j (tree.new t us (span ts i j))
              (expressions.new_start_step ts (deeper ts cap f) i k j t us a
              (deeper_member ts cap f (suc i) (Some (t, k)) (omega arith) (λ h z. left_complete b h (omega arith))) c
              (arguments_complete d f (omega arith)) (fit f i _ m));
          enough = omega arith;
        }
    begins_left_complete {calls} {i} {j} (a_bare_new {t = t} a b c) f m =
        let w = wide i in let p = height_pos t in let x = after a in
        record {
          parts = f;
          is = expressions.left_step ts (deeper ts cap f) calls f i j
              (tree.new t tree.end (span ts i j)) (expressions.bare_new_start_step ts (deeper ts cap f) i j t a
              (deeper_member ts cap f (suc i) (Some (t, j)) (omega arith) (λ h z. left_complete b h (omega arith))) c
              (fit f i _ m));
          enough = omega arith;
        }

    left_complete : {calls : Bool} {i j : ℕ} {t : Expr} → ReadsLeft ts calls i t j → (f : ℕ)
        → height t + cap ≤ suc (f + open_brackets ts i) → left_at ts (deeper ts cap f) calls f i ≡ Some (t, j)
    left_complete {calls} {i} {j} {t} (whole_left a b) f m =
        let c = begins_left_complete a f m in
        c.is ∙ expressions.left_stop ts (deeper ts cap f) calls c.parts i j t b

    arguments_complete : {i j : ℕ} {t : Exprs} → ReadsArguments ts i t j → (f : ℕ)
        → forest_height t + cap ≤ f + open_brackets ts i → arguments_at ts (deeper ts cap f) i ≡ Some (t, j)
    arguments_complete {i} (no_arguments a) f m = expressions.no_arguments_step ts (deeper ts cap f) i a
    arguments_complete {i} (arguments a) f m =
        let w = argument_list_within a in
        expressions.arguments_step ts (deeper ts cap f) i (argument_list_starts a)
        ∙ argument_list_complete a f m (length ts) (omega arith)

    argument_list_complete : {i j : ℕ} {t : Exprs} → ReadsArgumentList ts i t j → (f : ℕ)
        → forest_height t + cap ≤ f + open_brackets ts i → (n : ℕ) → j ≤ n + i
        → arguments_from ts (deeper ts cap f) n i ≡ Some (t, j)
    argument_list_complete (last_argument a b) f m zero l = let g = assignment_goes a in absurd (omega arith)
    argument_list_complete {i} (last_argument {j = j} {t = t} a b) f m (suc n) l =
        let w = wide i in let p = height_pos t in
        expressions.last_argument_step ts (deeper ts cap f) n i j t
        (deeper_assignment ts cap f false i (Some (t, j)) (omega arith)
        (λ h z. assignment_complete a h (omega arith))) b
    argument_list_complete (more_arguments a b c) f m zero l = let g = assignment_goes a in
        let h = argument_list_goes c in absurd (omega arith)
    argument_list_complete {i} (more_arguments {j = j} {k = k} {t = t} {us = us} a b c) f m (suc n) l =
        let w = wide i in let p = height_pos t in let g = assignment_goes a in let q = assignment_closes a in
        let u = after b in
        expressions.more_arguments_step ts (deeper ts cap f) n i j k t us
        (deeper_assignment ts cap f false i (Some (t, j)) (omega arith)
        (λ h z. assignment_complete a h (omega arith))) b
        (argument_list_complete c f (omega arith) n (omega arith))

    postfix_complete : {i j : ℕ} {t : Expr} → ReadsPostfix ts i t j → (f : ℕ)
        → height t + cap ≤ suc (f + open_brackets ts i)
        → postfix_at ts (deeper ts cap f) f i ≡ Some (t, j)
    postfix_complete {i} {j} {t} (left a b) f m =
        expressions.no_postfix_step ts (deeper ts cap f) f i j t (left_complete a f m) b
    postfix_complete {i} (a_postfix {j = j} {t = t} {g = g} {up = up} a b c d) f m =
        let p = target_height t g b in
        expressions.postfix_step ts (deeper ts cap f) f i j t g up (left_complete a f (omega arith)) b c d (fit f i _ m)

    unary_complete : {i j : ℕ} {t : Expr} → ReadsUnary ts i t j → (f : ℕ)
        → height t + cap ≤ suc (f + open_brackets ts i)
        → unary_at ts (deeper ts cap f) f i ≡ Some (t, j)
    unary_complete {i} {j} {t} (postfix a) f m =
        let s = postfix_starts a in
        expressions.no_prefix_step ts (deeper ts cap f) f i j t (left_is_no_prefix (terminal_at ts i) s)
        (left_is_no_update (terminal_at ts i) s) (postfix_complete a f m)
    unary_complete {i} {j} (a_prefix {t = t} {op = op} a b) f m =
        let w = wide i in let p = height_pos t in let q = after_prefix a in
        expressions.prefix_step ts (deeper ts cap f) f i j t op a
        (deeper_unary ts cap f (suc i) (Some (t, j)) (omega arith) (λ h z. unary_complete b h (omega arith)))
        (fit f i _ m)
    unary_complete {i} {j} (an_update {t = t} {g = g} {up = up} a b c) f m =
        let p = target_height t g c in let q = after_update a in
        expressions.update_step ts (deeper ts cap f) f i j t g up (update_is_no_prefix (terminal_at ts i) up a.is) a
        (left_complete b f (omega arith)) c (fit f i _ m)

    -- from any looseness that is no less, the reader comes to what is read
    begins_binary_complete : {no_in : Bool} {l i j : ℕ} {t : Expr} → BeginsBinary ts no_in l i t j → (x f : ℕ) → l ≤ x
        → height t + cap ≤ suc (f + open_brackets ts i)
        → Comes f t (binary_at ts (deeper ts cap f) no_in f x i) (λ n. binary_from ts (deeper ts cap f) no_in n x i t j)
    begins_binary_complete {no_in} {l} {i} {j} {t} (operand a) x f b m =
        let p = height_pos t in
        record {
          parts = f;
          is = expressions.binary_step ts (deeper ts cap f) no_in f x i j t (unary_complete a f m);
          enough = omega arith;
        }
    begins_binary_complete (tighter (whole_binary a e)) x f b m = begins_binary_complete a x f (omega arith) m
    begins_binary_complete {no_in} {i = i} (an_infix_operator {l = l} {j = j} {k = k} {a = u} {b = v} {op = op} a e s c)
        x f b
        m =
        let w = wide i in let p = height_pos v in let q = after_infix_operator e in let y = begins_binary_closes a in
        let g = joined_height op u v (span ts i k) in
        goes_on f u (infix_node op u v (span ts i k)) _ _ _ (begins_binary_complete a x f b (omega arith)) (omega arith)
        (omega arith)
        (λ n. expressions.infix_operator_step ts (deeper ts cap f) no_in n x i j k u v op e (omega arith)
        (deeper_binary ts cap f no_in (pred (infix_precedence op)) (suc j) (Some (v, k)) (omega arith)
        (λ h z. ap (λ y. binary_at ts (deeper ts cap h) no_in h (pred y) (suc j)) s
        ∙ binary_complete c h (omega arith))) (fit f i _ m))

    binary_complete : {no_in : Bool} {l i j : ℕ} {t : Expr} → ReadsBinary ts no_in l i t j → (f : ℕ)
        → height t + cap ≤ suc (f + open_brackets ts i) → binary_at ts (deeper ts cap f) no_in f l i ≡ Some (t, j)
    binary_complete {no_in} {l} {i} {j} {t} (whole_binary a b) f m =
        let c = begins_binary_complete a l f (omega arith) m in
        c.is ∙ expressions.binary_stop ts (deeper ts cap f) no_in c.parts l i j t b

    conditional_complete : {no_in : Bool} {i j : ℕ} {t : Expr} → ReadsConditional ts no_in i t j → (f : ℕ)
        → height t + cap ≤ suc (f + open_brackets ts i) → conditional_at ts (deeper ts cap f) no_in f i ≡ Some (t, j)
    conditional_complete {no_in} {i} {j} {t} (operands a b) f m =
        expressions.no_question_step ts (deeper ts cap f) no_in f i j t (binary_complete a f m) b
    conditional_complete {no_in} {i} (a_conditional {j = j} {k = k} {m = o} {c = x} {a = y} {b = v} a b c d e) f m =
        let w = wide i in let py = height_pos y in let pv = height_pos v in let qa = binary_closes a in
        let qb = after b in let qc = assignment_closes c in let qd = after d in
        expressions.question_step ts (deeper ts cap f) no_in f i j k o x y v (binary_complete a f (omega arith)) b
        (deeper_assignment ts cap f false (suc j) (Some (y, k)) (omega arith)
        (λ h z. assignment_complete c h (omega arith))) d
        (deeper_assignment ts cap f no_in (suc k) (Some (v, o)) (omega arith)
        (λ h z. assignment_complete e h (omega arith))) (fit f i _ m)

    assignment_complete : {no_in : Bool} {i j : ℕ} {t : Expr} → ReadsAssignment ts no_in i t j → (f : ℕ)
        → height t + cap ≤ suc (f + open_brackets ts i) → assignment_at ts (deeper ts cap f) no_in f i ≡ Some (t, j)
    assignment_complete {no_in} {i} {j} {t} (conditional a b) f m =
        expressions.no_assign_step ts (deeper ts cap f) no_in f i j t (conditional_complete a f m) b
    assignment_complete {no_in} {i} (an_assignment {j = j} {k = k} {t = t} {v = v} {g = g} {op = op} a b c d) f m =
        let w = wide i in let p = height_pos v in let y = target_height t g b in let q = left_closes a in
        let u = after_assign c in
        expressions.assign_step ts (deeper ts cap f) no_in f i j k t v g op
        (left_conditional ts (deeper ts cap f) no_in f i j t op (left_starts a) (left_complete a f (omega arith)) c) b
        c (deeper_assignment ts cap f no_in (suc j) (Some (v, k)) (omega arith)
        (λ h z. assignment_complete d h (omega arith))) (fit f i _ m)

    begins_expression_complete : {no_in : Bool} {i j : ℕ} {t : Expr} → BeginsExpression ts no_in i t j → (f : ℕ)
        → height t + cap ≤ suc (f + open_brackets ts i)
        → Comes f t (expression_at ts (deeper ts cap f) no_in f i) (λ n. comma_from ts (deeper ts cap f) no_in n i t j)
    begins_expression_complete {no_in} {i} {j} {t} (assignment a) f m =
        let p = height_pos t in
        record {
          parts = f;
          is = expressions.expression_step ts (deeper ts cap f) no_in f i j t
              (assignment_complete a f m);
          enough = omega arith;
        }
    begins_expression_complete {no_in} {i} (a_comma {j = j} {k = k} {a = u} {b = v} a b c) f m =
        let w = wide i in let p = height_pos v in let q = begins_expression_closes a in let y = after b in
        goes_on f u (tree.comma u v (span ts i k)) _ _ _ (begins_expression_complete a f (omega arith)) (omega arith)
        (omega arith)
        (λ n. expressions.comma_step ts (deeper ts cap f) no_in n i j k u v b
        (deeper_assignment ts cap f no_in (suc j) (Some (v, k)) (omega arith)
        (λ h z. assignment_complete c h (omega arith))) (fit f i _ m))

    pub expression_complete : {no_in : Bool} {i j : ℕ} {t : Expr} → ReadsExpression ts no_in i t j → (f : ℕ)
        → height t + cap ≤ suc (f + open_brackets ts i) → expression_at ts (deeper ts cap f) no_in f i ≡ Some (t, j)
    expression_complete {no_in} {i} {j} {t} (whole_expression a b) f m =
        let c = begins_expression_complete a f m in
        c.is ∙ expressions.comma_stop ts (deeper ts cap f) no_in c.parts i j t b

    head_complete : {i j : ℕ} {t : Expr} → ReadsHead ts i t j → (f : ℕ) → height t + cap ≤ f + open_brackets ts i
        → head_at ts (deeper ts cap f) i ≡ Some (t, j)
    head_complete {i} (a_head {j = j} {t = t} a b c) f m =
        let w = wide (suc i) in let p = height_pos t in let q = after a in
        statements.head_step ts (deeper ts cap f) i j t a
        (deeper_expression ts cap f false (suc i) (Some (t, j)) (omega arith)
        (λ h z. expression_complete b h (omega arith))) c

    block_complete : {i j : ℕ} {t : Stmts} → ReadsBlock ts i t j → (f : ℕ)
        → forest_height t + cap ≤ f + open_brackets ts i
        → block_at ts (deeper ts cap f) i ≡ Some (t, j)
    block_complete {i} (in_braces {j = j} {ws = ws} a b c) f m =
        let p = after a in let w = statements_within b in
        statements.block_step ts (deeper ts cap f) i j ws a
        (statements_complete b f (omega arith) (length ts) (omega arith)) c

    statements_complete : {i j : ℕ} {t : Stmts} → ReadsStatements ts i t j → (f : ℕ)
        → forest_height t + cap ≤ f + open_brackets ts i → (n : ℕ) → j ≤ n + i
        → statements_from ts (deeper ts cap f) n i ≡ Some (t, j)
    statements_complete {i} (no_statements a) f m n l = statements.no_statements_step ts (deeper ts cap f) n i a
    statements_complete (more_statements a b) f m zero l = let g = statement_goes a in let h = statements_goes b in
        absurd (omega arith)
    statements_complete {i} (more_statements {j = j} {k = k} {w = x} {ws = ws} a b) f m (suc n) l =
        let w = wide i in let p = statement_pos x in let g = statement_goes a in let q = statement_closes a in
        let s = statement_starts a in
        statements.more_statements_step ts (deeper ts cap f) n i j k x ws s.0
        (deeper_statement ts cap f i (Some (x, j)) (omega arith) (λ h z. statement_complete a h (omega arith)))
        (statements_complete b f (omega arith) n (omega arith))

    sub_complete : {i j : ℕ} {t : Stmts} → ReadsSub ts i t j → (f : ℕ) → forest_height t + cap ≤ f + open_brackets ts i
        → sub_at ts (deeper ts cap f) i ≡ Some (t, j)
    sub_complete {i} {j} {t} (several a) f m =
        let e = block_starts a in
        statements.several_step ts (deeper ts cap f) i j t (ap is_open_brace e.is) (block_complete a f m)
    sub_complete {i} {j} (alone {w = x} a b) f m =
        let w = wide i in let p = statement_pos x in
        statements.alone_step ts (deeper ts cap f) i j x a
        (deeper_statement ts cap f i (Some (x, j)) (omega arith) (λ h z. statement_complete b h (omega arith)))

    declaration_complete : {no_in : Bool} {i j : ℕ} {t : Tree Span tree.decl} → ReadsDeclaration ts no_in i t j
        → (f : ℕ) → height t + cap ≤ f + open_brackets ts i → declaration_at ts (deeper ts cap f) no_in i ≡ Some (t, j)
    declaration_complete {no_in} {i} (declared a b) f m = statements.uninitialised_step ts (deeper ts cap f) no_in i a b
    declaration_complete {no_in} {i} {j} (initialised {t = t} a b c) f m =
        let w = wide (suc (suc i)) in let p = height_pos t in let q = after_identifier a in let u = after b in
        statements.initialised_step ts (deeper ts cap f) no_in i j t a b
        (deeper_assignment ts cap f no_in (suc (suc i)) (Some (t, j)) (omega arith)
        (λ h z. assignment_complete c h (omega arith)))

    declarations_complete : {no_in : Bool} {i j : ℕ} {t : Forest Span tree.decl} → ReadsDeclarations ts no_in i t j
        → (f : ℕ) → forest_height t + cap ≤ f + open_brackets ts i → (n : ℕ) → j ≤ n + i
        → declarations_from ts (deeper ts cap f) no_in n i ≡ Some (t, j)
    declarations_complete (last_declaration a b) f m zero l = let g = declaration_goes a in absurd (omega arith)
    declarations_complete {no_in} {i} {j} (last_declaration {d = x} a b) f m (suc n) l =
        statements.last_declaration_step ts (deeper ts cap f) no_in n i j x (declaration_complete a f (omega arith)) b
    declarations_complete (more_declarations a b c) f m zero l = let g = declaration_goes a in
        let h = declarations_goes c in absurd (omega arith)
    declarations_complete {no_in} {i} (more_declarations {j = j} {k = k} {d = x} {ds = xs} a b c) f m (suc n) l =
        let g = declaration_goes a in let q = declaration_closes a in let u = after b in
        statements.more_declarations_step ts (deeper ts cap f) no_in n i j k x xs
        (declaration_complete a f (omega arith)) b (declarations_complete c f (omega arith) n (omega arith))

    optional_complete : {k : Terminal} {i j : ℕ} {t : OptionalTree Span tree.expr} → ReadsOptional ts k i t j
        → (ends : Terminal → Bool)
        → ends k ≡ true → ((s : Terminal) → begins_expression s ≡ true → ends s ≡ false) → (f : ℕ)
        → optional_height t + cap ≤ f + open_brackets ts i → optional_at ts (deeper ts cap f) ends i ≡ Some (t, j)
    optional_complete {i = i} (no_expression a) ends e stays f m =
        statements.absent_step ts (deeper ts cap f) ends i (ap ends a.is ∙ e)
    optional_complete {i = i} {j = j} (one_expression {t = t} a) ends e stays f m =
        let w = wide i in let p = height_pos t in
        statements.present_step ts (deeper ts cap f) ends i j t (stays (terminal_at ts i) (expression_starts a))
        (deeper_expression ts cap f false i (Some (t, j)) (omega arith)
        (λ h z. expression_complete a h (omega arith)))

    clauses_complete : {fresh : Bool} {i j : ℕ} {t : Forest Span tree.clause} → ReadsClauses ts fresh i t j → (f : ℕ)
        → forest_height t + cap ≤ f + open_brackets ts i → (n : ℕ) → j ≤ n + i
        → clauses_from ts (deeper ts cap f) n fresh i ≡ Some (t, j)
    clauses_complete {fresh} {i} (no_clauses a) f m n l = statements.no_clauses_step ts (deeper ts cap f) n i fresh a
    clauses_complete (a_case a b c d e) f m zero l = let g = expression_goes b in let h = statements_goes d in
        let k = clauses_goes e in absurd (omega arith)
    clauses_complete {fresh} {i} (a_case {j = j} {k = k} {m = o} {t = t} {ws = ws} {cs = cs} a b c d e) f m
        (suc n) l =
        let w = wide (suc i) in let p = height_pos t in let ga = expression_goes b in let gd = statements_goes d in
        let qa = after a in let qb = expression_closes b in let qc = after c in let qd = statements_closes d in
        let wd = statements_within d in
        statements.case_step ts (deeper ts cap f) n i j k o fresh t ws cs a
        (deeper_expression ts cap f false (suc i) (Some (t, j)) (omega arith)
        (λ h z. expression_complete b h (omega arith))) c
        (statements_complete d f (omega arith) (length ts) (omega arith))
        (clauses_complete e f (omega arith) n (omega arith))
    clauses_complete (a_default a b c d) f m zero l = let g = statements_goes c in let h = clauses_goes d in
        absurd (omega arith)
    clauses_complete {i = i} (a_default {k = k} {m = o} {ws = ws} {cs = cs} a b c d) f m (suc n) l =
        let gd = statements_goes c in let qa = after a in let qb = after b in let qd = statements_closes c in
        let wd = statements_within c in
        statements.default_step ts (deeper ts cap f) n i k o ws cs a b
        (statements_complete c f (omega arith) (length ts) (omega arith))
        (clauses_complete d f (omega arith) n (omega arith))

    catch_complete : {i j : ℕ} {t : Tree Span tree.handler} → ReadsCatch ts i t j → (f : ℕ)
        → height t + cap ≤ f + open_brackets ts i → catch_at ts (deeper ts cap f) i ≡ Some (t, j)
    catch_complete {i} {j} (a_catch {ws = ws} a b c d e) f m =
        let p = after a in let q = after b in let u = after_identifier c in let v = after d in
        statements.catch_step ts (deeper ts cap f) i j ws b c d (block_complete e f (omega arith))

    elements_complete : {i j : ℕ} {fs : Forest Span tree.func} {ws : Stmts} → ReadsElements ts i fs ws j → (f : ℕ)
        → max (forest_height fs) (forest_height ws) + cap ≤ f + open_brackets ts i → (n : ℕ) → j ≤ n + i
        → elements_from ts (deeper ts cap f) n i ≡ Some ((fs, ws), j)
    elements_complete {i} (no_elements a) f m n l = statements.no_elements_step ts (deeper ts cap f) n i a
    elements_complete (a_declaration a b) f m zero l = let g = function_goes a in let h = elements_goes b in
        absurd (omega arith)
    elements_complete {i} (a_declaration {j = j} {k = k} {fs = fs} {ws = ws}
        (a_declared_function {ps = ps} {c = x} a b c) d) f m (suc n) l =
        let w = wide i in let g = rest_goes c in let p = after a in let q = after_identifier b in
        let u = rest_closes c in
        statements.declared_step ts (deeper ts cap f) n i j k ps x fs ws a b
        (deeper_rest ts cap f (suc (suc i)) (Some ((ps, x), j)) (omega arith)
        (λ h z. rest_complete c h (omega arith))) (elements_complete d f (omega arith) n (omega arith))
        (fit f i (height x + 1) (omega arith))
    elements_complete (a_statement a b) f m zero l = let g = statement_goes a in let h = elements_goes b in
        absurd (omega arith)
    elements_complete {i} (a_statement {j = j} {k = k} {w = x} {fs = fs} {ws = ws} a b) f m (suc n) l =
        let w = wide i in let p = statement_pos x in let g = statement_goes a in let q = statement_closes a in
        let s = statement_starts a in
        statements.element_step ts (deeper ts cap f) n i j k x fs ws s.0 s.1
        (deeper_statement ts cap f i (Some (x, j)) (omega arith) (λ h z. statement_complete a h (omega arith)))
        (elements_complete b f (omega arith) n (omega arith))

    pub body_complete : {i j : ℕ} {t : Code} → ReadsBody ts i t j → (f : ℕ) → height t + cap ≤ f + open_brackets ts i
        → (n : ℕ) → j ≤ n + i → body_from ts (deeper ts cap f) n i ≡ Some (t, j)
    body_complete (a_directive a b c d) f m zero l = let g = ends_at_goes c in let h = body_goes d in
        absurd (omega arith)
    body_complete {i} (a_directive {j = j} {k = k} {strict = strict} {fs = fs} {ws = ws} a b c d) f m (suc n) l =
        let r = after a in let g = ends_at_goes c in let q = ends_at_closes c in
        statements.directive_step ts (deeper ts cap f) n i j k strict fs ws a b c
        (body_complete d f (omega arith) n (omega arith))
    body_complete {i} {j} (no_directive {fs = fs} {ws = ws} a b) f m n l =
        let w = elements_within b in
        statements.no_directive_step ts (deeper ts cap f) n i j fs ws a
        (elements_complete b f m (length ts) (omega arith))

    statement_complete : {i j : ℕ} {t : Stmt} → ReadsStatement ts i t j → (f : ℕ)
        → height t + cap ≤ suc (f + open_brackets ts i) → statement_at ts (deeper ts cap f) i ≡ Some (t, j)
    statement_complete {i} {j} (a_block {ws = ws} a) f m =
        let e = block_starts a in
        statements.block_statement_step ts (deeper ts cap f) i j ws e (block_complete a f (omega arith)) (fit f i _ m)
    statement_complete {i} {j = k} (a_var {j = j} {ds = xs} a b c) f m =
        let p = after a in let w = declarations_within b in
        statements.var_step ts (deeper ts cap f) i j k xs a
        (declarations_complete b f (omega arith) (length ts) (omega arith)) (statements.ends_step ts j k c)
        (fit f i _ m)
    statement_complete {i} (an_empty a) f m = statements.empty_step ts (deeper ts cap f) i a
    statement_complete {i} {j = k} (an_expression {j = j} {t = t} a b c d) f m =
        let w = wide i in let p = height_pos t in
        express_begins ts (deeper ts cap f) i (is_identifier (terminal_at ts i)) refl (expression_starts c) a b
        ∙ statements.express_step ts (deeper ts cap f) i j k t
        (deeper_expression ts cap f false i (Some (t, j)) (omega arith)
        (λ h z. expression_complete c h (omega arith))) (statements.ends_step ts j k d) (fit f i _ m)
    statement_complete {i} {j = o} (an_if_else {j = j} {k = k} {t = t} {ws = ws} {us = us} a b c d e) f m =
        let pa = after a in let pb = head_closes b in let pc = sub_closes c in let pd = after d in
        statements.if_else_step ts (deeper ts cap f) i j k o t ws us a (head_complete b f (omega arith))
        (sub_complete c f (omega arith)) d (sub_complete e f (omega arith)) (fit f i _ m)
    statement_complete {i} {j = k} (an_if {j = j} {t = t} {ws = ws} a b c d) f m =
        let pa = after a in let pb = head_closes b in
        statements.if_step ts (deeper ts cap f) i j k t ws a (head_complete b f (omega arith))
        (sub_complete c f (omega arith)) d (fit f i _ m)
    statement_complete {i} {j = o} (a_do_while {j = j} {k = k} {t = t} {ws = ws} a b c d e) f m =
        let pa = after a in let pb = sub_closes b in let pc = after c in
        statements.do_step ts (deeper ts cap f) i j k o t ws a (sub_complete b f (omega arith)) c
        (head_complete d f (omega arith)) (statements.ends_step ts k o e) (fit f i _ m)
    statement_complete {i} {j = k} (a_while {j = j} {t = t} {ws = ws} a b c) f m =
        let pa = after a in let pb = head_closes b in
        statements.while_step ts (deeper ts cap f) i j k t ws a (head_complete b f (omega arith))
        (sub_complete c f (omega arith)) (fit f i _ m)
    statement_complete {i} {j = n} (a_for {k = k} {m = o} {b = y} {c = z} {ws = ws} a b (no_init c) d e g h q r) f m =
        let pa = after a in let pb = after b in let pd = after d in let pe = optional_closes e in let pg = after g in
        let ph = optional_closes h in let pq = after q in
        statements.for_nothing_step ts (deeper ts cap f) i a b c
        ∙ statements.for_from_step ts (deeper ts cap f) i (suc (suc i)) k o n tree.nothing y z ws d
        (optional_complete e is_semicolon refl no_semicolon f (omega arith)) g
        (optional_complete h is_close_paren refl no_close_paren f (omega arith)) q (sub_complete r f (omega arith))
        (fit f i _ m)
    statement_complete {i} {j = n} (a_for {j = j} {k = k} {m = o} {b = y} {c = z} {ws = ws} a b
        (an_init {t = t} c) d e g h q r) f m =
        let w = wide (suc (suc i)) in let p = height_pos t in let s = expression_starts c in
        let pa = after a in let pb = after b in let pc = expression_closes c in let pd = after d in
        let pe = optional_closes e in let pg = after g in let ph = optional_closes h in let pq = after q in
        statements.for_expression_step ts (deeper ts cap f) i j t a b (no_semicolon (terminal_at ts (suc (suc i))) s)
        (no_var (terminal_at ts (suc (suc i))) s) (deeper_expression ts cap f true (suc (suc i)) (Some (t, j))
        (omega arith) (λ h z. expression_complete c h (omega arith))) (ap is_in d.is)
        ∙ statements.for_from_step ts (deeper ts cap f) i j k o n (tree.init_expression t) y z ws d
        (optional_complete e is_semicolon refl no_semicolon f (omega arith)) g
        (optional_complete h is_close_paren refl no_close_paren f (omega arith)) q (sub_complete r f (omega arith))
        (fit f i _ m)
    statement_complete {i} {j = n} (a_for {j = j} {k = k} {m = o} {b = y} {c = z} {ws = ws} a b
        (init_vars {ds = xs} v c) d e g h q r) f m =
        let w = declarations_within c in let pv = after v in
        let pa = after a in let pb = after b in let pc = declarations_closes c in let pd = after d in
        let pe = optional_closes e in let pg = after g in let ph = optional_closes h in let pq = after q in
        statements.for_vars_step ts (deeper ts cap f) i j xs a b v
        (and_no (is_identifier (terminal_at ts (suc (suc (suc i))))) _ (no_in_follows c d))
        (declarations_complete c f (omega arith) (length ts) (omega arith))
        ∙ statements.for_from_step ts (deeper ts cap f) i j k o n (tree.init_var xs) y z ws d
        (optional_complete e is_semicolon refl no_semicolon f (omega arith)) g
        (optional_complete h is_close_paren refl no_close_paren f (omega arith)) q (sub_complete r f (omega arith))
        (fit f i _ m)
    statement_complete {i} {j = o} (a_for_in {j = j} {k = k} {x = x} {s = s} {t = t} {ws = ws} a b c d e g h) f m =
        let w = wide (suc (suc i)) in let p = height_pos t in
        let y = left_begins_expression (terminal_at ts (suc (suc i))) (left_starts c) in
        let pa = after a in let pb = after b in let pc = left_closes c in let pd = after d in
        let pe = expression_closes e in let pg = after g in
        statements.for_in_step ts (deeper ts cap f) i j (tree.name x s) (record { text = x; at = s }) a b
        (no_semicolon (terminal_at ts (suc (suc i))) y) (no_var (terminal_at ts (suc (suc i))) y)
        (deeper_expression ts cap f true (suc (suc i)) (Some (tree.name x s, j)) (omega arith)
        (λ u z. left_expression ts (deeper ts cap u) u (suc (suc i)) j (tree.name x s) (left_starts c)
        (left_complete c u (omega arith)) d)) d refl
        ∙ statements.for_in_from_step ts (deeper ts cap f) i (suc j) k o false (record { text = x; at = s }) t ws
        (deeper_expression ts cap f false (suc j) (Some (t, k)) (omega arith)
        (λ h z. expression_complete e h (omega arith))) g (sub_complete h f (omega arith)) (fit f i _ m)
    statement_complete {i} {j = o} (a_for_var_in {k = k} {t = t} {ws = ws} a b c d e g h q) f m =
        let w = wide (suc (suc i)) in let p = height_pos t in
        let pa = after a in let pb = after b in let pc = after c in let pd = after_identifier d in let pe = after e in
        let pg = expression_closes g in let ph = after h in
        statements.for_var_in_step ts (deeper ts cap f) i a b c d e
        ∙ statements.for_in_from_step ts (deeper ts cap f) i (suc (suc (suc (suc (suc i))))) k o true
        (ident_at ts (suc (suc (suc i)))) t ws (deeper_expression ts cap f false (suc (suc (suc (suc (suc i)))))
        (Some (t, k)) (omega arith) (λ h z. expression_complete g h (omega arith))) h
        (sub_complete q f (omega arith)) (fit f i _ m)
    statement_complete {i} {j = k} (a_continue a b) f m =
        statements.continue_step ts (deeper ts cap f) i k None a
        (statements.no_label_step ts (suc i) k (ends_at_label b) (statements.ends_step ts (suc i) k b))
    statement_complete {i} {j = k} (a_continue_to a b c d) f m =
        statements.continue_step ts (deeper ts cap f) i k (Some (ident_at ts (suc i))) a
        (statements.label_step ts (suc i) k b c (statements.ends_step ts (suc (suc i)) k d))
    statement_complete {i} {j = k} (a_break a b) f m =
        statements.break_step ts (deeper ts cap f) i k None a
        (statements.no_label_step ts (suc i) k (ends_at_label b) (statements.ends_step ts (suc i) k b))
    statement_complete {i} {j = k} (a_break_to a b c d) f m =
        statements.break_step ts (deeper ts cap f) i k (Some (ident_at ts (suc i))) a
        (statements.label_step ts (suc i) k b c (statements.ends_step ts (suc (suc i)) k d))
    statement_complete {i} {j = k} (a_return a b) f m =
        statements.return_step ts (deeper ts cap f) i k a (statements.ends_step ts (suc i) k b)
    statement_complete {i} {j = k} (a_return_of {j = j} {t = t} a b c d) f m =
        let w = wide (suc i) in let p = height_pos t in let q = after a in let s = expression_starts c in
        statements.return_of_step ts (deeper ts cap f) i j k t a
        (statements.no_end_step ts (suc i) (no_semicolon (terminal_at ts (suc i)) s)
        (no_statement_end (terminal_at ts (suc i)) s) b)
        (deeper_expression ts cap f false (suc i) (Some (t, j)) (omega arith)
        (λ h z. expression_complete c h (omega arith))) (statements.ends_step ts j k d) (fit f i _ m)
    statement_complete {i} (a_switch {j = j} {k = k} {t = t} {cs = cs} a b c d e) f m =
        let pa = after a in let pb = head_closes b in let pc = after c in let w = clauses_within d in
        statements.switch_step ts (deeper ts cap f) i j k t cs a (head_complete b f (omega arith)) c
        (clauses_complete d f (omega arith) (length ts) (omega arith)) e (fit f i _ m)
    statement_complete {i} {j} (a_label {w = x} a b c) f m =
        let w = wide (suc (suc i)) in let p = statement_pos x in let pa = after_identifier a in let pb = after b in
        statements.labelled_step ts (deeper ts cap f) i j x a b
        (deeper_statement ts cap f (suc (suc i)) (Some (x, j)) (omega arith)
        (λ h z. statement_complete c h (omega arith))) (fit f i _ m)
    statement_complete {i} {j = k} (a_throw {j = j} {t = t} a b c d) f m =
        let w = wide (suc i) in let p = height_pos t in let q = after a in
        statements.throw_step ts (deeper ts cap f) i j k t a b
        (deeper_expression ts cap f false (suc i) (Some (t, j)) (omega arith)
        (λ h z. expression_complete c h (omega arith))) (statements.ends_step ts j k d) (fit f i _ m)
    statement_complete {i} {j = k} (a_try_catch {j = j} {ws = ws} {h = h} a b c d) f m =
        let pa = after a in let pb = block_closes b in
        statements.try_catch_step ts (deeper ts cap f) i j k ws h a (block_complete b f (omega arith)) (catch_starts c)
        (catch_complete c f (omega arith)) d (fit f i _ m)
    statement_complete {i} {j = k} (a_try_finally {j = j} {ws = ws} {us = us} a b c d) f m =
        let pa = after a in let pb = block_closes b in let pc = after c in
        statements.try_finally_step ts (deeper ts cap f) i j k ws us a (block_complete b f (omega arith)) c
        (block_complete d f (omega arith)) (fit f i _ m)
    statement_complete {i} {j = o} (a_try_both {j = j} {k = k} {ws = ws} {us = us} {h = h} a b c d e) f m =
        let pa = after a in let pb = block_closes b in let pc = catch_closes c in let pd = after d in
        statements.try_both_step ts (deeper ts cap f) i j k o ws us h a (block_complete b f (omega arith))
        (catch_starts c) (catch_complete c f (omega arith)) d (block_complete e f (omega arith)) (fit f i _ m)
    statement_complete {i} {j = k} (a_debugger a b) f m =
        statements.debugger_step ts (deeper ts cap f) i k a (statements.ends_step ts (suc i) k b)
