-- What is written of a tree is read again, as that tree but for its places and numbers.
use Rattle.std.proofs.Common.{◌≡◌, ℕ, suc, Bool, true, false, ◌||◌, refl, ap, ap₂}
use Rattle.std.proofs.Common.{sym, ◌∙◌, subst, List, [], ◌∷◌, ◌++◌, arith}
use Rattle.std.specs.Prelude.{Some, None, map, if◌then◌else◌}
use Rattle.jl_ast.specs.Tree.{Ident, Sort, Tree, Forest, OptionalTree, Text, is_name}
use Rattle.jl_ast.specs.Tree as tree
use Rattle.jl_text.specs.declared.span.Span.{Span}
use Rattle.jl_token.specs.declared.punct.Punct.TheVariants as puncts
use Rattle.jl_token.specs.declared.token.Token.{Token}
use Rattle.jl_token.specs.declared.token.TokenKind.TheVariants as kinds
use Rattle.jl_grammar.specs.Next.{close_paren, close_bracket, close_brace}
use Rattle.jl_grammar.specs.Next.{semicolon, is_comma, is_equals, ends_list}
use Rattle.jl_grammar.specs.Next.{continues_left}
use Rattle.jl_grammar.specs.Operators.{both, either, continues}
use Rattle.jl_grammar.specs.Operators.{assign_operator}
use Rattle.jl_grammar.specs.Reads as reads
use Rattle.jl_grammar.specs.Reads.{Expr, Exprs, Stmt, Stmts, Code, IsTarget, ReadsPrimary, ReadsUnary, ReadsLeft}
use Rattle.jl_grammar.specs.Reads.{ReadsArguments, ReadsArgumentList, ReadsItems, ReadsEntries, ReadsEntry, ReadsRest}
use Rattle.jl_grammar.specs.Reads.{ReadsBody, BeginsLeft, BeginsBinary, ReadsAssignment, ReadsDeclaration}
use Rattle.jl_grammar.specs.Reads.{ReadsDeclarations, ReadsBlock, ReadsStatement, ReadsStatements, ReadsHead}
use Rattle.jl_grammar.specs.Reads.{ReadsInit, ReadsOptional, ReadsClauses, ReadsCatch, ReadsElements, there}
use Rattle.jl_grammar.specs.Tokens.{At, terminal_at, text_at, number_at, strict_at, span, ident_at, key_ident_at}
use Rattle.jl_print.specs.Layout.{ends_line}
use Rattle.jl_print.specs.Pieces.{name, punct, string, key, prefix_operator, update_operator, assign_punct}
use Rattle.jl_print.specs.Pieces.{in_parens, in_parens_unless, within_braces}
use Rattle.jl_print.specs.Precedence.{precedence_of, fits}
use Rattle.jl_print.specs.WellFormed.{WellFormed, AllWellFormed, OptionalWellFormed}
use Rattle.jl_print.specs.WellFormed.{HasOneDefault, AreNamed, IsSome}
use Rattle.jl_print.specs.CanonicalTokens.{tokens_of_node, tokens_of_arguments, further_arguments, tokens_of_entries}
use Rattle.jl_print.specs.CanonicalTokens.{further}
use Rattle.jl_print.specs.CanonicalTokens.{tokens_of_items, items_after, parameters, tokens_of_all}
use Rattle.jl_print.specs.CanonicalTokens.{tokens_of_declarators}
use Rattle.jl_print.proofs.Fronts.{of_left, of_postfix, of_assignment, of_expression, to_left}
use Rattle.jl_print.proofs.Fronts.{to_binary, to_assignment, to_expression, as_loose, quiet_zero, quiet_less}
use Rattle.jl_print.proofs.Fronts.{quiet_stop, stops}
use Rattle.jl_print.proofs.Following.{statements_begin, clauses_begin}
use Rattle.jl_print.proofs.Following.{elements_begin}
use Rattle.jl_print.proofs.Names.{same_name, same_key}
use Rattle.jl_print.proofs.Operators.{and_token, or_token}
use Rattle.jl_print.proofs.Operators.{prefix_at, update_at, update_is_no_part, assigns_at, assign_is_no_part}
use Rattle.jl_print.proofs.Places.{Back, up_to, Alone, whole, in_place, rank_top}
use Rattle.jl_print.proofs.Skeleton.{skeleton, skeleton_forest, named}
use Rattle.jl_print.proofs.Spells.{Spells, parts, line_after, at, identifier, any_name}
use Rattle.jl_print.proofs.Spells.{any_key, name_text, text_spelled, number_spelled}
use Rattle.jl_print.proofs.BackParts.{arguments_stop, further_stop, items_stop, BackFurtherEntries}
use Rattle.jl_print.proofs.BackParts.{BackFurtherDeclarations}
use Rattle.jl_print.proofs.BackParts.{as_unary, of_unary, of_primary, infix_operator_back}
use Rattle.jl_print.proofs.BackParts.{binary_back, callee, BackTarget, BackArguments}
use Rattle.jl_print.proofs.BackParts.{BackArgumentList, BackItems, BackEntry, BackEntries}
use Rattle.jl_print.proofs.BackParts.{BodyAlone, rest_back, quiet_question, same_conditional, target_up_to}
use Rattle.jl_print.proofs.BackParts.{no_names, one_name, same_setter, BackDeclaration, BackDeclarations}
use Rattle.jl_print.proofs.BackParts.{BackStatements, no_equals}
use Rattle.jl_print.proofs.BackParts.{BackClauses, BackElements, statement_up_to}
use Rattle.jl_print.proofs.BackParts.{same_case}
use Rattle.jl_print.proofs.BackParts.{expression_statement, block_back, same_declaration}
use Rattle.jl_print.proofs.BackParts.{no_directive_at_end, no_directive_at_function}
use Rattle.jl_print.proofs.BackParts.{no_directive_before, stops_directive, is_strict}
use Rattle.jl_print.proofs.BackParts.{line_of_target}
use Rattle.jl_print.proofs.Statements.{OptionalAlone, InitAlone, HandlerAlone, StatementAlone}
use Rattle.jl_print.proofs.Statements.{if_back, if_else_back, do_while_back, while_back, for_back, for_var_in_back}
use Rattle.jl_print.proofs.Statements.{for_in_back}
use Rattle.jl_print.proofs.Statements.{switch_back, return_back, throw_back, try_catch_back, try_finally_back}
use Rattle.jl_print.proofs.Statements.{try_both_back}

module _ {ts : List Token} where
  mutual
    unfolding tokens_of_node

    pub back : (t : Expr) → WellFormed t → Alone ts t
    back (tree.this s) w no_in i j line h q = up_to (record {
      tree = tree.this (span ts i (suc i));
      same = refl;
      is = of_primary (reads.a_this (at h.0));
    }) h.1
    back (tree.name t s) w no_in i j line h q = up_to (record {
      tree = tree.name (text_at ts i) (span ts i (suc i));
      same = ap (λ x. tree.name x tt) (name_text h.0);
      is = of_primary (reads.a_name (identifier w h.0));
    }) h.1
    back (tree.number n s) w no_in i j line h q = up_to (record {
      tree = tree.number (number_at ts i) (span ts i (suc i));
      same = ap (λ x. tree.number x tt) (number_spelled ts i (kinds.Number n) h.0.kind);
      is = of_primary (reads.a_number (at h.0));
    }) h.1
    back (tree.string t s) w no_in i j line h q = up_to (record {
      tree = tree.string (text_at ts i) (span ts i (suc i));
      same = ap (λ x. tree.string x tt) (text_spelled ts i (string t) h.0.kind);
      is = of_primary (reads.a_string (at h.0));
    }) h.1
    back (tree.boolean true s) w no_in i j line h q = up_to (record {
      tree = tree.boolean true (span ts i (suc i));
      same = refl;
      is = of_primary (reads.a_true (at h.0));
    }) h.1
    back (tree.boolean false s) w no_in i j line h q = up_to (record {
      tree = tree.boolean false (span ts i (suc i));
      same = refl;
      is = of_primary (reads.a_false (at h.0));
    }) h.1
    back (tree.null s) w no_in i j line h q = up_to (record {
      tree = tree.null (span ts i (suc i));
      same = refl;
      is = of_primary (reads.a_null (at h.0));
    }) h.1
    back (tree.array a s) w no_in i j line h q =
        let p = parts ts (suc i) false (tokens_of_items a) (punct puncts.RightBracket ∷ []) j h.1 in
        let x = back_items a w (suc i) p.middle false p.first (at p.second.0) in
        up_to (record {
          tree = tree.array x.items (span ts i (suc p.middle));
          same = ap (λ x. tree.array x tt) x.same;
          is = of_primary (reads.an_array (at h.0) x.is);
        }) p.second.1
    back (tree.object a s) w no_in i j line h q =
        let p = parts ts (suc i) true (tokens_of_entries a) (punct puncts.RightBrace ∷ []) j h.1 in
        let x = back_entries a w (suc i) p.middle true p.first (at p.second.0) in
        up_to (record {
          tree = tree.object x.entries (span ts i (suc p.middle));
          same = ap (λ x. tree.object x tt) x.same;
          is = of_primary (reads.an_object (at h.0) x.is);
        }) p.second.1
    back (tree.function_expression (tree.function n None ps c s) u) w no_in i j line h q =
        let x = rest_back ps c w.1 (back_body c w.2) (suc i) j false h.1 in
        record {
          tree = tree.function_expression (tree.function 0 None x.names x.code (span ts i j)) (span ts i j);
          same = ap₂ (λ ps c. tree.function_expression (tree.function 0 None ps c tt) tt) x.same_names x.same;
          is = of_primary (reads.a_function (at h.0) x.is);
        }
    back (tree.function_expression (tree.function n (Some f) ps c s) u) w no_in i j line h q =
        let x = rest_back ps c w.1 (back_body c w.2) (suc (suc i)) j false h.1.1 in
        let y = same_name f h.1.0 in
        record {
          tree = tree.function_expression
              (tree.function 0 (Some (ident_at ts (suc i))) x.names x.code (span ts i j)) (span ts i j);
          same = ap (λ f. tree.function_expression (tree.function 0 (Some f) (map named x.names) (skeleton x.code) tt)
              tt) y
              ∙ ap₂ (λ ps c. tree.function_expression (tree.function 0 (Some (named f)) ps c tt) tt) x.same_names
              x.same;
          is = of_primary (reads.a_named_function (at h.0) (identifier w.0 h.1.0) x.is);
        }
    back (tree.dot a t s) w no_in i j line h q =
        let p = parts ts i line (in_parens_unless (fits a 0) (tokens_of_node a)) (punct puncts.Dot ∷ name t ∷ []) j h in
        let x = in_place a 0 (omega arith) (back a w.0) no_in i p.middle line p.first (quiet_zero no_in ts p.middle) in
        up_to (record {
          tree = tree.dot x.tree (text_at ts (suc p.middle)) (span ts i (suc (suc p.middle)));
          same = ap₂ (λ x t. tree.dot x t tt) x.same (name_text p.second.1.0);
          is = of_left (reads.a_dot (to_left x.is) (at p.second.0) (any_name p.second.1.0));
        }) p.second.1.1
    back (tree.index a b s) w no_in i j line h q =
        let p = parts ts i line (in_parens_unless (fits a 0) (tokens_of_node a))
        (punct puncts.LeftBracket ∷ (tokens_of_node b ++ punct puncts.RightBracket ∷ [])) j h in
        let x = in_place a 0 (omega arith) (back a w.0) no_in i p.middle line p.first (quiet_zero no_in ts p.middle) in
        let r = parts ts (suc p.middle) false (tokens_of_node b) (punct puncts.RightBracket ∷ []) j p.second.1 in
        let c = at r.second.0 in
        let y = whole b (back b w.1) false (suc p.middle) r.middle false r.first (ap stops c.is) (ap is_comma c.is) in
        up_to (record {
          tree = tree.index x.tree y.tree (span ts i (suc r.middle));
          same = ap₂ (λ x y. tree.index x y tt) x.same y.same;
          is = of_left (reads.an_index (to_left x.is) (at p.second.0) y.is c);
        }) r.second.1
    back (tree.call a b s) w no_in i j line h q =
        let p = parts ts i line (in_parens_unless (fits a 0) (tokens_of_node a)) (in_parens (tokens_of_arguments b)) j
        h in
        let x = in_place a 0 (omega arith) (back a w.0) no_in i p.middle line p.first (quiet_zero no_in ts p.middle) in
        let y = back_arguments b w.1 (suc p.middle) j false p.second.1 in
        record {
          tree = tree.call x.tree y.trees (span ts i j);
          same = ap₂ (λ x y. tree.call x y tt) x.same y.same;
          is = of_left (reads.a_call (to_left x.is) (at p.second.0) y.is);
        }
    back (tree.new a b s) w no_in i j line h q =
        let p = parts ts (suc i) false (if is_name a then tokens_of_node a else in_parens (tokens_of_node a))
        (in_parens (tokens_of_arguments b)) j h.1 in
        let x = callee a w.0 (back a w.0) (suc i) p.middle false p.first in
        let y = back_arguments b w.1 (suc p.middle) j false p.second.1 in
        record {
          tree = tree.new x.tree y.trees (span ts i j);
          same = ap₂ (λ x y. tree.new x y tt) x.same y.same;
          is = of_left (reads.a_new (at h.0) (reads.whole_left (reads.primary x.is)
              (ap (continues_left false) (at p.second.0).is)) (at p.second.0) y.is);
        }
    back (tree.unary op a s) w no_in i j line h q =
        let x = in_place a 2 (omega arith) (back a w) no_in (suc i) j (ends_line (prefix_operator op)) h.1 q in
        record {
          tree = tree.unary op x.tree (span ts i j);
          same = ap (λ x. tree.unary op x tt) x.same;
          is = of_unary (reads.a_prefix (prefix_at op h.0) (as_unary x.is));
        }
    back (tree.update up true g s) w no_in i j line h q =
        let x = back_target g w (suc i) j (ends_line (update_operator up)) h.1 (q.left (omega arith)) in
        record {
          tree = tree.update up true x.target (span ts i j);
          same = ap (λ x. tree.update up true x tt) x.same;
          is = of_unary (reads.an_update (update_at up h.0) x.is x.is_target);
        }
    back (tree.update up false g s) w no_in i j line h q =
        let p = parts ts i line (tokens_of_node g) (update_operator up ∷ []) j h in
        let x = back_target g w i p.middle line p.first (update_is_no_part up p.second.0) in
        up_to (record {
          tree = tree.update up false x.target (span ts i (suc p.middle));
          same = ap (λ x. tree.update up false x tt) x.same;
          is = of_postfix (reads.a_postfix x.is x.is_target (update_at up p.second.0)
              (p.second.0.line ∙ line_of_target g line));
        }) p.second.1
    back (tree.binary op a b s) w no_in i j line h q =
        binary_back no_in op a b (back a w.0) (back b w.1) s i j line h q
    back (tree.and a b s) w no_in i j line h q =
        infix_operator_back no_in 8 (omega arith) both refl (punct puncts.AndAnd) (and_token no_in) a b (back a w.0)
        (back b w.1)
        i j line h q (λ x y s u h g. ap₂ (λ x y. tree.and x y tt) h g) s
    back (tree.or a b s) w no_in i j line h q =
        infix_operator_back no_in 9 (omega arith) either refl (punct puncts.OrOr) (or_token no_in) a b (back a w.0)
        (back b w.1)
        i j line h q (λ x y s u h g. ap₂ (λ x y. tree.or x y tt) h g) s
    back (tree.conditional a b c s) w no_in i j line h q =
        let p = parts ts i line (in_parens_unless (fits a 12) (tokens_of_node a)) (punct puncts.Question ∷
        (in_parens_unless (fits b 13) (tokens_of_node b)
        ++ (punct puncts.Colon ∷ in_parens_unless (fits c 13) (tokens_of_node c)))) j h in
        let x = in_place a 12 (omega arith) (back a w.0) no_in i p.middle line p.first (quiet_question p.second.0) in
        let r = parts ts (suc p.middle) false (in_parens_unless (fits b 13) (tokens_of_node b))
        (punct puncts.Colon ∷ in_parens_unless (fits c 13) (tokens_of_node c)) j p.second.1 in
        let k = at r.second.0 in
        let y = in_place b 13 (omega arith) (back b w.1) false (suc p.middle) r.middle false r.first
        (quiet_stop false 13 (ap stops k.is)) in
        let z = in_place c 13 (omega arith) (back c w.2) no_in (suc r.middle) j false r.second.1 q in
        let o = reads.whole_binary (to_binary 10 (omega arith) x.is) (ap (continues no_in 10) (at p.second.0).is) in
        record {
          tree = tree.conditional x.tree y.tree z.tree (span ts i j);
          same = same_conditional x.tree a y.tree b z.tree c x.same y.same z.same;
          is = of_assignment (reads.conditional (reads.a_conditional o (at p.second.0) (to_assignment y.is) k
              (to_assignment z.is)) (q.assigns (omega arith)));
        }
    back (tree.assign None g a s) w no_in i j line h q =
        let p = parts ts i line (tokens_of_node g)
        (punct puncts.Assign ∷ in_parens_unless (fits a 13) (tokens_of_node a)) j h in
        let e = at p.second.0 in
        let x = back_target g w.1 i p.middle line p.first (ap (continues_left true) e.is) in
        let y = in_place a 13 (omega arith) (back a w.2) no_in (suc p.middle) j false p.second.1 q in
        record {
          tree = tree.assign None x.target y.tree (span ts i j);
          same = ap₂ (λ x y. tree.assign None x y tt) x.same y.same;
          is = of_assignment (reads.an_assignment x.is x.is_target
              (record { is = ap assign_operator e.is }) (to_assignment y.is));
        }
    back (tree.assign (Some op) g a s) w no_in i j line h q =
        let p = parts ts i line (tokens_of_node g)
        (punct (assign_punct op) ∷ in_parens_unless (fits a 13) (tokens_of_node a)) j h in
        let x = back_target g w.1 i p.middle line p.first (assign_is_no_part op p.second.0) in
        let y = in_place a 13 (omega arith) (back a w.2) no_in (suc p.middle) j
        (ends_line (punct (assign_punct op))) p.second.1 q in
        record {
          tree = tree.assign (Some op) x.target y.tree (span ts i j);
          same = ap₂ (λ x y. tree.assign (Some op) x y tt) x.same y.same;
          is = of_assignment (reads.an_assignment x.is x.is_target (assigns_at op w.0 p.second.0) (to_assignment y.is));
        }
    back (tree.comma a b s) w no_in i j line h q =
        let p = parts ts i line (tokens_of_node a)
        (punct puncts.Comma ∷ in_parens_unless (fits b 13) (tokens_of_node b)) j h in
        let c = at p.second.0 in
        let e = ap stops c.is in
        let x = back a w.0 no_in i p.middle line p.first (quiet_stop no_in (precedence_of a) e) in
        let f = as_loose (precedence_of a) 14 (rank_top a) (omega arith) x.is (quiet_stop no_in 14 e) in
        let y = in_place b 13 (omega arith) (back b w.1) no_in (suc p.middle) j false p.second.1
        (quiet_less 13 14 (omega arith) q) in
        record {
          tree = tree.comma x.tree y.tree (span ts i j);
          same = ap₂ (λ x y. tree.comma x y tt) x.same y.same;
          is = of_expression (reads.a_comma (to_expression f) c (to_assignment y.is));
        }

    pub back_target : (g : Tree Span tree.target) → WellFormed g → (i j : ℕ) (line : Bool)
        → Spells ts i line (tokens_of_node g) j → continues_left true (terminal_at ts j) ≡ false → BackTarget ts i g j
    back_target (tree.to_name x) w i j line h q =
        let e = subst (λ n. continues_left true (terminal_at ts n) ≡ false) (sym h.1) q in
        target_up_to (record {
          value = tree.name (text_at ts i) (span ts i (suc i));
          target = tree.to_name (ident_at ts i);
          same = ap tree.to_name (same_name x h.0);
          is_target = record { is = refl };
          is = reads.whole_left (reads.primary (reads.a_name (identifier w h.0))) e;
        }) h.1
    back_target (tree.to_dot a t s) w i j line h q =
        let p = parts ts i line (in_parens_unless (fits a 0) (tokens_of_node a)) (punct puncts.Dot ∷ name t ∷ []) j h in
        let x = in_place a 0 (omega arith) (back a w.0) false i p.middle line p.first (quiet_zero false ts p.middle) in
        let e = subst (λ n. continues_left true (terminal_at ts n) ≡ false) (sym p.second.1.1) q in
        target_up_to (record {
          value = tree.dot x.tree (text_at ts (suc p.middle)) (span ts i (suc (suc p.middle)));
          target = tree.to_dot x.tree (text_at ts (suc p.middle)) (span ts i (suc (suc p.middle)));
          same = ap₂ (λ x t. tree.to_dot x t tt) x.same (name_text p.second.1.0);
          is_target = record { is = refl };
          is = reads.whole_left (reads.a_dot (to_left x.is) (at p.second.0) (any_name p.second.1.0)) e;
        }) p.second.1.1
    back_target (tree.to_index a b s) w i j line h q =
        let p = parts ts i line (in_parens_unless (fits a 0) (tokens_of_node a))
        (punct puncts.LeftBracket ∷ (tokens_of_node b ++ punct puncts.RightBracket ∷ [])) j h in
        let x = in_place a 0 (omega arith) (back a w.0) false i p.middle line p.first (quiet_zero false ts p.middle) in
        let r = parts ts (suc p.middle) false (tokens_of_node b) (punct puncts.RightBracket ∷ []) j p.second.1 in
        let c = at r.second.0 in
        let y = whole b (back b w.1) false (suc p.middle) r.middle false r.first (ap stops c.is) (ap is_comma c.is) in
        let e = subst (λ n. continues_left true (terminal_at ts n) ≡ false) (sym r.second.1) q in
        target_up_to (record {
          value = tree.index x.tree y.tree (span ts i (suc r.middle));
          target = tree.to_index x.tree y.tree (span ts i (suc r.middle));
          same = ap₂ (λ x y. tree.to_index x y tt) x.same y.same;
          is_target = record { is = refl };
          is = reads.whole_left (reads.an_index (to_left x.is) (at p.second.0) y.is c) e;
        }) r.second.1

    back_arguments : (us : Exprs) → AllWellFormed us → (i j : ℕ) (line : Bool)
        → Spells ts i line (tokens_of_arguments us ++ punct puncts.RightParen ∷ []) j → BackArguments ts i us j
    back_arguments tree.end w i j line h = record {
      trees = tree.end;
      same = refl;
      is = subst (λ n. ReadsArguments ts i tree.end n) h.1 (reads.no_arguments (at h.0));
    }
    back_arguments (tree.more t r) w i j line h =
        let p = parts ts i line (in_parens_unless (fits t 13) (tokens_of_node t) ++ further_arguments r)
        (punct puncts.RightParen ∷ []) j h in
        let c = at p.second.0 in
        let m = line_after line (in_parens_unless (fits t 13) (tokens_of_node t)) in
        let o = parts ts i line (in_parens_unless (fits t 13) (tokens_of_node t)) (further_arguments r) p.middle
        p.first in
        let x = in_place t 13 (omega arith) (back t w.0) false i o.middle line o.first
        (quiet_stop false 13 (arguments_stop ts r o.middle p.middle m o.second (ap stops c.is))) in
        let y = back_further_arguments r w.1 o.middle p.middle m o.second c i x.tree (to_assignment x.is) in
        record {
          trees = tree.more x.tree y.trees;
          same = ap₂ (λ x y. tree.more x y) x.same y.same;
          is = subst (λ n. ReadsArguments ts i (tree.more x.tree y.trees) n) p.second.1 (reads.arguments y.is);
        }

    back_further_arguments : (r : Exprs) → AllWellFormed r → (m j : ℕ) (line : Bool)
        → Spells ts m line (further_arguments r) j → At ts j close_paren → (i : ℕ) (u : Expr)
        → ReadsAssignment ts false i u m → BackArgumentList ts i u r (suc j)
    back_further_arguments tree.end w m j line h c i u z = record {
      trees = tree.end;
      same = refl;
      is = subst (λ n. ReadsArgumentList ts i (tree.more u tree.end) (suc n)) h
          (reads.last_argument z (subst (λ n. At ts n close_paren) (sym h) c));
    }
    back_further_arguments (tree.more t r) w m j line h c i u z =
        let k = line_after false (in_parens_unless (fits t 13) (tokens_of_node t)) in
        let o = parts ts (suc m) false (in_parens_unless (fits t 13) (tokens_of_node t)) (further_arguments r) j h.1 in
        let x = in_place t 13 (omega arith) (back t w.0) false (suc m) o.middle false o.first
        (quiet_stop false 13 (arguments_stop ts r o.middle j k o.second (ap stops c.is))) in
        let y = back_further_arguments r w.1 o.middle j k o.second c (suc m) x.tree (to_assignment x.is) in
        record {
          trees = tree.more x.tree y.trees;
          same = ap₂ (λ x y. tree.more x y) x.same y.same;
          is = reads.more_arguments z (at h.0) y.is;
        }

    back_items : (us : Forest Span tree.item) → AllWellFormed us → (i j : ℕ) (line : Bool)
        → Spells ts i line (tokens_of_items us) j → At ts j close_bracket → BackItems ts i us (suc j)
    back_items tree.end w i j line h c = record {
      items = tree.end;
      same = refl;
      is = subst (λ n. ReadsItems ts i tree.end (suc n)) h
          (reads.no_items (subst (λ n. At ts n close_bracket) (sym h) c));
    }
    back_items (tree.more tree.hole r) w i j line h c = after_hole r w.1 i j line h c
    back_items (tree.more (tree.filled t) r) w i j line h c =
        let ks = in_parens_unless (fits t 13) (tokens_of_node t) in
        let p = parts ts i line ks (items_after (tree.filled t) r) j h in
        let x = in_place t 13 (omega arith) (back t w.0) false i p.middle line p.first
        (quiet_stop false 13 (items_stop ts t r p.middle j (line_after line ks) p.second (ap stops c.is))) in
        after_filled t r w.1 p.middle j (line_after line ks) p.second c i x (to_assignment x.is)

    after_hole : (r : Forest Span tree.item) → AllWellFormed r → (i j : ℕ) (line : Bool)
        → Spells ts i line (items_after tree.hole r) j → At ts j close_bracket
        → BackItems ts i (tree.more tree.hole r) (suc j)
    after_hole tree.end w i j line h c = record {
      items = tree.more tree.hole tree.end;
      same = refl;
      is = reads.a_hole (at h.0) (subst (λ n. ReadsItems ts (suc i) tree.end (suc n)) h.1
          (reads.no_items (subst (λ n. At ts n close_bracket) (sym h.1) c)));
    }
    after_hole (tree.more tree.hole r) w i j line h c =
        let y = after_hole r w.1 (suc i) j false h.1 c in
        record {
          items = tree.more tree.hole y.items;
          same = ap (λ y. tree.more tree.hole y) y.same;
          is = reads.a_hole (at h.0) y.is;
        }
    after_hole (tree.more (tree.filled t) r) w i j line h c =
        let ks = in_parens_unless (fits t 13) (tokens_of_node t) in
        let p = parts ts (suc i) false ks (items_after (tree.filled t) r) j h.1 in
        let x = in_place t 13 (omega arith) (back t w.0) false (suc i) p.middle false p.first
        (quiet_stop false 13 (items_stop ts t r p.middle j (line_after false ks) p.second (ap stops c.is))) in
        let y = after_filled t r w.1 p.middle j (line_after false ks) p.second c (suc i) x (to_assignment x.is) in
        record {
          items = tree.more tree.hole y.items;
          same = ap (λ y. tree.more tree.hole y) y.same;
          is = reads.a_hole (at h.0) y.is;
        }

    after_filled : (t : Expr) (r : Forest Span tree.item) → AllWellFormed r → (m j : ℕ) (line : Bool)
        → Spells ts m line (items_after (tree.filled t) r) j → At ts j close_bracket → (i : ℕ)
        → (x : Back ts false 13 i t m) → ReadsAssignment ts false i x.tree m
        → BackItems ts i (tree.more (tree.filled t) r) (suc j)
    after_filled t tree.end w m j line h c i x z = record {
      items = tree.more (tree.filled x.tree) tree.end;
      same = ap (λ x. tree.more (tree.filled x) tree.end) x.same;
      is = subst (λ n. ReadsItems ts i (tree.more (tree.filled x.tree) tree.end) (suc n)) h
          (reads.last_item z (subst (λ n. At ts n close_bracket) (sym h) c));
    }
    after_filled t (tree.more tree.hole r) w m j line h c i x z =
        let y = after_hole r w.1 (suc m) j false h.1 c in
        record {
          items = tree.more (tree.filled x.tree) y.items;
          same = ap₂ (λ x y. tree.more (tree.filled x) y) x.same y.same;
          is = reads.more_items z (at h.0) y.is;
        }
    after_filled t (tree.more (tree.filled u) r) w m j line h c i x z =
        let ks = in_parens_unless (fits u 13) (tokens_of_node u) in
        let p = parts ts (suc m) false ks (items_after (tree.filled u) r) j h.1 in
        let v = in_place u 13 (omega arith) (back u w.0) false (suc m) p.middle false p.first
        (quiet_stop false 13 (items_stop ts u r p.middle j (line_after false ks) p.second (ap stops c.is))) in
        let y = after_filled u r w.1 p.middle j (line_after false ks) p.second c (suc m) v (to_assignment v.is) in
        record {
          items = tree.more (tree.filled x.tree) y.items;
          same = ap₂ (λ x y. tree.more (tree.filled x) y) x.same y.same;
          is = reads.more_items z (at h.0) y.is;
        }

    back_entry : (e : Tree Span tree.entry) → WellFormed e → (i j : ℕ) (line : Bool)
        → Spells ts i line (tokens_of_node e) j
        → stops (terminal_at ts j) ≡ true → BackEntry ts i e j
    back_entry (tree.value k a) w i j line h c =
        let x = in_place a 13 (omega arith) (back a w.1) false (suc (suc i)) j false h.1.1 (quiet_stop false 13 c) in
        record {
          entry = tree.value (key_ident_at ts i) x.tree;
          same = ap₂ (λ k x. tree.value k x) (same_key k h.0) x.same;
          is = reads.a_value (any_key k.text h.0) (at h.1.0) (to_assignment x.is);
        }
    back_entry (tree.getter k (tree.function n None [] b s)) w i j line h c =
        let x = rest_back [] b tt (back_body b w.2.2) (suc (suc i)) j (ends_line (key k.text)) h.1.1 in
        let e = no_names x.names x.same_names in
        record {
          entry = tree.getter (key_ident_at ts (suc i)) (tree.function 0 None [] x.code (span ts i j));
          same = ap₂ (λ k x. tree.getter k (tree.function 0 None [] x tt)) (same_key k h.1.0) x.same;
          is = reads.a_getter (at h.0) (any_key k.text h.1.0)
              (subst (λ ps. ReadsRest ts (suc (suc i)) ps x.code j) e x.is);
        }
    back_entry (tree.getter k (tree.function n None (p ∷ ps) b s)) w i j line h c = absurd w.1
    back_entry (tree.getter k (tree.function n (Some f) ps b s)) w i j line h c = absurd w.1
    back_entry (tree.setter k (tree.function n None (p ∷ []) b s)) w i j line h c =
        let x = rest_back (p ∷ []) b w.2.1 (back_body b w.2.2) (suc (suc i)) j (ends_line (key k.text)) h.1.1 in
        let e = one_name x.names p x.same_names in
        record {
          entry = tree.setter (key_ident_at ts (suc i)) (tree.function 0 None (e.name ∷ []) x.code (span ts i j));
          same = same_setter (key_ident_at ts (suc i)) k e.name p x.code b (same_key k h.1.0) e.same x.same;
          is = reads.a_setter (at h.0) (any_key k.text h.1.0)
              (subst (λ ps. ReadsRest ts (suc (suc i)) ps x.code j) e.is x.is);
        }
    back_entry (tree.setter k (tree.function n None [] b s)) w i j line h c = absurd w.1
    back_entry (tree.setter k (tree.function n None (p ∷ o ∷ ps) b s)) w i j line h c = absurd w.1
    back_entry (tree.setter k (tree.function n (Some f) ps b s)) w i j line h c = absurd w.1

    back_entries : (us : Forest Span tree.entry) → AllWellFormed us → (i j : ℕ) (line : Bool)
        → Spells ts i line (tokens_of_entries us) j → At ts j close_brace → BackEntries ts i us (suc j)
    back_entries tree.end w i j line h c = record {
      entries = tree.end;
      same = refl;
      is = subst (λ n. ReadsEntries ts i tree.end (suc n)) h
          (reads.no_entries (subst (λ n. At ts n close_brace) (sym h) c));
    }
    back_entries (tree.more t r) w i j line h c =
        let m = line_after line (tokens_of_node t) in
        let p = parts ts i line (tokens_of_node t) (further r) j h in
        let x = back_entry t w.0 i p.middle line p.first (further_stop ts r p.middle j m p.second (ap stops c.is)) in
        let y = back_further_entries r w.1 p.middle j m p.second c i x.entry x.is in
        record {
          entries = tree.more x.entry y.entries;
          same = ap₂ (λ x y. tree.more x y) x.same y.same;
          is = y.is;
        }

    back_further_entries : (r : Forest Span tree.entry) → AllWellFormed r → (m j : ℕ) (line : Bool)
        → Spells ts m line (further r) j → At ts j close_brace → (i : ℕ) (u : Tree Span tree.entry)
        → ReadsEntry ts i u m → BackFurtherEntries ts i u r (suc j)
    back_further_entries tree.end w m j line h c i u z = record {
      entries = tree.end;
      same = refl;
      is = subst (λ n. ReadsEntries ts i (tree.more u tree.end) (suc n)) h
          (reads.last_entry z (subst (λ n. At ts n close_brace) (sym h) c));
    }
    back_further_entries (tree.more t r) w m j line h c i u z =
        let k = line_after false (tokens_of_node t) in
        let p = parts ts (suc m) false (tokens_of_node t) (further r) j h.1 in
        let x = back_entry t w.0 (suc m) p.middle false p.first
        (further_stop ts r p.middle j k p.second (ap stops c.is)) in
        let y = back_further_entries r w.1 p.middle j k p.second c (suc m) x.entry x.is in
        record {
          entries = tree.more x.entry y.entries;
          same = ap₂ (λ x y. tree.more x y) x.same y.same;
          is = reads.more_entries z (at h.0) y.is;
        }

    back_declarator : (no_in : Bool) (d : Tree Span tree.decl) → WellFormed d → (i j : ℕ) (line : Bool)
        → Spells ts i line (tokens_of_node d) j → stops (terminal_at ts j) ≡ true → BackDeclaration ts no_in i d j
    back_declarator no_in (tree.declarator x tree.absent) w i j line h c = record {
      declaration = tree.declarator (ident_at ts i) tree.absent;
      same = ap (λ x. tree.declarator x tree.absent) (same_name x h.0);
      is = subst (λ n. ReadsDeclaration ts no_in i (tree.declarator (ident_at ts i) tree.absent) n) h.1
          (reads.declared (identifier w.0 h.0)
          (subst (λ n. is_equals (terminal_at ts n) ≡ false) (sym h.1) (no_equals (terminal_at ts j) c)));
    }
    back_declarator no_in (tree.declarator x (tree.present a)) w i j line h c =
        let y = in_place a 13 (omega arith) (back a w.1) no_in (suc (suc i)) j false h.1.1 (quiet_stop no_in 13 c) in
        record {
          declaration = tree.declarator (ident_at ts i) (tree.present y.tree);
          same = ap₂ (λ x y. tree.declarator x (tree.present y)) (same_name x h.0) y.same;
          is = reads.initialised (identifier w.0 h.0) (at h.1.0) (to_assignment y.is);
        }

    back_declarators : (no_in : Bool) (ds : Forest Span tree.decl) → IsSome ds → AllWellFormed ds
        → (i j : ℕ) (line : Bool)
        → Spells ts i line (tokens_of_declarators ds) j → stops (terminal_at ts j) ≡ true → is_comma (terminal_at ts j)
        ≡ false
        → BackDeclarations ts no_in i ds j
    back_declarators no_in tree.end o w i j line h c e = absurd o
    back_declarators no_in (tree.more t r) o w i j line h c e =
        let m = line_after line (tokens_of_node t) in
        let p = parts ts i line (tokens_of_node t) (further r) j h in
        let x = back_declarator no_in t w.0 i p.middle line p.first (further_stop ts r p.middle j m p.second c) in
        let y = back_further_declarators no_in r w.1 p.middle j m p.second c e i x.declaration x.is in
        record {
          declarations = tree.more x.declaration y.declarations;
          same = ap₂ (λ x y. tree.more x y) x.same y.same;
          is = y.is;
        }

    back_further_declarators : (no_in : Bool) (r : Forest Span tree.decl) → AllWellFormed r → (m j : ℕ) (line : Bool)
        → Spells ts m line (further r) j → stops (terminal_at ts j) ≡ true → is_comma (terminal_at ts j) ≡ false
        → (i : ℕ) (u : Tree Span tree.decl) → ReadsDeclaration ts no_in i u m
        → BackFurtherDeclarations ts no_in i u r j
    back_further_declarators no_in tree.end w m j line h c e i u z = record {
      declarations = tree.end;
      same = refl;
      is = subst (λ n. ReadsDeclarations ts no_in i (tree.more u tree.end) n) h
          (reads.last_declaration z (subst (λ n. is_comma (terminal_at ts n) ≡ false) (sym h) e));
    }
    back_further_declarators no_in (tree.more t r) w m j line h c e i u z =
        let k = line_after false (tokens_of_node t) in
        let p = parts ts (suc m) false (tokens_of_node t) (further r) j h.1 in
        let x = back_declarator no_in t w.0 (suc m) p.middle false p.first
        (further_stop ts r p.middle j k p.second c) in
        let y = back_further_declarators no_in r w.1 p.middle j k p.second c e (suc m) x.declaration x.is in
        record {
          declarations = tree.more x.declaration y.declarations;
          same = ap₂ (λ x y. tree.more x y) x.same y.same;
          is = reads.more_declarations z (at h.0) y.is;
        }

    back_statements : (ws : Stmts) → AllWellFormed ws → (i j : ℕ) (line : Bool) → Spells ts i line (tokens_of_all ws) j
        → ends_list (terminal_at ts j) ≡ true → BackStatements ts i ws j
    back_statements tree.end w i j line h e = record {
      statements = tree.end;
      same = refl;
      is = subst (λ n. ReadsStatements ts i tree.end n) h
          (reads.no_statements (subst (λ n. ends_list (terminal_at ts n) ≡ true) (sym h) e));
    }
    back_statements (tree.more t r) w i j line h e =
        let p = parts ts i line (tokens_of_node t) (tokens_of_all r) j h in
        let y = back_statements r w.1 p.middle j (line_after line (tokens_of_node t)) p.second e in
        let x = back_statement t w.0 i p.middle line p.first (statements_begin y.is) in
        record {
          statements = tree.more x.statement y.statements;
          same = ap₂ (λ x y. tree.more x y) x.same y.same;
          is = reads.more_statements x.is y.is;
        }

    back_optional : (t : OptionalTree Span tree.expr) → OptionalWellFormed t → OptionalAlone ts t
    back_optional tree.absent w k i j line h c e f = record {
      optional = tree.absent;
      same = refl;
      is = subst (λ n. ReadsOptional ts k i tree.absent n) h (reads.no_expression (subst (λ n. At ts n k) (sym h) c));
    }
    back_optional (tree.present t) w k i j line h c e f =
        let x = whole t (back t w) false i j line h (ap stops c.is ∙ e) (ap is_comma c.is ∙ f) in
        record { optional = tree.present x.tree; same = ap tree.present x.same; is = reads.one_expression x.is }

    back_init : (t : Tree Span tree.init) → WellFormed t → InitAlone ts t
    back_init tree.nothing w i j line h c = record {
      init = tree.nothing;
      same = refl;
      is = subst (λ n. ReadsInit ts i tree.nothing n) h (reads.no_init (subst (λ n. At ts n semicolon) (sym h) c));
    }
    back_init (tree.init_expression a) w i j line h c =
        let x = whole a (back a w) true i j line h (ap stops c.is) (ap is_comma c.is) in
        record { init = tree.init_expression x.tree; same = ap tree.init_expression x.same; is = reads.an_init x.is }
    back_init (tree.init_var ds) w i j line h c =
        let x = back_declarators true ds w.0 w.1 (suc i) j false h.1 (ap stops c.is) (ap is_comma c.is) in
        record {
          init = tree.init_var x.declarations;
          same = ap tree.init_var x.same;
          is = reads.init_vars (at h.0) x.is;
        }

    back_handler : (t : Tree Span tree.handler) → WellFormed t → HandlerAlone ts t
    back_handler (tree.catch x ws) w i j line h =
        let y = block_back ws (back_statements ws w.1) (suc (suc (suc (suc i)))) j false h.1.1.1.1 in
        record {
          handler = tree.catch (ident_at ts (suc (suc i))) y.statements;
          same = ap₂ (λ x y. tree.catch x y) (same_name x h.1.1.0) y.same;
          is = reads.a_catch (at h.0) (at h.1.0) (identifier w.0 h.1.1.0) (at h.1.1.1.0) y.is;
        }

    back_clauses : (fresh : Bool) (cs : Forest Span tree.clause) → HasOneDefault fresh cs → AllWellFormed cs → (i j : ℕ)
        (line : Bool) → Spells ts i line (tokens_of_all cs) j → At ts j close_brace → BackClauses ts fresh i cs j
    back_clauses fresh tree.end o w i j line h c = record {
      clauses = tree.end;
      same = refl;
      is = subst (λ n. ReadsClauses ts fresh i tree.end n) h
          (reads.no_clauses (subst (λ n. At ts n close_brace) (sym h) c));
    }
    back_clauses fresh (tree.more (tree.case (tree.present a) ws) r) o w i j line h c =
        let p = parts ts (suc i) false (tokens_of_node a ++ (punct puncts.Colon ∷ tokens_of_all ws)) (tokens_of_all r) j
        h.1 in
        let s = parts ts (suc i) false (tokens_of_node a) (punct puncts.Colon ∷ tokens_of_all ws) p.middle p.first in
        let k = at s.second.0 in
        let x = whole a (back a w.0.0) false (suc i) s.middle false s.first (ap stops k.is) (ap is_comma k.is) in
        let z = back_clauses fresh r o w.1 p.middle j
        (line_after false (tokens_of_node a ++ (punct puncts.Colon ∷ tokens_of_all ws))) p.second c in
        let y = back_statements ws w.0.1 (suc s.middle) p.middle false s.second.1 (clauses_begin z.is) in
        record {
          clauses = tree.more (tree.case (tree.present x.tree) y.statements) z.clauses;
          same = same_case x.tree a y.statements ws z.clauses r x.same y.same z.same;
          is = reads.a_case (at h.0) x.is k y.is z.is;
        }
    back_clauses true (tree.more (tree.case tree.absent ws) r) o w i j line h c =
        let p = parts ts (suc (suc i)) false (tokens_of_all ws) (tokens_of_all r) j h.1.1 in
        let z = back_clauses false r o w.1 p.middle j (line_after false (tokens_of_all ws)) p.second c in
        let y = back_statements ws w.0.1 (suc (suc i)) p.middle false p.first (clauses_begin z.is) in
        record {
          clauses = tree.more (tree.case tree.absent y.statements) z.clauses;
          same = ap₂ (λ y z. tree.more (tree.case tree.absent y) z) y.same z.same;
          is = reads.a_default (at h.0) (at h.1.0) y.is z.is;
        }
    back_clauses false (tree.more (tree.case tree.absent ws) r) o w i j line h c = absurd o

    back_statement : (t : Stmt) → WellFormed t → StatementAlone ts t
    back_statement (tree.var ds s) w i j line h q =
        let p = parts ts (suc i) false (tokens_of_declarators ds) (punct puncts.Semicolon ∷ []) j h.1 in
        let k = at p.second.0 in
        let x = back_declarators false ds w.0 w.1 (suc i) p.middle false p.first (ap stops k.is) (ap is_comma k.is) in
        statement_up_to (record {
          statement = tree.var x.declarations (span ts i (suc p.middle));
          same = ap (λ x. tree.var x tt) x.same;
          is = reads.a_var (at h.0) x.is (there k);
        }) p.second.1
    back_statement (tree.empty s) w i j line h q = statement_up_to (record {
      statement = tree.empty (span ts i (suc i));
      same = refl;
      is = reads.an_empty (at h.0);
    }) h.1
    back_statement (tree.expression a s) w i j line h q =
        expression_statement a (back a w) s i j line h
    back_statement (tree.block ws s) w i j line h q =
        let x = block_back ws (back_statements ws w) i j line h in
        record {
          statement = tree.block x.statements (span ts i j);
          same = ap (λ x. tree.block x tt) x.same;
          is = reads.a_block x.is;
        }
    back_statement (tree.if_else a ws tree.absent s) w i j line h q =
        if_back a (back a w.0) ws (back_statements ws w.1) s i j line h q
    back_statement (tree.if_else a ws (tree.present (tree.branch_of us)) s) w i j line h q =
        if_else_back a (back a w.0) ws (back_statements ws w.1) us (back_statements us w.2) s i j line h q
    back_statement (tree.do_while ws a s) w i j line h q =
        do_while_back ws (back_statements ws w.0) a (back a w.1) s i j line h q
    back_statement (tree.while a ws s) w i j line h q =
        while_back a (back a w.0) ws (back_statements ws w.1) s i j line h q
    back_statement (tree.for f a b ws s) w i j line h q =
        for_back f (back_init f w.0) a b (back_optional a w.1) (back_optional b w.2) ws (back_statements ws w.3) s i j
        line h q
    back_statement (tree.for_in true x a ws s) w i j line h q =
        for_var_in_back x w.0 a (back a w.1) ws (back_statements ws w.2) s i j line h q
    back_statement (tree.for_in false x a ws s) w i j line h q =
        for_in_back x w.0 a (back a w.1) ws (back_statements ws w.2) s i j line h q
    back_statement (tree.continue None s) w i j line h q = statement_up_to (record {
      statement = tree.continue None (span ts i (suc (suc i)));
      same = refl;
      is = reads.a_continue (at h.0) (there (at h.1.0));
    }) h.1.1
    back_statement (tree.continue (Some x) s) w i j line h q = statement_up_to (record {
      statement = tree.continue (Some (ident_at ts (suc i))) (span ts i (suc (suc (suc i))));
      same = ap (λ x. tree.continue (Some x) tt) (same_name x h.1.0);
      is = reads.a_continue_to (at h.0) (identifier w h.1.0) h.1.0.line (there (at h.1.1.0));
    }) h.1.1.1
    back_statement (tree.break None s) w i j line h q = statement_up_to (record {
      statement = tree.break None (span ts i (suc (suc i)));
      same = refl;
      is = reads.a_break (at h.0) (there (at h.1.0));
    }) h.1.1
    back_statement (tree.break (Some x) s) w i j line h q = statement_up_to (record {
      statement = tree.break (Some (ident_at ts (suc i))) (span ts i (suc (suc (suc i))));
      same = ap (λ x. tree.break (Some x) tt) (same_name x h.1.0);
      is = reads.a_break_to (at h.0) (identifier w h.1.0) h.1.0.line (there (at h.1.1.0));
    }) h.1.1.1
    back_statement (tree.return tree.absent s) w i j line h q = statement_up_to (record {
      statement = tree.return tree.absent (span ts i (suc (suc i)));
      same = refl;
      is = reads.a_return (at h.0) (there (at h.1.0));
    }) h.1.1
    back_statement (tree.return (tree.present a) s) w i j line h q =
        return_back a (back a w) s i j line h q
    back_statement (tree.labelled x t s) w i j line h q =
        let y = back_statement t w.1 (suc (suc i)) j false h.1.1 q in
        record {
          statement = tree.labelled (ident_at ts i) y.statement (span ts i j);
          same = ap₂ (λ x y. tree.labelled x y tt) (same_name x h.0) y.same;
          is = reads.a_label (identifier w.0 h.0) (at h.1.0) y.is;
        }
    back_statement (tree.switch a cs s) w i j line h q =
        switch_back a (back a w.0) cs (back_clauses true cs w.1 w.2) s i j line h q
    back_statement (tree.throw a s) w i j line h q =
        throw_back a (back a w) s i j line h q
    back_statement (tree.try ws tree.absent tree.absent s) w i j line h q = absurd w.1
    back_statement (tree.try ws (tree.present c) tree.absent s) w i j line h q =
        try_catch_back ws (back_statements ws w.0) c (back_handler c w.2) s i j line h q
    back_statement (tree.try ws tree.absent (tree.present (tree.branch_of us)) s) w i j line h q =
        try_finally_back ws (back_statements ws w.0) us (back_statements us w.3) s i j line h q
    back_statement (tree.try ws (tree.present c) (tree.present (tree.branch_of us)) s) w i j line h q =
        try_both_back ws (back_statements ws w.0) c (back_handler c w.2) us (back_statements us w.3) s i j line h q
    back_statement (tree.debugger s) w i j line h q = statement_up_to (record {
      statement = tree.debugger (span ts i (suc (suc i)));
      same = refl;
      is = reads.a_debugger (at h.0) (there (at h.1.0));
    }) h.1.1

    back_plain : (ws : Stmts) → AllWellFormed ws → (i j : ℕ) (line : Bool) → Spells ts i line (tokens_of_all ws) j
        → ends_list (terminal_at ts j) ≡ true → BackElements ts i tree.end ws j
    back_plain tree.end w i j line h e = record {
      functions = tree.end;
      statements = tree.end;
      same_functions = refl;
      same = refl;
      is = subst (λ n. ReadsElements ts i tree.end tree.end n) h
          (reads.no_elements (subst (λ n. ends_list (terminal_at ts n) ≡ true) (sym h) e));
      opens = no_directive_at_end ts i (subst (λ n. ends_list (terminal_at ts n) ≡ true) (sym h) e);
    }
    back_plain (tree.more t r) w i j line h e =
        let p = parts ts i line (tokens_of_node t) (tokens_of_all r) j h in
        let y = back_plain r w.1 p.middle j (line_after line (tokens_of_node t)) p.second e in
        let x = back_statement t w.0 i p.middle line p.first (elements_begin y.is) in
        record {
          functions = y.functions;
          statements = tree.more x.statement y.statements;
          same_functions = y.same_functions;
          same = ap₂ (λ x y. tree.more x y) x.same y.same;
          is = reads.a_statement x.is y.is;
          opens = no_directive_before t i p.middle line p.first x;
        }

    back_functions : (fs : Forest Span tree.func) → AreNamed fs → AllWellFormed fs
        → (ws : Stmts) (i m j : ℕ) (line : Bool)
        → Spells ts i line (tokens_of_all fs) m → BackElements ts m tree.end ws j → BackElements ts i fs ws j
    back_functions tree.end o w ws i m j line h rest =
        subst (λ n. BackElements ts n tree.end ws j) (sym h) rest
    back_functions (tree.more (tree.function n None ps c s) fs) o w ws i m j line h rest = absurd o
    back_functions (tree.more (tree.function n (Some x) ps c s) fs) o w ws i m j line h rest =
        let ks = parameters ps ++ within_braces (tokens_of_node c) in
        let p = parts ts (suc (suc i)) false ks (tokens_of_all fs) m h.1.1 in
        let r = rest_back ps c w.0.1 (back_body c w.0.2) (suc (suc i)) p.middle false p.first in
        let y = back_functions fs o w.1 ws p.middle m j (line_after false ks) p.second rest in
        record {
          functions = tree.more (tree.function 0 (Some (ident_at ts (suc i))) r.names r.code (span ts i p.middle))
              y.functions;
          statements = y.statements;
          same_functions = same_declaration (ident_at ts (suc i)) x r.names ps r.code c y.functions fs
              (same_name x h.1.0) r.same_names r.same y.same_functions;
          same = y.same;
          is = reads.a_declaration
              (reads.a_declared_function (at h.0) (identifier w.0.0 h.1.0) r.is) y.is;
          opens = no_directive_at_function ts i (at h.0);
        }

    pub back_body : (c : Code) → WellFormed c → BodyAlone ts c
    back_body (tree.body false fs ws) w i j line h e =
        let p = parts ts i line (tokens_of_all fs) (tokens_of_all ws) j h in
        let y = back_plain ws w.2 p.middle j (line_after line (tokens_of_all fs)) p.second e in
        let x = back_functions fs w.0 w.1 ws i p.middle j line p.first y in
        record {
          code = tree.body false x.functions x.statements;
          same = ap₂ (λ x y. tree.body false x y) x.same_functions x.same;
          is = reads.no_directive x.opens x.is;
        }
    back_body (tree.body true fs ws) w i j line h e =
        let p = parts ts (suc (suc i)) true (tokens_of_all fs) (tokens_of_all ws) j h.1.1 in
        let y = back_plain ws w.2 p.middle j (line_after true (tokens_of_all fs)) p.second e in
        let x = back_functions fs w.0 w.1 ws (suc (suc i)) p.middle j true p.first y in
        let c = at h.1.0 in
        record {
          code = tree.body (strict_at ts i || false) x.functions x.statements;
          same = ap (λ b. tree.body b (skeleton_forest x.functions) (skeleton_forest x.statements)) (is_strict h.0)
              ∙ ap₂ (λ x y. tree.body true x y) x.same_functions x.same;
          is = reads.a_directive (at h.0) (stops_directive c) (there c) (reads.no_directive x.opens x.is);
        }
