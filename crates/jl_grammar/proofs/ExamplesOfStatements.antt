-- What small texts read as; the trees are those of the standard, without their places.
use Rattle.std.proofs.Common.{◌≡◌, refl, true, false, [], ◌∷◌, Some, None, codes, pos}
use Rattle.jl_ast.specs.declared.ops.BinOp.TheVariants as ops
use Rattle.jl_ast.specs.Tree as tree
use Rattle.jl_token.specs.declared.punct.Punct.TheVariants as puncts
use Rattle.jl_grammar.specs.Brackets.{open_brackets}
use Rattle.jl_grammar.specs.Tokens.{span}
use Rattle.jl_grammar.specs.Reader.{ends_at, names_from, parameters_at, label_at, then_close_paren, statements_from}
use Rattle.jl_grammar.specs.Reader.{block_at, elements_from, body_from, rest_at, function_at, items_from, value_at}
use Rattle.jl_grammar.specs.Reader.{getter_by, setter_by, accessor_at, entry_by, entry_at, entries_from, primary_by}
use Rattle.jl_grammar.specs.Reader.{primary_at, arguments_from, arguments_at, new_at, start_at, left_by, left_from}
use Rattle.jl_grammar.specs.Reader.{left_at, postfix_by, postfix_at, unary_by, unary_at, binary_by, binary_from}
use Rattle.jl_grammar.specs.Reader.{binary_at, conditional_from, conditional_at, assignment_by, assignment_at}
use Rattle.jl_grammar.specs.Reader.{comma_from, expression_at, head_at, sub_at, declaration_at, declarations_from}
use Rattle.jl_grammar.specs.Reader.{var_at, express_at, else_from, if_at, do_at, while_at, optional_at, for_from}
use Rattle.jl_grammar.specs.Reader.{for_in_from, for_var_at, for_expression_at, for_at, continue_at, break_at}
use Rattle.jl_grammar.specs.Reader.{return_by, return_at, throw_at, clauses_from, switch_at, catch_at, finally_from}
use Rattle.jl_grammar.specs.Reader.{try_at, named_at, statement_by, statement_at, node}
use Rattle.jl_grammar.specs.ReaderLevels.{deeper, program_at}
use Rattle.jl_grammar.proofs.Sample.{read, program, word, number, string, odd_string, terminal, below, ident, a, b, c}
use Rattle.jl_grammar.proofs.Sample.{d, f, x, y}

-- conditionals, assignments and commas (11.12 to 11.14)
pub assignments :
    -- a ? b : c = d
    (read (word a ∷ terminal puncts.Question ∷ word b ∷ terminal puncts.Colon ∷ word c ∷ terminal puncts.Assign ∷ word d
    ∷ [])
    ≡ program (tree.body false tree.end (tree.forest
    ((tree.expression (tree.conditional (tree.name a tt) (tree.name b tt)
    (tree.assign None (tree.to_name (ident c)) (tree.name d tt) tt) tt) tt) ∷ []))))
    -- a ? b : c ? d : x
    × (read (word a ∷ terminal puncts.Question ∷ word b ∷ terminal puncts.Colon ∷ word c ∷ terminal puncts.Question
    ∷ word d
    ∷ terminal puncts.Colon ∷ word x ∷ []) ≡ program
    (tree.body false tree.end (tree.forest ((tree.expression
    (tree.conditional (tree.name a tt) (tree.name b tt)
    (tree.conditional (tree.name c tt) (tree.name d tt) (tree.name x tt) tt) tt) tt) ∷ []))))
    -- a ? b = c : d
    × (read (word a ∷ terminal puncts.Question ∷ word b ∷ terminal puncts.Assign ∷ word c ∷ terminal puncts.Colon
    ∷ word d ∷ [])
    ≡ program (tree.body false tree.end (tree.forest
    ((tree.expression (tree.conditional (tree.name a tt)
    (tree.assign None (tree.to_name (ident b)) (tree.name c tt) tt) (tree.name d tt) tt) tt) ∷ []))))
    -- a = b += c.d >>>= x
    × (read (word a ∷ terminal puncts.Assign ∷ word b ∷ terminal puncts.PlusAssign ∷ word c ∷ terminal puncts.Dot
    ∷ word d
    ∷ terminal puncts.ShiftRightUnsignedAssign ∷ word x ∷ [])
    ≡ program (tree.body false tree.end (tree.forest
    ((tree.expression (tree.assign None (tree.to_name (ident a))
    (tree.assign (Some ops.Add) (tree.to_name (ident b))
    (tree.assign (Some ops.Shr) (tree.to_dot (tree.name c tt) d tt) (tree.name x tt) tt) tt) tt) tt) ∷ []))))
    -- a[b] *= c
    × (read (word a ∷ terminal puncts.LeftBracket ∷ word b ∷ terminal puncts.RightBracket ∷ terminal puncts.StarAssign
    ∷ word c
    ∷ []) ≡ program (tree.body false tree.end
    (tree.forest ((tree.expression (tree.assign (Some ops.Mul) (tree.to_index (tree.name a tt) (tree.name b tt) tt)
    (tree.name c tt) tt) tt) ∷ []))))
    -- a, b = c, d
    × (read (word a ∷ terminal puncts.Comma ∷ word b ∷ terminal puncts.Assign ∷ word c ∷ terminal puncts.Comma ∷ word d
    ∷ [])
    ≡ program (tree.body false tree.end (tree.forest
    ((tree.expression (tree.comma (tree.comma (tree.name a tt)
    (tree.assign None (tree.to_name (ident b)) (tree.name c tt) tt) tt) (tree.name d tt) tt) tt) ∷ []))))
    -- a ? b, c : d
    × (read (word a ∷ terminal puncts.Question ∷ word b ∷ terminal puncts.Comma ∷ word c ∷ terminal puncts.Colon
    ∷ word d ∷ [])
    ≡ None)
    -- (a) = b
    × (read (terminal puncts.LeftParen ∷ word a ∷ terminal puncts.RightParen ∷ terminal puncts.Assign ∷ word b ∷ [])
    ≡ program (tree.body false tree.end (tree.forest
    ((tree.expression (tree.assign None (tree.to_name (ident a)) (tree.name b tt) tt) tt) ∷ []))))
    -- a + b = c
    × (read (word a ∷ terminal puncts.Plus ∷ word b ∷ terminal puncts.Assign ∷ word c ∷ []) ≡ None)
    -- a() = b
    × (read (word a ∷ terminal puncts.LeftParen ∷ terminal puncts.RightParen ∷ terminal puncts.Assign ∷ word b ∷ [])
    ≡ None)
    -- a && b = c
    × (read (word a ∷ terminal puncts.AndAnd ∷ word b ∷ terminal puncts.Assign ∷ word c ∷ []) ≡ None)
unfolding span open_brackets ends_at names_from parameters_at label_at then_close_paren statements_from block_at
    elements_from
    body_from rest_at function_at items_from value_at getter_by setter_by accessor_at entry_by entry_at entries_from
    primary_by primary_at arguments_from arguments_at new_at start_at left_by left_from left_at postfix_by postfix_at
    unary_by unary_at binary_by binary_from binary_at conditional_from conditional_at assignment_by assignment_at
    comma_from expression_at head_at sub_at declaration_at declarations_from var_at express_at else_from if_at do_at
    while_at optional_at for_from for_in_from for_var_at for_expression_at for_at continue_at break_at return_by
    return_at
    throw_at clauses_from switch_at catch_at finally_from try_at named_at statement_by statement_at node deeper
    program_at
assignments = (refl, refl, refl, refl, refl, refl, refl, refl, refl, refl, refl)

-- inserted semicolons and restricted productions (7.9)
pub semicolons :
    -- a (new line) b
    (read (word a ∷ below (word b) ∷ []) ≡ program
    (tree.body false tree.end (tree.forest ((tree.expression (tree.name a tt) tt)
    ∷ (tree.expression (tree.name b tt) tt) ∷ []))))
    -- a b
    × (read (word a ∷ word b ∷ []) ≡ None)
    -- { a }
    × (read (terminal puncts.LeftBrace ∷ word a ∷ terminal puncts.RightBrace ∷ [])
    ≡ program (tree.body false tree.end (tree.forest
    ((tree.block (tree.forest ((tree.expression (tree.name a tt) tt) ∷ [])) tt) ∷ []))))
    -- x (new line) ++ y
    × (read (word x ∷ below (terminal puncts.PlusPlus) ∷ word y ∷ [])
    ≡ program (tree.body false tree.end (tree.forest ((tree.expression (tree.name x tt) tt)
    ∷ (tree.expression (tree.update true true (tree.to_name (ident y)) tt) tt) ∷ []))))
    -- a (new line) (b)
    × (read (word a ∷ below (terminal puncts.LeftParen) ∷ word b ∷ terminal puncts.RightParen ∷ [])
    ≡ program (tree.body false tree.end (tree.forest
    ((tree.expression (tree.call (tree.name a tt) (tree.forest ((tree.name b tt) ∷ [])) tt) tt) ∷ []))))
    -- a (new line) + b
    × (read (word a ∷ below (terminal puncts.Plus) ∷ word b ∷ [])
    ≡ program (tree.body false tree.end (tree.forest
    ((tree.expression (tree.binary ops.Add (tree.name a tt) (tree.name b tt) tt) tt) ∷ []))))
    -- var a (new line) var b = c (new line) , d
    × (read (word (codes "var") ∷ word a ∷ below (word (codes "var")) ∷ word b ∷ terminal puncts.Assign ∷ word c
    ∷ below (terminal puncts.Comma) ∷ word d ∷ [])
    ≡ program (tree.body false tree.end (tree.forest
    ((tree.var (tree.forest ((tree.declarator (ident a) tree.absent) ∷ [])) tt)
    ∷ (tree.var (tree.forest ((tree.declarator (ident b) (tree.present (tree.name c tt)))
    ∷ (tree.declarator (ident d) tree.absent) ∷ [])) tt) ∷ []))))
    -- return (new line) 1
    × (read (word (codes "return") ∷ below (number 1) ∷ [])
    ≡ program (tree.body false tree.end (tree.forest ((tree.return tree.absent tt)
    ∷ (tree.expression (tree.number (Some (pos 1)) tt) tt) ∷ []))))
    -- return a
    × (read (word (codes "return") ∷ word a ∷ [])
    ≡ program (tree.body false tree.end (tree.forest ((tree.return (tree.present (tree.name a tt)) tt) ∷ []))))
    -- a: while (b) { continue (new line) a (new line) break a (new line) break (new line) ; }
    × (read (word a ∷ terminal puncts.Colon ∷ word (codes "while") ∷ terminal puncts.LeftParen ∷ word b
    ∷ terminal puncts.RightParen
    ∷ terminal puncts.LeftBrace ∷ word (codes "continue") ∷ below (word a) ∷ below (word (codes "break")) ∷ word a
    ∷ below (word (codes "break")) ∷ below (terminal puncts.Semicolon) ∷ terminal puncts.RightBrace ∷ [])
    ≡ program (tree.body false tree.end (tree.forest
    ((tree.labelled (ident a) (tree.while (tree.name b tt)
    (tree.forest ((tree.continue None tt) ∷ (tree.expression (tree.name a tt) tt) ∷ (tree.break (Some (ident a)) tt)
    ∷ (tree.break None tt) ∷ [])) tt) tt) ∷ []))))
    -- throw (new line) a
    × (read (word (codes "throw") ∷ below (word a) ∷ []) ≡ None)
    -- do ; while (0) x
    × (read (word (codes "do") ∷ terminal puncts.Semicolon ∷ word (codes "while") ∷ terminal puncts.LeftParen ∷ number 0
    ∷ terminal puncts.RightParen ∷ word x ∷ []) ≡ None)
    -- do ; while (0) (new line) x
    × (read (word (codes "do") ∷ terminal puncts.Semicolon ∷ word (codes "while") ∷ terminal puncts.LeftParen ∷ number 0
    ∷ terminal puncts.RightParen ∷ below (word x) ∷ [])
    ≡ program (tree.body false tree.end (tree.forest
    ((tree.do_while (tree.forest ((tree.empty tt) ∷ [])) (tree.number (Some (pos 0)) tt) tt)
    ∷ (tree.expression (tree.name x tt) tt) ∷ []))))
    -- debugger (new line) a
    × (read (word (codes "debugger") ∷ below (word a) ∷ [])
    ≡ program (tree.body false tree.end (tree.forest ((tree.debugger tt) ∷ (tree.expression (tree.name a tt) tt)
    ∷ []))))
    -- if (a) (new line)
    × (read (word (codes "if") ∷ terminal puncts.LeftParen ∷ word a ∷ terminal puncts.RightParen ∷ []) ≡ None)
    -- for (a (new line) b; c) ;
    × (read (word (codes "for") ∷ terminal puncts.LeftParen ∷ word a ∷ below (word b) ∷ terminal puncts.Semicolon
    ∷ word c
    ∷ terminal puncts.RightParen ∷ terminal puncts.Semicolon ∷ []) ≡ None)
    -- for (a; b (new line) ) ;
    × (read (word (codes "for") ∷ terminal puncts.LeftParen ∷ word a ∷ terminal puncts.Semicolon ∷ word b
    ∷ below (terminal puncts.RightParen) ∷ terminal puncts.Semicolon ∷ []) ≡ None)
    -- { 1 2 } 3
    × (read (terminal puncts.LeftBrace ∷ number 1 ∷ number 2 ∷ terminal puncts.RightBrace ∷ number 3 ∷ []) ≡ None)
unfolding span open_brackets ends_at names_from parameters_at label_at then_close_paren statements_from block_at
    elements_from
    body_from rest_at function_at items_from value_at getter_by setter_by accessor_at entry_by entry_at entries_from
    primary_by primary_at arguments_from arguments_at new_at start_at left_by left_from left_at postfix_by postfix_at
    unary_by unary_at binary_by binary_from binary_at conditional_from conditional_at assignment_by assignment_at
    comma_from expression_at head_at sub_at declaration_at declarations_from var_at express_at else_from if_at do_at
    while_at optional_at for_from for_in_from for_var_at for_expression_at for_at continue_at break_at return_by
    return_at
    throw_at clauses_from switch_at catch_at finally_from try_at named_at statement_by statement_at node deeper
    program_at
semicolons = (
  refl,
  refl,
  refl,
  refl,
  refl,
  refl,
  refl,
  refl,
  refl,
  refl,
  refl,
  refl,
  refl,
  refl,
  refl,
  refl,
  refl,
  refl,
)

-- statements (clause 12)
pub statements :
    -- { } { a; { } }
    (read (terminal puncts.LeftBrace ∷ terminal puncts.RightBrace ∷ terminal puncts.LeftBrace ∷ word a
    ∷ terminal puncts.Semicolon
    ∷ terminal puncts.LeftBrace ∷ terminal puncts.RightBrace ∷ terminal puncts.RightBrace ∷ [])
    ≡ program (tree.body false tree.end (tree.forest ((tree.block tree.end tt)
    ∷ (tree.block (tree.forest ((tree.expression (tree.name a tt) tt) ∷ (tree.block tree.end tt) ∷ [])) tt) ∷ []))))
    -- ;
    × (read (terminal puncts.Semicolon ∷ []) ≡ program (tree.body false tree.end (tree.forest ((tree.empty tt) ∷ []))))
    -- if (a) b; else c
    × (read (word (codes "if") ∷ terminal puncts.LeftParen ∷ word a ∷ terminal puncts.RightParen ∷ word b
    ∷ terminal puncts.Semicolon ∷ word (codes "else") ∷ word c ∷ [])
    ≡ program (tree.body false tree.end (tree.forest
    ((tree.if_else (tree.name a tt) (tree.forest ((tree.expression (tree.name b tt) tt) ∷ []))
    (tree.present (tree.branch_of (tree.forest ((tree.expression (tree.name c tt) tt) ∷ [])))) tt) ∷ []))))
    -- if (a) if (b) c; else d
    × (read (word (codes "if") ∷ terminal puncts.LeftParen ∷ word a ∷ terminal puncts.RightParen ∷ word (codes "if")
    ∷ terminal puncts.LeftParen ∷ word b ∷ terminal puncts.RightParen ∷ word c ∷ terminal puncts.Semicolon
    ∷ word (codes "else")
    ∷ word d ∷ []) ≡ program (tree.body false tree.end
    (tree.forest ((tree.if_else (tree.name a tt) (tree.forest
    ((tree.if_else (tree.name b tt) (tree.forest ((tree.expression (tree.name c tt) tt) ∷ []))
    (tree.present (tree.branch_of (tree.forest ((tree.expression (tree.name d tt) tt) ∷ [])))) tt) ∷ [])) tree.absent
    tt) ∷ []))))
    -- if (a) { if (b) c } else d
    × (read (word (codes "if") ∷ terminal puncts.LeftParen ∷ word a ∷ terminal puncts.RightParen
    ∷ terminal puncts.LeftBrace
    ∷ word (codes "if") ∷ terminal puncts.LeftParen ∷ word b ∷ terminal puncts.RightParen ∷ word c
    ∷ terminal puncts.RightBrace
    ∷ word (codes "else") ∷ word d ∷ []) ≡ program
    (tree.body false tree.end (tree.forest ((tree.if_else (tree.name a tt)
    (tree.forest ((tree.if_else (tree.name b tt) (tree.forest ((tree.expression (tree.name c tt) tt) ∷ [])) tree.absent
    tt)
    ∷ [])) (tree.present (tree.branch_of (tree.forest ((tree.expression (tree.name d tt) tt) ∷ [])))) tt) ∷ []))))
    -- while (a) { b; c }
    × (read (word (codes "while") ∷ terminal puncts.LeftParen ∷ word a ∷ terminal puncts.RightParen
    ∷ terminal puncts.LeftBrace
    ∷ word b ∷ terminal puncts.Semicolon ∷ word c ∷ terminal puncts.RightBrace ∷ [])
    ≡ program (tree.body false tree.end (tree.forest
    ((tree.while (tree.name a tt) (tree.forest ((tree.expression (tree.name b tt) tt)
    ∷ (tree.expression (tree.name c tt) tt) ∷ [])) tt) ∷ []))))
    -- a: b: c
    × (read (word a ∷ terminal puncts.Colon ∷ word b ∷ terminal puncts.Colon ∷ word c ∷ [])
    ≡ program (tree.body false tree.end (tree.forest
    ((tree.labelled (ident a) (tree.labelled (ident b) (tree.expression (tree.name c tt) tt) tt) tt) ∷ []))))
    -- a: function f() { }
    × (read (word a ∷ terminal puncts.Colon ∷ word (codes "function") ∷ word f ∷ terminal puncts.LeftParen
    ∷ terminal puncts.RightParen ∷ terminal puncts.LeftBrace ∷ terminal puncts.RightBrace ∷ []) ≡ None)
    -- switch (a) { case b: c; d; default: case 1: }
    × (read (word (codes "switch") ∷ terminal puncts.LeftParen ∷ word a ∷ terminal puncts.RightParen
    ∷ terminal puncts.LeftBrace
    ∷ word (codes "case") ∷ word b ∷ terminal puncts.Colon ∷ word c ∷ terminal puncts.Semicolon ∷ word d
    ∷ terminal puncts.Semicolon ∷ word (codes "default") ∷ terminal puncts.Colon ∷ word (codes "case") ∷ number 1
    ∷ terminal puncts.Colon ∷ terminal puncts.RightBrace ∷ [])
    ≡ program (tree.body false tree.end (tree.forest
    ((tree.switch (tree.name a tt) (tree.forest
    ((tree.case (tree.present (tree.name b tt))
    (tree.forest ((tree.expression (tree.name c tt) tt) ∷ (tree.expression (tree.name d tt) tt) ∷ [])))
    ∷ (tree.case tree.absent tree.end) ∷ (tree.case (tree.present (tree.number (Some (pos 1)) tt)) tree.end) ∷ []))
    tt) ∷ []))))
    -- switch (a) { default: default: }
    × (read (word (codes "switch") ∷ terminal puncts.LeftParen ∷ word a ∷ terminal puncts.RightParen
    ∷ terminal puncts.LeftBrace
    ∷ word (codes "default") ∷ terminal puncts.Colon ∷ word (codes "default") ∷ terminal puncts.Colon
    ∷ terminal puncts.RightBrace ∷ []) ≡ None)
    -- switch (a) { }
    × (read (word (codes "switch") ∷ terminal puncts.LeftParen ∷ word a ∷ terminal puncts.RightParen
    ∷ terminal puncts.LeftBrace
    ∷ terminal puncts.RightBrace ∷ []) ≡ program
    (tree.body false tree.end (tree.forest ((tree.switch (tree.name a tt) tree.end tt) ∷ []))))
    -- throw a
    × (read (word (codes "throw") ∷ word a ∷ [])
    ≡ program (tree.body false tree.end (tree.forest ((tree.throw (tree.name a tt) tt) ∷ []))))
    -- try { a } catch (x) { b }
    × (read (word (codes "try") ∷ terminal puncts.LeftBrace ∷ word a ∷ terminal puncts.RightBrace ∷ word (codes "catch")
    ∷ terminal puncts.LeftParen ∷ word x ∷ terminal puncts.RightParen ∷ terminal puncts.LeftBrace ∷ word b
    ∷ terminal puncts.RightBrace ∷ []) ≡ program
    (tree.body false tree.end (tree.forest ((tree.try (tree.forest ((tree.expression (tree.name a tt) tt) ∷ []))
    (tree.present (tree.catch (ident x) (tree.forest ((tree.expression (tree.name b tt) tt) ∷ [])))) tree.absent tt)
    ∷ []))))
    -- try { } finally { a }
    × (read (word (codes "try") ∷ terminal puncts.LeftBrace ∷ terminal puncts.RightBrace ∷ word (codes "finally")
    ∷ terminal puncts.LeftBrace ∷ word a ∷ terminal puncts.RightBrace ∷ [])
    ≡ program (tree.body false tree.end (tree.forest
    ((tree.try tree.end tree.absent (tree.present
    (tree.branch_of (tree.forest ((tree.expression (tree.name a tt) tt) ∷ [])))) tt) ∷ []))))
    -- try { } catch (x) { } finally { a }
    × (read (word (codes "try") ∷ terminal puncts.LeftBrace ∷ terminal puncts.RightBrace ∷ word (codes "catch")
    ∷ terminal puncts.LeftParen ∷ word x ∷ terminal puncts.RightParen ∷ terminal puncts.LeftBrace
    ∷ terminal puncts.RightBrace
    ∷ word (codes "finally") ∷ terminal puncts.LeftBrace ∷ word a ∷ terminal puncts.RightBrace ∷ [])
    ≡ program (tree.body false tree.end (tree.forest
    ((tree.try tree.end (tree.present (tree.catch (ident x) tree.end))
    (tree.present (tree.branch_of (tree.forest ((tree.expression (tree.name a tt) tt) ∷ [])))) tt) ∷ []))))
    -- try { }
    × (read (word (codes "try") ∷ terminal puncts.LeftBrace ∷ terminal puncts.RightBrace ∷ []) ≡ None)
    -- with (a) b
    × (read (word (codes "with") ∷ terminal puncts.LeftParen ∷ word a ∷ terminal puncts.RightParen ∷ word b ∷ [])
    ≡ None)
unfolding span open_brackets ends_at names_from parameters_at label_at then_close_paren statements_from block_at
    elements_from
    body_from rest_at function_at items_from value_at getter_by setter_by accessor_at entry_by entry_at entries_from
    primary_by primary_at arguments_from arguments_at new_at start_at left_by left_from left_at postfix_by postfix_at
    unary_by unary_at binary_by binary_from binary_at conditional_from conditional_at assignment_by assignment_at
    comma_from expression_at head_at sub_at declaration_at declarations_from var_at express_at else_from if_at do_at
    while_at optional_at for_from for_in_from for_var_at for_expression_at for_at continue_at break_at return_by
    return_at
    throw_at clauses_from switch_at catch_at finally_from try_at named_at statement_by statement_at node deeper
    program_at
statements = (refl, refl, refl, refl, refl, refl, refl, refl, refl, refl, refl, refl, refl, refl, refl, refl, refl)

-- `for` and `for-in` (12.6.3, 12.6.4), with NoIn in their heads
pub loops :
    -- for (;;) a
    (read (word (codes "for") ∷ terminal puncts.LeftParen ∷ terminal puncts.Semicolon ∷ terminal puncts.Semicolon
    ∷ terminal puncts.RightParen ∷ word a ∷ []) ≡ program
    (tree.body false tree.end (tree.forest ((tree.for tree.nothing tree.absent tree.absent
    (tree.forest ((tree.expression (tree.name a tt) tt) ∷ [])) tt) ∷ []))))
    -- for (a; b; c) { }
    × (read (word (codes "for") ∷ terminal puncts.LeftParen ∷ word a ∷ terminal puncts.Semicolon ∷ word b
    ∷ terminal puncts.Semicolon ∷ word c ∷ terminal puncts.RightParen ∷ terminal puncts.LeftBrace
    ∷ terminal puncts.RightBrace ∷ [])
    ≡ program (tree.body false tree.end (tree.forest
    ((tree.for (tree.init_expression (tree.name a tt)) (tree.present (tree.name b tt))
    (tree.present (tree.name c tt)) tree.end tt) ∷ []))))
    -- for (var a = b, c; ; d) ;
    × (read (word (codes "for") ∷ terminal puncts.LeftParen ∷ word (codes "var") ∷ word a ∷ terminal puncts.Assign
    ∷ word b
    ∷ terminal puncts.Comma ∷ word c ∷ terminal puncts.Semicolon ∷ terminal puncts.Semicolon ∷ word d
    ∷ terminal puncts.RightParen
    ∷ terminal puncts.Semicolon
    ∷ []) ≡ program (tree.body false tree.end
    (tree.forest ((tree.for (tree.init_var (tree.forest ((tree.declarator (ident a) (tree.present (tree.name b tt)))
    ∷ (tree.declarator (ident c) tree.absent) ∷ []))) tree.absent (tree.present (tree.name d tt))
    (tree.forest ((tree.empty tt) ∷ [])) tt) ∷ []))))
    -- for (a = b in c; ; ) ;
    × (read (word (codes "for") ∷ terminal puncts.LeftParen ∷ word a ∷ terminal puncts.Assign ∷ word b
    ∷ word (codes "in")
    ∷ word c ∷ terminal puncts.Semicolon ∷ terminal puncts.Semicolon ∷ terminal puncts.RightParen
    ∷ terminal puncts.Semicolon ∷ [])
    ≡ None)
    -- for (a = (b in c); ; ) ;
    × (read (word (codes "for") ∷ terminal puncts.LeftParen ∷ word a ∷ terminal puncts.Assign
    ∷ terminal puncts.LeftParen ∷ word b
    ∷ word (codes "in") ∷ word c ∷ terminal puncts.RightParen ∷ terminal puncts.Semicolon ∷ terminal puncts.Semicolon
    ∷ terminal puncts.RightParen ∷ terminal puncts.Semicolon ∷ [])
    ≡ program (tree.body false tree.end (tree.forest
    ((tree.for (tree.init_expression (tree.assign None (tree.to_name (ident a))
    (tree.binary ops.In (tree.name b tt) (tree.name c tt) tt) tt)) tree.absent tree.absent
    (tree.forest ((tree.empty tt) ∷ [])) tt) ∷ []))))
    -- for (a ? b in c : d; ; ) ;
    × (read (word (codes "for") ∷ terminal puncts.LeftParen ∷ word a ∷ terminal puncts.Question ∷ word b
    ∷ word (codes "in")
    ∷ word c ∷ terminal puncts.Colon ∷ word d ∷ terminal puncts.Semicolon ∷ terminal puncts.Semicolon
    ∷ terminal puncts.RightParen
    ∷ terminal puncts.Semicolon
    ∷ []) ≡ program (tree.body false tree.end
    (tree.forest ((tree.for (tree.init_expression
    (tree.conditional (tree.name a tt) (tree.binary ops.In (tree.name b tt) (tree.name c tt) tt)
    (tree.name d tt) tt)) tree.absent tree.absent (tree.forest ((tree.empty tt) ∷ [])) tt) ∷ []))))
    -- for (a in b) c
    × (read (word (codes "for") ∷ terminal puncts.LeftParen ∷ word a ∷ word (codes "in") ∷ word b
    ∷ terminal puncts.RightParen
    ∷ word c ∷ []) ≡ program (tree.body false tree.end
    (tree.forest ((tree.for_in false (ident a) (tree.name b tt)
    (tree.forest ((tree.expression (tree.name c tt) tt) ∷ [])) tt) ∷ []))))
    -- for ((a) in b, c) ;
    × (read (word (codes "for") ∷ terminal puncts.LeftParen ∷ terminal puncts.LeftParen ∷ word a
    ∷ terminal puncts.RightParen
    ∷ word (codes "in") ∷ word b ∷ terminal puncts.Comma ∷ word c ∷ terminal puncts.RightParen
    ∷ terminal puncts.Semicolon ∷ [])
    ≡ program (tree.body false tree.end (tree.forest
    ((tree.for_in false (ident a) (tree.comma (tree.name b tt) (tree.name c tt) tt)
    (tree.forest ((tree.empty tt) ∷ [])) tt) ∷ []))))
    -- for (var a in b) { }
    × (read (word (codes "for") ∷ terminal puncts.LeftParen ∷ word (codes "var") ∷ word a ∷ word (codes "in") ∷ word b
    ∷ terminal puncts.RightParen ∷ terminal puncts.LeftBrace ∷ terminal puncts.RightBrace ∷ [])
    ≡ program (tree.body false tree.end (tree.forest ((tree.for_in true (ident a) (tree.name b tt) tree.end tt)
    ∷ []))))
    -- for (var a = b in c) ;
    × (read (word (codes "for") ∷ terminal puncts.LeftParen ∷ word (codes "var") ∷ word a ∷ terminal puncts.Assign
    ∷ word b
    ∷ word (codes "in") ∷ word c ∷ terminal puncts.RightParen ∷ terminal puncts.Semicolon ∷ []) ≡ None)
    -- for (a.b in c) ;
    × (read (word (codes "for") ∷ terminal puncts.LeftParen ∷ word a ∷ terminal puncts.Dot ∷ word b ∷ word (codes "in")
    ∷ word c
    ∷ terminal puncts.RightParen ∷ terminal puncts.Semicolon ∷ []) ≡ None)
unfolding span open_brackets ends_at names_from parameters_at label_at then_close_paren statements_from block_at
    elements_from
    body_from rest_at function_at items_from value_at getter_by setter_by accessor_at entry_by entry_at entries_from
    primary_by primary_at arguments_from arguments_at new_at start_at left_by left_from left_at postfix_by postfix_at
    unary_by unary_at binary_by binary_from binary_at conditional_from conditional_at assignment_by assignment_at
    comma_from expression_at head_at sub_at declaration_at declarations_from var_at express_at else_from if_at do_at
    while_at optional_at for_from for_in_from for_var_at for_expression_at for_at continue_at break_at return_by
    return_at
    throw_at clauses_from switch_at catch_at finally_from try_at named_at statement_by statement_at node deeper
    program_at
loops = (refl, refl, refl, refl, refl, refl, refl, refl, refl, refl, refl)

-- directives (14.1)
pub directives :
    -- "use strict"
    (read (string (codes "use strict") ∷ [])
    ≡ program (tree.body true tree.end tree.end))
    -- "a"; "use strict" (new line) a
    × (read (string (codes "a") ∷ terminal puncts.Semicolon ∷ string (codes "use strict") ∷ below (word a) ∷ [])
    ≡ program (tree.body true tree.end (tree.forest ((tree.expression (tree.name a tt) tt) ∷ []))))
    -- a; "use strict"
    × (read (word a ∷ terminal puncts.Semicolon ∷ string (codes "use strict") ∷ [])
    ≡ program (tree.body false tree.end (tree.forest ((tree.expression (tree.name a tt) tt)
    ∷ (tree.expression (tree.string (codes "use strict") tt) tt) ∷ []))))
    -- ("use strict")
    × (read (terminal puncts.LeftParen ∷ string (codes "use strict") ∷ terminal puncts.RightParen ∷ [])
    ≡ program (tree.body false tree.end (tree.forest ((tree.expression (tree.string (codes "use strict") tt) tt)
    ∷ []))))
    -- "use strict" + a
    × (read (string (codes "use strict") ∷ terminal puncts.Plus ∷ word a ∷ [])
    ≡ program (tree.body false tree.end (tree.forest
    ((tree.expression (tree.binary ops.Add (tree.string (codes "use strict") tt) (tree.name a tt) tt) tt) ∷ []))))
    -- "use strict" (new line) .a
    × (read (string (codes "use strict") ∷ below (terminal puncts.Dot) ∷ word a ∷ [])
    ≡ program (tree.body false tree.end (tree.forest
    ((tree.expression (tree.dot (tree.string (codes "use strict") tt) a tt) tt) ∷ []))))
    -- 'use strict'
    × (read (odd_string (codes "use strict") ∷ [])
    ≡ program (tree.body false tree.end tree.end))
    -- "use strict" a
    × (read (string (codes "use strict") ∷ word a ∷ [])
    ≡ None)
    -- function f() { "use strict" }
    × (read (word (codes "function") ∷ word f ∷ terminal puncts.LeftParen ∷ terminal puncts.RightParen
    ∷ terminal puncts.LeftBrace
    ∷ string (codes "use strict") ∷ terminal puncts.RightBrace ∷ [])
    ≡ program (tree.body false (tree.forest ((tree.function 0 (Some (ident f)) (([]))
    (tree.body true tree.end tree.end) tt)
    ∷ [])) tree.end))
unfolding span open_brackets ends_at names_from parameters_at label_at then_close_paren statements_from block_at
    elements_from
    body_from rest_at function_at items_from value_at getter_by setter_by accessor_at entry_by entry_at entries_from
    primary_by primary_at arguments_from arguments_at new_at start_at left_by left_from left_at postfix_by postfix_at
    unary_by unary_at binary_by binary_from binary_at conditional_from conditional_at assignment_by assignment_at
    comma_from expression_at head_at sub_at declaration_at declarations_from var_at express_at else_from if_at do_at
    while_at optional_at for_from for_in_from for_var_at for_expression_at for_at continue_at break_at return_by
    return_at
    throw_at clauses_from switch_at catch_at finally_from try_at named_at statement_by statement_at node deeper
    program_at
directives = (refl, refl, refl, refl, refl, refl, refl, refl, refl)
