-- What small texts read as; the trees are those of the standard, without their places.
use Rattle.std.proofs.Common.{◌≡◌, refl, true, false, [], ◌∷◌, Some, None, codes, pos}
use Rattle.jl_ast.specs.declared.ops.BinOp.TheVariants as ops
use Rattle.jl_ast.specs.declared.ops.UnOp.TheVariants as prefixes
use Rattle.jl_ast.specs.Tree as tree
use Rattle.jl_token.specs.declared.punct.Punct.TheVariants as puncts
use Rattle.jl_grammar.specs.Brackets.{open_brackets}
use Rattle.jl_grammar.specs.Tokens.{span}
use Rattle.jl_grammar.specs.Reader.{ends_at, names_from, parameters_at, label_at, then_close_paren, statements_from}
use Rattle.jl_grammar.specs.Reader.{block_at, elements_from, body_from, rest_at, function_at, items_from, value_at}
use Rattle.jl_grammar.specs.Reader.{getter_by, setter_by, accessor_at, entry_by, entry_at, entries_from, primary_by}
use Rattle.jl_grammar.specs.Reader.{primary_at, arguments_from, arguments_at, new_at, start_at, left_by, left_from}
use Rattle.jl_grammar.specs.Reader.{left_at, postfix_by, postfix_at, unary_by, unary_at, binary_by, binary_from}
use Rattle.jl_grammar.specs.Reader.{binary_at, conditional_from, conditional_at, assignment_by, assignment_at}
use Rattle.jl_grammar.specs.Reader.{comma_from, expression_at, head_at, sub_at, declaration_at, declarations_from}
use Rattle.jl_grammar.specs.Reader.{var_at, express_at, else_from, if_at, do_at, while_at, optional_at, for_from}
use Rattle.jl_grammar.specs.Reader.{for_in_from, for_var_at, for_expression_at, for_at, continue_at, break_at}
use Rattle.jl_grammar.specs.Reader.{return_by, return_at, throw_at, clauses_from, switch_at, catch_at, finally_from}
use Rattle.jl_grammar.specs.Reader.{try_at, named_at, statement_by, statement_at, node}
use Rattle.jl_grammar.specs.ReaderLevels.{deeper, program_at}
use Rattle.jl_grammar.proofs.Sample.{read, program, word, escaped, number, string, terminal, ident, a, b, c, d, f, g, x}

-- primary expressions and literals (11.1)
pub primaries :
    -- this
    (read (word (codes "this") ∷ []) ≡ program
    (tree.body false tree.end (tree.forest ((tree.expression (tree.this tt) tt) ∷ []))))
    -- a
    × (read (word a ∷ []) ≡ program
    (tree.body false tree.end (tree.forest ((tree.expression (tree.name a tt) tt) ∷ []))))
    -- 1; "a"; null; true; false
    × (read (number 1 ∷ terminal puncts.Semicolon ∷ string (codes "a") ∷ terminal puncts.Semicolon ∷ word (codes "null")
    ∷ terminal puncts.Semicolon ∷ word (codes "true") ∷ terminal puncts.Semicolon ∷ word (codes "false") ∷ [])
    ≡ program (tree.body false tree.end (tree.forest ((tree.expression (tree.number (Some (pos 1)) tt) tt)
    ∷ (tree.expression (tree.string (codes "a") tt) tt) ∷ (tree.expression (tree.null tt) tt)
    ∷ (tree.expression (tree.boolean true tt) tt) ∷ (tree.expression (tree.boolean false tt) tt) ∷ []))))
    -- ((a))
    × (read (terminal puncts.LeftParen ∷ terminal puncts.LeftParen ∷ word a ∷ terminal puncts.RightParen
    ∷ terminal puncts.RightParen
    ∷ []) ≡ program (tree.body false tree.end (tree.forest ((tree.expression (tree.name a tt) tt) ∷ []))))
    -- []; [a, b]; [,]; [a,]; [a,,b,,]
    × (read (terminal puncts.LeftBracket ∷ terminal puncts.RightBracket ∷ terminal puncts.Semicolon
    ∷ terminal puncts.LeftBracket
    ∷ word a ∷ terminal puncts.Comma ∷ word b ∷ terminal puncts.RightBracket ∷ terminal puncts.Semicolon
    ∷ terminal puncts.LeftBracket ∷ terminal puncts.Comma ∷ terminal puncts.RightBracket ∷ terminal puncts.Semicolon
    ∷ terminal puncts.LeftBracket ∷ word a ∷ terminal puncts.Comma ∷ terminal puncts.RightBracket
    ∷ terminal puncts.Semicolon
    ∷ terminal puncts.LeftBracket ∷ word a ∷ terminal puncts.Comma ∷ terminal puncts.Comma ∷ word b
    ∷ terminal puncts.Comma
    ∷ terminal puncts.Comma ∷ terminal puncts.RightBracket ∷ [])
    ≡ program (tree.body false tree.end (tree.forest ((tree.expression (tree.array tree.end tt) tt)
    ∷ (tree.expression (tree.array (tree.forest ((tree.filled (tree.name a tt)) ∷ (tree.filled (tree.name b tt)) ∷ []))
    tt) tt) ∷ (tree.expression (tree.array (tree.forest (tree.hole ∷ [])) tt) tt)
    ∷ (tree.expression (tree.array (tree.forest ((tree.filled (tree.name a tt)) ∷ [])) tt) tt)
    ∷ (tree.expression (tree.array (tree.forest ((tree.filled (tree.name a tt)) ∷ tree.hole
    ∷ (tree.filled (tree.name b tt)) ∷ tree.hole ∷ [])) tt) tt) ∷ []))))
    -- class
    × (read (word (codes "class") ∷ []) ≡ None)
    -- if (escaped)
    × (read (escaped (codes "if") ∷ []) ≡ None)
    -- nothing
    × (read ([]) ≡ program (tree.body false tree.end tree.end))
unfolding span open_brackets ends_at names_from parameters_at label_at then_close_paren statements_from block_at
    elements_from
    body_from rest_at function_at items_from value_at getter_by setter_by accessor_at entry_by entry_at entries_from
    primary_by primary_at arguments_from arguments_at new_at start_at left_by left_from left_at postfix_by postfix_at
    unary_by unary_at binary_by binary_from binary_at conditional_from conditional_at assignment_by assignment_at
    comma_from expression_at head_at sub_at declaration_at declarations_from var_at express_at else_from if_at do_at
    while_at optional_at for_from for_in_from for_var_at for_expression_at for_at continue_at break_at return_by
    return_at
    throw_at clauses_from switch_at catch_at finally_from try_at named_at statement_by statement_at node deeper
    program_at
primaries = (refl, refl, refl, refl, refl, refl, refl, refl)

-- object literals (11.1.5): keys that are words, strings and numbers, getters and setters
pub objects :
    -- x = {}
    (read (word x ∷ terminal puncts.Assign ∷ terminal puncts.LeftBrace ∷ terminal puncts.RightBrace ∷ [])
    ≡ program (tree.body false tree.end (tree.forest
    ((tree.expression (tree.assign None (tree.to_name (ident x)) (tree.object tree.end tt) tt) tt) ∷ []))))
    -- ({ a: b, if: c, "d": 1, 10: x, })
    × (read (terminal puncts.LeftParen ∷ terminal puncts.LeftBrace ∷ word a ∷ terminal puncts.Colon ∷ word b
    ∷ terminal puncts.Comma
    ∷ word (codes "if") ∷ terminal puncts.Colon ∷ word c ∷ terminal puncts.Comma ∷ string (codes "d")
    ∷ terminal puncts.Colon
    ∷ number 1 ∷ terminal puncts.Comma ∷ number 10 ∷ terminal puncts.Colon ∷ word x ∷ terminal puncts.Comma
    ∷ terminal puncts.RightBrace ∷ terminal puncts.RightParen ∷ [])
    ≡ program (tree.body false tree.end (tree.forest
    ((tree.expression (tree.object (tree.forest ((tree.value (ident a) (tree.name b tt))
    ∷ (tree.value (ident (codes "if")) (tree.name c tt)) ∷ (tree.value (ident d) (tree.number (Some (pos 1)) tt))
    ∷ (tree.value (ident (codes "10")) (tree.name x tt)) ∷ [])) tt) tt) ∷ []))))
    -- ({ get: a, set: b, if (escaped): c })
    × (read (terminal puncts.LeftParen ∷ terminal puncts.LeftBrace ∷ word (codes "get") ∷ terminal puncts.Colon ∷ word a
    ∷ terminal puncts.Comma ∷ word (codes "set") ∷ terminal puncts.Colon ∷ word b ∷ terminal puncts.Comma
    ∷ escaped (codes "if")
    ∷ terminal puncts.Colon ∷ word c ∷ terminal puncts.RightBrace ∷ terminal puncts.RightParen ∷ [])
    ≡ program (tree.body false tree.end (tree.forest
    ((tree.expression (tree.object (tree.forest ((tree.value (ident (codes "get")) (tree.name a tt))
    ∷ (tree.value (ident (codes "set")) (tree.name b tt)) ∷ (tree.value (ident (codes "if")) (tree.name c tt))
    ∷ [])) tt) tt) ∷ []))))
    -- ({ get a() { }, set default(x) { }, get get() { } })
    × (read (terminal puncts.LeftParen ∷ terminal puncts.LeftBrace ∷ word (codes "get") ∷ word a
    ∷ terminal puncts.LeftParen
    ∷ terminal puncts.RightParen ∷ terminal puncts.LeftBrace ∷ terminal puncts.RightBrace ∷ terminal puncts.Comma
    ∷ word (codes "set") ∷ word (codes "default") ∷ terminal puncts.LeftParen ∷ word x ∷ terminal puncts.RightParen
    ∷ terminal puncts.LeftBrace ∷ terminal puncts.RightBrace ∷ terminal puncts.Comma ∷ word (codes "get")
    ∷ word (codes "get")
    ∷ terminal puncts.LeftParen ∷ terminal puncts.RightParen ∷ terminal puncts.LeftBrace ∷ terminal puncts.RightBrace
    ∷ terminal puncts.RightBrace ∷ terminal puncts.RightParen ∷ [])
    ≡ program (tree.body false tree.end (tree.forest
    ((tree.expression (tree.object (tree.forest
    ((tree.getter (ident a) (tree.function 0 None (([])) (tree.body false tree.end tree.end) tt))
    ∷ (tree.setter (ident (codes "default"))
    (tree.function 1 None ((ident x ∷ [])) (tree.body false tree.end tree.end) tt))
    ∷ (tree.getter (ident (codes "get")) (tree.function 2 None (([])) (tree.body false tree.end tree.end) tt))
    ∷ [])) tt) tt) ∷ []))))
    -- ({ get a(x) { } })
    × (read (terminal puncts.LeftParen ∷ terminal puncts.LeftBrace ∷ word (codes "get") ∷ word a
    ∷ terminal puncts.LeftParen
    ∷ word x ∷ terminal puncts.RightParen ∷ terminal puncts.LeftBrace ∷ terminal puncts.RightBrace
    ∷ terminal puncts.RightBrace
    ∷ terminal puncts.RightParen ∷ []) ≡ None)
    -- ({ set a() { } })
    × (read (terminal puncts.LeftParen ∷ terminal puncts.LeftBrace ∷ word (codes "set") ∷ word a
    ∷ terminal puncts.LeftParen
    ∷ terminal puncts.RightParen ∷ terminal puncts.LeftBrace ∷ terminal puncts.RightBrace ∷ terminal puncts.RightBrace
    ∷ terminal puncts.RightParen ∷ []) ≡ None)
    -- ({ get (escaped) a() { } })
    × (read (terminal puncts.LeftParen ∷ terminal puncts.LeftBrace ∷ escaped (codes "get") ∷ word a
    ∷ terminal puncts.LeftParen
    ∷ terminal puncts.RightParen ∷ terminal puncts.LeftBrace ∷ terminal puncts.RightBrace ∷ terminal puncts.RightBrace
    ∷ terminal puncts.RightParen ∷ []) ≡ None)
    -- ({ , })
    × (read (terminal puncts.LeftParen ∷ terminal puncts.LeftBrace ∷ terminal puncts.Comma ∷ terminal puncts.RightBrace
    ∷ terminal puncts.RightParen ∷ []) ≡ None)
    -- ({ a })
    × (read (terminal puncts.LeftParen ∷ terminal puncts.LeftBrace ∷ word a ∷ terminal puncts.RightBrace
    ∷ terminal puncts.RightParen
    ∷ []) ≡ None)
unfolding span open_brackets ends_at names_from parameters_at label_at then_close_paren statements_from block_at
    elements_from
    body_from rest_at function_at items_from value_at getter_by setter_by accessor_at entry_by entry_at entries_from
    primary_by primary_at arguments_from arguments_at new_at start_at left_by left_from left_at postfix_by postfix_at
    unary_by unary_at binary_by binary_from binary_at conditional_from conditional_at assignment_by assignment_at
    comma_from expression_at head_at sub_at declaration_at declarations_from var_at express_at else_from if_at do_at
    while_at optional_at for_from for_in_from for_var_at for_expression_at for_at continue_at break_at return_by
    return_at
    throw_at clauses_from switch_at catch_at finally_from try_at named_at statement_by statement_at node deeper
    program_at
objects = (refl, refl, refl, refl, refl, refl, refl, refl, refl)

-- function expressions and declarations (clause 13), and the numbers of functions
pub functions :
    -- x = function () { }
    (read (word x ∷ terminal puncts.Assign ∷ word (codes "function") ∷ terminal puncts.LeftParen
    ∷ terminal puncts.RightParen
    ∷ terminal puncts.LeftBrace ∷ terminal puncts.RightBrace ∷ [])
    ≡ program (tree.body false tree.end (tree.forest
    ((tree.expression (tree.assign None (tree.to_name (ident x))
    (tree.function_expression (tree.function 0 None (([])) (tree.body false tree.end tree.end) tt) tt) tt) tt)
    ∷ []))))
    -- x = function f(a, b) { return a }
    × (read (word x ∷ terminal puncts.Assign ∷ word (codes "function") ∷ word f ∷ terminal puncts.LeftParen ∷ word a
    ∷ terminal puncts.Comma ∷ word b ∷ terminal puncts.RightParen ∷ terminal puncts.LeftBrace ∷ word (codes "return")
    ∷ word a
    ∷ terminal puncts.RightBrace ∷ []) ≡ program
    (tree.body false tree.end (tree.forest ((tree.expression
    (tree.assign None (tree.to_name (ident x))
    (tree.function_expression (tree.function 0 (Some (ident f)) ((ident a ∷ ident b ∷ []))
    (tree.body false tree.end (tree.forest ((tree.return (tree.present (tree.name a tt)) tt) ∷ []))) tt) tt) tt) tt)
    ∷ []))))
    -- x = function () { }; function f() { function g() { } } function g() { }
    × (read (word x ∷ terminal puncts.Assign ∷ word (codes "function") ∷ terminal puncts.LeftParen
    ∷ terminal puncts.RightParen
    ∷ terminal puncts.LeftBrace ∷ terminal puncts.RightBrace ∷ terminal puncts.Semicolon ∷ word (codes "function")
    ∷ word f
    ∷ terminal puncts.LeftParen ∷ terminal puncts.RightParen ∷ terminal puncts.LeftBrace ∷ word (codes "function")
    ∷ word g
    ∷ terminal puncts.LeftParen ∷ terminal puncts.RightParen ∷ terminal puncts.LeftBrace ∷ terminal puncts.RightBrace
    ∷ terminal puncts.RightBrace ∷ word (codes "function") ∷ word g ∷ terminal puncts.LeftParen
    ∷ terminal puncts.RightParen
    ∷ terminal puncts.LeftBrace ∷ terminal puncts.RightBrace ∷ [])
    ≡ program (tree.body false (tree.forest ((tree.function 0 (Some (ident f)) (([]))
    (tree.body false (tree.forest ((tree.function 1 (Some (ident g)) (([])) (tree.body false tree.end tree.end) tt)
    ∷ [])) tree.end) tt) ∷ (tree.function 2 (Some (ident g)) (([])) (tree.body false tree.end tree.end) tt) ∷ []))
    (tree.forest ((tree.expression (tree.assign None (tree.to_name (ident x))
    (tree.function_expression (tree.function 3 None (([])) (tree.body false tree.end tree.end) tt) tt) tt) tt)
    ∷ []))))
    -- function () { }
    × (read (word (codes "function") ∷ terminal puncts.LeftParen ∷ terminal puncts.RightParen
    ∷ terminal puncts.LeftBrace
    ∷ terminal puncts.RightBrace ∷ []) ≡ None)
    -- function f(a,) { }
    × (read (word (codes "function") ∷ word f ∷ terminal puncts.LeftParen ∷ word a ∷ terminal puncts.Comma
    ∷ terminal puncts.RightParen ∷ terminal puncts.LeftBrace ∷ terminal puncts.RightBrace ∷ []) ≡ None)
    -- if (a) function f() { }
    × (read (word (codes "if") ∷ terminal puncts.LeftParen ∷ word a ∷ terminal puncts.RightParen
    ∷ word (codes "function")
    ∷ word f ∷ terminal puncts.LeftParen ∷ terminal puncts.RightParen ∷ terminal puncts.LeftBrace
    ∷ terminal puncts.RightBrace ∷ [])
    ≡ None)
unfolding span open_brackets ends_at names_from parameters_at label_at then_close_paren statements_from block_at
    elements_from
    body_from rest_at function_at items_from value_at getter_by setter_by accessor_at entry_by entry_at entries_from
    primary_by primary_at arguments_from arguments_at new_at start_at left_by left_from left_at postfix_by postfix_at
    unary_by unary_at binary_by binary_from binary_at conditional_from conditional_at assignment_by assignment_at
    comma_from expression_at head_at sub_at declaration_at declarations_from var_at express_at else_from if_at do_at
    while_at optional_at for_from for_in_from for_var_at for_expression_at for_at continue_at break_at return_by
    return_at
    throw_at clauses_from switch_at catch_at finally_from try_at named_at statement_by statement_at node deeper
    program_at
functions = (refl, refl, refl, refl, refl, refl)

-- members, calls and `new` (11.2)
pub left_sides :
    -- a.b.if[c](d, 1)()
    (read (word a ∷ terminal puncts.Dot ∷ word b ∷ terminal puncts.Dot ∷ word (codes "if") ∷ terminal puncts.LeftBracket
    ∷ word c
    ∷ terminal puncts.RightBracket ∷ terminal puncts.LeftParen ∷ word d ∷ terminal puncts.Comma ∷ number 1
    ∷ terminal puncts.RightParen ∷ terminal puncts.LeftParen ∷ terminal puncts.RightParen ∷ [])
    ≡ program (tree.body false tree.end (tree.forest
    ((tree.expression (tree.call (tree.call (tree.index
    (tree.dot (tree.dot (tree.name a tt) b tt) ((codes "if")) tt) (tree.name c tt) tt)
    (tree.forest ((tree.name d tt) ∷ (tree.number (Some (pos 1)) tt) ∷ [])) tt) tree.end tt) tt) ∷ []))))
    -- new a
    × (read (word (codes "new") ∷ word a ∷ [])
    ≡ program (tree.body false tree.end (tree.forest ((tree.expression (tree.new (tree.name a tt) tree.end tt) tt)
    ∷ []))))
    -- new a.b(c)(d)
    × (read (word (codes "new") ∷ word a ∷ terminal puncts.Dot ∷ word b ∷ terminal puncts.LeftParen ∷ word c
    ∷ terminal puncts.RightParen ∷ terminal puncts.LeftParen ∷ word d ∷ terminal puncts.RightParen ∷ [])
    ≡ program (tree.body false tree.end (tree.forest
    ((tree.expression (tree.call (tree.new (tree.dot (tree.name a tt) b tt) (tree.forest ((tree.name c tt) ∷ [])) tt)
    (tree.forest ((tree.name d tt) ∷ [])) tt) tt) ∷ []))))
    -- new new a
    × (read (word (codes "new") ∷ word (codes "new") ∷ word a ∷ [])
    ≡ program (tree.body false tree.end (tree.forest
    ((tree.expression (tree.new (tree.new (tree.name a tt) tree.end tt) tree.end tt) tt) ∷ []))))
    -- new new a(b)
    × (read (word (codes "new") ∷ word (codes "new") ∷ word a ∷ terminal puncts.LeftParen ∷ word b
    ∷ terminal puncts.RightParen
    ∷ []) ≡ program (tree.body false tree.end
    (tree.forest ((tree.expression (tree.new (tree.new (tree.name a tt) (tree.forest ((tree.name b tt) ∷ [])) tt)
    tree.end
    tt) tt) ∷ []))))
    -- new new a(b)(c)
    × (read (word (codes "new") ∷ word (codes "new") ∷ word a ∷ terminal puncts.LeftParen ∷ word b
    ∷ terminal puncts.RightParen
    ∷ terminal puncts.LeftParen ∷ word c ∷ terminal puncts.RightParen ∷ [])
    ≡ program (tree.body false tree.end (tree.forest
    ((tree.expression (tree.new (tree.new (tree.name a tt) (tree.forest ((tree.name b tt) ∷ [])) tt)
    (tree.forest ((tree.name c tt) ∷ [])) tt) tt) ∷ []))))
    -- new a().b
    × (read (word (codes "new") ∷ word a ∷ terminal puncts.LeftParen ∷ terminal puncts.RightParen ∷ terminal puncts.Dot
    ∷ word b
    ∷ []) ≡ program (tree.body false tree.end
    (tree.forest ((tree.expression (tree.dot (tree.new (tree.name a tt) tree.end tt) b tt) tt) ∷ []))))
    -- new (a())()
    × (read (word (codes "new") ∷ terminal puncts.LeftParen ∷ word a ∷ terminal puncts.LeftParen
    ∷ terminal puncts.RightParen
    ∷ terminal puncts.RightParen ∷ terminal puncts.LeftParen ∷ terminal puncts.RightParen ∷ [])
    ≡ program (tree.body false tree.end (tree.forest
    ((tree.expression (tree.new (tree.call (tree.name a tt) tree.end tt) tree.end tt) tt) ∷ []))))
    -- a(b,)
    × (read (word a ∷ terminal puncts.LeftParen ∷ word b ∷ terminal puncts.Comma ∷ terminal puncts.RightParen ∷ [])
    ≡ None)
unfolding span open_brackets ends_at names_from parameters_at label_at then_close_paren statements_from block_at
    elements_from
    body_from rest_at function_at items_from value_at getter_by setter_by accessor_at entry_by entry_at entries_from
    primary_by primary_at arguments_from arguments_at new_at start_at left_by left_from left_at postfix_by postfix_at
    unary_by unary_at binary_by binary_from binary_at conditional_from conditional_at assignment_by assignment_at
    comma_from expression_at head_at sub_at declaration_at declarations_from var_at express_at else_from if_at do_at
    while_at optional_at for_from for_in_from for_var_at for_expression_at for_at continue_at break_at return_by
    return_at
    throw_at clauses_from switch_at catch_at finally_from try_at named_at statement_by statement_at node deeper
    program_at
left_sides = (refl, refl, refl, refl, refl, refl, refl, refl, refl)

-- operators with one operand (11.3, 11.4)
pub unaries :
    -- -a++
    (read (terminal puncts.Minus ∷ word a ∷ terminal puncts.PlusPlus ∷ [])
    ≡ program (tree.body false tree.end (tree.forest
    ((tree.expression (tree.unary prefixes.Minus (tree.update true false (tree.to_name (ident a)) tt) tt) tt)
    ∷ []))))
    -- typeof void delete !~+-a.b
    × (read (word (codes "typeof") ∷ word (codes "void") ∷ word (codes "delete") ∷ terminal puncts.Bang
    ∷ terminal puncts.Tilde
    ∷ terminal puncts.Plus ∷ terminal puncts.Minus ∷ word a ∷ terminal puncts.Dot ∷ word b ∷ [])
    ≡ program (tree.body false tree.end (tree.forest
    ((tree.expression (tree.unary prefixes.Typeof
    (tree.unary prefixes.Void (tree.unary prefixes.Delete
    (tree.unary prefixes.Not (tree.unary prefixes.Tilde
    (tree.unary prefixes.Plus (tree.unary prefixes.Minus (tree.dot (tree.name a tt) b tt) tt) tt) tt) tt) tt) tt)
    tt) tt) ∷ []))))
    -- ++a; --b[c]; a.b--
    × (read (terminal puncts.PlusPlus ∷ word a ∷ terminal puncts.Semicolon ∷ terminal puncts.MinusMinus ∷ word b
    ∷ terminal puncts.LeftBracket ∷ word c ∷ terminal puncts.RightBracket ∷ terminal puncts.Semicolon ∷ word a
    ∷ terminal puncts.Dot
    ∷ word b ∷ terminal puncts.MinusMinus ∷ []) ≡ program
    (tree.body false tree.end (tree.forest ((tree.expression (tree.update true true (tree.to_name (ident a)) tt) tt)
    ∷ (tree.expression (tree.update false true (tree.to_index (tree.name b tt) (tree.name c tt) tt) tt) tt)
    ∷ (tree.expression (tree.update false false (tree.to_dot (tree.name a tt) b tt) tt) tt) ∷ []))))
    -- (a)++; ++(a)
    × (read (terminal puncts.LeftParen ∷ word a ∷ terminal puncts.RightParen ∷ terminal puncts.PlusPlus
    ∷ terminal puncts.Semicolon
    ∷ terminal puncts.PlusPlus ∷ terminal puncts.LeftParen ∷ word a ∷ terminal puncts.RightParen ∷ [])
    ≡ program (tree.body false tree.end (tree.forest
    ((tree.expression (tree.update true false (tree.to_name (ident a)) tt) tt)
    ∷ (tree.expression (tree.update true true (tree.to_name (ident a)) tt) tt) ∷ []))))
    -- ++a++
    × (read (terminal puncts.PlusPlus ∷ word a ∷ terminal puncts.PlusPlus ∷ []) ≡ None)
    -- a()++
    × (read (word a ∷ terminal puncts.LeftParen ∷ terminal puncts.RightParen ∷ terminal puncts.PlusPlus ∷ []) ≡ None)
    -- - -a
    × (read (terminal puncts.Minus ∷ terminal puncts.Minus ∷ word a ∷ [])
    ≡ program (tree.body false tree.end (tree.forest
    ((tree.expression (tree.unary prefixes.Minus (tree.unary prefixes.Minus (tree.name a tt) tt) tt) tt) ∷ []))))
unfolding span open_brackets ends_at names_from parameters_at label_at then_close_paren statements_from block_at
    elements_from
    body_from rest_at function_at items_from value_at getter_by setter_by accessor_at entry_by entry_at entries_from
    primary_by primary_at arguments_from arguments_at new_at start_at left_by left_from left_at postfix_by postfix_at
    unary_by unary_at binary_by binary_from binary_at conditional_from conditional_at assignment_by assignment_at
    comma_from expression_at head_at sub_at declaration_at declarations_from var_at express_at else_from if_at do_at
    while_at optional_at for_from for_in_from for_var_at for_expression_at for_at continue_at break_at return_by
    return_at
    throw_at clauses_from switch_at catch_at finally_from try_at named_at statement_by statement_at node deeper
    program_at
unaries = (refl, refl, refl, refl, refl, refl, refl)

-- operators with two operands (11.5 to 11.11): each level stands under the next, and goes from the left
pub binaries :
    -- a - b - c
    (read (word a ∷ terminal puncts.Minus ∷ word b ∷ terminal puncts.Minus ∷ word c ∷ [])
    ≡ program (tree.body false tree.end (tree.forest
    ((tree.expression (tree.binary ops.Sub (tree.binary ops.Sub (tree.name a tt) (tree.name b tt) tt)
    (tree.name c tt) tt) tt) ∷ []))))
    -- a + b * c
    × (read (word a ∷ terminal puncts.Plus ∷ word b ∷ terminal puncts.Star ∷ word c ∷ [])
    ≡ program (tree.body false tree.end (tree.forest
    ((tree.expression (tree.binary ops.Add (tree.name a tt)
    (tree.binary ops.Mul (tree.name b tt) (tree.name c tt) tt) tt) tt) ∷ []))))
    -- a << b + c
    × (read (word a ∷ terminal puncts.ShiftLeft ∷ word b ∷ terminal puncts.Plus ∷ word c ∷ [])
    ≡ program (tree.body false tree.end (tree.forest
    ((tree.expression (tree.binary ops.Shl (tree.name a tt)
    (tree.binary ops.Add (tree.name b tt) (tree.name c tt) tt) tt) tt) ∷ []))))
    -- a < b >> c
    × (read (word a ∷ terminal puncts.Less ∷ word b ∷ terminal puncts.ShiftRight ∷ word c ∷ [])
    ≡ program (tree.body false tree.end (tree.forest
    ((tree.expression (tree.binary ops.Less (tree.name a tt)
    (tree.binary ops.Sar (tree.name b tt) (tree.name c tt) tt) tt) tt) ∷ []))))
    -- a == b instanceof c
    × (read (word a ∷ terminal puncts.Equal ∷ word b ∷ word (codes "instanceof") ∷ word c ∷ [])
    ≡ program (tree.body false tree.end (tree.forest
    ((tree.expression (tree.binary ops.Equal (tree.name a tt)
    (tree.binary ops.InstanceOf (tree.name b tt) (tree.name c tt) tt) tt) tt) ∷ []))))
    -- a instanceof b == c
    × (read (word a ∷ word (codes "instanceof") ∷ word b ∷ terminal puncts.Equal ∷ word c ∷ [])
    ≡ program (tree.body false tree.end (tree.forest
    ((tree.expression (tree.binary ops.Equal (tree.binary ops.InstanceOf (tree.name a tt) (tree.name b tt) tt)
    (tree.name c tt) tt) tt) ∷ []))))
    -- a & b !== c
    × (read (word a ∷ terminal puncts.And ∷ word b ∷ terminal puncts.StrictNotEqual ∷ word c ∷ [])
    ≡ program (tree.body false tree.end (tree.forest
    ((tree.expression (tree.binary ops.BitAnd (tree.name a tt)
    (tree.binary ops.StrictNotEqual (tree.name b tt) (tree.name c tt) tt) tt) tt) ∷ []))))
    -- a ^ b & c
    × (read (word a ∷ terminal puncts.Caret ∷ word b ∷ terminal puncts.And ∷ word c ∷ [])
    ≡ program (tree.body false tree.end (tree.forest
    ((tree.expression (tree.binary ops.BitXor (tree.name a tt)
    (tree.binary ops.BitAnd (tree.name b tt) (tree.name c tt) tt) tt) tt) ∷ []))))
    -- a | b ^ c
    × (read (word a ∷ terminal puncts.Or ∷ word b ∷ terminal puncts.Caret ∷ word c ∷ [])
    ≡ program (tree.body false tree.end (tree.forest
    ((tree.expression (tree.binary ops.BitOr (tree.name a tt)
    (tree.binary ops.BitXor (tree.name b tt) (tree.name c tt) tt) tt) tt) ∷ []))))
    -- a && b | c
    × (read (word a ∷ terminal puncts.AndAnd ∷ word b ∷ terminal puncts.Or ∷ word c ∷ [])
    ≡ program (tree.body false tree.end (tree.forest
    ((tree.expression (tree.and (tree.name a tt) (tree.binary ops.BitOr (tree.name b tt) (tree.name c tt) tt) tt)
    tt) ∷ []))))
    -- a || b && c || d
    × (read (word a ∷ terminal puncts.OrOr ∷ word b ∷ terminal puncts.AndAnd ∷ word c ∷ terminal puncts.OrOr ∷ word d
    ∷ [])
    ≡ program (tree.body false tree.end (tree.forest
    ((tree.expression (tree.or (tree.or (tree.name a tt) (tree.and (tree.name b tt) (tree.name c tt) tt) tt)
    (tree.name d tt) tt) tt) ∷ []))))
    -- a * (b + c) / d % 1
    × (read (word a ∷ terminal puncts.Star ∷ terminal puncts.LeftParen ∷ word b ∷ terminal puncts.Plus ∷ word c
    ∷ terminal puncts.RightParen ∷ terminal puncts.Slash ∷ word d ∷ terminal puncts.Percent ∷ number 1 ∷ [])
    ≡ program (tree.body false tree.end (tree.forest
    ((tree.expression (tree.binary ops.Rem (tree.binary ops.Div
    (tree.binary ops.Mul (tree.name a tt) (tree.binary ops.Add (tree.name b tt) (tree.name c tt) tt) tt)
    (tree.name d tt) tt) (tree.number (Some (pos 1)) tt) tt) tt) ∷ []))))
    -- a in b >>> c
    × (read (word a ∷ word (codes "in") ∷ word b ∷ terminal puncts.ShiftRightUnsigned ∷ word c ∷ [])
    ≡ program (tree.body false tree.end (tree.forest
    ((tree.expression (tree.binary ops.In (tree.name a tt)
    (tree.binary ops.Shr (tree.name b tt) (tree.name c tt) tt) tt) tt) ∷ []))))
unfolding span open_brackets ends_at names_from parameters_at label_at then_close_paren statements_from block_at
    elements_from
    body_from rest_at function_at items_from value_at getter_by setter_by accessor_at entry_by entry_at entries_from
    primary_by primary_at arguments_from arguments_at new_at start_at left_by left_from left_at postfix_by postfix_at
    unary_by unary_at binary_by binary_from binary_at conditional_from conditional_at assignment_by assignment_at
    comma_from expression_at head_at sub_at declaration_at declarations_from var_at express_at else_from if_at do_at
    while_at optional_at for_from for_in_from for_var_at for_expression_at for_at continue_at break_at return_by
    return_at
    throw_at clauses_from switch_at catch_at finally_from try_at named_at statement_by statement_at node deeper
    program_at
binaries = (refl, refl, refl, refl, refl, refl, refl, refl, refl, refl, refl, refl, refl)
