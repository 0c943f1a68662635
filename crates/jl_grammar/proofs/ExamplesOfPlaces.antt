-- Where the nodes of small texts stand, and what the limit refuses.
use Rattle.std.proofs.Common.{◌≡◌, refl, true, false, [], ◌∷◌, Some, None, codes}
use Rattle.jl_ast.specs.declared.ops.BinOp.TheVariants as ops
use Rattle.jl_ast.specs.Tree as tree
use Rattle.jl_token.specs.declared.punct.Punct.TheVariants as puncts
use Rattle.jl_grammar.specs.Brackets.{open_brackets}
use Rattle.jl_grammar.specs.Tokens.{span}
use Rattle.jl_grammar.specs.Reader.{ends_at, names_from, parameters_at, label_at, then_close_paren, statements_from}
use Rattle.jl_grammar.specs.Reader.{block_at, elements_from, body_from, rest_at, function_at, items_from, value_at}
use Rattle.jl_grammar.specs.Reader.{getter_by, setter_by, accessor_at, entry_by, entry_at, entries_from, primary_by}
use Rattle.jl_grammar.specs.Reader.{primary_at, arguments_from, arguments_at, new_at, start_at, left_by, left_from}
use Rattle.jl_grammar.specs.Reader.{left_at, postfix_by, postfix_at, unary_by, unary_at, binary_by, binary_from}
use Rattle.jl_grammar.specs.Reader.{binary_at, conditional_from, conditional_at, assignment_by, assignment_at}
use Rattle.jl_grammar.specs.Reader.{comma_from, expression_at, head_at, sub_at, declaration_at, declarations_from}
use Rattle.jl_grammar.specs.Reader.{var_at, express_at, else_from, if_at, do_at, while_at, optional_at, for_from}
use Rattle.jl_grammar.specs.Reader.{for_in_from, for_var_at, for_expression_at, for_at, continue_at, break_at}
use Rattle.jl_grammar.specs.Reader.{return_by, return_at, throw_at, clauses_from, switch_at, catch_at, finally_from}
use Rattle.jl_grammar.specs.Reader.{try_at, named_at, statement_by, statement_at, node}
use Rattle.jl_grammar.specs.ReaderLevels.{deeper, program_at}
use Rattle.jl_grammar.proofs.Sample.{read_within, placed_read, at_places, from, named, word, terminal, below, a, b, x}

-- where nodes stand
pub places :
    -- (a) + b ;: brackets round an operand are not of it, and the semicolon is of the statement
    (placed_read (terminal puncts.LeftParen ∷ word a ∷ terminal puncts.RightParen ∷ terminal puncts.Plus ∷ word b
    ∷ terminal puncts.Semicolon
    ∷ []) ≡ Some (at_places 0 6 (tree.body false tree.end
    (tree.forest (tree.expression (tree.binary ops.Add (tree.name a (from 1 2)) (tree.name b (from 4 5)) (from 0 5))
    (from 0 6) ∷ [])))))
    -- a (new line) b: an inserted semicolon has no place
    × (placed_read (word a ∷ below (word b) ∷ [])
    ≡ Some (at_places 0 2 (tree.body false tree.end
    (tree.forest (tree.expression (tree.name a (from 0 1)) (from 0 1)
    ∷ tree.expression (tree.name b (from 1 2)) (from 1 2) ∷ [])))))
    -- x = { get a() { } }: the function of an accessor begins at its `get`
    × (placed_read (word x ∷ terminal puncts.Assign ∷ terminal puncts.LeftBrace ∷ word (codes "get") ∷ word a
    ∷ terminal puncts.LeftParen ∷ terminal puncts.RightParen ∷ terminal puncts.LeftBrace ∷ terminal puncts.RightBrace
    ∷ terminal puncts.RightBrace
    ∷ []) ≡ Some (at_places 0 10 (tree.body false tree.end
    (tree.forest (tree.expression (tree.assign None (tree.to_name (named x 0 1))
    (tree.object (tree.forest (tree.getter (named a 4 5)
    (tree.function 0 None [] (tree.body false tree.end tree.end) (from 3 9)) ∷ [])) (from 2 10)) (from 0 10))
    (from 0 10) ∷ [])))))
unfolding span open_brackets ends_at names_from parameters_at label_at then_close_paren statements_from block_at
    elements_from
    body_from rest_at function_at items_from value_at getter_by setter_by accessor_at entry_by entry_at entries_from
    primary_by primary_at arguments_from arguments_at new_at start_at left_by left_from left_at postfix_by postfix_at
    unary_by unary_at binary_by binary_from binary_at conditional_from conditional_at assignment_by assignment_at
    comma_from expression_at head_at sub_at declaration_at declarations_from var_at express_at else_from if_at do_at
    while_at optional_at for_from for_in_from for_var_at for_expression_at for_at continue_at break_at return_by
    return_at
    throw_at clauses_from switch_at catch_at finally_from try_at named_at statement_by statement_at node deeper
    program_at
places = (refl, refl, refl)

-- what is within a limit: as high as it at most, and twice as many brackets open at most
pub limits :
    -- nothing within 0: no node is there
    (read_within 0 ([]) ≡ true)
    -- a within 1: a statement over a name is 2 high
    × (read_within 1 (word a ∷ []) ≡ false)
    -- a within 2
    × (read_within 2 (word a ∷ []) ≡ true)
    -- - a within 2
    × (read_within 2 (terminal puncts.Minus ∷ word a ∷ []) ≡ false)
    -- - a within 3
    × (read_within 3 (terminal puncts.Minus ∷ word a ∷ []) ≡ true)
    -- ((((a)))) within 2: four brackets are open
    × (read_within 2 (terminal puncts.LeftParen ∷ terminal puncts.LeftParen ∷ terminal puncts.LeftParen
    ∷ terminal puncts.LeftParen
    ∷ word a ∷ terminal puncts.RightParen ∷ terminal puncts.RightParen ∷ terminal puncts.RightParen
    ∷ terminal puncts.RightParen
    ∷ []) ≡ true)
    -- (((((a))))) within 2: five are, which is more than twice the limit
    × (read_within 2 (terminal puncts.LeftParen ∷ terminal puncts.LeftParen ∷ terminal puncts.LeftParen
    ∷ terminal puncts.LeftParen
    ∷ terminal puncts.LeftParen ∷ word a ∷ terminal puncts.RightParen ∷ terminal puncts.RightParen
    ∷ terminal puncts.RightParen
    ∷ terminal puncts.RightParen ∷ terminal puncts.RightParen ∷ []) ≡ false)
    -- [[[[[ within 9
    × (read_within 9 (terminal puncts.LeftBracket ∷ terminal puncts.LeftBracket ∷ terminal puncts.LeftBracket
    ∷ terminal puncts.LeftBracket ∷ terminal puncts.LeftBracket ∷ []) ≡ false)
unfolding span open_brackets ends_at names_from parameters_at label_at then_close_paren statements_from block_at
    elements_from
    body_from rest_at function_at items_from value_at getter_by setter_by accessor_at entry_by entry_at entries_from
    primary_by primary_at arguments_from arguments_at new_at start_at left_by left_from left_at postfix_by postfix_at
    unary_by unary_at binary_by binary_from binary_at conditional_from conditional_at assignment_by assignment_at
    comma_from expression_at head_at sub_at declaration_at declarations_from var_at express_at else_from if_at do_at
    while_at optional_at for_from for_in_from for_var_at for_expression_at for_at continue_at break_at return_by
    return_at
    throw_at clauses_from switch_at catch_at finally_from try_at named_at statement_by statement_at node deeper
    program_at
limits = (refl, refl, refl, refl, refl, refl, refl, refl)
