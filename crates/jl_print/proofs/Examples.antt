-- Programs made by hand, and their texts.
use Rattle.std.proofs.Common.{◌≡◌, ℕ, false, refl, List}
use Rattle.std.specs.Prelude.{Some, None, codes, pos}
use Rattle.jl_ast.specs.declared.ops.BinOp.TheVariants as ops
use Rattle.jl_ast.specs.declared.ops.UnOp.TheVariants as prefixes
use Rattle.jl_ast.specs.Tree.{Ident, Program, Sort, Tree, Forest, Text}
use Rattle.jl_ast.specs.Tree as tree
use Rattle.jl_print.specs.Layout.{text_of}
use Rattle.jl_print.specs.CanonicalTokens.{tokens_of_node}

abbrev Expr : Type 0
Expr = Tree (Unit {0}) tree.expr

abbrev Stmt : Type 0
Stmt = Tree (Unit {0}) tree.stmt

abbrev named : Text → Expr
named t = tree.name t tt

abbrev number : ℕ → Expr
number n = tree.number (Some (pos n)) tt

abbrev ident : Text → Ident (Unit {0})
ident t = record { text = t; at = tt }

-- one of a sort
abbrev only : {x : Sort} → Tree (Unit {0}) x → Forest (Unit {0}) x
only t = tree.more t tree.end

-- the text of a program of one statement
abbrev text : Stmt → List ℕ
text w = text_of (record { body = tree.body false tree.end (only w); at = tt })

-- if(a)b=-1/x;else c.d()
abbrev choice : Stmt
choice = tree.if_else (named (codes "a"))
    (only (tree.expression (tree.assign None (tree.to_name (ident (codes "b")))
    (tree.binary ops.Div (tree.unary prefixes.Minus (number 1) tt) (named (codes "x")) tt) tt) tt))
    (tree.present (tree.branch_of (only (tree.expression (tree.call (tree.dot (named (codes "c")) (codes "d") tt)
    tree.end tt) tt))))
    tt

choice_text : text choice ≡ codes "if(a) {\nb = - 1 / x;\n}\nelse {\nc.d();\n}\n"
unfolding tokens_of_node
choice_text = refl

-- (a-b)*1 .c
abbrev product : Stmt
product = tree.expression (tree.binary ops.Mul (tree.binary ops.Sub (named (codes "a")) (named (codes "b")) tt)
    (tree.dot (number 1) (codes "c") tt) tt) tt

product_text : text product ≡ codes "(a - b) * 1 .c;\n"
unfolding tokens_of_node
product_text = refl

-- var a=(b in c),d
abbrev inside : Stmt
inside = tree.var (tree.more (tree.declarator (ident (codes "a"))
    (tree.present (tree.binary ops.In (named (codes "b")) (named (codes "c")) tt)))
    (only (tree.declarator (ident (codes "d")) tree.absent))) tt

inside_text : text inside ≡ codes "var a =(b in c), d;\n"
unfolding tokens_of_node
inside_text = refl

-- ('a\n'); a string alone is no directive
abbrev alone : Stmt
alone = tree.expression (tree.string (codes "a\n") tt) tt

alone_text : text alone ≡ codes "(\"a\\n\");\n"
unfolding tokens_of_node
alone_text = refl
