-- Scripts of which several pages show something.
use Rattle.std.specs.Prelude.{◌∷◌, [], codes, true, false, Some}
use Rattle.jl_ast.specs.declared.ops.BinOp.TheVariants as binary
use Rattle.jl_ast.specs.declared.ops.UnOp.TheVariants as un
use Rattle.jl_ast.specs.Tree.{Program}
use Rattle.jl_examples.proofs.Trees.{script, function_of, name, number, string, boolean, call, dot, unary, update}
use Rattle.jl_examples.proofs.Trees.{operator, to_name, declarator, var, expression, while, break, return, labelled}
use Rattle.jl_examples.proofs.Trees.{no_catch, try}

--     print(0 / 0);
abbrev pub quotient : Program (Unit {0})
quotient =
    script false [] (expression (call (name (codes "print")) (operator binary.Div (number 0) (number 0) ∷ [])) ∷ [])

--     J$.S(1);
--     J$.F(3, J$.R(5, "print", print))(J$.B(6, "/", J$.T(7, 0), J$.T(8, 0)));
--     J$.X(2);
--
abbrev pub hooked_quotient : Program (Unit {0})
hooked_quotient =
    script false []
    (expression (call (dot (name (codes "J$")) (codes "S")) (number 1 ∷ []))
    ∷ expression
    (call
    (call (dot (name (codes "J$")) (codes "F"))
    (number 3
    ∷ call (dot (name (codes "J$")) (codes "R"))
    (number 5 ∷ string (codes "print") ∷ name (codes "print") ∷ [])
    ∷ []))
    (call (dot (name (codes "J$")) (codes "B"))
    (number 6
    ∷ string (codes "/")
    ∷ call (dot (name (codes "J$")) (codes "T")) (number 7 ∷ number 0 ∷ [])
    ∷ call (dot (name (codes "J$")) (codes "T")) (number 8 ∷ number 0 ∷ [])
    ∷ [])
    ∷ []))
    ∷ expression (call (dot (name (codes "J$")) (codes "X")) (number 2 ∷ []))
    ∷ [])

--     var x = "5"; print(typeof x++, x);
abbrev pub typeof_update : Program (Unit {0})
typeof_update =
    script false []
    (var (declarator (codes "x") (Some (string (codes "5"))) ∷ [])
    ∷ expression
    (call (name (codes "print"))
    (unary un.Typeof (update true false (to_name (codes "x"))) ∷ name (codes "x") ∷ []))
    ∷ [])

--     function f() { L: while (true) { try { return 1; } finally { break L; } } return 2; }
--     print(f());
abbrev pub break_in_finally : Program (Unit {0})
break_in_finally =
    script false
    (function_of 0 (Some (codes "f")) [] false []
    (labelled (codes "L")
    (while (boolean true)
    (try (return (Some (number 1)) ∷ []) no_catch (Some (break (Some (codes "L")) ∷ [])) ∷ []))
    ∷ return (Some (number 2))
    ∷ [])
    ∷ [])
    (expression (call (name (codes "print")) (call (name (codes "f")) [] ∷ [])) ∷ [])

-- no statement at all
abbrev pub empty : Program (Unit {0})
empty =
    script false [] []
