-- Scripts with the answers of their woven runs: output, steps and hooks.
use Rattle.std.specs.Prelude.{◌≡◌, refl, ◌∷◌, [], codes, true, false, Some, None}
use Rattle.jl_ast.specs.declared.ops.BinOp.TheVariants as binary
use Rattle.jl_ast.specs.declared.ops.UnOp.TheVariants as un
use Rattle.jl_ast.specs.Tree.{Program}
use Rattle.jl_op.specs.Chosen.{every_kind}
use Rattle.jl_examples.proofs.Computing as computing
use Rattle.jl_examples.proofs.Running.{weaves}
use Rattle.jl_examples.proofs.Scripts.{break_in_finally, empty, quotient, typeof_update}
use Rattle.jl_examples.proofs.Trees.{script, function_of, name, number, string, null, dot, call, unary}
use Rattle.jl_examples.proofs.Trees.{operator, assign, to_dot, expression}
use Rattle.jl_examples.proofs.Trees.{throw, catch, try}

--     print(0 / 0);
quotient_holds : weaves every_kind quotient (codes "NaN" ∷ codes "jlint: normal steps=23 hooks=8" ∷ []) ≡ true
unfolding computing.run
quotient_holds = refl

-- no statement at all
empty_holds : weaves every_kind empty (codes "jlint: normal steps=6 hooks=2" ∷ []) ≡ true
unfolding computing.run
empty_holds = refl

--     print(7 / 2);
abbrev fraction : Program (Unit {0})
fraction =
    script false [] (expression (call (name (codes "print")) (operator binary.Div (number 7) (number 2) ∷ [])) ∷ [])

fraction_holds : weaves every_kind fraction (codes "jlint: fault NumberOutside steps=18 hooks=4" ∷ []) ≡ true
unfolding computing.run
fraction_holds = refl

--     print(9007199254740991 + 1);
abbrev past_the_range : Program (Unit {0})
past_the_range =
    script false []
    (expression (call (name (codes "print")) (operator binary.Add (number 9007199254740991) (number 1) ∷ []))
    ∷ [])

past_the_range_holds : weaves every_kind past_the_range
    (codes "jlint: fault NumberOutside steps=18 hooks=4" ∷ [])
    ≡ true
unfolding computing.run
past_the_range_holds = refl

--     try { null.x = f(); } catch (e) { print(e.name); } function f() { print("f"); }
abbrev null_member : Program (Unit {0})
null_member =
    script false
    (function_of 0 (Some (codes "f")) [] false []
    (expression (call (name (codes "print")) (string (codes "f") ∷ [])) ∷ [])
    ∷ [])
    (try
    (expression (assign (to_dot null (codes "x")) (call (name (codes "f")) [])) ∷ [])
    (catch (codes "e")
    (expression (call (name (codes "print")) (dot (name (codes "e")) (codes "name") ∷ [])) ∷ []))
    None
    ∷ [])

null_member_holds : weaves every_kind null_member
    (codes "TypeError" ∷ codes "jlint: normal steps=34 hooks=9" ∷ [])
    ≡ true
unfolding computing.run
null_member_holds = refl

--     var x = "5"; print(typeof x++, x);
typeof_update_holds : weaves every_kind typeof_update
    (codes "number 6" ∷ codes "jlint: normal steps=37 hooks=12" ∷ [])
    ≡ true
unfolding computing.run
typeof_update_holds = refl

--     function f() { L: while (true) { try { return 1; } finally { break L; } } return 2; }
--     print(f());
break_in_finally_holds : weaves every_kind break_in_finally
    (codes "2" ∷ codes "jlint: normal steps=51 hooks=16" ∷ [])
    ≡ true
unfolding computing.run
break_in_finally_holds = refl

--     throw "a\nb";
abbrev uncaught : Program (Unit {0})
uncaught =
    script false [] (throw (string (97 ∷ 10 ∷ 98 ∷ [])) ∷ [])

uncaught_holds : weaves every_kind uncaught
    ((117 ∷ 110 ∷ 99 ∷ 97 ∷ 117 ∷ 103 ∷ 104 ∷ 116 ∷ 32 ∷ 34 ∷ 97 ∷ 92 ∷ 110 ∷ 98 ∷ 34 ∷ [])
    ∷ codes "jlint: thrown steps=9 hooks=3"
    ∷ [])
    ≡ true
unfolding computing.run
uncaught_holds = refl

--     "a".replace("a", "b");
abbrev unsupported : Program (Unit {0})
unsupported =
    script false []
    (expression
    (call (dot (string (codes "a")) (codes "replace")) (string (codes "a") ∷ string (codes "b") ∷ []))
    ∷ [])

unsupported_holds : weaves every_kind unsupported
    (codes "jlint: fault Unsupported String.prototype.replace steps=18 hooks=6" ∷ [])
    ≡ true
unfolding computing.run
unsupported_holds = refl

--     print(typeof 1 === "nubmer");
abbrev typeof_compared : Program (Unit {0})
typeof_compared =
    script false []
    (expression
    (call (name (codes "print"))
    (operator binary.StrictEqual (unary un.Typeof (number 1)) (string (codes "nubmer")) ∷ []))
    ∷ [])

typeof_compared_holds : weaves every_kind typeof_compared
    (codes "false" ∷ codes "jlint: normal steps=25 hooks=9" ∷ [])
    ≡ true
unfolding computing.run
typeof_compared_holds = refl

--     print(0 / 0 + 0 / 0);
abbrev two_quotients : Program (Unit {0})
two_quotients =
    script false []
    (expression
    (call (name (codes "print"))
    (operator binary.Add
    (operator binary.Div (number 0) (number 0))
    (operator binary.Div (number 0) (number 0))
    ∷ []))
    ∷ [])

two_quotients_holds : weaves every_kind two_quotients
    (codes "NaN" ∷ codes "jlint: normal steps=33 hooks=12" ∷ [])
    ≡ true
unfolding computing.run
two_quotients_holds = refl

--     print(1 + 2 * 3);
abbrev product : Program (Unit {0})
product =
    script false []
    (expression
    (call (name (codes "print"))
    (operator binary.Add (number 1) (operator binary.Mul (number 2) (number 3)) ∷ []))
    ∷ [])

product_holds : weaves every_kind product (codes "7" ∷ codes "jlint: normal steps=28 hooks=10" ∷ []) ≡ true
unfolding computing.run
product_holds = refl

--     print(5 - 7);
abbrev difference : Program (Unit {0})
difference =
    script false [] (expression (call (name (codes "print")) (operator binary.Sub (number 5) (number 7) ∷ [])) ∷ [])

difference_holds : weaves every_kind difference (codes "-2" ∷ codes "jlint: normal steps=23 hooks=8" ∷ []) ≡ true
unfolding computing.run
difference_holds = refl

--     print("// jlint-off nan-made", 0 / 0);
abbrev two_arguments : Program (Unit {0})
two_arguments =
    script false []
    (expression
    (call (name (codes "print"))
    (string (codes "// jlint-off nan-made") ∷ operator binary.Div (number 0) (number 0) ∷ []))
    ∷ [])

two_arguments_holds : weaves every_kind two_arguments
    (codes "// jlint-off nan-made NaN" ∷ codes "jlint: normal steps=27 hooks=9" ∷ [])
    ≡ true
unfolding computing.run
two_arguments_holds = refl
