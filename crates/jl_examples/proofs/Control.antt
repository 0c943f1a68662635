-- Statements (clause 12).
use Rattle.std.specs.Prelude.{◌≡◌, refl, ◌∷◌, [], codes, true, false, Some, None}
use Rattle.jl_ast.specs.declared.ops.BinOp.TheVariants as binary
use Rattle.jl_ast.specs.declared.ops.UnOp.TheVariants as un
use Rattle.jl_ast.specs.Tree.{Program}
use Rattle.jl_examples.proofs.Computing as computing
use Rattle.jl_examples.proofs.Running.{prints}
use Rattle.jl_examples.proofs.Trees.{script, function_of, this, name, number, string, null, object, value}
use Rattle.jl_examples.proofs.Trees.{function_expression, dot, call, new, unary, update, operator, conditional}
use Rattle.jl_examples.proofs.Trees.{assign, compute, comma, to_name, to_dot, declarator, var, empty, expression}
use Rattle.jl_examples.proofs.Trees.{block, debugger, if_else, do_while, while, nothing, init_var, init_expression}
use Rattle.jl_examples.proofs.Trees.{for, for_in, continue, break, return, throw, labelled, case, switch, catch}
use Rattle.jl_examples.proofs.Trees.{no_catch, try}

-- continue with a label goes on with the loop that has it (12.7, 12.12)
--
--     var s = "";
--     a: for (var i = 0; i < 3; i++) { b: for (var j = 0; j < 3; j++) { if (j == 1) { continue a; } if (i == 2) {
--       break a; } s += i + "" + j + ","; } }
--     c: { s += "x"; if (s) { break c; } s += "never"; }
--     d: do { s += "d"; continue d; } while (s.length < 12);
--     print(s);
abbrev labelled_continue : Program (Unit {0})
labelled_continue =
    script false []
    (var (declarator (codes "s") (Some (string [])) ∷ [])
    ∷ labelled (codes "a")
    (for
    (init_var (declarator (codes "i") (Some (number 0)) ∷ []))
    (Some (operator binary.Less (name (codes "i")) (number 3)))
    (Some (update true false (to_name (codes "i"))))
    (labelled (codes "b")
    (for
    (init_var (declarator (codes "j") (Some (number 0)) ∷ []))
    (Some (operator binary.Less (name (codes "j")) (number 3)))
    (Some (update true false (to_name (codes "j"))))
    (if_else
    (operator binary.Equal (name (codes "j")) (number 1))
    (continue (Some (codes "a")) ∷ [])
    None
    ∷ if_else
    (operator binary.Equal (name (codes "i")) (number 2))
    (break (Some (codes "a")) ∷ [])
    None
    ∷ expression
    (compute binary.Add (to_name (codes "s"))
    (operator binary.Add
    (operator binary.Add
    (operator binary.Add (name (codes "i")) (string []))
    (name (codes "j")))
    (string (codes ","))))
    ∷ []))
    ∷ []))
    ∷ labelled (codes "c")
    (block
    (expression (compute binary.Add (to_name (codes "s")) (string (codes "x")))
    ∷ if_else (name (codes "s")) (break (Some (codes "c")) ∷ []) None
    ∷ expression (compute binary.Add (to_name (codes "s")) (string (codes "never")))
    ∷ []))
    ∷ labelled (codes "d")
    (do_while
    (expression (compute binary.Add (to_name (codes "s")) (string (codes "d")))
    ∷ continue (Some (codes "d"))
    ∷ [])
    (operator binary.Less (dot (name (codes "s")) (codes "length")) (number 12)))
    ∷ expression (call (name (codes "print")) (name (codes "s") ∷ []))
    ∷ [])

labelled_continue_holds : prints labelled_continue (codes "00,10,xddddd" ∷ codes "jlint: normal" ∷ []) ≡ true
unfolding computing.run
labelled_continue_holds = refl

-- cases are tested in the order of the text, and the default comes after all (12.11)
--
--     var s = "";
--     function t(x) { s += x; return x; }
--     function f(x) { switch (x) { case t(1): s += "one"; default: s += "def"; case t(2): s += "two"; break; case
--       t(3): s += "three"; } s += ";"; }
--     f(1); f(2); f(3); f(9); f("2");
--     print(s);
abbrev switch_falls_through : Program (Unit {0})
switch_falls_through =
    script false
    (function_of 0 (Some (codes "t")) (codes "x" ∷ []) false []
    (expression (compute binary.Add (to_name (codes "s")) (name (codes "x")))
    ∷ return (Some (name (codes "x")))
    ∷ [])
    ∷ function_of 1 (Some (codes "f")) (codes "x" ∷ []) false []
    (switch (name (codes "x"))
    (case
    (Some (call (name (codes "t")) (number 1 ∷ [])))
    (expression (compute binary.Add (to_name (codes "s")) (string (codes "one"))) ∷ [])
    ∷ case None
    (expression (compute binary.Add (to_name (codes "s")) (string (codes "def"))) ∷ [])
    ∷ case
    (Some (call (name (codes "t")) (number 2 ∷ [])))
    (expression (compute binary.Add (to_name (codes "s")) (string (codes "two")))
    ∷ break None
    ∷ [])
    ∷ case
    (Some (call (name (codes "t")) (number 3 ∷ [])))
    (expression (compute binary.Add (to_name (codes "s")) (string (codes "three"))) ∷ [])
    ∷ [])
    ∷ expression (compute binary.Add (to_name (codes "s")) (string (codes ";")))
    ∷ [])
    ∷ [])
    (var (declarator (codes "s") (Some (string [])) ∷ [])
    ∷ expression (call (name (codes "f")) (number 1 ∷ []))
    ∷ expression (call (name (codes "f")) (number 2 ∷ []))
    ∷ expression (call (name (codes "f")) (number 3 ∷ []))
    ∷ expression (call (name (codes "f")) (number 9 ∷ []))
    ∷ expression (call (name (codes "f")) (string (codes "2") ∷ []))
    ∷ expression (call (name (codes "print")) (name (codes "s") ∷ []))
    ∷ [])

switch_falls_through_holds : prints switch_falls_through
    (codes "1onedeftwo;12two;123three;123deftwo;123deftwo;" ∷ codes "jlint: normal" ∷ [])
    ≡ true
unfolding computing.run
switch_falls_through_holds = refl

-- an abrupt finally overrides what came before it, and a normal one leaves it (12.14)
--
--     function f() { try { return "try"; } finally { print("f"); } }
--     function g() { try { throw "t"; } catch (e) { return "catch " + e; } finally { return "finally"; } }
--     function h() { for (;;) { try { return 1; } finally { break; } } return 2; }
--     function k() { try { try { throw "a"; } finally { throw "b"; } } catch (e) { return e; } }
--     print(f(), g(), h(), k());
abbrev finally_overrides : Program (Unit {0})
finally_overrides =
    script false
    (function_of 0 (Some (codes "f")) [] false []
    (try
    (return (Some (string (codes "try"))) ∷ [])
    no_catch
    (Some (expression (call (name (codes "print")) (string (codes "f") ∷ [])) ∷ []))
    ∷ [])
    ∷ function_of 1 (Some (codes "g")) [] false []
    (try (throw (string (codes "t")) ∷ [])
    (catch (codes "e")
    (return (Some (operator binary.Add (string (codes "catch ")) (name (codes "e")))) ∷ []))
    (Some (return (Some (string (codes "finally"))) ∷ []))
    ∷ [])
    ∷ function_of 2 (Some (codes "h")) [] false []
    (for nothing None None (try (return (Some (number 1)) ∷ []) no_catch (Some (break None ∷ [])) ∷ [])
    ∷ return (Some (number 2))
    ∷ [])
    ∷ function_of 3 (Some (codes "k")) [] false []
    (try
    (try (throw (string (codes "a")) ∷ []) no_catch (Some (throw (string (codes "b")) ∷ [])) ∷ [])
    (catch (codes "e") (return (Some (name (codes "e"))) ∷ []))
    None
    ∷ [])
    ∷ [])
    (expression
    (call (name (codes "print"))
    (call (name (codes "f")) []
    ∷ call (name (codes "g")) []
    ∷ call (name (codes "h")) []
    ∷ call (name (codes "k")) []
    ∷ []))
    ∷ [])

finally_overrides_holds : prints finally_overrides
    (codes "f" ∷ codes "try finally 2 b" ∷ codes "jlint: normal" ∷ [])
    ≡ true
unfolding computing.run
finally_overrides_holds = refl

-- the parameter of a catch is bound in the block alone, and closures keep it (12.14)
--
--     var e = "outer", f;
--     try { throw "inner"; } catch (e) { var x = e; f = function () { return e; }; e = "changed"; }
--     print(e, x, f());
abbrev catch_scope : Program (Unit {0})
catch_scope =
    script false []
    (var (declarator (codes "e") (Some (string (codes "outer"))) ∷ declarator (codes "f") None ∷ [])
    ∷ try (throw (string (codes "inner")) ∷ [])
    (catch (codes "e")
    (var (declarator (codes "x") (Some (name (codes "e"))) ∷ [])
    ∷ expression
    (assign (to_name (codes "f"))
    (function_expression
    (function_of 0 None [] false [] (return (Some (name (codes "e"))) ∷ []))))
    ∷ expression (assign (to_name (codes "e")) (string (codes "changed")))
    ∷ []))
    None
    ∷ expression
    (call (name (codes "print")) (name (codes "e") ∷ name (codes "x") ∷ call (name (codes "f")) [] ∷ []))
    ∷ [])

catch_scope_holds : prints catch_scope (codes "outer inner changed" ∷ codes "jlint: normal" ∷ []) ≡ true
unfolding computing.run
catch_scope_holds = refl

-- for-in visits what is still there, shadowed names once, and not what isn't enumerable (12.6.4)
--
--     function P() { this.b = 1; this.a = 2; }
--     P.prototype.c = 3; P.prototype.b = 4;
--     var s = "", o = new P();
--     Object.defineProperty(o, "hidden", { value: 1 });
--     for (var k in o) { s += k; delete o.a; }
--     for (k in "xy") { s += k; }
--     for (k in null) { s += "never"; }
--     print(s);
abbrev for_in_order : Program (Unit {0})
for_in_order =
    script false
    (function_of 0 (Some (codes "P")) [] false []
    (expression (assign (to_dot this (codes "b")) (number 1))
    ∷ expression (assign (to_dot this (codes "a")) (number 2))
    ∷ [])
    ∷ [])
    (expression (assign (to_dot (dot (name (codes "P")) (codes "prototype")) (codes "c")) (number 3))
    ∷ expression (assign (to_dot (dot (name (codes "P")) (codes "prototype")) (codes "b")) (number 4))
    ∷ var
    (declarator (codes "s") (Some (string []))
    ∷ declarator (codes "o") (Some (new (name (codes "P")) []))
    ∷ [])
    ∷ expression
    (call
    (dot (name (codes "Object")) (codes "defineProperty"))
    (name (codes "o")
    ∷ string (codes "hidden")
    ∷ object (value (codes "value") (number 1) ∷ [])
    ∷ []))
    ∷ for_in true (codes "k") (name (codes "o"))
    (expression (compute binary.Add (to_name (codes "s")) (name (codes "k")))
    ∷ expression (unary un.Delete (dot (name (codes "o")) (codes "a")))
    ∷ [])
    ∷ for_in false (codes "k") (string (codes "xy"))
    (expression (compute binary.Add (to_name (codes "s")) (name (codes "k"))) ∷ [])
    ∷ for_in false (codes "k") null
    (expression (compute binary.Add (to_name (codes "s")) (string (codes "never"))) ∷ [])
    ∷ expression (call (name (codes "print")) (name (codes "s") ∷ []))
    ∷ [])

for_in_order_holds : prints for_in_order (codes "bc01" ∷ codes "jlint: normal" ∷ []) ≡ true
unfolding computing.run
for_in_order_holds = refl

-- the loops, with tests and updates (12.6.1 to 12.6.3)
--
--     var s = "", i = 3;
--     while (i--) { if (i == 1) { continue; } s += i; }
--     do { s += "d"; } while (i++ < 0);
--     for (var j = 0, k = 9; j < k; j += 4, k--) { s += j + ":" + k + " "; }
--     for (; ; ) { break; }
--     print(s, i, j, k);
abbrev loops : Program (Unit {0})
loops =
    script false []
    (var (declarator (codes "s") (Some (string [])) ∷ declarator (codes "i") (Some (number 3)) ∷ [])
    ∷ while
    (update false false (to_name (codes "i")))
    (if_else (operator binary.Equal (name (codes "i")) (number 1)) (continue None ∷ []) None
    ∷ expression (compute binary.Add (to_name (codes "s")) (name (codes "i")))
    ∷ [])
    ∷ do_while
    (expression (compute binary.Add (to_name (codes "s")) (string (codes "d"))) ∷ [])
    (operator binary.Less (update true false (to_name (codes "i"))) (number 0))
    ∷ for
    (init_var (declarator (codes "j") (Some (number 0)) ∷ declarator (codes "k") (Some (number 9)) ∷ []))
    (Some (operator binary.Less (name (codes "j")) (name (codes "k"))))
    (Some
    (comma
    (compute binary.Add (to_name (codes "j")) (number 4))
    (update false false (to_name (codes "k")))))
    (expression
    (compute binary.Add (to_name (codes "s"))
    (operator binary.Add
    (operator binary.Add
    (operator binary.Add (name (codes "j")) (string (codes ":")))
    (name (codes "k")))
    (string (codes " "))))
    ∷ [])
    ∷ for nothing None None (break None ∷ [])
    ∷ expression
    (call (name (codes "print"))
    (name (codes "s") ∷ name (codes "i") ∷ name (codes "j") ∷ name (codes "k") ∷ []))
    ∷ [])

loops_holds : prints loops (codes "20dd0:9 4:8  1 8 7" ∷ codes "jlint: normal" ∷ []) ≡ true
unfolding computing.run
loops_holds = refl

-- empty statements, blocks, debugger, and heads of loops that are expressions (12.1, 12.3, 12.6.3, 12.15)
--
--     var i, s = "";
--     ;
--     { s += "a"; { s += "b"; } }
--     debugger;
--     for (i = 0; i < 3; i++) ;
--     for (i++; ; ) { if (i > 5) break; else i++; }
--     if (i) { } else { s += "never"; }
--     if (!i) s += "never"; else s += "c";
--     switch (i) { }
--     print(s, i, (1, 2), i ? "yes" : "no");
abbrev small_statements : Program (Unit {0})
small_statements =
    script false []
    (var (declarator (codes "i") None ∷ declarator (codes "s") (Some (string [])) ∷ [])
    ∷ empty
    ∷ block
    (expression (compute binary.Add (to_name (codes "s")) (string (codes "a")))
    ∷ block (expression (compute binary.Add (to_name (codes "s")) (string (codes "b"))) ∷ [])
    ∷ [])
    ∷ debugger
    ∷ for
    (init_expression (assign (to_name (codes "i")) (number 0)))
    (Some (operator binary.Less (name (codes "i")) (number 3)))
    (Some (update true false (to_name (codes "i"))))
    (empty ∷ [])
    ∷ for
    (init_expression (update true false (to_name (codes "i"))))
    None
    None
    (if_else
    (operator binary.Greater (name (codes "i")) (number 5))
    (break None ∷ [])
    (Some (expression (update true false (to_name (codes "i"))) ∷ []))
    ∷ [])
    ∷ if_else (name (codes "i")) []
    (Some (expression (compute binary.Add (to_name (codes "s")) (string (codes "never"))) ∷ []))
    ∷ if_else (unary un.Not (name (codes "i")))
    (expression (compute binary.Add (to_name (codes "s")) (string (codes "never"))) ∷ [])
    (Some (expression (compute binary.Add (to_name (codes "s")) (string (codes "c"))) ∷ []))
    ∷ switch (name (codes "i")) []
    ∷ expression
    (call (name (codes "print"))
    (name (codes "s")
    ∷ name (codes "i")
    ∷ comma (number 1) (number 2)
    ∷ conditional (name (codes "i")) (string (codes "yes")) (string (codes "no"))
    ∷ []))
    ∷ [])

small_statements_holds : prints small_statements (codes "abc 6 2 yes" ∷ codes "jlint: normal" ∷ []) ≡ true
unfolding computing.run
small_statements_holds = refl
