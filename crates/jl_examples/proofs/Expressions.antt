-- Expressions, and the order in which their parts are evaluated (clause 11).
use Rattle.std.specs.Prelude.{◌≡◌, refl, ◌∷◌, [], codes, true, false, Some, None}
use Rattle.jl_ast.specs.declared.ops.BinOp.TheVariants as binary
use Rattle.jl_ast.specs.declared.ops.UnOp.TheVariants as un
use Rattle.jl_ast.specs.Tree.{Program}
use Rattle.jl_examples.proofs.Computing as computing
use Rattle.jl_examples.proofs.Running.{prints}
use Rattle.jl_examples.proofs.Trees.{script, function_of, name, number, string, boolean, null, array, filled, object}
use Rattle.jl_examples.proofs.Trees.{value, getter, setter, function_expression, dot, call, unary, update, operator}
use Rattle.jl_examples.proofs.Trees.{and, or, conditional, assign, compute, comma, to_name, to_dot, to_index}
use Rattle.jl_examples.proofs.Trees.{declarator, var, expression, return, catch, try}

-- both operands are evaluated before either is converted, the left one first (11.5, 11.6.1)
--
--     var s = "";
--     function v(n) { s += n; return { valueOf: function () { s += "v" + n; return n; } }; }
--     var r = v(1) * v(2) + v(3) - v(4);
--     print(r, s);
abbrev left_before_right : Program (Unit {0})
left_before_right =
    script false
    (function_of 0 (Some (codes "v")) (codes "n" ∷ []) false []
    (expression (compute binary.Add (to_name (codes "s")) (name (codes "n")))
    ∷ return
    (Some
    (object
    (value (codes "valueOf")
    (function_expression
    (function_of 1 None [] false []
    (expression
    (compute binary.Add (to_name (codes "s"))
    (operator binary.Add (string (codes "v"))
    (name (codes "n"))))
    ∷ return (Some (name (codes "n")))
    ∷ [])))
    ∷ [])))
    ∷ [])
    ∷ [])
    (var (declarator (codes "s") (Some (string [])) ∷ [])
    ∷ var
    (declarator (codes "r")
    (Some
    (operator binary.Sub
    (operator binary.Add
    (operator binary.Mul (call (name (codes "v")) (number 1 ∷ []))
    (call (name (codes "v")) (number 2 ∷ [])))
    (call (name (codes "v")) (number 3 ∷ [])))
    (call (name (codes "v")) (number 4 ∷ []))))
    ∷ [])
    ∷ expression (call (name (codes "print")) (name (codes "r") ∷ name (codes "s") ∷ []))
    ∷ [])

left_before_right_holds : prints left_before_right (codes "1 12v1v23v34v4" ∷ codes "jlint: normal" ∷ []) ≡ true
unfolding computing.run
left_before_right_holds = refl

-- the base is tested and the key is converted before the value is evaluated (11.2.1, 11.13.1)
--
--     var s = "", o = {}, k = { toString: function () { s += "k"; return "p"; } };
--     function f() { s += "f"; return 1; }
--     o[k] = f(); o[k] += f();
--     try { null[k] = f(); } catch (e) { s += e.name; }
--     print(o.p, s);
abbrev key_before_value : Program (Unit {0})
key_before_value =
    script false
    (function_of 0 (Some (codes "f")) [] false []
    (expression (compute binary.Add (to_name (codes "s")) (string (codes "f")))
    ∷ return (Some (number 1))
    ∷ [])
    ∷ [])
    (var
    (declarator (codes "s") (Some (string []))
    ∷ declarator (codes "o") (Some (object []))
    ∷ declarator (codes "k")
    (Some
    (object
    (value (codes "toString")
    (function_expression
    (function_of 1 None [] false []
    (expression
    (compute binary.Add (to_name (codes "s"))
    (string (codes "k")))
    ∷ return (Some (string (codes "p")))
    ∷ [])))
    ∷ [])))
    ∷ [])
    ∷ expression (assign (to_index (name (codes "o")) (name (codes "k"))) (call (name (codes "f")) []))
    ∷ expression
    (compute binary.Add (to_index (name (codes "o")) (name (codes "k"))) (call (name (codes "f")) []))
    ∷ try
    (expression (assign (to_index null (name (codes "k"))) (call (name (codes "f")) [])) ∷ [])
    (catch (codes "e")
    (expression (compute binary.Add (to_name (codes "s")) (dot (name (codes "e")) (codes "name")))
    ∷ []))
    None
    ∷ expression (call (name (codes "print")) (dot (name (codes "o")) (codes "p") ∷ name (codes "s") ∷ []))
    ∷ [])

key_before_value_holds : prints key_before_value (codes "2 kfkfTypeError" ∷ codes "jlint: normal" ∷ []) ≡ true
unfolding computing.run
key_before_value_holds = refl

-- the left side of a compound assignment is resolved and read before the right side (11.13.2)
--
--     var x = 1, o = { get p() { s += "g"; return 1; }, set p(v) { s += "s" + v; } }, s = "";
--     function f() { x = 10; s += "f"; return 2; }
--     x += f(); o.p += f(); o.p++;
--     print(x, s);
abbrev left_side_once : Program (Unit {0})
left_side_once =
    script false
    (function_of 0 (Some (codes "f")) [] false []
    (expression (assign (to_name (codes "x")) (number 10))
    ∷ expression (compute binary.Add (to_name (codes "s")) (string (codes "f")))
    ∷ return (Some (number 2))
    ∷ [])
    ∷ [])
    (var
    (declarator (codes "x") (Some (number 1))
    ∷ declarator (codes "o")
    (Some
    (object
    (getter (codes "p")
    (function_of 1 None [] false []
    (expression
    (compute binary.Add (to_name (codes "s")) (string (codes "g")))
    ∷ return (Some (number 1))
    ∷ []))
    ∷ setter (codes "p")
    (function_of 2 None (codes "v" ∷ []) false []
    (expression
    (compute binary.Add (to_name (codes "s"))
    (operator binary.Add (string (codes "s")) (name (codes "v"))))
    ∷ []))
    ∷ [])))
    ∷ declarator (codes "s") (Some (string []))
    ∷ [])
    ∷ expression (compute binary.Add (to_name (codes "x")) (call (name (codes "f")) []))
    ∷ expression (compute binary.Add (to_dot (name (codes "o")) (codes "p")) (call (name (codes "f")) []))
    ∷ expression (update true false (to_dot (name (codes "o")) (codes "p")))
    ∷ expression (call (name (codes "print")) (name (codes "x") ∷ name (codes "s") ∷ []))
    ∷ [])

left_side_once_holds : prints left_side_once (codes "10 fgfs3gs2" ∷ codes "jlint: normal" ∷ []) ≡ true
unfolding computing.run
left_side_once_holds = refl

-- x++ gives the number that x was (11.3.1, 11.4.4)
--
--     var x = "5", y = x++ + ++x, z = {}; z.a = "3"; var w = z.a--;
--     print(x, y, typeof w, w, z.a, (x = x++) + x);
abbrev update_converts : Program (Unit {0})
update_converts =
    script false []
    (var
    (declarator (codes "x") (Some (string (codes "5")))
    ∷ declarator (codes "y")
    (Some
    (operator binary.Add (update true false (to_name (codes "x")))
    (update true true (to_name (codes "x")))))
    ∷ declarator (codes "z") (Some (object []))
    ∷ [])
    ∷ expression (assign (to_dot (name (codes "z")) (codes "a")) (string (codes "3")))
    ∷ var (declarator (codes "w") (Some (update false false (to_dot (name (codes "z")) (codes "a")))) ∷ [])
    ∷ expression
    (call (name (codes "print"))
    (name (codes "x")
    ∷ name (codes "y")
    ∷ unary un.Typeof (name (codes "w"))
    ∷ name (codes "w")
    ∷ dot (name (codes "z")) (codes "a")
    ∷ operator binary.Add
    (assign (to_name (codes "x")) (update true false (to_name (codes "x"))))
    (name (codes "x"))
    ∷ []))
    ∷ [])

update_converts_holds : prints update_converts (codes "7 12 number 3 2 14" ∷ codes "jlint: normal" ∷ []) ≡ true
unfolding computing.run
update_converts_holds = refl

-- the right side of && and || is evaluated where it decides (11.11)
--
--     var s = "";
--     function f(x) { s += x; return x; }
--     var r = f(0) || f("a") && f("") || f(3) && f(4);
--     var t = f(1) ? f(2) : f(5);
--     print(r, t, s, (f(7), f(8)));
abbrev short_circuits : Program (Unit {0})
short_circuits =
    script false
    (function_of 0 (Some (codes "f")) (codes "x" ∷ []) false []
    (expression (compute binary.Add (to_name (codes "s")) (name (codes "x")))
    ∷ return (Some (name (codes "x")))
    ∷ [])
    ∷ [])
    (var (declarator (codes "s") (Some (string [])) ∷ [])
    ∷ var
    (declarator (codes "r")
    (Some
    (or
    (or (call (name (codes "f")) (number 0 ∷ []))
    (and
    (call (name (codes "f")) (string (codes "a") ∷ []))
    (call (name (codes "f")) (string [] ∷ []))))
    (and (call (name (codes "f")) (number 3 ∷ []))
    (call (name (codes "f")) (number 4 ∷ [])))))
    ∷ [])
    ∷ var
    (declarator (codes "t")
    (Some
    (conditional (call (name (codes "f")) (number 1 ∷ []))
    (call (name (codes "f")) (number 2 ∷ []))
    (call (name (codes "f")) (number 5 ∷ []))))
    ∷ [])
    ∷ expression
    (call (name (codes "print"))
    (name (codes "r")
    ∷ name (codes "t")
    ∷ name (codes "s")
    ∷ comma (call (name (codes "f")) (number 7 ∷ [])) (call (name (codes "f")) (number 8 ∷ []))
    ∷ []))
    ∷ [])

short_circuits_holds : prints short_circuits (codes "4 2 0a3412 8" ∷ codes "jlint: normal" ∷ []) ≡ true
unfolding computing.run
short_circuits_holds = refl

-- typeof and delete of names and members (11.4.1, 11.4.3)
--
--     var o = { a: 1 }, u;
--     function f(a) { return delete a; }
--     print(typeof nowhere, typeof u, typeof null, typeof f, typeof "s", typeof o.a.b);
--     print(delete o.a, delete o.a, "a" in o, delete o, f(1), delete nowhere, delete "s".length, delete 1);
abbrev typeof_and_delete : Program (Unit {0})
typeof_and_delete =
    script false
    (function_of 0 (Some (codes "f")) (codes "a" ∷ []) false []
    (return (Some (unary un.Delete (name (codes "a")))) ∷ [])
    ∷ [])
    (var
    (declarator (codes "o") (Some (object (value (codes "a") (number 1) ∷ [])))
    ∷ declarator (codes "u") None
    ∷ [])
    ∷ expression
    (call (name (codes "print"))
    (unary un.Typeof (name (codes "nowhere"))
    ∷ unary un.Typeof (name (codes "u"))
    ∷ unary un.Typeof null
    ∷ unary un.Typeof (name (codes "f"))
    ∷ unary un.Typeof (string (codes "s"))
    ∷ unary un.Typeof (dot (dot (name (codes "o")) (codes "a")) (codes "b"))
    ∷ []))
    ∷ expression
    (call (name (codes "print"))
    (unary un.Delete (dot (name (codes "o")) (codes "a"))
    ∷ unary un.Delete (dot (name (codes "o")) (codes "a"))
    ∷ operator binary.In (string (codes "a")) (name (codes "o"))
    ∷ unary un.Delete (name (codes "o"))
    ∷ call (name (codes "f")) (number 1 ∷ [])
    ∷ unary un.Delete (name (codes "nowhere"))
    ∷ unary un.Delete (dot (string (codes "s")) (codes "length"))
    ∷ unary un.Delete (number 1)
    ∷ []))
    ∷ [])

typeof_and_delete_holds : prints typeof_and_delete
    (codes "undefined undefined object function string undefined"
    ∷ codes "true true false false false true false true"
    ∷ codes "jlint: normal"
    ∷ [])
    ≡ true
unfolding computing.run
typeof_and_delete_holds = refl

-- comparison converts the left operand first in each of the four relations (11.8.1 to 11.8.5)
--
--     var s = "";
--     function v(n) { return { valueOf: function () { s += n; return n; } }; }
--     var r = [v(1) < v(2), v(1) > v(2), v(2) <= v(1), v(2) >= v(1)];
--     print(r, s, "b" > "a", "10" < "9", "10" < 9, undefined <= undefined, null >= 0, 1 in [5, 6], NaN < 1);
abbrev relations : Program (Unit {0})
relations =
    script false
    (function_of 0 (Some (codes "v")) (codes "n" ∷ []) false []
    (return
    (Some
    (object
    (value (codes "valueOf")
    (function_expression
    (function_of 1 None [] false []
    (expression
    (compute binary.Add (to_name (codes "s")) (name (codes "n")))
    ∷ return (Some (name (codes "n")))
    ∷ [])))
    ∷ [])))
    ∷ [])
    ∷ [])
    (var (declarator (codes "s") (Some (string [])) ∷ [])
    ∷ var
    (declarator (codes "r")
    (Some
    (array
    (filled
    (operator binary.Less (call (name (codes "v")) (number 1 ∷ []))
    (call (name (codes "v")) (number 2 ∷ [])))
    ∷ filled
    (operator binary.Greater (call (name (codes "v")) (number 1 ∷ []))
    (call (name (codes "v")) (number 2 ∷ [])))
    ∷ filled
    (operator binary.LessEq (call (name (codes "v")) (number 2 ∷ []))
    (call (name (codes "v")) (number 1 ∷ [])))
    ∷ filled
    (operator binary.GreaterEq (call (name (codes "v")) (number 2 ∷ []))
    (call (name (codes "v")) (number 1 ∷ [])))
    ∷ [])))
    ∷ [])
    ∷ expression
    (call (name (codes "print"))
    (name (codes "r")
    ∷ name (codes "s")
    ∷ operator binary.Greater (string (codes "b")) (string (codes "a"))
    ∷ operator binary.Less (string (codes "10")) (string (codes "9"))
    ∷ operator binary.Less (string (codes "10")) (number 9)
    ∷ operator binary.LessEq (name (codes "undefined")) (name (codes "undefined"))
    ∷ operator binary.GreaterEq null (number 0)
    ∷ operator binary.In (number 1) (array (filled (number 5) ∷ filled (number 6) ∷ []))
    ∷ operator binary.Less (name (codes "NaN")) (number 1)
    ∷ []))
    ∷ [])

relations_holds : prints relations
    (codes "true,false,false,true 12122121 true true false false true true false"
    ∷ codes "jlint: normal"
    ∷ [])
    ≡ true
unfolding computing.run
relations_holds = refl

-- abstract and strict equality (11.9.3, 11.9.6)
--
--     var o = { valueOf: function () { return 1; } };
--     print(null == undefined, null == 0, "1" == 1, true == "1", o == 1, o == true, o == o, o == {}, NaN == NaN);
--     print(o === o, 1 === "1", NaN !== NaN, "a" + "b" === "ab", undefined == false);
abbrev equality : Program (Unit {0})
equality =
    script false []
    (var
    (declarator (codes "o")
    (Some
    (object
    (value (codes "valueOf")
    (function_expression
    (function_of 0 None [] false [] (return (Some (number 1)) ∷ [])))
    ∷ [])))
    ∷ [])
    ∷ expression
    (call (name (codes "print"))
    (operator binary.Equal null (name (codes "undefined"))
    ∷ operator binary.Equal null (number 0)
    ∷ operator binary.Equal (string (codes "1")) (number 1)
    ∷ operator binary.Equal (boolean true) (string (codes "1"))
    ∷ operator binary.Equal (name (codes "o")) (number 1)
    ∷ operator binary.Equal (name (codes "o")) (boolean true)
    ∷ operator binary.Equal (name (codes "o")) (name (codes "o"))
    ∷ operator binary.Equal (name (codes "o")) (object [])
    ∷ operator binary.Equal (name (codes "NaN")) (name (codes "NaN"))
    ∷ []))
    ∷ expression
    (call (name (codes "print"))
    (operator binary.StrictEqual (name (codes "o")) (name (codes "o"))
    ∷ operator binary.StrictEqual (number 1) (string (codes "1"))
    ∷ operator binary.StrictNotEqual (name (codes "NaN")) (name (codes "NaN"))
    ∷ operator binary.StrictEqual
    (operator binary.Add (string (codes "a")) (string (codes "b")))
    (string (codes "ab"))
    ∷ operator binary.Equal (name (codes "undefined")) (boolean false)
    ∷ []))
    ∷ [])

equality_holds : prints equality
    (codes "true false true true true true true false false"
    ∷ codes "true false true true false"
    ∷ codes "jlint: normal"
    ∷ [])
    ≡ true
unfolding computing.run
equality_holds = refl

-- bits and shifts take 32-bit integers (9.5, 9.6, 11.7, 11.10)
--
--     print(-1 >>> 0, -1 >>> 28, 1 << 31, 1 << 33, -9 >> 1, 4294967297 | 0, ~-1, 5 & "3", 6 ^ undefined, 2147483648
--       >> 0);
abbrev bits : Program (Unit {0})
bits =
    script false []
    (expression
    (call (name (codes "print"))
    (operator binary.Shr (unary un.Minus (number 1)) (number 0)
    ∷ operator binary.Shr (unary un.Minus (number 1)) (number 28)
    ∷ operator binary.Shl (number 1) (number 31)
    ∷ operator binary.Shl (number 1) (number 33)
    ∷ operator binary.Sar (unary un.Minus (number 9)) (number 1)
    ∷ operator binary.BitOr (number 4294967297) (number 0)
    ∷ unary un.Tilde (unary un.Minus (number 1))
    ∷ operator binary.BitAnd (number 5) (string (codes "3"))
    ∷ operator binary.BitXor (number 6) (name (codes "undefined"))
    ∷ operator binary.Sar (number 2147483648) (number 0)
    ∷ []))
    ∷ [])

bits_holds : prints bits
    (codes "4294967295 15 -2147483648 2 -5 1 0 1 6 -2147483648" ∷ codes "jlint: normal" ∷ [])
    ≡ true
unfolding computing.run
bits_holds = refl

-- operators with one operand, remainders and inequalities (11.4, 11.5.3, 11.9)
--
--     print(+"3", -"4", !0, !"x", ~"5", void 0, typeof -1, - -1, +true, +null, +undefined, -{}, !!{});
--     print(7 % 3, -7 % 3, 7 % -3, 5 % 0, 1 != "1", 1 != 2, null != undefined, "a" !== "a", 6 / -3, 12 & 10, 12 | 3,
--       12 ^ 10, 1 << 3, -8 >> 1, 8 >>> 2, 2 <= 2, 3 >= 4);
abbrev unary_operators : Program (Unit {0})
unary_operators =
    script false []
    (expression
    (call (name (codes "print"))
    (unary un.Plus (string (codes "3"))
    ∷ unary un.Minus (string (codes "4"))
    ∷ unary un.Not (number 0)
    ∷ unary un.Not (string (codes "x"))
    ∷ unary un.Tilde (string (codes "5"))
    ∷ unary un.Void (number 0)
    ∷ unary un.Typeof (unary un.Minus (number 1))
    ∷ unary un.Minus (unary un.Minus (number 1))
    ∷ unary un.Plus (boolean true)
    ∷ unary un.Plus null
    ∷ unary un.Plus (name (codes "undefined"))
    ∷ unary un.Minus (object [])
    ∷ unary un.Not (unary un.Not (object []))
    ∷ []))
    ∷ expression
    (call (name (codes "print"))
    (operator binary.Rem (number 7) (number 3)
    ∷ operator binary.Rem (unary un.Minus (number 7)) (number 3)
    ∷ operator binary.Rem (number 7) (unary un.Minus (number 3))
    ∷ operator binary.Rem (number 5) (number 0)
    ∷ operator binary.NotEqual (number 1) (string (codes "1"))
    ∷ operator binary.NotEqual (number 1) (number 2)
    ∷ operator binary.NotEqual null (name (codes "undefined"))
    ∷ operator binary.StrictNotEqual (string (codes "a")) (string (codes "a"))
    ∷ operator binary.Div (number 6) (unary un.Minus (number 3))
    ∷ operator binary.BitAnd (number 12) (number 10)
    ∷ operator binary.BitOr (number 12) (number 3)
    ∷ operator binary.BitXor (number 12) (number 10)
    ∷ operator binary.Shl (number 1) (number 3)
    ∷ operator binary.Sar (unary un.Minus (number 8)) (number 1)
    ∷ operator binary.Shr (number 8) (number 2)
    ∷ operator binary.LessEq (number 2) (number 2)
    ∷ operator binary.GreaterEq (number 3) (number 4)
    ∷ []))
    ∷ [])

unary_operators_holds : prints unary_operators
    (codes "3 -4 true false -6 undefined number 1 1 0 NaN NaN true"
    ∷ codes "1 -1 1 NaN false true false false -2 8 15 6 8 -4 2 true false"
    ∷ codes "jlint: normal"
    ∷ [])
    ≡ true
unfolding computing.run
unary_operators_holds = refl
