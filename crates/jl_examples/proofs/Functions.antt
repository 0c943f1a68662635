-- Functions and their calls (clauses 10 and 13).
use Rattle.std.specs.Prelude.{◌≡◌, refl, ◌∷◌, [], codes, true, false, Some, None}
use Rattle.jl_ast.specs.declared.ops.BinOp.TheVariants as binary
use Rattle.jl_ast.specs.declared.ops.UnOp.TheVariants as un
use Rattle.jl_ast.specs.Tree.{Program}
use Rattle.jl_examples.proofs.Computing as computing
use Rattle.jl_examples.proofs.Running.{prints}
use Rattle.jl_examples.proofs.Trees.{script, function_of, this, name, number, string, array, filled, object, value}
use Rattle.jl_examples.proofs.Trees.{getter, setter, function_expression, dot, index, call, new, unary, operator, and}
use Rattle.jl_examples.proofs.Trees.{or, assign, compute, comma, to_name, to_dot, to_index, declarator, var}
use Rattle.jl_examples.proofs.Trees.{expression, return, catch, try}

-- functions are bound before variables, and the last of a name counts (10.5)
--
--     print(typeof f, typeof v, f());
--     var v = 1, f = 2;
--     function f() { return "first"; }
--     function f() { return "last"; }
--     function g(a) { var a; function h() { return a; } a = 5; return h(); }
--     print(f, g(3));
abbrev hoisting : Program (Unit {0})
hoisting =
    script false
    (function_of 0 (Some (codes "f")) [] false [] (return (Some (string (codes "first"))) ∷ [])
    ∷ function_of 1 (Some (codes "f")) [] false [] (return (Some (string (codes "last"))) ∷ [])
    ∷ function_of 2 (Some (codes "g")) (codes "a" ∷ []) false
    (function_of 3 (Some (codes "h")) [] false [] (return (Some (name (codes "a"))) ∷ []) ∷ [])
    (var (declarator (codes "a") None ∷ [])
    ∷ expression (assign (to_name (codes "a")) (number 5))
    ∷ return (Some (call (name (codes "h")) []))
    ∷ [])
    ∷ [])
    (expression
    (call (name (codes "print"))
    (unary un.Typeof (name (codes "f"))
    ∷ unary un.Typeof (name (codes "v"))
    ∷ call (name (codes "f")) []
    ∷ []))
    ∷ var (declarator (codes "v") (Some (number 1)) ∷ declarator (codes "f") (Some (number 2)) ∷ [])
    ∷ expression
    (call (name (codes "print")) (name (codes "f") ∷ call (name (codes "g")) (number 3 ∷ []) ∷ []))
    ∷ [])

hoisting_holds : prints hoisting
    (codes "function undefined last" ∷ codes "2 5" ∷ codes "jlint: normal" ∷ [])
    ≡ true
unfolding computing.run
hoisting_holds = refl

-- arguments are mapped to parameters in code that is not strict (10.6)
--
--     function f(a, b) { arguments[0] = "x"; b = "y"; arguments[2] = 1; return a + arguments[1] + arguments.length; }
--     function g(a) { "use strict"; arguments[0] = "x"; return a; }
--     function h(a) { delete arguments[0]; arguments[0] = 2; return a; }
--     print(f(1, 2), f(1), g(1), h(1), (function () { return typeof arguments; })());
abbrev arguments_object : Program (Unit {0})
arguments_object =
    script false
    (function_of 0 (Some (codes "f")) (codes "a" ∷ codes "b" ∷ []) false []
    (expression (assign (to_index (name (codes "arguments")) (number 0)) (string (codes "x")))
    ∷ expression (assign (to_name (codes "b")) (string (codes "y")))
    ∷ expression (assign (to_index (name (codes "arguments")) (number 2)) (number 1))
    ∷ return
    (Some
    (operator binary.Add
    (operator binary.Add (name (codes "a"))
    (index (name (codes "arguments")) (number 1)))
    (dot (name (codes "arguments")) (codes "length"))))
    ∷ [])
    ∷ function_of 1 (Some (codes "g")) (codes "a" ∷ []) true []
    (expression (assign (to_index (name (codes "arguments")) (number 0)) (string (codes "x")))
    ∷ return (Some (name (codes "a")))
    ∷ [])
    ∷ function_of 2 (Some (codes "h")) (codes "a" ∷ []) false []
    (expression (unary un.Delete (index (name (codes "arguments")) (number 0)))
    ∷ expression (assign (to_index (name (codes "arguments")) (number 0)) (number 2))
    ∷ return (Some (name (codes "a")))
    ∷ [])
    ∷ [])
    (expression
    (call (name (codes "print"))
    (call (name (codes "f")) (number 1 ∷ number 2 ∷ [])
    ∷ call (name (codes "f")) (number 1 ∷ [])
    ∷ call (name (codes "g")) (number 1 ∷ [])
    ∷ call (name (codes "h")) (number 1 ∷ [])
    ∷ call
    (function_expression
    (function_of 3 None [] false []
    (return (Some (unary un.Typeof (name (codes "arguments")))) ∷ [])))
    []
    ∷ []))
    ∷ [])

arguments_object_holds : prints arguments_object
    (codes "xy2 xundefined1 1 1 object" ∷ codes "jlint: normal" ∷ [])
    ≡ true
unfolding computing.run
arguments_object_holds = refl

-- this in calls of all kinds (10.4.3, 11.2.3)
--
--     var o = { f: function () { return this === o; }, g: function () { return typeof this; } };
--     function s() { "use strict"; return this === undefined; }
--     print(o.f(), (o.f)(), o["f"](), (0, o.f)(), o.g.call("a"), s(), o.g.call(5));
--     String.prototype.me = function () { "use strict"; return typeof this; };
--     print("a".me());
abbrev this_values : Program (Unit {0})
this_values =
    script false
    (function_of 0 (Some (codes "s")) [] true []
    (return (Some (operator binary.StrictEqual this (name (codes "undefined")))) ∷ [])
    ∷ [])
    (var
    (declarator (codes "o")
    (Some
    (object
    (value (codes "f")
    (function_expression
    (function_of 1 None [] false []
    (return
    (Some (operator binary.StrictEqual this (name (codes "o"))))
    ∷ [])))
    ∷ value (codes "g")
    (function_expression
    (function_of 2 None [] false []
    (return (Some (unary un.Typeof this)) ∷ [])))
    ∷ [])))
    ∷ [])
    ∷ expression
    (call (name (codes "print"))
    (call (dot (name (codes "o")) (codes "f")) []
    ∷ call (dot (name (codes "o")) (codes "f")) []
    ∷ call (index (name (codes "o")) (string (codes "f"))) []
    ∷ call (comma (number 0) (dot (name (codes "o")) (codes "f"))) []
    ∷ call (dot (dot (name (codes "o")) (codes "g")) (codes "call")) (string (codes "a") ∷ [])
    ∷ call (name (codes "s")) []
    ∷ call (dot (dot (name (codes "o")) (codes "g")) (codes "call")) (number 5 ∷ [])
    ∷ []))
    ∷ expression
    (assign
    (to_dot (dot (name (codes "String")) (codes "prototype")) (codes "me"))
    (function_expression (function_of 3 None [] true [] (return (Some (unary un.Typeof this)) ∷ []))))
    ∷ expression (call (name (codes "print")) (call (dot (string (codes "a")) (codes "me")) [] ∷ []))
    ∷ [])

this_values_holds : prints this_values
    (codes "true true true false object true object" ∷ codes "string" ∷ codes "jlint: normal" ∷ [])
    ≡ true
unfolding computing.run
this_values_holds = refl

-- new gives the object that is made, or another that is returned (11.2.2, 13.2.2)
--
--     function A(x) { this.x = x; }
--     function B() { return { x: "other" }; }
--     function C() { this.x = 1; return 5; }
--     A.prototype.y = "proto";
--     var a = new A(3);
--     print(a.x, a.y, new B().x, new C().x, a instanceof A, a.constructor === A, Object.getPrototypeOf(a) ===
--       A.prototype);
--     try { new a(); } catch (e) { print(e.name); }
abbrev constructors : Program (Unit {0})
constructors =
    script false
    (function_of 0 (Some (codes "A")) (codes "x" ∷ []) false []
    (expression (assign (to_dot this (codes "x")) (name (codes "x"))) ∷ [])
    ∷ function_of 1 (Some (codes "B")) [] false []
    (return (Some (object (value (codes "x") (string (codes "other")) ∷ []))) ∷ [])
    ∷ function_of 2 (Some (codes "C")) [] false []
    (expression (assign (to_dot this (codes "x")) (number 1)) ∷ return (Some (number 5)) ∷ [])
    ∷ [])
    (expression
    (assign (to_dot (dot (name (codes "A")) (codes "prototype")) (codes "y")) (string (codes "proto")))
    ∷ var (declarator (codes "a") (Some (new (name (codes "A")) (number 3 ∷ []))) ∷ [])
    ∷ expression
    (call (name (codes "print"))
    (dot (name (codes "a")) (codes "x")
    ∷ dot (name (codes "a")) (codes "y")
    ∷ dot (new (name (codes "B")) []) (codes "x")
    ∷ dot (new (name (codes "C")) []) (codes "x")
    ∷ operator binary.InstanceOf (name (codes "a")) (name (codes "A"))
    ∷ operator binary.StrictEqual (dot (name (codes "a")) (codes "constructor")) (name (codes "A"))
    ∷ operator binary.StrictEqual
    (call (dot (name (codes "Object")) (codes "getPrototypeOf")) (name (codes "a") ∷ []))
    (dot (name (codes "A")) (codes "prototype"))
    ∷ []))
    ∷ try
    (expression (new (name (codes "a")) []) ∷ [])
    (catch (codes "e")
    (expression (call (name (codes "print")) (dot (name (codes "e")) (codes "name") ∷ [])) ∷ []))
    None
    ∷ [])

constructors_holds : prints constructors
    (codes "3 proto other 1 true true true" ∷ codes "TypeError" ∷ codes "jlint: normal" ∷ [])
    ≡ true
unfolding computing.run
constructors_holds = refl

-- the own name of a function expression can not be changed (clause 13)
--
--     var f = function me() { me = 1; return typeof me; };
--     var g = function me() { "use strict"; me = 1; };
--     print(f());
--     try { g(); } catch (e) { print(e.name); }
abbrev own_name : Program (Unit {0})
own_name =
    script false []
    (var
    (declarator (codes "f")
    (Some
    (function_expression
    (function_of 0 (Some (codes "me")) [] false []
    (expression (assign (to_name (codes "me")) (number 1))
    ∷ return (Some (unary un.Typeof (name (codes "me"))))
    ∷ []))))
    ∷ [])
    ∷ var
    (declarator (codes "g")
    (Some
    (function_expression
    (function_of 1 (Some (codes "me")) [] true []
    (expression (assign (to_name (codes "me")) (number 1)) ∷ []))))
    ∷ [])
    ∷ expression (call (name (codes "print")) (call (name (codes "f")) [] ∷ []))
    ∷ try
    (expression (call (name (codes "g")) []) ∷ [])
    (catch (codes "e")
    (expression (call (name (codes "print")) (dot (name (codes "e")) (codes "name") ∷ [])) ∷ []))
    None
    ∷ [])

own_name_holds : prints own_name (codes "function" ∷ codes "TypeError" ∷ codes "jlint: normal" ∷ []) ≡ true
unfolding computing.run
own_name_holds = refl

-- accessors are called with the object that is asked (8.12.3, 8.12.5)
--
--     var s = "", base = { get x() { s += "g"; return this.n; }, set x(v) { s += "s"; this.n = v; } };
--     var o = Object.create(base);
--     o.n = 7; o.x = 8; print(o.x, o.hasOwnProperty("x"), base.n, s);
--     var f = { get only() { return 1; } };
--     f.only = 2; print(f.only);
--     (function () { "use strict"; try { f.only = 2; } catch (e) { print(e.name); } })();
abbrev getters_and_setters : Program (Unit {0})
getters_and_setters =
    script false []
    (var
    (declarator (codes "s") (Some (string []))
    ∷ declarator (codes "base")
    (Some
    (object
    (getter (codes "x")
    (function_of 0 None [] false []
    (expression
    (compute binary.Add (to_name (codes "s")) (string (codes "g")))
    ∷ return (Some (dot this (codes "n")))
    ∷ []))
    ∷ setter (codes "x")
    (function_of 1 None (codes "v" ∷ []) false []
    (expression
    (compute binary.Add (to_name (codes "s")) (string (codes "s")))
    ∷ expression (assign (to_dot this (codes "n")) (name (codes "v")))
    ∷ []))
    ∷ [])))
    ∷ [])
    ∷ var
    (declarator (codes "o")
    (Some (call (dot (name (codes "Object")) (codes "create")) (name (codes "base") ∷ [])))
    ∷ [])
    ∷ expression (assign (to_dot (name (codes "o")) (codes "n")) (number 7))
    ∷ expression (assign (to_dot (name (codes "o")) (codes "x")) (number 8))
    ∷ expression
    (call (name (codes "print"))
    (dot (name (codes "o")) (codes "x")
    ∷ call (dot (name (codes "o")) (codes "hasOwnProperty")) (string (codes "x") ∷ [])
    ∷ dot (name (codes "base")) (codes "n")
    ∷ name (codes "s")
    ∷ []))
    ∷ var
    (declarator (codes "f")
    (Some
    (object
    (getter (codes "only")
    (function_of 2 None [] false [] (return (Some (number 1)) ∷ []))
    ∷ [])))
    ∷ [])
    ∷ expression (assign (to_dot (name (codes "f")) (codes "only")) (number 2))
    ∷ expression (call (name (codes "print")) (dot (name (codes "f")) (codes "only") ∷ []))
    ∷ expression
    (call
    (function_expression
    (function_of 3 None [] true []
    (try
    (expression (assign (to_dot (name (codes "f")) (codes "only")) (number 2)) ∷ [])
    (catch (codes "e")
    (expression
    (call (name (codes "print"))
    (dot (name (codes "e")) (codes "name") ∷ []))
    ∷ []))
    None
    ∷ [])))
    [])
    ∷ [])

getters_and_setters_holds : prints getters_and_setters
    (codes "8 false undefined sg" ∷ codes "1" ∷ codes "TypeError" ∷ codes "jlint: normal" ∷ [])
    ≡ true
unfolding computing.run
getters_and_setters_holds = refl

-- functions that call each other, and bind, call, apply (15.3.4)
--
--     function even(n) { return n === 0 || odd(n - 1); }
--     function odd(n) { return n !== 0 && even(n - 1); }
--     function sum(a, b) { return this.z + a + b; }
--     print(even(6), odd(4), sum.call({ z: 1 }, 2, 3), sum.apply({ z: 1 }, [2, 4]), sum.bind({ z: 2 }, 3)(4));
abbrev recursion : Program (Unit {0})
recursion =
    script false
    (function_of 0 (Some (codes "even")) (codes "n" ∷ []) false []
    (return
    (Some
    (or
    (operator binary.StrictEqual (name (codes "n")) (number 0))
    (call (name (codes "odd")) (operator binary.Sub (name (codes "n")) (number 1) ∷ []))))
    ∷ [])
    ∷ function_of 1 (Some (codes "odd")) (codes "n" ∷ []) false []
    (return
    (Some
    (and
    (operator binary.StrictNotEqual (name (codes "n")) (number 0))
    (call (name (codes "even")) (operator binary.Sub (name (codes "n")) (number 1) ∷ []))))
    ∷ [])
    ∷ function_of 2 (Some (codes "sum")) (codes "a" ∷ codes "b" ∷ []) false []
    (return
    (Some
    (operator binary.Add
    (operator binary.Add (dot this (codes "z")) (name (codes "a")))
    (name (codes "b"))))
    ∷ [])
    ∷ [])
    (expression
    (call (name (codes "print"))
    (call (name (codes "even")) (number 6 ∷ [])
    ∷ call (name (codes "odd")) (number 4 ∷ [])
    ∷ call (dot (name (codes "sum")) (codes "call"))
    (object (value (codes "z") (number 1) ∷ []) ∷ number 2 ∷ number 3 ∷ [])
    ∷ call
    (dot (name (codes "sum")) (codes "apply"))
    (object (value (codes "z") (number 1) ∷ [])
    ∷ array (filled (number 2) ∷ filled (number 4) ∷ [])
    ∷ [])
    ∷ call
    (call (dot (name (codes "sum")) (codes "bind"))
    (object (value (codes "z") (number 2) ∷ []) ∷ number 3 ∷ []))
    (number 4 ∷ [])
    ∷ []))
    ∷ [])

recursion_holds : prints recursion (codes "true false 6 7 9" ∷ codes "jlint: normal" ∷ []) ≡ true
unfolding computing.run
recursion_holds = refl

-- what strict code refuses (10.1.1, 8.7.2, 11.4.1)
--
--     (function () { "use strict";
--       function t(f) { try { f(); return "done"; } catch (e) { return e.name; } }
--       var o = Object.freeze({ a: 1 });
--       print(t(function () { o.a = 2; }), t(function () { delete o.a; }), t(function () { o.b = 1; }), t(function ()
--       { nowhere = 1; }), t(function () { return arguments.callee; }), t(function () { "s".x = 1; }));
--     })();
abbrev strict_code : Program (Unit {0})
strict_code =
    script false []
    (expression
    (call
    (function_expression
    (function_of 0 None [] true
    (function_of 1 (Some (codes "t")) (codes "f" ∷ []) false []
    (try
    (expression (call (name (codes "f")) [])
    ∷ return (Some (string (codes "done")))
    ∷ [])
    (catch (codes "e")
    (return (Some (dot (name (codes "e")) (codes "name"))) ∷ []))
    None
    ∷ [])
    ∷ [])
    (var
    (declarator (codes "o")
    (Some
    (call
    (dot (name (codes "Object")) (codes "freeze"))
    (object (value (codes "a") (number 1) ∷ []) ∷ [])))
    ∷ [])
    ∷ expression
    (call (name (codes "print"))
    (call (name (codes "t"))
    (function_expression
    (function_of 2 None [] false []
    (expression
    (assign (to_dot (name (codes "o")) (codes "a"))
    (number 2))
    ∷ []))
    ∷ [])
    ∷ call (name (codes "t"))
    (function_expression
    (function_of 3 None [] false []
    (expression
    (unary un.Delete
    (dot (name (codes "o")) (codes "a")))
    ∷ []))
    ∷ [])
    ∷ call (name (codes "t"))
    (function_expression
    (function_of 4 None [] false []
    (expression
    (assign (to_dot (name (codes "o")) (codes "b"))
    (number 1))
    ∷ []))
    ∷ [])
    ∷ call (name (codes "t"))
    (function_expression
    (function_of 5 None [] false []
    (expression
    (assign (to_name (codes "nowhere")) (number 1))
    ∷ []))
    ∷ [])
    ∷ call (name (codes "t"))
    (function_expression
    (function_of 6 None [] false []
    (return
    (Some
    (dot (name (codes "arguments"))
    (codes "callee")))
    ∷ []))
    ∷ [])
    ∷ call (name (codes "t"))
    (function_expression
    (function_of 7 None [] false []
    (expression
    (assign
    (to_dot (string (codes "s")) (codes "x"))
    (number 1))
    ∷ []))
    ∷ [])
    ∷ []))
    ∷ [])))
    [])
    ∷ [])

strict_code_holds : prints strict_code
    (codes "TypeError TypeError TypeError ReferenceError TypeError TypeError" ∷ codes "jlint: normal" ∷ [])
    ≡ true
unfolding computing.run
strict_code_holds = refl
