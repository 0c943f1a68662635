-- Printing, numbers, Booleans, errors and Math (15.1, 15.6 to 15.8, 15.11).
use Rattle.std.specs.Prelude.{◌≡◌, refl, ◌∷◌, [], codes, true, false, Some, None}
use Rattle.jl_ast.specs.declared.ops.BinOp.TheVariants as binary
use Rattle.jl_ast.specs.declared.ops.UnOp.TheVariants as un
use Rattle.jl_ast.specs.Tree.{Program}
use Rattle.jl_examples.proofs.Computing as computing
use Rattle.jl_examples.proofs.Running.{runs}
use Rattle.jl_examples.proofs.Trees.{script, function_of, name, number, string, boolean, null, array, filled, object}
use Rattle.jl_examples.proofs.Trees.{value, function_expression, dot, index, call, new, unary, update, operator}
use Rattle.jl_examples.proofs.Trees.{to_name, declarator, var, expression, init_var, for, return, throw, catch, try}

--     var l = [EvalError, RangeError, ReferenceError, SyntaxError, TypeError, URIError]; for (var i = 0; i < 6; i++)
--       { var e = new l[i]("m"); print(e.name, e instanceof l[i], e instanceof Error, Object.getPrototypeOf(e) ===
--       l[i].prototype, l[i].prototype.message === "", l[i].length, Object.getPrototypeOf(l[i]) ===
--       Function.prototype); }
abbrev eval_error : Program (Unit {0})
eval_error =
    script false []
    (var
    (declarator (codes "l")
    (Some
    (array
    (filled (name (codes "EvalError"))
    ∷ filled (name (codes "RangeError"))
    ∷ filled (name (codes "ReferenceError"))
    ∷ filled (name (codes "SyntaxError"))
    ∷ filled (name (codes "TypeError"))
    ∷ filled (name (codes "URIError"))
    ∷ [])))
    ∷ [])
    ∷ for
    (init_var (declarator (codes "i") (Some (number 0)) ∷ []))
    (Some (operator binary.Less (name (codes "i")) (number 6)))
    (Some (update true false (to_name (codes "i"))))
    (var
    (declarator (codes "e")
    (Some (new (index (name (codes "l")) (name (codes "i"))) (string (codes "m") ∷ [])))
    ∷ [])
    ∷ expression
    (call (name (codes "print"))
    (dot (name (codes "e")) (codes "name")
    ∷ operator binary.InstanceOf (name (codes "e"))
    (index (name (codes "l")) (name (codes "i")))
    ∷ operator binary.InstanceOf (name (codes "e")) (name (codes "Error"))
    ∷ operator binary.StrictEqual
    (call
    (dot (name (codes "Object")) (codes "getPrototypeOf"))
    (name (codes "e") ∷ []))
    (dot (index (name (codes "l")) (name (codes "i"))) (codes "prototype"))
    ∷ operator binary.StrictEqual
    (dot
    (dot (index (name (codes "l")) (name (codes "i"))) (codes "prototype"))
    (codes "message"))
    (string [])
    ∷ dot (index (name (codes "l")) (name (codes "i"))) (codes "length")
    ∷ operator binary.StrictEqual
    (call
    (dot (name (codes "Object")) (codes "getPrototypeOf"))
    (index (name (codes "l")) (name (codes "i")) ∷ []))
    (dot (name (codes "Function")) (codes "prototype"))
    ∷ []))
    ∷ [])
    ∷ [])

eval_error_holds : runs eval_error
    (codes "EvalError true true true true 1 true"
    ∷ codes "RangeError true true true true 1 true"
    ∷ codes "ReferenceError true true true true 1 true"
    ∷ codes "SyntaxError true true true true 1 true"
    ∷ codes "TypeError true true true true 1 true"
    ∷ codes "URIError true true true true 1 true"
    ∷ codes "jlint: normal steps=386"
    ∷ [])
    ≡ true
unfolding computing.run
eval_error_holds = refl

--     print(new RangeError("x"), new EvalError("a"), ReferenceError("b"), SyntaxError(), TypeError("c"), new
--       URIError(5));
abbrev range_error : Program (Unit {0})
range_error =
    script false []
    (expression
    (call (name (codes "print"))
    (new (name (codes "RangeError")) (string (codes "x") ∷ [])
    ∷ new (name (codes "EvalError")) (string (codes "a") ∷ [])
    ∷ call (name (codes "ReferenceError")) (string (codes "b") ∷ [])
    ∷ call (name (codes "SyntaxError")) []
    ∷ call (name (codes "TypeError")) (string (codes "c") ∷ [])
    ∷ new (name (codes "URIError")) (number 5 ∷ [])
    ∷ []))
    ∷ [])

range_error_holds : runs range_error
    (codes "RangeError: x EvalError: a ReferenceError: b SyntaxError TypeError: c URIError: 5"
    ∷ codes "jlint: normal steps=39"
    ∷ [])
    ≡ true
unfolding computing.run
range_error_holds = refl

--     Math.floor({ valueOf: function () { print("v"); return {}; }, toString: function () { return "4"; } });
--       print(Math.round({ valueOf: function () { return 3; } }));
abbrev floor : Program (Unit {0})
floor =
    script false []
    (expression
    (call
    (dot (name (codes "Math")) (codes "floor"))
    (object
    (value (codes "valueOf")
    (function_expression
    (function_of 0 None [] false []
    (expression (call (name (codes "print")) (string (codes "v") ∷ []))
    ∷ return (Some (object []))
    ∷ [])))
    ∷ value (codes "toString")
    (function_expression
    (function_of 1 None [] false [] (return (Some (string (codes "4"))) ∷ [])))
    ∷ [])
    ∷ []))
    ∷ expression
    (call (name (codes "print"))
    (call
    (dot (name (codes "Math")) (codes "round"))
    (object
    (value (codes "valueOf")
    (function_expression
    (function_of 2 None [] false [] (return (Some (number 3)) ∷ [])))
    ∷ [])
    ∷ [])
    ∷ []))
    ∷ [])

floor_holds : runs floor (codes "v" ∷ codes "3" ∷ codes "jlint: normal steps=32" ∷ []) ≡ true
unfolding computing.run
floor_holds = refl

--     print(Math.ceil(-5), Math.ceil("6"), Math.ceil(), Math.ceil(null), Math.ceil.length, Math.floor(7),
--       Math.floor(""), Math.floor(), Math.round(-3), Math.round(true), Math.round("x"));
abbrev ceil : Program (Unit {0})
ceil =
    script false []
    (expression
    (call (name (codes "print"))
    (call (dot (name (codes "Math")) (codes "ceil")) (unary un.Minus (number 5) ∷ [])
    ∷ call (dot (name (codes "Math")) (codes "ceil")) (string (codes "6") ∷ [])
    ∷ call (dot (name (codes "Math")) (codes "ceil")) []
    ∷ call (dot (name (codes "Math")) (codes "ceil")) (null ∷ [])
    ∷ dot (dot (name (codes "Math")) (codes "ceil")) (codes "length")
    ∷ call (dot (name (codes "Math")) (codes "floor")) (number 7 ∷ [])
    ∷ call (dot (name (codes "Math")) (codes "floor")) (string [] ∷ [])
    ∷ call (dot (name (codes "Math")) (codes "floor")) []
    ∷ call (dot (name (codes "Math")) (codes "round")) (unary un.Minus (number 3) ∷ [])
    ∷ call (dot (name (codes "Math")) (codes "round")) (boolean true ∷ [])
    ∷ call (dot (name (codes "Math")) (codes "round")) (string (codes "x") ∷ [])
    ∷ []))
    ∷ [])

ceil_holds : runs ceil (codes "-5 6 NaN 0 1 7 0 NaN -3 1 NaN" ∷ codes "jlint: normal steps=58" ∷ []) ≡ true
unfolding computing.run
ceil_holds = refl

--     try { Boolean.prototype.toString.call(1); } catch (e) { print(e); } try { Boolean.prototype.toString.call(new
--       Number(1)); } catch (e) { print(e); } Boolean.prototype.toString.call();
abbrev boolean_calls : Program (Unit {0})
boolean_calls =
    script false []
    (try
    (expression
    (call
    (dot
    (dot (dot (name (codes "Boolean")) (codes "prototype")) (codes "toString"))
    (codes "call"))
    (number 1 ∷ []))
    ∷ [])
    (catch (codes "e") (expression (call (name (codes "print")) (name (codes "e") ∷ [])) ∷ []))
    None
    ∷ try
    (expression
    (call
    (dot
    (dot (dot (name (codes "Boolean")) (codes "prototype")) (codes "toString"))
    (codes "call"))
    (new (name (codes "Number")) (number 1 ∷ []) ∷ []))
    ∷ [])
    (catch (codes "e") (expression (call (name (codes "print")) (name (codes "e") ∷ [])) ∷ []))
    None
    ∷ expression
    (call
    (dot (dot (dot (name (codes "Boolean")) (codes "prototype")) (codes "toString")) (codes "call"))
    [])
    ∷ [])

boolean_calls_holds : runs boolean_calls
    (codes "TypeError: wrong receiver"
    ∷ codes "TypeError: wrong receiver"
    ∷ codes "uncaught TypeError: wrong receiver"
    ∷ codes "jlint: thrown steps=42"
    ∷ [])
    ≡ true
unfolding computing.run
boolean_calls_holds = refl

--     Math.min();
abbrev min : Program (Unit {0})
min =
    script false [] (expression (call (dot (name (codes "Math")) (codes "min")) []) ∷ [])

min_holds : runs min (codes "jlint: fault NumberOutside steps=4" ∷ []) ≡ true
unfolding computing.run
min_holds = refl

--     isNaN("1.5");
abbrev is_nan : Program (Unit {0})
is_nan =
    script false [] (expression (call (name (codes "isNaN")) (string (codes "1.5") ∷ [])) ∷ [])

is_nan_holds : runs is_nan (codes "jlint: fault NumberOutside steps=5" ∷ []) ≡ true
unfolding computing.run
is_nan_holds = refl

--     Math.abs("1.5");
abbrev abs : Program (Unit {0})
abs =
    script false [] (expression (call (dot (name (codes "Math")) (codes "abs")) (string (codes "1.5") ∷ [])) ∷ [])

abs_holds : runs abs (codes "jlint: fault NumberOutside steps=5" ∷ []) ≡ true
unfolding computing.run
abs_holds = refl

--     Math.pow(2, -1);
abbrev pow : Program (Unit {0})
pow =
    script false []
    (expression (call (dot (name (codes "Math")) (codes "pow")) (number 2 ∷ unary un.Minus (number 1) ∷ []))
    ∷ [])

pow_holds : runs pow (codes "jlint: fault NumberOutside steps=7" ∷ []) ≡ true
unfolding computing.run
pow_holds = refl

--     Math.pow(2, 53);
abbrev pow_2 : Program (Unit {0})
pow_2 =
    script false [] (expression (call (dot (name (codes "Math")) (codes "pow")) (number 2 ∷ number 53 ∷ [])) ∷ [])

pow_2_holds : runs pow_2 (codes "jlint: fault NumberOutside steps=6" ∷ []) ≡ true
unfolding computing.run
pow_2_holds = refl

--     Math.ceil("0.5");
abbrev ceil_2 : Program (Unit {0})
ceil_2 =
    script false [] (expression (call (dot (name (codes "Math")) (codes "ceil")) (string (codes "0.5") ∷ [])) ∷ [])

ceil_2_holds : runs ceil_2 (codes "jlint: fault NumberOutside steps=5" ∷ []) ≡ true
unfolding computing.run
ceil_2_holds = refl

--     isNaN("Infinity");
abbrev is_nan_2 : Program (Unit {0})
is_nan_2 =
    script false [] (expression (call (name (codes "isNaN")) (string (codes "Infinity") ∷ [])) ∷ [])

is_nan_2_holds : runs is_nan_2 (codes "jlint: fault NumberOutside steps=5" ∷ []) ≡ true
unfolding computing.run
is_nan_2_holds = refl

--     parseInt("5", "0.5");
abbrev parse_int : Program (Unit {0})
parse_int =
    script false []
    (expression (call (name (codes "parseInt")) (string (codes "5") ∷ string (codes "0.5") ∷ [])) ∷ [])

parse_int_holds : runs parse_int (codes "jlint: fault NumberOutside steps=6" ∷ []) ≡ true
unfolding computing.run
parse_int_holds = refl

--     isFinite("-Infinity");
abbrev is_finite : Program (Unit {0})
is_finite =
    script false [] (expression (call (name (codes "isFinite")) (string (codes "-Infinity") ∷ [])) ∷ [])

is_finite_holds : runs is_finite (codes "jlint: fault NumberOutside steps=5" ∷ []) ≡ true
unfolding computing.run
is_finite_holds = refl

--     parseInt("9007199254740992");
abbrev parse_int_2 : Program (Unit {0})
parse_int_2 =
    script false [] (expression (call (name (codes "parseInt")) (string (codes "9007199254740992") ∷ [])) ∷ [])

parse_int_2_holds : runs parse_int_2 (codes "jlint: fault NumberOutside steps=5" ∷ []) ≡ true
unfolding computing.run
parse_int_2_holds = refl

--     Math.abs({ valueOf: function () { print("v"); throw 0; } });
abbrev value_of : Program (Unit {0})
value_of =
    script false []
    (expression
    (call (dot (name (codes "Math")) (codes "abs"))
    (object
    (value (codes "valueOf")
    (function_expression
    (function_of 0 None [] false []
    (expression (call (name (codes "print")) (string (codes "v") ∷ []))
    ∷ throw (number 0)
    ∷ [])))
    ∷ [])
    ∷ []))
    ∷ [])

value_of_holds : runs value_of (codes "v" ∷ codes "uncaught 0" ∷ codes "jlint: thrown steps=15" ∷ []) ≡ true
unfolding computing.run
value_of_holds = refl

--     Math.min({ valueOf: function () { print("v"); return 9; } }, NaN, 3); print(Math.min(1, 2, 3, 4));
abbrev min_2 : Program (Unit {0})
min_2 =
    script false []
    (expression
    (call (dot (name (codes "Math")) (codes "min"))
    (object
    (value (codes "valueOf")
    (function_expression
    (function_of 0 None [] false []
    (expression (call (name (codes "print")) (string (codes "v") ∷ []))
    ∷ return (Some (number 9))
    ∷ [])))
    ∷ [])
    ∷ name (codes "NaN")
    ∷ number 3
    ∷ []))
    ∷ expression
    (call (name (codes "print"))
    (call (dot (name (codes "Math")) (codes "min"))
    (number 1 ∷ number 2 ∷ number 3 ∷ number 4 ∷ [])
    ∷ []))
    ∷ [])

min_2_holds : runs min_2 (codes "v" ∷ codes "1" ∷ codes "jlint: normal steps=36" ∷ []) ≡ true
unfolding computing.run
min_2_holds = refl

--     print(isFinite(NaN), isFinite(5), isFinite(), isFinite("x"), isFinite("12"), isFinite(null), isFinite.length);
abbrev is_finite_2 : Program (Unit {0})
is_finite_2 =
    script false []
    (expression
    (call (name (codes "print"))
    (call (name (codes "isFinite")) (name (codes "NaN") ∷ [])
    ∷ call (name (codes "isFinite")) (number 5 ∷ [])
    ∷ call (name (codes "isFinite")) []
    ∷ call (name (codes "isFinite")) (string (codes "x") ∷ [])
    ∷ call (name (codes "isFinite")) (string (codes "12") ∷ [])
    ∷ call (name (codes "isFinite")) (null ∷ [])
    ∷ dot (name (codes "isFinite")) (codes "length")
    ∷ []))
    ∷ [])

is_finite_2_holds : runs is_finite_2
    (codes "false true false false true true 1" ∷ codes "jlint: normal steps=36" ∷ [])
    ≡ true
unfolding computing.run
is_finite_2_holds = refl
