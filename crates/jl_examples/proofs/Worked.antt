-- Scripts of many kinds, with what they print.
use Rattle.std.specs.Prelude.{◌≡◌, refl, ◌∷◌, [], codes, true, false, Some, None}
use Rattle.jl_ast.specs.declared.ops.BinOp.TheVariants as binary
use Rattle.jl_ast.specs.declared.ops.UnOp.TheVariants as un
use Rattle.jl_ast.specs.Tree.{Program}
use Rattle.jl_examples.proofs.Computing as computing
use Rattle.jl_examples.proofs.Running.{prints}
use Rattle.jl_examples.proofs.Trees.{script, function_of, this, name, number, string, boolean, null, array, hole}
use Rattle.jl_examples.proofs.Trees.{filled, object, value, getter, function_expression, dot, call, new, unary}
use Rattle.jl_examples.proofs.Trees.{update, operator, assign, to_name, to_dot, to_index, declarator, var, expression}
use Rattle.jl_examples.proofs.Trees.{if_else, for_in, return}

--     print(9007199254740990 + 1);
abbrev at_the_limit : Program (Unit {0})
at_the_limit =
    script false []
    (expression (call (name (codes "print")) (operator binary.Add (number 9007199254740990) (number 1) ∷ []))
    ∷ [])

at_the_limit_holds : prints at_the_limit (codes "9007199254740991" ∷ codes "jlint: normal" ∷ []) ≡ true
unfolding computing.run
at_the_limit_holds = refl

--     var g = function () { return function (x) { print("old"); }; };
--     var o = { get k() { return g(); } };
--     o.k(g = null);
abbrev old_value_is_called : Program (Unit {0})
old_value_is_called =
    script false []
    (var
    (declarator (codes "g")
    (Some
    (function_expression
    (function_of 0 None [] false []
    (return
    (Some
    (function_expression
    (function_of 1 None (codes "x" ∷ []) false []
    (expression
    (call (name (codes "print"))
    (string (codes "old") ∷ []))
    ∷ []))))
    ∷ []))))
    ∷ [])
    ∷ var
    (declarator (codes "o")
    (Some
    (object
    (getter (codes "k")
    (function_of 2 None [] false []
    (return (Some (call (name (codes "g")) [])) ∷ []))
    ∷ [])))
    ∷ [])
    ∷ expression (call (dot (name (codes "o")) (codes "k")) (assign (to_name (codes "g")) null ∷ []))
    ∷ [])

old_value_is_called_holds : prints old_value_is_called (codes "old" ∷ codes "jlint: normal" ∷ []) ≡ true
unfolding computing.run
old_value_is_called_holds = refl

--     var a, b = function (v) { print("b", v); }, c = 3;
--     a = b
--     (c)
abbrev call_on_the_next_line : Program (Unit {0})
call_on_the_next_line =
    script false []
    (var
    (declarator (codes "a") None
    ∷ declarator (codes "b")
    (Some
    (function_expression
    (function_of 0 None (codes "v" ∷ []) false []
    (expression
    (call (name (codes "print"))
    (string (codes "b") ∷ name (codes "v") ∷ []))
    ∷ []))))
    ∷ declarator (codes "c") (Some (number 3))
    ∷ [])
    ∷ expression (assign (to_name (codes "a")) (call (name (codes "b")) (name (codes "c") ∷ [])))
    ∷ [])

call_on_the_next_line_holds : prints call_on_the_next_line (codes "b 3" ∷ codes "jlint: normal" ∷ []) ≡ true
unfolding computing.run
call_on_the_next_line_holds = refl

--     var x = 1, y = 2
--     x++
--     (y)
--     print(x)
abbrev brackets_on_the_next_line : Program (Unit {0})
brackets_on_the_next_line =
    script false []
    (var (declarator (codes "x") (Some (number 1)) ∷ declarator (codes "y") (Some (number 2)) ∷ [])
    ∷ expression (update true false (to_name (codes "x")))
    ∷ expression (name (codes "y"))
    ∷ expression (call (name (codes "print")) (name (codes "x") ∷ []))
    ∷ [])

brackets_on_the_next_line_holds : prints brackets_on_the_next_line (codes "2" ∷ codes "jlint: normal" ∷ []) ≡ true
unfolding computing.run
brackets_on_the_next_line_holds = refl

--     var o = { a: 1, b: 2, c: 3, d: 4 }, k;
--     for (k in o) { print(k); if (k === "a") { delete o.b; delete o.c; o.c = 5; o.e = 6; } }
abbrev deleted_while_visited : Program (Unit {0})
deleted_while_visited =
    script false []
    (var
    (declarator (codes "o")
    (Some
    (object
    (value (codes "a") (number 1)
    ∷ value (codes "b") (number 2)
    ∷ value (codes "c") (number 3)
    ∷ value (codes "d") (number 4)
    ∷ [])))
    ∷ declarator (codes "k") None
    ∷ [])
    ∷ for_in false (codes "k") (name (codes "o"))
    (expression (call (name (codes "print")) (name (codes "k") ∷ []))
    ∷ if_else
    (operator binary.StrictEqual (name (codes "k")) (string (codes "a")))
    (expression (unary un.Delete (dot (name (codes "o")) (codes "b")))
    ∷ expression (unary un.Delete (dot (name (codes "o")) (codes "c")))
    ∷ expression (assign (to_dot (name (codes "o")) (codes "c")) (number 5))
    ∷ expression (assign (to_dot (name (codes "o")) (codes "e")) (number 6))
    ∷ [])
    None
    ∷ [])
    ∷ [])

deleted_while_visited_holds : prints deleted_while_visited
    (codes "a" ∷ codes "d" ∷ codes "jlint: normal" ∷ [])
    ≡ true
unfolding computing.run
deleted_while_visited_holds = refl

--     function f(a) { arguments[0] = 2; return a; }
--     function g(a) { "use strict"; arguments[0] = 2; return a; }
--     print(f(1), g(1));
abbrev mapped_arguments : Program (Unit {0})
mapped_arguments =
    script false
    (function_of 0 (Some (codes "f")) (codes "a" ∷ []) false []
    (expression (assign (to_index (name (codes "arguments")) (number 0)) (number 2))
    ∷ return (Some (name (codes "a")))
    ∷ [])
    ∷ function_of 1 (Some (codes "g")) (codes "a" ∷ []) true []
    (expression (assign (to_index (name (codes "arguments")) (number 0)) (number 2))
    ∷ return (Some (name (codes "a")))
    ∷ [])
    ∷ [])
    (expression
    (call (name (codes "print"))
    (call (name (codes "f")) (number 1 ∷ []) ∷ call (name (codes "g")) (number 1 ∷ []) ∷ []))
    ∷ [])

mapped_arguments_holds : prints mapped_arguments (codes "2 1" ∷ codes "jlint: normal" ∷ []) ≡ true
unfolding computing.run
mapped_arguments_holds = refl

--     Object.defineProperty(Object.prototype, "R", { set: function (v) { print("set"); }, configurable: true });
--     Function.prototype.call = null;
--     var k, n = 0;
--     for (k in this) { n = n + 1; if (k === "J$") { print("seen"); } }
--     print(n);
abbrev hooks_stay_hidden : Program (Unit {0})
hooks_stay_hidden =
    script false []
    (expression
    (call
    (dot (name (codes "Object")) (codes "defineProperty"))
    (dot (name (codes "Object")) (codes "prototype")
    ∷ string (codes "R")
    ∷ object
    (value (codes "set")
    (function_expression
    (function_of 0 None (codes "v" ∷ []) false []
    (expression (call (name (codes "print")) (string (codes "set") ∷ []))
    ∷ [])))
    ∷ value (codes "configurable") (boolean true)
    ∷ [])
    ∷ []))
    ∷ expression (assign (to_dot (dot (name (codes "Function")) (codes "prototype")) (codes "call")) null)
    ∷ var (declarator (codes "k") None ∷ declarator (codes "n") (Some (number 0)) ∷ [])
    ∷ for_in false (codes "k") this
    (expression (assign (to_name (codes "n")) (operator binary.Add (name (codes "n")) (number 1)))
    ∷ if_else
    (operator binary.StrictEqual (name (codes "k")) (string (codes "J$")))
    (expression (call (name (codes "print")) (string (codes "seen") ∷ [])) ∷ [])
    None
    ∷ [])
    ∷ expression (call (name (codes "print")) (name (codes "n") ∷ []))
    ∷ [])

hooks_stay_hidden_holds : prints hooks_stay_hidden (codes "2" ∷ codes "jlint: normal" ∷ []) ≡ true
unfolding computing.run
hooks_stay_hidden_holds = refl

--     var o = {}; o.J$ = 1; print(o.J$);
abbrev member_named_as_hooks : Program (Unit {0})
member_named_as_hooks =
    script false []
    (var (declarator (codes "o") (Some (object [])) ∷ [])
    ∷ expression (assign (to_dot (name (codes "o")) (codes "J$")) (number 1))
    ∷ expression (call (name (codes "print")) (dot (name (codes "o")) (codes "J$") ∷ []))
    ∷ [])

member_named_as_hooks_holds : prints member_named_as_hooks (codes "1" ∷ codes "jlint: normal" ∷ []) ≡ true
unfolding computing.run
member_named_as_hooks_holds = refl

--     var Date = 1; print(Date);
abbrev own_date : Program (Unit {0})
own_date =
    script false []
    (var (declarator (codes "Date") (Some (number 1)) ∷ [])
    ∷ expression (call (name (codes "print")) (name (codes "Date") ∷ []))
    ∷ [])

own_date_holds : prints own_date (codes "1" ∷ codes "jlint: normal" ∷ []) ≡ true
unfolding computing.run
own_date_holds = refl

--     print({}, Object.keys({ b: 1, a: 2 }).length);
abbrev keys_of : Program (Unit {0})
keys_of =
    script false []
    (expression
    (call (name (codes "print"))
    (object []
    ∷ dot
    (call
    (dot (name (codes "Object")) (codes "keys"))
    (object (value (codes "b") (number 1) ∷ value (codes "a") (number 2) ∷ []) ∷ []))
    (codes "length")
    ∷ []))
    ∷ [])

keys_of_holds : prints keys_of (codes "[object Object] 2" ∷ codes "jlint: normal" ∷ []) ≡ true
unfolding computing.run
keys_of_holds = refl

--     function f(a, b) { return this.v + a + b; } print(f.call({ v: 1 }, 2, 3), f.apply({ v: 1 }, [2, 4]), f.bind({
--       v: 2 }, 3)(4));
abbrev call_apply_bind : Program (Unit {0})
call_apply_bind =
    script false
    (function_of 0 (Some (codes "f")) (codes "a" ∷ codes "b" ∷ []) false []
    (return
    (Some
    (operator binary.Add
    (operator binary.Add (dot this (codes "v")) (name (codes "a")))
    (name (codes "b"))))
    ∷ [])
    ∷ [])
    (expression
    (call (name (codes "print"))
    (call (dot (name (codes "f")) (codes "call"))
    (object (value (codes "v") (number 1) ∷ []) ∷ number 2 ∷ number 3 ∷ [])
    ∷ call (dot (name (codes "f")) (codes "apply"))
    (object (value (codes "v") (number 1) ∷ [])
    ∷ array (filled (number 2) ∷ filled (number 4) ∷ [])
    ∷ [])
    ∷ call
    (call (dot (name (codes "f")) (codes "bind"))
    (object (value (codes "v") (number 2) ∷ []) ∷ number 3 ∷ []))
    (number 4 ∷ [])
    ∷ []))
    ∷ [])

call_apply_bind_holds : prints call_apply_bind (codes "6 7 9" ∷ codes "jlint: normal" ∷ []) ≡ true
unfolding computing.run
call_apply_bind_holds = refl

--     print(function f() { });
abbrev function_text : Program (Unit {0})
function_text =
    script false []
    (expression
    (call (name (codes "print"))
    (function_expression (function_of 0 (Some (codes "f")) [] false [] []) ∷ []))
    ∷ [])

function_text_holds : prints function_text (codes "function f() { [code] }" ∷ codes "jlint: normal" ∷ []) ≡ true
unfolding computing.run
function_text_holds = refl

--     print(new RangeError("x"));
abbrev range_error : Program (Unit {0})
range_error =
    script false []
    (expression (call (name (codes "print")) (new (name (codes "RangeError")) (string (codes "x") ∷ []) ∷ []))
    ∷ [])

range_error_holds : prints range_error (codes "RangeError: x" ∷ codes "jlint: normal" ∷ []) ≡ true
unfolding computing.run
range_error_holds = refl

--     print([3, 1, 2, 10].sort());
abbrev sort : Program (Unit {0})
sort =
    script false []
    (expression
    (call (name (codes "print"))
    (call
    (dot
    (array
    (filled (number 3)
    ∷ filled (number 1)
    ∷ filled (number 2)
    ∷ filled (number 10)
    ∷ []))
    (codes "sort"))
    []
    ∷ []))
    ∷ [])

sort_holds : prints sort (codes "1,10,2,3" ∷ codes "jlint: normal" ∷ []) ≡ true
unfolding computing.run
sort_holds = refl

--     var a = [1, 2, 3]; a.length = 1; a[3] = 4; print(a, a.length);
abbrev cut_array : Program (Unit {0})
cut_array =
    script false []
    (var
    (declarator (codes "a")
    (Some (array (filled (number 1) ∷ filled (number 2) ∷ filled (number 3) ∷ [])))
    ∷ [])
    ∷ expression (assign (to_dot (name (codes "a")) (codes "length")) (number 1))
    ∷ expression (assign (to_index (name (codes "a")) (number 3)) (number 4))
    ∷ expression
    (call (name (codes "print")) (name (codes "a") ∷ dot (name (codes "a")) (codes "length") ∷ []))
    ∷ [])

cut_array_holds : prints cut_array (codes "1,,,4 4" ∷ codes "jlint: normal" ∷ []) ≡ true
unfolding computing.run
cut_array_holds = refl

--     print([1, 2, 3].map(function (x) { return x * x; }).join("-"));
abbrev map_join : Program (Unit {0})
map_join =
    script false []
    (expression
    (call (name (codes "print"))
    (call
    (dot
    (call
    (dot
    (array (filled (number 1) ∷ filled (number 2) ∷ filled (number 3) ∷ []))
    (codes "map"))
    (function_expression
    (function_of 0 None (codes "x" ∷ []) false []
    (return
    (Some
    (operator binary.Mul (name (codes "x"))
    (name (codes "x"))))
    ∷ []))
    ∷ []))
    (codes "join"))
    (string (codes "-") ∷ [])
    ∷ []))
    ∷ [])

map_join_holds : prints map_join (codes "1-4-9" ∷ codes "jlint: normal" ∷ []) ≡ true
unfolding computing.run
map_join_holds = refl

--     print("a,b,".split(",").length, "abcabc".lastIndexOf("c"), [1, , 3].indexOf(undefined));
abbrev split_and_search : Program (Unit {0})
split_and_search =
    script false []
    (expression
    (call (name (codes "print"))
    (dot
    (call (dot (string (codes "a,b,")) (codes "split")) (string (codes ",") ∷ []))
    (codes "length")
    ∷ call (dot (string (codes "abcabc")) (codes "lastIndexOf")) (string (codes "c") ∷ [])
    ∷ call
    (dot (array (filled (number 1) ∷ hole ∷ filled (number 3) ∷ [])) (codes "indexOf"))
    (name (codes "undefined") ∷ [])
    ∷ []))
    ∷ [])

split_and_search_holds : prints split_and_search (codes "3 5 -1" ∷ codes "jlint: normal" ∷ []) ≡ true
unfolding computing.run
split_and_search_holds = refl

--     print(parseInt("0x1f"), parseInt("z", 36), Math.max(1, 5, 3), (255).toString(16), " x ".trim() + "|");
abbrev parse_and_print : Program (Unit {0})
parse_and_print =
    script false []
    (expression
    (call (name (codes "print"))
    (call (name (codes "parseInt")) (string (codes "0x1f") ∷ [])
    ∷ call (name (codes "parseInt")) (string (codes "z") ∷ number 36 ∷ [])
    ∷ call (dot (name (codes "Math")) (codes "max")) (number 1 ∷ number 5 ∷ number 3 ∷ [])
    ∷ call (dot (number 255) (codes "toString")) (number 16 ∷ [])
    ∷ operator binary.Add
    (call (dot (string (codes " x ")) (codes "trim")) [])
    (string (codes "|"))
    ∷ []))
    ∷ [])

parse_and_print_holds : prints parse_and_print (codes "31 35 5 ff x|" ∷ codes "jlint: normal" ∷ []) ≡ true
unfolding computing.run
parse_and_print_holds = refl

--     Math.max();
abbrev no_greatest : Program (Unit {0})
no_greatest =
    script false [] (expression (call (dot (name (codes "Math")) (codes "max")) []) ∷ [])

no_greatest_holds : prints no_greatest (codes "jlint: fault NumberOutside" ∷ []) ≡ true
unfolding computing.run
no_greatest_holds = refl

--     Function("return 1");
abbrev code_from_text : Program (Unit {0})
code_from_text =
    script false [] (expression (call (name (codes "Function")) (string (codes "return 1") ∷ [])) ∷ [])

code_from_text_holds : prints code_from_text (codes "jlint: fault CodeFromText" ∷ []) ≡ true
unfolding computing.run
code_from_text_holds = refl
