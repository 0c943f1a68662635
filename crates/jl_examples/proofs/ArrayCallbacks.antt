-- The functions of arrays that call a function for each element (15.4.4.16 to 15.4.4.22).
use Rattle.std.specs.Prelude.{◌≡◌, refl, ◌∷◌, [], codes, true, false, Some, None}
use Rattle.jl_ast.specs.declared.ops.BinOp.TheVariants as binary
use Rattle.jl_ast.specs.declared.ops.UnOp.TheVariants as un
use Rattle.jl_ast.specs.Tree.{Program}
use Rattle.jl_examples.proofs.Computing as computing
use Rattle.jl_examples.proofs.Running.{runs, prints}
use Rattle.jl_examples.proofs.Trees.{script, function_of, this, name, number, string, array, hole, filled, object}
use Rattle.jl_examples.proofs.Trees.{value, function_expression, dot, index, call, unary, operator, assign, compute}
use Rattle.jl_examples.proofs.Trees.{to_name, to_index, declarator, var, expression, if_else, return, catch, try}

-- every and some stop at the first answer that decides, and pass over holes (15.4.4.16, 15.4.4.17)
--
--     var s = "";
--     function f(x, i, a) { s += x + "" + i + a.length + this.t + ";"; return x > 1; }
--     var o = { t: "T" };
--     print([2, , 3, 1, 4].every(f, o), [1, , 0].some(f, o), [].every(f), [].some(f), [1, 5, 6].some(f, o));
--     print(s);
abbrev every_and_some : Program (Unit {0})
every_and_some =
    script false
    (function_of 0 (Some (codes "f")) (codes "x" ∷ codes "i" ∷ codes "a" ∷ []) false []
    (expression
    (compute binary.Add (to_name (codes "s"))
    (operator binary.Add
    (operator binary.Add
    (operator binary.Add
    (operator binary.Add
    (operator binary.Add (name (codes "x")) (string []))
    (name (codes "i")))
    (dot (name (codes "a")) (codes "length")))
    (dot this (codes "t")))
    (string (codes ";"))))
    ∷ return (Some (operator binary.Greater (name (codes "x")) (number 1)))
    ∷ [])
    ∷ [])
    (var (declarator (codes "s") (Some (string [])) ∷ [])
    ∷ var (declarator (codes "o") (Some (object (value (codes "t") (string (codes "T")) ∷ []))) ∷ [])
    ∷ expression
    (call (name (codes "print"))
    (call
    (dot
    (array
    (filled (number 2)
    ∷ hole
    ∷ filled (number 3)
    ∷ filled (number 1)
    ∷ filled (number 4)
    ∷ []))
    (codes "every"))
    (name (codes "f") ∷ name (codes "o") ∷ [])
    ∷ call
    (dot (array (filled (number 1) ∷ hole ∷ filled (number 0) ∷ [])) (codes "some"))
    (name (codes "f") ∷ name (codes "o") ∷ [])
    ∷ call (dot (array []) (codes "every")) (name (codes "f") ∷ [])
    ∷ call (dot (array []) (codes "some")) (name (codes "f") ∷ [])
    ∷ call
    (dot
    (array (filled (number 1) ∷ filled (number 5) ∷ filled (number 6) ∷ []))
    (codes "some"))
    (name (codes "f") ∷ name (codes "o") ∷ [])
    ∷ []))
    ∷ expression (call (name (codes "print")) (name (codes "s") ∷ []))
    ∷ [])

every_and_some_holds : prints every_and_some
    (codes "false false true false true"
    ∷ codes "205T;325T;135T;103T;023T;103T;513T;"
    ∷ codes "jlint: normal"
    ∷ [])
    ≡ true
unfolding computing.run
every_and_some_holds = refl

-- reduce and reduceRight take the first element that is there, without a call (15.4.4.21, 15.4.4.22)
--
--     function f(a, b, i) { return a + "(" + b + i + ")"; }
--     print([, 1, , 2].reduce(f), [1, , 2, , ].reduceRight(f), [3].reduceRight(f), [1, 2].reduceRight(f, "s"),
--       [].reduce(f, "none"));
--     try { [, ].reduceRight(f); } catch (e) { print(e.name); }
abbrev reduce_right : Program (Unit {0})
reduce_right =
    script false
    (function_of 0 (Some (codes "f")) (codes "a" ∷ codes "b" ∷ codes "i" ∷ []) false []
    (return
    (Some
    (operator binary.Add
    (operator binary.Add
    (operator binary.Add
    (operator binary.Add (name (codes "a")) (string (codes "(")))
    (name (codes "b")))
    (name (codes "i")))
    (string (codes ")"))))
    ∷ [])
    ∷ [])
    (expression
    (call (name (codes "print"))
    (call
    (dot (array (hole ∷ filled (number 1) ∷ hole ∷ filled (number 2) ∷ [])) (codes "reduce"))
    (name (codes "f") ∷ [])
    ∷ call
    (dot
    (array (filled (number 1) ∷ hole ∷ filled (number 2) ∷ hole ∷ []))
    (codes "reduceRight"))
    (name (codes "f") ∷ [])
    ∷ call (dot (array (filled (number 3) ∷ [])) (codes "reduceRight")) (name (codes "f") ∷ [])
    ∷ call
    (dot (array (filled (number 1) ∷ filled (number 2) ∷ [])) (codes "reduceRight"))
    (name (codes "f") ∷ string (codes "s") ∷ [])
    ∷ call (dot (array []) (codes "reduce")) (name (codes "f") ∷ string (codes "none") ∷ [])
    ∷ []))
    ∷ try
    (expression (call (dot (array (hole ∷ [])) (codes "reduceRight")) (name (codes "f") ∷ [])) ∷ [])
    (catch (codes "e")
    (expression (call (name (codes "print")) (dot (name (codes "e")) (codes "name") ∷ [])) ∷ []))
    None
    ∷ [])

reduce_right_holds : prints reduce_right
    (codes "1(23) 2(10) 3 s(21)(10) none" ∷ codes "TypeError" ∷ codes "jlint: normal" ∷ [])
    ≡ true
unfolding computing.run
reduce_right_holds = refl

--     print([1, 2, 3].map(function (x) { return x * x; }).join("-"), [].map(function () { }).length, [].map.length);
--     var r = [1, , 3, ,].map(function (x, i) { return i; }); print(r.length, 1 in r, r, Array.isArray(r));
abbrev map_2 : Program (Unit {0})
map_2 =
    script false []
    (expression
    (call (name (codes "print"))
    (call
    (dot
    (call
    (dot
    (array (filled (number 1) ∷ filled (number 2) ∷ filled (number 3) ∷ []))
    (codes "map"))
    (function_expression
    (function_of 0 None (codes "x" ∷ []) false []
    (return
    (Some
    (operator binary.Mul (name (codes "x"))
    (name (codes "x"))))
    ∷ []))
    ∷ []))
    (codes "join"))
    (string (codes "-") ∷ [])
    ∷ dot
    (call (dot (array []) (codes "map"))
    (function_expression (function_of 1 None [] false [] []) ∷ []))
    (codes "length")
    ∷ dot (dot (array []) (codes "map")) (codes "length")
    ∷ []))
    ∷ var
    (declarator (codes "r")
    (Some
    (call
    (dot
    (array (filled (number 1) ∷ hole ∷ filled (number 3) ∷ hole ∷ []))
    (codes "map"))
    (function_expression
    (function_of 2 None (codes "x" ∷ codes "i" ∷ []) false []
    (return (Some (name (codes "i"))) ∷ []))
    ∷ [])))
    ∷ [])
    ∷ expression
    (call (name (codes "print"))
    (dot (name (codes "r")) (codes "length")
    ∷ operator binary.In (number 1) (name (codes "r"))
    ∷ name (codes "r")
    ∷ call (dot (name (codes "Array")) (codes "isArray")) (name (codes "r") ∷ [])
    ∷ []))
    ∷ [])

map_2_holds : runs map_2
    (codes "1-4-9 0 1" ∷ codes "4 false 0,,2, true" ∷ codes "jlint: normal steps=85" ∷ [])
    ≡ true
unfolding computing.run
map_2_holds = refl

-- changes while it runs
--
--     var a = [1, 2, 3]; a.forEach(function (x, i) { a.push(x * 10); if (i === 0) { a[1] = "c"; delete a[2]; }
--       print(x); }); print(a.length);
abbrev for_each : Program (Unit {0})
for_each =
    script false []
    (var
    (declarator (codes "a")
    (Some (array (filled (number 1) ∷ filled (number 2) ∷ filled (number 3) ∷ [])))
    ∷ [])
    ∷ expression
    (call
    (dot (name (codes "a")) (codes "forEach"))
    (function_expression
    (function_of 0 None (codes "x" ∷ codes "i" ∷ []) false []
    (expression
    (call (dot (name (codes "a")) (codes "push"))
    (operator binary.Mul (name (codes "x")) (number 10) ∷ []))
    ∷ if_else
    (operator binary.StrictEqual (name (codes "i")) (number 0))
    (expression
    (assign (to_index (name (codes "a")) (number 1)) (string (codes "c")))
    ∷ expression (unary un.Delete (index (name (codes "a")) (number 2)))
    ∷ [])
    None
    ∷ expression (call (name (codes "print")) (name (codes "x") ∷ []))
    ∷ []))
    ∷ []))
    ∷ expression (call (name (codes "print")) (dot (name (codes "a")) (codes "length") ∷ []))
    ∷ [])

for_each_holds : runs for_each (codes "1" ∷ codes "c" ∷ codes "5" ∷ codes "jlint: normal steps=67" ∷ []) ≡ true
unfolding computing.run
for_each_holds = refl

-- errors
--
--     [].reduce(function () { });
abbrev reduce : Program (Unit {0})
reduce =
    script false []
    (expression
    (call (dot (array []) (codes "reduce"))
    (function_expression (function_of 0 None [] false [] []) ∷ []))
    ∷ [])

reduce_holds : runs reduce (codes "uncaught TypeError: empty array" ∷ codes "jlint: thrown steps=5" ∷ []) ≡ true
unfolding computing.run
reduce_holds = refl

-- the element as it was
--
--     var a = [1, 2]; print(a.filter(function (x, i) { a[i] = "changed"; return 1; }), a);
abbrev filter_2 : Program (Unit {0})
filter_2 =
    script false []
    (var (declarator (codes "a") (Some (array (filled (number 1) ∷ filled (number 2) ∷ []))) ∷ [])
    ∷ expression
    (call (name (codes "print"))
    (call (dot (name (codes "a")) (codes "filter"))
    (function_expression
    (function_of 0 None (codes "x" ∷ codes "i" ∷ []) false []
    (expression
    (assign
    (to_index (name (codes "a")) (name (codes "i")))
    (string (codes "changed")))
    ∷ return (Some (number 1))
    ∷ []))
    ∷ [])
    ∷ name (codes "a")
    ∷ []))
    ∷ [])

filter_2_holds : runs filter_2 (codes "1,2 changed,changed" ∷ codes "jlint: normal steps=39" ∷ []) ≡ true
unfolding computing.run
filter_2_holds = refl

--     var s = 0; print([1, 2, 3].forEach(function (x) { s += x; }), s, [].forEach.length); [, 1, ,].forEach(function
--       (x, i) { print(i, x); });
abbrev for_each_2 : Program (Unit {0})
for_each_2 =
    script false []
    (var (declarator (codes "s") (Some (number 0)) ∷ [])
    ∷ expression
    (call (name (codes "print"))
    (call
    (dot
    (array (filled (number 1) ∷ filled (number 2) ∷ filled (number 3) ∷ []))
    (codes "forEach"))
    (function_expression
    (function_of 0 None (codes "x" ∷ []) false []
    (expression (compute binary.Add (to_name (codes "s")) (name (codes "x")))
    ∷ []))
    ∷ [])
    ∷ name (codes "s")
    ∷ dot (dot (array []) (codes "forEach")) (codes "length")
    ∷ []))
    ∷ expression
    (call
    (dot (array (hole ∷ filled (number 1) ∷ hole ∷ [])) (codes "forEach"))
    (function_expression
    (function_of 1 None (codes "x" ∷ codes "i" ∷ []) false []
    (expression
    (call (name (codes "print")) (name (codes "i") ∷ name (codes "x") ∷ []))
    ∷ []))
    ∷ []))
    ∷ [])

for_each_2_holds : runs for_each_2
    (codes "undefined 6 1" ∷ codes "1 1" ∷ codes "jlint: normal steps=53" ∷ [])
    ≡ true
unfolding computing.run
for_each_2_holds = refl
