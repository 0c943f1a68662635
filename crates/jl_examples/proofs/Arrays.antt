-- Arrays (15.4).
use Rattle.std.specs.Prelude.{◌≡◌, refl, ◌∷◌, [], codes, true, false, Some, None}
use Rattle.jl_ast.specs.declared.ops.BinOp.TheVariants as binary
use Rattle.jl_ast.specs.declared.ops.UnOp.TheVariants as un
use Rattle.jl_ast.specs.Tree.{Program}
use Rattle.jl_examples.proofs.Computing as computing
use Rattle.jl_examples.proofs.Running.{runs}
use Rattle.jl_examples.proofs.Trees.{script, function_of, name, number, string, boolean, null, array, hole, filled}
use Rattle.jl_examples.proofs.Trees.{object, value, function_expression, dot, index, call, new, unary, operator}
use Rattle.jl_examples.proofs.Trees.{assign, to_dot, to_index, declarator, var, expression, return, catch, try}

--     print([3, 1, 2, 10].sort());
--     var a = [1, 2, 3]; a.length = 1; a[3] = 4; print(a, a.length);
--     print([1, 2, 3].map(function (x) { return x * x; }).join("-"));
--     print([1, , 3].indexOf(undefined));
abbrev sort : Program (Unit {0})
sort =
    script false []
    (expression
    (call (name (codes "print"))
    (call
    (dot
    (array
    (filled (number 3)
    ∷ filled (number 1)
    ∷ filled (number 2)
    ∷ filled (number 10)
    ∷ []))
    (codes "sort"))
    []
    ∷ []))
    ∷ var
    (declarator (codes "a")
    (Some (array (filled (number 1) ∷ filled (number 2) ∷ filled (number 3) ∷ [])))
    ∷ [])
    ∷ expression (assign (to_dot (name (codes "a")) (codes "length")) (number 1))
    ∷ expression (assign (to_index (name (codes "a")) (number 3)) (number 4))
    ∷ expression
    (call (name (codes "print")) (name (codes "a") ∷ dot (name (codes "a")) (codes "length") ∷ []))
    ∷ expression
    (call (name (codes "print"))
    (call
    (dot
    (call
    (dot
    (array (filled (number 1) ∷ filled (number 2) ∷ filled (number 3) ∷ []))
    (codes "map"))
    (function_expression
    (function_of 0 None (codes "x" ∷ []) false []
    (return
    (Some
    (operator binary.Mul (name (codes "x"))
    (name (codes "x"))))
    ∷ []))
    ∷ []))
    (codes "join"))
    (string (codes "-") ∷ [])
    ∷ []))
    ∷ expression
    (call (name (codes "print"))
    (call
    (dot (array (filled (number 1) ∷ hole ∷ filled (number 3) ∷ [])) (codes "indexOf"))
    (name (codes "undefined") ∷ [])
    ∷ []))
    ∷ [])

sort_holds : runs sort
    (codes "1,10,2,3" ∷ codes "1,,,4 4" ∷ codes "1-4-9" ∷ codes "-1" ∷ codes "jlint: normal steps=102" ∷ [])
    ≡ true
unfolding computing.run
sort_holds = refl

--     try { new [].push(1); } catch (e) { print(e); } try { new Array.isArray([]); } catch (e) { print(e); }
abbrev push : Program (Unit {0})
push =
    script false []
    (try
    (expression (new (dot (array []) (codes "push")) (number 1 ∷ [])) ∷ [])
    (catch (codes "e") (expression (call (name (codes "print")) (name (codes "e") ∷ [])) ∷ []))
    None
    ∷ try
    (expression (new (dot (name (codes "Array")) (codes "isArray")) (array [] ∷ [])) ∷ [])
    (catch (codes "e") (expression (call (name (codes "print")) (name (codes "e") ∷ [])) ∷ []))
    None
    ∷ [])

push_holds : runs push
    (codes "TypeError: not a constructor"
    ∷ codes "TypeError: not a constructor"
    ∷ codes "jlint: normal steps=26"
    ∷ [])
    ≡ true
unfolding computing.run
push_holds = refl

-- generic this
--
--     var o = { concat: [].concat, length: 2, 0: "a" };
--     var r = o.concat(1, [2]);
--     print(r.length, r[0] === o, r[1], r[2]);
--     Boolean.prototype.concat = [].concat; var b = true.concat(3); print(typeof b[0], b[1], b.length);
--     try { var c = [].concat; c(1); } catch (e) { print(e); }
abbrev concat : Program (Unit {0})
concat =
    script false []
    (var
    (declarator (codes "o")
    (Some
    (object
    (value (codes "concat") (dot (array []) (codes "concat"))
    ∷ value (codes "length") (number 2)
    ∷ value (codes "0") (string (codes "a"))
    ∷ [])))
    ∷ [])
    ∷ var
    (declarator (codes "r")
    (Some
    (call (dot (name (codes "o")) (codes "concat"))
    (number 1 ∷ array (filled (number 2) ∷ []) ∷ [])))
    ∷ [])
    ∷ expression
    (call (name (codes "print"))
    (dot (name (codes "r")) (codes "length")
    ∷ operator binary.StrictEqual (index (name (codes "r")) (number 0)) (name (codes "o"))
    ∷ index (name (codes "r")) (number 1)
    ∷ index (name (codes "r")) (number 2)
    ∷ []))
    ∷ expression
    (assign
    (to_dot (dot (name (codes "Boolean")) (codes "prototype")) (codes "concat"))
    (dot (array []) (codes "concat")))
    ∷ var (declarator (codes "b") (Some (call (dot (boolean true) (codes "concat")) (number 3 ∷ []))) ∷ [])
    ∷ expression
    (call (name (codes "print"))
    (unary un.Typeof (index (name (codes "b")) (number 0))
    ∷ index (name (codes "b")) (number 1)
    ∷ dot (name (codes "b")) (codes "length")
    ∷ []))
    ∷ try
    (var (declarator (codes "c") (Some (dot (array []) (codes "concat"))) ∷ [])
    ∷ expression (call (name (codes "c")) (number 1 ∷ []))
    ∷ [])
    (catch (codes "e") (expression (call (name (codes "print")) (name (codes "e") ∷ [])) ∷ []))
    None
    ∷ [])

concat_holds : runs concat
    (codes "3 true 1 2"
    ∷ codes "object 3 2"
    ∷ codes "TypeError: no property of undefined"
    ∷ codes "jlint: normal steps=83"
    ∷ [])
    ≡ true
unfolding computing.run
concat_holds = refl

-- a comparator that is no function is Unsupported too, before anything else
--
--     [2, 1].sort(null);
abbrev sort_2 : Program (Unit {0})
sort_2 =
    script false []
    (expression (call (dot (array (filled (number 2) ∷ filled (number 1) ∷ [])) (codes "sort")) (null ∷ []))
    ∷ [])

sort_2_holds : runs sort_2 (codes "jlint: fault Unsupported Array.prototype.sort steps=7" ∷ []) ≡ true
unfolding computing.run
sort_2_holds = refl

--     var a = [1, 2, 3]; print(a.pop(), a.length, a, a.pop(), a.pop(), a.pop(), a.length, a.pop.length);
abbrev pop : Program (Unit {0})
pop =
    script false []
    (var
    (declarator (codes "a")
    (Some (array (filled (number 1) ∷ filled (number 2) ∷ filled (number 3) ∷ [])))
    ∷ [])
    ∷ expression
    (call (name (codes "print"))
    (call (dot (name (codes "a")) (codes "pop")) []
    ∷ dot (name (codes "a")) (codes "length")
    ∷ name (codes "a")
    ∷ call (dot (name (codes "a")) (codes "pop")) []
    ∷ call (dot (name (codes "a")) (codes "pop")) []
    ∷ call (dot (name (codes "a")) (codes "pop")) []
    ∷ dot (name (codes "a")) (codes "length")
    ∷ dot (dot (name (codes "a")) (codes "pop")) (codes "length")
    ∷ []))
    ∷ [])

pop_holds : runs pop (codes "3 2  2 1 undefined 0 0" ∷ codes "jlint: normal steps=39" ∷ []) ≡ true
unfolding computing.run
pop_holds = refl

--     var a = [3]; print(a.unshift(1, 2), a, a.unshift(), a.length, [].unshift(1), a.unshift.length);
abbrev unshift : Program (Unit {0})
unshift =
    script false []
    (var (declarator (codes "a") (Some (array (filled (number 3) ∷ []))) ∷ [])
    ∷ expression
    (call (name (codes "print"))
    (call (dot (name (codes "a")) (codes "unshift")) (number 1 ∷ number 2 ∷ [])
    ∷ name (codes "a")
    ∷ call (dot (name (codes "a")) (codes "unshift")) []
    ∷ dot (name (codes "a")) (codes "length")
    ∷ call (dot (array []) (codes "unshift")) (number 1 ∷ [])
    ∷ dot (dot (name (codes "a")) (codes "unshift")) (codes "length")
    ∷ []))
    ∷ [])

unshift_holds : runs unshift (codes "3 1,2,3 3 3 1 1" ∷ codes "jlint: normal steps=42" ∷ []) ≡ true
unfolding computing.run
unshift_holds = refl

--     var a = [1, 2, 3]; print(a.shift(), a, a.length, a.shift(), a.shift(), a.shift(), a.length, a.shift.length);
abbrev shift : Program (Unit {0})
shift =
    script false []
    (var
    (declarator (codes "a")
    (Some (array (filled (number 1) ∷ filled (number 2) ∷ filled (number 3) ∷ [])))
    ∷ [])
    ∷ expression
    (call (name (codes "print"))
    (call (dot (name (codes "a")) (codes "shift")) []
    ∷ name (codes "a")
    ∷ dot (name (codes "a")) (codes "length")
    ∷ call (dot (name (codes "a")) (codes "shift")) []
    ∷ call (dot (name (codes "a")) (codes "shift")) []
    ∷ call (dot (name (codes "a")) (codes "shift")) []
    ∷ dot (name (codes "a")) (codes "length")
    ∷ dot (dot (name (codes "a")) (codes "shift")) (codes "length")
    ∷ []))
    ∷ [])

shift_holds : runs shift (codes "1  2 2 3 undefined 0 0" ∷ codes "jlint: normal steps=42" ∷ []) ≡ true
unfolding computing.run
shift_holds = refl

--     var a = [1, 2, 3, 4, 5]; print(a.splice(1, 2), a, a.splice(1, 0, "x", "y"), a, a.splice(-1, 1, "z"), a,
--       a.splice.length);
abbrev splice : Program (Unit {0})
splice =
    script false []
    (var
    (declarator (codes "a")
    (Some
    (array
    (filled (number 1)
    ∷ filled (number 2)
    ∷ filled (number 3)
    ∷ filled (number 4)
    ∷ filled (number 5)
    ∷ [])))
    ∷ [])
    ∷ expression
    (call (name (codes "print"))
    (call (dot (name (codes "a")) (codes "splice")) (number 1 ∷ number 2 ∷ [])
    ∷ name (codes "a")
    ∷ call (dot (name (codes "a")) (codes "splice"))
    (number 1 ∷ number 0 ∷ string (codes "x") ∷ string (codes "y") ∷ [])
    ∷ name (codes "a")
    ∷ call (dot (name (codes "a")) (codes "splice"))
    (unary un.Minus (number 1) ∷ number 1 ∷ string (codes "z") ∷ [])
    ∷ name (codes "a")
    ∷ dot (dot (name (codes "a")) (codes "splice")) (codes "length")
    ∷ []))
    ∷ [])

splice_holds : runs splice
    (codes "2,3 1,x,y,4,z  1,x,y,4,z 5 1,x,y,4,z 2" ∷ codes "jlint: normal steps=80" ∷ [])
    ≡ true
unfolding computing.run
splice_holds = refl

-- inherited and holes
--
--     Array.prototype[2] = "in"; var a = [1, , ,]; print(a.length, a.pop(), a.length, a.pop(), a.length, a[2]);
abbrev array_calls : Program (Unit {0})
array_calls =
    script false []
    (expression
    (assign (to_index (dot (name (codes "Array")) (codes "prototype")) (number 2)) (string (codes "in")))
    ∷ var (declarator (codes "a") (Some (array (filled (number 1) ∷ hole ∷ hole ∷ []))) ∷ [])
    ∷ expression
    (call (name (codes "print"))
    (dot (name (codes "a")) (codes "length")
    ∷ call (dot (name (codes "a")) (codes "pop")) []
    ∷ dot (name (codes "a")) (codes "length")
    ∷ call (dot (name (codes "a")) (codes "pop")) []
    ∷ dot (name (codes "a")) (codes "length")
    ∷ index (name (codes "a")) (number 2)
    ∷ []))
    ∷ [])

array_calls_holds : runs array_calls (codes "3 in 2 undefined 1 in" ∷ codes "jlint: normal steps=34" ∷ []) ≡ true
unfolding computing.run
array_calls_holds = refl

--     var a = [1, 2, 3, 4], b = a.reverse(); print(a, a === b, [1, 2, 3].reverse(), [1].reverse(),
--       [].reverse().length, a.reverse.length);
abbrev reverse : Program (Unit {0})
reverse =
    script false []
    (var
    (declarator (codes "a")
    (Some
    (array
    (filled (number 1) ∷ filled (number 2) ∷ filled (number 3) ∷ filled (number 4) ∷ [])))
    ∷ declarator (codes "b") (Some (call (dot (name (codes "a")) (codes "reverse")) []))
    ∷ [])
    ∷ expression
    (call (name (codes "print"))
    (name (codes "a")
    ∷ operator binary.StrictEqual (name (codes "a")) (name (codes "b"))
    ∷ call
    (dot
    (array (filled (number 1) ∷ filled (number 2) ∷ filled (number 3) ∷ []))
    (codes "reverse"))
    []
    ∷ call (dot (array (filled (number 1) ∷ [])) (codes "reverse")) []
    ∷ dot (call (dot (array []) (codes "reverse")) []) (codes "length")
    ∷ dot (dot (name (codes "a")) (codes "reverse")) (codes "length")
    ∷ []))
    ∷ [])

reverse_holds : runs reverse (codes "4,3,2,1 true 3,2,1 1 0 0" ∷ codes "jlint: normal steps=54" ∷ []) ≡ true
unfolding computing.run
reverse_holds = refl

-- errors
--
--     String.prototype.shift = [].shift; try { "ab".shift(); } catch (e) { print(e); }
--     try { "".shift(); } catch (e) { print(e); }
--     var s = [].shift; s();
abbrev shift_2 : Program (Unit {0})
shift_2 =
    script false []
    (expression
    (assign
    (to_dot (dot (name (codes "String")) (codes "prototype")) (codes "shift"))
    (dot (array []) (codes "shift")))
    ∷ try
    (expression (call (dot (string (codes "ab")) (codes "shift")) []) ∷ [])
    (catch (codes "e") (expression (call (name (codes "print")) (name (codes "e") ∷ [])) ∷ []))
    None
    ∷ try
    (expression (call (dot (string []) (codes "shift")) []) ∷ [])
    (catch (codes "e") (expression (call (name (codes "print")) (name (codes "e") ∷ [])) ∷ []))
    None
    ∷ var (declarator (codes "s") (Some (dot (array []) (codes "shift"))) ∷ [])
    ∷ expression (call (name (codes "s")) [])
    ∷ [])

shift_2_holds : runs shift_2
    (codes "TypeError: cannot write"
    ∷ codes "TypeError: cannot write"
    ∷ codes "uncaught TypeError: no property of undefined"
    ∷ codes "jlint: thrown steps=38"
    ∷ [])
    ≡ true
unfolding computing.run
shift_2_holds = refl
