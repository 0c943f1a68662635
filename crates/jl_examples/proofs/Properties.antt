-- Properties and their attributes (8.12, 15.4.5, 15.5.5).
use Rattle.std.specs.Prelude.{◌≡◌, refl, ◌∷◌, [], codes, true, false, Some, None}
use Rattle.jl_ast.specs.declared.ops.BinOp.TheVariants as binary
use Rattle.jl_ast.specs.declared.ops.UnOp.TheVariants as un
use Rattle.jl_ast.specs.Tree.{Program}
use Rattle.jl_examples.proofs.Computing as computing
use Rattle.jl_examples.proofs.Running.{prints}
use Rattle.jl_examples.proofs.Trees.{script, name, number, string, boolean, array, filled, object, value, dot, index}
use Rattle.jl_examples.proofs.Trees.{call, new, unary, operator, assign, compute, to_name, to_dot, to_index}
use Rattle.jl_examples.proofs.Trees.{declarator, var, expression, for_in, catch, try}

-- the length of an array follows its elements, and cuts them (15.4.5.1)
--
--     var a = [1, 2, 3];
--     a[5] = 6; print(a.length, a);
--     a.length = 2; print(a, a.length, 5 in a);
--     Object.defineProperty(a, "length", { writable: false });
--     a[7] = 1; print(a.length, a[7]);
--     try { [].length = -1; } catch (e) { print(e.name); }
abbrev array_length : Program (Unit {0})
array_length =
    script false []
    (var
    (declarator (codes "a")
    (Some (array (filled (number 1) ∷ filled (number 2) ∷ filled (number 3) ∷ [])))
    ∷ [])
    ∷ expression (assign (to_index (name (codes "a")) (number 5)) (number 6))
    ∷ expression
    (call (name (codes "print")) (dot (name (codes "a")) (codes "length") ∷ name (codes "a") ∷ []))
    ∷ expression (assign (to_dot (name (codes "a")) (codes "length")) (number 2))
    ∷ expression
    (call (name (codes "print"))
    (name (codes "a")
    ∷ dot (name (codes "a")) (codes "length")
    ∷ operator binary.In (number 5) (name (codes "a"))
    ∷ []))
    ∷ expression
    (call
    (dot (name (codes "Object")) (codes "defineProperty"))
    (name (codes "a")
    ∷ string (codes "length")
    ∷ object (value (codes "writable") (boolean false) ∷ [])
    ∷ []))
    ∷ expression (assign (to_index (name (codes "a")) (number 7)) (number 1))
    ∷ expression
    (call (name (codes "print"))
    (dot (name (codes "a")) (codes "length") ∷ index (name (codes "a")) (number 7) ∷ []))
    ∷ try
    (expression (assign (to_dot (array []) (codes "length")) (unary un.Minus (number 1))) ∷ [])
    (catch (codes "e")
    (expression (call (name (codes "print")) (dot (name (codes "e")) (codes "name") ∷ [])) ∷ []))
    None
    ∷ [])

array_length_holds : prints array_length
    (codes "6 1,2,3,,,6"
    ∷ codes "1,2 2 false"
    ∷ codes "2 undefined"
    ∷ codes "RangeError"
    ∷ codes "jlint: normal"
    ∷ [])
    ≡ true
unfolding computing.run
array_length_holds = refl

-- properties that are read-only, not enumerable, not configurable (8.12.9)
--
--     var o = {}, s = "";
--     Object.defineProperty(o, "r", { value: 1, enumerable: true });
--     o.r = 2; print(o.r, delete o.r);
--     Object.defineProperty(o, "h", { value: 3, writable: true, configurable: true });
--     o.h = 4;
--     for (var k in o) { s += k; }
--     print(o.h, s, delete o.h, o.h);
--     try { Object.defineProperty(o, "r", { value: 2 }); } catch (e) { print(e.name); }
abbrev attributes : Program (Unit {0})
attributes =
    script false []
    (var (declarator (codes "o") (Some (object [])) ∷ declarator (codes "s") (Some (string [])) ∷ [])
    ∷ expression
    (call
    (dot (name (codes "Object")) (codes "defineProperty"))
    (name (codes "o")
    ∷ string (codes "r")
    ∷ object (value (codes "value") (number 1) ∷ value (codes "enumerable") (boolean true) ∷ [])
    ∷ []))
    ∷ expression (assign (to_dot (name (codes "o")) (codes "r")) (number 2))
    ∷ expression
    (call (name (codes "print"))
    (dot (name (codes "o")) (codes "r") ∷ unary un.Delete (dot (name (codes "o")) (codes "r")) ∷ []))
    ∷ expression
    (call
    (dot (name (codes "Object")) (codes "defineProperty"))
    (name (codes "o")
    ∷ string (codes "h")
    ∷ object
    (value (codes "value") (number 3)
    ∷ value (codes "writable") (boolean true)
    ∷ value (codes "configurable") (boolean true)
    ∷ [])
    ∷ []))
    ∷ expression (assign (to_dot (name (codes "o")) (codes "h")) (number 4))
    ∷ for_in true (codes "k") (name (codes "o"))
    (expression (compute binary.Add (to_name (codes "s")) (name (codes "k"))) ∷ [])
    ∷ expression
    (call (name (codes "print"))
    (dot (name (codes "o")) (codes "h")
    ∷ name (codes "s")
    ∷ unary un.Delete (dot (name (codes "o")) (codes "h"))
    ∷ dot (name (codes "o")) (codes "h")
    ∷ []))
    ∷ try
    (expression
    (call
    (dot (name (codes "Object")) (codes "defineProperty"))
    (name (codes "o")
    ∷ string (codes "r")
    ∷ object (value (codes "value") (number 2) ∷ [])
    ∷ []))
    ∷ [])
    (catch (codes "e")
    (expression (call (name (codes "print")) (dot (name (codes "e")) (codes "name") ∷ [])) ∷ []))
    None
    ∷ [])

attributes_holds : prints attributes
    (codes "1 false" ∷ codes "4 r true undefined" ∷ codes "TypeError" ∷ codes "jlint: normal" ∷ [])
    ≡ true
unfolding computing.run
attributes_holds = refl

-- properties on prototypes let values be put or not (8.12.4, 8.12.5)
--
--     var p = { a: 1 }, o = Object.create(p);
--     o.a = 2; print(o.a, p.a);
--     Object.defineProperty(p, "b", { value: 1 });
--     o.b = 2; print(o.b, o.hasOwnProperty("b"));
--     var s = Object.preventExtensions({ c: 1 });
--     s.d = 1; s.c = 2; print(s.d, s.c, "toString" in s);
abbrev prototypes : Program (Unit {0})
prototypes =
    script false []
    (var
    (declarator (codes "p") (Some (object (value (codes "a") (number 1) ∷ [])))
    ∷ declarator (codes "o")
    (Some (call (dot (name (codes "Object")) (codes "create")) (name (codes "p") ∷ [])))
    ∷ [])
    ∷ expression (assign (to_dot (name (codes "o")) (codes "a")) (number 2))
    ∷ expression
    (call (name (codes "print"))
    (dot (name (codes "o")) (codes "a") ∷ dot (name (codes "p")) (codes "a") ∷ []))
    ∷ expression
    (call
    (dot (name (codes "Object")) (codes "defineProperty"))
    (name (codes "p") ∷ string (codes "b") ∷ object (value (codes "value") (number 1) ∷ []) ∷ []))
    ∷ expression (assign (to_dot (name (codes "o")) (codes "b")) (number 2))
    ∷ expression
    (call (name (codes "print"))
    (dot (name (codes "o")) (codes "b")
    ∷ call (dot (name (codes "o")) (codes "hasOwnProperty")) (string (codes "b") ∷ [])
    ∷ []))
    ∷ var
    (declarator (codes "s")
    (Some
    (call
    (dot (name (codes "Object")) (codes "preventExtensions"))
    (object (value (codes "c") (number 1) ∷ []) ∷ [])))
    ∷ [])
    ∷ expression (assign (to_dot (name (codes "s")) (codes "d")) (number 1))
    ∷ expression (assign (to_dot (name (codes "s")) (codes "c")) (number 2))
    ∷ expression
    (call (name (codes "print"))
    (dot (name (codes "s")) (codes "d")
    ∷ dot (name (codes "s")) (codes "c")
    ∷ operator binary.In (string (codes "toString")) (name (codes "s"))
    ∷ []))
    ∷ [])

prototypes_holds : prints prototypes
    (codes "2 1" ∷ codes "1 false" ∷ codes "undefined 2 true" ∷ codes "jlint: normal" ∷ [])
    ≡ true
unfolding computing.run
prototypes_holds = refl

-- units and length of strings, and of String objects (8.7.1, 15.5.5.2)
--
--     var s = new String("abc");
--     s[1] = "X"; s[5] = "f"; s.length = 9;
--     print(s[1], s[5], s.length, "abc"[2], "abc".length, s, delete s[0], 1 in s, Object.keys(s));
abbrev strings_have_units : Program (Unit {0})
strings_have_units =
    script false []
    (var (declarator (codes "s") (Some (new (name (codes "String")) (string (codes "abc") ∷ []))) ∷ [])
    ∷ expression (assign (to_index (name (codes "s")) (number 1)) (string (codes "X")))
    ∷ expression (assign (to_index (name (codes "s")) (number 5)) (string (codes "f")))
    ∷ expression (assign (to_dot (name (codes "s")) (codes "length")) (number 9))
    ∷ expression
    (call (name (codes "print"))
    (index (name (codes "s")) (number 1)
    ∷ index (name (codes "s")) (number 5)
    ∷ dot (name (codes "s")) (codes "length")
    ∷ index (string (codes "abc")) (number 2)
    ∷ dot (string (codes "abc")) (codes "length")
    ∷ name (codes "s")
    ∷ unary un.Delete (index (name (codes "s")) (number 0))
    ∷ operator binary.In (number 1) (name (codes "s"))
    ∷ call (dot (name (codes "Object")) (codes "keys")) (name (codes "s") ∷ [])
    ∷ []))
    ∷ [])

strings_have_units_holds : prints strings_have_units
    (codes "b f 3 c 3 abc false true 0,1,2,5" ∷ codes "jlint: normal" ∷ [])
    ≡ true
unfolding computing.run
strings_have_units_holds = refl
