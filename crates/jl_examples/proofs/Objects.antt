-- Object and the functions of its prototype (15.2).
use Rattle.std.specs.Prelude.{◌≡◌, refl, ◌∷◌, [], codes, true, false, Some, None}
use Rattle.jl_ast.specs.declared.ops.BinOp.TheVariants as binary
use Rattle.jl_ast.specs.declared.ops.UnOp.TheVariants as un
use Rattle.jl_ast.specs.Tree.{Program}
use Rattle.jl_examples.proofs.Computing as computing
use Rattle.jl_examples.proofs.Running.{runs}
use Rattle.jl_examples.proofs.Trees.{script, function_of, name, number, string, null, array, hole, filled, object}
use Rattle.jl_examples.proofs.Trees.{value, function_expression, dot, index, call, unary, operator, assign, to_dot}
use Rattle.jl_examples.proofs.Trees.{declarator, var, expression, return, catch, try}

--     print(Object.prototype.isPrototypeOf.call(3, Object.create(Number.prototype)));
abbrev is_prototype_of : Program (Unit {0})
is_prototype_of =
    script false []
    (expression
    (call (name (codes "print"))
    (call
    (dot
    (dot (dot (name (codes "Object")) (codes "prototype")) (codes "isPrototypeOf"))
    (codes "call"))
    (number 3
    ∷ call
    (dot (name (codes "Object")) (codes "create"))
    (dot (name (codes "Number")) (codes "prototype") ∷ [])
    ∷ [])
    ∷ []))
    ∷ [])

is_prototype_of_holds : runs is_prototype_of (codes "false" ∷ codes "jlint: normal steps=17" ∷ []) ≡ true
unfolding computing.run
is_prototype_of_holds = refl

--     var o = Object.seal({ a: 1 }); o.a = 2; o.b = 3; print(o.a, o.b, delete o.a, Object.isSealed(o),
--       Object.isFrozen(o), Object.isExtensible(o));
abbrev seal : Program (Unit {0})
seal =
    script false []
    (var
    (declarator (codes "o")
    (Some
    (call
    (dot (name (codes "Object")) (codes "seal"))
    (object (value (codes "a") (number 1) ∷ []) ∷ [])))
    ∷ [])
    ∷ expression (assign (to_dot (name (codes "o")) (codes "a")) (number 2))
    ∷ expression (assign (to_dot (name (codes "o")) (codes "b")) (number 3))
    ∷ expression
    (call (name (codes "print"))
    (dot (name (codes "o")) (codes "a")
    ∷ dot (name (codes "o")) (codes "b")
    ∷ unary un.Delete (dot (name (codes "o")) (codes "a"))
    ∷ call (dot (name (codes "Object")) (codes "isSealed")) (name (codes "o") ∷ [])
    ∷ call (dot (name (codes "Object")) (codes "isFrozen")) (name (codes "o") ∷ [])
    ∷ call (dot (name (codes "Object")) (codes "isExtensible")) (name (codes "o") ∷ [])
    ∷ []))
    ∷ [])

seal_holds : runs seal (codes "2 undefined false true false false" ∷ codes "jlint: normal steps=45" ∷ []) ≡ true
unfolding computing.run
seal_holds = refl

--     print(Object.isFrozen({}), Object.isFrozen(Object.preventExtensions({})), Object.isFrozen(Object.seal({ a: 1
--       })), Object.isFrozen(Object.freeze({ a: 1 })));
abbrev is_frozen : Program (Unit {0})
is_frozen =
    script false []
    (expression
    (call (name (codes "print"))
    (call (dot (name (codes "Object")) (codes "isFrozen")) (object [] ∷ [])
    ∷ call
    (dot (name (codes "Object")) (codes "isFrozen"))
    (call (dot (name (codes "Object")) (codes "preventExtensions")) (object [] ∷ []) ∷ [])
    ∷ call
    (dot (name (codes "Object")) (codes "isFrozen"))
    (call
    (dot (name (codes "Object")) (codes "seal"))
    (object (value (codes "a") (number 1) ∷ []) ∷ [])
    ∷ [])
    ∷ call
    (dot (name (codes "Object")) (codes "isFrozen"))
    (call
    (dot (name (codes "Object")) (codes "freeze"))
    (object (value (codes "a") (number 1) ∷ []) ∷ [])
    ∷ [])
    ∷ []))
    ∷ [])

is_frozen_holds : runs is_frozen (codes "false true false true" ∷ codes "jlint: normal steps=39" ∷ []) ≡ true
unfolding computing.run
is_frozen_holds = refl

--     var p = { a: 1 }; var o = Object.create(p); print(o.a, o.hasOwnProperty("a"), Object.getPrototypeOf(o) === p);
abbrev has_own_property : Program (Unit {0})
has_own_property =
    script false []
    (var (declarator (codes "p") (Some (object (value (codes "a") (number 1) ∷ []))) ∷ [])
    ∷ var
    (declarator (codes "o")
    (Some (call (dot (name (codes "Object")) (codes "create")) (name (codes "p") ∷ [])))
    ∷ [])
    ∷ expression
    (call (name (codes "print"))
    (dot (name (codes "o")) (codes "a")
    ∷ call (dot (name (codes "o")) (codes "hasOwnProperty")) (string (codes "a") ∷ [])
    ∷ operator binary.StrictEqual
    (call (dot (name (codes "Object")) (codes "getPrototypeOf")) (name (codes "o") ∷ []))
    (name (codes "p"))
    ∷ []))
    ∷ [])

has_own_property_holds : runs has_own_property (codes "1 false true" ∷ codes "jlint: normal steps=27" ∷ []) ≡ true
unfolding computing.run
has_own_property_holds = refl

--     var a = Object.getOwnPropertyNames(Object.defineProperty({}, "h", { value: 1 })); print(a.length, a[0],
--       Object.getOwnPropertyDescriptor(a, 0).writable);
abbrev get_own_property_names : Program (Unit {0})
get_own_property_names =
    script false []
    (var
    (declarator (codes "a")
    (Some
    (call
    (dot (name (codes "Object")) (codes "getOwnPropertyNames"))
    (call
    (dot (name (codes "Object")) (codes "defineProperty"))
    (object []
    ∷ string (codes "h")
    ∷ object (value (codes "value") (number 1) ∷ [])
    ∷ [])
    ∷ [])))
    ∷ [])
    ∷ expression
    (call (name (codes "print"))
    (dot (name (codes "a")) (codes "length")
    ∷ index (name (codes "a")) (number 0)
    ∷ dot
    (call
    (dot (name (codes "Object")) (codes "getOwnPropertyDescriptor"))
    (name (codes "a") ∷ number 0 ∷ []))
    (codes "writable")
    ∷ []))
    ∷ [])

get_own_property_names_holds : runs get_own_property_names
    (codes "1 h true" ∷ codes "jlint: normal steps=30" ∷ [])
    ≡ true
unfolding computing.run
get_own_property_names_holds = refl

--     try { Object.defineProperty(Object.freeze({ a: 1 }), "a", { value: 2 }); } catch (e) { print(e); }
abbrev define_property : Program (Unit {0})
define_property =
    script false []
    (try
    (expression
    (call
    (dot (name (codes "Object")) (codes "defineProperty"))
    (call
    (dot (name (codes "Object")) (codes "freeze"))
    (object (value (codes "a") (number 1) ∷ []) ∷ [])
    ∷ string (codes "a")
    ∷ object (value (codes "value") (number 2) ∷ [])
    ∷ []))
    ∷ [])
    (catch (codes "e") (expression (call (name (codes "print")) (name (codes "e") ∷ [])) ∷ []))
    None
    ∷ [])

define_property_holds : runs define_property
    (codes "TypeError: cannot define" ∷ codes "jlint: normal steps=21" ∷ [])
    ≡ true
unfolding computing.run
define_property_holds = refl

--     var o = { a: 1 }; print(Object.preventExtensions(o) === o, Object.isExtensible(o)); o.b = 1; o.a = 2;
--       print(o.b, o.a, delete o.a, "a" in o);
abbrev prevent_extensions : Program (Unit {0})
prevent_extensions =
    script false []
    (var (declarator (codes "o") (Some (object (value (codes "a") (number 1) ∷ []))) ∷ [])
    ∷ expression
    (call (name (codes "print"))
    (operator binary.StrictEqual
    (call (dot (name (codes "Object")) (codes "preventExtensions")) (name (codes "o") ∷ []))
    (name (codes "o"))
    ∷ call (dot (name (codes "Object")) (codes "isExtensible")) (name (codes "o") ∷ [])
    ∷ []))
    ∷ expression (assign (to_dot (name (codes "o")) (codes "b")) (number 1))
    ∷ expression (assign (to_dot (name (codes "o")) (codes "a")) (number 2))
    ∷ expression
    (call (name (codes "print"))
    (dot (name (codes "o")) (codes "b")
    ∷ dot (name (codes "o")) (codes "a")
    ∷ unary un.Delete (dot (name (codes "o")) (codes "a"))
    ∷ operator binary.In (string (codes "a")) (name (codes "o"))
    ∷ []))
    ∷ [])

prevent_extensions_holds : runs prevent_extensions
    (codes "true false" ∷ codes "undefined 2 true false" ∷ codes "jlint: normal steps=44" ∷ [])
    ≡ true
unfolding computing.run
prevent_extensions_holds = refl

--     Object.keys("ab");
abbrev keys : Program (Unit {0})
keys =
    script false [] (expression (call (dot (name (codes "Object")) (codes "keys")) (string (codes "ab") ∷ [])) ∷ [])

keys_holds : runs keys (codes "uncaught TypeError: not an object" ∷ codes "jlint: thrown steps=5" ∷ []) ≡ true
unfolding computing.run
keys_holds = refl

--     Object.isSealed(undefined);
abbrev is_sealed : Program (Unit {0})
is_sealed =
    script false []
    (expression (call (dot (name (codes "Object")) (codes "isSealed")) (name (codes "undefined") ∷ [])) ∷ [])

is_sealed_holds : runs is_sealed
    (codes "uncaught TypeError: not an object" ∷ codes "jlint: thrown steps=5" ∷ [])
    ≡ true
unfolding computing.run
is_sealed_holds = refl

--     Object.defineProperties(3, {});
abbrev define_properties : Program (Unit {0})
define_properties =
    script false []
    (expression (call (dot (name (codes "Object")) (codes "defineProperties")) (number 3 ∷ object [] ∷ [])) ∷ [])

define_properties_holds : runs define_properties
    (codes "uncaught TypeError: not an object" ∷ codes "jlint: thrown steps=6" ∷ [])
    ≡ true
unfolding computing.run
define_properties_holds = refl

--     Object.getOwnPropertyNames(null);
abbrev object_calls : Program (Unit {0})
object_calls =
    script false [] (expression (call (dot (name (codes "Object")) (codes "getOwnPropertyNames")) (null ∷ [])) ∷ [])

object_calls_holds : runs object_calls
    (codes "uncaught TypeError: not an object" ∷ codes "jlint: thrown steps=5" ∷ [])
    ≡ true
unfolding computing.run
object_calls_holds = refl

--     Object.defineProperties({}, undefined);
abbrev define_properties_2 : Program (Unit {0})
define_properties_2 =
    script false []
    (expression
    (call
    (dot (name (codes "Object")) (codes "defineProperties"))
    (object [] ∷ name (codes "undefined") ∷ []))
    ∷ [])

define_properties_2_holds : runs define_properties_2
    (codes "uncaught TypeError: no property of undefined" ∷ codes "jlint: thrown steps=6" ∷ [])
    ≡ true
unfolding computing.run
define_properties_2_holds = refl

--     Object.prototype.isPrototypeOf.call(undefined, {});
abbrev is_prototype_of_2 : Program (Unit {0})
is_prototype_of_2 =
    script false []
    (expression
    (call
    (dot
    (dot (dot (name (codes "Object")) (codes "prototype")) (codes "isPrototypeOf"))
    (codes "call"))
    (name (codes "undefined") ∷ object [] ∷ []))
    ∷ [])

is_prototype_of_2_holds : runs is_prototype_of_2
    (codes "uncaught TypeError: no property of undefined" ∷ codes "jlint: thrown steps=9" ∷ [])
    ≡ true
unfolding computing.run
is_prototype_of_2_holds = refl

--     var k = Object.keys([5, , 7]); print(k.length, k[0], k[1]);
abbrev keys_2 : Program (Unit {0})
keys_2 =
    script false []
    (var
    (declarator (codes "k")
    (Some
    (call
    (dot (name (codes "Object")) (codes "keys"))
    (array (filled (number 5) ∷ hole ∷ filled (number 7) ∷ []) ∷ [])))
    ∷ [])
    ∷ expression
    (call (name (codes "print"))
    (dot (name (codes "k")) (codes "length")
    ∷ index (name (codes "k")) (number 0)
    ∷ index (name (codes "k")) (number 1)
    ∷ []))
    ∷ [])

keys_2_holds : runs keys_2 (codes "2 0 2" ∷ codes "jlint: normal steps=24" ∷ []) ≡ true
unfolding computing.run
keys_2_holds = refl

--     function f(a) { return arguments.propertyIsEnumerable("0"); } print(f(1), f(), Object.create({ z: 1
--       }).propertyIsEnumerable("z"));
abbrev property_is_enumerable : Program (Unit {0})
property_is_enumerable =
    script false
    (function_of 0 (Some (codes "f")) (codes "a" ∷ []) false []
    (return
    (Some
    (call
    (dot (name (codes "arguments")) (codes "propertyIsEnumerable"))
    (string (codes "0") ∷ [])))
    ∷ [])
    ∷ [])
    (expression
    (call (name (codes "print"))
    (call (name (codes "f")) (number 1 ∷ [])
    ∷ call (name (codes "f")) []
    ∷ call
    (dot
    (call
    (dot (name (codes "Object")) (codes "create"))
    (object (value (codes "z") (number 1) ∷ []) ∷ []))
    (codes "propertyIsEnumerable"))
    (string (codes "z") ∷ [])
    ∷ []))
    ∷ [])

property_is_enumerable_holds : runs property_is_enumerable
    (codes "true false false" ∷ codes "jlint: normal steps=32" ∷ [])
    ≡ true
unfolding computing.run
property_is_enumerable_holds = refl

--     var k = { toString: function () { print("k"); return "a"; } }; try {
--       Object.prototype.propertyIsEnumerable.call(undefined, k); } catch (e) { print(e); }
abbrev property_is_enumerable_2 : Program (Unit {0})
property_is_enumerable_2 =
    script false []
    (var
    (declarator (codes "k")
    (Some
    (object
    (value (codes "toString")
    (function_expression
    (function_of 0 None [] false []
    (expression
    (call (name (codes "print")) (string (codes "k") ∷ []))
    ∷ return (Some (string (codes "a")))
    ∷ [])))
    ∷ [])))
    ∷ [])
    ∷ try
    (expression
    (call
    (dot
    (dot
    (dot (name (codes "Object")) (codes "prototype"))
    (codes "propertyIsEnumerable"))
    (codes "call"))
    (name (codes "undefined") ∷ name (codes "k") ∷ []))
    ∷ [])
    (catch (codes "e") (expression (call (name (codes "print")) (name (codes "e") ∷ [])) ∷ []))
    None
    ∷ [])

property_is_enumerable_2_holds : runs property_is_enumerable_2
    (codes "k" ∷ codes "TypeError: no property of undefined" ∷ codes "jlint: normal steps=29" ∷ [])
    ≡ true
unfolding computing.run
property_is_enumerable_2_holds = refl
