-- Scripts that change what other scripts rest on: builtins, prototypes, names of the global object.
use Rattle.std.specs.Prelude.{◌≡◌, refl, ◌∷◌, [], codes, true, false, Some, None}
use Rattle.jl_ast.specs.declared.ops.BinOp.TheVariants as binary
use Rattle.jl_ast.specs.Tree.{Program}
use Rattle.jl_examples.proofs.Computing as computing
use Rattle.jl_examples.proofs.Running.{prints}
use Rattle.jl_examples.proofs.Trees.{script, function_of, this, name, number, string, null, array, hole, filled}
use Rattle.jl_examples.proofs.Trees.{object, value, function_expression, dot, index, call, operator, assign, to_name}
use Rattle.jl_examples.proofs.Trees.{to_dot, to_index, declarator, var, expression, return, throw, catch, try}

--     Object.defineProperty(this, "J$", { get: function () { print("seen"); } }); print(1);
abbrev getter_named_as_hooks : Program (Unit {0})
getter_named_as_hooks =
    script false []
    (expression
    (call
    (dot (name (codes "Object")) (codes "defineProperty"))
    (this
    ∷ string (codes "J$")
    ∷ object
    (value (codes "get")
    (function_expression
    (function_of 0 None [] false []
    (expression (call (name (codes "print")) (string (codes "seen") ∷ []))
    ∷ [])))
    ∷ [])
    ∷ []))
    ∷ expression (call (name (codes "print")) (number 1 ∷ []))
    ∷ [])

getter_named_as_hooks_holds : prints getter_named_as_hooks (codes "1" ∷ codes "jlint: normal" ∷ []) ≡ true
unfolding computing.run
getter_named_as_hooks_holds = refl

--     Function.prototype.apply = Function.prototype.call = null; function f() { return 2; } print(f());
abbrev apply_taken_away : Program (Unit {0})
apply_taken_away =
    script false
    (function_of 0 (Some (codes "f")) [] false [] (return (Some (number 2)) ∷ []) ∷ [])
    (expression
    (assign
    (to_dot (dot (name (codes "Function")) (codes "prototype")) (codes "apply"))
    (assign (to_dot (dot (name (codes "Function")) (codes "prototype")) (codes "call")) null))
    ∷ expression (call (name (codes "print")) (call (name (codes "f")) [] ∷ []))
    ∷ [])

apply_taken_away_holds : prints apply_taken_away (codes "2" ∷ codes "jlint: normal" ∷ []) ≡ true
unfolding computing.run
apply_taken_away_holds = refl

--     var p = print; print = null; try { print(1); } catch (e) { p(e.message); }
abbrev print_taken_away : Program (Unit {0})
print_taken_away =
    script false []
    (var (declarator (codes "p") (Some (name (codes "print"))) ∷ [])
    ∷ expression (assign (to_name (codes "print")) null)
    ∷ try
    (expression (call (name (codes "print")) (number 1 ∷ [])) ∷ [])
    (catch (codes "e")
    (expression (call (name (codes "p")) (dot (name (codes "e")) (codes "message") ∷ [])) ∷ []))
    None
    ∷ [])

print_taken_away_holds : prints print_taken_away (codes "not a function" ∷ codes "jlint: normal" ∷ []) ≡ true
unfolding computing.run
print_taken_away_holds = refl

--     undefined = 1; print(undefined);
abbrev undefined_stays : Program (Unit {0})
undefined_stays =
    script false []
    (expression (assign (to_name (codes "undefined")) (number 1))
    ∷ expression (call (name (codes "print")) (name (codes "undefined") ∷ []))
    ∷ [])

undefined_stays_holds : prints undefined_stays (codes "undefined" ∷ codes "jlint: normal" ∷ []) ≡ true
unfolding computing.run
undefined_stays_holds = refl

--     function f() { try { throw 1; } catch (arguments) { } } f(2);
abbrev caught_as_arguments : Program (Unit {0})
caught_as_arguments =
    script false
    (function_of 0 (Some (codes "f")) [] false []
    (try (throw (number 1) ∷ []) (catch (codes "arguments") []) None ∷ [])
    ∷ [])
    (expression (call (name (codes "f")) (number 2 ∷ [])) ∷ [])

caught_as_arguments_holds : prints caught_as_arguments (codes "jlint: normal" ∷ []) ≡ true
unfolding computing.run
caught_as_arguments_holds = refl

--     Array.prototype[0] = 9; var a = [ , 1]; print(a[0], a.length);
abbrev prototype_elements : Program (Unit {0})
prototype_elements =
    script false []
    (expression (assign (to_index (dot (name (codes "Array")) (codes "prototype")) (number 0)) (number 9))
    ∷ var (declarator (codes "a") (Some (array (hole ∷ filled (number 1) ∷ []))) ∷ [])
    ∷ expression
    (call (name (codes "print"))
    (index (name (codes "a")) (number 0) ∷ dot (name (codes "a")) (codes "length") ∷ []))
    ∷ [])

prototype_elements_holds : prints prototype_elements (codes "9 2" ∷ codes "jlint: normal" ∷ []) ≡ true
unfolding computing.run
prototype_elements_holds = refl

--     var o = { toString: function () { throw "t"; } }; try { o[o] = 1; } catch (e) { print(e); }
abbrev key_that_throws : Program (Unit {0})
key_that_throws =
    script false []
    (var
    (declarator (codes "o")
    (Some
    (object
    (value (codes "toString")
    (function_expression
    (function_of 0 None [] false [] (throw (string (codes "t")) ∷ [])))
    ∷ [])))
    ∷ [])
    ∷ try
    (expression (assign (to_index (name (codes "o")) (name (codes "o"))) (number 1)) ∷ [])
    (catch (codes "e") (expression (call (name (codes "print")) (name (codes "e") ∷ [])) ∷ []))
    None
    ∷ [])

key_that_throws_holds : prints key_that_throws (codes "t" ∷ codes "jlint: normal" ∷ []) ≡ true
unfolding computing.run
key_that_throws_holds = refl

--     String.prototype.valueOf = function () { return "x"; }; print("a" + "b");
abbrev value_of_of_strings : Program (Unit {0})
value_of_of_strings =
    script false []
    (expression
    (assign
    (to_dot (dot (name (codes "String")) (codes "prototype")) (codes "valueOf"))
    (function_expression (function_of 0 None [] false [] (return (Some (string (codes "x"))) ∷ []))))
    ∷ expression
    (call (name (codes "print")) (operator binary.Add (string (codes "a")) (string (codes "b")) ∷ []))
    ∷ [])

value_of_of_strings_holds : prints value_of_of_strings (codes "ab" ∷ codes "jlint: normal" ∷ []) ≡ true
unfolding computing.run
value_of_of_strings_holds = refl

--     Error.prototype.name = "E"; TypeError.prototype = null; try { null.x; } catch (e) { print(e.name); }
abbrev error_names : Program (Unit {0})
error_names =
    script false []
    (expression
    (assign (to_dot (dot (name (codes "Error")) (codes "prototype")) (codes "name")) (string (codes "E")))
    ∷ expression (assign (to_dot (name (codes "TypeError")) (codes "prototype")) null)
    ∷ try (expression (dot null (codes "x")) ∷ [])
    (catch (codes "e")
    (expression (call (name (codes "print")) (dot (name (codes "e")) (codes "name") ∷ [])) ∷ []))
    None
    ∷ [])

error_names_holds : prints error_names (codes "TypeError" ∷ codes "jlint: normal" ∷ []) ≡ true
unfolding computing.run
error_names_holds = refl

--     Object.preventExtensions(Object.prototype); Object.prototype.z = 1; print(({}).z);
abbrev closed_prototype : Program (Unit {0})
closed_prototype =
    script false []
    (expression
    (call
    (dot (name (codes "Object")) (codes "preventExtensions"))
    (dot (name (codes "Object")) (codes "prototype") ∷ []))
    ∷ expression (assign (to_dot (dot (name (codes "Object")) (codes "prototype")) (codes "z")) (number 1))
    ∷ expression (call (name (codes "print")) (dot (object []) (codes "z") ∷ []))
    ∷ [])

closed_prototype_holds : prints closed_prototype (codes "undefined" ∷ codes "jlint: normal" ∷ []) ≡ true
unfolding computing.run
closed_prototype_holds = refl
