-- The functions of Function.prototype (15.3).
use Rattle.std.specs.Prelude.{◌≡◌, refl, ◌∷◌, [], codes, true, false, Some, None}
use Rattle.jl_ast.specs.declared.ops.BinOp.TheVariants as binary
use Rattle.jl_ast.specs.Tree.{Program}
use Rattle.jl_examples.proofs.Computing as computing
use Rattle.jl_examples.proofs.Running.{runs}
use Rattle.jl_examples.proofs.Trees.{script, function_of, this, name, number, string, null, array, filled}
use Rattle.jl_examples.proofs.Trees.{function_expression, dot, call, new, operator, declarator, var, expression}
use Rattle.jl_examples.proofs.Trees.{return, catch, try}

--     print(function f() { }, function () { }, print, Object.prototype.hasOwnProperty, Function.prototype, Math.max);
abbrev function_calls : Program (Unit {0})
function_calls =
    script false []
    (expression
    (call (name (codes "print"))
    (function_expression (function_of 0 (Some (codes "f")) [] false [] [])
    ∷ function_expression (function_of 1 None [] false [] [])
    ∷ name (codes "print")
    ∷ dot (dot (name (codes "Object")) (codes "prototype")) (codes "hasOwnProperty")
    ∷ dot (name (codes "Function")) (codes "prototype")
    ∷ dot (name (codes "Math")) (codes "max")
    ∷ []))
    ∷ [])

function_calls_holds : runs function_calls
    (codes "function f() { [code] } function () { [code] } function print() { [code] } function hasOwnProperty() { [code] } function prototype() { [code] } function max() { [code] }"
    ∷ codes "jlint: normal steps=26"
    ∷ [])
    ≡ true
unfolding computing.run
function_calls_holds = refl

--     print.apply(null, [1, 2, 3]); print(Math.max.apply(Math, [3, 9, 4]));
abbrev apply : Program (Unit {0})
apply =
    script false []
    (expression
    (call
    (dot (name (codes "print")) (codes "apply"))
    (null ∷ array (filled (number 1) ∷ filled (number 2) ∷ filled (number 3) ∷ []) ∷ []))
    ∷ expression
    (call (name (codes "print"))
    (call
    (dot (dot (name (codes "Math")) (codes "max")) (codes "apply"))
    (name (codes "Math")
    ∷ array (filled (number 3) ∷ filled (number 9) ∷ filled (number 4) ∷ [])
    ∷ [])
    ∷ []))
    ∷ [])

apply_holds : runs apply (codes "1 2 3" ∷ codes "9" ∷ codes "jlint: normal steps=37" ∷ []) ≡ true
unfolding computing.run
apply_holds = refl

--     function f() { "use strict"; return this; } var g = f.bind(1); print(g.call(2), g.apply(3), g.bind(4)());
abbrev bind : Program (Unit {0})
bind =
    script false
    (function_of 0 (Some (codes "f")) [] true [] (return (Some this) ∷ []) ∷ [])
    (var (declarator (codes "g") (Some (call (dot (name (codes "f")) (codes "bind")) (number 1 ∷ []))) ∷ [])
    ∷ expression
    (call (name (codes "print"))
    (call (dot (name (codes "g")) (codes "call")) (number 2 ∷ [])
    ∷ call (dot (name (codes "g")) (codes "apply")) (number 3 ∷ [])
    ∷ call (call (dot (name (codes "g")) (codes "bind")) (number 4 ∷ [])) []
    ∷ []))
    ∷ [])

bind_holds : runs bind (codes "1 1 1" ∷ codes "jlint: normal steps=38" ∷ []) ≡ true
unfolding computing.run
bind_holds = refl

--     var g = print.bind(null); try { new g; } catch (e) { print(e); } var E = Error.bind(null, "m"); var e = new E;
--       print(e, e instanceof Error, E.length);
abbrev error_calls : Program (Unit {0})
error_calls =
    script false []
    (var (declarator (codes "g") (Some (call (dot (name (codes "print")) (codes "bind")) (null ∷ []))) ∷ [])
    ∷ try
    (expression (new (name (codes "g")) []) ∷ [])
    (catch (codes "e") (expression (call (name (codes "print")) (name (codes "e") ∷ [])) ∷ []))
    None
    ∷ var
    (declarator (codes "E")
    (Some (call (dot (name (codes "Error")) (codes "bind")) (null ∷ string (codes "m") ∷ [])))
    ∷ [])
    ∷ var (declarator (codes "e") (Some (new (name (codes "E")) [])) ∷ [])
    ∷ expression
    (call (name (codes "print"))
    (name (codes "e")
    ∷ operator binary.InstanceOf (name (codes "e")) (name (codes "Error"))
    ∷ dot (name (codes "E")) (codes "length")
    ∷ []))
    ∷ [])

error_calls_holds : runs error_calls
    (codes "TypeError: not a constructor" ∷ codes "Error: m true 0" ∷ codes "jlint: normal steps=42" ∷ [])
    ≡ true
unfolding computing.run
error_calls_holds = refl

--     "use strict"; function f() { return Object.getOwnPropertyDescriptor(arguments, "callee").get; } print(f());
abbrev get_own_property_descriptor : Program (Unit {0})
get_own_property_descriptor =
    script true
    (function_of 0 (Some (codes "f")) [] false []
    (return
    (Some
    (dot
    (call
    (dot (name (codes "Object")) (codes "getOwnPropertyDescriptor"))
    (name (codes "arguments") ∷ string (codes "callee") ∷ []))
    (codes "get")))
    ∷ [])
    ∷ [])
    (expression (call (name (codes "print")) (call (name (codes "f")) [] ∷ [])) ∷ [])

get_own_property_descriptor_holds : runs get_own_property_descriptor
    (codes "function thrower() { [code] }" ∷ codes "jlint: normal steps=16" ∷ [])
    ≡ true
unfolding computing.run
get_own_property_descriptor_holds = refl
