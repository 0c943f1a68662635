-- Scripts with the answers of their own runs, steps included.
use Rattle.std.specs.Prelude.{◌≡◌, refl, ◌∷◌, [], codes, true, false, Some, None}
use Rattle.jl_ast.specs.Tree.{Program}
use Rattle.jl_op.specs.Chosen.{every_kind}
use Rattle.jl_examples.proofs.Computing as computing
use Rattle.jl_examples.proofs.Running.{runs, weaves}
use Rattle.jl_examples.proofs.Scripts.{break_in_finally, empty, quotient, typeof_update}
use Rattle.jl_examples.proofs.Trees.{script, function_of, name, number, call}
use Rattle.jl_examples.proofs.Trees.{declarator, var, expression, return}

--     print(0 / 0);
quotient_holds : runs quotient (codes "NaN" ∷ codes "jlint: normal steps=8" ∷ []) ≡ true
unfolding computing.run
quotient_holds = refl

--     var x = "5"; print(typeof x++, x);
typeof_update_holds : runs typeof_update (codes "number 6" ∷ codes "jlint: normal steps=11" ∷ []) ≡ true
unfolding computing.run
typeof_update_holds = refl

--     function f() {
--       return
--       1
--     }
--     print(f());
abbrev return_ends_at_the_line : Program (Unit {0})
return_ends_at_the_line =
    script false
    (function_of 0 (Some (codes "f")) [] false [] (return None ∷ expression (number 1) ∷ []) ∷ [])
    (expression (call (name (codes "print")) (call (name (codes "f")) [] ∷ [])) ∷ [])

return_ends_at_the_line_holds : runs return_ends_at_the_line
    (codes "undefined" ∷ codes "jlint: normal steps=9" ∷ [])
    ≡ true
unfolding computing.run
return_ends_at_the_line_holds = refl

--     function f() { L: while (true) { try { return 1; } finally { break L; } } return 2; }
--     print(f());
break_in_finally_holds : runs break_in_finally (codes "2" ∷ codes "jlint: normal steps=18" ∷ []) ≡ true
unfolding computing.run
break_in_finally_holds = refl

-- no statement at all
empty_holds : runs empty (codes "jlint: normal steps=0" ∷ []) ≡ true
unfolding computing.run
empty_holds = refl

--     var total = 0; print(total);
abbrev soak_least : Program (Unit {0})
soak_least =
    script false []
    (var (declarator (codes "total") (Some (number 0)) ∷ [])
    ∷ expression (call (name (codes "print")) (name (codes "total") ∷ []))
    ∷ [])

soak_least_holds : weaves every_kind soak_least (codes "0" ∷ codes "jlint: normal steps=24 hooks=8" ∷ []) ≡ true
unfolding computing.run
soak_least_holds = refl
