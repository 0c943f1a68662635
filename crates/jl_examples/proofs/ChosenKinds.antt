-- Scripts woven for some kinds of operations alone.
use Rattle.std.specs.Prelude.{◌≡◌, refl, ◌∷◌, [], codes, true, false, Some}
use Rattle.jl_ast.specs.declared.ops.BinOp.TheVariants as binary
use Rattle.jl_ast.specs.Tree.{Program}
use Rattle.jl_op.specs.Chosen.{Kinds}
use Rattle.jl_op.specs.declared.kind.OpKind.TheVariants as kind
use Rattle.jl_examples.proofs.Computing as computing
use Rattle.jl_examples.proofs.Running.{weaves}
use Rattle.jl_examples.proofs.Scripts.{quotient}
use Rattle.jl_examples.proofs.Trees.{script, name, number, object, value, dot, call, compute, to_dot}
use Rattle.jl_examples.proofs.Trees.{declarator, var, expression}

abbrev operators : Kinds
operators kind.Binary = true
operators kind.Unary = true
operators _ = false

abbrev binaries : Kinds
binaries kind.Binary = true
binaries _ = false

abbrev of_global_this : Kinds
of_global_this kind.PutField = true
of_global_this kind.FunctionEnter = true
of_global_this kind.FunctionExit = true
of_global_this _ = false

abbrev keyed : Kinds
keyed kind.GetField = true
keyed kind.PutField = true
keyed kind.DeleteField = true
keyed _ = false

--     print(0 / 0);
nan_made_holds : weaves operators quotient (codes "NaN" ∷ codes "jlint: normal steps=9 hooks=1" ∷ []) ≡ true
unfolding computing.run
nan_made_holds = refl

global_this_holds : weaves of_global_this quotient
    (codes "NaN" ∷ codes "jlint: normal steps=8 hooks=0" ∷ [])
    ≡ true
unfolding computing.run
global_this_holds = refl

loose_equal_holds : weaves binaries quotient (codes "NaN" ∷ codes "jlint: normal steps=9 hooks=1" ∷ []) ≡ true
unfolding computing.run
loose_equal_holds = refl

--     var o = { a: 1 }; o.a += 2; print(o.a);
abbrev undefined_key : Program (Unit {0})
undefined_key =
    script false []
    (var (declarator (codes "o") (Some (object (value (codes "a") (number 1) ∷ []))) ∷ [])
    ∷ expression (compute binary.Add (to_dot (name (codes "o")) (codes "a")) (number 2))
    ∷ expression (call (name (codes "print")) (dot (name (codes "o")) (codes "a") ∷ []))
    ∷ [])

undefined_key_holds : weaves keyed undefined_key (codes "3" ∷ codes "jlint: normal steps=19 hooks=3" ∷ []) ≡ true
unfolding computing.run
undefined_key_holds = refl
