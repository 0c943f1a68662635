-- What the hooks of woven scripts emit, line by line, with ids.
use Rattle.std.specs.Prelude.{◌≡◌, refl, ◌∷◌, [], codes, true}
use Rattle.jl_examples.proofs.Computing as computing
use Rattle.jl_examples.proofs.Running.{traces}
use Rattle.jl_examples.proofs.Scripts.{empty, quotient}

--     print(0 / 0);
quotient_holds : traces quotient
    (codes "1 ScriptEnter"
    ∷ codes "5 Read 'print' [Function]"
    ∷ codes "7 Literal 0"
    ∷ codes "8 Literal 0"
    ∷ codes "6 Binary '/' 0 0 NaN"
    ∷ codes "3 InvokePre print undefined call NaN"
    ∷ codes "4 InvokePost undefined"
    ∷ codes "2 ScriptExit"
    ∷ codes "jlint: normal steps=23 hooks=8"
    ∷ [])
    ≡ true
unfolding computing.run
quotient_holds = refl

-- no statement at all
empty_holds : traces empty
    (codes "1 ScriptEnter" ∷ codes "2 ScriptExit" ∷ codes "jlint: normal steps=6 hooks=2" ∷ [])
    ≡ true
unfolding computing.run
empty_holds = refl
