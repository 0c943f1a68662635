-- Runs with few steps: where they are spent.
use Rattle.std.specs.Prelude.{◌≡◌, refl, ◌∷◌, [], codes, true, false, None}
use Rattle.jl_ast.specs.declared.ops.UnOp.TheVariants as un
use Rattle.jl_ast.specs.Tree.{Program}
use Rattle.jl_examples.proofs.Computing as computing
use Rattle.jl_examples.proofs.Running.{answers, executes}
use Rattle.jl_examples.proofs.Scripts.{hooked_quotient, quotient}
use Rattle.jl_examples.proofs.Trees.{script, function_of, name, number, null, array, object, value}
use Rattle.jl_examples.proofs.Trees.{function_expression, dot, call, unary, expression}

--     print(0 / 0);
quotient_0_holds : answers 0 quotient (codes "jlint: spent steps=0" ∷ []) ≡ true
unfolding computing.run
quotient_0_holds = refl

quotient_1_holds : answers 1 quotient (codes "jlint: spent steps=1" ∷ []) ≡ true
unfolding computing.run
quotient_1_holds = refl

quotient_6_holds : answers 6 quotient (codes "jlint: spent steps=6" ∷ []) ≡ true
unfolding computing.run
quotient_6_holds = refl

quotient_7_holds : answers 7 quotient (codes "jlint: spent steps=7" ∷ []) ≡ true
unfolding computing.run
quotient_7_holds = refl

quotient_8_holds : answers 8 quotient (codes "NaN" ∷ codes "jlint: normal steps=8" ∷ []) ≡ true
unfolding computing.run
quotient_8_holds = refl

--     J$.S(1);
--     J$.F(3, J$.R(5, "print", print))(J$.B(6, "/", J$.T(7, 0), J$.T(8, 0)));
--     J$.X(2);
--
hooks_0_holds : executes 0 hooked_quotient (codes "jlint: spent steps=0 hooks=0" ∷ []) ≡ true
unfolding computing.run
hooks_0_holds = refl

hooks_3_holds : executes 3 hooked_quotient (codes "1 ScriptEnter" ∷ codes "jlint: spent steps=3 hooks=1" ∷ []) ≡ true
unfolding computing.run
hooks_3_holds = refl

hooks_8_holds : executes 8 hooked_quotient (codes "1 ScriptEnter" ∷ codes "jlint: spent steps=8 hooks=1" ∷ []) ≡ true
unfolding computing.run
hooks_8_holds = refl

hooks_18_holds : executes 18 hooked_quotient
    (codes "1 ScriptEnter"
    ∷ codes "5 Read 'print' [Function]"
    ∷ codes "7 Literal 0"
    ∷ codes "8 Literal 0"
    ∷ codes "6 Binary '/' 0 0 NaN"
    ∷ codes "3 InvokePre print undefined call NaN"
    ∷ codes "jlint: spent steps=18 hooks=6"
    ∷ [])
    ≡ true
unfolding computing.run
hooks_18_holds = refl

hooks_23_holds : executes 23 hooked_quotient
    (codes "1 ScriptEnter"
    ∷ codes "5 Read 'print' [Function]"
    ∷ codes "7 Literal 0"
    ∷ codes "8 Literal 0"
    ∷ codes "6 Binary '/' 0 0 NaN"
    ∷ codes "3 InvokePre print undefined call NaN"
    ∷ codes "4 InvokePost undefined"
    ∷ codes "2 ScriptExit"
    ∷ codes "jlint: normal steps=23 hooks=8"
    ∷ [])
    ≡ true
unfolding computing.run
hooks_23_holds = refl

--     [].forEach.call({ length: 4294967295 }, function () { });
abbrev long_for_each : Program (Unit {0})
long_for_each =
    script false []
    (expression
    (call
    (dot (dot (array []) (codes "forEach")) (codes "call"))
    (object (value (codes "length") (number 4294967295) ∷ [])
    ∷ function_expression (function_of 0 None [] false [] [])
    ∷ []))
    ∷ [])

long_for_each_holds : answers 60 long_for_each (codes "jlint: spent steps=60" ∷ []) ≡ true
unfolding computing.run
long_for_each_holds = refl

--     [].join.call({ length: -1 });
abbrev long_join : Program (Unit {0})
long_join =
    script false []
    (expression
    (call
    (dot (dot (array []) (codes "join")) (codes "call"))
    (object (value (codes "length") (unary un.Minus (number 1)) ∷ []) ∷ []))
    ∷ [])

long_join_holds : answers 60 long_join (codes "jlint: spent steps=60" ∷ []) ≡ true
unfolding computing.run
long_join_holds = refl

--     print.apply(null, { length: 4294967295 });
abbrev long_apply : Program (Unit {0})
long_apply =
    script false []
    (expression
    (call
    (dot (name (codes "print")) (codes "apply"))
    (null ∷ object (value (codes "length") (number 4294967295) ∷ []) ∷ []))
    ∷ [])

long_apply_holds : answers 60 long_apply (codes "jlint: spent steps=60" ∷ []) ≡ true
unfolding computing.run
long_apply_holds = refl

--     [].sort.call({ length: 4294967294 });
abbrev long_sort : Program (Unit {0})
long_sort =
    script false []
    (expression
    (call
    (dot (dot (array []) (codes "sort")) (codes "call"))
    (object (value (codes "length") (number 4294967294) ∷ []) ∷ []))
    ∷ [])

long_sort_holds : answers 60 long_sort (codes "jlint: spent steps=60" ∷ []) ≡ true
unfolding computing.run
long_sort_holds = refl
