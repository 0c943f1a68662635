-- Texts that call hooks by themselves, rightly and wrongly.
use Rattle.std.specs.Prelude.{◌≡◌, refl, ◌∷◌, [], codes, true, false, Some}
use Rattle.jl_ast.specs.declared.ops.UnOp.TheVariants as un
use Rattle.jl_ast.specs.Tree.{Program}
use Rattle.jl_examples.proofs.Computing as computing
use Rattle.jl_examples.proofs.Running.{executes, ends_with}
use Rattle.jl_examples.proofs.Scripts.{hooked_quotient}
use Rattle.jl_examples.proofs.Trees.{script, function_of, name, number, string, object, value, dot, index, call, new}
use Rattle.jl_examples.proofs.Trees.{unary, declarator, var, expression, for_in, return}

--     J$.S(1);
--     J$.F(3, J$.R(5, "print", print))(J$.B(6, "/", J$.T(7, 0), J$.T(8, 0)));
--     J$.X(2);
--
exec_quotient_holds : executes 1000 hooked_quotient
    (codes "1 ScriptEnter"
    ∷ codes "5 Read 'print' [Function]"
    ∷ codes "7 Literal 0"
    ∷ codes "8 Literal 0"
    ∷ codes "6 Binary '/' 0 0 NaN"
    ∷ codes "3 InvokePre print undefined call NaN"
    ∷ codes "4 InvokePost undefined"
    ∷ codes "2 ScriptExit"
    ∷ codes "jlint: normal steps=23 hooks=8"
    ∷ [])
    ≡ true
unfolding computing.run
exec_quotient_holds = refl

--     J$;
abbrev exec_name : Program (Unit {0})
exec_name =
    script false [] (expression (name (codes "J$")) ∷ [])

exec_name_holds : executes 1000 exec_name (codes "jlint: fault Misuse steps=2 hooks=0" ∷ []) ≡ true
unfolding computing.run
exec_name_holds = refl

--     J$.B(9, "/", 0, 0);
abbrev division : Program (Unit {0})
division =
    script false []
    (expression
    (call (dot (name (codes "J$")) (codes "B"))
    (number 9 ∷ string (codes "/") ∷ number 0 ∷ number 0 ∷ []))
    ∷ [])

division_holds : ends_with division (codes "jlint: normal steps=5 hooks=1" ∷ []) ≡ true
unfolding computing.run
division_holds = refl

--     var J$ = print(1);
abbrev variable_named_so : Program (Unit {0})
variable_named_so =
    script false [] (var (declarator (codes "J$") (Some (call (name (codes "print")) (number 1 ∷ []))) ∷ []) ∷ [])

variable_named_so_holds : ends_with variable_named_so (codes "jlint: fault Misuse steps=1 hooks=0" ∷ []) ≡ true
unfolding computing.run
variable_named_so_holds = refl

--     for (J$ in {}) { }
abbrev visits_nothing : Program (Unit {0})
visits_nothing =
    script false [] (for_in false (codes "J$") (object []) [] ∷ [])

visits_nothing_holds : ends_with visits_nothing (codes "jlint: normal steps=2 hooks=0" ∷ []) ≡ true
unfolding computing.run
visits_nothing_holds = refl

--     for (J$ in {a: 1}) { }
abbrev visits_a_name : Program (Unit {0})
visits_a_name =
    script false [] (for_in false (codes "J$") (object (value (codes "a") (number 1) ∷ [])) [] ∷ [])

visits_a_name_holds : ends_with visits_a_name (codes "jlint: fault Misuse steps=4 hooks=0" ∷ []) ≡ true
unfolding computing.run
visits_a_name_holds = refl

--     J$.Q(1);
abbrev no_such_hook : Program (Unit {0})
no_such_hook =
    script false [] (expression (call (dot (name (codes "J$")) (codes "Q")) (number 1 ∷ [])) ∷ [])

no_such_hook_holds : ends_with no_such_hook (codes "jlint: fault Misuse steps=3 hooks=0" ∷ []) ≡ true
unfolding computing.run
no_such_hook_holds = refl

--     J$.P(1, 2, 3);
abbrev put_alone : Program (Unit {0})
put_alone =
    script false []
    (expression (call (dot (name (codes "J$")) (codes "P")) (number 1 ∷ number 2 ∷ number 3 ∷ [])) ∷ [])

put_alone_holds : ends_with put_alone (codes "jlint: fault Misuse steps=2 hooks=0" ∷ []) ≡ true
unfolding computing.run
put_alone_holds = refl

--     J$.S(1)(2);
abbrev called_result : Program (Unit {0})
called_result =
    script false []
    (expression (call (call (dot (name (codes "J$")) (codes "S")) (number 1 ∷ [])) (number 2 ∷ [])) ∷ [])

called_result_holds : ends_with called_result (codes "jlint: thrown steps=5 hooks=1" ∷ []) ≡ true
unfolding computing.run
called_result_holds = refl

--     J$.E(1);
abbrev enter_outside : Program (Unit {0})
enter_outside =
    script false [] (expression (call (dot (name (codes "J$")) (codes "E")) (number 1 ∷ [])) ∷ [])

enter_outside_holds : ends_with enter_outside (codes "jlint: fault Misuse steps=3 hooks=0" ∷ []) ≡ true
unfolding computing.run
enter_outside_holds = refl

--     J$.P(1, {}, "k")();
abbrev put_of_nothing : Program (Unit {0})
put_of_nothing =
    script false []
    (expression
    (call
    (call (dot (name (codes "J$")) (codes "P")) (number 1 ∷ object [] ∷ string (codes "k") ∷ []))
    [])
    ∷ [])

put_of_nothing_holds : ends_with put_of_nothing (codes "jlint: fault Misuse steps=2 hooks=0" ∷ []) ≡ true
unfolding computing.run
put_of_nothing_holds = refl

--     J$.P(1)(2);
abbrev put_without_key : Program (Unit {0})
put_without_key =
    script false []
    (expression (call (call (dot (name (codes "J$")) (codes "P")) (number 1 ∷ [])) (number 2 ∷ [])) ∷ [])

put_without_key_holds : ends_with put_without_key (codes "jlint: fault Misuse steps=3 hooks=0" ∷ []) ≡ true
unfolding computing.run
put_without_key_holds = refl

--     J$.T(1, print);
abbrev literal_of_a_builtin : Program (Unit {0})
literal_of_a_builtin =
    script false []
    (expression (call (dot (name (codes "J$")) (codes "T")) (number 1 ∷ name (codes "print") ∷ [])) ∷ [])

literal_of_a_builtin_holds : ends_with literal_of_a_builtin
    (codes "jlint: fault Misuse steps=4 hooks=0" ∷ [])
    ≡ true
unfolding computing.run
literal_of_a_builtin_holds = refl

--     typeof J$;
abbrev typeof_the_name : Program (Unit {0})
typeof_the_name =
    script false [] (expression (unary un.Typeof (name (codes "J$"))) ∷ [])

typeof_the_name_holds : ends_with typeof_the_name (codes "jlint: fault Misuse steps=2 hooks=0" ∷ []) ≡ true
unfolding computing.run
typeof_the_name_holds = refl

--     new J$.S(1);
abbrev new_hook : Program (Unit {0})
new_hook =
    script false [] (expression (new (dot (name (codes "J$")) (codes "S")) (number 1 ∷ [])) ∷ [])

new_hook_holds : ends_with new_hook (codes "jlint: fault Misuse steps=4 hooks=0" ∷ []) ≡ true
unfolding computing.run
new_hook_holds = refl

--     J$["S"](1);
abbrev index_hook : Program (Unit {0})
index_hook =
    script false [] (expression (call (index (name (codes "J$")) (string (codes "S"))) (number 1 ∷ [])) ∷ [])

index_hook_holds : ends_with index_hook (codes "jlint: fault Misuse steps=3 hooks=0" ∷ []) ≡ true
unfolding computing.run
index_hook_holds = refl

--     J$.S(4294967294);
abbrev id_past_the_range : Program (Unit {0})
id_past_the_range =
    script false [] (expression (call (dot (name (codes "J$")) (codes "S")) (number 4294967294 ∷ [])) ∷ [])

id_past_the_range_holds : ends_with id_past_the_range (codes "jlint: fault Misuse steps=2 hooks=0" ∷ []) ≡ true
unfolding computing.run
id_past_the_range_holds = refl

--     J$.S(4294967293);
abbrev greatest_id : Program (Unit {0})
greatest_id =
    script false [] (expression (call (dot (name (codes "J$")) (codes "S")) (number 4294967293 ∷ [])) ∷ [])

greatest_id_holds : ends_with greatest_id (codes "jlint: normal steps=3 hooks=1" ∷ []) ≡ true
unfolding computing.run
greatest_id_holds = refl

--     J$.A(1, "<", {}, "k")(2);
abbrev assign_by_relation : Program (Unit {0})
assign_by_relation =
    script false []
    (expression
    (call
    (call (dot (name (codes "J$")) (codes "A"))
    (number 1 ∷ string (codes "<") ∷ object [] ∷ string (codes "k") ∷ []))
    (number 2 ∷ []))
    ∷ [])

assign_by_relation_holds : ends_with assign_by_relation (codes "jlint: fault Misuse steps=3 hooks=0" ∷ []) ≡ true
unfolding computing.run
assign_by_relation_holds = refl

--     function f() { var J$ = 1; } f(); function g(J$) { J$.S(1); } g();
abbrev inside_a_function : Program (Unit {0})
inside_a_function =
    script false
    (function_of 0 (Some (codes "f")) [] false [] (var (declarator (codes "J$") (Some (number 1)) ∷ []) ∷ [])
    ∷ function_of 1 (Some (codes "g")) (codes "J$" ∷ []) false []
    (expression (call (dot (name (codes "J$")) (codes "S")) (number 1 ∷ [])) ∷ [])
    ∷ [])
    (expression (call (name (codes "f")) []) ∷ expression (call (name (codes "g")) []) ∷ [])

inside_a_function_holds : ends_with inside_a_function (codes "jlint: fault Misuse steps=5 hooks=0" ∷ []) ≡ true
unfolding computing.run
inside_a_function_holds = refl

--     function g(J$) { return J$.S(1); } g(2);
abbrev parameter_named_so : Program (Unit {0})
parameter_named_so =
    script false
    (function_of 0 (Some (codes "g")) (codes "J$" ∷ []) false []
    (return (Some (call (dot (name (codes "J$")) (codes "S")) (number 1 ∷ []))) ∷ [])
    ∷ [])
    (expression (call (name (codes "g")) (number 2 ∷ [])) ∷ [])

parameter_named_so_holds : ends_with parameter_named_so (codes "jlint: normal steps=8 hooks=1" ∷ []) ≡ true
unfolding computing.run
parameter_named_so_holds = refl
