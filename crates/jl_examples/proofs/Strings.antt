-- String and the functions of its prototype (15.5).
use Rattle.std.specs.Prelude.{◌≡◌, refl, ◌∷◌, [], codes, true, false, Some, None}
use Rattle.jl_ast.specs.declared.ops.BinOp.TheVariants as binary
use Rattle.jl_ast.specs.Tree.{Program}
use Rattle.jl_examples.proofs.Computing as computing
use Rattle.jl_examples.proofs.Running.{runs}
use Rattle.jl_examples.proofs.Trees.{script, function_of, name, number, string, boolean, null, object, value}
use Rattle.jl_examples.proofs.Trees.{function_expression, dot, call, update, operator, assign, to_name, declarator}
use Rattle.jl_examples.proofs.Trees.{var, expression, init_var, for, return, throw}

--     String.prototype.charAt.call({ toString: function () { print("s"); return "xy"; } }, { valueOf: function () {
--       print("p"); throw 1; } });
abbrev char_at : Program (Unit {0})
char_at =
    script false []
    (expression
    (call
    (dot (dot (dot (name (codes "String")) (codes "prototype")) (codes "charAt")) (codes "call"))
    (object
    (value (codes "toString")
    (function_expression
    (function_of 0 None [] false []
    (expression (call (name (codes "print")) (string (codes "s") ∷ []))
    ∷ return (Some (string (codes "xy")))
    ∷ [])))
    ∷ [])
    ∷ object
    (value (codes "valueOf")
    (function_expression
    (function_of 1 None [] false []
    (expression (call (name (codes "print")) (string (codes "p") ∷ []))
    ∷ throw (number 1)
    ∷ [])))
    ∷ [])
    ∷ []))
    ∷ [])

char_at_holds : runs char_at
    (codes "s" ∷ codes "p" ∷ codes "uncaught 1" ∷ codes "jlint: thrown steps=29" ∷ [])
    ≡ true
unfolding computing.run
char_at_holds = refl

--     String.prototype.trim.call(null);
abbrev trim : Program (Unit {0})
trim =
    script false []
    (expression
    (call
    (dot (dot (dot (name (codes "String")) (codes "prototype")) (codes "trim")) (codes "call"))
    (null ∷ []))
    ∷ [])

trim_holds : runs trim
    (codes "uncaught TypeError: no property of null" ∷ codes "jlint: thrown steps=8" ∷ [])
    ≡ true
unfolding computing.run
trim_holds = refl

--     "".split();
abbrev split : Program (Unit {0})
split =
    script false [] (expression (call (dot (string []) (codes "split")) []) ∷ [])

split_holds : runs split (codes "jlint: normal steps=5" ∷ []) ≡ true
unfolding computing.run
split_holds = refl

--     "".split("");
abbrev split_2 : Program (Unit {0})
split_2 =
    script false [] (expression (call (dot (string []) (codes "split")) (string [] ∷ [])) ∷ [])

split_2_holds : runs split_2 (codes "jlint: normal steps=5" ∷ []) ≡ true
unfolding computing.run
split_2_holds = refl

--     "\u00c4".toLowerCase();
abbrev to_lower_case : Program (Unit {0})
to_lower_case =
    script false [] (expression (call (dot (string (196 ∷ [])) (codes "toLowerCase")) []) ∷ [])

to_lower_case_holds : runs to_lower_case
    (codes "jlint: fault Unsupported String.prototype.toLowerCase steps=4" ∷ [])
    ≡ true
unfolding computing.run
to_lower_case_holds = refl

--     "\u00e4".toUpperCase();
abbrev to_upper_case : Program (Unit {0})
to_upper_case =
    script false [] (expression (call (dot (string (228 ∷ [])) (codes "toUpperCase")) []) ∷ [])

to_upper_case_holds : runs to_upper_case
    (codes "jlint: fault Unsupported String.prototype.toUpperCase steps=4" ∷ [])
    ≡ true
unfolding computing.run
to_upper_case_holds = refl

--     String.prototype.charAt.call(null, 1);
abbrev string_calls : Program (Unit {0})
string_calls =
    script false []
    (expression
    (call
    (dot (dot (dot (name (codes "String")) (codes "prototype")) (codes "charAt")) (codes "call"))
    (null ∷ number 1 ∷ []))
    ∷ [])

string_calls_holds : runs string_calls
    (codes "uncaught TypeError: no property of null" ∷ codes "jlint: thrown steps=9" ∷ [])
    ≡ true
unfolding computing.run
string_calls_holds = refl

--     String.prototype.substring.call(null);
abbrev substring : Program (Unit {0})
substring =
    script false []
    (expression
    (call
    (dot (dot (dot (name (codes "String")) (codes "prototype")) (codes "substring")) (codes "call"))
    (null ∷ []))
    ∷ [])

substring_holds : runs substring
    (codes "uncaught TypeError: no property of null" ∷ codes "jlint: thrown steps=8" ∷ [])
    ≡ true
unfolding computing.run
substring_holds = refl

--     String.prototype.lastIndexOf.call(null);
abbrev last_index_of : Program (Unit {0})
last_index_of =
    script false []
    (expression
    (call
    (dot
    (dot (dot (name (codes "String")) (codes "prototype")) (codes "lastIndexOf"))
    (codes "call"))
    (null ∷ []))
    ∷ [])

last_index_of_holds : runs last_index_of
    (codes "uncaught TypeError: no property of null" ∷ codes "jlint: thrown steps=8" ∷ [])
    ≡ true
unfolding computing.run
last_index_of_holds = refl

--     String.prototype.toLowerCase.call(null);
abbrev call_calls : Program (Unit {0})
call_calls =
    script false []
    (expression
    (call
    (dot
    (dot (dot (name (codes "String")) (codes "prototype")) (codes "toLowerCase"))
    (codes "call"))
    (null ∷ []))
    ∷ [])

call_calls_holds : runs call_calls
    (codes "uncaught TypeError: no property of null" ∷ codes "jlint: thrown steps=8" ∷ [])
    ≡ true
unfolding computing.run
call_calls_holds = refl

--     String.prototype.slice.call(undefined, 1);
abbrev slice : Program (Unit {0})
slice =
    script false []
    (expression
    (call
    (dot (dot (dot (name (codes "String")) (codes "prototype")) (codes "slice")) (codes "call"))
    (name (codes "undefined") ∷ number 1 ∷ []))
    ∷ [])

slice_holds : runs slice
    (codes "uncaught TypeError: no property of undefined" ∷ codes "jlint: thrown steps=9" ∷ [])
    ≡ true
unfolding computing.run
slice_holds = refl

--     String.prototype.charCodeAt.call(undefined);
abbrev char_code_at : Program (Unit {0})
char_code_at =
    script false []
    (expression
    (call
    (dot (dot (dot (name (codes "String")) (codes "prototype")) (codes "charCodeAt")) (codes "call"))
    (name (codes "undefined") ∷ []))
    ∷ [])

char_code_at_holds : runs char_code_at
    (codes "uncaught TypeError: no property of undefined" ∷ codes "jlint: thrown steps=8" ∷ [])
    ≡ true
unfolding computing.run
char_code_at_holds = refl

--     String.prototype.toUpperCase.call(undefined);
abbrev to_upper_case_2 : Program (Unit {0})
to_upper_case_2 =
    script false []
    (expression
    (call
    (dot
    (dot (dot (name (codes "String")) (codes "prototype")) (codes "toUpperCase"))
    (codes "call"))
    (name (codes "undefined") ∷ []))
    ∷ [])

to_upper_case_2_holds : runs to_upper_case_2
    (codes "uncaught TypeError: no property of undefined" ∷ codes "jlint: thrown steps=8" ∷ [])
    ≡ true
unfolding computing.run
to_upper_case_2_holds = refl

--     print(String.fromCharCode(228, 8364, 55357, 56832, 55357));
abbrev from_char_code : Program (Unit {0})
from_char_code =
    script false []
    (expression
    (call (name (codes "print"))
    (call
    (dot (name (codes "String")) (codes "fromCharCode"))
    (number 228 ∷ number 8364 ∷ number 55357 ∷ number 56832 ∷ number 55357 ∷ [])
    ∷ []))
    ∷ [])

from_char_code_holds : runs from_char_code
    ((195 ∷ 164 ∷ 226 ∷ 130 ∷ 172 ∷ 240 ∷ 159 ∷ 152 ∷ 128 ∷ 239 ∷ 191 ∷ 189 ∷ [])
    ∷ codes "jlint: normal steps=18"
    ∷ [])
    ≡ true
unfolding computing.run
from_char_code_holds = refl

--     var s = "ab"; for (var i = 0; i < 4; i++) s = s.concat(s); print(s, s.length);
abbrev concat : Program (Unit {0})
concat =
    script false []
    (var (declarator (codes "s") (Some (string (codes "ab"))) ∷ [])
    ∷ for
    (init_var (declarator (codes "i") (Some (number 0)) ∷ []))
    (Some (operator binary.Less (name (codes "i")) (number 4)))
    (Some (update true false (to_name (codes "i"))))
    (expression
    (assign (to_name (codes "s"))
    (call (dot (name (codes "s")) (codes "concat")) (name (codes "s") ∷ [])))
    ∷ [])
    ∷ expression
    (call (name (codes "print")) (name (codes "s") ∷ dot (name (codes "s")) (codes "length") ∷ []))
    ∷ [])

concat_holds : runs concat
    (codes "abababababababababababababababab 32" ∷ codes "jlint: normal steps=65" ∷ [])
    ≡ true
unfolding computing.run
concat_holds = refl

--     String.prototype.indexOf.call(undefined, { toString: function () { print("no"); } });
abbrev index_of : Program (Unit {0})
index_of =
    script false []
    (expression
    (call
    (dot (dot (dot (name (codes "String")) (codes "prototype")) (codes "indexOf")) (codes "call"))
    (name (codes "undefined")
    ∷ object
    (value (codes "toString")
    (function_expression
    (function_of 0 None [] false []
    (expression (call (name (codes "print")) (string (codes "no") ∷ []))
    ∷ [])))
    ∷ [])
    ∷ []))
    ∷ [])

index_of_holds : runs index_of
    (codes "uncaught TypeError: no property of undefined" ∷ codes "jlint: thrown steps=10" ∷ [])
    ≡ true
unfolding computing.run
index_of_holds = refl

--     print(String.prototype.charCodeAt.call(7, 0), String.prototype.charCodeAt.length, "ab".charCodeAt(true));
abbrev char_code_at_2 : Program (Unit {0})
char_code_at_2 =
    script false []
    (expression
    (call (name (codes "print"))
    (call
    (dot
    (dot (dot (name (codes "String")) (codes "prototype")) (codes "charCodeAt"))
    (codes "call"))
    (number 7 ∷ number 0 ∷ [])
    ∷ dot
    (dot (dot (name (codes "String")) (codes "prototype")) (codes "charCodeAt"))
    (codes "length")
    ∷ call (dot (string (codes "ab")) (codes "charCodeAt")) (boolean true ∷ [])
    ∷ []))
    ∷ [])

char_code_at_2_holds : runs char_code_at_2 (codes "55 1 98" ∷ codes "jlint: normal steps=23" ∷ []) ≡ true
unfolding computing.run
char_code_at_2_holds = refl

--     String.fromCharCode(1, { valueOf: function () { throw "x"; } }, { valueOf: function () { print("no"); } });
abbrev from_char_code_2 : Program (Unit {0})
from_char_code_2 =
    script false []
    (expression
    (call
    (dot (name (codes "String")) (codes "fromCharCode"))
    (number 1
    ∷ object
    (value (codes "valueOf")
    (function_expression
    (function_of 0 None [] false [] (throw (string (codes "x")) ∷ [])))
    ∷ [])
    ∷ object
    (value (codes "valueOf")
    (function_expression
    (function_of 1 None [] false []
    (expression (call (name (codes "print")) (string (codes "no") ∷ []))
    ∷ [])))
    ∷ [])
    ∷ []))
    ∷ [])

from_char_code_2_holds : runs from_char_code_2 (codes "uncaught 'x'" ∷ codes "jlint: thrown steps=14" ∷ []) ≡ true
unfolding computing.run
from_char_code_2_holds = refl

--     print(String.prototype.trim.call(5) + 1, String.prototype.trim.call({ toString: function () { print("s");
--       return " q "; } }) + "|");
abbrev to_string : Program (Unit {0})
to_string =
    script false []
    (expression
    (call (name (codes "print"))
    (operator binary.Add
    (call
    (dot
    (dot (dot (name (codes "String")) (codes "prototype")) (codes "trim"))
    (codes "call"))
    (number 5 ∷ []))
    (number 1)
    ∷ operator binary.Add
    (call
    (dot
    (dot (dot (name (codes "String")) (codes "prototype")) (codes "trim"))
    (codes "call"))
    (object
    (value (codes "toString")
    (function_expression
    (function_of 0 None [] false []
    (expression
    (call (name (codes "print"))
    (string (codes "s") ∷ []))
    ∷ return (Some (string (codes " q ")))
    ∷ [])))
    ∷ [])
    ∷ []))
    (string (codes "|"))
    ∷ []))
    ∷ [])

to_string_holds : runs to_string (codes "s" ∷ codes "51 q|" ∷ codes "jlint: normal steps=34" ∷ []) ≡ true
unfolding computing.run
to_string_holds = refl

--     print(String.prototype.substring.call(12345, 1, 3), "abc".substring(9, 1), "abc".substring(1, null),
--       String.prototype.substring.length, "abc".substring("2", "1"));
abbrev substring_2 : Program (Unit {0})
substring_2 =
    script false []
    (expression
    (call (name (codes "print"))
    (call
    (dot
    (dot (dot (name (codes "String")) (codes "prototype")) (codes "substring"))
    (codes "call"))
    (number 12345 ∷ number 1 ∷ number 3 ∷ [])
    ∷ call (dot (string (codes "abc")) (codes "substring")) (number 9 ∷ number 1 ∷ [])
    ∷ call (dot (string (codes "abc")) (codes "substring")) (number 1 ∷ null ∷ [])
    ∷ dot
    (dot (dot (name (codes "String")) (codes "prototype")) (codes "substring"))
    (codes "length")
    ∷ call
    (dot (string (codes "abc")) (codes "substring"))
    (string (codes "2") ∷ string (codes "1") ∷ [])
    ∷ []))
    ∷ [])

substring_2_holds : runs substring_2 (codes "23 bc a 2 b" ∷ codes "jlint: normal steps=37" ∷ []) ≡ true
unfolding computing.run
substring_2_holds = refl
