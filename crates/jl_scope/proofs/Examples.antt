-- Small programs and what is wrong with them, by computing the definitions. The source of each stands before its tree.
use Rattle.std.specs.Prelude.{◌≡◌, ℕ, Bool, true, false, [], ◌∷◌, None, Some, codes, refl, pos}
use Rattle.jl_text.specs.declared.span.Span.{Span}
use Rattle.jl_ast.specs.declared.ops.UnOp.TheVariants.{Delete}
use Rattle.jl_ast.specs.Tree.{Ident, Program, Forest, func, stmt, forest, end, absent, present, function, body}
use Rattle.jl_ast.specs.Tree.{name, number, object, function_expression, unary, assign, to_name, value, getter, var}
use Rattle.jl_ast.specs.Tree.{empty, expression, block, while, continue, break, return, labelled, try, declarator}
use Rattle.jl_ast.specs.Tree.{branch_of, catch}
use Rattle.jl_scope.specs.declared.rules.EarlyRule.TheVariants as rules
use Rattle.jl_scope.specs.EarlyError.{early, left_out, reserved_name, first_early_error}
use Rattle.jl_scope.specs.Names.{left_out_names, strict_words, strict_names, hooks_name}
use Rattle.jl_scope.specs.Scope.{is_left_out}
use Rattle.jl_scope.specs.EarlyErrors.{identifier_early_errors, written_early_errors, free_early_errors}
use Rattle.jl_scope.specs.EarlyErrors.{read_early_errors}
use Rattle.jl_scope.specs.EarlyErrors.{target_early_errors, label_early_errors, break_early_errors}
use Rattle.jl_scope.specs.EarlyErrors.{continue_early_errors}
use Rattle.jl_scope.specs.EarlyErrors.{return_early_errors, delete_early_errors}

abbrev at : ℕ → ℕ → Span
at a b = record { from = a; to = b }

abbrev x_L : ℕ → ℕ → Ident Span
x_L a b = record { text = codes "L"; at = at a b }

abbrev x_a : ℕ → ℕ → Ident Span
x_a a b = record { text = codes "a"; at = at a b }

abbrev x_f : ℕ → ℕ → Ident Span
x_f a b = record { text = codes "f"; at = at a b }

abbrev x_eval : ℕ → ℕ → Ident Span
x_eval a b = record { text = codes "eval"; at = at a b }

abbrev x_yield : ℕ → ℕ → Ident Span
x_yield a b = record { text = codes "yield"; at = at a b }

abbrev x_Date : ℕ → ℕ → Ident Span
x_Date a b = record { text = codes "Date"; at = at a b }

abbrev x_hooks : ℕ → ℕ → Ident Span
x_hooks a b = record { text = codes "J$"; at = at a b }

abbrev program : Bool → Forest Span func → Forest Span stmt → Program Span
program strict fs l = record { body = body strict fs l; at = at 0 100 }

-- return;
abbrev return_outside : Program Span
return_outside =
    program false end (forest (return absent (at 0 7) ∷ []))

-- L: { break; }
abbrev break_outside : Program Span
break_outside =
    program false end (forest (labelled (x_L 0 1) (block (forest (break None (at 5 11) ∷ [])) (at 3 13)) (at 0 13) ∷
    []))

-- L: { break L; }
abbrev break_to_block : Program Span
break_to_block =
    program false end (forest (labelled (x_L 0 1) (block (forest (break (Some (x_L 11 12)) (at 5 13) ∷ [])) (at 3 15))
    (at 0 15) ∷ []))

-- L: { while (1) { continue L; } }
abbrev continue_to_block : Program Span
continue_to_block =
    program false end (forest
    (labelled (x_L 0 1) (block (forest (while (number (Some (pos 1)) (at 12 13)) (forest (continue
    (Some (x_L 26 27)) (at 17 28) ∷ [])) (at 5 30) ∷ [])) (at 3 32)) (at 0 32) ∷ []))

-- L: while (1) { continue L; }
abbrev continue_to_loop : Program Span
continue_to_loop =
    program false end (forest
    (labelled (x_L 0 1) (while (number (Some (pos 1)) (at 10 11)) (forest (continue (Some (x_L 24
    25)) (at 15 26) ∷ [])) (at 3 28)) (at 0 28) ∷ []))

-- L: L: ;
abbrev label_twice : Program Span
label_twice =
    program false end (forest (labelled (x_L 0 1) (labelled (x_L 3 4) (empty (at 6 7)) (at 3 7)) (at 0 7) ∷ []))

-- L: (function () { L: ; });
abbrev label_in_function : Program Span
label_in_function =
    program false end (forest (labelled (x_L 0 1) (expression (function_expression (function 0 None [] (body false
    end (forest (labelled (x_L 18 19) (empty (at 21 22)) (at 18 22) ∷ []))) (at 4 24)) (at 4 24)) (at 3 26)) (at 0
    26) ∷ []))

-- ({ a: 1, get a() { } });
abbrev key_clash : Program Span
key_clash =
    program false end (forest
    (expression (object (forest (value (x_a 3 4) (number (Some (pos 1)) (at 6 7)) ∷ getter (x_a
    13 14) (function 0 None [] (body false end end) (at 9 20)) ∷ [])) (at 1 22)) (at 0 24) ∷ []))

-- "use strict"; eval = 1;
abbrev strict_name : Program Span
strict_name =
    program true end (forest (expression (assign None (to_name (x_eval 14 18)) (number (Some (pos 1)) (at 21 22)) (at 14
    22)) (at 14 23) ∷ []))

-- "use strict"; yield: ;
abbrev strict_word : Program Span
strict_word =
    program true end (forest (labelled (x_yield 14 19) (empty (at 21 22)) (at 14 22) ∷ []))

-- function f(a, a) { "use strict"; }
abbrev strict_param : Program Span
strict_param =
    program false (forest (function 0 (Some (x_f 9 10)) (x_a 11 12 ∷ x_a 14 15 ∷ []) (body true end end) (at 0 34)
    ∷ [])) end

-- function f(a, a) { }
abbrev loose_param : Program Span
loose_param =
    program false (forest (function 0 (Some (x_f 9 10)) (x_a 11 12 ∷ x_a 14 15 ∷ []) (body false end end) (at 0 20)
    ∷ [])) end

-- "use strict"; ({ a: 1, a: 2 });
abbrev strict_key : Program Span
strict_key =
    program true end (forest
    (expression (object (forest (value (x_a 17 18) (number (Some (pos 1)) (at 20 21)) ∷ value (x_a
    23 24) (number (Some (pos 2)) (at 26 27)) ∷ [])) (at 15 29)) (at 14 31) ∷ []))

-- "use strict"; delete a;
abbrev strict_delete : Program Span
strict_delete =
    program true end (forest (expression (unary Delete (name (codes "a") (at 21 22)) (at 14 22)) (at 14 23) ∷ []))

-- try { } catch (Date) { Date; } finally { Date; }
abbrev left_out_free : Program Span
left_out_free =
    program false end (forest (try end (present (catch (x_Date 15 19) (forest (expression (name (codes "Date") (at 23
    27)) (at 23 28) ∷ [])))) (present (branch_of (forest (expression (name (codes "Date") (at 41 45)) (at 41 46) ∷
    [])))) (at 0 48) ∷ []))

-- Date; var Date;
abbrev left_out_bound : Program Span
left_out_bound =
    program false end (forest (expression (name (codes "Date") (at 0 4)) (at 0 5) ∷ var (forest (declarator (x_Date 10
    14) absent ∷ [])) (at 6 15) ∷ []))

-- Date; return;
abbrev early_first : Program Span
early_first =
    program false end (forest (expression (name (codes "Date") (at 0 4)) (at 0 5) ∷ return absent (at 6 13) ∷ []))

-- J$; Date;
abbrev left_out_before_hooks : Program Span
left_out_before_hooks =
    program false end (forest (expression (name (codes "J$") (at 0 2)) (at 0 3) ∷ expression (name (codes "Date")
    (at 4 8)) (at 4 9) ∷ []))

-- J$: ;
abbrev hooks_label : Program Span
hooks_label =
    program false end (forest (labelled (x_hooks 0 2) (empty (at 4 5)) (at 0 5) ∷ []))

pub examples :
    (first_early_error return_outside ≡ Some (early rules.ReturnOutside (at 0 7)))
    × (first_early_error break_outside ≡ Some (early rules.BreakOutside (at 5 11)))
    × (first_early_error break_to_block ≡ None)
    × (first_early_error continue_to_block ≡ Some (early rules.ContinueOutside (at 17 28)))
    × (first_early_error continue_to_loop ≡ None)
    × (first_early_error label_twice ≡ Some (early rules.LabelTwice (at 3 4)))
    × (first_early_error label_in_function ≡ None)
    × (first_early_error key_clash ≡ Some (early rules.KeyClash (at 13 14)))
    × (first_early_error strict_name ≡ Some (early rules.StrictName (at 14 18)))
    × (first_early_error strict_word ≡ Some (early rules.StrictWord (at 14 19)))
    × (first_early_error strict_param ≡ Some (early rules.StrictParam (at 14 15)))
    × (first_early_error loose_param ≡ None)
    × (first_early_error strict_key ≡ Some (early rules.StrictKey (at 23 24)))
    × (first_early_error strict_delete ≡ Some (early rules.StrictDelete (at 14 22)))
    × (first_early_error left_out_free ≡ Some (left_out (codes "Date") (at 41 45)))
    × (first_early_error left_out_bound ≡ None)
    × (first_early_error early_first ≡ Some (early rules.ReturnOutside (at 6 13)))
    × (first_early_error left_out_before_hooks ≡ Some (left_out (codes "Date") (at 4 8)))
    × (first_early_error hooks_label ≡ Some (reserved_name (at 0 2)))
unfolding left_out_names strict_words strict_names hooks_name is_left_out identifier_early_errors written_early_errors
    free_early_errors read_early_errors target_early_errors label_early_errors break_early_errors continue_early_errors
    return_early_errors
    delete_early_errors
examples = (
  refl,
  refl,
  refl,
  refl,
  refl,
  refl,
  refl,
  refl,
  refl,
  refl,
  refl,
  refl,
  refl,
  refl,
  refl,
  refl,
  refl,
  refl,
  refl,
)
