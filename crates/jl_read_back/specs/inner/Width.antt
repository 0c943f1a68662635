-- How many bytes of UTF-8 the tokens of a tree take at most, with one more after each: a numeral has sixteen digits, an
-- operator has brackets round it, and what stands in a list has a separator. `heavy` is what a number that is no unit
-- counts more (`specs/inner/Bytes`).
use Rattle.std.specs.Prelude.{ℕ, ◌+◌, ◌*◌, Bool, true, false, List, [], ◌∷◌, Option, Some, None}
use Rattle.jl_ast.specs.Tree.{Ident, Sort, Text, Tree, Forest, OptionalTree, this, name, number, string, boolean, null}
use Rattle.jl_ast.specs.Tree.{array}
use Rattle.jl_ast.specs.Tree.{object, function_expression, dot, index, call, new, unary, update, binary, and, or}
use Rattle.jl_ast.specs.Tree.{conditional, assign, comma, to_name, to_dot, to_index, hole, filled, value, getter}
use Rattle.jl_ast.specs.Tree.{setter, function, body, var, empty, expression, block, if_else, do_while, while, for}
use Rattle.jl_ast.specs.Tree.{for_in, continue, break, return, labelled, switch, throw, try, debugger, nothing}
use Rattle.jl_ast.specs.Tree.{init_expression, init_var, declarator, case, branch_of, catch, end, more, absent}
use Rattle.jl_ast.specs.Tree.{present, expr, item, entry, decl}
use Rattle.jl_text.specs.Quoted.{quote}
use Rattle.jl_read_back.specs.inner.Bytes.{most_bytes, text_weight}

-- `"use strict" ; `
abbrev pub directive_width : Bool → ℕ
directive_width true = 15
directive_width false = 0

-- what stands between two of a sort: a comma or nothing
abbrev pub separator : Sort → ℕ
separator expr = 2
separator item = 2
separator entry = 2
separator decl = 2
separator _ = 0

module _ (heavy : ℕ) where
  -- a string between quotes
  unfoldable pub string_width : Text → ℕ
  string_width t = most_bytes heavy (quote t) + 1

  abbrev pub optional_name_width : {S : Type 0} → Option (Ident S) → ℕ
  optional_name_width None = 0
  optional_name_width (Some x) = most_bytes heavy x.text + 1

  -- each with a comma
  abbrev pub names_width : {S : Type 0} → List (Ident S) → ℕ
  names_width [] = 0
  names_width (x ∷ xs) = most_bytes heavy x.text + 3 + names_width xs

  abbrev mutual
    pub width : {S : Type 0} {x : Sort} → Tree S x → ℕ
    width (this s) = 5
    width (name a s) = most_bytes heavy a + 1
    width (number a s) = 17
    width (string a s) = string_width a
    width (boolean a s) = 6
    width (null s) = 5
    width (array a s) = widths a + 4
    width (object a s) = widths a + 4
    width (function_expression a s) = width a
    width (dot a b s) = width a + most_bytes heavy b + 3
    width (index a b s) = width a + width b + 4
    width (call a b s) = width a + widths b + 4
    width (new a b s) = width a + widths b + 12
    width (unary a b s) = width b + 11
    width (update up prefix a s) = width a + 7
    width (binary a b c s) = width b + width c + 19
    width (and a b s) = width a + width b + 7
    width (or a b s) = width a + width b + 7
    width (conditional a b c s) = width a + width b + width c + 8
    width (assign a b c s) = width b + width c + 9
    width (comma a b s) = width a + width b + 6
    width (to_name a) = most_bytes heavy a.text + 1
    width (to_dot a b s) = width a + most_bytes heavy b + 3
    width (to_index a b s) = width a + width b + 4
    width hole = 2
    width (filled a) = width a
    width (value a b) = 6 * text_weight heavy a.text + width b + 5
    width (getter a b) = 6 * text_weight heavy a.text + width b + 7
    width (setter a b) = 6 * text_weight heavy a.text + width b + 7
    width (function m a params b s) = optional_name_width a + names_width params + width b + 17
    width (body strict a b) = directive_width strict + widths a + widths b
    width (var a s) = widths a + 6
    width (empty s) = 2
    width (expression a s) = width a + 6
    width (block a s) = widths a + 4
    width (if_else a b c s) = width a + widths b + optional_width c + 16
    width (do_while a b s) = widths a + width b + 19
    width (while a b s) = width a + widths b + 14
    width (for a b c d s) = width a + optional_width b + optional_width c + widths d + 16
    width (for_in is_var a b c s) = most_bytes heavy a.text + width b + widths c + 20
    width (continue a s) = optional_name_width a + 11
    width (break a s) = optional_name_width a + 8
    width (return a s) = optional_width a + 9
    width (labelled a b s) = most_bytes heavy a.text + width b + 3
    width (switch a b s) = width a + widths b + 15
    width (throw a s) = width a + 8
    width (try a b c s) = widths a + optional_width b + optional_width c + 16
    width (debugger s) = 11
    width nothing = 0
    width (init_expression a) = width a
    width (init_var a) = widths a + 4
    width (declarator a b) = most_bytes heavy a.text + optional_width b + 3
    width (case a b) = optional_width a + widths b + 10
    width (branch_of a) = widths a + 4
    width (catch a b) = most_bytes heavy a.text + widths b + 15

    pub widths : {S : Type 0} {x : Sort} → Forest S x → ℕ
    widths end = 0
    widths {x} (more a b) = width a + separator x + widths b

    pub optional_width : {S : Type 0} {x : Sort} → OptionalTree S x → ℕ
    optional_width absent = 0
    optional_width (present a) = width a
