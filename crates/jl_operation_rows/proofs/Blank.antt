-- Programs that are given ids, or other places, are the same but for their places.
use Rattle.std.proofs.Common.{◌≡◌, ℕ, ◌+◌, List, [], ◌∷◌, map, option_map, refl, sym, ap, ap₂, ◌∙◌, Option, Some, None}
use Rattle.jl_ast.specs.Spans.{ident, map_forest, map_optional, map_spans, map_tree, without_spans}
use Rattle.jl_ast.specs.Tree.{absent, and, array, assign, binary, block, body, boolean, branch_of, break, call, case}
use Rattle.jl_ast.specs.Tree.{catch, comma, conditional, continue, debugger, declarator, do_while, dot, empty, end}
use Rattle.jl_ast.specs.Tree.{expr, expression, filled, for, for_in, function, function_expression, getter, handler}
use Rattle.jl_ast.specs.Tree.{hole, if_else, index, init_expression, init_var, labelled, more, name, new, nothing}
use Rattle.jl_ast.specs.Tree.{null, number, object, or, present, return, setter, string, switch, this, throw, to_dot}
use Rattle.jl_ast.specs.Tree.{to_index, to_name, try, unary, update, value, var, while, Forest, Ident, OptionalTree}
use Rattle.jl_ast.specs.Tree.{Program, Sort, Tree}
use Rattle.jl_ast.specs.declared.ops.UnOp.TheVariants as un
use Rattle.jl_ast.proofs.Congruences.{ap₃, ap₄}
use Rattle.jl_op.specs.Ids.{callee_with_ids, forest_with_ids, handler_with_ids, ident_with_id, optional_with_ids}
use Rattle.jl_op.specs.Ids.{program_with_ids, with_ids}

-- with the same place for each
module _ {P : Type 0} (at : P) where
  abbrev blank : {S : Type 0} {x : Sort} → Tree S x → Tree P x
  blank t = map_tree (λ s. at) t

  abbrev blank_forest : {S : Type 0} {x : Sort} → Forest S x → Forest P x
  blank_forest l = map_forest (λ s. at) l

  abbrev blank_optional : {S : Type 0} {x : Sort} → OptionalTree S x → OptionalTree P x
  blank_optional o = map_optional (λ s. at) o

  abbrev blank_name : {S : Type 0} → Ident S → Ident P
  blank_name x = ident (λ s. at) x

  -- places may be renamed before
  module _ {S T : Type 0} (f : S → T) where
    blank_map_name : (x : Option (Ident S)) → option_map blank_name (option_map (ident f) x) ≡ option_map blank_name x
    blank_map_name None = refl
    blank_map_name (Some x) = refl

    blank_map_names : (l : List (Ident S)) → map blank_name (map (ident f) l) ≡ map blank_name l
    blank_map_names [] = refl
    blank_map_names (x ∷ l) = ap (λ names. blank_name x ∷ names) (blank_map_names l)

    mutual
      pub blank_map : {x : Sort} (t : Tree S x) → blank (map_tree f t) ≡ blank t
      blank_map (this s) = refl
      blank_map (name a s) = refl
      blank_map (number a s) = refl
      blank_map (string a s) = refl
      blank_map (boolean a s) = refl
      blank_map (null s) = refl
      blank_map (array a s) = ap (λ p. array p at) (blank_map_forest a)
      blank_map (object a s) = ap (λ p. object p at) (blank_map_forest a)
      blank_map (function_expression a s) = ap (λ p. function_expression p at) (blank_map a)
      blank_map (dot a b s) = ap (λ p. dot p b at) (blank_map a)
      blank_map (index a b s) = ap₂ (λ p q. index p q at) (blank_map a) (blank_map b)
      blank_map (call a b s) = ap₂ (λ p q. call p q at) (blank_map a) (blank_map_forest b)
      blank_map (new a b s) = ap₂ (λ p q. new p q at) (blank_map a) (blank_map_forest b)
      blank_map (unary a b s) = ap (λ p. unary a p at) (blank_map b)
      blank_map (update up prefix a s) = ap (λ p. update up prefix p at) (blank_map a)
      blank_map (binary a b c s) = ap₂ (λ p q. binary a p q at) (blank_map b) (blank_map c)
      blank_map (and a b s) = ap₂ (λ p q. and p q at) (blank_map a) (blank_map b)
      blank_map (or a b s) = ap₂ (λ p q. or p q at) (blank_map a) (blank_map b)
      blank_map (conditional a b c s) = ap₃ (λ p q r. conditional p q r at) (blank_map a) (blank_map b) (blank_map c)
      blank_map (assign a b c s) = ap₂ (λ p q. assign a p q at) (blank_map b) (blank_map c)
      blank_map (comma a b s) = ap₂ (λ p q. comma p q at) (blank_map a) (blank_map b)
      blank_map (to_name a) = refl
      blank_map (to_dot a b s) = ap (λ p. to_dot p b at) (blank_map a)
      blank_map (to_index a b s) = ap₂ (λ p q. to_index p q at) (blank_map a) (blank_map b)
      blank_map hole = refl
      blank_map (filled a) = ap (λ p. filled p) (blank_map a)
      blank_map (value a b) = ap (λ p. value (blank_name a) p) (blank_map b)
      blank_map (getter a b) = ap (λ p. getter (blank_name a) p) (blank_map b)
      blank_map (setter a b) = ap (λ p. setter (blank_name a) p) (blank_map b)
      blank_map (function m a params b s) =
          ap₃ (λ p q r. function m p q r at) (blank_map_name a) (blank_map_names params) (blank_map b)
      blank_map (body strict a b) = ap₂ (λ p q. body strict p q) (blank_map_forest a) (blank_map_forest b)
      blank_map (var a s) = ap (λ p. var p at) (blank_map_forest a)
      blank_map (empty s) = refl
      blank_map (expression a s) = ap (λ p. expression p at) (blank_map a)
      blank_map (block a s) = ap (λ p. block p at) (blank_map_forest a)
      blank_map (if_else a b c s) =
          ap₃ (λ p q r. if_else p q r at) (blank_map a) (blank_map_forest b) (blank_map_optional c)
      blank_map (do_while a b s) = ap₂ (λ p q. do_while p q at) (blank_map_forest a) (blank_map b)
      blank_map (while a b s) = ap₂ (λ p q. while p q at) (blank_map a) (blank_map_forest b)
      blank_map (for a b c d s) =
          ap₄ (λ p q r u. for p q r u at) (blank_map a) (blank_map_optional b) (blank_map_optional c)
          (blank_map_forest d)
      blank_map (for_in is_var a b c s) =
          ap₂ (λ p q. for_in is_var (blank_name a) p q at) (blank_map b) (blank_map_forest c)
      blank_map (continue a s) = ap (λ p. continue p at) (blank_map_name a)
      blank_map (break a s) = ap (λ p. break p at) (blank_map_name a)
      blank_map (return a s) = ap (λ p. return p at) (blank_map_optional a)
      blank_map (labelled a b s) = ap (λ p. labelled (blank_name a) p at) (blank_map b)
      blank_map (switch a b s) = ap₂ (λ p q. switch p q at) (blank_map a) (blank_map_forest b)
      blank_map (throw a s) = ap (λ p. throw p at) (blank_map a)
      blank_map (try a b c s) =
          ap₃ (λ p q r. try p q r at) (blank_map_forest a) (blank_map_optional b) (blank_map_optional c)
      blank_map (debugger s) = refl
      blank_map nothing = refl
      blank_map (init_expression a) = ap (λ p. init_expression p) (blank_map a)
      blank_map (init_var a) = ap (λ p. init_var p) (blank_map_forest a)
      blank_map (declarator a b) = ap (λ p. declarator (blank_name a) p) (blank_map_optional b)
      blank_map (case a b) = ap₂ (λ p q. case p q) (blank_map_optional a) (blank_map_forest b)
      blank_map (branch_of a) = ap (λ p. branch_of p) (blank_map_forest a)
      blank_map (catch a b) = ap (λ p. catch (blank_name a) p) (blank_map_forest b)

      pub blank_map_forest : {x : Sort} (l : Forest S x) → blank_forest (map_forest f l) ≡ blank_forest l
      blank_map_forest end = refl
      blank_map_forest (more t l) = ap₂ (λ p q. more p q) (blank_map t) (blank_map_forest l)

      pub blank_map_optional : {x : Sort} (o : OptionalTree S x) → blank_optional (map_optional f o) ≡ blank_optional o
      blank_map_optional absent = refl
      blank_map_optional (present t) = ap (λ p. present p) (blank_map t)

  -- ids may be given before
  module _ {S : Type 0} where
    blank_ids_name : (n : ℕ) (x : Option (Ident S))
        → option_map blank_name (option_map (λ y. ident_with_id y n) x) ≡ option_map blank_name x
    blank_ids_name n None = refl
    blank_ids_name n (Some x) = refl

    blank_ids_names : (n : ℕ) (l : List (Ident S)) → map blank_name (map (λ y. ident_with_id y n) l) ≡ map blank_name l
    blank_ids_names n [] = refl
    blank_ids_names n (x ∷ l) = ap (λ names. blank_name x ∷ names) (blank_ids_names n l)

    mutual
      pub blank_ids : {x : Sort} (n : ℕ) (t : Tree S x) → blank (with_ids n t) ≡ blank t
      blank_ids n (this s) = refl
      blank_ids n (name a s) = refl
      blank_ids n (number a s) = refl
      blank_ids n (string a s) = refl
      blank_ids n (boolean a s) = refl
      blank_ids n (null s) = refl
      blank_ids n (array a s) = ap (λ p. array p at) (blank_ids_forest _ a)
      blank_ids n (object a s) = ap (λ p. object p at) (blank_ids_forest _ a)
      blank_ids n (function_expression a s) = ap (λ p. function_expression p at) (blank_ids _ a)
      blank_ids n (dot a b s) = ap (λ p. dot p b at) (blank_ids _ a)
      blank_ids n (index a b s) = ap₂ (λ p q. index p q at) (blank_ids _ a) (blank_ids _ b)
      blank_ids n (call a b s) = ap₂ (λ p q. call p q at) (blank_ids_callee _ a (blank_ids _ a)) (blank_ids_forest _ b)
      blank_ids n (new a b s) = ap₂ (λ p q. new p q at) (blank_ids _ a) (blank_ids_forest _ b)
      blank_ids n (unary un.Delete b s) = ap (λ p. unary un.Delete p at) (blank_ids _ b)
      blank_ids n (unary a b s) = ap (λ p. unary a p at) (blank_ids _ b)
      blank_ids n (update up prefix a s) = ap (λ p. update up prefix p at) (blank_ids _ a)
      blank_ids n (binary a b c s) = ap₂ (λ p q. binary a p q at) (blank_ids _ b) (blank_ids _ c)
      blank_ids n (and a b s) = ap₂ (λ p q. and p q at) (blank_ids _ a) (blank_ids _ b)
      blank_ids n (or a b s) = ap₂ (λ p q. or p q at) (blank_ids _ a) (blank_ids _ b)
      blank_ids n (conditional a b c s) =
          ap₃ (λ p q r. conditional p q r at) (blank_ids _ a) (blank_ids _ b) (blank_ids _ c)
      blank_ids n (assign a b c s) = ap₂ (λ p q. assign a p q at) (blank_ids _ b) (blank_ids _ c)
      blank_ids n (comma a b s) = ap₂ (λ p q. comma p q at) (blank_ids _ a) (blank_ids _ b)
      blank_ids n (to_name a) = refl
      blank_ids n (to_dot a b s) = ap (λ p. to_dot p b at) (blank_ids _ a)
      blank_ids n (to_index a b s) = ap₂ (λ p q. to_index p q at) (blank_ids _ a) (blank_ids _ b)
      blank_ids n hole = refl
      blank_ids n (filled a) = ap (λ p. filled p) (blank_ids _ a)
      blank_ids n (value a b) = ap (λ p. value (blank_name a) p) (blank_ids _ b)
      blank_ids n (getter a b) = ap (λ p. getter (blank_name a) p) (blank_ids _ b)
      blank_ids n (setter a b) = ap (λ p. setter (blank_name a) p) (blank_ids _ b)
      blank_ids n (function m a params b s) =
          ap₃ (λ p q r. function m p q r at) (blank_ids_name _ a) (blank_ids_names _ params) (blank_ids _ b)
      blank_ids n (body strict a b) = ap₂ (λ p q. body strict p q) (blank_ids_forest _ a) (blank_ids_forest _ b)
      blank_ids n (var a s) = ap (λ p. var p at) (blank_ids_forest _ a)
      blank_ids n (empty s) = refl
      blank_ids n (expression a s) = ap (λ p. expression p at) (blank_ids _ a)
      blank_ids n (block a s) = ap (λ p. block p at) (blank_ids_forest _ a)
      blank_ids n (if_else a b c s) =
          ap₃ (λ p q r. if_else p q r at) (blank_ids _ a) (blank_ids_forest _ b) (blank_ids_optional _ c)
      blank_ids n (do_while a b s) = ap₂ (λ p q. do_while p q at) (blank_ids_forest _ a) (blank_ids _ b)
      blank_ids n (while a b s) = ap₂ (λ p q. while p q at) (blank_ids _ a) (blank_ids_forest _ b)
      blank_ids n (for a b c d s) = ap₄ (λ p q r u. for p q r u at) (blank_ids _ a) (blank_ids_optional _ b)
          (blank_ids_optional _ c) (blank_ids_forest _ d)
      blank_ids n (for_in is_var a b c s) =
          ap₂ (λ p q. for_in is_var (blank_name a) p q at) (blank_ids _ b) (blank_ids_forest _ c)
      blank_ids n (continue a s) = ap (λ p. continue p at) (blank_ids_name _ a)
      blank_ids n (break a s) = ap (λ p. break p at) (blank_ids_name _ a)
      blank_ids n (return a s) = ap (λ p. return p at) (blank_ids_optional _ a)
      blank_ids n (labelled a b s) = ap (λ p. labelled (blank_name a) p at) (blank_ids _ b)
      blank_ids n (switch a b s) = ap₂ (λ p q. switch p q at) (blank_ids _ a) (blank_ids_forest _ b)
      blank_ids n (throw a s) = ap (λ p. throw p at) (blank_ids _ a)
      blank_ids n (try a b c s) =
          ap₃ (λ p q r. try p q r at) (blank_ids_forest _ a) (blank_ids_handler _ _ b) (blank_ids_optional _ c)
      blank_ids n (debugger s) = refl
      blank_ids n nothing = refl
      blank_ids n (init_expression a) = ap (λ p. init_expression p) (blank_ids _ a)
      blank_ids n (init_var a) = ap (λ p. init_var p) (blank_ids_forest _ a)
      blank_ids n (declarator a b) = ap (λ p. declarator (blank_name a) p) (blank_ids_optional _ b)
      blank_ids n (case a b) = ap₂ (λ p q. case p q) (blank_ids_optional _ a) (blank_ids_forest _ b)
      blank_ids n (branch_of a) = ap (λ p. branch_of p) (blank_ids_forest _ a)
      blank_ids n (catch a b) = ap (λ p. catch (blank_name a) p) (blank_ids_forest _ b)

      blank_ids_callee : (n : ℕ) (e : Tree S expr) → blank (with_ids (n + 2) e) ≡ blank e
          → blank (callee_with_ids n e (with_ids (n + 2) e)) ≡ blank e
      blank_ids_callee n (dot o k s) h = ap (λ p. dot p k at) (blank_ids (n + 3) o)
      blank_ids_callee n (index o k s) h = ap₂ (λ p q. index p q at) (blank_ids (n + 3) o) (blank_ids _ k)
      blank_ids_callee n e h = h

      blank_ids_handler : (id n : ℕ) (h : OptionalTree S handler)
          → blank_optional (handler_with_ids id n h) ≡ blank_optional h
      blank_ids_handler id n absent = refl
      blank_ids_handler id n (present (catch x l)) = ap (λ p. present (catch (blank_name x) p)) (blank_ids_forest n l)

      blank_ids_forest : {x : Sort} (n : ℕ) (l : Forest S x) → blank_forest (forest_with_ids n l) ≡ blank_forest l
      blank_ids_forest n end = refl
      blank_ids_forest n (more t l) = ap₂ (λ p q. more p q) (blank_ids n t) (blank_ids_forest _ l)

      blank_ids_optional : {x : Sort} (n : ℕ) (o : OptionalTree S x)
          → blank_optional (optional_with_ids n o) ≡ blank_optional o
      blank_ids_optional n absent = refl
      blank_ids_optional n (present t) = ap (λ p. present p) (blank_ids n t)

pub same_but_for_places : {S : Type 0} (p : Program S) (f : S → ℕ)
    → without_spans (program_with_ids p) ≡ without_spans (map_spans f p)
same_but_for_places p f =
    ap (λ b. record { body = b; at = tt {0} })
    (blank_ids (tt {0}) 3 p.body ∙ sym (blank_map (tt {0}) f p.body))
