-- Trees with no ids: each place is 0, whatever it was.
use Rattle.std.proofs.Common.{◌≡◌, ◌∙◌, ℕ, List, [], ◌∷◌, map, option_map, refl, sym, ap, ap₂, Option, Some, None}
use Rattle.jl_ast.specs.Spans.{ident, map_forest, map_optional, map_spans, map_tree, without_spans}
use Rattle.jl_ast.specs.Tree.{absent, and, array, assign, binary, block, body, boolean, branch_of, break, call, case}
use Rattle.jl_ast.specs.Tree.{catch, comma, conditional, continue, debugger, declarator, do_while, dot, empty, end}
use Rattle.jl_ast.specs.Tree.{expression, filled, for, for_in, function, function_expression, getter}
use Rattle.jl_ast.specs.Tree.{hole, if_else, index, init_expression, init_var, labelled, more, name, new, nothing}
use Rattle.jl_ast.specs.Tree.{null, number, object, or, present, return, setter, string, switch, this, throw, to_dot}
use Rattle.jl_ast.specs.Tree.{to_index, to_name, try, unary, update, value, var, while, Forest, Ident, OptionalTree}
use Rattle.jl_ast.specs.Tree.{Program, Sort, Tree}
use Rattle.jl_ast.proofs.Congruences.{ap₃, ap₄}
use Rattle.jl_quiet.specs.QuietMean.{without_ids}

abbrev pub bare : {S : Type 0} {x : Sort} → Tree S x → Tree ℕ x
bare t = map_tree (λ s. 0) t

abbrev pub bare_forest : {S : Type 0} {x : Sort} → Forest S x → Forest ℕ x
bare_forest l = map_forest (λ s. 0) l

abbrev pub bare_optional : {S : Type 0} {x : Sort} → OptionalTree S x → OptionalTree ℕ x
bare_optional o = map_optional (λ s. 0) o

abbrev pub without_id : {S : Type 0} → Ident S → Ident ℕ
without_id x = ident (λ s. 0) x

-- places may be renamed before
module _ {S T : Type 0} (f : S → T) where
  bare_map_name : (x : Option (Ident S)) → option_map without_id (option_map (ident f) x) ≡ option_map without_id x
  bare_map_name None = refl
  bare_map_name (Some x) = refl

  bare_map_names : (l : List (Ident S)) → map without_id (map (ident f) l) ≡ map without_id l
  bare_map_names [] = refl
  bare_map_names (x ∷ l) = ap (λ names. without_id x ∷ names) (bare_map_names l)

  mutual
    pub bare_map : {x : Sort} (t : Tree S x) → bare (map_tree f t) ≡ bare t
    bare_map (this s) = refl
    bare_map (name a s) = refl
    bare_map (number a s) = refl
    bare_map (string a s) = refl
    bare_map (boolean a s) = refl
    bare_map (null s) = refl
    bare_map (array a s) = ap (λ p. array p 0) (bare_map_forest a)
    bare_map (object a s) = ap (λ p. object p 0) (bare_map_forest a)
    bare_map (function_expression a s) = ap (λ p. function_expression p 0) (bare_map a)
    bare_map (dot a b s) = ap (λ p. dot p b 0) (bare_map a)
    bare_map (index a b s) = ap₂ (λ p q. index p q 0) (bare_map a) (bare_map b)
    bare_map (call a b s) = ap₂ (λ p q. call p q 0) (bare_map a) (bare_map_forest b)
    bare_map (new a b s) = ap₂ (λ p q. new p q 0) (bare_map a) (bare_map_forest b)
    bare_map (unary a b s) = ap (λ p. unary a p 0) (bare_map b)
    bare_map (update up prefix a s) = ap (λ p. update up prefix p 0) (bare_map a)
    bare_map (binary a b c s) = ap₂ (λ p q. binary a p q 0) (bare_map b) (bare_map c)
    bare_map (and a b s) = ap₂ (λ p q. and p q 0) (bare_map a) (bare_map b)
    bare_map (or a b s) = ap₂ (λ p q. or p q 0) (bare_map a) (bare_map b)
    bare_map (conditional a b c s) = ap₃ (λ p q r. conditional p q r 0) (bare_map a) (bare_map b) (bare_map c)
    bare_map (assign a b c s) = ap₂ (λ p q. assign a p q 0) (bare_map b) (bare_map c)
    bare_map (comma a b s) = ap₂ (λ p q. comma p q 0) (bare_map a) (bare_map b)
    bare_map (to_name a) = refl
    bare_map (to_dot a b s) = ap (λ p. to_dot p b 0) (bare_map a)
    bare_map (to_index a b s) = ap₂ (λ p q. to_index p q 0) (bare_map a) (bare_map b)
    bare_map hole = refl
    bare_map (filled a) = ap (λ p. filled p) (bare_map a)
    bare_map (value a b) = ap (λ p. value (without_id a) p) (bare_map b)
    bare_map (getter a b) = ap (λ p. getter (without_id a) p) (bare_map b)
    bare_map (setter a b) = ap (λ p. setter (without_id a) p) (bare_map b)
    bare_map (function m a params b s) =
        ap₃ (λ p q r. function m p q r 0) (bare_map_name a) (bare_map_names params) (bare_map b)
    bare_map (body strict a b) = ap₂ (λ p q. body strict p q) (bare_map_forest a) (bare_map_forest b)
    bare_map (var a s) = ap (λ p. var p 0) (bare_map_forest a)
    bare_map (empty s) = refl
    bare_map (expression a s) = ap (λ p. expression p 0) (bare_map a)
    bare_map (block a s) = ap (λ p. block p 0) (bare_map_forest a)
    bare_map (if_else a b c s) = ap₃ (λ p q r. if_else p q r 0) (bare_map a) (bare_map_forest b) (bare_map_optional c)
    bare_map (do_while a b s) = ap₂ (λ p q. do_while p q 0) (bare_map_forest a) (bare_map b)
    bare_map (while a b s) = ap₂ (λ p q. while p q 0) (bare_map a) (bare_map_forest b)
    bare_map (for a b c d s) =
        ap₄ (λ p q r u. for p q r u 0) (bare_map a) (bare_map_optional b) (bare_map_optional c) (bare_map_forest d)
    bare_map (for_in is_var a b c s) = ap₂ (λ p q. for_in is_var (without_id a) p q 0) (bare_map b) (bare_map_forest c)
    bare_map (continue a s) = ap (λ p. continue p 0) (bare_map_name a)
    bare_map (break a s) = ap (λ p. break p 0) (bare_map_name a)
    bare_map (return a s) = ap (λ p. return p 0) (bare_map_optional a)
    bare_map (labelled a b s) = ap (λ p. labelled (without_id a) p 0) (bare_map b)
    bare_map (switch a b s) = ap₂ (λ p q. switch p q 0) (bare_map a) (bare_map_forest b)
    bare_map (throw a s) = ap (λ p. throw p 0) (bare_map a)
    bare_map (try a b c s) = ap₃ (λ p q r. try p q r 0) (bare_map_forest a) (bare_map_optional b) (bare_map_optional c)
    bare_map (debugger s) = refl
    bare_map nothing = refl
    bare_map (init_expression a) = ap (λ p. init_expression p) (bare_map a)
    bare_map (init_var a) = ap (λ p. init_var p) (bare_map_forest a)
    bare_map (declarator a b) = ap (λ p. declarator (without_id a) p) (bare_map_optional b)
    bare_map (case a b) = ap₂ (λ p q. case p q) (bare_map_optional a) (bare_map_forest b)
    bare_map (branch_of a) = ap (λ p. branch_of p) (bare_map_forest a)
    bare_map (catch a b) = ap (λ p. catch (without_id a) p) (bare_map_forest b)

    pub bare_map_forest : {x : Sort} (l : Forest S x) → bare_forest (map_forest f l) ≡ bare_forest l
    bare_map_forest end = refl
    bare_map_forest (more t l) = ap₂ (λ p q. more p q) (bare_map t) (bare_map_forest l)

    pub bare_map_optional : {x : Sort} (o : OptionalTree S x) → bare_optional (map_optional f o) ≡ bare_optional o
    bare_map_optional absent = refl
    bare_map_optional (present t) = ap (λ p. present p) (bare_map t)

pub without_again : {S T : Type 0} (f : S → T) (p : Program S) → without_ids (map_spans f p) ≡ without_ids p
without_again f p = ap (λ b. record { body = b; at = 0 }) (bare_map f p.body)

pub same_without_ids : (p q : Program ℕ) → without_spans p ≡ without_spans q → without_ids p ≡ without_ids q
same_without_ids p q e =
    sym (without_again (λ s. tt) p) ∙ ap (λ r. without_ids r) e ∙ without_again (λ s. tt) q
