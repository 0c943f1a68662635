-- Trees without places, which get places: without them they are what they were.
use Rattle.std.proofs.Common.{◌≡◌, List, [], ◌∷◌, map, option_map, refl, ap, ap₂, Option, Some, None}
use Rattle.jl_ast.specs.Spans.{ident, map_forest, map_optional, map_spans, map_tree, without_spans}
use Rattle.jl_ast.specs.Tree.{absent, and, array, assign, binary, block, body, boolean, branch_of, break, call, case}
use Rattle.jl_ast.specs.Tree.{catch, comma, conditional, continue, debugger, declarator, do_while, dot, empty, end}
use Rattle.jl_ast.specs.Tree.{expression, filled, for, for_in, function, function_expression, getter}
use Rattle.jl_ast.specs.Tree.{hole, if_else, index, init_expression, init_var, labelled, more, name, new, nothing}
use Rattle.jl_ast.specs.Tree.{null, number, object, or, present, return, setter, string, switch, this, throw, to_dot}
use Rattle.jl_ast.specs.Tree.{to_index, to_name, try, unary, update, value, var, while, Forest, Ident, OptionalTree}
use Rattle.jl_ast.specs.Tree.{Program, Sort, Tree}
use Rattle.jl_text.specs.declared.span.Span.{Span}
use Rattle.jl_ast.proofs.Congruences.{ap₃, ap₄}

abbrev forget : {T : Type 0} → T → Unit {0}
forget s = tt

module _ {T : Type 0} (f : Unit {0} → T) where
  placed_name : (x : Option (Ident (Unit {0}))) → option_map (ident forget) (option_map (ident f) x) ≡ x
  placed_name None = refl
  placed_name (Some x) = refl

  placed_names : (l : List (Ident (Unit {0}))) → map (ident forget) (map (ident f) l) ≡ l
  placed_names [] = refl
  placed_names (x ∷ l) = ap (λ names. x ∷ names) (placed_names l)

  mutual
    pub placed : {x : Sort} (t : Tree (Unit {0}) x) → map_tree forget (map_tree f t) ≡ t
    placed (this s) = refl
    placed (name a s) = refl
    placed (number a s) = refl
    placed (string a s) = refl
    placed (boolean a s) = refl
    placed (null s) = refl
    placed (array a s) = ap (λ p. array p s) (placed_forest a)
    placed (object a s) = ap (λ p. object p s) (placed_forest a)
    placed (function_expression a s) = ap (λ p. function_expression p s) (placed a)
    placed (dot a b s) = ap (λ p. dot p b s) (placed a)
    placed (index a b s) = ap₂ (λ p q. index p q s) (placed a) (placed b)
    placed (call a b s) = ap₂ (λ p q. call p q s) (placed a) (placed_forest b)
    placed (new a b s) = ap₂ (λ p q. new p q s) (placed a) (placed_forest b)
    placed (unary a b s) = ap (λ p. unary a p s) (placed b)
    placed (update up prefix a s) = ap (λ p. update up prefix p s) (placed a)
    placed (binary a b c s) = ap₂ (λ p q. binary a p q s) (placed b) (placed c)
    placed (and a b s) = ap₂ (λ p q. and p q s) (placed a) (placed b)
    placed (or a b s) = ap₂ (λ p q. or p q s) (placed a) (placed b)
    placed (conditional a b c s) = ap₃ (λ p q r. conditional p q r s) (placed a) (placed b) (placed c)
    placed (assign a b c s) = ap₂ (λ p q. assign a p q s) (placed b) (placed c)
    placed (comma a b s) = ap₂ (λ p q. comma p q s) (placed a) (placed b)
    placed (to_name a) = refl
    placed (to_dot a b s) = ap (λ p. to_dot p b s) (placed a)
    placed (to_index a b s) = ap₂ (λ p q. to_index p q s) (placed a) (placed b)
    placed hole = refl
    placed (filled a) = ap (λ p. filled p) (placed a)
    placed (value a b) = ap (λ p. value a p) (placed b)
    placed (getter a b) = ap (λ p. getter a p) (placed b)
    placed (setter a b) = ap (λ p. setter a p) (placed b)
    placed (function m a params b s) =
        ap₃ (λ p q r. function m p q r s) (placed_name a) (placed_names params) (placed b)
    placed (body strict a b) = ap₂ (λ p q. body strict p q) (placed_forest a) (placed_forest b)
    placed (var a s) = ap (λ p. var p s) (placed_forest a)
    placed (empty s) = refl
    placed (expression a s) = ap (λ p. expression p s) (placed a)
    placed (block a s) = ap (λ p. block p s) (placed_forest a)
    placed (if_else a b c s) = ap₃ (λ p q r. if_else p q r s) (placed a) (placed_forest b) (placed_optional c)
    placed (do_while a b s) = ap₂ (λ p q. do_while p q s) (placed_forest a) (placed b)
    placed (while a b s) = ap₂ (λ p q. while p q s) (placed a) (placed_forest b)
    placed (for a b c d s) =
        ap₄ (λ p q r u. for p q r u s) (placed a) (placed_optional b) (placed_optional c) (placed_forest d)
    placed (for_in is_var a b c s) = ap₂ (λ p q. for_in is_var a p q s) (placed b) (placed_forest c)
    placed (continue a s) = ap (λ p. continue p s) (placed_name a)
    placed (break a s) = ap (λ p. break p s) (placed_name a)
    placed (return a s) = ap (λ p. return p s) (placed_optional a)
    placed (labelled a b s) = ap (λ p. labelled a p s) (placed b)
    placed (switch a b s) = ap₂ (λ p q. switch p q s) (placed a) (placed_forest b)
    placed (throw a s) = ap (λ p. throw p s) (placed a)
    placed (try a b c s) = ap₃ (λ p q r. try p q r s) (placed_forest a) (placed_optional b) (placed_optional c)
    placed (debugger s) = refl
    placed nothing = refl
    placed (init_expression a) = ap (λ p. init_expression p) (placed a)
    placed (init_var a) = ap (λ p. init_var p) (placed_forest a)
    placed (declarator a b) = ap (λ p. declarator a p) (placed_optional b)
    placed (case a b) = ap₂ (λ p q. case p q) (placed_optional a) (placed_forest b)
    placed (branch_of a) = ap (λ p. branch_of p) (placed_forest a)
    placed (catch a b) = ap (λ p. catch a p) (placed_forest b)

    pub placed_forest : {x : Sort} (l : Forest (Unit {0}) x) → map_forest forget (map_forest f l) ≡ l
    placed_forest end = refl
    placed_forest (more t l) = ap₂ (λ p q. more p q) (placed t) (placed_forest l)

    pub placed_optional : {x : Sort} (o : OptionalTree (Unit {0}) x) → map_optional forget (map_optional f o) ≡ o
    placed_optional absent = refl
    placed_optional (present t) = ap (λ p. present p) (placed t)

-- a program with places that is this one without
pub with_places : (w : Program (Unit {0})) → (p : Program Span) × (without_spans p ≡ w)
with_places w =
    let place : Unit {0} → Span = λ s. record { from = 0; to = 0 } in
    (map_spans place w, ap (λ b. record { body = b; at = tt }) (placed place w.body))
