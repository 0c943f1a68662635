-- A fold whose nodes look at no places gives the same of a tree whose places are renamed, and one whose nodes look at
-- no
-- numbers of functions the same of a tree that is numbered anew.
use Rattle.std.proofs.Common.{◌≡◌, ℕ, ◌+◌, ap, ◌∙◌, refl}
use Rattle.jl_ast.specs.Tree.{Sort, Tree, Forest, OptionalTree, this, name, number, string, boolean, null, array}
use Rattle.jl_ast.specs.Tree.{object, function_expression, dot, index, call, new, unary, update, binary, and, or}
use Rattle.jl_ast.specs.Tree.{conditional, assign, comma, to_name, to_dot, to_index, hole, filled, value, getter}
use Rattle.jl_ast.specs.Tree.{setter, function, body, var, empty, expression, block, if_else, do_while, while, for}
use Rattle.jl_ast.specs.Tree.{for_in, continue, break, return, labelled, switch, throw, try, debugger, nothing}
use Rattle.jl_ast.specs.Tree.{init_expression, init_var, declarator, case, branch_of, catch, end, more, absent}
use Rattle.jl_ast.specs.Tree.{present}
use Rattle.jl_ast.specs.Fold.{Fold, fold, fold_forest, fold_optional}
use Rattle.jl_ast.specs.Spans.{map_tree, map_forest, map_optional}
use Rattle.jl_ast.specs.Numbering.{numbered_tree, numbered_forest, numbered_optional}

module _ {S T M : Type 0} (f : S → T) (F : Fold S M) (G : Fold T M) (same_none : G.none ≡ F.none)
    (same_both : (m n : M) → G.both m n ≡ F.both m n)
    (same_node : (x : Sort) (t : Tree S x) (m : M) → G.at_node (map_tree f t) m ≡ F.at_node t m) where
  node : {x : Sort} (t : Tree S x) {m n : M} → m ≡ n → G.at_node (map_tree f t) m ≡ F.at_node t n
  node {x = x} t {n = n} e = ap (G.at_node (map_tree f t)) e ∙ same_node x t n

  both : {a b c d : M} → a ≡ b → c ≡ d → G.both a c ≡ F.both b d
  both {b = b} {c = c} {d = d} e g = ap (λ m. G.both m c) e ∙ ap (G.both b) g ∙ same_both b d

  mutual
    pub fold_map : {x : Sort} (t : Tree S x) → fold G (map_tree f t) ≡ fold F t
    fold_map (this s) = node (this s) same_none
    fold_map (name a s) = node (name a s) same_none
    fold_map (number a s) = node (number a s) same_none
    fold_map (string a s) = node (string a s) same_none
    fold_map (boolean a s) = node (boolean a s) same_none
    fold_map (null s) = node (null s) same_none
    fold_map (array a s) = node (array a s) (fold_map_forest a)
    fold_map (object a s) = node (object a s) (fold_map_forest a)
    fold_map (function_expression a s) = node (function_expression a s) (fold_map a)
    fold_map (dot a b s) = node (dot a b s) (fold_map a)
    fold_map (index a b s) = node (index a b s) (both (fold_map a) (fold_map b))
    fold_map (call a b s) = node (call a b s) (both (fold_map a) (fold_map_forest b))
    fold_map (new a b s) = node (new a b s) (both (fold_map a) (fold_map_forest b))
    fold_map (unary a b s) = node (unary a b s) (fold_map b)
    fold_map (update up prefix a s) = node (update up prefix a s) (fold_map a)
    fold_map (binary a b c s) = node (binary a b c s) (both (fold_map b) (fold_map c))
    fold_map (and a b s) = node (and a b s) (both (fold_map a) (fold_map b))
    fold_map (or a b s) = node (or a b s) (both (fold_map a) (fold_map b))
    fold_map (conditional a b c s) = node (conditional a b c s) (both (both (fold_map a) (fold_map b)) (fold_map c))
    fold_map (assign a b c s) = node (assign a b c s) (both (fold_map b) (fold_map c))
    fold_map (comma a b s) = node (comma a b s) (both (fold_map a) (fold_map b))
    fold_map (to_name a) = node (to_name a) same_none
    fold_map (to_dot a b s) = node (to_dot a b s) (fold_map a)
    fold_map (to_index a b s) = node (to_index a b s) (both (fold_map a) (fold_map b))
    fold_map hole = node hole same_none
    fold_map (filled a) = node (filled a) (fold_map a)
    fold_map (value a b) = node (value a b) (fold_map b)
    fold_map (getter a b) = node (getter a b) (fold_map b)
    fold_map (setter a b) = node (setter a b) (fold_map b)
    fold_map (function m a params b s) = node (function m a params b s) (fold_map b)
    fold_map (body strict a b) = node (body strict a b) (both (fold_map_forest a) (fold_map_forest b))
    fold_map (var a s) = node (var a s) (fold_map_forest a)
    fold_map (empty s) = node (empty s) same_none
    fold_map (expression a s) = node (expression a s) (fold_map a)
    fold_map (block a s) = node (block a s) (fold_map_forest a)
    fold_map (if_else a b c s) = node (if_else a b c s)
        (both (both (fold_map a) (fold_map_forest b)) (fold_map_optional c))
    fold_map (do_while a b s) = node (do_while a b s) (both (fold_map_forest a) (fold_map b))
    fold_map (while a b s) = node (while a b s) (both (fold_map a) (fold_map_forest b))
    fold_map (for a b c d s) = node (for a b c d s)
        (both (both (both (fold_map a) (fold_map_optional b)) (fold_map_optional c)) (fold_map_forest d))
    fold_map (for_in is_var a b c s) = node (for_in is_var a b c s) (both (fold_map b) (fold_map_forest c))
    fold_map (continue a s) = node (continue a s) same_none
    fold_map (break a s) = node (break a s) same_none
    fold_map (return a s) = node (return a s) (fold_map_optional a)
    fold_map (labelled a b s) = node (labelled a b s) (fold_map b)
    fold_map (switch a b s) = node (switch a b s) (both (fold_map a) (fold_map_forest b))
    fold_map (throw a s) = node (throw a s) (fold_map a)
    fold_map (try a b c s) = node (try a b c s)
        (both (both (fold_map_forest a) (fold_map_optional b)) (fold_map_optional c))
    fold_map (debugger s) = node (debugger s) same_none
    fold_map nothing = node nothing same_none
    fold_map (init_expression a) = node (init_expression a) (fold_map a)
    fold_map (init_var a) = node (init_var a) (fold_map_forest a)
    fold_map (declarator a b) = node (declarator a b) (fold_map_optional b)
    fold_map (case a b) = node (case a b) (both (fold_map_optional a) (fold_map_forest b))
    fold_map (branch_of a) = node (branch_of a) (fold_map_forest a)
    fold_map (catch a b) = node (catch a b) (fold_map_forest b)

    pub fold_map_forest : {x : Sort} (t : Forest S x) → fold_forest G (map_forest f t) ≡ fold_forest F t
    fold_map_forest end = same_none
    fold_map_forest (more a b) = both (fold_map a) (fold_map_forest b)

    pub fold_map_optional : {x : Sort} (t : OptionalTree S x) → fold_optional G (map_optional f t) ≡ fold_optional F t
    fold_map_optional absent = same_none
    fold_map_optional (present a) = fold_map a

module _ {S M : Type 0} (F : Fold S M)
    (same_node : (x : Sort) (n : ℕ) (t : Tree S x) (m : M) → F.at_node (numbered_tree n t) m ≡ F.at_node t m) where
  at_node : {x : Sort} (n : ℕ) (t : Tree S x) {l m : M} → l ≡ m → F.at_node (numbered_tree n t) l ≡ F.at_node t m
  at_node {x = x} n t {m = m} e = ap (F.at_node (numbered_tree n t)) e ∙ same_node x n t m

  join : {a b c d : M} → a ≡ b → c ≡ d → F.both a c ≡ F.both b d
  join {b = b} {c = c} e g = ap (λ m. F.both m c) e ∙ ap (F.both b) g

  mutual
    pub fold_numbered : {x : Sort} (n : ℕ) (t : Tree S x) → fold F (numbered_tree n t) ≡ fold F t
    fold_numbered n (this s) = at_node n (this s) refl
    fold_numbered n (name a s) = at_node n (name a s) refl
    fold_numbered n (number a s) = at_node n (number a s) refl
    fold_numbered n (string a s) = at_node n (string a s) refl
    fold_numbered n (boolean a s) = at_node n (boolean a s) refl
    fold_numbered n (null s) = at_node n (null s) refl
    fold_numbered n (array a s) = at_node n (array a s) (fold_numbered_forest n a)
    fold_numbered n (object a s) = at_node n (object a s) (fold_numbered_forest n a)
    fold_numbered n (function_expression a s) = at_node n (function_expression a s) (fold_numbered n a)
    fold_numbered n (dot a b s) = at_node n (dot a b s) (fold_numbered n a)
    fold_numbered n (index a b s) = at_node n (index a b s) (join (fold_numbered n a) (fold_numbered _ b))
    fold_numbered n (call a b s) = at_node n (call a b s) (join (fold_numbered n a) (fold_numbered_forest _ b))
    fold_numbered n (new a b s) = at_node n (new a b s) (join (fold_numbered n a) (fold_numbered_forest _ b))
    fold_numbered n (unary a b s) = at_node n (unary a b s) (fold_numbered n b)
    fold_numbered n (update up prefix a s) = at_node n (update up prefix a s) (fold_numbered n a)
    fold_numbered n (binary a b c s) = at_node n (binary a b c s) (join (fold_numbered n b) (fold_numbered _ c))
    fold_numbered n (and a b s) = at_node n (and a b s) (join (fold_numbered n a) (fold_numbered _ b))
    fold_numbered n (or a b s) = at_node n (or a b s) (join (fold_numbered n a) (fold_numbered _ b))
    fold_numbered n (conditional a b c s) = at_node n (conditional a b c s)
        (join (join (fold_numbered n a) (fold_numbered _ b)) (fold_numbered _ c))
    fold_numbered n (assign a b c s) = at_node n (assign a b c s) (join (fold_numbered n b) (fold_numbered _ c))
    fold_numbered n (comma a b s) = at_node n (comma a b s) (join (fold_numbered n a) (fold_numbered _ b))
    fold_numbered n (to_name a) = at_node n (to_name a) refl
    fold_numbered n (to_dot a b s) = at_node n (to_dot a b s) (fold_numbered n a)
    fold_numbered n (to_index a b s) = at_node n (to_index a b s) (join (fold_numbered n a) (fold_numbered _ b))
    fold_numbered n hole = at_node n hole refl
    fold_numbered n (filled a) = at_node n (filled a) (fold_numbered n a)
    fold_numbered n (value a b) = at_node n (value a b) (fold_numbered n b)
    fold_numbered n (getter a b) = at_node n (getter a b) (fold_numbered n b)
    fold_numbered n (setter a b) = at_node n (setter a b) (fold_numbered n b)
    fold_numbered n (function m a params b s) = at_node n (function m a params b s) (fold_numbered (n + 1) b)
    fold_numbered n (body strict a b) = at_node n (body strict a b)
        (join (fold_numbered_forest n a) (fold_numbered_forest _ b))
    fold_numbered n (var a s) = at_node n (var a s) (fold_numbered_forest n a)
    fold_numbered n (empty s) = at_node n (empty s) refl
    fold_numbered n (expression a s) = at_node n (expression a s) (fold_numbered n a)
    fold_numbered n (block a s) = at_node n (block a s) (fold_numbered_forest n a)
    fold_numbered n (if_else a b c s) = at_node n (if_else a b c s)
        (join (join (fold_numbered n a) (fold_numbered_forest _ b)) (fold_numbered_optional _ c))
    fold_numbered n (do_while a b s) = at_node n (do_while a b s) (join (fold_numbered_forest n a) (fold_numbered _ b))
    fold_numbered n (while a b s) = at_node n (while a b s) (join (fold_numbered n a) (fold_numbered_forest _ b))
    fold_numbered n (for a b c d s) = at_node n (for a b c d s)
        (join (join (join (fold_numbered n a) (fold_numbered_optional _ b)) (fold_numbered_optional _ c))
        (fold_numbered_forest _ d))
    fold_numbered n (for_in is_var a b c s) = at_node n (for_in is_var a b c s)
        (join (fold_numbered n b) (fold_numbered_forest _ c))
    fold_numbered n (continue a s) = at_node n (continue a s) refl
    fold_numbered n (break a s) = at_node n (break a s) refl
    fold_numbered n (return a s) = at_node n (return a s) (fold_numbered_optional n a)
    fold_numbered n (labelled a b s) = at_node n (labelled a b s) (fold_numbered n b)
    fold_numbered n (switch a b s) = at_node n (switch a b s) (join (fold_numbered n a) (fold_numbered_forest _ b))
    fold_numbered n (throw a s) = at_node n (throw a s) (fold_numbered n a)
    fold_numbered n (try a b c s) = at_node n (try a b c s)
        (join (join (fold_numbered_forest n a) (fold_numbered_optional _ b)) (fold_numbered_optional _ c))
    fold_numbered n (debugger s) = at_node n (debugger s) refl
    fold_numbered n nothing = at_node n nothing refl
    fold_numbered n (init_expression a) = at_node n (init_expression a) (fold_numbered n a)
    fold_numbered n (init_var a) = at_node n (init_var a) (fold_numbered_forest n a)
    fold_numbered n (declarator a b) = at_node n (declarator a b) (fold_numbered_optional n b)
    fold_numbered n (case a b) = at_node n (case a b) (join (fold_numbered_optional n a) (fold_numbered_forest _ b))
    fold_numbered n (branch_of a) = at_node n (branch_of a) (fold_numbered_forest n a)
    fold_numbered n (catch a b) = at_node n (catch a b) (fold_numbered_forest n b)

    pub fold_numbered_forest : {x : Sort} (n : ℕ) (t : Forest S x) →
        fold_forest F (numbered_forest n t) ≡ fold_forest F t
    fold_numbered_forest n end = refl
    fold_numbered_forest n (more a b) = join (fold_numbered n a) (fold_numbered_forest _ b)

    pub fold_numbered_optional : {x : Sort} (n : ℕ) (t : OptionalTree S x) →
        fold_optional F (numbered_optional n t) ≡ fold_optional F t
    fold_numbered_optional n absent = refl
    fold_numbered_optional n (present a) = fold_numbered n a
