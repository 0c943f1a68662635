-- Numbers are right where they are right without places, a line for each form.
use Rattle.std.proofs.Common.{◌≡◌, ℕ, ◌+◌, ap, ap₂, refl}
use Rattle.jl_ast.specs.Numbering.{functions_in, functions_in_forest, functions_in_optional, numbered_forest}
use Rattle.jl_ast.specs.Numbering.{numbered_optional, numbered_tree}
use Rattle.jl_ast.specs.Spans.{map_forest, map_optional, map_tree}
use Rattle.jl_ast.specs.Tree as tree
use Rattle.jl_ast.specs.Tree.{Forest, OptionalTree, Sort, Tree}
use Rattle.jl_ast.proofs.Congruences.{ap₃, ap₄}
use Rattle.jl_read_back.proofs.EqualNodes as node

module _ {S T : Type 0} (f : S → T) where
  mutual
    pub fixed : {x : Sort} (t : Tree S x) (n : ℕ) → map_tree f (numbered_tree n t) ≡ map_tree f t
        → numbered_tree n t ≡ t
    fixed (tree.this s) n e = refl
    fixed (tree.name a s) n e = refl
    fixed (tree.number a s) n e = refl
    fixed (tree.string a s) n e = refl
    fixed (tree.boolean a s) n e = refl
    fixed (tree.null s) n e = refl
    fixed (tree.array a s) n e =
        ap (λ (a' : Forest S tree.item). tree.array a' s) (all_fixed a n (node.array_same e))
    fixed (tree.object a s) n e =
        ap (λ (a' : Forest S tree.entry). tree.object a' s) (all_fixed a n (node.object_same e))
    fixed (tree.function_expression a s) n e =
        ap (λ (a' : Tree S tree.func). tree.function_expression a' s) (fixed a n (node.function_expression_same e))
    fixed (tree.dot a u s) n e =
        ap (λ (a' : Tree S tree.expr). tree.dot a' u s) (fixed a n (node.dot_same e))
    fixed (tree.index a b s) n e =
        let p = node.index_same e in
        ap₂ (λ (a' : Tree S tree.expr) (b' : Tree S tree.expr). tree.index a' b' s) (fixed a n p.0)
        (fixed b (n + functions_in a) p.1)
    fixed (tree.call a b s) n e =
        let p = node.call_same e in
        ap₂ (λ (a' : Tree S tree.expr) (b' : Forest S tree.expr). tree.call a' b' s) (fixed a n p.0)
        (all_fixed b (n + functions_in a) p.1)
    fixed (tree.new a b s) n e =
        let p = node.new_same e in
        ap₂ (λ (a' : Tree S tree.expr) (b' : Forest S tree.expr). tree.new a' b' s) (fixed a n p.0)
        (all_fixed b (n + functions_in a) p.1)
    fixed (tree.unary u a s) n e =
        ap (λ (a' : Tree S tree.expr). tree.unary u a' s) (fixed a n (node.unary_same e))
    fixed (tree.update u v a s) n e =
        ap (λ (a' : Tree S tree.target). tree.update u v a' s) (fixed a n (node.update_same e))
    fixed (tree.binary u a b s) n e =
        let p = node.binary_same e in
        ap₂ (λ (a' : Tree S tree.expr) (b' : Tree S tree.expr). tree.binary u a' b' s) (fixed a n p.0)
        (fixed b (n + functions_in a) p.1)
    fixed (tree.and a b s) n e =
        let p = node.and_same e in
        ap₂ (λ (a' : Tree S tree.expr) (b' : Tree S tree.expr). tree.and a' b' s) (fixed a n p.0)
        (fixed b (n + functions_in a) p.1)
    fixed (tree.or a b s) n e =
        let p = node.or_same e in
        ap₂ (λ (a' : Tree S tree.expr) (b' : Tree S tree.expr). tree.or a' b' s) (fixed a n p.0)
        (fixed b (n + functions_in a) p.1)
    fixed (tree.conditional a b c s) n e =
        let p = node.conditional_same e in
        ap₃ (λ (a' : Tree S tree.expr) (b' : Tree S tree.expr) (c' : Tree S tree.expr). tree.conditional a' b' c' s)
        (fixed a n p.0) (fixed b (n + functions_in a) p.1) (fixed c (n + functions_in a + functions_in b) p.2)
    fixed (tree.assign u a b s) n e =
        let p = node.assign_same e in
        ap₂ (λ (a' : Tree S tree.target) (b' : Tree S tree.expr). tree.assign u a' b' s) (fixed a n p.0)
        (fixed b (n + functions_in a) p.1)
    fixed (tree.comma a b s) n e =
        let p = node.comma_same e in
        ap₂ (λ (a' : Tree S tree.expr) (b' : Tree S tree.expr). tree.comma a' b' s) (fixed a n p.0)
        (fixed b (n + functions_in a) p.1)
    fixed (tree.to_name a) n e = refl
    fixed (tree.to_dot a u s) n e =
        ap (λ (a' : Tree S tree.expr). tree.to_dot a' u s) (fixed a n (node.to_dot_same e))
    fixed (tree.to_index a b s) n e =
        let p = node.to_index_same e in
        ap₂ (λ (a' : Tree S tree.expr) (b' : Tree S tree.expr). tree.to_index a' b' s) (fixed a n p.0)
        (fixed b (n + functions_in a) p.1)
    fixed tree.hole n e = refl
    fixed (tree.filled a) n e =
        ap (λ (a' : Tree S tree.expr). tree.filled a') (fixed a n (node.filled_same e))
    fixed (tree.value u a) n e =
        ap (λ (a' : Tree S tree.expr). tree.value u a') (fixed a n (node.value_same e))
    fixed (tree.getter u a) n e =
        ap (λ (a' : Tree S tree.func). tree.getter u a') (fixed a n (node.getter_same e))
    fixed (tree.setter u a) n e =
        ap (λ (a' : Tree S tree.func). tree.setter u a') (fixed a n (node.setter_same e))
    fixed (tree.function i x ps b s) n e =
        let p = node.function_same e in
        ap₂ (λ (m : ℕ) (u : Tree S tree.code). tree.function m x ps u s) p.0 (fixed b (n + 1) p.1)
    fixed (tree.body u a b) n e =
        let p = node.body_same e in
        ap₂ (λ (a' : Forest S tree.func) (b' : Forest S tree.stmt). tree.body u a' b') (all_fixed a n p.0)
        (all_fixed b (n + functions_in_forest a) p.1)
    fixed (tree.var a s) n e =
        ap (λ (a' : Forest S tree.decl). tree.var a' s) (all_fixed a n (node.var_same e))
    fixed (tree.empty s) n e = refl
    fixed (tree.expression a s) n e =
        ap (λ (a' : Tree S tree.expr). tree.expression a' s) (fixed a n (node.expression_same e))
    fixed (tree.block a s) n e =
        ap (λ (a' : Forest S tree.stmt). tree.block a' s) (all_fixed a n (node.block_same e))
    fixed (tree.if_else a b c s) n e =
        let p = node.if_else_same e in
        ap₃ (λ (a' : Tree S tree.expr) (b' : Forest S tree.stmt) (c' : OptionalTree S tree.branch). tree.if_else a' b'
        c' s) (fixed a n p.0) (all_fixed b (n + functions_in a) p.1)
        (optional_fixed c (n + functions_in a + functions_in_forest b) p.2)
    fixed (tree.do_while a b s) n e =
        let p = node.do_while_same e in
        ap₂ (λ (a' : Forest S tree.stmt) (b' : Tree S tree.expr). tree.do_while a' b' s) (all_fixed a n p.0)
        (fixed b (n + functions_in_forest a) p.1)
    fixed (tree.while a b s) n e =
        let p = node.while_same e in
        ap₂ (λ (a' : Tree S tree.expr) (b' : Forest S tree.stmt). tree.while a' b' s) (fixed a n p.0)
        (all_fixed b (n + functions_in a) p.1)
    fixed (tree.for a b c d s) n e =
        let p = node.for_same e in
        ap₄ (λ (a' : Tree S tree.init) (b' : OptionalTree S tree.expr) (c' : OptionalTree S tree.expr)
        (d' : Forest S tree.stmt). tree.for a' b' c' d' s) (fixed a n p.0) (optional_fixed b (n + functions_in a) p.1)
        (optional_fixed c (n + functions_in a + functions_in_optional b) p.2)
        (all_fixed d (n + functions_in a + functions_in_optional b + functions_in_optional c) p.3)
    fixed (tree.for_in u v a b s) n e =
        let p = node.for_in_same e in
        ap₂ (λ (a' : Tree S tree.expr) (b' : Forest S tree.stmt). tree.for_in u v a' b' s) (fixed a n p.0)
        (all_fixed b (n + functions_in a) p.1)
    fixed (tree.continue a s) n e = refl
    fixed (tree.break a s) n e = refl
    fixed (tree.return a s) n e =
        ap (λ (a' : OptionalTree S tree.expr). tree.return a' s) (optional_fixed a n (node.return_same e))
    fixed (tree.labelled u a s) n e =
        ap (λ (a' : Tree S tree.stmt). tree.labelled u a' s) (fixed a n (node.labelled_same e))
    fixed (tree.switch a b s) n e =
        let p = node.switch_same e in
        ap₂ (λ (a' : Tree S tree.expr) (b' : Forest S tree.clause). tree.switch a' b' s) (fixed a n p.0)
        (all_fixed b (n + functions_in a) p.1)
    fixed (tree.throw a s) n e =
        ap (λ (a' : Tree S tree.expr). tree.throw a' s) (fixed a n (node.throw_same e))
    fixed (tree.try a b c s) n e =
        let p = node.try_same e in
        ap₃ (λ (a' : Forest S tree.stmt) (b' : OptionalTree S tree.handler) (c' : OptionalTree S tree.branch).
        tree.try a' b' c' s) (all_fixed a n p.0) (optional_fixed b (n + functions_in_forest a) p.1)
        (optional_fixed c (n + functions_in_forest a + functions_in_optional b) p.2)
    fixed (tree.debugger s) n e = refl
    fixed tree.nothing n e = refl
    fixed (tree.init_expression a) n e =
        ap (λ (a' : Tree S tree.expr). tree.init_expression a') (fixed a n (node.init_expression_same e))
    fixed (tree.init_var a) n e =
        ap (λ (a' : Forest S tree.decl). tree.init_var a') (all_fixed a n (node.init_var_same e))
    fixed (tree.declarator u a) n e =
        ap (λ (a' : OptionalTree S tree.expr). tree.declarator u a') (optional_fixed a n (node.declarator_same e))
    fixed (tree.case a b) n e =
        let p = node.case_same e in
        ap₂ (λ (a' : OptionalTree S tree.expr) (b' : Forest S tree.stmt). tree.case a' b') (optional_fixed a n p.0)
        (all_fixed b (n + functions_in_optional a) p.1)
    fixed (tree.branch_of a) n e =
        ap (λ (a' : Forest S tree.stmt). tree.branch_of a') (all_fixed a n (node.branch_of_same e))
    fixed (tree.catch u a) n e =
        ap (λ (a' : Forest S tree.stmt). tree.catch u a') (all_fixed a n (node.catch_same e))

    all_fixed : {x : Sort} (l : Forest S x) (n : ℕ) → map_forest f (numbered_forest n l) ≡ map_forest f l
        → numbered_forest n l ≡ l
    all_fixed tree.end n e = refl
    all_fixed {x} (tree.more a b) n e =
        let p = node.more_same e in
        ap₂ (λ (u : Tree S x) (v : Forest S x). tree.more u v) (fixed a n p.0) (all_fixed b (n + functions_in a) p.1)

    optional_fixed : {x : Sort} (o : OptionalTree S x) (n : ℕ)
        → map_optional f (numbered_optional n o) ≡ map_optional f o → numbered_optional n o ≡ o
    optional_fixed tree.absent n e = refl
    optional_fixed {x} (tree.present a) n e =
        ap (λ (u : Tree S x). tree.present u) (fixed a n (node.present_same e))
