-- The rows of the functions of a tree are rows of the tree.
use Rattle.std.proofs.Common.{ℕ, [], ◌∷◌, ◌++◌, Bool}
use Rattle.jl_ast.specs.Tree as tree
use Rattle.jl_ast.specs.Tree.{Forest, OptionalTree, Sort, Tree}
use Rattle.jl_ast.specs.declared.ops.UnOp.TheVariants as un
use Rattle.jl_scope.specs.Hoisting.{strict_in}
use Rattle.jl_op.specs.IdMap.{assign_entries, call_entries, compute_entries, optional_test_entries, MapEntry}
use Rattle.jl_op.specs.declared.kind.OpKind.TheVariants as kind
use Rattle.jl_meaning.specs.FunctionObjects.{FunctionTable}
use Rattle.jl_meaning.specs.FunctionTable.{forest_functions, functions_in, optional_functions}
use Rattle.jl_operation_rows.proofs.Relation.{by_id, AllRows, Rows, RowsIfPresent}
use Rattle.jl_operation_rows.proofs.Splitting.{callee_rows, of, of_all, of_any, split}

module _ (IsRow : MapEntry ℕ → Type 0) where
  abbrev pub AllOwned : FunctionTable → Type 0
  AllOwned [] = Unit {0}
  AllOwned (f ∷ l) = Rows IsRow f.func × AllOwned l

  both : (l m : FunctionTable) → AllOwned l → AllOwned m → AllOwned (l ++ m)
  both [] m x y = y
  both (f ∷ l) m x y = (x.0, both l m x.1 y)

  mutual
    pub functions : {x : Sort} (strict : Bool) (t : Tree ℕ x) → Rows IsRow t → AllOwned (functions_in strict t)
    functions strict (tree.array l id) h = forests strict l h.1
    functions strict (tree.object l id) h = forests strict l h.1
    functions strict (tree.function_expression f id) h = functions strict f h.1
    functions strict (tree.dot o k id) h = functions strict o h.1
    functions strict (tree.index o k id) h =
        let r = split IsRow (of o) (of k) h.1 in both _ _ (functions strict o r.0) (functions strict k r.1)
    functions strict (tree.call f l id) h =
        let r = split IsRow (call_entries by_id f id (of f)) (of_all l) h in
        both _ _ (functions strict f (callee_rows IsRow f id r.0)) (forests strict l r.1)
    functions strict (tree.new f l id) h =
        let r = split IsRow (of f) (of_all l) h.1.1 in both _ _ (functions strict f r.0) (forests strict l r.1)
    functions strict (tree.unary un.Delete (tree.name x at) id) h = tt
    functions strict (tree.unary un.Delete (tree.dot o k at) id) h = functions strict o h.1
    functions strict (tree.unary un.Delete (tree.index o k at) id) h =
        let r = split IsRow (of o) (of k) h.1 in both _ _ (functions strict o r.0) (functions strict k r.1)
    functions strict (tree.unary un.Delete e id) h = functions strict e h
    functions strict (tree.unary un.Typeof (tree.name x at) id) h = tt
    functions strict (tree.unary un.Typeof e id) h = functions strict e h.1
    functions strict (tree.unary o e id) h = functions strict e h.1
    functions strict (tree.update up prefix t id) h =
        let r = split IsRow (compute_entries by_id t kind.Unary id) (of t) h in functions strict t r.1
    functions strict (tree.binary o a b id) h =
        let r = split IsRow (of a) (of b) h.1 in both _ _ (functions strict a r.0) (functions strict b r.1)
    functions strict (tree.and a b id) h =
        let r = split IsRow (of a) (of b) h.1 in both _ _ (functions strict a r.0) (functions strict b r.1)
    functions strict (tree.or a b id) h =
        let r = split IsRow (of a) (of b) h.1 in both _ _ (functions strict a r.0) (functions strict b r.1)
    functions strict (tree.conditional a b c id) h =
        let r = split IsRow (of a ++ of b) (of c) h.1 in
        let q = split IsRow (of a) (of b) r.0 in
        both _ _ (both _ _ (functions strict a q.0) (functions strict b q.1)) (functions strict c r.1)
    functions strict (tree.assign o t e id) h =
        let r = split IsRow (assign_entries by_id o t id ++ of t) (of e) h in
        let q = split IsRow (assign_entries by_id o t id) (of t) r.0 in
        both _ _ (functions strict t q.1) (functions strict e r.1)
    functions strict (tree.comma a b id) h =
        let r = split IsRow (of a) (of b) h in both _ _ (functions strict a r.0) (functions strict b r.1)
    functions strict (tree.to_dot o k id) h = functions strict o h
    functions strict (tree.to_index o k id) h =
        let r = split IsRow (of o) (of k) h in both _ _ (functions strict o r.0) (functions strict k r.1)
    functions strict (tree.filled e) h = functions strict e h
    functions strict (tree.value k e) h = functions strict e h
    functions strict (tree.getter k f) h = functions strict f h
    functions strict (tree.setter k f) h = functions strict f h
    functions strict (tree.function m x params b id) h = (h, functions (strict_in strict b) b h.1.1)
    functions strict (tree.body is_strict fs l) h =
        let r = split IsRow (of_all fs) (of_all l) h in both _ _ (forests strict fs r.0) (forests strict l r.1)
    functions strict (tree.var l id) h = forests strict l h
    functions strict (tree.expression e id) h = functions strict e h
    functions strict (tree.block l id) h = forests strict l h
    functions strict (tree.if_else c a b id) h =
        let r = split IsRow (of c ++ of_all a) (of_any b) h.1 in
        let q = split IsRow (of c) (of_all a) r.0 in
        both _ _ (both _ _ (functions strict c q.0) (forests strict a q.1)) (optionals strict b r.1)
    functions strict (tree.do_while l c id) h =
        let r = split IsRow (of_all l) (of c) h.1 in both _ _ (forests strict l r.0) (functions strict c r.1)
    functions strict (tree.while c l id) h =
        let r = split IsRow (of c) (of_all l) h.1 in both _ _ (functions strict c r.0) (forests strict l r.1)
    functions strict (tree.for i c u l id) h =
        let t = optional_test_entries by_id id c in
        let r = split IsRow (t ++ of i ++ of_any c ++ of_any u) (of_all l) h in
        let q = split IsRow (t ++ of i ++ of_any c) (of_any u) r.0 in
        let n = split IsRow (t ++ of i) (of_any c) q.0 in
        let m = split IsRow t (of i) n.0 in
        both _ _ (both _ _ (both _ _ (functions strict i m.1) (optionals strict c n.1)) (optionals strict u q.1))
        (forests strict l r.1)
    functions strict (tree.for_in is_var x o l id) h =
        let r = split IsRow (of o) (of_all l) h.1 in both _ _ (functions strict o r.0) (forests strict l r.1)
    functions strict (tree.return tree.absent id) h = tt
    functions strict (tree.return (tree.present e) id) h = functions strict e h.1
    functions strict (tree.labelled x t id) h = functions strict t h
    functions strict (tree.switch e l id) h =
        let r = split IsRow (of e) (of_all l) h in both _ _ (functions strict e r.0) (forests strict l r.1)
    functions strict (tree.throw e id) h = functions strict e h.1
    functions strict (tree.try l tree.absent f id) h =
        let r = split IsRow (of_all l) (of_any f) h in
        both _ _ (both _ _ (forests strict l r.0) tt) (optionals strict f r.1)
    functions strict (tree.try l (tree.present (tree.catch x b)) f id) h =
        let r = split IsRow (of_all l ++ of_all b) (of_any f) h.1 in
        let q = split IsRow (of_all l) (of_all b) r.0 in
        both _ _ (both _ _ (forests strict l q.0) (forests strict b q.1)) (optionals strict f r.1)
    functions strict (tree.init_expression e) h = functions strict e h
    functions strict (tree.init_var l) h = forests strict l h
    functions strict (tree.declarator x tree.absent) h = tt
    functions strict (tree.declarator x (tree.present e)) h = functions strict e h.1
    functions strict (tree.case e l) h =
        let r = split IsRow (of_any e) (of_all l) h in both _ _ (optionals strict e r.0) (forests strict l r.1)
    functions strict (tree.branch_of l) h = forests strict l h
    functions strict (tree.catch x l) h = forests strict l h
    functions strict _ h = tt

    forests : {x : Sort} (strict : Bool) (l : Forest ℕ x) → AllRows IsRow l → AllOwned (forest_functions strict l)
    forests strict tree.end h = tt
    forests strict (tree.more t l) h =
        let r = split IsRow (of t) (of_all l) h in both _ _ (functions strict t r.0) (forests strict l r.1)

    optionals : {x : Sort} (strict : Bool) (m : OptionalTree ℕ x) → RowsIfPresent IsRow m
        → AllOwned (optional_functions strict m)
    optionals strict tree.absent h = tt
    optionals strict (tree.present t) h = functions strict t h
