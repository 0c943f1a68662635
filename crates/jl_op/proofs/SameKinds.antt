-- The kinds of the operations of a numbered tree are those of the map.
use Rattle.std.proofs.Common.{◌≡◌, ℕ, ◌+◌, List, ◌∷◌, ◌++◌, refl, ap, Option, Some, None}
use Rattle.std.proofs.lemmas.List.{map-append}
use Rattle.jl_ast.specs.declared.ops.BinOp.{BinOp}
use Rattle.jl_ast.specs.declared.ops.UnOp.{UnOp}
use Rattle.jl_ast.specs.declared.ops.UnOp.TheVariants as un
use Rattle.jl_ast.specs.Tree.{Program, Sort, expr, target, Tree, Forest, OptionalTree, this, name, number, string}
use Rattle.jl_ast.specs.Tree.{boolean}
use Rattle.jl_ast.specs.Tree.{null, array, object, function_expression, dot, index, call, new, unary, update, binary}
use Rattle.jl_ast.specs.Tree.{and, or, conditional, assign, comma, to_name, to_dot, to_index, hole, filled, value}
use Rattle.jl_ast.specs.Tree.{getter, setter, function, body, var, empty, expression, block, if_else, do_while, while}
use Rattle.jl_ast.specs.Tree.{for, for_in, continue, break, return, labelled, switch, throw, try, debugger, nothing}
use Rattle.jl_ast.specs.Tree.{init_expression, init_var, declarator, case, branch_of, catch, end, more, absent}
use Rattle.jl_ast.specs.Tree.{present}
use Rattle.jl_op.specs.declared.kind.OpKind.{OpKind}
use Rattle.jl_op.specs.declared.kind.OpKind.TheVariants as kind
use Rattle.jl_op.specs.Ids.{id_count, forest_id_count, optional_id_count, with_ids, forest_with_ids}
use Rattle.jl_op.specs.Ids.{optional_with_ids, callee_with_ids, assignment_id_count, one_if_present, member_ids}
use Rattle.jl_op.specs.IdMap.{MapEntries, kinds_in, id_of, place_of, entries, forest_entries, optional_entries}
use Rattle.jl_op.specs.IdMap.{call_entries}
use Rattle.jl_op.specs.IdMap.{unary_entries, compute_entries, assign_entries, optional_test_entries}

join : {T U : Type 0} (xs ys : MapEntries T) (xs' ys' : MapEntries U) → kinds_in xs ≡ kinds_in xs' →
    kinds_in ys ≡ kinds_in ys' → kinds_in (xs ++ ys) ≡ kinds_in (xs' ++ ys')
join xs ys xs' ys' l r = cc (map-append (λ e. e.0) xs ys, map-append (λ e. e.0) xs' ys', l, r)

compute_kinds : {S : Type 0} (n m : ℕ) (t : Tree S target) (s : S) (k : OpKind) →
    kinds_in (compute_entries id_of (with_ids m t) k n) ≡ kinds_in (compute_entries place_of t k s)
compute_kinds n m (to_name x) s k = refl
compute_kinds n m (to_dot o j at) s k = refl
compute_kinds n m (to_index o j at) s k = refl

assign_kinds : {S : Type 0} (n m : ℕ) (o : Option BinOp) (t : Tree S target) (s : S) →
    kinds_in (assign_entries id_of o (with_ids m t) n) ≡ kinds_in (assign_entries place_of o t s)
assign_kinds n m None (to_name x) s = refl
assign_kinds n m None (to_dot o j at) s = refl
assign_kinds n m None (to_index o j at) s = refl
assign_kinds n m (Some o) t s = compute_kinds n m t s kind.Binary

test_kinds : {S : Type 0} (n m : ℕ) (e : OptionalTree S expr) (s : S) →
    kinds_in (optional_test_entries id_of n (optional_with_ids m e)) ≡ kinds_in (optional_test_entries place_of s e)
test_kinds n m absent s = refl
test_kinds n m (present t) s = refl

mutual
  pub same_kinds : {S : Type 0} {x : Sort} (n : ℕ) (t : Tree S x) →
      kinds_in (entries id_of (with_ids n t)) ≡ kinds_in (entries place_of t)
  same_kinds n (this s) = refl
  same_kinds n (name x s) = ap (λ l. kind.Read ∷ l) refl
  same_kinds n (number m s) = ap (λ l. kind.Literal ∷ l) refl
  same_kinds n (string t s) = ap (λ l. kind.Literal ∷ l) refl
  same_kinds n (boolean b s) = ap (λ l. kind.Literal ∷ l) refl
  same_kinds n (null s) = ap (λ l. kind.Literal ∷ l) refl
  same_kinds n (array l s) = ap (λ l. kind.ArrayLiteral ∷ l) (forest_same_kinds (n + 1) l)
  same_kinds n (object l s) = ap (λ l. kind.ObjectLiteral ∷ l) (forest_same_kinds (n + 1) l)
  same_kinds n (function_expression f s) = ap (λ l. kind.FunctionLiteral ∷ l) (same_kinds (n + 1) f)
  same_kinds n (dot o k s) = ap (λ l. kind.GetField ∷ l) (same_kinds (n + 1) o)
  same_kinds n (index o k s) = ap (λ l. kind.GetField ∷ l) (join _ _ _ _ (same_kinds (n + 1) o) (same_kinds
      (n + 1 + id_count o) k))
  same_kinds n (call f l s) = join _ _ _ _ (callee_kinds n f s (same_kinds (n + 2) f)) (forest_same_kinds
      (n + 2 + id_count f) l)
  same_kinds n (new f l s) = ap (λ l. kind.InvokePre ∷ l) (ap (λ l. kind.InvokePost ∷ l) (join _ _ _ _ (same_kinds
      (n + 2) f) (forest_same_kinds (n + 2 + id_count f) l)))
  same_kinds n (unary un.Minus e s) = ap (λ l. kind.Unary ∷ l) (same_kinds (n + 1) e)
  same_kinds n (unary un.Plus e s) = ap (λ l. kind.Unary ∷ l) (same_kinds (n + 1) e)
  same_kinds n (unary un.Not e s) = ap (λ l. kind.Unary ∷ l) (same_kinds (n + 1) e)
  same_kinds n (unary un.Tilde e s) = ap (λ l. kind.Unary ∷ l) (same_kinds (n + 1) e)
  same_kinds n (unary un.Typeof e s) = typeof_kinds n e s (same_kinds (n + 1) e)
  same_kinds n (unary un.Void e s) = ap (λ l. kind.Unary ∷ l) (same_kinds (n + 1) e)
  same_kinds n (unary un.Delete e s) = delete_kinds n e s (same_kinds n e)
  same_kinds n (update up prefix t s) = join _ _ _ _ (compute_kinds n (n + 3) t s kind.Unary) (same_kinds (n + 3) t)
  same_kinds n (binary o a b s) = ap (λ l. kind.Binary ∷ l) (join _ _ _ _ (same_kinds (n + 1) a) (same_kinds
      (n + 1 + id_count a) b))
  same_kinds n (and a b s) = ap (λ l. kind.Conditional ∷ l) (join _ _ _ _ (same_kinds (n + 1) a) (same_kinds
      (n + 1 + id_count a) b))
  same_kinds n (or a b s) = ap (λ l. kind.Conditional ∷ l) (join _ _ _ _ (same_kinds (n + 1) a) (same_kinds
      (n + 1 + id_count a) b))
  same_kinds n (conditional a b c s) = ap (λ l. kind.Conditional ∷ l) (join _ _ _ _ (join _ _ _ _ (same_kinds
      (n + 1) a) (same_kinds (n + 1 + id_count a) b)) (same_kinds (n + 1 + id_count a + id_count b) c))
  same_kinds n (assign o t e s) = join _ _ _ _ (join _ _ _ _ (assign_kinds n (n + assignment_id_count o) o t s)
      (same_kinds (n + assignment_id_count o) t)) (same_kinds (n + assignment_id_count o + id_count t) e)
  same_kinds n (comma a b s) = join _ _ _ _ (same_kinds n a) (same_kinds (n + id_count a) b)
  same_kinds n (to_name x) = refl
  same_kinds n (to_dot o k s) = same_kinds n o
  same_kinds n (to_index o k s) = join _ _ _ _ (same_kinds n o) (same_kinds (n + id_count o) k)
  same_kinds n hole = refl
  same_kinds n (filled e) = same_kinds n e
  same_kinds n (value k e) = same_kinds n e
  same_kinds n (getter k f) = same_kinds n f
  same_kinds n (setter k f) = same_kinds n f
  same_kinds n (function m x params b s) = ap (λ l. kind.FunctionEnter ∷ l) (ap (λ l. kind.FunctionExit ∷ l)
      (same_kinds (n + 2) b))
  same_kinds n (body strict fs l) = join _ _ _ _ (forest_same_kinds n fs) (forest_same_kinds
      (n + forest_id_count fs) l)
  same_kinds n (var l s) = forest_same_kinds n l
  same_kinds n (empty s) = refl
  same_kinds n (expression e s) = same_kinds n e
  same_kinds n (block l s) = forest_same_kinds n l
  same_kinds n (if_else c a b s) = ap (λ l. kind.Conditional ∷ l) (join _ _ _ _ (join _ _ _ _ (same_kinds
      (n + 1) c) (forest_same_kinds (n + 1 + id_count c) a)) (optional_same_kinds
      (n + 1 + id_count c + forest_id_count a) b))
  same_kinds n (do_while l c s) = ap (λ l. kind.Conditional ∷ l) (join _ _ _ _ (forest_same_kinds (n + 1) l)
      (same_kinds (n + 1 + forest_id_count l) c))
  same_kinds n (while c l s) = ap (λ l. kind.Conditional ∷ l) (join _ _ _ _ (same_kinds (n + 1) c)
      (forest_same_kinds (n + 1 + id_count c) l))
  same_kinds n (for i e u l s) = join _ _ _ _ (join _ _ _ _ (join _ _ _ _ (join _ _ _ _ (test_kinds n
      (n + one_if_present e + id_count i) e s) (same_kinds (n + one_if_present e) i)) (optional_same_kinds
      (n + one_if_present e + id_count i) e)) (optional_same_kinds
      (n + one_if_present e + id_count i + optional_id_count e) u)) (forest_same_kinds
      (n + one_if_present e + id_count i + optional_id_count e + optional_id_count u) l)
  same_kinds n (for_in is_var x o l s) = ap (λ l. kind.ForIn ∷ l) (join _ _ _ _ (same_kinds (n + 1) o)
      (forest_same_kinds (n + 1 + id_count o) l))
  same_kinds n (continue x s) = refl
  same_kinds n (break x s) = refl
  same_kinds n (return absent s) = refl
  same_kinds n (return (present e) s) = ap (λ l. kind.Return ∷ l) (same_kinds (n + 1) e)
  same_kinds n (labelled x t s) = same_kinds n t
  same_kinds n (switch e l s) = join _ _ _ _ (same_kinds n e) (forest_same_kinds (n + id_count e) l)
  same_kinds n (throw e s) = ap (λ l. kind.Throw ∷ l) (same_kinds (n + 1) e)
  same_kinds n (try l absent f s) = join _ _ _ _ (forest_same_kinds (n + 0) l) (optional_same_kinds
      (n + 0 + forest_id_count l + 0) f)
  same_kinds n (try l (present (catch x h)) f s) = ap (λ l. kind.Catch ∷ l) (join _ _ _ _ (join _ _ _ _
      (forest_same_kinds (n + 1) l) (forest_same_kinds (n + 1 + forest_id_count l) h)) (optional_same_kinds
      (n + 1 + forest_id_count l + forest_id_count h) f))
  same_kinds n (debugger s) = refl
  same_kinds n nothing = refl
  same_kinds n (init_expression e) = same_kinds n e
  same_kinds n (init_var l) = forest_same_kinds n l
  same_kinds n (declarator x absent) = refl
  same_kinds n (declarator x (present e)) = ap (λ l. kind.Write ∷ l) (same_kinds (n + 1) e)
  same_kinds n (case e l) = join _ _ _ _ (optional_same_kinds n e) (forest_same_kinds (n + optional_id_count e) l)
  same_kinds n (branch_of l) = forest_same_kinds n l
  same_kinds n (catch x l) = forest_same_kinds n l

  pub forest_same_kinds : {S : Type 0} {x : Sort} (n : ℕ) (l : Forest S x) →
      kinds_in (forest_entries id_of (forest_with_ids n l)) ≡ kinds_in (forest_entries place_of l)
  forest_same_kinds n end = refl
  forest_same_kinds n (more t l) = join _ _ _ _ (same_kinds n t) (forest_same_kinds (n + id_count t) l)

  pub optional_same_kinds : {S : Type 0} {x : Sort} (n : ℕ) (o : OptionalTree S x) →
      kinds_in (optional_entries id_of (optional_with_ids n o)) ≡ kinds_in (optional_entries place_of o)
  optional_same_kinds n absent = refl
  optional_same_kinds n (present t) = same_kinds n t

  callee_kinds : {S : Type 0} (n : ℕ) (f : Tree S expr) (s : S) →
      kinds_in (entries id_of (with_ids (n + 2) f)) ≡ kinds_in (entries place_of f) →
      kinds_in (call_entries id_of (callee_with_ids n f (with_ids (n + 2) f)) (n + member_ids f)
      (entries id_of (callee_with_ids n f (with_ids (n + 2) f)))) ≡ kinds_in (call_entries place_of f s
      (entries place_of f))
  callee_kinds n (this at) s h = ap (λ l. kind.InvokePre ∷ (kind.InvokePost ∷ l)) h
  callee_kinds n (name x at) s h = ap (λ l. kind.InvokePre ∷ (kind.InvokePost ∷ l)) h
  callee_kinds n (number m at) s h = ap (λ l. kind.InvokePre ∷ (kind.InvokePost ∷ l)) h
  callee_kinds n (string t at) s h = ap (λ l. kind.InvokePre ∷ (kind.InvokePost ∷ l)) h
  callee_kinds n (boolean b at) s h = ap (λ l. kind.InvokePre ∷ (kind.InvokePost ∷ l)) h
  callee_kinds n (null at) s h = ap (λ l. kind.InvokePre ∷ (kind.InvokePost ∷ l)) h
  callee_kinds n (array l at) s h = ap (λ l. kind.InvokePre ∷ (kind.InvokePost ∷ l)) h
  callee_kinds n (object l at) s h = ap (λ l. kind.InvokePre ∷ (kind.InvokePost ∷ l)) h
  callee_kinds n (function_expression f at) s h = ap (λ l. kind.InvokePre ∷ (kind.InvokePost ∷ l)) h
  callee_kinds n (dot o k at) s h = ap (λ l. kind.GetField ∷ (kind.InvokePre ∷ (kind.InvokePost ∷ l))) (same_kinds
      (n + 3) o)
  callee_kinds n (index o k at) s h =
      ap (λ l. kind.GetField ∷ (kind.InvokePre ∷ (kind.InvokePost ∷ l)))
      (join _ _ _ _ (same_kinds (n + 3) o) (same_kinds (n + 3 + id_count o) k))
  callee_kinds n (call f l at) s h = ap (λ l. kind.InvokePre ∷ (kind.InvokePost ∷ l)) h
  callee_kinds n (new f l at) s h = ap (λ l. kind.InvokePre ∷ (kind.InvokePost ∷ l)) h
  callee_kinds n (unary un.Minus e at) s h = ap (λ l. kind.InvokePre ∷ (kind.InvokePost ∷ l)) h
  callee_kinds n (unary un.Plus e at) s h = ap (λ l. kind.InvokePre ∷ (kind.InvokePost ∷ l)) h
  callee_kinds n (unary un.Not e at) s h = ap (λ l. kind.InvokePre ∷ (kind.InvokePost ∷ l)) h
  callee_kinds n (unary un.Tilde e at) s h = ap (λ l. kind.InvokePre ∷ (kind.InvokePost ∷ l)) h
  callee_kinds n (unary un.Typeof e at) s h = ap (λ l. kind.InvokePre ∷ (kind.InvokePost ∷ l)) h
  callee_kinds n (unary un.Void e at) s h = ap (λ l. kind.InvokePre ∷ (kind.InvokePost ∷ l)) h
  callee_kinds n (unary un.Delete e at) s h = ap (λ l. kind.InvokePre ∷ (kind.InvokePost ∷ l)) h
  callee_kinds n (update up prefix t at) s h = ap (λ l. kind.InvokePre ∷ (kind.InvokePost ∷ l)) h
  callee_kinds n (binary o a b at) s h = ap (λ l. kind.InvokePre ∷ (kind.InvokePost ∷ l)) h
  callee_kinds n (and a b at) s h = ap (λ l. kind.InvokePre ∷ (kind.InvokePost ∷ l)) h
  callee_kinds n (or a b at) s h = ap (λ l. kind.InvokePre ∷ (kind.InvokePost ∷ l)) h
  callee_kinds n (conditional a b c at) s h = ap (λ l. kind.InvokePre ∷ (kind.InvokePost ∷ l)) h
  callee_kinds n (assign o t e at) s h = ap (λ l. kind.InvokePre ∷ (kind.InvokePost ∷ l)) h
  callee_kinds n (comma a b at) s h = ap (λ l. kind.InvokePre ∷ (kind.InvokePost ∷ l)) h

  delete_kinds : {S : Type 0} (n : ℕ) (e : Tree S expr) (s : S) →
      kinds_in (entries id_of (with_ids n e)) ≡ kinds_in (entries place_of e) →
      kinds_in (unary_entries id_of un.Delete (with_ids n e) n (entries id_of (with_ids n e)))
      ≡ kinds_in (unary_entries place_of un.Delete e s (entries place_of e))
  delete_kinds n (this at) s h = h
  delete_kinds n (name x at) s h = refl
  delete_kinds n (number m at) s h = h
  delete_kinds n (string t at) s h = h
  delete_kinds n (boolean b at) s h = h
  delete_kinds n (null at) s h = h
  delete_kinds n (array l at) s h = h
  delete_kinds n (object l at) s h = h
  delete_kinds n (function_expression f at) s h = h
  delete_kinds n (dot o k at) s h = ap (λ l. kind.DeleteField ∷ l) (same_kinds (n + 1) o)
  delete_kinds n (index o k at) s h =
      ap (λ l. kind.DeleteField ∷ l) (join _ _ _ _ (same_kinds (n + 1) o) (same_kinds (n + 1 + id_count o) k))
  delete_kinds n (call f l at) s h = h
  delete_kinds n (new f l at) s h = h
  delete_kinds n (unary un.Minus e at) s h = h
  delete_kinds n (unary un.Plus e at) s h = h
  delete_kinds n (unary un.Not e at) s h = h
  delete_kinds n (unary un.Tilde e at) s h = h
  delete_kinds n (unary un.Typeof e at) s h = h
  delete_kinds n (unary un.Void e at) s h = h
  delete_kinds n (unary un.Delete e at) s h = h
  delete_kinds n (update up prefix t at) s h = h
  delete_kinds n (binary o a b at) s h = h
  delete_kinds n (and a b at) s h = h
  delete_kinds n (or a b at) s h = h
  delete_kinds n (conditional a b c at) s h = h
  delete_kinds n (assign o t e at) s h = h
  delete_kinds n (comma a b at) s h = h

  typeof_kinds : {S : Type 0} (n : ℕ) (e : Tree S expr) (s : S) →
      kinds_in (entries id_of (with_ids (n + 1) e)) ≡ kinds_in (entries place_of e) →
      kinds_in (unary_entries id_of un.Typeof (with_ids (n + 1) e) n (entries id_of (with_ids (n + 1) e)))
      ≡ kinds_in (unary_entries place_of un.Typeof e s (entries place_of e))
  typeof_kinds n (this at) s h = ap (λ l. kind.Unary ∷ l) h
  typeof_kinds n (name x at) s h = refl
  typeof_kinds n (number m at) s h = ap (λ l. kind.Unary ∷ l) h
  typeof_kinds n (string t at) s h = ap (λ l. kind.Unary ∷ l) h
  typeof_kinds n (boolean b at) s h = ap (λ l. kind.Unary ∷ l) h
  typeof_kinds n (null at) s h = ap (λ l. kind.Unary ∷ l) h
  typeof_kinds n (array l at) s h = ap (λ l. kind.Unary ∷ l) h
  typeof_kinds n (object l at) s h = ap (λ l. kind.Unary ∷ l) h
  typeof_kinds n (function_expression f at) s h = ap (λ l. kind.Unary ∷ l) h
  typeof_kinds n (dot o k at) s h = ap (λ l. kind.Unary ∷ l) h
  typeof_kinds n (index o k at) s h = ap (λ l. kind.Unary ∷ l) h
  typeof_kinds n (call f l at) s h = ap (λ l. kind.Unary ∷ l) h
  typeof_kinds n (new f l at) s h = ap (λ l. kind.Unary ∷ l) h
  typeof_kinds n (unary un.Minus e at) s h = ap (λ l. kind.Unary ∷ l) h
  typeof_kinds n (unary un.Plus e at) s h = ap (λ l. kind.Unary ∷ l) h
  typeof_kinds n (unary un.Not e at) s h = ap (λ l. kind.Unary ∷ l) h
  typeof_kinds n (unary un.Tilde e at) s h = ap (λ l. kind.Unary ∷ l) h
  typeof_kinds n (unary un.Typeof e at) s h = ap (λ l. kind.Unary ∷ l) h
  typeof_kinds n (unary un.Void e at) s h = ap (λ l. kind.Unary ∷ l) h
  typeof_kinds n (unary un.Delete e at) s h = ap (λ l. kind.Unary ∷ l) h
  typeof_kinds n (update up prefix t at) s h = ap (λ l. kind.Unary ∷ l) h
  typeof_kinds n (binary o a b at) s h = ap (λ l. kind.Unary ∷ l) h
  typeof_kinds n (and a b at) s h = ap (λ l. kind.Unary ∷ l) h
  typeof_kinds n (or a b at) s h = ap (λ l. kind.Unary ∷ l) h
  typeof_kinds n (conditional a b c at) s h = ap (λ l. kind.Unary ∷ l) h
  typeof_kinds n (assign o t e at) s h = ap (λ l. kind.Unary ∷ l) h
  typeof_kinds n (comma a b at) s h = ap (λ l. kind.Unary ∷ l) h
