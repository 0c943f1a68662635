-- The ids of the operations of a numbered tree are the numbers from its first id on.
use Rattle.std.proofs.Common.{◌≡◌, ℕ, ◌+◌, suc, List, [], ◌∷◌, ◌++◌, refl, arith, Option, Some, None}
use Rattle.std.specs.List.{range_with_len}
use Rattle.std.proofs.lemmas.List.{map-append}
use Rattle.jl_ast.specs.declared.ops.BinOp.{BinOp}
use Rattle.jl_ast.specs.declared.ops.UnOp.{UnOp}
use Rattle.jl_ast.specs.declared.ops.UnOp.TheVariants as un
use Rattle.jl_ast.specs.Tree.{Program, Sort, expr, target, Tree, Forest, OptionalTree, this, name, number, string}
use Rattle.jl_ast.specs.Tree.{boolean}
use Rattle.jl_ast.specs.Tree.{null, array, object, function_expression, dot, index, call, new, unary, update, binary}
use Rattle.jl_ast.specs.Tree.{and, or, conditional, assign, comma, to_name, to_dot, to_index, hole, filled, value}
use Rattle.jl_ast.specs.Tree.{getter, setter, function, body, var, empty, expression, block, if_else, do_while, while}
use Rattle.jl_ast.specs.Tree.{for, for_in, continue, break, return, labelled, switch, throw, try, debugger, nothing}
use Rattle.jl_ast.specs.Tree.{init_expression, init_var, declarator, case, branch_of, catch, end, more, absent}
use Rattle.jl_ast.specs.Tree.{present}
use Rattle.jl_ast.proofs.Counted.{range-append}
use Rattle.jl_op.specs.declared.kind.OpKind.{OpKind}
use Rattle.jl_op.specs.declared.kind.OpKind.TheVariants as kind
use Rattle.jl_op.specs.Ids.{id_count, forest_id_count, optional_id_count, unary_id_count, with_ids, forest_with_ids}
use Rattle.jl_op.specs.Ids.{optional_with_ids, callee_with_ids, member_ids, assignment_id_count, one_if_present}
use Rattle.jl_op.specs.IdMap.{MapEntries, ids_in, id_of, entries, forest_entries, optional_entries, call_entries}
use Rattle.jl_op.specs.IdMap.{unary_entries, compute_entries, assign_entries, optional_test_entries}

pub first : (i n m a c : ℕ) (l : List ℕ) → i ≡ n → n + 1 ≡ m → c ≡ suc a → l ≡ range_with_len m a →
    i ∷ l ≡ range_with_len n c
first i n m a c l e f s r = cc (e, f, s, r)

moved : (l : List ℕ) (m n a : ℕ) → m ≡ n → l ≡ range_with_len m a → l ≡ range_with_len n a
moved l m n a e h = cc (e, h)

two : (xs ys : MapEntries ℕ) (n a m b c : ℕ) → n + a ≡ m → c ≡ a + b → ids_in xs ≡ range_with_len n a →
    ids_in ys ≡ range_with_len m b → ids_in (xs ++ ys) ≡ range_with_len n c
two xs ys n a m b c e s l r = cc (map-append (λ e. e.1) xs ys, l, r, s, range-append n a b m e)

method : (n a c : ℕ) (l : List ℕ) → c ≡ 3 + a → l ≡ range_with_len (n + 3) a →
    (n + 0) ∷ ((n + 1 + 0) ∷ ((n + 1 + 1) ∷ l)) ≡ range_with_len n c
method n a c l e h =
    first _ n (n + 1) (2 + a) c _ (omega arith) refl (omega arith)
    (first _ (n + 1) (n + 2) (1 + a) (2 + a) _ (omega arith) (omega arith) (omega arith)
    (first _ (n + 2) (n + 3) a (1 + a) _ (omega arith) (omega arith) (omega arith) h))

invoked : (i n a : ℕ) (l : List ℕ) → i ≡ n → l ≡ range_with_len (n + 2) a →
    (i + 0) ∷ ((i + 1) ∷ l) ≡ range_with_len n (2 + a)
invoked i n a l e h =
    first _ n (n + 1) (1 + a) (2 + a) _ (omega arith) refl (omega arith)
    (first _ (n + 1) (n + 2) a (1 + a) _ (omega arith) (omega arith) (omega arith) h)

three : (n : ℕ) → (n + 0) ∷ ((n + 1) ∷ ((n + 2) ∷ [])) ≡ range_with_len n 3
three n =
    first _ n (n + 1) 2 3 _ (omega arith) refl refl (first _ (n + 1) (n + 2) 1 2 _ (omega arith) (omega arith) refl
    (first _ (n + 2) (n + 3) 0 1 _ (omega arith) (omega arith) refl refl))

compute_ids : {S : Type 0} (n m : ℕ) (t : Tree S target) (k : OpKind) →
    ids_in (compute_entries id_of (with_ids m t) k n) ≡ range_with_len n 3
compute_ids n m (to_name x) k = three n
compute_ids n m (to_dot o j s) k = three n
compute_ids n m (to_index o j s) k = three n

assign_ids : {S : Type 0} (n m : ℕ) (o : Option BinOp) (t : Tree S target) →
    ids_in (assign_entries id_of o (with_ids m t) n) ≡ range_with_len n (assignment_id_count o)
assign_ids n m None (to_name x) = first _ n (n + 1) 0 1 _ (omega arith) refl refl refl
assign_ids n m None (to_dot o j s) = first _ n (n + 1) 0 1 _ (omega arith) refl refl refl
assign_ids n m None (to_index o j s) = first _ n (n + 1) 0 1 _ (omega arith) refl refl refl
assign_ids n m (Some o) t = compute_ids n m t kind.Binary

test_ids : {S : Type 0} (n m : ℕ) (e : OptionalTree S expr) →
    ids_in (optional_test_entries id_of n (optional_with_ids m e)) ≡ range_with_len n (one_if_present e)
test_ids n m absent = refl
test_ids n m (present t) = refl

mutual
  pub ids_from : {S : Type 0} {x : Sort} (n : ℕ) (t : Tree S x) →
      ids_in (entries id_of (with_ids n t)) ≡ range_with_len n (id_count t)
  ids_from n (this s) = refl
  ids_from n (name x s) = first (n + 0) n (n + 1) 0 1 _ (omega arith) (omega arith) (omega arith) refl
  ids_from n (number m s) = first (n + 0) n (n + 1) 0 1 _ (omega arith) (omega arith) (omega arith) refl
  ids_from n (string t s) = first (n + 0) n (n + 1) 0 1 _ (omega arith) (omega arith) (omega arith) refl
  ids_from n (boolean b s) = first (n + 0) n (n + 1) 0 1 _ (omega arith) (omega arith) (omega arith) refl
  ids_from n (null s) = first (n + 0) n (n + 1) 0 1 _ (omega arith) (omega arith) (omega arith) refl
  ids_from n (array l s) = first (n + 0) n (n + 1) (forest_id_count l) (1 + forest_id_count l) _ (omega arith)
      (omega arith) (omega arith) (forest_ids_from (n + 1) l)
  ids_from n (object l s) = first (n + 0) n (n + 1) (forest_id_count l) (1 + forest_id_count l) _ (omega arith)
      (omega arith) (omega arith) (forest_ids_from (n + 1) l)
  ids_from n (function_expression f s) = first (n + 0) n (n + 1) (id_count f) (1 + id_count f) _ (omega arith)
      (omega arith) (omega arith) (ids_from (n + 1) f)
  ids_from n (dot o k s) = first (n + 0) n (n + 1) (id_count o) (1 + id_count o) _ (omega arith) (omega arith)
      (omega arith) (ids_from (n + 1) o)
  ids_from n (index o k s) = first (n + 0) n (n + 1) (id_count o + id_count k) (1 + id_count o + id_count k) _
      (omega arith) (omega arith) (omega arith) (two _ _ _ (id_count o) (n + 1 + id_count o) (id_count k)
      (id_count o + id_count k) (omega arith) (omega arith) (ids_from (n + 1) o) (ids_from
      (n + 1 + id_count o) k))
  ids_from n (call f l s) = two _ _ _ ((2 + id_count f)) (n + 2 + id_count f) (forest_id_count l)
      ((2 + id_count f) + forest_id_count l) (omega arith) (omega arith) (callee_ids n f (ids_from (n + 2) f))
      (forest_ids_from (n + 2 + id_count f) l)
  ids_from n (new f l s) = first (n + 0) n (n + 1) (1 + (id_count f + forest_id_count l))
      (2 + id_count f + forest_id_count l) _ (omega arith) (omega arith) (omega arith) (first (n + 1) (n + 1)
      (n + 2) (id_count f + forest_id_count l) (1 + (id_count f + forest_id_count l)) _ (omega arith)
      (omega arith) (omega arith) (two _ _ _ (id_count f) (n + 2 + id_count f) (forest_id_count l)
      (id_count f + forest_id_count l) (omega arith) (omega arith) (ids_from (n + 2) f) (forest_ids_from
      (n + 2 + id_count f) l)))
  ids_from n (unary un.Minus e s) = first (n + 0) n (n + 1) (id_count e) (1 + id_count e) _ (omega arith)
      (omega arith) (omega arith) (ids_from (n + 1) e)
  ids_from n (unary un.Plus e s) = first (n + 0) n (n + 1) (id_count e) (1 + id_count e) _ (omega arith)
      (omega arith) (omega arith) (ids_from (n + 1) e)
  ids_from n (unary un.Not e s) = first (n + 0) n (n + 1) (id_count e) (1 + id_count e) _ (omega arith)
      (omega arith) (omega arith) (ids_from (n + 1) e)
  ids_from n (unary un.Tilde e s) = first (n + 0) n (n + 1) (id_count e) (1 + id_count e) _ (omega arith)
      (omega arith) (omega arith) (ids_from (n + 1) e)
  ids_from n (unary un.Typeof e s) = typeof_ids n e (ids_from (n + 1) e)
  ids_from n (unary un.Void e s) = first (n + 0) n (n + 1) (id_count e) (1 + id_count e) _ (omega arith)
      (omega arith) (omega arith) (ids_from (n + 1) e)
  ids_from n (unary un.Delete e s) = delete_ids n e (ids_from n e)
  ids_from n (update up prefix t s) = two _ _ _ 3 (n + 3) (id_count t) (3 + id_count t) (omega arith) (omega arith)
      (compute_ids n (n + 3) t kind.Unary) (ids_from (n + 3) t)
  ids_from n (binary o a b s) = first (n + 0) n (n + 1) (id_count a + id_count b) (1 + id_count a + id_count b) _
      (omega arith) (omega arith) (omega arith) (two _ _ _ (id_count a) (n + 1 + id_count a) (id_count b)
      (id_count a + id_count b) (omega arith) (omega arith) (ids_from (n + 1) a) (ids_from
      (n + 1 + id_count a) b))
  ids_from n (and a b s) = first n n (n + 1) (id_count a + id_count b) (1 + id_count a + id_count b) _
      (omega arith) (omega arith) (omega arith) (two _ _ _ (id_count a) (n + 1 + id_count a) (id_count b)
      (id_count a + id_count b) (omega arith) (omega arith) (ids_from (n + 1) a) (ids_from
      (n + 1 + id_count a) b))
  ids_from n (or a b s) = first n n (n + 1) (id_count a + id_count b) (1 + id_count a + id_count b) _ (omega arith)
      (omega arith) (omega arith) (two _ _ _ (id_count a) (n + 1 + id_count a) (id_count b)
      (id_count a + id_count b) (omega arith) (omega arith) (ids_from (n + 1) a) (ids_from
      (n + 1 + id_count a) b))
  ids_from n (conditional a b c s) = first n n (n + 1) (id_count a + id_count b + id_count c)
      (1 + id_count a + id_count b + id_count c) _ (omega arith) (omega arith) (omega arith) (two _ _ _
      (id_count a + id_count b) (n + 1 + id_count a + id_count b) (id_count c)
      (id_count a + id_count b + id_count c) (omega arith) (omega arith) (two _ _ _ (id_count a)
      (n + 1 + id_count a) (id_count b) (id_count a + id_count b) (omega arith) (omega arith) (ids_from
      (n + 1) a) (ids_from (n + 1 + id_count a) b)) (ids_from (n + 1 + id_count a + id_count b) c))
  ids_from n (assign o t e s) = two _ _ _ (assignment_id_count o + id_count t)
      (n + assignment_id_count o + id_count t) (id_count e) (assignment_id_count o + id_count t + id_count e)
      (omega arith) (omega arith) (two _ _ _ (assignment_id_count o) (n + assignment_id_count o) (id_count t)
      (assignment_id_count o + id_count t) (omega arith) (omega arith) (assign_ids n
      (n + assignment_id_count o) o t) (ids_from (n + assignment_id_count o) t)) (ids_from
      (n + assignment_id_count o + id_count t) e)
  ids_from n (comma a b s) = two _ _ _ (id_count a) (n + id_count a) (id_count b) (id_count a + id_count b)
      (omega arith) (omega arith) (ids_from n a) (ids_from (n + id_count a) b)
  ids_from n (to_name x) = refl
  ids_from n (to_dot o k s) = ids_from n o
  ids_from n (to_index o k s) = two _ _ _ (id_count o) (n + id_count o) (id_count k) (id_count o + id_count k)
      (omega arith) (omega arith) (ids_from n o) (ids_from (n + id_count o) k)
  ids_from n hole = refl
  ids_from n (filled e) = ids_from n e
  ids_from n (value k e) = ids_from n e
  ids_from n (getter k f) = ids_from n f
  ids_from n (setter k f) = ids_from n f
  ids_from n (function m x params b s) = first (n + 0) n (n + 1) (1 + (id_count b)) (2 + id_count b) _
      (omega arith) (omega arith) (omega arith) (first (n + 1) (n + 1) (n + 2) (id_count b) (1 + (id_count b)) _
      (omega arith) (omega arith) (omega arith) (ids_from (n + 2) b))
  ids_from n (body strict fs l) = two _ _ _ (forest_id_count fs) (n + forest_id_count fs) (forest_id_count l)
      (forest_id_count fs + forest_id_count l) (omega arith) (omega arith) (forest_ids_from n fs) (forest_ids_from
      (n + forest_id_count fs) l)
  ids_from n (var l s) = forest_ids_from n l
  ids_from n (empty s) = refl
  ids_from n (expression e s) = ids_from n e
  ids_from n (block l s) = forest_ids_from n l
  ids_from n (if_else c a b s) = first n n (n + 1) (id_count c + forest_id_count a + optional_id_count b)
      (1 + id_count c + forest_id_count a + optional_id_count b) _ (omega arith) (omega arith) (omega arith)
      (two _ _ _ (id_count c + forest_id_count a) (n + 1 + id_count c + forest_id_count a)
      (optional_id_count b) (id_count c + forest_id_count a + optional_id_count b) (omega arith) (omega arith)
      (two _ _ _ (id_count c) (n + 1 + id_count c) (forest_id_count a) (id_count c + forest_id_count a)
      (omega arith) (omega arith) (ids_from (n + 1) c) (forest_ids_from (n + 1 + id_count c) a))
      (optional_ids_from (n + 1 + id_count c + forest_id_count a) b))
  ids_from n (do_while l c s) = first n n (n + 1) (forest_id_count l + id_count c)
      (1 + forest_id_count l + id_count c) _ (omega arith) (omega arith) (omega arith) (two _ _ _
      (forest_id_count l) (n + 1 + forest_id_count l) (id_count c) (forest_id_count l + id_count c)
      (omega arith) (omega arith) (forest_ids_from (n + 1) l) (ids_from (n + 1 + forest_id_count l) c))
  ids_from n (while c l s) = first n n (n + 1) (id_count c + forest_id_count l)
      (1 + id_count c + forest_id_count l) _ (omega arith) (omega arith) (omega arith) (two _ _ _ (id_count c)
      (n + 1 + id_count c) (forest_id_count l) (id_count c + forest_id_count l) (omega arith) (omega arith)
      (ids_from (n + 1) c) (forest_ids_from (n + 1 + id_count c) l))
  ids_from n (for i e u l s) = two _ _ _
      (one_if_present e + id_count i + optional_id_count e + optional_id_count u)
      (n + one_if_present e + id_count i + optional_id_count e + optional_id_count u) (forest_id_count l)
      (one_if_present e + id_count i + optional_id_count e + optional_id_count u + forest_id_count l)
      (omega arith) (omega arith) (two _ _ _ (one_if_present e + id_count i + optional_id_count e)
      (n + one_if_present e + id_count i + optional_id_count e) (optional_id_count u)
      (one_if_present e + id_count i + optional_id_count e + optional_id_count u) (omega arith) (omega arith)
      (two _ _ _ (one_if_present e + id_count i) (n + one_if_present e + id_count i) (optional_id_count e)
      (one_if_present e + id_count i + optional_id_count e) (omega arith) (omega arith) (two _ _ _
      (one_if_present e) (n + one_if_present e) (id_count i) (one_if_present e + id_count i) (omega arith)
      (omega arith) (test_ids n (n + one_if_present e + id_count i) e) (ids_from (n + one_if_present e) i))
      (optional_ids_from (n + one_if_present e + id_count i) e)) (optional_ids_from
      (n + one_if_present e + id_count i + optional_id_count e) u)) (forest_ids_from
      (n + one_if_present e + id_count i + optional_id_count e + optional_id_count u) l)
  ids_from n (for_in is_var x o l s) = first (n + 0) n (n + 1) (id_count o + forest_id_count l)
      (1 + id_count o + forest_id_count l) _ (omega arith) (omega arith) (omega arith) (two _ _ _ (id_count o)
      (n + 1 + id_count o) (forest_id_count l) (id_count o + forest_id_count l) (omega arith) (omega arith)
      (ids_from (n + 1) o) (forest_ids_from (n + 1 + id_count o) l))
  ids_from n (continue x s) = refl
  ids_from n (break x s) = refl
  ids_from n (return absent s) = refl
  ids_from n (return (present e) s) = first (n + 0) n (n + 1) (id_count e) (1 + id_count e) _ (omega arith)
      (omega arith) (omega arith) (ids_from (n + 1) e)
  ids_from n (labelled x t s) = ids_from n t
  ids_from n (switch e l s) = two _ _ _ (id_count e) (n + id_count e) (forest_id_count l)
      (id_count e + forest_id_count l) (omega arith) (omega arith) (ids_from n e) (forest_ids_from (n + id_count e) l)
  ids_from n (throw e s) = first (n + 0) n (n + 1) (id_count e) (1 + id_count e) _ (omega arith) (omega arith)
      (omega arith) (ids_from (n + 1) e)
  ids_from n (try l absent f s) = two _ _ _ (forest_id_count l) (n + 0 + forest_id_count l + 0) (optional_id_count f)
      (0 + forest_id_count l + 0 + optional_id_count f) (omega arith) (omega arith)
      (moved _ (n + 0) n _ (omega arith) (forest_ids_from (n + 0) l)) (optional_ids_from
      (n + 0 + forest_id_count l + 0) f)
  ids_from n (try l (present (catch x h)) f s) = first (n + 0) n (n + 1)
      (forest_id_count l + forest_id_count h + optional_id_count f)
      (1 + forest_id_count l + forest_id_count h + optional_id_count f) _ (omega arith) (omega arith)
      (omega arith) (two _ _ _ (forest_id_count l + forest_id_count h)
      (n + 1 + forest_id_count l + forest_id_count h) (optional_id_count f)
      (forest_id_count l + forest_id_count h + optional_id_count f) (omega arith) (omega arith) (two _ _ _
      (forest_id_count l) (n + 1 + forest_id_count l) (forest_id_count h)
      (forest_id_count l + forest_id_count h) (omega arith) (omega arith) (forest_ids_from (n + 1) l)
      (forest_ids_from (n + 1 + forest_id_count l) h)) (optional_ids_from
      (n + 1 + forest_id_count l + forest_id_count h) f))
  ids_from n (debugger s) = refl
  ids_from n nothing = refl
  ids_from n (init_expression e) = ids_from n e
  ids_from n (init_var l) = forest_ids_from n l
  ids_from n (declarator x absent) = refl
  ids_from n (declarator x (present e)) = first (n + 0) n (n + 1) (id_count e) (1 + id_count e) _ (omega arith)
      (omega arith) (omega arith) (ids_from (n + 1) e)
  ids_from n (case e l) = two _ _ _ (optional_id_count e) (n + optional_id_count e) (forest_id_count l)
      (optional_id_count e + forest_id_count l) (omega arith) (omega arith) (optional_ids_from n e)
      (forest_ids_from (n + optional_id_count e) l)
  ids_from n (branch_of l) = forest_ids_from n l
  ids_from n (catch x l) = forest_ids_from n l

  pub forest_ids_from : {S : Type 0} {x : Sort} (n : ℕ) (l : Forest S x) →
      ids_in (forest_entries id_of (forest_with_ids n l)) ≡ range_with_len n (forest_id_count l)
  forest_ids_from n end = refl
  forest_ids_from n (more t l) = two _ _ _ (id_count t) (n + id_count t) (forest_id_count l)
      (id_count t + forest_id_count l) (omega arith) (omega arith) (ids_from n t) (forest_ids_from (n + id_count t) l)

  pub optional_ids_from : {S : Type 0} {x : Sort} (n : ℕ) (o : OptionalTree S x) →
      ids_in (optional_entries id_of (optional_with_ids n o)) ≡ range_with_len n (optional_id_count o)
  optional_ids_from n absent = refl
  optional_ids_from n (present t) = ids_from n t

  -- a callee, of which by itself this is so
  callee_ids : {S : Type 0} (n : ℕ) (f : Tree S expr) →
      ids_in (entries id_of (with_ids (n + 2) f)) ≡ range_with_len (n + 2) (id_count f) →
      ids_in (call_entries id_of (callee_with_ids n f (with_ids (n + 2) f)) (n + member_ids f)
      (entries id_of (callee_with_ids n f (with_ids (n + 2) f)))) ≡ range_with_len n (2 + id_count f)
  callee_ids n (this s) h = invoked (n + 0) n (id_count (this s)) _ (omega arith) h
  callee_ids n (name x s) h = invoked (n + 0) n (id_count (name x s)) _ (omega arith) h
  callee_ids n (number m s) h = invoked (n + 0) n (id_count (number m s)) _ (omega arith) h
  callee_ids n (string t s) h = invoked (n + 0) n (id_count (string t s)) _ (omega arith) h
  callee_ids n (boolean b s) h = invoked (n + 0) n (id_count (boolean b s)) _ (omega arith) h
  callee_ids n (null s) h = invoked (n + 0) n (id_count (null s)) _ (omega arith) h
  callee_ids n (array l s) h = invoked (n + 0) n (id_count (array l s)) _ (omega arith) h
  callee_ids n (object l s) h = invoked (n + 0) n (id_count (object l s)) _ (omega arith) h
  callee_ids n (function_expression f s) h = invoked (n + 0) n (id_count (function_expression f s)) _ (omega arith) h
  callee_ids n (dot o k s) h = method _ (id_count o) _ _ (omega arith) (ids_from (n + 3) o)
  callee_ids n (index o k s) h = method _ (id_count o + id_count k) _ _ (omega arith)
      (two _ _ _ (id_count o) (n + 3 + id_count o) (id_count k) (id_count o + id_count k) (omega arith) (omega arith)
      (ids_from (n + 3) o) (ids_from (n + 3 + id_count o) k))
  callee_ids n (call f l s) h = invoked (n + 0) n (id_count (call f l s)) _ (omega arith) h
  callee_ids n (new f l s) h = invoked (n + 0) n (id_count (new f l s)) _ (omega arith) h
  callee_ids n (unary un.Minus e s) h = invoked (n + 0) n (id_count (unary un.Minus e s)) _ (omega arith) h
  callee_ids n (unary un.Plus e s) h = invoked (n + 0) n (id_count (unary un.Plus e s)) _ (omega arith) h
  callee_ids n (unary un.Not e s) h = invoked (n + 0) n (id_count (unary un.Not e s)) _ (omega arith) h
  callee_ids n (unary un.Tilde e s) h = invoked (n + 0) n (id_count (unary un.Tilde e s)) _ (omega arith) h
  callee_ids n (unary un.Typeof e s) h = invoked (n + 0) n (id_count (unary un.Typeof e s)) _ (omega arith) h
  callee_ids n (unary un.Void e s) h = invoked (n + 0) n (id_count (unary un.Void e s)) _ (omega arith) h
  callee_ids n (unary un.Delete e s) h = invoked (n + 0) n (id_count (unary un.Delete e s)) _ (omega arith) h
  callee_ids n (update up prefix t s) h = invoked (n + 0) n (id_count (update up prefix t s)) _ (omega arith) h
  callee_ids n (binary o a b s) h = invoked (n + 0) n (id_count (binary o a b s)) _ (omega arith) h
  callee_ids n (and a b s) h = invoked (n + 0) n (id_count (and a b s)) _ (omega arith) h
  callee_ids n (or a b s) h = invoked (n + 0) n (id_count (or a b s)) _ (omega arith) h
  callee_ids n (conditional a b c s) h = invoked (n + 0) n (id_count (conditional a b c s)) _ (omega arith) h
  callee_ids n (assign o t e s) h = invoked (n + 0) n (id_count (assign o t e s)) _ (omega arith) h
  callee_ids n (comma a b s) h = invoked (n + 0) n (id_count (comma a b s)) _ (omega arith) h

  -- what `delete` takes
  delete_ids : {S : Type 0} (n : ℕ) (e : Tree S expr) →
      ids_in (entries id_of (with_ids n e)) ≡ range_with_len n (id_count e) →
      ids_in (unary_entries id_of un.Delete (with_ids n e) n (entries id_of (with_ids n e)))
      ≡ range_with_len n (unary_id_count un.Delete e (id_count e))
  delete_ids n (this s) h = h
  delete_ids n (name x s) h = refl
  delete_ids n (number m s) h = h
  delete_ids n (string t s) h = h
  delete_ids n (boolean b s) h = h
  delete_ids n (null s) h = h
  delete_ids n (array l s) h = h
  delete_ids n (object l s) h = h
  delete_ids n (function_expression f s) h = h
  delete_ids n (dot o k s) h = first (n + 0) n (n + 1) (id_count o) (1 + id_count o) _ (omega arith) (omega arith)
      (omega arith) (ids_from (n + 1) o)
  delete_ids n (index o k s) h = first (n + 0) n (n + 1) (id_count o + id_count k) (1 + id_count o + id_count k) _
      (omega arith) (omega arith) (omega arith) (two _ _ _ (id_count o) (n + 1 + id_count o) (id_count k)
      (id_count o + id_count k) (omega arith) (omega arith) (ids_from (n + 1) o) (ids_from
      (n + 1 + id_count o) k))
  delete_ids n (call f l s) h = h
  delete_ids n (new f l s) h = h
  delete_ids n (unary un.Minus e s) h = h
  delete_ids n (unary un.Plus e s) h = h
  delete_ids n (unary un.Not e s) h = h
  delete_ids n (unary un.Tilde e s) h = h
  delete_ids n (unary un.Typeof e s) h = h
  delete_ids n (unary un.Void e s) h = h
  delete_ids n (unary un.Delete e s) h = h
  delete_ids n (update up prefix t s) h = h
  delete_ids n (binary o a b s) h = h
  delete_ids n (and a b s) h = h
  delete_ids n (or a b s) h = h
  delete_ids n (conditional a b c s) h = h
  delete_ids n (assign o t e s) h = h
  delete_ids n (comma a b s) h = h

  -- what `typeof` takes
  typeof_ids : {S : Type 0} (n : ℕ) (e : Tree S expr) →
      ids_in (entries id_of (with_ids (n + 1) e)) ≡ range_with_len (n + 1) (id_count e) →
      ids_in (unary_entries id_of un.Typeof (with_ids (n + 1) e) n (entries id_of (with_ids (n + 1) e)))
      ≡ range_with_len n (unary_id_count un.Typeof e (id_count e))
  typeof_ids n (this s) h = first (n + 0) n (n + 1) (id_count (this s)) (1 + id_count (this s)) _ (omega arith)
      (omega arith) (omega arith) h
  typeof_ids n (name x s) h = first (n + 0) n (n + 1) 0 1 _ (omega arith) (omega arith) (omega arith) refl
  typeof_ids n (number m s) h = first (n + 0) n (n + 1) (id_count (number m s)) (1 + id_count (number m s)) _
      (omega arith) (omega arith) (omega arith) h
  typeof_ids n (string t s) h = first (n + 0) n (n + 1) (id_count (string t s)) (1 + id_count (string t s)) _
      (omega arith) (omega arith) (omega arith) h
  typeof_ids n (boolean b s) h = first (n + 0) n (n + 1) (id_count (boolean b s)) (1 + id_count (boolean b s)) _
      (omega arith) (omega arith) (omega arith) h
  typeof_ids n (null s) h = first (n + 0) n (n + 1) (id_count (null s)) (1 + id_count (null s)) _ (omega arith)
      (omega arith) (omega arith) h
  typeof_ids n (array l s) h = first (n + 0) n (n + 1) (id_count (array l s)) (1 + id_count (array l s)) _
      (omega arith) (omega arith) (omega arith) h
  typeof_ids n (object l s) h = first (n + 0) n (n + 1) (id_count (object l s)) (1 + id_count (object l s)) _
      (omega arith) (omega arith) (omega arith) h
  typeof_ids n (function_expression f s) h = first (n + 0) n (n + 1) (id_count (function_expression f s))
      (1 + id_count (function_expression f s)) _ (omega arith) (omega arith) (omega arith) h
  typeof_ids n (dot o k s) h = first (n + 0) n (n + 1) (id_count (dot o k s)) (1 + id_count (dot o k s)) _
      (omega arith) (omega arith) (omega arith) h
  typeof_ids n (index o k s) h = first (n + 0) n (n + 1) (id_count (index o k s)) (1 + id_count (index o k s)) _
      (omega arith) (omega arith) (omega arith) h
  typeof_ids n (call f l s) h = first (n + 0) n (n + 1) (id_count (call f l s)) (1 + id_count (call f l s)) _
      (omega arith) (omega arith) (omega arith) h
  typeof_ids n (new f l s) h = first (n + 0) n (n + 1) (id_count (new f l s)) (1 + id_count (new f l s)) _
      (omega arith) (omega arith) (omega arith) h
  typeof_ids n (unary un.Minus e s) h = first (n + 0) n (n + 1) (id_count (unary un.Minus e s)) (1 + id_count
      (unary un.Minus e s)) _ (omega arith) (omega arith) (omega arith) h
  typeof_ids n (unary un.Plus e s) h = first (n + 0) n (n + 1) (id_count (unary un.Plus e s)) (1 + id_count
      (unary un.Plus e s)) _ (omega arith) (omega arith) (omega arith) h
  typeof_ids n (unary un.Not e s) h = first (n + 0) n (n + 1) (id_count (unary un.Not e s)) (1 + id_count
      (unary un.Not e s)) _ (omega arith) (omega arith) (omega arith) h
  typeof_ids n (unary un.Tilde e s) h = first (n + 0) n (n + 1) (id_count (unary un.Tilde e s)) (1 + id_count
      (unary un.Tilde e s)) _ (omega arith) (omega arith) (omega arith) h
  typeof_ids n (unary un.Typeof e s) h = first (n + 0) n (n + 1) (id_count (unary un.Typeof e s)) (1 + id_count
      (unary un.Typeof e s)) _ (omega arith) (omega arith) (omega arith) h
  typeof_ids n (unary un.Void e s) h = first (n + 0) n (n + 1) (id_count (unary un.Void e s)) (1 + id_count
      (unary un.Void e s)) _ (omega arith) (omega arith) (omega arith) h
  typeof_ids n (unary un.Delete e s) h = first (n + 0) n (n + 1) (id_count (unary un.Delete e s)) (1 + id_count
      (unary un.Delete e s)) _ (omega arith) (omega arith) (omega arith) h
  typeof_ids n (update up prefix t s) h = first (n + 0) n (n + 1) (id_count (update up prefix t s)) (1 + id_count
      (update up prefix t s)) _ (omega arith) (omega arith) (omega arith) h
  typeof_ids n (binary o a b s) h = first (n + 0) n (n + 1) (id_count (binary o a b s)) (1 + id_count
      (binary o a b s)) _ (omega arith) (omega arith) (omega arith) h
  typeof_ids n (and a b s) h = first (n + 0) n (n + 1) (id_count (and a b s)) (1 + id_count (and a b s)) _
      (omega arith) (omega arith) (omega arith) h
  typeof_ids n (or a b s) h = first (n + 0) n (n + 1) (id_count (or a b s)) (1 + id_count (or a b s)) _
      (omega arith) (omega arith) (omega arith) h
  typeof_ids n (conditional a b c s) h = first (n + 0) n (n + 1) (id_count (conditional a b c s)) (1 + id_count
      (conditional a b c s)) _ (omega arith) (omega arith) (omega arith) h
  typeof_ids n (assign o t e s) h = first (n + 0) n (n + 1) (id_count (assign o t e s)) (1 + id_count
      (assign o t e s)) _ (omega arith) (omega arith) (omega arith) h
  typeof_ids n (comma a b s) h = first (n + 0) n (n + 1) (id_count (comma a b s)) (1 + id_count (comma a b s)) _
      (omega arith) (omega arith) (omega arith) h
