-- Trees of which each place passes a test, and the rows of their maps.
use Rattle.std.proofs.Common.{ℕ, [], ◌∷◌, ◌++◌, Option, Some, None}
use Rattle.jl_ast.specs.Numbering.{numbered_forest, numbered_optional, numbered_tree}
use Rattle.jl_ast.specs.Spans.{place}
use Rattle.jl_ast.specs.Tree.{absent, and, array, assign, binary, block, body, boolean, branch_of, break, call, case}
use Rattle.jl_ast.specs.Tree.{catch, comma, conditional, continue, debugger, declarator, do_while, dot, empty, end}
use Rattle.jl_ast.specs.Tree.{expr, expression, filled, for, for_in, function, function_expression, getter, hole}
use Rattle.jl_ast.specs.Tree.{if_else, index, init_expression, init_var, labelled, more, name, new, nothing, null}
use Rattle.jl_ast.specs.Tree.{number, object, or, present, return, setter, string, switch, target, this, throw}
use Rattle.jl_ast.specs.Tree.{to_dot, to_index, to_name, try, unary, update, value, var, while, Forest, OptionalTree}
use Rattle.jl_ast.specs.Tree.{Sort, Tree}
use Rattle.jl_ast.specs.declared.ops.BinOp.{BinOp}
use Rattle.jl_ast.specs.declared.ops.UnOp.TheVariants as un
use Rattle.jl_op.specs.IdMap.{assign_entries, call_entries, compute_entries, entries, forest_entries, insert_second}
use Rattle.jl_op.specs.IdMap.{invoke_entries, optional_entries, optional_test_entries, place_of}
use Rattle.jl_op.specs.IdMap.{unary_entries, without_first, MapEntries, MapEntry}
use Rattle.jl_op.specs.declared.kind.OpKind.{OpKind}
use Rattle.jl_op.specs.declared.kind.OpKind.TheVariants as kind
use Rattle.jl_effects.proofs.Tells.{each_append, Each}

module _ {S : Type 0} (P : S → Type 0) where
  -- the places of nodes, and those of names that are declared with a value or caught
  abbrev mutual
    pub Every : {x : Sort} → Tree S x → Type 0
    Every (this s) = P s
    Every (name a s) = P s
    Every (number a s) = P s
    Every (string a s) = P s
    Every (boolean a s) = P s
    Every (null s) = P s
    Every (array a s) = EveryIn a × P s
    Every (object a s) = EveryIn a × P s
    Every (function_expression a s) = Every a × P s
    Every (dot a b s) = Every a × P s
    Every (index a b s) = Every a × Every b × P s
    Every (call a b s) = Every a × EveryIn b × P s
    Every (new a b s) = Every a × EveryIn b × P s
    Every (unary o a s) = Every a × P s
    Every (update up prefix a s) = Every a × P s
    Every (binary o a b s) = Every a × Every b × P s
    Every (and a b s) = Every a × Every b × P s
    Every (or a b s) = Every a × Every b × P s
    Every (conditional a b c s) = Every a × Every b × Every c × P s
    Every (assign o a b s) = Every a × Every b × P s
    Every (comma a b s) = Every a × Every b × P s
    Every (to_name a) = Unit {0}
    Every (to_dot a b s) = Every a × P s
    Every (to_index a b s) = Every a × Every b × P s
    Every hole = Unit {0}
    Every (filled a) = Every a
    Every (value k a) = Every a
    Every (getter k a) = Every a
    Every (setter k a) = Every a
    Every (function m x params a s) = Every a × P s
    Every (body strict a b) = EveryIn a × EveryIn b
    Every (var a s) = EveryIn a × P s
    Every (empty s) = P s
    Every (expression a s) = Every a × P s
    Every (block a s) = EveryIn a × P s
    Every (if_else a b c s) = Every a × EveryIn b × EveryOf c × P s
    Every (do_while a b s) = EveryIn a × Every b × P s
    Every (while a b s) = Every a × EveryIn b × P s
    Every (for a b c d s) = Every a × EveryOf b × EveryOf c × EveryIn d × P s
    Every (for_in is_var x a b s) = Every a × EveryIn b × P s
    Every (continue x s) = P s
    Every (break x s) = P s
    Every (return a s) = EveryOf a × P s
    Every (labelled x a s) = Every a × P s
    Every (switch a b s) = Every a × EveryIn b × P s
    Every (throw a s) = Every a × P s
    Every (try a b c s) = EveryIn a × EveryOf b × EveryOf c × P s
    Every (debugger s) = P s
    Every nothing = Unit {0}
    Every (init_expression a) = Every a
    Every (init_var a) = EveryIn a
    Every (declarator x a) = P x.at × EveryOf a
    Every (case a b) = EveryOf a × EveryIn b
    Every (branch_of a) = EveryIn a
    Every (catch x a) = P x.at × EveryIn a

    pub EveryIn : {x : Sort} → Forest S x → Type 0
    EveryIn end = Unit {0}
    EveryIn (more t l) = Every t × EveryIn l

    pub EveryOf : {x : Sort} → OptionalTree S x → Type 0
    EveryOf absent = Unit {0}
    EveryOf (present t) = Every t

  -- other numbers of functions change no place
  mutual
    pub every_numbered : {x : Sort} (n : ℕ) (t : Tree S x) → Every t → Every (numbered_tree n t)
    every_numbered n (this s) h = h
    every_numbered n (name a s) h = h
    every_numbered n (number a s) h = h
    every_numbered n (string a s) h = h
    every_numbered n (boolean a s) h = h
    every_numbered n (null s) h = h
    every_numbered n (array a s) h = (all_numbered _ a h.0, h.1)
    every_numbered n (object a s) h = (all_numbered _ a h.0, h.1)
    every_numbered n (function_expression a s) h = (every_numbered _ a h.0, h.1)
    every_numbered n (dot a b s) h = (every_numbered _ a h.0, h.1)
    every_numbered n (index a b s) h = (every_numbered _ a h.0, every_numbered _ b h.1, h.2)
    every_numbered n (call a b s) h = (every_numbered _ a h.0, all_numbered _ b h.1, h.2)
    every_numbered n (new a b s) h = (every_numbered _ a h.0, all_numbered _ b h.1, h.2)
    every_numbered n (unary o a s) h = (every_numbered _ a h.0, h.1)
    every_numbered n (update up prefix a s) h = (every_numbered _ a h.0, h.1)
    every_numbered n (binary o a b s) h = (every_numbered _ a h.0, every_numbered _ b h.1, h.2)
    every_numbered n (and a b s) h = (every_numbered _ a h.0, every_numbered _ b h.1, h.2)
    every_numbered n (or a b s) h = (every_numbered _ a h.0, every_numbered _ b h.1, h.2)
    every_numbered n (conditional a b c s) h =
        (every_numbered _ a h.0, every_numbered _ b h.1, every_numbered _ c h.2, h.3)
    every_numbered n (assign o a b s) h = (every_numbered _ a h.0, every_numbered _ b h.1, h.2)
    every_numbered n (comma a b s) h = (every_numbered _ a h.0, every_numbered _ b h.1, h.2)
    every_numbered n (to_name a) h = tt
    every_numbered n (to_dot a b s) h = (every_numbered _ a h.0, h.1)
    every_numbered n (to_index a b s) h = (every_numbered _ a h.0, every_numbered _ b h.1, h.2)
    every_numbered n hole h = tt
    every_numbered n (filled a) h = every_numbered _ a h
    every_numbered n (value k a) h = every_numbered _ a h
    every_numbered n (getter k a) h = every_numbered _ a h
    every_numbered n (setter k a) h = every_numbered _ a h
    every_numbered n (function m x params a s) h = (every_numbered _ a h.0, h.1)
    every_numbered n (body strict a b) h = (all_numbered _ a h.0, all_numbered _ b h.1)
    every_numbered n (var a s) h = (all_numbered _ a h.0, h.1)
    every_numbered n (empty s) h = h
    every_numbered n (expression a s) h = (every_numbered _ a h.0, h.1)
    every_numbered n (block a s) h = (all_numbered _ a h.0, h.1)
    every_numbered n (if_else a b c s) h = (every_numbered _ a h.0, all_numbered _ b h.1, any_numbered _ c h.2, h.3)
    every_numbered n (do_while a b s) h = (all_numbered _ a h.0, every_numbered _ b h.1, h.2)
    every_numbered n (while a b s) h = (every_numbered _ a h.0, all_numbered _ b h.1, h.2)
    every_numbered n (for a b c d s) h =
        (every_numbered _ a h.0, any_numbered _ b h.1, any_numbered _ c h.2, all_numbered _ d h.3, h.4)
    every_numbered n (for_in is_var x a b s) h = (every_numbered _ a h.0, all_numbered _ b h.1, h.2)
    every_numbered n (continue x s) h = h
    every_numbered n (break x s) h = h
    every_numbered n (return a s) h = (any_numbered _ a h.0, h.1)
    every_numbered n (labelled x a s) h = (every_numbered _ a h.0, h.1)
    every_numbered n (switch a b s) h = (every_numbered _ a h.0, all_numbered _ b h.1, h.2)
    every_numbered n (throw a s) h = (every_numbered _ a h.0, h.1)
    every_numbered n (try a b c s) h = (all_numbered _ a h.0, any_numbered _ b h.1, any_numbered _ c h.2, h.3)
    every_numbered n (debugger s) h = h
    every_numbered n nothing h = tt
    every_numbered n (init_expression a) h = every_numbered _ a h
    every_numbered n (init_var a) h = all_numbered _ a h
    every_numbered n (declarator x a) h = (h.0, any_numbered _ a h.1)
    every_numbered n (case a b) h = (any_numbered _ a h.0, all_numbered _ b h.1)
    every_numbered n (branch_of a) h = all_numbered _ a h
    every_numbered n (catch x a) h = (h.0, all_numbered _ a h.1)

    all_numbered : {x : Sort} (n : ℕ) (l : Forest S x) → EveryIn l → EveryIn (numbered_forest n l)
    all_numbered n end h = tt
    all_numbered n (more t l) h = (every_numbered n t h.0, all_numbered _ l h.1)

    any_numbered : {x : Sort} (n : ℕ) (o : OptionalTree S x) → EveryOf o → EveryOf (numbered_optional n o)
    any_numbered n absent h = tt
    any_numbered n (present t) h = every_numbered n t h

  place_is : (e : Tree S expr) → Every e → P (place e)
  place_is (this s) h = h
  place_is (name a s) h = h
  place_is (number a s) h = h
  place_is (string a s) h = h
  place_is (boolean a s) h = h
  place_is (null s) h = h
  place_is (array a s) h = h.1
  place_is (object a s) h = h.1
  place_is (function_expression a s) h = h.1
  place_is (dot a b s) h = h.1
  place_is (index a b s) h = h.2
  place_is (call a b s) h = h.2
  place_is (new a b s) h = h.2
  place_is (unary o a s) h = h.1
  place_is (update up prefix a s) h = h.1
  place_is (binary o a b s) h = h.2
  place_is (and a b s) h = h.2
  place_is (or a b s) h = h.2
  place_is (conditional a b c s) h = h.3
  place_is (assign o a b s) h = h.2
  place_is (comma a b s) h = h.2

  -- ROWS
  abbrev pub IsIn : MapEntry S → Type 0
  IsIn e = P e.1

  abbrev Rows : MapEntries S → Type 0
  Rows l = Each IsIn l

  append : (l m : MapEntries S) → Rows l → Rows m → Rows (l ++ m)
  append l m h i = each_append IsIn l m h i

  inserted : (l m : MapEntries S) → Rows l → Rows m → Rows (insert_second l m)
  inserted l [] h i = h
  inserted l (e ∷ m) h i = (i.0, append l m h i.1)

  shorter : (l : MapEntries S) → Rows l → Rows (without_first l)
  shorter [] h = tt
  shorter (e ∷ l) h = h.1

  called : (e : Tree S expr) (s : S) (l : MapEntries S) → P s → Rows l → Rows (call_entries place_of e s l)
  called (dot o k at) s l h i = inserted (invoke_entries place_of s) l (h, (h, tt)) i
  called (index o k at) s l h i = inserted (invoke_entries place_of s) l (h, (h, tt)) i
  called e s l h i = (h, (h, i))

  typed : (e : Tree S expr) (s : S) (l : MapEntries S) → P s → Rows l → Rows (unary_entries place_of un.Typeof e s l)
  typed (name x at) s l h i = (h, tt)
  typed e s l h i = (h, i)

  deleted : (e : Tree S expr) (s : S) (l : MapEntries S) → P s → Rows l
      → Rows (unary_entries place_of un.Delete e s l)
  deleted (name x at) s l h i = tt
  deleted (dot o k at) s l h i = (h, shorter l i)
  deleted (index o k at) s l h i = (h, shorter l i)
  deleted e s l h i = i

  computed : (t : Tree S target) (k : OpKind) (s : S) → P s → Rows (compute_entries place_of t k s)
  computed (to_name x) k s h = (h, (h, (h, tt)))
  computed (to_dot o j at) k s h = (h, (h, (h, tt)))
  computed (to_index o j at) k s h = (h, (h, (h, tt)))

  assigned : (o : Option BinOp) (t : Tree S target) (s : S) → P s → Rows (assign_entries place_of o t s)
  assigned None (to_name x) s h = (h, tt)
  assigned None (to_dot o k at) s h = (h, tt)
  assigned None (to_index o k at) s h = (h, tt)
  assigned (Some o) t s h = computed t kind.Binary s h

  tested : (s : S) (o : OptionalTree S expr) → EveryOf o → Rows (optional_test_entries place_of s o)
  tested s absent h = tt
  tested s (present e) h = (place_is e h, tt)

  abbrev of : {x : Sort} → Tree S x → MapEntries S
  of t = entries place_of t

  abbrev of_all : {x : Sort} → Forest S x → MapEntries S
  of_all l = forest_entries place_of l

  abbrev of_any : {x : Sort} → OptionalTree S x → MapEntries S
  of_any o = optional_entries place_of o

  mutual
    pub rows : {x : Sort} (t : Tree S x) → Every t → Rows (of t)
    rows (this s) h = tt
    rows (name x s) h = (h, tt)
    rows (number n s) h = (h, tt)
    rows (string t s) h = (h, tt)
    rows (boolean b s) h = (h, tt)
    rows (null s) h = (h, tt)
    rows (array l s) h = (h.1, all_rows l h.0)
    rows (object l s) h = (h.1, all_rows l h.0)
    rows (function_expression f s) h = (h.1, rows f h.0)
    rows (dot o k s) h = (h.1, rows o h.0)
    rows (index o k s) h = (h.2, append (of o) (of k) (rows o h.0) (rows k h.1))
    rows (call e l s) h = append (call_entries place_of e s (of e)) (of_all l) (called e s (of e) h.2 (rows e h.0))
        (all_rows l h.1)
    rows (new e l s) h = (h.2, (h.2, append (of e) (of_all l) (rows e h.0) (all_rows l h.1)))
    rows (unary un.Typeof e s) h = typed e s (of e) h.1 (rows e h.0)
    rows (unary un.Delete e s) h = deleted e s (of e) h.1 (rows e h.0)
    rows (unary un.Minus e s) h = (h.1, rows e h.0)
    rows (unary un.Plus e s) h = (h.1, rows e h.0)
    rows (unary un.Not e s) h = (h.1, rows e h.0)
    rows (unary un.Tilde e s) h = (h.1, rows e h.0)
    rows (unary un.Void e s) h = (h.1, rows e h.0)
    rows (update up prefix t s) h =
        append (compute_entries place_of t kind.Unary s) (of t) (computed t kind.Unary s h.1) (rows t h.0)
    rows (binary o a b s) h = (h.2, append (of a) (of b) (rows a h.0) (rows b h.1))
    rows (and a b s) h = (place_is a h.0, append (of a) (of b) (rows a h.0) (rows b h.1))
    rows (or a b s) h = (place_is a h.0, append (of a) (of b) (rows a h.0) (rows b h.1))
    rows (conditional a b c s) h =
        (place_is a h.0, append (of a ++ of b) (of c) (append (of a) (of b) (rows a h.0) (rows b h.1)) (rows c h.2))
    rows (assign o t e s) h =
        append (assign_entries place_of o t s ++ of t) (of e)
        (append (assign_entries place_of o t s) (of t) (assigned o t s h.2) (rows t h.0)) (rows e h.1)
    rows (comma a b s) h = append (of a) (of b) (rows a h.0) (rows b h.1)
    rows (to_name x) h = tt
    rows (to_dot o k s) h = rows o h.0
    rows (to_index o k s) h = append (of o) (of k) (rows o h.0) (rows k h.1)
    rows hole h = tt
    rows (filled e) h = rows e h
    rows (value k e) h = rows e h
    rows (getter k f) h = rows f h
    rows (setter k f) h = rows f h
    rows (function m x params b s) h = (h.1, (h.1, rows b h.0))
    rows (body strict fs l) h = append (of_all fs) (of_all l) (all_rows fs h.0) (all_rows l h.1)
    rows (var l s) h = all_rows l h.0
    rows (empty s) h = tt
    rows (expression e s) h = rows e h.0
    rows (block l s) h = all_rows l h.0
    rows (if_else e a b s) h = (
      place_is e h.0,
      append (of e ++ of_all a) (of_any b)
          (append (of e) (of_all a) (rows e h.0) (all_rows a h.1)) (any_rows b h.2),
    )
    rows (do_while l e s) h = (place_is e h.1, append (of_all l) (of e) (all_rows l h.0) (rows e h.1))
    rows (while e l s) h = (place_is e h.0, append (of e) (of_all l) (rows e h.0) (all_rows l h.1))
    rows (for i e u l s) h =
        let test = optional_test_entries place_of s e in
        append (test ++ of i ++ of_any e ++ of_any u) (of_all l) (append (test ++ of i ++ of_any e) (of_any u)
        (append (test ++ of i) (of_any e) (append test (of i) (tested s e h.1) (rows i h.0)) (any_rows e h.1))
        (any_rows u h.2)) (all_rows l h.3)
    rows (for_in is_var x o l s) h = (h.2, append (of o) (of_all l) (rows o h.0) (all_rows l h.1))
    rows (continue x s) h = tt
    rows (break x s) h = tt
    rows (return absent s) h = tt
    rows (return (present e) s) h = (h.1, rows e h.0)
    rows (labelled x t s) h = rows t h.0
    rows (switch e l s) h = append (of e) (of_all l) (rows e h.0) (all_rows l h.1)
    rows (throw e s) h = (h.1, rows e h.0)
    rows (try l absent b s) h = append (of_all l) (of_any b) (all_rows l h.0) (any_rows b h.2)
    rows (try l (present (catch x c)) b s) h = (
      h.1.0,
      append (of_all l ++ of_all c) (of_any b)
          (append (of_all l) (of_all c) (all_rows l h.0) (all_rows c h.1.1)) (any_rows b h.2),
    )
    rows (debugger s) h = tt
    rows nothing h = tt
    rows (init_expression e) h = rows e h
    rows (init_var l) h = all_rows l h
    rows (declarator x absent) h = tt
    rows (declarator x (present e)) h = (h.0, rows e h.1)
    rows (case e l) h = append (of_any e) (of_all l) (any_rows e h.0) (all_rows l h.1)
    rows (branch_of l) h = all_rows l h
    rows (catch x l) h = all_rows l h.1

    all_rows : {x : Sort} (l : Forest S x) → EveryIn l → Rows (of_all l)
    all_rows end h = tt
    all_rows (more t l) h = append (of t) (of_all l) (rows t h.0) (all_rows l h.1)

    any_rows : {x : Sort} (o : OptionalTree S x) → EveryOf o → Rows (of_any o)
    any_rows absent h = tt
    any_rows (present t) h = rows t h
