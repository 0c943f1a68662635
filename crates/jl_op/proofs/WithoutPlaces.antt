-- Ids don't depend on where nodes stand.
use Rattle.std.proofs.Common.{◌≡◌, ◌∙◌, ℕ, ◌+◌, List, [], ◌∷◌, map, option_map, refl, ap, ap₂, Option, Some, None}
use Rattle.jl_ast.specs.declared.ops.UnOp.{UnOp}
use Rattle.jl_ast.specs.declared.ops.UnOp.TheVariants as un
use Rattle.jl_ast.specs.Tree.{Ident, Program, Sort, expr, handler, Tree, Forest, OptionalTree, this, name, number}
use Rattle.jl_ast.specs.Tree.{string, boolean}
use Rattle.jl_ast.specs.Tree.{null, array, object, function_expression, dot, index, call, new, unary, update, binary}
use Rattle.jl_ast.specs.Tree.{and, or, conditional, assign, comma, to_name, to_dot, to_index, hole, filled, value}
use Rattle.jl_ast.specs.Tree.{getter, setter, function, body, var, empty, expression, block, if_else, do_while, while}
use Rattle.jl_ast.specs.Tree.{for, for_in, continue, break, return, labelled, switch, throw, try, debugger, nothing}
use Rattle.jl_ast.specs.Tree.{init_expression, init_var, declarator, case, branch_of, catch, end, more, absent}
use Rattle.jl_ast.specs.Tree.{present}
use Rattle.jl_ast.specs.Spans.{ident, map_tree, map_forest, map_optional, without_spans}
use Rattle.jl_ast.proofs.Congruences.{ap₃, ap₄}
use Rattle.jl_op.specs.Ids.{id_count, forest_id_count, optional_id_count, unary_id_count, with_ids, forest_with_ids}
use Rattle.jl_op.specs.Ids.{optional_with_ids, handler_with_ids, callee_with_ids, member_ids, assignment_id_count}
use Rattle.jl_op.specs.Ids.{one_if_present, ident_with_id, program_with_ids}

module _ {S T : Type 0} (f : S → T) where
  -- a part that stands after others
  shift : {x : Sort} (t : Tree S x) {m m' : ℕ} → m ≡ m' → with_ids m' (map_tree f t) ≡ with_ids m' t →
      with_ids m (map_tree f t) ≡ with_ids m' t
  shift t e h = ap (λ m. with_ids m (map_tree f t)) e ∙ h

  forest_shift : {x : Sort} (t : Forest S x) {m m' : ℕ} → m ≡ m' →
      forest_with_ids m' (map_forest f t) ≡ forest_with_ids m' t →
      forest_with_ids m (map_forest f t) ≡ forest_with_ids m' t
  forest_shift t e h = ap (λ m. forest_with_ids m (map_forest f t)) e ∙ h

  optional_shift : {x : Sort} (t : OptionalTree S x) {m m' : ℕ} → m ≡ m' →
      optional_with_ids m' (map_optional f t) ≡ optional_with_ids m' t →
      optional_with_ids m (map_optional f t) ≡ optional_with_ids m' t
  optional_shift t e h = ap (λ m. optional_with_ids m (map_optional f t)) e ∙ h

  handler_shift : (id : ℕ) (t : OptionalTree S handler) {m m' : ℕ} → m ≡ m' →
      handler_with_ids id m' (map_optional f t) ≡ handler_with_ids id m' t →
      handler_with_ids id m (map_optional f t) ≡ handler_with_ids id m' t
  handler_shift id t e h = ap (λ m. handler_with_ids id m (map_optional f t)) e ∙ h

  same_presence : {x : Sort} (o : OptionalTree S x) → one_if_present (map_optional f o) ≡ one_if_present o
  same_presence absent = refl
  same_presence (present t) = refl

  same_name : (n : ℕ) (x : Option (Ident S)) →
      option_map (λ y. ident_with_id y n) (option_map (ident f) x) ≡ option_map (λ y. ident_with_id y n) x
  same_name n None = refl
  same_name n (Some x) = refl

  same_params : (n : ℕ) (l : List (Ident S)) →
      map (λ y. ident_with_id y n) (map (ident f) l) ≡ map (λ y. ident_with_id y n) l
  same_params n [] = refl
  same_params n (x ∷ l) = ap (λ m. ident_with_id x n ∷ m) (same_params n l)

  same_unary_count : (o : UnOp) (e : Tree S expr) (n : ℕ) → unary_id_count o (map_tree f e) n ≡ unary_id_count o e n
  same_unary_count un.Minus e n = refl
  same_unary_count un.Plus e n = refl
  same_unary_count un.Not e n = refl
  same_unary_count un.Tilde e n = refl
  same_unary_count un.Typeof (this s) n = refl
  same_unary_count un.Typeof (name x s) n = refl
  same_unary_count un.Typeof (number m s) n = refl
  same_unary_count un.Typeof (string t s) n = refl
  same_unary_count un.Typeof (boolean b s) n = refl
  same_unary_count un.Typeof (null s) n = refl
  same_unary_count un.Typeof (array l s) n = refl
  same_unary_count un.Typeof (object l s) n = refl
  same_unary_count un.Typeof (function_expression f s) n = refl
  same_unary_count un.Typeof (dot o k s) n = refl
  same_unary_count un.Typeof (index o k s) n = refl
  same_unary_count un.Typeof (call f l s) n = refl
  same_unary_count un.Typeof (new f l s) n = refl
  same_unary_count un.Typeof (unary un.Minus e s) n = refl
  same_unary_count un.Typeof (unary un.Plus e s) n = refl
  same_unary_count un.Typeof (unary un.Not e s) n = refl
  same_unary_count un.Typeof (unary un.Tilde e s) n = refl
  same_unary_count un.Typeof (unary un.Typeof e s) n = refl
  same_unary_count un.Typeof (unary un.Void e s) n = refl
  same_unary_count un.Typeof (unary un.Delete e s) n = refl
  same_unary_count un.Typeof (update up prefix t s) n = refl
  same_unary_count un.Typeof (binary o a b s) n = refl
  same_unary_count un.Typeof (and a b s) n = refl
  same_unary_count un.Typeof (or a b s) n = refl
  same_unary_count un.Typeof (conditional a b c s) n = refl
  same_unary_count un.Typeof (assign o t e s) n = refl
  same_unary_count un.Typeof (comma a b s) n = refl
  same_unary_count un.Void e n = refl
  same_unary_count un.Delete (this s) n = refl
  same_unary_count un.Delete (name x s) n = refl
  same_unary_count un.Delete (number m s) n = refl
  same_unary_count un.Delete (string t s) n = refl
  same_unary_count un.Delete (boolean b s) n = refl
  same_unary_count un.Delete (null s) n = refl
  same_unary_count un.Delete (array l s) n = refl
  same_unary_count un.Delete (object l s) n = refl
  same_unary_count un.Delete (function_expression f s) n = refl
  same_unary_count un.Delete (dot o k s) n = refl
  same_unary_count un.Delete (index o k s) n = refl
  same_unary_count un.Delete (call f l s) n = refl
  same_unary_count un.Delete (new f l s) n = refl
  same_unary_count un.Delete (unary un.Minus e s) n = refl
  same_unary_count un.Delete (unary un.Plus e s) n = refl
  same_unary_count un.Delete (unary un.Not e s) n = refl
  same_unary_count un.Delete (unary un.Tilde e s) n = refl
  same_unary_count un.Delete (unary un.Typeof e s) n = refl
  same_unary_count un.Delete (unary un.Void e s) n = refl
  same_unary_count un.Delete (unary un.Delete e s) n = refl
  same_unary_count un.Delete (update up prefix t s) n = refl
  same_unary_count un.Delete (binary o a b s) n = refl
  same_unary_count un.Delete (and a b s) n = refl
  same_unary_count un.Delete (or a b s) n = refl
  same_unary_count un.Delete (conditional a b c s) n = refl
  same_unary_count un.Delete (assign o t e s) n = refl
  same_unary_count un.Delete (comma a b s) n = refl

  same_member : (e : Tree S expr) → member_ids (map_tree f e) ≡ member_ids e
  same_member (this s) = refl
  same_member (name x s) = refl
  same_member (number m s) = refl
  same_member (string t s) = refl
  same_member (boolean b s) = refl
  same_member (null s) = refl
  same_member (array l s) = refl
  same_member (object l s) = refl
  same_member (function_expression f s) = refl
  same_member (dot o k s) = refl
  same_member (index o k s) = refl
  same_member (call f l s) = refl
  same_member (new f l s) = refl
  same_member (unary o e s) = refl
  same_member (update up prefix t s) = refl
  same_member (binary o a b s) = refl
  same_member (and a b s) = refl
  same_member (or a b s) = refl
  same_member (conditional a b c s) = refl
  same_member (assign o t e s) = refl
  same_member (comma a b s) = refl

  mutual
    pub same_count : {x : Sort} (t : Tree S x) → id_count (map_tree f t) ≡ id_count t
    same_count (this s) = refl
    same_count (name a s) = refl
    same_count (number a s) = refl
    same_count (string a s) = refl
    same_count (boolean a s) = refl
    same_count (null s) = refl
    same_count (array a s) = cc (forest_same_count a)
    same_count (object a s) = cc (forest_same_count a)
    same_count (function_expression a s) = cc (same_count a)
    same_count (dot a b s) = cc (same_count a)
    same_count (index a b s) = cc (same_count a, same_count b)
    same_count (call a b s) = cc (same_count a, forest_same_count b)
    same_count (new a b s) = cc (same_count a, forest_same_count b)
    same_count (unary a b s) = cc (same_unary_count a b (id_count (map_tree f b)), same_count b)
    same_count (update up prefix a s) = cc (same_count a)
    same_count (binary a b c s) = cc (same_count b, same_count c)
    same_count (and a b s) = cc (same_count a, same_count b)
    same_count (or a b s) = cc (same_count a, same_count b)
    same_count (conditional a b c s) = cc (same_count a, same_count b, same_count c)
    same_count (assign a b c s) = cc (same_count b, same_count c)
    same_count (comma a b s) = cc (same_count a, same_count b)
    same_count (to_name a) = refl
    same_count (to_dot a b s) = cc (same_count a)
    same_count (to_index a b s) = cc (same_count a, same_count b)
    same_count hole = refl
    same_count (filled a) = cc (same_count a)
    same_count (value a b) = cc (same_count b)
    same_count (getter a b) = cc (same_count b)
    same_count (setter a b) = cc (same_count b)
    same_count (function m a params b s) = cc (same_count b)
    same_count (body strict a b) = cc (forest_same_count a, forest_same_count b)
    same_count (var a s) = cc (forest_same_count a)
    same_count (empty s) = refl
    same_count (expression a s) = cc (same_count a)
    same_count (block a s) = cc (forest_same_count a)
    same_count (if_else a b c s) = cc (same_count a, forest_same_count b, optional_same_count c)
    same_count (do_while a b s) = cc (forest_same_count a, same_count b)
    same_count (while a b s) = cc (same_count a, forest_same_count b)
    same_count (for a b c d s) =
        cc (same_presence b, same_count a, optional_same_count b, optional_same_count c, forest_same_count d)
    same_count (for_in is_var a b c s) = cc (same_count b, forest_same_count c)
    same_count (continue a s) = refl
    same_count (break a s) = refl
    same_count (return a s) = cc (same_presence a, optional_same_count a)
    same_count (labelled a b s) = cc (same_count b)
    same_count (switch a b s) = cc (same_count a, forest_same_count b)
    same_count (throw a s) = cc (same_count a)
    same_count (try a b c s) =
        cc (same_presence b, forest_same_count a, optional_same_count b, optional_same_count c)
    same_count (debugger s) = refl
    same_count nothing = refl
    same_count (init_expression a) = cc (same_count a)
    same_count (init_var a) = cc (forest_same_count a)
    same_count (declarator a b) = cc (same_presence b, optional_same_count b)
    same_count (case a b) = cc (optional_same_count a, forest_same_count b)
    same_count (branch_of a) = cc (forest_same_count a)
    same_count (catch a b) = cc (forest_same_count b)

    pub forest_same_count : {x : Sort} (l : Forest S x) → forest_id_count (map_forest f l) ≡ forest_id_count l
    forest_same_count end = refl
    forest_same_count (more t l) = cc (same_count t, forest_same_count l)

    pub optional_same_count : {x : Sort} (o : OptionalTree S x) →
        optional_id_count (map_optional f o) ≡ optional_id_count o
    optional_same_count absent = refl
    optional_same_count (present t) = same_count t

  mutual
    pub same_ids : {x : Sort} (n : ℕ) (t : Tree S x) → with_ids n (map_tree f t) ≡ with_ids n t
    same_ids n (this s) = refl
    same_ids n (name a s) = refl
    same_ids n (number a s) = refl
    same_ids n (string a s) = refl
    same_ids n (boolean a s) = refl
    same_ids n (null s) = refl
    same_ids n (array a s) = ap (λ p. array p n) (forest_same_ids (n + 1) a)
    same_ids n (object a s) = ap (λ p. object p n) (forest_same_ids (n + 1) a)
    same_ids n (function_expression a s) = ap (λ p. function_expression p n) (same_ids (n + 1) a)
    same_ids n (dot a b s) = ap (λ p. dot p b n) (same_ids (n + 1) a)
    same_ids n (index a b s) = ap₂ (λ p q. index p q n) (same_ids (n + 1) a) (shift b (ap (λ h. n + 1 + h)
        (same_count a)) (same_ids (n + 1 + id_count a) b))
    same_ids n (call a b s) = ap₃ (λ g l j. call g l (n + j)) (same_callee n a (same_ids (n + 2) a))
        (forest_shift b (ap (λ h. n + 2 + h) (same_count a)) (forest_same_ids (n + 2 + id_count a) b)) (same_member a)
    same_ids n (new a b s) = ap₂ (λ p q. new p q n) (same_ids (n + 2) a) (forest_shift b (ap (λ h. n + 2 + h)
        (same_count a)) (forest_same_ids (n + 2 + id_count a) b))
    same_ids n (unary un.Minus b s) = ap (λ e. unary un.Minus e n) (same_ids (n + 1) b)
    same_ids n (unary un.Plus b s) = ap (λ e. unary un.Plus e n) (same_ids (n + 1) b)
    same_ids n (unary un.Not b s) = ap (λ e. unary un.Not e n) (same_ids (n + 1) b)
    same_ids n (unary un.Tilde b s) = ap (λ e. unary un.Tilde e n) (same_ids (n + 1) b)
    same_ids n (unary un.Typeof b s) = ap (λ e. unary un.Typeof e n) (same_ids (n + 1) b)
    same_ids n (unary un.Void b s) = ap (λ e. unary un.Void e n) (same_ids (n + 1) b)
    same_ids n (unary un.Delete b s) = ap (λ e. unary un.Delete e n) (same_ids n b)
    same_ids n (update up prefix a s) = ap (λ p. update up prefix p n) (same_ids (n + 3) a)
    same_ids n (binary a b c s) = ap₂ (λ p q. binary a p q n) (same_ids (n + 1) b) (shift c (ap (λ h. n + 1 + h)
        (same_count b)) (same_ids (n + 1 + id_count b) c))
    same_ids n (and a b s) = ap₂ (λ p q. and p q n) (same_ids (n + 1) a) (shift b (ap (λ h. n + 1 + h)
        (same_count a)) (same_ids (n + 1 + id_count a) b))
    same_ids n (or a b s) = ap₂ (λ p q. or p q n) (same_ids (n + 1) a) (shift b (ap (λ h. n + 1 + h)
        (same_count a)) (same_ids (n + 1 + id_count a) b))
    same_ids n (conditional a b c s) = ap₃ (λ p q r. conditional p q r n) (same_ids (n + 1) a) (shift b (ap
        (λ h. n + 1 + h) (same_count a)) (same_ids (n + 1 + id_count a) b)) (shift c (ap₂ (λ h i. n + 1 + h + i)
        (same_count a) (same_count b)) (same_ids (n + 1 + id_count a + id_count b) c))
    same_ids n (assign a b c s) = ap₂ (λ p q. assign a p q n) (same_ids (n + assignment_id_count a) b) (shift c (ap
        (λ h. n + assignment_id_count a + h) (same_count b)) (same_ids (n + assignment_id_count a + id_count b) c))
    same_ids n (comma a b s) = ap₂ (λ p q. comma p q n) (same_ids n a) (shift b (ap (λ h. n + h) (same_count a))
        (same_ids (n + id_count a) b))
    same_ids n (to_name a) = refl
    same_ids n (to_dot a b s) = ap (λ p. to_dot p b n) (same_ids n a)
    same_ids n (to_index a b s) = ap₂ (λ p q. to_index p q n) (same_ids n a) (shift b (ap (λ h. n + h)
        (same_count a)) (same_ids (n + id_count a) b))
    same_ids n hole = refl
    same_ids n (filled a) = ap (λ p. filled p) (same_ids n a)
    same_ids n (value a b) = ap (λ p. value (ident_with_id a n) p) (same_ids n b)
    same_ids n (getter a b) = ap (λ p. getter (ident_with_id a n) p) (same_ids n b)
    same_ids n (setter a b) = ap (λ p. setter (ident_with_id a n) p) (same_ids n b)
    same_ids n (function m a params b s) =
        ap₃ (λ x l c. function m x l c n) (same_name n a) (same_params n params) (same_ids (n + 2) b)
    same_ids n (body strict a b) = ap₂ (λ p q. body strict p q) (forest_same_ids n a) (forest_shift b (ap
        (λ h. n + h) (forest_same_count a)) (forest_same_ids (n + forest_id_count a) b))
    same_ids n (var a s) = ap (λ p. var p n) (forest_same_ids n a)
    same_ids n (empty s) = refl
    same_ids n (expression a s) = ap (λ p. expression p n) (same_ids n a)
    same_ids n (block a s) = ap (λ p. block p n) (forest_same_ids n a)
    same_ids n (if_else a b c s) = ap₃ (λ p q r. if_else p q r n) (same_ids (n + 1) a) (forest_shift b (ap
        (λ h. n + 1 + h) (same_count a)) (forest_same_ids (n + 1 + id_count a) b)) (optional_shift c (ap₂
        (λ h i. n + 1 + h + i) (same_count a) (forest_same_count b)) (optional_same_ids
        (n + 1 + id_count a + forest_id_count b) c))
    same_ids n (do_while a b s) = ap₂ (λ p q. do_while p q n) (forest_same_ids (n + 1) a) (shift b (ap
        (λ h. n + 1 + h) (forest_same_count a)) (same_ids (n + 1 + forest_id_count a) b))
    same_ids n (while a b s) = ap₂ (λ p q. while p q n) (same_ids (n + 1) a) (forest_shift b (ap (λ h. n + 1 + h)
        (same_count a)) (forest_same_ids (n + 1 + id_count a) b))
    same_ids n (for a b c d s) = ap₄ (λ i e u l. for i e u l n)
        (shift a (ap (λ h. n + h) (same_presence b)) (same_ids (n + one_if_present b) a))
        (optional_shift b (ap₂ (λ h i. n + h + i) (same_presence b) (same_count a))
        (optional_same_ids (n + one_if_present b + id_count a) b))
        (optional_shift c (ap₃ (λ h i j. n + h + i + j) (same_presence b) (same_count a) (optional_same_count b))
        (optional_same_ids (n + one_if_present b + id_count a + optional_id_count b) c))
        (forest_shift d (ap₄ (λ h i j k. n + h + i + j + k) (same_presence b) (same_count a) (optional_same_count b)
        (optional_same_count c))
        (forest_same_ids (n + one_if_present b + id_count a + optional_id_count b + optional_id_count c) d))
    same_ids n (for_in is_var a b c s) = ap₂ (λ p q. for_in is_var (ident_with_id a n) p q n) (same_ids (n + 1) b)
        (forest_shift c (ap (λ h. n + 1 + h) (same_count b)) (forest_same_ids (n + 1 + id_count b) c))
    same_ids n (continue a s) = ap (λ x. continue x n) (same_name n a)
    same_ids n (break a s) = ap (λ x. break x n) (same_name n a)
    same_ids n (return a s) = ap (λ e. return e n)
        (optional_shift a (ap (λ h. n + h) (same_presence a)) (optional_same_ids (n + one_if_present a) a))
    same_ids n (labelled a b s) = ap (λ p. labelled (ident_with_id a n) p n) (same_ids n b)
    same_ids n (switch a b s) = ap₂ (λ p q. switch p q n) (same_ids n a) (forest_shift b (ap (λ h. n + h)
        (same_count a)) (forest_same_ids (n + id_count a) b))
    same_ids n (throw a s) = ap (λ p. throw p n) (same_ids (n + 1) a)
    same_ids n (try a b c s) = ap₃ (λ l h g. try l h g n)
        (forest_shift a (ap (λ h. n + h) (same_presence b)) (forest_same_ids (n + one_if_present b) a))
        (handler_shift n b (ap₂ (λ h i. n + h + i) (same_presence b) (forest_same_count a))
        (same_handler n (n + one_if_present b + forest_id_count a) b))
        (optional_shift c (ap₃ (λ h i j. n + h + i + j) (same_presence b) (forest_same_count a)
        (optional_same_count b))
        (optional_same_ids (n + one_if_present b + forest_id_count a + optional_id_count b) c))
    same_ids n (debugger s) = refl
    same_ids n nothing = refl
    same_ids n (init_expression a) = ap (λ p. init_expression p) (same_ids n a)
    same_ids n (init_var a) = ap (λ p. init_var p) (forest_same_ids n a)
    same_ids n (declarator a b) = ap (λ e. declarator (ident_with_id a n) e)
        (optional_shift b (ap (λ h. n + h) (same_presence b)) (optional_same_ids (n + one_if_present b) b))
    same_ids n (case a b) = ap₂ (λ p q. case p q) (optional_same_ids n a) (forest_shift b (ap (λ h. n + h)
        (optional_same_count a)) (forest_same_ids (n + optional_id_count a) b))
    same_ids n (branch_of a) = ap (λ p. branch_of p) (forest_same_ids n a)
    same_ids n (catch a b) = ap (λ p. catch (ident_with_id a n) p) (forest_same_ids n b)

    pub forest_same_ids : {x : Sort} (n : ℕ) (l : Forest S x) → forest_with_ids n
        (map_forest f l) ≡ forest_with_ids n l
    forest_same_ids n end = refl
    forest_same_ids n (more t l) = ap₂ (λ u m. more u m) (same_ids n t)
        (forest_shift l (ap (λ h. n + h) (same_count t)) (forest_same_ids (n + id_count t) l))

    pub optional_same_ids : {x : Sort} (n : ℕ) (o : OptionalTree S x) →
        optional_with_ids n (map_optional f o) ≡ optional_with_ids n o
    optional_same_ids n absent = refl
    optional_same_ids n (present t) = ap (λ u. present u) (same_ids n t)

    same_handler : (id n : ℕ) (h : OptionalTree S handler) → handler_with_ids id n
        (map_optional f h) ≡ handler_with_ids id n h
    same_handler id n absent = refl
    same_handler id n (present (catch x l)) = ap (λ m. present (catch (ident_with_id x id) m)) (forest_same_ids n l)

    same_callee : (n : ℕ) (e : Tree S expr) → with_ids (n + 2) (map_tree f e) ≡ with_ids (n + 2) e →
        callee_with_ids n (map_tree f e) (with_ids (n + 2) (map_tree f e)) ≡ callee_with_ids n e (with_ids (n + 2) e)
    same_callee n (this s) h = h
    same_callee n (name x s) h = h
    same_callee n (number m s) h = h
    same_callee n (string t s) h = h
    same_callee n (boolean b s) h = h
    same_callee n (null s) h = h
    same_callee n (array l s) h = h
    same_callee n (object l s) h = h
    same_callee n (function_expression f s) h = h
    same_callee n (dot o k s) h = ap (λ p. dot p k n) (same_ids (n + 3) o)
    same_callee n (index o k s) h =
        ap₂ (λ p q. index p q n) (same_ids (n + 3) o)
        (shift k (ap (λ h. n + 3 + h) (same_count o)) (same_ids (n + 3 + id_count o) k))
    same_callee n (call f l s) h = h
    same_callee n (new f l s) h = h
    same_callee n (unary o e s) h = h
    same_callee n (update up prefix t s) h = h
    same_callee n (binary o a b s) h = h
    same_callee n (and a b s) h = h
    same_callee n (or a b s) h = h
    same_callee n (conditional a b c s) h = h
    same_callee n (assign o t e s) h = h
    same_callee n (comma a b s) h = h

pub same_program : {S : Type 0} (p : Program S) → program_with_ids (without_spans p) ≡ program_with_ids p
same_program p = ap (λ b. record { body = b; at = 1 }) (same_ids (λ s. tt) 3 p.body)
