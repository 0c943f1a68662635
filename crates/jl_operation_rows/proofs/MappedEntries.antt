-- What is said of the operations of a tree with other places.
use Rattle.std.proofs.Common.{◌≡◌, ◌∙◌, [], ◌∷◌, ◌++◌, map, refl, sym, ap, ap₂, Option, Some, None}
use Rattle.std.proofs.lemmas.List.{map-append}
use Rattle.jl_ast.specs.Spans.{map_forest, map_optional, map_spans, map_tree, place}
use Rattle.jl_ast.specs.Tree.{absent, and, array, assign, binary, block, body, boolean, branch_of, break, call, case}
use Rattle.jl_ast.specs.Tree.{catch, comma, conditional, continue, debugger, declarator, do_while, dot, empty, end}
use Rattle.jl_ast.specs.Tree.{expr, expression, filled, for, for_in, function, function_expression, getter, hole}
use Rattle.jl_ast.specs.Tree.{if_else, index, init_expression, init_var, labelled, more, name, new, nothing, null}
use Rattle.jl_ast.specs.Tree.{number, object, or, present, return, setter, string, switch, target, this, throw}
use Rattle.jl_ast.specs.Tree.{to_dot, to_index, to_name, try, unary, update, value, var, while, Forest, OptionalTree}
use Rattle.jl_ast.specs.Tree.{Program, Sort, Tree}
use Rattle.jl_ast.specs.declared.ops.BinOp.{BinOp}
use Rattle.jl_ast.specs.declared.ops.UnOp.TheVariants as un
use Rattle.jl_ast.proofs.Congruences.{ap₃}
use Rattle.jl_op.specs.IdMap.{assign_entries, call_entries, compute_entries, entries, forest_entries, insert_second}
use Rattle.jl_op.specs.IdMap.{invoke_entries, without_first}
use Rattle.jl_op.specs.IdMap.{optional_entries, optional_test_entries, program_entries, test_entry, unary_entries}
use Rattle.jl_op.specs.IdMap.{MapEntries, Saying}
use Rattle.jl_op.specs.declared.kind.OpKind.{OpKind}
use Rattle.jl_op.specs.declared.kind.OpKind.TheVariants as kind

-- entries in which something else is said
abbrev pub said : {T U : Type 0} → (T → U) → MapEntries T → MapEntries U
said h l = map (λ e. (e.0, h e.1)) l

-- what is said of the places f s is made by h of what is said of s
pub record SaysAfter {S R T U : Type 0} (say : Saying S T) (other : Saying R U) (f : S → R) (h : T → U) : Type 0 where
  pub first : (s : S) → other.of_node (f s) 0 ≡ h (say.of_node s 0)
  pub second : (s : S) → other.of_node (f s) 1 ≡ h (say.of_node s 1)
  pub third : (s : S) → other.of_node (f s) 2 ≡ h (say.of_node s 2)
  pub test : (s e : S) → other.of_test (f s) (f e) ≡ h (say.of_test s e)

place_same : {S R : Type 0} (f : S → R) (e : Tree S expr) → place (map_tree f e) ≡ f (place e)
place_same f (this s) = refl
place_same f (name a s) = refl
place_same f (number a s) = refl
place_same f (string a s) = refl
place_same f (boolean a s) = refl
place_same f (null s) = refl
place_same f (array a s) = refl
place_same f (object a s) = refl
place_same f (function_expression a s) = refl
place_same f (dot a b s) = refl
place_same f (index a b s) = refl
place_same f (call a b s) = refl
place_same f (new a b s) = refl
place_same f (unary a b s) = refl
place_same f (update up prefix a s) = refl
place_same f (binary a b c s) = refl
place_same f (and a b s) = refl
place_same f (or a b s) = refl
place_same f (conditional a b c s) = refl
place_same f (assign a b c s) = refl
place_same f (comma a b s) = refl

module _ {S R T U : Type 0} {say : Saying S T} {other : Saying R U} {f : S → R} {h : T → U}
    (says : SaysAfter say other f h) where
  entry : (k : OpKind) {a : T} {b : U} → b ≡ h a → (l : MapEntries T) {m : MapEntries U} → m ≡ said h l
      → ((k, b) ∷ m) ≡ said h ((k, a) ∷ l)
  entry k e l i = ap₂ (λ b m. (k, b) ∷ m) e i

  join : (a b : MapEntries T) {a' b' : MapEntries U} → a' ≡ said h a → b' ≡ said h b → (a' ++ b') ≡ said h (a ++ b)
  join a b e i = ap₂ ◌++◌ e i ∙ sym (map-append (λ e. (e.0, h e.1)) a b)

  test_said : (s : S) (e : Tree S expr) → other.of_test (f s) (place (map_tree f e)) ≡ h (say.of_test s (place e))
  test_said s e = ap (λ (at : R). other.of_test (f s) at) (place_same f e) ∙ says.test s (place e)

  -- a test, before others
  test_first : (s : S) (e : Tree S expr) (l : MapEntries T) {m : MapEntries U} → m ≡ said h l
      → (test_entry other (f s) (map_tree f e) ∷ m) ≡ said h (test_entry say s e ∷ l)
  test_first s e l i = entry kind.Conditional (test_said s e) l i

  optional_test : (s : S) (e : OptionalTree S expr)
      → optional_test_entries other (f s) (map_optional f e) ≡ said h (optional_test_entries say s e)
  optional_test s absent = refl
  optional_test s (present e) = test_first s e [] refl

  invoked : (s : S) → invoke_entries other (f s) ≡ said h (invoke_entries say s)
  invoked s =
      ap₂ (λ a b. (kind.InvokePre, a) ∷ (kind.InvokePost, b) ∷ []) (says.first s) (says.second s)

  inserted : (l m : MapEntries T) → insert_second (said h l) (said h m) ≡ said h (insert_second l m)
  inserted l [] = refl
  inserted l (e ∷ m) = ap (λ rest. (e.0, h e.1) ∷ rest) (sym (map-append (λ e. (e.0, h e.1)) l m))

  shorter : (l : MapEntries T) → without_first (said h l) ≡ said h (without_first l)
  shorter [] = refl
  shorter (e ∷ l) = refl

  -- what comes first of two
  both : (k l : OpKind) (s : S) (m : MapEntries T) {n : MapEntries U} → n ≡ said h m
      → ((k, other.of_node (f s) 0) ∷ (l, other.of_node (f s) 1) ∷ n)
      ≡ said h ((k, say.of_node s 0) ∷ (l, say.of_node s 1) ∷ m)
  both k l s m i = ap₃ (λ a b n. (k, a) ∷ (l, b) ∷ n) (says.first s) (says.second s) i

  -- a call whose callee has these entries
  called : (e : Tree S expr) (s : S) (l : MapEntries T) {m : MapEntries U} → m ≡ said h l
      → call_entries other (map_tree f e) (f s) m ≡ said h (call_entries say e s l)
  called (dot o k at) s l i = ap₂ insert_second (invoked s) i ∙ inserted (invoke_entries say s) l
  called (index o k at) s l i = ap₂ insert_second (invoked s) i ∙ inserted (invoke_entries say s) l
  called e s l i = join (invoke_entries say s) l (invoked s) i

  -- an operator whose operand has these
  typed : (e : Tree S expr) (s : S) (l : MapEntries T) {m : MapEntries U} → m ≡ said h l
      → unary_entries other un.Typeof (map_tree f e) (f s) m ≡ said h (unary_entries say un.Typeof e s l)
  typed (name x at) s l i = entry kind.TypeofName (says.first s) [] refl
  typed e s l i = entry kind.Unary (says.first s) l i

  deleted : (e : Tree S expr) (s : S) (l : MapEntries T) {m : MapEntries U} → m ≡ said h l
      → unary_entries other un.Delete (map_tree f e) (f s) m ≡ said h (unary_entries say un.Delete e s l)
  deleted (name x at) s l i = refl
  deleted (dot o k at) s l i = entry kind.DeleteField (says.first s) (without_first l) (ap without_first i ∙ shorter l)
  deleted (index o k at) s l i =
      entry kind.DeleteField (says.first s) (without_first l) (ap without_first i ∙ shorter l)
  deleted e s l i = i

  three_said : (k l m : OpKind) (s : S)
      → ((k, other.of_node (f s) 0) ∷ (l, other.of_node (f s) 1) ∷ (m, other.of_node (f s) 2) ∷ [])
      ≡ said h ((k, say.of_node s 0) ∷ (l, say.of_node s 1) ∷ (m, say.of_node s 2) ∷ [])
  three_said k l m s = ap₃ (λ a b c. (k, a) ∷ (l, b) ∷ (m, c) ∷ []) (says.first s) (says.second s) (says.third s)

  computed : (t : Tree S target) (k : OpKind) (s : S)
      → compute_entries other (map_tree f t) k (f s) ≡ said h (compute_entries say t k s)
  computed (to_name x) k s = three_said kind.Read k kind.Write s
  computed (to_dot o j at) k s = three_said kind.GetField k kind.PutField s
  computed (to_index o j at) k s = three_said kind.GetField k kind.PutField s

  assigned : (o : Option BinOp) (t : Tree S target) (s : S)
      → assign_entries other o (map_tree f t) (f s) ≡ said h (assign_entries say o t s)
  assigned None (to_name x) s = entry kind.Write (says.first s) [] refl
  assigned None (to_dot o k at) s = entry kind.PutField (says.first s) [] refl
  assigned None (to_index o k at) s = entry kind.PutField (says.first s) [] refl
  assigned (Some o) t s = computed t kind.Binary s

  mutual
    pub tree_said : {x : Sort} (t : Tree S x) → entries other (map_tree f t) ≡ said h (entries say t)
    tree_said (this s) = refl
    tree_said (name x s) = entry kind.Read (says.first s) [] refl
    tree_said (number n s) = entry kind.Literal (says.first s) [] refl
    tree_said (string t s) = entry kind.Literal (says.first s) [] refl
    tree_said (boolean b s) = entry kind.Literal (says.first s) [] refl
    tree_said (null s) = entry kind.Literal (says.first s) [] refl
    tree_said (array l s) = entry kind.ArrayLiteral (says.first s) _ (forest_said l)
    tree_said (object l s) = entry kind.ObjectLiteral (says.first s) _ (forest_said l)
    tree_said (function_expression e s) = entry kind.FunctionLiteral (says.first s) _ (tree_said e)
    tree_said (dot o k s) = entry kind.GetField (says.first s) _ (tree_said o)
    tree_said (index o k s) = entry kind.GetField (says.first s) _ (join _ _ (tree_said o) (tree_said k))
    tree_said (call e l s) = join _ _ (called e s (entries say e) (tree_said e)) (forest_said l)
    tree_said (new e l s) = both kind.InvokePre kind.InvokePost s _ (join _ _ (tree_said e) (forest_said l))
    tree_said (unary un.Typeof e s) = typed e s (entries say e) (tree_said e)
    tree_said (unary un.Delete e s) = deleted e s (entries say e) (tree_said e)
    tree_said (unary un.Minus e s) = entry kind.Unary (says.first s) _ (tree_said e)
    tree_said (unary un.Plus e s) = entry kind.Unary (says.first s) _ (tree_said e)
    tree_said (unary un.Not e s) = entry kind.Unary (says.first s) _ (tree_said e)
    tree_said (unary un.Tilde e s) = entry kind.Unary (says.first s) _ (tree_said e)
    tree_said (unary un.Void e s) = entry kind.Unary (says.first s) _ (tree_said e)
    tree_said (update up prefix t s) = join _ _ (computed t kind.Unary s) (tree_said t)
    tree_said (binary o a b s) = entry kind.Binary (says.first s) _ (join _ _ (tree_said a) (tree_said b))
    tree_said (and a b s) = test_first s a _ (join _ _ (tree_said a) (tree_said b))
    tree_said (or a b s) = test_first s a _ (join _ _ (tree_said a) (tree_said b))
    tree_said (conditional a b c s) =
        test_first s a _ (join _ _ (join _ _ (tree_said a) (tree_said b)) (tree_said c))
    tree_said (assign o t e s) = join _ _ (join _ _ (assigned o t s) (tree_said t)) (tree_said e)
    tree_said (comma a b s) = join _ _ (tree_said a) (tree_said b)
    tree_said (to_name x) = refl
    tree_said (to_dot o k s) = tree_said o
    tree_said (to_index o k s) = join _ _ (tree_said o) (tree_said k)
    tree_said hole = refl
    tree_said (filled e) = tree_said e
    tree_said (value k e) = tree_said e
    tree_said (getter k e) = tree_said e
    tree_said (setter k e) = tree_said e
    tree_said (function m x params b s) = both kind.FunctionEnter kind.FunctionExit s _ (tree_said b)
    tree_said (body strict fs l) = join _ _ (forest_said fs) (forest_said l)
    tree_said (var l s) = forest_said l
    tree_said (empty s) = refl
    tree_said (expression e s) = tree_said e
    tree_said (block l s) = forest_said l
    tree_said (if_else e a b s) =
        test_first s e _ (join _ _ (join _ _ (tree_said e) (forest_said a)) (optional_said b))
    tree_said (do_while l e s) = test_first s e _ (join _ _ (forest_said l) (tree_said e))
    tree_said (while e l s) = test_first s e _ (join _ _ (tree_said e) (forest_said l))
    tree_said (for i e u l s) =
        join _ _ (join _ _ (join _ _ (join _ _ (optional_test s e) (tree_said i)) (optional_said e))
        (optional_said u)) (forest_said l)
    tree_said (for_in is_var x o l s) = entry kind.ForIn (says.first s) _ (join _ _ (tree_said o) (forest_said l))
    tree_said (continue x s) = refl
    tree_said (break x s) = refl
    tree_said (return absent s) = refl
    tree_said (return (present e) s) = entry kind.Return (says.first s) _ (tree_said e)
    tree_said (labelled x t s) = tree_said t
    tree_said (switch e l s) = join _ _ (tree_said e) (forest_said l)
    tree_said (throw e s) = entry kind.Throw (says.first s) _ (tree_said e)
    tree_said (try l absent b s) = join _ _ (forest_said l) (optional_said b)
    tree_said (try l (present (catch x c)) b s) =
        entry kind.Catch (says.first x.at) _ (join _ _ (join _ _ (forest_said l) (forest_said c)) (optional_said b))
    tree_said (debugger s) = refl
    tree_said nothing = refl
    tree_said (init_expression e) = tree_said e
    tree_said (init_var l) = forest_said l
    tree_said (declarator x absent) = refl
    tree_said (declarator x (present e)) = entry kind.Write (says.first x.at) _ (tree_said e)
    tree_said (case e l) = join _ _ (optional_said e) (forest_said l)
    tree_said (branch_of l) = forest_said l
    tree_said (catch x l) = forest_said l

    forest_said : {x : Sort} (l : Forest S x) → forest_entries other (map_forest f l) ≡ said h (forest_entries say l)
    forest_said end = refl
    forest_said (more t l) = join _ _ (tree_said t) (forest_said l)

    optional_said : {x : Sort} (o : OptionalTree S x)
        → optional_entries other (map_optional f o) ≡ said h (optional_entries say o)
    optional_said absent = refl
    optional_said (present t) = tree_said t

  pub program_said : (p : Program S) → program_entries other (map_spans f p) ≡ said h (program_entries say p)
  program_said p =
      both kind.ScriptEnter kind.ScriptExit p.at _ (tree_said p.body)
