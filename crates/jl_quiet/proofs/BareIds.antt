-- Trees that are given ids are the same with no ids.
use Rattle.std.proofs.Common.{◌≡◌, ℕ, ◌+◌, List, [], ◌∷◌, map, option_map, refl, ap, ap₂, Option, Some, None}
use Rattle.jl_ast.specs.Tree.{absent, and, array, assign, binary, block, body, boolean, branch_of, break, call, case}
use Rattle.jl_ast.specs.Tree.{catch, comma, conditional, continue, debugger, declarator, do_while, dot, empty, end}
use Rattle.jl_ast.specs.Tree.{expr, expression, filled, for, for_in, function, function_expression, getter, handler}
use Rattle.jl_ast.specs.Tree.{hole, if_else, index, init_expression, init_var, labelled, more, name, new, nothing}
use Rattle.jl_ast.specs.Tree.{null, number, object, or, present, return, setter, string, switch, this, throw, to_dot}
use Rattle.jl_ast.specs.Tree.{to_index, to_name, try, unary, update, value, var, while, Forest, Ident, OptionalTree}
use Rattle.jl_ast.specs.Tree.{Program, Sort, Tree}
use Rattle.jl_ast.specs.declared.ops.UnOp.TheVariants as un
use Rattle.jl_ast.proofs.Congruences.{ap₃, ap₄}
use Rattle.jl_op.specs.Ids.{callee_with_ids, forest_with_ids, handler_with_ids, ident_with_id, optional_with_ids}
use Rattle.jl_op.specs.Ids.{program_with_ids, with_ids}
use Rattle.jl_quiet.specs.QuietMean.{without_ids}
use Rattle.jl_quiet.proofs.Bare.{bare, bare_forest, bare_optional, without_id}

module _ {S : Type 0} where
  bare_ids_name : (n : ℕ) (x : Option (Ident S))
      → option_map without_id (option_map (λ y. ident_with_id y n) x) ≡ option_map without_id x
  bare_ids_name n None = refl
  bare_ids_name n (Some x) = refl

  bare_ids_names : (n : ℕ) (l : List (Ident S)) → map without_id (map (λ y. ident_with_id y n) l) ≡ map without_id l
  bare_ids_names n [] = refl
  bare_ids_names n (x ∷ l) = ap (λ names. without_id x ∷ names) (bare_ids_names n l)

  mutual
    pub bare_ids : {x : Sort} (n : ℕ) (t : Tree S x) → bare (with_ids n t) ≡ bare t
    bare_ids n (this s) = refl
    bare_ids n (name a s) = refl
    bare_ids n (number a s) = refl
    bare_ids n (string a s) = refl
    bare_ids n (boolean a s) = refl
    bare_ids n (null s) = refl
    bare_ids n (array a s) = ap (λ p. array p 0) (bare_ids_forest _ a)
    bare_ids n (object a s) = ap (λ p. object p 0) (bare_ids_forest _ a)
    bare_ids n (function_expression a s) = ap (λ p. function_expression p 0) (bare_ids _ a)
    bare_ids n (dot a b s) = ap (λ p. dot p b 0) (bare_ids _ a)
    bare_ids n (index a b s) = ap₂ (λ p q. index p q 0) (bare_ids _ a) (bare_ids _ b)
    bare_ids n (call a b s) = ap₂ (λ p q. call p q 0) (bare_ids_callee _ a (bare_ids _ a)) (bare_ids_forest _ b)
    bare_ids n (new a b s) = ap₂ (λ p q. new p q 0) (bare_ids _ a) (bare_ids_forest _ b)
    bare_ids n (unary un.Delete b s) = ap (λ p. unary un.Delete p 0) (bare_ids _ b)
    bare_ids n (unary a b s) = ap (λ p. unary a p 0) (bare_ids _ b)
    bare_ids n (update up prefix a s) = ap (λ p. update up prefix p 0) (bare_ids _ a)
    bare_ids n (binary a b c s) = ap₂ (λ p q. binary a p q 0) (bare_ids _ b) (bare_ids _ c)
    bare_ids n (and a b s) = ap₂ (λ p q. and p q 0) (bare_ids _ a) (bare_ids _ b)
    bare_ids n (or a b s) = ap₂ (λ p q. or p q 0) (bare_ids _ a) (bare_ids _ b)
    bare_ids n (conditional a b c s) = ap₃ (λ p q r. conditional p q r 0) (bare_ids _ a) (bare_ids _ b) (bare_ids _ c)
    bare_ids n (assign a b c s) = ap₂ (λ p q. assign a p q 0) (bare_ids _ b) (bare_ids _ c)
    bare_ids n (comma a b s) = ap₂ (λ p q. comma p q 0) (bare_ids _ a) (bare_ids _ b)
    bare_ids n (to_name a) = refl
    bare_ids n (to_dot a b s) = ap (λ p. to_dot p b 0) (bare_ids _ a)
    bare_ids n (to_index a b s) = ap₂ (λ p q. to_index p q 0) (bare_ids _ a) (bare_ids _ b)
    bare_ids n hole = refl
    bare_ids n (filled a) = ap (λ p. filled p) (bare_ids _ a)
    bare_ids n (value a b) = ap (λ p. value (without_id a) p) (bare_ids _ b)
    bare_ids n (getter a b) = ap (λ p. getter (without_id a) p) (bare_ids _ b)
    bare_ids n (setter a b) = ap (λ p. setter (without_id a) p) (bare_ids _ b)
    bare_ids n (function m a params b s) =
        ap₃ (λ p q r. function m p q r 0) (bare_ids_name _ a) (bare_ids_names _ params) (bare_ids _ b)
    bare_ids n (body strict a b) = ap₂ (λ p q. body strict p q) (bare_ids_forest _ a) (bare_ids_forest _ b)
    bare_ids n (var a s) = ap (λ p. var p 0) (bare_ids_forest _ a)
    bare_ids n (empty s) = refl
    bare_ids n (expression a s) = ap (λ p. expression p 0) (bare_ids _ a)
    bare_ids n (block a s) = ap (λ p. block p 0) (bare_ids_forest _ a)
    bare_ids n (if_else a b c s) =
        ap₃ (λ p q r. if_else p q r 0) (bare_ids _ a) (bare_ids_forest _ b) (bare_ids_optional _ c)
    bare_ids n (do_while a b s) = ap₂ (λ p q. do_while p q 0) (bare_ids_forest _ a) (bare_ids _ b)
    bare_ids n (while a b s) = ap₂ (λ p q. while p q 0) (bare_ids _ a) (bare_ids_forest _ b)
    bare_ids n (for a b c d s) = ap₄ (λ p q r u. for p q r u 0) (bare_ids _ a) (bare_ids_optional _ b)
        (bare_ids_optional _ c) (bare_ids_forest _ d)
    bare_ids n (for_in is_var a b c s) =
        ap₂ (λ p q. for_in is_var (without_id a) p q 0) (bare_ids _ b) (bare_ids_forest _ c)
    bare_ids n (continue a s) = ap (λ p. continue p 0) (bare_ids_name _ a)
    bare_ids n (break a s) = ap (λ p. break p 0) (bare_ids_name _ a)
    bare_ids n (return a s) = ap (λ p. return p 0) (bare_ids_optional _ a)
    bare_ids n (labelled a b s) = ap (λ p. labelled (without_id a) p 0) (bare_ids _ b)
    bare_ids n (switch a b s) = ap₂ (λ p q. switch p q 0) (bare_ids _ a) (bare_ids_forest _ b)
    bare_ids n (throw a s) = ap (λ p. throw p 0) (bare_ids _ a)
    bare_ids n (try a b c s) =
        ap₃ (λ p q r. try p q r 0) (bare_ids_forest _ a) (bare_ids_handler _ _ b) (bare_ids_optional _ c)
    bare_ids n (debugger s) = refl
    bare_ids n nothing = refl
    bare_ids n (init_expression a) = ap (λ p. init_expression p) (bare_ids _ a)
    bare_ids n (init_var a) = ap (λ p. init_var p) (bare_ids_forest _ a)
    bare_ids n (declarator a b) = ap (λ p. declarator (without_id a) p) (bare_ids_optional _ b)
    bare_ids n (case a b) = ap₂ (λ p q. case p q) (bare_ids_optional _ a) (bare_ids_forest _ b)
    bare_ids n (branch_of a) = ap (λ p. branch_of p) (bare_ids_forest _ a)
    bare_ids n (catch a b) = ap (λ p. catch (without_id a) p) (bare_ids_forest _ b)

    bare_ids_callee : (n : ℕ) (e : Tree S expr) → bare (with_ids (n + 2) e) ≡ bare e
        → bare (callee_with_ids n e (with_ids (n + 2) e)) ≡ bare e
    bare_ids_callee n (dot o k s) h = ap (λ p. dot p k 0) (bare_ids (n + 3) o)
    bare_ids_callee n (index o k s) h = ap₂ (λ p q. index p q 0) (bare_ids (n + 3) o) (bare_ids _ k)
    bare_ids_callee n e h = h

    bare_ids_handler : (id n : ℕ) (h : OptionalTree S handler)
        → bare_optional (handler_with_ids id n h) ≡ bare_optional h
    bare_ids_handler id n absent = refl
    bare_ids_handler id n (present (catch x l)) = ap (λ p. present (catch (without_id x) p)) (bare_ids_forest n l)

    bare_ids_forest : {x : Sort} (n : ℕ) (l : Forest S x) → bare_forest (forest_with_ids n l) ≡ bare_forest l
    bare_ids_forest n end = refl
    bare_ids_forest n (more t l) = ap₂ (λ p q. more p q) (bare_ids n t) (bare_ids_forest _ l)

    bare_ids_optional : {x : Sort} (n : ℕ) (o : OptionalTree S x)
        → bare_optional (optional_with_ids n o) ≡ bare_optional o
    bare_ids_optional n absent = refl
    bare_ids_optional n (present t) = ap (λ p. present p) (bare_ids n t)

  pub bare_ids_program : (p : Program S) → without_ids (program_with_ids p) ≡ without_ids p
  bare_ids_program p = ap (λ b. record { body = b; at = 0 }) (bare_ids 3 p.body)
