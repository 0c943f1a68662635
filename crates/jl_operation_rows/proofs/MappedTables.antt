-- The functions of a program with other places are those of the program, with other places and in the same order.
use Rattle.std.proofs.Common.{◌≡◌, ◌∙◌, ℕ, Bool, false, ◌∷◌, ◌++◌, refl, sym, ap, ap₂}
use Rattle.std.proofs.lemmas.List.{map-append}
use Rattle.jl_ast.specs.Spans.{map_forest, map_optional, map_spans, map_tree}
use Rattle.jl_ast.specs.Tree.{absent, and, array, assign, binary, block, body, boolean, branch_of, break, call, case}
use Rattle.jl_ast.specs.Tree.{catch, comma, conditional, continue, debugger, declarator, do_while, dot, empty, end}
use Rattle.jl_ast.specs.Tree.{expression, filled, for, for_in, function, function_expression, getter}
use Rattle.jl_ast.specs.Tree.{hole, if_else, index, init_expression, init_var, labelled, more, name, new, nothing}
use Rattle.jl_ast.specs.Tree.{null, number, object, or, present, return, setter, string, switch, this, throw, to_dot}
use Rattle.jl_ast.specs.Tree.{to_index, to_name, try, unary, update, value, var, while, Forest, OptionalTree}
use Rattle.jl_ast.specs.Tree.{Program, Sort, Tree}
use Rattle.jl_ast.specs.Tree.{code}
use Rattle.jl_scope.specs.Hoisting.{strict_in}
use Rattle.jl_meaning.specs.FunctionObjects.{FunctionTable}
use Rattle.jl_meaning.specs.FunctionTable.{forest_functions, function_table, functions_in, optional_functions}
use Rattle.jl_operation_rows.proofs.SameJobs.{map_table}
use Rattle.jl_operation_rows.proofs.SameMade.{map_function}

module _ (f : ℕ → ℕ) where
  strict_same : (strict : Bool) (b : Tree ℕ code) → strict_in strict (map_tree f b) ≡ strict_in strict b
  strict_same strict (body is_strict fs l) = refl

  join : (a b : FunctionTable) {a' b' : FunctionTable} → a' ≡ map_table f a → b' ≡ map_table f b
      → (a' ++ b') ≡ map_table f (a ++ b)
  join a b e h = ap₂ ◌++◌ e h ∙ sym (map-append (map_function f) a b)

  mutual
    table_same : {x : Sort} (strict : Bool) (t : Tree ℕ x) → functions_in strict (map_tree f t)
        ≡ map_table f (functions_in strict t)
    table_same strict (this s) = refl
    table_same strict (name x s) = refl
    table_same strict (number m s) = refl
    table_same strict (string t s) = refl
    table_same strict (boolean b s) = refl
    table_same strict (null s) = refl
    table_same strict (array l s) = table_forest strict l
    table_same strict (object l s) = table_forest strict l
    table_same strict (function_expression f s) = table_same strict f
    table_same strict (dot o k s) = table_same strict o
    table_same strict (index o k s) = join _ _ (table_same strict o) (table_same strict k)
    table_same strict (call f l s) = join _ _ (table_same strict f) (table_forest strict l)
    table_same strict (new f l s) = join _ _ (table_same strict f) (table_forest strict l)
    table_same strict (unary o e s) = table_same strict e
    table_same strict (update up prefix t s) = table_same strict t
    table_same strict (binary o a b s) = join _ _ (table_same strict a) (table_same strict b)
    table_same strict (and a b s) = join _ _ (table_same strict a) (table_same strict b)
    table_same strict (or a b s) = join _ _ (table_same strict a) (table_same strict b)
    table_same strict (conditional a b c s) =
        join _ _ (join _ _ (table_same strict a) (table_same strict b)) (table_same strict c)
    table_same strict (assign o t e s) = join _ _ (table_same strict t) (table_same strict e)
    table_same strict (comma a b s) = join _ _ (table_same strict a) (table_same strict b)
    table_same strict (to_name x) = refl
    table_same strict (to_dot o k s) = table_same strict o
    table_same strict (to_index o k s) = join _ _ (table_same strict o) (table_same strict k)
    table_same strict hole = refl
    table_same strict (filled e) = table_same strict e
    table_same strict (value k e) = table_same strict e
    table_same strict (getter k f) = table_same strict f
    table_same strict (setter k f) = table_same strict f
    table_same strict (function m x params b s) =
        ap₂ (λ inside l. record { func = map_tree f (function m x params b s); strict = inside } ∷ l)
        (strict_same strict b)
        (ap (λ inside. functions_in inside (map_tree f b)) (strict_same strict b) ∙ table_same (strict_in strict b) b)
    table_same strict (body is_strict fs l) = join _ _ (table_forest strict fs) (table_forest strict l)
    table_same strict (var l s) = table_forest strict l
    table_same strict (empty s) = refl
    table_same strict (expression e s) = table_same strict e
    table_same strict (block l s) = table_forest strict l
    table_same strict (if_else c a b s) =
        join _ _ (join _ _ (table_same strict c) (table_forest strict a)) (table_optional strict b)
    table_same strict (do_while l c s) = join _ _ (table_forest strict l) (table_same strict c)
    table_same strict (while c l s) = join _ _ (table_same strict c) (table_forest strict l)
    table_same strict (for i c u l s) = join _ _
        (join _ _ (join _ _ (table_same strict i) (table_optional strict c)) (table_optional strict u))
        (table_forest strict l)
    table_same strict (for_in is_var x o l s) = join _ _ (table_same strict o) (table_forest strict l)
    table_same strict (continue x s) = refl
    table_same strict (break x s) = refl
    table_same strict (return e s) = table_optional strict e
    table_same strict (labelled x t s) = table_same strict t
    table_same strict (switch e l s) = join _ _ (table_same strict e) (table_forest strict l)
    table_same strict (throw e s) = table_same strict e
    table_same strict (try l h f s) =
        join _ _ (join _ _ (table_forest strict l) (table_optional strict h)) (table_optional strict f)
    table_same strict (debugger s) = refl
    table_same strict nothing = refl
    table_same strict (init_expression e) = table_same strict e
    table_same strict (init_var l) = table_forest strict l
    table_same strict (declarator x e) = table_optional strict e
    table_same strict (case e l) = join _ _ (table_optional strict e) (table_forest strict l)
    table_same strict (branch_of l) = table_forest strict l
    table_same strict (catch x l) = table_forest strict l

    table_forest : {x : Sort} (strict : Bool) (l : Forest ℕ x)
        → forest_functions strict (map_forest f l) ≡ map_table f (forest_functions strict l)
    table_forest strict end = refl
    table_forest strict (more t l) = join _ _ (table_same strict t) (table_forest strict l)

    table_optional : {x : Sort} (strict : Bool) (o : OptionalTree ℕ x)
        → optional_functions strict (map_optional f o) ≡ map_table f (optional_functions strict o)
    table_optional strict absent = refl
    table_optional strict (present t) = table_same strict t

  pub program_table : (p : Program ℕ) → function_table (map_spans f p) ≡ map_table f (function_table p)
  unfolding function_table
  program_table p =
      ap (λ strict. functions_in strict (map_tree f p.body)) (strict_same false p.body)
      ∙ table_same (strict_in false p.body) p.body
