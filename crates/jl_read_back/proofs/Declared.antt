-- The woven script binds what the script binds.
use Rattle.std.proofs.Common.{◌≡◌, ◌∙◌, ℕ, ◌+◌, Bool, true, false, ◌||◌, List, [], ◌∷◌, ◌++◌, map, Option, Some, None}
use Rattle.std.proofs.Common.{option_map, append-nil, codes, refl, ap, ap₂}
use Rattle.std.specs.Prelude.{if◌then◌else◌}
use Rattle.jl_ast.specs.Tree as tree
use Rattle.jl_ast.specs.Tree.{Forest, Ident, OptionalTree, Text, Tree}
use Rattle.jl_op.specs.Chosen.{Kinds}
use Rattle.jl_op.specs.Ids.{forest_id_count, forest_with_ids, id_count, ident_with_id, with_ids}
use Rattle.jl_op.specs.declared.kind.OpKind.TheVariants as kind
use Rattle.jl_scope.specs.Hoisting.{bound_by_body, bound_by_function, declared_in, declared_in_forest}
use Rattle.jl_scope.specs.Hoisting.{function_names, name_texts, strict_in}
use Rattle.jl_simulation.specs.HookCalls.{and_last, begin_and_end, catch_and_go_on, enter_and_leave, hook}
use Rattle.jl_simulation.specs.HookCalls.{hook_statement, no_exprs, without_id, Stmts}
use Rattle.jl_simulation.specs.Weaving.{weave, woven_body, woven_code, woven_forest}

-- the calls of hooks declare nothing
caught : (b : Bool) (id : ℕ) (x : Text) (l : Stmts)
    → declared_in_forest (if b then catch_and_go_on id x l else l) ≡ declared_in_forest l
caught true id x l = refl
caught false id x l = refl

three_none : (l : List Text) → ((l ++ []) ++ []) ++ [] ≡ l
three_none l = append-nil ((l ++ []) ++ []) ∙ append-nil (l ++ []) ∙ append-nil l

entered : (b : Bool) (id : ℕ) (l : Stmts)
    → declared_in_forest (if b then enter_and_leave id l else l) ≡ declared_in_forest l
entered true id l = three_none (declared_in_forest l)
entered false id l = refl

one_more : (l : Stmts) (h : Text) (id : ℕ)
    → declared_in_forest (and_last l (hook_statement (hook h id no_exprs))) ≡ declared_in_forest l
one_more tree.end h id = refl
one_more (tree.more t l) h id = ap (λ p. declared_in t ++ p) (one_more l h id)

begun : (b : Bool) (id : ℕ) (l : Stmts)
    → declared_in_forest (if b then begin_and_end id l else l) ≡ declared_in_forest l
begun true id l = one_more l (codes "X") (id + 1)
begun false id l = refl

module _ (chosen : Kinds) {S : Type 0} where
  variables : (l : Forest S tree.decl) (j : ℕ)
      → declared_in_forest (woven_forest chosen (forest_with_ids j l)) ≡ declared_in_forest l
  variables tree.end j = refl
  variables (tree.more (tree.declarator x tree.absent) l) j =
      ap (λ p. x.text ∷ p) (variables l (j + id_count (tree.declarator x tree.absent)))
  variables (tree.more (tree.declarator x (tree.present e)) l) j =
      ap (λ p. x.text ∷ p) (variables l (j + id_count (tree.declarator x (tree.present e))))

  first_part : (i : Tree S tree.init) (j : ℕ) → declared_in (weave chosen (with_ids j i)) ≡ declared_in i
  first_part tree.nothing j = refl
  first_part (tree.init_expression e) j = refl
  first_part (tree.init_var l) j = variables l j

  mutual
    declared : (t : Tree S tree.stmt) (j : ℕ) → declared_in (weave chosen (with_ids j t)) ≡ declared_in t
    declared (tree.var l s) j = variables l j
    declared (tree.empty s) j = refl
    declared (tree.expression e s) j = refl
    declared (tree.block l s) j = all l j
    declared (tree.if_else e a tree.absent s) j = ap (λ p. p ++ []) (all a _)
    declared (tree.if_else e a (tree.present (tree.branch_of b)) s) j =
        ap₂ (λ p q. p ++ q) (all a _) (all b _)
    declared (tree.do_while l e s) j = all l _
    declared (tree.while e l s) j = all l _
    declared (tree.for i c u l s) j = ap₂ (λ p q. p ++ q) (first_part i _) (all l _)
    declared (tree.for_in true x o l s) j = ap (λ p. x.text ∷ p) (all l _)
    declared (tree.for_in false x o l s) j = all l _
    declared (tree.continue x s) j = refl
    declared (tree.break x s) j = refl
    declared (tree.return tree.absent s) j = refl
    declared (tree.return (tree.present e) s) j = refl
    declared (tree.labelled x t s) j = declared t j
    declared (tree.switch e l s) j = clauses l _
    declared (tree.throw e s) j = refl
    declared (tree.try l tree.absent tree.absent s) j = ap (λ p. (p ++ []) ++ []) (all l _)
    declared (tree.try l tree.absent (tree.present (tree.branch_of f)) s) j =
        ap₂ (λ p q. (p ++ []) ++ q) (all l _) (all f _)
    declared (tree.try l (tree.present (tree.catch x h)) tree.absent s) j =
        ap₂ (λ p q. (p ++ q) ++ []) (all l _) (caught (chosen kind.Catch) j x.text _ ∙ all h _)
    declared (tree.try l (tree.present (tree.catch x h)) (tree.present (tree.branch_of f)) s) j =
        ap₂ (λ p q. p ++ q)
        (ap₂ (λ p q. p ++ q) (all l _) (caught (chosen kind.Catch) j x.text _ ∙ all h _)) (all f _)
    declared (tree.debugger s) j = refl

    all : (l : Forest S tree.stmt) (j : ℕ)
        → declared_in_forest (woven_forest chosen (forest_with_ids j l)) ≡ declared_in_forest l
    all tree.end j = refl
    all (tree.more t l) j = ap₂ (λ p q. p ++ q) (declared t j) (all l (j + id_count t))

    clauses : (l : Forest S tree.clause) (j : ℕ)
        → declared_in_forest (woven_forest chosen (forest_with_ids j l)) ≡ declared_in_forest l
    clauses tree.end j = refl
    clauses (tree.more (tree.case e b) l) j =
        ap₂ (λ p q. p ++ q) (all b _) (clauses l (j + id_count (tree.case e b)))

  named : (x : Option (Ident S)) (j : ℕ)
      → name_texts (option_map without_id (option_map (λ y. ident_with_id y j) x)) ≡ name_texts x
  named None j = refl
  named (Some x) j = refl

  functions : (l : Forest S tree.func) (j : ℕ)
      → function_names (woven_forest chosen (forest_with_ids j l)) ≡ function_names l
  functions tree.end j = refl
  functions (tree.more (tree.function m x ps (tree.body strict fs b) s) l) j =
      ap₂ (λ p q. p ++ q) (named x j) (functions l (j + id_count (tree.function m x ps (tree.body strict fs b) s)))

  parameters : (l : List (Ident S)) (j : ℕ)
      → map (λ (x : Ident (Unit {0})). x.text) (map without_id (map (λ y. ident_with_id y j) l))
      ≡ map (λ (x : Ident S). x.text) l
  parameters [] j = refl
  parameters (x ∷ l) j = ap (λ m. x.text ∷ m) (parameters l j)

  body_bound : (b : Tree S tree.code) (j n : ℕ)
      → bound_by_body (woven_body chosen n (with_ids j b)) ≡ bound_by_body b
  body_bound (tree.body strict fs l) j n =
      ap₂ (λ p q. p ++ q) (functions fs j)
      (entered (chosen kind.FunctionEnter || chosen kind.FunctionExit) n
      (woven_forest chosen (forest_with_ids (j + forest_id_count fs) l)) ∙ all l (j + forest_id_count fs))

  pub body_strict : (outer : Bool) (b : Tree S tree.code) (j n : ℕ)
      → strict_in outer (woven_body chosen n (with_ids j b)) ≡ strict_in outer b
  body_strict outer (tree.body strict fs l) j n = refl

  pub function_bound : (x : Option (Ident S)) (ps : List (Ident S)) (b : Tree S tree.code) (i j n : ℕ)
      → bound_by_function (option_map without_id (option_map (λ y. ident_with_id y i) x))
      (map without_id (map (λ y. ident_with_id y i) ps)) (woven_body chosen n (with_ids j b))
      ≡ bound_by_function x ps b
  function_bound x ps b i j n =
      ap₂ (λ p q. p ++ q) (ap₂ (λ p q. p ++ q) (named x i) (parameters ps i)) (body_bound b j n)

  pub program_bound : (b : Tree S tree.code) → bound_by_body (woven_code chosen 1 (with_ids 3 b)) ≡ bound_by_body b
  program_bound (tree.body strict fs l) =
      ap₂ (λ p q. p ++ q) (functions fs 3)
      (begun (chosen kind.ScriptEnter || chosen kind.ScriptExit) 1
      (woven_forest chosen (forest_with_ids (3 + forest_id_count fs) l)) ∙ all l (3 + forest_id_count fs))

  pub program_strict : (outer : Bool) (b : Tree S tree.code)
      → strict_in outer (woven_code chosen 1 (with_ids 3 b)) ≡ strict_in outer b
  program_strict outer (tree.body strict fs l) = refl
