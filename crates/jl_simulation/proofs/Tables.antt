-- The functions of the woven program are the woven functions of the program, in the same order.
use Rattle.std.proofs.Common.{◌≡◌, codes, ℕ, zero, suc, ◌+◌, Bool, true, false, ◌||◌, [], ◌∷◌, ◌++◌, length, Some}
use Rattle.std.proofs.Common.{None, slice_get, refl, sym, ap₂, subst}
use Rattle.std.specs.Prelude.{if◌then◌else◌}
use Rattle.jl_ast.specs.Tree as tree
use Rattle.jl_ast.specs.Tree.{Forest, OptionalTree, Sort, Text, Tree}
use Rattle.jl_ast.specs.declared.ops.UnOp.TheVariants as un
use Rattle.jl_heap.specs.declared.inner.Inner.{Inner}
use Rattle.jl_heap.specs.declared.inner.Inner.TheVariants as inner
use Rattle.jl_op.specs.Chosen.{Kinds}
use Rattle.jl_op.specs.Ids.{forest_with_ids, optional_with_ids, with_ids}
use Rattle.jl_op.specs.declared.callee.Callee.TheVariants as callee
use Rattle.jl_op.specs.declared.kind.OpKind.{OpKind}
use Rattle.jl_op.specs.declared.kind.OpKind.TheVariants as kind
use Rattle.jl_meaning.specs.FunctionObjects.{callee_of, script_callee, FunctionTable}
use Rattle.jl_meaning.specs.FunctionTable.{forest_functions, functions_in, optional_functions}
use Rattle.jl_meaning.specs.Parts.{Expr, Exprs, Func}
use Rattle.jl_meaning.specs.builtins.Function.{names_of}
use Rattle.jl_scope.specs.Names.{arguments_name}
use Rattle.jl_simulation.specs.HookCalls as weaving
use Rattle.jl_simulation.specs.HookCalls.{before_update, hook_1}
use Rattle.jl_simulation.specs.Weaving as rewriting
use Rattle.jl_simulation.specs.Weaving.{weave, woven_callee, woven_delete, woven_forest, woven_optional}
use Rattle.jl_simulation.specs.Weaving.{woven_typeof, woven_update}
use Rattle.jl_simulation.specs.inner.Fit.{AllFit, Fits, FitsIfPresent, UnaryFits}
use Rattle.jl_simulation.proofs.Declarations.{arguments_other, function_of}
use Rattle.jl_simulation.proofs.MadeFunctions.{made_alike, params_same}
use Rattle.jl_simulation.proofs.Mentions.{body_same}
use Rattle.jl_simulation.proofs.Shapes.{call_with_ids}

-- the second has the woven functions of the first, with any ids
pub data TableMatch (chosen : Kinds) : FunctionTable → FunctionTable → Type 0 where
  none : TableMatch chosen [] []
  one : {l m : FunctionTable} → (f : Func) → Fits f → (j : ℕ) → (strict : Bool) → TableMatch chosen l m
      → TableMatch chosen (function_of f strict ∷ l) (function_of (with_ids j (weave chosen f)) strict ∷ m)

-- what operations tell of functions is the same
script_same : (chosen : Kinds) (number : ℕ) (f : Func) (j : ℕ) (strict : Bool)
    → script_callee number (Some (function_of f strict))
    ≡ script_callee number (Some (function_of (with_ids j (weave chosen f)) strict))
script_same chosen number (tree.function m x ps b s) j strict =
    ap₂ (λ names mentioned. callee.Script number (length names) mentioned) (params_same j ps)
    (sym (body_same chosen arguments_name arguments_other b s (j + 2)))

module _ {chosen : Kinds} where
  found_same : {l m : FunctionTable} → TableMatch chosen l m → (number k : ℕ)
      → script_callee number (slice_get l k) ≡ script_callee number (slice_get m k)
  found_same none number k = refl
  found_same (one f p j strict x) number zero = script_same chosen number f j strict
  found_same (one f p j strict x) number (suc k) = found_same x number k

  pub callees_same : {l m : FunctionTable} → TableMatch chosen l m → (i : Inner) → callee_of l i ≡ callee_of m i
  unfolding callee_of
  callees_same x (inner.Script number env) = found_same x number number
  callees_same x (inner.Native b) = refl
  callees_same x _ = refl

  -- and so are their names
  pub names_same : {l m : FunctionTable} → TableMatch chosen l m → names_of l ≡ names_of m
  names_same none = refl
  names_same (one f p j strict x) = ap₂ (λ y names. y ∷ names) (made_alike chosen j f).name (names_same x)

  pub table_append : {a b l m : FunctionTable} → TableMatch chosen a b → TableMatch chosen l m
      → TableMatch chosen (a ++ l) (b ++ m)
  table_append none y = y
  table_append (one f p j strict x) y = one f p j strict (table_append x y)

  pub table_end : {a b : FunctionTable} → TableMatch chosen a b → TableMatch chosen a (b ++ [])
  table_end none = none
  table_end (one f p j strict x) = one f p j strict (table_end x)

module _ (chosen : Kinds) (strict : Bool) where
  -- by a hook, or as it stands
  way : {a : FunctionTable} (b : Bool) (u v : weaving.Expr) (j : ℕ)
      → TableMatch chosen a (functions_in strict (with_ids j u)) → TableMatch chosen a (functions_in strict
      (with_ids j v))
      → TableMatch chosen a (functions_in strict (with_ids j (if b then u else v)))
  way true u v j x y = x
  way false u v j x y = y

  hooked : {a : FunctionTable} (k : OpKind) (h : Text) (id : ℕ) (w : weaving.Expr) (j : ℕ)
      → ((j : ℕ) → TableMatch chosen a (functions_in strict (with_ids j w)))
      → TableMatch chosen a (functions_in strict (with_ids j (rewriting.hooked_if chosen k (hook_1 h id) w)))
  hooked k h id w j x = way (chosen k) _ _ j (table_end (x (j + 2 + 2 + 1))) (x j)

  by_callee : {a : FunctionTable} (b : Bool) (u v : weaving.Expr) (l : Exprs) (j : ℕ)
      → TableMatch chosen a (functions_in strict (with_ids j (tree.call u (woven_forest chosen l) tt)))
      → TableMatch chosen a (functions_in strict (with_ids j (tree.call v (woven_forest chosen l) tt)))
      → TableMatch chosen a (functions_in strict (with_ids j (tree.call (if b then u else v)
      (woven_forest chosen l) tt)))
  by_callee true u v l j x y = x
  by_callee false u v l j x y = y

  typeof_table : (e : Expr) (id : ℕ) → UnaryFits un.Typeof e (Fits e) id → (j : ℕ)
      → (Fits e → (j : ℕ) → TableMatch chosen (functions_in strict e) (functions_in strict
      (with_ids j (weave chosen e))))
      → TableMatch chosen (functions_in strict e)
      (functions_in strict (with_ids j (woven_typeof chosen id e (weave chosen e))))
  typeof_table (tree.name x s) id p j itself = way (chosen kind.TypeofName) _ _ j none none
  typeof_table _ id p j itself =
      way (chosen kind.Unary) _ _ j (table_end (itself p.0 (j + 2 + 2 + 1 + 1))) (itself p.0 (j + 1))

  back_table : (up prefix : Bool) (e : weaving.Expr) {l : FunctionTable} (j : ℕ)
      → ((j : ℕ) → TableMatch chosen l (functions_in strict (with_ids j e)))
      → TableMatch chosen l (functions_in strict (with_ids j (before_update up prefix e)))
  back_table up true e j x = x j
  back_table true false e j x = table_end (x (j + 1))
  back_table false false e j x = table_end (x (j + 1))

  catch_table : {a : FunctionTable} (b : Bool) (id : ℕ) (x : Text) (l : weaving.Stmts) (j : ℕ)
      → ((j : ℕ) → TableMatch chosen a (forest_functions strict (forest_with_ids j l)))
      → TableMatch chosen a (forest_functions strict (forest_with_ids j
      (if b then weaving.catch_and_go_on id x l else l)))
  catch_table true id x l j y = y _
  catch_table false id x l j y = y j

  body_table : {a : FunctionTable} (b : Bool) (id : ℕ) (l : weaving.Stmts) (j : ℕ)
      → ((j : ℕ) → TableMatch chosen a (forest_functions strict (forest_with_ids j l)))
      → TableMatch chosen a (forest_functions strict (forest_with_ids j
      (if b then weaving.enter_and_leave id l else l)))
  body_table true id l j y = table_end (table_end (table_end (y _)))
  body_table false id l j y = y j

module _ (chosen : Kinds) where
  mutual
    pub functions_match : {x : Sort} (strict : Bool) (t : Tree ℕ x) → Fits t → (j : ℕ)
        → TableMatch chosen (functions_in strict t) (functions_in strict (with_ids j (weave chosen t)))
    functions_match strict (tree.this s) p j = none
    functions_match strict (tree.name x s) p j = way chosen strict (chosen kind.Read) _ _ j none none
    functions_match strict (tree.number m s) p j = way chosen strict (chosen kind.Literal) _ _ j none none
    functions_match strict (tree.string m s) p j = way chosen strict (chosen kind.Literal) _ _ j none none
    functions_match strict (tree.boolean m s) p j = way chosen strict (chosen kind.Literal) _ _ j none none
    functions_match strict (tree.null s) p j = way chosen strict (chosen kind.Literal) _ _ j none none
    functions_match strict (tree.array l s) p j =
        hooked chosen strict kind.ArrayLiteral (codes "T") s _ j (λ j. forests_match strict l p.0 _)
    functions_match strict (tree.object l s) p j =
        hooked chosen strict kind.ObjectLiteral (codes "T") s _ j (λ j. forests_match strict l p.0 _)
    functions_match strict (tree.function_expression f s) p j =
        hooked chosen strict kind.FunctionLiteral (codes "T") s _ j (λ j. functions_match strict f p.0 _)
    functions_match strict (tree.dot o k s) p j =
        way chosen strict (chosen kind.GetField) _ _ j (table_end (functions_match strict o p.0 _))
        (functions_match strict o p.0 _)
    functions_match strict (tree.index o k s) p j =
        way chosen strict (chosen kind.GetField) _ _ j
        (table_append (functions_match strict o p.0 _) (table_end (functions_match strict k p.1 _)))
        (table_append (functions_match strict o p.0 _) (functions_match strict k p.1 _))
    functions_match strict (tree.call f l s) p j =
        callee_table strict f p.0 s l j (λ j. functions_match strict f p.0 j) (λ j. forests_match strict l p.1 j)
    functions_match strict (tree.new f l s) p j =
        way chosen strict (rewriting.calls chosen) _ _ j
        (table_append (table_end (functions_match strict f p.0 _)) (forests_match strict l p.1 _))
        (table_append (functions_match strict f p.0 _) (forests_match strict l p.1 _))
    functions_match strict (tree.unary un.Typeof e s) p j =
        typeof_table chosen strict e s p j (λ q j. functions_match strict e q j)
    functions_match strict (tree.unary un.Delete e s) p j =
        delete_table strict e s p j (λ q j. functions_match strict e q j)
    functions_match strict (tree.unary o e s) p j =
        way chosen strict (chosen kind.Unary) _ _ j (table_end (functions_match strict e p.0 _))
        (functions_match strict e p.0 _)
    functions_match strict (tree.update up prefix t s) p j =
        way chosen strict (rewriting.computes chosen t kind.Unary) _ _ j
        (back_table chosen strict up prefix (woven_update chosen up t s) j (λ j. update_table strict t p.0 s up j))
        (functions_match strict t p.0 _)
    functions_match strict (tree.binary o a b s) p j =
        way chosen strict (chosen kind.Binary) _ _ j
        (table_append (functions_match strict a p.0 _) (table_end (functions_match strict b p.1 _)))
        (table_append (functions_match strict a p.0 _) (functions_match strict b p.1 _))
    functions_match strict (tree.and a b s) p j =
        table_append (hooked chosen strict kind.Conditional (codes "C") s _ _ (λ j. functions_match strict a p.0 j))
        (functions_match strict b p.1 _)
    functions_match strict (tree.or a b s) p j =
        table_append (hooked chosen strict kind.Conditional (codes "C") s _ _ (λ j. functions_match strict a p.0 j))
        (functions_match strict b p.1 _)
    functions_match strict (tree.conditional a b c s) p j =
        table_append (table_append
        (hooked chosen strict kind.Conditional (codes "C") s _ _ (λ j. functions_match strict a p.0 j))
        (functions_match strict b p.1 _)) (functions_match strict c p.2 _)
    functions_match strict (tree.assign None (tree.to_name x) e s) p j =
        way chosen strict (chosen kind.Write) _ _ j (table_end (functions_match strict e p.2 _))
        (functions_match strict e p.2 _)
    functions_match strict (tree.assign (Some q) (tree.to_name x) e s) p j =
        way chosen strict (rewriting.computes chosen (tree.to_name x) kind.Binary) _ _ j
        (table_end (table_end (functions_match strict e p.2 _))) (functions_match strict e p.2 _)
    functions_match strict (tree.assign None (tree.to_dot o k s) e t) p j =
        way chosen strict (chosen kind.PutField) _ _ j
        (table_append (table_end (functions_match strict o p.1 _)) (table_end (functions_match strict e p.2 _)))
        (table_append (functions_match strict o p.1 _) (functions_match strict e p.2 _))
    functions_match strict (tree.assign (Some q) (tree.to_dot o k s) e t) p j =
        way chosen strict (rewriting.computes chosen (tree.to_dot o k s) kind.Binary) _ _ j
        (table_append (table_end (functions_match strict o p.1 _)) (table_end (functions_match strict e p.2 _)))
        (table_append (functions_match strict o p.1 _) (functions_match strict e p.2 _))
    functions_match strict (tree.assign None (tree.to_index o k s) e t) p j =
        way chosen strict (chosen kind.PutField) _ _ j
        (table_append (table_append (functions_match strict o p.1.0 _) (table_end (functions_match strict k p.1.1 _)))
        (table_end (functions_match strict e p.2 _)))
        (table_append (table_append (functions_match strict o p.1.0 _) (functions_match strict k p.1.1 _))
        (functions_match strict e p.2 _))
    functions_match strict (tree.assign (Some q) (tree.to_index o k s) e t) p j =
        way chosen strict (rewriting.computes chosen (tree.to_index o k s) kind.Binary) _ _ j
        (table_append (table_append (functions_match strict o p.1.0 _) (table_end (functions_match strict k p.1.1 _)))
        (table_end (functions_match strict e p.2 _)))
        (table_append (table_append (functions_match strict o p.1.0 _) (functions_match strict k p.1.1 _))
        (functions_match strict e p.2 _))
    functions_match strict (tree.comma a b s) p j =
        table_append (functions_match strict a p.0 _) (functions_match strict b p.1 _)
    functions_match strict (tree.to_name x) p j = none
    functions_match strict (tree.to_dot o k s) p j = functions_match strict o p j
    functions_match strict (tree.to_index o k s) p j =
        table_append (functions_match strict o p.0 _) (functions_match strict k p.1 _)
    functions_match strict tree.hole p j = none
    functions_match strict (tree.filled e) p j = functions_match strict e p j
    functions_match strict (tree.value k e) p j = functions_match strict e p j
    functions_match strict (tree.getter k f) p j = functions_match strict f p j
    functions_match strict (tree.setter k f) p j = functions_match strict f p j
    functions_match strict (tree.function m x ps (tree.body st fs l) s) p j =
        one (tree.function m x ps (tree.body st fs l) s) p j (strict || st)
        (table_append (forests_match (strict || st) fs p.0.0 _)
        (body_table chosen (strict || st) (chosen kind.FunctionEnter || chosen kind.FunctionExit) s _ _
        (λ j. forests_match (strict || st) l p.0.1 j)))
    functions_match strict (tree.body st fs l) p j =
        table_append (forests_match strict fs p.0 _) (forests_match strict l p.1 _)
    functions_match strict (tree.var l s) p j = forests_match strict l p j
    functions_match strict (tree.empty s) p j = none
    functions_match strict (tree.expression e s) p j = functions_match strict e p j
    functions_match strict (tree.block l s) p j = forests_match strict l p j
    functions_match strict (tree.if_else e a b s) p j =
        table_append (table_append
        (hooked chosen strict kind.Conditional (codes "C") s _ _ (λ j. functions_match strict e p.0 j))
        (forests_match strict a p.1 _)) (optionals_match strict b p.2 _)
    functions_match strict (tree.do_while l e s) p j =
        table_append (forests_match strict l p.0 _)
        (hooked chosen strict kind.Conditional (codes "C") s _ _ (λ j. functions_match strict e p.1 j))
    functions_match strict (tree.while e l s) p j =
        table_append (hooked chosen strict kind.Conditional (codes "C") s _ _ (λ j. functions_match strict e p.0 j))
        (forests_match strict l p.1 _)
    functions_match strict (tree.for i tree.absent u l s) p j =
        table_append (table_append (table_append (functions_match strict i p.0 _) none)
        (optionals_match strict u p.2 _))
        (forests_match strict l p.3 _)
    functions_match strict (tree.for i (tree.present e) u l s) p j =
        table_append (table_append (table_append (functions_match strict i p.0 _)
        (hooked chosen strict kind.Conditional (codes "C") s _ _ (λ j. functions_match strict e p.1 j)))
        (optionals_match strict u p.2 _)) (forests_match strict l p.3 _)
    functions_match strict (tree.for_in is_var x o l s) p j =
        table_append (hooked chosen strict kind.ForIn (codes "O") s _ _ (λ j. functions_match strict o p.1 j))
        (forests_match strict l p.2 _)
    functions_match strict (tree.continue x s) p j = none
    functions_match strict (tree.break x s) p j = none
    functions_match strict (tree.return tree.absent s) p j = none
    functions_match strict (tree.return (tree.present e) s) p j =
        hooked chosen strict kind.Return (codes "V") s _ _ (λ j. functions_match strict e p.0 j)
    functions_match strict (tree.labelled x t s) p j = functions_match strict t p j
    functions_match strict (tree.switch e l s) p j =
        table_append (functions_match strict e p.0 _) (forests_match strict l p.1 _)
    functions_match strict (tree.throw e s) p j =
        hooked chosen strict kind.Throw (codes "K") s _ _ (λ j. functions_match strict e p.0 j)
    functions_match strict (tree.try l tree.absent f s) p j =
        table_append (table_append (forests_match strict l p.0 _) none) (optionals_match strict f p.2 _)
    functions_match strict (tree.try l (tree.present (tree.catch x h)) f s) p j =
        table_append (table_append (forests_match strict l p.0 _)
        (catch_table chosen strict (chosen kind.Catch) x.at x.text _ _ (λ j. forests_match strict h p.1.1 j)))
        (optionals_match strict f p.2 _)
    functions_match strict (tree.debugger s) p j = none
    functions_match strict tree.nothing p j = none
    functions_match strict (tree.init_expression e) p j = functions_match strict e p j
    functions_match strict (tree.init_var l) p j = forests_match strict l p j
    functions_match strict (tree.declarator x tree.absent) p j = none
    functions_match strict (tree.declarator x (tree.present e)) p j =
        way chosen strict (chosen kind.Write) _ _ (j + 1) (table_end (functions_match strict e p.1 _))
        (functions_match strict e p.1 _)
    functions_match strict (tree.case e l) p j =
        table_append (optionals_match strict e p.0 _) (forests_match strict l p.1 _)
    functions_match strict (tree.branch_of l) p j = forests_match strict l p j
    functions_match strict (tree.catch x l) p j =
        catch_table chosen strict (chosen kind.Catch) x.at x.text _ _ (λ j. forests_match strict l p.1 j)

    callee_table : (strict : Bool) (f : Expr) → Fits f → (id : ℕ) (l : Exprs) (j : ℕ)
        → ((j : ℕ) → TableMatch chosen (functions_in strict f) (functions_in strict (with_ids j (weave chosen f))))
        → ((j : ℕ) → TableMatch chosen (forest_functions strict l)
        (forest_functions strict (forest_with_ids j (woven_forest chosen l))))
        → TableMatch chosen (functions_in strict f ++ forest_functions strict l)
        (functions_in strict (with_ids j
        (tree.call (woven_callee chosen f (weave chosen f) id) (woven_forest chosen l) tt)))
    callee_table strict (tree.dot o k s) p id l j itself rest =
        by_callee chosen strict (rewriting.calls_member chosen) _ _ l j
        (table_append (table_end (functions_match strict o p.0 _)) (rest _))
        (table_append (functions_match strict o p.0 _) (rest _))
    callee_table strict (tree.index o k s) p id l j itself rest =
        by_callee chosen strict (rewriting.calls_member chosen) _ _ l j
        (table_append (table_append (functions_match strict o p.0 _) (table_end (functions_match strict k p.1 _)))
        (rest _))
        (table_append (table_append (functions_match strict o p.0 _) (functions_match strict k p.1 _)) (rest _))
    callee_table strict f p id l j itself rest =
        by_callee chosen strict (rewriting.calls chosen) _ (weave chosen f) l j
        (table_append (table_end (itself (j + 2 + 2 + 2 + 1))) (rest _))
        (subst (λ t. TableMatch chosen (functions_in strict f ++ forest_functions strict l) (functions_in strict t))
        (sym (call_with_ids chosen f tt j (woven_forest chosen l))) (table_append (itself (j + 2)) (rest _)))

    delete_table : (strict : Bool) (e : Expr) (id : ℕ) → UnaryFits un.Delete e (Fits e) id → (j : ℕ)
        → (Fits e → (j : ℕ)
        → TableMatch chosen (functions_in strict e) (functions_in strict (with_ids j (weave chosen e))))
        → TableMatch chosen (functions_in strict e)
        (functions_in strict (with_ids j (woven_delete chosen e (weave chosen e) id)))
    delete_table strict (tree.name x s) id p j itself = none
    delete_table strict (tree.dot o k s) id p j itself =
        way chosen strict (chosen kind.DeleteField) _ _ j (table_end (functions_match strict o p.0.0 _))
        (functions_match strict o p.0.0 _)
    delete_table strict (tree.index o k s) id p j itself =
        way chosen strict (chosen kind.DeleteField) _ _ j
        (table_append (functions_match strict o p.0.0 _) (table_end (functions_match strict k p.0.1 _)))
        (table_append (functions_match strict o p.0.0 _) (functions_match strict k p.0.1 _))
    delete_table strict f id p j itself = itself p j

    update_table : (strict : Bool) (t : Tree ℕ tree.target) → Fits t → (id : ℕ) (up : Bool) (j : ℕ)
        → TableMatch chosen (functions_in strict t) (functions_in strict (with_ids j (woven_update chosen up t id)))
    update_table strict (tree.to_name x) p id up j = none
    update_table strict (tree.to_dot o k s) p id up j = table_end (functions_match strict o p _)
    update_table strict (tree.to_index o k s) p id up j =
        table_append (functions_match strict o p.0 _) (table_end (functions_match strict k p.1 _))

    pub forests_match : {x : Sort} (strict : Bool) (l : Forest ℕ x) → AllFit l → (j : ℕ)
        → TableMatch chosen (forest_functions strict l)
        (forest_functions strict (forest_with_ids j (woven_forest chosen l)))
    forests_match strict tree.end p j = none
    forests_match strict (tree.more t l) p j =
        table_append (functions_match strict t p.0 _) (forests_match strict l p.1 _)

    optionals_match : {x : Sort} (strict : Bool) (m : OptionalTree ℕ x) → FitsIfPresent m → (j : ℕ)
        → TableMatch chosen (optional_functions strict m)
        (optional_functions strict (optional_with_ids j (woven_optional chosen m)))
    optionals_match strict tree.absent p j = none
    optionals_match strict (tree.present t) p j = functions_match strict t p j
