-- The woven form of what holds statements: functions and programs.
use Rattle.std.proofs.Common.{codes, if◌then◌else◌, ◌≡◌, ◌∙◌, ap, arith, refl, ℕ, ◌+◌, Bool, List, [], ◌∷◌, Option}
use Rattle.std.proofs.Common.{false, map, option_map, true, ap₂}
use Rattle.jl_ast.specs.Tree as tree
use Rattle.jl_ast.specs.Tree.{Forest, Ident}
use Rattle.jl_ast.proofs.Congruences.{ap₄}
use Rattle.jl_op.specs.Chosen.{Kinds}
use Rattle.jl_op.specs.Ids.{forest_id_count, forest_with_ids, ident_with_id, with_ids}
use Rattle.jl_simulation.specs.HookCalls.{and_last, begin_and_end, enter_and_leave, hook}
use Rattle.jl_simulation.specs.HookCalls.{hook_statement, no_exprs, without_id, Stmts, Woven}
use Rattle.jl_simulation.specs.Weaving.{woven_code, woven_forest}
use Rattle.jl_weave.specs.inner.Bare.{without_place}
use Rattle.jl_weave.specs.inner.Forms.{beginning_form, ended_form, entry_form, first_if, is_begun}
use Rattle.jl_weave.specs.inner.Forms.{is_entered, append_forest, left_form}
use Rattle.jl_weave.proofs.Weaves.{Weaves, WeavesAfter, WeavesAll}
use Rattle.jl_weave.proofs.StatementForms.{label_is}

labels_are : {S : Type 0} (n : ℕ) (l : List (Ident S)) →
    map without_place l ≡ map without_id (map (λ y. ident_with_id y n) l)
labels_are n [] = refl
labels_are n (x ∷ l) = ap (λ r. without_place x ∷ r) (labels_are n l)

-- the two bodies that a hook may stand first in, by whether it does
entered_is : (b : Bool) (id : ℕ) (l : Stmts) →
    (if b then tree.more (tree.try (append_forest (first_if b (hook_statement (hook (codes "E") id no_exprs))) l)
    tree.absent
    (tree.present (tree.branch_of (tree.more (hook_statement (hook (codes "L") (id + 1) no_exprs)) tree.end))) tt)
    tree.end else append_forest (first_if b (hook_statement (hook (codes "E") id no_exprs))) l)
    ≡ (if b then enter_and_leave id l else l)
entered_is true id l = refl
entered_is false id l = refl

begun_is : (b : Bool) (id : ℕ) (l : Stmts) →
    (if b then and_last (append_forest (first_if b (hook_statement (hook (codes "S") id no_exprs))) l)
    (hook_statement (hook (codes "X") (id + 1) no_exprs))
    else append_forest (first_if b (hook_statement (hook (codes "S") id no_exprs))) l)
    ≡ (if b then begin_and_end id l else l)
begun_is true id l = refl
begun_is false id l = refl

module _ (chosen : Kinds) {S : Type 0} where
  -- statements after others, by what those are and by the id at which they are known to begin
  after : (l : Forest S tree.stmt) {first known l' : Stmts} {n next k : ℕ} → WeavesAfter chosen first l n l' next →
      first ≡ known → n ≡ k → l' ≡ append_forest known (woven_forest chosen (forest_with_ids k l))
  after l w f e = w.is ∙ ap₂ (λ first k. append_forest first (woven_forest chosen (forest_with_ids k l))) f e

  pub function_woven : (m : ℕ) (x : Option (Ident S)) (params : List (Ident S)) (strict : Bool)
      (fs : Forest S tree.func) (l : Forest S tree.stmt) (s : S) {fs' : Forest (Unit {0}) tree.func}
      {first l' whole : Stmts} {made : Woven tree.func} {n p next : ℕ} → WeavesAll chosen fs (n + 2) fs' p →
      first ≡ entry_form chosen n → WeavesAfter chosen first l p l' next → whole ≡ left_form chosen n l' →
      made ≡ tree.function m (option_map without_place x)
      (map without_place params) (tree.body strict fs' whole) tt →
      Weaves chosen (tree.function m x params (tree.body strict fs l) s) n made next
  function_woven m x params strict fs l s {n = n} w f u g e =
      let c = w.counted in let d = u.counted in
      let rest = woven_forest chosen (forest_with_ids (n + 2 + forest_id_count fs) l) in
      record {
        is = e ∙ ap₄ (λ x params fs l. tree.function m x params (tree.body strict fs l) tt) (label_is n x)
            (labels_are n params) w.is
            (g ∙ ap (left_form chosen n) (after l u f c) ∙ entered_is (is_entered chosen) n rest);
        counted = omega arith;
      }

  -- a program, whose hooks have the ids 1 and 2
  pub program_woven : (strict : Bool) (fs : Forest S tree.func) (l : Forest S tree.stmt)
      {fs' : Forest (Unit {0}) tree.func} {first l' whole : Stmts} {p next : ℕ} → WeavesAll chosen fs 3 fs' p →
      first ≡ beginning_form chosen 1 → WeavesAfter chosen first l p l' next → whole ≡ ended_form chosen 1 l' →
      tree.body strict fs' whole ≡ woven_code chosen 1 (with_ids 3 (tree.body strict fs l))
  program_woven strict fs l w f u g =
      let rest = woven_forest chosen (forest_with_ids (3 + forest_id_count fs) l) in
      ap₂ (λ fs l. tree.body strict fs l) w.is
      (g ∙ ap (ended_form chosen 1) (after l u f w.counted) ∙ begun_is (is_begun chosen) 1 rest)
