-- Loops: how they begin, what follows their body, and the properties that a `for-in` visits.
use Rattle.std.proofs.Common.{◌≡◌, ℕ, ◌≤◌, List, [], ◌∷◌, false, Some, None, arith}
use Rattle.jl_ast.specs.Tree.{Text}
use Rattle.jl_scope.specs.Names.{among}
use Rattle.jl_value.specs.Tests.{is_nothing}
use Rattle.jl_value.specs.declared.ending.Completion.{Completion}
use Rattle.jl_value.specs.declared.ending.Completion.TheVariants as completion
use Rattle.jl_value.specs.declared.value.Value.{Value}
use Rattle.jl_op.specs.Chosen.{Kinds}
use Rattle.jl_op.specs.Ids.{forest_with_ids}
use Rattle.jl_effects.specs.Matching.{begins, ends, looks, peeks}
use Rattle.jl_meaning.specs.Conversions.{to_object}
use Rattle.jl_meaning.specs.Parts.{for_in_loop, Context, Loop, Part, Stmts, Visit}
use Rattle.jl_meaning.specs.Store.{Store}
use Rattle.jl_meaning.specs.forms.Loops.{after_body, begin_loop, visit_all, visit_first, visit_next, visits_left}
use Rattle.jl_meaning.specs.forms.Loops.{visits_of}
use Rattle.jl_meaning.specs.forms.Names.{is_hooks}
use Rattle.jl_simulation.specs.Weaving.{woven_forest}
use Rattle.jl_simulation.specs.inner.Fit.{AllFit, LoopFits}
use Rattle.jl_simulation.proofs.Completions.{valued}
use Rattle.jl_simulation.proofs.Relation.{algorithm, done, pick, turns, woven_loop, Matched, StatementMatch}

module _ {chosen : Kinds} where
  -- what follows a body
  pub body_match : (labels : List Text) {p q : Part Completion} {c d : ℕ} → d ≤ c → (z : Completion) (t : Store)
      → Matched chosen t c d p q → Matched chosen t c d (after_body labels p z) (after_body labels q z)
  body_match labels le completion.Normal t m = m
  body_match labels le (completion.Continue None) t m = m
  body_match labels le (completion.Continue (Some x)) t m = pick (among x labels) m (ends le)
  body_match labels le (completion.Break None) t m = ends le
  body_match labels le (completion.Break (Some x)) t m = ends le
  body_match labels le (completion.Return v) t m = ends le
  body_match labels le (completion.Throw v) t m = ends le

  -- a loop begins with a turn
  pub loop_match : (l : Loop) (c : Context) (labels : List Text) (id : ℕ) → LoopFits l id → (id' j k m : ℕ)
      → StatementMatch chosen (begin_loop l c labels id) (begin_loop (woven_loop chosen id j k m l) c labels id')
  loop_match l c labels id p id' j k m = record {
    at = λ s d. begins (turns l c labels id p id' j k m) (λ z t. done);
  }

module _ (chosen : Kinds) (x : Text) (plain : is_hooks x ≡ false) (l : Stmts) (fits : AllFit l) (c : Context)
    (labels : List Text) (id id' j : ℕ) where
  pub visit_match : (visits : List Visit)
      → StatementMatch chosen (visit_next x l c labels id visits)
      (visit_next x (forest_with_ids j (woven_forest chosen l)) c labels id' visits)
  unfolding visit_next
  visit_match visits = record { at = λ s d. looks (peeks (on (visits_left s.heap visits) s d)) }
    where
      on : (rest : List Visit) (s : Store) (d : ℕ)
          → Matched chosen s d d (visit_first x l c labels id rest)
          (visit_first x (forest_with_ids j (woven_forest chosen l)) c labels id' rest)
      on [] s d = done
      on (v ∷ rest) s d = (loop_match (for_in_loop x v.name rest l) c labels id (plain, fits) id' j 0 0).at s d

  pub visit_all_match : (v : Value)
      → StatementMatch chosen (visit_all x l c labels id v)
      (visit_all x (forest_with_ids j (woven_forest chosen l)) c labels id' v)
  unfolding visit_all
  visit_all_match v = record {
    at = λ s d. pick (is_nothing v) done (valued (omega arith) (algorithm (to_object v))
        (λ object t. looks (peeks ((visit_match (visits_of t.heap object.0)).at t d))));
  }
