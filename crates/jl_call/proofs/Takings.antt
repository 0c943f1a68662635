-- Arguments whose values are there at once, and those that are left (11.2.4).
use Rattle.std.proofs.Common.{◌≡◌, ◌∷◌, ◌++◌, ◌+◌, ◌-◌, ◌<◌, ◌≤◌, ◌∙◌, [], ap, arith, refl, subst, sym}
use Rattle.std.proofs.Common.{IfSome, List, Option, Some, ℕ}
use Rattle.jl_ast.specs.View.{view_expression, view_expressions}
use Rattle.jl_ast.specs.declared.tree.Expr.{Expr}
use Rattle.jl_value.specs.declared.value.Value.{Value}
use Rattle.jl_meaning.specs.Expressions.{evaluate, evaluate_all}
use Rattle.jl_meaning.specs.Parts.{◌>>=◌, Answer, Part}
use Rattle.jl_state.specs.Rank.{rank_act, ranks, RankedBelow}
use Rattle.jl_state.specs.Rest.{RefinesExpression}
use Rattle.jl_state.specs.Steps.{Supplies, Took}
use Rattle.jl_state.specs.Trees.{plain, plain_forest}
use Rattle.jl_state.specs.ValueFrames.{arguments_after}
use Rattle.jl_state.specs.Words.{context_of, table_of}
use Rattle.jl_state.specs.declared.act.Act.{Act}
use Rattle.jl_state.specs.declared.frame.Here.{Here}
use Rattle.jl_state.specs.declared.state.State.{State}
use Rattle.jl_state.specs.declared.value_frame.ArgumentUse.{ArgumentUse}
use Rattle.jl_call.specs.inner.Taken.{values_in, Takes}
use Rattle.jl_call.proofs.Rests.{goes_on}

-- the value of an expression in a state
abbrev value_in : State → Expr → Here → Part (Answer Value)
value_in s e here = evaluate (table_of s.functions) (plain (view_expression e)) (context_of s.calls here)

module _ (s : State) (here : Here) (so_far : List Value) (items : List Expr) where
  pub takes_none : Takes s here so_far items s so_far items
  takes_none = record { gives = λ k u a refines. refines; same = refl; left = omega arith }

  -- the value of the next one is there at once
  pub takes_next : (t u : State) (values more : List Value) (left others : List Expr) (e : Expr) (r : Option Value)
      (v : Value) → Takes s here so_far items t values left → left ≡ e ∷ others
      → IfSome r (λ w. (x : State) → Took t x → x ≡ record t { left = t.left - 1 }
      → Supplies t (value_in t e here) w x)
      → r ≡ Some v → Took t u → u ≡ record t { left = t.left - 1 } → u.left < t.left → more ≡ values ++ v ∷ []
      → Takes s here so_far items u more others
  takes_next t u values more left others e r v before is supplies found took one less pushed = record {
    gives = λ k w a refines. before.gives k w a
        (subst (λ (x : State). RefinesExpression t (values_in x values left here >>= k) w a) before.same
        (goes_on t w a values left (context_of t.calls here) k e others is
        (supplied.gives (λ v. values_in t (values ++ v ∷ []) others here >>= k) w a
        (subst (λ (x : State). RefinesExpression u (values_in x (values ++ v ∷ []) others here >>= k) w a)
        (sym before.same)
        (subst (λ (l : List Value). RefinesExpression u (values_in s l others here >>= k) w a) pushed refines)))));
    same = one ∙ ap (λ (x : State). record x { left = t.left - 1 }) before.same
        ∙ ap (λ (n : ℕ). record s { left = n }) (sym (ap (λ (x : State). x.left) one));
    left = let smaller : t.left ≤ s.left = before.left in omega arith;
  }
    where
      supplied : Supplies t (value_in t e here) v u
      supplied =
          (subst (λ (o : Option Value). IfSome o (λ w. (x : State) → Took t x → x ≡ record t { left = t.left - 1 }
          → Supplies t (value_in t e here) w x)) found supplies) u took one

  -- what may do less than m with those that are left, does less than n with all
  pub falls_taken : (t u : State) (a : Act) (values : List Value) (others : List Expr) (m n : ℕ) → m ≤ n
      → Takes s here so_far items t values others → RankedBelow t m u a → RankedBelow s n u a
  falls_taken t u a values others m n more took bounded =
      let fewer : t.left ≤ s.left = took.left in
      let last : u.left ≤ t.left = bounded.left in
      let frames : ranks t.stack ≡ ranks s.stack = ap (λ (x : State). ranks x.stack) took.same in
      record {
        left = omega arith;
        lower = λ same.
            let lower : rank_act a + ranks u.stack < m + ranks t.stack = bounded.lower (omega arith) in omega arith;
      }

  module _ (t u : State) (a : Act) (values : List Value) (purpose : ArgumentUse) where
    abbrev used_in : State → List Value → Part (Answer Value)
    used_in x = arguments_after (table_of x.functions) x.calls purpose here

    -- none is left
    pub uses_taken : Takes s here so_far items t values [] → RefinesExpression t (used_in t values) u a
        → RefinesExpression s (values_in s so_far items here >>= used_in s) u a
    uses_taken took refines =
        took.gives (used_in s) u a (subst (λ (x : State). RefinesExpression t (used_in x values) u a) took.same refines)

    -- the next one is evaluated, and then the others
    pub waits_taken : (e : Expr) (others : List Expr) → Takes s here so_far items t values (e ∷ others)
        → RefinesExpression t (value_in t e here >>= λ v. values_in t (values ++ v ∷ []) others here >>= used_in t) u a
        → RefinesExpression s (values_in s so_far items here >>= used_in s) u a
    waits_taken e others took refines =
        took.gives (used_in s) u a
        (subst (λ (x : State). RefinesExpression t (values_in x values (e ∷ others) here >>= used_in x) u a) took.same
        (goes_on t u a values (e ∷ others) (context_of t.calls here) (used_in t) e others refl refines))
