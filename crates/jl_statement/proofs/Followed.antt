-- Parts that give a value, and the statements that follow them.
use Rattle.std.proofs.Common.{◌≡◌, Bool, refl, sym, ap, ◌∙◌, subst}
use mathlib.Core.Path.{fun_ext}
use Rattle.jl_value.specs.declared.ending.Completion.{Completion}
use Rattle.jl_value.specs.declared.value.Value.{Value}
use Rattle.jl_conv.specs.Conversions.{truth_of}
use Rattle.jl_effects.specs.Effects.{and_then}
use Rattle.jl_effects.proofs.Chains.{and_then-assoc}
use Rattle.jl_meaning.specs.Completions.{if_normal, normal, on_given, then_do}
use Rattle.jl_meaning.specs.Parts.{give, continue_with, gives, throws, ◌>>=◌, Answer, Part}
use Rattle.jl_meaning.specs.forms.Operators.{decide, decide_by}
use Rattle.jl_state.specs.Rest.{RefinesStatement}
use Rattle.jl_state.specs.declared.act.Act.{Act}
use Rattle.jl_state.specs.declared.state.State.{State}

-- the value of a test is noted, which nobody is told of, and decides
pub decided : (s : State) (v : Value) (b : Bool) (k : Bool → Part Completion) (t : State) (a : Act) → b ≡ truth_of v
    → RefinesStatement s (k b) t a → RefinesStatement s (and_then (decide 0 v) (on_given k)) t a
unfolding decide
decided s v b k t a is refines = record { is = (subst (λ c. RefinesStatement s (k c) t a) is refines).is }

chained : {A B : Type 0} (p : Part (Answer A)) (g : A → Part (Answer B)) (k : B → Part Completion)
    → and_then (p >>= g) (on_given k) ≡ and_then p (on_given (λ v. and_then (g v) (on_given k)))
chained {A} {B} p g k = and_then-assoc p (continue_with g) (on_given k) ∙ ap (and_then p) (fun_ext each)
  where
    each : (b : Answer A) → and_then (continue_with g b) (on_given k) ≡ on_given (λ v. and_then (g v) (on_given k)) b
    each (gives a) = refl
    each (throws v) = refl

-- what follows two parts follows the second
pub together : {A B : Type 0} (s : State) (p : Part (Answer A)) (g : A → Part (Answer B)) (k : B → Part Completion)
    (t : State) (a : Act) → RefinesStatement s (and_then p (on_given (λ v. and_then (g v) (on_given k)))) t a
    → RefinesStatement s (and_then (p >>= g) (on_given k)) t a
together s p g k t a refines = subst (λ q. RefinesStatement s q t a) (sym (chained p g k)) refines

-- the test of a loop
pub tests : (s : State) (p : Part (Answer Value)) (k : Bool → Part Completion) (t : State) (a : Act)
    → RefinesStatement s (and_then p (on_given (λ v. and_then (decide 0 v) (on_given k)))) t a
    → RefinesStatement s (and_then (decide_by 0 p) (on_given k)) t a
tests s p k t a refines = together s p (decide 0) k t a refines

-- an expression whose value does not count
pub begins_with : (s : State) (p : Part (Answer Value)) (q : Part Completion) (t : State) (a : Act)
    → RefinesStatement s (and_then p (on_given (λ _. q))) t a
    → RefinesStatement s (and_then (p >>= λ _. give (tt {0})) (on_given (λ _. q))) t a
begins_with s p q t a refines = together s p (λ _. give (tt {0})) (λ _. q) t a refines

-- the update of a `for`
pub updates : (s : State) (p : Part (Answer Value)) (q : Part Completion) (t : State) (a : Act)
    → RefinesStatement s (and_then p (on_given (λ _. q))) t a
    → RefinesStatement s (then_do (and_then p (on_given (λ _. normal))) q) t a
updates s p q t a refines = subst (λ r. RefinesStatement s r t a) (sym same) refines
  where
    each : (b : Answer Value) → and_then (on_given (λ _. normal) b) (if_normal q) ≡ on_given (λ _. q) b
    each (gives v) = refl
    each (throws v) = refl

    same : then_do (and_then p (on_given (λ _. normal))) q ≡ and_then p (on_given (λ _. q))
    same = and_then-assoc p (on_given (λ _. normal)) (if_normal q) ∙ ap (and_then p) (fun_ext each)
