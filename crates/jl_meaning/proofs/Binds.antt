-- Parts and algorithms one after another.
use mathlib.Core.Path.{fun_ext}
use Rattle.std.proofs.Common.{◌≡◌, ◌∙◌, refl, ap}
use Rattle.jl_effects.specs.Effects.{and_then}
use Rattle.jl_effects.specs.Effects as effects
use Rattle.jl_effects.proofs.Chains.{and_then-assoc, row-and_then}
use Rattle.jl_meaning.specs.Parts.{fault_of, continue_with, gives, lift, throws, ◌>>=◌, Algorithm, Answer, CallOf}

-- what follows may be put after what goes before, or after both
pub bind_assoc : {S C F J R O A B D : Type 0} (p : effects.Part S C F J R O (Answer A))
    (k : A → effects.Part S C F J R O (Answer B)) (l : B → effects.Part S C F J R O (Answer D))
    → (p >>= k >>= l) ≡ (p >>= λ a. k a >>= l)
bind_assoc {A = A} p k l = and_then-assoc p (continue_with k) (continue_with l) ∙ ap (and_then p) (fun_ext each)
  where
    each : (b : Answer A) → and_then (continue_with k b) (continue_with l) ≡ continue_with (λ a. k a >>= l) b
    each (gives a) = refl
    each (throws v) = refl

pub bind_same : {S C F J R O A B : Type 0} (p : effects.Part S C F J R O (Answer A))
    (k l : A → effects.Part S C F J R O (Answer B)) → ((a : A) → k a ≡ l a) → (p >>= k) ≡ (p >>= l)
bind_same {S} {C} {F} {J} {R} {O} {A} {B} p k l same =
    ap (λ (m : A → effects.Part S C F J R O (Answer B)). p >>= m) (fun_ext same)

-- an algorithm of two algorithms is a part after another one
pub lift_bind : {A B : Type 0} (p : Algorithm A) (k : A → Algorithm B) → lift (p >>= k) ≡ (lift p >>= λ a. lift (k a))
lift_bind {A} p k = row-and_then CallOf fault_of p (continue_with k) ∙ ap (and_then (lift p)) (fun_ext each)
  where
    each : (b : Answer A) → lift (continue_with k b) ≡ continue_with (λ a. lift (k a)) b
    each (gives a) = refl
    each (throws v) = refl
