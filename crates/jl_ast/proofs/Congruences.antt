-- Equal arguments give equal results.
use Rattle.std.proofs.Common.{◌≡◌, ap₂}

pub ap₃ : {A B C D : Type 0} (F : A → B → C → D) {a a' : A} {b b' : B} {c c' : C} → a ≡ a' → b ≡ b' → c ≡ c'
    → F a b c ≡ F a' b' c'
ap₃ F d e g = ap₂ (λ f c. f c) (ap₂ F d e) g

pub ap₄ : {A B C D E : Type 0} (F : A → B → C → D → E) {a a' : A} {b b' : B} {c c' : C} {d d' : D} → a ≡ a' → b ≡ b'
    → c ≡ c' → d ≡ d' → F a b c d ≡ F a' b' c' d'
ap₄ F e g h i = ap₂ (λ f d. f d) (ap₃ F e g h) i
