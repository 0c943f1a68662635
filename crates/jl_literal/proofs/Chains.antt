-- Parts one after another, as frames put them together.
use Rattle.std.proofs.Common.{◌≡◌, ◌∙◌, ap}
use Rattle.jl_value.specs.declared.value.Value.{Value}
use Rattle.jl_meaning.specs.Parts.{give, lift, ◌>>=◌, Algorithm, Answer, Part}
use Rattle.jl_meaning.proofs.Binds.{bind_assoc, lift_bind}

-- two parts before what follows them
pub bind_assoc_twice : {A B C D : Type 0} (p : Part (Answer A)) (k : A → Part (Answer B)) (q : Part (Answer C))
    (r : C → Part (Answer D)) → (p >>= k >>= (λ _. q) >>= r) ≡ (p >>= λ a. k a >>= (λ _. q >>= r))
bind_assoc_twice p k q r =
    bind_assoc (p >>= k) (λ _. q) r
    ∙ bind_assoc p k (λ _. q >>= r)

-- an algorithm whose end doesn't count
pub lifted_then : {A B : Type 0} (p : Algorithm A) (v : Value) (q : Part (Answer B))
    → (lift (p >>= λ _. give v) >>= λ _. q) ≡ (lift p >>= λ _. q)
lifted_then {A} {B} p v q =
    ap (λ x. x >>= λ _. q) (lift_bind p (λ _. give v)) ∙ bind_assoc (lift p) (λ _. lift (give v)) (λ _. q)
