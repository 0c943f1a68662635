-- Nothing is wrong with an accepted script.
use Rattle.std.proofs.Common.{◌≡◌, ℕ, true, false, Bool, List, [], ◌∷◌, Option, None, Some, refl}
use Rattle.std.specs.Prelude.{is_none, if◌then◌else◌}
use Rattle.jl_ast.specs.Tree.{Program}
use Rattle.jl_scope.specs.EarlyErrors.{early_errors_of}
use Rattle.jl_scope.specs.Kinds.{EarlyError, comes_before, early, first, first_from, left_out, reserved_name}
use Rattle.jl_text.specs.declared.span.Span.{Span}
use Rattle.jl_app.specs.Accepting.{IsAccepted}
use Rattle.jl_app.specs.Forms.{is_sound}
use Rattle.jl_app.specs.declared.form.Form.TheVariants as forms

either : (c : Bool) (a b : EarlyError) (l : List EarlyError)
    → ((x : EarlyError) → is_none (first_from (Some x) l) ≡ true → ⊥)
    → is_none (first_from (if c then Some b else Some a) l) ≡ true → ⊥
either true a b l never e = never b e
either false a b l never e = never a e

-- of one that was found, and others, some comes first
some_first : (l : List EarlyError) (a : EarlyError) → is_none (first_from (Some a) l) ≡ true → ⊥
some_first [] a e = cc
some_first (b ∷ l) a e = either (comes_before b a) a b l (λ x. some_first l x) e

none_first : (l : List EarlyError) → is_none (first l) ≡ true → l ≡ []
none_first [] e = refl
none_first (a ∷ l) e = absurd (some_first l a e)

-- of a script nothing may be wrong
nothing_first : (o : Option EarlyError) → is_sound forms.Script o ≡ true → is_none o ≡ true
nothing_first None e = refl
nothing_first (Some (early rule s)) e = absurd (cc)
nothing_first (Some (left_out name s)) e = absurd (cc)
nothing_first (Some (reserved_name s)) e = absurd (cc)

pub nothing_wrong : (bytes : List ℕ) (p : Program Span) → IsAccepted bytes p → early_errors_of p ≡ []
nothing_wrong bytes p is = none_first (early_errors_of p) (nothing_first (first (early_errors_of p)) is.sound)
