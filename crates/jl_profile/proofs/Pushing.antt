-- What one more operation changes.
use Rattle.std.proofs.Common.{◌≡◌, ◌&&◌, ◌||◌, ℕ, Bool, true, false, List, [], ◌∷◌, ◌++◌}
use Rattle.std.proofs.Common.{refl, sym, ap, ◌∙◌, append_assoc, append-nil, if◌then◌else◌}
use Rattle.std.proofs.Math.Bool.{or_assoc, or-false}
use Rattle.std.proofs.lemmas.List.Folds.{list_any-append}
use Rattle.std.specs.List.{list_any}
use Rattle.jl_op.specs.Operations.{Operation}
use Rattle.jl_profile.specs.Births.{births_after, births_among, born_at, is_born, is_made_after, is_used, makes}
use Rattle.jl_profile.specs.Births.{used_after, uses}

made-push : (before observed : List Operation) (o : Operation) (object : ℕ)
    → is_made_after before (observed ++ o ∷ []) object
    ≡ (is_made_after before observed object || makes (before ++ observed) object o)
made-push before [] o object =
    or-false (makes before object o) ∙ ap (λ l. makes l object o) (sym (append-nil before))
made-push before (x ∷ observed) o object =
    ap (λ b. makes before object x || b) (made-push (before ++ x ∷ []) observed o object)
    ∙ sym (or_assoc (makes before object x) (is_made_after (before ++ x ∷ []) observed object)
    (makes ((before ++ x ∷ []) ++ observed) object o))
    ∙ ap (λ l. (makes before object x || is_made_after (before ++ x ∷ []) observed object) || makes l object o)
    (append_assoc before (x ∷ []) observed)

-- an object is born that was born before, or that the operation makes
pub is_born-push : (observed : List Operation) (o : Operation) (object : ℕ)
    → is_born (observed ++ o ∷ []) object ≡ (is_born observed object || makes observed object o)
is_born-push observed o object = made-push [] observed o object

births-push : (before observed : List Operation) (o : Operation)
    → births_after before (observed ++ o ∷ []) ≡ births_after before observed ++ born_at (before ++ observed) o
births-push before [] o = append-nil (born_at before o) ∙ ap (λ l. born_at l o) (sym (append-nil before))
births-push before (x ∷ observed) o =
    ap (λ l. born_at before x ++ l) (births-push (before ++ x ∷ []) observed o)
    ∙ sym (append_assoc (born_at before x) (births_after (before ++ x ∷ []) observed)
    (born_at ((before ++ x ∷ []) ++ observed) o))
    ∙ ap (λ l. (born_at before x ++ births_after (before ++ x ∷ []) observed) ++ born_at l o)
    (append_assoc before (x ∷ []) observed)

-- the births are those before, and that of the operation
pub births_among-push : (observed : List Operation) (o : Operation)
    → births_among (observed ++ o ∷ []) ≡ births_among observed ++ born_at observed o
births_among-push observed o = births-push [] observed o

never : (b : Bool) → (if b then false else false) ≡ false
never true = refl
never false = refl

used-push : (before observed : List Operation) (o : Operation) (object : ℕ)
    → used_after before (observed ++ o ∷ []) object
    ≡ (used_after before observed object || (is_made_after before observed object && uses object o))
used-push before [] o object = never (makes before object o)
used-push before (x ∷ observed) o object =
    by (makes before object x) (used-push (before ++ x ∷ []) observed o object)
  where
    by : (b : Bool)
        → used_after (before ++ x ∷ []) (observed ++ o ∷ []) object
        ≡ (used_after (before ++ x ∷ []) observed object
        || (is_made_after (before ++ x ∷ []) observed object && uses object o))
        → (if b then list_any (uses object) (observed ++ o ∷ [])
        else used_after (before ++ x ∷ []) (observed ++ o ∷ []) object)
        ≡ ((if b then list_any (uses object) observed else used_after (before ++ x ∷ []) observed object)
        || ((b || is_made_after (before ++ x ∷ []) observed object) && uses object o))
    by true rest =
        list_any-append (uses object) observed (o ∷ [])
        ∙ ap (λ b. list_any (uses object) observed || b) (or-false (uses object o))
    by false rest = rest

-- an object is used that was used before, or that was born before and the operation uses
pub is_used-push : (observed : List Operation) (o : Operation) (object : ℕ)
    → is_used (observed ++ o ∷ []) object ≡ (is_used observed object || (is_born observed object && uses object o))
is_used-push observed o object = used-push [] observed o object
