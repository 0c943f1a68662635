-- Which left-out names are bound.
use Rattle.std.proofs.Common.{◌≡◌, Bool, true, false, ◌||◌, cond, List, [], ◌∷◌, ◌++◌, refl, sym, ap, ◌∙◌}
use Rattle.std.proofs.Common.{true≢false}
use Rattle.std.proofs.lemmas.List.Folds.{list_any-append}
use Rattle.std.proofs.lemmas.Slice.Eq.{bytes_eq-Decides}
use Rattle.jl_ast.specs.Tree.{Text}
use Rattle.jl_scope.specs.Names.{same_text, among, with_name}
use Rattle.jl_scope.specs.Scope.{bind_name, is_left_out}
use Rattle.jl_scope.specs.Laws.{BindBinds}

or_false : (a : Bool) → (a || false) ≡ a
or_false true = refl
or_false false = refl

or_assoc : (a b c : Bool) → ((a || b) || c) ≡ (a || (b || c))
or_assoc true b c = refl
or_assoc false b c = refl

or_true : (a : Bool) → (a || true) ≡ true
or_true true = refl
or_true false = refl

same : (x y : Text) → same_text x y ≡ true → x ≡ y
same x y e = (bytes_eq-Decides x y).0 e

-- a name that is there already adds nothing
pub there_already : (x y : Text) (l : List Text) → among y l ≡ true → among x l ≡ (among x l || same_text x y)
there_already x y l p = by (same_text x y) refl
  where
    by : (t : Bool) → same_text x y ≡ t → among x l ≡ (among x l || t)
    by true e = ap (λ z. among z l) (same x y e) ∙ p ∙ sym (or_true (among x l))
    by false e = sym (or_false (among x l))

pub with_one : (x y : Text) (l : List Text) → among x (with_name l y) ≡ (among x l || same_text x y)
with_one x y l = by (among y l) refl
  where
    by : (t : Bool) → among y l ≡ t → among x (with_name l y) ≡ (among x l || same_text x y)
    by true p = ap (λ b. among x (cond b l (l ++ y ∷ []))) p ∙ there_already x y l p
    by false p =
        ap (λ b. among x (cond b l (l ++ y ∷ []))) p ∙ list_any-append (λ z. same_text x z) l (y ∷ [])
        ∙ ap (λ b. among x l || b) (or_false (same_text x y))

-- nor does one that isn't left out
not_left_out : (x y : Text) (l : List Text) → is_left_out x ≡ true → is_left_out y ≡ false →
    among x l ≡ (among x l || same_text x y)
not_left_out x y l h p = by (same_text x y) refl
  where
    by : (t : Bool) → same_text x y ≡ t → among x l ≡ (among x l || t)
    by true e = absurd (true≢false (sym h ∙ ap is_left_out (same x y e) ∙ p))
    by false e = sym (or_false (among x l))

bind_one : (x y : Text) (l : List Text) → is_left_out x ≡ true →
    among x (bind_name l y) ≡ (among x l || same_text x y)
bind_one x y l h = by (is_left_out y) refl
  where
    by : (t : Bool) → is_left_out y ≡ t → among x (bind_name l y) ≡ (among x l || same_text x y)
    by true p = ap (λ b. among x (cond b (with_name l y) l)) p ∙ with_one x y l
    by false p = ap (λ b. among x (cond b (with_name l y) l)) p ∙ not_left_out x y l h p

pub bind_is : BindBinds
bind_is bound [] x h = sym (or_false (among x bound))
bind_is bound (y ∷ names) x h =
    bind_is (bind_name bound y) names x h ∙ ap (λ b. b || among x names) (bind_one x y bound h)
    ∙ or_assoc (among x bound) (same_text x y) (among x names)
