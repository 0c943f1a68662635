-- What a profile knows after one more operation.
use Rattle.std.proofs.Common.{◌≡◌, ◌&&◌, ◌||◌, ℕ, zero, suc, Bool, true, false, List, [], ◌∷◌, ◌++◌, Option, None, Some}
use Rattle.std.proofs.Common.{refl, sym, ap, ◌∙◌, nat_eq, if◌then◌else◌, is_some}
use Rattle.std.proofs.Math.Bool.{or-false}
use Rattle.std.proofs.lemmas.Bool.{eqb-true}
use Rattle.std.proofs.lemmas.List.Folds.{list_any-append}
use Rattle.std.specs.Map.{lookup}
use Rattle.std.specs.Prelude.{cond, option_map}
use Rattle.jl_op.specs.declared.op.Op.{Op}
use Rattle.jl_op.specs.declared.op.OpId.{OpId}
use Rattle.jl_op.specs.Operations.{Operation}
use Rattle.jl_profile.specs.Births.{Born, Made, begins_new, births_among, born_of, is_born, is_the}
use Rattle.jl_profile.specs.Births.{made_after, made_by, new_began, new_ends, used_by}
use Rattle.jl_profile.specs.declared.profile.Birth.{Birth}
use Rattle.jl_profile.specs.inner.Observed.{IsProfileOf, borne, new_ends_by}
use Rattle.jl_profile.proofs.Pushing.{births_among-push, is_born-push, is_used-push}

-- the objects among births
abbrev pub known : List Born → ℕ → Bool
known births object = is_some (lookup (nat_eq object) births)

-- an object that is made is borne where it is not known
pub borne-new : (made : Option Made) (it : Made) (births : List Born) (id : OpId) → made ≡ Some it
    → known births it.1 ≡ false → borne made births id ≡ (it.1, record { id = id; way = it.0 }) ∷ []
borne-new made it births id is unknown =
    ap (λ m. borne m births id) is ∙ ap (λ b. if b then [] else (it.1, record { id = id; way = it.0 }) ∷ []) unknown

pub none_if : {X : Type 0} (o : Option X) → is_some o ≡ false → o ≡ None
none_if None h = refl
none_if (Some x) h = absurd (cc)

found_in : (test : ℕ → Bool) (xs ys : List Born)
    → is_some (lookup test (xs ++ ys)) ≡ (is_some (lookup test xs) || is_some (lookup test ys))
found_in test [] ys = refl
found_in test (x ∷ xs) ys = by (test x.0) (found_in test xs ys)
  where
    by : (b : Bool) → is_some (lookup test (xs ++ ys)) ≡ (is_some (lookup test xs) || is_some (lookup test ys))
        → is_some (cond b (Some x.1) (lookup test (xs ++ ys)))
        ≡ (is_some (cond b (Some x.1) (lookup test xs)) || is_some (lookup test ys))
    by true rest = refl
    by false rest = rest

-- an object is known after it was borne where it was known or is the one that was made
known-borne : (births : List Born) (made : Option Made) (id : OpId) (object : ℕ)
    → (known births object || known (borne made births id) object)
    ≡ (known births object || is_the object (option_map (λ it. it.1) made))
known-borne births None id object = refl
known-borne births (Some made) id object = by (known births made.1) refl
  where
    one : (b : Bool) → is_some (cond b (Some (let birth : Birth = record { id = id; way = made.0 } in birth)) None) ≡ b
    one true = refl
    one false = refl

    there : (b : Bool) → nat_eq object made.1 ≡ b → known births made.1 ≡ true
        → (known births object || false) ≡ (known births object || b)
    there true same before =
        let is : known births object ≡ true = ap (known births) (eqb-true object made.1 same) ∙ before in
        or-false (known births object) ∙ is ∙ ap (λ b. b || true) (sym is)
    there false other before = refl

    by : (b : Bool) → known births made.1 ≡ b
        → (known births object || known (if b then [] else (made.1, record { id = id; way = made.0 }) ∷ []) object)
        ≡ (known births object || nat_eq object made.1)
    by true before = there (nat_eq object made.1) refl before
    by false new = ap (λ b. known births object || b) (one (nat_eq object made.1))

ends_is : (news : ℕ → Bool) (observed : List Operation) → ((id : ℕ) → news id ≡ new_began observed id) → (id : ℕ)
    → new_ends_by news id ≡ new_ends observed id
ends_is news observed is zero = refl
ends_is news observed is (suc id) = is id

borne_is : (births : List Born) (observed : List Operation)
    → ((object : ℕ) → known births object ≡ is_born observed object)
    → (made : Option Made) (o : Operation) → borne made births o.0 ≡ born_of made observed o
borne_is births observed is None o = refl
borne_is births observed is (Some made) o =
    ap (λ b. if b then [] else (made.1, record { id = o.0; way = made.0 }) ∷ []) (is made.1)

-- one more operation is observed
pub one_more : (births later : List Born) (used used_later news news_later : ℕ → Bool) (observed : List Operation)
    (id : OpId) (op : Op)
    → ((object : ℕ) → used_later object ≡ (used object || (known births object && is_the object (used_by op))))
    → later ≡ births ++ borne (made_by (new_ends_by news id.0) op) births id
    → ((begin : ℕ) → news_later begin ≡ (news begin || (begins_new op && nat_eq begin id.0)))
    → IsProfileOf births (known births) used news observed
    → IsProfileOf later (known later) used_later news_later (observed ++ (id, op) ∷ [])
one_more births later used used_later news news_later observed id op uses_is later_is news_is is =
    let made = made_by (new_ends_by news id.0) op in
    let made_is : made ≡ made_after observed (id, op) = ap (λ b. made_by b op) (ends_is news observed is.begun id.0) in
    record {
      all = later_is ∙ ap (λ l. l ++ borne made births id) is.all
          ∙ ap (λ l. births_among observed ++ l) (borne_is births observed is.born_ones made (id, op)
          ∙ ap (λ m. born_of m observed (id, op)) made_is)
          ∙ sym (births_among-push observed (id, op));
      born_ones = λ object.
          ap (λ l. known l object) later_is ∙ found_in (nat_eq object) births (borne made births id)
          ∙ known-borne births made id object
          ∙ (λ j. is.born_ones object j || is_the object (option_map (λ it. it.1) (made_is j)))
          ∙ sym (is_born-push observed (id, op) object);
      used_ones = λ object.
          uses_is object
          ∙ (λ j. is.used_ones object j || (is.born_ones object j && is_the object (used_by op)))
          ∙ sym (is_used-push observed (id, op) object);
      begun = λ begin.
          news_is begin ∙ ap (λ b. b || (begins_new op && nat_eq begin id.0)) (is.begun begin)
          ∙ ap (λ b. new_began observed begin || b) (sym (or-false (begins_new op && nat_eq begin id.0)))
          ∙ sym (list_any-append (λ o. begins_new o.1 && nat_eq begin o.0.0) observed ((id, op) ∷ []));
    }
