-- The names that indices are mapped to, from the last one on.
use Rattle.std.proofs.Common.{◌≡◌, ◌∙◌, ℕ, zero, suc, ◌+◌, ◌<◌, ◌≤◌, Bool, true, false, not, ◌||◌, List, [], ◌∷◌, ◌++◌}
use Rattle.std.proofs.Common.{length}
use Rattle.std.proofs.Common.{ap, arith, drop, drop-cons, get_or, length-append, refl, subst, sym}
use Rattle.std.proofs.Math.ListN.{set}
use Rattle.std.specs.Prelude.{None, Option, Some}
use Rattle.jl_ast.specs.declared.tree.Ident.{Ident}
use Rattle.jl_scope.proofs.Binding.{with_one}
use Rattle.jl_scope.proofs.NameLists.{or_comm}
use Rattle.jl_scope.specs.Names.{among, same_text, with_name}
use Rattle.jl_scope.specs.NameSets.{SameNames}
use Rattle.jl_heap.specs.Objects.{Name}
use Rattle.jl_meaning.specs.ArgumentsObject.{mapped_names}
use Rattle.jl_store.specs.Plain.{names_of}
use Rattle.jl_store.specs.inner.Arguments.{no_mappings}

pub one_more : (n : ℕ) → no_mappings n ++ None ∷ [] ≡ no_mappings (suc n)
one_more zero = refl
one_more (suc n) = ap (λ l. None ∷ l) (one_more n)

seam : (n : ℕ) (l : List (Option Name)) → no_mappings (suc n) ++ l ≡ no_mappings n ++ None ∷ l
seam zero l = refl
seam (suc n) l = ap (λ m. None ∷ m) (seam n l)

set_at_seam : (n : ℕ) (v : Option Name) (l : List (Option Name)) → set (no_mappings (suc n) ++ l) n v
    ≡ no_mappings n ++ v ∷ l
set_at_seam zero v l = refl
set_at_seam (suc n) v l = ap (λ m. None ∷ m) (set_at_seam n v l)

-- a name that no later one is stands where it was not mapped
pub mapped_last : (n : ℕ) (x : Name) (rest : List Name) → among x rest ≡ false
    → set (no_mappings (suc n) ++ mapped_names rest) n (Some x) ≡ no_mappings n ++ mapped_names (x ∷ rest)
mapped_last n x rest new = set_at_seam n (Some x) (mapped_names rest) ∙ sym (rw new refl)

-- and one that stands later too stays as it is
pub mapped_again : (n : ℕ) (x : Name) (rest : List Name) → among x rest ≡ true
    → no_mappings (suc n) ++ mapped_names rest ≡ no_mappings n ++ mapped_names (x ∷ rest)
mapped_again n x rest again = seam n (mapped_names rest) ∙ sym (rw again refl)

pub same_with : (set rest after : List Name) (x : Name) → SameNames set rest → SameNames after (with_name set x)
    → SameNames after (x ∷ rest)
same_with set rest after x same added z =
    added z ∙ with_one z x set ∙ ap (λ b. b || same_text z x) (same z) ∙ or_comm (among z rest) (same_text z x)

pub pushed : (xs ys : List (Option Name)) → ys ≡ xs ++ None ∷ [] → xs ≡ no_mappings (length xs)
    → ys ≡ no_mappings (length ys)
pushed xs ys is all =
    let longer : suc (length xs) ≡ length ys = omega (arith, ap length is, length-append xs (None ∷ [])) in
    is ∙ ap (λ l. l ++ None ∷ []) all ∙ one_more (length xs) ∙ ap no_mappings longer

pub longer_by_one : (xs ys : List (Option Name)) → ys ≡ xs ++ None ∷ [] → length ys ≡ length xs + 1
longer_by_one xs ys is = omega (arith, ap length is, length-append xs (None ∷ []))

not_true : (b c : Bool) → c ≡ not b → c ≡ true → b ≡ false
not_true true c is e = absurd (cc)
not_true false c is e = refl

not_false : (b c : Bool) → c ≡ not b → c ≡ false → b ≡ true
not_false true c is e = refl
not_false false c is e = absurd (cc)

-- one parameter nearer to the first
module _ (k : ℕ) (params : List Ident) (p : Ident) (names : List (Option Name)) (later : List Name) (units : Name)
    (added : Bool) (within : k < length params) (is : p ≡ get_or params k p)
    (mapped : names ≡ no_mappings (suc k) ++ mapped_names (names_of (drop (suc k) params)))
    (same : SameNames later (names_of (drop (suc k) params))) (as_units : units ≡ p.text)
    (added_is : added ≡ not (among units later)) where
  split : names_of (drop k params) ≡ p.text ∷ names_of (drop (suc k) params)
  split = ap names_of (drop-cons params k p within ∙ ap (λ q. q ∷ drop (suc k) params) (sym is))

  among_is : (b : Bool) → among units later ≡ b → among p.text (names_of (drop (suc k) params)) ≡ b
  among_is b e = sym (same p.text) ∙ ap (λ x. among x later) (sym as_units) ∙ e

  pub mapped_new : (x : Name) → x ≡ p.text → added ≡ true
      → set names k (Some x) ≡ no_mappings k ++ mapped_names (names_of (drop k params))
  mapped_new x x_is new =
      ap (λ l. set l k (Some x)) mapped
      ∙ ap (λ y. set (no_mappings (suc k) ++ mapped_names (names_of (drop (suc k) params))) k (Some y)) x_is
      ∙ mapped_last k p.text (names_of (drop (suc k) params)) (among_is false (not_true _ added added_is new))
      ∙ ap (λ l. no_mappings k ++ mapped_names l) (sym split)

  pub mapped_old : added ≡ false → names ≡ no_mappings k ++ mapped_names (names_of (drop k params))
  mapped_old old =
      mapped
      ∙ mapped_again k p.text (names_of (drop (suc k) params)) (among_is true (not_false _ added added_is old))
      ∙ ap (λ l. no_mappings k ++ mapped_names l) (sym split)

  pub same_before : (after : List Name) → SameNames after (with_name later units)
      → SameNames after (names_of (drop k params))
  same_before after with_it =
      subst (λ l. SameNames after l) (sym split)
      (same_with later (names_of (drop (suc k) params)) after p.text same
      (subst (λ x. SameNames after (with_name later x)) as_units with_it))

length-no_mappings : (n : ℕ) → length (no_mappings n) ≡ n
length-no_mappings zero = refl
length-no_mappings (suc n) = ap suc (length-no_mappings n)

pub within_mapped : (n : ℕ) (names l : List (Option Name)) → names ≡ no_mappings n ++ l → n ≤ length names
within_mapped n names l is =
    omega (arith, ap length is, length-append (no_mappings n) l, length-no_mappings n)
