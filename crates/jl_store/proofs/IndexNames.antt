-- Names of indices differ, and are no words.
use Rattle.std.proofs.Common.{◌≡◌, ◌≢◌, ◌∙◌, ℕ, zero, suc, ◌+◌, ◌<◌, ◌≤◌, ◌/◌, ◌%◌, Bool, true, false, List, [], ◌∷◌}
use Rattle.std.proofs.Common.{◌++◌}
use Rattle.std.proofs.Common.{ap, arith, refl, subst, sym, ⊎_elim}
use Rattle.std.proofs.lemmas.Bool.{cases_lt, ltb-true}
use Rattle.std.proofs.lemmas.Bool.Decides.{nat_tests}
use Rattle.std.proofs.lemmas.Slice.Eq.{bytes_eq-Decides}
use Rattle.std.specs.Prelude.{if◌then◌else◌, nat_lt, IsTrue}
use Rattle.std.specs.Str.{bytes_eq}
use Rattle.std.specs.Str.Parse.{digits_value}
use Rattle.jl_num.specs.Digits.{digit_code, digits_within}
use Rattle.jl_num.proofs.Numeral.{digits_write_numbers}
use Rattle.jl_num.proofs.Places.{last_digit, more_digits, one_digit}
use Rattle.jl_text.proofs.SearchLemmas.{false_unless}
use Rattle.jl_heap.specs.Define.{length_name}
use Rattle.jl_heap.specs.Objects.{Name}
use Rattle.jl_meaning.specs.forms.Literals.{index_name}
use Rattle.jl_store.specs.inner.Arguments.{names_with}
use Rattle.jl_store.proofs.Fresh.{lacks}

-- no element is past the digits
abbrev Low : List ℕ → Type 0
Low [] = Unit {0}
Low (d ∷ l) = (d < 58) × Low l

low_append : (a b : List ℕ) → Low a → Low b → Low (a ++ b)
low_append [] b la lb = lb
low_append (d ∷ a) b la lb = (la.0, low_append a b la.1 lb)

code_low : (d : ℕ) → d < 10 → digit_code d < 58
code_low d h = grind (arith, nat_tests)

low_digits : (places n : ℕ) → Low (digits_within 10 places n)
low_digits zero n = tt
low_digits (suc places) n =
    ⊎_elim
    (λ (below : n < 10). subst Low (sym (one_digit 10 places n below)) (code_low n below, tt))
    (λ (above : 10 ≤ n). subst Low (sym (more_digits 10 places n above))
    (low_append (digits_within 10 places (n / 10)) (last_digit 10 n) (low_digits places (n / 10))
    (code_low (n % 10) (omega arith), tt)))
    (cases_lt n 10)

-- whether a word begins past the digits
abbrev pub is_word : Name → Bool
is_word [] = false
is_word (c ∷ w) = nat_lt 57 c

-- such a word is no name of an index
no_index : (x : Name) (n : ℕ) → IsTrue (is_word x) → bytes_eq (index_name n) x ≡ false
no_index [] n word = absurd (cc)
no_index (c ∷ w) n word =
    false_unless _ (λ same.
    let is : index_name n ≡ c ∷ w = (bytes_eq-Decides (index_name n) (c ∷ w)).0 same in
    let low : Low (c ∷ w) = subst Low is (low_digits (n + 1) n) in
    omega (arith, ltb-true 57 c word, low.0))

pub indices_differ : (n m : ℕ) → n ≢ m → bytes_eq (index_name n) (index_name m) ≡ false
indices_differ n m differ =
    false_unless _ (λ same.
    let is : index_name n ≡ index_name m = (bytes_eq-Decides (index_name n) (index_name m)).0 same in
    differ (sym (digits_write_numbers 10 n (omega arith) (omega arith)).value
    ∙ ap (digits_value 10) is
    ∙ (digits_write_numbers 10 m (omega arith) (omega arith)).value))

lacks_by : (l : List Name) (y x : Name) (same : Bool) → (IsTrue (lacks l x) → IsTrue (lacks (l ++ y ∷ []) x))
    → IsTrue (if same then false else lacks l x) → IsTrue (if same then false else lacks (l ++ y ∷ []) x)
lacks_by l y x true more free = free
lacks_by l y x false more free = more free

lacks_more : (l : List Name) (y x : Name) → IsTrue (lacks l x) → bytes_eq y x ≡ false → IsTrue (lacks (l ++ y ∷ []) x)
lacks_more [] y x free differ = rw differ refl
lacks_more (z ∷ l) y x free differ = lacks_by l y x (bytes_eq z x) (λ more. lacks_more l y x more differ) free

-- `length` is such a word
pub no_length : (n : ℕ) → bytes_eq (index_name n) length_name ≡ false
unfolding length_name
no_length n = no_index length_name n refl

length_first : (n : ℕ) → bytes_eq length_name (index_name n) ≡ false
length_first n =
    false_unless _ (λ same.
    let is : length_name ≡ index_name n = (bytes_eq-Decides length_name (index_name n)).0 same in
    let alike : bytes_eq (index_name n) length_name ≡ true =
    (bytes_eq-Decides (index_name n) length_name).1 (sym is) in
    let differ = sym alike ∙ no_length n in cc)

-- an index from this one on is no name yet
lacks_later : (n m : ℕ) → n ≤ m → IsTrue (lacks (names_with n) (index_name m))
lacks_later zero m below = rw (length_first m) refl
lacks_later (suc n) m below =
    lacks_more (names_with n) (index_name n) (index_name m) (lacks_later n m (omega arith))
    (indices_differ n m (λ e. omega (arith, e, below)))

pub lacks_next : (n : ℕ) → IsTrue (lacks (names_with n) (index_name n))
lacks_next n = lacks_later n n (omega arith)

-- nor is a word that begins past the digits
pub lacks_word : (n : ℕ) (x : Name) → IsTrue (is_word x) → bytes_eq length_name x ≡ false
    → IsTrue (lacks (names_with n) x)
lacks_word zero x word differ = rw differ refl
lacks_word (suc n) x word differ =
    lacks_more (names_with n) (index_name n) x (lacks_word n x word differ) (no_index x n word)
