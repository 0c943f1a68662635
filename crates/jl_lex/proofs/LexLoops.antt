-- The steps of the lexer, over plain lists.
use Rattle.std.proofs.Common.{◌≡◌, refl, sym, ap, ◌∙◌, ℕ, ◌+◌, ◌-◌, ◌≤◌, Bool, true, false, ◌&&◌, ◌||◌, ◌==◌, List, []}
use Rattle.std.proofs.Common.{◌∷◌, drop, length, Some, None, Result, Ok, Err, if◌then◌else◌, arith, length-drop}
use Rattle.jl_token.specs.Characters.{is_white_space, is_line_terminator, is_on_line, is_identifier_start, is_digit}
use Rattle.jl_token.specs.Characters.{is_quote, first_is}
use Rattle.jl_token.specs.Punctuators.{all_punctuators}
use Rattle.jl_token.specs.Elements.{White, LineEnd, LineComment, Word}
use Rattle.jl_token.specs.inner.Scanner.{Outcome, found, bad, many, one_unit, letter, name_from, before_close}
use Rattle.jl_token.specs.inner.Scanner.{block_end, numeral, number_end, after_line_feed, string_end, character}
use Rattle.jl_token.specs.inner.Scanner.{first_punctuator, punctuator_found, after_first, scan, scan_word}
use Rattle.jl_token.specs.declared.token.BadKind.TheVariants as faults
use Rattle.jl_token.specs.declared.token.TokenKind.TheVariants as kinds
use Rattle.jl_token.specs.declared.punct.Punct.{Punct}
use Rattle.jl_lex.specs.inner.Answers.{IsFound, IsFrom}
use Rattle.jl_lex.specs.declared.element.Element.{Element as Read}
use Rattle.jl_lex.specs.declared.element.Stop.{Stop}
use Rattle.jl_lex.specs.declared.element.Stop.TheVariants as stops

-- what a word begins with
pub word_string : (u : ℕ) (us : List ℕ) → true ≡ is_quote u → scan_word u us ≡ string_end u (many (character u) us)
unfolding scan_word
word_string u us h = rw (sym h) refl

pub word_number : (u : ℕ) (us : List ℕ) → false ≡ is_quote u → true ≡ (is_digit u || (u == 46 && first_is is_digit us))
    → scan_word u us ≡ number_end (numeral u us)
unfolding scan_word
word_number u us h d = rw (sym h, sym d) refl

pub word_name : (u : ℕ) (us all : List ℕ) → all ≡ u ∷ us → false ≡ is_quote u
    → false ≡ (is_digit u || (u == 46 && first_is is_digit us)) → true ≡ (is_identifier_start u || u == 92)
    → scan_word u us ≡ name_from (letter is_identifier_start all)
unfolding scan_word
word_name u us all e h d s = rw (e, sym h, sym d, sym s) refl

word_punctuator : (u : ℕ) (us all : List ℕ) → all ≡ u ∷ us → false ≡ is_quote u
    → false ≡ (is_digit u || (u == 46 && first_is is_digit us)) → false ≡ (is_identifier_start u || u == 92)
    → scan_word u us ≡ punctuator_found (first_punctuator all_punctuators all)
unfolding scan_word
word_punctuator u us all e h d s = rw (e, sym h, sym d, sym s) refl

pub word_found : (u : ℕ) (us all rest : List ℕ) (p : Punct) → all ≡ u ∷ us → false ≡ is_quote u
    → false ≡ (is_digit u || (u == 46 && first_is is_digit us)) → false ≡ (is_identifier_start u || u == 92)
    → first_punctuator all_punctuators all ≡ Some (p, rest) → scan_word u us ≡ found (Word (kinds.Punct p)) rest
unfolding punctuator_found
word_found u us all rest p e h d s f = word_punctuator u us all e h d s ∙ ap punctuator_found f

pub word_none : (u : ℕ) (us all : List ℕ) → all ≡ u ∷ us → false ≡ is_quote u
    → false ≡ (is_digit u || (u == 46 && first_is is_digit us)) → false ≡ (is_identifier_start u || u == 92)
    → first_punctuator all_punctuators all ≡ None → scan_word u us ≡ bad faults.BadCharacter
unfolding punctuator_found
word_none u us all e h d s f = word_punctuator u us all e h d s ∙ ap punctuator_found f

-- what an element begins with
module _ (u : ℕ) (us all : List ℕ) (e : all ≡ u ∷ us) where
  pub scan_white : true ≡ is_white_space u → scan all ≡ found White us
  unfolding scan
  scan_white h = rw (e, sym h) refl

  pub scan_line : (rest : List ℕ) → false ≡ is_white_space u → true ≡ is_line_terminator u
      → rest ≡ (if u == 13 then after_line_feed us else us) → scan all ≡ found LineEnd rest
  unfolding scan
  scan_line rest w l q = rw (e, sym w, sym l, q) refl

  dropped : (vs : List ℕ) → after_first vs ≡ drop 1 vs
  dropped [] = refl
  dropped (v ∷ vs) = refl

  pub scan_comment : (rest : List ℕ) → false ≡ is_white_space u → false ≡ is_line_terminator u
      → true ≡ (u == 47 && first_is (λ v. v == 47) us) → rest ≡ (many (one_unit is_on_line) (drop 1 us)).1
      → scan all ≡ found LineComment rest
  unfolding scan
  scan_comment rest w l c q = rw (e, sym w, sym l, sym c, dropped us, q) refl

  pub scan_block : false ≡ is_white_space u → false ≡ is_line_terminator u
      → false ≡ (u == 47 && first_is (λ v. v == 47) us) → true ≡ (u == 47 && first_is (λ v. v == 42) us)
      → scan all ≡ block_end (many before_close (drop 1 us))
  unfolding scan
  scan_block w l c b = rw (e, sym w, sym l, sym c, sym b, dropped us) refl

  pub scan_other : false ≡ is_white_space u → false ≡ is_line_terminator u
      → false ≡ (u == 47 && first_is (λ v. v == 47) us) → false ≡ (u == 47 && first_is (λ v. v == 42) us)
      → scan all ≡ scan_word u us
  unfolding scan
  scan_other w l c b = rw (e, sym w, sym l, sym c, sym b) refl

pub from_from : (units : List ℕ) (i j : ℕ) (r : Result (Read × ℕ) Stop) (o all : Outcome) → all ≡ o → i ≤ j
    → IsFrom units j r o → IsFrom units i r all
from_from units i j (Ok x) o all e a h = (e ∙ h.0, omega (arith, h.1), h.2)
from_from units i j (Err (stops.Bad k)) o all e a h = e ∙ h
from_from units i j (Err stops.NoMemory) o all e a h = tt

pub from_found : (units : List ℕ) (i j : ℕ) (r : Result (Read × ℕ) Stop) (o all : Outcome) → all ≡ o → i ≤ j + 1
    → IsFound units j r o → IsFrom units i r all
from_found units i j (Ok x) o all e a h = (e ∙ h.0, omega (arith, h.1), h.2)
from_found units i j (Err (stops.Bad k)) o all e a h = e ∙ h
from_found units i j (Err stops.NoMemory) o all e a h = tt

second_true : (a b : Bool) → true ≡ (a && b) → b ≡ true
second_true true b h = sym h
second_true false b h = absurd cc

pub second_within : (a : Bool) (p : ℕ → Bool) (units : List ℕ) (i : ℕ) → true ≡ (a && first_is p (drop i units))
    → i + 1 ≤ length units
second_within a p units i h =
    by (drop i units) (length-drop i units) (second_true a (first_is p (drop i units)) h) where
      by : (us : List ℕ) → length us ≡ length units - i → first_is p us ≡ true → i + 1 ≤ length units
      by [] e f = absurd cc
      by (u ∷ us) e f = omega arith
