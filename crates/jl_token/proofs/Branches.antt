-- Which branch of the scanner an element takes.
use Rattle.std.proofs.Common.{◌≡◌, refl, sym, subst, ℕ, ◌⊎◌, inl, inr, Bool, true, ◌&&◌, ◌==◌, List, [], ◌∷◌}
use Rattle.std.proofs.Common.{if◌then◌else◌}
use Rattle.jl_token.specs.Characters.{is_white_space, is_line_terminator, is_on_line, is_identifier_start, is_digit}
use Rattle.jl_token.specs.Characters.{is_quote, first_is}
use Rattle.jl_token.specs.Elements.{White, LineEnd, LineComment, Letter, itself, escaped}
use Rattle.jl_token.specs.inner.Scanner.{found, many, one_unit, letter, name_from, before_close, block_end, number_end}
use Rattle.jl_token.specs.inner.Scanner.{after_line_feed, string_end, character, scan_word, scan}
use Rattle.jl_token.proofs.Tests.{or_cases, and_true, is_unit}
use Rattle.jl_token.proofs.Units.{units, starts, lines, quotes, digits}
use Rattle.jl_token.proofs.Numbers.{begins_at, found_numeral}

pub scan_white : (u : ℕ) (us : List ℕ) → is_white_space u ≡ true → scan (u ∷ us) ≡ found White us
unfolding scan scan_word
scan_white u us h = rw h refl

pub scan_line : (u : ℕ) (us : List ℕ) → is_line_terminator u ≡ true
    → scan (u ∷ us) ≡ found LineEnd (if u == 13 then after_line_feed us else us)
unfolding scan scan_word
scan_line u us h = rw ((lines u h).white, h) refl

pub scan_line_comment : (us : List ℕ) → scan (47 ∷ 47 ∷ us) ≡ found LineComment (many (one_unit is_on_line) us).1
unfolding scan scan_word units
scan_line_comment us = refl

pub scan_block_comment : (us : List ℕ) → scan (47 ∷ 42 ∷ us) ≡ block_end (many before_close us)
unfolding scan scan_word units
scan_block_comment us = refl

pub scan_string : (u : ℕ) (us : List ℕ) → is_quote u ≡ true → scan (u ∷ us) ≡ string_end u (many (character u) us)
unfolding scan scan_word
scan_string u us h = let q = quotes u h in rw (q.white, q.line, q.slash, h) refl

pub scan_number : (us : List ℕ) → begins_at us ≡ true → scan us ≡ number_end (found_numeral us)
unfolding scan scan_word units
scan_number [] h = absurd cc
scan_number (u ∷ us) h = by (or_cases (is_digit u) (u == 46 && first_is is_digit us) h) where
  by : (is_digit u ≡ true) ⊎ ((u == 46 && first_is is_digit us) ≡ true)
      → scan (u ∷ us) ≡ number_end (found_numeral (u ∷ us))
  by (inl d) = let x = digits u d in rw (x.white, x.line, x.slash, x.quote, h) refl
  by (inr p) = let a = and_true (u == 46) (first_is is_digit us) p in
      subst (λ v. scan (v ∷ us) ≡ number_end (found_numeral (v ∷ us))) (sym (is_unit u 46 a.0)) (rw a.1 refl)

pub scan_start : (u : ℕ) (us : List ℕ) → is_identifier_start u ≡ true
    → scan (u ∷ us) ≡ name_from (letter is_identifier_start (u ∷ us))
unfolding scan scan_word
scan_start u us h = let s = starts u h in rw (s.white, s.line, s.slash, s.quote, s.digit, s.point, h) refl

pub scan_backslash : (us : List ℕ) → scan (92 ∷ us) ≡ name_from (letter is_identifier_start (92 ∷ us))
unfolding scan scan_word units
scan_backslash us = refl

pub scan_letter : {us rest : List ℕ} {x : ℕ × Bool} → Letter is_identifier_start us x rest
    → scan us ≡ name_from (letter is_identifier_start us)
scan_letter (itself {u} {us} h) = scan_start u us h
scan_letter (escaped {a} {b} {c} {d} {us} h g) = scan_backslash (117 ∷ a ∷ b ∷ c ∷ d ∷ us)
