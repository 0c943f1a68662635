-- The reader of a string's character finds what the relation tells of.
use Rattle.std.proofs.Common.{◌≡◌, refl, sym, ap, ◌∙◌, subst, ℕ, ◌<◌, ◌⊎◌, inl, inr, Bool, true, false, ◌&&◌, ◌||◌}
use Rattle.std.proofs.Common.{◌==◌, List, [], ◌∷◌, length, Option, Some, None, if◌then◌else◌, arith}
use Rattle.jl_token.specs.Characters.{is_line_terminator, is_digit, is_hex_digit, are_hex_digits, is_quote}
use Rattle.jl_token.specs.Characters.{single_escape, is_escape_character, first_is}
use Rattle.jl_token.specs.Elements.{Character, plain, single, non_escape, null, hex_escape as hex_pair}
use Rattle.jl_token.specs.Elements.{unicode_escape as hex_four, continuation, long_continuation}
use Rattle.jl_token.specs.inner.Scanner.{after_line_feed, hex_escape, unicode_escape, other_escape, escape_by, escape}
use Rattle.jl_token.specs.inner.Scanner.{character}
use Rattle.jl_token.proofs.Rows.{Reads}
use Rattle.jl_token.proofs.Tests.{or_false, both_false, and_true, true_or_false, never_both, is_unit, other_unit}
use Rattle.jl_token.proofs.Units.{units, quotes, each_line_terminator}
use Rattle.jl_token.proofs.Parts.{Holds, test, just, nothing, at_some}

not_some : {A : Type 0} (b : Bool) (x : A) (y : Option A) → (if b then Some x else y) ≡ None → (b ≡ false) × (y ≡ None)
not_some true x y h = absurd cc
not_some false x y h = (refl, h)

-- no single escape character
single_none : (u : ℕ) → single_escape u ≡ None
    → (u == 98 || u == 116 || u == 110 || u == 118 || u == 102 || u == 114 || u == 34 || u == 39 || u == 92) ≡ false
unfolding single_escape
single_none u h =
    let a = not_some (u == 98) _ _ h in
    let b = not_some (u == 116) _ _ a.1 in
    let c = not_some (u == 110) _ _ b.1 in
    let d = not_some (u == 118) _ _ c.1 in
    let e = not_some (u == 102) _ _ d.1 in
    let f = not_some (u == 114) _ _ e.1 in
    let g = not_some (u == 34) _ _ f.1 in
    let i = not_some (u == 39) _ _ g.1 in
    let j = not_some (u == 92) _ _ i.1 in
    both_false _ _ (both_false _ _
    (both_false _ _ (both_false _ _ (both_false _ _ (both_false _ _ (both_false _ _ (both_false _ _ a.0 b.0) c.0) d.0)
    e.0) f.0) g.0) i.0) j.0

none_single : (u : ℕ) → (u == 98 || u == 116 || u == 110 || u == 118 || u == 102 || u == 114 || u == 34 || u == 39 || u
    == 92) ≡ false → single_escape u ≡ None
unfolding single_escape
none_single u h =
    let a = or_false (u == 98 || u == 116 || u == 110 || u == 118 || u == 102 || u == 114 || u == 34 || u == 39)
    (u == 92) h in
    let b = or_false (u == 98 || u == 116 || u == 110 || u == 118 || u == 102 || u == 114 || u == 34) (u == 39) a.0 in
    let c = or_false (u == 98 || u == 116 || u == 110 || u == 118 || u == 102 || u == 114) (u == 34) b.0 in
    let d = or_false (u == 98 || u == 116 || u == 110 || u == 118 || u == 102) (u == 114) c.0 in
    let e = or_false (u == 98 || u == 116 || u == 110 || u == 118) (u == 102) d.0 in
    let f = or_false (u == 98 || u == 116 || u == 110) (u == 118) e.0 in
    let g = or_false (u == 98 || u == 116) (u == 110) f.0 in
    let i = or_false (u == 98) (u == 116) g.0 in
    rw (i.0, i.1, g.1, f.1, e.1, d.1, c.1, b.1, a.1) refl

module _ (mark : ℕ) where
  line_feed_sound : (us : List ℕ) → Character mark (92 ∷ 13 ∷ us) ([], false) (after_line_feed us)
  unfolding units after_line_feed
  line_feed_sound [] = continuation refl refl
  line_feed_sound (v ∷ us) = by (true_or_false (v == 10)) where
    by : (v == 10 ≡ true) ⊎ (v == 10 ≡ false)
        → Character mark (92 ∷ 13 ∷ v ∷ us) ([], false) (if v == 10 then us else v ∷ us)
    by (inl h) = rw h (subst (λ w. Character mark (92 ∷ 13 ∷ w ∷ us) ([], false) us) (sym (is_unit v 10 h))
        long_continuation)
    by (inr h) = rw h (continuation refl h)

  line_sound : (u : ℕ) (us : List ℕ) → is_line_terminator u ≡ true → (b : Bool) → (u == 13) ≡ b
      → Character mark (92 ∷ u ∷ us) ([], false) (if b then after_line_feed us else us)
  line_sound u us h true e =
      subst (λ w. Character mark (92 ∷ w ∷ us) ([], false) (after_line_feed us)) (sym (is_unit u 13 e))
      (line_feed_sound us)
  line_sound u us h false e = continuation h (rw e refl)

  hex_sound : (us : List ℕ) → Holds (hex_escape us) (Character mark (92 ∷ 120 ∷ us))
  unfolding hex_escape
  hex_sound (a ∷ b ∷ us) = test (is_hex_digit a && is_hex_digit b) _ _ (λ h. just (hex_pair h)) (λ h. nothing)
  hex_sound _ = nothing

  unicode_sound : (us : List ℕ) → Holds (unicode_escape us) (Character mark (92 ∷ 117 ∷ us))
  unfolding unicode_escape
  unicode_sound (a ∷ b ∷ c ∷ d ∷ us) = test (are_hex_digits a b c d) _ _ (λ h. just (hex_four h)) (λ h. nothing)
  unicode_sound _ = nothing

  not_first : (b : Bool) → (if b then false else true) ≡ true → b ≡ false
  not_first true h = absurd cc
  not_first false h = refl

  other_sound : (u : ℕ) (us : List ℕ) → single_escape u ≡ None
      → Holds (other_escape u us) (Character mark (92 ∷ u ∷ us))
  unfolding other_escape is_escape_character
  other_sound u us s = test (is_line_terminator u) _ _ (λ h. just (line_sound u us h (u == 13) refl))
      (λ l. test (u == 120) _ _
      (λ e. subst (λ w. Holds (hex_escape us) (Character mark (92 ∷ w ∷ us))) (sym (is_unit u 120 e)) (hex_sound us))
      (λ x. test (u == 117) _ _
      (λ e. subst (λ w. Holds (unicode_escape us) (Character mark (92 ∷ w ∷ us))) (sym (is_unit u 117 e))
      (unicode_sound us)) (λ y. test (is_digit u) _ _
      (λ d. test (u == 48 && (if first_is is_digit us then false else true)) _ _
      (λ h. let a = and_true _ _ h in
      just (subst (λ w. Character mark (92 ∷ w ∷ us) (0 ∷ [], false) us) (sym (is_unit u 48 a.0))
      (null (not_first _ a.1)))) (λ h. nothing))
      (λ d. just (non_escape (both_false _ _ (both_false _ _ (both_false _ _ (both_false _ _ (single_none u s) d) x) y)
      l))))))

  escape_by_sound : (u : ℕ) (us : List ℕ) (o : Option ℕ) → single_escape u ≡ o
      → Holds (escape_by u us o) (Character mark (92 ∷ u ∷ us))
  unfolding escape_by
  escape_by_sound u us None e = other_sound u us e
  escape_by_sound u us (Some v) e = just (single e)

  escape_sound : (us : List ℕ) → Holds (escape us) (Character mark (92 ∷ us))
  unfolding escape
  escape_sound [] = nothing
  escape_sound (u ∷ us) = escape_by_sound u us (single_escape u) refl

  character_sound : (us : List ℕ) → Holds (character mark us) (Character mark us)
  unfolding character
  character_sound [] = nothing
  character_sound (u ∷ us) = test (u == mark || is_line_terminator u) _ _ (λ h. nothing) (λ h. let a = or_false _ _ h in
      test (u == 92) _ _
      (λ e. subst (λ w. Holds (escape us) (Character mark (w ∷ us))) (sym (is_unit u 92 e)) (escape_sound us))
      (λ e. just (plain (both_false _ _ (both_false _ _ a.0 e) a.1))))

  module _ (q : is_quote mark ≡ true) where
    mark_at : (92 == mark) ≡ false
    mark_at = other_unit 92 mark (λ e. never_both (mark == 92) (subst (λ w. (mark == w) ≡ true) (sym e) (same mark))
        (quotes mark q).backslash) where
          same : (n : ℕ) → (n == n) ≡ true
          same n = grind arith

    pub at_backslash : (us : List ℕ) → character mark (92 ∷ us) ≡ escape us
    unfolding character units
    at_backslash us = rw mark_at refl

    after_unchanged : (us : List ℕ) → first_is (λ v. v == 10) us ≡ false → after_line_feed us ≡ us
    unfolding after_line_feed
    after_unchanged [] h = refl
    after_unchanged (u ∷ us) h = rw h refl

    if_unchanged : (b : Bool) (us : List ℕ) → (b && first_is (λ v. v == 10) us) ≡ false
        → (if b then after_line_feed us else us) ≡ us
    if_unchanged true us h = after_unchanged us h
    if_unchanged false us h = refl

    line_single : (u : ℕ) → is_line_terminator u ≡ true
        → (u == 98 || u == 116 || u == 110 || u == 118 || u == 102 || u == 114 || u == 34 || u == 39 || u == 92) ≡ false
    line_single u h = each_line_terminator (λ u. u == 98 || u == 116 || u == 110 || u == 118 || u == 102 || u == 114 ||
        u == 34 || u == 39 || u == 92) refl refl refl refl u h

    non_escape_complete : (u : ℕ) (us : List ℕ) → (is_escape_character u || is_line_terminator u) ≡ false
        → escape (u ∷ us) ≡ Some ((u ∷ [], false), us)
    unfolding escape escape_by other_escape is_escape_character
    non_escape_complete u us h =
        let a = or_false _ _ h in
        let b = or_false _ _ a.0 in
        let c = or_false _ _ b.0 in
        let d = or_false _ _ c.0 in
        rw (none_single u d.0, a.1, c.1, b.1, d.1) refl

    null_complete : (us : List ℕ) → first_is is_digit us ≡ false → escape (48 ∷ us) ≡ Some ((0 ∷ [], false), us)
    unfolding escape escape_by other_escape single_escape units
    null_complete us h = rw h refl

    line_complete : (u : ℕ) (us : List ℕ) → is_line_terminator u ≡ true → (u == 13 && first_is (λ v. v == 10) us)
        ≡ false → escape (u ∷ us) ≡ Some (([], false), us)
    unfolding escape escape_by other_escape
    line_complete u us h g =
        rw (none_single u (line_single u h), h)
        (ap (λ (w : List ℕ). Some (([], false), w)) (if_unchanged (u == 13) us g))

    character_complete : (us : List ℕ) (a : List ℕ × Bool) (rest : List ℕ) → Character mark us a rest
        → character mark us ≡ Some (a, rest)
    unfolding character escape escape_by other_escape hex_escape unicode_escape single_escape after_line_feed units
    character_complete us a rest (plain {u = u} h) = let x = or_false (u == mark || u == 92) (is_line_terminator u) h in
        let y = or_false (u == mark) (u == 92) x.0 in rw (y.0, x.1, y.1) refl
    character_complete us a rest (single {u} {v} {us = vs} e) = at_backslash (u ∷ vs) ∙ rw e refl
    character_complete us a rest (non_escape {u} {us = vs} h) = at_backslash (u ∷ vs) ∙ non_escape_complete u vs h
    character_complete us a rest (null {us = vs} h) = at_backslash (48 ∷ vs) ∙ null_complete vs h
    character_complete us a rest (hex_pair {a = x} {b = y} {us = vs} h) = at_backslash (120 ∷ x ∷ y ∷ vs) ∙ rw h refl
    character_complete us a rest (hex_four {a = x} {b = y} {c = z} {d = w} {us = vs} h) = at_backslash
        (117 ∷ x ∷ y ∷ z ∷ w ∷ vs) ∙ rw h refl
    character_complete us a rest (continuation {u} {us = vs} h g) = at_backslash (u ∷ vs) ∙ line_complete u vs h g
    character_complete us a rest (long_continuation {us = vs}) = at_backslash (13 ∷ 10 ∷ vs)

    character_shorter : (us : List ℕ) (a : List ℕ × Bool) (rest : List ℕ) → Character mark us a rest
        → length rest < length us
    character_shorter us a rest (plain h) = omega arith
    character_shorter us a rest (single h) = omega arith
    character_shorter us a rest (non_escape h) = omega arith
    character_shorter us a rest (null h) = omega arith
    character_shorter us a rest (hex_pair h) = omega arith
    character_shorter us a rest (hex_four h) = omega arith
    character_shorter us a rest (continuation h g) = omega arith
    character_shorter us a rest long_continuation = omega arith

    pub reads_character : Reads (Character mark) (character mark)
    reads_character = record {
      complete = character_complete;
      sound = λ us a rest e. at_some _ a rest (character_sound us) e;
      shorter = character_shorter;
    }
