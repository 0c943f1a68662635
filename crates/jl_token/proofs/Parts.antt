-- The readers of one part find what the relations of one part tell of.
use Rattle.std.proofs.Common.{◌≡◌, refl, sym, subst, ℕ, ◌<◌, Bool, true, false, ◌&&◌, ◌==◌, List, [], ◌∷◌, length}
use Rattle.std.proofs.Common.{Option, Some, None, if◌then◌else◌, arith}
use Rattle.jl_token.specs.Characters.{is_identifier_start, is_identifier_part, are_hex_digits, hex_number, first_is}
use Rattle.jl_token.specs.Elements.{OneUnit, unit, Letter, itself, escaped, BeforeClose, before_close as one_before}
use Rattle.jl_token.specs.inner.Scanner.{one_unit, letter, name_escape, before_close}
use Rattle.jl_token.proofs.Rows.{Reads}
use Rattle.jl_token.proofs.Tests.{and_true, is_unit}
use Rattle.jl_token.proofs.Units.{backslash_start, backslash_part}

-- what holds of a part, if there is one
abbrev pub IfPart : {A : Type 0} → (A → List ℕ → Type 0) → Option (A × List ℕ) → Type 0
IfPart P None = Unit {0}
IfPart P (Some (a, rest)) = P a rest

pub record Holds {A : Type 0} (o : Option (A × List ℕ)) (P : A → List ℕ → Type 0) : Type 0 where
  pub has : IfPart P o

pub test : {A : Type 0} {P : A → List ℕ → Type 0} (b : Bool) (x y : Option (A × List ℕ)) → (b ≡ true → Holds x P)
    → (b ≡ false → Holds y P) → Holds (if b then x else y) P
test true x y f g = f refl
test false x y f g = g refl

pub just : {A : Type 0} {P : A → List ℕ → Type 0} {a : A} {rest : List ℕ} → P a rest → Holds (Some (a, rest)) P
just h = record { has = h }

pub nothing : {A : Type 0} {P : A → List ℕ → Type 0} → Holds None P
nothing = record { has = tt }

pub at_some : {A : Type 0} {P : A → List ℕ → Type 0} (o : Option (A × List ℕ)) (a : A) (rest : List ℕ) → Holds o P
    → o ≡ Some (a, rest) → P a rest
at_some {A} {P} o a rest h e = subst (IfPart P) e h.has

-- one unit
unit_sound : (p : ℕ → Bool) (us : List ℕ) → Holds (one_unit p us) (OneUnit p us)
unfolding one_unit
unit_sound p [] = nothing
unit_sound p (u ∷ us) = test (p u) _ _ (λ h. just (unit h)) (λ h. nothing)

unit_complete : (p : ℕ → Bool) (us : List ℕ) (a : ℕ) (rest : List ℕ) → OneUnit p us a rest
    → one_unit p us ≡ Some (a, rest)
unfolding one_unit
unit_complete p us a rest (unit h) = rw h refl

unit_shorter : (p : ℕ → Bool) (us : List ℕ) (a : ℕ) (rest : List ℕ) → OneUnit p us a rest → length rest < length us
unit_shorter p us a rest (unit h) = omega arith

pub reads_unit : (p : ℕ → Bool) → Reads (OneUnit p) (one_unit p)
reads_unit p = record {
  complete = unit_complete p;
  sound = λ us a rest e. at_some _ a rest (unit_sound p us) e;
  shorter = unit_shorter p;
}

-- a unit of a comment
close_sound : (us : List ℕ) → Holds (before_close us) (BeforeClose us)
unfolding before_close
close_sound [] = nothing
close_sound (u ∷ us) = test (u == 42 && first_is (λ v. v == 47) us) _ _ (λ h. nothing) (λ h. just (one_before h))

close_complete : (us : List ℕ) (a : ℕ) (rest : List ℕ) → BeforeClose us a rest → before_close us ≡ Some (a, rest)
unfolding before_close
close_complete us a rest (one_before h) = rw h refl

close_shorter : (us : List ℕ) (a : ℕ) (rest : List ℕ) → BeforeClose us a rest → length rest < length us
close_shorter us a rest (one_before h) = omega arith

pub reads_before_close : Reads BeforeClose before_close
reads_before_close = record {
  complete = close_complete;
  sound = λ us a rest e. at_some _ a rest (close_sound us) e;
  shorter = close_shorter;
}

-- a character of a name
escape_sound : (p : ℕ → Bool) (us : List ℕ) → Holds (name_escape p us) (Letter p (92 ∷ us))
unfolding name_escape
escape_sound p (v ∷ a ∷ b ∷ c ∷ d ∷ us) = test (v == 117 && are_hex_digits a b c d && p (hex_number a b c d)) _ _
    (λ h. let x = and_true _ _ h in let y = and_true _ _ x.0 in
    just (subst (λ w. Letter p (92 ∷ w ∷ a ∷ b ∷ c ∷ d ∷ us) (hex_number a b c d, true) us) (sym (is_unit v 117 y.0))
    (escaped y.1 x.1)))
    (λ h. nothing)
escape_sound p _ = nothing

letter_sound : (p : ℕ → Bool) (us : List ℕ) → Holds (letter p us) (Letter p us)
unfolding letter
letter_sound p [] = nothing
letter_sound p (u ∷ us) = test (p u) _ _ (λ h. just (itself h)) (λ h. test (u == 92) _ _
    (λ e. subst (λ w. Holds (name_escape p us) (Letter p (w ∷ us))) (sym (is_unit u 92 e)) (escape_sound p us))
    (λ e. nothing))

letter_complete : (p : ℕ → Bool) → p 92 ≡ false → (us : List ℕ) (a : ℕ × Bool) (rest : List ℕ) → Letter p us a rest
    → letter p us ≡ Some (a, rest)
unfolding letter name_escape
letter_complete p b us a rest (itself h) = rw h refl
letter_complete p b us a rest (escaped h g) = rw (b, h, g) refl

letter_shorter : (p : ℕ → Bool) (us : List ℕ) (a : ℕ × Bool) (rest : List ℕ) → Letter p us a rest
    → length rest < length us
letter_shorter p us a rest (itself h) = omega arith
letter_shorter p us a rest (escaped h g) = omega arith

pub reads_letter : (p : ℕ → Bool) → p 92 ≡ false → Reads (Letter p) (letter p)
reads_letter p b = record {
  complete = letter_complete p b;
  sound = λ us a rest e. at_some _ a rest (letter_sound p us) e;
  shorter = letter_shorter p;
}

pub reads_start : Reads (Letter is_identifier_start) (letter is_identifier_start)
reads_start = reads_letter is_identifier_start backslash_start

pub reads_part : Reads (Letter is_identifier_part) (letter is_identifier_part)
reads_part = reads_letter is_identifier_part backslash_part
