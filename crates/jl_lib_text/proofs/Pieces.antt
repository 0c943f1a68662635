-- Pieces of a text between the places of a separator.
use Rattle.std.proofs.Common.{◌≡◌, ◌∙◌, ◌∷◌, ◌++◌, ◌+◌, ◌-◌, ◌<◌, ◌≤◌, [], append_assoc, ap, arith, drop}
use Rattle.std.proofs.Common.{length, refl, suc, sym, take}
use Rattle.std.proofs.Common.{zero, Bool, List, None, Option, Some, false, true, ℕ}
use Rattle.std.proofs.Common.{length-drop, map}
use Rattle.std.proofs.lemmas.Bool.{le-leb}
use Rattle.std.proofs.lemmas.List.{drop-drop, take_all}
use Rattle.std.specs.Prelude.{if◌then◌else◌, nat_eq, slice_range}
use Rattle.std.specs.List.{starts_with}
use Rattle.jl_text.specs.Search.{first_place, place_in}
use Rattle.jl_meaning.specs.builtins.String.{pieces_from}

-- what is still to be passed
passed : (separator : List ℕ) (left : ℕ) (piece l : List ℕ)
    → pieces_from separator left piece l ≡ pieces_from separator 0 piece (drop left l)
passed separator zero piece l = refl
passed separator (suc left) piece [] = refl
passed separator (suc left) piece (u ∷ us) = passed separator left piece us

-- the next place of a separator, so many units on, where a piece ends
pub record Ends (separator piece l : List ℕ) (at place : ℕ) : Type 0 where
  pub gap : ℕ
  pub there : place ≡ at + gap
  pub is : pieces_from separator 0 piece l
      ≡ (piece ++ take gap l) ∷ pieces_from separator 0 [] (drop (gap + length separator) l)

-- the pieces where the separator stands in front, or not
abbrev chosen : (separator piece : List ℕ) (u : ℕ) (us : List ℕ) → Bool → List (List ℕ)
chosen separator piece u us b =
    if b then piece ∷ pieces_from separator (length separator - 1) [] us
    else pieces_from separator 0 (piece ++ u ∷ []) us

nothing_more : (piece : List ℕ) → piece ≡ piece ++ []
nothing_more [] = refl
nothing_more (u ∷ us) = ap (λ l. u ∷ l) (nothing_more us)

one_more : (piece us : List ℕ) (u : ℕ) → (piece ++ u ∷ []) ++ us ≡ piece ++ u ∷ us
one_more piece us u = append_assoc piece (u ∷ []) us

module _ (s : ℕ) (rest : List ℕ) where
  abbrev separator : List ℕ
  separator = s ∷ rest

  one_less : length separator - 1 ≡ length rest
  one_less = omega arith

  no_more : suc (length rest) ≡ 0 + length separator
  no_more = omega arith

  one_further : (n : ℕ) → suc (n + length separator) ≡ suc n + length separator
  one_further n = omega arith

  ends_here : (u : ℕ) (us piece : List ℕ) (at place : ℕ) → starts_with nat_eq (u ∷ us) separator ≡ true
      → Some at ≡ Some place → Ends separator piece (u ∷ us) at place
  ends_here u us piece at place there same = record {
    gap = 0;
    there = (let e : at ≡ place = cc in omega (arith, e));
    is =
        ap (chosen separator piece u us) there
        ∙ ap (λ n. piece ∷ pieces_from separator n [] us) one_less
        ∙ ap (λ l. piece ∷ l) (passed separator (length rest) [] us)
        ∙ ap (λ p. p ∷ pieces_from separator 0 [] (drop (length rest) us)) (nothing_more piece)
        ∙ ap (λ n. (piece ++ []) ∷ pieces_from separator 0 [] (drop n (u ∷ us))) no_more;
  }

  ends_later : (u : ℕ) (us piece : List ℕ) (at place : ℕ) → starts_with nat_eq (u ∷ us) separator ≡ false
      → Ends separator (piece ++ u ∷ []) us (at + 1) place → Ends separator piece (u ∷ us) at place
  ends_later u us piece at place there later = record {
    gap = suc later.gap;
    there = omega (arith, later.there);
    is =
        ap (chosen separator piece u us) there
        ∙ later.is
        ∙ ap (λ p. p ∷ pieces_from separator 0 [] (drop (later.gap + length separator) us))
        (one_more piece (take later.gap us) u)
        ∙ ap (λ n. (piece ++ u ∷ take later.gap us) ∷ pieces_from separator 0 [] (drop n (u ∷ us)))
        (one_further later.gap);
  }

  pub ends : (l piece : List ℕ) (at place : ℕ) → place_in l separator at ≡ Some place → Ends separator piece l at place
  ends [] piece at place found = absurd (let e = found in cc)
  ends (u ∷ us) piece at place found =
      by (starts_with nat_eq (u ∷ us) separator) refl found (ends us (piece ++ u ∷ []) (at + 1) place)
    where
      by : (b : Bool) → starts_with nat_eq (u ∷ us) separator ≡ b
          → (if b then Some at else place_in us separator (at + 1)) ≡ Some place
          → (place_in us separator (at + 1) ≡ Some place → Ends separator (piece ++ u ∷ []) us (at + 1) place)
          → Ends separator piece (u ∷ us) at place
      by true there same next = ends_here u us piece at place there same
      by false there later next = ends_later u us piece at place there (next later)

  -- no further place, so that the rest is the last piece
  pub last_piece : (l piece : List ℕ) (at : ℕ) → place_in l separator at ≡ None
      → pieces_from separator 0 piece l ≡ (piece ++ l) ∷ []
  last_piece [] piece at none = ap (λ p. p ∷ []) (nothing_more piece)
  last_piece (u ∷ us) piece at none =
      by (starts_with nat_eq (u ∷ us) separator) refl none (last_piece us (piece ++ u ∷ []) (at + 1))
    where
      by : (b : Bool) → starts_with nat_eq (u ∷ us) separator ≡ b
          → (if b then Some at else place_in us separator (at + 1)) ≡ None
          → (place_in us separator (at + 1) ≡ None
          → pieces_from separator 0 (piece ++ u ∷ []) us ≡ ((piece ++ u ∷ []) ++ us) ∷ [])
          → pieces_from separator 0 piece (u ∷ us) ≡ (piece ++ u ∷ us) ∷ []
      by true there same next = absurd (let e = same in cc)
      by false there later next =
          ap (chosen separator piece u us) there
          ∙ next later
          ∙ ap (λ p. p ∷ []) (one_more piece us u)

abbrev place_if : (separator units : List ℕ) (start : ℕ) → Bool → Option ℕ
place_if separator units start b = if b then place_in (drop start units) separator start else None

-- the search begins within the text
within : (separator units : List ℕ) (start : ℕ) (found : Option ℕ) → start ≤ length units
    → first_place units separator start ≡ found → place_in (drop start units) separator start ≡ found
within separator units start found inside is =
    ap (place_if separator units start) (sym (le-leb start (length units) inside)) ∙ is

-- one piece more is made

piece_is : (separator units : List ℕ) (start place : ℕ) (next : Ends separator [] (drop start units) start place)
    → slice_range units start place ≡ take next.gap (drop start units)
piece_is separator units start place next =
    let gap : place - start ≡ next.gap = omega (arith, next.there) in ap (λ n. take n (drop start units)) gap

left_is : (separator units : List ℕ) (start place : ℕ) (next : Ends separator [] (drop start units) start place)
    → drop (place + length separator) units ≡ drop (next.gap + length separator) (drop start units)
left_is separator units start place next =
    let sum : place + length separator ≡ start + (next.gap + length separator) = omega (arith, next.there) in
    ap (λ n. drop n units) sum ∙ sym (drop-drop (next.gap + length separator) start units)

makes_piece : {A : Type 0} (wrap : List ℕ → A) (list all : List A) (separator units : List ℕ) (start place : ℕ)
    → Ends separator [] (drop start units) start place
    → list ++ map wrap (pieces_from separator 0 [] (drop start units)) ≡ all
    → (list ++ wrap (slice_range units start place) ∷ [])
    ++ map wrap (pieces_from separator 0 [] (drop (place + length separator) units)) ≡ all
makes_piece wrap list all separator units start place next is =
    append_assoc list (wrap (slice_range units start place) ∷ []) _
    ∙ ap (λ p. list ++ wrap p ∷ map wrap (pieces_from separator 0 [] (drop (place + length separator) units)))
    (piece_is separator units start place next)
    ∙ ap (λ l. list ++ wrap (take next.gap (drop start units)) ∷ map wrap (pieces_from separator 0 [] l))
    (left_is separator units start place next)
    ∙ ap (λ l. list ++ map wrap l) (sym next.is)
    ∙ is

pub next_piece : {A : Type 0} (wrap : List ℕ → A) (list all : List A) (separator units : List ℕ) (start place : ℕ)
    → 0 < length separator → start ≤ length units → first_place units separator start ≡ Some place
    → list ++ map wrap (pieces_from separator 0 [] (drop start units)) ≡ all
    → (list ++ wrap (slice_range units start place) ∷ [])
    ++ map wrap (pieces_from separator 0 [] (drop (place + length separator) units)) ≡ all
next_piece wrap list all [] units start place some inside found is = absurd (omega (arith, some))
next_piece wrap list all (s ∷ separator) units start place some inside found is =
    makes_piece wrap list all (s ∷ separator) units start place (ends s separator (drop start units) [] start place
    (within (s ∷ separator) units start (Some place) inside found)) is

all_left : (units : List ℕ) (start : ℕ) → slice_range units start (length units) ≡ drop start units
all_left units start = take_all (length units - start) (drop start units) (grind (arith, length-drop))

pub end_piece : {A : Type 0} (wrap : List ℕ → A) (list all : List A) (separator units : List ℕ) (start : ℕ)
    → 0 < length separator → start ≤ length units → first_place units separator start ≡ None
    → list ++ map wrap (pieces_from separator 0 [] (drop start units)) ≡ all
    → list ++ wrap (slice_range units start (length units)) ∷ [] ≡ all
end_piece wrap list all [] units start some inside none is = absurd (omega (arith, some))
end_piece wrap list all (s ∷ separator) units start some inside none is =
    ap (λ p. list ++ wrap p ∷ []) (all_left units start)
    ∙ ap (λ l. list ++ map wrap l) (sym (last_piece s separator (drop start units) [] start
    (within (s ∷ separator) units start None inside none)))
    ∙ is
