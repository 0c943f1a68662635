-- Parts of a text, one after the other.
use Rattle.std.proofs.Common.{◌≡◌, ℕ, zero, suc, ◌+◌, ◌-◌, ◌<◌, ◌≤◌, ◌==◌, List, [], ◌∷◌, Bool, true, false, cond}
use Rattle.std.proofs.Common.{take, drop, get_or, length, ap, sym, refl, ◌∙◌, arith}
use Rattle.std.specs.Prelude.{if◌then◌else◌, nat_le, not, slice_range}
use Rattle.std.specs.List.{position_or_len}
use Rattle.std.proofs.Math.Seq.{drop-cons}
use Rattle.std.proofs.lemmas.Bool.Decides.{nat_tests}
use Rattle.std.proofs.lemmas.List.{drop-drop, drop_all, length-drop, take_all}
use Rattle.jl_srcmap.specs.Mappings.{parts, with_first}
use Rattle.jl_srcmap.specs.inner.Reading.{part_at, parts_from}

-- the first place of a separator, or the length
abbrev pub end_in : ℕ → List ℕ → ℕ
end_in separator xs = position_or_len (λ c. c == separator) xs

parts_only : (separator at : ℕ) (xs : List ℕ) → end_in separator xs ≡ length xs
    → parts separator at xs ≡ part_at at xs ∷ []
parts_only separator at [] e = refl
parts_only separator at (c ∷ cs) e = by (c == separator) e (λ e. parts_only separator (at + 1) cs e) where
  by : (b : Bool) → cond (not b) (1 + end_in separator cs) 0 ≡ length (c ∷ cs)
      → (end_in separator cs ≡ length cs → parts separator (at + 1) cs ≡ part_at (at + 1) cs ∷ [])
      → (if b then part_at at [] ∷ parts separator (at + 1) cs else with_first at c (parts separator (at + 1) cs))
      ≡ part_at at (c ∷ cs) ∷ []
  by true e more = absurd (omega arith)
  by false e more = ap (with_first at c) (more (omega arith))

parts_first : (separator at place : ℕ) (xs : List ℕ) → end_in separator xs ≡ place → place < length xs
    → parts separator at xs
    ≡ part_at at (take place xs) ∷ parts separator (at + place + 1) (drop (suc place) xs)
parts_first separator at place [] e l = absurd (omega arith)
parts_first separator at zero (c ∷ cs) e l = by (c == separator) e where
  by : (b : Bool) → cond (not b) (1 + end_in separator cs) 0 ≡ 0
      → (if b then part_at at [] ∷ parts separator (at + 1) cs else with_first at c (parts separator (at + 1) cs))
      ≡ part_at at [] ∷ parts separator (at + 0 + 1) cs
  by true e = let same : at + 1 ≡ at + 0 + 1 = omega arith in ap (λ n. part_at at [] ∷ parts separator n cs) same
  by false e = absurd (omega arith)
parts_first separator at (suc place) (c ∷ cs) e l =
    by (c == separator) e (λ e l. parts_first separator (at + 1) place cs e l)
  where
    by : (b : Bool) → cond (not b) (1 + end_in separator cs) 0 ≡ suc place
        → (end_in separator cs ≡ place → place < length cs → parts separator (at + 1) cs
        ≡ part_at (at + 1) (take place cs) ∷ parts separator (at + 1 + place + 1) (drop (suc place) cs))
        → (if b then part_at at [] ∷ parts separator (at + 1) cs else with_first at c (parts separator (at + 1) cs))
        ≡ part_at at (c ∷ take place cs) ∷ parts separator (at + suc place + 1) (drop (suc place) cs)
    by true e more = absurd (omega arith)
    by false e more =
        let same : at + 1 + place + 1 ≡ at + suc place + 1 = omega arith in
        ap (with_first at c) (more (omega arith) (omega arith))
        ∙ ap (λ n. part_at at (c ∷ take place cs) ∷ parts separator n (drop (suc place) cs)) same

-- ---- what the code finds

pub passes : (separator : ℕ) (text : List ℕ) (end d : ℕ) → end < length text → ¬ (get_or text end d ≡ separator)
    → end_in separator (drop end text) ≡ 1 + end_in separator (drop (end + 1) text)
passes separator text end d l e =
    let next : suc end ≡ end + 1 = omega arith in
    let other : (get_or text end d == separator) ≡ false = grind (arith, nat_tests) in
    ap (end_in separator) (drop-cons text end d l)
    ∙ ap (λ b. cond (not b) (1 + end_in separator (drop (suc end) text)) 0) other
    ∙ ap (λ n. 1 + end_in separator (drop n text)) next

pub stops : (separator : ℕ) (text : List ℕ) (end d : ℕ) → end < length text → get_or text end d ≡ separator
    → end_in separator (drop end text) ≡ 0
stops separator text end d l e =
    let same : (get_or text end d == separator) ≡ true = grind (arith, nat_tests) in
    ap (end_in separator) (drop-cons text end d l)
    ∙ ap (λ b. cond (not b) (1 + end_in separator (drop (suc end) text)) 0) same

pub runs_out : (separator : ℕ) (text : List ℕ) (end : ℕ) → length text ≤ end → end_in separator (drop end text) ≡ 0
runs_out separator text end l = ap (end_in separator) (drop_all end text l)

pub starts_within : (separator at : ℕ) (text : List ℕ) (from : ℕ) → from ≤ length text
    → parts_from separator at text from ≡ parts separator (at + from) (drop from text)
starts_within separator at text from l =
    let t : nat_le from (length text) ≡ true = grind (arith, nat_tests) in
    ap (λ b. if b then parts separator (at + from) (drop from text) else []) t

pub starts_past : (separator at : ℕ) (text : List ℕ) (from : ℕ) → length text < from
    → parts_from separator at text from ≡ []
starts_past separator at text from l =
    let t : nat_le from (length text) ≡ false = grind (arith, nat_tests) in
    ap (λ b. if b then parts separator (at + from) (drop from text) else []) t

next_part : (separator at : ℕ) (text : List ℕ) (from place : ℕ) → from ≤ length text
    → end_in separator (drop from text) ≡ place → from + place < length text
    → parts_from separator at text from
    ≡ part_at (at + from) (slice_range text from (from + place)) ∷ parts_from separator at text (from + place + 1)
next_part separator at text from place l e within =
    let rest = length-drop from text in
    let len : from + place - from ≡ place = omega arith in
    let next : at + from + place + 1 ≡ at + (from + place + 1) = omega arith in
    let skip : from + suc place ≡ from + place + 1 = omega arith in
    starts_within separator at text from l
    ∙ parts_first separator (at + from) place (drop from text) e (omega arith)
    ∙ ap (λ n. part_at (at + from) (take n (drop from text))
    ∷ parts separator (at + from + place + 1) (drop (suc place) (drop from text))) (sym len)
    ∙ ap (λ n. part_at (at + from) (slice_range text from (from + place))
    ∷ parts separator n (drop (suc place) (drop from text))) next
    ∙ ap (λ l. part_at (at + from) (slice_range text from (from + place))
    ∷ parts separator (at + (from + place + 1)) l) (drop-drop (suc place) from text ∙ ap (λ n. drop n text) skip)
    ∙ ap (λ l. part_at (at + from) (slice_range text from (from + place)) ∷ l)
    (sym (starts_within separator at text (from + place + 1) (omega arith)))

last_part : (separator at : ℕ) (text : List ℕ) (from : ℕ) → from ≤ length text
    → end_in separator (drop from text) ≡ length (drop from text)
    → parts_from separator at text from
    ≡ part_at (at + from) (slice_range text from (length text)) ∷ parts_from separator at text (length text + 1)
last_part separator at text from l e =
    let rest = length-drop from text in
    starts_within separator at text from l
    ∙ parts_only separator (at + from) (drop from text) e
    ∙ ap (λ l. part_at (at + from) l ∷ []) (sym (take_all (length text - from) (drop from text) (omega arith)))
    ∙ ap (λ l. part_at (at + from) (slice_range text from (length text)) ∷ l)
    (sym (starts_past separator at text (length text + 1) (omega arith)))

-- the part ends before a separator or where the text ends
pub part_here : (separator at : ℕ) (text : List ℕ) (from end : ℕ) → from ≤ end → end < length text
    → end_in separator (drop from text) ≡ end - from
    → parts_from separator at text from
    ≡ part_at (at + from) (slice_range text from end) ∷ parts_from separator at text (end + 1)
part_here separator at text from end l m e =
    let same : from + (end - from) ≡ end = omega arith in
    next_part separator at text from (end - from) (omega arith) e (omega arith)
    ∙ ap (λ n. part_at (at + from) (slice_range text from n) ∷ parts_from separator at text (n + 1)) same

pub part_to_end : (separator at : ℕ) (text : List ℕ) (from end : ℕ) → from ≤ end → end ≡ length text
    → end_in separator (drop from text) ≡ end - from
    → parts_from separator at text from
    ≡ part_at (at + from) (slice_range text from end) ∷ parts_from separator at text (end + 1)
part_to_end separator at text from end l m e =
    let rest = length-drop from text in
    last_part separator at text from (omega arith) (omega arith)
    ∙ ap (λ n. part_at (at + from) (slice_range text from n) ∷ parts_from separator at text (n + 1)) (sym m)
