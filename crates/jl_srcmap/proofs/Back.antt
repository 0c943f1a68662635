-- What is written for segments is read as these segments.
use Rattle.std.proofs.Common.{◌≡◌, ◌≢◌, ℕ, zero, suc, ◌+◌, ◌-◌, ◌<◌, ◌≤◌, List, [], ◌∷◌, ◌++◌, Bool, true}
use Rattle.std.proofs.Common.{false, All, length, map, replicate, Option, Some, None, ap, sym, subst, refl, ◌∙◌, arith}
use Rattle.std.proofs.Common.{zero-add}
use Rattle.std.specs.Prelude.{if◌then◌else◌, nat_eq}
use Rattle.std.proofs.lemmas.Bool.Decides.{nat_tests}
use Rattle.std.proofs.lemmas.List.{append-nil}
use Rattle.std.proofs.lemmas.List.Elements.{All-cons, All-head, All-nil, All-replicate, All-tail}
use Rattle.jl_srcmap.specs.Laws.{IsSmall}
use Rattle.jl_srcmap.specs.Mappings.{AreSegments, IsSegment, Part, Piece, Reads, Running, after, comma, parts, piece_on}
use Rattle.jl_srcmap.specs.Mappings.{pieces_of, pieces_of_group, pieces_of_groups, semicolon, start, sums_on}
use Rattle.jl_srcmap.specs.Mappings.{with_first}
use Rattle.jl_srcmap.specs.Mappings.{without_column}
use Rattle.jl_srcmap.specs.Mappings as mappings
use Rattle.jl_srcmap.specs.Numbers.{AllMove, Digits, Quantities, below_limit, sums_after}
use Rattle.jl_srcmap.specs.Numbers as numbers
use Rattle.jl_srcmap.specs.Segments.{AreInOrder, fields, name_field, origin_fields}
use Rattle.jl_srcmap.specs.Written.{following, mappings_text, segment_text}
use Rattle.jl_srcmap.specs.declared.segment.Origin.{Origin}
use Rattle.jl_srcmap.specs.declared.segment.Segment.{Segment}
use Rattle.jl_srcmap.specs.inner.Reading.{part_at, piece_at}
use Rattle.jl_srcmap.proofs.Differences.{IsPlain, written}

-- ---- parts of a text that begins with no separators

abbrev HasNo : ℕ → List ℕ → Type 0
HasNo separator [] = Unit {0}
HasNo separator (c ∷ cs) = (nat_eq c separator ≡ false) × HasNo separator cs

no_comma : (cs : List ℕ) → IsPlain cs → HasNo 44 cs
no_comma [] p = tt
no_comma (c ∷ cs) p = (p.0, no_comma cs p.2)

no_semicolon : (cs : List ℕ) → IsPlain cs → HasNo 59 cs
no_semicolon [] p = tt
no_semicolon (c ∷ cs) p = (p.1, no_semicolon cs p.2)

same_number : (n : ℕ) → nat_eq n n ≡ true
same_number n = grind (arith, nat_tests)

-- a part that a separator ends
joined : (separator at : ℕ) (p r : List ℕ) → HasNo separator p
    → parts separator at (p ++ separator ∷ r) ≡ part_at at p ∷ parts separator (at + length p + 1) r
joined separator at [] r h =
    let same : at + 1 ≡ at + 0 + 1 = omega arith in
    ap (λ b. if b then part_at at [] ∷ parts separator (at + 1) r
    else with_first at separator (parts separator (at + 1) r))
    (same_number separator)
    ∙ ap (λ n. part_at at [] ∷ parts separator n r) same
joined separator at (c ∷ p) r h =
    let same : at + 1 + length p + 1 ≡ at + length (c ∷ p) + 1 = omega arith in
    ap (λ b. if b then part_at at [] ∷ parts separator (at + 1) (p ++ separator ∷ r)
    else with_first at c (parts separator (at + 1) (p ++ separator ∷ r))) h.0
    ∙ ap (with_first at c) (joined separator (at + 1) p r h.1)
    ∙ ap (λ n. part_at at (c ∷ p) ∷ parts separator n r) same

-- a part that the end of the text ends
single : (separator at : ℕ) (p : List ℕ) → HasNo separator p → parts separator at p ≡ part_at at p ∷ []
single separator at [] h = refl
single separator at (c ∷ p) h =
    ap (λ b. if b then part_at at [] ∷ parts separator (at + 1) p else with_first at c (parts separator (at + 1) p)) h.0
    ∙ ap (with_first at c) (single separator (at + 1) p h.1)

-- the first part begins where the text does
record Begins (separator at : ℕ) (text : List ℕ) : Type 0 where
  first : List ℕ
  others : List Part
  is : parts separator at text ≡ part_at at first ∷ others

begins : (separator at : ℕ) (text : List ℕ) → Begins separator at text
begins separator at [] = record { first = []; others = []; is = refl }
begins separator at (c ∷ cs) = by (nat_eq c separator) refl (begins separator (at + 1) cs) where
  by : (b : Bool) → nat_eq c separator ≡ b → Begins separator (at + 1) cs → Begins separator at (c ∷ cs)
  by true t more = record {
    first = [];
    others = parts separator (at + 1) cs;
    is = ap (λ b. if b then part_at at [] ∷ parts separator (at + 1) cs
        else with_first at c (parts separator (at + 1) cs)) t;
  }
  by false t more = record {
    first = c ∷ more.first;
    others = more.others;
    is = ap (λ b. if b then part_at at [] ∷ parts separator (at + 1) cs
        else with_first at c (parts separator (at + 1) cs)) t
        ∙ ap (with_first at c) more.is;
  }

-- the first part begins with what has no separator
onto_first : (separator at : ℕ) (p r first : List ℕ) (others : List Part) → HasNo separator p
    → parts separator (at + length p) r ≡ part_at (at + length p) first ∷ others
    → parts separator at (p ++ r) ≡ part_at at (p ++ first) ∷ others
onto_first separator at [] r first others h e =
    let same : at + 0 ≡ at = omega arith in
    ap (λ n. parts separator n r) (sym same) ∙ e ∙ ap (λ n. part_at n first ∷ others) same
onto_first separator at (c ∷ p) r first others h e =
    let same : at + length (c ∷ p) ≡ at + 1 + length p = omega arith in
    ap (λ b. if b then part_at at [] ∷ parts separator (at + 1) (p ++ r)
    else with_first at c (parts separator (at + 1) (p ++ r))) h.0
    ∙ ap (with_first at c) (onto_first separator (at + 1) p r first others h.1
    (subst (λ n. parts separator n r ≡ part_at n first ∷ others) same e))

-- ---- pieces of a text that begins within a group

abbrev in_group : ℕ → List Part → List Piece
in_group line [] = []
in_group line (g ∷ gs) = map (piece_on line) (parts comma g.at g.text) ++ pieces_of_groups (line + 1) gs

before_comma : (line at : ℕ) (p r : List ℕ) → IsPlain p
    → in_group line (parts semicolon at (p ++ comma ∷ r))
    ≡ piece_at line at p ∷ in_group line (parts semicolon (at + length p + 1) r)
before_comma line at p r h =
    let next = begins semicolon (at + length p + 1) r in
    let first = next.first in
    let others = next.others in
    let whole : parts semicolon (at + length p) (comma ∷ r) ≡ part_at (at + length p) (comma ∷ first) ∷ others =
    ap (with_first (at + length p) comma) next.is in
    ap (in_group line) (onto_first semicolon at p (comma ∷ r) (comma ∷ first) others (no_semicolon p h) whole)
    ∙ ap (λ ps. map (piece_on line) ps ++ pieces_of_groups (line + 1) others) (joined comma at p first (no_comma p h))
    ∙ ap (λ ps. piece_at line at p ∷ in_group line ps) (sym next.is)

before_semicolon : (line at : ℕ) (p r : List ℕ) → IsPlain p
    → in_group line (parts semicolon at (p ++ semicolon ∷ r))
    ≡ piece_at line at p ∷ pieces_of_groups (line + 1) (parts semicolon (at + length p + 1) r)
before_semicolon line at p r h =
    ap (in_group line) (joined semicolon at p r (no_semicolon p h))
    ∙ ap (λ ps. map (piece_on line) ps ++ pieces_of_groups (line + 1) (parts semicolon (at + length p + 1) r))
    (single comma at p (no_comma p h))

at_end : (line at : ℕ) (p : List ℕ) → IsPlain p
    → in_group line (parts semicolon at p) ≡ piece_at line at p ∷ []
at_end line at p h =
    ap (in_group line) (single semicolon at p (no_semicolon p h))
    ∙ ap (λ ps. map (piece_on line) ps ++ []) (single comma at p (no_comma p h))

-- a group that begins with what is no semicolon isn't empty
at_begin : (line at c : ℕ) (cs : List ℕ) → nat_eq c semicolon ≡ false
    → pieces_of_groups line (parts semicolon at (c ∷ cs)) ≡ in_group line (parts semicolon at (c ∷ cs))
at_begin line at c cs h =
    let next = begins semicolon (at + 1) cs in
    let whole : parts semicolon at (c ∷ cs) ≡ part_at at (c ∷ next.first) ∷ next.others =
    ap (λ b. if b then part_at at [] ∷ parts semicolon (at + 1) cs
    else with_first at c (parts semicolon (at + 1) cs)) h
    ∙ ap (with_first at c) next.is in
    ap (pieces_of_groups line) whole ∙ ap (in_group line) (sym whole)

-- empty groups
skipped : (line at lines : ℕ) (r : List ℕ)
    → pieces_of_groups line (parts semicolon at (replicate lines semicolon ++ r))
    ≡ pieces_of_groups (line + lines) (parts semicolon (at + lines) r)
skipped line at zero r =
    let l : line ≡ line + 0 = omega arith in
    let a : at ≡ at + 0 = omega arith in
    ap (λ n. pieces_of_groups n (parts semicolon at r)) l
    ∙ ap (λ n. pieces_of_groups (line + 0) (parts semicolon n r)) a
skipped line at (suc lines) r =
    let l : line + 1 + lines ≡ line + suc lines = omega arith in
    let a : at + 1 + lines ≡ at + suc lines = omega arith in
    skipped (line + 1) (at + 1) lines r
    ∙ ap (λ n. pieces_of_groups n (parts semicolon (at + 1 + lines) r)) l
    ∙ ap (λ n. pieces_of_groups (line + suc lines) (parts semicolon n r)) a

-- ---- segments

-- five sums below 2^32
record IsReady (r : Running) : Type 0 where
  five : length r.sums ≡ 5
  small : All below_limit r.sums

few_fields : (s : Segment) → length (fields s) ≤ 5
few_fields s = by s.origin where
  by_name : (name : Option ℕ) → length (name_field name) ≤ 1
  by_name None = omega arith
  by_name (Some n) = omega arith

  by : (o : Option Origin) → length (s.column ∷ origin_fields o) ≤ 5
  by None = omega arith
  by (Some o) = let l = by_name o.name in omega arith

without_length : (sums : List ℕ) → length (without_column sums) ≡ length sums
without_length [] = refl
without_length (a ∷ sums) = refl

without_small : (sums : List ℕ) → All below_limit sums → All below_limit (without_column sums)
without_small [] h = h
without_small (a ∷ sums) h = All-cons below_limit 0 sums (omega arith) (All-tail below_limit a sums h)

ready_on : (line : ℕ) (r : Running) → IsReady r
    → (length (sums_on line r) ≡ 5) × All below_limit (sums_on line r)
ready_on line r h = by (nat_eq line r.line) where
  by : (b : Bool) → (length (if b then r.sums else without_column r.sums) ≡ 5)
      × All below_limit (if b then r.sums else without_column r.sums)
  by true = (h.five, h.small)
  by false = (without_length r.sums ∙ h.five, without_small r.sums h.small)

after_length : (sums fs : List ℕ) → length fs ≤ length sums → length (sums_after sums fs) ≡ length sums
after_length sums [] l = refl
after_length [] (b ∷ fs) l = refl
after_length (a ∷ sums) (b ∷ fs) l = ap suc (after_length sums fs (omega arith))

after_small : (sums fs : List ℕ) → All below_limit sums → All below_limit fs → All below_limit (sums_after sums fs)
after_small sums [] h k = h
after_small [] (b ∷ fs) h k = All-nil below_limit
after_small (a ∷ sums) (b ∷ fs) h k =
    All-cons below_limit b (sums_after sums fs) (All-head below_limit b fs k)
    (after_small sums fs (All-tail below_limit a sums h) (All-tail below_limit b fs k))

ready_after : (r : Running) (s : Segment) → IsReady r → IsSmall s → IsReady (after r s)
ready_after r s h k =
    let on = ready_on s.line r h in
    let few = few_fields s in
    record {
      five = after_length (sums_on s.line r) (fields s) (omega (arith, on.0)) ∙ on.0;
      small = after_small (sums_on s.line r) (fields s) on.1 k.fields;
    }

is_written : (r : Running) (s : Segment) (at : ℕ) → IsReady r → IsSmall s
    → IsSegment r (piece_at s.line at (segment_text r s)) s
is_written r s at h k =
    let on = ready_on s.line r h in
    let few = few_fields s in
    let w = written (sums_on s.line r) (fields s) (omega (arith, on.0)) on.1 k.fields in
    record { quantities = w.quantities; digits = w.digits; line = refl; few_lines = k.line; moves = w.moves }

plain_segment : (r : Running) (s : Segment) → IsReady r → IsSmall s → IsPlain (segment_text r s)
plain_segment r s h k =
    let on = ready_on s.line r h in
    let few = few_fields s in
    (written (sums_on s.line r) (fields s) (omega (arith, on.0)) on.1 k.fields).plain

some_digits : {digits : List ℕ} {n : ℕ} (rest : List ℕ) → Digits digits n → 0 < length (digits ++ rest)
some_digits rest (numbers.last d l) = omega arith
some_digits rest (numbers.more d l ds) = omega arith

some_text : {text ns sums fs : List ℕ} {b : ℕ} → Quantities text ns → AllMove ns sums (b ∷ fs) → 0 < length text
some_text numbers.none moves = elim moves [ ]
some_text (numbers.one {text = text} ds few qs) (numbers.one m ms) = some_digits text ds

-- a text begins with what is no semicolon
record Opens (text : List ℕ) : Type 0 where
  first : ℕ
  others : List ℕ
  is : text ≡ first ∷ others
  apart : nat_eq first semicolon ≡ false

opens : (text rest : List ℕ) → IsPlain text → 0 < length text → Opens (text ++ rest)
opens [] rest p l = absurd (omega arith)
opens (c ∷ cs) rest p l = record { first = c; others = cs ++ rest; is = refl; apart = p.1 }

segment_opens : (r : Running) (s : Segment) (rest : List ℕ) → IsReady r → IsSmall s → Opens (segment_text r s ++ rest)
segment_opens r s rest h k =
    let is = is_written r s 0 h k in
    opens (segment_text r s) rest (plain_segment r s h k) (some_text is.digits is.moves)

group_opens : (line at : ℕ) (text : List ℕ) → Opens text
    → pieces_of_groups line (parts semicolon at text) ≡ in_group line (parts semicolon at text)
group_opens line at text o =
    ap (λ l. pieces_of_groups line (parts semicolon at l)) o.is
    ∙ at_begin line at o.first o.others o.apart
    ∙ ap (λ l. in_group line (parts semicolon at l)) (sym o.is)

rest_read : (r : Running) (s : Segment) (ss : List Segment) (at : ℕ) → IsReady r → IsSmall s → All IsSmall ss
    → AreInOrder s.line ss
    → AreSegments r (in_group s.line (parts semicolon at (segment_text r s ++ following (after r s) ss))) (s ∷ ss)
rest_read r s [] at h k ks o =
    let e : in_group s.line (parts semicolon at (segment_text r s ++ [])) ≡ piece_at s.line at (segment_text r s) ∷ [] =
    ap (λ l. in_group s.line (parts semicolon at l)) (append-nil (segment_text r s))
    ∙ at_end s.line at (segment_text r s) (plain_segment r s h k) in
    subst (λ ps. AreSegments r ps (s ∷ [])) (sym e) (mappings.one (is_written r s at h k) mappings.none)
rest_read r s (n ∷ ns) at h k ks o =
    by (nat_eq n.line s.line) refl
    (λ next. rest_read (after r s) n ns next (ready_after r s h k) (All-head IsSmall n ns ks) (All-tail IsSmall n ns ks)
    o.1)
  where
    by : (b : Bool) → nat_eq n.line s.line ≡ b
        → ((next : ℕ) → AreSegments (after r s) (in_group n.line (parts semicolon next
        (segment_text (after r s) n ++ following (after (after r s) n) ns))) (n ∷ ns))
        → AreSegments r (in_group s.line (parts semicolon at (segment_text r s ++ following (after r s) (n ∷ ns))))
        (s ∷ n ∷ ns)
    by true t more =
        let p = segment_text r s in
        let rest = segment_text (after r s) n ++ following (after (after r s) n) ns in
        let next = at + length p + 1 in
        let same : s.line ≡ n.line = grind (arith, nat_tests) in
        let e : in_group s.line (parts semicolon at (p ++ following (after r s) (n ∷ ns)))
        ≡ piece_at s.line at p ∷ in_group n.line (parts semicolon next rest) =
        ap (λ b. in_group s.line (parts semicolon at (p ++
        ((if b then comma ∷ [] else replicate (n.line - s.line) semicolon) ++ rest)))) t
        ∙ before_comma s.line at p rest (plain_segment r s h k)
        ∙ ap (λ l. piece_at s.line at p ∷ in_group l (parts semicolon next rest)) same in
        subst (λ ps. AreSegments r ps (s ∷ n ∷ ns)) (sym e) (mappings.one (is_written r s at h k) (more next))
    by false t more =
        let p = segment_text r s in
        let rest = segment_text (after r s) n ++ following (after (after r s) n) ns in
        let next = at + length p + 1 in
        let apart : n.line ≢ s.line = (λ e. grind (arith, nat_tests)) in
        let order : s.line ≤ n.line = o.0 in
        let lines = n.line - s.line - 1 in
        let some : n.line - s.line ≡ suc lines = omega arith in
        let sum : s.line + 1 + lines ≡ n.line = omega arith in
        let e : in_group s.line (parts semicolon at (p ++ following (after r s) (n ∷ ns)))
        ≡ piece_at s.line at p ∷ in_group n.line (parts semicolon (next + lines) rest) =
        ap (λ b. in_group s.line (parts semicolon at (p ++
        ((if b then comma ∷ [] else replicate (n.line - s.line) semicolon) ++ rest)))) t
        ∙ ap (λ m. in_group s.line (parts semicolon at (p ++ (replicate m semicolon ++ rest)))) some
        ∙ before_semicolon s.line at p (replicate lines semicolon ++ rest) (plain_segment r s h k)
        ∙ ap (λ ps. piece_at s.line at p ∷ ps) (skipped (s.line + 1) next lines rest)
        ∙ ap (λ l. piece_at s.line at p ∷ pieces_of_groups l (parts semicolon (next + lines) rest)) sum
        ∙ ap (λ ps. piece_at s.line at p ∷ ps) (group_opens n.line (next + lines) rest
        (segment_opens (after r s) n (following (after (after r s) n) ns) (ready_after r s h k)
        (All-head IsSmall n ns ks))) in
        subst (λ ps. AreSegments r ps (s ∷ n ∷ ns)) (sym e)
        (mappings.one (is_written r s at h k) (more (next + lines)))

ready_start : IsReady start
ready_start = record { five = refl; small = All-replicate below_limit 5 0 (omega arith) }

pub written_reads_back : (ss : List Segment) → All IsSmall ss → AreInOrder 0 ss → Reads (mappings_text ss) ss
written_reads_back [] ks o = mappings.none
written_reads_back (s ∷ ss) ks o =
    let k = All-head IsSmall s ss ks in
    let rest = segment_text start s ++ following (after start s) ss in
    let e : pieces_of (mappings_text (s ∷ ss)) ≡ in_group s.line (parts semicolon (0 + s.line) rest) =
    skipped 0 0 s.line rest
    ∙ ap (λ l. pieces_of_groups l (parts semicolon (0 + s.line) rest)) (zero-add s.line)
    ∙ group_opens s.line (0 + s.line) rest (segment_opens start s (following (after start s) ss) ready_start k) in
    subst (λ ps. AreSegments start ps (s ∷ ss)) (sym e)
    (rest_read start s ss (0 + s.line) ready_start k (All-tail IsSmall s ss ks) o.1)
