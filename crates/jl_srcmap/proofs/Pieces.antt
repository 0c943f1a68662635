-- The functions that read segments find what the definitions of mappings say.
use Rattle.std.proofs.Common.{◌≡◌, ℕ, ◌<◌, ◌⊎◌, inl, inr, List, [], ◌∷◌, ◌++◌, Bool, true, false}
use Rattle.std.proofs.Common.{nat_lt, Option, Some, None, option_and_then, option_map, ap, sym, subst, refl, ◌∙◌}
use Rattle.std.proofs.Common.{arith, append_assoc}
use Rattle.std.specs.Prelude.{if◌then◌else◌}
use Rattle.std.proofs.lemmas.Bool.Decides.{nat_tests}
use Rattle.std.proofs.lemmas.List.{append-nil}
use Rattle.std.proofs.lemmas.Option.{none-some, same_Some}
use Rattle.jl_srcmap.specs.Mappings.{AreSegments, IsBadAt, IsSegment, Piece, Reads, Running, after, after_all}
use Rattle.jl_srcmap.specs.Mappings.{pieces_of}
use Rattle.jl_srcmap.specs.Mappings.{start, sums_on}
use Rattle.jl_srcmap.specs.Mappings as mappings
use Rattle.jl_srcmap.specs.Numbers.{AllMove}
use Rattle.jl_srcmap.specs.Segments.{fields, name_field}
use Rattle.jl_srcmap.specs.declared.segment.Origin.{Origin}
use Rattle.jl_srcmap.specs.declared.segment.Segment.{Segment}
use Rattle.jl_srcmap.specs.inner.Fields.{fields_in}
use Rattle.jl_srcmap.specs.inner.Reading.{Progress, bad, going, origin_with, read_piece, read_pieces, segment_in}
use Rattle.jl_srcmap.specs.inner.Reading.{segment_with, with_origin, with_segment}
use Rattle.jl_srcmap.proofs.Digits.{under}
use Rattle.jl_srcmap.proofs.Fields.{fields_found, fields_there}

-- ---- one segment

pub record HasFields (line : ℕ) (fs : List ℕ) (s : Segment) : Type 0 where
  pub line_is : s.line ≡ line
  pub fields_are : fields s ≡ fs

origin_of : (line a : ℕ) (fs : List ℕ) (s : Segment) → option_map (with_origin line a) (origin_with fs) ≡ Some s
    → HasFields line (a ∷ fs) s
origin_of line a [] s e = absurd (none-some s e)
origin_of line a (b ∷ []) s e = absurd (none-some s e)
origin_of line a (b ∷ c ∷ []) s e = absurd (none-some s e)
origin_of line a (b ∷ c ∷ d ∷ []) s e =
    subst (HasFields line (a ∷ b ∷ c ∷ d ∷ [])) (same_Some _ s e) (record { line_is = refl; fields_are = refl })
origin_of line a (b ∷ c ∷ d ∷ f ∷ []) s e =
    subst (HasFields line (a ∷ b ∷ c ∷ d ∷ f ∷ [])) (same_Some _ s e) (record { line_is = refl; fields_are = refl })
origin_of line a (b ∷ c ∷ d ∷ f ∷ g ∷ fs) s e = absurd (none-some s e)

fields_of : (line : ℕ) (fs : List ℕ) (s : Segment) → segment_with line fs ≡ Some s → HasFields line fs s
fields_of line [] s e = absurd (none-some s e)
fields_of line (a ∷ []) s e =
    subst (HasFields line (a ∷ [])) (same_Some _ s e) (record { line_is = refl; fields_are = refl })
fields_of line (a ∷ b ∷ fs) s e = origin_of line a (b ∷ fs) s e

abbrev named : ℕ → ℕ → ℕ → Option ℕ → Origin
named b c d name = record { source = b; line = c; column = d; name = name }

with_fields : (line column : ℕ) (o : Option Origin)
    → segment_with line (fields (record { line = line; column = column; origin = o }))
    ≡ Some (record { line = line; column = column; origin = o })
with_fields line column None = refl
with_fields line column (Some o) = by o.source o.line o.column o.name where
  by : (b c d : ℕ) (name : Option ℕ)
      → segment_with line (column ∷ b ∷ c ∷ d ∷ name_field name) ≡ Some (with_origin line column (named b c d name))
  by b c d None = refl
  by b c d (Some e) = refl

pub segment_found : (r : Running) (piece : Piece) (s : Segment)
    → segment_in piece.line (sums_on piece.line r) piece.text ≡ Some s → IsSegment r piece s
unfolding segment_in
segment_found r piece s e = by (nat_lt piece.line 4294967296) refl e where
  by_fields : piece.line < 4294967296 → (o : Option (List ℕ)) → fields_in (sums_on piece.line r) piece.text ≡ o
      → option_and_then (segment_with piece.line) o ≡ Some s → IsSegment r piece s
  by_fields few None f e = absurd (none-some s e)
  by_fields few (Some fs) f e =
      let cut = fields_found (sums_on piece.line r) piece.text fs f in
      let has = fields_of piece.line fs s e in
      record {
        quantities = cut.quantities;
        digits = cut.digits;
        line = has.line_is;
        few_lines = few;
        moves = subst (AllMove cut.quantities (sums_on piece.line r)) (sym has.fields_are) cut.moves;
      }

  by : (b : Bool) → nat_lt piece.line 4294967296 ≡ b
      → (if b then option_and_then (segment_with piece.line) (fields_in (sums_on piece.line r) piece.text) else None)
      ≡ Some s → IsSegment r piece s
  by true t e = by_fields (grind (arith, nat_tests)) (fields_in (sums_on piece.line r) piece.text) refl e
  by false t e = absurd (none-some s e)

pub segment_there : (r : Running) (piece : Piece) (s : Segment) → IsSegment r piece s
    → segment_in piece.line (sums_on piece.line r) piece.text ≡ Some s
unfolding segment_in
segment_there r piece s is =
    ap
    (λ b. if b then option_and_then (segment_with piece.line) (fields_in (sums_on piece.line r) piece.text) else None)
    (under piece.line 4294967296 is.few_lines)
    ∙ ap (option_and_then (segment_with piece.line)) (fields_there is.digits is.moves)
    ∙ ap (λ n. segment_with n (fields s)) (sym is.line)
    ∙ with_fields s.line s.column s.origin

-- ---- all pieces

pub bad_stays : (at : ℕ) (ps : List Piece) → read_pieces (bad at) ps ≡ bad at
unfolding read_pieces
bad_stays at [] = refl
bad_stays at (p ∷ ps) = bad_stays at ps

pub read_append : (p : Progress) (ps qs : List Piece) → read_pieces p (ps ++ qs) ≡ read_pieces (read_pieces p ps) qs
unfolding read_pieces
read_append p [] qs = refl
read_append p (x ∷ ps) qs = read_append (read_piece p x) ps qs

-- these pieces are the segments, after a running state
pub segments_read : {r : Running} {ps : List Piece} {ss : List Segment} (done : List Segment) → AreSegments r ps ss
    → read_pieces (going r done) ps ≡ going (after_all r ss) (done ++ ss)
unfolding read_pieces
segments_read {r = r} done mappings.none = ap (going r) (sym (append-nil done))
segments_read {r = r} done (mappings.one {piece = piece} {pieces = ps} {s = s} {ss = ss} is are) =
    ap (λ o. read_pieces (with_segment r done piece.at o) ps) (segment_there r piece s is)
    ∙ segments_read (done ++ s ∷ []) are
    ∙ ap (going (after_all (after r s) ss)) (append_assoc done (s ∷ []) ss)

-- a first piece of these is no segment
pub record IsBadIn (r : Running) (ps : List Piece) (at : ℕ) : Type 0 where
  pub before : List Piece
  pub piece : Piece
  pub rest : List Piece
  pub segments : List Segment
  pub is : ps ≡ before ++ piece ∷ rest
  pub read : AreSegments r before segments
  pub there : at ≡ piece.at
  pub none : (s : Segment) → ¬ (IsSegment (after_all r segments) piece s)

pub bad_read : (r : Running) (ps : List Piece) (at : ℕ) (done : List Segment) → IsBadIn r ps at
    → read_pieces (going r done) ps ≡ bad at
unfolding read_pieces
bad_read r ps at done b =
    let last = after_all r b.segments in
    ap (read_pieces (going r done)) b.is
    ∙ read_append (going r done) b.before (b.piece ∷ b.rest)
    ∙ ap (λ p. read_pieces p (b.piece ∷ b.rest)) (segments_read done b.read)
    ∙ by (segment_in b.piece.line (sums_on b.piece.line last) b.piece.text) refl
    ∙ ap bad (sym b.there)
  where
    by : (o : Option Segment)
        → segment_in b.piece.line (sums_on b.piece.line (after_all r b.segments)) b.piece.text ≡ o
        → read_pieces (going (after_all r b.segments) (done ++ b.segments)) (b.piece ∷ b.rest) ≡ bad b.piece.at
    by None e =
        ap (λ o. read_pieces (with_segment (after_all r b.segments) (done ++ b.segments) b.piece.at o) b.rest) e
        ∙ bad_stays b.piece.at b.rest
    by (Some s) e = absurd (b.none s (segment_found (after_all r b.segments) b.piece s e))

-- pieces are segments, or a first one of them is none
pub outcome : (r : Running) (ps : List Piece)
    → ((ss : List Segment) × AreSegments r ps ss) ⊎ ((at : ℕ) × IsBadIn r ps at)
outcome r [] = inl ([], mappings.none)
outcome r (piece ∷ ps) =
    by (segment_in piece.line (sums_on piece.line r) piece.text) refl (λ s. outcome (after r s) ps)
  where
    by_rest : (s : Segment) → IsSegment r piece s
        → ((ss : List Segment) × AreSegments (after r s) ps ss) ⊎ ((at : ℕ) × IsBadIn (after r s) ps at)
        → ((ss : List Segment) × AreSegments r (piece ∷ ps) ss) ⊎ ((at : ℕ) × IsBadIn r (piece ∷ ps) at)
    by_rest s is (inl (ss, are)) = inl (s ∷ ss, mappings.one is are)
    by_rest s is (inr (at, b)) = inr (
      at,
      record {
        before = piece ∷ b.before;
        piece = b.piece;
        rest = b.rest;
        segments = s ∷ b.segments;
        is = ap (λ l. piece ∷ l) b.is;
        read = mappings.one is b.read;
        there = b.there;
        none = b.none;
      },
    )

    by : (o : Option Segment) → segment_in piece.line (sums_on piece.line r) piece.text ≡ o
        → ((s : Segment) → ((ss : List Segment) × AreSegments (after r s) ps ss)
        ⊎ ((at : ℕ) × IsBadIn (after r s) ps at))
        → ((ss : List Segment) × AreSegments r (piece ∷ ps) ss) ⊎ ((at : ℕ) × IsBadIn r (piece ∷ ps) at)
    by None e others = inr (
      piece.at,
      record {
        before = [];
        piece = piece;
        rest = ps;
        segments = [];
        is = refl;
        read = mappings.none;
        there = refl;
        none = λ s is. none-some s (sym e ∙ segment_there r piece s is);
      },
    )
    by (Some s) e others = by_rest s (segment_found r piece s e) (others s)

-- ---- whole texts

bad_whole : (text : List ℕ) (at : ℕ) → IsBadIn start (pieces_of text) at → IsBadAt text at
bad_whole text at b = record {
  before = b.before;
  piece = b.piece;
  rest = b.rest;
  segments = b.segments;
  is = b.is;
  read = b.read;
  there = b.there;
  bad = b.none;
}

bad_parts : (text : List ℕ) (at : ℕ) → IsBadAt text at → IsBadIn start (pieces_of text) at
bad_parts text at b = record {
  before = b.before;
  piece = b.piece;
  rest = b.rest;
  segments = b.segments;
  is = b.is;
  read = b.read;
  there = b.there;
  none = b.bad;
}

bad_reading : (text : List ℕ) (at : ℕ) → IsBadAt text at → read_pieces (going start []) (pieces_of text) ≡ bad at
bad_reading text at b = bad_read start (pieces_of text) at [] (bad_parts text at b)

reading : (text : List ℕ) (ss : List Segment) → Reads text ss
    → read_pieces (going start []) (pieces_of text) ≡ going (after_all start ss) ss
reading text ss are = segments_read [] are

apart : (r : Running) (ss : List Segment) (at : ℕ) → going r ss ≡ bad at → ⊥
apart r ss at e = cc

same_segments : (r q : Running) (ss rs : List Segment) → going r ss ≡ going q rs → ss ≡ rs
same_segments r q ss rs e = cc

same_place : (i j : ℕ) → bad i ≡ bad j → i ≡ j
same_place i j e = cc

pub readings_are_unique : (text : List ℕ) (ss rs : List Segment) → Reads text ss → Reads text rs → ss ≡ rs
readings_are_unique text ss rs a b =
    same_segments (after_all start ss) (after_all start rs) ss rs (sym (reading text ss a) ∙ reading text rs b)

pub never_both : (text : List ℕ) (ss : List Segment) (at : ℕ) → Reads text ss → ¬ (IsBadAt text at)
never_both text ss at a b = apart (after_all start ss) ss at (sym (reading text ss a) ∙ bad_reading text at b)

pub bad_place_is_unique : (text : List ℕ) (i j : ℕ) → IsBadAt text i → IsBadAt text j → i ≡ j
bad_place_is_unique text i j a b = same_place i j (sym (bad_reading text i a) ∙ bad_reading text j b)

pub read_or_bad : (text : List ℕ) → ((ss : List Segment) × Reads text ss) ⊎ ((at : ℕ) × IsBadAt text at)
read_or_bad text = by (outcome start (pieces_of text)) where
  by : ((ss : List Segment) × AreSegments start (pieces_of text) ss)
      ⊎ ((at : ℕ) × IsBadIn start (pieces_of text) at)
      → ((ss : List Segment) × Reads text ss) ⊎ ((at : ℕ) × IsBadAt text at)
  by (inl (ss, are)) = inl (ss, are)
  by (inr (at, b)) = inr (at, bad_whole text at b)

-- what the code answers
pub all_read : (text : List ℕ) (r : Running) (ss : List Segment)
    → read_pieces (going start []) (pieces_of text) ≡ going r ss → Reads text ss
all_read text r ss e = by (read_or_bad text) where
  by : ((ss : List Segment) × Reads text ss) ⊎ ((at : ℕ) × IsBadAt text at) → Reads text ss
  by (inl (rs, are)) =
      subst (Reads text) (same_segments (after_all start rs) r rs ss (sym (reading text rs are) ∙ e)) are
  by (inr (at, b)) = absurd (apart r ss at (sym e ∙ bad_reading text at b))

pub is_refused : (text : List ℕ) (at : ℕ) → read_pieces (going start []) (pieces_of text) ≡ bad at → IsBadAt text at
is_refused text at e = by (read_or_bad text) where
  by : ((ss : List Segment) × Reads text ss) ⊎ ((at : ℕ) × IsBadAt text at) → IsBadAt text at
  by (inl (ss, are)) = absurd (apart (after_all start ss) ss at (sym (reading text ss are) ∙ e))
  by (inr (i, b)) = subst (IsBadAt text) (same_place i at (sym (bad_reading text i b) ∙ e)) b
