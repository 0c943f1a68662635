-- Turns of the loops that read groups and texts.
use Rattle.std.proofs.Common.{◌≡◌, ℕ, ◌+◌, ◌<◌, List, [], ◌∷◌, length, map, ap, sym, subst, refl, ◌∙◌, arith, zero-add}
use Rattle.std.proofs.Common.{Result, Ok, Err}
use Rattle.std.specs.Prelude.{IfErr, IsErr, IsErrAnd}
use Rattle.jl_srcmap.specs.Mappings.{Part, comma, parts, piece_on, pieces_of, pieces_of_group, pieces_of_groups}
use Rattle.jl_srcmap.specs.Mappings.{semicolon, start}
use Rattle.jl_srcmap.specs.SourceMap.{IsTextRefusal}
use Rattle.jl_srcmap.specs.declared.refusal.MapRefusal.{MapRefusal}
use Rattle.jl_srcmap.specs.declared.refusal.MapRefusal.TheVariants as refusals
use Rattle.jl_srcmap.specs.inner.Reading.{IsStopped, Progress, bad, going, part_at, parts_from, piece_at, read_piece}
use Rattle.jl_srcmap.specs.inner.Reading.{read_pieces}
use Rattle.jl_srcmap.proofs.Parts.{starts_past, starts_within}
use Rattle.jl_srcmap.proofs.Pieces.{bad_stays, is_refused, read_append}

-- ---- a group

pub group_begins : (p : Progress) (line at : ℕ) (group : List ℕ) → 0 < length group
    → read_pieces p (pieces_of_group line at group) ≡ read_pieces p (map (piece_on line) (parts_from comma at group 0))
group_begins p line at [] l = absurd (omega arith)
group_begins p line at (c ∷ cs) l =
    let same : at ≡ at + 0 = omega arith in
    ap (λ n. read_pieces p (map (piece_on line) (parts comma n (c ∷ cs)))) same
    ∙ ap (λ ps. read_pieces p (map (piece_on line) ps)) (sym (starts_within comma at (c ∷ cs) 0 (omega arith)))

pub group_empty : (p : Progress) (line at : ℕ) (group : List ℕ) → length group ≡ 0
    → read_pieces p (pieces_of_group line at group) ≡ p
unfolding read_pieces
group_empty p line at [] e = refl
group_empty p line at (c ∷ cs) e = absurd (omega arith)

pub group_turn : (whole p new : Progress) (line at : ℕ) (text : List ℕ) (ps qs : List Part)
    → whole ≡ read_pieces p (map (piece_on line) ps) → ps ≡ part_at at text ∷ qs
    → read_piece p (piece_at line at text) ≡ new → whole ≡ read_pieces new (map (piece_on line) qs)
unfolding read_pieces
group_turn whole p new line at text ps qs e f g =
    e ∙ ap (λ l. read_pieces p (map (piece_on line) l)) f ∙ ap (λ q. read_pieces q (map (piece_on line) qs)) g

pub group_stops : (e : MapRefusal) (whole p : Progress) (line at : ℕ) (text : List ℕ) (ps qs : List Part)
    → whole ≡ read_pieces p (map (piece_on line) ps) → ps ≡ part_at at text ∷ qs
    → IsStopped e (read_piece p (piece_at line at text)) → IsStopped e whole
group_stops (refusals.BadSegment n) whole p line at text ps qs e f g =
    group_turn whole p (bad n) line at text ps qs e f g ∙ bad_stays n (map (piece_on line) qs)
group_stops refusals.NoMemory whole p line at text ps qs e f g = tt
group_stops refusals.MapJson whole p line at text ps qs e f g = g
group_stops refusals.MapShape whole p line at text ps qs e f g = g

pub group_ends : (whole p : Progress) (line at from : ℕ) (group : List ℕ)
    → whole ≡ read_pieces p (map (piece_on line) (parts_from comma at group from)) → length group < from → whole ≡ p
unfolding read_pieces
group_ends whole p line at from group e l =
    e ∙ ap (λ ps. read_pieces p (map (piece_on line) ps)) (starts_past comma at group from l)

-- ---- a text

pub text_begins : (p : Progress) (text : List ℕ)
    → read_pieces p (pieces_of text) ≡ read_pieces p (pieces_of_groups 0 (parts_from semicolon 0 text 0))
text_begins p text =
    ap (λ ps. read_pieces p (pieces_of_groups 0 ps)) (sym (starts_within semicolon 0 text 0 (omega arith)))

pub text_turn : (whole p new : Progress) (line from : ℕ) (group : List ℕ) (ps qs : List Part)
    → whole ≡ read_pieces p (pieces_of_groups line ps) → ps ≡ part_at (0 + from) group ∷ qs
    → read_pieces p (pieces_of_group line from group) ≡ new
    → whole ≡ read_pieces new (pieces_of_groups (line + 1) qs)
text_turn whole p new line from group ps qs e f g =
    e ∙ ap (λ l. read_pieces p (pieces_of_groups line l)) (f ∙ ap (λ n. part_at n group ∷ qs) (zero-add from))
    ∙ read_append p (pieces_of_group line from group) (pieces_of_groups (line + 1) qs)
    ∙ ap (λ q. read_pieces q (pieces_of_groups (line + 1) qs)) g

pub text_stops : (e : MapRefusal) (text : List ℕ) (p : Progress) (line from : ℕ) (group : List ℕ) (ps qs : List Part)
    → read_pieces (going start []) (pieces_of text) ≡ read_pieces p (pieces_of_groups line ps)
    → ps ≡ part_at (0 + from) group ∷ qs → IsStopped e (read_pieces p (pieces_of_group line from group))
    → IsTextRefusal text e
text_stops (refusals.BadSegment n) text p line from group ps qs e f g =
    is_refused text n
    (text_turn (read_pieces (going start []) (pieces_of text)) p (bad n) line from group ps qs e f g
    ∙ bad_stays n (pieces_of_groups (line + 1) qs))
text_stops refusals.NoMemory text p line from group ps qs e f g = tt
text_stops refusals.MapJson text p line from group ps qs e f g = g
text_stops refusals.MapShape text p line from group ps qs e f g = g

pub text_ends : (whole p : Progress) (line from : ℕ) (text : List ℕ)
    → whole ≡ read_pieces p (pieces_of_groups line (parts_from semicolon 0 text from)) → length text < from → whole ≡ p
unfolding read_pieces
text_ends whole p line from text e l =
    e ∙ ap (λ ps. read_pieces p (pieces_of_groups line ps)) (starts_past semicolon 0 text from l)

-- what a call refused is handed on
pub handed_on : {X E : Type 0} (P : E → Type 0) (r : Result X E) (stop : E) → IsErr r × IsErrAnd r (λ e. e ≡ stop)
    → P stop → IfErr r P
handed_on P (Ok x) stop same p = tt
handed_on P (Err e) stop same p = subst P (sym same.1) p
