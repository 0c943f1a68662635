-- The laws on the comments of a text.
use Rattle.std.proofs.Common.{refl, sym, ap, ◌∙◌, subst, ℕ, ◌+◌, ◌≤◌, Bool, List, [], length, arith}
use Rattle.jl_token.specs.Characters.{is_on_line}
use Rattle.jl_token.specs.Elements.{White, LineEnd, LineComment, BlockComment, Word, Many, no_more, one_more, Front}
use Rattle.jl_token.specs.Elements.{line_comment, block_comment}
use Rattle.jl_token.specs.Tokens.{Piece, place, OnePiece, one_piece, comments_among, CommentsInOrder}
use Rattle.jl_token.specs.Tokens.{CommentsAreUnique, CommentsWhereTokens, CommentsAreInOrder}
use Rattle.jl_token.proofs.Numbers.{row_shorter}
use Rattle.jl_token.proofs.Parts.{reads_unit, reads_before_close}
use Rattle.jl_token.proofs.Whole.{front_shorter, pieces_found, same_first}

pub comments_are_unique : CommentsAreUnique
comments_are_unique text cs ds c d =
    c.are ∙ (ap comments_among (same_first (sym (pieces_found c.splits) ∙ pieces_found d.splits)) ∙ sym d.are)

pub comments_where_tokens : CommentsWhereTokens
comments_where_tokens text = (
  λ (cs, c). (_, record { pieces = c.pieces; splits = c.splits; are = refl }),
  λ (ts, t). (_, record { pieces = t.pieces; splits = t.splits; are = refl }),
)

-- a comment takes two units at least
line_comment_longer : {us rest : List ℕ} → Front us LineComment rest → length rest + 2 ≤ length us
line_comment_longer (line_comment m) = let i = row_shorter (reads_unit is_on_line).shorter m in omega arith

block_comment_longer : {us rest : List ℕ} {l : Bool} → Front us (BlockComment l) rest → length rest + 2 ≤ length us
block_comment_longer (block_comment m) = let i = row_shorter reads_before_close.shorter m in omega arith

in_order : (text us rest : List ℕ) (ps : List Piece) (i : ℕ) → Many (OnePiece text) us ps rest
    → length us ≤ length text → i ≤ place text us → CommentsInOrder i (length text) (comments_among ps)
in_order text us rest ps i no_more h g = omega arith
in_order text us rest ps i (one_more {mid} {xs} (one_piece {e = White} b) m) h g =
    let s = front_shorter b.formed in in_order text mid rest xs i m (omega arith) (omega arith)
in_order text us rest ps i (one_more {mid} {xs} (one_piece {e = LineEnd} b) m) h g =
    let s = front_shorter b.formed in in_order text mid rest xs i m (omega arith) (omega arith)
in_order text us rest ps i (one_more {mid} {xs} (one_piece {e = LineComment} b) m) h g =
    let s = line_comment_longer b.formed in
    (g, omega arith, in_order text mid rest xs (place text mid) m (omega arith) (omega arith))
in_order text us rest ps i (one_more {mid} {xs} (one_piece {e = BlockComment l} b) m) h g =
    let s = block_comment_longer b.formed in
    (g, omega arith, in_order text mid rest xs (place text mid) m (omega arith) (omega arith))
in_order text us rest ps i (one_more {mid} {xs} (one_piece {e = Word k} b) m) h g =
    let s = front_shorter b.formed in in_order text mid rest xs i m (omega arith) (omega arith)

pub comments_are_in_order : CommentsAreInOrder
comments_are_in_order text cs c =
    subst (λ ds. CommentsInOrder 0 (length text) ds) (sym c.are)
    (in_order text text [] c.pieces 0 c.splits (omega arith) (omega arith))
