-- The rows of a program that is read from the tokens of a text stand in the text.
use Rattle.std.proofs.Common.{ℕ, zero, suc, ◌≤◌, List, [], ◌∷◌, All, length, sym, subst, arith}
use Rattle.jl_ast.specs.Numbering.{numbered_tree}
use Rattle.jl_ast.specs.Tree.{Program}
use Rattle.jl_text.specs.Places.{line_table}
use Rattle.jl_text.specs.declared.span.Span.{Span}
use Rattle.jl_token.specs.Tokens.{InOrder}
use Rattle.jl_token.specs.declared.token.Token.{Token}
use Rattle.jl_grammar.specs.Program.{last_end, Reads}
use Rattle.jl_grammar.specs.Tokens.{from_at, span, to_at}
use Rattle.jl_op.specs.IdMap.{id_map}
use Rattle.jl_op.specs.Map.{BeginsIn}
use Rattle.jl_effects.proofs.Tells.{Each}
use Rattle.jl_operation_rows.specs.InText.{LiesIn}
use Rattle.jl_operation_rows.proofs.EveryPlace.{every_numbered, rows}
use Rattle.jl_operation_rows.proofs.MapRows.{each_all}
use Rattle.jl_operation_rows.proofs.ReadPlaces.{body_places}

abbrev IsWithin : (end : ℕ) → Span → Type 0
IsWithin end s = (s.from ≤ end) × (s.to ≤ end)

module _ (end : ℕ) where
  order_rises : (i : ℕ) (ts : List Token) → InOrder i end ts → i ≤ end
  order_rises i [] h = h
  order_rises i (t ∷ ts) h = let rest = order_rises t.span.to ts h.2 in omega (arith, rest, h.0, h.1)

  from_within : (i : ℕ) (ts : List Token) → InOrder i end ts → (k : ℕ) → from_at ts k ≤ end
  from_within i [] h k = omega arith
  from_within i (t ∷ ts) h zero = let rest = order_rises t.span.to ts h.2 in omega (arith, rest, h.1)
  from_within i (t ∷ ts) h (suc k) = from_within t.span.to ts h.2 k

  to_within : (i : ℕ) (ts : List Token) → InOrder i end ts → (k : ℕ) → to_at ts k ≤ end
  to_within i [] h k = omega arith
  to_within i (t ∷ ts) h zero = order_rises t.span.to ts h.2
  to_within i (t ∷ ts) h (suc k) = to_within t.span.to ts h.2 k

  last_within : (i : ℕ) (ts : List Token) → InOrder i end ts → last_end ts ≤ end
  last_within i [] h = omega arith
  last_within i (t ∷ []) h = order_rises t.span.to [] h.2
  last_within i (t ∷ u ∷ ts) h = last_within t.span.to (u ∷ ts) h.2

  span_within : (ts : List Token) → InOrder 0 end ts → (i j : ℕ) → IsWithin end (span ts i j)
  unfolding span
  span_within ts h i zero = let none : zero ≤ end = omega arith in (from_within 0 ts h i, none)
  span_within ts h i (suc j) = (from_within 0 ts h i, to_within 0 ts h j)

  rows_within : (ts : List Token) (limit : ℕ) (p : Program Span) → InOrder 0 end ts → Reads ts limit p
      → Each (LiesIn end) (id_map p)
  rows_within ts limit p order read =
      let whole : IsWithin end (record { from = 0; to = last_end ts }) =
      (let none : zero ≤ end = omega arith in none, last_within 0 ts order) in
      let body = every_numbered (IsWithin end) 0 read.code
      (body_places (IsWithin end) ts (span_within ts order) read.whole) in
      subst (λ (q : Program Span). Each (LiesIn end) (id_map q)) (sym read.is)
      (whole, (whole, rows (IsWithin end) (numbered_tree 0 read.code) body))

  pub rows_lie : (ts : List Token) (limit : ℕ) (p : Program Span) → InOrder 0 end ts → Reads ts limit p
      → All (LiesIn end) (id_map p)
  rows_lie ts limit p order read = each_all (LiesIn end) (id_map p) (rows_within ts limit p order read)

-- each begins at a place that has a line and a column
pub rows_begin : (text : List ℕ) (ts : List Token) (limit : ℕ) (p : Program Span) → InOrder 0 (length text) ts
    → Reads ts limit p → All (BeginsIn (line_table text)) (id_map p)
rows_begin text ts limit p order read = λ k d less. (rows_lie (length text) ts limit p order read k d less).0
