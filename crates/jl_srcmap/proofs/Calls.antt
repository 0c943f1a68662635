-- Calls of hooks, one token after the other, and that their lines don't fall.
use Rattle.std.proofs.Common.{◌≡◌, ℕ, suc, ◌+◌, ◌-◌, ◌<◌, ◌≤◌, List, [], ◌∷◌, ◌++◌, Bool, true, false, cond}
use Rattle.std.proofs.Common.{length}
use Rattle.std.proofs.Common.{drop, get_or, map, Option, Some, None, ap, sym, subst, refl, ◌∙◌, arith, append_assoc}
use Rattle.std.specs.Prelude.{nat_le}
use Rattle.std.proofs.Math.Seq.{drop-cons}
use Rattle.std.proofs.lemmas.Bool.Decides.{nat_tests}
use Rattle.std.proofs.lemmas.List.{append-nil, drop_all}
use Rattle.std.proofs.lemmas.List.Sums.{sum_by-cons}
use Rattle.jl_op.specs.Map.{MapRow}
use Rattle.jl_text.specs.Places.{LineTable, line_at}
use Rattle.jl_token.specs.Tokens.{InOrder}
use Rattle.jl_token.specs.declared.token.Token.{Token}
use Rattle.jl_srcmap.specs.Hooks.{call_segment, hook_calls, hook_number, segments_of, with_call}
use Rattle.jl_srcmap.specs.Segments.{AreInOrder}
use Rattle.jl_srcmap.specs.declared.segment.Segment.{Segment}

-- a later place is on no earlier line
line_cons : (s : ℕ) (starts : List ℕ) (i : ℕ) → line_at (s ∷ starts) i ≡ cond (nat_le s i) 1 0 + line_at starts i
line_cons s starts i = sum_by-cons (λ x. cond (nat_le x i) 1 0) s starts

line_rises : (starts : List ℕ) (i j : ℕ) → i ≤ j → line_at starts i ≤ line_at starts j
line_rises [] i j l = omega arith
line_rises (s ∷ ss) i j l = by (nat_le s i) (nat_le s j) refl refl (line_rises ss i j l) where
  by : (a b : Bool) → nat_le s i ≡ a → nat_le s j ≡ b → line_at ss i ≤ line_at ss j
      → line_at (s ∷ ss) i ≤ line_at (s ∷ ss) j
  by a b x y m =
      let here = line_cons s ss i ∙ ap (λ t. cond t 1 0 + line_at ss i) x in
      let there = line_cons s ss j ∙ ap (λ t. cond t 1 0 + line_at ss j) y in
      by_tests a b x y here there m
    where
      by_tests : (a b : Bool) → nat_le s i ≡ a → nat_le s j ≡ b
          → line_at (s ∷ ss) i ≡ cond a 1 0 + line_at ss i → line_at (s ∷ ss) j ≡ cond b 1 0 + line_at ss j
          → line_at ss i ≤ line_at ss j → line_at (s ∷ ss) i ≤ line_at (s ∷ ss) j
      by_tests true true x y e f m = omega arith
      by_tests true false x y e f m = absurd (grind (arith, nat_tests))
      by_tests false true x y e f m = omega arith
      by_tests false false x y e f m = omega arith

-- ---- a token more

-- the tokens from a place on
rest_at : (ts : List Token) (at : ℕ) (d : Token) → at < length ts → drop at ts ≡ get_or ts at d ∷ drop (at + 1) ts
rest_at ts at d l =
    let next : suc at ≡ at + 1 = omega arith in
    drop-cons ts at d l ∙ ap (λ n. get_or ts at d ∷ drop n ts) next

no_call : (woven : LineTable) (rows : List MapRow) (lines : LineTable) (ts : List Token) (at : ℕ) (d : Token)
    → at < length ts → None ≡ hook_number (drop at ts)
    → segments_of woven rows lines (drop at ts) ≡ segments_of woven rows lines (drop (at + 1) ts)
no_call woven rows lines ts at d l f =
    let rest = rest_at ts at d l in
    let none = f ∙ ap hook_number rest in
    ap (segments_of woven rows lines) rest
    ∙ ap (λ o. map (call_segment woven rows lines)
    (with_call (get_or ts at d).span.from o (hook_calls (drop (at + 1) ts)))) (sym none)

one_call : (woven : LineTable) (rows : List MapRow) (lines : LineTable) (ts : List Token) (at n : ℕ) (d : Token)
    → at < length ts → Some n ≡ hook_number (drop at ts)
    → segments_of woven rows lines (drop at ts)
    ≡ call_segment woven rows lines (record { at = (get_or ts at d).span.from; number = n })
    ∷ segments_of woven rows lines (drop (at + 1) ts)
one_call woven rows lines ts at n d l f =
    let rest = rest_at ts at d l in
    let one = f ∙ ap hook_number rest in
    ap (segments_of woven rows lines) rest
    ∙ ap (λ o. map (call_segment woven rows lines)
    (with_call (get_or ts at d).span.from o (hook_calls (drop (at + 1) ts)))) (sym one)

-- ---- the loop

pub call_added : (woven : LineTable) (rows : List MapRow) (lines : LineTable) (ts : List Token) (at n : ℕ) (d : Token)
    (made new : List Segment) (s : Segment) → at < length ts → Some n ≡ hook_number (drop at ts)
    → s ≡ call_segment woven rows lines (record { at = (get_or ts at d).span.from; number = n }) → new ≡ made ++ s ∷ []
    → new ++ segments_of woven rows lines (drop (at + 1) ts) ≡ made ++ segments_of woven rows lines (drop at ts)
call_added woven rows lines ts at n d made new s l f is added =
    let rest = segments_of woven rows lines (drop (at + 1) ts) in
    ap (λ ss. ss ++ rest) added
    ∙ append_assoc made (s ∷ []) rest
    ∙ ap (λ x. made ++ x ∷ rest) is
    ∙ ap (λ ss. made ++ ss) (sym (one_call woven rows lines ts at n d l f))

pub call_absent : (woven : LineTable) (rows : List MapRow) (lines : LineTable) (ts : List Token) (at : ℕ)
    (made : List Segment) → at < length ts → None ≡ hook_number (drop at ts)
    → made ++ segments_of woven rows lines (drop (at + 1) ts) ≡ made ++ segments_of woven rows lines (drop at ts)
call_absent woven rows lines [] at made l f = absurd (omega arith)
call_absent woven rows lines (t ∷ ts) at made l f =
    ap (λ ss. made ++ ss) (sym (no_call woven rows lines (t ∷ ts) at t l f))

pub all_made : (woven : LineTable) (rows : List MapRow) (lines : LineTable) (ts : List Token) (at : ℕ)
    (made : List Segment) → length ts ≤ at
    → made ++ segments_of woven rows lines (drop at ts) ≡ segments_of woven rows lines ts
    → made ≡ segments_of woven rows lines ts
all_made woven rows lines ts at made l so_far =
    sym (append-nil made) ∙ ap (λ us. made ++ segments_of woven rows lines us) (sym (drop_all at ts l)) ∙ so_far

-- ---- lines don't fall

calls_in_order : (woven : LineTable) (rows : List MapRow) (lines : LineTable) (ts : List Token) (line i j : ℕ)
    → InOrder i j ts → line ≤ line_at woven.starts i - 1 → AreInOrder line (segments_of woven rows lines ts)
calls_in_order woven rows lines [] line i j o l = tt
calls_in_order woven rows lines (t ∷ ts) line i j o l =
    let first = line_rises woven.starts i t.span.from o.0 in
    let next = line_rises woven.starts t.span.from t.span.to (omega (arith, o.1)) in
    by (hook_number (t ∷ ts))
    (λ line l. calls_in_order woven rows lines ts line t.span.to j o.2 l) (omega arith) (omega arith) (omega arith)
  where
    by : (o : Option ℕ)
        → ((line : ℕ) → line ≤ line_at woven.starts t.span.to - 1 → AreInOrder line (segments_of woven rows lines ts))
        → line ≤ line_at woven.starts t.span.to - 1
        → line ≤ line_at woven.starts t.span.from - 1
        → line_at woven.starts t.span.from - 1 ≤ line_at woven.starts t.span.to - 1
        → AreInOrder line (map (call_segment woven rows lines) (with_call t.span.from o (hook_calls ts)))
    by None more past here rises = more line past
    by (Some n) more past here rises = (here, more (line_at woven.starts t.span.from - 1) rises)

pub made_in_order : (woven : LineTable) (rows : List MapRow) (lines : LineTable) (ts : List Token) (at : ℕ)
    (made : List Segment) → length ts ≤ at
    → made ++ segments_of woven rows lines (drop at ts) ≡ segments_of woven rows lines ts
    → (i j : ℕ) → InOrder i j ts → AreInOrder 0 made
made_in_order woven rows lines ts at made l so_far i j o =
    subst (AreInOrder 0) (sym (all_made woven rows lines ts at made l so_far))
    (calls_in_order woven rows lines ts 0 i j o (omega arith))
