-- Lines that list a map of numbers of hits are the report of these numbers.
use Rattle.std.proofs.Common.{◌≡◌, ℕ, zero, suc, Bool, true, false, ◌&&◌, not, List, [], ◌∷◌, ◌++◌, map, Option, None}
use Rattle.std.proofs.Common.{Some, refl, sym, ap, ◌∙◌, subst, append-nil}
use Rattle.std.proofs.lemmas.List.{map-append}
use Rattle.std.proofs.lemmas.List.Elements.{filter-append}
use Rattle.std.proofs.lemmas.List.Kept.{IsStrictlySortedBy-filter}
use Rattle.std.proofs.lemmas.Map.Entries.{lookup-filter-keys}
use Rattle.std.specs.BTreeMap.{get, IsOrdered}
use Rattle.std.specs.List.Sorted.{IsStrictlySortedBy}
use Rattle.std.specs.Map.{lookup, keys_of}
use Rattle.std.specs.Ordering.{is_eq}
use Rattle.std.specs.Prelude.{if◌then◌else◌, cond, filter, unwrap_or}
use Rattle.jl_report.specs.declared.line.Line.{Line}
use Rattle.jl_report.specs.inner.Collected.{Collected, number_in, HasHits}
use Rattle.jl_report.specs.Off.{Pair, is_off}
use Rattle.jl_report.specs.Reports.{Key, Place, key, by_place, count_of, if_any, is_shown, AreLines}
use Rattle.jl_report.proofs.Keys.{same_key, same_is}

-- a line as an entry
abbrev pub entry : Line → Key × ℕ
entry x = (key x, x.count)

found_first : (b c : Bool) (v : ℕ) (o p : Option ℕ) → b ≡ c → o ≡ p → (if b then Some v else o) ≡ cond c (Some v) p
found_first true true v o p e f = refl
found_first false false v o p e f = f
found_first true false v o p e f = cc
found_first false true v o p e f = cc

pub count_of-lookup : (lines : List Line) (rule : ℕ) (at : Place)
    → count_of lines rule at ≡ lookup (λ k. is_eq (by_place (at.0, at.1, rule) k)) (map entry lines)
count_of-lookup [] rule at = refl
count_of-lookup (x ∷ lines) rule at =
    found_first _ _ x.count (count_of lines rule at) _ (sym (same_key (at.0, at.1, rule) (key x)))
    (count_of-lookup lines rule at)

keys_listed : (lines : List Line) → keys_of (map entry lines) ≡ map key lines
keys_listed [] = refl
keys_listed (x ∷ lines) = ap (λ l. key x ∷ l) (keys_listed lines)

-- the keys of the entries whose key passes a test
pub keys_of-filter : (shown : Key → Bool) (es : List (Key × ℕ))
    → keys_of (filter (λ e. shown e.0) es) ≡ filter shown (keys_of es)
keys_of-filter shown [] = refl
keys_of-filter shown (e ∷ es) = by_test (shown e.0) (keys_of-filter shown es)
  where
    by_test : (b : Bool) → keys_of (filter (λ e. shown e.0) es) ≡ filter shown (keys_of es)
        → keys_of (if b then e ∷ filter (λ e. shown e.0) es else filter (λ e. shown e.0) es)
        ≡ (if b then e.0 ∷ filter shown (keys_of es) else filter shown (keys_of es))
    by_test true h = ap (λ l. e.0 ∷ l) h
    by_test false h = h

-- one more entry is listed, or passed over
pub listed_more : (shown : Key × ℕ → Bool) (before : List (Key × ℕ)) (lines : List Line) (next : Line) (e : Key × ℕ)
    → map entry lines ≡ filter shown before → entry next ≡ e → shown e ≡ true
    → map entry (lines ++ next ∷ []) ≡ filter shown (before ++ e ∷ [])
listed_more shown before lines next e so_far is passes =
    map-append entry lines (next ∷ []) ∙ ap (λ l. l ++ entry next ∷ []) so_far
    ∙ ap (λ x. filter shown before ++ x ∷ []) is
    ∙ ap (λ b. filter shown before ++ (if b then e ∷ [] else [])) (sym passes)
    ∙ sym (filter-append shown before (e ∷ []))

pub listed_past : (shown : Key × ℕ → Bool) (before : List (Key × ℕ)) (lines : List Line) (e : Key × ℕ)
    → map entry lines ≡ filter shown before → shown e ≡ false
    → map entry lines ≡ filter shown (before ++ e ∷ [])
listed_past shown before lines e so_far fails =
    so_far ∙ sym (append-nil (filter shown before))
    ∙ ap (λ b. filter shown before ++ (if b then e ∷ [] else [])) (sym fails)
    ∙ sym (filter-append shown before (e ∷ []))

some_or_none : (o : Option ℕ) → (o ≡ Some 0 → ⊥) → o ≡ if_any (unwrap_or o 0)
some_or_none None h = refl
some_or_none (Some zero) h = absurd (h refl)
some_or_none (Some (suc n)) h = refl

-- a line stands where the rule is chosen, and isn't switched off
stands : (shown chosen : Bool) (n : ℕ) (o : Option ℕ) → o ≡ if_any (if chosen then n else 0)
    → cond shown o None ≡ (if chosen && shown then if_any n else None)
stands true true n o e = e
stands true false n o e = e
stands false true n o e = refl
stands false false n o e = refl

pub lists : (chosen : ℕ → Bool) (off : List Pair) (number : ℕ → Place → ℕ) (hits : Collected) (lines : List Line)
    → map entry lines ≡ filter (λ e. not (is_off off e.0.0 e.0.2)) hits.entries → IsOrdered by_place hits
    → HasHits hits
    → ((k : Key) → number_in hits k ≡ (if chosen k.2 then number k.2 (k.0, k.1) else 0))
    → AreLines (is_shown chosen off) number lines
lists chosen off number hits lines listed ordered some numbers = record {
  in_order = subst (IsStrictlySortedBy by_place)
      (sym (keys_of-filter on hits.entries) ∙ ap keys_of (sym listed) ∙ keys_listed lines)
      (IsStrictlySortedBy-filter by_place on (keys_of hits.entries) ordered);
  counts = λ rule at.
      let k : Key = (at.0, at.1, rule) in
      count_of-lookup lines rule at
      ∙ ap (lookup (λ q. is_eq (by_place k q))) listed
      ∙ lookup-filter-keys (λ q. is_eq (by_place k q)) on (on k)
      (λ q e. ap on (sym (same_is k q (sym (same_key k q) ∙ e)))) hits.entries
      ∙ stands (on k) (chosen rule) (number rule at) (get by_place hits k)
      (some_or_none (get by_place hits k) (some k) ∙ ap if_any (numbers k));
}
  where
    on : Key → Bool
    on k = not (is_off off k.0 k.2)
