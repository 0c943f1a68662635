-- How births are counted, one after another.
use Rattle.std.proofs.Common.{◌≡◌, ℕ, zero, suc, ◌+◌, ◌≤◌, ◌<◌, ◌&&◌, Bool, true, false, not, List, [], ◌∷◌, ◌++◌}
use Rattle.std.proofs.Common.{length}
use Rattle.std.proofs.Common.{Option, None, Some, All, add-one, ap, arith, get_or, map, refl, slice_get}
use Rattle.std.proofs.Common.{sym}
use Rattle.std.proofs.Common.{take, ◌∙◌}
use Rattle.std.proofs.Math.Seq.{take-suc}
use Rattle.std.proofs.lemmas.List.{map-append}
use Rattle.std.proofs.lemmas.List.Elements.{All-head, All-tail}
use Rattle.std.proofs.lemmas.List.Sums.{fold-append}
use Rattle.std.proofs.lemmas.Map.Entries.{btree_map_get_place, sum_by-insert_entry}
use Rattle.std.specs.BTreeMap.{BTreeMap, IsOrdered, get, insert_entry, values}
use Rattle.std.specs.BTreeSet.{insert_key}
use Rattle.std.specs.Int.{from_bool}
use Rattle.std.specs.Map.{keys_of, values_of}
use Rattle.std.specs.Ordering.{is_eq, match_ordering}
use Rattle.std.specs.Prelude.{cond, fold, option_map, slice_index_or, sum_by, unwrap_or}
use Rattle.std.specs.declared.cmp.Ordering.{Ordering}
use Rattle.std.specs.declared.cmp.Ordering.TheVariants.{Less, Equal, Greater}
use Rattle.jl_profile.specs.Births.{Key, all_made, all_unused, by_place, has_key, row_of, sorted_keys}
use Rattle.jl_profile.specs.declared.births.Births.{Births}
use Rattle.jl_profile.specs.declared.rows.Count.{Count}
use Rattle.jl_profile.specs.inner.Rows.{count_at, listed, no_births}
use Rattle.jl_profile.proofs.Keys.{by_place_total, same_key}

abbrev pub one_if : Bool → ℕ
one_if b = cond b 1 0

-- one more birth
taken : (births : List (Key × ℕ)) (at : ℕ) (d : Key × ℕ) → at < length births
    → take (at + 1) births ≡ take at births ++ get_or births at d ∷ []
taken births at d within = ap (λ n. take n births) (add-one at) ∙ take-suc births at d within

-- the counts of a key with one more birth
counted-push : (used : ℕ → Bool) (births : List (Key × ℕ)) (birth : Key × ℕ) (key : Key)
    → count_at used (births ++ birth ∷ []) key
    ≡ record {
      made = (count_at used births key).made + one_if (has_key key birth);
      unused = (count_at used births key).unused + one_if (has_key key birth && not (used birth.1));
    }
counted-push used births birth key = λ j. record {
  made = fold-append (λ a b. a + one_if (has_key key b)) 0 births (birth ∷ []) j;
  unused = fold-append (λ a b. a + one_if (has_key key b && not (used b.1))) 0 births (birth ∷ []) j;
}

abbrev one_more_of : (used : Bool) → Count → Count
one_more_of used before = record { made = before.made + 1; unused = before.unused + one_if (not used) }

-- the counts of each key with one more birth, by the counts before
counted_more : (used : ℕ → Bool) (births : List (Key × ℕ)) (key : Key) (object : ℕ) (old new : Key → Option Count)
    → ((k : Key) → unwrap_or (old k) no_births ≡ count_at used births k)
    → ((k : Key) → new k
    ≡ cond (is_eq (by_place key k)) (Some (one_more_of (used object) (unwrap_or (old key) no_births))) (old k))
    → (k : Key) → unwrap_or (new k) no_births ≡ count_at used (births ++ (key, object) ∷ []) k
counted_more used births key object old new so_far written k =
    ap (λ o. unwrap_or o no_births) (written k) ∙ by (is_eq (by_place key k)) refl
    ∙ sym (counted-push used births (key, object) k)
  where
    added : (here : Bool) → Count → Count
    added here c =
        record { made = c.made + one_if here; unused = c.unused + one_if (here && not (used object)) }

    by : (here : Bool) → is_eq (by_place key k) ≡ here
        → unwrap_or (cond here (Some (one_more_of (used object) (unwrap_or (old key) no_births))) (old k)) no_births
        ≡ record {
          made = (count_at used births k).made + one_if here;
          unused = (count_at used births k).unused + one_if (here && not (used object));
        }
    by true is =
        ap (one_more_of (used object)) (so_far key ∙ ap (count_at used births) (same_key key k is))
    by false is =
        so_far k
        ∙ (λ j. record {
          made = plus_none (count_at used births k).made j;
          unused = plus_none (count_at used births k).unused j;
        })
      where
        plus_none : (n : ℕ) → n ≡ n + 0
        plus_none n = omega arith

pub counts_more : (used : ℕ → Bool) (births : List (Key × ℕ)) (at : ℕ) (d : Key × ℕ) (old new : Key → Option Count)
    → at < length births
    → ((k : Key) → unwrap_or (old k) no_births ≡ count_at used (take at births) k)
    → ((k : Key) → new k
    ≡ cond (is_eq (by_place (get_or births at d).0 k))
    (Some (one_more_of (used (get_or births at d).1) (unwrap_or (old (get_or births at d).0) no_births))) (old k))
    → (k : Key) → unwrap_or (new k) no_births ≡ count_at used (take (at + 1) births) k
counts_more used births at d old new within so_far written k =
    counted_more used (take at births) (get_or births at d).0 (get_or births at d).1 old new so_far written k
    ∙ ap (λ l. count_at used l k) (sym (taken births at d within))

keys-insert_entry : (es : List (Key × Count)) (k : Key) (v : Count)
    → keys_of (insert_entry by_place es k v) ≡ insert_key by_place (keys_of es) k
keys-insert_entry [] k v = refl
keys-insert_entry (e ∷ es) k v = by (by_place k e.0) (keys-insert_entry es k v)
  where
    by : (o : Ordering) → keys_of (insert_entry by_place es k v) ≡ insert_key by_place (keys_of es) k
        → keys_of (match_ordering o ((k, v) ∷ e ∷ es) ((e.0, v) ∷ es) (e ∷ insert_entry by_place es k v))
        ≡ match_ordering o (k ∷ e.0 ∷ keys_of es) (e.0 ∷ keys_of es) (e.0 ∷ insert_key by_place (keys_of es) k)
    by Less rest = refl
    by Equal rest = refl
    by Greater rest = ap (λ l. e.0 ∷ l) rest

abbrev fold_keys : List Key → List Key
fold_keys l = fold (insert_key by_place) [] l

-- the keys with one more birth
pub keys_more : (births : List (Key × ℕ)) (at : ℕ) (d : Key × ℕ) (old new : List (Key × Count)) (v : Count)
    → at < length births → keys_of old ≡ sorted_keys (take at births)
    → new ≡ insert_entry by_place old (get_or births at d).0 v
    → keys_of new ≡ sorted_keys (take (at + 1) births)
keys_more births at d old new v within so_far grown =
    let birth = get_or births at d in
    ap keys_of grown ∙ keys-insert_entry old birth.0 v ∙ ap (λ l. insert_key by_place l birth.0) so_far
    ∙ sym (ap sorted_keys (taken births at d within)
    ∙ ap (λ l. fold_keys l) (map-append (λ (b : Key × ℕ). b.0) (take at births) (birth ∷ []))
    ∙ fold-append (insert_key by_place) [] (map (λ b. b.0) (take at births)) (birth.0 ∷ []))

amount_there : (f : Count → ℕ) → f no_births ≡ 0 → (o : Option Count)
    → unwrap_or (option_map f o) 0 ≡ f (unwrap_or o no_births)
amount_there f none None = sym none
amount_there f none (Some c) = refl

-- a sum of the counts grows by what one count grows
pub sum_more : (f : Count → ℕ) (key : Key) (count : Count) (m new : BTreeMap Key Count)
    (more : ℕ) → f no_births ≡ 0 → IsOrdered by_place m
    → new.entries ≡ insert_entry by_place m.entries key count
    → f count ≡ f (unwrap_or (get by_place m key) no_births) + more
    → sum_by f (values new) ≡ sum_by f (values m) + more
sum_more f key count m new more none ordered grown is =
    let sums = sum_by-insert_entry f by_place_total m.entries key count ordered in
    let there = amount_there f none (get by_place m key) in
    let same = ap (λ l. sum_by f (values_of l)) grown in
    omega (arith, sums, there, same, is)

pub from_bool-one_if : (b : Bool) → from_bool b ≡ one_if b
from_bool-one_if true = refl
from_bool-one_if false = refl

pub one_at_most : (b : Bool) → one_if b ≤ 1
one_at_most true = omega arith
one_at_most false = omega arith

get_there : {X : Type 0} (xs : List X) (at : ℕ) (d : X) → at < length xs
    → slice_get xs at ≡ Some (slice_index_or xs at d)
get_there [] at d within = absurd (omega arith)
get_there (x ∷ xs) zero d within = refl
get_there (x ∷ xs) (suc at) d within = get_there xs at d (omega arith)

-- each entry has the counts of its key
pub all_counted : (used : ℕ → Bool) (births : List (Key × ℕ)) (m : BTreeMap Key Count) → IsOrdered by_place m
    → ((k : Key) → unwrap_or (get by_place m k) no_births ≡ count_at used births k)
    → All (λ e. e.1 ≡ count_at used births e.0) m.entries
all_counted used births m ordered counted = λ at d within.
    let e = slice_index_or m.entries at d in
    sym (ap (λ o. unwrap_or o no_births)
    (btree_map_get_place by_place_total m at e.0 e.1 ordered (get_there m.entries at d within)))
    ∙ counted e.0

-- so entries are rows
pub rows_listed : (used : ℕ → Bool) (births : List (Key × ℕ)) (es : List (Key × Count))
    → All (λ e. e.1 ≡ count_at used births e.0) es
    → map listed es ≡ map (row_of used births) (keys_of es)
rows_listed used births [] all = refl
rows_listed used births (e ∷ es) all = λ j.
    listed (e.0, All-head (λ x. x.1 ≡ count_at used births x.0) e es all j)
    ∷ rows_listed used births es (All-tail (λ x. x.1 ≡ count_at used births x.0) e es all) j

sum-listed : (f : Births → ℕ) (g : Count → ℕ) → ((e : Key × Count) → f (listed e) ≡ g e.1)
    → (n : ℕ) (es : List (Key × Count))
    → fold (λ a x. a + f x) n (map listed es) ≡ fold (λ a x. a + g x) n (values_of es)
sum-listed f g same n [] = refl
sum-listed f g same n (e ∷ es) =
    ap (λ m. fold (λ a x. a + f x) (n + m) (map listed es)) (same e) ∙ sum-listed f g same (n + g e.1) es

pub made-listed : (es : List (Key × Count)) → all_made (map listed es) ≡ sum_by (λ x. x.made) (values_of es)
made-listed es = sum-listed (λ b. b.made) (λ c. c.made) (λ e. refl) 0 es

pub unused-listed : (es : List (Key × Count)) → all_unused (map listed es) ≡ sum_by (λ x. x.unused) (values_of es)
unused-listed es = sum-listed (λ b. b.unused) (λ c. c.unused) (λ e. refl) 0 es
