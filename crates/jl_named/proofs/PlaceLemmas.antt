-- Where names stand in a list, and what stands there.
use Rattle.std.proofs.Common.{◌≡◌, refl, sym, ap, ◌∙◌, ℕ, zero, suc, ◌+◌, ◌<◌, Bool, true, false, cond, List, [], ◌∷◌}
use Rattle.std.proofs.Common.{◌++◌, Some, None, length, arith}
use Rattle.std.specs.Prelude.{◌≢◌, IsNone, slice_get}
use Rattle.std.specs.List.{All, find, position_from}
use Rattle.std.specs.Option.{option_map}
use Rattle.std.proofs.Math.ListN.{get_or, set}
use Rattle.std.proofs.lemmas.Bool.{false≢true}
use Rattle.std.proofs.lemmas.List.{get_or-map, length-map}
use Rattle.std.proofs.lemmas.List.Quantifiers.{all_pairs_push}
use Rattle.std.proofs.lemmas.Option.{same_Some, none-some}
use Rattle.std.proofs.lemmas.Slice.Eq.{bytes_eq-Decides}
use Rattle.jl_text.proofs.SearchLemmas.{false_unless}
use Rattle.jl_named.specs.declared.named_list.Named.{Named}
use Rattle.jl_named.specs.Named.{has_name, item_named, with_item, AreApart}
use Rattle.jl_named.specs.inner.Placed.{place_of}

-- items of one name
abbrev pub Others : {T : Type 0} → List ℕ → List (Named T) → Type 0
Others name xs = All (λ x. has_name name x ≡ false) xs

apart_from : {T : Type 0} (name : List ℕ) (a b : Named T) → a.name ≢ b.name → has_name name a ≡ true
    → has_name name b ≡ false
apart_from name a b differ is_a =
    false_unless (has_name name b) (λ is_b.
    differ ((bytes_eq-Decides a.name name).0 is_a ∙ sym ((bytes_eq-Decides b.name name).0 is_b)))

pub no_other : {T : Type 0} (name : List ℕ) (x : Named T) (xs : List (Named T)) → AreApart (x ∷ xs)
    → has_name name x ≡ true → Others name xs
no_other name x xs apart fits = λ k d within.
    apart_from name x (get_or xs k d) (apart 0 (suc k) d (omega arith) (omega arith)) fits

pub rest_apart : {T : Type 0} (x : Named T) (xs : List (Named T)) → AreApart (x ∷ xs) → AreApart xs
rest_apart x xs apart = λ i j d before within. apart (suc i) (suc j) d (omega arith) (omega arith)

pub rest_others : {T : Type 0} (name : List ℕ) (x : Named T) (xs : List (Named T)) → Others name (x ∷ xs)
    → Others name xs
rest_others name x xs others = λ k d within. others (suc k) d (omega arith)

-- nothing is written under a name that is not there
pub none_written : {T : Type 0} (name : List ℕ) (w : T) (xs : List (Named T)) → Others name xs → xs ≡ with_item xs name w
none_written name w [] others = refl
none_written name w (x ∷ xs) others =
    let here : has_name name x ≡ false = others 0 x (omega arith) in
    rw here (ap (λ l. x ∷ l) (none_written name w xs (rest_others name x xs others)))

-- what stands at a place has the name, and is found under it
pub record Stands {T : Type 0} (name : List ℕ) (xs : List (Named T)) (at : ℕ) : Type 0 where
  pub entry : Named T
  pub within : at < length xs
  pub held : slice_get xs at ≡ Some entry
  pub found : find (has_name name) xs ≡ Some entry
  pub written : (w : T) → AreApart xs → set xs at (record entry { item = w }) ≡ with_item xs name w

-- the same, counted from another place
record StandsFrom {T : Type 0} (name : List ℕ) (xs : List (Named T)) (from at : ℕ) : Type 0 where
  place : ℕ
  is : at ≡ from + place
  stands : Stands name xs place

stands_step : {T : Type 0} (name : List ℕ) (x : Named T) (xs : List (Named T)) (from at : ℕ) (b : Bool)
    → has_name name x ≡ b
    → (position_from (has_name name) (from + 1) xs ≡ Some at → StandsFrom name xs (from + 1) at)
    → position_from (has_name name) from (x ∷ xs) ≡ Some at → StandsFrom name (x ∷ xs) from at
stands_step {T} name x xs from at true fits rest is =
    let here : from ≡ at = same_Some from at (rw fits at is) in
    record {
      place = 0;
      is = omega (arith, here);
      stands = record {
        entry = x;
        within = omega arith;
        held = refl;
        found = rw fits refl;
        written = λ w apart.
            rw fits (ap (λ l. record x { item = w } ∷ l) (none_written name w xs (no_other name x xs apart fits)));
      };
    }
stands_step {T} name x xs from at false fails rest is =
    let s = rest (rw fails at is) in
    let t = s.stands in
    record {
      place = suc s.place;
      is = omega (arith, s.is);
      stands = record {
        entry = t.entry;
        within = omega (arith, t.within);
        held = t.held;
        found = rw fails t.found;
        written = λ w apart. rw fails (ap (λ l. x ∷ l) (t.written w (rest_apart x xs apart)));
      };
    }

stands_from : {T : Type 0} (name : List ℕ) (xs : List (Named T)) (from at : ℕ)
    → position_from (has_name name) from xs ≡ Some at → StandsFrom name xs from at
stands_from name [] from at is = absurd (none-some at is)
stands_from name (x ∷ xs) from at is =
    stands_step name x xs from at (has_name name x) refl (stands_from name xs (from + 1) at) is

stands_there : {T : Type 0} (name : List ℕ) (xs : List (Named T)) (at : ℕ) (s : StandsFrom name xs 0 at)
    → Stands name xs at
stands_there name xs at s =
    let same : s.place ≡ at = omega (arith, s.is) in rw (← same) s.stands

pub stands : {T : Type 0} (name : List ℕ) (xs : List (Named T)) (at : ℕ) → place_of name xs ≡ Some at
    → Stands name xs at
stands name xs at is = stands_there name xs at (stands_from name xs 0 at is)

-- a name without a place is not there
missing_step : {T : Type 0} (name : List ℕ) (x : Named T) (xs : List (Named T)) (from : ℕ) (b : Bool)
    → has_name name x ≡ b
    → (position_from (has_name name) (from + 1) xs ≡ None → find (has_name name) xs ≡ None)
    → position_from (has_name name) from (x ∷ xs) ≡ None → find (has_name name) (x ∷ xs) ≡ None
missing_step name x xs from true fits rest is = absurd (none-some from (sym (rw fits at is)))
missing_step name x xs from false fails rest is = rw fails (rest (rw fails at is))

missing_from : {T : Type 0} (name : List ℕ) (xs : List (Named T)) (from : ℕ)
    → position_from (has_name name) from xs ≡ None → find (has_name name) xs ≡ None
missing_from name [] from is = refl
missing_from name (x ∷ xs) from is =
    missing_step name x xs from (has_name name x) refl (missing_from name xs (from + 1)) is

pub missing : {T : Type 0} (name : List ℕ) (xs : List (Named T)) → place_of name xs ≡ None
    → item_named name xs ≡ None
missing {T} name xs is = ap (option_map (λ (x : Named T). x.item)) (missing_from name xs 0 is)

-- a written item leaves each name its place

pub place_written : {T : Type 0} (q name : List ℕ) (w : T) (xs : List (Named T)) (from : ℕ)
    → position_from (has_name q) from (with_item xs name w) ≡ position_from (has_name q) from xs
place_written q name w [] from = refl
place_written {T} q name w (x ∷ xs) from = by (has_name name x) refl (place_written q name w xs (from + 1))
  where
    by : (b : Bool) → has_name name x ≡ b
        → position_from (has_name q) (from + 1) (with_item xs name w) ≡ position_from (has_name q) (from + 1) xs
        → position_from (has_name q) from (with_item (x ∷ xs) name w) ≡ position_from (has_name q) from (x ∷ xs)
    by true fits rest = rw fits (ap (cond (has_name q x) (Some from)) rest)
    by false fails rest = rw fails (ap (cond (has_name q x) (Some from)) rest)

keeps_name : {T : Type 0} (item : T) (b : Bool) (x : Named T) → (cond b (record x { item = item }) x).name ≡ x.name
keeps_name item true x = refl
keeps_name item false x = refl

pub written_apart : {T : Type 0} (xs : List (Named T)) (name : List ℕ) (item : T) → AreApart xs
    → AreApart (with_item xs name item)
written_apart {T} xs name item apart i j d before within =
    let f : Named T → Named T = λ x. cond (has_name name x) (record x { item = item }) x in
    let inside : j < length xs = rw length-map at within in
    let at_i = get_or-map f xs i d d (omega arith) in
    let at_j = get_or-map f xs j d d inside in
    let kept_i = keeps_name item (has_name name (get_or xs i d)) (get_or xs i d) in
    let kept_j = keeps_name item (has_name name (get_or xs j d)) (get_or xs j d) in
    let was = apart i j d before inside in
    rw (at_i, at_j) (λ same. was (sym kept_i ∙ same ∙ kept_j))

-- a further item

pub none_named : {T : Type 0} (name : List ℕ) (xs : List (Named T)) → IsNone (item_named name xs) → Others name xs
none_named name [] none = λ k d within. absurd (omega arith)
none_named {T} name (x ∷ xs) none =
    let here : has_name name x ≡ false = false_unless (has_name name x) (λ yes. false≢true (sym (rw yes at none))) in
    all here (none_named name xs (rw here at none))
  where
    all : has_name name x ≡ false → Others name xs → Others name (x ∷ xs)
    all here others zero d within = here
    all here others (suc k) d within = others k d (omega arith)

pub pushed_apart : {T : Type 0} (xs : List (Named T)) (e : Named T) → AreApart xs → IsNone (item_named e.name xs)
    → AreApart (xs ++ e ∷ [])
pushed_apart {T} xs e apart none =
    let others = none_named e.name xs none in
    all_pairs_push (λ (a b : Named T). a.name ≢ b.name) xs e apart
    (λ k d within same. false≢true (sym (others k d within) ∙ (bytes_eq-Decides _ _).1 same))

-- the place of each name, where one more comes last
pub place_pushed : {T : Type 0} (q : List ℕ) (e : Named T) (xs : List (Named T)) (from : ℕ) → Others e.name xs
    → cond (has_name q e) (Some (from + length xs)) (position_from (has_name q) from xs)
    ≡ position_from (has_name q) from (xs ++ e ∷ [])
place_pushed q e [] from others = ap (λ n. cond (has_name q e) (Some n) None) (omega arith)
place_pushed {T} q e (x ∷ xs) from others =
    by (has_name q x) (has_name q e) refl refl (place_pushed q e xs (from + 1) (rest_others e.name x xs others))
  where
    by : (b c : Bool) → has_name q x ≡ b → has_name q e ≡ c
        → cond (has_name q e) (Some (from + 1 + length xs)) (position_from (has_name q) (from + 1) xs)
        ≡ position_from (has_name q) (from + 1) (xs ++ e ∷ [])
        → cond (has_name q e) (Some (from + length (x ∷ xs))) (position_from (has_name q) from (x ∷ xs))
        ≡ position_from (has_name q) from ((x ∷ xs) ++ e ∷ [])
    by true true fits new rest =
        let same : x.name ≡ e.name = (bytes_eq-Decides x.name q).0 fits ∙ sym ((bytes_eq-Decides e.name q).0 new) in
        absurd (false≢true (sym (others 0 x (omega arith)) ∙ (bytes_eq-Decides x.name e.name).1 same))
    by true false fits new rest = rw (fits, new) refl
    by false true fails new rest =
        let count : from + 1 + length xs ≡ from + length (x ∷ xs) = omega arith in
        rw (fails, new) (ap Some (sym count) ∙ (rw new at rest))
    by false false fails new rest = rw (fails, new) (rw new at rest)
