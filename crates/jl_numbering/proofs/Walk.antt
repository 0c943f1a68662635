-- A list of trees whose first trees have their numbers, and the others not yet.
use Rattle.std.proofs.Common.{◌≡◌, ℕ, ◌+◌, ◌<◌, ◌≤◌, ◌^◌, suc, List, [], ◌∷◌, ◌++◌, length, take, drop, get_or}
use Rattle.std.proofs.Common.{set, refl, sym, ap, ◌∙◌, arith}
use Rattle.std.proofs.Common.{drop-cons, add-one, get_or-set_other, length-set}
use Rattle.std.specs.List.{refill}
use Rattle.std.proofs.lemmas.List.{take_more_set, drop-set-lt, drop_all, take-append-le}
use Rattle.std.proofs.Math.Seq.{take-length}
use Rattle.jl_ast.specs.Tree.{Sort, Tree, Forest, more, end}
use Rattle.jl_ast.specs.Numbering.{functions_in, functions_in_forest, numbered_tree, numbered_forest}

-- how items are seen: one of them as a tree, and a list of them as a forest
pub record Seen (S : Type 0) (x : Sort) (A : Type 0) : Type 0 where
  pub one : A → Tree S x
  pub all : List A → Forest S x
  pub none : all [] ≡ end
  pub next : (a : A) (l : List A) → all (a ∷ l) ≡ more (one a) (all l)

-- two lists of the same length are the same from k on
pub record SameFrom {A : Type 0} (k : ℕ) (old now : List A) : Type 0 where
  pub as_long : length now ≡ length old
  pub same : (i : ℕ) (d : A) → k ≤ i → get_or now i d ≡ get_or old i d

-- the trees of these items, and after them a forest
abbrev pub before : {S A : Type 0} {x : Sort} → (A → Tree S x) → List A → Forest S x → Forest S x
before f [] r = r
before f (a ∷ l) r = more (f a) (before f l r)

-- the first k items of `now` are numbered, and the others come from `next` on
pub record Halfway {S A : Type 0} {x : Sort} (seen : Seen S x A) (old now : List A) (k from next : ℕ) : Type 0 where
  pub numbered : before seen.one (take k now) (numbered_forest next (seen.all (drop k now))) ≡ numbered_forest from
      (seen.all old)
  pub counted : next + functions_in_forest (seen.all (drop k now)) ≡ from + functions_in_forest (seen.all old)

before-append : {S A : Type 0} {x : Sort} (f : A → Tree S x) (l m : List A) (r : Forest S x) →
    before f (l ++ m) r ≡ before f l (before f m r)
before-append f [] m r = refl
before-append f (a ∷ l) m r = ap (more (f a)) (before-append f l m r)

before-all : {S A : Type 0} {x : Sort} (seen : Seen S x A) (l : List A) → before seen.one l end ≡ seen.all l
before-all seen [] = sym seen.none
before-all seen (a ∷ l) = ap (more (seen.one a)) (before-all seen l) ∙ sym (seen.next a l)

pub same_beyond : {A : Type 0} (k : ℕ) (old now : List A) (b : A) → SameFrom k old now →
    SameFrom (k + 1) old (set now k b)
same_beyond k old now b s = record {
  as_long = length-set now k b ∙ s.as_long;
  same = λ i d h. get_or-set_other now k i b d (omega arith) ∙ s.same i d (omega arith);
}

refilled : {A : Type 0} (old now : List A) → length now ≡ length old → refill (length old) old now ≡ now
refilled old now e =
    take-append-le (length old) now (drop (length now) old) (omega arith)
    ∙ ap (λ n. take n now) (sym e) ∙ take-length now

module _ {S A : Type 0} {x : Sort} (seen : Seen S x A) where
  pub at_first : (old : List A) (from : ℕ) → Halfway seen old old 0 from from
  at_first old from = record { numbered = refl; counted = refl }

  -- the item at k, and those after it
  part : (now : List A) (k : ℕ) (d : A) → k < length now →
      seen.all (drop k now) ≡ more (seen.one (get_or now k d)) (seen.all (drop (suc k) now))
  part now k d h = ap seen.all (drop-cons now k d h) ∙ seen.next (get_or now k d) (drop (suc k) now)

  pub item_fits : (old now : List A) (k from next : ℕ) (d : A) → Halfway seen old now k from next →
      k < length now → from + functions_in_forest (seen.all old) < 2 ^ 32 →
      next + functions_in (seen.one (get_or now k d)) < 2 ^ 32
  item_fits old now k from next d w h f =
      let p = ap functions_in_forest (part now k d h) in let c = w.counted in omega arith

  pub one_more : (old now : List A) (k from next : ℕ) (d b : A) (later : ℕ) → Halfway seen old now k from next →
      k < length now → seen.one b ≡ numbered_tree next (seen.one (get_or now k d)) →
      later ≡ next + functions_in (seen.one (get_or now k d)) → Halfway seen old (set now k b) (k + 1) from later
  one_more old now k from next d b later w h n c =
      let a = get_or now k d in
      let rest : drop (k + 1) (set now k b) ≡ drop (suc k) now =
      drop-set-lt (k + 1) now k b (omega arith) ∙ ap (λ i. drop i now) (add-one k) in
      let r = seen.all (drop (suc k) now) in
      let tail = ap seen.all rest in
      let p = part now k d h in
      let m : numbered_forest next (seen.all (drop k now)) ≡ more (seen.one b) (numbered_forest later r) =
      ap (numbered_forest next) p ∙ ap (λ i. more (numbered_tree next (seen.one a)) (numbered_forest i r)) (sym c)
      ∙ ap (λ t. more t (numbered_forest later r)) (sym n) in
      let q = ap functions_in_forest p in let s = ap functions_in_forest tail in let e = w.counted in
      record {
        numbered =
            ap (λ l. before seen.one l (numbered_forest later (seen.all (drop (k + 1) (set now k b)))))
            (take_more_set now k b h)
            ∙ before-append seen.one (take k now) (b ∷ []) _
            ∙ ap (λ l. before seen.one (take k now) (more (seen.one b) (numbered_forest later l))) tail
            ∙ sym (ap (before seen.one (take k now)) m) ∙ w.numbered;
        counted = omega arith;
      }

  pub all_numbered : (old now : List A) (k from next : ℕ) → Halfway seen old now k from next → SameFrom k old now →
      k ≡ length now → seen.all (refill (length old) old now) ≡ numbered_forest from (seen.all old)
  all_numbered old now k from next w s e =
      let rest : seen.all (drop k now) ≡ end = ap seen.all (drop_all k now (omega arith)) ∙ seen.none in
      ap seen.all (refilled old now s.as_long) ∙ sym (before-all seen now)
      ∙ ap (λ l. before seen.one l end) (sym (ap (λ i. take i now) e ∙ take-length now))
      ∙ sym (ap (λ r. before seen.one (take k now) (numbered_forest next r)) rest) ∙ w.numbered
