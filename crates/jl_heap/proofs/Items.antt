-- What is found under a name after a list of entries changed.
use Rattle.std.proofs.Common.{◌≡◌, ◌≢◌, ◌∙◌, ℕ, Bool, true, false, List, [], ◌∷◌, refl, ap, sym}
use Rattle.std.specs.Prelude.{Option}
use Rattle.std.specs.List.{filter}
use Rattle.std.specs.Option.{option_map}
use Rattle.std.specs.Str.{bytes_eq}
use Rattle.std.proofs.lemmas.Slice.Eq.{bytes_eq-Decides}
use Rattle.jl_props.specs.Entries.{entry_named, has_name, with_item, with_new}
use Rattle.jl_props.specs.declared.entries.Entry.{Entry}
use Rattle.jl_heap.specs.declared.property.Prop.{Prop}

-- what is found under a name
abbrev pub item_in : List ℕ → List (Entry Prop) → Option Prop
item_in x es = option_map (λ e. e.item) (entry_named x es)

pub named_so : (x : List ℕ) (e : Entry Prop) → has_name x e ≡ true → e.name ≡ x
named_so x e h = (bytes_eq-Decides e.name x).0 h

pub bytes_eq-same : (x : List ℕ) → bytes_eq x x ≡ true
bytes_eq-same x = (bytes_eq-Decides x x).1 refl

pub bytes_eq-other : (x y : List ℕ) → x ≢ y → bytes_eq x y ≡ false
bytes_eq-other x y ne = by (bytes_eq x y) refl
  where
    by : (b : Bool) → bytes_eq x y ≡ b → b ≡ false
    by true h = absurd (ne ((bytes_eq-Decides x y).0 h))
    by false h = refl

module _ (x n : List ℕ) (p : Prop) where
  pub item_in-with_item : x ≢ n → (es : List (Entry Prop)) → item_in x (with_item es n p) ≡ item_in x es
  item_in-with_item ne [] = refl
  item_in-with_item ne (e ∷ es) = step (item_in-with_item ne es) (has_name n e) refl (has_name x e) refl
    where
      step : item_in x (with_item es n p) ≡ item_in x es → (bn : Bool) → has_name n e ≡ bn → (bx : Bool)
          → has_name x e ≡ bx →
          item_in x (with_item (e ∷ es) n p) ≡ item_in x (e ∷ es)
      step rest true en true ex = absurd (ne (sym (named_so x e ex) ∙ named_so n e en))
      step rest true en false ex = rw (en, ex) rest
      step rest false en true ex = rw (en, ex) refl
      step rest false en false ex = rw (en, ex) rest

  pub item_in-with_new : x ≢ n → (serial : ℕ) (es : List (Entry Prop)) → item_in x (with_new es n serial p)
      ≡ item_in x es
  item_in-with_new ne serial [] = rw (bytes_eq-other n x (λ e. ne (sym e))) refl
  item_in-with_new ne serial (e ∷ es) = step (item_in-with_new ne serial es) (has_name x e) refl
    where
      step : item_in x (with_new es n serial p) ≡ item_in x es → (bx : Bool) → has_name x e ≡ bx →
          item_in x (with_new (e ∷ es) n serial p) ≡ item_in x (e ∷ es)
      step rest true ex = rw ex refl
      step rest false ex = rw ex rest

pub item_in-filter : (keeps : List ℕ → Bool) (x : List ℕ) → keeps x ≡ true → (es : List (Entry Prop)) →
    item_in x (filter (λ e. keeps e.name) es) ≡ item_in x es
item_in-filter keeps x kept [] = refl
item_in-filter keeps x kept (e ∷ es) = step (item_in-filter keeps x kept es) (has_name x e) refl (keeps e.name) refl
  where
    step : item_in x (filter (λ e. keeps e.name) es) ≡ item_in x es → (bx : Bool) → has_name x e ≡ bx → (bk : Bool)
        → keeps e.name ≡ bk →
        item_in x (filter (λ e. keeps e.name) (e ∷ es)) ≡ item_in x (e ∷ es)
    step rest true ex true ek = rw (ek, ex) refl
    step rest true ex false ek = let same = named_so x e ex in let k = ap keeps same in cc
    step rest false ex true ek = rw (ek, ex) rest
    step rest false ex false ek = rw (ek, ex) rest
