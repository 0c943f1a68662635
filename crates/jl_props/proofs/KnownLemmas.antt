-- A change loses no slot: each that stands afterwards is found by the name of its entry.
use Rattle.std.proofs.Common.{◌≡◌, refl, sym, ap, ◌∙◌, ℕ, List, Option, Some, None, inl, inr}
use Rattle.std.specs.Prelude.{◌≢◌, nat_eq, slice_get}
use Rattle.std.specs.Cmp.Lexicographic.{pointwise}
use Rattle.std.proofs.lemmas.Bool.{cases_eq}
use Rattle.std.proofs.lemmas.Option.{same_Some, none-some}
use Rattle.indexmap.specs.IndexMap.{get}
use Rattle.jl_props.specs.declared.slots.Object.{Object}
use Rattle.jl_props.specs.declared.slots.Slot.{Slot}
use Rattle.jl_props.specs.inner.Linked.{Look, key_in, key_at, IsLinked, RelinksAfter, RelinksBefore}
use Rattle.jl_props.proofs.LinkLemmas.{IsMine}

-- a slot was there, of the same object and under the same name
pub record Origin {T : Type 0} (look : Look T) (k : ℕ) (s : Slot T) : Type 0 where
  pub slot : Slot T
  pub is : look k ≡ Some slot
  pub object : slot.object ≡ s.object
  pub name : slot.entry.name ≡ s.entry.name

pub itself : {T : Type 0} (look : Look T) (k : ℕ) (s : Slot T) → look k ≡ Some s → Origin look k s
itself look k s is = record { slot = s; is = is; object = refl; name = refl }

pub origin_before : {T : Type 0} (old new : Look T) (k : ℕ) (s : Slot T) → new k ≡ old k → Origin new k s
    → Origin old k s
origin_before old new k s same o = record { slot = o.slot; is = sym same ∙ o.is; object = o.object; name = o.name }

-- a slot of another object stays as it was, and one of the object that changes is found by its name
pub record IsKnown {T : Type 0} (look : Look T) (obj : ℕ) (after : Object) (k : ℕ) (s : Slot T) : Type 0 where
  pub other : s.object ≢ obj → look k ≡ Some s
  pub mine : s.object ≡ obj → get (pointwise nat_eq) after.names s.entry.name ≡ Some k

-- a slot that was there before is known, where its name leads to it still
pub known_on : {T : Type 0} (look new : Look T) (objects : List Object) (obj : ℕ) (object after : Object) (next k : ℕ)
    (s : Slot T)
    → IsLinked look objects next → slice_get objects obj ≡ Some object
    → ((j : ℕ) (t : Slot T) → look j ≡ Some t → t.object ≢ obj → new j ≡ Some t)
    → new k ≡ Some s → Origin look k s
    → (get (pointwise nat_eq) object.names s.entry.name ≡ Some k
    → get (pointwise nat_eq) after.names s.entry.name ≡ Some k)
    → IsKnown look obj after k s
known_on look new objects obj object after next k s linked is stay at o leads = record {
  other = λ apart. o.is ∙ sym (stay k o.slot o.is (λ same. apart (sym o.object ∙ same))) ∙ at;
  mine = λ same.
      leads (sym (ap (λ x. key_in x s.entry.name) is)
      ∙ sym (ap (λ n. key_at objects n s.entry.name) (o.object ∙ same))
      ∙ sym (ap (λ q. key_at objects o.slot.object q) o.name) ∙ linked.known k o.slot o.is);
}

-- links alone change
pub relinked_after : {T : Type 0} (old new : Look T) (obj : ℕ) (key after : Option ℕ) (k : ℕ) (s : Slot T)
    → RelinksAfter old new key after → (key ≡ Some k → IsMine old obj k) → new k ≡ Some s → Origin old k s
relinked_after {T} old new obj key after k s relinks there at = by key refl
  where
    by : (o : Option ℕ) → key ≡ o → Origin old k s
    by None is = itself old k s (sym (relinks.others k (λ same. none-some k (sym is ∙ same))) ∙ at)
    by (Some j) is =
        elim (cases_eq j k) [
          | inl same ↦
              let m = there (is ∙ ap Some same) in
              let same_slot = same_Some (record m.slot { after = after }) s
              (sym (relinks.here k m.slot (is ∙ ap Some same) m.is) ∙ at) in
              record {
                slot = m.slot;
                is = m.is;
                object = ap (λ (x : Slot T). x.object) same_slot;
                name = ap (λ (x : Slot T). x.entry.name) same_slot;
              }
          | inr apart ↦
              itself old k s (sym (relinks.others k (λ same. apart (same_Some j k (sym is ∙ same)))) ∙ at)
        ]

pub relinked_before : {T : Type 0} (old new : Look T) (obj : ℕ) (key before : Option ℕ) (k : ℕ) (s : Slot T)
    → RelinksBefore old new key before → (key ≡ Some k → IsMine old obj k) → new k ≡ Some s → Origin old k s
relinked_before {T} old new obj key before k s relinks there at = by key refl
  where
    by : (o : Option ℕ) → key ≡ o → Origin old k s
    by None is = itself old k s (sym (relinks.others k (λ same. none-some k (sym is ∙ same))) ∙ at)
    by (Some j) is =
        elim (cases_eq j k) [
          | inl same ↦
              let m = there (is ∙ ap Some same) in
              let same_slot = same_Some (record m.slot { before = before }) s
              (sym (relinks.here k m.slot (is ∙ ap Some same) m.is) ∙ at) in
              record {
                slot = m.slot;
                is = m.is;
                object = ap (λ (x : Slot T). x.object) same_slot;
                name = ap (λ (x : Slot T). x.entry.name) same_slot;
              }
          | inr apart ↦
              itself old k s (sym (relinks.others k (λ same. apart (same_Some j k (sym is ∙ same)))) ∙ at)
        ]

-- a slot that links may change is still one of its object
pub relinked_mine : {T : Type 0} (old new : Look T) (obj : ℕ) (key after : Option ℕ) (k : ℕ)
    → RelinksAfter old new key after → IsMine old obj k → IsMine new obj k
relinked_mine {T} old new obj key after k relinks m = by key refl
  where
    by : (o : Option ℕ) → key ≡ o → IsMine new obj k
    by None is = record {
      slot = m.slot;
      is = relinks.others k (λ same. none-some k (sym is ∙ same)) ∙ m.is;
      object = m.object;
    }
    by (Some j) is =
        elim (cases_eq j k) [
          | inl same ↦ record {
            slot = record m.slot { after = after };
            is = relinks.here k m.slot (is ∙ ap Some same) m.is;
            object = m.object;
          }
          | inr apart ↦ record {
            slot = m.slot;
            is = relinks.others k (λ same. apart (same_Some j k (sym is ∙ same))) ∙ m.is;
            object = m.object;
          }
        ]
