-- What is at each place after the properties of one object changed.
use Rattle.std.proofs.Common.{◌≡◌, ◌≢◌, ◌∙◌, ℕ, zero, suc, ◌+◌, ◌<◌, ◌≤◌, Bool, true, false, List, [], ◌∷◌, length}
use Rattle.std.proofs.Common.{refl, ap, subst, eqb, arith, get_or-set_same, get_or-set_other}
use Rattle.std.specs.Prelude.{IsTrue}
use Rattle.std.proofs.lemmas.Bool.{eqb-true, eqb-false, false≢true}
use Rattle.std.proofs.lemmas.List.{get_or_past, set-get_or, set_past}
use Rattle.jl_props.specs.declared.entries.Entry.{Entry}
use Rattle.jl_heap.specs.Define.{is_array, with_new_property, with_property}
use Rattle.jl_heap.specs.Objects.{Object, Objects, absent_object, object_at, own, with_properties}
use Rattle.jl_heap.specs.declared.property.Prop.{Prop}
use Rattle.jl_heap.proofs.Items.{item_in, item_in-with_item, item_in-with_new}

-- a place is within a list or past its end
pub data Within {A : Type 0} (xs : List A) (k : ℕ) : Type 0 where
  inside : k < length xs → Within xs k
  past : length xs ≤ k → Within xs k

pub within_or_past : {A : Type 0} (xs : List A) (k : ℕ) → Within xs k
within_or_past [] k = past (omega arith)
within_or_past (x ∷ xs) zero = inside (omega arith)
within_or_past (x ∷ xs) (suc k) = more (within_or_past xs k)
  where
    more : Within xs k → Within (x ∷ xs) (suc k)
    more (inside p) = inside (omega (arith, p))
    more (past p) = past (omega (arith, p))

pub put_past : (h : Objects) (k : ℕ) (es : List (Entry Prop)) → length h.objects ≤ k → with_properties h k es ≡ h
put_past h k es p = ap (λ l. record h { objects = l })
    (set_past h.objects k (record (object_at h k) { properties = es }) p)

pub put_same : (h : Objects) (k : ℕ) → with_properties h k (object_at h k).properties ≡ h
put_same h k = ap (λ l. record h { objects = l }) (set-get_or h.objects k absent_object)

pub object_at-put : (h : Objects) (k : ℕ) (es : List (Entry Prop)) → k < length h.objects →
    object_at (with_properties h k es) k ≡ record (object_at h k) { properties = es }
object_at-put h k es p = get_or-set_same h.objects k _ absent_object p

pub object_at-other : (h : Objects) (k j : ℕ) (es : List (Entry Prop)) → j ≢ k → object_at (with_properties h k es) j
    ≡ object_at h j
object_at-other h k j es ne = get_or-set_other h.objects k j _ absent_object ne

class_here : (h : Objects) (k : ℕ) (es : List (Entry Prop)) → Within h.objects k →
    (object_at (with_properties h k es) k).class ≡ (object_at h k).class
class_here h k es (inside p) = ap (λ (o : Object). o.class) (object_at-put h k es p)
class_here h k es (past p) = ap (λ (g : Objects). (object_at g k).class) (put_past h k es p)

pub class-put : (h : Objects) (k j : ℕ) (es : List (Entry Prop)) → (object_at (with_properties h k es) j).class
    ≡ (object_at h j).class
class-put h k j es = by (eqb j k) refl
  where
    by : (b : Bool) → eqb j k ≡ b → (object_at (with_properties h k es) j).class ≡ (object_at h j).class
    by true e = rw (eqb-true j k e) (class_here h k es (within_or_past h.objects k))
    by false e = ap (λ (o : Object). o.class) (object_at-other h k j es (eqb-false j k e))

pub own-put : (h : Objects) (k : ℕ) (es : List (Entry Prop)) (x : List ℕ) → k < length h.objects →
    own (with_properties h k es) k x ≡ item_in x es
own-put h k es x p = ap (λ (o : Object). item_in x o.properties) (object_at-put h k es p)

-- an array is at its place
array_if : (h : Objects) (k : ℕ) → IsTrue (is_array (object_at h k).class) → Within h.objects k → k < length h.objects
array_if h k array (inside p) = p
array_if h k array (past p) =
    let none : object_at h k ≡ absent_object = get_or_past h.objects k absent_object p in
    absurd (false≢true (subst (λ (o : Object). IsTrue (is_array o.class)) none array))

pub array_within : (h : Objects) (k : ℕ) → IsTrue (is_array (object_at h k).class) → k < length h.objects
array_within h k array = array_if h k array (within_or_past h.objects k)

-- a property of another name stays
own_with_property : (h : Objects) (k : ℕ) (n x : List ℕ) (p : Prop) → x ≢ n → Within h.objects k →
    own (with_property h k n p) k x ≡ own h k x
own_with_property h k n x p ne (inside i) = own-put h k _ x i ∙ item_in-with_item x n p ne (object_at h k).properties
own_with_property h k n x p ne (past i) = ap (λ g. own g k x) (put_past h k _ i)

pub own-with_property : (h : Objects) (k : ℕ) (n x : List ℕ) (p : Prop) → x ≢ n → own (with_property h k n p) k x
    ≡ own h k x
own-with_property h k n x p ne = own_with_property h k n x p ne (within_or_past h.objects k)

own_with_new : (h : Objects) (k : ℕ) (n x : List ℕ) (p : Prop) → x ≢ n → Within h.objects k →
    own (with_new_property h k n p) k x ≡ own h k x
own_with_new h k n x p ne (inside i) = own-put (record h { next = h.next + 1 }) k _ x i
    ∙ item_in-with_new x n p ne h.next (object_at h k).properties
own_with_new h k n x p ne (past i) = ap (λ g. own g k x) (put_past (record h { next = h.next + 1 }) k _ i)

pub own-with_new_property : (h : Objects) (k : ℕ) (n x : List ℕ) (p : Prop) → x ≢ n
    → own (with_new_property h k n p) k x ≡ own h k x
own-with_new_property h k n x p ne = own_with_new h k n x p ne (within_or_past h.objects k)
