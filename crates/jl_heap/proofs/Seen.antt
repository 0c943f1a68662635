-- What the objects of headers and properties are after a change of either.
use Rattle.std.proofs.Common.{◌≡◌, ◌≢◌, ℕ, zero, suc, ◌<◌, ◌≤◌, List, [], ◌∷◌, ◌++◌, length, get_or, refl, ap, arith}
use Rattle.std.proofs.Math.ListN.{set}
use Rattle.jl_props.specs.declared.entries.Entry.{Entry}
use Rattle.jl_heap.specs.Objects.{Object}
use Rattle.jl_heap.specs.View.{object_of, objects_of}
use Rattle.jl_heap.specs.declared.header.Header.{Header}
use Rattle.jl_heap.specs.declared.property.Prop.{Prop}

abbrev Properties : Type 0
Properties = ℕ → List (Entry Prop)

-- properties that are the same at every place give the same objects
pub objects_of-same : (hs : List Header) (f g : Properties) → ((k : ℕ) → f k ≡ g k) → objects_of hs f ≡ objects_of hs g
objects_of-same [] f g same = refl
objects_of-same (h ∷ hs) f g same =
    let here = same 0 in
    let tail = objects_of-same hs (λ k. f (suc k)) (λ k. g (suc k)) (λ k. same (suc k)) in
    cc

pub length-objects_of : (hs : List Header) (f : Properties) → length (objects_of hs f) ≡ length hs
length-objects_of [] f = refl
length-objects_of (h ∷ hs) f = ap suc (length-objects_of hs (λ k. f (suc k)))

pub objects_of-at : (hs : List Header) (f : Properties) (k : ℕ) (d : Object) (e : Header) → k < length hs →
    get_or (objects_of hs f) k d ≡ object_of (get_or hs k e) (f k)
objects_of-at [] f k d e p = absurd (omega (arith, p))
objects_of-at (h ∷ hs) f zero d e p = refl
objects_of-at (h ∷ hs) f (suc k) d e p = objects_of-at hs (λ k. f (suc k)) k d e (omega (arith, p))

pub objects_of-past : (hs : List Header) (f : Properties) (k : ℕ) (d : Object) → length hs ≤ k →
    get_or (objects_of hs f) k d ≡ d
objects_of-past [] f k d p = refl
objects_of-past (h ∷ hs) f zero d p = absurd (omega (arith, p))
objects_of-past (h ∷ hs) f (suc k) d p = objects_of-past hs (λ k. f (suc k)) k d (omega (arith, p))

-- other properties at one place are a write to that object
pub objects_of-put : (hs : List Header) (f g : Properties) (k : ℕ) (d : Object) → ((j : ℕ) → j ≢ k → g j ≡ f j) →
    objects_of hs g ≡ set (objects_of hs f) k (record (get_or (objects_of hs f) k d) { properties = g k })
objects_of-put [] f g k d others = refl
objects_of-put (h ∷ hs) f g zero d others =
    let tail = objects_of-same hs (λ j. g (suc j)) (λ j. f (suc j)) (λ j. others (suc j) (λ e. omega (arith, e))) in
    cc
objects_of-put (h ∷ hs) f g (suc k) d others =
    let here = others 0 (λ e. omega (arith, e)) in
    let tail = objects_of-put hs (λ j. f (suc j)) (λ j. g (suc j)) k d
    (λ j n. others (suc j) (λ e. n (omega (arith, e)))) in
    cc

-- another header at one place is a write to that object
pub objects_of-set : (hs : List Header) (f : Properties) (k : ℕ) (h : Header) →
    objects_of (set hs k h) f ≡ set (objects_of hs f) k (object_of h (f k))
objects_of-set [] f k h = refl
objects_of-set (i ∷ hs) f zero h = refl
objects_of-set (i ∷ hs) f (suc k) h = ap (λ l. object_of i (f 0) ∷ l) (objects_of-set hs (λ j. f (suc j)) k h)

-- one more header is one more object
pub objects_of-push : (hs : List Header) (f : Properties) (h : Header) →
    objects_of (hs ++ h ∷ []) f ≡ objects_of hs f ++ object_of h (f (length hs)) ∷ []
objects_of-push [] f h = refl
objects_of-push (i ∷ hs) f h = ap (λ l. object_of i (f 0) ∷ l) (objects_of-push hs (λ j. f (suc j)) h)
