-- What is known of facts that were written: they can be stored, if their values have their classes.
use Rattle.std.proofs.Common.{◌≡◌, ℕ, ◌+◌, ◌<◌, ◌^◌, All, List, [], ◌∷◌, ◌++◌, length}
use Rattle.std.proofs.Common.{get_or, subst, sym, take}
use Rattle.std.proofs.lemmas.List.Elements.{All-head, All-more, All-tail}
use Rattle.std.specs.List.{AllByRecursion}
use Rattle.std.specs.Prelude.{IfOk, OnOk, Result, Ok, Err}
use Rattle.jl_num.specs.Number.{IsNumber}
use Rattle.jl_op.specs.declared.op.Op.{Op}
use Rattle.jl_record.specs.Facts.{AreSeen, IsSeen, IsSeenAs, IsText}
use Rattle.jl_record.specs.Storing.{CanBeStored, HasItsClass, IsClassOf}
use Rattle.jl_value.specs.declared.object.Class.{Class}
use Rattle.jl_value.specs.declared.value.Seen.{Seen}
use Rattle.jl_value.specs.declared.value.Value.{Value}
use Rattle.jl_value.specs.declared.value.Value.TheVariants as values
use Rattle.jl_record.proofs.Peeling.{all_front, all_rest}

-- what holds anyhow
pub on_ok_now : {T E P : Type 0} (r : Result T E) → P → OnOk r P
on_ok_now (Ok x) p = p
on_ok_now (Err e) p = tt

pub if_ok_now : {T E : Type 0} {P : T → Type 0} (r : Result T E) → ((x : T) → P x) → IfOk r P
if_ok_now (Ok x) p = p x
if_ok_now (Err e) p = tt

-- a fact that asks for no class, and that of one value
pub on_ok_fact : {T E Is : Type 0} (r : Result T E) (seen : List Seen) → Is
    → OnOk r (AllByRecursion HasItsClass seen → Is)
on_ok_fact r seen is = on_ok_now r (λ (have : AllByRecursion HasItsClass seen). is)

pub fact_on_ok : {T E : Type 0} (Is : Type 0) (r : Result T E) (seen : List Seen) → OnOk r Is
    → OnOk r (AllByRecursion HasItsClass seen → Is)
fact_on_ok Is (Ok x) seen is = λ have. is
fact_on_ok Is (Err e) seen is = tt

pub one_fact : {T E : Type 0} (r : Result T E) (seen : Seen) → OnOk r (HasItsClass seen → IsSeen seen)
    → OnOk r (AllByRecursion HasItsClass (seen ∷ []) → IsSeen seen)
one_fact (Ok x) seen is = λ have. is have.0
one_fact (Err e) seen is = tt

-- ---- values

-- what the type of a value says of it
abbrev pub IsInRange : Value → Type 0
IsInRange (values.Num number) = IsNumber number
IsInRange (values.Text units) = IsText units
IsInRange (values.Obj place) = place.0 < 2 ^ 64
IsInRange _ = Unit {0}

seen_as : (v : Value) (class : Class) → IsInRange v → IsClassOf v class → IsSeenAs v class
seen_as values.Undefined class range has = has
seen_as values.Null class range has = has
seen_as (values.Bool truth) class range has = has
seen_as (values.Num number) class range has = (has, range)
seen_as (values.Text units) class range has = (has, range)
seen_as (values.Obj place) class range has = range

pub is_seen : (seen : Seen) {v : Value} → seen.value ≡ v → IsInRange v → HasItsClass seen → IsSeen seen
is_seen seen is range has =
    seen_as seen.value seen.class (subst (λ v. IsInRange v) (sym is) range) has

each_seen : (seen : List Seen) → All (λ s. HasItsClass s → IsSeen s) seen → AllByRecursion HasItsClass seen
    → AllByRecursion IsSeen seen
each_seen [] all have = tt
each_seen (s ∷ seen) all have = (
  All-head (λ s. HasItsClass s → IsSeen s) s seen all have.0,
  each_seen seen (All-tail (λ s. HasItsClass s → IsSeen s) s seen all) have.1,
)

pub one_more_seen : (seen : List Seen) (i : ℕ) (value : Seen) → value ≡ get_or seen i value → i < length seen
    → All (λ s. HasItsClass s → IsSeen s) (take i seen) → (HasItsClass value → IsSeen value)
    → All (λ s. HasItsClass s → IsSeen s) (take (i + 1) seen)
one_more_seen seen i value item below all is =
    let P : Seen → Type 0 = λ s. HasItsClass s → IsSeen s in
    All-more P seen i value below all (subst (λ s. P s) item is)

pub are_seen : (seen : List Seen) → length seen < 2 ^ 64 → All (λ s. HasItsClass s → IsSeen s) seen
    → AllByRecursion HasItsClass seen → AreSeen seen
are_seen seen few all have = (few, each_seen seen all have)

-- ---- facts in a row

-- a fact, and others
both_can : {Is Are : Type 0} (some others : List Seen) → (AllByRecursion HasItsClass some → Is)
    → (AllByRecursion HasItsClass others → Are) → AllByRecursion HasItsClass (some ++ others)
    → Is × Are
both_can some others is are have =
    (is (all_front HasItsClass some others have), are (all_rest HasItsClass some others have))

pub both_on_ok : {T E Is : Type 0} (Are : Type 0) (r : Result T E) (some others : List Seen)
    → (AllByRecursion HasItsClass some → Is) → OnOk r (AllByRecursion HasItsClass others → Are)
    → OnOk r (AllByRecursion HasItsClass (some ++ others) → Is × Are)
both_on_ok Are (Ok x) some others is are = both_can some others is are
both_on_ok Are (Err e) some others is are = tt

-- ---- operations

-- an operation that is known
pub can_be_stored : {op known : Op} → op ≡ known → CanBeStored known → CanBeStored op
can_be_stored is can = subst (λ o. CanBeStored o) (sym is) can
