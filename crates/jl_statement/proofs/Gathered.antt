-- What a `for-in` may visit, gathered (12.6.4).
use Rattle.std.proofs.Common.{◌≡◌, ◌+◌, ◌++◌, ◌∷◌, ◌<◌, ◌≤◌, ◌∙◌, ◌||◌, [], append_assoc, ap, arith, drop, false}
use Rattle.std.proofs.Common.{get_or, length, map, not, refl, subst, suc, sym, true, zero, Bool, List, None, Option}
use Rattle.std.proofs.Common.{append-nil, Some, ℕ}
use Rattle.std.proofs.lemmas.List.FromFn.{map-range_with_len_more}
use Rattle.std.specs.List.{range_with_len, slice_get}
use Rattle.std.specs.Option.{option_map_or}
use Rattle.std.specs.Prelude.{if◌then◌else◌, IfSome}
use Rattle.std.specs.Str.{bytes_eq}
use Rattle.std.proofs.lemmas.List.Folds.{list_any-append}
use Rattle.std.proofs.lemmas.Slice.Eq.{bytes_eq-Decides}
use Rattle.jl_value.specs.declared.object.ObjId.{ObjId}
use Rattle.jl_props.specs.declared.entries.Entry.{Entry}
use Rattle.jl_heap.specs.Chain.{ProtosAreOlder}
use Rattle.jl_heap.specs.Objects.{names_of, object_at, units_of, Name, Objects}
use Rattle.jl_heap.specs.declared.property.Prop.{Prop}
use Rattle.jl_scope.specs.Names.{among, with_name}
use Rattle.jl_scope.specs.NameSets.{SameNames}
use Rattle.jl_scope.proofs.NameLists.{or_comm}
use Rattle.jl_meaning.specs.Parts.{Visit}
use Rattle.jl_meaning.specs.forms.Loops.{first_of_each_name, is_named_among, is_still_there, own_visits, visits_left}
use Rattle.jl_meaning.specs.forms.Literals.{index_name}
use Rattle.jl_meaning.specs.forms.Loops.{visits_within}
use Rattle.jl_state.specs.Turns.{visits_seen}
use Rattle.jl_state.specs.Words.{visit_of}
use Rattle.jl_state.specs.declared.statement_frame.Visit.{Visit as Gathered}
use Rattle.jl_state.specs.declared.statement_frame.Visits.{Visits}
use Rattle.jl_statement.specs.inner.Visited.{all_seen, property_visit, unit_visit, IsNext}
use Rattle.jl_statement.proofs.Dropped.{dropped_here, dropped_next, dropped_none, found_at}

-- lists that are added to

pub all_seen_after : (l : List Gathered) (v : Gathered) → all_seen (l ++ v ∷ []) ≡ all_seen l ++ visit_of v ∷ []
all_seen_after [] v = refl
all_seen_after (w ∷ l) v = ap (λ m. visit_of w ∷ m) (all_seen_after l v)

abbrev pub gathered : ℕ → Name → Option ℕ → Gathered
gathered holder name serial = record { holder = holder; name = name; serial = serial }

abbrev pub visited : ℕ → Name → Option ℕ → Visit
visited holder name serial = record { holder = holder; name = name; serial = serial }

-- one unit more
pub units_more : (holder i : ℕ) (before : List Visit) (l more : List Gathered) (name : Name)
    → all_seen l ≡ before ++ map (unit_visit holder) (range_with_len 0 i) → name ≡ index_name i
    → more ≡ l ++ gathered holder name None ∷ []
    → all_seen more ≡ before ++ map (unit_visit holder) (range_with_len 0 (i + 1))
units_more holder i before l more name is same grown =
    ap all_seen grown
    ∙ all_seen_after l (gathered holder name None)
    ∙ ap (λ m. m ++ visited holder name None ∷ []) is
    ∙ append_assoc before (map (unit_visit holder) (range_with_len 0 i)) (visited holder name None ∷ [])
    ∙ ap (λ n. before ++ (map (unit_visit holder) (range_with_len 0 i) ++ visited holder n None ∷ [])) same
    ∙ ap (λ m. before ++ m) (sym (map-range_with_len_more (unit_visit holder) 0 i i (omega arith)))

-- one property more
pub properties_more : (holder i : ℕ) (all : List Visit) (l more : List Gathered) (names : List (Name × ℕ))
    (n : Name × ℕ) (name : Name) → all_seen l ++ map (property_visit holder) (drop i names) ≡ all → i < length names
    → n ≡ get_or names i n → name ≡ n.0 → more ≡ l ++ gathered holder name (Some n.1) ∷ []
    → all_seen more ++ map (property_visit holder) (drop (i + 1) names) ≡ all
properties_more holder i all l more names n name before within is same grown =
    ap (λ m. all_seen m ++ map (property_visit holder) (drop (i + 1) names)) grown
    ∙ ap (λ m. m ++ map (property_visit holder) (drop (i + 1) names))
    (all_seen_after l (gathered holder name (Some n.1)))
    ∙ append_assoc (all_seen l) (visited holder name (Some n.1) ∷ []) (map (property_visit holder) (drop (i + 1) names))
    ∙ ap (λ w. all_seen l ++ visited holder w (Some n.1) ∷ map (property_visit holder) (drop (i + 1) names)) same
    ∙ ap (λ m. all_seen l ++ map (property_visit holder) m) (sym (dropped_here names i n within is))
    ∙ before

-- the properties of an object, by their names and serials
pub properties_named : (holder : ℕ) (l : List (Entry Prop))
    → map (property_visit holder) (map (λ e. (e.name, e.serial)) l)
    ≡ map (λ (e : Entry Prop). record { holder = holder; name = e.name; serial = Some e.serial }) l
properties_named holder [] = refl
properties_named holder (e ∷ l) =
    ap (λ m. record { holder = holder; name = e.name; serial = Some e.serial } ∷ m) (properties_named holder l)

-- the own properties of an object
pub own_added : (heap : Objects) (place count : ℕ) (l m more : List Gathered) (names : List (Name × ℕ))
    → all_seen m ≡ all_seen l ++ map (unit_visit place) (range_with_len 0 count)
    → all_seen more ≡ all_seen m ++ map (property_visit place) names
    → count ≡ length (units_of (object_at heap place).class (object_at heap place).inner) → names ≡ names_of heap place
    → all_seen more ≡ all_seen l ++ own_visits heap place
own_added heap place count l m more names units properties counted found =
    let units_to = λ (n : ℕ). map (unit_visit place) (range_with_len 0 n) in
    let object_units = units_to (length (units_of (object_at heap place).class (object_at heap place).inner)) in
    properties
    ∙ ap (λ o. o ++ map (property_visit place) names) units
    ∙ append_assoc (all_seen l) (units_to count) (map (property_visit place) names)
    ∙ ap (λ n. all_seen l ++ (units_to n ++ map (property_visit place) names)) counted
    ∙ ap (λ ns. all_seen l ++ (object_units ++ map (property_visit place) ns)) found
    ∙ ap (λ o. all_seen l ++ (object_units ++ o)) (properties_named place (object_at heap place).properties)

-- Along prototypes: greater bounds than there are objects make no difference.

abbrev Before : ℕ → Option ObjId → Type 0
Before place proto = IfSome proto (λ p. p.0 < place)

abbrev onward : (ObjId → List Visit) → Option ObjId → List Visit
onward f proto = option_map_or f proto []

alone : (o : List Visit) (f : ObjId → List Visit) (place : ℕ) (proto : Option ObjId) → place ≤ 0 → Before place proto
    → o ++ onward f proto ≡ o
alone o f place None bottom none = append-nil o
alone o f place (Some p) bottom below = absurd (omega (arith, below, bottom))

along : (o : List Visit) (f g : ObjId → List Visit) (place : ℕ) (proto : Option ObjId) → Before place proto
    → ((p : ObjId) → p.0 < place → f p ≡ g p) → o ++ onward f proto ≡ o ++ onward g proto
along o f g place None below same = refl
along o f g place (Some p) below same = ap (λ l. o ++ l) (same p below)

within_agree : (heap : Objects) → ProtosAreOlder heap → (m n place : ℕ) → place ≤ m → place ≤ n
    → visits_within m heap place ≡ visits_within n heap place
within_agree heap older zero zero place low high = refl
within_agree heap older zero (suc n) place low high = sym (alone _ _ place _ low (older place))
within_agree heap older (suc m) zero place low high = alone _ _ place _ high (older place)
within_agree heap older (suc m) (suc n) place low high =
    along _ _ _ place _ (older place) (λ p below. within_agree heap older m n p.0 (omega arith) (omega arith))

pub within_by : (heap : Objects) → ProtosAreOlder heap → (place : ℕ)
    → visits_within place heap place
    ≡ own_visits heap place ++ onward (λ proto. visits_within proto.0 heap proto.0) (object_at heap place).proto
within_by heap older zero = sym (alone _ _ 0 _ (omega arith) (older 0))
within_by heap older (suc q) =
    along _ _ _ (suc q) _ (older (suc q)) (λ p below. within_agree heap older q p.0 p.0 (omega arith) (omega arith))

-- one object more, or the last
pub gathered_next : (heap : Objects) → ProtosAreOlder heap → (l m : List Gathered) (place : ℕ) (p : ObjId)
    (all : List Visit) → all_seen l ++ visits_within place heap place ≡ all
    → all_seen m ≡ all_seen l ++ own_visits heap place → (object_at heap place).proto ≡ Some p
    → all_seen m ++ visits_within p.0 heap p.0 ≡ all
gathered_next heap older l m place p all before added proto =
    ap (λ o. o ++ visits_within p.0 heap p.0) added
    ∙ append_assoc (all_seen l) (own_visits heap place) (visits_within p.0 heap p.0)
    ∙ ap (λ o. all_seen l ++ (own_visits heap place ++ onward (λ q. visits_within q.0 heap q.0) o)) (sym proto)
    ∙ ap (λ o. all_seen l ++ o) (sym (within_by heap older place))
    ∙ before

pub gathered_last : (heap : Objects) → ProtosAreOlder heap → (l m : List Gathered) (place : ℕ) (all : List Visit)
    → all_seen l ++ visits_within place heap place ≡ all → all_seen m ≡ all_seen l ++ own_visits heap place
    → (object_at heap place).proto ≡ None → all_seen m ≡ all
gathered_last heap older l m place all before added proto =
    added
    ∙ ap (λ o. all_seen l ++ o) (sym (append-nil (own_visits heap place)))
    ∙ ap (λ o. all_seen l ++ (own_visits heap place ++ onward (λ q. visits_within q.0 heap q.0) o)) (sym proto)
    ∙ ap (λ o. all_seen l ++ o) (sym (within_by heap older place))
    ∙ before

-- of each name the first

bool_same : (a b : Bool) → (a ≡ true → b ≡ true) → (b ≡ true → a ≡ true) → a ≡ b
bool_same true b f g = sym (f refl)
bool_same false true f g = g refl
bool_same false false f g = refl

bytes_turned : (x y : Name) → bytes_eq x y ≡ bytes_eq y x
bytes_turned x y =
    bool_same (bytes_eq x y) (bytes_eq y x)
    (λ same. (bytes_eq-Decides y x).1 (sym ((bytes_eq-Decides x y).0 same)))
    (λ same. (bytes_eq-Decides x y).1 (sym ((bytes_eq-Decides y x).0 same)))

-- visits of these names
abbrev pub named : List Name → List Visit
named names = map (λ (x : Name). record { holder = 0; name = x; serial = None }) names

among_named : (x : Name) (names : List Name) → is_named_among x (named names) ≡ among x names
among_named x [] = refl
among_named x (y ∷ names) = ap (λ b. b || is_named_among x (named names)) (bytes_turned y x)
    ∙ ap (λ b. bytes_eq x y || b) (among_named x names)

chosen : (a b : Bool) (p q r s : List Visit) → a ≡ b → p ≡ r → q ≡ s
    → elim a as (λ _. List Visit) [
      | true ↦ p
      | false ↦ q
    ] ≡ elim b as (λ _. List Visit) [
      | true ↦ r
      | false ↦ s
    ]
chosen true true p q r s same first second = first
chosen true false p q r s same first second = absurd (let differ = same in cc)
chosen false true p q r s same first second = absurd (let differ = same in cc)
chosen false false p q r s same first second = second

same_firsts : (a b l : List Visit) → ((x : Name) → is_named_among x a ≡ is_named_among x b)
    → first_of_each_name a l ≡ first_of_each_name b l
same_firsts a b [] same = refl
same_firsts a b (v ∷ l) same =
    chosen _ _ _ _ _ _ (same v.name) (same_firsts a b l same)
    (ap (λ m. v ∷ m) (same_firsts (v ∷ a) (v ∷ b) l (λ x. ap (λ c. bytes_eq v.name x || c) (same x))))

first_kept : (a : List Visit) (v : Visit) (l : List Visit) → is_named_among v.name a ≡ false
    → first_of_each_name a (v ∷ l) ≡ v ∷ first_of_each_name (v ∷ a) l
first_kept a v l is = chosen _ false _ _ (first_of_each_name a l) _ is refl refl

first_left_out : (a : List Visit) (v : Visit) (l : List Visit) → is_named_among v.name a ≡ true
    → first_of_each_name a (v ∷ l) ≡ first_of_each_name a l
first_left_out a v l is = chosen _ true _ _ _ (v ∷ first_of_each_name (v ∷ a) l) is refl refl

-- what the names before tell of the visits that are left
pub record FirstsLeft (all : List Visit) (first : List Gathered) (before : List Name) (rest : List Gathered)
    : Type 0 where
  pub is : first_of_each_name [] all ≡ all_seen first ++ first_of_each_name (named before) (all_seen rest)

is_false : (b : Bool) → true ≡ not b → b ≡ false
is_false true is = absurd (let differ = is in cc)
is_false false is = refl

is_true : (b : Bool) → false ≡ not b → b ≡ true
is_true true is = refl
is_true false is = absurd (let differ = is in cc)

pub firsts_begin : (l : List Gathered) → FirstsLeft (all_seen l) [] [] l
firsts_begin l = record { is = refl }

or_last : (a : Bool) → a ≡ (a || false)
or_last true = refl
or_last false = refl

-- a name that is new is one of those before, from now on
named_so : (v : Visit) (before after : List Name) → among v.name before ≡ false
    → SameNames after (with_name before v.name) → (x : Name)
    → is_named_among x (v ∷ named before) ≡ is_named_among x (named after)
named_so v before after fresh names x =
    ap (λ c. bytes_eq v.name x || c) (among_named x before)
    ∙ or_comm (bytes_eq v.name x) (among x before)
    ∙ ap (λ b. among x before || b) (bytes_turned v.name x ∙ or_last (bytes_eq x v.name))
    ∙ sym (list_any-append (λ y. bytes_eq x y) before (v.name ∷ []))
    ∙ ap (λ (b : Bool). among x (if b then before else before ++ v.name ∷ [])) (sym fresh)
    ∙ sym (names x)
    ∙ sym (among_named x after)

pub firsts_new : (all : List Visit) (first longer : List Gathered) (before after : List Name) (v : Gathered)
    (rest : List Gathered) → FirstsLeft all first before (v ∷ rest) → among v.name before ≡ false
    → SameNames after (with_name before v.name) → all_seen longer ≡ all_seen first ++ visit_of v ∷ []
    → FirstsLeft all longer after rest
firsts_new all first longer before after v rest left fresh names grown = record {
  is =
      left.is
      ∙ ap (λ m. all_seen first ++ m)
      (first_kept (named before) (visit_of v) (all_seen rest) (among_named v.name before ∙ fresh)
      ∙ ap (λ m. visit_of v ∷ m) (same_firsts (visit_of v ∷ named before) (named after) (all_seen rest)
      (named_so (visit_of v) before after fresh names)))
      ∙ sym (append_assoc (all_seen first) (visit_of v ∷ []) (first_of_each_name (named after) (all_seen rest)))
      ∙ ap (λ m. m ++ first_of_each_name (named after) (all_seen rest)) (sym grown);
}

pub firsts_old : (all : List Visit) (first : List Gathered) (before after : List Name) (v : Gathered)
    (rest : List Gathered) → FirstsLeft all first before (v ∷ rest) → among v.name before ≡ true
    → SameNames after (with_name before v.name) → FirstsLeft all first after rest
firsts_old all first before after v rest left known names = record {
  is =
      left.is
      ∙ ap (λ m. all_seen first ++ m)
      (first_left_out (named before) (visit_of v) (all_seen rest) (among_named v.name before ∙ known)
      ∙ same_firsts (named before) (named after) (all_seen rest) same);
}
  where
    same : (x : Name) → is_named_among x (named before) ≡ is_named_among x (named after)
    same x =
        among_named x before
        ∙ ap (λ (b : Bool). among x (if b then before else before ++ v.name ∷ [])) (sym known)
        ∙ sym (names x)
        ∙ sym (among_named x after)

-- the next one, and whether its name is new
pub firsts_added : (l first longer : List Gathered) (before after : List Name) (i : ℕ) (v copy : Gathered) (x : Name)
    (fresh : Bool) → FirstsLeft (all_seen l) first before (drop i l) → i < length l → v ≡ get_or l i v → x ≡ v.name
    → fresh ≡ not (among x before) → fresh ≡ true → SameNames after (with_name before x) → longer ≡ first ++ copy ∷ []
    → visit_of copy ≡ visit_of v → FirstsLeft (all_seen l) longer after (drop (i + 1) l)
firsts_added l first longer before after i v copy x fresh left within is name tells new names grown same =
    firsts_new (all_seen l) first longer before after v (drop (i + 1) l)
    (subst (λ m. FirstsLeft (all_seen l) first before m) (dropped_here l i v within is) left)
    (is_false (among v.name before) (sym new ∙ tells ∙ ap (λ y. not (among y before)) name))
    (subst (λ y. SameNames after (with_name before y)) name names)
    (ap all_seen grown ∙ all_seen_after first copy ∙ ap (λ w. all_seen first ++ w ∷ []) same)

pub firsts_passed : (l first : List Gathered) (before after : List Name) (i : ℕ) (v : Gathered) (x : Name)
    (fresh : Bool) → FirstsLeft (all_seen l) first before (drop i l) → i < length l → v ≡ get_or l i v → x ≡ v.name
    → fresh ≡ not (among x before) → fresh ≡ false → SameNames after (with_name before x)
    → FirstsLeft (all_seen l) first after (drop (i + 1) l)
firsts_passed l first before after i v x fresh left within is name tells old names =
    firsts_old (all_seen l) first before after v (drop (i + 1) l)
    (subst (λ m. FirstsLeft (all_seen l) first before m) (dropped_here l i v within is) left)
    (is_true (among v.name before) (sym old ∙ tells ∙ ap (λ y. not (among y before)) name))
    (subst (λ y. SameNames after (with_name before y)) name names)

pub firsts_end : (all : List Visit) (first : List Gathered) (before : List Name) → FirstsLeft all first before []
    → all_seen first ≡ first_of_each_name [] all
firsts_end all first before left = sym (append-nil (all_seen first)) ∙ sym left.is

-- what is still there

pub record LeavesSame (heap : Objects) (l : List Gathered) (from at : ℕ) : Type 0 where
  pub is : visits_left heap (all_seen (drop from l)) ≡ visits_left heap (all_seen (drop at l))

pub leaves_itself : (heap : Objects) (l : List Gathered) (from : ℕ) → LeavesSame heap l from from
leaves_itself heap l from = record { is = refl }

left_at : (heap : Objects) (l : List Gathered) (at : ℕ) (v : Gathered) (there : Bool) → slice_get l at ≡ Some v
    → is_still_there heap (visit_of v) v.serial ≡ there
    → visits_left heap (all_seen (drop at l))
    ≡ (if there then visit_of v ∷ all_seen (drop (at + 1) l) else visits_left heap (all_seen (drop (at + 1) l)))
left_at heap l at v there is same =
    ap (λ m. visits_left heap (all_seen m)) (dropped_next l at v is)
    ∙ ap (λ (b : Bool). if b then visit_of v ∷ all_seen (drop (at + 1) l)
    else visits_left heap (all_seen (drop (at + 1) l))) same

pub leaves_next : (heap : Objects) (l : List Gathered) (from at : ℕ) (v : Gathered) → LeavesSame heap l from at
    → slice_get l at ≡ Some v → is_still_there heap (visit_of v) v.serial ≡ false → LeavesSame heap l from (at + 1)
leaves_next heap l from at v before is gone = record { is = before.is ∙ left_at heap l at v false is gone }

pub leaves_here : (heap : Objects) (l : List Gathered) (from at : ℕ) (v : Gathered) → LeavesSame heap l from at
    → slice_get l at ≡ Some v → is_still_there heap (visit_of v) v.serial ≡ true
    → visits_left heap (all_seen (drop from l)) ≡ all_seen (drop at l)
leaves_here heap l from at v before is there =
    before.is ∙ left_at heap l at v true is there ∙ ap all_seen (sym (dropped_next l at v is))

pub leaves_none : (heap : Objects) (l : List Gathered) (from at : ℕ) → LeavesSame heap l from at
    → slice_get l at ≡ None → visits_left heap (all_seen (drop from l)) ≡ all_seen (drop at l)
leaves_none heap l from at before is =
    before.is
    ∙ ap (λ m. visits_left heap (all_seen m)) (dropped_none l at is)
    ∙ ap all_seen (sym (dropped_none l at is))

-- the next one, and what is left after it
pub next_none : (left : List Visit) (l : List Gathered) (at : ℕ) (rest : Visits) → left ≡ all_seen (drop at l)
    → slice_get l at ≡ None → IsNext left None rest
next_none left l at rest is none = is ∙ ap all_seen (dropped_none l at none)

pub next_some : (left : List Visit) (l : List Gathered) (at : ℕ) (v : Gathered) (name : Name)
    → left ≡ all_seen (drop at l) → slice_get l at ≡ Some v → name ≡ v.name
    → IsNext left (Some name) (record { visits = l; from = at + 1 })
next_some left l at v name is found same = (visit_of v, sym same, is ∙ ap all_seen (dropped_next l at v found))

-- the same, by what was asked of the heap and of the list
pub next_found : (heap asked : Objects) (visits : Visits) (items found : List Gathered) (at : ℕ) (v : Gathered)
    (name : Name) → asked ≡ heap → items ≡ visits.visits
    → visits_left asked (all_seen (drop visits.from items)) ≡ all_seen (drop at items) → found ≡ visits.visits
    → at < length found → v ≡ get_or found at v → name ≡ v.name
    → IsNext (visits_left heap (visits_seen visits)) (Some name) (record visits { from = at + 1 })
next_found heap asked visits items found at v name here first left second within is same =
    next_some (visits_left heap (visits_seen visits)) visits.visits at v name
    (subst (λ (l : List Gathered). visits_left heap (all_seen (drop visits.from l)) ≡ all_seen (drop at l)) first
    (subst (λ (h : Objects). visits_left h (all_seen (drop visits.from items)) ≡ all_seen (drop at items)) here left))
    (found_at visits.visits found at v second within is) same
