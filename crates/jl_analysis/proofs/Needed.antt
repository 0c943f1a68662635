-- A rule looks at operations of the kinds in its row alone, so others can be left out.
use Rattle.std.proofs.Common.{◌≡◌, ℕ, zero, suc, ◌+◌, ◌-◌, ◌≤◌, ◌<◌, Bool, true, false, List, [], ◌∷◌, ◌++◌, length}
use Rattle.std.proofs.Common.{Option, None, Some, slice_get, refl, sym, ap, ◌∙◌, subst, arith, append-nil}
use Rattle.std.proofs.Common.{if◌then◌else◌}
use Rattle.std.specs.Prelude.{filter, count_by, nat_lt, nat_eq, ◌||◌, ◌&&◌, not, min, ◌^◌}
use Rattle.std.specs.List.{list_any}
use Rattle.std.proofs.lemmas.List.Elements.{filter-append}
use Rattle.std.proofs.lemmas.List.Sums.{length-filter}
use Rattle.std.proofs.lemmas.Option.{slice_get_within}
use Rattle.jl_op.specs.declared.callee.Callee.TheVariants as callees
use Rattle.jl_op.specs.declared.kind.OpKind.{OpKind}
use Rattle.jl_op.specs.declared.kind.OpKind.TheVariants as kinds
use Rattle.jl_op.specs.declared.op.Op.{Op}
use Rattle.jl_op.specs.declared.op.Op.TheVariants as ops
use Rattle.jl_op.specs.KindSets.{of_kinds}
use Rattle.jl_op.specs.Kinds.{kind_of, all_kinds}
use Rattle.jl_op.specs.Operations.{Operation}
use Rattle.jl_value.specs.declared.value.Value.{Value}
use Rattle.jl_analysis.specs.Laws.{NeededIsEnough}
use Rattle.jl_analysis.specs.Rules.{RuleRow, rules, rule_count, numbers, rule_at, hit, hits_by, is_one_of}
use Rattle.jl_analysis.specs.Rules.{looks_at, needed_by, is_needed}
use Rattle.jl_analysis.specs.Summary.{hits, hits_after}
use Rattle.jl_analysis.specs.TypeRules as types
use Rattle.jl_analysis.specs.UseRules as uses
use Rattle.jl_analysis.specs.Values.{is_object_at, global_object}

-- the operations of kinds that pass the test
abbrev pub those : (OpKind → Bool) → List Op → List Op
those kept before = filter (λ op. kept (kind_of op)) before

-- the test passes the kinds that the row has
abbrev Holds : (OpKind → Bool) → List OpKind → Type 0
Holds kept needs = (kind : OpKind) → is_one_of needs kind ≡ true → kept kind ≡ true

-- the rule hits at operations of its kinds alone, and doesn't see whether others went before
record Enough (row : RuleRow) : Type 0 where
  pub at_needed : (before : List Op) (op : Op) → row.hits before op ≡ true → is_one_of row.needs (kind_of op) ≡ true
  pub after_needed : (kept : OpKind → Bool) → Holds kept row.needs → (before : List Op) (op : Op)
      → row.hits (those kept before) op ≡ row.hits before op

-- a row that looks at one operation alone
alone : (row : RuleRow) (hits : Op → Bool) → row.hits ≡ (λ before. hits)
    → ((op : Op) → hits op ≡ true → is_one_of row.needs (kind_of op) ≡ true) → Enough row
alone row hits is needs = record {
  at_needed = λ before op h. needs op (ap (λ f. f before op) (sym is) ∙ h);
  after_needed = λ kept holds before op. ap (λ f. f (those kept before) op) is ∙ ap (λ f. f before op) (sym is);
}

is_false : (b : Bool) → (b ≡ true → ⊥) → b ≡ false
is_false true never = absurd (never refl)
is_false false never = refl

no_true : {b : Bool} → b ≡ false → b ≡ true → ⊥
no_true e f = cc

-- what only elements that are kept pass, the others don't change
any_kept : {X : Type 0} (p q : X → Bool) (xs : List X) → ((x : X) → p x ≡ true → q x ≡ true)
    → list_any p (filter q xs) ≡ list_any p xs
any_kept p q [] h = refl
any_kept p q (x ∷ xs) h = by_test (q x) refl (any_kept p q xs h)
  where
    by_test : (b : Bool) → q x ≡ b → list_any p (filter q xs) ≡ list_any p xs
        → list_any p (if b then x ∷ filter q xs else filter q xs) ≡ (p x || list_any p xs)
    by_test true e rest = ap (λ c. p x || c) rest
    by_test false e rest = rest ∙ ap (λ c. c || list_any p xs) (sym (is_false (p x) (λ t. no_true e (h x t))))

filter_kept : {X : Type 0} (p q : X → Bool) (xs : List X) → ((x : X) → p x ≡ true → q x ≡ true)
    → filter p (filter q xs) ≡ filter p xs
filter_kept p q [] h = refl
filter_kept p q (x ∷ xs) h = by_test (q x) refl (filter_kept p q xs h)
  where
    by_test : (b : Bool) → q x ≡ b → filter p (filter q xs) ≡ filter p xs
        → filter p (if b then x ∷ filter q xs else filter q xs) ≡ (if p x then x ∷ filter p xs else filter p xs)
    by_test true e rest = ap (λ l. if p x then x ∷ l else l) rest
    by_test false e rest =
        rest ∙ ap (λ c. if c then x ∷ filter p xs else filter p xs)
        (sym (is_false (p x) (λ t. no_true e (h x t))))

count_kept : {X : Type 0} (p q : X → Bool) (xs : List X) → ((x : X) → p x ≡ true → q x ≡ true)
    → count_by p (filter q xs) ≡ count_by p xs
count_kept p q xs h = sym (length-filter p (filter q xs)) ∙ ap length (filter_kept p q xs h) ∙ length-filter p xs

all_pass : {X : Type 0} (q : X → Bool) (xs : List X) → ((x : X) → q x ≡ true) → filter q xs ≡ xs
all_pass q [] h = refl
all_pass q (x ∷ xs) h = ap (λ b. if b then x ∷ filter q xs else filter q xs) (h x) ∙ ap (λ l. x ∷ l) (all_pass q xs h)

every_kind : (kind : OpKind) → is_one_of all_kinds kind ≡ true
every_kind kinds.ScriptEnter = refl
every_kind _ = refl

-- The kinds at which each rule hits.

nan_made_at : (op : Op) → types.nan_made op ≡ true → is_one_of (kinds.Binary ∷ kinds.Unary ∷ []) (kind_of op) ≡ true
nan_made_at (ops.Binary op left right given) e = refl
nan_made_at (ops.Unary op operand given) e = refl
nan_made_at _ e = absurd (cc)

undefined_joined_at : (op : Op) → types.undefined_joined op ≡ true → is_one_of (kinds.Binary ∷ []) (kind_of op) ≡ true
undefined_joined_at (ops.Binary op left right given) e = refl
undefined_joined_at _ e = absurd (cc)

object_joined_at : (op : Op) → types.object_joined op ≡ true → is_one_of (kinds.Binary ∷ []) (kind_of op) ≡ true
object_joined_at (ops.Binary op left right given) e = refl
object_joined_at _ e = absurd (cc)

undefined_key_at : (op : Op) → types.undefined_key op ≡ true
    → is_one_of (kinds.GetField ∷ kinds.PutField ∷ kinds.DeleteField ∷ []) (kind_of op) ≡ true
undefined_key_at (ops.GetField base name value found) e = refl
undefined_key_at (ops.PutField base name value found) e = refl
undefined_key_at (ops.DeleteField base name deleted) e = refl
undefined_key_at _ e = absurd (cc)

put_on_primitive_at : (op : Op) → types.put_on_primitive op ≡ true → is_one_of (kinds.PutField ∷ []) (kind_of op) ≡ true
put_on_primitive_at (ops.PutField base name value found) e = refl
put_on_primitive_at _ e = absurd (cc)

wrapped_condition_at : (op : Op) → types.wrapped_condition op ≡ true → is_one_of (kinds.Conditional ∷ []) (kind_of op)
    ≡ true
wrapped_condition_at (ops.Conditional value) e = refl
wrapped_condition_at _ e = absurd (cc)

loose_equal_at : (op : Op) → types.loose_equal op ≡ true → is_one_of (kinds.Binary ∷ []) (kind_of op) ≡ true
loose_equal_at (ops.Binary op left right given) e = refl
loose_equal_at _ e = absurd (cc)

odd_compare_at : (op : Op) → types.odd_compare op ≡ true → is_one_of (kinds.Binary ∷ []) (kind_of op) ≡ true
odd_compare_at (ops.Binary op left right given) e = refl
odd_compare_at _ e = absurd (cc)

bits_of_nothing_at : (op : Op) → types.bits_of_nothing op ≡ true
    → is_one_of (kinds.Binary ∷ kinds.Unary ∷ []) (kind_of op) ≡ true
bits_of_nothing_at (ops.Binary op left right given) e = refl
bits_of_nothing_at (ops.Unary op operand given) e = refl
bits_of_nothing_at _ e = absurd (cc)

shadow_write_at : (op : Op) → uses.shadow_write op ≡ true → is_one_of (kinds.PutField ∷ []) (kind_of op) ≡ true
shadow_write_at (ops.PutField base name value found) e = refl
shadow_write_at _ e = absurd (cc)

object_prototype_write_at : (op : Op) → uses.object_prototype_write op ≡ true
    → is_one_of (kinds.PutField ∷ []) (kind_of op) ≡ true
object_prototype_write_at (ops.PutField base name value found) e = refl
object_prototype_write_at _ e = absurd (cc)

odd_prototype_at : (op : Op) → uses.odd_prototype op ≡ true → is_one_of (kinds.PutField ∷ []) (kind_of op) ≡ true
odd_prototype_at (ops.PutField base name value found) e = refl
odd_prototype_at _ e = absurd (cc)

for_in_array_at : (op : Op) → uses.for_in_array op ≡ true → is_one_of (kinds.ForIn ∷ []) (kind_of op) ≡ true
for_in_array_at (ops.ForIn object) e = refl
for_in_array_at _ e = absurd (cc)

extra_arguments_at : (op : Op) → uses.extra_arguments op ≡ true → is_one_of (kinds.InvokePre ∷ []) (kind_of op) ≡ true
extra_arguments_at (ops.InvokePre callee target this args by_new) e = refl
extra_arguments_at _ e = absurd (cc)

wrapper_made_at : (op : Op) → uses.wrapper_made op ≡ true → is_one_of (kinds.InvokePre ∷ []) (kind_of op) ≡ true
wrapper_made_at (ops.InvokePre callee target this args by_new) e = refl
wrapper_made_at _ e = absurd (cc)

no_radix_at : (op : Op) → uses.no_radix op ≡ true → is_one_of (kinds.InvokePre ∷ []) (kind_of op) ≡ true
no_radix_at (ops.InvokePre callee target this args by_new) e = refl
no_radix_at _ e = absurd (cc)

typeof_text_enough : (kept : OpKind → Bool) → Holds kept all_kinds → (before : List Op) (op : Op)
    → types.typeof_text (those kept before) op ≡ types.typeof_text before op
typeof_text_enough kept holds before op =
    ap (λ l. types.typeof_text l op) (all_pass _ before (λ o. holds (kind_of o) (every_kind (kind_of o))))

calls_at : (function : ℕ) (by_new : Bool) (op : Op) → uses.calls function by_new op ≡ true
    → is_one_of (kinds.InvokePre ∷ []) (kind_of op) ≡ true
calls_at function by_new (ops.InvokePre callee target this args other) e = refl
calls_at function by_new _ e = absurd (cc)

mixed_new_at : (before : List Op) (op : Op) → uses.mixed_new before op ≡ true
    → is_one_of (kinds.InvokePre ∷ []) (kind_of op) ≡ true
mixed_new_at before (ops.InvokePre callee target this args by_new) e = refl
mixed_new_at before _ e = absurd (cc)

mixed_new_enough : (kept : OpKind → Bool) → Holds kept (kinds.InvokePre ∷ []) → (before : List Op) (op : Op)
    → uses.mixed_new (those kept before) op ≡ uses.mixed_new before op
mixed_new_enough kept holds before (ops.InvokePre callee (callees.Script function params mentions) this args by_new) =
    any_kept _ _ before (λ o e. holds (kind_of o) (calls_at function (not by_new) o e))
mixed_new_enough kept holds before _ = refl

makes_by_at : (value : Value) (op : Op) → uses.makes_by value op ≡ true
    → is_one_of (kinds.PutField ∷ kinds.InvokePre ∷ []) (kind_of op) ≡ true
makes_by_at value (ops.InvokePre callee target this args by_new) e = refl
makes_by_at value _ e = absurd (cc)

late_prototype_at : (before : List Op) (op : Op) → uses.late_prototype before op ≡ true
    → is_one_of (kinds.PutField ∷ kinds.InvokePre ∷ []) (kind_of op) ≡ true
late_prototype_at before (ops.PutField base name value found) e = refl
late_prototype_at before _ e = absurd (cc)

late_prototype_enough : (kept : OpKind → Bool) → Holds kept (kinds.PutField ∷ kinds.InvokePre ∷ [])
    → (before : List Op) (op : Op)
    → uses.late_prototype (those kept before) op ≡ uses.late_prototype before op
late_prototype_enough kept holds before (ops.PutField base name value found) =
    ap (λ b. uses.is_prototype_of_function base name && b)
    (any_kept _ _ before (λ o e. holds (kind_of o) (makes_by_at base.value o e)))
late_prototype_enough kept holds before _ = refl

abbrev of_global_this : List OpKind
of_global_this = kinds.PutField ∷ kinds.FunctionEnter ∷ kinds.FunctionExit ∷ []

enters_at : (op : Op) → uses.enters op ≡ true → is_one_of of_global_this (kind_of op) ≡ true
enters_at (ops.FunctionEnter function this args by_new) e = refl
enters_at _ e = absurd (cc)

leaves_at : (op : Op) → uses.leaves op ≡ true → is_one_of of_global_this (kind_of op) ≡ true
leaves_at (ops.FunctionExit function) e = refl
leaves_at _ e = absurd (cc)

global_this_at : (before : List Op) (op : Op) → uses.global_this before op ≡ true
    → is_one_of of_global_this (kind_of op) ≡ true
global_this_at before (ops.PutField base name value found) e = refl
global_this_at before _ e = absurd (cc)

-- the object is the global one, where so many functions were left and so many entered
abbrev on_global : Value → (left entered : ℕ) → Bool
on_global value left entered =
    is_object_at value global_object && nat_lt (min left (2 ^ 64 - 1)) (min entered (2 ^ 64 - 1))

global_this_enough : (kept : OpKind → Bool) → Holds kept of_global_this → (before : List Op) (op : Op)
    → uses.global_this (those kept before) op ≡ uses.global_this before op
global_this_enough kept holds before (ops.PutField base name value found) =
    let entered = count_kept uses.enters (λ o. kept (kind_of o)) before
    (λ o e. holds (kind_of o) (enters_at o e)) in
    let left = count_kept uses.leaves (λ o. kept (kind_of o)) before
    (λ o e. holds (kind_of o) (leaves_at o e)) in
    ap (λ n. on_global base.value n (count_by uses.enters (those kept before))) left
    ∙ ap (λ n. on_global base.value (count_by uses.leaves before) n) entered
global_this_enough kept holds before _ = refl

-- Each row of the table.
data AllEnough : List RuleRow → Type 0 where
  none : AllEnough []
  more : {row : RuleRow} {rows : List RuleRow} → Enough row → AllEnough rows → AllEnough (row ∷ rows)

all_enough : AllEnough rules
unfolding rules
all_enough =
    more (alone _ types.nan_made refl nan_made_at) (
    more (alone _ types.undefined_joined refl undefined_joined_at) (
    more (alone _ types.object_joined refl object_joined_at) (
    more (alone _ types.undefined_key refl undefined_key_at) (
    more (alone _ types.put_on_primitive refl put_on_primitive_at) (
    more (alone _ types.wrapped_condition refl wrapped_condition_at) (
    more (alone _ types.loose_equal refl loose_equal_at) (
    more (alone _ types.odd_compare refl odd_compare_at) (
    more (record { at_needed = (λ before op e. every_kind (kind_of op)); after_needed = typeof_text_enough }) (
    more (alone _ types.bits_of_nothing refl bits_of_nothing_at) (
    more (alone _ uses.shadow_write refl shadow_write_at) (
    more (record { at_needed = mixed_new_at; after_needed = mixed_new_enough }) (
    more (alone _ uses.object_prototype_write refl object_prototype_write_at) (
    more (alone _ uses.odd_prototype refl odd_prototype_at) (
    more (record { at_needed = late_prototype_at; after_needed = late_prototype_enough }) (
    more (alone _ uses.for_in_array refl for_in_array_at) (
    more (alone _ uses.extra_arguments refl extra_arguments_at) (
    more (alone _ uses.wrapper_made refl wrapper_made_at) (
    more (alone _ uses.no_radix refl no_radix_at) (
    more (record { at_needed = global_this_at; after_needed = global_this_enough }) (
    none))))))))))))))))))))

enough_at : {rows : List RuleRow} → AllEnough rows → (index : ℕ) (row : RuleRow) → slice_get rows index ≡ Some row
    → Enough row
enough_at none index row e = absurd (cc)
enough_at (more {row = first} here rest) zero row e =
    let both : Some first ≡ Some row = e in
    let same : first ≡ row = cc in
    subst (λ r. Enough r) same here
enough_at (more here rest) (suc index) row e = enough_at rest index row e

-- One rule.
module _ (rule : ℕ) (row : RuleRow) (at : rule_at rule ≡ Some row) (enough : Enough row)
    (kept : OpKind → Bool) (holds : Holds kept row.needs) where
  hits_here : (before : List Op) (op : Op) → hit rule before op ≡ row.hits before op
  unfolding hit
  hits_here before op = ap (λ r. hits_by r before op) at

  same_hits : (before : List Op) (operations : List Operation)
      → hits_after rule (those kept before) (of_kinds kept operations) ≡ hits_after rule before operations
  same_hits before [] = refl
  same_hits before (x ∷ operations) = by_kind (kept (kind_of x.1)) refl (same_hits (before ++ x.1 ∷ []) operations)
    where
      next : (b : Bool) → kept (kind_of x.1) ≡ b
          → those kept (before ++ x.1 ∷ []) ≡ those kept before ++ (if b then x.1 ∷ [] else [])
      next b e =
          filter-append (λ op. kept (kind_of op)) before (x.1 ∷ [])
          ∙ ap (λ c. those kept before ++ (if c then x.1 ∷ [] else [])) e

      by_kind : (b : Bool) → kept (kind_of x.1) ≡ b
          → hits_after rule (those kept (before ++ x.1 ∷ [])) (of_kinds kept operations)
          ≡ hits_after rule (before ++ x.1 ∷ []) operations
          → hits_after rule (those kept before) (if b then x ∷ of_kinds kept operations else of_kinds kept operations)
          ≡ (if hit rule before x.1 then x.0 ∷ [] else []) ++ hits_after rule (before ++ x.1 ∷ []) operations
      by_kind true e rest =
          ap (λ h. (if h then x.0 ∷ [] else []) ++ hits_after rule (those kept before ++ x.1 ∷ [])
          (of_kinds kept operations))
          (hits_here (those kept before) x.1 ∙ enough.after_needed kept holds before x.1
          ∙ sym (hits_here before x.1))
          ∙ ap (λ l. (if hit rule before x.1 then x.0 ∷ [] else []) ++ hits_after rule l (of_kinds kept operations))
          (sym (next true e))
          ∙ ap (λ l. (if hit rule before x.1 then x.0 ∷ [] else []) ++ l) rest
      by_kind false e rest =
          let none : hit rule before x.1 ≡ false =
          is_false (hit rule before x.1)
          (λ h. no_true e (holds (kind_of x.1) (enough.at_needed before x.1 (sym (hits_here before x.1) ∙ h)))) in
          ap (λ l. hits_after rule l (of_kinds kept operations))
          (sym (append-nil (those kept before)) ∙ sym (next false e))
          ∙ rest
          ∙ ap (λ h. (if h then x.0 ∷ [] else []) ++ hits_after rule (before ++ x.1 ∷ []) operations) (sym none)

no_hits : (rule : ℕ) (before : List Op) (operations : List Operation) → rule_at rule ≡ None
    → hits_after rule before operations ≡ []
unfolding hit
no_hits rule before [] e = refl
no_hits rule before (x ∷ operations) e =
    ap (λ r. (if hits_by r before x.1 then x.0 ∷ [] else []) ++ hits_after rule (before ++ x.1 ∷ []) operations) e
    ∙ no_hits rule (before ++ x.1 ∷ []) operations e

-- Numbers in a row.
or_right : (a : Bool) {b : Bool} → b ≡ true → (a || b) ≡ true
or_right true e = refl
or_right false e = e

pub passes_at : (p : ℕ → Bool) (first count n : ℕ) → first ≤ n → n < first + count → p n ≡ true
    → list_any p (numbers first count) ≡ true
passes_at p first zero n l h e = absurd (omega arith)
passes_at p first (suc count) n l h e =
    by_first (nat_eq first n) refl (λ later. passes_at p (first + 1) count n later (omega arith) e)
  where
    by_first : (b : Bool) → nat_eq first n ≡ b
        → (first + 1 ≤ n → list_any p (numbers (first + 1) count) ≡ true)
        → (p first || list_any p (numbers (first + 1) count)) ≡ true
    by_first true s rest =
        let same : first ≡ n = grind arith in
        ap (λ m. p m || list_any p (numbers (first + 1) count)) same
        ∙ ap (λ b. b || list_any p (numbers (first + 1) count)) e
    by_first false s rest =
        let later : first + 1 ≤ n = grind arith in
        or_right (p first) (rest later)

and_both : {a b : Bool} → a ≡ true → b ≡ true → a && b ≡ true
and_both {a = true} e f = f
and_both {a = false} e f = e

all_counted : length rules ≡ rule_count
unfolding rules
all_counted = refl

listed_rule : (rule : ℕ) (row : RuleRow) → rule_at rule ≡ Some row → (1 ≤ rule) × (rule ≤ rule_count)
listed_rule zero row e = absurd (cc)
listed_rule (suc index) row e =
    let within = slice_get_within rules index row e in
    let counted = all_counted in
    (omega arith, omega arith)

-- what a chosen rule looks at is needed
needed : (chosen : ℕ → Bool) (rule : ℕ) (row : RuleRow) (kind : OpKind) → rule_at rule ≡ Some row → chosen rule ≡ true
    → is_one_of row.needs kind ≡ true → is_needed chosen kind ≡ true
unfolding looks_at
needed chosen rule row kind at is e =
    let within = listed_rule rule row at in
    passes_at (λ r. chosen r && looks_at r kind) 1 rule_count rule (within.0) (omega arith)
    (and_both is (ap (λ r. is_one_of (needed_by r) kind) at ∙ e))

pub needed_is_enough : NeededIsEnough
needed_is_enough chosen kept holds rule is operations = by_row (rule_at rule) refl
  where
    enough_row : (r : ℕ) (row : RuleRow) → rule_at r ≡ Some row → Enough row
    enough_row zero row e = absurd (cc)
    enough_row (suc index) row e = enough_at all_enough index row e

    by_row : (o : Option RuleRow) → rule_at rule ≡ o → hits rule (of_kinds kept operations) ≡ hits rule operations
    by_row None e = no_hits rule [] (of_kinds kept operations) e ∙ sym (no_hits rule [] operations e)
    by_row (Some row) e =
        same_hits rule row e (enough_row rule row e) kept
        (λ kind n. holds kind (needed chosen rule row kind e is n)) [] operations
