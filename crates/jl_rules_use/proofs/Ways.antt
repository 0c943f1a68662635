-- What mixed-new remembers tells in which ways a function was called.
use Rattle.std.proofs.Common.{◌≡◌, ◌⊎◌, inl, inr, ℕ, Bool, true, false, not, ◌||◌, ◌&&◌, nat_eq, List, [], ◌∷◌}
use Rattle.std.proofs.Common.{◌++◌, refl, sym, ap, subst, ◌∙◌, if◌then◌else◌}
use Rattle.std.proofs.Math.Bool.{or_assoc, or-false}
use Rattle.std.proofs.lemmas.Bool.{eqb-true, eqb-false, ne_eqb}
use Rattle.std.proofs.lemmas.List.Sums.{fold-append}
use Rattle.std.specs.Prelude.{Option, None, Some, fold, ◌==◌, option_map}
use Rattle.std.specs.Option.{option_map_or}
use Rattle.std.specs.Map.{lookup}
use Rattle.std.specs.List.{list_any}
use Rattle.indexmap.specs.IndexMap.{insert_entry}
use Rattle.jl_op.specs.declared.op.Op.{Op}
use Rattle.jl_op.specs.declared.op.Op.TheVariants as ops
use Rattle.jl_op.specs.declared.callee.Callee.TheVariants as callees
use Rattle.jl_analysis.specs.Memories.{Memory, way, both_ways, noted_way, ways_called}
use Rattle.jl_analysis.specs.Rules.{rules, hit, memory_of}
use Rattle.jl_analysis.specs.UseRules.{calls, same_way}
use Rattle.jl_rules_use.specs.declared.mixed_new.Ways.{Ways}
use Rattle.jl_rules_use.specs.inner.Remembered.{ways_of, tells_way, mixes}
use Rattle.jl_rules_use.specs.Ways.{number_of, memory_of_ways}

looked_up : (found : Bool) (ways : Ways) (rest : Option Ways) (remembered : Option ℕ)
    → option_map number_of rest ≡ remembered
    → option_map number_of (if found then Some ways else rest) ≡ (if found then Some (number_of ways) else remembered)
looked_up true ways rest remembered is = refl
looked_up false ways rest remembered is = is

-- a look-up gives what is remembered
pub ways_of-memory_of_ways : (entries : List (ℕ × Ways)) (function : ℕ)
    → option_map number_of (lookup (nat_eq function) entries) ≡ ways_of (memory_of_ways entries) function
ways_of-memory_of_ways [] function = refl
ways_of-memory_of_ways (x ∷ entries) function =
    looked_up (function == x.0) x.1 (lookup (nat_eq function) entries) _ (ways_of-memory_of_ways entries function)

-- the number of the ways once there is one more
abbrev more_ways : Option ℕ → ℕ → ℕ
more_ways before now = option_map_or (λ ways. both_ways ways now) before now

inserted : (found : Bool) (x : ℕ × Ways) (entries put : List (ℕ × Ways)) (ways : Ways) (now : ℕ)
    (before : Option ℕ) (noted : Memory)
    → number_of ways ≡ more_ways (if found then Some (number_of x.1) else before) now
    → (number_of ways ≡ more_ways before now → memory_of_ways put ≡ noted)
    → memory_of_ways (if found then (x.0, ways) ∷ entries else x ∷ put)
    ≡ (if found then (x.0, both_ways (number_of x.1) now) ∷ memory_of_ways entries else (x.0, number_of x.1) ∷ noted)
inserted true x entries put ways now before noted is rest = ap (λ n. (x.0, n) ∷ memory_of_ways entries) is
inserted false x entries put ways now before noted is rest = ap (λ l. (x.0, number_of x.1) ∷ l) (rest is)

-- and an insertion notes one more way
pub memory_of_ways-insert_entry : (entries : List (ℕ × Ways)) (function : ℕ) (ways : Ways) (now : ℕ)
    → number_of ways ≡ more_ways (ways_of (memory_of_ways entries) function) now
    → memory_of_ways (insert_entry nat_eq entries function ways) ≡ noted_way (memory_of_ways entries) function now
memory_of_ways-insert_entry [] function ways now is = ap (λ n. (function, n) ∷ []) is
memory_of_ways-insert_entry (x ∷ entries) function ways now is =
    inserted (function == x.0) x entries (insert_entry nat_eq entries function ways) ways now
    (ways_of (memory_of_ways entries) function) (noted_way (memory_of_ways entries) function now) is
    (memory_of_ways-insert_entry entries function ways now)

pub ruleset as_numbers = (ways_of-memory_of_ways, memory_of_ways-insert_entry)

-- numbers that stand for ways
abbrev IsWay : ℕ → Type 0
IsWay n = (n ≡ 1) ⊎ ((n ≡ 2) ⊎ (n ≡ 3))

abbrev AreWays : Memory → Type 0
AreWays [] = Unit {0}
AreWays (x ∷ rest) = IsWay x.1 × AreWays rest

IsWay-way : (by_new : Bool) → IsWay (way by_new)
IsWay-way true = inr (inl refl)
IsWay-way false = inl refl

IsWay-both_ways : (ways now : ℕ) → IsWay ways → IsWay (both_ways ways now)
IsWay-both_ways ways now is = by (ways == now)
  where
    by : (same : Bool) → IsWay (if same then ways else 3)
    by true = is
    by false = inr (inr refl)

noted_ways : (found : Bool) (x : ℕ × ℕ) (rest noted : Memory) (now : ℕ) → AreWays (x ∷ rest) → AreWays noted
    → AreWays (if found then (x.0, both_ways x.1 now) ∷ rest else x ∷ noted)
noted_ways true x rest noted now are more = (IsWay-both_ways x.1 now are.0, are.1)
noted_ways false x rest noted now are more = (are.0, more)

AreWays-noted_way : (memory : Memory) (function : ℕ) (by_new : Bool) → AreWays memory
    → AreWays (noted_way memory function (way by_new))
AreWays-noted_way [] function by_new are = (IsWay-way by_new, tt)
AreWays-noted_way (x ∷ rest) function by_new are =
    noted_ways (function == x.0) x rest _ (way by_new) are (AreWays-noted_way rest function by_new are.1)

AreWays-ways_called : (memory : Memory) (op : Op) → AreWays memory → AreWays (ways_called memory op)
AreWays-ways_called memory (ops.InvokePre callee (callees.Script function params mentions) this args by_new) are =
    AreWays-noted_way memory function by_new are
AreWays-ways_called memory _ are = are

-- one more way is told of, and the earlier ones too
abbrev OneMore : (now asked : Bool) → ℕ → Type 0
OneMore now asked ways =
    tells_way (Some (both_ways ways (way now))) asked ≡ (tells_way (Some ways) asked || same_way asked now)

one_more-1 : (now asked : Bool) → OneMore now asked 1
one_more-1 true true = refl
one_more-1 true false = refl
one_more-1 false true = refl
one_more-1 false false = refl

one_more-2 : (now asked : Bool) → OneMore now asked 2
one_more-2 true true = refl
one_more-2 true false = refl
one_more-2 false true = refl
one_more-2 false false = refl

one_more-3 : (now asked : Bool) → OneMore now asked 3
one_more-3 true true = refl
one_more-3 true false = refl
one_more-3 false true = refl
one_more-3 false false = refl

one_more : (now asked : Bool) (ways : ℕ) → IsWay ways → OneMore now asked ways
one_more now asked ways (inl is) = subst (OneMore now asked) (sym is) (one_more-1 now asked)
one_more now asked ways (inr (inl is)) = subst (OneMore now asked) (sym is) (one_more-2 now asked)
one_more now asked ways (inr (inr is)) = subst (OneMore now asked) (sym is) (one_more-3 now asked)

-- one more call of a function tells of one more way of that function
abbrev Notes : (memory noted : Memory) (called : ℕ) (now : Bool) (function : ℕ) (asked : Bool) → Type 0
Notes memory noted called now function asked =
    tells_way (ways_of noted function) asked
    ≡ (tells_way (ways_of memory function) asked || (function == called && same_way asked now))

notes_first : (same now asked : Bool)
    → tells_way (if same then Some (way now) else None) asked ≡ (same && same_way asked now)
notes_first true true true = refl
notes_first true true false = refl
notes_first true false true = refl
notes_first true false false = refl
notes_first false now asked = refl

-- where the function is called that comes first in the memory
notes_here : (same : Bool) (now asked : Bool) (ways : ℕ) (others : Option ℕ) → IsWay ways
    → tells_way (if same then Some (both_ways ways (way now)) else others) asked
    ≡ (tells_way (if same then Some ways else others) asked || (same && same_way asked now))
notes_here true now asked ways others is = one_more now asked ways is
notes_here false now asked ways others is = sym (or-false (tells_way others asked))

-- where it comes later
notes_there : (x : ℕ × ℕ) (rest noted : Memory) (called : ℕ) (now : Bool) (function : ℕ) (asked same : Bool)
    → (called == x.0) ≡ false → (function == x.0) ≡ same → Notes rest noted called now function asked
    → tells_way (if same then Some x.1 else ways_of noted function) asked
    ≡ (tells_way (if same then Some x.1 else ways_of rest function) asked || (function == called && same_way asked now))
notes_there x rest noted called now function asked true other is more =
    let apart : (function == called) ≡ false =
    ne_eqb function called (λ p. eqb-false called x.0 other (sym p ∙ eqb-true function x.0 is)) in
    sym (or-false (tells_way (Some x.1) asked))
    ∙ ap (λ b. tells_way (Some x.1) asked || (b && same_way asked now)) (sym apart)
notes_there x rest noted called now function asked false other is more = more

notes_more : (x : ℕ × ℕ) (rest noted : Memory) (called : ℕ) (now : Bool) (function : ℕ) (asked found : Bool)
    → (called == x.0) ≡ found → IsWay x.1 → Notes rest noted called now function asked
    → Notes (x ∷ rest) (if found then (x.0, both_ways x.1 (way now)) ∷ rest else x ∷ noted) called now function asked
notes_more x rest noted called now function asked true is a_way more =
    subst (λ n. Notes (x ∷ rest) ((x.0, both_ways x.1 (way now)) ∷ rest) n now function asked)
    (sym (eqb-true called x.0 is))
    (notes_here (function == x.0) now asked x.1 (ways_of rest function) a_way)
notes_more x rest noted called now function asked false is a_way more =
    notes_there x rest noted called now function asked (function == x.0) is refl more

notes : (memory : Memory) (called : ℕ) (now : Bool) (function : ℕ) (asked : Bool) → AreWays memory
    → Notes memory (noted_way memory called (way now)) called now function asked
notes [] called now function asked are = notes_first (function == called) now asked
notes (x ∷ rest) called now function asked are =
    notes_more x rest (noted_way rest called (way now)) called now function asked (called == x.0) refl are.0
    (notes rest called now function asked are.1)

-- and so does one more operation
tells_way-ways_called : (memory : Memory) (function : ℕ) (asked : Bool) (op : Op) → AreWays memory
    → tells_way (ways_of (ways_called memory op) function) asked
    ≡ (tells_way (ways_of memory function) asked || calls function asked op)
tells_way-ways_called memory function asked
    (ops.InvokePre callee (callees.Script called params mentions) this args now) are =
    notes memory called now function asked are
tells_way-ways_called memory function asked _ are = sym (or-false (tells_way (ways_of memory function) asked))

-- from any memory on
ways_on : (told : List Op) (memory : Memory) (function : ℕ) (asked : Bool) → AreWays memory
    → tells_way (ways_of (fold ways_called memory told) function) asked
    ≡ (tells_way (ways_of memory function) asked || list_any (calls function asked) told)
ways_on [] memory function asked are = sym (or-false (tells_way (ways_of memory function) asked))
ways_on (op ∷ told) memory function asked are =
    ways_on told (ways_called memory op) function asked (AreWays-ways_called memory op are)
    ∙ ap (λ b. b || list_any (calls function asked) told) (tells_way-ways_called memory function asked op are)
    ∙ or_assoc (tells_way (ways_of memory function) asked) (calls function asked op)
    (list_any (calls function asked) told)

-- the rule remembers of a function that it was called in a way, or in both, exactly where it was called so
pub ways_all : (told : List Op) (function : ℕ) (by_new : Bool)
    → tells_way (ways_of (memory_of 12 told) function) by_new ≡ list_any (calls function by_new) told
unfolding rules memory_of
ways_all told function by_new = ways_on told [] function by_new tt

-- where the rule hits, by what it remembers
pub mixed_as_remembered : (told : List Op) (op : Op) (memory : Memory) → memory ≡ memory_of 12 told
    → mixes memory op ≡ hit 12 told op
unfolding rules hit
mixed_as_remembered told (ops.InvokePre callee (callees.Script function params mentions) this args by_new) memory is =
    ap (λ m. tells_way (ways_of m function) (not by_new)) is ∙ ways_all told function (not by_new)
mixed_as_remembered told _ memory is = refl

-- what it remembers after one more operation
pub ways_more : (told : List Op) (op : Op) (memory later : Memory) → memory ≡ memory_of 12 told
    → later ≡ ways_called memory op → later ≡ memory_of 12 (told ++ op ∷ [])
unfolding rules memory_of
ways_more told op memory later is later_is =
    later_is ∙ ap (λ m. ways_called m op) is ∙ sym (fold-append ways_called [] told (op ∷ []))

pub ruleset remembering = (mixed_as_remembered, ways_more)
