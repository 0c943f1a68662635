-- The functions that read numbers find what the definitions of numbers say.
use Rattle.std.proofs.Common.{◌≡◌, ℕ, zero, suc, ◌+◌, ◌-◌, ◌*◌, ◌/◌, ◌%◌, ◌<◌, ◌≤◌, ◌==◌, List, [], ◌∷◌, ◌++◌, Bool}
use Rattle.std.proofs.Common.{true}
use Rattle.std.proofs.Common.{false, nat_lt, length, Option, Some, None, option_map, option_and_then, ap, sym, subst}
use Rattle.std.proofs.Common.{refl}
use Rattle.std.proofs.Common.{◌∙◌, arith}
use Rattle.std.specs.Prelude.{if◌then◌else◌, nat_le}
use Rattle.std.proofs.lemmas.Bool.Decides.{nat_tests}
use Rattle.std.proofs.lemmas.Option.{cond_some, none-some, same_Some, some_pair_parts}
use Rattle.jl_srcmap.specs.Numbers.{AllMove, Digits, Moves, Quantities, below_limit, digit_value, last, more}
use Rattle.jl_srcmap.specs.Numbers.{most_digits}
use Rattle.jl_srcmap.specs.Numbers as numbers
use Rattle.jl_srcmap.specs.inner.Fields.{before, field, fields_in, grown, if_below, moved, quantity, with_digit}
use Rattle.jl_srcmap.proofs.Digits.{not_under, under}

-- a text begins with at most so many digits of a quantity, and the rest follows them
pub record Cut (most : ℕ) (cs : List ℕ) (n : ℕ) (rest : List ℕ) : Type 0 where
  pub digits : List ℕ
  pub is : cs ≡ digits ++ rest
  pub make : Digits digits n
  pub few : length digits ≤ most

pub quantity_found : (most : ℕ) (cs : List ℕ) (n : ℕ) (rest : List ℕ) → quantity most cs ≡ Some (n, rest)
    → Cut most cs n rest
unfolding quantity
quantity_found zero cs n rest e = absurd (none-some (n, rest) e)
quantity_found (suc most) [] n rest e = absurd (none-some (n, rest) e)
quantity_found (suc most) (c ∷ cs) n rest e =
    by_digit (digit_value c) refl (λ m r. quantity_found most cs m r) e
  where
    by_more : (v : ℕ) → digit_value c ≡ Some v → 32 ≤ v → (o : Option (ℕ × List ℕ)) → quantity most cs ≡ o
        → ((m : ℕ) (r : List ℕ) → quantity most cs ≡ Some (m, r) → Cut most cs m r)
        → option_map (grown v) o ≡ Some (n, rest) → Cut (suc most) (c ∷ cs) n rest
    by_more v d l None q found e = absurd (none-some (n, rest) e)
    by_more v d l (Some (m, r)) q found e =
        let parts = some_pair_parts (v - 32 + 32 * m) n r rest e in
        let cut = found m r q in
        let few = cut.few in
        record {
          digits = c ∷ cut.digits;
          is = ap (λ l. c ∷ l) cut.is ∙ ap (λ l. c ∷ (cut.digits ++ l)) parts.1;
          make = subst (λ k. Digits (c ∷ cut.digits) k) parts.0 (more d l cut.make);
          few = omega arith;
        }

    by_test : (v : ℕ) → digit_value c ≡ Some v → (b : Bool) → nat_lt v 32 ≡ b
        → ((m : ℕ) (r : List ℕ) → quantity most cs ≡ Some (m, r) → Cut most cs m r)
        → (if b then Some (v, cs) else option_map (grown v) (quantity most cs)) ≡ Some (n, rest)
        → Cut (suc most) (c ∷ cs) n rest
    by_test v d true t found e =
        let parts = some_pair_parts v n cs rest e in
        let small : v < 32 = grind (arith, nat_tests) in
        record {
          digits = c ∷ [];
          is = ap (λ l. c ∷ l) parts.1;
          make = subst (λ k. Digits (c ∷ []) k) parts.0 (last d small);
          few = omega arith;
        }
    by_test v d false t found e = by_more v d (grind (arith, nat_tests)) (quantity most cs) refl found e

    by_digit : (o : Option ℕ) → digit_value c ≡ o
        → ((m : ℕ) (r : List ℕ) → quantity most cs ≡ Some (m, r) → Cut most cs m r)
        → option_and_then (λ v. with_digit v cs (quantity most cs)) o ≡ Some (n, rest) → Cut (suc most) (c ∷ cs) n rest
    by_digit None d found e = absurd (none-some (n, rest) e)
    by_digit (Some v) d found e = by_test v d (nat_lt v 32) refl found e

pub quantity_there : (most : ℕ) {digits : List ℕ} {n : ℕ} (rest : List ℕ) → Digits digits n → length digits ≤ most
    → quantity most (digits ++ rest) ≡ Some (n, rest)
unfolding quantity
quantity_there zero rest (last d l) few = absurd (omega arith)
quantity_there zero rest (more d l ds) few = absurd (omega arith)
quantity_there (suc most) rest (last {c = c} {v = v} d l) few =
    ap (option_and_then (λ v. with_digit v rest (quantity most rest))) d
    ∙ ap (λ b. if b then Some (v, rest) else option_map (grown v) (quantity most rest)) (under v 32 l)
quantity_there (suc most) rest (more {c = c} {v = v} {n = m} {cs = cs} d l ds) few =
    ap (option_and_then (λ v. with_digit v (cs ++ rest) (quantity most (cs ++ rest)))) d
    ∙ ap (λ b. if b then Some (v, cs ++ rest) else option_map (grown v) (quantity most (cs ++ rest)))
    (not_under v 32 l)
    ∙ ap (option_map (grown v)) (quantity_there most rest ds (omega arith))

-- ---- where a quantity leads

pub moved_so : (n a b : ℕ) → moved n a ≡ Some b → Moves n a b
unfolding moved
moved_so n a b e = by_sign (n % 2 == 0) refl e where
  by_order : (t : Bool) → nat_le (n / 2) a ≡ t → (n % 2 ≡ 1) → (if t then if_below (a - n / 2) else None) ≡ Some b
      → Moves n a b
  by_order true t odd e =
      let fits = cond_some (nat_lt (a - n / 2) 4294967296) (a - n / 2) b e in
      let same = fits.1 in
      let test = fits.0 in
      let order : n / 2 ≤ a = grind (arith, nat_tests) in
      let small : a - n / 2 < 4294967296 = grind (arith, nat_tests) in
      numbers.down odd (omega arith) (omega arith)
  by_order false t odd e = absurd (none-some b e)

  by_sign : (t : Bool) → (n % 2 == 0) ≡ t
      → (if t then if_below (a + n / 2) else (if nat_le (n / 2) a then if_below (a - n / 2) else None)) ≡ Some b
      → Moves n a b
  by_sign true t e =
      let fits = cond_some (nat_lt (a + n / 2) 4294967296) (a + n / 2) b e in
      let same = fits.1 in
      let test = fits.0 in
      let even : n % 2 ≡ 0 = grind (arith, nat_tests) in
      let small : a + n / 2 < 4294967296 = grind (arith, nat_tests) in
      numbers.up even (omega arith) (omega arith)
  by_sign false t e =
      let not_even : ¬ (n % 2 ≡ 0) = (λ h. grind (arith, nat_tests)) in
      let odd : n % 2 ≡ 1 = omega arith in
      by_order (nat_le (n / 2) a) refl odd e

pub moved_there : (n a b : ℕ) → Moves n a b → moved n a ≡ Some b
unfolding moved
moved_there n a b (numbers.up even same small) =
    let sign : (n % 2 == 0) ≡ true = grind (arith, nat_tests) in
    let fits : nat_lt (a + n / 2) 4294967296 ≡ true = grind (arith, nat_tests) in
    rw (sign, fits) (ap Some (sym same))
moved_there n a b (numbers.down odd same small) =
    let sign : (n % 2 == 0) ≡ false = grind (arith, nat_tests) in
    let order : nat_le (n / 2) a ≡ true = grind (arith, nat_tests) in
    let is : a - n / 2 ≡ b = omega arith in
    let fits : nat_lt (a - n / 2) 4294967296 ≡ true = grind (arith, nat_tests) in
    rw (sign, order, fits) (ap Some is)

-- ---- a field

pub record FieldCut (a : ℕ) (text : List ℕ) (b : ℕ) (rest : List ℕ) : Type 0 where
  pub size : ℕ
  pub cut : Cut most_digits text size rest
  pub moves : Moves size a b

pub field_found : (a : ℕ) (text : List ℕ) (b : ℕ) (rest : List ℕ) → field a text ≡ Some (b, rest)
    → FieldCut a text b rest
unfolding field
field_found a text b rest e = by (quantity most_digits text) refl e where
  by_move : (n : ℕ) (r : List ℕ) → quantity most_digits text ≡ Some (n, r) → (o : Option ℕ) → moved n a ≡ o
      → option_map (before r) o ≡ Some (b, rest) → FieldCut a text b rest
  by_move n r q None m e = absurd (none-some (b, rest) e)
  by_move n r q (Some x) m e =
      let parts = some_pair_parts x b r rest e in
      record {
        size = n;
        cut = quantity_found most_digits text n rest (q ∙ ap (λ l. Some (n, l)) parts.1);
        moves = moved_so n a b (m ∙ ap Some parts.0);
      }

  by : (o : Option (ℕ × List ℕ)) → quantity most_digits text ≡ o
      → option_and_then (λ q. option_map (before q.1) (moved q.0 a)) o ≡ Some (b, rest) → FieldCut a text b rest
  by None q e = absurd (none-some (b, rest) e)
  by (Some (n, r)) q e = by_move n r q (moved n a) refl e

pub field_there : (a b : ℕ) {digits : List ℕ} {n : ℕ} (rest : List ℕ) → Digits digits n → length digits ≤ most_digits
    → Moves n a b → field a (digits ++ rest) ≡ Some (b, rest)
unfolding field
field_there a b {n = n} rest ds few moves =
    ap (option_and_then (λ q. option_map (before q.1) (moved q.0 a))) (quantity_there most_digits rest ds few)
    ∙ ap (option_map (before rest)) (moved_there n a b moves)

-- ---- all fields

pub record FieldsCut (sums text fields : List ℕ) : Type 0 where
  pub quantities : List ℕ
  pub digits : Quantities text quantities
  pub moves : AllMove quantities sums fields

pub fields_found : (sums text fields : List ℕ) → fields_in sums text ≡ Some fields → FieldsCut sums text fields
unfolding fields_in
fields_found sums [] fields e =
    subst (λ l. FieldsCut sums [] l) (same_Some [] fields e)
    (record { quantities = []; digits = numbers.none; moves = numbers.none })
fields_found [] (c ∷ cs) fields e = absurd (none-some fields e)
fields_found (a ∷ sums) (c ∷ cs) fields e =
    by (field a (c ∷ cs)) refl (λ r fs. fields_found sums r fs) e
  where
    by_rest : (b : ℕ) (r : List ℕ) → field a (c ∷ cs) ≡ Some (b, r) → (o : Option (List ℕ)) → fields_in sums r ≡ o
        → ((r fs : List ℕ) → fields_in sums r ≡ Some fs → FieldsCut sums r fs)
        → option_map (λ fs. b ∷ fs) o ≡ Some fields → FieldsCut (a ∷ sums) (c ∷ cs) fields
    by_rest b r f None q found e = absurd (none-some fields e)
    by_rest b r f (Some fs) q found e =
        let one = field_found a (c ∷ cs) b r f in
        let others = found r fs q in
        subst (λ l. FieldsCut (a ∷ sums) (c ∷ cs) l) (same_Some (b ∷ fs) fields e) (record {
          quantities = one.size ∷ others.quantities;
          digits = subst (λ l. Quantities l (one.size ∷ others.quantities)) (sym one.cut.is)
              (numbers.one one.cut.make one.cut.few others.digits);
          moves = numbers.one one.moves others.moves;
        })

    by : (o : Option (ℕ × List ℕ)) → field a (c ∷ cs) ≡ o
        → ((r fs : List ℕ) → fields_in sums r ≡ Some fs → FieldsCut sums r fs)
        → option_and_then (λ f. option_map (λ fs. f.0 ∷ fs) (fields_in sums f.1)) o ≡ Some fields
        → FieldsCut (a ∷ sums) (c ∷ cs) fields
    by None f found e = absurd (none-some fields e)
    by (Some (b, r)) f found e = by_rest b r f (fields_in sums r) refl found e

next_field : (a b : ℕ) (sums fields : List ℕ) {digits : List ℕ} {n : ℕ} (rest : List ℕ) → Digits digits n
    → field a (digits ++ rest) ≡ Some (b, rest) → fields_in sums rest ≡ Some fields
    → fields_in (a ∷ sums) (digits ++ rest) ≡ Some (b ∷ fields)
unfolding fields_in
next_field a b sums fields rest (last d l) e f =
    ap (option_and_then (λ f. option_map (λ fs. f.0 ∷ fs) (fields_in sums f.1))) e ∙ ap (option_map (λ fs. b ∷ fs)) f
next_field a b sums fields rest (more d l ds) e f =
    ap (option_and_then (λ f. option_map (λ fs. f.0 ∷ fs) (fields_in sums f.1))) e ∙ ap (option_map (λ fs. b ∷ fs)) f

pub fields_there : {sums text fields ns : List ℕ} → Quantities text ns → AllMove ns sums fields
    → fields_in sums text ≡ Some fields
unfolding fields_in
fields_there numbers.none numbers.none = refl
fields_there (numbers.one {text = text} ds few qs) (numbers.one {a = a} {b = b} {sums = sums} {fields = fields} m ms) =
    next_field a b sums fields text ds (field_there a b text ds few m) (fields_there qs ms)
