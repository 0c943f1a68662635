-- What a bounded text holds after more was appended.
use Rattle.std.proofs.Common.{◌≡◌, ℕ, ◌+◌, ◌<◌, ◌≤◌, ◌^◌, true, List, ◌++◌, length, sym, ap}
use Rattle.std.proofs.Common.{◌∙◌, arith, append_assoc, subst}
use Rattle.std.proofs.lemmas.List.{length-append}
use Rattle.std.specs.Fmt.{decimal}
use Rattle.jl_text.specs.Encoding.{bytes_of}
use Rattle.jl_text.specs.Quoted.{quote}
use Rattle.jl_record.specs.declared.bounded.Bounded.{Bounded}
use Rattle.jl_record.specs.Bounded.{Holds, Appends}
use Rattle.jl_record.specs.Plain.{is_plain}
use Rattle.jl_record.proofs.Bytes.{plain_more, quote_more, decimal_is_plain}

module _ (limit : ℕ) (kept units more bytes : List ℕ) (same : bytes_of (units ++ more) ≡ bytes_of units ++ bytes) where
  sizes : length (bytes_of (units ++ more)) ≡ length (bytes_of units) + length bytes
  sizes = ap length same ∙ length-append (bytes_of units) bytes

  pub still_passed : limit < length (bytes_of units) → limit < length (bytes_of (units ++ more))
  still_passed h = omega (arith, sizes)

  pub just_passed : (kept ≡ bytes_of units) × (length kept ≤ limit) → limit < length kept + length bytes
      → limit < length (bytes_of (units ++ more))
  just_passed h over = let e = ap length h.0 in omega (arith, sizes)

  pub fits : (new : List ℕ) → new ≡ kept ++ bytes → (kept ≡ bytes_of units) × (length kept ≤ limit)
      → length kept + length bytes ≤ limit → (new ≡ bytes_of (units ++ more)) × (length new ≤ limit)
  fits new e h room = (
    e ∙ ap (λ k. k ++ bytes) h.0 ∙ sym same,
    omega (arith, ap length e, length-append kept bytes),
  )

pub appends_plain : (old new : Bounded) (more : List ℕ) → is_plain more ≡ true
    → ((units more' : List ℕ) → bytes_of (units ++ more') ≡ bytes_of units ++ more → Holds old units
    → Holds new (units ++ more'))
    → Appends old new more
appends_plain old new more plain h = record { holds = λ units. h units more (plain_more units more plain) }

pub appends_number : (old new : Bounded) (n : ℕ) → n < 2 ^ 64
    → ((units more : List ℕ) → bytes_of (units ++ more) ≡ bytes_of units ++ decimal n → Holds old units
    → Holds new (units ++ more))
    → Appends old new (decimal n)
appends_number old new n small h = appends_plain old new (decimal n) (decimal_is_plain n small) h

pub appends_quote : (old new : Bounded) (us : List ℕ)
    → ((units more : List ℕ) → bytes_of (units ++ more) ≡ bytes_of units ++ bytes_of (quote us) → Holds old units
    → Holds new (units ++ more))
    → Appends old new (quote us)
appends_quote old new us h = record { holds = λ units. h units (quote us) (quote_more units us) }

pub appends_both : (a b c : Bounded) (x y : List ℕ) → Appends a b x → Appends b c y → Appends a c (x ++ y)
appends_both a b c x y p q = record {
  holds = λ units h. subst (Holds c) (append_assoc units x y) (q.holds (units ++ x) (p.holds units h));
}
