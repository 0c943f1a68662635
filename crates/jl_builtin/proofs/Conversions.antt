-- Values that are converted before a builtin goes on.
use Rattle.std.proofs.Common.{◌≡◌, ◌∙◌, false, subst, true, List, ℕ, ℤ}
use mathlib.Core.Path.{fun_ext}
use Rattle.jl_num.specs.Bits.{uint32_of}
use Rattle.jl_num.specs.Number.{Number}
use Rattle.jl_value.specs.Tests.{is_undefined}
use Rattle.jl_value.specs.declared.value.Value.{Value}
use Rattle.jl_value.specs.declared.value.Value.TheVariants as value
use Rattle.jl_conv.specs.Conversions.{text_of_value}
use Rattle.jl_meaning.specs.Conversions.{integer_of, number_hint, string_hint, to_integer, to_number, to_primitive}
use Rattle.jl_meaning.specs.Conversions.{to_string, to_uint32}
use Rattle.jl_meaning.specs.Parts.{give, ◌>>=◌, Algorithm}
use Rattle.jl_meaning.specs.builtins.Arguments.{unless_undefined}
use Rattle.jl_progress.specs.Primitives.{number_of_primitive}
use Rattle.jl_state.specs.Rest.{RefinesAlgorithm}
use Rattle.jl_state.specs.declared.act.Act.{Act}
use Rattle.jl_state.specs.declared.state.State.{State}
use Rattle.jl_operator.proofs.Operands.{chained}

-- what is done with a primitive value, as what is done with the number, string or integer that it converts to

number_converts : (v : Value) (k : Number → Algorithm Value)
    → (to_primitive number_hint v >>= λ p. number_of_primitive p >>= k) ≡ (to_number v >>= k)
unfolding to_number
number_converts v k = chained (to_primitive number_hint v) number_of_primitive k

pub string_converts : (v : Value) (k : List ℕ → Algorithm Value)
    → (to_primitive string_hint v >>= λ p. k (text_of_value p)) ≡ (to_string v >>= k)
unfolding to_string
string_converts v k = chained (to_primitive string_hint v) (λ p. give (text_of_value p)) k

pub integer_converts : (v : Value) (k : ℤ → Algorithm Value)
    → (to_primitive number_hint v >>= λ p. number_of_primitive p >>= λ n. k (integer_of n)) ≡ (to_integer v >>= k)
integer_converts v k =
    number_converts v (λ n. k (integer_of n)) ∙ chained (to_number v) (λ n. give (integer_of n)) k

pub uint32_converts : (v : Value) (k : ℕ → Algorithm Value)
    → (to_primitive number_hint v >>= λ p. number_of_primitive p >>= λ n. k (uint32_of n)) ≡ (to_uint32 v >>= k)
uint32_converts v k =
    number_converts v (λ n. k (uint32_of n)) ∙ chained (to_number v) (λ n. give (uint32_of n)) k

module _ (s t : State) (a : Act) where
  as_other : (p q : Algorithm Value) (f g : Value → Algorithm Value) → ((x : Value) → f x ≡ g x) → (p >>= g) ≡ q
      → RefinesAlgorithm s (p >>= f) t a → RefinesAlgorithm s q t a
  as_other p q f g after is refines =
      subst (λ r. RefinesAlgorithm s r t a) is
      (subst (λ (h : Value → Algorithm Value). RefinesAlgorithm s (p >>= h) t a) (fun_ext after) refines)

  -- a value is to be a number, and what waits goes on with that
  pub as_number : (v : Value) (f : Value → Algorithm Value) (k : Number → Algorithm Value)
      → ((p : Value) → f p ≡ (number_of_primitive p >>= k)) → RefinesAlgorithm s (to_primitive number_hint v >>= f) t a
      → RefinesAlgorithm s (to_number v >>= k) t a
  as_number v f k after refines =
      as_other (to_primitive number_hint v) (to_number v >>= k) f (λ p. number_of_primitive p >>= k) after
      (number_converts v k) refines

  -- a value is to be a string
  pub as_string : (v : Value) (f : Value → Algorithm Value) (k : List ℕ → Algorithm Value)
      → ((p : Value) → f p ≡ k (text_of_value p)) → RefinesAlgorithm s (to_primitive string_hint v >>= f) t a
      → RefinesAlgorithm s (to_string v >>= k) t a
  as_string v f k after refines =
      as_other (to_primitive string_hint v) (to_string v >>= k) f (λ p. k (text_of_value p)) after
      (string_converts v k) refines

  -- a value is to be an integer
  pub as_integer : (v : Value) (f : Value → Algorithm Value) (k : ℤ → Algorithm Value)
      → ((p : Value) → f p ≡ (number_of_primitive p >>= λ n. k (integer_of n)))
      → RefinesAlgorithm s (to_primitive number_hint v >>= f) t a → RefinesAlgorithm s (to_integer v >>= k) t a
  as_integer v f k after refines =
      as_other (to_primitive number_hint v) (to_integer v >>= k) f
      (λ p. number_of_primitive p >>= λ n. k (integer_of n))
      after (integer_converts v k) refines

  -- a value is to be an integer of 32 bits
  pub as_uint32 : (v : Value) (f : Value → Algorithm Value) (k : ℕ → Algorithm Value)
      → ((p : Value) → f p ≡ (number_of_primitive p >>= λ n. k (uint32_of n)))
      → RefinesAlgorithm s (to_primitive number_hint v >>= f) t a → RefinesAlgorithm s (to_uint32 v >>= k) t a
  as_uint32 v f k after refines =
      as_other (to_primitive number_hint v) (to_uint32 v >>= k) f (λ p. number_of_primitive p >>= λ n. k (uint32_of n))
      after (uint32_converts v k) refines

  -- a value that isn't undefined is converted
  pub there : {A : Type 0} (other : A) (convert : Value → Algorithm A) (v : Value) (k : A → Algorithm Value)
      → is_undefined v ≡ false → RefinesAlgorithm s (convert v >>= k) t a
      → RefinesAlgorithm s (unless_undefined other convert v >>= k) t a
  there other convert value.Undefined k e refines = absurd (let differ = e in cc)
  there other convert value.Null k e refines = refines
  there other convert (value.Bool b) k e refines = refines
  there other convert (value.Num n) k e refines = refines
  there other convert (value.Text x) k e refines = refines
  there other convert (value.Obj id) k e refines = refines

  -- for one that is, there is something else
  pub missing : {A : Type 0} (other : A) (convert : Value → Algorithm A) (v : Value) (k : A → Algorithm Value)
      → is_undefined v ≡ true → RefinesAlgorithm s (k other) t a
      → RefinesAlgorithm s (unless_undefined other convert v >>= k) t a
  missing other convert value.Undefined k e refines = refines
  missing other convert value.Null k e refines = absurd (let differ = e in cc)
  missing other convert (value.Bool b) k e refines = absurd (let differ = e in cc)
  missing other convert (value.Num n) k e refines = absurd (let differ = e in cc)
  missing other convert (value.Text x) k e refines = absurd (let differ = e in cc)
  missing other convert (value.Obj id) k e refines = absurd (let differ = e in cc)
