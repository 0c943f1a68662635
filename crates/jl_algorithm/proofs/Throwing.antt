-- Errors that the language throws by itself.
use Rattle.std.proofs.Common.{◌≡◌, ◌≤◌, ◌<◌, ◌++◌, refl, subst, sym, codes, false, length, nat_lt, true, Bool, List, ℕ}
use Rattle.std.proofs.Common.{if◌then◌else◌, arith, inl, inr, leb, ◌⊎◌}
use Rattle.std.proofs.lemmas.Bool.{le-ltb, lt-ltb}
use Rattle.std.proofs.lemmas.Bool.Decides.{leb_tells}
use Rattle.jl_value.specs.declared.ending.Completion.TheVariants as completion
use Rattle.jl_value.specs.declared.ending.Fault.TheVariants as fault
use Rattle.jl_value.specs.declared.error_kind.ErrorKind.{ErrorKind}
use Rattle.jl_value.specs.declared.error_kind.ErrorKind.TheVariants.{ReferenceError}
use Rattle.jl_value.specs.declared.value.Value.{Value}
use Rattle.jl_heap.specs.Objects.{Name}
use Rattle.jl_effects.specs.Effects.{Fail}
use Rattle.jl_meaning.specs.Errors.{string_limit, throw_error, throw_not_defined}
use Rattle.jl_meaning.specs.Parts.{give, lift, throws, ◌>>=◌, Algorithm, Answer, Part, StringTooLong}
use Rattle.jl_store.specs.Answers.{MakesError}
use Rattle.jl_store.proofs.Chains.{error_comes}
use Rattle.jl_state.specs.Rest.{RefinesExpression, RefinesAlgorithm}
use Rattle.jl_state.specs.declared.act.Act.{Act}
use Rattle.jl_state.specs.declared.act.Act.TheVariants as act
use Rattle.jl_state.specs.declared.state.State.{State}
use Rattle.jl_state.proofs.Stores.{works_ends, IsStored}

-- the error that was made is thrown
pub works_made : (s t : State) (kind : ErrorKind) (message : List ℕ) (v : Value) → IsStored s t
    → MakesError kind message s.store t.store v
    → RefinesAlgorithm s (throw_error kind message) t (act.Complete (completion.Throw v))
works_made s t kind message v stored makes =
    works_ends s t stored (throw_error kind message) (throws v) (error_comes makes)

-- what follows an error that is thrown is left out
pub works_left_out : {A : Type 0} (s : State) (kind : ErrorKind) (message : List ℕ) (k : A → Algorithm Value)
    (t : State) (a : Act) → RefinesAlgorithm s (throw_error kind message) t a
    → RefinesAlgorithm s (throw_error kind message >>= k) t a
unfolding throw_error
works_left_out s kind message k t a refines = record { is = refines.is }

pub gives_left_out : {A : Type 0} (s : State) (kind : ErrorKind) (message : List ℕ) (k : A → Part (Answer Value))
    (t : State) (a : Act) → RefinesAlgorithm s (throw_error kind message) t a
    → RefinesExpression s (lift (throw_error kind message) >>= k) t a
unfolding throw_error
gives_left_out s kind message k t a refines = record { is = refines.is }

abbrev message_of : Name → Name
message_of x = x ++ codes " is not defined"

abbrev thrown_if : {A : Type 0} → Bool → Name → Algorithm A
thrown_if too_long message = (if too_long then Fail StringTooLong else give message) >>= throw_error ReferenceError

fits : (n : ℕ) → (1048577 ≤ n → ⊥) → n ≤ 1048576
fits n no_more = by (leb_tells 1048577 n)
  where
    by : ((leb 1048577 n ≡ true) × (1048577 ≤ n)) ⊎ ((leb 1048577 n ≡ false) × (n < 1048577)) → n ≤ 1048576
    by (inl more) = absurd (no_more more.1)
    by (inr less) = omega (arith, less.1)

-- nothing binds the name
pub throws_message : (s : State) (x message : Name) (t : State) (a : Act) → message ≡ message_of x
    → (1048577 ≤ length (message_of x) → ⊥) → RefinesAlgorithm s (throw_error ReferenceError message) t a
    → RefinesAlgorithm s (throw_not_defined x) t a
throws_message s x message t a same no_more refines =
    subst (λ b. RefinesAlgorithm s (thrown_if b (message_of x)) t a)
    (sym (le-ltb string_limit (length (message_of x)) (fits (length (message_of x)) no_more)))
    (subst (λ m. RefinesAlgorithm s (throw_error ReferenceError m) t a) same refines)

pub message_too_long : (s : State) (x : Name) → 1048577 ≤ length (message_of x)
    → RefinesAlgorithm s (throw_not_defined x) s (act.Fault fault.StringTooLong)
message_too_long s x over =
    subst (λ b. RefinesAlgorithm s (thrown_if b (message_of x)) s (act.Fault fault.StringTooLong))
    (sym (lt-ltb string_limit (length (message_of x)) (omega (arith, over)))) (record { is = λ kept told. refl })

-- what follows is left out
pub works_not_defined : {A : Type 0} (s : State) (x : Name) (k : A → Algorithm Value) (t : State) (a : Act)
    → RefinesAlgorithm s (throw_not_defined x) t a → RefinesAlgorithm s (throw_not_defined x >>= k) t a
works_not_defined s x k t a refines = by (nat_lt string_limit (length (message_of x))) refines
  where
    by : (b : Bool) → RefinesAlgorithm s (thrown_if b (message_of x)) t a
        → RefinesAlgorithm s (thrown_if b (message_of x) >>= k) t a
    by true refines = record { is = refines.is }
    by false refines = works_left_out s ReferenceError (message_of x) k t a refines
