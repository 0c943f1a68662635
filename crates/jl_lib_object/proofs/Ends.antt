-- What is done with what an algorithm gives that calls no function.
use Rattle.std.proofs.Common.{◌≡◌, refl, subst, sym}
use Rattle.jl_value.specs.declared.ending.Completion.TheVariants as completion
use Rattle.jl_value.specs.declared.value.Value.{Value}
use Rattle.jl_effects.specs.Running.{Ends}
use Rattle.jl_meaning.specs.Parts.{give, gives, look, throws, ◌>>=◌, Algorithm}
use Rattle.jl_meaning.specs.Store.{Store}
use Rattle.jl_store.specs.Answers.{ends_with}
use Rattle.jl_store.specs.BigStep.{BigStep}
use Rattle.jl_store.specs.declared.answer.Answer.{Answer}
use Rattle.jl_store.specs.declared.answer.Answer.TheVariants.{Gives, Throws}
use Rattle.jl_state.specs.Rest.{RefinesAlgorithm}
use Rattle.jl_state.specs.declared.act.Act.{Act}
use Rattle.jl_state.specs.declared.act.Act.TheVariants as act
use Rattle.jl_state.specs.declared.state.State.{State}
use Rattle.jl_state.proofs.Stores.{works_comes, works_thrown}

-- a value is given
pub gives_now : (s : State) (v : Value) → RefinesAlgorithm s (give v) s (act.Give v)
gives_now s v = record { is = λ kept told. refl }

-- a value that the store tells is given
pub gives_seen : (s : State) (f : Store → Value) (v : Value) → v ≡ f s.store
    → RefinesAlgorithm s (look >>= λ store. give (f store)) s (act.Give v)
gives_seen s f v is =
    subst (λ w. RefinesAlgorithm s (look >>= λ store. give (f store)) s (act.Give w)) (sym is)
    (record { is = λ kept told. refl })

-- what is done with what the store tells
pub works_seen : (s : State) (f : Store → Algorithm Value) (t : State) (a : Act) → RefinesAlgorithm s (f s.store) t a
    → RefinesAlgorithm s (look >>= f) t a
works_seen s f t a refines = record { is = refines.is }

module _ {A : Type 0} (s : State) (x : Store) (p : Algorithm A) (k : A → Algorithm Value) (answer : Answer A)
    (comes : BigStep p s.store x (ends_with answer)) where
  -- what was given is gone on with
  pub goes_on : (b : A) (t : State) (a : Act) → answer ≡ Gives b → RefinesAlgorithm (record s { store = x }) (k b) t a
      → RefinesAlgorithm s (p >>= k) t a
  goes_on b t a is refines =
      works_comes s (record s { store = x }) refl p b k t a
      (subst (λ (e : Answer A). BigStep p s.store x (ends_with e)) is comes) refines

  -- and what was thrown is thrown on
  pub throws_on : (v : Value) → answer ≡ Throws v
      → RefinesAlgorithm s (p >>= k) (record s { store = x }) (act.Complete (completion.Throw v))
  throws_on v is =
      works_thrown s (record s { store = x }) refl p v k
      (subst (λ (e : Answer A). BigStep p s.store x (ends_with e)) is comes)

-- what is done with a value, and with an equal one
pub works_of : {A : Type 0} (s : State) (f : A → Algorithm Value) (x y : A) (t : State) (a : Act) → x ≡ y
    → RefinesAlgorithm s (f x) t a → RefinesAlgorithm s (f y) t a
works_of s f x y t a same refines = subst (λ z. RefinesAlgorithm s (f z) t a) same refines

-- an answer that is known
module _ {A : Type 0} (p : Algorithm A) (s t : Store) (answer : Answer A)
    (comes : BigStep p s t (ends_with answer)) where
  pub came : (b : A) → answer ≡ Gives b → BigStep p s t (Ends (gives b))
  came b is = subst (λ (e : Answer A). BigStep p s t (ends_with e)) is comes

  pub came_thrown : (v : Value) → answer ≡ Throws v → BigStep p s t (Ends (throws v))
  came_thrown v is = subst (λ (e : Answer A). BigStep p s t (ends_with e)) is comes
