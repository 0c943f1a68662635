-- Algorithms one after another, and what runs of scripts come to that begin with one.
use Rattle.std.proofs.Common.{◌≡◌, ℕ, List, refl, sym, ap, ◌∙◌, subst}
use Rattle.jl_value.specs.declared.error_kind.ErrorKind.{ErrorKind}
use Rattle.jl_value.specs.declared.value.Value.{Value}
use Rattle.jl_value.specs.declared.ending.Completion.{Completion}
use Rattle.jl_value.specs.declared.ending.Fault.{Fault}
use Rattle.jl_op.specs.Operations.{Operation}
use Rattle.jl_effects.specs.Effects.{and_then, Begin, Change, Emit, End, Fail, Look, Perform, Print, Step}
use Rattle.jl_effects.specs.Running.{run_to, with_store, Ends, Fails, Finish, Outcome, Over, Recorded, RunState}
use Rattle.jl_meaning.specs.Errors.{throw_error}
use Rattle.jl_meaning.specs.Mean.{language}
use Rattle.jl_meaning.specs.Parts.{fault_of, continue_with, gives, lift, throws, ◌>>=◌, Algorithm, AlgorithmFault}
use Rattle.jl_meaning.specs.Parts.{Answer, Job, Part}
use Rattle.jl_meaning.specs.Store.{Store}
use Rattle.jl_store.specs.Answers.{MakesError}
use Rattle.jl_store.specs.Changes.{after}
use Rattle.jl_store.specs.BigStep.{refines, BigStep}

abbrev EndOf : Type 0 → Type 0
EndOf A = Finish AlgorithmFault (Answer A)

given_on : {A B : Type 0} (a : Answer A) (k : A → Algorithm B) (s t u : Store) (b : A) (e : EndOf B) → a ≡ gives b
    → s ≡ t → refines (k b) t u e → refines (continue_with k a) s u e
given_on {A} {B} a k s t u b e here same rest =
    subst (λ (c : Answer A). refines (continue_with k c) s u e) (sym here)
    (subst (λ v. refines (k b) v u e) (sym same) rest)

ended : {A : Type 0} (a b : Answer A) (x y : EndOf A) → x ≡ Ends a → y ≡ Ends b → x ≡ y → a ≡ b
ended a b x y ea eb e = cc

goes_on : {A B : Type 0} (p : Algorithm A) (k : A → Algorithm B) (s t u : Store) (a : A) (e : EndOf B)
    → refines p s t (Ends (gives a)) → refines (k a) t u e → refines (p >>= k) s u e
goes_on (End b) k s t u a e first rest =
    given_on b k s t u a e (ended b (gives a) _ _ refl refl first.0) first.1 rest
goes_on (Fail f) k s t u a e first rest = absurd (let differ = first.0 in cc)
goes_on (Step p) k s t u a e first rest = absurd first
goes_on (Look p) k s t u a e first rest = goes_on (p s) k s t u a e first rest
goes_on (Change c p) k s t u a e first rest = goes_on p k (after c s) t u a e first rest
goes_on (Begin job p) k s t u a e first rest = absurd first
goes_on (Print line p) k s t u a e first rest = absurd first
goes_on (Perform o p) k s t u a e first rest = absurd o
goes_on (Emit o p) k s t u a e first rest = absurd o

-- what an algorithm gives, the next one goes on with
pub comes_on : {A B : Type 0} {p : Algorithm A} {s t u : Store} {a : A} {e : EndOf B} (k : A → Algorithm B)
    → BigStep p s t (Ends (gives a)) → BigStep (k a) t u e → BigStep (p >>= k) s u e
comes_on {A} {B} {p} {s} {t} {u} {a} {e} k first rest =
    record { refines = goes_on p k s t u a e first.refines rest.refines }

-- the same, where nothing is given
pub comes_after : {B : Type 0} {p : Algorithm (Unit {0})} {q : Algorithm B} {s t u : Store} {e : EndOf B}
    → BigStep p s t (Ends (gives tt)) → BigStep q t u e → BigStep (p >>= (λ _. q)) s u e
comes_after {B} {p} {q} first rest = comes_on (λ _. q) first rest

throws_on : {A B : Type 0} (p : Algorithm A) (k : A → Algorithm B) (s t : Store) (v : Value)
    → refines p s t (Ends (throws v)) → refines (p >>= k) s t (Ends (throws v))
throws_on {A} {B} (End b) k s t v first =
    let thrown : b ≡ throws v = ended b (throws v) _ _ refl refl first.0 in
    subst (λ (c : Answer A). refines (continue_with k c) s t (Ends (throws v))) (sym thrown) (refl, first.1)
throws_on (Fail f) k s t v first = absurd (let differ = first.0 in cc)
throws_on (Step p) k s t v first = absurd first
throws_on (Look p) k s t v first = throws_on (p s) k s t v first
throws_on (Change c p) k s t v first = throws_on p k (after c s) t v first
throws_on (Begin job p) k s t v first = absurd first
throws_on (Print line p) k s t v first = absurd first
throws_on (Perform o p) k s t v first = absurd o
throws_on (Emit o p) k s t v first = absurd o

-- what an algorithm throws is thrown on
pub comes_thrown : {A B : Type 0} {p : Algorithm A} {s t : Store} {v : Value} (k : A → Algorithm B)
    → BigStep p s t (Ends (throws v)) → BigStep (p >>= k) s t (Ends (throws v))
comes_thrown {A} {B} {p} {s} {t} {v} k first = record { refines = throws_on p k s t v first.refines }

fails_on : {A B : Type 0} (p : Algorithm A) (k : A → Algorithm B) (s t : Store) (f : AlgorithmFault)
    → refines p s t (Fails f) → refines (p >>= k) s t (Fails f)
fails_on (End b) k s t f first = absurd (let differ = first.0 in cc)
fails_on (Fail g) k s t f first = let same = first.0 in let is : g ≡ f = cc in (ap Fails is, first.1)
fails_on (Step p) k s t f first = absurd first
fails_on (Look p) k s t f first = fails_on (p s) k s t f first
fails_on (Change c p) k s t f first = fails_on p k (after c s) t f first
fails_on (Begin job p) k s t f first = absurd first
fails_on (Print line p) k s t f first = absurd first
fails_on (Perform o p) k s t f first = absurd o
fails_on (Emit o p) k s t f first = absurd o

-- a fault ends all
pub comes_failed : {A B : Type 0} {p : Algorithm A} {s t : Store} {f : AlgorithmFault} (k : A → Algorithm B)
    → BigStep p s t (Fails f) → BigStep (p >>= k) s t (Fails f)
comes_failed {A} {B} {p} {s} {t} {f} k first = record { refines = fails_on p k s t f first.refines }

-- the error that was made is what the algorithm throws, whatever it would give
pub error_comes : {A : Type 0} {kind : ErrorKind} {message : List ℕ} {s t : Store} {v : Value}
    → MakesError kind message s t v → BigStep (throw_error {A = A} kind message) s t (Ends (throws v))
unfolding throw_error
error_comes {A} {kind} {message} {s} {t} {v} makes = record {
  refines = (ap (λ w. Ends (throws w)) (sym makes.error), sym makes.made);
}

-- A run that begins with an algorithm, up to its next step.
module _ {A B : Type 0} (recorded : Recorded Operation) (jobs : Job → Part Completion)
    (next : Part B → RunState Store Operation → Outcome Store Fault Operation B) (n : ℕ) (k : Answer A → Part B) where
  abbrev runs : Part B → RunState Store Operation → Outcome Store Fault Operation B
  runs p w = run_to language recorded jobs next n p w

  run_on : (p : Algorithm A) (s t : Store) (a : Answer A) (w : RunState Store Operation) → refines p s t (Ends a)
      → runs (and_then (lift p) k) (with_store s w) ≡ runs (k a) (with_store t w)
  unfolding after language
  run_on (End b) s t a w first =
      let same : b ≡ a = ended b a _ _ refl refl first.0 in
      ap (λ c. runs (k c) (with_store s w)) same ∙ ap (λ u. runs (k a) (with_store u w)) first.1
  run_on (Fail f) s t a w first = absurd (let differ = first.0 in cc)
  run_on (Step p) s t a w first = absurd first
  run_on (Look p) s t a w first = run_on (p s) s t a w first
  run_on (Change c p) s t a w first = run_on p (after c s) t a w first
  run_on (Begin job p) s t a w first = absurd first
  run_on (Print line p) s t a w first = absurd first
  run_on (Perform o p) s t a w first = absurd o
  run_on (Emit o p) s t a w first = absurd o

  run_fails : (p : Algorithm A) (s t : Store) (f : AlgorithmFault) (w : RunState Store Operation)
      → refines p s t (Fails f)
      → runs (and_then (lift p) k) (with_store s w) ≡ Over (Fails (fault_of f)) n (with_store t w)
  unfolding after language
  run_fails (End b) s t f w first = absurd (let differ = first.0 in cc)
  run_fails (Fail g) s t f w first =
      let same = first.0 in
      let is : g ≡ f = cc in
      ap (λ h. Over (Fails (fault_of h)) n (with_store s w)) is
      ∙ ap (λ u. Over (Fails (fault_of f)) n (with_store u w)) first.1
  run_fails (Step p) s t f w first = absurd first
  run_fails (Look p) s t f w first = run_fails (p s) s t f w first
  run_fails (Change c p) s t f w first = run_fails p (after c s) t f w first
  run_fails (Begin job p) s t f w first = absurd first
  run_fails (Print line p) s t f w first = absurd first
  run_fails (Perform o p) s t f w first = absurd o
  run_fails (Emit o p) s t f w first = absurd o

  -- what an algorithm comes to, a run goes on with from the store that it leaves
  pub comes_runs : {p : Algorithm A} {s t : Store} {a : Answer A} (w : RunState Store Operation)
      → BigStep p s t (Ends a) → runs (and_then (lift p) k) (with_store s w) ≡ runs (k a) (with_store t w)
  comes_runs {p} {s} {t} {a} w comes = run_on p s t a w comes.refines

  -- and its fault ends the run
  pub comes_fails : {p : Algorithm A} {s t : Store} {f : AlgorithmFault} (w : RunState Store Operation)
      → BigStep p s t (Fails f)
      → runs (and_then (lift p) k) (with_store s w) ≡ Over (Fails (fault_of f)) n (with_store t w)
  comes_fails {p} {s} {t} {f} w comes = run_fails p s t f w comes.refines
