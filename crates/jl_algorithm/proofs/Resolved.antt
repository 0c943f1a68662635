-- Names that are resolved first.
use Rattle.std.proofs.Common.{◌≡◌, ◌⊎◌, inl, inr, refl, subst, false, true, Bool, ℕ}
use Rattle.jl_value.specs.declared.ending.Completion.TheVariants as completion
use Rattle.jl_value.specs.declared.value.Value.{Value}
use Rattle.jl_value.specs.declared.value.Value.TheVariants as value
use Rattle.jl_heap.specs.Objects.{Name}
use Rattle.jl_effects.specs.Running.{Finish}
use Rattle.jl_meaning.specs.Errors.{throw_not_defined}
use Rattle.jl_meaning.specs.Parts.{give, ◌>>=◌, AlgorithmFault, Answer}
use Rattle.jl_meaning.specs.References.{delete_name, delete_reference, get_name, get_value, identifier_reference}
use Rattle.jl_meaning.specs.References.{in_environment, on_global_object, put_name, put_value, set_mutable_binding}
use Rattle.jl_meaning.specs.References.{type_of_name, type_of_reference}
use Rattle.jl_meaning.specs.References.{Reference}
use Rattle.jl_meaning.specs.Store.{binding_of, Store}
use Rattle.jl_store.specs.Answers.{ends_with}
use Rattle.jl_store.specs.BigStep.{BigStep}
use Rattle.jl_store.specs.LookUps.{reference_seen}
use Rattle.jl_store.specs.declared.answer.Answer.{Answer as Answered}
use Rattle.jl_store.specs.declared.answer.Answer.TheVariants.{Gives, Throws}
use Rattle.jl_store.specs.declared.names.Reference.{Reference as Resolved}
use Rattle.jl_store.specs.declared.names.Reference.TheVariants.{InEnvironment, OnGlobalObject, Unresolvable}
use Rattle.jl_state.specs.AlgorithmFrames.{algorithm_after}
use Rattle.jl_state.specs.Rest.{RefinesAlgorithm}
use Rattle.jl_state.specs.declared.act.Act.{Act}
use Rattle.jl_state.specs.declared.act.Act.TheVariants as act
use Rattle.jl_state.specs.declared.algorithm_frame.AlgorithmFrame.TheVariants as algorithm
use Rattle.jl_state.specs.declared.state.State.{State}
use Rattle.jl_state.proofs.Stores.{works_comes, works_thrown, IsStored}
use Rattle.jl_state.proofs.Chains.{works_assoc}
use Rattle.jl_algorithm.proofs.Throwing.{works_not_defined}

pub gets_name : (s : State) (env : ℕ) (x : Name) (r : Reference) (t : State) (a : Act)
    → r ≡ identifier_reference s.store env x → RefinesAlgorithm s (get_value x r) t a
    → RefinesAlgorithm s (get_name env x) t a
unfolding get_name
gets_name s env x r t a same refines = record {
  is = (subst
      (λ q. RefinesAlgorithm s (get_value x q) t a) same refines).is;
}

pub puts_name : (s : State) (strict : Bool) (env : ℕ) (x : Name) (v given : Value) (r : Reference) (t : State)
    (a : Act)
    → r ≡ identifier_reference s.store env x → RefinesAlgorithm s (put_value strict x v r >>= λ _. give given) t a
    → RefinesAlgorithm s (put_name strict env x v >>= λ _. give given) t a
unfolding put_name
puts_name s strict env x v given r t a same refines =
    record { is = (subst (λ q. RefinesAlgorithm s (put_value strict x v q >>= λ _. give given) t a) same refines).is }

-- a binding of an environment

pub puts_binding : (s t : State) (strict : Bool) (env : ℕ) (x : Name) (v given : Value) (answer : Answered (Unit {0}))
    (u : Unit {0}) → IsStored s t
    → BigStep (set_mutable_binding strict env x v (binding_of s.store env x)) s.store t.store (ends_with answer)
    → answer ≡ Gives u → RefinesAlgorithm s (put_value strict x v (in_environment env) >>= λ _. give given) t
    (act.Give given)
unfolding put_value
puts_binding s t strict env x v given answer u stored comes is =
    works_comes s t stored (put_value strict x v (in_environment env)) u (λ _. give given) t (act.Give given)
    (record {
      refines = (subst (λ b. BigStep (set_mutable_binding strict env x v (binding_of s.store env x)) s.store t.store
          (ends_with b)) is comes).refines;
    }) (record { is = λ kept told. refl })

pub throws_binding : (s t : State) (strict : Bool) (env : ℕ) (x : Name) (v given : Value)
    (answer : Answered (Unit {0})) (thrown : Value) → IsStored s t
    → BigStep (set_mutable_binding strict env x v (binding_of s.store env x)) s.store t.store (ends_with answer)
    → answer ≡ Throws thrown
    → RefinesAlgorithm s (put_value strict x v (in_environment env) >>= λ _. give given) t
    (act.Complete (completion.Throw thrown))
unfolding put_value
throws_binding s t strict env x v given answer thrown stored comes is =
    works_thrown s t stored (put_value strict x v (in_environment env)) thrown (λ _. give given)
    (record {
      refines = (subst (λ b. BigStep (set_mutable_binding strict env x v (binding_of s.store env x)) s.store t.store
          (ends_with b)) is comes).refines;
    })

-- nothing
pub puts_nowhere : (s : State) (r : Resolved) (strict : Bool) (x : Name) (v given : Value) (t : State) (a : Act)
    → r ≡ Unresolvable → strict ≡ true → RefinesAlgorithm s (throw_not_defined x) t a
    → RefinesAlgorithm s (put_value strict x v (reference_seen r) >>= λ _. give given) t a
unfolding put_value
puts_nowhere s Unresolvable true x v given t a e f refines = works_not_defined s x (λ _. give given) t a refines
puts_nowhere s Unresolvable false x v given t a e f refines = absurd (let differ = f in cc)
puts_nowhere s OnGlobalObject strict x v given t a e f refines = absurd (let differ = e in cc)
puts_nowhere s (InEnvironment env) strict x v given t a e f refines = absurd (let differ = e in cc)

-- the type of what a name holds

pub types_name : (s : State) (env : ℕ) (x : Name) (r : Reference) (t : State) (a : Act)
    → r ≡ identifier_reference s.store env x
    → RefinesAlgorithm s (type_of_reference x r >>= λ type. give (value.Text type)) t a
    → RefinesAlgorithm s (type_of_name env x >>= λ type. give (value.Text type)) t a
unfolding type_of_name
types_name s env x r t a same refines =
    record {
      is = (subst (λ q. RefinesAlgorithm s
          (type_of_reference x q >>= λ type. give (value.Text type)) t a) same refines).is;
    }

pub types_value : (s : State) (r : Resolved) (x : Name) (t : State) (a : Act)
    → ((env : ℕ) × (r ≡ InEnvironment env)) ⊎ (r ≡ OnGlobalObject)
    → RefinesAlgorithm s (get_value x (reference_seen r) >>= algorithm_after algorithm.TypeOf) t a
    → RefinesAlgorithm s (type_of_reference x (reference_seen r) >>= λ type. give (value.Text type)) t a
types_value s (InEnvironment env) x t a is refines = works_assoc s (get_value x (in_environment env)) _ _ t a refines
types_value s OnGlobalObject x t a is refines = works_assoc s (get_value x on_global_object) _ _ t a refines
types_value s Unresolvable x t a (inl is) refines = absurd (let differ = is.1 in cc)
types_value s Unresolvable x t a (inr is) refines = absurd (let differ = is in cc)

-- a name that is deleted
pub deletes_name : (s t : Store) (strict : Bool) (env : ℕ) (x : Name) (r : Reference)
    (e : Finish AlgorithmFault (Answer Bool)) → r ≡ identifier_reference s env x
    → BigStep (delete_reference strict x r) s t e → BigStep (delete_name strict env x) s t e
unfolding delete_name
deletes_name s t strict env x r e same comes =
    record { refines = (subst (λ q. BigStep (delete_reference strict x q) s t e) same comes).refines }
