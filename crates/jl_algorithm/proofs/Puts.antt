-- Values that are put.
use Rattle.std.proofs.Common.{◌≡◌, refl, subst, sym, ap, ◌∙◌, codes, false, true, [], ◌∷◌, Bool, None, Option, Some}
use Rattle.std.proofs.Common.{if◌then◌else◌}
use Rattle.jl_value.specs.Tests.{is_object}
use Rattle.jl_value.specs.declared.error_kind.ErrorKind.TheVariants.{TypeError}
use Rattle.jl_value.specs.declared.object.ObjId.{ObjId}
use Rattle.jl_value.specs.declared.value.Value.{Value}
use Rattle.jl_value.specs.declared.value.Value.TheVariants as value
use Rattle.jl_heap.specs.Objects.{Name}
use Rattle.jl_heap.specs.declared.property.Prop.TheVariants.{Accessor, Plain}
use Rattle.jl_meaning.specs.Errors.{require, throw_error}
use Rattle.jl_meaning.specs.Parts.{call, give, ◌>>=◌}
use Rattle.jl_meaning.specs.Properties.{can_put, property_of_value, Property}
use Rattle.jl_meaning.specs.Putting.{put, put_if, put_on, put_on_primitive}
use Rattle.jl_state.specs.AlgorithmFrames.{after_define}
use Rattle.jl_state.specs.Rest.{RefinesAlgorithm}
use Rattle.jl_state.specs.declared.act.Act.{Act}
use Rattle.jl_state.specs.declared.algorithm_frame.AfterDefine.{AfterDefine}
use Rattle.jl_state.specs.declared.algorithm_frame.AfterDefine.TheVariants.{Builtin, Put}
use Rattle.jl_state.specs.declared.state.State.{State}
use Rattle.jl_algorithm.specs.declared.putting.PutPlan.{PutPlan}
use Rattle.jl_algorithm.specs.inner.PutPlans.{found_setter, put_by, plan_put}
use Rattle.jl_state.proofs.Chains.{works_assoc}
use Rattle.jl_algorithm.proofs.Throwing.{works_left_out}
use Rattle.jl_algorithm.proofs.PutPlans.{way_is}

-- what follows a put that is done or not
pub puts : (s : State) (throwing : Bool) (base : Value) (x : Name) (v given : Value) (t : State) (a : Act)
    → RefinesAlgorithm s (put_on s.store base x v >>= after_define (Put throwing given)) t a
    → RefinesAlgorithm s (put throwing base x v >>= λ _. give given) t a
unfolding put
puts s throwing base x v given t a refines = record {
  is = (works_assoc s (put_on s.store base x v)
      (λ done. require (if throwing then done else true) (codes "cannot write")) (λ _. give given) t a refines).is;
}

pub puts_object : (s : State) (throwing : Bool) (base : Value) (id : ObjId) (x : Name) (v given : Value) (t : State)
    (a : Act) → base ≡ value.Obj id
    → RefinesAlgorithm s (put_on s.store (value.Obj id) x v >>= after_define (Put throwing given)) t a
    → RefinesAlgorithm s (put throwing base x v >>= λ _. give given) t a
puts_object s throwing base id x v given t a is refines =
    subst (λ b. RefinesAlgorithm s (put throwing b x v >>= λ _. give given) t a) (sym is)
    (puts s throwing (value.Obj id) x v given t a refines)

pub puts_primitive : (s : State) (throwing : Bool) (base : Value) (x : Name) (v given : Value) (t : State) (a : Act)
    → is_object base ≡ false
    → RefinesAlgorithm s (put_on_primitive base v (property_of_value s.store base x) >>= after_define
    (Put throwing given)) t a
    → RefinesAlgorithm s (put throwing base x v >>= λ _. give given) t a
puts_primitive s throwing base x v given t a is refines = puts s throwing base x v given t a (by base is refines)
  where
    by : (b : Value) → is_object b ≡ false
        → RefinesAlgorithm s (put_on_primitive b v (property_of_value s.store b x) >>= after_define
        (Put throwing given)) t a
        → RefinesAlgorithm s (put_on s.store b x v >>= after_define (Put throwing given)) t a
    by value.Undefined e l = l
    by value.Null e l = l
    by (value.Bool b) e l = l
    by (value.Num n) e l = l
    by (value.Text y) e l = l
    by (value.Obj id) e l = absurd (let differ = e in cc)

pub no_object : (v : Value) → ((id : ObjId) → v ≡ value.Obj id → ⊥) → is_object v ≡ false
no_object value.Undefined differs = refl
no_object value.Null differs = refl
no_object (value.Bool b) differs = refl
no_object (value.Num n) differs = refl
no_object (value.Text x) differs = refl
no_object (value.Obj id) differs = absurd (differs id refl)

pub puts_so : (s : State) (id : ObjId) (x : Name) (v : Value) (extensible done : Bool) (property : Option Property)
    (way : PutPlan) (purpose : AfterDefine) (t : State) (a : Act) → done ≡ can_put extensible property
    → way ≡ plan_put done property → RefinesAlgorithm s (put_by id x v way >>= after_define purpose) t a
    → RefinesAlgorithm s (put_if (can_put extensible property) id x v property >>= after_define purpose) t a
puts_so s id x v extensible done property way purpose t a able so refines =
    subst (λ b. RefinesAlgorithm s (put_if b id x v property >>= after_define purpose) t a) able
    (subst (λ p. RefinesAlgorithm s (p >>= after_define purpose) t a)
    (ap (put_by id x v) so ∙ sym (way_is done id x v property)) refines)

-- a put that isn't done throws, if it is asked to
pub rejects : (s : State) (throwing done : Bool) (given : Value) (t : State) (a : Act) → throwing ≡ true → done ≡ false
    → RefinesAlgorithm s (throw_error TypeError (codes "cannot write")) t a
    → RefinesAlgorithm s (after_define (Put throwing given) done) t a
rejects s true false given t a e f refines =
    works_left_out s TypeError (codes "cannot write") (λ _. give given) t a refines
rejects s false done given t a e f refines = absurd (let differ = e in cc)
rejects s true true given t a e f refines = absurd (let differ = f in cc)

-- a definition of a builtin that isn't done throws
pub rejects_definition : (s : State) (done : Bool) (given : Value) (t : State) (a : Act) → done ≡ false
    → RefinesAlgorithm s (throw_error TypeError (codes "cannot define")) t a
    → RefinesAlgorithm s (after_define (Builtin given) done) t a
rejects_definition s false given t a f refines =
    works_left_out s TypeError (codes "cannot define") (λ _. give given) t a refines
rejects_definition s true given t a f refines = absurd (let differ = f in cc)

-- a setter has taken the value
after_call : (throwing : Bool) (given : Value) → after_define (Put throwing given) true ≡ give given
after_call true given = refl
after_call false given = refl

pub calls_setter : (s : State) (setter : ObjId) (this v : Value) (throwing : Bool) (given : Value) (t : State)
    (a : Act)
    → RefinesAlgorithm s (call setter this (v ∷ []) >>= λ _. give given) t a
    → RefinesAlgorithm s (call setter this (v ∷ []) >>= (λ _. give true) >>= after_define (Put throwing given)) t a
calls_setter s setter this v throwing given t a refines =
    works_assoc s (call setter this (v ∷ [])) (λ _. give true) (after_define (Put throwing given)) t a
    (subst (λ p. RefinesAlgorithm s (call setter this (v ∷ []) >>= λ _. p) t a)
    (sym (after_call throwing given)) refines)

-- on a base that is no object

pub calls_found : (s : State) (base v : Value) (property : Option Property) (setter : ObjId) (throwing : Bool)
    (given : Value) (t : State) (a : Act) → found_setter property ≡ Some setter
    → RefinesAlgorithm s (call setter base (v ∷ []) >>= λ _. give given) t a
    → RefinesAlgorithm s (put_on_primitive base v property >>= after_define (Put throwing given)) t a
calls_found s base v None setter throwing given t a e refines = absurd (let differ = e in cc)
calls_found s base v (Some (own, Plain _ _ _ _)) setter throwing given t a e refines = absurd (let differ = e in cc)
calls_found s base v (Some (own, Accessor _ None _ _)) setter throwing given t a e refines =
    absurd (let differ = e in cc)
calls_found s base v (Some (own, Accessor _ (Some f) _ _)) setter throwing given t a e refines =
    calls_setter s f base v throwing given t a
    (subst (λ g. RefinesAlgorithm s (call g base (v ∷ []) >>= λ _. give given) t a) (let same = e in cc) refines)

pub refuses : (s : State) (base v : Value) (property : Option Property) (throwing : Bool) (given : Value) (t : State)
    (a : Act) → found_setter property ≡ None → RefinesAlgorithm s (after_define (Put throwing given) false) t a
    → RefinesAlgorithm s (put_on_primitive base v property >>= after_define (Put throwing given)) t a
refuses s base v None throwing given t a e refines = refines
refuses s base v (Some (own, Plain _ _ _ _)) throwing given t a e refines = refines
refuses s base v (Some (own, Accessor _ None _ _)) throwing given t a e refines = refines
refuses s base v (Some (own, Accessor _ (Some f) _ _)) throwing given t a e refines = absurd (let differ = e in cc)
