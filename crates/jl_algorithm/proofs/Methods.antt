-- The methods by which objects are converted to primitive values.
use Rattle.std.proofs.Common.{◌≡◌, ◌+◌, ◌<◌, refl, subst, sym, codes, false, true, [], arith, Bool, List, None}
use Rattle.jl_value.specs.declared.error_kind.ErrorKind.TheVariants.{TypeError}
use Rattle.jl_value.specs.declared.object.ObjId.{ObjId}
use Rattle.jl_value.specs.declared.value.Value.{Value}
use Rattle.jl_value.specs.declared.value.Value.TheVariants as value
use Rattle.jl_meaning.specs.Conversions.{default_value, primitive_of_method, try_method}
use Rattle.jl_meaning.specs.Errors.{throw_error}
use Rattle.jl_meaning.specs.Getting.{get, is_callable}
use Rattle.jl_meaning.specs.Parts.{call, ◌>>=◌, Algorithm}
use Rattle.jl_state.specs.AlgorithmFrames.{after_method, algorithm_after, method_name}
use Rattle.jl_state.specs.Rank.{rank_method, rank_method_result}
use Rattle.jl_state.specs.Rest.{RefinesAlgorithm}
use Rattle.jl_state.specs.Steps.{AlgorithmWaits}
use Rattle.jl_state.specs.Words.{hint_of}
use Rattle.jl_state.specs.declared.act.Act.{Act}
use Rattle.jl_state.specs.declared.act.Act.TheVariants as act
use Rattle.jl_state.specs.declared.algorithm_frame.AlgorithmFrame.TheVariants as algorithm
use Rattle.jl_state.specs.declared.algorithm_frame.Hint.{Hint}
use Rattle.jl_state.specs.declared.algorithm_frame.Hint.TheVariants as hint
use Rattle.jl_state.specs.declared.state.State.{State}
use Rattle.jl_state.proofs.Chains.{works_assoc}

-- the method is got, and then tried
pub works_method : (s u t : State) (object : ObjId) (h : Hint) (is_second : Bool) (a : Act)
    → AlgorithmWaits s (algorithm.Method object h is_second) u
    → RefinesAlgorithm u (get (value.Obj object) (method_name h is_second)) t a
    → RefinesAlgorithm s (try_method (value.Obj object)
    (method_name h is_second) >>= after_method object h is_second) t a
works_method s u t object h is_second a waits refines =
    works_assoc s (get (value.Obj object) (method_name h is_second)) _ _ t a (waits.works _ t a refines)

-- both methods, the first one first
default_is : (object : ObjId) (h : Hint)
    → (try_method (value.Obj object) (method_name h false) >>= after_method object h false)
    ≡ default_value (value.Obj object) (hint_of h)
default_is object hint.None = refl
default_is object hint.Number = refl
default_is object hint.Text = refl

pub works_default : (s : State) (object : ObjId) (h : Hint) (t : State) (a : Act)
    → RefinesAlgorithm s (try_method (value.Obj object) (method_name h false) >>= after_method object h false) t a
    → RefinesAlgorithm s (default_value (value.Obj object) (hint_of h)) t a
works_default s object h t a refines = subst (λ p. RefinesAlgorithm s p t a) (default_is object h) refines

abbrev with_method : ObjId → Hint → Bool → Value → Bool → Algorithm Value
with_method object h is_second v callable =
    primitive_of_method (value.Obj object) v callable >>= after_method object h is_second

after_look : (s : State) (object : ObjId) (h : Hint) (is_second : Bool) (v : Value) (callable : Bool) (t : State)
    (a : Act)
    → callable ≡ is_callable s.store.heap v → RefinesAlgorithm s (with_method object h is_second v callable) t a
    → RefinesAlgorithm s (algorithm_after (algorithm.Method object h is_second) v) t a
after_look s object h is_second v callable t a same refines =
    record { is = (subst (λ b. RefinesAlgorithm s (with_method object h is_second v b) t a) same refines).is }

-- what can't be called is left
pub leaves_method : (s : State) (object : ObjId) (h : Hint) (is_second : Bool) (v : Value) (t : State) (a : Act)
    → is_callable s.store.heap v ≡ false → RefinesAlgorithm s (after_method object h is_second None) t a
    → RefinesAlgorithm s (algorithm_after (algorithm.Method object h is_second) v) t a
leaves_method s object h is_second v t a no_call refines =
    after_look s object h is_second v false t a (sym no_call) (left v)
  where
    left : (w : Value) → RefinesAlgorithm s (with_method object h is_second w false) t a
    left value.Undefined = refines
    left value.Null = refines
    left (value.Bool b) = refines
    left (value.Num n) = refines
    left (value.Text x) = refines
    left (value.Obj id) = refines

-- and what can be is called
pub calls_method : (s u : State) (object : ObjId) (h : Hint) (is_second : Bool) (v : Value) (callee : ObjId)
    (args : List Value) → v ≡ value.Obj callee → is_callable s.store.heap v ≡ true → args ≡ []
    → AlgorithmWaits s (algorithm.MethodResult object h is_second) u
    → RefinesAlgorithm s (algorithm_after (algorithm.Method object h is_second) v) u
    (act.Call (record { callee = callee; this = value.Obj object; args = args; by_new = false }))
calls_method s u object h is_second v callee args is can_call none waits =
    after_look s object h is_second v true u (called args) (sym can_call)
    (subst (λ w. RefinesAlgorithm s (with_method object h is_second w true) u (called args)) (sym is)
    (subst (λ l. RefinesAlgorithm s (with_method object h is_second (value.Obj callee) true) u (called l)) (sym none)
    (works_assoc s (call callee (value.Obj object) []) _ _ u (called [])
    (waits.works (call callee (value.Obj object) []) u (called []) (record { is = λ kept told. refl })))))
  where
    called : List Value → Act
    called l = act.Call (record { callee = callee; this = value.Obj object; args = l; by_new = false })

-- what waits for its result does less than what waited for it
pub method_falls : (is_second : Bool) → 1 + rank_method_result is_second < rank_method is_second
method_falls true = omega arith
method_falls false = omega arith

-- no method is left
pub ends_methods : (s : State) (object : ObjId) (h : Hint) (is_second : Bool) (t : State) (a : Act)
    → is_second ≡ true → RefinesAlgorithm s (throw_error TypeError (codes "no primitive value")) t a
    → RefinesAlgorithm s (after_method object h is_second None) t a
ends_methods s object h true t a e refines = refines
ends_methods s object h false t a e refines = absurd (let differ = e in cc)
