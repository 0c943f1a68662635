-- Steps that wait for an operand as a number or a text, and operations that hooks emit.
use Rattle.std.proofs.Common.{◌≡◌, ◌∷◌, ◌∙◌, ◌+◌, Bool, List, Option, Some, arith, false, true, refl, sym, ap, subst, ℕ}
use mathlib.Core.Path.{fun_ext}
use Rattle.jl_num.specs.Number.{Number}
use Rattle.jl_ast.specs.declared.ops.BinOp.{BinOp}
use Rattle.jl_value.specs.Tests.{is_object}
use Rattle.jl_value.specs.declared.value.Value.{Value}
use Rattle.jl_value.specs.declared.value.Value.TheVariants as value
use Rattle.jl_conv.specs.Conversions.{text_of_value}
use Rattle.jl_heap.specs.Describe.{seen_of}
use Rattle.jl_op.specs.declared.op.Op.{Op}
use Rattle.jl_op.specs.declared.op.Op.TheVariants as op
use Rattle.jl_op.specs.declared.op.OpId.{OpId}
use Rattle.jl_op.specs.declared.sign.UnKind.{UnKind}
use Rattle.jl_effects.specs.Effects.{and_then, Emit}
use Rattle.jl_effects.proofs.Chains.{and_then-assoc}
use Rattle.jl_meaning.specs.Conversions.{number_hint, string_hint, to_number, to_primitive, to_string, Hint}
use Rattle.jl_meaning.specs.Operators.{binary_result, unary_result}
use Rattle.jl_meaning.specs.Parts.{give, continue_with, gives, lift, or_fault, throws, ◌>>=◌, Algorithm, Answer}
use Rattle.jl_meaning.specs.Parts.{NumberOutside, Part}
use Rattle.jl_meaning.specs.forms.Operators.{operate, operate_on}
use Rattle.jl_state.specs.AlgorithmFrames.{algorithm_after, number_of_primitive}
use Rattle.jl_state.specs.Rank.{rank_emit, ranks, RankedBelow}
use Rattle.jl_state.specs.Rest.{behaviour_after, RefinesExpression, RefinesAlgorithm}
use Rattle.jl_state.specs.Steps.{AlgorithmWaits, ValueWaits}
use Rattle.jl_state.specs.EmitFrames.{emit_after}
use Rattle.jl_state.specs.ValueFrames.{value_after}
use Rattle.jl_state.specs.Words.{noting, table_of}
use Rattle.jl_state.specs.declared.act.Act.{Act}
use Rattle.jl_state.specs.declared.act.Act.TheVariants as act
use Rattle.jl_state.specs.declared.algorithm_frame.AlgorithmFrame.{AlgorithmFrame}
use Rattle.jl_state.specs.declared.frame.Frame.{Frame}
use Rattle.jl_state.specs.declared.frame.Frame.TheVariants as frame
use Rattle.jl_state.specs.declared.frame.EmitFrame.{EmitFrame}
use Rattle.jl_state.specs.declared.state.State.{State}
use Rattle.jl_state.specs.declared.value_frame.ValueFrame.TheVariants as waiting
use Rattle.jl_state.proofs.Steps.{gives_noted, gives_works}

-- a number that there is
pub found : {A : Type 0} (s t : State) (a : Act) (o : Option A) (x : A) (k : A → Algorithm Value) → Some x ≡ o
    → RefinesAlgorithm s (k x) t a → RefinesAlgorithm s (or_fault NumberOutside o >>= k) t a
found s t a o x k is refines = subst (λ q. RefinesAlgorithm s (or_fault NumberOutside q >>= k) t a) is refines

-- an algorithm, and what is done with its value before the rest is
pub chained : {A B : Type 0} (p : Algorithm A) (f : A → Algorithm B) (k : B → Algorithm Value)
    → (p >>= λ a. f a >>= k) ≡ (p >>= f >>= k)
chained {A} {B} p f k =
    ap (λ (l : Answer A → Algorithm Value). and_then p l) (fun_ext each)
    ∙ sym (and_then-assoc p (continue_with f) (continue_with k))
  where
    each : (a : Answer A) → continue_with (λ b. f b >>= k) a ≡ and_then (continue_with f a) (continue_with k)
    each (gives a) = refl
    each (throws v) = refl

-- a frame waits for a value that is to be a number
pub number_waits : (s t u : State) (f : AlgorithmFrame) (k : Number → Algorithm Value) (v : Value) (a : Act)
    → ((p : Value) → algorithm_after f p ≡ (number_of_primitive p >>= k)) → AlgorithmWaits s f t
    → RefinesAlgorithm t (to_primitive number_hint v) u a → RefinesAlgorithm s (to_number v >>= k) u a
unfolding to_number
number_waits s t u f k v a after waits refines =
    subst (λ q. RefinesAlgorithm s q u a) (chained (to_primitive number_hint v) number_of_primitive k)
    (subst (λ (g : Value → Algorithm Value). RefinesAlgorithm s (to_primitive number_hint v >>= g) u a) (fun_ext after)
    (waits.works (to_primitive number_hint v) u a refines))

-- a frame waits for a value that is to be a text
pub text_waits : (s t u : State) (f : AlgorithmFrame) (k : List ℕ → Algorithm Value) (v : Value) (a : Act)
    → ((p : Value) → algorithm_after f p ≡ k (text_of_value p)) → AlgorithmWaits s f t
    → RefinesAlgorithm t (to_primitive string_hint v) u a → RefinesAlgorithm s (to_string v >>= k) u a
unfolding to_string
text_waits s t u f k v a after waits refines =
    subst (λ q. RefinesAlgorithm s q u a) (chained (to_primitive string_hint v) (λ p. give (text_of_value p)) k)
    (subst (λ (g : Value → Algorithm Value). RefinesAlgorithm s (to_primitive string_hint v >>= g) u a) (fun_ext after)
    (waits.works (to_primitive string_hint v) u a refines))

-- a value that is no object is its own primitive value, for which no frame waits
primitive_is : (h : Hint) (v : Value) → false ≡ is_object v → to_primitive h v ≡ give v
unfolding to_primitive
primitive_is h (value.Obj id) is = absurd (let e = is in cc)
primitive_is h v is = refl

pub at_once : (s t : State) (h : Hint) (v : Value) (k : Value → Algorithm Value) (a : Act) → false ≡ is_object v
    → RefinesAlgorithm s (k v) t a → RefinesAlgorithm s (to_primitive h v >>= k) t a
at_once s t h v k a is refines = subst (λ p. RefinesAlgorithm s (p >>= k) t a) (sym (primitive_is h v is)) refines

pub number_at_once : (s t : State) (v : Value) (k : Number → Algorithm Value) (a : Act) → false ≡ is_object v
    → RefinesAlgorithm s (number_of_primitive v >>= k) t a → RefinesAlgorithm s (to_number v >>= k) t a
unfolding to_number
number_at_once s t v k a is refines =
    subst (λ q. RefinesAlgorithm s q t a) (chained (to_primitive number_hint v) number_of_primitive k)
    (at_once s t number_hint v (λ p. number_of_primitive p >>= k) a is refines)

-- the observer is told of an operation, and then a frame goes on
pub emits_for : (s : State) (frames : List Frame) (id : OpId) (o p : Op) (f g : EmitFrame) → p ≡ o → g ≡ f
    → frames ≡ frame.Told g ∷ s.stack
    → RefinesExpression s (Emit (id, o) (emit_after f)) (record s { stack = frames }) (act.Emit id p)
emits_for s frames id o p f g held goes is =
    subst (λ (x : Op). RefinesExpression s (Emit (id, x) (emit_after f)) (record s { stack = frames })
    (act.Emit id p)) held
    (subst (λ (x : EmitFrame). RefinesExpression s (Emit (id, p) (emit_after x)) (record s { stack = frames })
    (act.Emit id p)) goes
    (record {
      is = λ kept told. ap (λ (l : List Frame). behaviour_after kept told (record s { stack = l }) (act.Emit id p)) is;
    }))

-- the observer is told of an operation, and then a value is given
pub emits_giving : (s : State) (frames : List Frame) (id : OpId) (o p : Op) (v : Value) → p ≡ o
    → frames ≡ frame.Give v ∷ s.stack
    → RefinesExpression s (Emit (id, o) (give v)) (record s { stack = frames }) (act.Emit id p)
emits_giving s frames id o p v held is =
    subst (λ (x : Op). RefinesExpression s (Emit (id, x) (give v)) (record s { stack = frames }) (act.Emit id p)) held
    (record {
      is = λ kept told. ap (λ (l : List Frame). behaviour_after kept told (record s { stack = l }) (act.Emit id p)) is;
    })

-- until the next step, what the observer is told and the frame may do no more than the frame and the act
pub told_falls : (s : State) (frames : List Frame) (id : OpId) (p : Op) (f g : EmitFrame) → g ≡ f
    → frames ≡ frame.Told g ∷ s.stack → RankedBelow s (rank_emit f + 2) (record s { stack = frames }) (act.Emit id p)
told_falls s frames id p f g goes is =
    let same : ranks frames ≡ rank_emit f + ranks s.stack =
    ap ranks is ∙ ap (λ (x : EmitFrame). rank_emit x + ranks s.stack) goes in
    record { left = omega arith; lower = λ _. omega (arith, same) }

-- an operator between two values, of which no hook tells
pub operates : (s t : State) (a : Act) (emitting : Bool) (id : ℕ) (o : BinOp) (x y : Value) → emitting ≡ false
    → RefinesAlgorithm s (binary_result o x y) t a → RefinesExpression s (operate (noting emitting) id o x y) t a
unfolding operate
operates s t a emitting id o x y is refines =
    subst (λ (b : Bool). RefinesExpression s (operate (noting b) id o x y) t a) (sym is)
    (gives_noted s (λ store v. (
      record { 0 = id },
      op.Binary o (seen_of store.heap x) (seen_of store.heap y)
          (seen_of store.heap v),
    )) (lift (binary_result o x y)) t a (gives_works s (binary_result o x y) t a refines))

-- the same, of which a hook tells
pub operates_told : (s t u : State) (a : Act) (emitting : Bool) (id : OpId) (o : BinOp) (x y left right : Value)
    → emitting ≡ true → left ≡ x → right ≡ y → ValueWaits s (waiting.EmitBinary id o left right) t
    → RefinesAlgorithm t (binary_result o x y) u a → RefinesExpression s (operate (noting emitting) id.0 o x y) u a
unfolding operate
operates_told s t u a emitting id o x y left right is first second waits refines =
    subst (λ (b : Bool). RefinesExpression s (operate (noting b) id.0 o x y) u a) (sym is)
    (subst (λ l. RefinesExpression s (emitted l y) u a) first
    (subst (λ r. RefinesExpression s (emitted left r) u a) second (waits.works (binary_result o x y) u a refines)))
  where
    emitted : Value → Value → Part (Answer Value)
    emitted l r =
        lift (binary_result o x y) >>= value_after (table_of s.functions) s.calls (waiting.EmitBinary id o l r)

-- an operator on one value, of which no hook tells
pub operates_on : (s t : State) (a : Act) (emitting : Bool) (id : ℕ) (o : UnKind) (x : Value) → emitting ≡ false
    → RefinesAlgorithm s (unary_result o x) t a → RefinesExpression s (operate_on (noting emitting) id o x) t a
unfolding operate_on
operates_on s t a emitting id o x is refines =
    subst (λ (b : Bool). RefinesExpression s (operate_on (noting b) id o x) t a) (sym is)
    (gives_noted s (λ store v. (record { 0 = id }, op.Unary o (seen_of store.heap x) (seen_of store.heap v)))
    (lift (unary_result o x)) t a (gives_works s (unary_result o x) t a refines))

-- the same, of which a hook tells
pub operates_on_told : (s t u : State) (a : Act) (emitting : Bool) (id : OpId) (o : UnKind) (x operand : Value)
    → emitting ≡ true → operand ≡ x → ValueWaits s (waiting.EmitUnary id o operand) t
    → RefinesAlgorithm t (unary_result o x) u a → RefinesExpression s (operate_on (noting emitting) id.0 o x) u a
unfolding operate_on
operates_on_told s t u a emitting id o x operand is same waits refines =
    subst (λ (b : Bool). RefinesExpression s (operate_on (noting b) id.0 o x) u a) (sym is)
    (subst (λ y. RefinesExpression s (emitted y) u a) same (waits.works (unary_result o x) u a refines))
  where
    emitted : Value → Part (Answer Value)
    emitted y = lift (unary_result o x) >>= value_after (table_of s.functions) s.calls (waiting.EmitUnary id o y)
