-- Literals: primitive values, arrays, objects and functions.
use Rattle.std.proofs.Common.{◌≡◌, ℕ, suc, ◌≤◌, [], ◌∷◌, false, Option, Some, None, refl, sym, subst, arith}
use Rattle.jl_value.specs.declared.object.ObjId.{ObjId}
use Rattle.jl_value.specs.declared.value.Seen.{Seen}
use Rattle.jl_value.specs.declared.value.Value.{Value}
use Rattle.jl_value.specs.declared.value.Value.TheVariants as value
use Rattle.jl_heap.specs.Define.{length_name}
use Rattle.jl_heap.specs.Objects.{Objects}
use Rattle.jl_op.specs.Chosen.{Kinds}
use Rattle.jl_op.specs.Kinds.{kind_of}
use Rattle.jl_op.specs.declared.kind.OpKind.TheVariants as kind
use Rattle.jl_op.specs.declared.op.Op.{Op}
use Rattle.jl_op.specs.declared.op.Op.TheVariants as op
use Rattle.jl_effects.specs.Effects.{Step}
use Rattle.jl_effects.specs.Matching.{ends, fails, both, extra, looks, peeks, told, own, spare, plus}
use Rattle.jl_meaning.specs.Defining.{define_own_property, value_change}
use Rattle.jl_meaning.specs.FunctionObjects.{whole}
use Rattle.jl_meaning.specs.Noting.{performs, emits, note_or_misuse}
use Rattle.jl_meaning.specs.Parts.{Algorithm, Context, Part, Answer, ◌>>=◌, lift}
use Rattle.jl_meaning.specs.Store.{Store}
use Rattle.jl_meaning.specs.forms.HookCalls.{makes}
use Rattle.jl_meaning.specs.forms.Hooks.{enter_hook}
use Rattle.jl_meaning.specs.forms.Literals.{end_array, literal, literal_of, literal_op, new_array, new_plain_object}
use Rattle.jl_meaning.specs.forms.Literals.{of_array, of_function, of_object}
use Rattle.jl_simulation.proofs.Relation.{Matched, done, bind, algorithm, lifted, bind2, quiet, ExpressionMatch}
use Rattle.jl_simulation.proofs.Relation.{EvenMatch}

-- T of a value
abbrev pub tell_literal : (id : ℕ) → Context → Value → Part (Answer Value)
tell_literal id k v = Step (enter_hook k id makes (v ∷ []))

-- the form keeps operations of its kind alone
abbrev Keeps : (Option Op → Option Op) → Type 0
Keeps form = (x : Option Op) (o : Op) → form x ≡ Some o → x ≡ Some o

array_keeps : Keeps of_array
array_keeps (Some (op.ArrayLiteral id)) o e = e
array_keeps _ o e = cc

object_keeps : Keeps of_object
object_keeps (Some (op.ObjectLiteral id)) o e = e
object_keeps _ o e = cc

function_keeps : Keeps of_function
function_keeps (Some (op.FunctionLiteral id n)) o e = e
function_keeps _ o e = cc

-- and these are not chosen
abbrev Silent : Kinds → (Option Op → Option Op) → Type 0
Silent chosen form = (x : Option Op) (o : Op) → form x ≡ Some o → chosen (kind_of o) ≡ false

same_silent : (chosen : Kinds) (o q : Op) → chosen (kind_of o) ≡ false → Some o ≡ Some q → chosen (kind_of q) ≡ false
same_silent chosen o q e is = cc

array_silent : (chosen : Kinds) → chosen kind.ArrayLiteral ≡ false → Silent chosen of_array
array_silent chosen e (Some (op.ArrayLiteral id)) o is = same_silent chosen (op.ArrayLiteral id) o e is
array_silent chosen e _ o is = cc

object_silent : (chosen : Kinds) → chosen kind.ObjectLiteral ≡ false → Silent chosen of_object
object_silent chosen e (Some (op.ObjectLiteral id)) o is = same_silent chosen (op.ObjectLiteral id) o e is
object_silent chosen e _ o is = cc

function_silent : (chosen : Kinds) → chosen kind.FunctionLiteral ≡ false → Silent chosen of_function
function_silent chosen e (Some (op.FunctionLiteral id n)) o is = same_silent chosen (op.FunctionLiteral id n) o e is
function_silent chosen e _ o is = cc

module _ {chosen : Kinds} where
  -- the hook emits the operation as it stands when the parts of the literal have been evaluated
  literal_to : (id id' : ℕ) (k : Context) (v : Value) {s : Store} {c d : ℕ} → suc d ≤ c
      → Matched chosen s c d (literal performs id v) (literal performs id' v >>= tell_literal id k)
  unfolding literal enter_hook
  literal_to id id' k v {s} {c} {d} le =
      let at : (o : Option Op) → literal_op s.heap v ≡ o
      → Matched chosen s c d (note_or_misuse performs id v o) (note_or_misuse performs id' v o >>= tell_literal id k) =
      λ o. elim o as (λ o. literal_op s.heap v ≡ o
      → Matched chosen s c d (note_or_misuse performs id v o) (note_or_misuse performs id' v o >>= tell_literal id k)) [
        | None ↦ λ e. fails
        | Some o ↦ λ e. own (spare {c = suc d} le (extra (peeks
            (subst (λ q. Matched chosen s d d (note_or_misuse performs id v (Some o)) (note_or_misuse emits id v q))
            (sym e)
            (told done)))))
      ] in
      looks (peeks (at (literal_op s.heap v) refl))

  pub literal_told : (k : Context) (v : Value) (id id' : ℕ)
      → ExpressionMatch chosen (Step (literal performs id v))
      (Step (Step (literal performs id' v) >>= tell_literal id k))
  literal_told k v id id' = record { at = λ s c. both (extra (literal_to id id' k v (omega arith))) }

  pub literal_silent : (v : Value) (f : Seen) (id id' : ℕ)
      → ((heap : Objects) → literal_op heap v ≡ Some (op.Literal f)) → chosen kind.Literal ≡ false
      → ExpressionMatch chosen (Step (literal performs id v)) (Step (literal performs id' v))
  unfolding literal
  literal_silent v f id id' is e = record {
    at = λ s c. both (looks (peeks (subst
        (λ o. Matched chosen s (plus 31 c) (plus 4 c) (note_or_misuse performs id v o)
        (note_or_misuse performs id' v o))
        (sym (is s.heap)) (quiet e (own (ends (omega arith)))))));
  }

  -- the literal of a form
  form_to : (form : Option Op → Option Op) → Keeps form → (id id' : ℕ) (k : Context) (v : Value) {s : Store} {c d : ℕ}
      → suc d ≤ c → Matched chosen s c d (literal_of form id v) (literal_of form id' v >>= tell_literal id k)
  unfolding literal_of literal enter_hook
  form_to form is id id' k v {s} {c} {d} le =
      let at : (o : Option Op) → form (literal_op s.heap v) ≡ o
      → Matched chosen s c d (note_or_misuse performs id v o) (note_or_misuse performs id' v o >>= tell_literal id k) =
      λ o. elim o as (λ o. form (literal_op s.heap v) ≡ o
      → Matched chosen s c d (note_or_misuse performs id v o) (note_or_misuse performs id' v o >>= tell_literal id k)) [
        | None ↦ λ e. fails
        | Some o ↦ λ e. own (spare {c = suc d} le (extra (peeks
            (subst (λ q. Matched chosen s d d (note_or_misuse performs id v (Some o)) (note_or_misuse emits id v q))
            (sym (is (literal_op s.heap v) o e)) (told done)))))
      ] in
      looks (peeks (at (form (literal_op s.heap v)) refl))

  form_silent : (form : Option Op → Option Op) → Silent chosen form → (id id' : ℕ) (v : Value) {s : Store} {c d : ℕ}
      → d ≤ c → Matched chosen s c d (literal_of form id v) (literal_of form id' v)
  unfolding literal_of
  form_silent form is id id' v {s} {c} {d} le =
      let at : (o : Option Op) → form (literal_op s.heap v) ≡ o
      → Matched chosen s c d (note_or_misuse performs id v o) (note_or_misuse performs id' v o) =
      λ o. elim o as (λ o. form (literal_op s.heap v) ≡ o
      → Matched chosen s c d (note_or_misuse performs id v o) (note_or_misuse performs id' v o)) [
        | None ↦ λ e. fails
        | Some o ↦ λ e. quiet (is (literal_op s.heap v) o e) (own (ends le))
      ] in
      looks (peeks (at (form (literal_op s.heap v)) refl))

  pub array_told : (k : Context) {f f' : ObjId → Part (Answer ℕ)} (id id' : ℕ)
      → ((a : ObjId) → EvenMatch chosen (f a) (f' a))
      → ExpressionMatch chosen (Step (lift new_array >>= (λ a. (f a >>= (λ n. end_array id a n)))))
      (Step (Step (lift new_array >>= (λ a. (f' a >>= (λ n. end_array id' a n)))) >>= tell_literal id k))
  unfolding end_array
  array_told k {f' = f'} id id' x = record {
    at = λ s c. both (extra (bind2 (λ a. (f' a >>= (λ n. end_array id' a n))) (tell_literal id k) (omega arith)
        (algorithm new_array)
        (λ a t. bind2 (λ n. end_array id' a n) (tell_literal id k) (omega arith) ((x a).at t _)
        (λ n t. bind2 (λ _. literal_of of_array id' (value.Obj a)) (tell_literal id k) (omega arith)
        (algorithm (define_own_property a length_name (value_change (whole n))))
        (λ u t. form_to of_array array_keeps id id' k (value.Obj a) (omega arith))))));
  }

  pub array_as_is : {f f' : ObjId → Part (Answer ℕ)} (id id' : ℕ) → chosen kind.ArrayLiteral ≡ false
      → ((a : ObjId) → EvenMatch chosen (f a) (f' a))
      → ExpressionMatch chosen (Step (lift new_array >>= (λ a. (f a >>= (λ n. end_array id a n)))))
      (Step (lift new_array >>= (λ a. (f' a >>= (λ n. end_array id' a n)))))
  unfolding end_array
  array_as_is id id' e x = record {
    at = λ s c. both (lifted new_array (omega arith) (λ a t. bind (omega arith) ((x a).at t _)
        (λ n t. lifted (define_own_property a length_name (value_change (whole n))) (omega arith)
        (λ u t. form_silent of_array (array_silent chosen e) id id' (value.Obj a) (omega arith)))));
  }

  pub object_told : (k : Context) {f f' : ObjId → Part (Answer (Unit {0}))} (id id' : ℕ)
      → ((a : ObjId) → EvenMatch chosen (f a) (f' a))
      → ExpressionMatch chosen
      (Step (lift new_plain_object >>= (λ a. (f a >>= (λ _. literal_of of_object id (value.Obj a))))))
      (Step (Step (lift new_plain_object >>= (λ a. (f' a >>= (λ _. literal_of of_object id' (value.Obj a)))))
      >>= tell_literal id k))
  object_told k {f' = f'} id id' x = record {
    at = λ s c. both (extra (bind2 (λ a. (f' a >>= (λ _. literal_of of_object id' (value.Obj a)))) (tell_literal id k)
        (omega arith) (algorithm new_plain_object)
        (λ a t. bind2 (λ _. literal_of of_object id' (value.Obj a)) (tell_literal id k) (omega arith) ((x a).at t _)
        (λ n t. form_to of_object object_keeps id id' k (value.Obj a) (omega arith)))));
  }

  pub object_as_is : {f f' : ObjId → Part (Answer (Unit {0}))} (id id' : ℕ) → chosen kind.ObjectLiteral ≡ false
      → ((a : ObjId) → EvenMatch chosen (f a) (f' a))
      → ExpressionMatch chosen
      (Step (lift new_plain_object >>= (λ a. (f a >>= (λ _. literal_of of_object id (value.Obj a))))))
      (Step (lift new_plain_object >>= (λ a. (f' a >>= (λ _. literal_of of_object id' (value.Obj a))))))
  object_as_is id id' e x = record {
    at = λ s c. both (lifted new_plain_object (omega arith) (λ a t. bind (omega arith) ((x a).at t _)
        (λ n t. form_silent of_object (object_silent chosen e) id id' (value.Obj a) (omega arith))));
  }

  pub function_told : (k : Context) (p p' : Algorithm ObjId) (id id' : ℕ) → p ≡ p'
      → ExpressionMatch chosen (Step (lift p >>= (λ f. literal_of of_function id (value.Obj f))))
      (Step (Step (lift p' >>= (λ f. literal_of of_function id' (value.Obj f))) >>= tell_literal id k))
  function_told k p p' id id' e =
      subst (λ p'. ExpressionMatch chosen (Step (lift p >>= (λ f. literal_of of_function id (value.Obj f))))
      (Step (Step (lift p' >>= (λ f. literal_of of_function id' (value.Obj f))) >>= tell_literal id k))) e
      (record {
        at = λ s c. both (extra (bind2 (λ f. literal_of of_function id' (value.Obj f)) (tell_literal id k) (omega arith)
            (algorithm p) (λ f t. form_to of_function function_keeps id id' k (value.Obj f) (omega arith))));
      })

  pub function_as_is : (p p' : Algorithm ObjId) (id id' : ℕ) → chosen kind.FunctionLiteral ≡ false → p ≡ p'
      → ExpressionMatch chosen (Step (lift p >>= (λ f. literal_of of_function id (value.Obj f))))
      (Step (lift p' >>= (λ f. literal_of of_function id' (value.Obj f))))
  function_as_is p p' id id' e is =
      subst (λ p'. ExpressionMatch chosen (Step (lift p >>= (λ f. literal_of of_function id (value.Obj f))))
      (Step (lift p' >>= (λ f. literal_of of_function id' (value.Obj f))))) is
      (record {
        at = λ s c. both (lifted p (omega arith)
            (λ f t. form_silent of_function (function_silent chosen e) id id' (value.Obj f) (omega arith)));
      })
