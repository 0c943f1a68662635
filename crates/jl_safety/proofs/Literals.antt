-- Literals of arrays, objects and functions: what a literal has made is still of its kind when the literal is done.
use Rattle.std.proofs.Common.{◌≡◌, ℕ, length, Bool, Option, Some, None, refl, sym, ap, subst}
use Rattle.std.specs.Prelude.{codes, false, true, if◌then◌else◌}
use Rattle.jl_value.specs.declared.object.Class.TheVariants as class
use Rattle.jl_value.specs.declared.object.ObjId.{ObjId}
use Rattle.jl_value.specs.declared.value.Value.{Value}
use Rattle.jl_value.specs.declared.value.Value.TheVariants as value
use Rattle.jl_heap.specs.Define.{length_name}
use Rattle.jl_heap.specs.Objects.{Name}
use Rattle.jl_heap.specs.declared.inner.Inner.TheVariants as inner
use Rattle.jl_heap.specs.declared.property.Prop.TheVariants.{Plain}
use Rattle.jl_op.specs.declared.op.Op.{Op}
use Rattle.jl_op.specs.declared.op.Op.TheVariants as op
use Rattle.jl_effects.specs.Effects.{Step}
use Rattle.jl_effects.proofs.Chains.{row-and_then}
use Rattle.jl_meaning.specs.Changes.{apply, NewBinding, NewEnvironment, NewObject, StoreChange}
use Rattle.jl_meaning.specs.Defining.{define_own_property, value_change}
use Rattle.jl_meaning.specs.FunctionObjects.{add_poison, create_function, function_name, function_params, is_strict}
use Rattle.jl_meaning.specs.FunctionObjects.{make_function, make_function_expression, make_named, whole}
use Rattle.jl_meaning.specs.Intrinsics.{array_prototype, function_prototype, object_prototype}
use Rattle.jl_meaning.specs.Noting.{note_or_misuse, performs}
use Rattle.jl_meaning.specs.Parts.{add_property, change_store, fault_of, give, continue_with, gives, lift, new_object}
use Rattle.jl_meaning.specs.Parts.{throws, ◌>>=◌, Algorithm, Answer, CallOf, Func, Part}
use Rattle.jl_meaning.specs.Store.{next_environment, next_object, Store}
use Rattle.jl_meaning.specs.forms.Literals.{end_array, literal_of, literal_op, new_array, new_plain_object, of_array}
use Rattle.jl_meaning.specs.forms.Literals.{of_function, of_object}
use Rattle.jl_ast.specs.Table as functions
use Rattle.jl_safety.proofs.Changes.{keeps_change, keeps_then, new_made, still_made, IsMade, Keeps}
use Rattle.jl_safety.proofs.Relation.{from_then, lift_from, From, Safe}

-- a literal that has made what its form makes
literal_done : (form : Option Op → Option Op) (id : ℕ) (v : Value) (made : Op) (s t : Store)
    → form (literal_op t.heap v) ≡ Some made → Keeps s t → From t (λ r u. Keeps s u) (literal_of form id v)
unfolding literal_of
literal_done form id v made s t e kept =
    subst (λ o. From t (λ r u. Keeps s u) (note_or_misuse performs id v o)) (sym e) kept

-- OBJECTS
pub object_safe : (id : ℕ) (f : ObjId → Part (Answer (Unit {0}))) → ((o : ObjId) → Safe (f o))
    → Safe (Step (lift new_plain_object >>= (λ object. f object >>= (λ done.
    literal_of of_object id (value.Obj object)))))
object_safe id f x = record {
  at = λ s.
      let o : ObjId = next_object s in
      let c = NewObject class.Object (Some object_prototype) inner.Nothing in
      from_then (apply c s) (λ r t. Keeps (apply c s) t) (λ r t. Keeps s t) (f o)
      (continue_with (λ done. literal_of of_object id (value.Obj o))) ((x o).at (apply c s))
      (λ r t kept. on s o (apply c s) (keeps_change c s)
      (new_made s.heap class.Object (Some object_prototype) inner.Nothing (op.ObjectLiteral o) refl) r t kept);
}
  where
    on : (s : Store) (o : ObjId) (made : Store) → Keeps s made → IsMade o (op.ObjectLiteral o) made.heap
        → (r : Answer (Unit {0})) (t : Store) → Keeps made t
        → From t (λ r u. Keeps s u) (continue_with (λ done. literal_of of_object id (value.Obj o)) r)
    on s o made new m (gives a) t kept =
        literal_done of_object id (value.Obj o) (op.ObjectLiteral o) s t (ap of_object (still_made m kept.heap).is)
        (keeps_then s made t new kept)
    on s o made new m (throws v) t kept = keeps_then s made t new kept

-- ARRAYS
array_done : (id n : ℕ) (array : ObjId) (s t : Store) → Keeps s t → IsMade array (op.ArrayLiteral array) t.heap
    → From t (λ r u. Keeps s u) (end_array id array n)
unfolding end_array
array_done id n array s t new m =
    from_then t (λ r u. Keeps t u) (λ r u. Keeps s u) (lift define)
    (continue_with (λ done. literal_of of_array id (value.Obj array))) (lift_from define t) on
  where
    define : Algorithm Bool
    define = define_own_property array length_name (value_change (whole n))

    on : (r : Answer Bool) (u : Store) → Keeps t u
        → From u (λ r u. Keeps s u) (continue_with (λ done. literal_of of_array id (value.Obj array)) r)
    on (gives a) u kept =
        literal_done of_array id (value.Obj array) (op.ArrayLiteral array) s u (ap of_array (still_made m kept.heap).is)
        (keeps_then s t u new kept)
    on (throws v) u kept = keeps_then s t u new kept

pub array_safe : (id : ℕ) (f : ObjId → Part (Answer ℕ)) → ((o : ObjId) → Safe (f o))
    → Safe (Step (lift new_array >>= (λ array. f array >>= (λ n. end_array id array n))))
array_safe id f x = record {
  at = λ s.
      let o : ObjId = next_object s in
      let c = NewObject class.Array (Some array_prototype) inner.Nothing in
      from_then (apply c s) (λ r t. Keeps (apply c s) t) (λ r t. Keeps s t) (f o)
      (continue_with (λ n. end_array id o n)) ((x o).at (apply c s))
      (λ r t kept. on s o (apply c s) (keeps_change c s)
      (new_made s.heap class.Array (Some array_prototype) inner.Nothing (op.ArrayLiteral o) refl) r t kept);
}
  where
    on : (s : Store) (o : ObjId) (made : Store) → Keeps s made → IsMade o (op.ArrayLiteral o) made.heap
        → (r : Answer ℕ) (t : Store) → Keeps made t
        → From t (λ r u. Keeps s u) (continue_with (λ n. end_array id o n) r)
    on s o made new m (gives n) t kept =
        array_done id n o s t (keeps_then s made t new kept) (still_made m kept.heap)
    on s o made new m (throws v) t kept = keeps_then s made t new kept

-- FUNCTIONS
-- what is given is a function of the script
abbrev FunctionIsMade : Store → Answer ObjId → Store → Type 0
FunctionIsMade s (gives f) t = Keeps s t × (number : ℕ) × IsMade f (op.FunctionLiteral f number) t.heap
FunctionIsMade s (throws v) t = Keeps s t

-- what a new function object is given
abbrev equip_function : (strict : Bool) → (params : ℕ) → (f : ObjId) → Algorithm (Unit {0})
equip_function strict params f = do
  _ ← add_property f length_name (Plain (whole params) false false false)
  proto ← new_object class.Object (Some object_prototype) inner.Nothing
  _ ← add_property proto (codes "constructor") (Plain (value.Obj f) true false true)
  _ ← add_property f (codes "prototype") (Plain (value.Obj proto) true false false)
  if strict then add_poison f else give tt

created : (strict : Bool) (number params env : ℕ) (s : Store)
    → From s (λ r t. FunctionIsMade s r t) (lift (create_function strict number params env))
unfolding create_function
created strict number params env s =
    subst (λ p. From t (λ r u. FunctionIsMade s r u) p)
    (sym (row-and_then CallOf fault_of (equip_function strict params f) (continue_with (λ done. give f))))
    (from_then t (λ r u. Keeps t u) (λ r u. FunctionIsMade s r u) (lift (equip_function strict params f))
    (λ r. lift (continue_with (λ done. give f) r)) (lift_from (equip_function strict params f) t) on)
  where
    f : ObjId
    f = next_object s

    c : StoreChange
    c = NewObject class.Function (Some function_prototype) (inner.Script number env)

    t : Store
    t = apply c s

    on : (r : Answer (Unit {0})) (u : Store) → Keeps t u
        → From u (λ r w. FunctionIsMade s r w) (lift (continue_with (λ done. give f) r))
    on (gives a) u kept = (
      keeps_then s t u (keeps_change c s) kept,
      number,
      still_made (new_made s.heap class.Function (Some function_prototype) (inner.Script number env)
          (op.FunctionLiteral f number) refl) kept.heap,
    )
    on (throws v) u kept = keeps_then s t u (keeps_change c s) kept

named : (outer : Bool) (env : ℕ) (f : Func) (name : Option Name) (s : Store)
    → From s (λ r t. FunctionIsMade s r t) (lift (make_named outer env f name))
named outer env f None s =
    created (is_strict outer f) (functions.number_of f) (length (function_params f)) env s
named outer env f (Some x) s =
    subst (λ p. From t (λ r u. FunctionIsMade s r u) p)
    (sym (row-and_then CallOf fault_of make (continue_with bind_name)))
    (from_then t (λ r u. FunctionIsMade t r u) (λ r u. FunctionIsMade s r u) (lift make)
    (λ r. lift (continue_with bind_name r))
    (created (is_strict outer f) (functions.number_of f) (length (function_params f)) (next_environment s) t) on)
  where
    t : Store
    t = apply (NewEnvironment env) s

    make : Algorithm ObjId
    make = make_function outer (next_environment s) f

    bound : ObjId → StoreChange
    bound id = NewBinding (next_environment s) (record { name = x; value = value.Obj id; mutable = false })

    bind_name : ObjId → Algorithm ObjId
    bind_name id = change_store (bound id) >>= (λ done. give id)

    on : (r : Answer ObjId) (u : Store) → FunctionIsMade t r u
        → From u (λ r w. FunctionIsMade s r w) (lift (continue_with bind_name r))
    on (gives id) u h = (
      keeps_then s t (apply (bound id) u) (keeps_change (NewEnvironment env) s)
          (keeps_then t u (apply (bound id) u) h.0 (keeps_change (bound id) u)),
      h.1,
      still_made h.2 (keeps_change (bound id) u).heap,
    )
    on (throws v) u h = keeps_then s t u (keeps_change (NewEnvironment env) s) h

pub function_safe : (id : ℕ) (outer : Bool) (env : ℕ) (f : Func)
    → Safe (lift (make_function_expression outer env f) >>= (λ object. literal_of of_function id (value.Obj object)))
unfolding make_function_expression
function_safe id outer env f = record {
  at = λ s.
      from_then s (λ r t. FunctionIsMade s r t) (λ r t. Keeps s t) (lift (make_named outer env f (function_name f)))
      (continue_with (λ object. literal_of of_function id (value.Obj object))) (named outer env f (function_name f) s)
      (λ r t h. on s r t h);
}
  where
    on : (s : Store) (r : Answer ObjId) (t : Store) → FunctionIsMade s r t
        → From t (λ r u. Keeps s u) (continue_with (λ object. literal_of of_function id (value.Obj object)) r)
    on s (gives o) t h =
        literal_done of_function id (value.Obj o) (op.FunctionLiteral o h.1) s t (ap of_function h.2.is) h.0
    on s (throws v) t h = h
