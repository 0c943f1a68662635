-- Elements that are added to arrays, and elements and lengths of objects that are taken for arrays.
use Rattle.std.proofs.Common.{◌≡◌, ◌+◌, ◌∙◌, ◌∷◌, codes, drop, pos, subst, sym, true, ℕ}
use Rattle.std.proofs.Common.{Bool, List, Option, Some}
use Rattle.std.specs.Prelude.{IfSome}
use Rattle.jl_num.specs.Arithmetic.{number_of}
use Rattle.jl_num.specs.Number.{Number}
use Rattle.jl_value.specs.declared.object.ObjId.{ObjId}
use Rattle.jl_value.specs.declared.value.Value.{Value}
use Rattle.jl_value.specs.declared.value.Value.TheVariants as value
use Rattle.jl_heap.specs.Define.{length_name}
use Rattle.jl_heap.specs.Objects.{Name}
use Rattle.jl_heap.specs.declared.property.Change.{Change}
use Rattle.jl_effects.specs.Running.{Ends, Fails}
use Rattle.jl_meaning.specs.Defining.{define_own_property, plain_change}
use Rattle.jl_meaning.specs.Parts.{give, gives, or_fault, throws, ◌>>=◌, Algorithm, NumberOutside}
use Rattle.jl_meaning.specs.Putting.{delete, put}
use Rattle.jl_meaning.specs.Store.{Store}
use Rattle.jl_meaning.specs.builtins.Arguments.{give_object}
use Rattle.jl_meaning.specs.builtins.Elements.{add_in_turns, add_index, delete_index, put_length}
use Rattle.jl_meaning.specs.forms.Literals.{index_name}
use Rattle.jl_store.specs.Answers.{ends_with, fault_seen, finish_of}
use Rattle.jl_store.specs.BigStep.{BigStep}
use Rattle.jl_store.specs.declared.answer.AlgorithmFault.{AlgorithmFault}
use Rattle.jl_store.specs.declared.answer.Answer.{Answer}
use Rattle.jl_store.specs.declared.answer.Answer.TheVariants.{Gives, Throws}
use Rattle.jl_store.specs.declared.answer.Finished.{Finished}
use Rattle.jl_store.specs.declared.answer.Finished.TheVariants as ended
use Rattle.jl_store.proofs.Chains.{comes_failed, comes_on, comes_thrown}
use Rattle.jl_store.proofs.Steps.{comes_to}
use Rattle.jl_state.specs.Rest.{RefinesAlgorithm}
use Rattle.jl_state.specs.Steps.{Took}
use Rattle.jl_state.specs.declared.act.Act.{Act}
use Rattle.jl_state.specs.declared.state.State.{State}
use Rattle.jl_state.proofs.Chains.{works_assoc}
use Rattle.jl_builtin.proofs.FoundItems.{some_from, FoundFrom}
use Rattle.jl_builtin.proofs.Waits.{length_is}

-- an element is added, whatever becomes of it
module _ (array : ObjId) (index : ℕ) (v : Value) (x : Name) (change : Change) (from to : Store)
    (name_is : x ≡ index_name index) (change_is : change ≡ plain_change v) (answer : Finished Bool)
    (comes : BigStep (define_own_property array x change) from to (finish_of answer)) where
  defines : (end : Finished Bool) → answer ≡ end
      → BigStep (define_own_property array (index_name index) (plain_change v)) from to (finish_of end)
  defines end is =
      subst (λ (f : Finished Bool). BigStep (define_own_property array (index_name index) (plain_change v)) from to
      (finish_of f)) is
      (subst (λ y. BigStep (define_own_property array y (plain_change v)) from to (finish_of answer)) name_is
      (subst (λ c. BigStep (define_own_property array x c) from to (finish_of answer)) change_is comes))

  pub index_added : (done : Bool) → answer ≡ ended.Gives done
      → BigStep (add_index array index v) from to (Ends (gives tt))
  index_added done is = comes_on (λ _. give tt) (defines (ended.Gives done) is) comes_to

  pub index_thrown : (w : Value) → answer ≡ ended.Throws w → BigStep (add_index array index v) from to (Ends (throws w))
  index_thrown w is = comes_thrown (λ _. give tt) (defines (ended.Throws w) is)

  pub index_failed : (f : AlgorithmFault) → answer ≡ ended.Fails f
      → BigStep (add_index array index v) from to (Fails (fault_seen f))
  index_failed f is = comes_failed (λ _. give tt) (defines (ended.Fails f) is)

-- an element is deleted
module _ (o : ObjId) (index : ℕ) (x : Name) (from to : Store) (name_is : x ≡ index_name index) (answer : Answer Bool)
    (comes : BigStep (delete true (value.Obj o) x) from to (ends_with answer)) where
  deletes : (end : Answer Bool) → answer ≡ end
      → BigStep (delete true (value.Obj o) (index_name index)) from to (ends_with end)
  deletes end is =
      subst (λ (b : Answer Bool). BigStep (delete true (value.Obj o) (index_name index)) from to (ends_with b)) is
      (subst (λ y. BigStep (delete true (value.Obj o) y) from to (ends_with answer)) name_is comes)

  pub index_deleted : (free : Bool) → answer ≡ Gives free → BigStep (delete_index o index) from to (Ends (gives tt))
  index_deleted free is = comes_on (λ _. give tt) (deletes (Gives free) is) comes_to

  pub index_kept : (v : Value) → answer ≡ Throws v → BigStep (delete_index o index) from to (Ends (throws v))
  index_kept v is = comes_thrown (λ _. give tt) (deletes (Throws v) is)

-- a length is put that is a number
pub puts_length : (s : State) (o : ObjId) (n : ℕ) (m : Number) (x : Name) (v : Value) (t : State) (a : Act)
    → number_of (pos n) ≡ Some m → x ≡ codes "length"
    → RefinesAlgorithm s (put true (value.Obj o) x (value.Num m) >>= λ _. give v) t a
    → RefinesAlgorithm s (put_length o n >>= λ _. give v) t a
puts_length s o n m x v t a is named refines =
    subst (λ (q : Option Number). RefinesAlgorithm s (or_fault NumberOutside q >>= (λ m. give (value.Num m))
    >>= (λ w. put true (value.Obj o) length_name w) >>= λ _. give v) t a) (sym is)
    (subst (λ (y : Name). RefinesAlgorithm s (put true (value.Obj o) y (value.Num m) >>= λ _. give v) t a)
    (named ∙ sym length_is) refines)

-- a value becomes an element in a turn, before those that are left
pub fills : (s t : State) (array : ObjId) (from next : ℕ) (values : List Value) (v : Value) (u : State) (a : Act)
    → drop from values ≡ v ∷ drop next values → next ≡ from + 1 → Took s t
    → RefinesAlgorithm t (add_index array from v >>= λ _. add_in_turns array next (drop next values)
    >>= λ _. give_object array) u a
    → RefinesAlgorithm s (add_in_turns array from (drop from values) >>= λ _. give_object array) u a
fills s t array from next values v u a split follows took refines =
    subst (λ l. RefinesAlgorithm s (add_in_turns array from l >>= last) u a) (sym split)
    (took.works (add_index array from v >>= others (from + 1) >>= last) u a
    (works_assoc t (add_index array from v) (others (from + 1)) last u a
    (subst (λ n. RefinesAlgorithm t (add_index array from v >>= λ b. others n b >>= last) u a) follows refines)))
  where
    last : Unit {0} → Algorithm Value
    last _ = give_object array

    others : ℕ → Unit {0} → Algorithm (Unit {0})
    others n _ = add_in_turns array n (drop next values)

-- the same of what was found from an index on
pub fills_found : (s t : State) (array : ObjId) (from next : ℕ) (values list : List Value) (v : Value)
    (found : Option (Value × ℕ)) (u : State) (a : Act) → list ≡ values → FoundFrom from list found
    → IfSome found (λ r. r.1 ≡ from + 1) → found ≡ Some (v, next) → Took s t
    → RefinesAlgorithm t (add_index array from v >>= λ _. add_in_turns array next (drop next values)
    >>= λ _. give_object array) u a
    → RefinesAlgorithm s (add_in_turns array from (drop from values) >>= λ _. give_object array) u a
fills_found s t array from next values list v found u a same there follows is took refines =
    fills s t array from next values v u a (some_from from next list values v found same there is)
    (subst (λ (o : Option (Value × ℕ)). IfSome o (λ r. r.1 ≡ from + 1)) is follows) took refines
