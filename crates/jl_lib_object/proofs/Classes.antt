-- Objects that values convert to, and their classes (15.2.1, 15.2.4.2).
use Rattle.std.proofs.Common.{◌≡◌, ◌++◌, codes, false, refl, subst, sym, true, List, ℕ}
use Rattle.jl_value.specs.Tests.{is_nothing}
use Rattle.jl_value.specs.Texts.{class_name}
use Rattle.jl_value.specs.declared.object.Class.{Class}
use Rattle.jl_value.specs.declared.object.ObjId.{ObjId}
use Rattle.jl_value.specs.declared.value.Value.{Value}
use Rattle.jl_value.specs.declared.value.Value.TheVariants as value
use Rattle.jl_heap.specs.Objects.{object_at}
use Rattle.jl_effects.specs.Running.{Finish}
use Rattle.jl_meaning.specs.Conversions.{to_object}
use Rattle.jl_meaning.specs.Parts.{give, look, ◌>>=◌, Algorithm, AlgorithmFault}
use Rattle.jl_meaning.specs.Parts as parts
use Rattle.jl_meaning.specs.Store.{Store}
use Rattle.jl_meaning.specs.builtins.Object.{class_text, give_class, object_for, object_to_string}
use Rattle.jl_meaning.specs.forms.Literals.{new_plain_object}
use Rattle.jl_store.specs.BigStep.{BigStep}
use Rattle.jl_state.specs.Rest.{RefinesAlgorithm}
use Rattle.jl_state.specs.declared.act.Act.{Act}
use Rattle.jl_state.specs.declared.act.Act.TheVariants as act
use Rattle.jl_state.specs.declared.state.State.{State}

pub object_new : (v : Value) (s t : Store) (e : Finish AlgorithmFault (parts.Answer ObjId)) → is_nothing v ≡ true
    → BigStep new_plain_object s t e → BigStep (object_for v) s t e
object_new value.Undefined s t e is comes = comes
object_new value.Null s t e is comes = comes
object_new (value.Bool b) s t e is comes = absurd (let differ = is in cc)
object_new (value.Num n) s t e is comes = absurd (let differ = is in cc)
object_new (value.Text x) s t e is comes = absurd (let differ = is in cc)
object_new (value.Obj id) s t e is comes = absurd (let differ = is in cc)

pub object_converted : (v : Value) (s t : Store) (e : Finish AlgorithmFault (parts.Answer ObjId))
    → is_nothing v ≡ false → BigStep (to_object v) s t e → BigStep (object_for v) s t e
object_converted value.Undefined s t e is comes = absurd (let differ = is in cc)
object_converted value.Null s t e is comes = absurd (let differ = is in cc)
object_converted (value.Bool b) s t e is comes = comes
object_converted (value.Num n) s t e is comes = comes
object_converted (value.Text x) s t e is comes = comes
object_converted (value.Obj id) s t e is comes = comes

-- the text of the class of an object
abbrev text_of_class : ObjId → Algorithm Value
text_of_class id = look >>= λ store. give_class (class_name (object_at store.heap id.0).class)

pub class_seen : (s : State) (id : ObjId) (kind : Class) (text : List ℕ) (made : List ℕ)
    → kind ≡ (object_at s.store.heap id.0).class → text ≡ codes "[object " ++ class_name kind ++ codes "]"
    → made ≡ text → RefinesAlgorithm s (text_of_class id) s (act.Give (value.Text made))
class_seen s id kind text made kind_is text_is made_is = record {
  is = (subst (λ k. RefinesAlgorithm s (give_class (class_name k)) s (act.Give (value.Text made))) kind_is
      (subst (λ l. RefinesAlgorithm s (give (value.Text l)) s (act.Give (value.Text made))) text_is
      (subst (λ l. RefinesAlgorithm s (give (value.Text text)) s (act.Give (value.Text l))) (sym made_is)
      (record { is = λ kept told. refl })))).is;
}

-- what is neither undefined nor null is an object, or converts to one
pub class_of_something : (s : State) (v : Value) (t : State) (a : Act) → is_nothing v ≡ false
    → RefinesAlgorithm s (to_object v >>= text_of_class) t a → RefinesAlgorithm s (class_text v) t a
class_of_something s value.Undefined t a is refines = absurd (let differ = is in cc)
class_of_something s value.Null t a is refines = absurd (let differ = is in cc)
class_of_something s (value.Bool b) t a is refines = refines
class_of_something s (value.Num n) t a is refines = refines
class_of_something s (value.Text x) t a is refines = refines
class_of_something s (value.Obj id) t a is refines = refines

-- undefined and null have texts of their own

pub undefined_text : (s : State) (c : parts.Call) (made : List ℕ) → c.this ≡ value.Undefined
    → made ≡ codes "[object Undefined]" → RefinesAlgorithm s (object_to_string c) s (act.Give (value.Text made))
undefined_text s c made is made_is =
    subst (λ v. RefinesAlgorithm s (class_text v) s (act.Give (value.Text made))) (sym is)
    (subst (λ l. RefinesAlgorithm s (class_text value.Undefined) s (act.Give (value.Text l))) (sym made_is)
    (record { is = λ kept told. refl }))

pub null_text : (s : State) (c : parts.Call) (made : List ℕ) → c.this ≡ value.Null → made ≡ codes "[object Null]"
    → RefinesAlgorithm s (object_to_string c) s (act.Give (value.Text made))
null_text s c made is made_is =
    subst (λ v. RefinesAlgorithm s (class_text v) s (act.Give (value.Text made))) (sym is)
    (subst (λ l. RefinesAlgorithm s (class_text value.Null) s (act.Give (value.Text l))) (sym made_is)
    (record { is = λ kept told. refl }))
