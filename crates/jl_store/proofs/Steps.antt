-- Algorithms that begin with a change.
use Rattle.std.proofs.Common.{◌≡◌, refl, sym, ap, ◌∙◌, subst}
use Rattle.jl_value.specs.declared.object.Class.{Class}
use Rattle.jl_value.specs.declared.object.ObjId.{ObjId}
use Rattle.jl_heap.specs.Objects.{Name}
use Rattle.jl_heap.specs.declared.inner.Inner.{Inner}
use Rattle.jl_heap.specs.declared.property.Prop.{Prop}
use Rattle.jl_effects.specs.Running.{Ends, Finish}
use Rattle.jl_meaning.specs.Changes.{NewObject, NewProperty, StoreChange}
use Rattle.jl_meaning.specs.Parts.{add_property, change_store, give, gives, new_object, ◌>>=◌, Algorithm}
use Rattle.jl_meaning.specs.Parts.{AlgorithmFault, Answer}
use Rattle.jl_meaning.specs.Store.{next_object, Store}
use Rattle.jl_store.specs.Changes.{after}
use Rattle.jl_store.specs.BigStep.{refines, BigStep}
use Rattle.std.specs.Prelude.{Option}

-- a change, and then the rest
pub comes_changed : {A : Type 0} {s t u : Store} {e : Finish AlgorithmFault (Answer A)} {q : Algorithm A}
    (c : StoreChange) → t ≡ after c s → BigStep q t u e → BigStep (change_store c >>= (λ _. q)) s u e
comes_changed {A} {s} {t} {u} {e} {q} c made rest = record { refines = subst (λ v. refines q v u e) made rest.refines }

-- a change alone
pub comes_by : {s t : Store} (c : StoreChange) → t ≡ after c s → BigStep (change_store c) s t (Ends (gives tt))
comes_by c made = record { refines = (refl, sym made) }

pub comes_new : {A : Type 0} {s t u : Store} {e : Finish AlgorithmFault (Answer A)} (kind : Class)
    (proto : Option ObjId) (inner : Inner) (id : ObjId) (k : ObjId → Algorithm A) → id ≡ next_object s
    → t ≡ after (NewObject kind proto inner) s → BigStep (k id) t u e
    → BigStep (new_object kind proto inner >>= k) s u e
comes_new {A} {s} {t} {u} {e} kind proto inner id k is made rest = record {
  refines = subst (λ i. refines (k i) (after (NewObject kind proto inner) s) u e) is
      (subst (λ v. refines (k id) v u e) made rest.refines);
}

pub comes_added : {A : Type 0} {s t u : Store} {e : Finish AlgorithmFault (Answer A)} {x y : Name} {p q : Prop}
    {r : Algorithm A} (id : ObjId) → y ≡ x → q ≡ p → t ≡ after (NewProperty id y q) s → BigStep r t u e
    → BigStep (add_property id x p >>= (λ _. r)) s u e
comes_added {A} {s} {t} {u} {e} {x} {y} {p} {q} {r} id x_is p_is made rest =
    let made_so : t ≡ after (NewProperty id x p) s =
    made ∙ ap (λ z. after (NewProperty id z q) s) x_is ∙ ap (λ w. after (NewProperty id x w) s) p_is in
    comes_changed (NewProperty id x p) made_so rest

pub comes_by_adding : {s t : Store} {x y : Name} {p q : Prop} (id : ObjId) → y ≡ x → q ≡ p
    → t ≡ after (NewProperty id y q) s → BigStep (add_property id x p) s t (Ends (gives tt))
comes_by_adding {s} {t} {x} {y} {p} {q} id x_is p_is made =
    comes_by (NewProperty id x p)
    (made ∙ ap (λ z. after (NewProperty id z q) s) x_is ∙ ap (λ r. after (NewProperty id x r) s) p_is)

-- nothing is done
pub comes_to : {A : Type 0} {s : Store} {a : A} → BigStep (give a) s s (Ends (gives a))
comes_to = record { refines = (refl, refl) }
