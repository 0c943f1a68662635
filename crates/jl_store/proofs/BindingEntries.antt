-- Bindings and the entries that hold them.
use Rattle.std.proofs.Common.{◌≡◌, refl, sym, ap, ◌∙◌, Bool, true, false, List, [], ◌∷◌, ◌++◌, Some, None, ℕ, arith}
use Rattle.std.proofs.lemmas.List.{map-append}
use Rattle.std.proofs.lemmas.Option.{same_Some}
use Rattle.std.proofs.lemmas.Slice.Eq.{bytes_eq-Decides}
use Rattle.std.specs.Prelude.{option_map}
use Rattle.std.specs.Str.{bytes_eq}
use Rattle.jl_named.specs.declared.named_list.Named.{Named}
use Rattle.jl_named.specs.Named.{item_named, with_item, AreApart}
use Rattle.jl_named.proofs.PlaceLemmas.{no_other, none_named, none_written, rest_apart, rest_others, Others}
use Rattle.jl_value.specs.declared.value.Value.{Value}
use Rattle.jl_meaning.specs.Changes.{rebound}
use Rattle.jl_meaning.specs.Store.{binding_named}
use Rattle.jl_store.specs.Environments.{bound_to}
use Rattle.jl_store.specs.declared.environments.Bound.{Bound}
use Rattle.jl_store.specs.inner.Inside.{bindings_of}

abbrev Entry : Type 0
Entry = Named Bound

-- the binding of a name is what stands under it
pub binding_found : (x : List ℕ) (es : List Entry)
    → option_map (bound_to x) (item_named x es) ≡ binding_named x (bindings_of es)
binding_found x [] = refl
binding_found x (e ∷ es) = by (bytes_eq e.name x) refl (binding_found x es)
  where
    by : (same : Bool) → bytes_eq e.name x ≡ same
        → option_map (bound_to x) (item_named x es) ≡ binding_named x (bindings_of es)
        → option_map (bound_to x) (item_named x (e ∷ es)) ≡ binding_named x (bindings_of (e ∷ es))
    by true same rest =
        rw same (ap (λ n. Some (bound_to n e.item)) (sym ((bytes_eq-Decides e.name x).0 same)))
    by false same rest = rw same rest

-- one more entry is one more binding
pub bindings_pushed : (es : List Entry) (x : List ℕ) (b : Bound)
    → bindings_of (es ++ record { name = x; item = b } ∷ []) ≡ bindings_of es ++ bound_to x b ∷ []
bindings_pushed es x b = map-append _ es (record { name = x; item = b } ∷ [])

-- where nothing stands under a name, its binding has no other value
others_stay : (x : List ℕ) (v : Value) (es : List Entry) → Others x es → bindings_of es ≡ rebound x v (bindings_of es)
others_stay x v [] others = refl
others_stay x v (e ∷ es) others =
    let here : bytes_eq e.name x ≡ false = others 0 e (omega arith) in
    rw here (ap (λ l. bound_to e.name e.item ∷ l) (others_stay x v es (rest_others x e es others)))

pub unbound_stays : (x : List ℕ) (v : Value) (es : List Entry) → item_named x es ≡ None
    → bindings_of es ≡ rebound x v (bindings_of es)
unbound_stays x v es none = others_stay x v es (none_named x es (rw none refl))

-- another value under a name is another value of its binding
pub rebound_is : (x : List ℕ) (v : Value) (b : Bound) (es : List Entry) → AreApart es → item_named x es ≡ Some b
    → bindings_of (with_item es x (record b { value = v })) ≡ rebound x v (bindings_of es)
rebound_is x v b [] apart is = refl
rebound_is x v b (e ∷ es) apart is =
    by (bytes_eq e.name x) refl is (rebound_is x v b es (rest_apart e es apart))
  where
    w : Bound
    w = record b { value = v }

    by : (same : Bool) → bytes_eq e.name x ≡ same → item_named x (e ∷ es) ≡ Some b
        → (item_named x es ≡ Some b → bindings_of (with_item es x w) ≡ rebound x v (bindings_of es))
        → bindings_of (with_item (e ∷ es) x w) ≡ rebound x v (bindings_of (e ∷ es))
    by true same is rest =
        let held : e.item ≡ b = same_Some e.item b (rw same at is) in
        let others = no_other x e es apart same in
        rw same (
        ap (λ (i : Bound). bound_to e.name (record i { value = v }) ∷ bindings_of (with_item es x w)) (sym held)
        ∙ ap (λ l. bound_to e.name (record e.item { value = v }) ∷ l)
        (ap bindings_of (sym (none_written x w es others)) ∙ others_stay x v es others)
        )
    by false same is rest = rw same (ap (λ l. bound_to e.name e.item ∷ l) (rest (rw same at is)))

-- what stands under a name is written back
pub written_back : (x : List ℕ) (b : Bound) (es : List Entry) → AreApart es → item_named x es ≡ Some b
    → with_item es x b ≡ es
written_back x b [] apart is = refl
written_back x b (e ∷ es) apart is =
    by (bytes_eq e.name x) refl is (written_back x b es (rest_apart e es apart))
  where
    by : (same : Bool) → bytes_eq e.name x ≡ same → item_named x (e ∷ es) ≡ Some b
        → (item_named x es ≡ Some b → with_item es x b ≡ es) → with_item (e ∷ es) x b ≡ e ∷ es
    by true same is rest =
        let held : e.item ≡ b = same_Some e.item b (rw same at is) in
        rw same (
        ap (λ i. record e { item = i } ∷ with_item es x b) (sym held)
        ∙ ap (λ l. e ∷ l) (sym (none_written x b es (no_other x e es apart same)))
        )
    by false same is rest = rw same (ap (λ l. e ∷ l) (rest (rw same at is)))
