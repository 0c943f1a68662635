-- Properties that are got by their names, as `length`.
use Rattle.std.proofs.Common.{◌≡◌, ◌∙◌, codes, subst, sym, ℕ}
use Rattle.jl_value.specs.declared.object.ObjId.{ObjId}
use Rattle.jl_value.specs.declared.value.Value.{Value}
use Rattle.jl_value.specs.declared.value.Value.TheVariants as value
use Rattle.jl_heap.specs.Define.{length_name}
use Rattle.jl_heap.specs.Objects.{Name}
use Rattle.jl_meaning.specs.Conversions.{to_uint32}
use Rattle.jl_meaning.specs.Getting.{get}
use Rattle.jl_meaning.specs.Parts.{◌>>=◌, Algorithm}
use Rattle.jl_meaning.specs.builtins.Elements.{get_length}
use Rattle.jl_state.specs.Rest.{RefinesAlgorithm}
use Rattle.jl_state.specs.declared.act.Act.{Act}
use Rattle.jl_state.specs.declared.state.State.{State}
use Rattle.jl_state.proofs.Chains.{works_assoc}
use Rattle.jl_builtin.proofs.Waits.{length_is}

-- a property is got by its name, for which a function waits
pub named_got : (s u : State) (a : Act) (o : ObjId) (x y : Name) (k : Value → Algorithm Value) → x ≡ y
    → RefinesAlgorithm s (get (value.Obj o) x >>= k) u a → RefinesAlgorithm s (get (value.Obj o) y >>= k) u a
named_got s u a o x y k is refines = subst (λ z. RefinesAlgorithm s (get (value.Obj o) z >>= k) u a) is refines

pub length_of_item : (s u : State) (a : Act) (o : ObjId) (x : Name) (k : Value → Algorithm Value)
    → x ≡ codes "length" → RefinesAlgorithm s (get (value.Obj o) x >>= k) u a
    → RefinesAlgorithm s (get (value.Obj o) length_name >>= k) u a
length_of_item s u a o x k is refines = named_got s u a o x length_name k (is ∙ sym length_is) refines

pub length_got : (s u : State) (a : Act) (o : ObjId) (x : Name) (k : ℕ → Algorithm Value) → x ≡ codes "length"
    → RefinesAlgorithm s (get (value.Obj o) x >>= λ v. to_uint32 v >>= k) u a
    → RefinesAlgorithm s (get_length o >>= k) u a
length_got s u a o x k is refines =
    works_assoc s (get (value.Obj o) length_name) to_uint32 k u a
    (length_of_item s u a o x (λ v. to_uint32 v >>= k) is refines)
