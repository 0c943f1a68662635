-- Elements that are there, and that are not, before a turn goes on with them.
use Rattle.std.proofs.Common.{◌≡◌, false, true, Bool, None, Option, Some, ℕ}
use Rattle.jl_value.specs.declared.object.ObjId.{ObjId}
use Rattle.jl_value.specs.declared.value.Value.{Value}
use Rattle.jl_meaning.specs.Parts.{◌>>=◌, Algorithm}
use Rattle.jl_meaning.specs.builtins.Elements.{element, get_index, has_index}
use Rattle.jl_state.specs.Rest.{RefinesAlgorithm}
use Rattle.jl_state.specs.declared.act.Act.{Act}
use Rattle.jl_state.specs.declared.state.State.{State}
use Rattle.jl_state.proofs.Chains.{works_assoc}
use Rattle.jl_builtin.proofs.Waits as waits

module _ {A : Type 0} (s u : State) (a : Act) (o : ObjId) (i : ℕ) (f : Option Value → Algorithm A)
    (k : A → Algorithm Value) where
  pub element_there : (b : Bool) → b ≡ has_index s.store o i → b ≡ true
      → RefinesAlgorithm s (get_index o i >>= λ v. f (Some v) >>= k) u a
      → RefinesAlgorithm s (element o i >>= f >>= k) u a
  element_there b is there refines =
      works_assoc s (element o i) f k u a (waits.element_there s o i b (λ found. f found >>= k) u a is there refines)

  pub element_missing : (b : Bool) → b ≡ has_index s.store o i → b ≡ false → RefinesAlgorithm s (f None >>= k) u a
      → RefinesAlgorithm s (element o i >>= f >>= k) u a
  element_missing b is missing refines =
      works_assoc s (element o i) f k u a
      (waits.element_missing s o i b (λ found. f found >>= k) u a is missing refines)
