-- Properties of object literals.
use Rattle.std.proofs.Common.{ℕ, None, Some, subst, arith}
use Rattle.jl_ast.specs.Tree.{Text}
use Rattle.jl_value.specs.declared.object.ObjId.{ObjId}
use Rattle.jl_value.specs.declared.value.Value.{Value}
use Rattle.jl_op.specs.Chosen.{Kinds}
use Rattle.jl_op.specs.Ids.{with_ids}
use Rattle.jl_meaning.specs.Defining.{define_own_property, plain_change}
use Rattle.jl_meaning.specs.FunctionObjects.{make_function}
use Rattle.jl_meaning.specs.Parts.{lift, ◌>>=◌, Context, Func}
use Rattle.jl_meaning.specs.Store.{Store}
use Rattle.jl_meaning.specs.forms.Literals.{accessor_change, define_entry}
use Rattle.jl_meaning.proofs.MadeFunctions.{make_same}
use Rattle.jl_simulation.specs.Weaving.{weave}
use Rattle.jl_simulation.proofs.MadeFunctions.{made_alike}
use Rattle.jl_simulation.proofs.Relation.{algorithm, bind, Matched}

module _ {chosen : Kinds} where
  -- the accessors of an object literal
  pub getter_to : (n : ℕ) (c : Context) (object : ObjId) (k : Text) (f : Func) (s : Store) (d : ℕ)
      → Matched chosen s d d
      (lift (make_function c.strict c.env f) >>= (λ g. define_entry object k (accessor_change (Some (Some g)) None)))
      (lift (make_function c.strict c.env (with_ids n (weave chosen f)))
      >>= (λ g. define_entry object k (accessor_change (Some (Some g)) None)))
  unfolding define_entry
  getter_to n c object k f s d =
      subst (λ p. Matched chosen s d d
      (lift (make_function c.strict c.env f) >>= (λ g. define_entry object k (accessor_change (Some (Some g)) None)))
      (lift p >>= (λ g. define_entry object k (accessor_change (Some (Some g)) None))))
      (make_same (made_alike chosen n f) c.strict c.env)
      (bind (omega arith) (algorithm (make_function c.strict c.env f))
      (λ g t. algorithm (define_own_property object k (accessor_change (Some (Some g)) None))))

  pub setter_to : (n : ℕ) (c : Context) (object : ObjId) (k : Text) (f : Func) (s : Store) (d : ℕ)
      → Matched chosen s d d
      (lift (make_function c.strict c.env f) >>= (λ g. define_entry object k (accessor_change None (Some (Some g)))))
      (lift (make_function c.strict c.env (with_ids n (weave chosen f)))
      >>= (λ g. define_entry object k (accessor_change None (Some (Some g)))))
  unfolding define_entry
  setter_to n c object k f s d =
      subst (λ p. Matched chosen s d d
      (lift (make_function c.strict c.env f) >>= (λ g. define_entry object k (accessor_change None (Some (Some g)))))
      (lift p >>= (λ g. define_entry object k (accessor_change None (Some (Some g))))))
      (make_same (made_alike chosen n f) c.strict c.env)
      (bind (omega arith) (algorithm (make_function c.strict c.env f))
      (λ g t. algorithm (define_own_property object k (accessor_change None (Some (Some g))))))

  pub entry_to : (object : ObjId) (k : Text) (v : Value) (s : Store) (d : ℕ)
      → Matched chosen s d d (define_entry object k (plain_change v)) (define_entry object k (plain_change v))
  unfolding define_entry
  entry_to object k v s d = algorithm (define_own_property object k (plain_change v))
