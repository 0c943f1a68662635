-- What weaving keeps of lists: that there is something in them, that functions have names, one `default` at most, what
-- accessors look like, and what names are.
use Rattle.std.proofs.Common.{ℕ, ◌+◌, Bool, true, false, List, [], ◌∷◌, map, option_map, Option, Some, None}
use Rattle.jl_ast.specs.Tree as tree
use Rattle.jl_ast.specs.Tree.{Forest, Ident, OptionalTree, Sort, Tree}
use Rattle.jl_op.specs.Chosen.{Kinds}
use Rattle.jl_op.specs.Ids.{forest_id_count, forest_with_ids, id_count, ident_with_id, optional_with_ids}
use Rattle.jl_op.specs.Ids.{with_ids}
use Rattle.jl_print.specs.WellFormed.{AreIdentifiers, AreNamed, HasOneDefault, IsEither, IsGetter}
use Rattle.jl_print.specs.WellFormed.{IsOptionalIdentifier, IsSetter, IsSome}
use Rattle.jl_simulation.specs.HookCalls.{without_id}
use Rattle.jl_simulation.specs.Weaving.{weave, woven_forest, woven_optional}

pub name_kept : {S : Type 0} (n : ℕ) (x : Option (Ident S)) → IsOptionalIdentifier x
    → IsOptionalIdentifier (option_map without_id (option_map (λ y. ident_with_id y n) x))
name_kept n None w = w
name_kept n (Some x) w = w

pub names_kept : {S : Type 0} (n : ℕ) (l : List (Ident S)) → AreIdentifiers l
    → AreIdentifiers (map without_id (map (λ y. ident_with_id y n) l))
names_kept n [] w = w
names_kept n (x ∷ l) w = (w.0, names_kept n l w.1)

abbrev no_handler : {S : Type 0} → OptionalTree S tree.handler
no_handler = tree.absent

module _ (chosen : Kinds) where
  pub some_kept : {S : Type 0} {x : Sort} (n : ℕ) (l : Forest S x) → IsSome l
      → IsSome (woven_forest chosen (forest_with_ids n l))
  some_kept n tree.end w = w
  some_kept n (tree.more t l) w = w

  pub finally_kept : {S : Type 0} (n : ℕ) (f : OptionalTree S tree.branch)
      → IsEither (no_handler {S = S}) f
      → IsEither (no_handler {S = Unit {0}}) (woven_optional chosen (optional_with_ids n f))
  finally_kept n tree.absent w = w
  finally_kept n (tree.present f) w = w

  pub default_kept : {S : Type 0} (fresh : Bool) (n : ℕ) (l : Forest S tree.clause) → HasOneDefault fresh l
      → HasOneDefault fresh (woven_forest chosen (forest_with_ids n l))
  default_kept fresh n tree.end w = w
  default_kept fresh n (tree.more (tree.case (tree.present e) b) l) w =
      default_kept fresh (n + id_count (tree.case (tree.present e) b)) l w
  default_kept true n (tree.more (tree.case tree.absent b) l) w =
      default_kept false (n + (0 + forest_id_count b)) l w
  default_kept false n (tree.more (tree.case tree.absent b) l) w = w

  pub named_kept : {S : Type 0} (n : ℕ) (l : Forest S tree.func) → AreNamed l
      → AreNamed (woven_forest chosen (forest_with_ids n l))
  named_kept n tree.end w = w
  named_kept n (tree.more (tree.function m None ps b s) l) w = w
  named_kept n (tree.more (tree.function m (Some x) ps b s) l) w =
      named_kept (n + id_count (tree.function m (Some x) ps b s)) l w

  pub getter_kept : {S : Type 0} (n : ℕ) (f : Tree S tree.func) → IsGetter f → IsGetter (weave chosen (with_ids n f))
  getter_kept n (tree.function m None [] b s) w = w
  getter_kept n (tree.function m None (p ∷ ps) b s) w = absurd w
  getter_kept n (tree.function m (Some x) ps b s) w = absurd w

  pub setter_kept : {S : Type 0} (n : ℕ) (f : Tree S tree.func) → IsSetter f → IsSetter (weave chosen (with_ids n f))
  setter_kept n (tree.function m None [] b s) w = absurd w
  setter_kept n (tree.function m None (p ∷ []) b s) w = w
  setter_kept n (tree.function m None (p ∷ q ∷ ps) b s) w = absurd w
  setter_kept n (tree.function m (Some x) ps b s) w = absurd w
