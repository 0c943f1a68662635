-- A tree is well formed where it is without its places, a line for each form.
use Rattle.std.proofs.Common.{Bool, true, false, List, [], ◌∷◌, map, option_map, Option, Some, None}
use Rattle.jl_ast.specs.Spans.{ident, map_forest, map_optional, map_tree}
use Rattle.jl_ast.specs.Tree as tree
use Rattle.jl_ast.specs.Tree.{Forest, Ident, OptionalTree, Sort, Tree}
use Rattle.jl_print.specs.WellFormed.{AllWellFormed, AreIdentifiers, AreNamed, HasOneDefault, IsEither, IsGetter}
use Rattle.jl_print.specs.WellFormed.{IsOptionalIdentifier, IsSetter, IsSome, OptionalWellFormed, WellFormed}

module _ {S T : Type 0} (f : S → T) where
  name_placed : (x : Option (Ident S)) → IsOptionalIdentifier (option_map (ident f) x) → IsOptionalIdentifier x
  name_placed None w = w
  name_placed (Some x) w = w

  names_placed : (l : List (Ident S)) → AreIdentifiers (map (ident f) l) → AreIdentifiers l
  names_placed [] w = w
  names_placed (x ∷ l) w = (w.0, names_placed l w.1)

  some_placed : {x : Sort} (l : Forest S x) → IsSome (map_forest f l) → IsSome l
  some_placed tree.end w = w
  some_placed (tree.more t l) w = w

  either_placed : {x y : Sort} (a : OptionalTree S x) (b : OptionalTree S y)
      → IsEither (map_optional f a) (map_optional f b) → IsEither a b
  either_placed tree.absent tree.absent w = w
  either_placed tree.absent (tree.present b) w = w
  either_placed (tree.present a) tree.absent w = w
  either_placed (tree.present a) (tree.present b) w = w

  default_placed : (fresh : Bool) (l : Forest S tree.clause) → HasOneDefault fresh (map_forest f l)
      → HasOneDefault fresh l
  default_placed fresh tree.end w = w
  default_placed fresh (tree.more (tree.case (tree.present e) b) l) w = default_placed fresh l w
  default_placed true (tree.more (tree.case tree.absent b) l) w = default_placed false l w
  default_placed false (tree.more (tree.case tree.absent b) l) w = w

  named_placed : (l : Forest S tree.func) → AreNamed (map_forest f l) → AreNamed l
  named_placed tree.end w = w
  named_placed (tree.more (tree.function m None ps b s) l) w = w
  named_placed (tree.more (tree.function m (Some x) ps b s) l) w = named_placed l w

  getter_placed : (g : Tree S tree.func) → IsGetter (map_tree f g) → IsGetter g
  getter_placed (tree.function m None [] b s) w = w
  getter_placed (tree.function m None (p ∷ ps) b s) w = absurd w
  getter_placed (tree.function m (Some x) ps b s) w = absurd w

  setter_placed : (g : Tree S tree.func) → IsSetter (map_tree f g) → IsSetter g
  setter_placed (tree.function m None [] b s) w = absurd w
  setter_placed (tree.function m None (p ∷ []) b s) w = w
  setter_placed (tree.function m None (p ∷ q ∷ ps) b s) w = absurd w
  setter_placed (tree.function m (Some x) ps b s) w = absurd w

  mutual
    pub placed : {x : Sort} (t : Tree S x) → WellFormed (map_tree f t) → WellFormed t
    placed (tree.this s) w = w
    placed (tree.name a s) w = w
    placed (tree.number a s) w = w
    placed (tree.string a s) w = w
    placed (tree.boolean a s) w = w
    placed (tree.null s) w = w
    placed (tree.array a s) w = all_placed a w
    placed (tree.object a s) w = all_placed a w
    placed (tree.function_expression a s) w = placed a w
    placed (tree.dot a u s) w = (placed a w.0, w.1)
    placed (tree.index a b s) w = (placed a w.0, placed b w.1)
    placed (tree.call a b s) w = (placed a w.0, all_placed b w.1)
    placed (tree.new a b s) w = (placed a w.0, all_placed b w.1)
    placed (tree.unary u a s) w = placed a w
    placed (tree.update u v a s) w = placed a w
    placed (tree.binary u a b s) w = (placed a w.0, placed b w.1)
    placed (tree.and a b s) w = (placed a w.0, placed b w.1)
    placed (tree.or a b s) w = (placed a w.0, placed b w.1)
    placed (tree.conditional a b c s) w = (placed a w.0, placed b w.1, placed c w.2)
    placed (tree.assign u a b s) w = (w.0, placed a w.1, placed b w.2)
    placed (tree.comma a b s) w = (placed a w.0, placed b w.1)
    placed (tree.to_name a) w = w
    placed (tree.to_dot a u s) w = (placed a w.0, w.1)
    placed (tree.to_index a b s) w = (placed a w.0, placed b w.1)
    placed tree.hole w = w
    placed (tree.filled a) w = placed a w
    placed (tree.value u a) w = (w.0, placed a w.1)
    placed (tree.getter u a) w = (w.0, getter_placed a w.1, placed a w.2)
    placed (tree.setter u a) w = (w.0, setter_placed a w.1, placed a w.2)
    placed (tree.function i x ps b s) w = (name_placed x w.0, names_placed ps w.1, placed b w.2)
    placed (tree.body u a b) w = (named_placed a w.0, all_placed a w.1, all_placed b w.2)
    placed (tree.var a s) w = (some_placed a w.0, all_placed a w.1)
    placed (tree.empty s) w = w
    placed (tree.expression a s) w = placed a w
    placed (tree.block a s) w = all_placed a w
    placed (tree.if_else a b c s) w = (placed a w.0, all_placed b w.1, optional_placed c w.2)
    placed (tree.do_while a b s) w = (all_placed a w.0, placed b w.1)
    placed (tree.while a b s) w = (placed a w.0, all_placed b w.1)
    placed (tree.for a b c d s) w = (placed a w.0, optional_placed b w.1, optional_placed c w.2, all_placed d w.3)
    placed (tree.for_in u v a b s) w = (w.0, placed a w.1, all_placed b w.2)
    placed (tree.continue a s) w = name_placed a w
    placed (tree.break a s) w = name_placed a w
    placed (tree.return a s) w = optional_placed a w
    placed (tree.labelled u a s) w = (w.0, placed a w.1)
    placed (tree.switch a b s) w = (placed a w.0, default_placed true b w.1, all_placed b w.2)
    placed (tree.throw a s) w = placed a w
    placed (tree.try a b c s) w =
        (all_placed a w.0, either_placed b c w.1, optional_placed b w.2, optional_placed c w.3)
    placed (tree.debugger s) w = w
    placed tree.nothing w = w
    placed (tree.init_expression a) w = placed a w
    placed (tree.init_var a) w = (some_placed a w.0, all_placed a w.1)
    placed (tree.declarator u a) w = (w.0, optional_placed a w.1)
    placed (tree.case a b) w = (optional_placed a w.0, all_placed b w.1)
    placed (tree.branch_of a) w = all_placed a w
    placed (tree.catch u a) w = (w.0, all_placed a w.1)

    all_placed : {x : Sort} (l : Forest S x) → AllWellFormed (map_forest f l) → AllWellFormed l
    all_placed tree.end w = w
    all_placed (tree.more a b) w = (placed a w.0, all_placed b w.1)

    optional_placed : {x : Sort} (o : OptionalTree S x) → OptionalWellFormed (map_optional f o) → OptionalWellFormed o
    optional_placed tree.absent w = w
    optional_placed (tree.present a) w = placed a w
