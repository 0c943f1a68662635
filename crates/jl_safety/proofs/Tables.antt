-- The functions of a sound tree are sound.
use Rattle.std.proofs.Common.{ℕ, [], ◌∷◌, ◌++◌, Bool}
use Rattle.jl_ast.specs.Tree as tree
use Rattle.jl_ast.specs.Tree.{Forest, OptionalTree, Sort, Tree}
use Rattle.jl_scope.specs.Hoisting.{strict_in}
use Rattle.jl_meaning.specs.FunctionObjects.{FunctionTable}
use Rattle.jl_meaning.specs.FunctionTable.{forest_functions, functions_in, optional_functions}
use Rattle.jl_safety.specs.inner.Sound.{AreSound, IsSound, IsSoundIfPresent}

abbrev pub AllSound : FunctionTable → Type 0
AllSound [] = Unit {0}
AllSound (f ∷ l) = IsSound f.func × AllSound l

both : (l m : FunctionTable) → AllSound l → AllSound m → AllSound (l ++ m)
both [] m x y = y
both (f ∷ l) m x y = (x.0, both l m x.1 y)

mutual
  pub functions_sound : {x : Sort} (strict : Bool) (t : Tree ℕ x) → IsSound t → AllSound (functions_in strict t)
  functions_sound strict (tree.array l id) h = forests strict l h
  functions_sound strict (tree.object l id) h = forests strict l h
  functions_sound strict (tree.function_expression f id) h = functions_sound strict f h
  functions_sound strict (tree.dot o k id) h = functions_sound strict o h
  functions_sound strict (tree.index o k id) h = both _ _ (functions_sound strict o h.0) (functions_sound strict k h.1)
  functions_sound strict (tree.call f l id) h = both _ _ (functions_sound strict f h.0) (forests strict l h.1)
  functions_sound strict (tree.new f l id) h = both _ _ (functions_sound strict f h.0) (forests strict l h.1)
  functions_sound strict (tree.unary o e id) h = functions_sound strict e h
  functions_sound strict (tree.update up prefix t id) h = functions_sound strict t h
  functions_sound strict (tree.binary o a b id) h =
      both _ _ (functions_sound strict a h.0) (functions_sound strict b h.1)
  functions_sound strict (tree.and a b id) h = both _ _ (functions_sound strict a h.0) (functions_sound strict b h.1)
  functions_sound strict (tree.or a b id) h = both _ _ (functions_sound strict a h.0) (functions_sound strict b h.1)
  functions_sound strict (tree.conditional a b c id) h =
      both _ _ (both _ _ (functions_sound strict a h.0) (functions_sound strict b h.1)) (functions_sound strict c h.2)
  functions_sound strict (tree.assign o t e id) h =
      both _ _ (functions_sound strict t h.0) (functions_sound strict e h.1)
  functions_sound strict (tree.comma a b id) h = both _ _ (functions_sound strict a h.0) (functions_sound strict b h.1)
  functions_sound strict (tree.to_dot o k id) h = functions_sound strict o h
  functions_sound strict (tree.to_index o k id) h =
      both _ _ (functions_sound strict o h.0) (functions_sound strict k h.1)
  functions_sound strict (tree.filled e) h = functions_sound strict e h
  functions_sound strict (tree.value k e) h = functions_sound strict e h
  functions_sound strict (tree.getter k f) h = functions_sound strict f h
  functions_sound strict (tree.setter k f) h = functions_sound strict f h
  functions_sound strict (tree.function m x params b id) h = (h, functions_sound (strict_in strict b) b h.1)
  functions_sound strict (tree.body is_strict fs l) h = both _ _ (forests strict fs h.0) (forests strict l h.1)
  functions_sound strict (tree.var l id) h = forests strict l h
  functions_sound strict (tree.expression e id) h = functions_sound strict e h
  functions_sound strict (tree.block l id) h = forests strict l h
  functions_sound strict (tree.if_else c a b id) h =
      both _ _ (both _ _ (functions_sound strict c h.0) (forests strict a h.1)) (optionals strict b h.2)
  functions_sound strict (tree.do_while l c id) h = both _ _ (forests strict l h.0) (functions_sound strict c h.1)
  functions_sound strict (tree.while c l id) h = both _ _ (functions_sound strict c h.0) (forests strict l h.1)
  functions_sound strict (tree.for i c u l id) h =
      both _ _ (both _ _ (both _ _ (functions_sound strict i h.0) (optionals strict c h.1)) (optionals strict u h.2))
      (forests strict l h.3)
  functions_sound strict (tree.for_in is_var x o l id) h =
      both _ _ (functions_sound strict o h.1) (forests strict l h.2)
  functions_sound strict (tree.return e id) h = optionals strict e h
  functions_sound strict (tree.labelled x t id) h = functions_sound strict t h
  functions_sound strict (tree.switch e l id) h = both _ _ (functions_sound strict e h.0) (forests strict l h.1)
  functions_sound strict (tree.throw e id) h = functions_sound strict e h
  functions_sound strict (tree.try l b f id) h =
      both _ _ (both _ _ (forests strict l h.0) (optionals strict b h.1)) (optionals strict f h.2)
  functions_sound strict (tree.init_expression e) h = functions_sound strict e h
  functions_sound strict (tree.init_var l) h = forests strict l h
  functions_sound strict (tree.declarator x e) h = optionals strict e h.1
  functions_sound strict (tree.case e l) h = both _ _ (optionals strict e h.0) (forests strict l h.1)
  functions_sound strict (tree.branch_of l) h = forests strict l h
  functions_sound strict (tree.catch x l) h = forests strict l h
  functions_sound strict _ h = tt

  forests : {x : Sort} (strict : Bool) (l : Forest ℕ x) → AreSound l → AllSound (forest_functions strict l)
  forests strict tree.end h = tt
  forests strict (tree.more t l) h = both _ _ (functions_sound strict t h.0) (forests strict l h.1)

  optionals : {x : Sort} (strict : Bool) (m : OptionalTree ℕ x) → IsSoundIfPresent m
      → AllSound (optional_functions strict m)
  optionals strict tree.absent h = tt
  optionals strict (tree.present t) h = functions_sound strict t h
