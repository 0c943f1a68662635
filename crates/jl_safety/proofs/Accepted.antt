-- A script without early errors is sound.
use Rattle.std.proofs.Common.{◌≡◌, ℕ, ◌+◌, []}
use Rattle.jl_text.specs.declared.span.Span.{Span}
use Rattle.jl_ast.specs.Tree as tree
use Rattle.jl_ast.specs.Tree.{Forest, OptionalTree, Sort, Tree}
use Rattle.jl_ast.specs.declared.ops.UnOp.TheVariants as un
use Rattle.jl_scope.specs.EarlyErrors.{early_errors, forest_early_errors}
use Rattle.jl_scope.specs.EarlyErrors.{optional_early_errors}
use Rattle.jl_scope.specs.Scope.{in_a_loop, in_a_switch, in_catch, in_function_of, is_loop, under_label, Scope}
use Rattle.jl_op.specs.Ids.{callee_with_ids, forest_with_ids, handler_with_ids, optional_with_ids, with_ids}
use Rattle.jl_meaning.proofs.NoEarlyErrors.{for_in, none, read, target, written}
use Rattle.jl_safety.specs.inner.Sound.{AreSound, IsSound, IsSoundIfPresent}
use Rattle.jl_safety.proofs.Scopes.{function_fits}

mutual
  pub sound : {x : Sort} (s : Scope) (t : Tree Span x) → early_errors s t ≡ [] → (n : ℕ) → IsSound (with_ids n t)
  sound s (tree.name x at) e n = read s x at e
  sound s (tree.array l at) e n = forests s l e _
  sound s (tree.object l at) e n = forests s l (none _ _ e).1 _
  sound s (tree.function_expression f at) e n = sound s f e _
  sound s (tree.dot a k at) e n = sound s a e _
  sound s (tree.index a k at) e n = (sound s a (none _ _ e).0 _, sound s k (none _ _ e).1 _)
  sound s (tree.call f l at) e n =
      (callee_sound s f (none _ _ e).0 n _ (sound s f (none _ _ e).0 (n + 2)), forests s l (none _ _ e).1 _)
  sound s (tree.new f l at) e n = (sound s f (none _ _ e).0 _, forests s l (none _ _ e).1 _)
  sound s (tree.unary un.Delete a at) e n = sound s a (none _ _ e).1 n
  sound s (tree.unary p a at) e n = sound s a (none _ _ e).1 (n + 1)
  sound s (tree.update up prefix t at) e n = sound s t e _
  sound s (tree.binary p a b at) e n = (sound s a (none _ _ e).0 _, sound s b (none _ _ e).1 _)
  sound s (tree.and a b at) e n = (sound s a (none _ _ e).0 _, sound s b (none _ _ e).1 _)
  sound s (tree.or a b at) e n = (sound s a (none _ _ e).0 _, sound s b (none _ _ e).1 _)
  sound s (tree.conditional a b c at) e n = (
    sound s a (none _ _ (none _ _ e).0).0 _,
    sound s b (none _ _ (none _ _ e).0).1 _,
    sound s c (none _ _ e).1 _,
  )
  sound s (tree.assign p t a at) e n = (sound s t (none _ _ e).0 _, sound s a (none _ _ e).1 _)
  sound s (tree.comma a b at) e n = (sound s a (none _ _ e).0 _, sound s b (none _ _ e).1 _)
  sound s (tree.to_name x) e n = target s x.text x.at e
  sound s (tree.to_dot a k at) e n = sound s a e _
  sound s (tree.to_index a k at) e n = (sound s a (none _ _ e).0 _, sound s k (none _ _ e).1 _)
  sound s (tree.filled a) e n = sound s a e _
  sound s (tree.value k a) e n = sound s a e _
  sound s (tree.getter k f) e n = sound s f e _
  sound s (tree.setter k f) e n = sound s f e _
  sound s (tree.function m x params b at) e n =
      (function_fits s x params b (none _ _ e).1 _, sound (in_function_of s x params b) b (none _ _ e).1 _)
  sound s (tree.body strict fs l) e n = (forests s fs (none _ _ e).0 _, forests s l (none _ _ e).1 _)
  sound s (tree.var l at) e n = forests s l e _
  sound s (tree.expression a at) e n = sound s a e _
  sound s (tree.block l at) e n = forests s l e _
  sound s (tree.if_else c a b at) e n = (
    sound s c (none _ _ (none _ _ e).0).0 _,
    forests s a (none _ _ (none _ _ e).0).1 _,
    optionals s b (none _ _ e).1 _,
  )
  sound s (tree.do_while l c at) e n = (forests (in_a_loop s) l (none _ _ e).0 _, sound s c (none _ _ e).1 _)
  sound s (tree.while c l at) e n = (sound s c (none _ _ e).0 _, forests (in_a_loop s) l (none _ _ e).1 _)
  sound s (tree.for i c u l at) e n = (
    sound s i (none _ _ (none _ _ (none _ _ e).0).0).0 _,
    optionals s c (none _ _ (none _ _ (none _ _ e).0).0).1 _,
    optionals s u (none _ _ (none _ _ e).0).1 _,
    forests (in_a_loop s) l (none _ _ e).1 _,
  )
  sound s (tree.for_in is_var x a l at) e n = (
    for_in s x.text x.at is_var (none _ _ (none _ _ e).0).0,
    sound s a (none _ _ (none _ _ e).0).1 _,
    forests (in_a_loop s) l (none _ _ e).1 _,
  )
  sound s (tree.return a at) e n = optionals s a (none _ _ e).1 _
  sound s (tree.labelled x t at) e n = sound (under_label s x.text (is_loop t)) t (none _ _ e).1 _
  sound s (tree.switch a l at) e n = (sound s a (none _ _ e).0 _, forests (in_a_switch s) l (none _ _ e).1 _)
  sound s (tree.throw a at) e n = sound s a e _
  sound s (tree.try l h f at) e n = (
    forests s l (none _ _ (none _ _ e).0).0 _,
    handler_sound s h (none _ _ (none _ _ e).0).1 _ _,
    optionals s f (none _ _ e).1 _,
  )
  sound s (tree.init_expression a) e n = sound s a e _
  sound s (tree.init_var l) e n = forests s l e _
  sound s (tree.declarator x a) e n = (written s x.text x.at (none _ _ e).0, optionals s a (none _ _ e).1 _)
  sound s (tree.case a l) e n = (optionals s a (none _ _ e).0 _, forests s l (none _ _ e).1 _)
  sound s (tree.branch_of l) e n = forests s l e _
  sound s (tree.catch x l) e n = forests (in_catch s x.text) l (none _ _ e).1 _
  sound s _ e n = tt

  callee_sound : (s : Scope) (f : Tree Span tree.expr) → early_errors s f ≡ [] → (n : ℕ) → (itself : Tree ℕ tree.expr)
      → IsSound itself → IsSound (callee_with_ids n f itself)
  callee_sound s (tree.dot a k at) e n itself h = sound s a e _
  callee_sound s (tree.index a k at) e n itself h = (sound s a (none _ _ e).0 _, sound s k (none _ _ e).1 _)
  callee_sound s f e n itself h = h

  handler_sound : (s : Scope) (h : OptionalTree Span tree.handler) → optional_early_errors s h ≡ [] → (id n : ℕ)
      → IsSoundIfPresent (handler_with_ids id n h)
  handler_sound s tree.absent e id n = tt
  handler_sound s (tree.present (tree.catch x l)) e id n = forests (in_catch s x.text) l (none _ _ e).1 n

  forests : {x : Sort} (s : Scope) (l : Forest Span x) → forest_early_errors s l ≡ [] → (n : ℕ)
      → AreSound (forest_with_ids n l)
  forests s tree.end e n = tt
  forests s (tree.more t l) e n = (sound s t (none _ _ e).0 n, forests s l (none _ _ e).1 _)

  optionals : {x : Sort} (s : Scope) (m : OptionalTree Span x) → optional_early_errors s m ≡ [] → (n : ℕ)
      → IsSoundIfPresent (optional_with_ids n m)
  optionals s tree.absent e n = tt
  optionals s (tree.present t) e n = sound s t e n
