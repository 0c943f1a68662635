-- A script without early errors is plain, where its compound assignments have operators of 11.13.
use Rattle.std.proofs.Common.{◌≡◌, []}
use Rattle.jl_text.specs.declared.span.Span.{Span}
use Rattle.jl_ast.specs.Tree as tree
use Rattle.jl_ast.specs.Tree.{Forest, OptionalTree, Sort, Tree}
use Rattle.jl_scope.specs.EarlyErrors.{early_errors, forest_early_errors}
use Rattle.jl_scope.specs.EarlyErrors.{optional_early_errors}
use Rattle.jl_scope.specs.Scope.{in_a_loop, in_a_switch, in_catch, in_function_of, is_loop, under_label, Scope}
use Rattle.jl_meaning.proofs.NoEarlyErrors.{for_in, none, read, target, written}
use Rattle.jl_simulation.specs.CompoundAssignments.{AllAssignByOperators, AssignsByOperators}
use Rattle.jl_simulation.specs.CompoundAssignments.{AssignsByOperatorsIfPresent}
use Rattle.jl_simulation.specs.Plain.{ArePlain, IsPlain, IsPlainIfPresent}

mutual
  pub plain : {x : Sort} (s : Scope) (t : Tree Span x) → early_errors s t ≡ [] → AssignsByOperators t → IsPlain t
  plain s (tree.name x at) e o = read s x at e
  plain s (tree.array l at) e o = forests s l e o
  plain s (tree.object l at) e o = forests s l (none _ _ e).1 o
  plain s (tree.function_expression f at) e o = plain s f e o
  plain s (tree.dot a k at) e o = plain s a e o
  plain s (tree.index a k at) e o = (plain s a (none _ _ e).0 o.0, plain s k (none _ _ e).1 o.1)
  plain s (tree.call f l at) e o = (plain s f (none _ _ e).0 o.0, forests s l (none _ _ e).1 o.1)
  plain s (tree.new f l at) e o = (plain s f (none _ _ e).0 o.0, forests s l (none _ _ e).1 o.1)
  plain s (tree.unary p a at) e o = plain s a (none _ _ e).1 o
  plain s (tree.update up prefix t at) e o = plain s t e o
  plain s (tree.binary p a b at) e o = (plain s a (none _ _ e).0 o.0, plain s b (none _ _ e).1 o.1)
  plain s (tree.and a b at) e o = (plain s a (none _ _ e).0 o.0, plain s b (none _ _ e).1 o.1)
  plain s (tree.or a b at) e o = (plain s a (none _ _ e).0 o.0, plain s b (none _ _ e).1 o.1)
  plain s (tree.conditional a b c at) e o = (
    plain s a (none _ _ (none _ _ e).0).0 o.0,
    plain s b (none _ _ (none _ _ e).0).1 o.1,
    plain s c (none _ _ e).1 o.2,
  )
  plain s (tree.assign p t a at) e o = (o.0, plain s t (none _ _ e).0 o.1, plain s a (none _ _ e).1 o.2)
  plain s (tree.comma a b at) e o = (plain s a (none _ _ e).0 o.0, plain s b (none _ _ e).1 o.1)
  plain s (tree.to_name x) e o = target s x.text x.at e
  plain s (tree.to_dot a k at) e o = plain s a e o
  plain s (tree.to_index a k at) e o = (plain s a (none _ _ e).0 o.0, plain s k (none _ _ e).1 o.1)
  plain s (tree.filled a) e o = plain s a e o
  plain s (tree.value k a) e o = plain s a e o
  plain s (tree.getter k f) e o = plain s f e o
  plain s (tree.setter k f) e o = plain s f e o
  plain s (tree.function n x params b at) e o = plain (in_function_of s x params b) b (none _ _ e).1 o
  plain s (tree.body strict fs l) e o = (forests s fs (none _ _ e).0 o.0, forests s l (none _ _ e).1 o.1)
  plain s (tree.var l at) e o = forests s l e o
  plain s (tree.expression a at) e o = plain s a e o
  plain s (tree.block l at) e o = forests s l e o
  plain s (tree.if_else c a b at) e o = (
    plain s c (none _ _ (none _ _ e).0).0 o.0,
    forests s a (none _ _ (none _ _ e).0).1 o.1,
    optionals s b (none _ _ e).1 o.2,
  )
  plain s (tree.do_while l c at) e o = (forests (in_a_loop s) l (none _ _ e).0 o.0, plain s c (none _ _ e).1 o.1)
  plain s (tree.while c l at) e o = (plain s c (none _ _ e).0 o.0, forests (in_a_loop s) l (none _ _ e).1 o.1)
  plain s (tree.for i c u l at) e o = (
    plain s i (none _ _ (none _ _ (none _ _ e).0).0).0 o.0,
    optionals s c (none _ _ (none _ _ (none _ _ e).0).0).1 o.1,
    optionals s u (none _ _ (none _ _ e).0).1 o.2,
    forests (in_a_loop s) l (none _ _ e).1 o.3,
  )
  plain s (tree.for_in is_var x a l at) e o = (
    for_in s x.text x.at is_var (none _ _ (none _ _ e).0).0,
    plain s a (none _ _ (none _ _ e).0).1 o.0,
    forests (in_a_loop s) l (none _ _ e).1 o.1,
  )
  plain s (tree.return a at) e o = optionals s a (none _ _ e).1 o
  plain s (tree.labelled x t at) e o = plain (under_label s x.text (is_loop t)) t (none _ _ e).1 o
  plain s (tree.switch a l at) e o = (plain s a (none _ _ e).0 o.0, forests (in_a_switch s) l (none _ _ e).1 o.1)
  plain s (tree.throw a at) e o = plain s a e o
  plain s (tree.try l h f at) e o = (
    forests s l (none _ _ (none _ _ e).0).0 o.0,
    optionals s h (none _ _ (none _ _ e).0).1 o.1,
    optionals s f (none _ _ e).1 o.2,
  )
  plain s (tree.init_expression a) e o = plain s a e o
  plain s (tree.init_var l) e o = forests s l e o
  plain s (tree.declarator x a) e o = (written s x.text x.at (none _ _ e).0, optionals s a (none _ _ e).1 o)
  plain s (tree.case a l) e o = (optionals s a (none _ _ e).0 o.0, forests s l (none _ _ e).1 o.1)
  plain s (tree.branch_of l) e o = forests s l e o
  plain s (tree.catch x l) e o =
      (written s x.text x.at (none _ _ e).0, forests (in_catch s x.text) l (none _ _ e).1 o)
  plain s _ e o = tt

  forests : {x : Sort} (s : Scope) (l : Forest Span x) → forest_early_errors s l ≡ [] → AllAssignByOperators l
      → ArePlain l
  forests s tree.end e o = tt
  forests s (tree.more t l) e o = (plain s t (none _ _ e).0 o.0, forests s l (none _ _ e).1 o.1)

  optionals : {x : Sort} (s : Scope) (m : OptionalTree Span x) → optional_early_errors s m ≡ []
      → AssignsByOperatorsIfPresent m → IsPlainIfPresent m
  optionals s tree.absent e o = tt
  optionals s (tree.present t) e o = plain s t e o
