-- A plain script with few ids fits when it has got them.
use Rattle.std.proofs.Common.{ℕ, ◌+◌, ◌≤◌, ◌<◌, Some, None, refl, arith}
use Rattle.jl_ast.specs.Tree as tree
use Rattle.jl_ast.specs.Tree.{Forest, OptionalTree, Sort, Tree}
use Rattle.jl_ast.specs.declared.ops.UnOp.TheVariants as un
use Rattle.jl_op.specs.Ids.{forest_id_count, forest_with_ids, handler_with_ids, id_count, one_if_present}
use Rattle.jl_op.specs.Ids.{optional_id_count, optional_with_ids, with_ids}
use Rattle.jl_simulation.specs.Plain.{id_limit, ArePlain, IsPlain, IsPlainIfPresent}
use Rattle.jl_simulation.specs.inner.Fit.{AllFit, Fits, FitsIfPresent, FollowsMember, HandlerHasId, HasId, UnaryFits}
use Rattle.jl_simulation.proofs.Shapes.{IsNoMember, IsNoName}

member_follows : {S : Type 0} (n id : ℕ) (f : Tree S tree.expr) → IsNoMember f → FollowsMember (with_ids n f) id
member_follows n id (tree.dot o k s) h = absurd h
member_follows n id (tree.index o k s) h = absurd h
member_follows n id (tree.unary un.Delete e s) h = tt
member_follows n id (tree.unary o e s) h = tt
member_follows n id _ h = tt

typeof_fits : {S A : Type 0} (n id : ℕ) (e : Tree S tree.expr) → IsNoName e → A → id < id_limit
    → UnaryFits un.Typeof (with_ids n e) A id
typeof_fits n id (tree.name x s) h a small = absurd h
typeof_fits n id (tree.unary un.Delete e s) h a small = (a, small)
typeof_fits n id (tree.unary o e s) h a small = (a, small)
typeof_fits n id _ h a small = (a, small)

delete_fits : {S A : Type 0} (n id : ℕ) (e : Tree S tree.expr) → IsNoName e → IsNoMember e → A
    → UnaryFits un.Delete (with_ids n e) A id
delete_fits n id (tree.name x s) h i a = absurd h
delete_fits n id (tree.dot o k s) h i a = absurd i
delete_fits n id (tree.index o k s) h i a = absurd i
delete_fits n id (tree.unary un.Delete e s) h i a = a
delete_fits n id (tree.unary o e s) h i a = a
delete_fits n id _ h i a = a

id_fits : {S : Type 0} {x : Sort} (e : OptionalTree S x) (m n : ℕ) → n + one_if_present e ≤ id_limit → HasId
    (optional_with_ids m e) n
id_fits tree.absent m n few = tt
id_fits (tree.present e) m n few = omega arith

handler_fits : {S : Type 0} (h : OptionalTree S tree.handler) (n m : ℕ) → n + one_if_present h ≤ id_limit
    → HandlerHasId (handler_with_ids n m h)
handler_fits tree.absent n m few = tt
handler_fits (tree.present (tree.catch x l)) n m few = omega arith

mutual
  pub fits : {S : Type 0} {x : Sort} (t : Tree S x) → IsPlain t → (n : ℕ) → n + id_count t ≤ id_limit
      → Fits (with_ids n t)
  fits (tree.this s) p n few = tt
  fits (tree.name x s) p n few = (p, omega arith)
  fits (tree.number m s) p n few = omega arith
  fits (tree.string m s) p n few = omega arith
  fits (tree.boolean m s) p n few = omega arith
  fits (tree.null s) p n few = omega arith
  fits (tree.array l s) p n few = (forests_fit l p (n + 1) (omega arith), omega arith)
  fits (tree.object l s) p n few = (forests_fit l p (n + 1) (omega arith), omega arith)
  fits (tree.function_expression f s) p n few = (fits f p (n + 1) (omega arith), omega arith)
  fits (tree.dot o k s) p n few = (fits o p (n + 1) (omega arith), omega arith)
  fits (tree.index o k s) p n few = (
    fits o p.0 (n + 1) (omega arith),
    fits k p.1 (n + 1 + id_count o) (omega arith),
    omega arith,
  )
  fits (tree.call (tree.dot o k t) l s) p n few = (
    (fits o p.0 (n + 3) (omega arith), omega arith),
    forests_fit l p.1 (n + 2 + id_count (tree.dot o k t))
        (omega arith),
    omega arith,
    refl,
  )
  fits (tree.call (tree.index o k t) l s) p n few = (
    (fits o p.0.0 (n + 3) (omega arith), fits k p.0.1 (n + 3 + id_count o) (omega arith), omega arith),
    forests_fit l p.1 (n + 2 + id_count (tree.index o k t)) (omega arith),
    omega arith,
    refl,
  )
  fits (tree.call f l s) p n few = (
    fits f p.0 (n + 2) (omega arith),
    forests_fit l p.1 (n + 2 + id_count f)
        (omega arith),
    omega arith,
    member_follows (n + 2) (n + 0) f tt,
  )
  fits (tree.new f l s) p n few = (
    fits f p.0 (n + 2) (omega arith),
    forests_fit l p.1 (n + 2 + id_count f)
        (omega arith),
    omega arith,
  )
  fits (tree.unary un.Delete (tree.name x t) s) p n few = p
  fits (tree.unary un.Delete (tree.dot o k t) s) p n few = ((fits o p (n + 1) (omega arith), omega arith), omega arith)
  fits (tree.unary un.Delete (tree.index o k t) s) p n few = (
    (
      fits o p.0 (n + 1) (omega arith),
      fits k p.1
          (n + 1 + id_count o) (omega arith),
      omega arith,
    ),
    omega arith,
  )
  fits (tree.unary un.Delete e s) p n few = delete_fits n n e tt tt (fits e p n (omega arith))
  fits (tree.unary un.Typeof (tree.name x t) s) p n few = (p, omega arith)
  fits (tree.unary un.Typeof e s) p n few = typeof_fits (n + 1) n e tt (fits e p (n + 1) (omega arith)) (omega arith)
  fits (tree.unary o e s) p n few = (fits e p (n + 1) (omega arith), omega arith)
  fits (tree.update up prefix t s) p n few = (fits t p (n + 3) (omega arith), omega arith)
  fits (tree.binary o a b s) p n few = (
    fits a p.0 (n + 1) (omega arith),
    fits b p.1 (n + 1 + id_count a)
        (omega arith),
    omega arith,
  )
  fits (tree.and a b s) p n few = (
    fits a p.0 (n + 1) (omega arith),
    fits b p.1 (n + 1 + id_count a) (omega arith),
    omega arith,
  )
  fits (tree.or a b s) p n few = (
    fits a p.0 (n + 1) (omega arith),
    fits b p.1 (n + 1 + id_count a) (omega arith),
    omega arith,
  )
  fits (tree.conditional a b c s) p n few = (
    fits a p.0 (n + 1) (omega arith),
    fits b p.1 (n + 1 + id_count a) (omega arith),
    fits c p.2
        (n + 1 + id_count a + id_count b) (omega arith),
    omega arith,
  )
  fits (tree.assign None t e s) p n few = (
    omega arith,
    fits t p.1 (n + 1) (omega arith),
    fits e p.2
        (n + 1 + id_count t) (omega arith),
  )
  fits (tree.assign (Some q) t e s) p n few = (
    (p.0, omega arith),
    fits t p.1 (n + 3) (omega arith),
    fits e p.2
        (n + 3 + id_count t) (omega arith),
  )
  fits (tree.comma a b s) p n few = (fits a p.0 n (omega arith), fits b p.1 (n + id_count a) (omega arith))
  fits (tree.to_name x) p n few = p
  fits (tree.to_dot o k s) p n few = fits o p n few
  fits (tree.to_index o k s) p n few = (fits o p.0 n (omega arith), fits k p.1 (n + id_count o) (omega arith))
  fits tree.hole p n few = tt
  fits (tree.filled e) p n few = fits e p n few
  fits (tree.value k e) p n few = fits e p n few
  fits (tree.getter k f) p n few = fits f p n few
  fits (tree.setter k f) p n few = fits f p n few
  fits (tree.function m x ps b s) p n few = (fits b p (n + 2) (omega arith), omega arith)
  fits (tree.body strict fs l) p n few = (
    forests_fit fs p.0 n (omega arith),
    forests_fit l p.1
        (n + forest_id_count fs) (omega arith),
  )
  fits (tree.var l s) p n few = forests_fit l p n few
  fits (tree.empty s) p n few = tt
  fits (tree.expression e s) p n few = fits e p n few
  fits (tree.block l s) p n few = forests_fit l p n few
  fits (tree.if_else e a b s) p n few = (
    fits e p.0 (n + 1) (omega arith),
    forests_fit a p.1 (n + 1 + id_count e) (omega arith),
    optionals_fit b p.2
        (n + 1 + id_count e + forest_id_count a) (omega arith),
    omega arith,
  )
  fits (tree.do_while l e s) p n few = (
    forests_fit l p.0 (n + 1) (omega arith),
    fits e p.1 (n + 1 + forest_id_count l)
        (omega arith),
    omega arith,
  )
  fits (tree.while e l s) p n few = (
    fits e p.0 (n + 1) (omega arith),
    forests_fit l p.1 (n + 1 + id_count e)
        (omega arith),
    omega arith,
  )
  fits (tree.for i e u l s) p n few = (
    fits i p.0 (n + one_if_present e) (omega arith),
    optionals_fit e p.1 (n + one_if_present e + id_count i) (omega arith),
    optionals_fit u p.2 (n + one_if_present e + id_count i + optional_id_count e) (omega arith),
    forests_fit l p.3 (n + one_if_present e + id_count i + optional_id_count e + optional_id_count u) (omega arith),
    id_fits e (n + one_if_present e + id_count i) n (omega arith),
  )
  fits (tree.for_in is_var x o l s) p n few = (
    p.0,
    fits o p.1 (n + 1) (omega arith),
    forests_fit l p.2
        (n + 1 + id_count o) (omega arith),
    omega arith,
  )
  fits (tree.continue x s) p n few = tt
  fits (tree.break x s) p n few = tt
  fits (tree.return e s) p n few = (
    optionals_fit e p (n + one_if_present e) (omega arith),
    id_fits e
        (n + one_if_present e) n (omega arith),
  )
  fits (tree.labelled x t s) p n few = fits t p n few
  fits (tree.switch e l s) p n few = (fits e p.0 n (omega arith), forests_fit l p.1 (n + id_count e) (omega arith))
  fits (tree.throw e s) p n few = (fits e p (n + 1) (omega arith), omega arith)
  fits (tree.try l h f s) p n few = (
    forests_fit l p.0 (n + one_if_present h) (omega arith),
    handlers_fit h p.1 n
        (n + one_if_present h + forest_id_count l) (omega arith),
    optionals_fit f p.2
        (n + one_if_present h + forest_id_count l + optional_id_count h) (omega arith),
    handler_fits h n
        (n + one_if_present h + forest_id_count l) (omega arith),
  )
  fits (tree.debugger s) p n few = tt
  fits tree.nothing p n few = tt
  fits (tree.init_expression e) p n few = fits e p n few
  fits (tree.init_var l) p n few = forests_fit l p n few
  fits (tree.declarator x e) p n few = (
    p.0,
    optionals_fit e p.1 (n + one_if_present e) (omega arith),
    id_fits e
        (n + one_if_present e) n (omega arith),
  )
  fits (tree.case e l) p n few = (
    optionals_fit e p.0 n (omega arith),
    forests_fit l p.1 (n + optional_id_count e)
        (omega arith),
  )
  fits (tree.branch_of l) p n few = forests_fit l p n few
  fits (tree.catch x l) p n few = (p.0, forests_fit l p.1 n few)

  handlers_fit : {S : Type 0} (h : OptionalTree S tree.handler) → IsPlainIfPresent h → (id n : ℕ)
      → n + optional_id_count h ≤ id_limit → FitsIfPresent (handler_with_ids id n h)
  handlers_fit tree.absent p id n few = tt
  handlers_fit (tree.present (tree.catch x l)) p id n few = (p.0, forests_fit l p.1 n few)

  forests_fit : {S : Type 0} {x : Sort} (l : Forest S x) → ArePlain l → (n : ℕ) → n + forest_id_count l ≤ id_limit
      → AllFit (forest_with_ids n l)
  forests_fit tree.end p n few = tt
  forests_fit (tree.more t l) p n few = (fits t p.0 n (omega arith), forests_fit l p.1 (n + id_count t) (omega arith))

  optionals_fit : {S : Type 0} {x : Sort} (m : OptionalTree S x) → IsPlainIfPresent m → (n : ℕ)
      → n + optional_id_count m ≤ id_limit → FitsIfPresent (optional_with_ids n m)
  optionals_fit tree.absent p n few = tt
  optionals_fit (tree.present t) p n few = fits t p n few
