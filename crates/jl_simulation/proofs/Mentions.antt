-- The woven tree declares and mentions what the tree does.
use Rattle.std.proofs.Common.{◌≡◌, ℕ, ◌+◌, Bool, true, false, ◌||◌, [], ◌∷◌, ◌++◌, Option, Some, None, codes, bytes_eq}
use Rattle.std.proofs.Common.{refl, ap, ap₂, ◌∙◌, append-nil}
use Rattle.std.specs.Prelude.{if◌then◌else◌, option_map}
use Rattle.jl_ast.specs.Tree as tree
use Rattle.jl_ast.specs.Tree.{Forest, Ident, OptionalTree, Sort, Text, Tree}
use Rattle.jl_ast.specs.declared.ops.BinOp.{BinOp}
use Rattle.jl_ast.specs.declared.ops.UnOp.TheVariants as un
use Rattle.jl_scope.specs.Hoisting.{declared_in, declared_in_forest, declared_in_optional, function_names, name_texts}
use Rattle.jl_scope.specs.Hoisting.{variables}
use Rattle.jl_scope.specs.Mentions.{forest_mentions, mentions, optional_mentions}
use Rattle.jl_scope.specs.Names.{among, hooks_name, with_names}
use Rattle.jl_op.specs.Chosen.{Kinds}
use Rattle.jl_op.specs.Ids.{forest_id_count, forest_with_ids, handler_with_ids, id_count, ident_with_id}
use Rattle.jl_op.specs.Ids.{optional_with_ids, with_ids}
use Rattle.jl_op.specs.declared.kind.OpKind.{OpKind}
use Rattle.jl_op.specs.declared.kind.OpKind.TheVariants as kind
use Rattle.jl_meaning.specs.Parts.{Code, Expr}
use Rattle.jl_simulation.specs.HookCalls as weaving
use Rattle.jl_simulation.specs.HookCalls.{before_update, hook, hook_1, hook_of_1, hook_statement, name_of, without_id}
use Rattle.jl_simulation.specs.HookCalls.{Woven}
use Rattle.jl_simulation.specs.Weaving as rewriting
use Rattle.jl_simulation.specs.Weaving.{weave, woven_assignment, woven_body, woven_callee, woven_delete, woven_forest}
use Rattle.jl_simulation.specs.Weaving.{woven_optional, woven_typeof, woven_update}
use Rattle.jl_simulation.proofs.Shapes.{call_with_ids}

or_false : (b : Bool) → (b || false) ≡ b
or_false true = refl
or_false false = refl

twice : (a b : Bool) → b ≡ a → (a || b) ≡ a
twice true b e = refl
twice false b e = e

absorbs : (a b c : Bool) → c ≡ b → (a || (a || c)) ≡ (a || b)
absorbs true b c e = refl
absorbs false b c e = e

module _ (chosen : Kinds) where
  -- HOISTING
  -- a `catch`, whose hook declares nothing
  caught_same : (b : Bool) (x : Ident ℕ) (l : Forest ℕ tree.stmt) (n : ℕ)
      → ((n : ℕ) → declared_in_forest (forest_with_ids n (woven_forest chosen l)) ≡ declared_in_forest l)
      → declared_in_forest (forest_with_ids n
      (if b then weaving.catch_and_go_on x.at x.text (woven_forest chosen l) else woven_forest chosen l))
      ≡ declared_in_forest l
  caught_same true x l n is = is _
  caught_same false x l n is = is n

  mutual
    declared_same : (t : Tree ℕ tree.stmt) (n : ℕ) → declared_in (with_ids n (weave chosen t)) ≡ declared_in t
    declared_same (tree.var l s) n = declared_decls l n
    declared_same (tree.block l s) n = declared_forest l n
    declared_same (tree.if_else c a b s) n = ap₂ ◌++◌ (declared_forest a _) (declared_branch b _)
    declared_same (tree.do_while l c s) n = declared_forest l _
    declared_same (tree.while c l s) n = declared_forest l _
    declared_same (tree.for i e u l s) n = ap₂ ◌++◌ (declared_init i _) (declared_forest l _)
    declared_same (tree.for_in is_var x e l s) n =
        ap (◌++◌ (if is_var then x.text ∷ [] else [])) (declared_forest l _)
    declared_same (tree.labelled x t s) n = declared_same t n
    declared_same (tree.switch e l s) n = declared_clauses l _
    declared_same (tree.try l h f s) n =
        ap₂ ◌++◌ (ap₂ ◌++◌ (declared_forest l _) (declared_handler h _ _)) (declared_branch f _)
    declared_same (tree.return tree.absent s) n = refl
    declared_same (tree.return (tree.present e) s) n = refl
    declared_same _ n = refl

    pub declared_forest : (l : Forest ℕ tree.stmt) (n : ℕ)
        → declared_in_forest (forest_with_ids n (woven_forest chosen l)) ≡ declared_in_forest l
    declared_forest tree.end n = refl
    declared_forest (tree.more t l) n = ap₂ ◌++◌ (declared_same t n) (declared_forest l _)

    declared_clauses : (l : Forest ℕ tree.clause) (n : ℕ)
        → declared_in_forest (forest_with_ids n (woven_forest chosen l)) ≡ declared_in_forest l
    declared_clauses tree.end n = refl
    declared_clauses (tree.more (tree.case e t) l) n = ap₂ ◌++◌ (declared_forest t _) (declared_clauses l _)

    declared_decls : (l : Forest ℕ tree.decl) (n : ℕ)
        → declared_in_forest (forest_with_ids n (woven_forest chosen l)) ≡ declared_in_forest l
    declared_decls tree.end n = refl
    declared_decls (tree.more (tree.declarator x tree.absent) l) n = ap (◌++◌ (x.text ∷ [])) (declared_decls l _)
    declared_decls (tree.more (tree.declarator x (tree.present e)) l) n = ap (◌++◌ (x.text ∷ [])) (declared_decls l _)

    declared_branch : (m : OptionalTree ℕ tree.branch) (n : ℕ)
        → declared_in_optional (optional_with_ids n (woven_optional chosen m)) ≡ declared_in_optional m
    declared_branch tree.absent n = refl
    declared_branch (tree.present (tree.branch_of l)) n = declared_forest l n

    declared_handler : (m : OptionalTree ℕ tree.handler) (id n : ℕ)
        → declared_in_optional (handler_with_ids id n (woven_optional chosen m)) ≡ declared_in_optional m
    declared_handler tree.absent id n = refl
    declared_handler (tree.present (tree.catch x l)) id n = caught_same (chosen kind.Catch) x l n
        (λ n. declared_forest l n)

    declared_init : (t : Tree ℕ tree.init) (n : ℕ) → declared_in (with_ids n (weave chosen t)) ≡ declared_in t
    declared_init (tree.init_var l) n = declared_decls l n
    declared_init (tree.init_expression e) n = refl
    declared_init tree.nothing n = refl

  texts_same : (n : ℕ) (y : Option (Ident ℕ))
      → name_texts (option_map (λ z. ident_with_id z n) (option_map without_id y)) ≡ name_texts y
  texts_same n None = refl
  texts_same n (Some y) = refl

  names_same : (l : Forest ℕ tree.func) (n : ℕ)
      → function_names (forest_with_ids n (woven_forest chosen l)) ≡ function_names l
  names_same tree.end n = refl
  names_same (tree.more (tree.function m y params b s) l) n = ap₂ ◌++◌ (texts_same n y) (names_same l _)

  pub body_variables : (b : Code) (id n : ℕ) → variables (with_ids n (woven_body chosen id b)) ≡ variables b
  body_variables (tree.body strict fs l) id n =
      at (chosen kind.FunctionEnter || chosen kind.FunctionExit)
    where
      at : (b : Bool)
          → variables (with_ids n (tree.body strict (woven_forest chosen fs)
          (if b then weaving.enter_and_leave id (woven_forest chosen l) else woven_forest chosen l)))
          ≡ variables (tree.body strict fs l)
      at true = ap (with_names []) (append-nil _ ∙ append-nil _ ∙ append-nil _ ∙ declared_forest l _)
      at false = ap (with_names []) (declared_forest l _)

  -- MENTIONS, of another name than that of the hooks
  module _ (x : Text) (other : bytes_eq x hooks_name ≡ false) where
    -- by a hook, or as it stands
    way : {r : Bool} (b : Bool) (u v : weaving.Expr) (n : ℕ) → mentions x (with_ids n u) ≡ r
        → mentions x (with_ids n v) ≡ r → mentions x (with_ids n (if b then u else v)) ≡ r
    way true u v n e f = e
    way false u v n e f = f

    -- the arguments of a hook
    one : {a b : Bool} → a ≡ b → (bytes_eq x hooks_name || (a || false)) ≡ b
    one {a = a} e = ap (λ h. h || (a || false)) other ∙ or_false a ∙ e

    two : {a b c d : Bool} → a ≡ c → b ≡ d → (bytes_eq x hooks_name || (a || (b || false))) ≡ (c || d)
    two {a = a} {b = b} e f =
        ap (λ h. h || (a || (b || false))) other ∙ ap (◌||◌ a) (or_false b) ∙ ap₂ ◌||◌ e f

    back_same : (up prefix : Bool) (e : weaving.Expr) {b : Bool} (n : ℕ)
        → ((n : ℕ) → mentions x (with_ids n e) ≡ b) → mentions x (with_ids n (before_update up prefix e)) ≡ b
    back_same up true e n is = is n
    back_same true false e n is = or_false _ ∙ is (n + 1)
    back_same false false e n is = or_false _ ∙ is (n + 1)

    typeof_same : (id : ℕ) (e : Expr) (w : weaving.Expr) (n : ℕ)
        → ((n : ℕ) → mentions x (with_ids n w) ≡ mentions x e)
        → mentions x (with_ids n (woven_typeof chosen id e w)) ≡ mentions x e
    typeof_same id (tree.name y s) w n e = way (chosen kind.TypeofName) _ _ n (one refl) refl
    typeof_same id _ w n e = way (chosen kind.Unary) _ _ n (one (e (n + 2 + 2 + 1 + 1))) (e (n + 1))

    -- an expression in a hook of one value, if that is chosen
    hooked : (k : OpKind) (h : Text) (id : ℕ) (w : weaving.Expr) {b : Bool} (n : ℕ)
        → ((n : ℕ) → mentions x (with_ids n w) ≡ b)
        → mentions x (with_ids n (rewriting.hooked_if chosen k (hook_1 h id) w)) ≡ b
    hooked k h id w n is = way (chosen k) _ _ n (one (is (n + 2 + 2 + 1))) (is n)

    written : (y : Text) (id : ℕ) (w : weaving.Expr) {b : Bool} (n : ℕ) → ((n : ℕ) → mentions x (with_ids n w) ≡ b)
        → mentions x (with_ids n (rewriting.hooked_if chosen kind.Write (weaving.write id y) w)) ≡ b
    written y id w n is = way (chosen kind.Write) _ _ n (one (is (n + 2 + 2 + 1 + 1))) (is n)

    -- a `catch`, whose hook mentions the name that is caught
    catch_same : (b : Bool) (y : Ident ℕ) (l : Forest ℕ tree.stmt) (k : ℕ)
        → ((k : ℕ) → forest_mentions x (forest_with_ids k (woven_forest chosen l)) ≡ forest_mentions x l)
        → (bytes_eq x y.text || forest_mentions x (forest_with_ids k
        (if b then weaving.catch_and_go_on y.at y.text (woven_forest chosen l) else woven_forest chosen l)))
        ≡ (bytes_eq x y.text || forest_mentions x l)
    catch_same true y l k is =
        let m : ℕ = k + id_count (hook_statement (hook_of_1 (codes "H") y.at y.text (name_of y.text))) in
        ap (λ b. bytes_eq x y.text || (b || forest_mentions x (forest_with_ids m (woven_forest chosen l))))
        (one (refl {a = bytes_eq x y.text}))
        ∙ absorbs (bytes_eq x y.text) (forest_mentions x l)
        (forest_mentions x (forest_with_ids m (woven_forest chosen l))) (is m)
    catch_same false y l k is = ap (◌||◌ (bytes_eq x y.text)) (is k)

    -- a test
    tests : (id : ℕ) (a : Expr) (n : ℕ) → ((n : ℕ) → mentions x (with_ids n (weave chosen a)) ≡ mentions x a)
        → mentions x (with_ids (n + 1) (rewriting.hook_test chosen id (weave chosen a))) ≡ mentions x a
    tests id a n is = hooked kind.Conditional (codes "C") id (weave chosen a) (n + 1) is

    -- a call, by how its callee is woven
    by_callee : {r : Bool} (b : Bool) (u v : weaving.Expr) (l : Forest ℕ tree.expr) (n : ℕ)
        → mentions x (with_ids n (tree.call u (woven_forest chosen l) tt)) ≡ r
        → mentions x (with_ids n (tree.call v (woven_forest chosen l) tt)) ≡ r
        → mentions x (with_ids n (tree.call (if b then u else v) (woven_forest chosen l) tt)) ≡ r
    by_callee true u v l n e f = e
    by_callee false u v l n e f = f

    mutual
      pub same : {y : Sort} (t : Tree ℕ y) (n : ℕ) → mentions x (with_ids n (weave chosen t)) ≡ mentions x t
      same (tree.name y s) n = way (chosen kind.Read) _ _ n (one refl) refl
      same (tree.number m s) n = way (chosen kind.Literal) _ _ n (one refl) refl
      same (tree.string m s) n = way (chosen kind.Literal) _ _ n (one refl) refl
      same (tree.boolean m s) n = way (chosen kind.Literal) _ _ n (one refl) refl
      same (tree.null s) n = way (chosen kind.Literal) _ _ n (one refl) refl
      same (tree.array l s) n = way (chosen kind.ArrayLiteral) _ _ n (one (forests l _)) (forests l _)
      same (tree.object l s) n = way (chosen kind.ObjectLiteral) _ _ n (one (forests l _)) (forests l _)
      same (tree.function_expression f s) n = way (chosen kind.FunctionLiteral) _ _ n (one refl) refl
      same (tree.dot o k s) n = way (chosen kind.GetField) _ _ n (one (same o _)) (same o _)
      same (tree.index o k s) n =
          way (chosen kind.GetField) _ _ n (two (same o _) (same k _)) (ap₂ ◌||◌ (same o _) (same k _))
      same (tree.call f l s) n = callee f s l n (λ n. same f n) (λ n. forests l n)
      same (tree.new f l s) n =
          way (rewriting.calls chosen) _ _ n (ap₂ ◌||◌ (one (same f _)) (forests l _))
          (ap₂ ◌||◌ (same f _) (forests l _))
      same (tree.unary un.Typeof e s) n = typeof_same s e (weave chosen e) n (λ n. same e n)
      same (tree.unary un.Delete e s) n = deletes e s n (λ n. same e n)
      same (tree.unary o e s) n = way (chosen kind.Unary) _ _ n (one (same e _)) (same e _)
      same (tree.update up prefix t s) n =
          way (rewriting.computes chosen t kind.Unary) _ _ n
          (back_same up prefix (woven_update chosen up t s) n (λ n. updates s up t n)) (same t _)
      same (tree.binary o a b s) n =
          way (chosen kind.Binary) _ _ n (two (same a _) (same b _)) (ap₂ ◌||◌ (same a _) (same b _))
      same (tree.and a b s) n = ap₂ ◌||◌ (tests s a n (λ n. same a n)) (same b _)
      same (tree.or a b s) n = ap₂ ◌||◌ (tests s a n (λ n. same a n)) (same b _)
      same (tree.conditional a b c s) n = ap₂ ◌||◌ (ap₂ ◌||◌ (tests s a n (λ n. same a n)) (same b _)) (same c _)
      same (tree.assign o t e s) n =
          way (rewriting.assigns chosen o t) _ _ n (assigns t s n o e (weave chosen e) (λ n. same e n))
          (ap₂ ◌||◌ (same t _) (same e _))
      same (tree.comma a b s) n = ap₂ ◌||◌ (same a _) (same b _)
      same (tree.to_dot o k s) n = same o _
      same (tree.to_index o k s) n = ap₂ ◌||◌ (same o _) (same k _)
      same (tree.filled e) n = same e _
      same (tree.value k e) n = same e _
      same (tree.getter k f) n = refl
      same (tree.setter k f) n = refl
      same (tree.body strict fs l) n = ap₂ ◌||◌ (ap (among x) (names_same fs n)) (forests l _)
      same (tree.var l s) n = forests l _
      same (tree.expression e s) n = same e _
      same (tree.block l s) n = forests l _
      same (tree.if_else c a b s) n =
          ap₂ ◌||◌ (ap₂ ◌||◌ (tests s c n (λ n. same c n)) (forests a _)) (optionals b _)
      same (tree.do_while l c s) n = ap₂ ◌||◌ (forests l _) (hooked kind.Conditional (codes "C") s (weave chosen c) _
          (λ n. same c n))
      same (tree.while c l s) n = ap₂ ◌||◌ (tests s c n (λ n. same c n)) (forests l _)
      same (tree.for i tree.absent u l s) n =
          ap₂ ◌||◌ (ap₂ ◌||◌ (ap₂ ◌||◌ (same i _) refl) (optionals u _)) (forests l _)
      same (tree.for i (tree.present c) u l s) n =
          ap₂ ◌||◌ (ap₂ ◌||◌ (ap₂ ◌||◌ (same i _)
          (hooked kind.Conditional (codes "C") s (weave chosen c) _ (λ n. same c n))) (optionals u _)) (forests l _)
      same (tree.for_in is_var y e l s) n =
          ap₂ ◌||◌ (ap (◌||◌ (bytes_eq x y.text)) (hooked kind.ForIn (codes "O") s (weave chosen e) _ (λ n. same e n)))
          (forests l _)
      same (tree.return tree.absent s) n = refl
      same (tree.return (tree.present e) s) n = hooked kind.Return (codes "V") s (weave chosen e) _ (λ n. same e n)
      same (tree.labelled y t s) n = same t n
      same (tree.switch e l s) n = ap₂ ◌||◌ (same e _) (forests l _)
      same (tree.throw e s) n = hooked kind.Throw (codes "K") s (weave chosen e) _ (λ n. same e n)
      same (tree.try l tree.absent f s) n = ap₂ ◌||◌ (ap₂ ◌||◌ (forests l _) refl) (optionals f _)
      same (tree.try l (tree.present (tree.catch y h)) f s) n =
          ap₂ ◌||◌ (ap₂ ◌||◌ (forests l _) (catch_same (chosen kind.Catch) y h
          (n + 1 + forest_id_count (woven_forest chosen l)) (λ n. forests h n))) (optionals f _)
      same (tree.init_expression e) n = same e _
      same (tree.init_var l) n = forests l _
      same (tree.declarator y tree.absent) n = refl
      same (tree.declarator y (tree.present e)) n =
          ap (◌||◌ (bytes_eq x y.text)) (written y.text y.at (weave chosen e) _ (λ n. same e n))
      same (tree.case e l) n = ap₂ ◌||◌ (optionals e _) (forests l _)
      same (tree.branch_of l) n = forests l _
      same (tree.catch y l) n = catch_same (chosen kind.Catch) y l n (λ n. forests l n)
      same _ n = refl

      callee : (f : Expr) (id : ℕ) (l : Forest ℕ tree.expr) (n : ℕ)
          → ((n : ℕ) → mentions x (with_ids n (weave chosen f)) ≡ mentions x f)
          → ((n : ℕ) → forest_mentions x (forest_with_ids n (woven_forest chosen l)) ≡ forest_mentions x l)
          → mentions x (with_ids n (tree.call (woven_callee chosen f (weave chosen f) id) (woven_forest chosen l) tt))
          ≡ (mentions x f || forest_mentions x l)
      callee (tree.dot o k s) id l n e r =
          by_callee (rewriting.calls_member chosen) _ _ l n (ap₂ ◌||◌ (one (same o _)) (r _))
          (ap₂ ◌||◌ (same o _) (r _))
      callee (tree.index o k s) id l n e r =
          by_callee (rewriting.calls_member chosen) _ _ l n (ap₂ ◌||◌ (two (same o _) (same k _)) (r _))
          (ap₂ ◌||◌ (ap₂ ◌||◌ (same o _) (same k _)) (r _))
      callee f id l n e r =
          by_callee (rewriting.calls chosen) _ (weave chosen f) l n (ap₂ ◌||◌ (one (e (n + 2 + 2 + 2 + 1))) (r _))
          (ap (λ t. mentions x t) (call_with_ids chosen f tt n (woven_forest chosen l)) ∙ ap₂ ◌||◌ (e (n + 2)) (r _))

      deletes : (f : Expr) (id n : ℕ) → ((n : ℕ) → mentions x (with_ids n (weave chosen f)) ≡ mentions x f)
          → mentions x (with_ids n (woven_delete chosen f (weave chosen f) id)) ≡ mentions x f
      deletes (tree.name y s) id n e = refl
      deletes (tree.dot o k s) id n e = way (chosen kind.DeleteField) _ _ n (one (same o _)) (same o _)
      deletes (tree.index o k s) id n e =
          way (chosen kind.DeleteField) _ _ n (two (same o _) (same k _)) (ap₂ ◌||◌ (same o _) (same k _))
      deletes _ id n e = e n

      updates : (id : ℕ) (up : Bool) (t : Tree ℕ tree.target) (n : ℕ)
          → mentions x (with_ids n (woven_update chosen up t id)) ≡ mentions x t
      updates id up (tree.to_name y) n = twice _ _ (one (one (one (refl {a = bytes_eq x y.text}))))
      updates id up (tree.to_dot o k s) n = one (same o _)
      updates id up (tree.to_index o k s) n = two (same o _) (same k _)

      assigns : (t : Tree ℕ tree.target) (id n : ℕ) (o : Option BinOp) (e : Expr) (w : weaving.Expr)
          → ((n : ℕ) → mentions x (with_ids n w) ≡ mentions x e)
          → mentions x (with_ids n (woven_assignment chosen o t w id)) ≡ (mentions x t || mentions x e)
      assigns (tree.to_name y) id n None e w is = ap (◌||◌ (bytes_eq x y.text)) (one (is _))
      assigns (tree.to_name y) id n (Some q) e w is =
          ap (◌||◌ (bytes_eq x y.text)) (one (two (one (refl {a = bytes_eq x y.text})) (is _)))
          ∙ absorbs (bytes_eq x y.text) (mentions x e) (mentions x e) refl
      assigns (tree.to_dot o k s) id n None e w is = ap₂ ◌||◌ (one (same o _)) (or_false _ ∙ is _)
      assigns (tree.to_dot o k s) id n (Some q) e w is = ap₂ ◌||◌ (one (same o _)) (or_false _ ∙ is _)
      assigns (tree.to_index o k s) id n None e w is = ap₂ ◌||◌ (two (same o _) (same k _)) (or_false _ ∙ is _)
      assigns (tree.to_index o k s) id n (Some q) e w is = ap₂ ◌||◌ (two (same o _) (same k _)) (or_false _ ∙ is _)

      pub forests : {y : Sort} (l : Forest ℕ y) (n : ℕ)
          → forest_mentions x (forest_with_ids n (woven_forest chosen l)) ≡ forest_mentions x l
      forests tree.end n = refl
      forests (tree.more t l) n = ap₂ ◌||◌ (same t n) (forests l _)

      pub optionals : {y : Sort} (m : OptionalTree ℕ y) (n : ℕ)
          → optional_mentions x (optional_with_ids n (woven_optional chosen m)) ≡ optional_mentions x m
      optionals tree.absent n = refl
      optionals (tree.present t) n = same t n

    -- a body
    pub body_same : (b : Code) (id n : ℕ) → mentions x (with_ids n (woven_body chosen id b)) ≡ mentions x b
    body_same (tree.body strict fs l) id n =
        at (chosen kind.FunctionEnter || chosen kind.FunctionExit)
      where
        at : (b : Bool)
            → mentions x (with_ids n (tree.body strict (woven_forest chosen fs)
            (if b then weaving.enter_and_leave id (woven_forest chosen l) else woven_forest chosen l)))
            ≡ mentions x (tree.body strict fs l)
        at true =
            let k : ℕ = n + forest_id_count (woven_forest chosen fs) + 0
            + id_count (hook_statement (hook (codes "E") id tree.end)) in
            ap₂ ◌||◌ (ap (among x) (names_same fs n))
            (or_false _ ∙ ap₂ ◌||◌ (or_false _
            ∙ ap (λ b. b || forest_mentions x (forest_with_ids k (woven_forest chosen l))) (ap (λ h. h || false) other)
            ∙ forests l k) (or_false _ ∙ ap (λ h. h || false) other) ∙ or_false _)
        at false = ap₂ ◌||◌ (ap (among x) (names_same fs n)) (forests l _)
