-- Statements: each is matched by its woven form.
use Rattle.std.proofs.Common.{◌≡◌, ℕ, zero, suc, ◌+◌, ◌<◌, List, [], ◌∷◌, Bool, Option, Some, None, codes, refl, sym}
use Rattle.std.proofs.Common.{ap, ◌∙◌, subst, subst₂, arith}
use Rattle.std.specs.Prelude.{if◌then◌else◌}
use Rattle.std.specs.Option.{option_map, option_or}
use mathlib.Core.Path.{fun_ext}
use Rattle.jl_ast.specs.Tree as tree
use Rattle.jl_ast.specs.Tree.{Forest, Ident, OptionalTree, Text, Tree}
use Rattle.jl_value.specs.declared.ending.Completion.{Completion}
use Rattle.jl_value.specs.declared.ending.Completion.TheVariants as completion
use Rattle.jl_value.specs.declared.value.Seen.{Seen}
use Rattle.jl_value.specs.declared.value.Value.{Value}
use Rattle.jl_heap.specs.declared.inner.Inner.{Inner}
use Rattle.jl_op.specs.Chosen.{Kinds}
use Rattle.jl_op.specs.Ids.{forest_id_count, forest_with_ids, id_count, ident_with_id, optional_with_ids, with_ids}
use Rattle.jl_op.specs.Kinds.{kind_of}
use Rattle.jl_op.specs.declared.kind.OpKind.{OpKind}
use Rattle.jl_op.specs.declared.kind.OpKind.TheVariants as kind
use Rattle.jl_op.specs.declared.op.Op.{Op}
use Rattle.jl_op.specs.declared.op.Op.TheVariants as op
use Rattle.jl_effects.specs.Effects.{and_then, Step}
use Rattle.jl_effects.specs.Matching.{both, plus, spare}
use Rattle.jl_meaning.specs.Completions.{ends_as, normal, on_given, then_do}
use Rattle.jl_meaning.specs.Expressions.{evaluate}
use Rattle.jl_meaning.specs.FunctionObjects.{callee_of, FunctionTable}
use Rattle.jl_meaning.specs.Noting.{emits, note_value}
use Rattle.jl_meaning.specs.Parts.{do_loop, for_loop, while_loop, Context, Expr, Part, Stmt, Stmts, ◌>>=◌, give}
use Rattle.jl_meaning.specs.Statements.{execute, execute_all, execute_branch, execute_from, handle, select}
use Rattle.jl_meaning.specs.Store.{Store}
use Rattle.jl_meaning.specs.forms.HookCalls.{catches, hook, plain, returns, tests, throws_value, visits, writes, Hook}
use Rattle.jl_meaning.specs.forms.Hooks.{enter_hook}
use Rattle.jl_meaning.specs.forms.Jumps.{after_labelled, return_value, throw_value}
use Rattle.jl_meaning.specs.forms.Names.{assign_name}
use Rattle.jl_meaning.specs.forms.Operators.{decide_by}
use Rattle.jl_meaning.specs.forms.Simple.{begin_for, declare_all}
use Rattle.jl_meaning.specs.forms.Switch.{after_switch, default_of}
use Rattle.jl_meaning.specs.forms.Try.{unless_abrupt}
use Rattle.jl_simulation.specs.HookCalls as weaving
use Rattle.jl_simulation.specs.HookCalls.{catch_and_go_on, hook_1, hook_of_1, hook_statement, name_of, test, without_id}
use Rattle.jl_simulation.specs.HookCalls.{write}
use Rattle.jl_simulation.specs.Plain.{id_limit}
use Rattle.jl_simulation.specs.Weaving as rewriting
use Rattle.jl_simulation.specs.Weaving.{weave, woven_forest, woven_optional}
use Rattle.jl_simulation.specs.inner.Fit.{AllFit, Fits, FitsIfPresent}
use Rattle.jl_simulation.proofs.Chosen.{split}
use Rattle.jl_simulation.proofs.Completions.{decide_by_silent, decide_by_told, end_match, ending, even_then, noted}
use Rattle.jl_simulation.proofs.Completions.{noted_silent, noted_told, sequence, stepped, test_is, value_match, valued}
use Rattle.jl_simulation.proofs.Expressions.{evaluate_match}
use Rattle.jl_simulation.proofs.HookCalls.{hook_plain_1, hook_worded_1}
use Rattle.jl_simulation.proofs.HookNames.{form_C, form_H, form_K, form_O, form_V, form_W, hook_form}
use Rattle.jl_simulation.proofs.Loops.{loop_match, visit_all_match}
use Rattle.jl_simulation.proofs.Relation.{bind, done, even, pick, EvenMatch, Matched, StatementMatch}
use Rattle.jl_simulation.proofs.Simple.{declared_first, declared_silent, declared_then, declared_told, nothing_declared}
use Rattle.jl_simulation.proofs.Simple.{DeclarationMatch}
use Rattle.jl_simulation.proofs.Try.{catch_silent_match, catch_told_match, catching, if_thrown, in_environment_of}
use Rattle.jl_simulation.proofs.Try.{told_first, try_match, uncaught_match}

-- the default of a `switch`
default_same : (chosen : Kinds) (j : ℕ) (l : Forest ℕ tree.clause)
    → default_of l ≡ default_of (forest_with_ids j (woven_forest chosen l))
default_same chosen j tree.end = refl
default_same chosen j (tree.more (tree.case tree.absent b) l) = refl
default_same chosen j (tree.more (tree.case (tree.present e) b) l) =
    ap (option_map suc)
    (default_same chosen (j + (id_count (weave chosen e) + forest_id_count (woven_forest chosen b))) l)

-- a `catch` by how the block ended
handle_is : (table : FunctionTable) (x : Ident ℕ) (l : Stmts) (c : Context) (z : Completion)
    → handle table (tree.present (tree.catch x l)) z c
    ≡ if_thrown (λ v. catching x.at c x.text v (λ env. execute_all table l (in_environment_of c env))) z
handle_is table x l c completion.Normal = refl
handle_is table x l c (completion.Return v) = refl
handle_is table x l c (completion.Throw v) = refl
handle_is table x l c (completion.Break y) = refl
handle_is table x l c (completion.Continue y) = refl

-- a `try` with a `catch`
abbrev caught_try : Part Completion → (Value → Part Completion) → Part Completion → Part Completion
caught_try p h f =
    Step (and_then p (λ z. and_then (if_thrown h z) (λ handled. ends_as (unless_abrupt handled) f)))

try_is : (table : FunctionTable) (l : Stmts) (x : Ident ℕ) (h : Stmts) (f : OptionalTree ℕ tree.branch) (s : ℕ)
    (labels : List Text) (c : Context)
    → execute table (tree.try l (tree.present (tree.catch x h)) f s) labels c
    ≡ caught_try (execute_all table l c)
    (λ v. catching x.at c x.text v (λ env. execute_all table h (in_environment_of c env))) (execute_branch table f c)
try_is table l x h f s labels c =
    ap (λ k. Step (and_then (execute_all table l c) k)) (fun_ext (λ z.
    ap (λ q. and_then q (λ handled. ends_as (unless_abrupt handled) (execute_branch table f c)))
    (handle_is table x h c z)))

-- J$.H(id, "x", x);
abbrev hook_H : (id : ℕ) → Text → weaving.Stmt
hook_H id x = hook_statement (hook_of_1 (codes "H") id x (name_of x))

-- the statements of a woven `catch`
hooked_catch : (table : FunctionTable) (x : Text) (id : ℕ) → id < id_limit → (h : weaving.Stmts) (j : ℕ) (c : Context)
    → (λ env. execute_all table (forest_with_ids j (catch_and_go_on id x h)) (in_environment_of c env))
    ≡ told_first id (j + 2 + 2 + 1 + 1) c x
    (λ env. execute_all table (forest_with_ids (j + id_count (hook_H id x)) h) (in_environment_of c env))
hooked_catch table x id small h j c = fun_ext (λ env.
    ap (λ q. then_do (Step (and_then q (on_given (λ _. normal))))
    (execute_all table (forest_with_ids (j + id_count (hook_H id x)) h) (in_environment_of c env)))
    (hook_worded_1 table (in_environment_of c env) (codes "H") _ form_H id small x (catches x) refl (name_of x) j))

module _ (chosen : Kinds) (table table' : FunctionTable)
    (same : (i : Inner) → callee_of table i ≡ callee_of table' i) where
  -- a test
  pub tested_match : (e : Expr) → Fits e → (id : ℕ) → id < id_limit → (id' j : ℕ) (c : Context) (s : Store) (n : ℕ)
      → Matched chosen s (suc n) (plus 3 n) (decide_by id (evaluate table e c))
      (decide_by id' (evaluate table' (with_ids j (rewriting.hook_test chosen id (weave chosen e))) c))
  tested_match e p id small id' j c s n =
      split (chosen kind.Conditional) (λ which. Matched chosen s (suc n) (plus 3 n) (decide_by id (evaluate table e c))
      (decide_by id' (evaluate table' (with_ids j (if which then test id (weave chosen e) else weave chosen e)) c)))
      (subst (λ q. Matched chosen s (suc n) (plus 3 n) (decide_by id (evaluate table e c)) (decide_by id' q))
      (sym (hook_plain_1 table' c (codes "C") tests form_C id small (weave chosen e) j))
      (decide_by_told c id id' (evaluate_match chosen table table' same e p (j + 2 + 2 + 1) c) s n))
      (λ h. decide_by_silent id id' h (evaluate_match chosen table table' same e p j c) s n)

  -- a test, and what is done by it, after a step of the statement
  tested_then : (e : Expr) → Fits e → (id : ℕ) → id < id_limit → (id' j : ℕ) (c : Context) (f g : Bool
      → Part Completion)
      → ((truth : Bool) → StatementMatch chosen (f truth) (g truth))
      → StatementMatch chosen (Step (and_then (decide_by id (evaluate table e c)) (on_given f)))
      (Step (and_then (decide_by id' (evaluate table' (with_ids j (rewriting.hook_test chosen id (weave chosen e))) c))
      (on_given g)))
  tested_then e p id small id' j c f g y = record {
    at = λ s d. both (spare {c = suc d} (omega arith) (valued (omega arith) (tested_match e p id small id' j c s d)
        (λ truth t. spare (omega arith) ((y truth).at t d))));
  }

  -- an operation on the value of an expression
  noted_match : (k : OpKind) (name : Text) (h : Hook) → hook_form name ≡ hook (plain h 1) → (f : Seen → Op)
      → ((c : Context) (id : ℕ) (v : Value) → enter_hook c id h (v ∷ []) ≡ (note_value emits id f v >>= (λ _. give v)))
      → ((v : Seen) → chosen (kind_of (f v)) ≡ chosen k) → (e : Expr) → Fits e → (id : ℕ) → id < id_limit → (id' j : ℕ)
      (c : Context) {g g' : Value → Part Completion} → ((v : Value) → StatementMatch chosen (g v) (g' v))
      → StatementMatch chosen (Step (and_then (evaluate table e c) (on_given (noted id f g))))
      (Step (and_then (evaluate table' (with_ids j (rewriting.hooked_if chosen k (hook_1 name id) (weave chosen e))) c)
      (on_given (noted id' f g'))))
  noted_match k name h form f emitted of e p id small id' j c {g} {g'} y =
      split (chosen k) (λ which. StatementMatch chosen (Step (and_then (evaluate table e c) (on_given (noted id f g))))
      (Step (and_then (evaluate table' (with_ids j (if which then hook_1 name id
      (weave chosen e) else weave chosen e)) c)
      (on_given (noted id' f g')))))
      (subst (λ q. StatementMatch chosen (Step (and_then (evaluate table e c) (on_given (noted id f g))))
      (Step (and_then q (on_given (noted id' f g')))))
      (sym (hook_plain_1 table' c name h form id small (weave chosen e) j))
      (noted_told (λ v. Step (enter_hook c id h (v ∷ []))) id id' f
      (evaluate_match chosen table table' same e p (j + 2 + 2 + 1) c) (λ v. ap Step (emitted c id v)) y))
      (λ i. noted_silent id id' f (λ v. of v ∙ i) (evaluate_match chosen table table' same e p j c) y)

  declare_all_match : (l : Forest ℕ tree.decl) → AllFit l → (j : ℕ) (c : Context)
      → DeclarationMatch chosen (declare_all table l c)
      (declare_all table' (forest_with_ids j (woven_forest chosen l)) c)
  declare_all_match tree.end p j c = nothing_declared
  declare_all_match (tree.more (tree.declarator x tree.absent) l) p j c =
      declared_then nothing_declared (declare_all_match l p.1 (j + 0) c)
  declare_all_match (tree.more (tree.declarator x (tree.present e)) l) p j c =
      declared_then (split (chosen kind.Write) (λ which. DeclarationMatch chosen
      (assign_name x.at c x.text (evaluate table e c) >>= (λ _. give tt))
      (assign_name j c x.text
      (evaluate table' (with_ids (j + 1) (if which then write x.at x.text (weave chosen e) else weave chosen e)) c)
      >>= (λ _. give tt)))
      (subst (λ q. DeclarationMatch chosen (assign_name x.at c x.text (evaluate table e c) >>= (λ _. give tt))
      (assign_name j c x.text q >>= (λ _. give tt)))
      (sym (hook_worded_1 table' c (codes "W") _ form_W x.at p.0.2 x.text (writes x.text) refl (weave chosen e)
      (j + 1)))
      (declared_told x.text c x.at j p.0.0 (evaluate_match chosen table table' same e p.0.1 _ c)))
      (λ h. declared_silent x.text c x.at j p.0.0 h (evaluate_match chosen table table' same e p.0.1 (j + 1) c)))
      (declare_all_match l p.1 _ c)

  begin_match : (i : Tree ℕ tree.init) → Fits i → (j : ℕ) (c : Context)
      → DeclarationMatch chosen (begin_for table i c) (begin_for table' (with_ids j (weave chosen i)) c)
  begin_match tree.nothing p j c = nothing_declared
  begin_match (tree.init_expression e) p j c = record {
    at = λ s d. bind (omega arith) ((even (evaluate_match chosen table table' same e p j c)).at s _) (λ v t. done);
  }
  begin_match (tree.init_var l) p j c = declare_all_match l p j c

  -- which case a `switch` selects
  select_match : (k : ℕ) (l : Forest ℕ tree.clause) → AllFit l → (v : Value) (j : ℕ) (c : Context)
      → EvenMatch chosen (select table k l v c) (select table' k (forest_with_ids j (woven_forest chosen l)) v c)
  select_match k tree.end p v j c = record { at = λ s d. done }
  select_match k (tree.more (tree.case tree.absent b) l) p v j c = select_match (k + 1) l p.1 v _ c
  select_match k (tree.more (tree.case (tree.present e) b) l) p v j c = record {
    at = λ s d. bind (omega arith)
        (bind {d = d} {e = d} (omega arith) ((even (evaluate_match chosen table table' same e p.0.0 _ c)).at s d)
        (λ w t. done)) (λ selected t. pick selected done ((select_match (k + 1) l p.1 v _ c).at t d));
  }

  mutual
    unfolding enter_hook return_value throw_value

    pub execute_match : (a : Stmt) → Fits a → (labels : List Text) (j : ℕ) (c : Context)
        → StatementMatch chosen (execute table a labels c) (execute table' (with_ids j (weave chosen a)) labels c)
    execute_match (tree.var l s) p labels j c = declared_first (declare_all_match l p j c) end_match
    execute_match (tree.empty s) p labels j c = stepped end_match
    execute_match (tree.expression e s) p labels j c =
        value_match (evaluate_match chosen table table' same e p j c) (λ v. end_match)
    execute_match (tree.block l s) p labels j c = stepped (execute_all_match l p j c)
    execute_match (tree.if_else e a b s) p labels j c =
        let m : ℕ = j + 1 + id_count (rewriting.hook_test chosen s (weave chosen e)) in
        let f : Bool → Part Completion = λ truth. if truth then execute_all table a c else execute_branch table b c in
        let g : Bool → Part Completion = λ truth.
        if truth then execute_all table' (forest_with_ids m (woven_forest chosen a)) c
        else execute_branch table'
        (optional_with_ids (m + forest_id_count (woven_forest chosen a)) (woven_optional chosen b)) c in
        subst₂ (λ p q. StatementMatch chosen (Step p) (Step q)) (test_is (evaluate table e c) s f)
        (test_is (evaluate table' (with_ids (j + 1) (rewriting.hook_test chosen s (weave chosen e))) c) j g)
        (tested_then e p.0 s p.3 j (j + 1) c f g (λ truth. record {
          at = λ s d. pick truth ((execute_all_match a p.1 m c).at s d)
              ((branch_match b p.2 (m + forest_id_count (woven_forest chosen a)) c).at s d);
        }))
    execute_match (tree.do_while l e s) p labels j c = stepped (loop_match (do_loop l e) c labels s p j _ _ 0)
    execute_match (tree.while e l s) p labels j c = stepped (loop_match (while_loop e l) c labels s p j _ _ 0)
    execute_match (tree.for i tree.absent u l s) p labels j c =
        declared_first (begin_match i p.0 (j + 0) c)
        (loop_match (for_loop tree.absent u l) c labels s (tt, p.2, p.3, p.4) j 0 _ _)
    execute_match (tree.for i (tree.present e) u l s) p labels j c =
        declared_first (begin_match i p.0 (j + 1) c)
        (loop_match (for_loop (tree.present e) u l) c labels s (p.1, p.2, p.3, p.4) j _ _ _)
    execute_match (tree.for_in is_var x o l s) p labels j c =
        noted_match kind.ForIn (codes "O") visits form_O op.ForIn (λ c id v. refl) (λ v. refl) o p.1 s p.3 j (j + 1) c
        (λ v. visit_all_match chosen x.text p.0 l p.2 c labels s j _ v)
    execute_match (tree.continue None s) p labels j c = stepped end_match
    execute_match (tree.continue (Some x) s) p labels j c = stepped end_match
    execute_match (tree.break None s) p labels j c = stepped end_match
    execute_match (tree.break (Some x) s) p labels j c = stepped end_match
    execute_match (tree.return tree.absent s) p labels j c = stepped end_match
    execute_match (tree.return (tree.present e) s) p labels j c =
        noted_match kind.Return (codes "V") returns form_V op.Return (λ c id v. refl) (λ v. refl) e p.0 s p.1 j
        (j + 1) c
        (λ v. end_match)
    execute_match (tree.labelled x t s) p labels j c =
        stepped (ending (after_labelled x.text) (execute_match t p (x.text ∷ labels) j c))
    execute_match (tree.switch e l s) p labels j c =
        let m : ℕ = j + id_count (weave chosen e) in
        value_match (evaluate_match chosen table table' same e p.0 j c) (λ v. even_then (select_match 0 l p.1 v m c)
        (λ selected. ending after_switch (subst
        (λ k. StatementMatch chosen (execute_from table (option_or selected (default_of l)) l c)
        (execute_from table' (option_or selected k) (forest_with_ids m (woven_forest chosen l)) c))
        (default_same chosen m l) (from_match (option_or selected (default_of l)) l p.1 m c))))
    execute_match (tree.throw e s) p labels j c =
        noted_match kind.Throw (codes "K") throws_value form_K op.Throw (λ c id v. refl) (λ v. refl) e p.0 s p.1 j
        (j + 1) c
        (λ v. end_match)
    execute_match (tree.try l tree.absent f s) p labels j c =
        try_match (uncaught_match (execute_all_match l p.0 (j + 0) c)
        (λ z. ending (unless_abrupt z) (branch_match f p.2 _ c)))
    execute_match (tree.try l (tree.present (tree.catch x h)) f s) p labels j c =
        let l' : weaving.Stmts = woven_forest chosen l in
        let h' : weaving.Stmts = woven_forest chosen h in
        let k : ℕ = j + 1 + forest_id_count l' in
        split (chosen kind.Catch) (λ which. StatementMatch chosen
        (execute table (tree.try l (tree.present (tree.catch x h)) f s) labels c)
        (execute table' (with_ids j (tree.try l' (tree.present (tree.catch (without_id x)
        (if which then catch_and_go_on x.at x.text h' else h'))) (woven_optional chosen f) tt)) labels c))
        (let hs : weaving.Stmts = catch_and_go_on x.at x.text h' in
        let m : ℕ = k + id_count (hook_H x.at x.text) in
        let f' : OptionalTree ℕ tree.branch = optional_with_ids (k + forest_id_count hs) (woven_optional chosen f) in
        subst₂ (StatementMatch chosen) (sym (try_is table l x h f s labels c))
        (sym (try_is table' (forest_with_ids (j + 1) l') (ident_with_id (without_id x) j)
        (forest_with_ids k hs) f' j labels c
        ∙ ap (λ g. caught_try (execute_all table' (forest_with_ids (j + 1) l') c) (λ v. catching j c x.text v g)
        (execute_branch table' f' c)) (hooked_catch table' x.text x.at p.3 h' k c)))
        (try_match (catch_told_match x.at j _ c x.text _
        (λ env. execute_all table' (forest_with_ids m h') (in_environment_of c env)) p.1.0 (execute_all_match l p.0
        (j + 1) c)
        (λ env. execute_all_match h p.1.1 m (in_environment_of c env))
        (λ z. ending (unless_abrupt z) (branch_match f p.2 (k + forest_id_count hs) c)))))
        (λ q. subst₂ (StatementMatch chosen) (sym (try_is table l x h f s labels c))
        (sym (try_is table' (forest_with_ids (j + 1) l') (ident_with_id (without_id x) j) (forest_with_ids k h')
        (optional_with_ids (k + forest_id_count h') (woven_optional chosen f)) j labels c))
        (try_match (catch_silent_match x.at j c x.text _ _ q (execute_all_match l p.0 (j + 1) c)
        (λ env. execute_all_match h p.1.1 k (in_environment_of c env))
        (λ z. ending (unless_abrupt z) (branch_match f p.2 (k + forest_id_count h') c)))))
    execute_match (tree.debugger s) p labels j c = stepped end_match

    pub execute_all_match : (l : Stmts) → AllFit l → (j : ℕ) (c : Context)
        → StatementMatch chosen (execute_all table l c)
        (execute_all table' (forest_with_ids j (woven_forest chosen l)) c)
    execute_all_match tree.end p j c = end_match
    execute_all_match (tree.more t l) p j c =
        sequence (execute_match t p.0 [] _ c) (execute_all_match l p.1 _ c)

    branch_match : (m : OptionalTree ℕ tree.branch) → FitsIfPresent m → (j : ℕ) (c : Context)
        → StatementMatch chosen (execute_branch table m c)
        (execute_branch table' (optional_with_ids j (woven_optional chosen m)) c)
    branch_match tree.absent p j c = end_match
    branch_match (tree.present (tree.branch_of l)) p j c = execute_all_match l p j c

    from_match : (k : Option ℕ) (l : Forest ℕ tree.clause) → AllFit l → (j : ℕ) (c : Context)
        → StatementMatch chosen (execute_from table k l c)
        (execute_from table' k (forest_with_ids j (woven_forest chosen l)) c)
    from_match None tree.end p j c = end_match
    from_match None (tree.more t l) p j c = end_match
    from_match (Some k) tree.end p j c = end_match
    from_match (Some zero) (tree.more (tree.case e b) l) p j c =
        sequence (execute_all_match b p.0.1 _ c) (from_match (Some 0) l p.1 _ c)
    from_match (Some (suc k)) (tree.more (tree.case e b) l) p j c = from_match (Some k) l p.1 _ c
