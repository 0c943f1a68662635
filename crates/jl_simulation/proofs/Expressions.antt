-- Expressions: each is matched by its woven form.
use Rattle.std.proofs.Common.{◌≡◌, ℕ, ◌+◌, ◌<◌, List, [], Bool, true, false, Some, None, codes, refl, sym, ap, ◌∙◌}
use Rattle.std.proofs.Common.{subst, subst₂, arith}
use Rattle.std.specs.Prelude.{if◌then◌else◌}
use Rattle.jl_ast.specs.Tree as tree
use Rattle.jl_ast.specs.Tree.{Forest, Text, Tree}
use Rattle.jl_ast.specs.declared.ops.UnOp.TheVariants as un
use Rattle.jl_value.specs.declared.object.ObjId.{ObjId}
use Rattle.jl_value.specs.declared.value.Value.{Value}
use Rattle.jl_value.specs.declared.value.Value.TheVariants as value
use Rattle.jl_heap.specs.declared.inner.Inner.{Inner}
use Rattle.jl_op.specs.Chosen.{Kinds}
use Rattle.jl_op.specs.Ids.{forest_with_ids, id_count, with_ids}
use Rattle.jl_op.specs.Trace.{binary_sign, unary_sign}
use Rattle.jl_op.specs.declared.kind.OpKind.TheVariants as kind
use Rattle.jl_op.specs.declared.sign.UnKind.TheVariants as unary
use Rattle.jl_op.specs.UnaryKinds.{unary_kind, update_kind}
use Rattle.jl_effects.specs.Effects.{Step}
use Rattle.jl_effects.specs.Matching.{ends, both, spare, plus}
use Rattle.jl_meaning.specs.Expressions.{equip, evaluate, evaluate_all, fill}
use Rattle.jl_meaning.specs.FunctionObjects.{callee_of, make_function_expression, FunctionTable}
use Rattle.jl_meaning.specs.Parts.{Answer, Context, Expr, Exprs, Part, ◌>>=◌, give}
use Rattle.jl_meaning.specs.Store.{Store}
use Rattle.jl_meaning.specs.forms.Calls.{call_member, call_value}
use Rattle.jl_meaning.specs.forms.HookCalls.{binary_of, count, deletes, gets, makes, opens_assign, opens_call}
use Rattle.jl_meaning.specs.forms.HookCalls.{opens_method, opens_new, opens_put, reads, tests, types, unary_of, updates}
use Rattle.jl_meaning.specs.forms.HookCalls.{writes}
use Rattle.jl_meaning.specs.forms.Hooks.{call_by_form, call_of_call}
use Rattle.jl_meaning.specs.forms.Literals.{put_element}
use Rattle.jl_meaning.specs.forms.Names.{assign_name}
use Rattle.jl_meaning.specs.forms.Operators.{decide}
use Rattle.jl_meaning.proofs.MadeFunctions.{expression_same}
use Rattle.jl_simulation.specs.HookCalls as weaving
use Rattle.jl_simulation.specs.HookCalls.{hook_1, hook_2, name_of, string_of, test}
use Rattle.jl_simulation.specs.Plain.{id_limit}
use Rattle.jl_simulation.specs.Weaving as rewriting
use Rattle.jl_simulation.specs.Weaving.{weave, woven_forest}
use Rattle.jl_simulation.specs.inner.Fit.{AllFit, Fits, FollowsMember, UnaryFits}
use Rattle.jl_simulation.proofs.Calls.{assign_dot_told, assign_index_told, call_silent, call_told, method_dot_silent}
use Rattle.jl_simulation.proofs.Calls.{method_dot_told, method_index_silent, method_index_told, new_silent, new_told}
use Rattle.jl_simulation.proofs.Calls.{put_dot_told, put_index_told}
use Rattle.jl_simulation.proofs.Chosen.{first_not, none_of, second_not, split, NoneOf}
use Rattle.jl_simulation.proofs.Entries.{entry_to, getter_to, setter_to}
use Rattle.jl_simulation.proofs.HookCalls.{hook_plain_1, hook_plain_2, hook_worded_1, hook_worded_2, opener_plain_1}
use Rattle.jl_simulation.proofs.HookCalls.{opener_plain_2, opener_worded_2}
use Rattle.jl_simulation.proofs.HookNames.{asks_assign, asks_binary, asks_unary, asks_update, form_A, form_B, form_C}
use Rattle.jl_simulation.proofs.HookNames.{form_F}
use Rattle.jl_simulation.proofs.HookNames.{form_G, form_I, form_M, form_N, form_P, form_R, form_T, form_U, form_W}
use Rattle.jl_simulation.proofs.HookNames.{form_Y}
use Rattle.jl_simulation.proofs.HookNames.{form_Z, word_A, word_B, word_I, word_U}
use Rattle.jl_simulation.proofs.HookedNames.{computed_hook, had_back_hook, updated_hook}
use Rattle.jl_simulation.proofs.Literals.{array_as_is, array_told, function_as_is, function_told, literal_silent}
use Rattle.jl_simulation.proofs.Literals.{literal_told, object_as_is, object_told}
use Rattle.jl_simulation.proofs.MadeFunctions.{made_alike}
use Rattle.jl_simulation.proofs.Members.{compute_dot_silent, compute_index_silent, delete_dot_silent, delete_dot_told}
use Rattle.jl_simulation.proofs.Members.{delete_index_silent, delete_index_told, delete_other, dot_silent, dot_told}
use Rattle.jl_simulation.proofs.Members.{index_silent, index_told, put_dot_silent, put_index_silent, update_dot_silent}
use Rattle.jl_simulation.proofs.Members.{update_index_silent}
use Rattle.jl_simulation.proofs.Names.{assign_name_silent, assign_name_told, compute_name_silent, compute_name_told}
use Rattle.jl_simulation.proofs.Names.{delete_name_match, name_silent, name_told, typeof_name_silent, typeof_name_told}
use Rattle.jl_simulation.proofs.Names.{update_name_silent}
use Rattle.jl_simulation.proofs.Operators.{binary_silent, binary_told, comma_match, decide_silent, decide_told}
use Rattle.jl_simulation.proofs.Operators.{unary_silent}
use Rattle.jl_simulation.proofs.Operators.{unary_told}
use Rattle.jl_simulation.proofs.Relation.{Matched, algorithm, bind, bind_both, done, even, pick, EvenMatch}
use Rattle.jl_simulation.proofs.Relation.{ExpressionMatch}
use Rattle.jl_simulation.proofs.Shapes.{called_as_is, callee_no_hook, delete_as_is, member_no_hook, typeof_as_is}
use Rattle.jl_simulation.proofs.Shapes.{woven_member_no_hook, woven_no_first, woven_no_member, IsNoMember}
use Rattle.jl_simulation.proofs.Updates.{one_back, update_dot_postfix, update_dot_prefix, update_index_postfix}
use Rattle.jl_simulation.proofs.Updates.{update_index_prefix, update_postfix_told, update_prefix_told}

pub less : (id : ℕ) → id + 2 < id_limit → id < id_limit
less id h = omega arith

module _ {chosen : Kinds} where
  -- by what the second part is, or both are
  second_is : {p q r : Part (Answer Value)} → q ≡ r → ExpressionMatch chosen p r → ExpressionMatch chosen p q
  second_is {p = p} e x = subst (ExpressionMatch chosen p) (sym e) x

  both_are : {p p' q q' : Part (Answer Value)} → p ≡ p' → q ≡ q' → ExpressionMatch chosen p' q'
      → ExpressionMatch chosen p q
  both_are e f x = subst₂ (ExpressionMatch chosen) (sym e) (sym f) x

module _ (chosen : Kinds) (table table' : FunctionTable)
    (same : (i : Inner) → callee_of table i ≡ callee_of table' i) where
  -- it matches its woven form, which may call a hook
  abbrev Woven : Expr → Context → (j : ℕ) → Type 0
  Woven e c j = ExpressionMatch chosen (evaluate table e c) (evaluate table' (with_ids j (weave chosen e)) c)

  way : {p : Part (Answer Value)} (b : Bool) (x y : weaving.Expr) (j : ℕ) (c : Context)
      → ExpressionMatch chosen p (evaluate table' (with_ids j x) c)
      → (b ≡ false → ExpressionMatch chosen p (evaluate table' (with_ids j y) c))
      → ExpressionMatch chosen p (evaluate table' (with_ids j (if b then x else y)) c)
  way true x y j c f g = f
  way false x y j c f g = g refl

  -- `typeof`
  typeof_match : (e : Expr) (id : ℕ) → UnaryFits un.Typeof e (Fits e) id → (j : ℕ) (c : Context)
      → (Fits e → (j : ℕ) → Woven e c j) → Woven (tree.unary un.Typeof e id) c j
  typeof_match (tree.name x s) id p j c itself =
      way (chosen kind.TypeofName) _ _ j c
      (second_is (hook_worded_1 table' c (codes "Y") _ form_Y id p.1 x (types x) refl
      (tree.unary un.Typeof (tree.name x tt) tt) j) (typeof_name_told x c id _ p.0))
      (λ e. typeof_name_silent x c id _ e)
  typeof_match e id p j c itself =
      way (chosen kind.Unary) _ _ j c
      (second_is (hook_worded_1 table' c (codes "U") asks_unary form_U id p.1 (unary_sign unary.Typeof)
      (unary_of unary.Typeof) (word_U unary.Typeof) (weave chosen e) j)
      (unary_told c unary.Typeof id (itself p.0 (j + 2 + 2 + 1 + 1)) (λ v. refl)))
      (λ h. second_is (typeof_as_is chosen table' c e tt j) (unary_silent unary.Typeof id j h (itself p.0 (j + 1))))

  -- a call of a value
  value_called : (f : Expr) → Fits f → IsNoMember f → (l : Exprs) (id : ℕ) → id < id_limit → (j : ℕ) (c : Context)
      → ((j : ℕ) → Woven f c j)
      → ((j : ℕ) → EvenMatch chosen (evaluate_all table 0 [] l c)
      (evaluate_all table' 0 [] (forest_with_ids j (woven_forest chosen l)) c))
      → ExpressionMatch chosen (Step (call_value table id (evaluate table f c) (evaluate_all table 0 [] l c)))
      (evaluate table' (with_ids j (tree.call
      (if rewriting.calls chosen then hook_1 (codes "F") id (weave chosen f) else weave chosen f)
      (woven_forest chosen l) tt)) c)
  value_called f p h l id small j c itself args =
      split (rewriting.calls chosen) (λ which. ExpressionMatch chosen
      (Step (call_value table id (evaluate table f c) (evaluate_all table 0 [] l c)))
      (evaluate table' (with_ids j (tree.call
      (if which then hook_1 (codes "F") id (weave chosen f) else weave chosen f) (woven_forest chosen l) tt)) c))
      (second_is (opener_plain_1 table' c (codes "F") opens_call form_F id small (weave chosen f)
      (woven_forest chosen l) j
      refl) (call_told table table' same c id (itself (j + 2 + 2 + 2 + 1)) (args _)))
      (λ e. second_is (called_as_is table' c (weave chosen f) (woven_no_member chosen f h)
      (woven_no_first chosen f p h) j
      (woven_forest chosen l))
      (call_silent table table' same (first_not (chosen kind.InvokePre) (chosen kind.InvokePost) e)
      (second_not (chosen kind.InvokePre) (chosen kind.InvokePost) e) id (j + 0) (itself (j + 2)) (args _)))

  mutual
    pub evaluate_match : (e : Expr) → Fits e → (j : ℕ) → (c : Context) → Woven e c j
    evaluate_match (tree.this s) p j c = record { at = λ s d. both (ends (omega arith)) }
    evaluate_match (tree.name x s) p j c =
        way (chosen kind.Read) _ _ j c
        (second_is (hook_worded_1 table' c (codes "R") _ form_R s p.1 x (reads x) refl (name_of x) j)
        (name_told x c s _ p.0)) (λ e. name_silent x c s _ e)
    evaluate_match (tree.number m s) p j c =
        way (chosen kind.Literal) _ _ j c
        (second_is (hook_plain_1 table' c (codes "T") makes form_T s p (tree.number m tt) j)
        (literal_told c (value.Num m) s _)) (λ e. literal_silent (value.Num m) _ s _ (λ heap. refl) e)
    evaluate_match (tree.string t s) p j c =
        way (chosen kind.Literal) _ _ j c
        (second_is (hook_plain_1 table' c (codes "T") makes form_T s p (tree.string t tt) j)
        (literal_told c (value.Text t) s _)) (λ e. literal_silent (value.Text t) _ s _ (λ heap. refl) e)
    evaluate_match (tree.boolean b s) p j c =
        way (chosen kind.Literal) _ _ j c
        (second_is (hook_plain_1 table' c (codes "T") makes form_T s p (tree.boolean b tt) j)
        (literal_told c (value.Bool b) s _)) (λ e. literal_silent (value.Bool b) _ s _ (λ heap. refl) e)
    evaluate_match (tree.null s) p j c =
        way (chosen kind.Literal) _ _ j c
        (second_is (hook_plain_1 table' c (codes "T") makes form_T s p (tree.null tt) j)
        (literal_told c value.Null s _)) (λ e. literal_silent value.Null _ s _ (λ heap. refl) e)
    evaluate_match (tree.array l s) p j c =
        way (chosen kind.ArrayLiteral) _ _ j c
        (second_is (hook_plain_1 table' c (codes "T") makes form_T s p.1 (tree.array (woven_forest chosen l) tt) j)
        (array_told c s (j + 2 + 2 + 1) (λ a. fill_match l p.0 a 0 (j + 2 + 2 + 1 + 1) c)))
        (λ e. array_as_is s j e (λ a. fill_match l p.0 a 0 (j + 1) c))
    evaluate_match (tree.object l s) p j c =
        way (chosen kind.ObjectLiteral) _ _ j c
        (second_is (hook_plain_1 table' c (codes "T") makes form_T s p.1 (tree.object (woven_forest chosen l) tt) j)
        (object_told c s (j + 2 + 2 + 1) (λ a. equip_match l p.0 a (j + 2 + 2 + 1 + 1) c)))
        (λ e. object_as_is s j e (λ a. equip_match l p.0 a (j + 1) c))
    evaluate_match (tree.function_expression f s) p j c =
        way (chosen kind.FunctionLiteral) _ _ j c
        (second_is (hook_plain_1 table' c (codes "T") makes form_T s p.1 (tree.function_expression
        (weave chosen f) tt) j)
        (function_told c (make_function_expression c.strict c.env f)
        (make_function_expression c.strict c.env (with_ids (j + 2 + 2 + 1 + 1) (weave chosen f))) s (j + 2 + 2 + 1)
        (expression_same (made_alike chosen (j + 2 + 2 + 1 + 1) f) c.strict c.env)))
        (λ e. function_as_is (make_function_expression c.strict c.env f)
        (make_function_expression c.strict c.env (with_ids (j + 1) (weave chosen f))) s _ e
        (expression_same (made_alike chosen (j + 1) f) c.strict c.env))
    evaluate_match (tree.dot o k s) p j c =
        way (chosen kind.GetField) _ _ j c
        (second_is (hook_plain_2 table' c (codes "G") gets form_G s p.1 (weave chosen o) (string_of k) j)
        (dot_told c k s _ (evaluate_match o p.0 _ c))) (λ e. dot_silent k s _ e (evaluate_match o p.0 _ c))
    evaluate_match (tree.index o k s) p j c =
        way (chosen kind.GetField) _ _ j c
        (second_is (hook_plain_2 table' c (codes "G") gets form_G s p.2 (weave chosen o) (weave chosen k) j)
        (index_told c s (evaluate_match o p.0 _ c) (evaluate_match k p.1 _ c)))
        (λ e. index_silent s _ e (evaluate_match o p.0 _ c) (evaluate_match k p.1 _ c))
    evaluate_match (tree.call f l t) p j c =
        callee_match f p.0 l t p.2 p.3 j c (λ j. evaluate_match f p.0 j c) (λ j. values_match l p.1 [] j c)
    evaluate_match (tree.new f l t) p j c =
        way (rewriting.calls chosen) _ _ j c
        (second_is (opener_plain_1 table' c (codes "N") opens_new form_N t p.2 (weave chosen f)
        (woven_forest chosen l) j refl)
        (new_told table table' same c t (evaluate_match f p.0 _ c) (values_match l p.1 [] _ c)))
        (λ e. new_silent table table' same (first_not (chosen kind.InvokePre) (chosen kind.InvokePost) e)
        (second_not (chosen kind.InvokePre) (chosen kind.InvokePost) e) t _ (evaluate_match f p.0 _ c)
        (values_match l p.1 [] _ c))
    evaluate_match (tree.unary un.Typeof e t) p j c = typeof_match e t p j c (λ q j. evaluate_match e q j c)
    evaluate_match (tree.unary un.Delete e t) p j c = delete_match e t p j c (λ q j. evaluate_match e q j c)
    evaluate_match (tree.unary o e t) p j c =
        way (chosen kind.Unary) _ _ j c
        (second_is (hook_worded_1 table' c (codes "U") asks_unary form_U t p.1 (unary_sign (unary_kind o))
        (unary_of (unary_kind o)) (word_U (unary_kind o)) (weave chosen e) j)
        (unary_told c (unary_kind o) t (evaluate_match e p.0 _ c) (λ v. refl)))
        (λ h. unary_silent (unary_kind o) t _ h (evaluate_match e p.0 _ c))
    evaluate_match (tree.binary o a b s) p j c =
        way (chosen kind.Binary) _ _ j c
        (second_is (hook_worded_2 table' c (codes "B") asks_binary form_B s p.2 (binary_sign o) (binary_of o) (word_B o)
        (weave chosen a) (weave chosen b) j) (binary_told c o s (evaluate_match a p.0 _ c) (evaluate_match b p.1 _ c)))
        (λ e. binary_silent o s _ e (evaluate_match a p.0 _ c) (evaluate_match b p.1 _ c))
    evaluate_match (tree.update up true (tree.to_name x) s) p j c =
        way (rewriting.computes chosen (tree.to_name x) kind.Unary) _ _ j c
        (second_is (ap (λ q. Step (assign_name j c x.text q)) (updated_hook table' c x.text up s p.1 (j + 1 + 0)))
        (update_prefix_told x.text c up s _ j p.0))
        (λ e. let h : NoneOf (chosen kind.Read) (chosen kind.Unary) (chosen kind.Write) = none_of _ _ _ e in
        update_name_silent x.text c up true s _ h.first h.second h.third)
    evaluate_match (tree.update up false (tree.to_name x) s) p j c =
        way (rewriting.computes chosen (tree.to_name x) kind.Unary) _ _ j c
        (let e' : weaving.Expr = rewriting.woven_update chosen up (tree.to_name x) s in
        second_is (had_back_hook table' c up e' j
        ∙ ap (λ q. Step (q >>= one_back j (j + 1 + id_count e') up)) (ap (λ q. Step (assign_name (j + 1) c x.text q))
        (updated_hook table' c x.text up s p.1 (j + 1 + 1 + 0))))
        (update_postfix_told x.text c up s _ (j + 1) j (j + 1 + id_count e') p.0))
        (λ e. let h : NoneOf (chosen kind.Read) (chosen kind.Unary) (chosen kind.Write) = none_of _ _ _ e in
        update_name_silent x.text c up false s _ h.first h.second h.third)
    evaluate_match (tree.update up true (tree.to_dot o k s) t) p j c =
        way (rewriting.computes chosen (tree.to_dot o k s) kind.Unary) _ _ j c
        (second_is (hook_worded_2 table' c (codes "I") asks_update form_I t (less t p.1) (unary_sign (update_kind up))
        (updates (update_kind up)) (word_I up) (weave chosen o) (string_of k) j)
        (update_dot_prefix c up t k _ (evaluate_match o p.0 _ c)))
        (λ e. let h : NoneOf (chosen kind.GetField) (chosen kind.Unary) (chosen kind.PutField) = none_of _ _ _ e in
        update_dot_silent c k up true t _ h.first h.second h.third (evaluate_match o p.0 _ c))
    evaluate_match (tree.update up false (tree.to_dot o k s) t) p j c =
        way (rewriting.computes chosen (tree.to_dot o k s) kind.Unary) _ _ j c
        (let e' : weaving.Expr = rewriting.woven_update chosen up (tree.to_dot o k s) t in
        second_is (had_back_hook table' c up e' j ∙ ap (λ q. Step (q >>= one_back j (j + 1 + id_count e') up))
        (hook_worded_2 table' c (codes "I") asks_update form_I t (less t p.1) (unary_sign (update_kind up))
        (updates (update_kind up)) (word_I up) (weave chosen o) (string_of k) (j + 1)))
        (update_dot_postfix c up t k _ j (j + 1 + id_count e') (evaluate_match o p.0 _ c)))
        (λ e. let h : NoneOf (chosen kind.GetField) (chosen kind.Unary) (chosen kind.PutField) = none_of _ _ _ e in
        update_dot_silent c k up false t _ h.first h.second h.third (evaluate_match o p.0 _ c))
    evaluate_match (tree.update up true (tree.to_index o k s) t) p j c =
        way (rewriting.computes chosen (tree.to_index o k s) kind.Unary) _ _ j c
        (second_is (hook_worded_2 table' c (codes "I") asks_update form_I t (less t p.1) (unary_sign (update_kind up))
        (updates (update_kind up)) (word_I up) (weave chosen o) (weave chosen k) j)
        (update_index_prefix c up t (evaluate_match o p.0.0 _ c) (evaluate_match k p.0.1 _ c)))
        (λ e. let h : NoneOf (chosen kind.GetField) (chosen kind.Unary) (chosen kind.PutField) = none_of _ _ _ e in
        update_index_silent c up true t _ h.first h.second h.third (evaluate_match o p.0.0 _ c)
        (evaluate_match k p.0.1 _ c))
    evaluate_match (tree.update up false (tree.to_index o k s) t) p j c =
        way (rewriting.computes chosen (tree.to_index o k s) kind.Unary) _ _ j c
        (let e' : weaving.Expr = rewriting.woven_update chosen up (tree.to_index o k s) t in
        second_is (had_back_hook table' c up e' j ∙ ap (λ q. Step (q >>= one_back j (j + 1 + id_count e') up))
        (hook_worded_2 table' c (codes "I") asks_update form_I t (less t p.1) (unary_sign (update_kind up))
        (updates (update_kind up)) (word_I up) (weave chosen o) (weave chosen k) (j + 1)))
        (update_index_postfix c up t j (j + 1 + id_count e') (evaluate_match o p.0.0 _ c) (evaluate_match k p.0.1 _ c)))
        (λ e. let h : NoneOf (chosen kind.GetField) (chosen kind.Unary) (chosen kind.PutField) = none_of _ _ _ e in
        update_index_silent c up false t _ h.first h.second h.third (evaluate_match o p.0.0 _ c)
        (evaluate_match k p.0.1 _ c))
    evaluate_match (tree.and a b s) p j c =
        let f : Bool → Value → Part (Answer Value) = λ truth v. if truth then evaluate table b c else give v in
        let g : ℕ → Bool → Value → Part (Answer Value) = λ m truth v.
        if truth then evaluate table' (with_ids m (weave chosen b)) c else give v in
        let on : (m : ℕ) (truth : Bool) (v : Value) (s : Store) (d : ℕ)
        → Matched chosen s (plus 4 d) (plus 4 d) (f truth v) (g m truth v) =
        λ m truth v s d. pick truth (spare (omega arith) ((evaluate_match b p.1 m c).at s d)) done in
        split (chosen kind.Conditional) (λ which. ExpressionMatch chosen (evaluate table (tree.and a b s) c)
        (evaluate table' (with_ids j
        (tree.and (if which then test s (weave chosen a) else weave chosen a) (weave chosen b) tt)) c))
        (second_is (ap (λ q. Step (q >>= (λ v.
        (decide j v >>= (λ truth. g (j + 1 + id_count (test s (weave chosen a))) truth v)))))
        (hook_plain_1 table' c (codes "C") tests form_C s p.2 (weave chosen a) (j + 1)))
        (decide_told c {f = f} {g = g (j + 1 + id_count (test s (weave chosen a)))} s j (evaluate_match a p.0 _ c)
        (on (j + 1 + id_count (test s (weave chosen a))))))
        (λ h. decide_silent {f = f} {g = g (j + 1 + id_count (weave chosen a))} s j h (evaluate_match a p.0 _ c)
        (on (j + 1 + id_count (weave chosen a))))
    evaluate_match (tree.or a b s) p j c =
        let f : Bool → Value → Part (Answer Value) = λ truth v. if truth then give v else evaluate table b c in
        let g : ℕ → Bool → Value → Part (Answer Value) = λ m truth v.
        if truth then give v else evaluate table' (with_ids m (weave chosen b)) c in
        let on : (m : ℕ) (truth : Bool) (v : Value) (s : Store) (d : ℕ)
        → Matched chosen s (plus 4 d) (plus 4 d) (f truth v) (g m truth v) =
        λ m truth v s d. pick truth done (spare (omega arith) ((evaluate_match b p.1 m c).at s d)) in
        split (chosen kind.Conditional) (λ which. ExpressionMatch chosen (evaluate table (tree.or a b s) c)
        (evaluate table' (with_ids j
        (tree.or (if which then test s (weave chosen a) else weave chosen a) (weave chosen b) tt)) c))
        (second_is (ap (λ q. Step (q >>= (λ v.
        (decide j v >>= (λ truth. g (j + 1 + id_count (test s (weave chosen a))) truth v)))))
        (hook_plain_1 table' c (codes "C") tests form_C s p.2 (weave chosen a) (j + 1)))
        (decide_told c {f = f} {g = g (j + 1 + id_count (test s (weave chosen a)))} s j (evaluate_match a p.0 _ c)
        (on (j + 1 + id_count (test s (weave chosen a))))))
        (λ h. decide_silent {f = f} {g = g (j + 1 + id_count (weave chosen a))} s j h (evaluate_match a p.0 _ c)
        (on (j + 1 + id_count (weave chosen a))))
    evaluate_match (tree.conditional a b d s) p j c =
        let f : Bool → Value → Part (Answer Value) =
        λ truth v. if truth then evaluate table b c else evaluate table d c in
        let g : ℕ → Bool → Value → Part (Answer Value) = λ m truth v.
        if truth then evaluate table' (with_ids m (weave chosen b)) c
        else evaluate table' (with_ids (m + id_count (weave chosen b)) (weave chosen d)) c in
        let on : (m : ℕ) (truth : Bool) (v : Value) (s : Store) (e : ℕ)
        → Matched chosen s (plus 4 e) (plus 4 e) (f truth v) (g m truth v) =
        λ m truth v s e. pick truth (spare (omega arith) ((evaluate_match b p.1 m c).at s e))
        (spare (omega arith) ((evaluate_match d p.2 (m + id_count (weave chosen b)) c).at s e)) in
        split (chosen kind.Conditional) (λ which. ExpressionMatch chosen (evaluate table (tree.conditional a b d s) c)
        (evaluate table' (with_ids j
        (tree.conditional (if which then test s (weave chosen a) else weave chosen a) (weave chosen b)
        (weave chosen d) tt)) c))
        (second_is (ap (λ q. Step (q >>= (λ v.
        (decide j v >>= (λ truth. g (j + 1 + id_count (test s (weave chosen a))) truth v)))))
        (hook_plain_1 table' c (codes "C") tests form_C s p.3 (weave chosen a) (j + 1)))
        (decide_told c {f = f} {g = g (j + 1 + id_count (test s (weave chosen a)))} s j (evaluate_match a p.0 _ c)
        (on (j + 1 + id_count (test s (weave chosen a))))))
        (λ h. decide_silent {f = f} {g = g (j + 1 + id_count (weave chosen a))} s j h (evaluate_match a p.0 _ c)
        (on (j + 1 + id_count (weave chosen a))))
    evaluate_match (tree.assign None (tree.to_name x) e s) p j c =
        way (chosen kind.Write) _ _ j c
        (second_is (ap (λ q. Step (assign_name j c x.text q)) (hook_worded_1 table' c (codes "W") _ form_W s p.0 x.text
        (writes x.text) refl (weave chosen e) (j + 1 + 0)))
        (assign_name_told x.text c s j p.1 (evaluate_match e p.2 _ c)))
        (λ h. assign_name_silent x.text c s _ h (evaluate_match e p.2 _ c))
    evaluate_match (tree.assign (Some o) (tree.to_name x) e s) p j c =
        way (rewriting.computes chosen (tree.to_name x) kind.Binary) _ _ j c
        (second_is (ap (λ q. Step (assign_name j c x.text q))
        (computed_hook table' c x.text o s p.0.1 (weave chosen e) (j + 1 + 0)))
        (compute_name_told x.text c o s _ j p.1 (evaluate_match e p.2 _ c)))
        (λ q. let h : NoneOf (chosen kind.Read) (chosen kind.Binary) (chosen kind.Write) = none_of _ _ _ q in
        compute_name_silent x.text c o s _ h.first h.second h.third (evaluate_match e p.2 _ c))
    evaluate_match (tree.assign None (tree.to_dot o k s) e t) p j c =
        way (chosen kind.PutField) _ _ j c
        (second_is (opener_plain_2 table' c (codes "P") opens_put form_P t p.0 (weave chosen o) (string_of k)
        (tree.more (weave chosen e) tree.end) j refl)
        (put_dot_told table table' same c k t _ (evaluate_match o p.1 _ c) (evaluate_match e p.2 _ c)))
        (λ h. put_dot_silent c k t _ h (evaluate_match o p.1 _ c) (evaluate_match e p.2 _ c))
    evaluate_match (tree.assign (Some q) (tree.to_dot o k s) e t) p j c =
        way (rewriting.computes chosen (tree.to_dot o k s) kind.Binary) _ _ j c
        (second_is (opener_worded_2 table' c (codes "A") asks_assign form_A t (less t p.0.1) (binary_sign q)
        (opens_assign q)
        (word_A q p.0.0) (weave chosen o) (string_of k) (tree.more (weave chosen e) tree.end) j refl)
        (assign_dot_told table table' same c q k t _ (evaluate_match o p.1 _ c) (evaluate_match e p.2 _ c)))
        (λ i. let h : NoneOf (chosen kind.GetField) (chosen kind.Binary) (chosen kind.PutField) = none_of _ _ _ i in
        compute_dot_silent c q k t _ h.first h.second h.third (evaluate_match o p.1 _ c) (evaluate_match e p.2 _ c))
    evaluate_match (tree.assign None (tree.to_index o k s) e t) p j c =
        way (chosen kind.PutField) _ _ j c
        (second_is (opener_plain_2 table' c (codes "P") opens_put form_P t p.0 (weave chosen o) (weave chosen k)
        (tree.more (weave chosen e) tree.end) j refl)
        (put_index_told table table' same c t (evaluate_match o p.1.0 _ c) (evaluate_match k p.1.1 _ c)
        (evaluate_match e p.2 _ c)))
        (λ h. put_index_silent c t _ h (evaluate_match o p.1.0 _ c) (evaluate_match k p.1.1 _ c)
        (evaluate_match e p.2 _ c))
    evaluate_match (tree.assign (Some q) (tree.to_index o k s) e t) p j c =
        way (rewriting.computes chosen (tree.to_index o k s) kind.Binary) _ _ j c
        (second_is (opener_worded_2 table' c (codes "A") asks_assign form_A t (less t p.0.1) (binary_sign q)
        (opens_assign q)
        (word_A q p.0.0) (weave chosen o) (weave chosen k) (tree.more (weave chosen e) tree.end) j refl)
        (assign_index_told table table' same c q t (evaluate_match o p.1.0 _ c) (evaluate_match k p.1.1 _ c)
        (evaluate_match e p.2 _ c)))
        (λ i. let h : NoneOf (chosen kind.GetField) (chosen kind.Binary) (chosen kind.PutField) = none_of _ _ _ i in
        compute_index_silent c q t _ h.first h.second h.third (evaluate_match o p.1.0 _ c) (evaluate_match k p.1.1 _ c)
        (evaluate_match e p.2 _ c))
    evaluate_match (tree.comma a b s) p j c = comma_match (evaluate_match a p.0 _ c) (evaluate_match b p.1 _ c)

    -- a call, by what is called
    callee_match : (f : Expr) → Fits f → (l : Exprs) (id : ℕ) → id < id_limit → FollowsMember f id → (j : ℕ)
        (c : Context) → ((j : ℕ) → Woven f c j)
        → ((j : ℕ) → EvenMatch chosen (evaluate_all table 0 [] l c)
        (evaluate_all table' 0 [] (forest_with_ids j (woven_forest chosen l)) c))
        → Woven (tree.call f l id) c j
    callee_match (tree.dot o k s) p l id small h j c itself args =
        let first : evaluate table (tree.call (tree.dot o k s) l id) c
        ≡ Step (evaluate table o c >>= (λ base.
        call_member table s (s + 1) base (value.Text k) (evaluate_all table 0 [] l c))) =
        ap (λ form. Step (call_by_form form l c (λ literals. evaluate_all table literals [] l c)
        (evaluate table o c >>= (λ base. call_member table s id base (value.Text k) (evaluate_all table 0 [] l c)))))
        (member_no_hook o p.0 k)
        ∙ ap (λ i. Step (evaluate table o c >>= (λ base.
        call_member table s i base (value.Text k) (evaluate_all table 0 [] l c)))) (sym h) in
        split (rewriting.calls_member chosen) (λ which. ExpressionMatch chosen (evaluate table
        (tree.call (tree.dot o k s) l id) c)
        (evaluate table' (with_ids j (tree.call
        (if which then hook_2 (codes "M") s (weave chosen o) (string_of k) else tree.dot (weave chosen o) k tt)
        (woven_forest chosen l) tt)) c))
        (both_are first (opener_plain_2 table' c (codes "M") opens_method form_M s p.1 (weave chosen o) (string_of k)
        (woven_forest chosen l) j refl) (method_dot_told table table' same c k s _ (evaluate_match o p.0 _ c) (args _)))
        (λ e. let m : ℕ = j + 2 + id_count (tree.dot (weave chosen o) k tt) in
        let l' : Exprs = forest_with_ids m (woven_forest chosen l) in
        let q : rewriting.calls chosen ≡ false = second_not (chosen kind.GetField) (rewriting.calls chosen) e in
        both_are first (ap (λ form. Step (call_by_form form l' c (λ literals. evaluate_all table' literals [] l' c)
        (evaluate table' (with_ids (j + 3) (weave chosen o)) c >>= (λ base.
        call_member table' j (j + 1) base (value.Text k) (evaluate_all table' 0 [] l' c)))))
        (woven_member_no_hook chosen o p.0 k (j + 3)))
        (method_dot_silent table table' same (first_not (chosen kind.InvokePre) (chosen kind.InvokePost) q)
        (second_not (chosen kind.InvokePre) (chosen kind.InvokePost) q) k s j (s + 1) (j + 1)
        (first_not (chosen kind.GetField) (rewriting.calls chosen) e)
        (evaluate_match o p.0 (j + 3) c) (args m)))
    callee_match (tree.index o k s) p l id small h j c itself args =
        let first : evaluate table (tree.call (tree.index o k s) l id) c
        ≡ Step (evaluate table o c >>= (λ base. (evaluate table k c >>= (λ key.
        call_member table s (s + 1) base key (evaluate_all table 0 [] l c))))) =
        ap (λ i. Step (evaluate table o c >>= (λ base. (evaluate table k c >>= (λ key.
        call_member table s i base key (evaluate_all table 0 [] l c)))))) (sym h) in
        split (rewriting.calls_member chosen) (λ which. ExpressionMatch chosen (evaluate table
        (tree.call (tree.index o k s) l id) c)
        (evaluate table' (with_ids j (tree.call
        (if which then hook_2 (codes "M") s (weave chosen o) (weave chosen k) else tree.index (weave chosen o)
        (weave chosen k) tt)
        (woven_forest chosen l) tt)) c))
        (both_are first (opener_plain_2 table' c (codes "M") opens_method form_M s p.2 (weave chosen o) (weave chosen k)
        (woven_forest chosen l) j refl)
        (method_index_told table table' same c s (evaluate_match o p.0 _ c) (evaluate_match k p.1 _ c) (args _)))
        (λ e. let q : rewriting.calls chosen ≡ false = second_not (chosen kind.GetField) (rewriting.calls chosen) e in
        both_are first refl (method_index_silent table table' same (first_not (chosen kind.InvokePre)
        (chosen kind.InvokePost) q)
        (second_not (chosen kind.InvokePre) (chosen kind.InvokePost) q) s j (s + 1) (j + 1)
        (first_not (chosen kind.GetField) (rewriting.calls chosen) e)
        (evaluate_match o p.0 (j + 3) c) (evaluate_match k p.1 _ c) (args _)))
    callee_match (tree.call f inner s) p l id small h j c itself args =
        let values : Part (Answer (List Value)) = evaluate_all table 0 [] l c in
        both_are (ap (λ form. Step (call_of_call table c form inner
        (λ literals. evaluate_all table literals [] inner c) (count l)
        values (call_value table id (evaluate table (tree.call f inner s) c) values))) (callee_no_hook f p.0)) refl
        (value_called (tree.call f inner s) p tt l id small j c itself args)
    callee_match f p l id small h j c itself args = value_called f p tt l id small j c itself args

    delete_match : (e : Expr) (id : ℕ) → UnaryFits un.Delete e (Fits e) id → (j : ℕ) (c : Context)
        → (Fits e → (j : ℕ) → Woven e c j) → Woven (tree.unary un.Delete e id) c j
    delete_match (tree.name x s) id p j c itself = delete_name_match x c
    delete_match (tree.dot o k s) id p j c itself =
        way (chosen kind.DeleteField) _ _ j c
        (second_is (hook_plain_2 table' c (codes "Z") deletes form_Z id p.1 (weave chosen o) (string_of k) j)
        (delete_dot_told c k id _ (evaluate_match o p.0.0 _ c)))
        (λ e. delete_dot_silent c k id _ e (evaluate_match o p.0.0 _ c))
    delete_match (tree.index o k s) id p j c itself =
        way (chosen kind.DeleteField) _ _ j c
        (second_is (hook_plain_2 table' c (codes "Z") deletes form_Z id p.1 (weave chosen o) (weave chosen k) j)
        (delete_index_told c id (evaluate_match o p.0.0 _ c) (evaluate_match k p.0.1 _ c)))
        (λ e. delete_index_silent c id _ e (evaluate_match o p.0.0 _ c) (evaluate_match k p.0.1 _ c))
    delete_match e id p j c itself = second_is (delete_as_is chosen table' c e tt j) (delete_other (itself p j))

    -- arguments, elements and properties
    pub values_match : (l : Exprs) → AllFit l → (so_far : List Value) (j : ℕ) (c : Context)
        → EvenMatch chosen (evaluate_all table 0 so_far l c)
        (evaluate_all table' 0 so_far (forest_with_ids j (woven_forest chosen l)) c)
    values_match tree.end p so_far j c = record { at = λ s d. done }
    values_match (tree.more e l) p so_far j c = record {
      at = λ s d. bind (omega arith) ((even (evaluate_match e p.0 _ c)).at s d)
          (λ v t. (values_match l p.1 _ _ c).at t d);
    }

    fill_match : (l : Forest ℕ tree.item) → AllFit l → (array : ObjId) (k j : ℕ) → (c : Context)
        → EvenMatch chosen (fill table l array k c)
        (fill table' (forest_with_ids j (woven_forest chosen l)) array k c)
    fill_match tree.end p array k j c = record { at = λ s d. done }
    fill_match (tree.more tree.hole l) p array k j c = fill_match l p.1 array (k + 1) (j + 0) c
    fill_match (tree.more (tree.filled e) l) p array k j c = record {
      at = λ s d. bind_both _ _ _ _ (omega arith) ((even (evaluate_match e p.0 _ c)).at s d)
          (λ v t. bind (omega arith) (algorithm (put_element array k v))
          (λ u t. (fill_match l p.1 array (k + 1) _ c).at t d));
    }

    equip_match : (l : Forest ℕ tree.entry) → AllFit l → (object : ObjId) (j : ℕ) → (c : Context)
        → EvenMatch chosen (equip table l object c)
        (equip table' (forest_with_ids j (woven_forest chosen l)) object c)
    equip_match tree.end p object j c = record { at = λ s d. done }
    equip_match (tree.more (tree.value k e) l) p object j c = record {
      at = λ s d. bind (omega arith) (bind (omega arith) ((even (evaluate_match e p.0 _ c)).at s d)
          (λ v t. entry_to object k.text v t d)) (λ u t. (equip_match l p.1 object _ c).at t d);
    }
    equip_match (tree.more (tree.getter k f) l) p object j c = record {
      at = λ s d. bind (omega arith) (getter_to j c object k.text f s d) (λ u t. (equip_match l p.1 object _ c).at t d);
    }
    equip_match (tree.more (tree.setter k f) l) p object j c = record {
      at = λ s d. bind (omega arith) (setter_to j c object k.text f s d) (λ u t. (equip_match l p.1 object _ c).at t d);
    }
