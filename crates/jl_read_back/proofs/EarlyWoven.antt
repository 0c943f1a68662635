-- The woven script breaks no rule where the script breaks none, a line for each form.
use Rattle.std.proofs.Common.{codes, ℕ, ◌+◌, ◌||◌, [], ◌++◌, map, Some, None}
use Rattle.std.proofs.Common.{option_map, refl, subst, sym}
use Rattle.jl_ast.specs.Spans.{ident, map_optional}
use Rattle.jl_ast.specs.Tree as tree
use Rattle.jl_ast.specs.Tree.{Forest, Ident, OptionalTree, Sort, Text, Tree}
use Rattle.jl_ast.specs.declared.ops.UnOp.TheVariants as un
use Rattle.jl_op.specs.Chosen.{Kinds}
use Rattle.jl_op.specs.Ids.{forest_id_count, forest_with_ids, id_count, ident_with_id, optional_id_count}
use Rattle.jl_op.specs.Ids.{optional_with_ids, with_ids}
use Rattle.jl_op.specs.Trace.{binary_sign, unary_sign}
use Rattle.jl_op.specs.declared.kind.OpKind.TheVariants as kind
use Rattle.jl_scope.specs.EarlyErrors.{early_errors, forest_early_errors, name_early_errors, no_keys}
use Rattle.jl_scope.specs.EarlyErrors.{optional_early_errors, parameter_early_errors}
use Rattle.jl_scope.specs.Scope.{in_a_loop, in_a_switch, in_catch, in_function_of, in_program, is_loop, under_label}
use Rattle.jl_scope.specs.Scope.{Scope}
use Rattle.jl_op.specs.UnaryKinds.{unary_kind, update_kind}
use Rattle.jl_simulation.specs.HookCalls.{binary_hook, read, unary_hook, without_id}
use Rattle.jl_simulation.specs.Weaving.{calls, calls_member, computes, weave, woven_body, woven_code, woven_forest}
use Rattle.jl_simulation.specs.Weaving.{woven_optional}
use Rattle.jl_text.specs.declared.span.Span.{Span}
use Rattle.jl_read_back.specs.EarlyErrors.{none, AreReservedNames}
use Rattle.jl_read_back.proofs.EarlyForms as form
use Rattle.jl_read_back.proofs.EarlyForms.{spanned, AllClear, Clear}
use Rattle.jl_read_back.proofs.Rules as rule
use Rattle.jl_read_back.proofs.Rules.{both, first, no_delete, no_name_deleted, second}

module _ (at : Span) (chosen : Kinds) where
  mutual
    pub clear : {x : Sort} (s : Scope) (t : Tree Span x) (j : ℕ) → AreReservedNames (early_errors s t)
        → Clear at s (weave chosen (with_ids j t))
    clear s (tree.this a) j w = none
    clear s (tree.name x a) j w =
        let r = rule.read s x a at w in
        form.either at s (chosen kind.Read) _ _ (form.told_of_1 at s (codes "R") j x (tree.name x tt) r) r
    clear s (tree.number v a) j w = form.hooked at s (chosen kind.Literal) (codes "T") j (tree.number v tt) none
    clear s (tree.string v a) j w = form.hooked at s (chosen kind.Literal) (codes "T") j (tree.string v tt) none
    clear s (tree.boolean v a) j w = form.hooked at s (chosen kind.Literal) (codes "T") j (tree.boolean v tt) none
    clear s (tree.null a) j w = form.hooked at s (chosen kind.Literal) (codes "T") j (tree.null tt) none
    clear s (tree.array l a) j w =
        form.hooked at s (chosen kind.ArrayLiteral) (codes "T") j
        (tree.array (woven_forest chosen (forest_with_ids (j + 1) l)) tt) (all_clear s l (j + 1) w)
    clear s (tree.object l a) j w =
        form.hooked at s (chosen kind.ObjectLiteral) (codes "T") j
        (tree.object (woven_forest chosen (forest_with_ids (j + 1) l)) tt)
        (both (form.entries at chosen s no_keys l (j + 1) (first _ _ w)) (all_clear s l (j + 1) (second _ _ w)))
    clear s (tree.function_expression f a) j w =
        form.hooked at s (chosen kind.FunctionLiteral) (codes "T") j
        (tree.function_expression (weave chosen (with_ids (j + 1) f)) tt) (clear s f (j + 1) w)
    clear s (tree.dot o k a) j w =
        let v = clear s o (j + 1) w in
        form.either at s (chosen kind.GetField) _ _
        (form.told_2 at s (codes "G") j (weave chosen (with_ids (j + 1) o)) (tree.string k tt) v none) v
    clear s (tree.index o k a) j w =
        let v = clear s o (j + 1) (first _ _ w) in let u = clear s k (j + 1 + id_count o) (second _ _ w) in
        form.either at s (chosen kind.GetField) _ _
        (form.told_2 at s (codes "G") j (weave chosen (with_ids (j + 1) o))
        (weave chosen (with_ids (j + 1 + id_count o) k)) v u) (both v u)
    clear s (tree.call (tree.dot o k b) l a) j w =
        let v = clear s o (j + 3) (first _ _ w) in
        both (form.either at s (calls_member chosen) _ _
        (form.told_2 at s (codes "M") j (weave chosen (with_ids (j + 3) o)) (tree.string k tt) v none) v)
        (all_clear s l (j + 2 + id_count (tree.dot o k b)) (second _ _ w))
    clear s (tree.call (tree.index o k b) l a) j w =
        let v = clear s o (j + 3) (first _ _ (first _ _ w)) in
        let u = clear s k (j + 3 + id_count o) (second _ _ (first _ _ w)) in
        both (form.either at s (calls_member chosen) _ _
        (form.told_2 at s (codes "M") j (weave chosen (with_ids (j + 3) o))
        (weave chosen (with_ids (j + 3 + id_count o) k)) v u) (both v u))
        (all_clear s l (j + 2 + id_count (tree.index o k b)) (second _ _ w))
    clear s (tree.call f l a) j w =
        both (form.called at chosen s (j + 2) (j + 0) f tt (weave chosen (with_ids (j + 2) f))
        (clear s f (j + 2) (first (early_errors s f) (forest_early_errors s l) w)))
        (all_clear s l (j + 2 + id_count f) (second (early_errors s f) (forest_early_errors s l) w))
    clear s (tree.new f l a) j w =
        let v = clear s f (j + 2) (first _ _ w) in let u = all_clear s l (j + 2 + id_count f) (second _ _ w) in
        form.either at s (calls chosen) _ _
        (both (form.told_1 at s (codes "N") j (weave chosen (with_ids (j + 2) f)) v) u) (both v u)
    clear s (tree.unary un.Typeof (tree.name x b) a) j w =
        let r = both (no_delete s un.Typeof (tree.name x at) at refl) (rule.read s x b at (second _ _ w)) in
        form.either at s (chosen kind.TypeofName) _ _
        (form.told_of_1 at s (codes "Y") j x (tree.unary un.Typeof (tree.name x tt) tt) r) r
    clear s (tree.unary un.Typeof e a) j w =
        form.typed at chosen s (j + 1) j e tt (weave chosen (with_ids (j + 1) e)) (clear s e (j + 1) (second _ _ w))
    clear s (tree.unary un.Delete (tree.name x b) a) j w =
        both (rule.deletes s un.Delete (tree.name x b) (tree.name x at) a at refl (first _ _ w))
        (rule.read s x b at (second _ _ w))
    clear s (tree.unary un.Delete (tree.dot o k b) a) j w =
        let v = clear s o (j + 1) (second _ _ w) in
        form.either at s (chosen kind.DeleteField) _ _
        (form.told_2 at s (codes "Z") j (weave chosen (with_ids (j + 1) o)) (tree.string k tt) v none)
        (both (no_name_deleted s un.Delete (tree.dot (spanned at (weave chosen (with_ids (j + 1) o))) k at) at refl) v)
    clear s (tree.unary un.Delete (tree.index o k b) a) j w =
        let v = clear s o (j + 1) (first _ _ (second _ _ w)) in
        let u = clear s k (j + 1 + id_count o) (second _ _ (second _ _ w)) in
        form.either at s (chosen kind.DeleteField) _ _
        (form.told_2 at s (codes "Z") j (weave chosen (with_ids (j + 1) o))
        (weave chosen (with_ids (j + 1 + id_count o) k)) v u)
        (both (no_name_deleted s un.Delete (tree.index (spanned at (weave chosen (with_ids (j + 1) o)))
        (spanned at (weave chosen (with_ids (j + 1 + id_count o) k))) at) at refl) (both v u))
    clear s (tree.unary un.Delete e a) j w =
        form.deleted at chosen s j j e tt tt (clear s e j (second _ _ w))
    clear s (tree.unary o e a) j w =
        let v = clear s e (j + 1) (second _ _ w) in
        form.either at s (chosen kind.Unary) _ _
        (form.told_of_1 at s (codes "U") j (unary_sign (unary_kind o)) (weave chosen (with_ids (j + 1) e)) v)
        (both (no_delete s o (spanned at (weave chosen (with_ids (j + 1) e))) at refl) v)
    clear s (tree.update up prefix (tree.to_name x) a) j w =
        let r = rule.target s x.text x.at at w in
        form.either at s (computes chosen (tree.to_name (ident_with_id x (j + 3))) kind.Unary) _ _
        (form.updated at s up prefix _ (both r (form.told_of_1 at s (codes "W") (j + 2) x.text
        (unary_hook (j + 1) (update_kind up) (read j x.text)) (form.told_of_1 at s (codes "U") (j + 1)
        (unary_sign (update_kind up)) (read j x.text) (form.told_of_1 at s (codes "R") j x.text (tree.name x.text tt)
        (rule.target_read s x.text x.at at w)))))) r
    clear s (tree.update up prefix (tree.to_dot o k b) a) j w =
        let v = clear s o (j + 3) w in
        form.either at s (computes chosen (with_ids (j + 3) (tree.to_dot o k b)) kind.Unary) _ _
        (form.updated at s up prefix _
        (form.told_of_2 at s (codes "I") j (unary_sign (update_kind up)) (weave chosen (with_ids (j + 3) o))
        (tree.string k tt) v none)) v
    clear s (tree.update up prefix (tree.to_index o k b) a) j w =
        let v = clear s o (j + 3) (first _ _ w) in let u = clear s k (j + 3 + id_count o) (second _ _ w) in
        form.either at s (computes chosen (with_ids (j + 3) (tree.to_index o k b)) kind.Unary) _ _
        (form.updated at s up prefix _
        (form.told_of_2 at s (codes "I") j (unary_sign (update_kind up)) (weave chosen (with_ids (j + 3) o))
        (weave chosen (with_ids (j + 3 + id_count o) k)) v u)) (both v u)
    clear s (tree.binary o a b p) j w =
        let v = clear s a (j + 1) (first _ _ w) in let u = clear s b (j + 1 + id_count a) (second _ _ w) in
        form.either at s (chosen kind.Binary) _ _
        (form.told_of_2 at s (codes "B") j (binary_sign o) (weave chosen (with_ids (j + 1) a))
        (weave chosen (with_ids (j + 1 + id_count a) b)) v u) (both v u)
    clear s (tree.and a b p) j w =
        both (form.hooked at s (chosen kind.Conditional) (codes "C") j _ (clear s a (j + 1) (first _ _ w)))
        (clear s b (j + 1 + id_count a) (second _ _ w))
    clear s (tree.or a b p) j w =
        both (form.hooked at s (chosen kind.Conditional) (codes "C") j _ (clear s a (j + 1) (first _ _ w)))
        (clear s b (j + 1 + id_count a) (second _ _ w))
    clear s (tree.conditional a b c p) j w =
        both (both
        (form.hooked at s (chosen kind.Conditional) (codes "C") j _ (clear s a (j + 1) (first _ _ (first _ _ w))))
        (clear s b (j + 1 + id_count a) (second _ _ (first _ _ w))))
        (clear s c (j + 1 + id_count a + id_count b) (second _ _ w))
    clear s (tree.assign None (tree.to_name x) e a) j w =
        let r = rule.target s x.text x.at at (first _ _ w) in let v = clear s e (j + 1 + 0) (second _ _ w) in
        form.either at s (chosen kind.Write) _ _
        (both r (form.told_of_1 at s (codes "W") j x.text (weave chosen (with_ids (j + 1 + 0) e)) v)) (both r v)
    clear s (tree.assign (Some q) (tree.to_name x) e a) j w =
        let r = rule.target s x.text x.at at (first _ _ w) in let v = clear s e (j + 3 + 0) (second _ _ w) in
        form.either at s (computes chosen (tree.to_name (ident_with_id x (j + 3))) kind.Binary) _ _
        (both r (form.told_of_1 at s (codes "W") (j + 2) x.text
        (binary_hook (j + 1) q (read j x.text) (weave chosen (with_ids (j + 3 + 0) e)))
        (form.told_of_2 at s (codes "B") (j + 1) (binary_sign q) (read j x.text) (weave chosen (with_ids (j + 3 + 0) e))
        (form.told_of_1 at s (codes "R") j x.text (tree.name x.text tt)
        (rule.target_read s x.text x.at at (first _ _ w))) v))) (both r v)
    clear s (tree.assign None (tree.to_dot o k b) e a) j w =
        let v = clear s o (j + 1) (first _ _ w) in let u = clear s e (j + 1 + id_count o) (second _ _ w) in
        form.either at s (chosen kind.PutField) _ _
        (both (form.told_2 at s (codes "P") j (weave chosen (with_ids (j + 1) o)) (tree.string k tt) v none)
        (both u none)) (both v u)
    clear s (tree.assign (Some q) (tree.to_dot o k b) e a) j w =
        let v = clear s o (j + 3) (first _ _ w) in let u = clear s e (j + 3 + id_count o) (second _ _ w) in
        form.either at s (computes chosen (with_ids (j + 3) (tree.to_dot o k b)) kind.Binary) _ _
        (both (form.told_of_2 at s (codes "A") j (binary_sign q) (weave chosen (with_ids (j + 3) o))
        (tree.string k tt) v none)
        (both u none)) (both v u)
    clear s (tree.assign None (tree.to_index o k b) e a) j w =
        let v = clear s o (j + 1) (first _ _ (first _ _ w)) in
        let z = clear s k (j + 1 + id_count o) (second _ _ (first _ _ w)) in
        let u = clear s e (j + 1 + (id_count o + id_count k)) (second _ _ w) in
        form.either at s (chosen kind.PutField) _ _
        (both (form.told_2 at s (codes "P") j (weave chosen (with_ids (j + 1) o))
        (weave chosen (with_ids (j + 1 + id_count o) k)) v z) (both u none)) (both (both v z) u)
    clear s (tree.assign (Some q) (tree.to_index o k b) e a) j w =
        let v = clear s o (j + 3) (first _ _ (first _ _ w)) in
        let z = clear s k (j + 3 + id_count o) (second _ _ (first _ _ w)) in
        let u = clear s e (j + 3 + (id_count o + id_count k)) (second _ _ w) in
        form.either at s (computes chosen (with_ids (j + 3) (tree.to_index o k b)) kind.Binary) _ _
        (both (form.told_of_2 at s (codes "A") j (binary_sign q) (weave chosen (with_ids (j + 3) o))
        (weave chosen (with_ids (j + 3 + id_count o) k)) v z) (both u none)) (both (both v z) u)
    clear s (tree.comma a b p) j w =
        both (clear s a j (first _ _ w)) (clear s b (j + id_count a) (second _ _ w))
    clear s (tree.to_name x) j w = rule.target s x.text x.at at w
    clear s (tree.to_dot o k a) j w = clear s o j w
    clear s (tree.to_index o k a) j w =
        both (clear s o j (first _ _ w)) (clear s k (j + id_count o) (second _ _ w))
    clear s tree.hole j w = none
    clear s (tree.filled e) j w = clear s e j w
    clear s (tree.value k e) j w = clear s e j w
    clear s (tree.getter k f) j w = clear s f j w
    clear s (tree.setter k f) j w = clear s f j w
    clear s (tree.function m x ps (tree.body strict fs l) a) j w =
        let r = in_function_of s x ps (tree.body strict fs l) in
        subst (λ q. AreReservedNames ((name_early_errors q (option_map (ident (λ u. at)) (option_map without_id
        (option_map (λ y. ident_with_id y j) x))) ++ parameter_early_errors q [] (map (ident (λ u. at)) (map without_id
        (map (λ y. ident_with_id y j) ps)))) ++ early_errors q (spanned at (woven_body chosen j (with_ids (j + 2)
        (tree.body strict fs l)))))) (sym (form.scope_same at chosen s x ps (tree.body strict fs l) j))
        (both (both (form.function_name at r x j (first _ _ (first _ _ w)))
        (form.parameters at r [] ps j (second _ _ (first _ _ w))))
        (both (all_clear r fs (j + 2) (first _ _ (second _ _ w)))
        (form.entered at r (chosen kind.FunctionEnter || chosen kind.FunctionExit) j _
        (all_clear r l (j + 2 + forest_id_count fs) (second _ _ (second _ _ w))))))
    clear s (tree.body strict fs l) j w =
        both (all_clear s fs j (first _ _ w)) (all_clear s l (j + forest_id_count fs) (second _ _ w))
    clear s (tree.var l a) j w = all_clear s l j w
    clear s (tree.empty a) j w = none
    clear s (tree.expression e a) j w = clear s e j w
    clear s (tree.block l a) j w = all_clear s l j w
    clear s (tree.if_else e l b a) j w =
        both (both
        (form.hooked at s (chosen kind.Conditional) (codes "C") j _ (clear s e (j + 1) (first _ _ (first _ _ w))))
        (all_clear s l (j + 1 + id_count e) (second _ _ (first _ _ w))))
        (optional_clear s b (j + 1 + id_count e + forest_id_count l) (second _ _ w))
    clear s (tree.do_while l e a) j w =
        both (all_clear (in_a_loop s) l (j + 1) (first _ _ w))
        (form.hooked at s (chosen kind.Conditional) (codes "C") j _
        (clear s e (j + 1 + forest_id_count l) (second _ _ w)))
    clear s (tree.while e l a) j w =
        both (form.hooked at s (chosen kind.Conditional) (codes "C") j _ (clear s e (j + 1) (first _ _ w)))
        (all_clear (in_a_loop s) l (j + 1 + id_count e) (second _ _ w))
    clear s (tree.for i tree.absent u l a) j w =
        both (both (both (clear s i (j + 0) (first _ _ (first _ _ (first _ _ w)))) none)
        (optional_clear s u (j + 0 + id_count i + 0) (second _ _ (first _ _ w))))
        (all_clear (in_a_loop s) l (j + 0 + id_count i + 0 + optional_id_count u) (second _ _ w))
    clear s (tree.for i (tree.present e) u l a) j w =
        both (both (both (clear s i (j + 1) (first _ _ (first _ _ (first _ _ w))))
        (form.hooked at s (chosen kind.Conditional) (codes "C") j _
        (clear s e (j + 1 + id_count i) (second _ _ (first _ _ (first _ _ w))))))
        (optional_clear s u (j + 1 + id_count i + id_count e) (second _ _ (first _ _ w))))
        (all_clear (in_a_loop s) l (j + 1 + id_count i + id_count e + optional_id_count u) (second _ _ w))
    clear s (tree.for_in is_var x o l a) j w =
        both (both (rule.for_in s x.text x.at at is_var (first _ _ (first _ _ w)))
        (form.hooked at s (chosen kind.ForIn) (codes "O") j _ (clear s o (j + 1) (second _ _ (first _ _ w)))))
        (all_clear (in_a_loop s) l (j + 1 + id_count o) (second _ _ w))
    clear s (tree.continue None a) j w = rule.continues s a at w
    clear s (tree.continue (Some x) a) j w =
        rule.continues_to s x (record { text = x.text; at = at }) a at refl w
    clear s (tree.break None a) j w = rule.breaks s a at w
    clear s (tree.break (Some x) a) j w = rule.breaks_to s x (record { text = x.text; at = at }) a at refl w
    clear s (tree.return tree.absent a) j w = both (rule.returns s a at (first _ _ w)) none
    clear s (tree.return (tree.present e) a) j w =
        both (rule.returns s a at (first _ _ w))
        (form.hooked at s (chosen kind.Return) (codes "V") j _ (clear s e (j + 1) (second _ _ w)))
    clear s (tree.labelled x t a) j w =
        both (rule.label s x.text x.at at (first _ _ w))
        (subst (λ b. AreReservedNames (early_errors (under_label s x.text b) (spanned at (weave chosen
        (with_ids j t))))) (sym (form.loop_same at chosen t j))
        (clear (under_label s x.text (is_loop t)) t j (second _ _ w)))
    clear s (tree.switch e l a) j w =
        both (clear s e j (first _ _ w)) (all_clear (in_a_switch s) l (j + id_count e) (second _ _ w))
    clear s (tree.throw e a) j w = form.hooked at s (chosen kind.Throw) (codes "K") j _ (clear s e (j + 1) w)
    clear s (tree.try l tree.absent f a) j w =
        both (both (all_clear s l (j + 0) (first _ _ (first _ _ w))) none)
        (optional_clear s f (j + 0 + forest_id_count l + 0) (second _ _ w))
    clear s (tree.try l (tree.present (tree.catch x h)) f a) j w =
        let c = second _ _ (first _ _ w) in
        both (both (all_clear s l (j + 1) (first _ _ (first _ _ w)))
        (both (rule.written s x.text x.at at (first _ _ c))
        (form.caught at (in_catch s x.text) (chosen kind.Catch) j x.text _
        (rule.caught_read s x.text x.at at (first _ _ c))
        (all_clear (in_catch s x.text) h (j + 1 + forest_id_count l) (second _ _ c)))))
        (optional_clear s f (j + 1 + forest_id_count l + forest_id_count h) (second _ _ w))
    clear s (tree.debugger a) j w = none
    clear s tree.nothing j w = none
    clear s (tree.init_expression e) j w = clear s e j w
    clear s (tree.init_var l) j w = all_clear s l j w
    clear s (tree.declarator x tree.absent) j w = both (rule.written s x.text x.at at (first _ _ w)) none
    clear s (tree.declarator x (tree.present e)) j w =
        both (rule.written s x.text x.at at (first _ _ w))
        (form.written at s (chosen kind.Write) (codes "W") j x.text _ (clear s e (j + 1) (second _ _ w)))
    clear s (tree.case e l) j w =
        both (optional_clear s e j (first _ _ w)) (all_clear s l (j + optional_id_count e) (second _ _ w))
    clear s (tree.branch_of l) j w = all_clear s l j w
    clear s (tree.catch x l) j w =
        both (rule.written s x.text x.at at (first _ _ w))
        (form.caught at (in_catch s x.text) (chosen kind.Catch) j x.text _
        (rule.caught_read s x.text x.at at (first _ _ w)) (all_clear (in_catch s x.text) l j (second _ _ w)))

    all_clear : {x : Sort} (s : Scope) (l : Forest Span x) (j : ℕ) → AreReservedNames (forest_early_errors s l)
        → AllClear at s (woven_forest chosen (forest_with_ids j l))
    all_clear s tree.end j w = none
    all_clear s (tree.more t l) j w =
        both (clear s t j (first _ _ w)) (all_clear s l (j + id_count t) (second _ _ w))

    optional_clear : {x : Sort} (s : Scope) (o : OptionalTree Span x) (j : ℕ)
        → AreReservedNames (optional_early_errors s o)
        → AreReservedNames (optional_early_errors s (map_optional (λ u. at) (woven_optional chosen
        (optional_with_ids j o))))
    optional_clear s tree.absent j w = none
    optional_clear s (tree.present t) j w = clear s t j w

  -- a program
  pub program_clear : (b : Tree Span tree.code) → AreReservedNames (early_errors (in_program b) b)
      → AreReservedNames (early_errors (in_program (spanned at (woven_code chosen 1 (with_ids 3 b))))
      (spanned at (woven_code chosen 1 (with_ids 3 b))))
  program_clear b w =
      subst (λ q. Clear at q (woven_code chosen 1 (with_ids 3 b))) (sym (form.program_scope at chosen b)) (code b w)
    where
      code : (b : Tree Span tree.code) → AreReservedNames (early_errors (in_program b) b)
          → Clear at (in_program b) (woven_code chosen 1 (with_ids 3 b))
      code (tree.body strict fs l) w =
          let r = in_program (tree.body strict fs l) in
          both (all_clear r fs 3 (first _ _ w))
          (form.begun at r (chosen kind.ScriptEnter || chosen kind.ScriptExit) 1
          (woven_forest chosen (forest_with_ids (3 + forest_id_count fs) l))
          (all_clear r l (3 + forest_id_count fs) (second _ _ w)))
