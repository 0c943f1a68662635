-- The functions of the woven script have the numbers of the script's, a line for each form.
use Rattle.std.proofs.Common.{◌≡◌, codes, ℕ, ◌+◌, Bool, true, false, ◌||◌, Some, None, refl, ap, subst, sym}
use Rattle.std.proofs.Common.{arith}
use Rattle.std.specs.Prelude.{if◌then◌else◌}
use Rattle.jl_ast.specs.Numbering.{functions_in, functions_in_forest, functions_in_optional, with_numbers}
use Rattle.jl_ast.specs.Numbering.{numbered_forest, numbered_optional, numbered_tree}
use Rattle.jl_ast.specs.Tree as tree
use Rattle.jl_ast.specs.Tree.{Forest, Ident, OptionalTree, Program, Sort, Text, Tree}
use Rattle.jl_ast.specs.declared.ops.UnOp.TheVariants as un
use Rattle.jl_op.specs.Chosen.{Kinds}
use Rattle.jl_op.specs.Ids.{forest_with_ids, ident_with_id, optional_with_ids, with_ids}
use Rattle.jl_op.specs.declared.kind.OpKind.TheVariants as kind
use Rattle.jl_op.specs.declared.sign.UnKind.TheVariants as unary
use Rattle.jl_simulation.specs.HookCalls.{and_last, before_update, begin_and_end, catch_and_go_on, enter_and_leave}
use Rattle.jl_simulation.specs.HookCalls.{hook, hook_1, hook_of_1, hook_statement, no_exprs, unary_hook, Expr}
use Rattle.jl_simulation.specs.HookCalls.{Exprs, Stmts, Woven}
use Rattle.jl_simulation.specs.Weaving.{calls, calls_member, computes, weave, woven_callee, woven_code}
use Rattle.jl_simulation.specs.Weaving.{woven_delete, woven_forest, woven_optional, woven_program, woven_typeof}
use Rattle.jl_simulation.proofs.Shapes.{IsNoMember}
use Rattle.jl_read_back.proofs.Counts as count
use Rattle.jl_read_back.proofs.Counts.{absent_counts, none_counts, one_counts, present_counts, up_to, Counts, CountsAll}
use Rattle.jl_read_back.proofs.Counts.{CountsIfPresent}
use Rattle.jl_read_back.proofs.Forms.{callee_is, delete_is, typeof_is, IsNoName}

-- a call of a hook has the functions of what it is told
told : {n m : ℕ} {h : Text} {id : ℕ} {l : Exprs} → CountsAll n l m → Counts n (hook h id l) m
told p = count.call_counts (count.dot_counts count.name_counts) (one_counts count.number_counts p)

told_1 : {n m : ℕ} {h : Text} {id : ℕ} {e : Expr} → Counts n e m
    → Counts n (hook h id (tree.more e tree.end)) m
told_1 p = told (one_counts p none_counts)

told_2 : {n k m : ℕ} {h : Text} {id : ℕ} {a b : Expr} → Counts n a k → Counts k b m
    → Counts n (hook h id (tree.more a (tree.more b tree.end))) m
told_2 p q = told (one_counts p (one_counts q none_counts))

told_of_1 : {n m : ℕ} {h : Text} {id : ℕ} {t : Text} {e : Expr} → Counts n e m
    → Counts n (hook h id (tree.more (tree.string t tt) (tree.more e tree.end))) m
told_of_1 p = told_2 count.string_counts p

told_of_2 : {n k m : ℕ} {h : Text} {id : ℕ} {t : Text} {a b : Expr} → Counts n a k → Counts k b m
    → Counts n (hook h id (tree.more (tree.string t tt) (tree.more a (tree.more b tree.end)))) m
told_of_2 p q = told (one_counts count.string_counts (one_counts p (one_counts q none_counts)))

-- by a hook, or as it stands
either : {n m : ℕ} (b : Bool) (t u : Expr) → Counts n t m → Counts n u m → Counts n (if b then t else u) m
either true t u p q = p
either false t u p q = q

hooked : {n m : ℕ} (b : Bool) (h : Text) (id : ℕ) (e : Expr) → Counts n e m
    → Counts n (if b then hook_1 h id e else e) m
hooked true h id e p = told_1 p
hooked false h id e p = p

written : {n m : ℕ} (b : Bool) (h : Text) (id : ℕ) (word : Text) (e : Expr) → Counts n e m
    → Counts n (if b then hook_of_1 h id word e else e) m
written true h id word e p = told_of_1 p
written false h id word e p = p

-- the number before an update
updated : {n m : ℕ} (up prefix : Bool) (e : Expr) → Counts n e m → Counts n (before_update up prefix e) m
updated up true e p = p
updated true false e p = count.binary_counts p count.number_counts
updated false false e p = count.binary_counts p count.number_counts

-- a statement that calls a hook
statement : {n : ℕ} {h : Text} {id : ℕ} → Counts n (hook_statement (hook h id no_exprs)) n
statement = count.expression_counts (told none_counts)

-- statements of a function, of a `catch` and of a program
entered : {n m : ℕ} (b : Bool) (id : ℕ) (l : Stmts) → CountsAll n l m
    → CountsAll n (if b then enter_and_leave id l else l) m
entered true id l p =
    one_counts (count.try_counts (one_counts statement p) absent_counts
    (present_counts (count.branch_of_counts (one_counts statement none_counts)))) none_counts
entered false id l p = p

caught : {n m : ℕ} (b : Bool) (id : ℕ) (x : Text) (l : Stmts) → CountsAll n l m
    → CountsAll n (if b then catch_and_go_on id x l else l) m
caught true id x l p = one_counts (count.expression_counts (told_of_1 count.name_counts)) p
caught false id x l p = p

-- where nothing was added
up_from : {n m : ℕ} {x : Sort} {t : Woven x} → Counts (n + 0) t m → Counts n t m
up_from {n} {m} {x} {t} p =
    let e : n + 0 ≡ n = omega arith in
    record { fixed = subst (λ k. numbered_tree k t ≡ t) e p.fixed; next = omega arith }

up_from_optional : {n m : ℕ} {x : Sort} {t : OptionalTree (Unit {0}) x} → CountsIfPresent (n + 0) t m
    → CountsIfPresent n t m
up_from_optional {n} {m} {x} {t} p =
    let e : n + 0 ≡ n = omega arith in
    record { fixed = subst (λ k. numbered_optional k t ≡ t) e p.fixed; next = omega arith }

module _ (chosen : Kinds) where
  called : {S : Type 0} {i k : ℕ} (n id : ℕ) (f : Tree S tree.expr) → IsNoMember f → (w : Expr) → Counts i w k
      → Counts i (woven_callee chosen (with_ids n f) w id) k
  called {S} {i} {k} n id f is w p =
      subst (λ e. Counts i e k) (sym (callee_is chosen n id f is w)) (hooked (calls chosen) (codes "F") id w p)

  typed : {S : Type 0} {i k : ℕ} (n id : ℕ) (e : Tree S tree.expr) → IsNoName e → (w : Expr) → Counts i w k
      → Counts i (woven_typeof chosen id (with_ids n e) w) k
  typed {S} {i} {k} n id e is w p =
      subst (λ e. Counts i e k) (sym (typeof_is chosen n id e is w))
      (either (chosen kind.Unary) (unary_hook id unary.Typeof w) (tree.unary un.Typeof w tt) (told_of_1 p)
      (count.unary_counts p))

  deleted : {S : Type 0} {i k : ℕ} (n id : ℕ) (e : Tree S tree.expr) → IsNoName e → IsNoMember e → (w : Expr)
      → Counts i w k → Counts i (woven_delete chosen (with_ids n e) w id) k
  deleted {S} {i} {k} n id e is not w p =
      subst (λ e. Counts i e k) (sym (delete_is chosen n id e is not w)) (count.unary_counts p)

  mutual
    pub counts : {S : Type 0} {x : Sort} (t : Tree S x) (n j m : ℕ) → n + functions_in t ≡ m
        → Counts n (weave chosen (with_ids j (numbered_tree n t))) m
    counts (tree.this s) n j m e = record { fixed = refl; next = e }
    counts (tree.name x s) n j m e =
        up_to (either (chosen kind.Read) _ _ (told_of_1 count.name_counts) count.name_counts) (omega arith)
    counts (tree.number v s) n j m e = hooked (chosen kind.Literal) (codes "T") j _ (record { fixed = refl; next = e })
    counts (tree.string t s) n j m e = hooked (chosen kind.Literal) (codes "T") j _ (record { fixed = refl; next = e })
    counts (tree.boolean b s) n j m e = hooked (chosen kind.Literal) (codes "T") j _ (record { fixed = refl; next = e })
    counts (tree.null s) n j m e = hooked (chosen kind.Literal) (codes "T") j _ (record { fixed = refl; next = e })
    counts (tree.array l s) n j m e =
        hooked (chosen kind.ArrayLiteral) (codes "T") j _ (count.array_counts (count_all l n _ m e))
    counts (tree.object l s) n j m e =
        hooked (chosen kind.ObjectLiteral) (codes "T") j _ (count.object_counts (count_all l n _ m e))
    counts (tree.function_expression f s) n j m e =
        hooked (chosen kind.FunctionLiteral) (codes "T") j _ (count.function_expression_counts (counts f n _ m e))
    counts (tree.dot o k s) n j m e =
        let a = counts o n (j + 1) m e in
        either (chosen kind.GetField) _ _ (told_2 a count.string_counts) (count.dot_counts a)
    counts (tree.index o k s) n j m e =
        either (chosen kind.GetField) _ _
        (told_2 (counts o n _ _ refl) (counts k (n + functions_in o) _ m (omega arith)))
        (count.index_counts (counts o n _ _ refl) (counts k (n + functions_in o) _ m (omega arith)))
    counts (tree.call (tree.dot o k t) l s) n j m e =
        count.call_counts
        (either (calls_member chosen) _ _ (told_2 (counts o n (j + 3) (n + functions_in o) refl) count.string_counts)
        (count.dot_counts (counts o n (j + 3) (n + functions_in o) refl)))
        (count_all l (n + functions_in o) _ m (omega arith))
    counts (tree.call (tree.index o k t) l s) n j m e =
        count.call_counts
        (either (calls_member chosen) _ _
        (told_2 (counts o n _ _ refl) (counts k (n + functions_in o) _ (n + (functions_in o + functions_in k))
        (omega arith)))
        (count.index_counts (counts o n _ _ refl) (counts k (n + functions_in o) _
        (n + (functions_in o + functions_in k)) (omega arith))))
        (count_all l (n + (functions_in o + functions_in k)) _ m (omega arith))
    counts (tree.call f l s) n j m e =
        count.call_counts
        (called (j + 2) (j + 0) (numbered_tree n f) tt (weave chosen (with_ids (j + 2) (numbered_tree n f)))
        (counts f n (j + 2) (n + functions_in f) refl))
        (count_all l (n + functions_in f) _ m (omega arith))
    counts (tree.new f l s) n j m e =
        either (calls chosen) _ _
        (count.call_counts (told_1 (counts f n _ (n + functions_in f) refl))
        (count_all l (n + functions_in f) _ m (omega arith)))
        (count.new_counts (counts f n _ (n + functions_in f) refl)
        (count_all l (n + functions_in f) _ m (omega arith)))
    counts (tree.unary un.Typeof (tree.name x t) s) n j m e =
        up_to (either (chosen kind.TypeofName) _ _ (told_of_1 (count.unary_counts count.name_counts))
        (count.unary_counts count.name_counts)) (omega arith)
    counts (tree.unary un.Typeof a s) n j m e =
        typed (j + 1) j (numbered_tree n a) tt (weave chosen (with_ids (j + 1) (numbered_tree n a)))
        (counts a n (j + 1) m e)
    counts (tree.unary un.Delete (tree.name x t) s) n j m e =
        up_to (count.unary_counts count.name_counts) (omega arith)
    counts (tree.unary un.Delete (tree.dot o k t) s) n j m e =
        let a = counts o n (j + 1) m e in
        either (chosen kind.DeleteField) _ _ (told_2 a count.string_counts) (count.unary_counts (count.dot_counts a))
    counts (tree.unary un.Delete (tree.index o k t) s) n j m e =
        either (chosen kind.DeleteField) _ _
        (told_2 (counts o n _ _ refl) (counts k (n + functions_in o) _ m (omega arith)))
        (count.unary_counts
        (count.index_counts (counts o n _ _ refl) (counts k (n + functions_in o) _ m (omega arith))))
    counts (tree.unary un.Delete a s) n j m e =
        deleted j j (numbered_tree n a) tt tt (weave chosen (with_ids j (numbered_tree n a))) (counts a n j m e)
    counts (tree.unary o a s) n j m e =
        either (chosen kind.Unary) _ _ (told_of_1 (counts a n (j + 1) m e))
        (count.unary_counts (counts a n (j + 1) m e))
    counts (tree.update up prefix (tree.to_name x) s) n j m e =
        up_to (either (computes chosen (tree.to_name (ident_with_id x (j + 3))) kind.Unary) _ _
        (updated up prefix _ (count.assign_counts count.target_counts
        (told_of_1 (told_of_1 (told_of_1 count.name_counts))))) (count.update_counts count.target_counts)) (omega arith)
    counts (tree.update up prefix (tree.to_dot o k t) s) n j m e =
        let a = counts o n (j + 3) m e in
        either (computes chosen (with_ids (j + 3) (tree.to_dot (numbered_tree n o) k t)) kind.Unary) _ _
        (updated up prefix _ (told_of_2 a count.string_counts)) (count.update_counts (count.to_dot_counts a))
    counts (tree.update up prefix (tree.to_index o k t) s) n j m e =
        either (computes chosen (with_ids (j + 3) (numbered_tree n (tree.to_index o k t))) kind.Unary) _ _
        (updated up prefix _ (told_of_2 (counts o n _ _ refl) (counts k (n + functions_in o) _ m (omega arith))))
        (count.update_counts
        (count.to_index_counts (counts o n _ _ refl) (counts k (n + functions_in o) _ m (omega arith))))
    counts (tree.binary o a b s) n j m e =
        either (chosen kind.Binary) _ _
        (told_of_2 (counts a n _ _ refl) (counts b (n + functions_in a) _ m (omega arith)))
        (count.binary_counts (counts a n _ _ refl) (counts b (n + functions_in a) _ m (omega arith)))
    counts (tree.and a b s) n j m e =
        count.and_counts (hooked (chosen kind.Conditional) (codes "C") j _ (counts a n _ (n + functions_in a) refl))
        (counts b (n + functions_in a) _ m (omega arith))
    counts (tree.or a b s) n j m e =
        count.or_counts (hooked (chosen kind.Conditional) (codes "C") j _ (counts a n _ (n + functions_in a) refl))
        (counts b (n + functions_in a) _ m (omega arith))
    counts (tree.conditional a b c s) n j m e =
        count.conditional_counts
        (hooked (chosen kind.Conditional) (codes "C") j _ (counts a n _ (n + functions_in a) refl))
        (counts b (n + functions_in a) _ (n + functions_in a + functions_in b) refl)
        (counts c (n + functions_in a + functions_in b) _ m (omega arith))
    counts (tree.assign None (tree.to_name x) a s) n j m e =
        either (chosen kind.Write) _ _
        (count.assign_counts count.target_counts (told_of_1 (up_from (counts a (n + 0) _ m (omega arith)))))
        (count.assign_counts count.target_counts (up_from (counts a (n + 0) _ m (omega arith))))
    counts (tree.assign (Some q) (tree.to_name x) a s) n j m e =
        either (computes chosen (tree.to_name (ident_with_id x (j + 3))) kind.Binary) _ _
        (count.assign_counts count.target_counts (told_of_1 (told_of_2 (told_of_1 count.name_counts)
        (up_from (counts a (n + 0) _ m (omega arith))))))
        (count.assign_counts count.target_counts (up_from (counts a (n + 0) _ m (omega arith))))
    counts (tree.assign None (tree.to_dot o k t) a s) n j m e =
        either (chosen kind.PutField) _ _
        (count.call_counts (told_2 (counts o n (j + 1) (n + functions_in o) refl) count.string_counts)
        (one_counts (counts a (n + functions_in o) _ m (omega arith)) none_counts))
        (count.assign_counts (count.to_dot_counts (counts o n (j + 1) (n + functions_in o) refl))
        (counts a (n + functions_in o) _ m (omega arith)))
    counts (tree.assign (Some q) (tree.to_dot o k t) a s) n j m e =
        either (computes chosen (with_ids (j + 3) (numbered_tree n (tree.to_dot o k t))) kind.Binary) _ _
        (count.call_counts (told_of_2 (counts o n (j + 3) (n + functions_in o) refl) count.string_counts)
        (one_counts (counts a (n + functions_in o) _ m (omega arith)) none_counts))
        (count.assign_counts (count.to_dot_counts (counts o n (j + 3) (n + functions_in o) refl))
        (counts a (n + functions_in o) _ m (omega arith)))
    counts (tree.assign None (tree.to_index o k t) a s) n j m e =
        either (chosen kind.PutField) _ _
        (count.call_counts (told_2 (counts o n _ _ refl) (counts k (n + functions_in o) _
        (n + (functions_in o + functions_in k)) (omega arith)))
        (one_counts (counts a (n + (functions_in o + functions_in k)) _ m (omega arith)) none_counts))
        (count.assign_counts (count.to_index_counts (counts o n _ _ refl) (counts k (n + functions_in o) _
        (n + (functions_in o + functions_in k)) (omega arith)))
        (counts a (n + (functions_in o + functions_in k)) _ m (omega arith)))
    counts (tree.assign (Some q) (tree.to_index o k t) a s) n j m e =
        either (computes chosen (with_ids (j + 3) (numbered_tree n (tree.to_index o k t))) kind.Binary) _ _
        (count.call_counts (told_of_2 (counts o n _ _ refl) (counts k (n + functions_in o) _
        (n + (functions_in o + functions_in k)) (omega arith)))
        (one_counts (counts a (n + (functions_in o + functions_in k)) _ m (omega arith)) none_counts))
        (count.assign_counts (count.to_index_counts (counts o n _ _ refl) (counts k (n + functions_in o) _
        (n + (functions_in o + functions_in k)) (omega arith)))
        (counts a (n + (functions_in o + functions_in k)) _ m (omega arith)))
    counts (tree.comma a b s) n j m e =
        count.comma_counts (counts a n _ _ refl) (counts b (n + functions_in a) _ m (omega arith))
    counts (tree.to_name x) n j m e = record { fixed = refl; next = e }
    counts (tree.to_dot o k s) n j m e = count.to_dot_counts (counts o n _ m e)
    counts (tree.to_index o k s) n j m e =
        count.to_index_counts (counts o n _ _ refl) (counts k (n + functions_in o) _ m (omega arith))
    counts tree.hole n j m e = record { fixed = refl; next = e }
    counts (tree.filled a) n j m e = count.filled_counts (counts a n _ m e)
    counts (tree.value k a) n j m e = count.value_counts (counts a n _ m e)
    counts (tree.getter k f) n j m e = count.getter_counts (counts f n _ m e)
    counts (tree.setter k f) n j m e = count.setter_counts (counts f n _ m e)
    counts (tree.function i x ps (tree.body strict fs l) s) n j m e =
        count.function_counts (count.body_counts (count_all fs (n + 1) _ (n + 1 + functions_in_forest fs) refl)
        (entered (chosen kind.FunctionEnter || chosen kind.FunctionExit) j _
        (count_all l (n + 1 + functions_in_forest fs) _ m (omega arith))))
    counts (tree.body strict fs l) n j m e =
        count.body_counts (count_all fs n _ _ refl) (count_all l (n + functions_in_forest fs) _ m (omega arith))
    counts (tree.var l s) n j m e = count.var_counts (count_all l n _ m e)
    counts (tree.empty s) n j m e = record { fixed = refl; next = e }
    counts (tree.expression a s) n j m e = count.expression_counts (counts a n _ m e)
    counts (tree.block l s) n j m e = count.block_counts (count_all l n _ m e)
    counts (tree.if_else a l b s) n j m e =
        count.if_else_counts
        (hooked (chosen kind.Conditional) (codes "C") j _ (counts a n _ (n + functions_in a) refl))
        (count_all l (n + functions_in a) _ (n + functions_in a + functions_in_forest l) refl)
        (count_optional b (n + functions_in a + functions_in_forest l) _ m (omega arith))
    counts (tree.do_while l a s) n j m e =
        count.do_while_counts (count_all l n _ (n + functions_in_forest l) refl)
        (hooked (chosen kind.Conditional) (codes "C") j _ (counts a (n + functions_in_forest l) _ m (omega arith)))
    counts (tree.while a l s) n j m e =
        count.while_counts (hooked (chosen kind.Conditional) (codes "C") j _ (counts a n _ (n + functions_in a) refl))
        (count_all l (n + functions_in a) _ m (omega arith))
    counts (tree.for i tree.absent u l s) n j m e =
        count.for_counts (counts i n _ (n + functions_in i) refl) absent_counts
        (up_from_optional (count_optional u (n + functions_in i + 0) _
        (n + functions_in i + 0 + functions_in_optional u) refl))
        (count_all l (n + functions_in i + 0 + functions_in_optional u) _ m (omega arith))
    counts (tree.for i (tree.present a) u l s) n j m e =
        count.for_counts (counts i n _ (n + functions_in i) refl)
        (present_counts (hooked (chosen kind.Conditional) (codes "C") j _
        (counts a (n + functions_in i) _ (n + functions_in i + functions_in a) refl)))
        (count_optional u (n + functions_in i + functions_in a) _
        (n + functions_in i + functions_in a + functions_in_optional u) refl)
        (count_all l (n + functions_in i + functions_in a + functions_in_optional u) _ m (omega arith))
    counts (tree.for_in is_var x o l s) n j m e =
        count.for_in_counts (hooked (chosen kind.ForIn) (codes "O") j _ (counts o n _ (n + functions_in o) refl))
        (count_all l (n + functions_in o) _ m (omega arith))
    counts (tree.continue x s) n j m e = record { fixed = refl; next = e }
    counts (tree.break x s) n j m e = record { fixed = refl; next = e }
    counts (tree.return tree.absent s) n j m e = record { fixed = refl; next = e }
    counts (tree.return (tree.present a) s) n j m e =
        count.return_counts (present_counts (hooked (chosen kind.Return) (codes "V") j _ (counts a n _ m e)))
    counts (tree.labelled x t s) n j m e = count.labelled_counts (counts t n _ m e)
    counts (tree.switch a l s) n j m e =
        count.switch_counts (counts a n _ _ refl) (count_all l (n + functions_in a) _ m (omega arith))
    counts (tree.throw a s) n j m e =
        count.throw_counts (hooked (chosen kind.Throw) (codes "K") j _ (counts a n _ m e))
    counts (tree.try l tree.absent f s) n j m e =
        count.try_counts (count_all l n _ (n + functions_in_forest l) refl) absent_counts
        (up_from_optional (count_optional f (n + functions_in_forest l + 0) _ m (omega arith)))
    counts (tree.try l (tree.present (tree.catch x h)) f s) n j m e =
        count.try_counts (count_all l n _ (n + functions_in_forest l) refl)
        (present_counts (count.catch_counts (caught (chosen kind.Catch) j x.text _
        (count_all h (n + functions_in_forest l) _ (n + functions_in_forest l + functions_in_forest h) refl))))
        (count_optional f (n + functions_in_forest l + functions_in_forest h) _ m (omega arith))
    counts (tree.debugger s) n j m e = record { fixed = refl; next = e }
    counts tree.nothing n j m e = record { fixed = refl; next = e }
    counts (tree.init_expression a) n j m e = count.init_expression_counts (counts a n _ m e)
    counts (tree.init_var l) n j m e = count.init_var_counts (count_all l n _ m e)
    counts (tree.declarator x tree.absent) n j m e = record { fixed = refl; next = e }
    counts (tree.declarator x (tree.present a)) n j m e =
        count.declarator_counts (present_counts (written (chosen kind.Write) (codes "W") j x.text _
        (counts a n _ m e)))
    counts (tree.case a l) n j m e =
        count.case_counts (count_optional a n _ _ refl) (count_all l (n + functions_in_optional a) _ m (omega arith))
    counts (tree.branch_of l) n j m e = count.branch_of_counts (count_all l n _ m e)
    counts (tree.catch x l) n j m e =
        count.catch_counts (caught (chosen kind.Catch) j x.text _ (count_all l n _ m e))

    count_all : {S : Type 0} {x : Sort} (l : Forest S x) (n j m : ℕ) → n + functions_in_forest l ≡ m
        → CountsAll n (woven_forest chosen (forest_with_ids j (numbered_forest n l))) m
    count_all tree.end n j m e = record { fixed = refl; next = e }
    count_all (tree.more t l) n j m e =
        one_counts (counts t n _ _ refl) (count_all l (n + functions_in t) _ m (omega arith))

    count_optional : {S : Type 0} {x : Sort} (o : OptionalTree S x) (n j m : ℕ) → n + functions_in_optional o ≡ m
        → CountsIfPresent n (woven_optional chosen (optional_with_ids j (numbered_optional n o))) m
    count_optional tree.absent n j m e = record { fixed = refl; next = e }
    count_optional (tree.present t) n j m e = present_counts (counts t n _ m e)

  count_last : {S : Type 0} (l : Forest S tree.stmt) (h : Text) (id n j m : ℕ) → n + functions_in_forest l ≡ m
      → CountsAll n (and_last (woven_forest chosen (forest_with_ids j (numbered_forest n l)))
      (hook_statement (hook h id no_exprs))) m
  count_last tree.end h id n j m e = one_counts (up_to statement (omega arith)) none_counts
  count_last (tree.more t l) h id n j m e =
      one_counts (counts t n _ _ refl) (count_last l h id (n + functions_in t) _ m (omega arith))

  begun : {S : Type 0} (b : Bool) (l : Forest S tree.stmt) (id n j m : ℕ) → n + functions_in_forest l ≡ m
      → CountsAll n (if b then begin_and_end id (woven_forest chosen (forest_with_ids j (numbered_forest n l)))
      else woven_forest chosen (forest_with_ids j (numbered_forest n l))) m
  begun true l id n j m e = one_counts statement (count_last l (codes "X") (id + 1) n j m e)
  begun false l id n j m e = count_all l n j m e

  -- a program
  code_counts : {S : Type 0} (b : Tree S tree.code)
      → Counts 0 (woven_code chosen 1 (with_ids 3 (numbered_tree 0 b))) (0 + functions_in b)
  code_counts (tree.body strict fs l) =
      count.body_counts (count_all fs 0 3 (0 + functions_in_forest fs) refl)
      (begun (chosen kind.ScriptEnter || chosen kind.ScriptExit) l 1 (0 + functions_in_forest fs) _
      (0 + (functions_in_forest fs + functions_in_forest l)) (omega arith))

  pub woven_numbered : {S : Type 0} (p : Program S) → with_numbers p ≡ p
      → with_numbers (woven_program chosen p) ≡ woven_program chosen p
  unfolding woven_program
  woven_numbered p e =
      let same : numbered_tree 0 p.body ≡ p.body = ap (λ q. q.body) e in
      ap (λ b. record { body = b; at = tt })
      (subst (λ b. numbered_tree 0 (woven_code chosen 1 (with_ids 3 b)) ≡ woven_code chosen 1 (with_ids 3 b)) same
      (code_counts p.body).fixed)
