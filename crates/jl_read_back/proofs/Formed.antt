-- The woven script is well formed where the script is, a line for each form.
use Rattle.std.proofs.Common.{codes, ℕ, ◌+◌, ◌≤◌, Bool, true, false, ◌||◌, Some, None, subst, sym}
use Rattle.std.proofs.Common.{arith}
use Rattle.std.specs.Prelude.{if◌then◌else◌}
use Rattle.jl_ast.specs.Tree as tree
use Rattle.jl_ast.specs.Tree.{Forest, OptionalTree, Program, Sort, Text, Tree}
use Rattle.jl_ast.specs.declared.ops.UnOp.TheVariants as un
use Rattle.jl_op.specs.Chosen.{Kinds}
use Rattle.jl_op.specs.Ids.{forest_id_count, forest_with_ids, id_count, ident_with_id, optional_id_count}
use Rattle.jl_op.specs.Ids.{optional_with_ids, with_ids}
use Rattle.jl_op.specs.declared.kind.OpKind.TheVariants as kind
use Rattle.jl_op.specs.declared.sign.UnKind.TheVariants as unary
use Rattle.jl_print.specs.WellFormed.{AllWellFormed, IsIdentifier, IsName, IsShort, OptionalWellFormed, WellFormed}
use Rattle.jl_simulation.specs.HookCalls.{and_last, before_update, begin_and_end, catch_and_go_on, enter_and_leave}
use Rattle.jl_simulation.specs.HookCalls.{hook, hook_1, hook_2, hook_of_1, hook_statement, no_exprs, string_of}
use Rattle.jl_simulation.specs.HookCalls.{unary_hook, Expr, Stmt, Stmts}
use Rattle.jl_simulation.specs.Weaving.{calls, calls_member, computes, weave, woven_callee, woven_code}
use Rattle.jl_simulation.specs.Weaving.{woven_delete, woven_forest, woven_optional, woven_program, woven_typeof}
use Rattle.jl_simulation.proofs.Shapes.{IsNoMember}
use Rattle.jl_read_back.proofs.Forms.{callee_is, delete_is, typeof_is, IsNoName}
use Rattle.jl_read_back.proofs.HookWords.{binary_short, hooks, literal, name_A, name_B, name_C, name_E, name_F}
use Rattle.jl_read_back.proofs.HookWords.{name_G, name_H, name_I, name_K, name_L, name_M, name_N, name_O, name_P}
use Rattle.jl_read_back.proofs.HookWords.{name_R, name_S, name_T, name_U, name_V, name_W, name_X, name_Y, name_Z}
use Rattle.jl_read_back.proofs.HookWords.{update_short}
use Rattle.jl_read_back.proofs.Kept.{default_kept, finally_kept, getter_kept, name_kept, named_kept}
use Rattle.jl_read_back.proofs.Kept.{names_kept, setter_kept, some_kept}

-- by a hook, or as it stands
either : (b : Bool) (t u : Expr) → WellFormed t → WellFormed u → WellFormed (if b then t else u)
either true t u v w = v
either false t u v w = w

hooked : (b : Bool) (h : Text) → IsName h → (id : ℕ) → id ≤ 9007199254740991 → (e : Expr) → WellFormed e
    → WellFormed (if b then hook_1 h id e else e)
hooked true h name id small e w = ((hooks, name), (literal id small, (w, tt)))
hooked false h name id small e w = w

written : (b : Bool) (h : Text) → IsName h → (id : ℕ) → id ≤ 9007199254740991 → (word : Text) → IsShort word
    → (e : Expr) → WellFormed e → WellFormed (if b then hook_of_1 h id word e else e)
written true h name id small word short e w = ((hooks, name), (literal id small, (short, (w, tt))))
written false h name id small word short e w = w

-- the number before an update
updated : (up prefix : Bool) (e : Expr) → WellFormed e → WellFormed (before_update up prefix e)
updated up true e w = w
updated true false e w = (w, literal 1 (omega arith))
updated false false e w = (w, literal 1 (omega arith))

-- statements of a function, of a `catch` and of a program
entered : (b : Bool) (id : ℕ) (l : Stmts) → id + 1 ≤ 9007199254740991 → AllWellFormed l
    → AllWellFormed (if b then enter_and_leave id l else l)
entered true id l small w = (
  (
    (((hooks, name_E), (literal id (omega arith), tt)), w),
    tt,
    tt,
    (((hooks, name_L), (literal (id + 1) small, tt)), tt),
  ),
  tt,
)
entered false id l small w = w

caught : (b : Bool) (id : ℕ) (x : Text) (l : Stmts) → id ≤ 9007199254740991 → IsIdentifier x → AllWellFormed l
    → AllWellFormed (if b then catch_and_go_on id x l else l)
caught true id x l small name w =
    (((hooks, name_H), (literal id small, (name.name.short, (name, tt)))), w)
caught false id x l small name w = w

one_more : (l : Stmts) (t : Stmt) → WellFormed t → AllWellFormed l → AllWellFormed (and_last l t)
one_more tree.end t v w = (v, tt)
one_more (tree.more u l) t v w = (w.0, one_more l t v w.1)

begun : (b : Bool) (id : ℕ) (l : Stmts) → id + 1 ≤ 9007199254740991 → AllWellFormed l
    → AllWellFormed (if b then begin_and_end id l else l)
begun true id l small w = (
  ((hooks, name_S), (literal id (omega arith), tt)),
  one_more l (hook_statement (hook (codes "X") (id + 1) no_exprs)) ((hooks, name_X), (literal (id + 1) small, tt)) w,
)
begun false id l small w = w

module _ (chosen : Kinds) where
  called : {S : Type 0} (n id : ℕ) (f : Tree S tree.expr) → IsNoMember f → id ≤ 9007199254740991 → (w : Expr)
      → WellFormed w → WellFormed (woven_callee chosen (with_ids n f) w id)
  called n id f is small w v =
      subst (λ e. WellFormed e) (sym (callee_is chosen n id f is w))
      (hooked (calls chosen) (codes "F") name_F id small w v)

  typed : {S : Type 0} (n id : ℕ) (e : Tree S tree.expr) → IsNoName e → id ≤ 9007199254740991 → (w : Expr)
      → WellFormed w → WellFormed (woven_typeof chosen id (with_ids n e) w)
  typed n id e is small w v =
      subst (λ e. WellFormed e) (sym (typeof_is chosen n id e is w))
      (either (chosen kind.Unary) (unary_hook id unary.Typeof w) (tree.unary un.Typeof w tt)
      ((hooks, name_U), (literal id small, (omega arith, (v, tt)))) v)

  deleted : {S : Type 0} (n id : ℕ) (e : Tree S tree.expr) → IsNoName e → IsNoMember e → (w : Expr) → WellFormed w
      → WellFormed (woven_delete chosen (with_ids n e) w id)
  deleted n id e is not w v = subst (λ e. WellFormed e) (sym (delete_is chosen n id e is not w)) v

  tested : (id : ℕ) → id ≤ 9007199254740991 → (w : Expr) → WellFormed w
      → WellFormed (if chosen kind.Conditional then hook_1 (codes "C") id w else w)
  tested id small w v = hooked (chosen kind.Conditional) (codes "C") name_C id small w v

  mutual
    pub formed : {S : Type 0} {x : Sort} (t : Tree S x) → WellFormed t → (n : ℕ)
        → n + id_count t ≤ 9007199254740991 → WellFormed (weave chosen (with_ids n t))
    formed (tree.this s) w n few = tt
    formed (tree.name x s) w n few =
        either (chosen kind.Read) _ _ ((hooks, name_R), (literal n (omega arith), (w.name.short, (w, tt)))) w
    formed (tree.number m s) w n few = hooked (chosen kind.Literal) (codes "T") name_T n (omega arith) _ w
    formed (tree.string t s) w n few = hooked (chosen kind.Literal) (codes "T") name_T n (omega arith) _ w
    formed (tree.boolean b s) w n few = hooked (chosen kind.Literal) (codes "T") name_T n (omega arith) _ tt
    formed (tree.null s) w n few = hooked (chosen kind.Literal) (codes "T") name_T n (omega arith) _ tt
    formed (tree.array l s) w n few =
        hooked (chosen kind.ArrayLiteral) (codes "T") name_T n (omega arith) _ (all_formed l w (n + 1) (omega arith))
    formed (tree.object l s) w n few =
        hooked (chosen kind.ObjectLiteral) (codes "T") name_T n (omega arith) _ (all_formed l w (n + 1) (omega arith))
    formed (tree.function_expression f s) w n few =
        hooked (chosen kind.FunctionLiteral) (codes "T") name_T n (omega arith) _ (formed f w (n + 1) (omega arith))
    formed (tree.dot o k s) w n few =
        let a = formed o w.0 (n + 1) (omega arith) in
        either (chosen kind.GetField) _ _
        ((hooks, name_G), (literal n (omega arith), (a, (w.1.short, tt)))) (a, w.1)
    formed (tree.index o k s) w n few =
        let a = formed o w.0 (n + 1) (omega arith) in
        let b = formed k w.1 (n + 1 + id_count o) (omega arith) in
        either (chosen kind.GetField) _ _ ((hooks, name_G), (literal n (omega arith), (a, (b, tt)))) (a, b)
    formed (tree.call (tree.dot o k t) l s) w n few =
        let a = formed o w.0.0 (n + 3) (omega arith) in (
          either (calls_member chosen) (hook_2 (codes "M") n (weave chosen (with_ids (n + 3) o)) (string_of k))
              (tree.dot (weave chosen (with_ids (n + 3) o)) k tt)
              ((hooks, name_M), (literal n (omega arith), (a, (w.0.1.short, tt)))) (a, w.0.1),
          all_formed l w.1 (n + 2 + id_count (tree.dot o k t)) (omega arith),
        )
    formed (tree.call (tree.index o k t) l s) w n few =
        let a = formed o w.0.0 (n + 3) (omega arith) in
        let b = formed k w.0.1 (n + 3 + id_count o) (omega arith) in (
          either (calls_member chosen)
              (hook_2 (codes "M") n (weave chosen (with_ids (n + 3) o))
              (weave chosen (with_ids (n + 3 + id_count o) k)))
              (tree.index (weave chosen (with_ids (n + 3) o)) (weave chosen (with_ids (n + 3 + id_count o) k)) tt)
              ((hooks, name_M), (literal n (omega arith), (a, (b, tt)))) (a, b),
          all_formed l w.1 (n + 2 + id_count (tree.index o k t)) (omega arith),
        )
    formed (tree.call f l s) w n few = (
      called (n + 2) (n + 0) f tt (omega arith) (weave chosen (with_ids (n + 2) f))
          (formed f w.0 (n + 2) (omega arith)),
      all_formed l w.1 (n + 2 + id_count f) (omega arith),
    )
    formed (tree.new f l s) w n few =
        let a = formed f w.0 (n + 2) (omega arith) in
        let b = all_formed l w.1 (n + 2 + id_count f) (omega arith) in
        either (calls chosen) _ _ (((hooks, name_N), (literal n (omega arith), (a, tt))), b) (a, b)
    formed (tree.unary un.Typeof (tree.name x t) s) w n few =
        either (chosen kind.TypeofName) _ _
        ((hooks, name_Y), (literal n (omega arith), (w.name.short, (w, tt)))) w
    formed (tree.unary un.Typeof e s) w n few =
        typed (n + 1) n e tt (omega arith) (weave chosen (with_ids (n + 1) e)) (formed e w (n + 1) (omega arith))
    formed (tree.unary un.Delete (tree.name x t) s) w n few = w
    formed (tree.unary un.Delete (tree.dot o k t) s) w n few =
        let a = formed o w.0 (n + 1) (omega arith) in
        either (chosen kind.DeleteField) _ _
        ((hooks, name_Z), (literal n (omega arith), (a, (w.1.short, tt)))) (a, w.1)
    formed (tree.unary un.Delete (tree.index o k t) s) w n few =
        let a = formed o w.0 (n + 1) (omega arith) in
        let b = formed k w.1 (n + 1 + id_count o) (omega arith) in
        either (chosen kind.DeleteField) _ _ ((hooks, name_Z), (literal n (omega arith), (a, (b, tt)))) (a, b)
    formed (tree.unary un.Delete e s) w n few =
        deleted n n e tt tt (weave chosen (with_ids n e)) (formed e w n (omega arith))
    formed (tree.unary o e s) w n few =
        let a = formed e w (n + 1) (omega arith) in
        either (chosen kind.Unary) _ _ ((hooks, name_U), (literal n (omega arith), (omega arith, (a, tt)))) a
    formed (tree.update up prefix (tree.to_name x) s) w n few =
        either (computes chosen (tree.to_name (ident_with_id x (n + 3))) kind.Unary) _ _
        (updated up prefix _ (
          tt,
          w,
          (
            (hooks, name_W),
            (
              literal (n + 2) (omega arith),
              (
                w.name.short,
                (
                  (
                    (hooks, name_U),
                    (
                      literal (n + 1) (omega arith),
                      (
                        update_short up,
                        (((hooks, name_R), (literal n (omega arith), (w.name.short, (w, tt)))), tt),
                      ),
                    ),
                  ),
                  tt,
                ),
              ),
            ),
          ),
        )) w
    formed (tree.update up prefix (tree.to_dot o k t) s) w n few =
        let a = formed o w.0 (n + 3) (omega arith) in
        either (computes chosen (with_ids (n + 3) (tree.to_dot o k t)) kind.Unary) _ _
        (updated up prefix _
        ((hooks, name_I), (literal n (omega arith), (update_short up, (a, (w.1.short, tt)))))) (a, w.1)
    formed (tree.update up prefix (tree.to_index o k t) s) w n few =
        let a = formed o w.0 (n + 3) (omega arith) in
        let b = formed k w.1 (n + 3 + id_count o) (omega arith) in
        either (computes chosen (with_ids (n + 3) (tree.to_index o k t)) kind.Unary) _ _
        (updated up prefix _
        ((hooks, name_I), (literal n (omega arith), (update_short up, (a, (b, tt)))))) (a, b)
    formed (tree.binary o a b s) w n few =
        let p = formed a w.0 (n + 1) (omega arith) in
        let q = formed b w.1 (n + 1 + id_count a) (omega arith) in
        either (chosen kind.Binary) _ _
        ((hooks, name_B), (literal n (omega arith), (binary_short o, (p, (q, tt))))) (p, q)
    formed (tree.and a b s) w n few = (
      tested n (omega arith) _ (formed a w.0 (n + 1) (omega arith)),
      formed b w.1 (n + 1 + id_count a) (omega arith),
    )
    formed (tree.or a b s) w n few = (
      tested n (omega arith) _ (formed a w.0 (n + 1) (omega arith)),
      formed b w.1 (n + 1 + id_count a) (omega arith),
    )
    formed (tree.conditional a b c s) w n few = (
      tested n (omega arith) _ (formed a w.0 (n + 1) (omega arith)),
      formed b w.1 (n + 1 + id_count a) (omega arith),
      formed c w.2 (n + 1 + id_count a + id_count b) (omega arith),
    )
    formed (tree.assign None (tree.to_name x) e s) w n few =
        let a = formed e w.2 (n + 1 + 0) (omega arith) in
        either (chosen kind.Write) _ _
        (tt, w.1, ((hooks, name_W), (literal n (omega arith), (w.1.name.short, (a, tt))))) (tt, w.1, a)
    formed (tree.assign (Some q) (tree.to_name x) e s) w n few =
        let a = formed e w.2 (n + 3 + 0) (omega arith) in
        either (computes chosen (tree.to_name (ident_with_id x (n + 3))) kind.Binary) _ _ (
          tt,
          w.1,
          (
            (hooks, name_W),
            (
              literal (n + 2) (omega arith),
              (
                w.1.name.short,
                (
                  (
                    (hooks, name_B),
                    (
                      literal (n + 1) (omega arith),
                      (
                        binary_short q,
                        (((hooks, name_R), (literal n (omega arith), (w.1.name.short, (w.1, tt)))), (a, tt)),
                      ),
                    ),
                  ),
                  tt,
                ),
              ),
            ),
          ),
        ) (w.0, w.1, a)
    formed (tree.assign None (tree.to_dot o k t) e s) w n few =
        let a = formed o w.1.0 (n + 1) (omega arith) in
        let b = formed e w.2 (n + 1 + id_count o) (omega arith) in
        either (chosen kind.PutField) _ _
        (((hooks, name_P), (literal n (omega arith), (a, (w.1.1.short, tt)))), (b, tt)) (tt, (a, w.1.1), b)
    formed (tree.assign (Some q) (tree.to_dot o k t) e s) w n few =
        let a = formed o w.1.0 (n + 3) (omega arith) in
        let b = formed e w.2 (n + 3 + id_count o) (omega arith) in
        either (computes chosen (with_ids (n + 3) (tree.to_dot o k t)) kind.Binary) _ _
        (((hooks, name_A), (literal n (omega arith), (binary_short q, (a, (w.1.1.short, tt))))), (b, tt))
        (w.0, (a, w.1.1), b)
    formed (tree.assign None (tree.to_index o k t) e s) w n few =
        let a = formed o w.1.0 (n + 1) (omega arith) in
        let c = formed k w.1.1 (n + 1 + id_count o) (omega arith) in
        let b = formed e w.2 (n + 1 + (id_count o + id_count k)) (omega arith) in
        either (chosen kind.PutField) _ _
        (((hooks, name_P), (literal n (omega arith), (a, (c, tt)))), (b, tt)) (tt, (a, c), b)
    formed (tree.assign (Some q) (tree.to_index o k t) e s) w n few =
        let a = formed o w.1.0 (n + 3) (omega arith) in
        let c = formed k w.1.1 (n + 3 + id_count o) (omega arith) in
        let b = formed e w.2 (n + 3 + (id_count o + id_count k)) (omega arith) in
        either (computes chosen (with_ids (n + 3) (tree.to_index o k t)) kind.Binary) _ _
        (((hooks, name_A), (literal n (omega arith), (binary_short q, (a, (c, tt))))), (b, tt)) (w.0, (a, c), b)
    formed (tree.comma a b s) w n few =
        (formed a w.0 n (omega arith), formed b w.1 (n + id_count a) (omega arith))
    formed (tree.to_name x) w n few = w
    formed (tree.to_dot o k s) w n few = (formed o w.0 n few, w.1)
    formed (tree.to_index o k s) w n few =
        (formed o w.0 n (omega arith), formed k w.1 (n + id_count o) (omega arith))
    formed tree.hole w n few = tt
    formed (tree.filled e) w n few = formed e w n few
    formed (tree.value k e) w n few = (w.0, formed e w.1 n few)
    formed (tree.getter k f) w n few = (w.0, getter_kept chosen n f w.1, formed f w.2 n few)
    formed (tree.setter k f) w n few = (w.0, setter_kept chosen n f w.1, formed f w.2 n few)
    formed (tree.function m x ps (tree.body strict fs l) s) w n few = (
      name_kept n x w.0,
      names_kept n ps w.1,
      (
        named_kept chosen (n + 2) fs w.2.0,
        all_formed fs w.2.1 (n + 2) (omega arith),
        entered (chosen kind.FunctionEnter || chosen kind.FunctionExit) n _ (omega arith)
            (all_formed l w.2.2 (n + 2 + forest_id_count fs) (omega arith)),
      ),
    )
    formed (tree.body strict fs l) w n few = (
      named_kept chosen n fs w.0,
      all_formed fs w.1 n (omega arith),
      all_formed l w.2 (n + forest_id_count fs) (omega arith),
    )
    formed (tree.var l s) w n few = (some_kept chosen n l w.0, all_formed l w.1 n few)
    formed (tree.empty s) w n few = tt
    formed (tree.expression e s) w n few = formed e w n few
    formed (tree.block l s) w n few = all_formed l w n few
    formed (tree.if_else e a b s) w n few = (
      tested n (omega arith) _ (formed e w.0 (n + 1) (omega arith)),
      all_formed a w.1 (n + 1 + id_count e) (omega arith),
      optional_formed b w.2 (n + 1 + id_count e + forest_id_count a) (omega arith),
    )
    formed (tree.do_while l e s) w n few = (
      all_formed l w.0 (n + 1) (omega arith),
      tested n (omega arith) _ (formed e w.1 (n + 1 + forest_id_count l) (omega arith)),
    )
    formed (tree.while e l s) w n few = (
      tested n (omega arith) _ (formed e w.0 (n + 1) (omega arith)),
      all_formed l w.1 (n + 1 + id_count e) (omega arith),
    )
    formed (tree.for i tree.absent u l s) w n few = (
      formed i w.0 (n + 0) (omega arith),
      tt,
      optional_formed u w.2 (n + 0 + id_count i + 0) (omega arith),
      all_formed l w.3 (n + 0 + id_count i + 0 + optional_id_count u) (omega arith),
    )
    formed (tree.for i (tree.present e) u l s) w n few = (
      formed i w.0 (n + 1) (omega arith),
      tested n (omega arith) _ (formed e w.1 (n + 1 + id_count i) (omega arith)),
      optional_formed u w.2 (n + 1 + id_count i + id_count e) (omega arith),
      all_formed l w.3 (n + 1 + id_count i + id_count e + optional_id_count u) (omega arith),
    )
    formed (tree.for_in is_var x o l s) w n few = (
      w.0,
      hooked (chosen kind.ForIn) (codes "O") name_O n (omega arith) _ (formed o w.1 (n + 1) (omega arith)),
      all_formed l w.2 (n + 1 + id_count o) (omega arith),
    )
    formed (tree.continue x s) w n few = name_kept n x w
    formed (tree.break x s) w n few = name_kept n x w
    formed (tree.return tree.absent s) w n few = tt
    formed (tree.return (tree.present e) s) w n few =
        hooked (chosen kind.Return) (codes "V") name_V n (omega arith) _ (formed e w (n + 1) (omega arith))
    formed (tree.labelled x t s) w n few = (w.0, formed t w.1 n few)
    formed (tree.switch e l s) w n few = (
      formed e w.0 n (omega arith),
      default_kept chosen true (n + id_count e) l w.1,
      all_formed l w.2 (n + id_count e) (omega arith),
    )
    formed (tree.throw e s) w n few =
        hooked (chosen kind.Throw) (codes "K") name_K n (omega arith) _ (formed e w (n + 1) (omega arith))
    formed (tree.try l tree.absent f s) w n few = (
      all_formed l w.0 (n + 0) (omega arith),
      finally_kept chosen (n + 0 + forest_id_count l + 0) f w.1,
      tt,
      optional_formed f w.3 (n + 0 + forest_id_count l + 0) (omega arith),
    )
    formed (tree.try l (tree.present (tree.catch x h)) f s) w n few = (
      all_formed l w.0 (n + 1) (omega arith),
      tt,
      (
        w.2.0,
        caught (chosen kind.Catch) n x.text _ (omega arith) w.2.0
            (all_formed h w.2.1 (n + 1 + forest_id_count l) (omega arith)),
      ),
      optional_formed f w.3 (n + 1 + forest_id_count l + forest_id_count h) (omega arith),
    )
    formed (tree.debugger s) w n few = tt
    formed tree.nothing w n few = tt
    formed (tree.init_expression e) w n few = formed e w n few
    formed (tree.init_var l) w n few = (some_kept chosen n l w.0, all_formed l w.1 n few)
    formed (tree.declarator x tree.absent) w n few = (w.0, tt)
    formed (tree.declarator x (tree.present e)) w n few = (
      w.0,
      written (chosen kind.Write) (codes "W") name_W n (omega arith) x.text w.0.name.short _
          (formed e w.1 (n + 1) (omega arith)),
    )
    formed (tree.case e l) w n few =
        (optional_formed e w.0 n (omega arith), all_formed l w.1 (n + optional_id_count e) (omega arith))
    formed (tree.branch_of l) w n few = all_formed l w n few
    formed (tree.catch x l) w n few =
        (w.0, caught (chosen kind.Catch) n x.text _ (omega arith) w.0 (all_formed l w.1 n few))

    all_formed : {S : Type 0} {x : Sort} (l : Forest S x) → AllWellFormed l → (n : ℕ)
        → n + forest_id_count l ≤ 9007199254740991 → AllWellFormed (woven_forest chosen (forest_with_ids n l))
    all_formed tree.end w n few = tt
    all_formed (tree.more t l) w n few =
        (formed t w.0 n (omega arith), all_formed l w.1 (n + id_count t) (omega arith))

    optional_formed : {S : Type 0} {x : Sort} (m : OptionalTree S x) → OptionalWellFormed m → (n : ℕ)
        → n + optional_id_count m ≤ 9007199254740991
        → OptionalWellFormed (woven_optional chosen (optional_with_ids n m))
    optional_formed tree.absent w n few = tt
    optional_formed (tree.present t) w n few = formed t w n few

  -- a program
  pub woven_formed : {S : Type 0} (p : Program S) → WellFormed p.body → 3 + id_count p.body ≤ 9007199254740991
      → WellFormed (woven_program chosen p).body
  unfolding woven_program
  woven_formed p = code_formed p.body
    where
      code_formed : {S : Type 0} (b : Tree S tree.code) → WellFormed b → 3 + id_count b ≤ 9007199254740991
          → WellFormed (woven_code chosen 1 (with_ids 3 b))
      code_formed (tree.body strict fs l) w few = (
        named_kept chosen 3 fs w.0,
        all_formed fs w.1 3 (omega arith),
        begun (chosen kind.ScriptEnter || chosen kind.ScriptExit) 1
            (woven_forest chosen (forest_with_ids (3 + forest_id_count fs) l)) (omega arith)
            (all_formed l w.2 (3 + forest_id_count fs) (omega arith)),
      )
