-- The woven script is at most three times as high as the script, and 4.
use Rattle.std.proofs.Common.{codes, ℕ, ◌+◌, ◌*◌, ◌≤◌, Bool, true, false, ◌||◌, Some, None, subst, sym}
use Rattle.std.proofs.Common.{arith}
use Rattle.std.specs.Prelude.{if◌then◌else◌}
use Rattle.jl_ast.specs.Height.{forest_height, height, optional_height, program_height}
use Rattle.jl_ast.specs.Tree as tree
use Rattle.jl_ast.specs.Tree.{Forest, OptionalTree, Program, Sort, Text, Tree}
use Rattle.jl_ast.specs.declared.ops.UnOp.TheVariants as un
use Rattle.jl_op.specs.Chosen.{Kinds}
use Rattle.jl_op.specs.Ids.{forest_id_count, forest_with_ids, id_count, ident_with_id, optional_id_count}
use Rattle.jl_op.specs.Ids.{optional_with_ids, with_ids}
use Rattle.jl_op.specs.declared.kind.OpKind.TheVariants as kind
use Rattle.jl_op.specs.declared.sign.UnKind.TheVariants as unary
use Rattle.jl_simulation.specs.HookCalls.{and_last, before_update, begin_and_end, catch_and_go_on, enter_and_leave}
use Rattle.jl_simulation.specs.HookCalls.{hook, hook_1, hook_2, hook_of_1, hook_statement, no_exprs, string_of}
use Rattle.jl_simulation.specs.HookCalls.{unary_hook, Expr, Stmt}
use Rattle.jl_simulation.specs.HookCalls.{Stmts, Woven}
use Rattle.jl_simulation.specs.Weaving.{calls, calls_member, computes, weave, woven_forest, woven_optional}
use Rattle.jl_simulation.specs.Weaving.{woven_callee, woven_code, woven_delete, woven_typeof, woven_program}
use Rattle.jl_simulation.proofs.Shapes.{IsNoMember}
use Rattle.jl_read_back.proofs.Forms.{callee_is, delete_is, typeof_is, IsNoName}

-- what the woven tree may be higher by than three times the tree
abbrev extra : Sort → ℕ
extra tree.func = 3
extra tree.decl = 5
extra tree.init = 5
extra x = 4

-- the higher of two
either : {x : Sort} (b : Bool) (t u : Woven x) (n : ℕ) → height t ≤ n → height u ≤ n
    → height (if b then t else u) ≤ n
either true t u n p q = p
either false t u n p q = q

-- a call of a hook is one higher than its argument, and 3 at least
hooked : (b : Bool) (h : Text) (id : ℕ) (e : Expr) (n : ℕ) → 3 ≤ n → height e + 1 ≤ n
    → height (if b then hook_1 h id e else e) ≤ n
hooked true h id e n p q = omega arith
hooked false h id e n p q = omega arith

written : (b : Bool) (h : Text) (id : ℕ) (word : Text) (e : Expr) (n : ℕ) → 3 ≤ n → height e + 1 ≤ n
    → height (if b then hook_of_1 h id word e else e) ≤ n
written true h id word e n p q = omega arith
written false h id word e n p q = omega arith

-- the number before an update
updated : (up prefix : Bool) (e : Expr) (n : ℕ) → 2 ≤ n → height e + 1 ≤ n → height (before_update up prefix e) ≤ n
updated up true e n p q = omega arith
updated true false e n p q = omega arith
updated false false e n p q = omega arith

-- statements of a function, of a `catch` and of a program
entered : (b : Bool) (id : ℕ) (l : Stmts) (n : ℕ) → 5 ≤ n → forest_height l + 1 ≤ n
    → forest_height (if b then enter_and_leave id l else l) ≤ n
entered true id l n p q = omega arith
entered false id l n p q = omega arith

caught : (b : Bool) (id : ℕ) (x : Text) (l : Stmts) (n : ℕ) → 4 ≤ n → forest_height l ≤ n
    → forest_height (if b then catch_and_go_on id x l else l) ≤ n
caught true id x l n p q = omega arith
caught false id x l n p q = omega arith

one_more : (l : Stmts) (t : Stmt) (n : ℕ) → height t ≤ n → forest_height l ≤ n → forest_height (and_last l t) ≤ n
one_more tree.end t n p q = omega arith
one_more (tree.more u l) t n p q = let h = one_more l t n p (omega arith) in omega arith

begun : (b : Bool) (id : ℕ) (l : Stmts) (n : ℕ) → 4 ≤ n → forest_height l ≤ n
    → forest_height (if b then begin_and_end id l else l) ≤ n
begun true id l n p q =
    let h = one_more l (hook_statement (hook (codes "X") (id + 1) no_exprs)) n p q in omega arith
begun false id l n p q = q

module _ (chosen : Kinds) where
  called : {S : Type 0} (n id : ℕ) (f : Tree S tree.expr) → IsNoMember f → (w : Expr) (h : ℕ) → 3 ≤ h
      → height w + 1 ≤ h → height (woven_callee chosen (with_ids n f) w id) ≤ h
  called n id f is w h p q =
      subst (λ e. height e ≤ h) (sym (callee_is chosen n id f is w)) (hooked (calls chosen) (codes "F") id w h p q)

  typed : {S : Type 0} (n id : ℕ) (e : Tree S tree.expr) → IsNoName e → (w : Expr) (h : ℕ) → 3 ≤ h
      → height w + 1 ≤ h → height (woven_typeof chosen id (with_ids n e) w) ≤ h
  typed n id e is w h p q =
      subst (λ e. height e ≤ h) (sym (typeof_is chosen n id e is w))
      (either (chosen kind.Unary) (unary_hook id unary.Typeof w) (tree.unary un.Typeof w tt) h (omega arith) q)

  deleted : {S : Type 0} (n id : ℕ) (e : Tree S tree.expr) → IsNoName e → IsNoMember e → (w : Expr) (h : ℕ)
      → height w + 1 ≤ h → height (woven_delete chosen (with_ids n e) w id) ≤ h
  deleted n id e is not w h q = subst (λ e. height e ≤ h) (sym (delete_is chosen n id e is not w)) q

  tested : (id : ℕ) (w : Expr) (h : ℕ) → height w ≤ 3 * h + 4
      → height (if chosen kind.Conditional then hook_1 (codes "C") id w else w) ≤ 3 * h + 5
  tested id w h p = hooked (chosen kind.Conditional) (codes "C") id w (3 * h + 5) (omega arith) (omega arith)

  mutual
    pub low : {S : Type 0} {x : Sort} (t : Tree S x) (n : ℕ)
        → height (weave chosen (with_ids n t)) ≤ 3 * height t + extra x
    low (tree.this s) n = omega arith
    low (tree.name x s) n = either (chosen kind.Read) _ _ _ (omega arith) (omega arith)
    low (tree.number m s) n = hooked (chosen kind.Literal) (codes "T") n _ _ (omega arith) (omega arith)
    low (tree.string t s) n = hooked (chosen kind.Literal) (codes "T") n _ _ (omega arith) (omega arith)
    low (tree.boolean b s) n = hooked (chosen kind.Literal) (codes "T") n _ _ (omega arith) (omega arith)
    low (tree.null s) n = hooked (chosen kind.Literal) (codes "T") n _ _ (omega arith) (omega arith)
    low (tree.array l s) n =
        let a = lows l (n + 1) in
        hooked (chosen kind.ArrayLiteral) (codes "T") n _ _ (omega arith) (omega arith)
    low (tree.object l s) n =
        let a = lows l (n + 1) in
        hooked (chosen kind.ObjectLiteral) (codes "T") n _ _ (omega arith) (omega arith)
    low (tree.function_expression f s) n =
        let a = low f (n + 1) in
        hooked (chosen kind.FunctionLiteral) (codes "T") n _ _ (omega arith) (omega arith)
    low (tree.dot o k s) n =
        let a = low o (n + 1) in
        either (chosen kind.GetField) _ _ _ (omega arith) (omega arith)
    low (tree.index o k s) n =
        let a = low o (n + 1) in let b = low k (n + 1 + id_count o) in
        either (chosen kind.GetField) _ _ _ (omega arith) (omega arith)
    low (tree.call (tree.dot o k t) l s) n =
        let a = low o (n + 3) in let c = lows l (n + 2 + id_count (tree.dot o k t)) in
        let m = either (calls_member chosen) (hook_2 (codes "M") n (weave chosen (with_ids (n + 3) o)) (string_of k))
        (tree.dot (weave chosen (with_ids (n + 3) o)) k tt) (3 * height (tree.dot o k t) + 4) (omega arith)
        (omega arith) in
        omega arith
    low (tree.call (tree.index o k t) l s) n =
        let a = low o (n + 3) in let b = low k (n + 3 + id_count o) in
        let c = lows l (n + 2 + id_count (tree.index o k t)) in
        let m = either (calls_member chosen)
        (hook_2 (codes "M") n (weave chosen (with_ids (n + 3) o)) (weave chosen (with_ids (n + 3 + id_count o) k)))
        (tree.index (weave chosen (with_ids (n + 3) o)) (weave chosen (with_ids (n + 3 + id_count o) k)) tt)
        (3 * height (tree.index o k t) + 4) (omega arith) (omega arith) in
        omega arith
    low (tree.call f l s) n =
        let a = low f (n + 2) in let c = lows l (n + 2 + id_count f) in
        let m = called (n + 2) (n + 0) f tt (weave chosen (with_ids (n + 2) f)) (3 * height f + 5) (omega arith)
        (omega arith) in
        omega arith
    low (tree.new f l s) n =
        let a = low f (n + 2) in let c = lows l (n + 2 + id_count f) in
        either (calls chosen) _ _ _ (omega arith) (omega arith)
    low (tree.unary un.Typeof (tree.name x t) s) n =
        either (chosen kind.TypeofName) _ _ _ (omega arith) (omega arith)
    low (tree.unary un.Typeof e s) n =
        let a = low e (n + 1) in
        typed (n + 1) n e tt (weave chosen (with_ids (n + 1) e)) _ (omega arith) (omega arith)
    low (tree.unary un.Delete (tree.name x t) s) n = omega arith
    low (tree.unary un.Delete (tree.dot o k t) s) n =
        let a = low o (n + 1) in
        let m = low (tree.dot o k t) n in
        either (chosen kind.DeleteField) _ _ _ (omega arith) (omega arith)
    low (tree.unary un.Delete (tree.index o k t) s) n =
        let a = low o (n + 1) in let b = low k (n + 1 + id_count o) in
        either (chosen kind.DeleteField) _ _ _ (omega arith) (omega arith)
    low (tree.unary un.Delete e s) n =
        let a = low e n in deleted n n e tt tt (weave chosen (with_ids n e)) _ (omega arith)
    low (tree.unary o e s) n =
        let a = low e (n + 1) in
        either (chosen kind.Unary) _ _ _ (omega arith) (omega arith)
    low (tree.update up prefix (tree.to_name x) s) n =
        either (computes chosen (tree.to_name (ident_with_id x (n + 3))) kind.Unary) _ _ _
        (updated up prefix _ _ (omega arith) (omega arith)) (omega arith)
    low (tree.update up prefix (tree.to_dot o k t) s) n =
        let a = low o (n + 3) in
        either (computes chosen (tree.to_dot (with_ids (n + 3) o) k (n + 3)) kind.Unary) _ _ _
        (updated up prefix _ _ (omega arith) (omega arith)) (omega arith)
    low (tree.update up prefix (tree.to_index o k t) s) n =
        let a = low o (n + 3) in let b = low k (n + 3 + id_count o) in
        either (computes chosen (with_ids (n + 3) (tree.to_index o k t)) kind.Unary) _ _ _
        (updated up prefix _ _ (omega arith) (omega arith)) (omega arith)
    low (tree.binary o a b s) n =
        let p = low a (n + 1) in let q = low b (n + 1 + id_count a) in
        either (chosen kind.Binary) _ _ _ (omega arith) (omega arith)
    low (tree.and a b s) n =
        let q = low b (n + 1 + id_count a) in
        let p = tested n (weave chosen (with_ids (n + 1) a)) (height a) (low a (n + 1)) in omega arith
    low (tree.or a b s) n =
        let q = low b (n + 1 + id_count a) in
        let p = tested n (weave chosen (with_ids (n + 1) a)) (height a) (low a (n + 1)) in omega arith
    low (tree.conditional a b c s) n =
        let q = low b (n + 1 + id_count a) in let r = low c (n + 1 + id_count a + id_count b) in
        let p = tested n (weave chosen (with_ids (n + 1) a)) (height a) (low a (n + 1)) in omega arith
    low (tree.assign None (tree.to_name x) e s) n =
        let a = low e (n + 1 + 0) in
        either (chosen kind.Write) _ _ _ (omega arith) (omega arith)
    low (tree.assign (Some q) (tree.to_name x) e s) n =
        let a = low e (n + 3 + 0) in
        either (computes chosen (tree.to_name (ident_with_id x (n + 3))) kind.Binary) _ _ _ (omega arith) (omega arith)
    low (tree.assign None (tree.to_dot o k t) e s) n =
        let a = low o (n + 1) in let b = low e (n + 1 + id_count o) in
        either (chosen kind.PutField) _ _ _ (omega arith) (omega arith)
    low (tree.assign (Some q) (tree.to_dot o k t) e s) n =
        let a = low o (n + 3) in let b = low e (n + 3 + id_count o) in
        either (computes chosen (with_ids (n + 3) (tree.to_dot o k t)) kind.Binary) _ _ _ (omega arith) (omega arith)
    low (tree.assign None (tree.to_index o k t) e s) n =
        let a = low o (n + 1) in let c = low k (n + 1 + id_count o) in
        let b = low e (n + 1 + (id_count o + id_count k)) in
        either (chosen kind.PutField) _ _ _ (omega arith) (omega arith)
    low (tree.assign (Some q) (tree.to_index o k t) e s) n =
        let a = low o (n + 3) in let c = low k (n + 3 + id_count o) in
        let b = low e (n + 3 + (id_count o + id_count k)) in
        either (computes chosen (with_ids (n + 3) (tree.to_index o k t)) kind.Binary) _ _ _ (omega arith) (omega arith)
    low (tree.comma a b s) n = let p = low a n in let q = low b (n + id_count a) in omega arith
    low (tree.to_name x) n = omega arith
    low (tree.to_dot o k s) n = let a = low o n in omega arith
    low (tree.to_index o k s) n = let a = low o n in let b = low k (n + id_count o) in omega arith
    low tree.hole n = omega arith
    low (tree.filled e) n = low e n
    low (tree.value k e) n = low e n
    low (tree.getter k f) n = let a = low f n in omega arith
    low (tree.setter k f) n = let a = low f n in omega arith
    low (tree.function m x ps (tree.body strict fs l) s) n =
        let a = lows fs (n + 2) in let b = lows l (n + 2 + forest_id_count fs) in
        let c = entered (chosen kind.FunctionEnter || chosen kind.FunctionExit) n
        (woven_forest chosen (forest_with_ids (n + 2 + forest_id_count fs) l))
        (3 * height (tree.body strict fs l) + 5) (omega arith) (omega arith) in
        omega arith
    low (tree.body strict fs l) n =
        let a = lows fs n in let b = lows l (n + forest_id_count fs) in omega arith
    low (tree.var l s) n = let a = lows l n in omega arith
    low (tree.empty s) n = omega arith
    low (tree.expression e s) n = let a = low e n in omega arith
    low (tree.block l s) n = let a = lows l n in omega arith
    low (tree.if_else e a b s) n =
        let p = tested n (weave chosen (with_ids (n + 1) e)) (height e) (low e (n + 1)) in
        let q = lows a (n + 1 + id_count e) in
        let r = optional_low b (n + 1 + id_count e + forest_id_count a) in omega arith
    low (tree.do_while l e s) n =
        let p = lows l (n + 1) in
        let q = tested n (weave chosen (with_ids (n + 1 + forest_id_count l) e)) (height e)
        (low e (n + 1 + forest_id_count l)) in omega arith
    low (tree.while e l s) n =
        let p = tested n (weave chosen (with_ids (n + 1) e)) (height e) (low e (n + 1)) in
        let q = lows l (n + 1 + id_count e) in omega arith
    low (tree.for i tree.absent u l s) n =
        let a = low i (n + 0) in let c = optional_low u (n + 0 + id_count i + 0) in
        let d = lows l (n + 0 + id_count i + 0 + optional_id_count u) in omega arith
    low (tree.for i (tree.present e) u l s) n =
        let a = low i (n + 1) in
        let b = tested n (weave chosen (with_ids (n + 1 + id_count i) e)) (height e) (low e (n + 1 + id_count i)) in
        let c = optional_low u (n + 1 + id_count i + id_count e) in
        let d = lows l (n + 1 + id_count i + id_count e + optional_id_count u) in omega arith
    low (tree.for_in is_var x o l s) n =
        let a = low o (n + 1) in let b = lows l (n + 1 + id_count o) in
        let c = hooked (chosen kind.ForIn) (codes "O") n (weave chosen (with_ids (n + 1) o)) (3 * height o + 5)
        (omega arith) (omega arith) in
        omega arith
    low (tree.continue x s) n = omega arith
    low (tree.break x s) n = omega arith
    low (tree.return tree.absent s) n = omega arith
    low (tree.return (tree.present e) s) n =
        let a = low e (n + 1) in
        let c = hooked (chosen kind.Return) (codes "V") n (weave chosen (with_ids (n + 1) e)) (3 * height e + 5)
        (omega arith) (omega arith) in
        omega arith
    low (tree.labelled x t s) n = let a = low t n in omega arith
    low (tree.switch e l s) n = let a = low e n in let b = lows l (n + id_count e) in omega arith
    low (tree.throw e s) n =
        let a = low e (n + 1) in
        let c = hooked (chosen kind.Throw) (codes "K") n (weave chosen (with_ids (n + 1) e)) (3 * height e + 5)
        (omega arith) (omega arith) in
        omega arith
    low (tree.try l tree.absent f s) n =
        let a = lows l (n + 0) in let c = optional_low f (n + 0 + forest_id_count l + 0) in omega arith
    low (tree.try l (tree.present (tree.catch x h)) f s) n =
        let a = lows l (n + 1) in let b = lows h (n + 1 + forest_id_count l) in
        let c = optional_low f (n + 1 + forest_id_count l + forest_id_count h) in
        let d = caught (chosen kind.Catch) n x.text
        (woven_forest chosen (forest_with_ids (n + 1 + forest_id_count l) h)) (3 * forest_height h + 4) (omega arith)
        b in
        omega arith
    low (tree.debugger s) n = omega arith
    low tree.nothing n = omega arith
    low (tree.init_expression e) n = let a = low e n in omega arith
    low (tree.init_var l) n = lows l n
    low (tree.declarator x tree.absent) n = omega arith
    low (tree.declarator x (tree.present e)) n =
        let a = low e (n + 1) in
        written (chosen kind.Write) (codes "W") n x.text _ _ (omega arith) (omega arith)
    low (tree.case e l) n =
        let a = optional_low e n in let b = lows l (n + optional_id_count e) in omega arith
    low (tree.branch_of l) n = lows l n
    low (tree.catch x l) n = let a = lows l n in caught (chosen kind.Catch) n x.text _ _ (omega arith) a

    lows : {S : Type 0} {x : Sort} (l : Forest S x) (n : ℕ)
        → forest_height (woven_forest chosen (forest_with_ids n l)) ≤ 3 * forest_height l + extra x
    lows tree.end n = omega arith
    lows (tree.more t l) n = let a = low t n in let b = lows l (n + id_count t) in omega arith

    optional_low : {S : Type 0} {x : Sort} (m : OptionalTree S x) (n : ℕ)
        → optional_height (woven_optional chosen (optional_with_ids n m)) ≤ 3 * optional_height m + extra x
    optional_low tree.absent n = omega arith
    optional_low (tree.present t) n = low t n

  -- the woven program is no higher than this
  pub woven_low : {S : Type 0} (p : Program S) → program_height (woven_program chosen p) ≤ 3 * program_height p + 4
  unfolding woven_program
  woven_low p = code_low p.body
    where
      code_low : {S : Type 0} (b : Tree S tree.code) → height (woven_code chosen 1 (with_ids 3 b)) ≤ 3 * height b + 4
      code_low (tree.body strict fs l) =
          let a = lows fs 3 in let b = lows l (3 + forest_id_count fs) in
          let c = begun (chosen kind.ScriptEnter || chosen kind.ScriptExit) 1
          (woven_forest chosen (forest_with_ids (3 + forest_id_count fs) l)) (3 * height (tree.body strict fs l) + 4)
          (omega arith) (omega arith) in
          omega arith
