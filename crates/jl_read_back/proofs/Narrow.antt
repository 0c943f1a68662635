-- What weighs w is at most 64 w wide when it is woven.
use Rattle.std.proofs.Common.{codes, ℕ, ◌+◌, ◌*◌, ◌≤◌, Bool, true, false, ◌||◌, Some, None, subst, sym}
use Rattle.std.proofs.Common.{List, [], ◌∷◌, map, option_map, Option, arith}
use Rattle.std.specs.Prelude.{if◌then◌else◌}
use Rattle.jl_ast.specs.Tree as tree
use Rattle.jl_ast.specs.Tree.{Forest, Ident, OptionalTree, Sort, Text, Tree}
use Rattle.jl_ast.specs.declared.ops.UnOp.TheVariants as un
use Rattle.jl_op.specs.Chosen.{Kinds}
use Rattle.jl_op.specs.Ids.{forest_id_count, forest_with_ids, id_count, ident_with_id, optional_id_count}
use Rattle.jl_op.specs.Ids.{optional_with_ids, with_ids}
use Rattle.jl_op.specs.declared.kind.OpKind.TheVariants as kind
use Rattle.jl_op.specs.declared.sign.UnKind.TheVariants as unary
use Rattle.jl_scope.specs.Names.{hooks_name}
use Rattle.jl_op.specs.UnaryKinds.{unary_kind, update_kind}
use Rattle.jl_simulation.specs.HookCalls.{before_update, catch_and_go_on, enter_and_leave}
use Rattle.jl_simulation.specs.HookCalls.{hook_1, hook_2, hook_of_1, string_of, unary_hook, without_id, Expr}
use Rattle.jl_simulation.specs.HookCalls.{Stmts, Woven}
use Rattle.jl_simulation.specs.Weaving.{calls, calls_member, computes, weave, woven_forest, woven_optional}
use Rattle.jl_simulation.specs.Weaving.{woven_callee, woven_delete, woven_typeof}
use Rattle.jl_simulation.proofs.Shapes.{IsNoMember}
use Rattle.jl_read_back.specs.inner.Bytes.{most_bytes, text_weight}
use Rattle.jl_read_back.specs.inner.Weight.{directive_weight, name_weight, names_weight}
use Rattle.jl_read_back.specs.inner.Weight.{optional_name_weight, optional_weight, weight, weights}
use Rattle.jl_read_back.specs.inner.Width.{directive_width, names_width, optional_name_width, optional_width}
use Rattle.jl_read_back.specs.inner.Width.{separator, width, widths}
use Rattle.jl_read_back.proofs.Bytes.{bytes_few}
use Rattle.jl_read_back.proofs.Forms.{callee_is, delete_is, typeof_is, IsNoName}
use Rattle.jl_read_back.proofs.Spelled.{binary_sign_few, string_few, unary_sign_few}

-- what the woven tree is narrower by: an expression leaves room for the brackets and the semicolon of a statement, and
-- a function for the hook that it is given to
abbrev slack : Sort → ℕ
slack tree.expr = 6
slack tree.item = 2
slack tree.entry = 2
slack tree.decl = 2
slack tree.func = 40
slack x = 0

separated : (x : Sort) → separator x ≤ slack x
separated tree.expr = omega arith
separated _ = omega arith

-- the directive of a body
pub directed : (strict : Bool) → directive_width strict ≤ 64 * directive_weight strict
directed true = omega arith
directed false = omega arith

module _ (heavy : ℕ) where
  -- the wider of two
  either : {x : Sort} (b : Bool) (t u : Woven x) (r n : ℕ) → width heavy t + r ≤ n → width heavy u + r ≤ n
      → width heavy (if b then t else u) + r ≤ n
  either true t u r n p q = p
  either false t u r n p q = q

  one_of : {x : Sort} (b : Bool) (t u : Woven x) (n : ℕ) → width heavy t ≤ n → width heavy u ≤ n
      → width heavy (if b then t else u) ≤ n
  one_of true t u n p q = p
  one_of false t u n p q = q

  -- a call of a hook, beside its argument
  hooked : (b : Bool) (h : Text) (id : ℕ) (e : Expr) (n : ℕ) → width heavy e + (37 + most_bytes heavy h) ≤ n
      → width heavy (if b then hook_1 h id e else e) + 6 ≤ n
  unfolding hooks_name
  hooked true h id e n p = omega arith
  hooked false h id e n p = omega arith

  -- the same of a part of a statement
  given : (b : Bool) (h : Text) (id : ℕ) (e : Expr) (n : ℕ) → width heavy e + 6 ≤ n
      → width heavy (if b then hook_1 h id e else e) ≤ n + (25 + most_bytes heavy h)
  unfolding hooks_name
  given true h id e n p = omega arith
  given false h id e n p = omega arith

  written : (b : Bool) (h : Text) (id : ℕ) (word : Text) (e : Expr) (n : ℕ) → width heavy e + 6 ≤ n
      → width heavy (if b then hook_of_1 h id word e else e)
      ≤ n + (30 + most_bytes heavy h + 6 * text_weight heavy word)
  unfolding hooks_name
  written true h id word e n p = let q = string_few heavy word in omega arith
  written false h id word e n p = omega arith

  -- the number before an update
  updated : (up prefix : Bool) (e : Expr) (n : ℕ) → width heavy e + 42 ≤ n
      → width heavy (before_update up prefix e) + 6 ≤ n
  updated up true e n p = omega arith
  updated true false e n p = omega arith
  updated false false e n p = omega arith

  -- statements of a function and of a `catch`
  entered : (b : Bool) (id : ℕ) (l : Stmts) (n : ℕ) → widths heavy l ≤ n
      → widths heavy (if b then enter_and_leave id l else l) ≤ n + 92
  unfolding hooks_name
  entered true id l n p = omega arith
  entered false id l n p = omega arith

  caught : (b : Bool) (id : ℕ) (x : Text) (l : Stmts) (n : ℕ) → widths heavy l ≤ n
      → widths heavy (if b then catch_and_go_on id x l else l) ≤ n + 10 * text_weight heavy x + 44
  unfolding hooks_name
  caught true id x l n p = let q = string_few heavy x in let r = bytes_few heavy x in omega arith
  caught false id x l n p = omega arith

  -- names
  named : (x : Text) → most_bytes heavy x + 3 ≤ 64 * name_weight heavy x
  named x = let a = bytes_few heavy x in omega arith

  optional_named : {S : Type 0} (x : Option (Ident S)) (f : Ident S → Ident ℕ)
      → ((y : Ident S) → most_bytes heavy (f y).text ≤ most_bytes heavy y.text)
      → optional_name_width heavy (option_map without_id (option_map f x)) ≤ 64 * optional_name_weight heavy x
  optional_named None f h = omega arith
  optional_named (Some x) f h = let a = h x in let b = named x.text in omega arith

  all_named : {S : Type 0} (l : List (Ident S)) (f : Ident S → Ident ℕ)
      → ((y : Ident S) → most_bytes heavy (f y).text ≤ most_bytes heavy y.text)
      → names_width heavy (map without_id (map f l)) ≤ 64 * names_weight heavy l
  all_named [] f h = omega arith
  all_named (x ∷ l) f h = let a = h x in let b = named x.text in let c = all_named l f h in omega arith

  module _ (chosen : Kinds) where
    called : {S : Type 0} (n id : ℕ) (f : Tree S tree.expr) → IsNoMember f → (w : Expr) (h : ℕ)
        → width heavy w + 32 ≤ h → width heavy (woven_callee chosen (with_ids n f) w id) ≤ h
    unfolding hooks_name
    called n id f is w h p =
        subst (λ e. width heavy e ≤ h) (sym (callee_is chosen n id f is w))
        (one_of (calls chosen) (hook_1 (codes "F") id w) w h (omega arith) (omega arith))

    typed : {S : Type 0} (n id : ℕ) (e : Tree S tree.expr) → IsNoName e → (w : Expr) (h : ℕ)
        → width heavy w + 49 ≤ h → width heavy (woven_typeof chosen id (with_ids n e) w) + 6 ≤ h
    unfolding hooks_name
    typed n id e is w h p =
        let s = unary_sign_few heavy unary.Typeof in
        subst (λ e. width heavy e + 6 ≤ h) (sym (typeof_is chosen n id e is w))
        (either (chosen kind.Unary) (unary_hook id unary.Typeof w) (tree.unary un.Typeof w tt) 6 h (omega arith)
        (omega arith))

    deleted : {S : Type 0} (n id : ℕ) (e : Tree S tree.expr) → IsNoName e → IsNoMember e → (w : Expr) (h : ℕ)
        → width heavy w + 17 ≤ h → width heavy (woven_delete chosen (with_ids n e) w id) + 6 ≤ h
    deleted n id e is not w h q =
        subst (λ e. width heavy e + 6 ≤ h) (sym (delete_is chosen n id e is not w)) (omega arith)

    tested : (id : ℕ) (w : Expr) (h : ℕ) → width heavy w + 6 ≤ h
        → width heavy (if chosen kind.Conditional then hook_1 (codes "C") id w else w) ≤ h + 26
    tested id w h p = given (chosen kind.Conditional) (codes "C") id w h p

    mutual
      unfolding hooks_name

      pub narrow : {S : Type 0} {x : Sort} (t : Tree S x) (n : ℕ)
          → width heavy (weave chosen (with_ids n t)) + slack x ≤ 64 * weight heavy t
      narrow (tree.this s) n = omega arith
      narrow (tree.name x s) n =
          let q = string_few heavy x in let b = bytes_few heavy x in
          either (chosen kind.Read) _ _ 6 _ (omega arith) (omega arith)
      narrow (tree.number m s) n = hooked (chosen kind.Literal) (codes "T") n _ _ (omega arith)
      narrow (tree.string t s) n =
          let q = string_few heavy t in hooked (chosen kind.Literal) (codes "T") n _ _ (omega arith)
      narrow (tree.boolean b s) n = hooked (chosen kind.Literal) (codes "T") n _ _ (omega arith)
      narrow (tree.null s) n = hooked (chosen kind.Literal) (codes "T") n _ _ (omega arith)
      narrow (tree.array l s) n =
          let a = all_narrow l (n + 1) in hooked (chosen kind.ArrayLiteral) (codes "T") n _ _ (omega arith)
      narrow (tree.object l s) n =
          let a = all_narrow l (n + 1) in hooked (chosen kind.ObjectLiteral) (codes "T") n _ _ (omega arith)
      narrow (tree.function_expression f s) n =
          let a = narrow f (n + 1) in hooked (chosen kind.FunctionLiteral) (codes "T") n _ _ (omega arith)
      narrow (tree.dot o k s) n =
          let a = narrow o (n + 1) in let q = string_few heavy k in let b = bytes_few heavy k in
          either (chosen kind.GetField) _ _ 6 _ (omega arith) (omega arith)
      narrow (tree.index o k s) n =
          let a = narrow o (n + 1) in let b = narrow k (n + 1 + id_count o) in
          either (chosen kind.GetField) _ _ 6 _ (omega arith) (omega arith)
      narrow (tree.call (tree.dot o k t) l s) n =
          let a = narrow o (n + 3) in let q = string_few heavy k in let b = bytes_few heavy k in
          let c = all_narrow l (n + 2 + id_count (tree.dot o k t)) in
          let m = one_of (calls_member chosen) (hook_2 (codes "M") n (weave chosen (with_ids (n + 3) o)) (string_of k))
          (tree.dot (weave chosen (with_ids (n + 3) o)) k tt)
          (64 * weight heavy o + 6 * text_weight heavy k + 31) (omega arith) (omega arith) in
          omega arith
      narrow (tree.call (tree.index o k t) l s) n =
          let a = narrow o (n + 3) in let b = narrow k (n + 3 + id_count o) in
          let c = all_narrow l (n + 2 + id_count (tree.index o k t)) in
          let m = one_of (calls_member chosen)
          (hook_2 (codes "M") n (weave chosen (with_ids (n + 3) o)) (weave chosen (with_ids (n + 3 + id_count o) k)))
          (tree.index (weave chosen (with_ids (n + 3) o)) (weave chosen (with_ids (n + 3 + id_count o) k)) tt)
          (64 * weight heavy o + 64 * weight heavy k + 22) (omega arith) (omega arith) in
          omega arith
      narrow (tree.call f l s) n =
          let a = narrow f (n + 2) in let c = all_narrow l (n + 2 + id_count f) in
          let m = called (n + 2) (n + 0) f tt (weave chosen (with_ids (n + 2) f))
          (64 * weight heavy f + 26) (omega arith) in
          omega arith
      narrow (tree.new f l s) n =
          let a = narrow f (n + 2) in let c = all_narrow l (n + 2 + id_count f) in
          either (calls chosen) _ _ 6 _ (omega arith) (omega arith)
      narrow (tree.unary un.Typeof (tree.name x t) s) n =
          let q = string_few heavy x in let b = bytes_few heavy x in
          either (chosen kind.TypeofName) _ _ 6 _ (omega arith) (omega arith)
      narrow (tree.unary un.Typeof e s) n =
          let a = narrow e (n + 1) in typed (n + 1) n e tt (weave chosen (with_ids (n + 1) e)) _ (omega arith)
      narrow (tree.unary un.Delete (tree.name x t) s) n = let b = bytes_few heavy x in omega arith
      narrow (tree.unary un.Delete (tree.dot o k t) s) n =
          let a = narrow o (n + 1) in let q = string_few heavy k in let b = bytes_few heavy k in
          either (chosen kind.DeleteField) _ _ 6 _ (omega arith) (omega arith)
      narrow (tree.unary un.Delete (tree.index o k t) s) n =
          let a = narrow o (n + 1) in let b = narrow k (n + 1 + id_count o) in
          either (chosen kind.DeleteField) _ _ 6 _ (omega arith) (omega arith)
      narrow (tree.unary un.Delete e s) n =
          let a = narrow e n in deleted n n e tt tt (weave chosen (with_ids n e)) _ (omega arith)
      narrow (tree.unary o e s) n =
          let a = narrow e (n + 1) in let q = unary_sign_few heavy (unary_kind o) in
          either (chosen kind.Unary) _ _ 6 _ (omega arith) (omega arith)
      narrow (tree.update up prefix (tree.to_name x) s) n =
          let q = string_few heavy x.text in let b = bytes_few heavy x.text in
          let r = unary_sign_few heavy (update_kind up) in
          either (computes chosen (tree.to_name (ident_with_id x (n + 3))) kind.Unary) _ _ 6 _
          (updated up prefix _ _ (omega arith)) (omega arith)
      narrow (tree.update up prefix (tree.to_dot o k t) s) n =
          let a = narrow o (n + 3) in let q = string_few heavy k in let b = bytes_few heavy k in
          let r = unary_sign_few heavy (update_kind up) in
          either (computes chosen (tree.to_dot (with_ids (n + 3) o) k (n + 3)) kind.Unary) _ _ 6 _
          (updated up prefix _ _ (omega arith)) (omega arith)
      narrow (tree.update up prefix (tree.to_index o k t) s) n =
          let a = narrow o (n + 3) in let b = narrow k (n + 3 + id_count o) in
          let r = unary_sign_few heavy (update_kind up) in
          either (computes chosen (with_ids (n + 3) (tree.to_index o k t)) kind.Unary) _ _ 6 _
          (updated up prefix _ _ (omega arith)) (omega arith)
      narrow (tree.binary o a b s) n =
          let p = narrow a (n + 1) in let q = narrow b (n + 1 + id_count a) in let r = binary_sign_few heavy o in
          either (chosen kind.Binary) _ _ 6 _ (omega arith) (omega arith)
      narrow (tree.and a b s) n =
          let q = narrow b (n + 1 + id_count a) in
          let p = tested n (weave chosen (with_ids (n + 1) a)) (64 * weight heavy a) (narrow a (n + 1)) in omega arith
      narrow (tree.or a b s) n =
          let q = narrow b (n + 1 + id_count a) in
          let p = tested n (weave chosen (with_ids (n + 1) a)) (64 * weight heavy a) (narrow a (n + 1)) in omega arith
      narrow (tree.conditional a b c s) n =
          let q = narrow b (n + 1 + id_count a) in let r = narrow c (n + 1 + id_count a + id_count b) in
          let p = tested n (weave chosen (with_ids (n + 1) a)) (64 * weight heavy a) (narrow a (n + 1)) in omega arith
      narrow (tree.assign None (tree.to_name x) e s) n =
          let a = narrow e (n + 1 + 0) in let q = string_few heavy x.text in let b = bytes_few heavy x.text in
          either (chosen kind.Write) _ _ 6 _ (omega arith) (omega arith)
      narrow (tree.assign (Some o) (tree.to_name x) e s) n =
          let a = narrow e (n + 3 + 0) in let q = string_few heavy x.text in let b = bytes_few heavy x.text in
          let r = binary_sign_few heavy o in
          either (computes chosen (tree.to_name (ident_with_id x (n + 3))) kind.Binary) _ _ 6 _ (omega arith)
          (omega arith)
      narrow (tree.assign None (tree.to_dot o k t) e s) n =
          let a = narrow o (n + 1) in let b = narrow e (n + 1 + id_count o) in let q = string_few heavy k in
          let c = bytes_few heavy k in
          either (chosen kind.PutField) _ _ 6 _ (omega arith) (omega arith)
      narrow (tree.assign (Some p) (tree.to_dot o k t) e s) n =
          let a = narrow o (n + 3) in let b = narrow e (n + 3 + id_count o) in let q = string_few heavy k in
          let c = bytes_few heavy k in let r = binary_sign_few heavy p in
          either (computes chosen (with_ids (n + 3) (tree.to_dot o k t)) kind.Binary) _ _ 6 _ (omega arith)
          (omega arith)
      narrow (tree.assign None (tree.to_index o k t) e s) n =
          let a = narrow o (n + 1) in let c = narrow k (n + 1 + id_count o) in
          let b = narrow e (n + 1 + (id_count o + id_count k)) in
          either (chosen kind.PutField) _ _ 6 _ (omega arith) (omega arith)
      narrow (tree.assign (Some p) (tree.to_index o k t) e s) n =
          let a = narrow o (n + 3) in let c = narrow k (n + 3 + id_count o) in
          let b = narrow e (n + 3 + (id_count o + id_count k)) in let r = binary_sign_few heavy p in
          either (computes chosen (with_ids (n + 3) (tree.to_index o k t)) kind.Binary) _ _ 6 _ (omega arith)
          (omega arith)
      narrow (tree.comma a b s) n = let p = narrow a n in let q = narrow b (n + id_count a) in omega arith
      narrow (tree.to_name x) n = let q = named x.text in omega arith
      narrow (tree.to_dot o k s) n = let a = narrow o n in let q = named k in omega arith
      narrow (tree.to_index o k s) n = let a = narrow o n in let b = narrow k (n + id_count o) in omega arith
      narrow tree.hole n = omega arith
      narrow (tree.filled e) n = let a = narrow e n in omega arith
      narrow (tree.value k e) n = let a = narrow e n in omega arith
      narrow (tree.getter k f) n = let a = narrow f n in omega arith
      narrow (tree.setter k f) n = let a = narrow f n in omega arith
      narrow (tree.function m x ps (tree.body strict fs l) s) n =
          let a = all_narrow fs (n + 2) in let b = all_narrow l (n + 2 + forest_id_count fs) in
          let c = entered (chosen kind.FunctionEnter || chosen kind.FunctionExit) n
          (woven_forest chosen (forest_with_ids (n + 2 + forest_id_count fs) l)) (64 * weights heavy l) b in
          let d = directed strict in let e = optional_named x (λ y. ident_with_id y n) (λ y. omega arith) in
          let f = all_named ps (λ y. ident_with_id y n) (λ y. omega arith) in
          omega arith
      narrow (tree.body strict fs l) n =
          let a = all_narrow fs n in let b = all_narrow l (n + forest_id_count fs) in let d = directed strict in
          omega arith
      narrow (tree.var l s) n = let a = all_narrow l n in omega arith
      narrow (tree.empty s) n = omega arith
      narrow (tree.expression e s) n = let a = narrow e n in omega arith
      narrow (tree.block l s) n = let a = all_narrow l n in omega arith
      narrow (tree.if_else e a b s) n =
          let p = tested n (weave chosen (with_ids (n + 1) e)) (64 * weight heavy e) (narrow e (n + 1)) in
          let q = all_narrow a (n + 1 + id_count e) in
          let r = optional_narrow b (n + 1 + id_count e + forest_id_count a) in omega arith
      narrow (tree.do_while l e s) n =
          let p = all_narrow l (n + 1) in
          let q = tested n (weave chosen (with_ids (n + 1 + forest_id_count l) e)) (64 * weight heavy e)
          (narrow e (n + 1 + forest_id_count l)) in omega arith
      narrow (tree.while e l s) n =
          let p = tested n (weave chosen (with_ids (n + 1) e)) (64 * weight heavy e) (narrow e (n + 1)) in
          let q = all_narrow l (n + 1 + id_count e) in omega arith
      narrow (tree.for i tree.absent u l s) n =
          let a = narrow i (n + 0) in let c = optional_narrow u (n + 0 + id_count i + 0) in
          let d = all_narrow l (n + 0 + id_count i + 0 + optional_id_count u) in omega arith
      narrow (tree.for i (tree.present e) u l s) n =
          let a = narrow i (n + 1) in
          let b = tested n (weave chosen (with_ids (n + 1 + id_count i) e)) (64 * weight heavy e)
          (narrow e (n + 1 + id_count i)) in
          let c = optional_narrow u (n + 1 + id_count i + id_count e) in
          let d = all_narrow l (n + 1 + id_count i + id_count e + optional_id_count u) in omega arith
      narrow (tree.for_in is_var x o l s) n =
          let a = narrow o (n + 1) in let b = all_narrow l (n + 1 + id_count o) in let q = named x.text in
          let c = given (chosen kind.ForIn) (codes "O") n (weave chosen (with_ids (n + 1) o)) (64 * weight heavy o) a in
          omega arith
      narrow (tree.continue x s) n =
          let e = optional_named x (λ y. ident_with_id y n) (λ y. omega arith) in omega arith
      narrow (tree.break x s) n =
          let e = optional_named x (λ y. ident_with_id y n) (λ y. omega arith) in omega arith
      narrow (tree.return tree.absent s) n = omega arith
      narrow (tree.return (tree.present e) s) n =
          let a = narrow e (n + 1) in
          let c = given (chosen kind.Return) (codes "V") n (weave chosen (with_ids (n + 1) e)) (64 * weight heavy e)
          a in
          omega arith
      narrow (tree.labelled x t s) n = let a = narrow t n in let q = named x.text in omega arith
      narrow (tree.switch e l s) n = let a = narrow e n in let b = all_narrow l (n + id_count e) in omega arith
      narrow (tree.throw e s) n =
          let a = narrow e (n + 1) in
          let c = given (chosen kind.Throw) (codes "K") n (weave chosen (with_ids (n + 1) e)) (64 * weight heavy e) a in
          omega arith
      narrow (tree.try l tree.absent f s) n =
          let a = all_narrow l (n + 0) in let c = optional_narrow f (n + 0 + forest_id_count l + 0) in omega arith
      narrow (tree.try l (tree.present (tree.catch x h)) f s) n =
          let a = all_narrow l (n + 1) in let b = all_narrow h (n + 1 + forest_id_count l) in
          let c = optional_narrow f (n + 1 + forest_id_count l + forest_id_count h) in
          let d = caught (chosen kind.Catch) n x.text
          (woven_forest chosen (forest_with_ids (n + 1 + forest_id_count l) h)) (64 * weights heavy h) b in
          let e = bytes_few heavy x.text in omega arith
      narrow (tree.debugger s) n = omega arith
      narrow tree.nothing n = omega arith
      narrow (tree.init_expression e) n = let a = narrow e n in omega arith
      narrow (tree.init_var l) n = let a = all_narrow l n in omega arith
      narrow (tree.declarator x tree.absent) n = let b = bytes_few heavy x.text in omega arith
      narrow (tree.declarator x (tree.present e)) n =
          let a = written (chosen kind.Write) (codes "W") n x.text (weave chosen (with_ids (n + 1) e))
          (64 * weight heavy e) (narrow e (n + 1)) in
          let b = bytes_few heavy x.text in omega arith
      narrow (tree.case e l) n =
          let a = optional_narrow e n in let b = all_narrow l (n + optional_id_count e) in omega arith
      narrow (tree.branch_of l) n = let a = all_narrow l n in omega arith
      narrow (tree.catch x l) n =
          let a = caught (chosen kind.Catch) n x.text (woven_forest chosen (forest_with_ids n l)) (64 * weights heavy l)
          (all_narrow l n) in
          let b = bytes_few heavy x.text in omega arith

      pub all_narrow : {S : Type 0} {x : Sort} (l : Forest S x) (n : ℕ)
          → widths heavy (woven_forest chosen (forest_with_ids n l)) ≤ 64 * weights heavy l
      all_narrow tree.end n = omega arith
      all_narrow {x} (tree.more t l) n =
          let a = narrow t n in let b = all_narrow l (n + id_count t) in let c = separated x in omega arith

      optional_narrow : {S : Type 0} {x : Sort} (m : OptionalTree S x) (n : ℕ)
          → optional_width heavy (woven_optional chosen (optional_with_ids n m)) ≤ 64 * optional_weight heavy m
      optional_narrow tree.absent n = omega arith
      optional_narrow (tree.present t) n = let a = narrow t n in omega arith
