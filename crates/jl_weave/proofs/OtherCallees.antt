-- A callee that is no member, of the code.
use Rattle.std.proofs.Common.{◌≡◌, ap, arith, ℕ, ◌+◌, Err, IfOk, Ok, OnOk, Result}
use Rattle.jl_ast.specs.Tree.{Text}
use Rattle.std.specs.Global.{Global}
use Rattle.std.specs.declared.boxed.Box.{Box}
use Rattle.jl_ast.specs.View.{view_expression}
use Rattle.jl_ast.specs.declared.tree.Expr.{Expr}
use Rattle.jl_ast.specs.declared.tree.ExprKind as expression
use Rattle.jl_op.specs.Chosen.{Kinds}
use Rattle.jl_op.specs.Ids.{id_count}
use Rattle.jl_weave.specs.inner.Bare.{bare_expression}
use Rattle.jl_weave.specs.inner.Forms.{callee_form}
use Rattle.jl_weave.specs.inner.Woven.{callee_at, woven_at}
use Rattle.jl_weave.proofs.Callees.{callee_woven}
use Rattle.jl_weave.proofs.OtherKinds.{no_member}
use Rattle.jl_weave.proofs.Parts.{from, given}
use Rattle.jl_weave.proofs.Weaves.{Weaves, WeavesCallee}

pub callee_left : {E : Type 0} (chosen : Kinds) (f f' : Expr) (r : Result Expr E) (id start n next : ℕ) →
    ((o : Box Expr Global) (k : Text) → f.kind ≡ expression.Dot o k → ⊥) →
    ((o k : Box Expr Global) → f.kind ≡ expression.Index o k → ⊥) → id ≡ n → start ≡ n + 2 →
    bare_expression f' ≡ woven_at chosen start (view_expression f) → next ≡ start + id_count (view_expression f) →
    IfOk r (λ made. bare_expression made ≡ callee_form chosen id (bare_expression f')) →
    IfOk r (λ made. bare_expression made ≡ callee_at chosen n (view_expression f))
callee_left chosen f f' r id start n next dot index i j w c h =
    let part : Weaves chosen (view_expression f) start (bare_expression f') next = record { is = w; counted = c } in
    let whole : WeavesCallee chosen (view_expression f) n (callee_form chosen id (bare_expression f')) next =
    callee_woven chosen (view_expression f) {n = n} (no_member f dot index) (from chosen j part)
    (ap (λ id. callee_form chosen id (bare_expression f')) i) in
    given bare_expression r whole.is h

pub counted_left : {A E : Type 0} (r : Result A E) (start n next count : ℕ) → start ≡ n + 2 → next ≡ start + count →
    OnOk r (next ≡ n + 2 + count)
counted_left (Ok a) start n next count i c = omega arith
counted_left (Err e) start n next count i c = tt
