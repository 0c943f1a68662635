use Rattle.std.proofs.Common.{◌≡◌, ◌∙◌, true, None, sym, subst, arith}
use Rattle.jl_num.specs.Digits.{digits_of}
use Rattle.jl_heap.specs.Objects.{serial_of}
use Rattle.jl_heap.specs.inner.Steps.{is_listed}
use Rattle.jl_heap.proofs.Covered.{lists_more, still_listed, new_listed, no_serial, covers_from_lists}
use Rattle.jl_heap.proofs.heap.Heap.elements_between.Goals as goal
use Rattle.jl_heap.proofs.heap.Heap.elements_between.Goals.{in-Some+in_ok-push, in_default}

pub loop-index-preserved : goal.loop-index-preserved
loop-index-preserved c =
    let h = c.args.self.now in
    let index = c.loop-index.index in
    elim c.match-serial_of.branch [
      | in-Some+in_ok-push w ↦
          let is = w.found-is in
          let pushed = w.in_ok-push.ensures.ok in
          lists_more h c.args.id.0 c.args.low index c.loop-index.found c.match-serial_of.found c.loop-index.invariant
          (λ x listed. rw (is, pushed) (still_listed x c.loop-index.found (c.in_ok-name.name, w.in-Some.serial) listed))
          (λ there.
          subst (λ n. is_listed n c.match-serial_of.found ≡ true) c.in_ok-name.ensures
          (rw (is, pushed) (new_listed c.in_ok-name.name c.loop-index.found w.in-Some.serial)))
      | in_default w ↦
          lists_more h c.args.id.0 c.args.low index c.loop-index.found c.match-serial_of.found c.loop-index.invariant
          (λ x listed. rw w.found-is listed)
          (λ there.
          let none : serial_of h c.args.id.0 (digits_of 10 index) ≡ None =
          subst (λ n. serial_of h c.args.id.0 n ≡ None) c.in_ok-name.ensures (sym c.serial_of.ensures
          ∙ w.in_default.is) in
          absurd (no_serial h c.args.id.0 (digits_of 10 index) none there))
    ]

pub returns : goal.returns
returns c =
    covers_from_lists c.args.self.now c.args.id.0 c.args.low c.args.high c.loop-index.index c.loop-index.found
    c.loop-index.invariant (omega (arith, c.loop-index-test.false))
