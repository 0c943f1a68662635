use Rattle.std.proofs.Common.{◌≡◌, ◌-◌, ◌++◌, length, ap, ◌∙◌, arith}
use Rattle.std.specs.Vec.{vec_len}
use Rattle.jl_record.proofs.Joining.{head_passed, tail_passed, both_over, joined, rotated}
use Rattle.jl_record.proofs.bounded.Bounded.followed_by.Goals as goal
use Rattle.jl_record.proofs.bounded.Bounded.followed_by.Goals.{then-self-via-then-self}
use Rattle.jl_record.proofs.bounded.Bounded.followed_by.Goals.{then-self-via-else-self+then-tail}

pub returns-then-self-clause-too_long : goal.returns-then-self-clause-too_long
returns-then-self-clause-too_long c = λ us vs h g. elim c.then-self.branch [
  | then-self-via-then-self w ↦ head_passed c.args.self c.args.tail c.requires us vs w.if-self.true h
  | then-self-via-else-self+then-tail w ↦ tail_passed c.args.self c.args.tail c.requires us vs w.if-tail.true g
]

pub returns-then-front-len-clause-too_long : goal.returns-then-front-len-clause-too_long
returns-then-front-len-clause-too_long c = λ us vs h g.
    let over = c.if-front-len.true in
    both_over c.args.self c.args.tail c.requires us vs c.if-self.false c.if-tail.false h g
    (omega (arith, over, c.len-front.ensures, c.len.ensures))

pub returns-clause-found : goal.returns-clause-found
returns-clause-found c = λ us vs h g.
    let appended : c.extend_from_slice.new.self.items ≡ c.args.tail.bytes.items ++ c.args.self.bytes.items =
    c.in_ok-extend_from_slice.ensures.items ∙ ap (λ l. c.args.tail.bytes.items ++ l) c.deref.ensures.value in
    let size = c.in_ok-extend_from_slice.ensures.len in
    let left : vec_len c.extend_from_slice.new.self - c.len-front.result ≡ length c.args.tail.bytes.items =
    omega (arith, size, c.len-front.ensures, ap length c.deref.ensures.value) in
    c.rotate_right.ensures.items
    ∙ rotated c.extend_from_slice.new.self.items c.args.self.bytes.items c.args.tail.bytes.items
    (vec_len c.extend_from_slice.new.self - c.len-front.result) appended left
    ∙ joined c.args.self c.args.tail c.requires us vs c.if-self.false c.if-tail.false h g
