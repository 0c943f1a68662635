use Rattle.std.proofs.Common.{Vec, Global, ℕ}
use Rattle.std.proofs.Common.{◌≡◌, ◌<◌, ◌++◌, ◌∷◌, [], List, length, map, get_or, ap, ◌∙◌, subst, arith}
use Rattle.std.proofs.lemmas.Result.{IfOk-weaker}
use Rattle.std.specs.List.{AllByRecursion}
use Rattle.jl_op.specs.Operations.{Operation}
use Rattle.jl_report.specs.Reports.{saturate_u64}
use Rattle.jl_text.specs.Encoding.{bytes_of}
use Rattle.jl_record.specs.Bounded.{Holds}
use Rattle.jl_record.specs.Lines.{with_ends}
use Rattle.jl_record.specs.Records.{Row, operation_line}
use Rattle.jl_record.specs.Recording.{rows_of, run_of, bytes_of_run}
use Rattle.jl_record.specs.Storing.{CanBeStored}
use Rattle.jl_record.proofs.Joining.{holds_passed, tail_units, tail_within, head_units, head_is, whole, count_is}
use Rattle.jl_record.proofs.Joining.{on_too_long_weaker}
use Rattle.jl_record.proofs.Storable.{if_ok_now}
use Rattle.jl_record.proofs.recorder.Recorder.finish.Goals as goal

pub returns-then-tail-clause-too_long : goal.returns-then-tail-clause-too_long
returns-then-tail-clause-too_long c = λ limit seen is before.
    let rows : List Row = rows_of c.args.lines.now c.args.map.now in
    let same = ap (λ l. get_or l 0 0) is in
    let wrote = c.in_ok-word.ensures.holds in
    let held = wrote.holds (with_ends (map operation_line seen)) before.0 in
    let over = holds_passed c.word.new.self (tail_units seen) c.if-tail.true held in
    omega (arith, same, over, c.word.ensures.limit, tail_within rows c.args.off.now seen)

pub returns-clause-found : goal.returns-clause-found
returns-clause-found c =
    let rows : List Row = rows_of c.args.lines.now c.args.map.now in
    let wrote = c.in_ok-word.ensures.holds in
    let head = c.in_ok-write_head.ensures.holds in
    let small = c.word.new.self.bytes.small in
    let P : Vec ℕ Global → Type 0 = λ bytes. (us vs : List ℕ) → Holds c.write_head.new.text (us ++ 10 ∷ [])
    → Holds c.word.new.self vs → bytes.items ≡ bytes_of ((us ++ 10 ∷ []) ++ vs) in
    let Q : Vec ℕ Global → Type 0 = λ bytes. (seen : List Operation)
    → Holds c.args.self.lines (with_ends (map operation_line seen)) × (c.args.self.count ≡ saturate_u64 (length seen))
    × AllByRecursion (λ o. CanBeStored o.1) seen
    → bytes.items ≡ bytes_of_run (run_of c.args.lines.now c.args.map.now c.args.off.now seen) in
    IfOk-weaker c.followed_by.result P Q
    (λ bytes found seen before.
    let held = wrote.holds (with_ends (map operation_line seen)) before.0 in
    let count = count_is c.word.new.self c.args.self.count seen c.if-tail.false held before.1 (omega (arith, small)) in
    found (head_units rows c.args.off.now seen c.args.self.count) (tail_units seen)
    (subst (Holds c.write_head.new.text) (head_is rows c.args.off.now seen c.args.self.count)
    (head.holds [] c.new-head.ensures.holds)) held
    ∙ ap bytes_of (whole rows c.args.off.now seen c.args.self.count count))
    c.followed_by.ensures.found

pub returns-clause-stored : goal.returns-clause-stored
returns-clause-stored c = if_ok_now c.followed_by.result (λ bytes seen before. before.2)

pub returns-clause-too_long : goal.returns-clause-too_long
returns-clause-too_long c =
    let rows : List Row = rows_of c.args.lines.now c.args.map.now in
    let wrote = c.in_ok-word.ensures.holds in
    let head = c.in_ok-write_head.ensures.holds in
    let small = c.word.new.self.bytes.small in
    on_too_long_weaker
    {P = (us vs : List ℕ) → Holds c.write_head.new.text (us ++ 10 ∷ []) → Holds c.word.new.self vs
    → c.write_head.new.text.limit < length (bytes_of ((us ++ 10 ∷ []) ++ vs))}
    {Q = (limit : ℕ) (seen : List Operation) → ◌≡◌ {A = List ℕ} (c.args.self.lines.limit ∷ []) (limit ∷ [])
    → Holds c.args.self.lines (with_ends (map operation_line seen)) × (c.args.self.count ≡ saturate_u64 (length seen))
    × AllByRecursion (λ o. CanBeStored o.1) seen
    → limit < length (bytes_of_run (run_of c.args.lines.now c.args.map.now c.args.off.now seen))}
    c.followed_by.result
    (λ found limit seen is before.
    let same = ap (λ l. get_or l 0 0) is in
    let held = wrote.holds (with_ends (map operation_line seen)) before.0 in
    let count = count_is c.word.new.self c.args.self.count seen c.if-tail.false held before.1 (omega (arith, small)) in
    let over = found (head_units rows c.args.off.now seen c.args.self.count) (tail_units seen)
    (subst (Holds c.write_head.new.text) (head_is rows c.args.off.now seen c.args.self.count)
    (head.holds [] c.new-head.ensures.holds)) held in
    omega (
      arith,
      same,
      over,
      c.write_head.ensures.limit,
      c.new-head.ensures.limit,
      c.word.ensures.limit,
      ap (λ us. length (bytes_of us)) (whole rows c.args.off.now seen c.args.self.count count),
    ))
    c.followed_by.ensures.too_long
