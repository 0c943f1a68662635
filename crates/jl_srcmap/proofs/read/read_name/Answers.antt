use Rattle.std.proofs.Common.{◌≡◌, ◌<◌, ◌∙◌, ap, arith, length, option_map}
use Rattle.std.proofs.lemmas.Bool.Decides.{nat_tests}
use Rattle.jl_srcmap.specs.Segments.{name_field}
use Rattle.jl_srcmap.proofs.Turns.{bad_name, no_name, one_name, two_names}
use Rattle.jl_srcmap.proofs.read.read_name.Goals as goal

pub returns-then-is_empty : goal.returns-then-is_empty
returns-then-is_empty c =
    let empty : length c.args.text.now ≡ 0 = grind (arith, nat_tests) in
    no_name c.args.sum c.args.text.now empty

pub returns-in_err-name : goal.returns-in_err-name
returns-in_err-name c =
    let some : 0 < length c.args.text.now = grind (arith, nat_tests) in
    ap (option_map name_field) c.from_residual.ensures
    ∙ bad_name c.args.sum c.args.text.now c.in_err-name.ensures some

pub returns-then-is_empty-2 : goal.returns-then-is_empty-2
returns-then-is_empty-2 c =
    let empty : length c.in_ok-name.rest.now ≡ 0 = grind (arith, nat_tests) in
    one_name c.args.sum c.in_ok-name.name c.args.text.now c.in_ok-name.rest.now c.in_ok-name.ensures empty

pub returns-else-is_empty-2 : goal.returns-else-is_empty-2
returns-else-is_empty-2 c =
    let some : 0 < length c.in_ok-name.rest.now = grind (arith, nat_tests) in
    two_names c.args.sum c.in_ok-name.name c.args.text.now c.in_ok-name.rest.now c.in_ok-name.ensures some
