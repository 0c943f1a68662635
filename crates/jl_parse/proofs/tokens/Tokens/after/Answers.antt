use Rattle.std.proofs.Common.{◌≡◌, length, arith}
use Rattle.jl_parse.proofs.Places.{within}
use Rattle.jl_parse.proofs.tokens.Tokens.after.Goals as goal

pub overflow_add-result : goal.overflow_add-result
overflow_add-result c =
    let h = within c.args.self.now c.args.at c.requires in
    let e : length c.args.self.now ≡ length c.self.inside.tokens.now = cc c.self.view_is in omega arith
