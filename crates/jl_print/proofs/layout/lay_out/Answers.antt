use Rattle.std.proofs.Common.{◌≡◌, ◌+◌, ◌++◌, ap, ◌∙◌, drop, map, arith}
use Rattle.jl_print.specs.inner.Kinds.{after, kind_of}
use Rattle.jl_print.specs.Layout.{layout_of}
use Rattle.jl_token.specs.Spelling.{spelling_of}
use Rattle.jl_print.proofs.Laying.{next_piece, rest_is}
use Rattle.jl_print.proofs.layout.lay_out.Goals as goal

pub loop-at-preserved : goal.loop-at-preserved
loop-at-preserved c =
    let k = kind_of c.index-pieces-at.result in
    let rest = map kind_of (drop (c.loop-at.at + 1) c.args.pieces.now) in
    let s : c.add_spelling.new.text.items ≡ c.loop-at.text.items ++ spelling_of (kind_of c.index-pieces-at.result) =
    c.in_ok-add_spelling.ensures in
    let a : c.add_after.new.text.items ≡ c.add_spelling.new.text.items
    ++ after (kind_of c.index-pieces-at.result) (map kind_of (drop (c.loop-at.at + 1) c.args.pieces.now)) =
    c.in_ok-add_after.ensures ∙ ap (λ q. c.add_spelling.new.text.items ++ after k (map kind_of q))
    (rest_is (c.loop-at.at + 1) c.args.pieces.now) in
    ap (λ t. t ++ layout_of rest) (a ∙ ap (λ t. t ++ after k rest) s)
    ∙ next_piece c.loop-at.text.items c.args.pieces.now c.loop-at.at c.index-pieces-at.result (omega arith)
    c.index-pieces-at.is ∙ c.loop-at.invariant
