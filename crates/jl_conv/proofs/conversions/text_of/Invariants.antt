use Rattle.std.proofs.Common.{◌≡◌, take}
use Rattle.jl_conv.proofs.conversions.text_of.Given as goal

abbrev pub invariant-loop-character : goal.invariant-loop-character
invariant-loop-character l = l.units.items ≡ take l.character-index l.fn.characters
