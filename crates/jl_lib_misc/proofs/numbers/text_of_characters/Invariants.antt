use Rattle.std.proofs.Common.{◌≡◌, take}
use Rattle.jl_lib_misc.proofs.numbers.text_of_characters.Given as goal

abbrev pub invariant-loop-character : goal.invariant-loop-character
invariant-loop-character l = l.units ≡ take l.character-index l.characters
