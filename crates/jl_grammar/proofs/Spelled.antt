-- A text is spelled by a word where the word is that text.
use Rattle.std.proofs.Common.{◌≡◌, List, [], ◌∷◌, ◌&&◌, Bool, ℕ, refl, ap, ◌∙◌, arith}
use Rattle.std.proofs.lemmas.Bool.Decides.{nat_tests}
use Rattle.std.specs.Prelude.{nat_eq}
use Rattle.std.specs.Str.{bytes_eq}
use Rattle.jl_grammar.specs.Words.{same_text}

swapped : (u w : ℕ) → nat_eq u w ≡ nat_eq w u
swapped u w = grind (arith, nat_tests)

pub spelled : (units word : List ℕ) → bytes_eq units word ≡ same_text word units
spelled [] [] = refl
spelled [] (w ∷ ws) = refl
spelled (u ∷ us) [] = refl
spelled (u ∷ us) (w ∷ ws) = ap (λ b. b && bytes_eq us ws) (swapped u w) ∙ ap (λ b. nat_eq w u && b) (spelled us ws)
