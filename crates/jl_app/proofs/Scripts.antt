-- What is due where the words ask for a report of a script is what `lint` answers to that script.
use Rattle.std.proofs.Common.{◌≡◌, ◌∙◌, ℕ, List, Some, refl, subst, sym}
use Rattle.jl_command.specs.Asked.{Asked, request, lint, soak}
use Rattle.jl_soak.specs.Script.{script_of}
use Rattle.jl_app.specs.Answers.{IsAnswered, IsDue, IsDueTo, answered_to, answered_to_made, bad_words, due_to}
use Rattle.jl_app.specs.Due.{Due, OnShelf}
use Rattle.jl_app.specs.Forms.{ReadsSource}
use Rattle.jl_app.specs.Scripts.{IsScriptFor, Reports, in_source, lints, made, soaks}

same_asked : {a b : Asked} → Some a ≡ Some b → a ≡ b
same_asked e = cc

pub same_made : {n b n' b' : ℕ} {c c' : List ℕ} → soak n b c ≡ soak n' b' c' → (n ≡ n') × (b ≡ b') × (c ≡ c')
same_made is = (cc, cc, cc)

-- the script of `lint` is that of the source
held_by : {held : List ℕ} (budget : ℕ) (chosen : List ℕ) {bytes : List ℕ}
    → IsScriptFor held (lint budget chosen) bytes → held ≡ bytes
held_by budget chosen (in_source a bytes reads is) = is

-- and that of `soak` is made
made_by : {held : List ℕ} (number budget : ℕ) (chosen : List ℕ) {bytes : List ℕ}
    → IsScriptFor held (soak number budget chosen) bytes → script_of number ≡ bytes
made_by number budget chosen (in_source a bytes reads is) = absurd reads
made_by _ _ _ (made number budget chosen) = refl

module _ {held : List ℕ} {shelf : OnShelf} where
  answered_source : (a : Asked) (due : Due) → ReadsSource a → IsDueTo a held shelf due → IsAnswered a held shelf due
  answered_source a due reads (answered_to too answered) = answered
  answered_source a due reads (answered_to_made number budget chosen is answered) =
      absurd (subst (λ (x : Asked). ReadsSource x) is reads)

  of_made : (number budget : ℕ) (chosen : List ℕ) (due : Due) → IsDueTo (soak number budget chosen) held shelf due
      → IsAnswered (lint budget chosen) (script_of number) shelf due
  of_made number budget chosen due (answered_to reads answered) = absurd reads
  of_made number budget chosen due (answered_to_made n b c is answered) =
      let same = same_made is in
      subst (λ x. IsAnswered (lint budget chosen) (script_of x) shelf due) (sym same.0)
      (subst (λ x. IsAnswered (lint x chosen) (script_of n) shelf due) (sym same.1)
      (subst (λ x. IsAnswered (lint b x) (script_of n) shelf due) (sym same.2) answered))

module _ {words : List (List ℕ)} {held : List ℕ} {shelf : OnShelf} where
  -- what is due to the command that the words ask for
  due_to_asked : (a : Asked) (due : Due) → request words ≡ Some a → IsDue words held shelf due
      → IsDueTo a held shelf due
  due_to_asked a _ is (bad_words none kept) = let both = sym none ∙ is in absurd (cc)
  due_to_asked a due is (due_to b words answered) =
      subst (λ (x : Asked). IsDueTo x held shelf due) (same_asked (sym words ∙ is)) answered

  pub of_source : (a : Asked) (due : Due) → request words ≡ Some a → ReadsSource a → IsDue words held shelf due
      → IsAnswered a held shelf due
  of_source a due is reads answer = answered_source a due reads (due_to_asked a due is answer)

  pub due_to_script : (a : Asked) (bytes : List ℕ) (budget : ℕ) (chosen : List ℕ) (due : Due) → request words ≡ Some a
      → Reports a budget chosen → IsScriptFor held a bytes → IsDue words held shelf due
      → IsAnswered (lint budget chosen) bytes shelf due
  due_to_script _ bytes _ _ due is (lints budget chosen) script answer =
      subst (λ b. IsAnswered (lint budget chosen) b shelf due) (held_by budget chosen script)
      (of_source (lint budget chosen) due is tt answer)
  due_to_script _ bytes _ _ due is (soaks number budget chosen) script answer =
      subst (λ b. IsAnswered (lint budget chosen) b shelf due) (made_by number budget chosen script)
      (of_made number budget chosen due (due_to_asked (soak number budget chosen) due is answer))
