-- What is due to words and bytes is one answer. Two answers may differ in the place at
-- which a text is refused that is not read as a program: any place of its tokens or their end will do.
use Rattle.std.specs.Prelude.{ℕ, List}
use Rattle.jl_app.specs.Answers.{IsDue}
use Rattle.jl_app.specs.Due.{Due, refused_only}
use Rattle.jl_app.specs.Refusals.{refusal_words}
use Rattle.jl_app.specs.declared.position.Position.{Position}
use Rattle.jl_app.specs.declared.refusal.Refusal.TheVariants.{Unreadable}

-- they are the same, or both refuse a text that is not read
pub data AreOne : Due → Due → Type 0 where
  same_answer : (d : Due) → AreOne d d
  both_unreadable : (here there : Position)
      → AreOne (refused_only (refusal_words (Unreadable here))) (refused_only (refusal_words (Unreadable there)))

-- so it is of all words and bytes, whatever the shelf was handed and lends, and whatever it is that it is as it was
abbrev pub OneAnswer : (Same : Type 0) → Type 0
OneAnswer Same =
    (words : List (List ℕ)) (bytes handed lent : List ℕ) (d e : Due)
    → IsDue words bytes (record { handed = handed; lent = lent; same = Same }) d
    → IsDue words bytes (record { handed = handed; lent = lent; same = Same }) e → AreOne d e
