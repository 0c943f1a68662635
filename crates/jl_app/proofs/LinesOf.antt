-- A text that is made line by line grows by that of one line more.
use Rattle.std.proofs.Common.{◌≡◌, ◌∙◌, ◌+◌, ◌++◌, ◌<◌, ℕ, List, [], ◌∷◌, add-one, ap, append-nil, append_assoc, get_or}
use Rattle.std.proofs.Common.{length, sym, take}
use Rattle.std.proofs.Math.Seq.{take-suc}

-- `text` has for each item its line, and LF
module _ {A : Type 0} (line : A → List ℕ) (text : List A → List ℕ) (none : text [] ≡ [])
    (one : (x : A) (xs : List A) → text (x ∷ xs) ≡ (line x ++ 10 ∷ []) ++ text xs) where
  push : (xs : List A) (x : A) → text (xs ++ x ∷ []) ≡ text xs ++ (line x ++ 10 ∷ [])
  push [] x =
      one x [] ∙ ap (λ t. (line x ++ 10 ∷ []) ++ t) none ∙ append-nil (line x ++ 10 ∷ [])
      ∙ sym (ap (λ t. t ++ (line x ++ 10 ∷ [])) none)
  push (y ∷ xs) x =
      one y (xs ++ x ∷ []) ∙ ap (λ t. (line y ++ 10 ∷ []) ++ t) (push xs x)
      ∙ sym (append_assoc (line y ++ 10 ∷ []) (text xs) (line x ++ 10 ∷ []))
      ∙ sym (ap (λ t. t ++ (line x ++ 10 ∷ [])) (one y xs))

  pub one_more_line : (items : List A) (at : ℕ) (d : A) (so_far written next : List ℕ) → at < length items
      → so_far ≡ text (take at items) → written ≡ so_far ++ line (get_or items at d) → next ≡ written ++ 10 ∷ []
      → next ≡ text (take (at + 1) items)
  one_more_line items at d so_far written next within is line_is grown =
      grown ∙ ap (λ l. l ++ 10 ∷ []) line_is
      ∙ append_assoc so_far (line (get_or items at d)) (10 ∷ [])
      ∙ ap (λ l. l ++ (line (get_or items at d) ++ 10 ∷ [])) is
      ∙ sym (push (take at items) (get_or items at d))
      ∙ ap text (sym (take-suc items at d within))
      ∙ ap (λ n. text (take n items)) (sym (add-one at))
