-- A row of parts, and a reader of one part that finds exactly what the relation of one part tells of.
use Rattle.std.proofs.Common.{◌≡◌, refl, ap, ◌∙◌, ℕ, zero, suc, ◌<◌, ◌≤◌, List, [], ◌∷◌, length, Option, Some, None}
use Rattle.std.proofs.Common.{arith}
use Rattle.jl_token.specs.Elements.{Many, no_more, one_more}
use Rattle.jl_token.specs.inner.Scanner.{many, many_within, many_by, with_first}

pub record Reads {A : Type 0} (One : List ℕ → A → List ℕ → Type 0) (one : List ℕ → Option (A × List ℕ)) : Type 0 where
  pub complete : (us : List ℕ) (a : A) (rest : List ℕ) → One us a rest → one us ≡ Some (a, rest)
  pub sound : (us : List ℕ) (a : A) (rest : List ℕ) → one us ≡ Some (a, rest) → One us a rest
  pub shorter : (us : List ℕ) (a : A) (rest : List ℕ) → One us a rest → length rest < length us

-- parts in front of a row
unfoldable pub prepend : {A : Type 0} → List A → List A × List ℕ → List A × List ℕ
prepend [] r = r
prepend (x ∷ xs) r = with_first x (prepend xs r)

module _ {A : Type 0} (One : List ℕ → A → List ℕ → Type 0) (one : List ℕ → Option (A × List ℕ))
    (r : Reads One one) where
  nothing_by : (o : Option (A × List ℕ)) → one [] ≡ o → o ≡ None
  nothing_by None e = refl
  nothing_by (Some (a, rest)) e = let h = r.shorter [] a rest (r.sound [] a rest e) in absurd (omega arith)

  pub nothing_at_end : one [] ≡ None
  nothing_at_end = nothing_by (one []) refl

  enough_by : (n m : ℕ) (us : List ℕ) (o : Option (A × List ℕ)) → one us ≡ o
      → ((vs : List ℕ) → length vs < length us → many_within one n vs ≡ many_within one m vs)
      → many_by (many_within one n) us o ≡ many_by (many_within one m) us o
  unfolding many_by
  enough_by n m us None e h = refl
  enough_by n m us (Some (a, rest)) e h = ap (with_first a) (h rest (r.shorter us a rest (r.sound us a rest e)))

  enough : (n m : ℕ) (us : List ℕ) → length us ≤ n → length us ≤ m → many_within one n us ≡ many_within one m us
  unfolding many_within many_by
  enough zero zero us p q = refl
  enough zero (suc m) [] p q = rw (nothing_at_end) refl
  enough zero (suc m) (u ∷ us) p q = absurd (omega arith)
  enough (suc n) zero [] p q = rw (nothing_at_end) refl
  enough (suc n) zero (u ∷ us) p q = absurd (omega arith)
  enough (suc n) (suc m) us p q = enough_by n m us (one us) refl (λ vs h. enough n m vs (omega arith) (omega arith))

  step_by : (us rest : List ℕ) (a : A) → length rest < length us → one us ≡ Some (a, rest)
      → many_within one (length us) us ≡ with_first a (many_within one (length rest) rest)
  unfolding many_within many_by
  step_by [] rest a h e = absurd (omega arith)
  step_by (u ∷ us) rest a h e =
      rw e (ap (with_first a) (enough (length us) (length rest) rest (omega arith) (omega arith)))

  -- one part more
  pub many_step : (us : List ℕ) (a : A) (rest : List ℕ) → one us ≡ Some (a, rest)
      → many one us ≡ with_first a (many one rest)
  unfolding many
  many_step us a rest e = step_by us rest a (r.shorter us a rest (r.sound us a rest e)) e

  stop_by : (n : ℕ) (us : List ℕ) → one us ≡ None → many_within one n us ≡ ([], us)
  unfolding many_within many_by
  stop_by zero us e = refl
  stop_by (suc n) us e = rw e refl

  -- no part more
  pub many_stop : (us : List ℕ) → one us ≡ None → many one us ≡ ([], us)
  unfolding many
  many_stop us e = stop_by (length us) us e

  -- what the relation tells of, the reader finds, and goes on
  pub many_complete : {us rest : List ℕ} {xs : List A} → Many One us xs rest → many one us ≡ prepend xs (many one rest)
  unfolding prepend
  many_complete no_more = refl
  many_complete (one_more {us} {mid} {rest} {a} o m) = many_step us a mid (r.complete us a mid o)
      ∙ ap (with_first a) (many_complete m)

  -- a row that ends where no part stands is the row that the reader finds
  prepend_nil : (xs : List A) (rest : List ℕ) → prepend xs ([], rest) ≡ (xs, rest)
  unfolding prepend
  prepend_nil [] rest = refl
  prepend_nil (x ∷ xs) rest = ap (with_first x) (prepend_nil xs rest)

  pub many_whole : {us rest : List ℕ} {xs : List A} → Many One us xs rest → one rest ≡ None → many one us ≡ (xs, rest)
  many_whole {us} {rest} {xs} m e = many_complete m ∙ (ap (prepend xs) (many_stop rest e) ∙ prepend_nil xs rest)

  -- what the reader finds, the relation tells of
  pub record Found (us : List ℕ) (x : List A × List ℕ) : Type 0 where
    pub row : Many One us x.0 x.1
    pub ends : one x.1 ≡ None

  found_by : (n : ℕ) (us : List ℕ) → length us ≤ n → (o : Option (A × List ℕ)) → one us ≡ o
      → ((vs : List ℕ) → length vs < length us → Found vs (many one vs)) → Found us (many one us)
  found_by n us h None e more = rw (many_stop us e) (record { row = no_more; ends = e })
  found_by n us h (Some (a, rest)) e more =
      let o = r.sound us a rest e in
      let m = more rest (r.shorter us a rest o) in
      rw (many_step us a rest e) (record { row = one_more o m.row; ends = m.ends })

  found_within : (n : ℕ) (us : List ℕ) → length us ≤ n → Found us (many one us)
  found_within zero us h = found_by zero us h (one us) refl (λ vs g. absurd (omega arith))
  found_within (suc n) us h = found_by (suc n) us h (one us) refl (λ vs g. found_within n vs (omega arith))

  pub many_sound : (us : List ℕ) → Found us (many one us)
  many_sound us = found_within (length us) us (omega arith)
