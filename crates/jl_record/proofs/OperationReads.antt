-- What the parts of the line of an operation tell of it.
use Rattle.std.proofs.Common.{◌≡◌, ℕ, zero, suc, ◌<◌, ◌≤◌, ◌^◌, List, [], ◌∷◌, ◌++◌, true, refl, sym, ap, ◌∙◌, arith}
use Rattle.std.proofs.Common.{◌-◌, drop, length, get_or, subst, Some}
use Rattle.std.specs.Prelude.{slice_get, option_map}
use Rattle.std.specs.Fmt.{decimal}
use Rattle.jl_op.specs.declared.kind.OpKind.{OpKind}
use Rattle.jl_op.specs.declared.op.Op.{Op}
use Rattle.jl_op.specs.Kinds.{kind_of, kind_name, all_kinds}
use Rattle.jl_op.specs.Operations.{Operation}
use Rattle.jl_record.specs.Facts.{Sort, Facts, marks}
use Rattle.jl_record.specs.OperationReads.{NoFacts, IsWritten}
use Rattle.jl_record.specs.Operations.{sorts_of, facts_of}
use Rattle.jl_record.specs.Parts.{is_at_end}
use Rattle.jl_record.specs.Records.{Row, IsOperation, operation_line, kind_at}
use Rattle.jl_record.proofs.Marks.{one_decimal}
use Rattle.jl_record.proofs.Names.{one_name, kind_found, kind_is_word}
use Rattle.jl_record.proofs.OneOperation.{row_stands}
use Rattle.jl_record.proofs.Words.{one_word}

marks_at_end : (sorts : List Sort) (f : Facts sorts) → is_at_end (marks sorts f) ≡ true
marks_at_end [] f = refl
marks_at_end (sort ∷ sorts) f = refl

-- the kind of the row with an id
pub row_kind : (rows : List Row) (id : ℕ) (d : Row) → (id ≡ 0 → ⊥) → id ≤ length rows
    → kind_at rows id ≡ Some (get_or rows (id - 1) d).0
row_kind rows zero d some l = absurd (some refl)
row_kind rows (suc n) d some l =
    let same : suc n - 1 ≡ n = omega arith in
    ap (option_map (λ (row : Row). row.0)) (slice_get_or rows n d (omega arith))
    ∙ ap (λ i. Some (get_or rows i d).0) (sym same)
  where
    slice_get_or : (rows : List Row) (n : ℕ) (d : Row) → n < length rows → slice_get rows n ≡ Some (get_or rows n d)
    slice_get_or [] n d h = absurd (omega arith)
    slice_get_or (row ∷ rows) zero d h = refl
    slice_get_or (row ∷ rows) (suc n) d h = slice_get_or rows n d (omega arith)

-- the kind, and the facts
abbrev after_id : Op → List ℕ
after_id op = kind_name (kind_of op) ++ marks (sorts_of (kind_of op)) (facts_of op)

-- the line is that of no operation
abbrev pub NoOperation : List Row → List ℕ → Type 0
NoOperation rows line = (o : Operation) → IsOperation rows o → line ≡ operation_line o → ⊥

module _ (rows : List Row) (few : length rows < 2 ^ 32) (line : List ℕ) where
  id_small : (o : Operation) → IsOperation rows o → o.0.0 < 2 ^ 64
  id_small o is = let high = row_stands rows o.0.0 (kind_of o.1) is.0 in omega arith

  pub no_id : ((n : ℕ) (rest : List ℕ) → n < 2 ^ 64 → is_at_end rest ≡ true → line ≡ decimal n ++ rest → ⊥)
      → NoOperation rows line
  no_id none o is e = none o.0.0 (32 ∷ after_id o.1) (id_small o is) refl e

  module _ (id : ℕ) (rest : List ℕ)
      (number : (id < 2 ^ 64) × (is_at_end rest ≡ true) × (line ≡ decimal id ++ rest)) where
    id_known : (o : Operation) → IsOperation rows o → line ≡ operation_line o
        → (id ≡ o.0.0) × (rest ≡ 32 ∷ after_id o.1)
    id_known o is e =
        one_decimal id o.0.0 rest (32 ∷ after_id o.1) number.0 (id_small o is) number.1 refl (sym number.2 ∙ e)

    pub no_space : ((more : List ℕ) → rest ≡ 32 ∷ more → ⊥) → NoOperation rows line
    no_space none o is e = none (after_id o.1) (id_known o is e).1

    module _ (front : List ℕ) (space : rest ≡ 32 ∷ front) where
      front_is : (o : Operation) → IsOperation rows o → line ≡ operation_line o → front ≡ after_id o.1
      front_is o is e = ap (λ us. drop 1 us) (sym space ∙ (id_known o is e).1)

      pub no_kind : ((kind : OpKind) (facts : List ℕ) → is_at_end facts ≡ true → front ≡ kind_name kind ++ facts → ⊥)
          → NoOperation rows line
      no_kind none o is e =
          none (kind_of o.1) (marks (sorts_of (kind_of o.1)) (facts_of o.1))
          (marks_at_end (sorts_of (kind_of o.1)) (facts_of o.1)) (front_is o is e)

      module _ (kind : OpKind) (facts : List ℕ)
          (named : (is_at_end facts ≡ true) × (front ≡ kind_name kind ++ facts)) where
        known : (o : Operation) → IsOperation rows o → line ≡ operation_line o
            → (kind ≡ kind_of o.1) × (facts ≡ marks (sorts_of (kind_of o.1)) (facts_of o.1))
        known o is e =
            let l = kind_of o.1 in
            let word = one_word (kind_name kind) (kind_name l) facts (marks (sorts_of l) (facts_of o.1))
            (kind_is_word kind) (kind_is_word l) named.0 (marks_at_end (sorts_of l) (facts_of o.1))
            (sym named.1 ∙ front_is o is e) in
            (one_name kind_name all_kinds kind_found kind l word.0, word.1)

        -- the row with this id is of another kind, or there is none
        pub no_row : (kind_at rows id ≡ Some kind → ⊥) → NoOperation rows line
        no_row none o is e =
            none (ap (kind_at rows) (id_known o is e).0 ∙ is.0 ∙ ap (λ l. Some l) (sym (known o is e).0))

        pub no_facts : NoFacts kind facts → NoOperation rows line
        no_facts none o is e =
            let k = known o is e in
            subst (λ l. NoFacts l facts) k.0 none (facts_of o.1) is.1 k.1

        pub has_row_within : kind_at rows id ≡ Some kind → id < 2 ^ 32
        has_row_within row = let high = row_stands rows id kind row in omega arith

        pub has_facts : (o : Operation) → o.0.0 ≡ id → kind_at rows id ≡ Some kind → IsWritten kind facts o.1
            → IsOperation rows o × (line ≡ operation_line o)
        has_facts o same row op = (
          (ap (kind_at rows) same ∙ row ∙ ap (λ l. Some l) (sym op.same), op.facts),
          number.2 ∙ ap (λ n. decimal n ++ rest) (sym same)
              ∙ ap (λ us. decimal o.0.0 ++ us)
              (space ∙ ap (λ us. 32 ∷ us)
              (named.1 ∙ ap (λ k. kind_name k ++ facts) (sym op.same)
              ∙ ap (λ us. kind_name (kind_of o.1) ++ us) op.marked)),
        )
