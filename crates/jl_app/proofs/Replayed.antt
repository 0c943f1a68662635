-- The places of rows grow by that of one row more.
use Rattle.std.proofs.Common.{◌≡◌, ◌∙◌, ◌+◌, ◌++◌, ◌<◌, ℕ, List, [], ◌∷◌, ap, get_or, length, sym, take}
use Rattle.std.proofs.lemmas.List.{map_more}
use Rattle.jl_record.specs.Records.{Row}
use Rattle.jl_report.specs.Reports.{Place}
use Rattle.jl_app.specs.Replaying.{places_of}

pub one_more_place : (places next : List Place) (rows : List Row) (i : ℕ) (d : Row) → i < length rows
    → places ≡ places_of (take i rows) → next ≡ places ++ ((get_or rows i d).1, (get_or rows i d).2) ∷ []
    → next ≡ places_of (take (i + 1) rows)
one_more_place places next rows i d within is grown =
    grown ∙ ap (λ (l : List Place). l ++ ((get_or rows i d).1, (get_or rows i d).2) ∷ []) is
    ∙ sym (map_more (λ (row : Row). (row.1, row.2)) rows i d within)
