-- How a line grows by parts.
use Rattle.std.proofs.Common.{◌≡◌, ℕ, ◌+◌, ◌<◌, List, [], ◌∷◌, ◌++◌, length, get_or, take, map, sym, ap, ◌∙◌}
use Rattle.std.proofs.Common.{append_assoc, append-nil}
use Rattle.std.proofs.lemmas.List.{map_more}
use Rattle.jl_op.specs.Trace.{with_spaces, seen_text}
use Rattle.jl_value.specs.declared.value.Seen.{Seen}

-- one more part
with_spaces-push : (parts : List (List ℕ)) (part : List ℕ) → with_spaces (parts ++ part ∷ [])
    ≡ with_spaces parts ++ 32 ∷ part
with_spaces-push [] part = ap (λ units. 32 ∷ units) (append-nil part)
with_spaces-push (first ∷ parts) part =
    ap (λ units. 32 ∷ (first ++ units)) (with_spaces-push parts part)
    ∙ ap (λ units. 32 ∷ units) (sym (append_assoc first (with_spaces parts) (32 ∷ part)))

-- a line that has the first values has one more
pub all_seen : (before line next : List ℕ) (values : List Seen) (value : Seen) (at : ℕ) → at < length values
    → value ≡ get_or values at value → line ≡ before ++ with_spaces (map seen_text (take at values))
    → next ≡ line ++ 32 ∷ seen_text value → next ≡ before ++ with_spaces (map seen_text (take (at + 1) values))
all_seen before line next values value at within is so_far grown =
    grown ∙ ap (λ units. units ++ 32 ∷ seen_text value) so_far
    ∙ append_assoc before (with_spaces (map seen_text (take at values))) (32 ∷ seen_text value)
    ∙ ap (λ units. before ++ units) (sym (with_spaces-push (map seen_text (take at values)) (seen_text value)))
    ∙ ap (λ v. before ++ with_spaces (map seen_text (take at values) ++ seen_text v ∷ [])) is
    ∙ ap (λ parts. before ++ with_spaces parts) (sym (map_more seen_text values at value within))

pub ruleset spacing = (append_assoc, append-nil)
