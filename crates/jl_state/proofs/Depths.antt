-- The nearest handler stands at the greatest depth.
use Rattle.std.proofs.Common.{[], ap, false, length, refl, true, ◌≡◌, ◌∷◌, Bool, List, None, Option, Some, ℕ}
use Rattle.std.specs.Prelude.{if◌then◌else◌, MatchOption}
use Rattle.std.specs.List.{All}
use Rattle.std.proofs.lemmas.List.Elements.{All-cons, All-nil}
use Rattle.jl_state.specs.HandlerDepths.{IsGreatestHandler}
use Rattle.jl_state.specs.Handlers.{is_handler, nearest_handler}
use Rattle.jl_state.specs.declared.frame.Frame.{Frame}

abbrev Greatest : List Frame → Option ℕ → Type 0
Greatest frames depth = MatchOption depth (All (λ f. is_handler f ≡ false) frames) (IsGreatestHandler frames)

greatest_below : (f : Frame) (frames : List Frame) (depth : Option ℕ) → is_handler f ≡ false → Greatest frames depth
    → Greatest (f ∷ frames) depth
greatest_below f frames None is none = All-cons (λ g. is_handler g ≡ false) f frames is none
greatest_below f frames (Some depth) is found = record {
  above = f ∷ found.above;
  handler = found.handler;
  below = found.below;
  was = ap (λ l. f ∷ l) found.was;
  none = All-cons (λ g. is_handler g ≡ false) f found.above is found.none;
  is = found.is;
  stands = found.stands;
}

greatest_among : (f : Frame) (frames : List Frame) (b : Bool) → is_handler f ≡ b
    → Greatest frames (nearest_handler frames)
    → Greatest (f ∷ frames) (if b then Some (length frames) else nearest_handler frames)
greatest_among f frames true is found = record {
  above = [];
  handler = f;
  below = frames;
  was = refl;
  none = All-nil (λ g. is_handler g ≡ false);
  is = is;
  stands = refl;
}
greatest_among f frames false is found = greatest_below f frames (nearest_handler frames) is found

pub nearest_is_greatest : (frames : List Frame) → Greatest frames (nearest_handler frames)
nearest_is_greatest [] = All-nil (λ g. is_handler g ≡ false)
nearest_is_greatest (f ∷ frames) = greatest_among f frames (is_handler f) refl (nearest_is_greatest frames)
