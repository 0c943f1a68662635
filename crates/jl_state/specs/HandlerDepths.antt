-- The greatest depth at which a handler stands.
use Rattle.std.specs.Prelude.{false, length, true, ◌++◌, ◌≡◌, ◌∷◌, List, ℕ}
use Rattle.std.specs.List.{All}
use Rattle.jl_state.specs.Handlers.{is_handler}
use Rattle.jl_state.specs.declared.frame.Frame.{Frame}

-- a handler stands at this depth, and none above it
pub record IsGreatestHandler (frames : List Frame) (depth : ℕ) : Type 0 where
  pub above : List Frame
  pub handler : Frame
  pub below : List Frame
  pub was : frames ≡ above ++ handler ∷ below
  pub none : All (λ f. is_handler f ≡ false) above
  pub is : is_handler handler ≡ true
  pub stands : depth ≡ length below
