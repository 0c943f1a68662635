-- Which frames handle a completion, and where on the stack they stand (clause 12).
use Rattle.std.specs.Prelude.{[], false, if◌then◌else◌, length, map, reverse, true, ◌++◌, ◌||◌, ◌≡◌, ◌∷◌, Bool, List}
use Rattle.std.specs.Prelude.{None, Option, Some, ℕ}
use Rattle.std.specs.List.{All}
use Rattle.std.specs.Option.{is_some}
use Rattle.std.specs.Str.{bytes_eq}
use Rattle.jl_ast.specs.Tree.{Text}
use Rattle.jl_scope.specs.Names.{among}
use Rattle.jl_value.specs.declared.ending.Completion.{Completion}
use Rattle.jl_value.specs.declared.ending.Completion.TheVariants as completion
use Rattle.jl_state.specs.Turns.{labels_seen}
use Rattle.jl_state.specs.declared.frame.Frame.{Frame}
use Rattle.jl_state.specs.declared.frame.Frame.TheVariants as frame
use Rattle.jl_state.specs.declared.stack.Linked.{Linked}
use Rattle.jl_state.specs.declared.stack.Stack.TheInside.{Inside}
use Rattle.jl_state.specs.declared.statement_frame.CompletionFrame.{CompletionFrame}
use Rattle.jl_state.specs.declared.statement_frame.CompletionFrame.TheVariants as completing

-- any completion but a normal one (8.9)
abbrev pub is_abrupt : Completion → Bool
is_abrupt completion.Normal = false
is_abrupt how = true

-- a loop with these labels takes a break or a continue without a label, and a continue with a label of its own (12.6)
abbrev pub loop_handles : (labels : List Text) → Completion → Bool
loop_handles labels (completion.Break None) = true
loop_handles labels (completion.Continue None) = true
loop_handles labels (completion.Continue (Some x)) = among x labels
loop_handles labels how = false

-- a `switch` takes a break without a label (12.11)
abbrev pub switch_handles : Completion → Bool
switch_handles (completion.Break None) = true
switch_handles how = false

-- a labelled statement takes a break with its label (12.12)
abbrev pub label_handles : Text → Completion → Bool
label_handles x (completion.Break (Some y)) = bytes_eq x y
label_handles x how = false

-- a `try` takes what is thrown in its block where it has a `catch`, and what is abrupt there where it has a `finally`
-- (12.14)
abbrev pub try_handles : (has_catch has_finally : Bool) → Completion → Bool
try_handles has_catch has_finally completion.Normal = false
try_handles has_catch has_finally (completion.Throw v) = has_catch || has_finally
try_handles has_catch has_finally how = has_finally

-- and what is abrupt in the block of its `catch`, where it has a `finally`
abbrev pub catch_handles : (has_finally : Bool) → Completion → Bool
catch_handles has_finally completion.Normal = false
catch_handles has_finally how = has_finally

abbrev pub completion_handles : CompletionFrame → Completion → Bool
completion_handles (completing.Statements rest here) how = false
completion_handles (completing.Clauses rest here) how = false
completion_handles completing.Switch how = switch_handles how
completion_handles (completing.Labelled x) how = label_handles x.now how
completion_handles (completing.LoopBody t) how = loop_handles (labels_seen t.labels) how
completion_handles (completing.TryBlock h f here) how = try_handles (is_some h.now) (is_some f.now) how
completion_handles (completing.CatchBlock f here) how = catch_handles (is_some f.now) how
completion_handles (completing.FinallyBlock before) how = false

-- The frame takes the completion. A call takes all that are abrupt: what is returned, what is thrown, which it hands on
-- once it is over, and a break or a continue, which never comes to one and is a fault there.
abbrev pub handles : Frame → Completion → Bool
handles (frame.Value f) how = false
handles (frame.Algorithm f) how = false
handles (frame.Statement f) how = false
handles (frame.Completion f) how = completion_handles f how
handles (frame.Told f) how = false
handles (frame.Give v) how = false
handles frame.Body how = is_abrupt how

-- a frame that can take a completion
abbrev pub completion_is_handler : CompletionFrame → Bool
completion_is_handler (completing.Statements rest here) = false
completion_is_handler (completing.Clauses rest here) = false
completion_is_handler completing.Switch = true
completion_is_handler (completing.Labelled x) = true
completion_is_handler (completing.LoopBody t) = true
completion_is_handler (completing.TryBlock h f here) = is_some h.now || is_some f.now
completion_is_handler (completing.CatchBlock f here) = is_some f.now
completion_is_handler (completing.FinallyBlock before) = false

abbrev pub is_handler : Frame → Bool
is_handler (frame.Value f) = false
is_handler (frame.Algorithm f) = false
is_handler (frame.Statement f) = false
is_handler (frame.Completion f) = completion_is_handler f
is_handler (frame.Told f) = false
is_handler (frame.Give v) = false
is_handler frame.Body = true

-- The depth of the innermost handler of these frames, of which the innermost stands first. Depths count from 0 at the
-- bottom, so that it is the greatest at which a handler stands.
abbrev pub nearest_handler : List Frame → Option ℕ
nearest_handler [] = None
nearest_handler (f ∷ below) = if is_handler f then Some (length below) else nearest_handler below

abbrev pub frames_of : List Linked → List Frame
frames_of l = map (λ (x : Linked). x.frame) l

-- each link names the nearest handler below its frame
abbrev pub AreLinked : List Linked → Type 0
AreLinked [] = Unit {0}
AreLinked (x ∷ below) = (x.below ≡ nearest_handler (frames_of below)) × AreLinked below

-- what a stack keeps
pub record IsLinked (s : Inside) : Type 0 where
  pub links : AreLinked (reverse s.frames.items)
  pub nearest : s.nearest ≡ nearest_handler (frames_of (reverse s.frames.items))

-- none of these frames takes the completion
abbrev pub NoneHandles : Completion → List Frame → Type 0
NoneHandles how frames = All (λ f. handles f how ≡ false) frames

-- The innermost of these frames that takes the completion stands at this depth, and just those above it are gone.
pub record IsUnwound (how : Completion) (before after : List Frame) (depth : ℕ) : Type 0 where
  pub above : List Frame
  pub handler : Frame
  pub below : List Frame
  pub was : before ≡ above ++ handler ∷ below
  pub is : after ≡ handler ∷ below
  pub passed : NoneHandles how above
  pub handled : handles handler how ≡ true
  pub stands : depth ≡ length below

-- the same of frames with their links
pub record IsInnermost (how : Completion) (frames : List Linked) (depth : ℕ) : Type 0 where
  pub above : List Linked
  pub handler : Linked
  pub below : List Linked
  pub all : frames ≡ above ++ handler ∷ below
  pub passed : NoneHandles how (frames_of above)
  pub handled : handles handler.frame how ≡ true
  pub stands : depth ≡ length below
