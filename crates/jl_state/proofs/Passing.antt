-- What frames do with a completion that they do not handle.
use Rattle.std.proofs.Common.{[], ap, false, refl, sym, true, ◌++◌, ◌≡◌, ◌≤◌, ◌∙◌, ◌∷◌, arith, Bool, List, None}
use Rattle.std.proofs.Common.{Option, Some, ℕ}
use Rattle.std.specs.Prelude.{if◌then◌else◌, ◌||◌, MatchOption}
use Rattle.std.specs.Option.{is_some}
use Rattle.std.proofs.lemmas.Bool.{false≢true}
use Rattle.std.proofs.lemmas.List.{append-nil}
use Rattle.std.proofs.lemmas.List.Elements.{All-head, All-tail}
use Rattle.std.proofs.lemmas.Slice.Eq.{bytes_eq-Decides}
use Rattle.jl_ast.specs.Tree.{Text}
use Rattle.jl_ast.specs.View.{view_branch, view_catch}
use Rattle.jl_ast.specs.declared.tree.Ident.{Ident}
use Rattle.jl_ast.specs.declared.tree.Stmt.{Stmt}
use Rattle.jl_value.specs.declared.ending.Completion.{Completion}
use Rattle.jl_value.specs.declared.ending.Completion.TheVariants as completion
use Rattle.jl_value.specs.declared.value.Value.TheVariants as value
use Rattle.jl_effects.specs.Effects.{and_then, End}
use Rattle.jl_meaning.specs.Completions.{ends_as, if_normal}
use Rattle.jl_meaning.specs.FunctionObjects.{FunctionTable}
use Rattle.jl_meaning.specs.Parts.{Context, Part}
use Rattle.jl_meaning.specs.Statements.{execute_branch, handle}
use Rattle.jl_meaning.specs.forms.Jumps.{after_labelled}
use Rattle.jl_meaning.specs.forms.Loops.{after_body}
use Rattle.jl_meaning.specs.forms.Switch.{after_switch}
use Rattle.jl_meaning.specs.forms.Try.{unless_abrupt}
use Rattle.jl_state.specs.Handlers.{catch_handles, completion_handles, completion_is_handler, handles, is_abrupt}
use Rattle.jl_state.specs.Handlers.{is_handler, label_handles, loop_handles, switch_handles, try_handles, IsUnwound}
use Rattle.jl_state.specs.Handlers.{NoneHandles}
use Rattle.jl_state.specs.Rank.{ranks}
use Rattle.jl_state.specs.Rest.{after, passed_on, continuation, continuation_of, Completion-given, Given}
use Rattle.jl_state.specs.StatementFrames.{completion_after}
use Rattle.jl_state.specs.Steps.{IsUncaught, LeavesTo}
use Rattle.jl_state.specs.Trees.{plain_optional}
use Rattle.jl_state.specs.Words.{context_of, table_of}
use Rattle.jl_state.specs.declared.calls.Call.{Call}
use Rattle.jl_state.specs.declared.frame.Frame.{Frame}
use Rattle.jl_state.specs.declared.frame.Frame.TheVariants as frame
use Rattle.jl_state.specs.declared.state.State.{State}
use Rattle.jl_state.specs.declared.statement_frame.CompletionFrame.{CompletionFrame}
use Rattle.jl_state.specs.declared.statement_frame.CompletionFrame.TheVariants as completing

-- a frame that can take no completion takes none

try_takes_none : (has_catch has_finally : Bool) (how : Completion) → (has_catch || has_finally) ≡ false
    → try_handles has_catch has_finally how ≡ false
try_takes_none true f how none = absurd (false≢true (sym none))
try_takes_none false true how none = absurd (false≢true (sym none))
try_takes_none false false completion.Normal none = refl
try_takes_none false false (completion.Throw v) none = refl
try_takes_none false false how none = refl

catch_takes_none : (has_finally : Bool) (how : Completion) → has_finally ≡ false
    → catch_handles has_finally how ≡ false
catch_takes_none f completion.Normal none = refl
catch_takes_none f how none = none

completion_takes_none : (f : CompletionFrame) (how : Completion) → completion_is_handler f ≡ false
    → completion_handles f how ≡ false
completion_takes_none (completing.Statements continuation here) how none = refl
completion_takes_none (completing.Clauses continuation here) how none = refl
completion_takes_none (completing.FinallyBlock before) how none = refl
completion_takes_none (completing.TryBlock h f here) how none =
    try_takes_none (is_some h.now) (is_some f.now) how none
completion_takes_none (completing.CatchBlock f here) how none = catch_takes_none (is_some f.now) how none
completion_takes_none f how none = absurd (false≢true (sym none))

pub takes_none : (f : Frame) (how : Completion) → is_handler f ≡ false → handles f how ≡ false
takes_none (frame.Completion f) how none = completion_takes_none f how none
takes_none frame.Body how none = absurd (false≢true (sym none))
takes_none f how none = refl

-- an abrupt completion that a frame does not handle passes over it

abrupt_passes : (how : Completion) → is_abrupt how ≡ true → passed_on how ≡ End (Completion-given how)
abrupt_passes completion.Normal abrupt = absurd (false≢true abrupt)
abrupt_passes how abrupt = refl

passes_statements : (next : Part Completion) (how : Completion) → is_abrupt how ≡ true → if_normal next how ≡ End how
passes_statements next completion.Normal abrupt = absurd (false≢true abrupt)
passes_statements next how abrupt = refl

passes_switch : (how : Completion) → switch_handles how ≡ false → after_switch how ≡ how
passes_switch (completion.Break None) passes = absurd (false≢true (sym passes))
passes_switch how passes = refl

passes_label : (x : Text) (how : Completion) → label_handles x how ≡ false → after_labelled x how ≡ how
passes_label x (completion.Break (Some y)) passes =
    ap (λ b. if b then completion.Normal else completion.Break (Some y)) passes
passes_label x how passes = refl

passes_loop : (labels : List Text) (next : Part Completion) (how : Completion) → is_abrupt how ≡ true
    → loop_handles labels how ≡ false → after_body labels next how ≡ End how
passes_loop labels next completion.Normal abrupt passes = absurd (false≢true abrupt)
passes_loop labels next (completion.Break None) abrupt passes = absurd (false≢true (sym passes))
passes_loop labels next (completion.Continue None) abrupt passes = absurd (false≢true (sym passes))
passes_loop labels next (completion.Continue (Some x)) abrupt passes =
    ap (λ b. if b then next else End (completion.Continue (Some x))) passes
passes_loop labels next how abrupt passes = refl

passes_finally : (before how : Completion) → is_abrupt how ≡ true → unless_abrupt before how ≡ how
passes_finally before completion.Normal abrupt = absurd (false≢true abrupt)
passes_finally before how abrupt = refl

module _ (table : FunctionTable) (c : Context) where
  abbrev finally_after : Option (List Stmt) → Completion → Part Completion
  finally_after f handled = ends_as (unless_abrupt handled) (execute_branch table (plain_optional (view_branch f)) c)

  abbrev try_after : Option (Ident × List Stmt) → Option (List Stmt) → Completion → Part Completion
  try_after h f how = and_then (handle table (plain_optional (view_catch h)) how c) (finally_after f)

  passes_catch : (f : Option (List Stmt)) (how : Completion) → is_abrupt how ≡ true
      → catch_handles (is_some f) how ≡ false → finally_after f how ≡ End how
  passes_catch None how abrupt passes = refl
  passes_catch (Some l) completion.Normal abrupt passes = absurd (false≢true abrupt)
  passes_catch (Some l) how abrupt passes = absurd (false≢true (sym passes))

  passes_try : (h : Option (Ident × List Stmt)) (f : Option (List Stmt)) (how : Completion) → is_abrupt how ≡ true
      → try_handles (is_some h) (is_some f) how ≡ false → try_after h f how ≡ End how
  passes_try h f completion.Normal abrupt passes = absurd (false≢true abrupt)
  passes_try None None (completion.Throw v) abrupt passes = refl
  passes_try None (Some l) (completion.Throw v) abrupt passes = absurd (false≢true (sym passes))
  passes_try (Some k) f (completion.Throw v) abrupt passes = absurd (false≢true (sym passes))
  passes_try None None how abrupt passes = refl
  passes_try (Some k) None how abrupt passes = refl
  passes_try h (Some l) how abrupt passes = absurd (false≢true (sym passes))

passes_completion : (table : FunctionTable) (calls : List Call) (f : CompletionFrame) (how : Completion)
    → is_abrupt how ≡ true → completion_handles f how ≡ false → completion_after table calls f how ≡ End how
passes_completion table calls (completing.Statements continuation here) how abrupt passes = passes_statements _ how
    abrupt
passes_completion table calls (completing.Clauses continuation here) how abrupt passes = passes_statements _ how abrupt
passes_completion table calls completing.Switch how abrupt passes = ap End (passes_switch how passes)
passes_completion table calls (completing.Labelled x) how abrupt passes = ap End (passes_label x.now how passes)
passes_completion table calls (completing.LoopBody t) how abrupt passes = passes_loop _ _ how abrupt passes
passes_completion table calls (completing.TryBlock h f here) how abrupt passes =
    passes_try table (context_of calls here) h.now f.now how abrupt passes
passes_completion table calls (completing.CatchBlock f here) how abrupt passes =
    passes_catch table (context_of calls here) f.now how abrupt passes
passes_completion table calls (completing.FinallyBlock before) how abrupt passes =
    ap End (passes_finally before how abrupt)

-- so the rest of the run is left to the frames below
module _ (table : FunctionTable) (how : Completion) (abrupt : is_abrupt how ≡ true) where
  abbrev follows : List Call → List Frame → Part Given → Part Completion
  follows calls frames p = and_then p (continuation table calls frames)

  pub leaves : (calls : List Call) (f : Frame) (frames : List Frame) → handles f how ≡ false
      → continuation table calls (f ∷ frames) (Completion-given how) ≡ continuation table calls frames
      (Completion-given how)
  leaves calls (frame.Value f) frames passes = ap (follows calls frames) (abrupt_passes how abrupt)
  leaves calls (frame.Algorithm f) frames passes = ap (follows calls frames) (abrupt_passes how abrupt)
  leaves calls (frame.Statement f) frames passes = ap (follows calls frames) (abrupt_passes how abrupt)
  leaves calls (frame.Told f) frames passes = ap (follows calls frames) (abrupt_passes how abrupt)
  leaves calls (frame.Give v) frames passes = ap (follows calls frames) (abrupt_passes how abrupt)
  leaves calls (frame.Completion f) frames passes =
      ap (λ p. follows calls frames (and_then p (λ end. End (Completion-given end))))
      (passes_completion table calls f how abrupt passes)
  leaves calls frame.Body frames passes = absurd (false≢true (sym passes ∙ abrupt))

  pub all_leave : (calls : List Call) (above frames : List Frame) → NoneHandles how above
      → continuation table calls (above ++ frames) (Completion-given how) ≡ continuation table calls frames
      (Completion-given how)
  all_leave calls [] frames none = refl
  all_leave calls (f ∷ above) frames none =
      leaves calls f (above ++ frames) (All-head (λ g. handles g how ≡ false) f above none)
      ∙ all_leave calls above frames (All-tail (λ g. handles g how ≡ false) f above none)

-- a stack that was unwound, or on which no frame takes the completion
abbrev pub Unwinds : (how : Completion) (before after : List Frame) → Option ℕ → Type 0
Unwinds how before after result =
    MatchOption result (NoneHandles how before × (after ≡ before)) (λ depth. IsUnwound how before after depth)

abbrev pub Leaves : (s : State) (how : Completion) (t : State) → Option ℕ → Type 0
Leaves s how t result = MatchOption result (IsUncaught s how) (λ _. LeavesTo s how t)

pub unwinding_leaves : (s t : State) (how : Completion) (result : Option ℕ) → t ≡ record s { stack = t.stack }
    → Unwinds how s.stack t.stack result → is_abrupt how ≡ true → Leaves s how t result
unwinding_leaves s t how None others none abrupt = record {
  is = ap (λ (l : List Frame). continuation (table_of s.functions) s.calls l (Completion-given how))
      (sym (append-nil s.stack))
      ∙ all_leave (table_of s.functions) how abrupt s.calls s.stack [] none.0;
}
unwinding_leaves s t how (Some depth) others unwound abrupt = record {
  is = ap (λ (l : List Frame). continuation (table_of s.functions) s.calls l (Completion-given how)) unwound.was
      ∙ all_leave (table_of s.functions) how abrupt s.calls unwound.above (unwound.handler ∷ unwound.below)
      unwound.passed
      ∙ ap (λ (l : List Frame). continuation (table_of s.functions) s.calls l (Completion-given how)) (sym unwound.is)
      ∙ sym (ap (λ (u : State). continuation_of u (Completion-given how)) others);
}

-- fewer frames do less

ranks_above : (above frames : List Frame) → ranks frames ≤ ranks (above ++ frames)
ranks_above [] frames = omega arith
ranks_above (f ∷ above) frames = let less = ranks_above above frames in omega arith

pub unwinding_falls : (how : Completion) (before after : List Frame) (result : Option ℕ)
    → Unwinds how before after result → ranks after ≤ ranks before
unwinding_falls how before after None none =
    let same : ranks after ≡ ranks before = ap ranks none.1 in
    omega arith
unwinding_falls how before after (Some depth) unwound =
    let less = ranks_above unwound.above (unwound.handler ∷ unwound.below) in
    let was : ranks before ≡ ranks (unwound.above ++ unwound.handler ∷ unwound.below) = ap ranks unwound.was in
    let is : ranks after ≡ ranks (unwound.handler ∷ unwound.below) = ap ranks unwound.is in
    omega arith

-- a handler takes something

takes_thrown : (f : CompletionFrame) → completion_is_handler f ≡ true
    → (how : Completion) × (completion_handles f how ≡ true)
takes_thrown completing.Switch is = (completion.Break None, refl)
takes_thrown (completing.Labelled x) is = (completion.Break (Some x.now), (bytes_eq-Decides x.now x.now).1 refl)
takes_thrown (completing.LoopBody t) is = (completion.Break None, refl)
takes_thrown (completing.TryBlock h f here) is = (completion.Throw value.Undefined, is)
takes_thrown (completing.CatchBlock f here) is = (completion.Throw value.Undefined, is)
takes_thrown f is = absurd (false≢true is)

pub handler_takes : (f : Frame) → is_handler f ≡ true → (how : Completion) × (handles f how ≡ true)
handler_takes (frame.Completion f) is = takes_thrown f is
handler_takes frame.Body is = (completion.Throw value.Undefined, refl)
handler_takes f is = absurd (false≢true is)

handles_or_not : (f : Frame) (how : Completion) (b : Bool) → is_handler f ≡ b → handles f how ≡ true
    → is_handler f ≡ true
handles_or_not f how true is takes = is
handles_or_not f how false is takes = absurd (false≢true (sym (takes_none f how is) ∙ takes))

pub taker_is_handler : (f : Frame) (how : Completion) → handles f how ≡ true → is_handler f ≡ true
taker_is_handler f how takes = handles_or_not f how (is_handler f) refl takes
