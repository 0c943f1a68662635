-- What is due to a call is one answer.
use Rattle.std.proofs.Common.{◌≡◌, ℕ, List, None, Some, arith, length, refl, sym, ◌∙◌, ap, subst}
use Rattle.jl_ast.specs.Tree.{Program}
use Rattle.jl_command.specs.Asked.{Asked, check, cover, exec, instrument, is_among, lint, map_of_ids, objects, print}
use Rattle.jl_command.specs.Asked.{record_of_run, replay, run, soak, srcmap, trace, unmap}
use Rattle.jl_effects.specs.Running.{state_of as world_of}
use Rattle.jl_grammar.proofs.One.{one_reading}
use Rattle.jl_grammar.specs.Program.{Reads}
use Rattle.jl_machine.specs.Runs.{ending_of}
use Rattle.jl_meaning.specs.Mean as mean
use Rattle.jl_op.specs.Chosen.{every_kind}
use Rattle.jl_op.specs.IdMap.{id_map}
use Rattle.jl_op.specs.Map.{MapRow}
use Rattle.jl_op.specs.Operations.{Operation}
use Rattle.jl_record.specs.Records.{OneBadLine, OneRecord}
use Rattle.jl_report.proofs.OneReport.{one_report}
use Rattle.jl_report.specs.Off.{off_by}
use Rattle.jl_report.specs.Reports as reports
use Rattle.jl_soak.specs.Script.{script_of}
use Rattle.jl_srcmap.specs.Laws.{BadPlaceIsUnique, NeverBoth as NeverBothRead, ReadingsAreUnique}
use Rattle.jl_srcmap.specs.SourceMap.{source_map_text}
use Rattle.jl_srcmap.specs.Written.{mappings_text}
use Rattle.jl_text.specs.Encoding.{units_of}
use Rattle.jl_text.specs.declared.span.Span.{Span}
use Rattle.jl_token.proofs.CommentLaws.{comments_are_unique}
use Rattle.jl_token.proofs.Whole.{tokens_are_unique}
use Rattle.jl_token.specs.declared.token.Comment.{Comment}
use Rattle.jl_app.specs.Accepting.{IsRead}
use Rattle.jl_app.specs.Answers.{accepted, answered_to, answered_to_made, bad_words, counted, due_to, ended}
use Rattle.jl_app.specs.Answers.{ended_alone}
use Rattle.jl_app.specs.Answers.{ended_woven, listed, refused, replayed, text, unmapped, written, IsAnswered, IsChecked}
use Rattle.jl_app.specs.Answers.{IsDue, IsDueTo, IsExecuted, IsInstrumented, IsMapped, IsPrinted, IsTraced}
use Rattle.jl_app.specs.Answers.{IsTracedAlone, Responds}
use Rattle.jl_app.specs.Due.{refused_only, text_only, Due, OnShelf}
use Rattle.jl_app.specs.Forms.{form_of, ReadsSource}
use Rattle.jl_app.specs.Linting.{lint_due, ran, unread, IsLinted, IsReported}
use Rattle.jl_app.specs.OneAnswer.{both_unreadable, same_answer, AreOne}
use Rattle.jl_app.specs.OwnRuns.{ending_status}
use Rattle.jl_app.specs.ReadBack.{IsReadBack, most_woven_levels}
use Rattle.jl_app.specs.Recording.{record_bytes, recorded, too_long_record, IsRecorded}
use Rattle.jl_app.specs.Refusals.{refusal_words, IsRefused}
use Rattle.jl_app.specs.Replaying.{IsReplayed}
use Rattle.jl_app.specs.Reporting.{positions, IsReport, Lines}
use Rattle.jl_app.specs.SourceMapping.{mapped_back, woven_segments, IsMappedBack}
use Rattle.jl_app.specs.WovenRuns.{hooked_run, woven_budget}
use Rattle.jl_app.specs.WovenText.{kinds_of, woven_text}
use Rattle.jl_app.specs.declared.form.Form.{Form}
use Rattle.jl_app.specs.declared.refusal.Refusal.{Refusal}
use Rattle.jl_app.specs.declared.status.Status.TheVariants as status
use Rattle.jl_app.proofs.OneCause.{both_unread, one_cause, same_cause, AreOneCause}
use Rattle.jl_app.proofs.OneText.{one_replayed, one_unmapped}
use Rattle.jl_app.proofs.Refusing.{never_both, one_read}
use Rattle.jl_app.proofs.Scripts.{same_made}

-- equal answers are one
pub are_one : {d e : Due} → d ≡ e → AreOne d e
are_one {d = d} same = subst (λ e. AreOne d e) same (same_answer d)

one_refusal : (c d : Refusal) → AreOneCause c d
    → AreOne (refused_only (refusal_words c)) (refused_only (refusal_words d))
one_refusal _ _ (same_cause c) = same_answer (refused_only (refusal_words c))
one_refusal _ _ (both_unread here there) = both_unreadable here there

-- REPORTS
same_read : (units : List ℕ) (p q : Program Span) → IsReadBack units p → IsReadBack units q → p ≡ q
same_read units p q a b =
    one_reading b.tokens most_woven_levels p q
    (subst (λ ts. Reads ts most_woven_levels p) (tokens_are_unique units a.tokens b.tokens a.lexed b.lexed) a.read)
    b.read

same_lines : (units : List ℕ) (rows : List MapRow) (chosen : List ℕ) (operations : List Operation)
    (some others : Lines) → IsReport units rows chosen operations some → IsReport units rows chosen operations others
    → some ≡ others
same_lines units rows chosen operations some others a b =
    let places = positions units rows in
    one_report (reports.is_shown (is_among chosen) (off_by units b.comments)) (reports.hits_at places operations) some
    others
    (subst (λ (cs : List Comment). reports.IsReport (is_among chosen) (off_by units cs) places operations some)
    (comments_are_unique units a.comments b.comments a.are b.are) a.report)
    b.report

-- the operations that a run's hooks told of, and what is due of it
abbrev told_of : (budget : ℕ) (chosen : List ℕ) → Program Span → List Operation
told_of budget chosen q = (world_of (hooked_run (kinds_of chosen) q (woven_budget budget))).hooks

abbrev due_of : (budget : ℕ) (chosen : List ℕ) → Program Span → Lines → ℕ → Due
due_of budget chosen q lines hooks =
    lint_due (hooked_run (kinds_of chosen) q (woven_budget budget)) (woven_budget budget) lines hooks

module _ (units : List ℕ) (p : Program Span) where
  -- a run has one report
  same_report : (budget : ℕ) (chosen : List ℕ) (q : Program Span) (lines lines' : Lines) (hooks hooks' : ℕ)
      → IsReported units p chosen (told_of budget chosen q) (told_of budget chosen q) lines hooks
      → IsReported units p chosen (told_of budget chosen q) (told_of budget chosen q) lines' hooks'
      → due_of budget chosen q lines hooks ≡ due_of budget chosen q lines' hooks'
  same_report budget chosen q lines lines' hooks hooks' a b =
      ap (λ l. due_of budget chosen q l hooks)
      (same_lines units (id_map p) chosen (told_of budget chosen q) lines lines' a.report b.report)
      ∙ ap (λ n. due_of budget chosen q lines' n) (a.counted ∙ sym b.counted)

  same_linted : (budget : ℕ) (chosen lent : List ℕ) (d e : Due) → IsLinted units p budget chosen lent d
      → IsLinted units p budget chosen lent e → d ≡ e
  same_linted budget chosen lent _ _ (unread none) (unread none') = refl
  same_linted budget chosen lent _ _ (unread none) (ran q lines hooks read is) = absurd (none q read)
  same_linted budget chosen lent _ _ (ran q lines hooks read is) (unread none) = absurd (none q read)
  same_linted budget chosen lent _ _ (ran q lines hooks read is) (ran q' lines' hooks' read' is') =
      let same = same_read lent q' q read' read in
      same_report budget chosen q lines lines' hooks hooks' is
      (subst (λ y. IsReported units p chosen (told_of budget chosen y)
      (told_of budget chosen y) lines' hooks') same is')
      ∙ ap (λ y. due_of budget chosen y lines' hooks') (sym same)

  same_checked : (d e : Due) → IsChecked p d → IsChecked p e → d ≡ e
  same_checked _ _ counted counted = refl

  same_printed : (d e : Due) → IsPrinted p d → IsPrinted p e → d ≡ e
  same_printed _ _ written written = refl

  same_instrumented : (d e : Due) → IsInstrumented p d → IsInstrumented p e → d ≡ e
  same_instrumented _ _ text text = refl

  same_mapped : (d e : Due) → IsMapped units p d → IsMapped units p e → d ≡ e
  same_mapped _ _ listed listed = refl

  same_mapped_back : (d e : Due) → IsMappedBack units p d → IsMappedBack units p e → d ≡ e
  same_mapped_back _ _ (mapped_back tokens lexed) (mapped_back others too) =
      ap (λ ts. text_only status.Clean (source_map_text (mappings_text (woven_segments units p ts))))
      (tokens_are_unique (woven_text every_kind p) tokens others lexed too)

  same_recorded : (r : mean.Run) (operations : List Operation) (d e : Due) → IsRecorded units p r operations d
      → IsRecorded units p r operations e → d ≡ e
  same_recorded r operations _ _ (recorded cs are stored few) (recorded ds too kept less) =
      ap (λ (cs : List Comment). text_only (ending_status (ending_of r)) (record_bytes units p cs operations))
      (comments_are_unique units cs ds are too)
  same_recorded r operations _ _ (recorded cs are stored few) (too_long_record ds too more) =
      let same = ap (λ (cs : List Comment). length (record_bytes units p cs operations))
      (comments_are_unique units cs ds are too) in
      absurd (omega (arith, same, few, more))
  same_recorded r operations _ _ (too_long_record cs are more) (recorded ds too stored few) =
      let same = ap (λ (cs : List Comment). length (record_bytes units p cs operations))
      (comments_are_unique units cs ds are too) in
      absurd (omega (arith, same, few, more))
  same_recorded r operations _ _ (too_long_record cs are more) (too_long_record ds too less) = refl

  same_executed : (budget : ℕ) (d e : Due) → IsExecuted p budget d → IsExecuted p budget e → d ≡ e
  same_executed budget _ _ ended ended = refl

  same_traced : (budget : ℕ) (d e : Due) → IsTraced p budget d → IsTraced p budget e → d ≡ e
  same_traced budget _ _ ended_woven ended_woven = refl

  same_alone : (budget : ℕ) (d e : Due) → IsTracedAlone p budget d → IsTracedAlone p budget e → d ≡ e
  same_alone budget _ _ ended_alone ended_alone = refl

  same_response : (a : Asked) (shelf : OnShelf) (d e : Due) → Responds a units p shelf d → Responds a units p shelf e
      → d ≡ e
  same_response (lint budget chosen) shelf d e x y = same_linted budget chosen shelf.lent d e x.1 y.1
  same_response check shelf d e x y = same_checked d e x.1 y.1
  same_response print shelf d e x y = same_printed d e x.1 y.1
  same_response instrument shelf d e x y = same_instrumented d e x.1 y.1
  same_response map_of_ids shelf d e x y = same_mapped d e x.1 y.1
  same_response srcmap shelf d e x y = same_mapped_back d e x.1 y.1
  same_response (record_of_run budget) shelf d e x y = same_recorded _ _ d e x.1 y.1
  same_response (objects budget) shelf d e x y = x.1 ∙ sym y.1
  same_response (cover budget) shelf d e x y = x.1 ∙ sym y.1
  same_response unmap shelf d e x y = absurd x
  same_response (replay chosen) shelf d e x y = absurd x
  same_response (run budget) shelf d e x y = same_executed budget d e x.1 y.1
  same_response (trace budget) shelf d e x y = same_traced budget d e x.1 y.1
  same_response (exec budget) shelf d e x y = same_alone budget d e x.1 y.1
  same_response (soak number budget chosen) shelf d e x y = absurd x

some_same : {A : Type 0} {a b : A} → Some a ≡ Some b → a ≡ b
some_same e = cc

same_chosen : {c d : List ℕ} → replay c ≡ replay d → c ≡ d
same_chosen e = cc

-- the bytes of a source map, and of a stored run, are read as no program
no_program : {a : Asked} {form : Form} (b : Asked) → form_of a ≡ Some form → a ≡ b → form_of b ≡ None → ⊥
no_program b reads is none = let both = sym (ap form_of is ∙ none) ∙ reads in absurd (cc)

module _ (readings : ReadingsAreUnique) (never : NeverBothRead) (bad : BadPlaceIsUnique) (record_law : OneRecord)
    (line_law : OneBadLine) where
  -- what a command answers to bytes
  one_answered : (a : Asked) (bytes : List ℕ) (shelf : OnShelf) (d e : Due) → IsAnswered a bytes shelf d
      → IsAnswered a bytes shelf e → AreOne d e
  one_answered a bytes shelf _ _ (refused form c reads why same) (refused form' c' reads' why' same') =
      one_refusal c c' (one_cause form bytes c c' why
      (subst (λ f. IsRefused f bytes c') (some_same (sym reads' ∙ reads)) why'))
  one_answered a bytes shelf _ e (refused form c reads why same) (accepted form' p reads' read responds) =
      absurd (never_both form bytes p c (subst (λ f. IsRead f bytes p) (some_same (sym reads' ∙ reads)) read) why)
  one_answered a bytes shelf _ e (refused form c reads why same) (unmapped is x kept) =
      absurd (no_program unmap reads is refl)
  one_answered a bytes shelf _ e (refused form c reads why same) (replayed chosen is x kept) =
      absurd (no_program (replay chosen) reads is refl)
  one_answered a bytes shelf d _ (accepted form p reads read responds) (refused form' c reads' why same) =
      absurd (never_both form bytes p c read (subst (λ f. IsRefused f bytes c) (some_same (sym reads' ∙ reads)) why))
  one_answered a bytes shelf d e (accepted form p reads read responds) (accepted form' q reads' read' responds') =
      are_one (same_response (units_of bytes) q a shelf d e
      (subst (λ x. Responds a (units_of bytes) x shelf d) (one_read form bytes p q read
      (subst (λ f. IsRead f bytes q) (some_same (sym reads' ∙ reads)) read')) responds)
      responds')
  one_answered a bytes shelf d e (accepted form p reads read responds) (unmapped is x kept) =
      absurd (no_program unmap reads is refl)
  one_answered a bytes shelf d e (accepted form p reads read responds) (replayed chosen is x kept) =
      absurd (no_program (replay chosen) reads is refl)
  one_answered a bytes shelf d _ (unmapped is x kept) (refused form c reads why same) =
      absurd (no_program unmap reads is refl)
  one_answered a bytes shelf d e (unmapped is x kept) (accepted form p reads read responds) =
      absurd (no_program unmap reads is refl)
  one_answered a bytes shelf d e (unmapped is x kept) (unmapped too y same) =
      are_one (one_unmapped readings never bad bytes d e x y)
  one_answered a bytes shelf d e (unmapped is x kept) (replayed chosen too y same) =
      let both : unmap ≡ replay chosen = sym is ∙ too in absurd (cc)
  one_answered a bytes shelf d _ (replayed chosen is x kept) (refused form c reads why same) =
      absurd (no_program (replay chosen) reads is refl)
  one_answered a bytes shelf d e (replayed chosen is x kept) (accepted form p reads read responds) =
      absurd (no_program (replay chosen) reads is refl)
  one_answered a bytes shelf d e (replayed chosen is x kept) (unmapped too y same) =
      let both : unmap ≡ replay chosen = sym too ∙ is in absurd (cc)
  one_answered a bytes shelf d e (replayed chosen is x kept) (replayed rules too y same) =
      are_one (one_replayed record_law line_law rules bytes d e
      (subst (λ l. IsReplayed l bytes d) (same_chosen (sym is ∙ too)) x) y)

  -- what is due to a command
  one_to : (a b : Asked) (read read' : List ℕ) (shelf : OnShelf) (d e : Due) → a ≡ b → read ≡ read'
      → IsAnswered a read shelf d → IsAnswered b read' shelf e → AreOne d e
  one_to a b read read' shelf d e same is x y =
      one_answered b read' shelf d e
      (subst (λ c. IsAnswered c read' shelf d) same (subst (λ r. IsAnswered a r shelf d) is x)) y

  one_due_to : (a : Asked) (bytes : List ℕ) (shelf : OnShelf) (d e : Due) → IsDueTo a bytes shelf d
      → IsDueTo a bytes shelf e → AreOne d e
  one_due_to a bytes shelf d e (answered_to reads x) (answered_to reads' y) = one_answered a bytes shelf d e x y
  one_due_to a bytes shelf d e (answered_to reads x) (answered_to_made n b c is y) =
      absurd (subst ReadsSource is reads)
  one_due_to a bytes shelf d e (answered_to_made n b c is x) (answered_to reads y) =
      absurd (subst ReadsSource is reads)
  one_due_to a bytes shelf d e (answered_to_made n b c is x) (answered_to_made n' b' c' is' y) =
      let same = same_made (sym is ∙ is') in
      one_to (lint b c) (lint b' c') (script_of n) (script_of n') shelf d e
      (ap (λ k. lint k c) same.1 ∙ ap (λ l. lint b' l) same.2) (ap script_of same.0) x y

  -- what is due to words and bytes
  pub one_due : (words : List (List ℕ)) (bytes : List ℕ) (shelf : OnShelf) (d e : Due) → IsDue words bytes shelf d
      → IsDue words bytes shelf e → AreOne d e
  one_due words bytes shelf _ _ (bad_words none same) (bad_words none' same') = same_answer _
  one_due words bytes shelf _ e (bad_words none same) (due_to a is x) = let both = sym none ∙ is in absurd (cc)
  one_due words bytes shelf d _ (due_to a is x) (bad_words none same) = let both = sym none ∙ is in absurd (cc)
  one_due words bytes shelf d e (due_to a is x) (due_to b is' y) =
      one_due_to b bytes shelf d e
      (subst (λ c. IsDueTo c bytes shelf d) (some_same (sym is ∙ is')) x) y
