-- The text that `instrument` writes is read as the woven script, which runs alike.
use Rattle.std.proofs.Common.{◌≡◌, ◌∙◌, ap, refl, sym, subst, ℕ, List, Some}
use Rattle.jl_ast.specs.Spans.{without_spans}
use Rattle.jl_ast.specs.Tree.{Program}
use Rattle.jl_command.specs.Asked.{exec, trace}
use Rattle.jl_op.specs.Chosen.{every_kind}
use Rattle.jl_text.specs.Encoding.{UnitsComeBack}
use Rattle.jl_text.specs.declared.span.Span.{Span}
use Rattle.jl_token.specs.Tokens.{Tokens}
use Rattle.jl_app.specs.Accepting.{IsAccepted, IsRead, OneReading}
use Rattle.jl_app.specs.Answers.{IsAnswered, IsTraced, IsTracedAlone, accepted, ended_alone, ended_woven}
use Rattle.jl_app.specs.Answers.{instrument_due, refused, replayed, trace_due, unmapped}
use Rattle.jl_app.specs.Due.{Due}
use Rattle.jl_app.specs.WovenRuns.{woven_budget}
use Rattle.jl_app.specs.OwnRuns.{own_run}
use Rattle.jl_app.specs.ReadBack.{IsReadBack}
use Rattle.jl_app.specs.Refusals.{IsRefused, NeverBoth}
use Rattle.jl_app.specs.StandsAlone.{StandsAlone, same_shelf}
use Rattle.jl_app.specs.Telling.{told_run}
use Rattle.jl_app.specs.WovenText.{woven_text}
use Rattle.jl_app.specs.declared.form.Form.TheVariants as forms
use Rattle.jl_app.specs.inner.Woven.{ReadsBackAsWoven}
use Rattle.jl_record.proofs.BytesOfUnits.{bytes_are_utf8}
use Rattle.jl_app.proofs.OwnRun.{same_own_run}

some_same : {A : Type 0} {a b : A} → Some a ≡ Some b → a ≡ b
some_same e = cc

-- What is known of an accepted script and its woven text.
module _ (one : OneReading) (never : NeverBoth) (comes_back : UnitsComeBack) (bytes : List ℕ) (p : Program Span)
    (is : IsAccepted bytes p) (back : ReadsBackAsWoven every_kind p) where
  abbrev woven : List ℕ
  woven = (instrument_due p).bytes

  -- what is read of its units is read of its bytes
  of_units : (q : Program Span) → IsReadBack (woven_text every_kind p) q → IsRead forms.WovenText woven q
  of_units q read = record {
    short = back.few_bytes;
    decoded = bytes_are_utf8 (woven_text every_kind p) back.small;
    tokens = read.tokens;
    lexed = subst (λ us. Tokens us read.tokens) (sym (comes_back (woven_text every_kind p) back.small back.paired))
        read.lexed;
    read = read.read;
    sound = read.sound;
  }

  -- the answer to the run of the woven script
  abbrev due : ℕ → Due
  due budget = trace_due (told_run every_kind p budget) (woven_budget budget)

  same_due : (q : Program Span) (budget : ℕ) → IsRead forms.WovenText woven q
      → trace_due (own_run q (woven_budget budget)) (woven_budget budget) ≡ due budget
  same_due q budget read =
      let program = one forms.WovenText woven q back.program read (of_units back.program back.read) in
      ap (λ r. trace_due r (woven_budget budget))
      (same_own_run p q (woven_budget budget)
      (ap (λ (r : Program Span). without_spans r) program ∙ back.same back.program back.read))

  as_exec : (budget : ℕ) (handed lent : List ℕ) (d : Due) → IsAnswered (trace budget) bytes (same_shelf handed lent) d
      → IsAnswered (exec (woven_budget budget)) woven (same_shelf handed lent) d
  as_exec budget handed lent _ (refused form cause reads why same) =
      absurd (never forms.Script bytes p cause is (subst (λ f. IsRefused f bytes cause) (sym (some_same reads)) why))
  as_exec budget handed lent d (unmapped is2 x same) = absurd (cc)
  as_exec budget handed lent d (replayed chosen is2 x same) = absurd (cc)
  as_exec budget handed lent d (accepted form q reads a (same, answer)) =
      by_answer d (subst (λ r. IsTraced r budget d) (one forms.Script bytes q p
      (subst (λ f. IsRead f bytes q) (sym (some_same reads)) a) is) answer)
    where
      read : IsRead forms.WovenText woven back.program
      read = of_units back.program back.read

      by_answer : (x : Due) → IsTraced p budget x
          → IsAnswered (exec (woven_budget budget)) woven (same_shelf handed lent) x
      by_answer _ ended_woven =
          subst (λ x. IsAnswered (exec (woven_budget budget)) woven (same_shelf handed lent) x)
          (same_due back.program budget read)
          (accepted forms.WovenText back.program refl read (same, ended_alone))

  as_trace : (budget : ℕ) (handed lent : List ℕ) (d : Due)
      → IsAnswered (exec (woven_budget budget)) woven (same_shelf handed lent) d
      → IsAnswered (trace budget) bytes (same_shelf handed lent) d
  as_trace budget handed lent _ (refused form cause reads why same) =
      absurd (never forms.WovenText woven back.program cause (of_units back.program back.read)
      (subst (λ f. IsRefused f woven cause) (sym (some_same reads)) why))
  as_trace budget handed lent d (unmapped is2 x same) = absurd (cc)
  as_trace budget handed lent d (replayed chosen is2 x same) = absurd (cc)
  as_trace budget handed lent d (accepted form q reads a (same, answer)) =
      by_answer (subst (λ f. IsRead f woven q) (sym (some_same reads)) a) d answer
    where
      by_answer : IsRead forms.WovenText woven q → (x : Due) → IsTracedAlone q (woven_budget budget) x
          → IsAnswered (trace budget) bytes (same_shelf handed lent) x
      by_answer read _ ended_alone =
          subst (λ x. IsAnswered (trace budget) bytes (same_shelf handed lent) x) (sym (same_due q budget read))
          (accepted forms.Script p refl is (same, ended_woven))

  pub stands_alone : StandsAlone bytes p
  stands_alone = record { as_trace = as_trace; as_exec = as_exec }
