-- What the laws of the lower crates say of an accepted script and its woven one.
use Rattle.std.specs.Prelude.{◌≡◌, ◌+◌, ◌<◌, ◌≤◌, ◌^◌, All, false, length, ℕ}
use Rattle.std.specs.Char.Utf16.{has_unpaired_surrogate}
use Rattle.jl_ast.specs.Spans.{without_spans}
use Rattle.jl_ast.specs.Tree.{Program}
use Rattle.jl_effects.specs.Growing.{IsLonger}
use Rattle.jl_effects.specs.Matching.{Simulates}
use Rattle.jl_op.specs.Chosen.{is_kept, Kinds}
use Rattle.jl_simulation.specs.Weaving.{woven_program}
use Rattle.jl_text.specs.Encoding.{bytes_of}
use Rattle.jl_text.specs.declared.span.Span.{Span}
use Rattle.jl_app.specs.Forms.{most_bytes}
use Rattle.jl_app.specs.OwnRuns.{own_run}
use Rattle.jl_app.specs.ReadBack.{IsReadBack}
use Rattle.jl_app.specs.WovenRuns.{woven_run}
use Rattle.jl_app.specs.WovenText.{woven_text}
use Rattle.jl_app.specs.declared.form.Form.TheVariants as forms

-- The text of the script that is woven for these kinds reads back, and as nothing else. It has no more bytes than a
-- woven text may have, its units have 16 bits, and each surrogate has its partner.
pub record ReadsBackAsWoven (kinds : Kinds) (p : Program Span) : Type 0 where
  pub program : Program Span
  pub read : IsReadBack (woven_text kinds p) program
  pub same : (q : Program Span) → IsReadBack (woven_text kinds p) q → without_spans q ≡ woven_program kinds p
  pub few_bytes : length (bytes_of (woven_text kinds p)) ≤ most_bytes forms.WovenText
  pub small : All (λ u. u < 2 ^ 16) (woven_text kinds p)
  pub paired : has_unpaired_surrogate (woven_text kinds p) ≡ false

-- the woven script simulates the script; its text reads back; and the script's own run goes on as long as there are
-- steps
pub record IsWovenWell (kinds : Kinds) (p : Program Span) : Type 0 where
  pub simulates : Simulates (is_kept kinds) (own_run p) (woven_run kinds p)
  pub back : ReadsBackAsWoven kinds p
  pub longer : (n d : ℕ) → IsLonger d (own_run p n) (own_run p (n + d))
