-- The text of a program that is the woven one but for places.
use Rattle.std.proofs.Common.{◌≡◌, ◌∙◌, ap, sym}
use mathlib.Core.Path.{fun_ext}
use Rattle.jl_ast.specs.Spans.{without_spans}
use Rattle.jl_ast.specs.Tree.{Program}
use Rattle.jl_op.specs.Chosen.{Kinds}
use Rattle.jl_op.specs.KindSets.{is_member}
use Rattle.jl_op.specs.declared.kind.OpKind.{OpKind}
use Rattle.jl_op.specs.declared.kind_set.KindSet.{KindSet}
use Rattle.jl_print.proofs.WithoutPlaces.{same_text}
use Rattle.jl_print.specs.Layout.{text_of}
use Rattle.jl_simulation.specs.Weaving.{woven_program}
use Rattle.jl_text.specs.declared.span.Span.{Span}
use Rattle.jl_app.specs.WovenText.{woven_text}

pub is_woven_text : (kinds : Kinds) (p woven : Program Span) → without_spans woven ≡ woven_program kinds p
    → text_of woven ≡ woven_text kinds p
is_woven_text kinds p woven is = sym (same_text woven) ∙ ap (λ (r : Program (Unit {0})). text_of r) is

-- the kinds of a set that passes the same kinds
pub of_kinds_text : (set : KindSet) (kinds : Kinds) → ((kind : OpKind) → is_member set kind ≡ kinds kind)
    → (p : Program Span) → woven_text (is_member set) p ≡ woven_text kinds p
of_kinds_text set kinds same p = ap (λ chosen. woven_text chosen p) (fun_ext same)
