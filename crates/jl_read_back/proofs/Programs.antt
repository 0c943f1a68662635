-- Programs with places that are woven ones without them.
use Rattle.std.proofs.Common.{◌≡◌, ◌∙◌, ℕ, ◌+◌, ◌*◌, ◌≤◌, List, length, ap, subst, sym, arith}
use Rattle.jl_ast.proofs.SameHeight.{moved}
use Rattle.jl_ast.proofs.SameNumbers.{numbered_moved}
use Rattle.jl_ast.specs.Height.{program_height}
use Rattle.jl_ast.specs.Numbering.{numbered_tree}
use Rattle.jl_ast.specs.Spans.{map_tree, without_spans}
use Rattle.jl_ast.specs.Tree.{Program}
use Rattle.jl_grammar.specs.Program.{Reads}
use Rattle.jl_op.specs.Chosen.{Kinds}
use Rattle.jl_op.specs.Ids.{id_count}
use Rattle.jl_print.specs.Laws.{PrintedReadsBack, ReadIsWellFormed, TextIsPaired}
use Rattle.jl_print.specs.WellFormed.{IsWellFormed}
use Rattle.jl_simulation.specs.Weaving.{woven_program}
use Rattle.jl_text.specs.declared.span.Span.{Span}
use Rattle.jl_token.specs.Tokens.{FewTokens}
use Rattle.jl_token.specs.declared.token.Token.{Token}
use Rattle.jl_read_back.specs.Laws.{HasIds, ReadsBackWithin, WovenHeight, WovenIsWellFormed}
use Rattle.jl_read_back.specs.Laws.{WovenReadsBack}
use Rattle.jl_read_back.specs.Woven.{IsWoven}
use Rattle.jl_read_back.proofs.FixedNumbers.{fixed}
use Rattle.jl_read_back.proofs.Formed.{woven_formed}
use Rattle.jl_read_back.proofs.Heights.{woven_low}
use Rattle.jl_read_back.proofs.Numbers.{woven_numbered}
use Rattle.jl_read_back.proofs.Places.{placed}

-- a program is well formed where it is without its places
well_placed : {S : Type 0} (q : Program S) → IsWellFormed (without_spans q) → IsWellFormed q
well_placed q w =
    let same : numbered_tree 0 (map_tree (λ s. tt) q.body) ≡ map_tree (λ s. tt) q.body =
    ap (λ p. p.body) w.numbers in
    record {
      body = placed (λ s. tt) q.body w.body;
      numbers = ap (λ b. record { body = b; at = q.at })
          (fixed (λ s. tt) q.body 0 (sym (numbered_moved (λ s. tt) 0 q.body) ∙ same));
    }

pub well_formed : {S T : Type 0} → WovenIsWellFormed S T
well_formed chosen p q w few e =
    well_placed q (subst (λ u. IsWellFormed u) (sym e)
    (record { body = woven_formed chosen p w.body few; numbers = woven_numbered chosen p w.numbers }))

pub low : {S T : Type 0} → WovenHeight S T
low chosen p q e =
    let same : program_height (without_spans q) ≡ program_height q = moved (λ s. tt) q.body in
    let is : program_height (without_spans q) ≡ program_height (woven_program chosen p) =
    ap (λ u. program_height u) e in
    let at_most = woven_low chosen p in
    omega arith

-- its canonical text reads back
pub reads_back : PrintedReadsBack → TextIsPaired → (chosen : Kinds) (p q : Program Span) (limit : ℕ) → IsWellFormed p
    → HasIds p → 3 * program_height p + 4 ≤ limit → IsWoven chosen p q → ReadsBackWithin limit q
reads_back printed paired chosen p q limit w few small e =
    let v = well_formed chosen p q w few e in
    let at_most = low chosen p q e in
    record { back = printed q limit v (omega arith); paired = paired q v }

-- so does that of every program that is read
pub read_program : PrintedReadsBack → TextIsPaired → ReadIsWellFormed → FewTokens → (entries : Program Span → ℕ)
    → ((p : Program Span) → entries p ≡ 2 + id_count p.body)
    → ((ts : List Token) (limit : ℕ) (p : Program Span) → Reads ts limit p → entries p ≤ 4 * length ts + 2)
    → WovenReadsBack
read_program printed paired formed tokens entries has few chosen text ts limit within p q lexed read short small e =
    let count = has p in
    let few_entries = few ts limit p read in
    let few_units = tokens text ts lexed in
    let low_enough = read.low in
    reads_back printed paired chosen p q within (formed text ts limit p lexed read) (omega arith) (omega arith) e
