-- How many bytes the canonical text of the woven script takes, and so how many units it has.
use Rattle.std.proofs.Common.{◌≡◌, codes, ℕ, ◌+◌, ◌*◌, ◌<◌, ◌≤◌, Bool, true, false, ◌||◌, List, length, refl, ap, sym}
use Rattle.std.proofs.Common.{◌∙◌, arith}
use Rattle.std.specs.Prelude.{if◌then◌else◌}
use Rattle.jl_ast.specs.Tree as tree
use Rattle.jl_ast.specs.Tree.{Forest, Program, Tree}
use Rattle.jl_grammar.specs.Program.{Reads}
use Rattle.jl_op.specs.Chosen.{Kinds}
use Rattle.jl_op.specs.Ids.{forest_id_count, forest_with_ids, id_count, with_ids}
use Rattle.jl_op.specs.declared.kind.OpKind.TheVariants as kind
use Rattle.jl_print.specs.CanonicalTokens.{tokens_of, tokens_of_all, tokens_of_node}
use Rattle.jl_print.specs.Laws.{ReadIsWellFormed}
use Rattle.jl_print.specs.Layout.{text_of}
use Rattle.jl_print.specs.WellFormed.{AllWellFormed, WellFormed}
use Rattle.jl_print.proofs.WithoutPlaces.{same_text}
use Rattle.jl_scope.specs.Names.{hooks_name}
use Rattle.jl_simulation.specs.HookCalls.{and_last, begin_and_end, hook, hook_statement, no_exprs, Stmt, Stmts}
use Rattle.jl_simulation.specs.Weaving.{woven_code, woven_forest, woven_program}
use Rattle.jl_text.specs.Encoding.{units_of}
use Rattle.jl_text.specs.declared.span.Span.{Span}
use Rattle.jl_token.specs.Tokens.{FewTokens, Tokens}
use Rattle.jl_token.specs.declared.token.Token.{Token}
use Rattle.jl_read_back.specs.Laws.{WovenBytesAreBounded, WovenScriptIsBounded, WovenScriptIsSmall}
use Rattle.jl_read_back.specs.Laws.{WovenTextIsBounded, WovenUnitsAreSmall}
use Rattle.jl_read_back.specs.Woven.{IsWoven}
use Rattle.jl_read_back.specs.inner.Bytes.{most_bytes, text_weight}
use Rattle.jl_read_back.specs.inner.Weight.{weight, weights}
use Rattle.jl_read_back.specs.inner.Width.{widths}
use Rattle.jl_read_back.proofs.Bytes.{bytes_within, fewer_units, units_within}
use Rattle.jl_read_back.proofs.Formed.{woven_formed}
use Rattle.jl_read_back.proofs.Lengths as tokens
use Rattle.jl_read_back.proofs.Narrow.{all_narrow, directed}
use Rattle.jl_read_back.proofs.SameWeight.{renumbered}
use Rattle.jl_read_back.proofs.Spelled.{directive_few, laid_few, size, size_append}
use Rattle.jl_read_back.proofs.Units.{light_units, light_weight, units_weight, utf8_units}
use Rattle.jl_read_back.proofs.Weighed.{body_weighs}
use Rattle.jl_read_back.proofs.Wide.{all_wide}

module _ (heavy : ℕ) where
  -- statements and one more
  last_size : (l : Stmts) (t : Stmt) → size heavy (tokens_of_all (and_last l t))
      ≡ size heavy (tokens_of_all l) + size heavy (tokens_of_node t)
  unfolding tokens_of_node
  last_size tree.end t = omega (arith, size_append heavy)
  last_size (tree.more u l) t = let r = last_size l t in omega (arith, size_append heavy)

  last_formed : (l : Stmts) (t : Stmt) → AllWellFormed (and_last l t) → AllWellFormed l
  last_formed tree.end t w = tt
  last_formed (tree.more u l) t w = (w.0, last_formed l t w.1)

  -- `J$.S(1);` and `J$.X(2);`
  first_size : size heavy (tokens_of_node (hook_statement (hook (codes "S") 1 no_exprs))) ≡ 15
  unfolding tokens_of_node hooks_name
  first_size = refl

  final_size : size heavy (tokens_of_node (hook_statement (hook (codes "X") 2 no_exprs))) ≡ 15
  unfolding tokens_of_node hooks_name
  final_size = refl

  begun_size : (l : Stmts) → size heavy (tokens_of_all (begin_and_end 1 l)) ≡ size heavy (tokens_of_all l) + 30
  unfolding tokens_of_node
  begun_size l =
      let a = first_size in let b = final_size in
      let c = last_size l (hook_statement (hook (codes "X") 2 no_exprs)) in omega (arith, size_append heavy)

  begun : (b : Bool) (l : Stmts) (n : ℕ) → AllWellFormed (if b then begin_and_end 1 l else l) → widths heavy l ≤ n
      → size heavy (tokens_of_all (if b then begin_and_end 1 l else l)) ≤ n + 30
  begun true l n w h =
      let a = begun_size l in let b = all_wide heavy l (last_formed l _ w.1) in omega arith
  begun false l n w h = let a = all_wide heavy l w in omega arith

  module _ (chosen : Kinds) where
    code_few : {S : Type 0} (b : Tree S tree.code) → WellFormed (woven_code chosen 1 (with_ids 3 b))
        → size heavy (tokens_of_node (woven_code chosen 1 (with_ids 3 b))) ≤ 64 * weight heavy b + 64
    unfolding tokens_of_node
    code_few (tree.body strict fs l) w =
        let a = all_wide heavy (woven_forest chosen (forest_with_ids 3 fs)) w.1 in
        let b = all_narrow heavy chosen fs 3 in
        let c = begun (chosen kind.ScriptEnter || chosen kind.ScriptExit)
        (woven_forest chosen (forest_with_ids (3 + forest_id_count fs) l)) (64 * weights heavy l) w.2
        (all_narrow heavy chosen l (3 + forest_id_count fs)) in
        let d = directive_few heavy strict in let e = directed strict in
        omega (arith, size_append heavy)

    -- of the woven program
    woven_few : {S : Type 0} (p : Program S) → WellFormed (woven_program chosen p).body
        → most_bytes heavy (text_of (woven_program chosen p)) ≤ 64 * weight heavy p.body + 64
    unfolding woven_program
    woven_few p w =
        let a = code_few p.body w in let b = laid_few heavy (tokens_of (woven_program chosen p)) in omega arith

    -- of one with places
    placed_few : {S T : Type 0} (p : Program S) (q : Program T) → WellFormed (woven_program chosen p).body
        → IsWoven chosen p q → most_bytes heavy (text_of q) ≤ 64 * weight heavy p.body + 64
    placed_few p q w e =
        let a = woven_few p w in
        let b : most_bytes heavy (text_of q) ≡ most_bytes heavy (text_of (woven_program chosen p)) =
        ap (most_bytes heavy) (sym (same_text q) ∙ ap (λ u. text_of u) e) in omega arith

  -- what is read weighs at most its text
  read_light : (text : List ℕ) (ts : List Token) (limit : ℕ) (p : Program Span) → Tokens text ts → Reads ts limit p
      → weight heavy p.body ≤ text_weight heavy text
  read_light text ts limit p lexed r =
      let e : weight heavy p.body ≡ weight heavy r.code =
      ap (λ (q : Program Span). weight heavy q.body) r.is ∙ renumbered heavy 0 r.code in
      let a = body_weighs heavy ts (tokens.before heavy ts) (tokens.one heavy ts) (tokens.named heavy ts)
      (tokens.keyed heavy ts) (tokens.updates heavy ts) (tokens.assigns heavy ts) r.whole in
      let b = tokens.long heavy text ts lexed in omega arith

-- the woven text takes at most 64 bytes for each unit of the text, and 64, however heavy what is no unit may be
abbrev IsBounded : Type 0
IsBounded =
    (heavy : ℕ) (chosen : Kinds) (text : List ℕ) (ts : List Token) (limit : ℕ) (p q : Program Span) → Tokens text ts
    → Reads ts limit p → length text < 1073741823 → IsWoven chosen p q
    → most_bytes heavy (text_of q) ≤ 64 * text_weight heavy text + 64

-- of what is read the laws say that it is well formed, that it has few tokens, and few entries of the map
module _ (well_formed : ReadIsWellFormed) (few_tokens : FewTokens) (entries : Program Span → ℕ)
    (has : (p : Program Span) → entries p ≡ 2 + id_count p.body)
    (few : (ts : List Token) (limit : ℕ) (p : Program Span) → Reads ts limit p → entries p ≤ 4 * length ts + 2) where
  bounded : IsBounded
  bounded heavy chosen text ts limit p q lexed read short e =
      let count = has p in
      let few_entries = few ts limit p read in
      let few_units = few_tokens text ts lexed in
      let w = woven_formed chosen p (well_formed text ts limit p lexed read).body (omega arith) in
      let a = placed_few heavy chosen p q w e in
      let b = read_light heavy text ts limit p lexed read in omega arith

  -- where nothing is heavy, it has no more units, and takes no more bytes
  light : (chosen : Kinds) (text : List ℕ) (ts : List Token) (limit : ℕ) (p q : Program Span) → Tokens text ts
      → Reads ts limit p → length text < 1073741823 → IsWoven chosen p q
      → most_bytes 0 (text_of q) ≤ 64 * length text + 64
  light chosen text ts limit p q lexed read short e =
      omega (arith, bounded 0 chosen text ts limit p q lexed read short e, light_weight text)

  pub units_bounded : WovenTextIsBounded
  units_bounded chosen text ts limit p q lexed read short e =
      omega (
        arith,
        light chosen text ts limit p q lexed read short e,
        fewer_units 0 (text_of q),
        light_weight (text_of q),
      )

  pub bytes_bounded : WovenBytesAreBounded
  bytes_bounded chosen text ts limit p q lexed read short e =
      omega (arith, light chosen text ts limit p q lexed read short e, bytes_within 0 (text_of q))

  -- where what is no unit is heavier than all the text may be, there is none
  pub units_small : WovenUnitsAreSmall
  units_small chosen text ts limit p q lexed read short e units =
      let heavy : ℕ = 64 * length text + 65 in
      let a = bounded heavy chosen text ts limit p q lexed read short e in
      let b = units_weight heavy text units in light_units heavy (text_of q) (omega arith)

  -- and a script has no more units than bytes
  pub script_bounded : WovenScriptIsBounded
  script_bounded chosen bytes ts limit p q utf8 lexed read short e =
      let u = units_within bytes utf8 in
      omega (arith, bytes_bounded chosen (units_of bytes) ts limit p q lexed read (omega arith) e)

  -- and only such as are below 2^16
  pub script_small : WovenScriptIsSmall
  script_small chosen bytes ts limit p q utf8 lexed read short e =
      let u = units_within bytes utf8 in
      units_small chosen (units_of bytes) ts limit p q lexed read (omega arith) e (utf8_units bytes utf8)
