-- How many bytes tokens take as they are spelled, with one more after each.
use Rattle.std.proofs.Common.{◌≡◌, ℕ, ◌+◌, ◌*◌, ◌/◌, ◌%◌, ◌<◌, ◌≤◌, Bool, true, false, List, [], ◌∷◌, ◌++◌}
use Rattle.std.proofs.Common.{refl, arith}
use Rattle.std.proofs.lemmas.Bool.Decides.{nat_tests}
use Rattle.std.specs.Char.{digit_char}
use Rattle.std.specs.Prelude.{if◌then◌else◌, slice_index, Option, None, Some, ◌||◌}
use Rattle.jl_ast.specs.Tree.{Text}
use Rattle.jl_ast.specs.declared.ops.BinOp.{BinOp}
use Rattle.jl_ast.specs.declared.ops.BinOp.TheVariants as ops
use Rattle.jl_ast.specs.declared.ops.UnOp.{UnOp}
use Rattle.jl_ast.specs.declared.ops.UnOp.TheVariants as prefixes
use Rattle.jl_op.specs.Trace.{binary_sign, unary_sign}
use Rattle.jl_op.specs.declared.sign.UnKind.{UnKind}
use Rattle.jl_op.specs.declared.sign.UnKind.TheVariants as unary
use Rattle.jl_print.specs.CanonicalTokens.{directive}
use Rattle.jl_print.specs.Layout.{between, layout_of}
use Rattle.jl_print.specs.Pieces.{assign_punct, in_parens_unless, is_bare_key, key, name, operator}
use Rattle.jl_print.specs.Pieces.{prefix_operator, string, update_operator}
use Rattle.jl_text.specs.Quoted.{is_hidden, is_lone, quoted_after, quoted_unit, short_escape, unicode_escape}
use Rattle.jl_token.specs.Spelling.{spelling_of}
use Rattle.jl_token.specs.declared.token.TokenKind.{TokenKind}
use Rattle.jl_token.specs.declared.token.TokenKind.TheVariants as kinds
use Rattle.jl_read_back.specs.inner.Bytes.{excess, most_bytes, text_weight, unit_bytes}
use Rattle.jl_read_back.specs.inner.Width.{directive_width, string_width}
use Rattle.jl_read_back.proofs.Bytes.{bytes_append, bytes_few, excess_none, one_byte}
use Rattle.jl_read_back.proofs.Escapes.{short_small}

-- what is written by its number is a unit
small : (before u after : ℕ) → (is_hidden u || is_lone before u after) ≡ true → u < 0x1_0000
small before u after h = grind (arith, nat_tests)

module _ (heavy : ℕ) where
  abbrev pub size : List TokenKind → ℕ
  size [] = 0
  size (k ∷ ks) = most_bytes heavy (spelling_of k) + 1 + size ks

  pub size_append : (a b : List TokenKind) → size (a ++ b) ≡ size a + size b
  size_append [] b = omega arith
  size_append (k ∷ a) b = omega (arith, size_append a b)

  -- what stands between two tokens is a byte or nothing
  gap_few : (a b c : Bool)
      → most_bytes heavy (if a then 10 ∷ [] else (if b then 32 ∷ [] else (if c then [] else 32 ∷ []))) ≤ 1
  gap_few true b c = omega arith
  gap_few false true c = omega arith
  gap_few false false true = omega arith
  gap_few false false false = omega arith

  between_few : (k l : TokenKind) → most_bytes heavy (between k l) ≤ 1
  between_few k l = gap_few _ _ _

  -- so the text that they are laid out as has no more
  pub laid_few : (ks : List TokenKind) → most_bytes heavy (layout_of ks) ≤ size ks
  laid_few [] = omega arith
  laid_few (k ∷ []) = omega (arith, bytes_append heavy (spelling_of k) (10 ∷ []))
  laid_few (k ∷ l ∷ ks) =
      let a = bytes_append heavy (spelling_of k) (between k l ++ layout_of (l ∷ ks)) in
      let b = bytes_append heavy (between k l) (layout_of (l ∷ ks)) in
      let c = between_few k l in let d = laid_few (l ∷ ks) in omega arith

  -- what is written by its number takes six
  digit_one : (d : ℕ) → d < 16 → unit_bytes heavy (digit_char d) ≡ 1
  digit_one d h = one_byte heavy (digit_char d) (grind (arith, nat_tests))

  escape_few : (u : ℕ) → u < 0x1_0000 → most_bytes heavy (unicode_escape u) ≤ 6
  escape_few u h =
      let a = digit_one (u / 0x1000) (omega arith) in let b = digit_one (u / 0x100 % 0x10) (omega arith) in
      let c = digit_one (u / 0x10 % 0x10) (omega arith) in let d = digit_one (u % 0x10) (omega arith) in omega arith

  -- a unit of a string is written with six at most
  unit_few : (before u after : ℕ) → most_bytes heavy (quoted_unit before u after) ≤ 6 + 6 * excess heavy u
  unit_few before u after = go (short_escape u) refl (is_hidden u || is_lone before u after) refl
    where
      go : (o : Option ℕ) → short_escape u ≡ o → (b : Bool) → (is_hidden u || is_lone before u after) ≡ b
          → most_bytes heavy (quoted_unit before u after) ≤ 6 + 6 * excess heavy u
      go (Some letter) e b f =
          let q = excess_none heavy letter (short_small u letter e) in
          rw e (let a = bytes_few heavy (letter ∷ []) in omega arith)
      go None e true f = let q = escape_few u (small before u after f) in rw (e, f) (omega arith)
      go None e false f = rw (e, f) (let a = bytes_few heavy (u ∷ []) in omega arith)

  units_few : (before : ℕ) (us : List ℕ) → most_bytes heavy (quoted_after before us) ≤ 6 * text_weight heavy us
  units_few before [] = omega arith
  units_few before (u ∷ us) =
      let a = bytes_append heavy (quoted_unit before u (slice_index us 0)) (quoted_after u us) in
      let b = unit_few before u (slice_index us 0) in let c = units_few u us in omega arith

  pub string_few : (t : Text) → string_width heavy t ≤ 6 * text_weight heavy t + 3
  unfolding string_width
  string_few t = let a = bytes_append heavy (quoted_after 0 t) (0x22 ∷ []) in let b = units_few 0 t in omega arith

  pub string_is : (t : Text) → most_bytes heavy (spelling_of (string t)) + 1 ≤ string_width heavy t
  unfolding string_width
  string_is t = omega arith

  -- the key of a property
  pub key_few : (t : Text) → most_bytes heavy (spelling_of (key t)) ≤ 6 * text_weight heavy t + 2
  key_few t = go (is_bare_key t)
    where
      go : (b : Bool) → most_bytes heavy (spelling_of (if b then name t else string t)) ≤ 6 * text_weight heavy t + 2
      go true = let a = bytes_few heavy t in omega arith
      go false = let a = string_is t in let b = string_few t in omega arith

  -- the signs of the operators
  pub binary_sign_few : (o : BinOp) → string_width heavy (binary_sign o) ≤ 13
  unfolding string_width
  binary_sign_few ops.InstanceOf = omega arith
  binary_sign_few _ = omega arith

  pub unary_sign_few : (o : UnKind) → string_width heavy (unary_sign o) ≤ 9
  unfolding string_width
  unary_sign_few unary.Typeof = omega arith
  unary_sign_few _ = omega arith

  pub directive_few : (strict : Bool) → size (directive strict) ≤ directive_width strict
  directive_few true = omega arith
  directive_few false = omega arith

  -- brackets where they are needed
  pub bracketed : (b : Bool) (ks : List TokenKind) (n : ℕ) → size ks + 4 ≤ n → size (in_parens_unless b ks) ≤ n
  bracketed true ks n h = omega arith
  bracketed false ks n h = omega (arith, size_append)

  pub operator_few : (o : BinOp) → most_bytes heavy (spelling_of (operator o)) ≤ 10
  operator_few ops.InstanceOf = omega arith
  operator_few _ = omega arith

  pub prefix_few : (o : UnOp) → most_bytes heavy (spelling_of (prefix_operator o)) ≤ 6
  prefix_few prefixes.Typeof = omega arith
  prefix_few _ = omega arith

  pub update_few : (up : Bool) → most_bytes heavy (spelling_of (update_operator up)) ≤ 2
  update_few true = omega arith
  update_few false = omega arith

  pub assign_few : (o : BinOp) → most_bytes heavy (spelling_of (kinds.Punct (assign_punct o))) ≤ 4
  assign_few ops.Shr = omega arith
  assign_few _ = omega arith
