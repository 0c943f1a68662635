-- Operators and callees at the front of units.
use Rattle.std.proofs.Common.{◌≡◌, ℕ, ◌<◌, ◌^◌, List, ◌∷◌, ◌++◌, Bool, true, length, Some, refl, sym}
use Rattle.std.proofs.Common.{ap, ◌∙◌, arith, append_assoc, drop, nat_lt, All}
use Rattle.std.specs.Prelude.{slice_get}
use Rattle.std.specs.Fmt.{decimal}
use Rattle.std.specs.List.{list_all}
use Rattle.std.proofs.Common.{◌&&◌, false, get_or}
use Rattle.std.proofs.lemmas.Bool.Decides.{nat_tests}
use Rattle.std.proofs.lemmas.List.Sums.{AllPass-from_list_all}
use Rattle.jl_ast.specs.declared.ops.BinOp.{BinOp}
use Rattle.jl_ast.specs.declared.ops.BinOp.TheVariants as binary
use Rattle.jl_op.specs.Trace.{binary_sign, unary_sign}
use Rattle.jl_op.specs.declared.callee.Callee.{Callee}
use Rattle.jl_op.specs.declared.callee.Callee.TheVariants as callees
use Rattle.jl_op.specs.declared.sign.UnKind.{UnKind}
use Rattle.jl_op.specs.declared.sign.UnKind.TheVariants as unary
use Rattle.jl_text.specs.Quoted.{quote}
use Rattle.jl_value.specs.Builtins.{builtins, entry_of, name_of}
use Rattle.jl_value.specs.declared.builtin.Builtin.{Builtin}
use Rattle.jl_value.proofs.Rows.{all_pass}
use Rattle.jl_record.specs.Facts.{a_text, a_number, a_truth, a_callee, truth_mark, callee_mark, IsText, IsCallee}
use Rattle.jl_record.specs.Named.{all_binary, all_unary}
use Rattle.jl_record.specs.Reading.{IsFirst, NoneIsFirst, Takes, Fails}
use Rattle.jl_record.proofs.Marks.{one_fact}
use Rattle.jl_record.proofs.Quotes.{one_quote}

-- ---- each sign and each builtin's name is a text

abbrev is_short : List ℕ → Bool
is_short us = nat_lt (length us) 100 && list_all (λ u. nat_lt u 128) us

units_small : (us : List ℕ) → list_all (λ u. nat_lt u 128) us ≡ true → All (λ u. u < 2 ^ 16) us
units_small us h i d below =
    let passes : nat_lt (get_or us i d) 128 ≡ true = AllPass-from_list_all (λ u. nat_lt u 128) us h i d below in
    let low : get_or us i d < 128 = grind (arith, nat_tests) in
    omega arith

both : (a b : Bool) → (a && b) ≡ true → (a ≡ true) × (b ≡ true)
both true b e = (refl, e)
both false b e = cc

short_is_text : (us : List ℕ) → is_short us ≡ true → IsText us
short_is_text us h =
    let parts = both (nat_lt (length us) 100) (list_all (λ u. nat_lt u 128) us) h in
    let short : length us < 100 = let first = parts.0 in grind (arith, nat_tests) in
    (omega arith, units_small us parts.1)

pub binary_is_text : (op : BinOp) → IsText (binary_sign op)
binary_is_text binary.Mul = short_is_text (binary_sign binary.Mul) refl
binary_is_text binary.Div = short_is_text (binary_sign binary.Div) refl
binary_is_text binary.Rem = short_is_text (binary_sign binary.Rem) refl
binary_is_text binary.Add = short_is_text (binary_sign binary.Add) refl
binary_is_text binary.Sub = short_is_text (binary_sign binary.Sub) refl
binary_is_text binary.Shl = short_is_text (binary_sign binary.Shl) refl
binary_is_text binary.Sar = short_is_text (binary_sign binary.Sar) refl
binary_is_text binary.Shr = short_is_text (binary_sign binary.Shr) refl
binary_is_text binary.Less = short_is_text (binary_sign binary.Less) refl
binary_is_text binary.Greater = short_is_text (binary_sign binary.Greater) refl
binary_is_text binary.LessEq = short_is_text (binary_sign binary.LessEq) refl
binary_is_text binary.GreaterEq = short_is_text (binary_sign binary.GreaterEq) refl
binary_is_text binary.InstanceOf = short_is_text (binary_sign binary.InstanceOf) refl
binary_is_text binary.In = short_is_text (binary_sign binary.In) refl
binary_is_text binary.Equal = short_is_text (binary_sign binary.Equal) refl
binary_is_text binary.NotEqual = short_is_text (binary_sign binary.NotEqual) refl
binary_is_text binary.StrictEqual = short_is_text (binary_sign binary.StrictEqual) refl
binary_is_text binary.StrictNotEqual = short_is_text (binary_sign binary.StrictNotEqual) refl
binary_is_text binary.BitAnd = short_is_text (binary_sign binary.BitAnd) refl
binary_is_text binary.BitXor = short_is_text (binary_sign binary.BitXor) refl
binary_is_text binary.BitOr = short_is_text (binary_sign binary.BitOr) refl

pub unary_is_text : (op : UnKind) → IsText (unary_sign op)
unary_is_text unary.Minus = short_is_text (unary_sign unary.Minus) refl
unary_is_text unary.Plus = short_is_text (unary_sign unary.Plus) refl
unary_is_text unary.Not = short_is_text (unary_sign unary.Not) refl
unary_is_text unary.Tilde = short_is_text (unary_sign unary.Tilde) refl
unary_is_text unary.Typeof = short_is_text (unary_sign unary.Typeof) refl
unary_is_text unary.Void = short_is_text (unary_sign unary.Void) refl
unary_is_text unary.Up = short_is_text (unary_sign unary.Up) refl
unary_is_text unary.Down = short_is_text (unary_sign unary.Down) refl

names_are_short : list_all (λ b. is_short (name_of b)) builtins ≡ true
unfolding builtins entry_of
names_are_short = refl

pub builtin_is_text : (b : Builtin) → IsText (name_of b)
builtin_is_text b = short_is_text (name_of b) (all_pass (λ c. is_short (name_of c)) names_are_short b)

pub binary_listed : (op : BinOp) → (at : ℕ) × (slice_get all_binary at ≡ Some op)
binary_listed binary.Mul = (0, refl)
binary_listed binary.Div = (1, refl)
binary_listed binary.Rem = (2, refl)
binary_listed binary.Add = (3, refl)
binary_listed binary.Sub = (4, refl)
binary_listed binary.Shl = (5, refl)
binary_listed binary.Sar = (6, refl)
binary_listed binary.Shr = (7, refl)
binary_listed binary.Less = (8, refl)
binary_listed binary.Greater = (9, refl)
binary_listed binary.LessEq = (10, refl)
binary_listed binary.GreaterEq = (11, refl)
binary_listed binary.InstanceOf = (12, refl)
binary_listed binary.In = (13, refl)
binary_listed binary.Equal = (14, refl)
binary_listed binary.NotEqual = (15, refl)
binary_listed binary.StrictEqual = (16, refl)
binary_listed binary.StrictNotEqual = (17, refl)
binary_listed binary.BitAnd = (18, refl)
binary_listed binary.BitXor = (19, refl)
binary_listed binary.BitOr = (20, refl)

pub unary_listed : (op : UnKind) → (at : ℕ) × (slice_get all_unary at ≡ Some op)
unary_listed unary.Minus = (0, refl)
unary_listed unary.Plus = (1, refl)
unary_listed unary.Not = (2, refl)
unary_listed unary.Tilde = (3, refl)
unary_listed unary.Typeof = (4, refl)
unary_listed unary.Void = (5, refl)
unary_listed unary.Up = (6, refl)
unary_listed unary.Down = (7, refl)

-- ---- a name between quotes

module _ {A : Type 0} (name : A → List ℕ) (units : List ℕ) where
  abbrev pub Quoted : A → List ℕ
  Quoted a = quote (name a)

  pub no_quoted : ((a : A) → IsText (name a)) → Fails a_text units → NoneIsFirst (λ (a : A). Unit {0}) Quoted units
  no_quoted texts none a left is end e = none (name a) left (texts a) end e

  pub no_name : (table : List A) → ((a : A) → (at : ℕ) × (slice_get table at ≡ Some a)) → (text rest : List ℕ)
      → Takes a_text units text rest → ((at : ℕ) (a : A) → slice_get table at ≡ Some a → text ≡ name a → ⊥)
      → NoneIsFirst (λ (a : A). Unit {0}) Quoted units
  no_name table listed text rest here none a left is end e =
      let place = listed a in
      none place.0 a place.1 (one_quote text (name a) rest left (sym here.marked ∙ e)).0

  pub name_taken : (a : A) (text rest : List ℕ) → Takes a_text units text rest → text ≡ name a
      → IsFirst (λ (a : A). Unit {0}) Quoted units a rest
  name_taken a text rest here same =
      record { is = tt; end = here.end; marked = here.marked ∙ ap (λ t. quote t ++ rest) same }

-- ---- builtins

only_native : (c : Callee) (us x : List ℕ) → 98 ∷ us ≡ callee_mark c ++ x
    → (b : Builtin) × (c ≡ callees.Native b) × (us ≡ 32 ∷ (quote (name_of b) ++ x))
only_native (callees.Script f p m) us x e = absurd (let h : 98 ≡ 115 = ap (λ us. get_or us 0 0) e in omega arith)
only_native (callees.Native b) us x e = (b, refl, ap (λ us. drop 1 us) e)

module _ (rest : List ℕ) where
  pub no_native_space : ((more : List ℕ) → rest ≡ 32 ∷ more → ⊥) → Fails a_callee (98 ∷ rest)
  no_native_space none c left is end e =
      let only = only_native c rest left e in
      none (quote (name_of only.0) ++ left) only.2

  pub no_native_text : (quoted : List ℕ) → rest ≡ 32 ∷ quoted → Fails a_text quoted → Fails a_callee (98 ∷ rest)
  no_native_text quoted space none c left is end e =
      let only = only_native c rest left e in
      none (name_of only.0) left (builtin_is_text only.0) end
      (ap (λ us. drop 1 us) (sym space ∙ only.2))

  pub no_native : (quoted text more : List ℕ) → rest ≡ 32 ∷ quoted → Takes a_text quoted text more
      → ((b : Builtin) → text ≡ name_of b → ⊥) → Fails a_callee (98 ∷ rest)
  no_native quoted text more space here none c left is end e =
      let only = only_native c rest left e in
      none only.0
      (one_quote text (name_of only.0) more left
      (sym here.marked ∙ ap (λ us. drop 1 us) (sym space ∙ only.2))).0

  pub native_taken : (quoted text more : List ℕ) (b : Builtin) → rest ≡ 32 ∷ quoted → Takes a_text quoted text more
      → text ≡ name_of b → Takes a_callee (98 ∷ rest) (callees.Native b) more
  native_taken quoted text more b space here known = record {
    is = tt;
    end = here.end;
    marked = ap (λ us. 98 ∷ us)
        (space ∙ ap (λ us. 32 ∷ us) (here.marked ∙ ap (λ t. quote t ++ more) known));
  }

-- ---- functions of the script

abbrev function_parts : (function params : ℕ) (mentions : Bool) (left : List ℕ) → List ℕ
function_parts function params mentions left =
    32 ∷ (decimal function ++ 32 ∷ (decimal params ++ 32 ∷ (truth_mark mentions ++ left)))

record IsScript (c : Callee) (rest left : List ℕ) : Type 0 where
  function : ℕ
  params : ℕ
  mentions : Bool
  few_functions : function < 2 ^ 32
  few_params : params < 2 ^ 32
  is : rest ≡ function_parts function params mentions left

only_script : (c : Callee) (us x : List ℕ) → IsCallee c → 115 ∷ us ≡ callee_mark c ++ x → IsScript c us x
only_script (callees.Native b) us x is e = absurd (let h : 115 ≡ 98 = ap (λ us. get_or us 0 0) e in omega arith)
only_script (callees.Script f p m) us x is e = record {
  function = f;
  params = p;
  mentions = m;
  few_functions = is.0;
  few_params = is.1;
  is = ap (λ us. drop 1 us) e ∙ ap (λ us. 32 ∷ us)
      (append_assoc (decimal f) (32 ∷ (decimal p ++ 32 ∷ truth_mark m)) x
      ∙ ap (λ us. decimal f ++ 32 ∷ us) (append_assoc (decimal p) (32 ∷ truth_mark m) x));
}

module _ (rest : List ℕ) where
  pub no_function_space : ((more : List ℕ) → rest ≡ 32 ∷ more → ⊥) → Fails a_callee (115 ∷ rest)
  no_function_space none c left is end e = none _ (only_script c rest left is e).is

  module _ (first : List ℕ) (space : rest ≡ 32 ∷ first) where
    pub no_function : Fails a_number first → Fails a_callee (115 ∷ rest)
    no_function none c left is end e =
        let s = only_script c rest left is e in
        none s.function (32 ∷ (decimal s.params ++ 32 ∷ (truth_mark s.mentions ++ left))) s.few_functions refl
        (ap (λ us. drop 1 us) (sym space ∙ s.is))

    module _ (function : ℕ) (second : List ℕ) (number : Takes a_number first function second) where
      second_is : (c : Callee) (left : List ℕ) (is : IsCallee c) (e : 115 ∷ rest ≡ callee_mark c ++ left)
          → second ≡ 32 ∷ (decimal (only_script c rest left is e).params
          ++ 32 ∷ (truth_mark (only_script c rest left is e).mentions ++ left))
      second_is c left is e =
          let s = only_script c rest left is e in
          (one_fact a_number function s.function second
          (32 ∷ (decimal s.params ++ 32 ∷ (truth_mark s.mentions ++ left))) number.is s.few_functions number.end refl
          (sym number.marked ∙ ap (λ us. drop 1 us) (sym space ∙ s.is))).1

      pub no_params_space : ((more : List ℕ) → second ≡ 32 ∷ more → ⊥) → Fails a_callee (115 ∷ rest)
      no_params_space none c left is end e = none _ (second_is c left is e)

      module _ (third : List ℕ) (next_space : second ≡ 32 ∷ third) where
        pub no_params : Fails a_number third → Fails a_callee (115 ∷ rest)
        no_params none c left is end e =
            let s = only_script c rest left is e in
            none s.params (32 ∷ (truth_mark s.mentions ++ left)) s.few_params refl
            (ap (λ us. drop 1 us) (sym next_space ∙ second_is c left is e))

        module _ (params : ℕ) (fourth : List ℕ) (next_number : Takes a_number third params fourth) where
          fourth_is : (c : Callee) (left : List ℕ) (is : IsCallee c) (e : 115 ∷ rest ≡ callee_mark c ++ left)
              → fourth ≡ 32 ∷ (truth_mark (only_script c rest left is e).mentions ++ left)
          fourth_is c left is e =
              let s = only_script c rest left is e in
              (one_fact a_number params s.params fourth (32 ∷ (truth_mark s.mentions ++ left)) next_number.is
              s.few_params next_number.end refl
              (sym next_number.marked ∙ ap (λ us. drop 1 us) (sym next_space ∙ second_is c left is e))).1

          pub no_mentions_space : ((more : List ℕ) → fourth ≡ 32 ∷ more → ⊥) → Fails a_callee (115 ∷ rest)
          no_mentions_space none c left is end e = none _ (fourth_is c left is e)

          module _ (fifth : List ℕ) (last_space : fourth ≡ 32 ∷ fifth) where
            pub no_mentions : Fails a_truth fifth → Fails a_callee (115 ∷ rest)
            no_mentions none c left is end e =
                none (only_script c rest left is e).mentions left tt end
                (ap (λ us. drop 1 us) (sym last_space ∙ fourth_is c left is e))

            pub script_taken : (mentions : Bool) (more : List ℕ) → Takes a_truth fifth mentions more
                → Takes a_callee (115 ∷ rest) (callees.Script function params mentions) more
            script_taken mentions more truth = record {
              is = (number.is, next_number.is);
              end = truth.end;
              marked = ap (λ us. 115 ∷ us)
                  (space ∙ ap (λ us. 32 ∷ us) (number.marked
                  ∙ ap (λ us. decimal function ++ us)
                  (next_space ∙ ap (λ us. 32 ∷ us) (next_number.marked
                  ∙ ap (λ us. decimal params ++ us)
                  (last_space ∙ ap (λ us. 32 ∷ us) truth.marked)
                  ∙ sym (append_assoc (decimal params) (32 ∷ truth_mark mentions) more)))
                  ∙ sym (append_assoc (decimal function) (32 ∷ (decimal params ++ 32 ∷ truth_mark mentions)) more)));
            }
