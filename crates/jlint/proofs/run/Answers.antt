use Rattle.std.proofs.Common.{◌≡◌, [], ◌∙◌, ℕ, ap, sym, subst, map, All, refl, inl, inr}
use Rattle.jl_analysis.proofs.Filling.{none, more, each_all, cons_is}
use Rattle.jl_analysis.specs.Summary.{Kept, summary}
use denote.Param.Object.{Made, read_made}
use Rattle.jlint.proofs.run.Goals as goal
use Rattle.jlint.proofs.run.OwnLists.{own-1}

-- what is known of a box of a `dyn`, by the checker that it was made of
module _ (at i : own-1.I) (y : (own-1.entry i).0.Denot) (x : (own-1.entry at).0.Denot)
    (made : Made (λ j. (own-1.entry j).0.coded.code) (own-1.entry at).0.coded.code at i y x) where
  rule_is : (own-1.entry i).1.rule_of y ≡ (own-1.entry at).1.rule_of x
  rule_is = read_made own-1 (own-1.entry at) at refl ℕ (λ j z. j.1.rule_of z) i y x made

  fresh_is : (own-1.entry at).1.kept x ≡ summary ((own-1.entry at).1.rule_of x) []
      → (own-1.entry i).1.kept y ≡ summary ((own-1.entry i).1.rule_of y) []
  fresh_is fresh =
      read_made own-1 (own-1.entry at) at refl Kept (λ j z. j.1.kept z) i y x made ∙ fresh
      ∙ ap (λ r. summary r []) (sym rule_is)

-- the checkers, by their places in the list of those that boxes are made of
abbrev nan_made : own-1.I
nan_made = inl tt

abbrev undefined_joined : own-1.I
undefined_joined = inr (inl tt)

abbrev object_joined : own-1.I
object_joined = inr (inr (inl tt))

abbrev undefined_key : own-1.I
undefined_key = inr (inr (inr (inl tt)))

abbrev put_on_primitive : own-1.I
put_on_primitive = inr (inr (inr (inr (inl tt))))

abbrev wrapped_condition : own-1.I
wrapped_condition = inr (inr (inr (inr (inr (inl tt)))))

abbrev loose_equal : own-1.I
loose_equal = inr (inr (inr (inr (inr (inr (inl tt))))))

abbrev odd_compare : own-1.I
odd_compare = inr (inr (inr (inr (inr (inr (inr (inl tt)))))))

abbrev typeof_text : own-1.I
typeof_text = inr (inr (inr (inr (inr (inr (inr (inr (inl tt))))))))

abbrev bits_of_nothing : own-1.I
bits_of_nothing = inr (inr (inr (inr (inr (inr (inr (inr (inr (inl tt)))))))))

abbrev shadow_write : own-1.I
shadow_write = inr (inr (inr (inr (inr (inr (inr (inr (inr (inr (inl tt))))))))))

abbrev mixed_new : own-1.I
mixed_new = inr (inr (inr (inr (inr (inr (inr (inr (inr (inr (inr (inl tt)))))))))))

abbrev object_prototype_write : own-1.I
object_prototype_write = inr (inr (inr (inr (inr (inr (inr (inr (inr (inr (inr (inr (inl tt))))))))))))

abbrev odd_prototype : own-1.I
odd_prototype = inr (inr (inr (inr (inr (inr (inr (inr (inr (inr (inr (inr (inr (inl tt)))))))))))))

abbrev late_prototype : own-1.I
late_prototype = inr (inr (inr (inr (inr (inr (inr (inr (inr (inr (inr (inr (inr (inr (inl tt))))))))))))))

abbrev for_in_array : own-1.I
for_in_array = inr (inr (inr (inr (inr (inr (inr (inr (inr (inr (inr (inr (inr (inr (inr (inl tt)))))))))))))))

abbrev extra_arguments : own-1.I
extra_arguments = inr (inr (inr (inr (inr (inr (inr (inr (inr (inr (inr (inr (inr (inr (inr (inr (inl tt))))))))))))))))

abbrev wrapper_made : own-1.I
wrapper_made = inr (inr (inr
    (inr (inr (inr (inr (inr (inr (inr (inr (inr (inr (inr (inr (inr (inr (inl tt)))))))))))))))))

abbrev no_radix : own-1.I
no_radix = inr (inr (inr
    (inr (inr (inr (inr (inr (inr (inr (inr (inr (inr (inr (inr (inr (inr (inr (inl tt))))))))))))))))))

abbrev global_this : own-1.I
global_this = inr (inr (inr
    (inr (inr (inr (inr (inr (inr (inr (inr (inr (inr (inr (inr (inr (inr (inr (inr (inl tt)))))))))))))))))))

pub jlint-requires-clause-rules : goal.jlint-requires-clause-rules
jlint-requires-clause-rules c =
    c.of-crowd.ensures.rules ∙ ap (map _) c.in_ok-from_array.ensures.items
    ∙ cons_is (rule_is nan_made c.into_dyn_box.result.vtable c.into_dyn_box.result.value
    c.in_ok-types.types.nan_made.value c.into_dyn_box.ensures.1) (
    cons_is (rule_is undefined_joined c.into_dyn_box-2.result.vtable c.into_dyn_box-2.result.value
    c.in_ok-types.types.undefined_joined.value c.into_dyn_box-2.ensures.1) (
    cons_is (rule_is object_joined c.into_dyn_box-3.result.vtable c.into_dyn_box-3.result.value
    c.in_ok-types.types.object_joined.value c.into_dyn_box-3.ensures.1) (
    cons_is (rule_is undefined_key c.into_dyn_box-4.result.vtable c.into_dyn_box-4.result.value
    c.in_ok-types.types.undefined_key.value c.into_dyn_box-4.ensures.1) (
    cons_is (rule_is put_on_primitive c.into_dyn_box-5.result.vtable c.into_dyn_box-5.result.value
    c.in_ok-types.types.put_on_primitive.value c.into_dyn_box-5.ensures.1) (
    cons_is (rule_is wrapped_condition c.into_dyn_box-6.result.vtable c.into_dyn_box-6.result.value
    c.in_ok-types.types.wrapped_condition.value c.into_dyn_box-6.ensures.1) (
    cons_is (rule_is loose_equal c.into_dyn_box-7.result.vtable c.into_dyn_box-7.result.value
    c.in_ok-types.types.loose_equal.value c.into_dyn_box-7.ensures.1) (
    cons_is (rule_is odd_compare c.into_dyn_box-8.result.vtable c.into_dyn_box-8.result.value
    c.in_ok-types.types.odd_compare.value c.into_dyn_box-8.ensures.1) (
    cons_is (rule_is typeof_text c.into_dyn_box-9.result.vtable c.into_dyn_box-9.result.value
    c.in_ok-types.types.typeof_text.value c.into_dyn_box-9.ensures.1) (
    cons_is (rule_is bits_of_nothing c.into_dyn_box-10.result.vtable c.into_dyn_box-10.result.value
    c.in_ok-types.types.bits_of_nothing.value c.into_dyn_box-10.ensures.1) (
    cons_is (rule_is shadow_write c.into_dyn_box-11.result.vtable c.into_dyn_box-11.result.value
    c.in_ok-uses.uses.shadow_write.value c.into_dyn_box-11.ensures.1) (
    cons_is (rule_is mixed_new c.into_dyn_box-12.result.vtable c.into_dyn_box-12.result.value
    c.in_ok-uses.uses.mixed_new.value c.into_dyn_box-12.ensures.1) (
    cons_is (rule_is object_prototype_write c.into_dyn_box-13.result.vtable c.into_dyn_box-13.result.value
    c.in_ok-uses.uses.object_prototype_write.value c.into_dyn_box-13.ensures.1) (
    cons_is (rule_is odd_prototype c.into_dyn_box-14.result.vtable c.into_dyn_box-14.result.value
    c.in_ok-uses.uses.odd_prototype.value c.into_dyn_box-14.ensures.1) (
    cons_is (rule_is late_prototype c.into_dyn_box-15.result.vtable c.into_dyn_box-15.result.value
    c.in_ok-uses.uses.late_prototype.value c.into_dyn_box-15.ensures.1) (
    cons_is (rule_is for_in_array c.into_dyn_box-16.result.vtable c.into_dyn_box-16.result.value
    c.in_ok-uses.uses.for_in_array.value c.into_dyn_box-16.ensures.1) (
    cons_is (rule_is extra_arguments c.into_dyn_box-17.result.vtable c.into_dyn_box-17.result.value
    c.in_ok-uses.uses.extra_arguments.value c.into_dyn_box-17.ensures.1) (
    cons_is (rule_is wrapper_made c.into_dyn_box-18.result.vtable c.into_dyn_box-18.result.value
    c.in_ok-uses.uses.wrapper_made.value c.into_dyn_box-18.ensures.1) (
    cons_is (rule_is no_radix c.into_dyn_box-19.result.vtable c.into_dyn_box-19.result.value
    c.in_ok-uses.uses.no_radix.value c.into_dyn_box-19.ensures.1) (
    cons_is (rule_is global_this c.into_dyn_box-20.result.vtable c.into_dyn_box-20.result.value
    c.in_ok-uses.uses.global_this.value c.into_dyn_box-20.ensures.1) (refl))))))))))))))))))))

pub jlint-requires-clause-fresh : goal.jlint-requires-clause-fresh
jlint-requires-clause-fresh c =
    c.of-crowd.ensures.stands []
    (subst (λ xs. All (λ b. (own-1.entry b.vtable).1.kept b.value
    ≡ summary ((own-1.entry b.vtable).1.rule_of b.value) []) xs)
    (sym c.in_ok-from_array.ensures.items)
    (each_all {P = λ b. (own-1.entry b.vtable).1.kept b.value ≡ summary ((own-1.entry b.vtable).1.rule_of b.value) []} (
    more (fresh_is nan_made c.into_dyn_box.result.vtable c.into_dyn_box.result.value c.in_ok-types.types.nan_made.value
    c.into_dyn_box.ensures.1 c.in_ok-types.ensures.nan_made) (
    more (fresh_is undefined_joined c.into_dyn_box-2.result.vtable c.into_dyn_box-2.result.value
    c.in_ok-types.types.undefined_joined.value c.into_dyn_box-2.ensures.1 c.in_ok-types.ensures.undefined_joined) (
    more (fresh_is object_joined c.into_dyn_box-3.result.vtable c.into_dyn_box-3.result.value
    c.in_ok-types.types.object_joined.value c.into_dyn_box-3.ensures.1 c.in_ok-types.ensures.object_joined) (
    more (fresh_is undefined_key c.into_dyn_box-4.result.vtable c.into_dyn_box-4.result.value
    c.in_ok-types.types.undefined_key.value c.into_dyn_box-4.ensures.1 c.in_ok-types.ensures.undefined_key) (
    more (fresh_is put_on_primitive c.into_dyn_box-5.result.vtable c.into_dyn_box-5.result.value
    c.in_ok-types.types.put_on_primitive.value c.into_dyn_box-5.ensures.1 c.in_ok-types.ensures.put_on_primitive) (
    more (fresh_is wrapped_condition c.into_dyn_box-6.result.vtable c.into_dyn_box-6.result.value
    c.in_ok-types.types.wrapped_condition.value c.into_dyn_box-6.ensures.1 c.in_ok-types.ensures.wrapped_condition) (
    more (fresh_is loose_equal c.into_dyn_box-7.result.vtable c.into_dyn_box-7.result.value
    c.in_ok-types.types.loose_equal.value c.into_dyn_box-7.ensures.1 c.in_ok-types.ensures.loose_equal) (
    more (fresh_is odd_compare c.into_dyn_box-8.result.vtable c.into_dyn_box-8.result.value
    c.in_ok-types.types.odd_compare.value c.into_dyn_box-8.ensures.1 c.in_ok-types.ensures.odd_compare) (
    more (fresh_is typeof_text c.into_dyn_box-9.result.vtable c.into_dyn_box-9.result.value
    c.in_ok-types.types.typeof_text.value c.into_dyn_box-9.ensures.1 c.in_ok-types.ensures.typeof_text) (
    more (fresh_is bits_of_nothing c.into_dyn_box-10.result.vtable c.into_dyn_box-10.result.value
    c.in_ok-types.types.bits_of_nothing.value c.into_dyn_box-10.ensures.1 c.in_ok-types.ensures.bits_of_nothing) (
    more (fresh_is shadow_write c.into_dyn_box-11.result.vtable c.into_dyn_box-11.result.value
    c.in_ok-uses.uses.shadow_write.value c.into_dyn_box-11.ensures.1 c.in_ok-uses.ensures.shadow_write) (
    more (fresh_is mixed_new c.into_dyn_box-12.result.vtable c.into_dyn_box-12.result.value
    c.in_ok-uses.uses.mixed_new.value c.into_dyn_box-12.ensures.1 c.in_ok-uses.ensures.mixed_new) (
    more (fresh_is object_prototype_write c.into_dyn_box-13.result.vtable c.into_dyn_box-13.result.value
    c.in_ok-uses.uses.object_prototype_write.value c.into_dyn_box-13.ensures.1
    c.in_ok-uses.ensures.object_prototype_write) (
    more (fresh_is odd_prototype c.into_dyn_box-14.result.vtable c.into_dyn_box-14.result.value
    c.in_ok-uses.uses.odd_prototype.value c.into_dyn_box-14.ensures.1 c.in_ok-uses.ensures.odd_prototype) (
    more (fresh_is late_prototype c.into_dyn_box-15.result.vtable c.into_dyn_box-15.result.value
    c.in_ok-uses.uses.late_prototype.value c.into_dyn_box-15.ensures.1 c.in_ok-uses.ensures.late_prototype) (
    more (fresh_is for_in_array c.into_dyn_box-16.result.vtable c.into_dyn_box-16.result.value
    c.in_ok-uses.uses.for_in_array.value c.into_dyn_box-16.ensures.1 c.in_ok-uses.ensures.for_in_array) (
    more (fresh_is extra_arguments c.into_dyn_box-17.result.vtable c.into_dyn_box-17.result.value
    c.in_ok-uses.uses.extra_arguments.value c.into_dyn_box-17.ensures.1 c.in_ok-uses.ensures.extra_arguments) (
    more (fresh_is wrapper_made c.into_dyn_box-18.result.vtable c.into_dyn_box-18.result.value
    c.in_ok-uses.uses.wrapper_made.value c.into_dyn_box-18.ensures.1 c.in_ok-uses.ensures.wrapper_made) (
    more (fresh_is no_radix c.into_dyn_box-19.result.vtable c.into_dyn_box-19.result.value
    c.in_ok-uses.uses.no_radix.value c.into_dyn_box-19.ensures.1 c.in_ok-uses.ensures.no_radix) (
    more (fresh_is global_this c.into_dyn_box-20.result.vtable c.into_dyn_box-20.result.value
    c.in_ok-uses.uses.global_this.value c.into_dyn_box-20.ensures.1 c.in_ok-uses.ensures.global_this)
    (none)))))))))))))))))))))))
