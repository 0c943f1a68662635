-- The functions that search, or call another one for each element, as what the length of `this` is asked for.
use Rattle.std.proofs.Common.{◌≡◌, ◌-◌, ◌∙◌, ap, arith, false, refl, suc, true, zero, ℕ}
use Rattle.std.proofs.Common.{Bool, List}
use Rattle.std.specs.Prelude.{is_some, not, slice_get}
use mathlib.Core.Path.{fun_ext}
use Rattle.jl_value.specs.declared.object.ObjId.{ObjId}
use Rattle.jl_value.specs.declared.value.Value.{Value}
use Rattle.jl_value.specs.declared.value.Value.TheVariants as value
use Rattle.jl_meaning.specs.Conversions.{to_object}
use Rattle.jl_meaning.specs.FunctionObjects.{whole}
use Rattle.jl_meaning.specs.Parts.{give, ◌>>=◌, Algorithm, Call}
use Rattle.jl_meaning.specs.Relations.{give_truth}
use Rattle.jl_meaning.specs.builtins.Arguments.{argument, give_object, need_function}
use Rattle.jl_meaning.specs.builtins.Array.{array_index_of, array_last_index_of, index_within, last_index_within}
use Rattle.jl_meaning.specs.builtins.ArrayCallbacks.{any_element, array_every, array_filter, array_for_each, array_map}
use Rattle.jl_meaning.specs.builtins.ArrayCallbacks.{array_reduce, array_reduce_right, array_some, ask_turn}
use Rattle.jl_meaning.specs.builtins.ArrayCallbacks.{filter_turn}
use Rattle.jl_meaning.specs.builtins.ArrayCallbacks.{for_each_turn, give_combined, map_turn, reduce_turn, walk, Walk}
use Rattle.jl_meaning.specs.builtins.Elements.{array_of_length, get_length}
use Rattle.jl_meaning.specs.builtins.Turns.{downward, first_upward, upward}
use Rattle.jl_meaning.specs.forms.Literals.{new_array}
use Rattle.jl_progress.specs.ArrayCalls.{any_truth, begin_walk, search}
use Rattle.jl_progress.specs.declared.array_call.Direction.TheVariants as direction
use Rattle.jl_progress.specs.declared.array_call.LengthFor.TheVariants as length_for
use Rattle.jl_progress.specs.declared.array_call.WalkFor.{WalkFor}
use Rattle.jl_progress.specs.declared.array_call.WalkFor.TheVariants as walk_for
use Rattle.jl_meaning.proofs.Binds.{bind_assoc}
use Rattle.jl_lib_array.specs.inner.WalkLengths.{length_call}

-- those that go through the elements

walked : (c : Call) (purpose : WalkFor)
    → (walk c >>= λ w. begin_walk purpose w c.args) ≡ length_call (length_for.Walk purpose) c
walked c purpose =
    bind_assoc (to_object c.this) object k
    ∙ ap (λ g. to_object c.this >>= g) (fun_ext (λ o. bind_assoc (get_length o) (length o) k
    ∙ ap (λ g. get_length o >>= g) (fun_ext (λ n. bind_assoc (need_function (argument c 0)) (function o n) k))))
  where
    k : Walk → Algorithm Value
    k w = begin_walk purpose w c.args

    function : ObjId → ℕ → ObjId → Algorithm Walk
    function o n f = give (record { object = o; length = n; function = f; this = argument c 1 })

    length : ObjId → ℕ → Algorithm Walk
    length o n = need_function (argument c 0) >>= function o n

    object : ObjId → Algorithm Walk
    object o = get_length o >>= length o

begins_so : (c : Call) (purpose : WalkFor) (k : Walk → Algorithm Value)
    → ((w : Walk) → k w ≡ begin_walk purpose w c.args) → (walk c >>= k) ≡ length_call (length_for.Walk purpose) c
begins_so c purpose k same = ap (λ (g : Walk → Algorithm Value). walk c >>= g) (fun_ext same) ∙ walked c purpose

all_left : (n : ℕ) → n ≡ n - 0
all_left n = omega arith

any_is : (wanted : Bool) (w : Walk) (args : List Value) (k : Bool → Algorithm Value)
    → ((found : Bool) → k found ≡ give_truth (any_truth wanted found))
    → (any_element wanted w >>= k) ≡ begin_walk (walk_for.Any wanted) w args
any_is wanted w args k same =
    bind_assoc (first_upward (ask_turn wanted w) w.length 0) (λ found. give (is_some found)) k
    ∙ ap (λ (g : Bool → Algorithm Value). first_upward (ask_turn wanted w) w.length 0 >>= λ found. g (is_some found))
    (fun_ext same)
    ∙ ap (λ n. first_upward (ask_turn wanted w) n 0 >>= λ found. give_truth (any_truth wanted (is_some found)))
    (all_left w.length)

pub every_is : (c : Call) → array_every c ≡ length_call (length_for.Walk (walk_for.Any false)) c
every_is c =
    begins_so c (walk_for.Any false) (λ w. any_element false w >>= λ refuted. give_truth (not refuted))
    (λ w. any_is false w c.args (λ refuted. give_truth (not refuted)) (λ found. refl))

pub some_is : (c : Call) → array_some c ≡ length_call (length_for.Walk (walk_for.Any true)) c
some_is c =
    begins_so c (walk_for.Any true) (λ w. any_element true w >>= λ found. give_truth found)
    (λ w. any_is true w c.args (λ found. give_truth found) (λ found. refl))

pub for_each_is : (c : Call) → array_for_each c ≡ length_call (length_for.Walk walk_for.ForEach) c
for_each_is c =
    begins_so c walk_for.ForEach (λ w. upward (for_each_turn w) w.length 0 tt >>= λ _. give value.Undefined)
    (λ w. ap (λ n. upward (for_each_turn w) n 0 tt >>= λ _. give value.Undefined) (all_left w.length))

pub map_is : (c : Call) → array_map c ≡ length_call (length_for.Walk walk_for.Map) c
map_is c =
    begins_so c walk_for.Map (λ w. array_of_length (whole w.length) >>= with w.length w) (λ w.
    ap (λ n. array_of_length (whole w.length) >>= with n w) (all_left w.length))
  where
    with : ℕ → Walk → ObjId → Algorithm Value
    with n w a = upward (map_turn w a) n 0 tt >>= λ _. give_object a

pub filter_is : (c : Call) → array_filter c ≡ length_call (length_for.Walk walk_for.Filter) c
filter_is c =
    begins_so c walk_for.Filter (λ w. new_array >>= with w.length w) (λ w.
    ap (λ n. new_array >>= with n w) (all_left w.length))
  where
    with : ℕ → Walk → ObjId → Algorithm Value
    with n w a = upward (filter_turn w a) n 0 0 >>= λ _. give_object a

pub reduce_is : (c : Call) → array_reduce c ≡ length_call (length_for.Walk (walk_for.Reduce direction.Up)) c
reduce_is c =
    begins_so c (walk_for.Reduce direction.Up)
    (λ w. upward (reduce_turn w) w.length 0 (slice_get c.args 1) >>= give_combined)
    (λ w. ap (λ n. upward (reduce_turn w) n 0 (slice_get c.args 1) >>= give_combined) (all_left w.length))

pub reduce_right_is : (c : Call)
    → array_reduce_right c ≡ length_call (length_for.Walk (walk_for.Reduce direction.Down)) c
reduce_right_is c =
    begins_so c (walk_for.Reduce direction.Down)
    (λ w. downward (reduce_turn w) w.length (slice_get c.args 1) >>= give_combined) (λ w. refl)

-- searches

index_is : (o : ObjId) (n : ℕ) (c : Call) → index_within o n c ≡ search direction.Up o n c.args
index_is o zero c = refl
index_is o (suc n) c = refl

last_index_is : (o : ObjId) (n : ℕ) (c : Call) → last_index_within o n c ≡ search direction.Down o n c.args
last_index_is o zero c = refl
last_index_is o (suc n) c = refl

pub index_of_is : (c : Call) → array_index_of c ≡ length_call (length_for.Search direction.Up) c
index_of_is c =
    ap (λ g. to_object c.this >>= g)
    (fun_ext (λ o. ap (λ g. get_length o >>= g) (fun_ext (λ n. index_is o n c))))

pub last_index_of_is : (c : Call) → array_last_index_of c ≡ length_call (length_for.Search direction.Down) c
last_index_of_is c =
    ap (λ g. to_object c.this >>= g)
    (fun_ext (λ o. ap (λ g. get_length o >>= g) (fun_ext (λ n. last_index_is o n c))))
