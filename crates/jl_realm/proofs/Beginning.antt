-- The steps make the store that a run begins with.
use Rattle.std.proofs.Common.{◌≡◌, ◌∙◌, ◌+◌, ◌++◌, true, List, [], ◌∷◌, ap, ap₂, arith, refl, sym}
use Rattle.std.specs.List.{flat_map, list_all}
use Rattle.jl_value.specs.BuiltinPlaces.{place_of_row, row_of}
use Rattle.jl_value.specs.Builtins.{builtins, entry_of}
use Rattle.jl_value.specs.declared.builtin.Builtin.{Builtin}
use Rattle.jl_heap.specs.Define.{length_name}
use Rattle.jl_heap.specs.Objects.{Objects}
use Rattle.jl_meaning.specs.Changes.{StoreChange}
use Rattle.jl_meaning.specs.Realm.{count_properties, initial_objects, objects_from, realm, InitialObject}
use Rattle.jl_meaning.specs.Store.{no_environment, Environment, Store}
use Rattle.jl_realm.specs.Global.{HasGlobalObject}
use Rattle.jl_realm.specs.inner.Steps.{all_ready, after_all, changes_of, function_made}
use Rattle.jl_realm.specs.declared.steps.TheConstants.{STEPS}
use Rattle.jl_realm.proofs.Making.{all_made, apart, at, after_all-append, changes_from, is_fresh, made_ready}
use Rattle.jl_realm.proofs.Making.{ready-append, seen_from}

-- the first objects, and then those of builtins
abbrev pub first_changes : List Builtin → List StoreChange
first_changes all = flat_map (changes_of all) STEPS

abbrev pub function_changes : List Builtin → List StoreChange
function_changes all = flat_map (function_made all) all

abbrev all_changes : List StoreChange
all_changes = first_changes builtins ++ function_changes builtins

steps_make : all_changes ≡ changes_from 0 initial_objects
unfolding initial_objects length_name builtins entry_of row_of place_of_row
steps_make = refl

-- prototypes come before the objects that have them, and an array's length first
as_seen : seen_from 0 initial_objects ≡ initial_objects
unfolding initial_objects length_name builtins entry_of row_of place_of_row
as_seen = refl

all_fresh : list_all is_fresh initial_objects ≡ true
unfolding initial_objects length_name builtins entry_of row_of place_of_row
all_fresh = refl

abbrev only : List Environment
only = no_environment ∷ []

bare : (s : Store) → s.heap ≡ record { objects = []; next = 0 } → s.environments ≡ only → s ≡ at only [] 0
bare s heap environments =
    ap₂ (λ (h : Objects) (l : List Environment). record { heap = h; environments = l }) heap environments

all_begin : (s : Store) → s.heap ≡ record { objects = []; next = 0 } → s.environments ≡ only
    → all_ready all_changes s ≡ true
all_begin s heap environments =
    ap (all_ready all_changes) (bare s heap environments)
    ∙ ap (λ cs. all_ready cs (at only [] 0)) steps_make
    ∙ made_ready only initial_objects [] 0 all_fresh

all_come_to : (s : Store) → s.heap ≡ record { objects = []; next = 0 } → s.environments ≡ only
    → after_all all_changes s ≡ realm
unfolding realm
all_come_to s heap environments =
    let none : 0 + count_properties initial_objects ≡ count_properties initial_objects = omega arith in
    ap (after_all all_changes) (bare s heap environments)
    ∙ ap (λ cs. after_all cs (at only [] 0)) steps_make
    ∙ all_made only initial_objects [] 0
    ∙ ap (λ (l : List InitialObject). at only (objects_from 0 l) (0 + count_properties l)) as_seen
    ∙ ap (at only (objects_from 0 initial_objects)) none

-- what the two parts are ready for, and come to
module _ (s : Store) (heap : s.heap ≡ record { objects = []; next = 0 }) (environments : s.environments ≡ only)
    (all : List Builtin) (is : all ≡ builtins) where
  pub first_ready : all_ready (first_changes all) s ≡ true
  first_ready =
      ap (λ bs. all_ready (first_changes bs) s) is
      ∙ (apart _ _ (sym (ready-append (first_changes builtins) (function_changes builtins) s)
      ∙ all_begin s heap environments)).0

  pub functions_ready : (t : Store) → t ≡ after_all (first_changes all) s → all_ready (function_changes all) t ≡ true
  functions_ready t made =
      ap₂ (λ bs (u : Store). all_ready (function_changes bs) u) is (made ∙ ap (λ bs. after_all (first_changes bs) s) is)
      ∙ (apart _ _ (sym (ready-append (first_changes builtins) (function_changes builtins) s)
      ∙ all_begin s heap environments)).1

  pub steps_come_to : (t u : Store) → t ≡ after_all (first_changes all) s → u ≡ after_all (function_changes all) t
      → u ≡ realm
  steps_come_to t u made more =
      more
      ∙ ap₂ (λ bs (v : Store). after_all (function_changes bs) v) is
      (made ∙ ap (λ bs. after_all (first_changes bs) s) is)
      ∙ sym (after_all-append (first_changes builtins) (function_changes builtins) s)
      ∙ all_come_to s heap environments

pub realm_global : HasGlobalObject realm
unfolding realm initial_objects
realm_global = record { ordinary = record { class = refl; inner = refl; proto = refl } }
