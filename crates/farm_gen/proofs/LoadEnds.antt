-- The two ends of a load's depend are there: a load is a legal run where the groups of its depend may come.
use Rattle.std.proofs.Common.{◌≡◌, ℕ, true, refl, ap, ◌∙◌}
use Rattle.std.specs.Prelude.{None, Some, bytes_eq, codes}
use Rattle.std.proofs.lemmas.Cmp.{nat_list_eq_equiv}
use Rattle.farm_types.specs.DependActs.{depend_refusal, groups_refusal, new_groups, or_else, place_refusal}
use Rattle.farm_types.specs.Farm.{Farm, empty_farm}
use Rattle.farm_types.specs.Run.{IsLegal}
use Rattle.farm_types.specs.Step.{after_submit}
use Rattle.farm_gen.specs.Load.{IsLoad, layer_place, load_depend, load_entries, load_name, load_spec}
use Rattle.farm_gen.proofs.LoadOpens.{hosted}
use Rattle.farm_gen.proofs.LoadTaken.{load_legal}

-- the farm with the job
abbrev pub submitted : ℕ → Farm
submitted n = after_submit hosted (load_spec n) (Some 0)

first_there : (n : ℕ) → place_refusal (submitted n) (layer_place n (codes "a")) ≡ None
first_there n =
    let named : bytes_eq (load_name n) (load_name n) ≡ true = nat_list_eq_equiv.refl (load_name n) in
    rw named refl

second_there : (n : ℕ) → place_refusal (submitted n) (layer_place n (codes "b")) ≡ None
second_there n =
    let named : bytes_eq (load_name n) (load_name n) ≡ true = nat_list_eq_equiv.refl (load_name n) in
    rw named refl

depend_taken : (n : ℕ) → groups_refusal (submitted n) (new_groups (submitted n) (load_depend n)) ≡ None → depend_refusal (submitted n) (load_depend n) ≡ None
unfolding depend_refusal
depend_taken n groups =
    ap (λ o. or_else o (or_else (place_refusal (submitted n) (layer_place n (codes "a"))) (groups_refusal (submitted n) (new_groups (submitted n) (load_depend n))))) (second_there n)
    ∙ ap (λ o. or_else o (groups_refusal (submitted n) (new_groups (submitted n) (load_depend n)))) (first_there n)
    ∙ groups

pub legal_by_groups : (n : ℕ) → IsLoad n → groups_refusal (submitted n) (new_groups (submitted n) (load_depend n)) ≡ None → IsLegal empty_farm (load_entries n)
legal_by_groups n load groups = load_legal n load (ap (λ o. or_else o None) (depend_taken n groups))
