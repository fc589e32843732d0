-- The entries of a load up to its job: each is legal where it comes.
use Rattle.std.proofs.Common.{ℕ, refl, arith}
use Rattle.farm_types.specs.Farm.{Farm, empty_farm}
use Rattle.farm_types.specs.Formed.{IsFormedAct}
use Rattle.farm_types.specs.Run.{IsLegal, IsLegalStep}
use Rattle.farm_types.specs.Step.{after}
use Rattle.std.specs.Prelude.{codes}
use Rattle.farm_gen.specs.Load.{load_alloc, load_boot, load_entries, load_show, load_sub, load_submit}

-- ---- the farms on the way

abbrev shown : Farm
shown = after empty_farm load_show

abbrev allocated : Farm
allocated = after shown load_alloc

abbrev subscribed : Farm
subscribed = after allocated load_sub

abbrev hosted_one : Farm
hosted_one = after subscribed (load_boot (codes "h1") 1)

abbrev hosted_two : Farm
hosted_two = after hosted_one (load_boot (codes "h2") 2)

abbrev hosted_three : Farm
hosted_three = after hosted_two (load_boot (codes "h3") 3)

-- the farm that the job comes to
abbrev pub hosted : Farm
hosted = after hosted_three (load_boot (codes "h4") 4)

-- ---- each entry is legal where it comes

show_legal : IsLegalStep empty_farm load_show
show_legal = record { formed = record { moment_within = omega arith; act_formed = refl }; accepted = refl; condition = tt }

alloc_legal : IsLegalStep shown load_alloc
alloc_legal = record { formed = record { moment_within = omega arith; act_formed = (refl, refl) }; accepted = refl; condition = tt }

sub_formed : IsFormedAct load_sub.act
sub_formed = record { show = refl; limits = record { size_within = omega arith; burst_within = omega arith } }

sub_legal : IsLegalStep allocated load_sub
sub_legal = record { formed = record { moment_within = omega arith; act_formed = sub_formed }; accepted = refl; condition = tt }

one_formed : IsFormedAct (load_boot (codes "h1") 1).act
one_formed =
    record {
      host = refl;
      nonce_within = omega arith;
      tags = refl;
      limits = record { tags_within = omega arith; cores_within = (omega arith, omega arith); memory_within = (omega arith, omega arith) };
    }

two_formed : IsFormedAct (load_boot (codes "h2") 2).act
two_formed =
    record {
      host = refl;
      nonce_within = omega arith;
      tags = refl;
      limits = record { tags_within = omega arith; cores_within = (omega arith, omega arith); memory_within = (omega arith, omega arith) };
    }

three_formed : IsFormedAct (load_boot (codes "h3") 3).act
three_formed =
    record {
      host = refl;
      nonce_within = omega arith;
      tags = refl;
      limits = record { tags_within = omega arith; cores_within = (omega arith, omega arith); memory_within = (omega arith, omega arith) };
    }

four_formed : IsFormedAct (load_boot (codes "h4") 4).act
four_formed =
    record {
      host = refl;
      nonce_within = omega arith;
      tags = refl;
      limits = record { tags_within = omega arith; cores_within = (omega arith, omega arith); memory_within = (omega arith, omega arith) };
    }

one_legal : IsLegalStep subscribed (load_boot (codes "h1") 1)
one_legal = record { formed = record { moment_within = omega arith; act_formed = one_formed }; accepted = refl; condition = tt }

two_legal : IsLegalStep hosted_one (load_boot (codes "h2") 2)
two_legal = record { formed = record { moment_within = omega arith; act_formed = two_formed }; accepted = refl; condition = tt }

three_legal : IsLegalStep hosted_two (load_boot (codes "h3") 3)
three_legal = record { formed = record { moment_within = omega arith; act_formed = three_formed }; accepted = refl; condition = tt }

four_legal : IsLegalStep hosted_three (load_boot (codes "h4") 4)
four_legal = record { formed = record { moment_within = omega arith; act_formed = four_formed }; accepted = refl; condition = tt }

-- the whole run is legal where its job is
pub load_opens : (n : ℕ) → IsLegalStep hosted (load_submit n) → IsLegal empty_farm (load_entries n)
load_opens n submit = (show_legal, (alloc_legal, (sub_legal, (one_legal, (two_legal, (three_legal, (four_legal, (submit, tt))))))))
