-- The job of a load is accepted where its depend is.
use Rattle.std.proofs.Common.{◌≡◌, ℕ, ◌≤◌, [], false, refl, ap, ◌∙◌, arith}
use Rattle.std.specs.Prelude.{None, nat_lt}
use Rattle.std.proofs.lemmas.Bool.{le-ltb}
use Rattle.farm_types.specs.DependActs.{or_else}
use Rattle.farm_types.specs.Farm.{empty_farm}
use Rattle.farm_types.specs.Jobs.{frames_in, free_in}
use Rattle.farm_types.specs.Run.{IsLegal}
use Rattle.farm_types.specs.Step.{act_refusal, follow_refusal}
use Rattle.farm_gen.specs.Load.{IsLoad, load_entries, load_spec, load_submit}
use Rattle.farm_gen.proofs.LoadFormed.{job_formed}
use Rattle.farm_gen.proofs.LoadOpens.{hosted, load_opens}
use Rattle.farm_gen.proofs.LoadRange.{numbers_long}

-- there is a slot for each frame
room : (n : ℕ) → IsLoad n → frames_in (load_spec n).layers ≤ free_in []
room n load = omega (arith, numbers_long 1 n, load.within)

taken : (n : ℕ) → IsLoad n → act_refusal hosted (load_submit n).act ≡ None
taken n load =
    let free : nat_lt (free_in []) (frames_in (load_spec n).layers) ≡ false = le-ltb (free_in []) (frames_in (load_spec n).layers) (room n load) in
    rw free refl

-- a load is a legal run where its depend is accepted
pub load_legal : (n : ℕ) → IsLoad n → follow_refusal hosted (load_submit n).act ≡ None → IsLegal empty_farm (load_entries n)
load_legal n load follows =
    load_opens n
    (record {
      formed = record { moment_within = omega arith; act_formed = job_formed n load };
      accepted = ap (λ o. or_else o (follow_refusal hosted (load_submit n).act)) (taken n load) ∙ follows;
      condition = tt;
    })
