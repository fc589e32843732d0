-- Every legal run from a farm that keeps its rows ends in such a farm.
use Rattle.std.proofs.Common.{◌≡◌, ℕ, List, [], ◌∷◌, Option, Some, None, refl, sym, ◌∙◌, arith}
use Rattle.std.proofs.lemmas.Option.{none-some}
use Rattle.farm_law.proofs.FinishedKept.{kept_closed}
use Rattle.farm_law.proofs.KeptActs.{kept_act}
use Rattle.farm_law.proofs.KeptChanges.{kept_later}
use Rattle.farm_law.proofs.KeptFollowed.{kept_followed}
use Rattle.farm_law.proofs.SafeRuns.{allowed_later}
use Rattle.farm_types.specs.DependActs.{or_else}
use Rattle.farm_types.specs.Farm.{Farm}
use Rattle.farm_types.specs.Formed.{IsFormed}
use Rattle.farm_types.specs.Kept.{KeepsRows}
use Rattle.farm_types.specs.Operators.{slot_named}
use Rattle.farm_types.specs.Run.{IsLegal, IsLegalStep, run_of}
use Rattle.farm_types.specs.Step.{HasCondition, act_refusal, acted, after, at_moment, follow_refusal, followed, moment_of}
use Rattle.farm_types.specs.declared.entry.Act.{Act}
use Rattle.farm_types.specs.declared.entry.Entry.{Entry}

-- ---- refusals

-- where neither of two gives anything, the first doesn't, nor the second
pub neither : {X : Type 0} (first second : Option X) → or_else first second ≡ None → (first ≡ None) × (second ≡ None)
neither None second none = (refl, none)
neither (Some x) second none = absurd (none-some x (sym none))

-- what a legal entry isn't refused: its act, and what follows of depends
pub act_accepted : (f : Farm) (e : Entry) → IsLegalStep f e → act_refusal f e.act ≡ None
act_accepted f e legal = (neither (act_refusal f e.act) (follow_refusal f e.act) legal.accepted).0

pub follow_accepted : (f : Farm) (e : Entry) → IsLegalStep f e → follow_refusal f e.act ≡ None
follow_accepted f e legal = (neither (act_refusal f e.act) (follow_refusal f e.act) legal.accepted).1

-- ---- one entry

-- what an act is refused is the same at another moment
pub refusal_later : (f : Farm) (moment : ℕ) (act : Act) → act_refusal (at_moment f moment) act ≡ act_refusal f act
unfolding slot_named
refusal_later f moment act = refl

-- the act alone
pub kept_acted : (f : Farm) (e : Entry) → IsFormed e → act_refusal f e.act ≡ None → HasCondition f e.act → KeepsRows f → KeepsRows (acted f e)
kept_acted f e formed accepted allowed k =
    let moment = moment_of f e.moment in
    let now = kept_later f moment (omega arith) (omega (arith, k.moment_within, formed.moment_within)) k in
    kept_act (at_moment f moment) moment e.act formed.act_formed (refusal_later f moment e.act ∙ accepted) (allowed_later f moment e.act allowed) (omega arith) now

-- the act, then what follows of it, and then the jobs that finish
pub kept_step : (f : Farm) (e : Entry) → IsLegalStep f e → KeepsRows f → KeepsRows (after f e)
kept_step f e legal k = kept_closed e.act (followed e.act (acted f e)) (kept_followed e.act (acted f e) (kept_acted f e legal.formed (act_accepted f e legal) legal.condition k))

-- ---- a run

pub kept_run : (f : Farm) (es : List Entry) → KeepsRows f → IsLegal f es → KeepsRows (run_of f es)
kept_run f [] k legal = k
kept_run f (e ∷ es) k legal = kept_run (after f e) es (kept_step f e legal.0 k) legal.1
