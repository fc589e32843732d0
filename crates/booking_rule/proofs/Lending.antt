-- What is lent while the words are placed for the first time.
use Rattle.std.proofs.Common.{◌≡◌, ◌≢◌, ℕ, Bool, true, false, if◌then◌else◌, ◌==◌, ◌&&◌, ◌||◌, List, ◌∷◌, sym, refl, ap, ◌∙◌, arith}
use Rattle.std.specs.Prelude.{not, Option, Some, None}
use mathlib.Core.Logic.{dite}
use native.Mathlib.Decide.{ℕ_discrete}
use Rattle.farm_types.specs.declared.entry.Entry.{Entry}
use Rattle.farm_types.specs.Farm.{empty_farm}
use Rattle.farm_types.specs.Run.{run_of}
use Rattle.booking_rule.specs.declared.desk.Desk.{Desk}
use Rattle.booking_rule.specs.declared.opening.Opening.{Opening}
use Rattle.booking_rule.specs.Recorded.{Stand, free_at}
use Rattle.booking_rule.specs.Link.{farm_of, farm_before, has, lent, recorded_in, stand_at}
use Rattle.booking_rule.specs.Rule.{is_booked}
use Rattle.booking_rule.proofs.Moves.{same_not}

-- nothing, once the words were placed
pub lent_past : (before : Option (List Entry)) (done placed : Bool) (s : Stand) → before ≢ None → lent before done placed s ≡ free_at 0
lent_past None done placed s past = absurd (past refl)
lent_past (Some log) done placed s past = refl

-- nothing of a slot whose word was
pub lent_done : (before : Option (List Entry)) (placed : Bool) (s : Stand) → lent before true placed s ≡ free_at 0
lent_done None placed s = refl
lent_done (Some log) placed s = refl

-- nothing of a frame that doesn't run
pub lent_idle : (before : Option (List Entry)) (done placed : Bool) (s : Stand) → s.phase ≢ 4 → lent before done placed s ≡ free_at 0
lent_idle (Some log) done placed s idle = refl
lent_idle None done placed s idle = go done placed (s.phase == 4) (same_not s.phase 4 idle)
  where
    go : (done placed b : Bool) → b ≡ false → (if not done && (placed && b) then s else free_at 0) ≡ free_at 0
    go true placed b e = refl
    go false true true e = absurd (clash e)
      where
        clash : true ≡ false → ⊥
        clash q = cc
    go false true false e = refl
    go false false b e = refl

-- a slot's word was placed: of the others as much is lent, and of it nothing either way
pub lent_turned : (before : Option (List Entry)) (slot k : ℕ) (slots : List ℕ) (placed : Bool) (s : Stand) → (k ≡ slot → s.phase ≢ 4)
    → lent before (has k slots) placed s ≡ lent before (has k (slot ∷ slots)) placed s
lent_turned before slot k slots placed s idle = dite (ℕ_discrete k slot)
    (λ e. lent_idle before (has k slots) placed s (idle e) ∙ sym (lent_idle before (has k (slot ∷ slots)) placed s (idle e)))
    (λ ne. ap (λ (b : Bool). lent before (b || has k slots) placed s) (sym (same_not slot k (λ e. ne (sym e)))))

-- where nothing is left to do
none_stand : (n : ℕ) → stand_at empty_farm n ≡ free_at 0
unfolding stand_at
none_stand n = refl

pub done_lends : (o : Opening) (log : List Entry) (d : Desk) (k : ℕ) (placed : Bool) → (recorded_in o log d).slot k ≡ stand_at (run_of (farm_of o) log) k
    → lent d.before (has k d.slots) placed (stand_at (run_of (farm_of o) log) k) ≡ free_at 0
done_lends o log d k placed done = go d.before (has k d.slots) done
  where
    now : Stand
    now = stand_at (run_of (farm_of o) log) k

    go : (before : Option (List Entry)) (b : Bool) → (if b then now else stand_at (farm_before o before) k) ≡ now → lent before b placed now ≡ free_at 0
    go (Some l) b e = refl
    go None true e = refl
    go None false e =
        lent_idle None false placed now (λ runs. absurd (let p : (stand_at empty_farm k).phase ≡ now.phase = ap (λ (s : Stand). s.phase) e in
        let q : (stand_at empty_farm k).phase ≡ 0 = ap (λ (s : Stand). s.phase) (none_stand k) in omega arith))

-- what is lent is a frame's stand, once what it waits for was placed
pub lent_placed : (before : Option (List Entry)) (done placed : Bool) (s : Stand) → is_booked (lent before done placed s).phase ≡ true
    → (placed ≡ true) × (lent before done placed s ≡ s)
lent_placed (Some log) done placed s booked = absurd (nothing booked)
  where
    nothing : false ≡ true → ⊥
    nothing e = cc
lent_placed None done placed s booked = go done placed (s.phase == 4) booked
  where
    nothing : false ≡ true → ⊥
    nothing e = cc

    go : (done placed b : Bool) → is_booked (if not done && (placed && b) then s else free_at 0).phase ≡ true
        → (placed ≡ true) × ((if not done && (placed && b) then s else free_at 0) ≡ s)
    go true placed b e = absurd (nothing e)
    go false false b e = absurd (nothing e)
    go false true false e = absurd (nothing e)
    go false true true e = (refl, refl)
