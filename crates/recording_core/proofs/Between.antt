-- What is recorded of a slot, beside what the farm says of it: one entry lies between the two, or none.
use Rattle.std.proofs.Common.{◌≡◌, ◌⊎◌, ℕ, ◌<◌, ◌≤◌, Bool, true, false, if◌then◌else◌, ◌==◌, List, [], ◌∷◌, ◌++◌, sym, refl, ap, subst, arith, inl, inr, ⊎_elim}
use Rattle.std.specs.Prelude.{Option, Some, None}
use Rattle.std.proofs.lemmas.Bool.Decides.{nat_tests}
use Rattle.farm_types.specs.declared.entry.Entry.{Entry}
use Rattle.farm_types.specs.declared.limits.TheConstants.{LEAST_CORES, LEAST_MEMORY, MOST_CORES, MOST_MEMORY}
use Rattle.farm_types.specs.declared.rows.LayerRow.{LayerRow}
use Rattle.farm_types.specs.Farm.{Farm, empty_farm}
use Rattle.farm_types.specs.Kept.{IsKeptFarm, KeepsRows, is_formed_layer}
use Rattle.farm_types.specs.Limits.{IsBetween}
use Rattle.farm_types.specs.Run.{IsLegal, IsLegalStep, run_of}
use Rattle.farm_types.specs.Step.{after}
use Rattle.farm_types.proofs.Lists.{find_passes}
use Rattle.depend_law.proofs.KeptRuns.{kept_step}
use Rattle.booking_rule.specs.declared.desk.Desk.{Desk}
use Rattle.booking_rule.specs.declared.opening.Opening.{Opening}
use Rattle.booking_rule.specs.Recorded.{Stand, free_at}
use Rattle.booking_rule.specs.Link.{farm_of, farm_before, has, recorded_in, stand_at}
use Rattle.booking_rule.specs.Kept.{IsBefore}
use Rattle.entry_law.proofs.FrameRows.{frame_rows}
use Rattle.entry_law.proofs.Rising.{versions, waiting, amounts}
use Rattle.entry_law.proofs.Stands.{has_frame, stand_is}
use Rattle.recording_core.specs.Records.{amounts_of}

-- ---- one entry apart

-- The version doesn't fall; a frame that waited below the last version is as it was or of a later version; and a slot that has a frame in both has the same
-- amounts.
pub record Near (old now : Stand) : Type 0 where
  pub version : old.version ≤ now.version
  pub waiting : old.phase ≡ 1 → old.version < 16777215 → (old ≡ now) ⊎ (old.version < now.version)
  pub amounts : (old.phase == 0) ≡ false → (now.phase == 0) ≡ false → amounts_of now ≡ amounts_of old

near_same : (s : Stand) → Near s s
near_same s = record { version = omega arith; waiting = λ p l. inl refl; amounts = λ p q. refl }

near_free : (s : Stand) → Near (free_at 0) s
near_free s = record { version = omega arith; waiting = λ p l. absurd (omega (arith, p)); amounts = λ p q. absurd (off p) }
  where
    off : true ≡ false → ⊥
    off e = cc

none_stands : (n : ℕ) → stand_at empty_farm n ≡ free_at 0
unfolding stand_at
none_stands n = refl

near_entry : (f : Farm) (e : Entry) (n : ℕ) → IsKeptFarm f → IsLegalStep f e → Near (stand_at f n) (stand_at (after f e) n)
near_entry f e n kept legal = record {
  version = versions f e n kept legal;
  waiting = λ p l. ⊎_elim (λ (x : stand_at (after f e) n ≡ stand_at f n). inl (sym x))
      (λ (x : (stand_at f n).version < (stand_at (after f e) n).version). inr x) (waiting f e n kept legal p l);
  amounts = λ p q. (let a = amounts f e n kept legal p q in λ i. record { show = a.1 i; limit = a.2 i; memory = a.3 i });
}

near_last : (f : Farm) (xs : List Entry) (x : Entry) (n : ℕ) → IsKeptFarm f → IsLegal f (xs ++ x ∷ []) → Near (stand_at (run_of f xs) n) (stand_at (run_of f (xs ++ x ∷ [])) n)
near_last f [] x n kept legal = near_entry f x n kept legal.0
near_last f (y ∷ ys) x n kept legal = near_last (after f y) ys x n (kept_step f y legal.0 kept) legal.1

near_log : (o : Opening) (before : Option (List Entry)) (log : List Entry) (n : ℕ) → IsKeptFarm (farm_of o) → IsLegal (farm_of o) log → IsBefore before log
    → Near (stand_at (farm_before o before) n) (stand_at (run_of (farm_of o) log) n)
near_log o None log n kept legal is = subst (λ (s : Stand). Near s (stand_at (run_of (farm_of o) log) n)) (sym (none_stands n)) (near_free (stand_at (run_of (farm_of o) log) n))
near_log o (Some xs) log n kept legal is =
    let old = stand_at (run_of (farm_of o) xs) n in
    let P : List Entry → Type 0 = λ l. Near old (stand_at (run_of (farm_of o) l) n) in
    ⊎_elim
    (λ (e : xs ≡ log). subst P e (near_same old))
    (λ (e : (x : Entry) × (xs ++ x ∷ [] ≡ log)). subst P e.1 (near_last (farm_of o) xs e.0 n kept (subst (IsLegal (farm_of o)) (sym e.1) legal)))
    is

-- what is recorded of the slot
pub recorded_near : (o : Opening) (log : List Entry) (d : Desk) (n : ℕ) → IsKeptFarm (farm_of o) → IsLegal (farm_of o) log → IsBefore d.before log
    → Near ((recorded_in o log d).slot n) (stand_at (run_of (farm_of o) log) n)
recorded_near o log d n kept legal is =
    let now = stand_at (run_of (farm_of o) log) n in
    let old = stand_at (farm_before o d.before) n in
    let near = near_log o d.before log n kept legal is in
    go now old near (has n d.slots)
  where
    go : (now old : Stand) → Near old now → (b : Bool) → Near (if b then now else old) now
    go now old near true = near_same now
    go now old near false = near

-- ---- a frame's amounts are its layer's

pub record WithinLayers (s : Stand) : Type 0 where
  pub cores : IsBetween LEAST_CORES MOST_CORES s.cores
  pub memory : IsBetween LEAST_MEMORY MOST_MEMORY s.memory

layer_amounts : (l : LayerRow) → is_formed_layer l ≡ true → IsBetween LEAST_CORES MOST_CORES l.cores × IsBetween LEAST_MEMORY MOST_MEMORY l.memory
layer_amounts l formed = ((grind (arith, nat_tests), grind (arith, nat_tests)), (grind (arith, nat_tests), grind (arith, nat_tests)))

pub stand_within : (f : Farm) (n : ℕ) → KeepsRows f → ((stand_at f n).phase == 0) ≡ false → WithinLayers (stand_at f n)
stand_within f n kept some =
    let h = has_frame f n some in
    let r = frame_rows f kept n h.row h.frame h.at h.is in
    let a = layer_amounts r.layer_row (find_passes _ is_formed_layer f.layers r.layer_row kept.jobs.layers_formed r.layer_is) in
    let s = stand_is f n h.row h.frame r.job_row r.layer_row h.at h.is r.job_is r.layer_is in
    let c : (stand_at f n).cores ≡ r.layer_row.cores = ap (λ (x : Stand). x.cores) s in
    let m : (stand_at f n).memory ≡ r.layer_row.memory = ap (λ (x : Stand). x.memory) s in
    record { cores = subst (IsBetween LEAST_CORES MOST_CORES) (sym c) a.0; memory = subst (IsBetween LEAST_MEMORY MOST_MEMORY) (sym m) a.1 }
