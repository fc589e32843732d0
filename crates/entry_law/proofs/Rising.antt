-- Slots along an entry: versions rise, a waiting frame stays as it was or its slot's version rises, and only a booking
-- makes a frame run.
use Rattle.std.proofs.Common.{◌≡◌, ℕ, ◌<◌, ◌≤◌, true, false, eqb, Option, Some, sym, ap, subst, ◌∙◌, ◌⊎◌, inl, inr, arith}
use Rattle.std.specs.List.{slice_get}
use Rattle.std.proofs.lemmas.Option.{none-some, same_Some}
use Rattle.booking_rule.specs.Link.{stand_at}
use Rattle.booking_rule.specs.Recorded.{Stand}
use Rattle.farm_types.specs.declared.entry.Act.TheVariants.{Book}
use Rattle.farm_types.specs.declared.entry.Entry.{Entry}
use Rattle.farm_types.specs.declared.limits.TheConstants.{LAST_VERSION}
use Rattle.farm_types.specs.declared.slot_row.Frame.{Frame}
use Rattle.farm_types.specs.declared.slot_row.SlotRow.{SlotRow}
use Rattle.farm_types.specs.Booking.{is_waiting, version_of}
use Rattle.farm_types.specs.DependActs.{is_running}
use Rattle.farm_types.specs.Farm.{Farm, job_at, layer_at}
use Rattle.farm_types.specs.Kept.{IsKeptFarm}
use Rattle.farm_types.specs.Run.{IsLegalStep}
use Rattle.farm_types.specs.Step.{acted, after, followed}
use Rattle.depend_law.proofs.Turns.{on_frame, on_slot}
use Rattle.entry_law.proofs.ActsGo.{IsBookingOf}
use Rattle.entry_law.proofs.Closes.{Closes, IsSpared, act_closes}
use Rattle.entry_law.proofs.FollowsGo.{entry_at}
use Rattle.entry_law.proofs.FrameRows.{frame_rows}
use Rattle.entry_law.proofs.RowsOf.{rows_left, rows_then}
use Rattle.entry_law.proofs.SlotGoes.{Belongs, SlotGoes, belongs, frame_belongs, slot_belongs}
use Rattle.entry_law.proofs.Stands.{HasFrame, has_frame, running_frame, same_stand, stand_is, version_is, waiting_frame}

module _ (f : Farm) (e : Entry) (n : ℕ) (k : IsKeptFarm f) (legal : IsLegalStep f e) where
  -- the farm before jobs finish
  abbrev mid : Farm
  mid = followed e.act (acted f e)

  abbrev goes : SlotGoes (Unit {0}) (IsBookingOf e.act n) (slice_get f.slots n) (slice_get mid.slots n)
  goes = entry_at f e n k legal

  closing : Closes mid (after f e) n
  closing = act_closes e.act mid n

  -- ---- versions

  closed_version : Closes mid (after f e) n → version_of (slice_get mid.slots n) ≤ version_of (slice_get (after f e).slots n)
  closed_version (inl spared) = let same = ap version_of spared.row in omega (arith, same)
  closed_version (inr freed) = freed.version

  pub rows_rise : version_of (slice_get f.slots n) ≤ version_of (slice_get (after f e).slots n)
  rows_rise = let first = goes.version in let second = closed_version closing in omega (arith, first, second)

  pub versions : (stand_at f n).version ≤ (stand_at (after f e) n).version
  versions = let old = version_is f n in let new = version_is (after f e) n in let rise = rows_rise in omega (arith, old, new, rise)

  -- ---- a slot whose row stays

  spared_stand : IsSpared mid (after f e) n → (s : SlotRow) (x : Frame) → slice_get f.slots n ≡ Some s → s.frame ≡ Some x
      → slice_get mid.slots n ≡ slice_get f.slots n → stand_at (after f e) n ≡ stand_at f n
  spared_stand spared s x at is same =
      let now : slice_get (after f e).slots n ≡ Some s = spared.row ∙ (same ∙ at) in
      let of : slot_belongs (slice_get (after f e).slots n) ≡ Some (belongs x) = ap slot_belongs now ∙ ap frame_belongs is in
      same_stand f (after f e) n s x k.rows at is now (rows_then f mid (after f e) (belongs x) (rows_left f e legal (belongs x)) (spared.rows (belongs x) of))

  -- ---- waiting frames

  abbrev Rises : Type 0
  Rises = (stand_at (after f e) n ≡ stand_at f n) ⊎ ((stand_at f n).version < (stand_at (after f e) n).version)

  rose : version_of (slice_get f.slots n) < version_of (slice_get (after f e).slots n) → Rises
  rose above = let old = version_is f n in let new = version_is (after f e) n in inr (omega (arith, old, new, above))

  waits_by : (s : SlotRow) (x : Frame) → slice_get f.slots n ≡ Some s → s.frame ≡ Some x → version_of (slice_get f.slots n) < LAST_VERSION
      → (slice_get mid.slots n ≡ slice_get f.slots n) ⊎ (version_of (slice_get f.slots n) < version_of (slice_get mid.slots n)) → Closes mid (after f e) n → Rises
  waits_by s x at is below (inl same) (inl spared) = inl (spared_stand spared s x at is same)
  waits_by s x at is below (inl same) (inr freed) =
      rose
      (subst (λ (o : Option SlotRow). version_of o < version_of (slice_get (after f e).slots n)) same
      (freed.rises (subst (λ (o : Option SlotRow). version_of o < LAST_VERSION) (sym same) below)))
  waits_by s x at is below (inr above) closes = let later = closed_version closes in rose (omega (arith, above, later))

  pub waiting : (stand_at f n).phase ≡ 1 → (stand_at f n).version < 16777215 → Rises
  waiting phase low =
      let h = waiting_frame f n phase in
      let version = version_is f n in
      let below : version_of (slice_get f.slots n) < LAST_VERSION = omega (arith, version, low) in
      let waits : on_slot is_waiting (slice_get f.slots n) ≡ true = ap (on_slot is_waiting) h.0.at ∙ (ap (on_frame is_waiting) h.0.is ∙ h.1) in
      waits_by h.0.row h.0.frame h.0.at h.0.is below (goes.waits tt waits below) closing

  -- ---- frames that are there after it

  -- a slot that has a frame isn't freed
  spared_from : Closes mid (after f e) n → (p : Belongs) → slot_belongs (slice_get (after f e).slots n) ≡ Some p → IsSpared mid (after f e) n
  spared_from (inl spared) p at = spared
  spared_from (inr freed) p at = absurd (none-some p (sym freed.empty ∙ at))

  frame_there : (h : HasFrame (after f e) n) → slot_belongs (slice_get (after f e).slots n) ≡ Some (belongs h.frame)
  frame_there h = ap slot_belongs h.at ∙ ap frame_belongs h.is

  runs_by : (h : HasFrame (after f e) n) → IsSpared mid (after f e) n → (slice_get mid.slots n ≡ slice_get f.slots n) ⊎ IsBookingOf e.act n
      → (stand_at (after f e) n ≡ stand_at f n) ⊎ IsBookingOf e.act n
  runs_by h spared (inl same) = inl (spared_stand spared h.row h.frame (sym (spared.row ∙ same) ∙ h.at) h.is same)
  runs_by h spared (inr booked) = inr booked

  pub running : (stand_at (after f e) n).phase ≡ 4 → (stand_at (after f e) n ≡ stand_at f n) ⊎ ((host : ℕ) × (e.act ≡ Book n host))
  running phase =
      let h = running_frame (after f e) n phase in
      let spared = spared_from closing (belongs h.0.frame) (frame_there h.0) in
      let runs : on_slot is_running (slice_get mid.slots n) ≡ true =
      ap (on_slot is_running) (sym spared.row) ∙ (ap (on_slot is_running) h.0.at ∙ (ap (on_frame is_running) h.0.is ∙ h.1)) in
      runs_by h.0 spared (goes.runs runs)

  -- ---- amounts

  pub amounts : eqb (stand_at f n).phase 0 ≡ false → eqb (stand_at (after f e) n).phase 0 ≡ false
      → ((stand_at (after f e) n).cores ≡ (stand_at f n).cores) × ((stand_at (after f e) n).show ≡ (stand_at f n).show)
      × ((stand_at (after f e) n).limit ≡ (stand_at f n).limit) × ((stand_at (after f e) n).memory ≡ (stand_at f n).memory)
  amounts some_old some_new =
      let old = has_frame f n some_old in
      let new = has_frame (after f e) n some_new in
      let spared = spared_from closing (belongs new.frame) (frame_there new) in
      let of_old : slot_belongs (slice_get mid.slots n) ≡ Some (belongs old.frame) = goes.frame (belongs old.frame) (ap slot_belongs old.at ∙ ap frame_belongs old.is) in
      let same : belongs new.frame ≡ belongs old.frame =
      same_Some (belongs new.frame) (belongs old.frame) (sym (frame_there new) ∙ (ap slot_belongs spared.row ∙ of_old)) in
      let stays = rows_then f mid (after f e) (belongs old.frame) (rows_left f e legal (belongs old.frame))
      (spared.rows (belongs old.frame) (frame_there new ∙ ap Some same)) in
      let r = frame_rows f k.rows n old.row old.frame old.at old.is in
      let j = stays.job r.job_row r.job_is r.pending in
      let l = stays.layer r.layer_row r.layer_is in
      let before = stand_is f n old.row old.frame r.job_row r.layer_row old.at old.is r.job_is r.layer_is in
      let now =
      stand_is (after f e) n new.row new.frame j.0 r.layer_row new.at new.is
      (ap (λ (p : Belongs). job_at (after f e) p.job) same ∙ j.1) (ap (λ (p : Belongs). layer_at (after f e) p.job p.layer) same ∙ l) in (
        ap (λ (s : Stand). s.cores) now ∙ sym (ap (λ (s : Stand). s.cores) before),
        ap (λ (s : Stand). s.show) now ∙ (j.2 ∙ sym (ap (λ (s : Stand). s.show) before)),
        ap (λ (s : Stand). s.limit) now ∙ sym (ap (λ (s : Stand). s.limit) before),
        ap (λ (s : Stand). s.memory) now ∙ sym (ap (λ (s : Stand). s.memory) before),
      )
