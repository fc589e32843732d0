-- Frames that operators kill, eat and retry leave what every farm keeps.
use Rattle.std.proofs.Common.{◌≡◌, ℕ, ◌≤◌, true, not, length, leb, ltb, List, Option, Some, None, refl, sym, ap, subst, ◌∙◌, ◌||◌, inl, inr, arith, option_map}
use Rattle.std.specs.List.{slice_get}
use Rattle.std.specs.Option.{is_some}
use Rattle.std.specs.Cmp.Derive.{both_true}
use Rattle.std.proofs.lemmas.Bool.{false≢true, leb-true, le-leb, lt-ltb, ltb-true}
use Rattle.farm_types.proofs.Lists.{and_both}
use Rattle.farm_types.specs.declared.limits.TheConstants.{LAST_VERSION}
use Rattle.farm_types.specs.declared.rows.LayerRow.{LayerRow}
use Rattle.farm_types.specs.declared.slot_row.Frame.{Frame}
use Rattle.farm_types.specs.declared.slot_row.SlotRow.{SlotRow}
use Rattle.farm_types.specs.declared.states.FrameState.{FrameState}
use Rattle.farm_types.specs.declared.states.FrameState.TheVariants.{Waiting, Setup, Running, Succeeded, Depend, Dead, Eaten}
use Rattle.farm_types.specs.Farm.{Farm, for_some, is_placed, for_any}
use Rattle.farm_types.specs.Kept.{KeepsRows, is_kept_frame, is_setup}
use Rattle.farm_types.specs.Step.{lists_of}
use Rattle.farm_law.proofs.KeepsLaw.{KeepsLaw}
use Rattle.farm_law.proofs.KeptAttempts.{IsLeft, attempts_left}
use Rattle.farm_law.proofs.KeptChanges.{named_by, sound_by}
use Rattle.farm_law.proofs.KeptJobsRows.{frame_kept, keeps_frame}
use Rattle.farm_law.proofs.KeptJobsSlots.{SlotKeeps, slot_keeps, slots_keep}
use Rattle.farm_law.proofs.KeptJobsZip.{zip_was, zip_weaker}
use Rattle.farm_law.proofs.KeptServes.{hosts_serve}
use Rattle.farm_law.proofs.Placed.{Each}
use Rattle.farm_law.proofs.Stopped.{SlotStops, Stops, is_at_rest, rested, stops_law}

-- ---- one slot

rested_places : (state : FrameState) (retries : ℕ → ℕ) (frame : Option Frame) (job layer position : ℕ) → for_some (option_map (rested state retries) frame) (is_placed job layer position) ≡ for_some frame (is_placed job layer position)
rested_places state retries None job layer position = refl
rested_places state retries (Some x) job layer position = refl

rest_unset : (state : FrameState) → is_at_rest state ≡ true → not (is_setup state) ≡ true
rest_unset Waiting rests = refl
rest_unset Setup rests = absurd (false≢true rests)
rest_unset Running rests = refl
rest_unset Succeeded rests = refl
rest_unset Depend rests = refl
rest_unset Dead rests = refl
rest_unset Eaten rests = refl

rested_kept : (layers : List LayerRow) (state : FrameState) (retries : ℕ → ℕ) (frame : Option Frame) → is_at_rest state ≡ true → ((n : ℕ) → retries n ≤ n) → for_any frame (is_kept_frame layers) ≡ true → for_any (option_map (rested state retries) frame) (is_kept_frame layers) ≡ true
rested_kept layers state retries None rests fewer kept = refl
rested_kept layers state retries (Some x) rests fewer kept =
    let had = frame_kept layers x kept in
    keeps_frame layers (rested state retries x) (record { number = had.number; retries = omega (arith, fewer x.retries, had.retries); state = rest_unset state rests })

rested_used : (state : FrameState) (retries : ℕ → ℕ) (frame : Option Frame) (old new : ℕ) → old ≤ new → (is_some frame || ltb 0 old) ≡ true → (is_some (option_map (rested state retries) frame) || ltb 0 new) ≡ true
rested_used state retries None old new rises used = lt-ltb 0 new (omega (arith, ltb-true 0 old used, rises))
rested_used state retries (Some x) old new rises used = refl

slot_stops_keeps : (layers : List LayerRow) (s t : SlotRow) → SlotStops s t → SlotKeeps layers s t
slot_stops_keeps layers s t (inl same) = subst (SlotKeeps layers s) (sym same) (slot_keeps layers s)
slot_stops_keeps layers s t (inr stop) =
    record {
      places = λ job layer position. ap (λ (o : Option Frame). for_some o (is_placed job layer position)) stop.frame ∙ rested_places stop.state stop.retries s.frame job layer position;
      kept = λ h.
          let both = and_both (leb s.version LAST_VERSION) (for_any s.frame (is_kept_frame layers)) h in
          both_true (le-leb t.version LAST_VERSION (stop.within (leb-true s.version LAST_VERSION both.0)))
          (subst (λ (o : Option Frame). for_any o (is_kept_frame layers) ≡ true) (sym stop.frame) (rested_kept layers stop.state stop.retries s.frame stop.rests stop.fewer both.1));
      used = λ h.
          subst (λ (o : Option Frame). (is_some o || ltb 0 t.version) ≡ true) (sym stop.frame)
          (rested_used stop.state stop.retries s.frame s.version t.version stop.version h);
    }

-- ---- a farm

module _ (f g : Farm) (stops : Stops f g) (k : KeepsRows f) where
  slot_left : (i : ℕ) (s t : SlotRow) → slice_get f.slots i ≡ Some s → SlotStops s t → IsLeft f.hosts f.hosts f.slots t
  slot_left i s t at (inl same) = inr (i, at ∙ ap Some (sym same), λ p is. hosts_serve f.hosts p.host)
  slot_left i s t at (inr stop) = inl stop.proc

  each_left : Each (λ i t. IsLeft f.hosts f.hosts f.slots t) g.slots
  each_left i t at =
      let was = zip_was SlotStops f.slots g.slots stops.slots i t at in
      slot_left i was.0 t was.1 was.2

  stopped_kept : KeepsLaw f (record f { slots = g.slots }) → KeepsRows (record f { slots = g.slots })
  stopped_kept law =
      let now : Farm = record f { slots = g.slots } in
      record {
        moment_within = k.moment_within;
        shows = k.shows;
        allocs = k.allocs;
        subs = k.subs;
        limits = k.limits;
        hosts = k.hosts;
        jobs = slots_keep (lists_of f) g.slots (length f.shows) (zip_weaker SlotStops (SlotKeeps f.layers) (slot_stops_keeps f.layers) f.slots g.slots stops.slots) k.jobs;
        attempts = attempts_left f now (named_by f now law.rows refl refl refl) each_left k;
        sound = sound_by f now law k;
      }

pub kept_stops : (f g : Farm) → Stops f g → KeepsRows f → KeepsRows g
kept_stops f g stops k = subst KeepsRows (sym stops.rest) (stopped_kept f g stops k (subst (KeepsLaw f) stops.rest (stops_law f g stops)))
