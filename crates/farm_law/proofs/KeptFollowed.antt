-- What follows of depends keeps what every farm keeps of all other rows.
use Rattle.std.proofs.Common.{◌≡◌, ℕ, Bool, true, not, length, leb, ltb, ◌||◌, inl, inr, List, Option, Some, None, refl, sym, ap, subst, ◌∙◌, option_map}
use Rattle.std.specs.List.{slice_get}
use Rattle.std.specs.Option.{is_some}
use Rattle.std.specs.Cmp.Derive.{both_true}
use Rattle.std.proofs.lemmas.Bool.{false≢true, leb-true, le-leb}
use Rattle.farm_types.proofs.Lists.{and_both}
use Rattle.farm_types.specs.declared.depend.DependSpec.{DependSpec}
use Rattle.farm_types.specs.declared.entry.Act.{Act}
use Rattle.farm_types.specs.declared.limits.TheConstants.{LAST_VERSION}
use Rattle.farm_types.specs.declared.rows.LayerRow.{LayerRow}
use Rattle.farm_types.specs.declared.slot_row.Frame.{Frame}
use Rattle.farm_types.specs.declared.slot_row.SlotRow.{SlotRow}
use Rattle.farm_types.specs.declared.states.FrameState.{FrameState}
use Rattle.farm_types.specs.declared.states.FrameState.TheVariants.{Waiting, Setup, Running, Succeeded, Depend, Dead, Eaten}
use Rattle.farm_types.specs.DependActs.{add_depend, add_depends, dropped}
use Rattle.farm_types.specs.Farm.{Farm, for_some, is_placed, for_any}
use Rattle.farm_types.specs.Kept.{KeepsRows, is_kept_frame, is_setup}
use Rattle.farm_types.specs.Settle.{settle, with_blocked}
use Rattle.farm_types.specs.Step.{followed, lists_of}
use Rattle.farm_law.proofs.FollowLaws.{follows_law, restated_has_none}
use Rattle.farm_law.proofs.Follows.{Follows, RaisesWithin, SlotFollows, act_follows, add_follows, adds_follow, blocked_all_follow, dropped_follows, is_idle, settle_follows, with_rest_of, with_state}
use Rattle.farm_law.proofs.KeepsLaw.{KeepsLaw}
use Rattle.farm_law.proofs.KeptAttempts.{IsLeft, attempts_left}
use Rattle.farm_law.proofs.KeptChanges.{named_by, sound_by}
use Rattle.farm_law.proofs.KeptJobsRows.{frame_kept, keeps_frame}
use Rattle.farm_law.proofs.KeptJobsSlots.{SlotKeeps, slot_keeps, slots_keep}
use Rattle.farm_law.proofs.KeptJobsZip.{zip_was, zip_weaker}
use Rattle.farm_law.proofs.KeptServes.{hosts_serve}
use Rattle.farm_law.proofs.Placed.{Each}

-- ---- one slot

restated_places : (state : FrameState) (frame : Option Frame) (job layer position : ℕ) → for_some (option_map (with_state state) frame) (is_placed job layer position) ≡ for_some frame (is_placed job layer position)
restated_places state None job layer position = refl
restated_places state (Some x) job layer position = refl

idle_unset : (state : FrameState) → is_idle state ≡ true → not (is_setup state) ≡ true
idle_unset Waiting idle = refl
idle_unset Depend idle = refl
idle_unset Setup idle = absurd (false≢true idle)
idle_unset Running idle = refl
idle_unset Succeeded idle = refl
idle_unset Dead idle = refl
idle_unset Eaten idle = refl

restated_kept : (layers : List LayerRow) (state : FrameState) (frame : Option Frame) → is_idle state ≡ true → for_any frame (is_kept_frame layers) ≡ true → for_any (option_map (with_state state) frame) (is_kept_frame layers) ≡ true
restated_kept layers state None idle kept = refl
restated_kept layers state (Some x) idle kept =
    let had = frame_kept layers x kept in
    keeps_frame layers (with_state state x) (record { number = had.number; retries = had.retries; state = idle_unset state idle })

-- a slot with a frame is used
restated_used : (state : FrameState) (old new : Option Frame) (later : Bool) → for_some old (λ (x : Frame). is_idle x.state) ≡ true → new ≡ option_map (with_state state) old → (is_some new || later) ≡ true
restated_used state None new later idle is = absurd (false≢true idle)
restated_used state (Some x) new later idle is = rw is refl

slot_follows_keeps : (layers : List LayerRow) (s t : SlotRow) → SlotFollows s t → SlotKeeps layers s t
slot_follows_keeps layers s t (inl same) = subst (SlotKeeps layers s) (sym same) (slot_keeps layers s)
slot_follows_keeps layers s t (inr re) =
    record {
      places = λ job layer position. ap (λ (o : Option Frame). for_some o (is_placed job layer position)) re.frame ∙ restated_places re.state s.frame job layer position;
      kept = λ h.
          let both = and_both (leb s.version LAST_VERSION) (for_any s.frame (is_kept_frame layers)) h in
          both_true (le-leb t.version LAST_VERSION (re.within (leb-true s.version LAST_VERSION both.0)))
          (subst (λ (o : Option Frame). for_any o (is_kept_frame layers) ≡ true) (sym re.frame) (restated_kept layers re.state s.frame re.idle_now both.1));
      used = λ h. restated_used re.state s.frame t.frame (ltb 0 t.version) re.idle re.frame;
    }

-- ---- a farm

module _ (f g : Farm) (follows : Follows f g) (k : KeepsRows f) where
  slot_left : (i : ℕ) (s t : SlotRow) → slice_get f.slots i ≡ Some s → SlotFollows s t → IsLeft f.hosts f.hosts f.slots t
  slot_left i s t at (inl same) = inr (i, at ∙ ap Some (sym same), λ p is. hosts_serve f.hosts p.host)
  slot_left i s t at (inr re) = inl (re.proc ∙ restated_has_none i s t re (k.sound.attempts i s at))

  each_left : Each (λ i t. IsLeft f.hosts f.hosts f.slots t) g.slots
  each_left i t at =
      let was = zip_was SlotFollows f.slots g.slots follows.slots i t at in
      slot_left i was.0 t was.1 was.2

  rest_kept : KeepsLaw f (with_rest_of f g) → KeepsRows (with_rest_of f g)
  rest_kept law =
      let now = with_rest_of f g in
      record {
        moment_within = k.moment_within;
        shows = k.shows;
        allocs = k.allocs;
        subs = k.subs;
        limits = k.limits;
        hosts = k.hosts;
        jobs = slots_keep (lists_of f) g.slots (length f.shows) (zip_weaker SlotFollows (SlotKeeps f.layers) (slot_follows_keeps f.layers) f.slots g.slots follows.slots) k.jobs;
        attempts = attempts_left f now (named_by f now law.rows refl refl refl) each_left k;
        sound = sound_by f now law k;
      }

-- where slots follow, and depends are any
pub kept_follows : (f g : Farm) → Follows f g → KeepsRows f → KeepsRows g
kept_follows f g follows k = subst KeepsRows (sym follows.rest) (rest_kept f g follows k (subst (KeepsLaw f) follows.rest (follows_law f g follows)))

-- ---- each step

-- what is met is marked, and frames open
pub kept_settled : (f : Farm) → KeepsRows f → KeepsRows (settle f)
kept_settled f k = kept_follows f (settle f) (settle_follows f) k

-- frames are blocked, with a version that rises within the last or stays (`raised_raises`, `kept_raises`)
pub kept_blocked : (change : ℕ → ℕ) → RaisesWithin change → (f : Farm) → KeepsRows f → KeepsRows (with_blocked change f)
kept_blocked change raises f k = kept_follows f (with_blocked change f) (blocked_all_follow change raises f) k

-- depends come
pub kept_added : (f : Farm) (spec : DependSpec) → KeepsRows f → KeepsRows (add_depend f spec)
kept_added f spec k = kept_follows f (add_depend f spec) (add_follows f spec) k

pub kept_adds : (f : Farm) (specs : List DependSpec) → KeepsRows f → KeepsRows (add_depends f specs)
kept_adds f specs k = kept_follows f (add_depends f specs) (adds_follow f specs) k

-- one goes
pub kept_dropped : (f : Farm) (depend : ℕ) → KeepsRows f → KeepsRows (dropped f depend)
kept_dropped f depend k = kept_follows f (dropped f depend) (dropped_follows f depend) k

-- what follows of an act
pub kept_followed : (act : Act) (f : Farm) → KeepsRows f → KeepsRows (followed act f)
kept_followed act f k = kept_follows f (followed act f) (act_follows act f) k
