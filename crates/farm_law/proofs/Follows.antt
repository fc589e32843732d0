-- What follows of depends leaves all rows but those of depends, and of each slot all but whether its frame waits or is blocked, and its version.
use Rattle.std.proofs.Common.{◌≡◌, ℕ, ◌+◌, ◌≤◌, Bool, true, false, cond, ltb, List, [], ◌∷◌, Option, Some, None, refl, sym, ap, subst, ◌∙◌, ◌⊎◌, inl, inr, arith, option_map}
use Rattle.std.specs.List.{AllZip}
use Rattle.std.proofs.lemmas.Bool.{false≢true, ltb-true}
use Rattle.farm_types.specs.declared.depend.DependSpec.{DependSpec}
use Rattle.farm_types.specs.declared.entry.Act.{Act}
use Rattle.farm_types.specs.declared.entry.Act.TheVariants.{Heard, Submit, AddDepend, DropDepend, KillJob, EatFrame, RetryFrame}
use Rattle.farm_types.specs.declared.limits.TheConstants.{LAST_VERSION}
use Rattle.farm_types.specs.declared.slot_row.Frame.{Frame}
use Rattle.farm_types.specs.declared.slot_row.SlotRow.{SlotRow}
use Rattle.farm_types.specs.declared.states.FrameState.{FrameState}
use Rattle.farm_types.specs.declared.states.FrameState.TheVariants.{Waiting, Setup, Running, Succeeded, Depend, Dead, Eaten}
use Rattle.farm_types.specs.Booking.{is_waiting}
use Rattle.farm_types.specs.DependActs.{add_depend, add_depends, after_depend, dropped, with_depends}
use Rattle.farm_types.specs.Depends.{is_open}
use Rattle.farm_types.specs.Farm.{Farm, for_some}
use Rattle.farm_types.specs.Settle.{blocked_from, blocked_row, blocks, in_state, is_blocked, kept_version, opened_from, opens, raised, settle, with_blocked, with_met, with_opened}
use Rattle.farm_types.specs.Step.{followed}
use Rattle.farm_types.proofs.Lists.{and_both, for_some_true}
use Rattle.farm_types.proofs.Passes.{cond_each, for_some-there}
use Rattle.farm_law.proofs.KeptJobsZip.{zip_same, zip_then}

-- ---- one slot

-- the state of a frame that waits to be booked, or is blocked
abbrev pub is_idle : FrameState → Bool
is_idle Waiting = true
is_idle Depend = true
is_idle other = false

abbrev pub with_state : FrameState → Frame → Frame
with_state state x = record x { state = state }

-- The slot's frame waited or was blocked, and waits or is blocked now. The version hasn't fallen, and is within the last where it was.
pub record IsRestated (s t : SlotRow) : Type 0 where
  pub state : FrameState
  pub idle : for_some s.frame (λ (x : Frame). is_idle x.state) ≡ true
  pub idle_now : is_idle state ≡ true
  pub frame : t.frame ≡ option_map (with_state state) s.frame
  pub proc : t.proc ≡ s.proc
  pub version : s.version ≤ t.version
  pub within : s.version ≤ LAST_VERSION → t.version ≤ LAST_VERSION

-- the slot is as it was, or so
abbrev pub SlotFollows : SlotRow → SlotRow → Type 0
SlotFollows s t = (t ≡ s) ⊎ IsRestated s t

restated_twice : (first second : FrameState) (frame : Option Frame) → option_map (with_state second) (option_map (with_state first) frame) ≡ option_map (with_state second) frame
restated_twice first second None = refl
restated_twice first second (Some x) = refl

restated_then : (r s t : SlotRow) → IsRestated r s → IsRestated s t → IsRestated r t
restated_then r s t first second =
    record {
      state = second.state;
      idle = first.idle;
      idle_now = second.idle_now;
      frame = second.frame ∙ (ap (option_map (with_state second.state)) first.frame ∙ restated_twice first.state second.state r.frame);
      proc = second.proc ∙ first.proc;
      version = omega (arith, first.version, second.version);
      within = λ h. second.within (first.within h);
    }

pub slot_follows_then : (r s t : SlotRow) → SlotFollows r s → SlotFollows s t → SlotFollows r t
slot_follows_then r s t (inl same) second = subst (λ (x : SlotRow). SlotFollows x t) same second
slot_follows_then r s t (inr first) (inl same) = inr (subst (IsRestated r) (sym same) first)
slot_follows_then r s t (inr first) (inr second) = inr (restated_then r s t first second)

-- ---- a farm

-- the farm with the slots and the depends of another
abbrev pub with_rest_of : Farm → Farm → Farm
with_rest_of f g = record f { slots = g.slots; depends = g.depends; met = g.met; next_depend = g.next_depend }

-- The second farm has all else of the first, and each slot follows.
pub record Follows (f g : Farm) : Type 0 where
  pub rest : g ≡ with_rest_of f g
  pub slots : AllZip SlotFollows f.slots g.slots

pub follows_then : (f g k : Farm) → Follows f g → Follows g k → Follows f k
follows_then f g k first second =
    record {
      rest = second.rest ∙ ap (λ (h : Farm). with_rest_of h k) first.rest;
      slots = zip_then SlotFollows slot_follows_then f.slots g.slots k.slots first.slots second.slots;
    }

pub slots_follow_same : (slots : List SlotRow) → AllZip SlotFollows slots slots
slots_follow_same slots = zip_same SlotFollows (λ s. inl refl) slots

pub follows_same : (f : Farm) → Follows f f
follows_same f = record { rest = refl; slots = slots_follow_same f.slots }

-- ---- frames that open

blocked_idle : (state : FrameState) → is_blocked state ≡ true → is_idle state ≡ true
blocked_idle Depend h = refl
blocked_idle Waiting h = refl
blocked_idle Setup h = absurd (false≢true h)
blocked_idle Running h = absurd (false≢true h)
blocked_idle Succeeded h = absurd (false≢true h)
blocked_idle Dead h = absurd (false≢true h)
blocked_idle Eaten h = absurd (false≢true h)

waiting_idle : (state : FrameState) → is_waiting state ≡ true → is_idle state ≡ true
waiting_idle Waiting h = refl
waiting_idle Depend h = refl
waiting_idle Setup h = absurd (false≢true h)
waiting_idle Running h = absurd (false≢true h)
waiting_idle Succeeded h = absurd (false≢true h)
waiting_idle Dead h = absurd (false≢true h)
waiting_idle Eaten h = absurd (false≢true h)

opened_follows : (f : Farm) (slot : ℕ) (s : SlotRow) (b : Bool) → opens f slot s ≡ b → SlotFollows s (cond b (in_state Waiting s) s)
opened_follows f slot s false is = inl refl
opened_follows f slot s true is =
    let blocked = for_some_true s.frame (λ (x : Frame). is_blocked x.state) (and_both (for_some s.frame (λ (x : Frame). is_blocked x.state)) (is_open f slot) is).0 in
    inr (record {
      state = Waiting;
      idle = for_some-there s.frame (λ (x : Frame). is_idle x.state) blocked.0 blocked.1 (blocked_idle blocked.0.state blocked.2);
      idle_now = refl;
      frame = refl;
      proc = refl;
      version = omega arith;
      within = λ h. h;
    })

slots_opened : (f : Farm) (slot : ℕ) (slots : List SlotRow) → AllZip SlotFollows slots (opened_from f slot slots)
slots_opened f slot [] = tt
slots_opened f slot (s ∷ ss) = (opened_follows f slot s (opens f slot s) refl, slots_opened f (slot + 1) ss)

pub met_follows : (f : Farm) → Follows f (with_met f)
met_follows f = record { rest = refl; slots = slots_follow_same f.slots }

pub opened_all_follow : (f : Farm) → Follows f (with_opened f)
opened_all_follow f = record { rest = refl; slots = slots_opened f 0 f.slots }

pub settle_follows : (f : Farm) → Follows f (settle f)
unfolding settle
settle_follows f = follows_then f (with_met f) (with_opened (with_met f)) (met_follows f) (opened_all_follow (with_met f))

-- ---- frames that are blocked

-- the version doesn't fall, and stays within the last
pub record RaisesWithin (change : ℕ → ℕ) : Type 0 where
  pub rises : (version : ℕ) → version ≤ change version
  pub within : (version : ℕ) → version ≤ LAST_VERSION → change version ≤ LAST_VERSION

pub kept_raises : RaisesWithin kept_version
kept_raises = record { rises = λ version. omega arith; within = λ version h. h }

raised_by : (version : ℕ) (b : Bool) → ltb version LAST_VERSION ≡ b → version ≤ LAST_VERSION → cond b (version + 1) version ≤ LAST_VERSION
raised_by version true below h = omega (arith, ltb-true version LAST_VERSION below)
raised_by version false below h = h

pub raised_raises : RaisesWithin raised
raised_raises =
    record {
      rises = λ version. cond_each (λ (n : ℕ). version ≤ n) (ltb version LAST_VERSION) (version + 1) version (omega arith) (omega arith);
      within = λ version h. raised_by version (ltb version LAST_VERSION) refl h;
    }

module _ (change : ℕ → ℕ) (raises : RaisesWithin change) where
  blocked_follows : (f : Farm) (slot : ℕ) (s : SlotRow) (b : Bool) → blocks f slot s ≡ b → SlotFollows s (cond b (blocked_row change s) s)
  blocked_follows f slot s false is = inl refl
  blocked_follows f slot s true is =
      let waits = for_some_true s.frame (λ (x : Frame). is_waiting x.state) (and_both (for_some s.frame (λ (x : Frame). is_waiting x.state)) _ is).0 in
      inr (record {
        state = Depend;
        idle = for_some-there s.frame (λ (x : Frame). is_idle x.state) waits.0 waits.1 (waiting_idle waits.0.state waits.2);
        idle_now = refl;
        frame = refl;
        proc = refl;
        version = raises.rises s.version;
        within = raises.within s.version;
      })

  slots_blocked : (f : Farm) (slot : ℕ) (slots : List SlotRow) → AllZip SlotFollows slots (blocked_from change f slot slots)
  slots_blocked f slot [] = tt
  slots_blocked f slot (s ∷ ss) = (blocked_follows f slot s (blocks f slot s) refl, slots_blocked f (slot + 1) ss)

  pub blocked_all_follow : (f : Farm) → Follows f (with_blocked change f)
  unfolding with_blocked
  blocked_all_follow f = record { rest = refl; slots = slots_blocked f 0 f.slots }

-- ---- depends that come and go

pub add_follows : (f : Farm) (spec : DependSpec) → Follows f (add_depend f spec)
add_follows f spec = record { rest = refl; slots = slots_follow_same f.slots }

pub adds_follow : (f : Farm) (specs : List DependSpec) → Follows f (add_depends f specs)
adds_follow f [] = follows_same f
adds_follow f (spec ∷ specs) = follows_then f (add_depend f spec) (add_depends (add_depend f spec) specs) (add_follows f spec) (adds_follow (add_depend f spec) specs)

pub dropped_follows : (f : Farm) (depend : ℕ) → Follows f (dropped f depend)
dropped_follows f depend = record { rest = refl; slots = slots_follow_same f.slots }

-- what is settled and then blocked
settled_blocked : (change : ℕ → ℕ) → RaisesWithin change → (f : Farm) → Follows f (with_blocked change (settle f))
settled_blocked change raises f = follows_then f (settle f) (with_blocked change (settle f)) (settle_follows f) (blocked_all_follow change raises (settle f))

pub after_depend_follows : (f : Farm) (spec : DependSpec) → Follows f (after_depend f spec)
after_depend_follows f spec = follows_then f (add_depend f spec) (after_depend f spec) (add_follows f spec) (settled_blocked raised raised_raises (add_depend f spec))

pub with_depends_follows : (f : Farm) (specs : List DependSpec) → Follows f (with_depends f specs)
with_depends_follows f [] = follows_same f
with_depends_follows f (spec ∷ specs) =
    let all = spec ∷ specs in
    follows_then f (add_depends f all) (with_depends f all) (adds_follow f all) (settled_blocked kept_version kept_raises (add_depends f all))

-- ---- what follows of each act

pub act_follows : (act : Act) (f : Farm) → Follows f (followed act f)
act_follows (Heard heard) f = settle_follows f
act_follows (Submit spec) f = with_depends_follows f spec.depends
act_follows (AddDepend spec) f = after_depend_follows f spec
act_follows (DropDepend depend) f = follows_then f (dropped f depend) (settle (dropped f depend)) (dropped_follows f depend) (settle_follows (dropped f depend))
act_follows (KillJob job) f = settle_follows f
act_follows (EatFrame p) f = settle_follows f
act_follows (RetryFrame p) f = blocked_all_follow kept_version kept_raises f
act_follows act f = follows_same f
