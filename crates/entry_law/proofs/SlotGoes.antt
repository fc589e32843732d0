-- What becomes of a slot by an act and what follows of it: its version, waiting frames, running frames, and where its
-- frame belongs.
use Rattle.std.proofs.Common.{◌≡◌, ◌≢◌, ℕ, ◌<◌, ◌≤◌, true, List, map, Option, Some, None, refl, sym, ap, subst, ◌∙◌, ◌⊎◌, inl, inr, arith, option_map}
use Rattle.std.specs.List.{slice_get}
use Rattle.std.proofs.lemmas.Option.{slice_get-map}
use Rattle.farm_types.specs.declared.limits.TheConstants.{LAST_VERSION}
use Rattle.farm_types.specs.declared.slot_row.Frame.{Frame}
use Rattle.farm_types.specs.declared.slot_row.SlotRow.{SlotRow}
use Rattle.farm_types.specs.Booking.{is_waiting, version_of}
use Rattle.farm_types.specs.DependActs.{is_running}
use Rattle.farm_types.specs.Farm.{changed_at}
use Rattle.farm_types.proofs.Changed.{changed_at_other, changed_at_same, places}
use Rattle.depend_law.proofs.Turns.{on_frame, on_slot}

-- ---- where a frame belongs

-- the job and the layer of a slot's frame
pub record Belongs : Type 0 where
  pub job : ℕ
  pub layer : ℕ

abbrev pub belongs : Frame → Belongs
belongs x = record { job = x.job; layer = x.layer }

abbrev pub frame_belongs : Option Frame → Option Belongs
frame_belongs frame = option_map belongs frame

abbrev pub slot_belongs : Option SlotRow → Option Belongs
slot_belongs None = None
slot_belongs (Some s) = frame_belongs s.frame

-- a change of the frame that leaves it its job and its layer
pub belongs_stays : (change : Frame → Frame) → ((x : Frame) → belongs (change x) ≡ belongs x) → (frame : Option Frame)
    → frame_belongs (option_map change frame) ≡ frame_belongs frame
belongs_stays change keeps None = refl
belongs_stays change keeps (Some x) = ap Some (keeps x)

-- ---- one slot

-- The version doesn't fall. A frame that waits below the last version is as it was, or the version rose; it is said
-- where the first type holds. A slot whose frame runs is as it was, or the second type holds. And a frame stays of its
-- job and layer.
pub record SlotGoes (W B : Type 0) (old new : Option SlotRow) : Type 0 where
  pub version : version_of old ≤ version_of new
  pub waits : W → on_slot is_waiting old ≡ true → version_of old < LAST_VERSION → (new ≡ old) ⊎ (version_of old < version_of new)
  pub runs : on_slot is_running new ≡ true → (new ≡ old) ⊎ B
  pub frame : (p : Belongs) → slot_belongs old ≡ Some p → slot_belongs new ≡ Some p

pub goes_same : (W B : Type 0) (o : Option SlotRow) → SlotGoes W B o o
goes_same W B o = record { version = omega arith; waits = λ w h below. inl refl; runs = λ h. inl refl; frame = λ p at. at }

waits_then : (W B : Type 0) (x y z : Option SlotRow) → SlotGoes W B y z → W → on_slot is_waiting x ≡ true → version_of x < LAST_VERSION
    → (y ≡ x) ⊎ (version_of x < version_of y) → (z ≡ x) ⊎ (version_of x < version_of z)
waits_then W B x y z second w h below (inl e) =
    subst (λ (o : Option SlotRow). (z ≡ o) ⊎ (version_of o < version_of z)) e
    (second.waits w (subst (λ (o : Option SlotRow). on_slot is_waiting o ≡ true) (sym e) h) (subst (λ (o : Option SlotRow). version_of o < LAST_VERSION) (sym e) below))
waits_then W B x y z second w h below (inr rose) = inr (omega (arith, rose, second.version))

runs_then : (W B : Type 0) (x y z : Option SlotRow) → SlotGoes W B x y → on_slot is_running z ≡ true → (z ≡ y) ⊎ B → (z ≡ x) ⊎ B
runs_then W B x y z first h (inl e) =
    subst (λ (o : Option SlotRow). (o ≡ x) ⊎ B) (sym e) (first.runs (subst (λ (o : Option SlotRow). on_slot is_running o ≡ true) e h))
runs_then W B x y z first h (inr b) = inr b

pub goes_then : (W B : Type 0) (x y z : Option SlotRow) → SlotGoes W B x y → SlotGoes W B y z → SlotGoes W B x z
goes_then W B x y z first second =
    record {
      version = omega (arith, first.version, second.version);
      waits = λ w h below. waits_then W B x y z second w h below (first.waits w h below);
      runs = λ h. runs_then W B x y z first h (second.runs h);
      frame = λ p at. second.frame p (first.frame p at);
    }

-- where the second step leaves a frame that still waits as it was
waits_left : (W B : Type 0) (x y z : Option SlotRow) → SlotGoes ⊥ B y z → (y ≡ x → z ≡ y) → (y ≡ x) ⊎ (version_of x < version_of y)
    → (z ≡ x) ⊎ (version_of x < version_of z)
waits_left W B x y z second same (inl e) = inl (same e ∙ e)
waits_left W B x y z second same (inr rose) = inr (omega (arith, rose, second.version))

pub goes_left : (W B : Type 0) (x y z : Option SlotRow) → SlotGoes W B x y → SlotGoes ⊥ B y z → (on_slot is_waiting x ≡ true → y ≡ x → z ≡ y) → SlotGoes W B x z
goes_left W B x y z first second same =
    record {
      version = omega (arith, first.version, second.version);
      waits = λ w h below. waits_left W B x y z second (same h) (first.waits w h below);
      runs = λ h. runs_then W B x y z (record { version = first.version; waits = first.waits; runs = first.runs; frame = first.frame }) h (second.runs h);
      frame = λ p at. second.frame p (first.frame p at);
    }

-- ---- rows

-- A row that has another frame of the same place, which doesn't run unless the second type holds; and where the old one
-- waited, the version rose.
pub row_goes : (W B : Type 0) (s t : SlotRow) → s.version ≤ t.version
    → (W → on_frame is_waiting s.frame ≡ true → s.version < LAST_VERSION → s.version < t.version)
    → (on_frame is_running t.frame ≡ true → B) → frame_belongs t.frame ≡ frame_belongs s.frame → SlotGoes W B (Some s) (Some t)
row_goes W B s t version rises runs frame =
    record { version = version; waits = λ w h below. inr (rises w h below); runs = λ h. inr (runs h); frame = λ p at. frame ∙ at }

-- ---- lists of slots

module _ (R : Option SlotRow → Option SlotRow → Type 0) (self : (o : Option SlotRow) → R o o) where
  changed_option : (change : SlotRow → SlotRow) (o : Option SlotRow) → ((s : SlotRow) → o ≡ Some s → R (Some s) (Some (change s))) → R o (option_map change o)
  changed_option change None each = self None
  changed_option change (Some s) each = each s refl

  -- each row changes
  pub map_each : (change : SlotRow → SlotRow) (slots : List SlotRow) (n : ℕ) → ((s : SlotRow) → slice_get slots n ≡ Some s → R (Some s) (Some (change s)))
      → R (slice_get slots n) (slice_get (map change slots) n)
  map_each change slots n each = subst (R (slice_get slots n)) (sym (slice_get-map change slots n)) (changed_option change (slice_get slots n) each)

  changed_there : (change : SlotRow → SlotRow) (slots : List SlotRow) (i : ℕ) (o : Option SlotRow) → slice_get slots i ≡ o
      → ((s : SlotRow) → slice_get slots i ≡ Some s → R (Some s) (Some (change s)))
      → R o (slice_get (changed_at slots i change) i)
  changed_there change slots i None at each = rw at (subst (R None) (sym at) (self None))
  changed_there change slots i (Some s) at each = subst (R (Some s)) (sym (changed_at_same slots i change s at)) (each s at)

  changed_place : (change : SlotRow → SlotRow) (slots : List SlotRow) (i n : ℕ) → (n ≡ i) ⊎ (n ≢ i)
      → ((s : SlotRow) → slice_get slots i ≡ Some s → R (Some s) (Some (change s)))
      → R (slice_get slots n) (slice_get (changed_at slots i change) n)
  changed_place change slots i n (inl e) each =
      subst (λ (k : ℕ). R (slice_get slots k) (slice_get (changed_at slots i change) k)) (sym e) (changed_there change slots i (slice_get slots i) refl each)
  changed_place change slots i n (inr apart) each = subst (R (slice_get slots n)) (sym (changed_at_other slots i n change apart)) (self (slice_get slots n))

  -- the row at a place changes
  pub changed_each : (change : SlotRow → SlotRow) (slots : List SlotRow) (i n : ℕ) → ((s : SlotRow) → slice_get slots i ≡ Some s → R (Some s) (Some (change s)))
      → R (slice_get slots n) (slice_get (changed_at slots i change) n)
  changed_each change slots i n each = changed_place change slots i n (places n i) each
