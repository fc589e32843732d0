-- What a farm says of a slot, a host, a subscription and a limit is what its row says, with the amounts of the frame's
-- layer and job.
use Rattle.std.proofs.Common.{◌≡◌, ℕ, Bool, true, false, eqb, Option, Some, None, refl, sym, ap, ◌∙◌, option_map}
use Rattle.std.specs.List.{slice_get}
use Rattle.std.specs.Prelude.{option_and_then}
use Rattle.std.proofs.lemmas.Bool.{eqb-true, true≢false}
use Rattle.booking_rule.specs.Link.{burst_at, burst_in, host_alloc, host_cores, host_memory, host_where, most_at, most_in, of_host, phase_of, slot_stand, stand_at}
use Rattle.booking_rule.specs.Recorded.{Stand, free_at}
use Rattle.farm_rows.specs.Changes.{row_at, used_row}
use Rattle.farm_rows.specs.Rows.{stored_state}
use Rattle.farm_rows.specs.declared.farm_row.FarmRow.{FarmRow}
use Rattle.farm_rows.specs.declared.farm_row.FarmRow.TheVariants as row
use Rattle.farm_rows.specs.declared.frame_row.StoredFrame.{StoredFrame}
use Rattle.farm_rows.specs.declared.frame_row.StoredState.{StoredState}
use Rattle.farm_rows.specs.declared.frame_row.StoredState.TheVariants as stored
use Rattle.farm_rows.specs.declared.row_key.RowKey.TheVariants as key
use Rattle.farm_types.specs.declared.attempt.ProcRow.{ProcRow}
use Rattle.farm_types.specs.declared.entry.Entry.{Entry}
use Rattle.farm_types.specs.declared.rows.HostRow.{HostRow}
use Rattle.farm_types.specs.declared.rows.LimitRow.{LimitRow}
use Rattle.farm_types.specs.declared.rows.SubRow.{SubRow}
use Rattle.farm_types.specs.declared.slot_row.Frame.{Frame}
use Rattle.farm_types.specs.declared.slot_row.SlotRow.{SlotRow}
use Rattle.farm_types.specs.declared.states.FrameState.{FrameState}
use Rattle.farm_types.specs.declared.states.FrameState.TheVariants as frame_state
use Rattle.farm_types.specs.Farm.{Farm, sub_at}
use Rattle.farm_types.specs.Kept.{IsKeptFarm}
use Rattle.farm_types.specs.Run.{IsLegalStep}
use Rattle.farm_types.specs.Step.{after}
use Rattle.entry_law.proofs.Rising.{amounts}
use Rattle.entry_law.proofs.Stands.{stand_made}

-- ---- what a slot's row says

record Shape : Type 0 where
  phase : ℕ
  version : ℕ
  host : ℕ

abbrev shape : Stand → Shape
shape s = record { phase = s.phase; version = s.version; host = s.host }

abbrev shape_of : ℕ → ℕ → ℕ → Shape
shape_of phase version host = record { phase = phase; version = version; host = host }

abbrev stored_phase : StoredState → ℕ
stored_phase stored.Waiting = 1
stored_phase stored.Depend = 2
stored_phase stored.Setup = 3
stored_phase (stored.Running boot host since) = 4
stored_phase stored.Succeeded = 5
stored_phase stored.Dead = 6
stored_phase stored.Eaten = 7

abbrev stored_host : StoredState → ℕ
stored_host (stored.Running boot host since) = host
stored_host other = 0

abbrev stored_shape : ℕ → Option StoredFrame → Shape
stored_shape version None = shape_of 0 version 0
stored_shape version (Some x) = shape_of (stored_phase x.state) version (stored_host x.state)

abbrev row_shape : Option FarmRow → Shape
row_shape (Some (row.Frame r)) = stored_shape r.version r.frame
row_shape other = shape_of 0 0 0

running_shape : (version : ℕ) (proc : Option ProcRow)
    → shape_of 4 version (host_where frame_state.Running proc) ≡ shape_of (stored_phase (stored_state proc frame_state.Running)) version (stored_host (stored_state proc frame_state.Running))
running_shape version None = refl
running_shape version (Some p) = refl

state_shape : (version : ℕ) (proc : Option ProcRow) (state : FrameState)
    → shape_of (phase_of state) version (host_where state proc) ≡ shape_of (stored_phase (stored_state proc state)) version (stored_host (stored_state proc state))
state_shape version proc frame_state.Running = running_shape version proc
state_shape version proc frame_state.Waiting = refl
state_shape version proc frame_state.Depend = refl
state_shape version proc frame_state.Setup = refl
state_shape version proc frame_state.Succeeded = refl
state_shape version proc frame_state.Dead = refl
state_shape version proc frame_state.Eaten = refl

free_shape : (n version : ℕ) (proc : Option ProcRow) (b : Bool) → eqb version 0 ≡ b
    → shape_of 0 version 0 ≡ row_shape (used_row n (record { version = version; frame = None; proc = proc }))
free_shape n version proc true is = rw is (ap (λ (v : ℕ). shape_of 0 v 0) (eqb-true version 0 is))
free_shape n version proc false is = rw is refl

frame_shape : (f : Farm) (n version : ℕ) (proc : Option ProcRow) (frame : Option Frame)
    → shape (slot_stand f (Some (record { version = version; frame = frame; proc = proc }))) ≡ row_shape (used_row n (record { version = version; frame = frame; proc = proc }))
frame_shape f n version proc None = free_shape n version proc (eqb version 0) refl
frame_shape f n version proc (Some x) = state_shape version proc x.state

option_shape : (f : Farm) (n : ℕ) (o : Option SlotRow) → shape (slot_stand f o) ≡ row_shape (option_and_then (used_row n) o)
option_shape f n None = refl
option_shape f n (Some s) = frame_shape f n s.version s.proc s.frame

shape_is : (f : Farm) (n : ℕ) → shape (stand_at f n) ≡ row_shape (row_at f (key.Frame n))
shape_is f n = ap shape (stand_made f n) ∙ option_shape f n (slice_get f.slots n)

-- ---- a slot without a frame

state_some : (state : FrameState) → eqb (phase_of state) 0 ≡ true → ⊥
state_some frame_state.Waiting h = true≢false (sym h)
state_some frame_state.Depend h = true≢false (sym h)
state_some frame_state.Setup h = true≢false (sym h)
state_some frame_state.Running h = true≢false (sym h)
state_some frame_state.Succeeded h = true≢false (sym h)
state_some frame_state.Dead h = true≢false (sym h)
state_some frame_state.Eaten h = true≢false (sym h)

frame_free : (f : Farm) (version : ℕ) (proc : Option ProcRow) (frame : Option Frame)
    → eqb (slot_stand f (Some (record { version = version; frame = frame; proc = proc }))).phase 0 ≡ true
    → slot_stand f (Some (record { version = version; frame = frame; proc = proc })) ≡ free_at version
frame_free f version proc None h = refl
frame_free f version proc (Some x) h = absurd (state_some x.state h)

option_free : (f : Farm) (o : Option SlotRow) → eqb (slot_stand f o).phase 0 ≡ true → (version : ℕ) × (slot_stand f o ≡ free_at version)
option_free f None h = (0, refl)
option_free f (Some s) h = (s.version, frame_free f s.version s.proc s.frame h)

free_is : (f : Farm) (n : ℕ) → eqb (stand_at f n).phase 0 ≡ true → (version : ℕ) × (stand_at f n ≡ free_at version)
free_is f n h =
    let v = option_free f (slice_get f.slots n) (ap (λ (s : Stand). eqb s.phase 0) (sym (stand_made f n)) ∙ h) in
    (v.0, stand_made f n ∙ v.1)

-- ---- slots whose row stays

module _ (f : Farm) (e : Entry) (n : ℕ) (k : IsKeptFarm f) (legal : IsLegalStep f e) where
  alike : (b : Bool) → eqb (stand_at f n).phase 0 ≡ b → shape (stand_at (after f e) n) ≡ shape (stand_at f n) → stand_at (after f e) n ≡ stand_at f n
  alike true is same =
      let old = free_is f n is in
      let new = free_is (after f e) n (ap (λ (s : Shape). eqb s.phase 0) same ∙ is) in
      let version : new.0 ≡ old.0 = ap (λ (s : Stand). s.version) (sym new.1) ∙ (ap (λ (s : Shape). s.version) same ∙ ap (λ (s : Stand). s.version) old.1) in
      new.1 ∙ (ap free_at version ∙ sym old.1)
  alike false is same =
      let m = amounts f e n k legal is (ap (λ (s : Shape). eqb s.phase 0) same ∙ is) in
      λ i. record {
        phase = (same i).phase;
        version = (same i).version;
        host = (same i).host;
        cores = m.0 i;
        show = m.1 i;
        limit = m.2 i;
        memory = m.3 i;
      }

  pub row_stays : row_at (after f e) (key.Frame n) ≡ row_at f (key.Frame n) → stand_at (after f e) n ≡ stand_at f n
  row_stays row = alike (eqb (stand_at f n).phase 0) refl (shape_is (after f e) n ∙ (ap row_shape row ∙ sym (shape_is f n)))

-- ---- hosts, subscriptions and limits whose row stays

abbrev host_read : (HostRow → ℕ) → Option FarmRow → ℕ
host_read field (Some (row.Host host r)) = field r
host_read field other = 0

host_reads : (field : HostRow → ℕ) (host : ℕ) (o : Option HostRow) → of_host field o ≡ host_read field (option_map (row.Host host) o)
host_reads field host None = refl
host_reads field host (Some r) = refl

cores_read : (f : Farm) (host : ℕ) → host_cores f host ≡ host_read (λ r. r.cores) (row_at f (key.Host host))
unfolding host_cores
cores_read f host = host_reads (λ r. r.cores) host (slice_get f.hosts host)

memory_read : (f : Farm) (host : ℕ) → host_memory f host ≡ host_read (λ r. r.memory) (row_at f (key.Host host))
unfolding host_memory
memory_read f host = host_reads (λ r. r.memory) host (slice_get f.hosts host)

alloc_read : (f : Farm) (host : ℕ) → host_alloc f host ≡ host_read (λ r. r.alloc) (row_at f (key.Host host))
unfolding host_alloc
alloc_read f host = host_reads (λ r. r.alloc) host (slice_get f.hosts host)

pub host_stays : (f g : Farm) (host : ℕ) → row_at g (key.Host host) ≡ row_at f (key.Host host)
    → (host_cores g host ≡ host_cores f host) × (host_memory g host ≡ host_memory f host) × (host_alloc g host ≡ host_alloc f host)
host_stays f g host row = (
  cores_read g host ∙ (ap (host_read (λ r. r.cores)) row ∙ sym (cores_read f host)),
  memory_read g host ∙ (ap (host_read (λ r. r.memory)) row ∙ sym (memory_read f host)),
  alloc_read g host ∙ (ap (host_read (λ r. r.alloc)) row ∙ sym (alloc_read f host)),
)

abbrev burst_read : Option FarmRow → ℕ
burst_read (Some (row.Sub r)) = r.burst
burst_read other = 0

burst_reads : (o : Option SubRow) → burst_in o ≡ burst_read (option_map row.Sub o)
burst_reads None = refl
burst_reads (Some r) = refl

burst_is : (f : Farm) (sub : ℕ) → burst_at f sub ≡ burst_read (row_at f (key.Sub sub))
unfolding burst_at
burst_is f sub = burst_reads (sub_at f sub)

pub burst_stays : (f g : Farm) (sub : ℕ) → row_at g (key.Sub sub) ≡ row_at f (key.Sub sub) → burst_at g sub ≡ burst_at f sub
burst_stays f g sub row = burst_is g sub ∙ (ap burst_read row ∙ sym (burst_is f sub))

abbrev most_read : Option FarmRow → ℕ
most_read (Some (row.Limit limit r)) = r.most
most_read other = 0

most_reads : (limit : ℕ) (o : Option LimitRow) → most_in o ≡ most_read (option_map (row.Limit limit) o)
most_reads limit None = refl
most_reads limit (Some r) = refl

most_is : (f : Farm) (limit : ℕ) → most_at f limit ≡ most_read (row_at f (key.Limit limit))
unfolding most_at
most_is f limit = most_reads limit (slice_get f.limits limit)

pub most_stays : (f g : Farm) (limit : ℕ) → row_at g (key.Limit limit) ≡ row_at f (key.Limit limit) → most_at g limit ≡ most_at f limit
most_stays f g limit row = most_is g limit ∙ (ap most_read row ∙ sym (most_is f limit))
