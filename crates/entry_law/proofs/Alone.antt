-- A booking changes its slot alone.
use Rattle.std.proofs.Common.{◌≡◌, ◌≢◌, ℕ, ◌+◌, true, false, eqb, List, Option, Some, None, refl, sym, ap, subst, ◌∙◌, arith, option_map}
use Rattle.std.specs.List.{slice_get}
use Rattle.std.proofs.lemmas.Bool.{eq-eqb, false≢true, true≢false}
use Rattle.booking_rule.specs.Link.{burst_at, frame_stand, host_alloc, host_cores, host_memory, most_at, phase_of, slot_stand, stand_at}
use Rattle.booking_rule.specs.Recorded.{Stand}
use Rattle.farm_types.specs.declared.entry.Act.{Act}
use Rattle.farm_types.specs.declared.entry.Act.TheVariants.{Book}
use Rattle.farm_types.specs.declared.entry.Entry.{Entry}
use Rattle.farm_types.specs.declared.slot_row.Frame.{Frame}
use Rattle.farm_types.specs.declared.slot_row.SlotRow.{SlotRow}
use Rattle.farm_types.specs.declared.states.FrameState.{FrameState}
use Rattle.farm_types.specs.declared.states.FrameState.TheVariants as frame_state
use Rattle.farm_types.specs.Booking.{is_waiting, may_record}
use Rattle.farm_types.specs.Farm.{Farm, changed_at}
use Rattle.farm_types.specs.Run.{IsLegalStep}
use Rattle.farm_types.specs.Step.{HasCondition, after, after_act, at_moment, booked_row, closed, followed, moment_of, proc_of}
use Rattle.farm_types.proofs.Changed.{changed_at_other, changed_at_same}
use Rattle.farm_law.proofs.Booked.{booking_makes}
use Rattle.farm_law.proofs.CanBook.{CanBook, Rows, can_book}
use Rattle.farm_law.proofs.SafeRuns.{allowed_later}
use Rattle.entry_law.proofs.Stands.{stand_is, stand_made, the_stand}
use Rattle.entry_law.specs.Alone.{BooksAlone}

waiting_phase : (state : FrameState) → is_waiting state ≡ true → phase_of state ≡ 1
waiting_phase frame_state.Waiting h = refl
waiting_phase frame_state.Depend h = absurd (false≢true h)
waiting_phase frame_state.Setup h = absurd (false≢true h)
waiting_phase frame_state.Running h = absurd (false≢true h)
waiting_phase frame_state.Succeeded h = absurd (false≢true h)
waiting_phase frame_state.Dead h = absurd (false≢true h)
waiting_phase frame_state.Eaten h = absurd (false≢true h)

-- the farm at a moment, with other slots
module _ (f : Farm) (moment : ℕ) (slots : List SlotRow) where
  abbrev with_slots : Farm
  with_slots = record (at_moment f moment) { slots = slots }

  frame_alike : (s : SlotRow) (frame : Option Frame) → frame_stand with_slots s frame ≡ frame_stand f s frame
  frame_alike s None = refl
  frame_alike s (Some x) = refl

  option_alike : (o : Option SlotRow) → slot_stand with_slots o ≡ slot_stand f o
  option_alike None = refl
  option_alike (Some s) = frame_alike s s.frame

  slot_alike : (n : ℕ) → slice_get slots n ≡ slice_get f.slots n → stand_at with_slots n ≡ stand_at f n
  slot_alike n same = stand_made with_slots n ∙ (option_alike (slice_get slots n) ∙ (ap (slot_stand f) same ∙ sym (stand_made f n)))

  cores_alike : (n : ℕ) → host_cores with_slots n ≡ host_cores f n
  unfolding host_cores
  cores_alike n = refl

  memory_alike : (n : ℕ) → host_memory with_slots n ≡ host_memory f n
  unfolding host_memory
  memory_alike n = refl

  alloc_alike : (n : ℕ) → host_alloc with_slots n ≡ host_alloc f n
  unfolding host_alloc
  alloc_alike n = refl

  burst_alike : (n : ℕ) → burst_at with_slots n ≡ burst_at f n
  unfolding burst_at
  burst_alike n = refl

  most_alike : (n : ℕ) → most_at with_slots n ≡ most_at f n
  unfolding most_at
  most_alike n = refl

apart : (n slot : ℕ) → eqb n slot ≡ false → n ≢ slot
apart n slot other same = true≢false (sym (eq-eqb n slot same) ∙ other)

module _ (f : Farm) (moment slot host : ℕ) (r : Rows) (can : CanBook (at_moment f moment) slot host r) where
  abbrev new_slots : List SlotRow
  new_slots = changed_at f.slots slot (booked_row (proc_of slot host moment r.slot r.job r.layer r.host))

  abbrev booked_farm : Farm
  booked_farm = with_slots f moment new_slots

  was : stand_at f slot ≡ the_stand r.slot r.frame r.job.show r.layer
  was = stand_is f slot r.slot r.frame r.job r.layer can.slot_is can.frame_is can.job_is can.layer_is

  is_now : stand_at booked_farm slot ≡ record (the_stand r.slot r.frame r.job.show r.layer) { phase = 4; version = r.slot.version + 1; host = host }
  is_now =
      let p = proc_of slot host moment r.slot r.job r.layer r.host in
      stand_is booked_farm slot (booked_row p r.slot) (record r.frame { state = frame_state.Running }) r.job r.layer (changed_at_same f.slots slot (booked_row p) r.slot can.slot_is)
      (ap (option_map (λ (x : Frame). record x { state = frame_state.Running })) can.frame_is) can.job_is can.layer_is

  booked_alone : BooksAlone f booked_farm slot host
  booked_alone =
      record {
        waited = ap (λ (s : Stand). s.phase) was ∙ waiting_phase r.frame.state can.waits;
        below = let version = ap (λ (s : Stand). s.version) was in let low = can.version in omega (arith, version, low);
        booked = is_now ∙ ap (λ (s : Stand). record s { phase = 4; version = s.version + 1; host = host }) (sym was);
        others = λ n other. slot_alike f moment new_slots n (changed_at_other f.slots slot n (booked_row (proc_of slot host moment r.slot r.job r.layer r.host)) (apart n slot other));
        cores = cores_alike f moment new_slots;
        memory = memory_alike f moment new_slots;
        alloc = alloc_alike f moment new_slots;
        burst = burst_alike f moment new_slots;
        most = most_alike f moment new_slots;
      }

pub books_alone : (f : Farm) (e : Entry) (slot host : ℕ) → IsLegalStep f e → e.act ≡ Book slot host → BooksAlone f (after f e) slot host
books_alone f e slot host legal is =
    let moment = moment_of f e.moment in
    let later = at_moment f moment in
    let allowed : may_record later slot host ≡ true = subst (HasCondition later) is (allowed_later f moment e.act legal.condition) in
    let found = can_book later slot host allowed in
    let made = ap (λ (act : Act). closed act (followed act (after_act later moment act))) is ∙ booking_makes later slot host moment found.0 found.1 in
    subst (λ (g : Farm). BooksAlone f g slot host) (sym made) (booked_alone f moment slot host found.0 found.1)
