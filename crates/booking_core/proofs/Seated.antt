-- Seats that may have a take in flight, and what their steps find.
use Rattle.std.proofs.Common.{◌≡◌, ℕ, ◌+◌, ◌<◌, ◌≤◌, List, sym, ◌∙◌, subst, arith, inl, inr}
use Rattle.std.specs.Prelude.{None}
use mathlib.Core.Option.{some}
use lib.ListN.{get_elem?}
use Rattle.farm_types.specs.declared.entry.Entry.{Entry}
use Rattle.farm_types.specs.Run.{run_of}
use Rattle.frame_words.specs.Bits.{frame_of}
use Rattle.booking_rule.specs.declared.desk.Desk.{Desk}
use Rattle.booking_rule.specs.declared.opening.Opening.{Opening}
use Rattle.booking_rule.specs.declared.view.View.{View}
use Rattle.booking_rule.specs.declared.noted.Noted.{Noted}
use Rattle.booking_rule.specs.Words.{Words, words_of, frame_place}
use Rattle.booking_rule.specs.Link.{farm_of, recorded_in}
use Rattle.booking_rule.specs.Resizing.{IsResized}
use Rattle.booking_rule.specs.Kept.{Kept}
use Rattle.booking_rule.specs.Seats.{desk_seats, number_seats, seats, IsSeated}
use Rattle.booking_rule.proofs.Keeping.{IsFound, IsSettledFor}
use Rattle.booking_rule.proofs.Seating.{none_some}
use Rattle.booking_core.specs.Machine.{Table, word, MayGiveRoom, IsIdle}

pub seated_of : (v : View) → seats v ≡ 1 → IsSeated v
seated_of v one none =
    let z : seats v ≡ 0 = λ i. desk_seats (none.0 i) + number_seats (none.1 i) in
    absurd (omega (arith, one, z))

-- the word of a host, a subscription or a limit
pub finds_count : (W : Words) (item : Noted) → 131073 ≤ item.word → IsFound W item
finds_count W item le = inr (inr (inr le))

-- a slot's word
pub finds_frame : (s : Table) (item : Noted) (slot : ℕ) → slot < 65536
    → item.word ≡ frame_place slot → item.found ≡ word s (frame_place slot) → IsFound (words_of s.words) item
finds_frame s item slot lt place found = inl (record { slot = slot; within = lt; place = place; word = λ i. frame_of (found i) })

-- ---- hosts that are resized

-- what the recorder's seat is asked by its own view, by what is kept
pub settled_own : (n : ℕ) (W : Words) (views : List View) (id : ℕ) (v : View) (K : Kept n W views) → get_elem? views id ≡ some v → (host : ℕ) → MayGiveRoom v host → IsSettledFor K v host
settled_own n W views id v K at host may d is =
    let m = K.own.seats.each id v at in
    let f = m.first d is in
    let same = m.same (λ (x : (v.desk ≡ None) × (v.number ≡ None)). none_some d (sym x.0 ∙ is)) in
    let P : Opening × (Desk × List Entry) → Type 0 = λ x.
    IsResized ((recorded_in x.0 x.1.1 x.1.0).cores host) ((recorded_in x.0 x.1.1 x.1.0).memory host) (run_of (farm_of x.0) x.1.1) host → ⊥ in
    subst P (λ i. (same i, (f.1 i, f.2 i))) (may d is)

-- nothing is left to do
pub settled_idle : (v : View) (host : ℕ) → IsIdle v → MayGiveRoom v host
settled_idle v host idle d is resized = let done = (idle d is).0 in resized.1 (done.cores host, done.memory host)
