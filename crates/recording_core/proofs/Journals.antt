-- The recorder's seat stays one, and its journal grows by the entries of its steps.
use Rattle.std.proofs.Common.{◌≡◌, ℕ, Bool, true, false, if◌then◌else◌, List, [], ◌∷◌, ◌++◌, append_assoc, slice_index, sym, refl, ap, ◌∙◌, subst}
use Rattle.std.specs.Prelude.{Option, Some, None}
use Rattle.std.proofs.lemmas.List.{append-nil}
use mathlib.Core.Option.{some, some-injective}
use lib.ListN.{get_elem?}
use Rattle.farm_types.specs.declared.entry.Entry.{Entry}
use Rattle.booking_rule.specs.declared.desk.Desk.{Desk}
use Rattle.booking_rule.specs.declared.opening.Opening.{Opening}
use Rattle.booking_rule.specs.declared.view.View.{View}
use Rattle.booking_rule.specs.Words.{words_of}
use Rattle.booking_rule.specs.Views.{with_done, with_sub_done, with_limit_done, with_host_done, with_pending, desk_after}
use Rattle.booking_rule.specs.Kept.{Holds}
use Rattle.booking_rule.proofs.Own.{set_here, of_first}
use Rattle.booking_core.specs.Machine.{Table, word}
use Rattle.booking_core.specs.Machine as claimants
use Rattle.booking_core.proofs.Journals.{steps_still}
use Rattle.recording_core.specs.Records.{RecorderKind, knows, desk_booked, desk_opened, desk_closed}
use Rattle.recording_core.specs.Records.RecorderKind.{opens, closes, records, books, confirms, withdraws, leaves, ends, turns, sets_amount, sets_burst, sets_most, sets_size, places, places_size, places_burst, places_most}
use Rattle.recording_core.specs.Machine.{AnyKind, Move, HasRecorded, Asks, acts, MayStep, steps, Runs, entries_in, entries_of, opening_in, opening_after}
use Rattle.recording_core.specs.Machine.AnyKind.{of_claimant, of_recorder}
use Rattle.recording_core.proofs.Keeps.{step_holds, steps_hold}

-- the view has a desk still, that opening farm, and these entries more
record Grows (v : View) (o : Opening) (es : List Entry) (w : View) : Type 0 where
  desk : (d : Desk) × (w.desk ≡ Some d)
  opening : w.opening ≡ o
  journal : w.journal ≡ v.journal ++ es

abbrev HasGrown : Table → ℕ → View → Opening → List Entry → Type 0
HasGrown t id v o es = (w : View) × (get_elem? t.views id ≡ some w) × Grows v o es w

one_of : (v x y : View) (o : Opening) (es : List Entry) (b : Bool) → Grows v o es x → Grows v o es y → Grows v o es (if b then x else y)
one_of v x y o es true first second = first
one_of v x y o es false first second = second

module _ (v : View) (d : Desk) (is : v.desk ≡ Some d) where
  none : v.journal ≡ v.journal ++ []
  none = sym (append-nil v.journal)

  -- what the seat knows after a step of the recorder's
  known : (k : RecorderKind) (found : ℕ) → Grows v (opening_in (of_recorder k) v.opening) (entries_in (of_recorder k)) (knows v k found)
  known (opens f) found = record { desk = (_, ap desk_opened is); opening = refl; journal = none }
  known closes found = record { desk = (_, ap desk_closed is); opening = refl; journal = none }
  known (records e) found = record { desk = (_, ap (desk_after v.journal) is); opening = refl; journal = refl }
  known (books c e) found = record { desk = (_, ap (λ (o : Option Desk). desk_booked c.slot (desk_after v.journal o)) is); opening = refl; journal = refl }
  known (confirms c) found = one_of v _ _ v.opening [] _ (record { desk = (_, ap (with_pending (Some c.slot) c.host) is); opening = refl; journal = none }) (record { desk = (d, is); opening = refl; journal = none })
  known (withdraws c) found = one_of v _ _ v.opening [] _ (record { desk = (_, ap (with_pending None c.host) is); opening = refl; journal = none }) (record { desk = (d, is); opening = refl; journal = none })
  known (leaves slot bits) found =
      one_of v _ _ v.opening [] _ (record { desk = (_, ap (with_done slot) is); opening = refl; journal = none }) (record { desk = (_, ap (with_done slot) is); opening = refl; journal = none })
  known (ends slot bits) found = record { desk = (_, ap (with_done slot) is); opening = refl; journal = none }
  known (turns slot bits) found = record { desk = (_, ap (with_done slot) is); opening = refl; journal = none }
  known (sets_amount slot bits) found = record { desk = (d, is); opening = refl; journal = none }
  known (sets_burst sub old new) found = record { desk = (_, ap (with_sub_done sub) is); opening = refl; journal = none }
  known (sets_most limit old new) found = record { desk = (_, ap (with_limit_done limit) is); opening = refl; journal = none }
  known (sets_size host cores memory) found = record { desk = (_, ap (with_host_done host) is); opening = refl; journal = none }
  known (places slot bits) found = record { desk = (_, ap (with_done slot) is); opening = refl; journal = none }
  known (places_size host cores memory) found = record { desk = (_, ap (with_host_done host) is); opening = refl; journal = none }
  known (places_burst sub burst booked) found = record { desk = (_, ap (with_sub_done sub) is); opening = refl; journal = none }
  known (places_most limit most running) found = record { desk = (_, ap (with_limit_done limit) is); opening = refl; journal = none }

-- the recorder's steps are of a seat with a desk
at_desk : (s : Table) (v : View) (k : RecorderKind) → Asks s v k → (d : Desk) × (v.desk ≡ Some d)
at_desk s v (opens f) asks = (asks.0.0.0, asks.0.0.1)
at_desk s v closes asks = (asks.0, asks.1)
at_desk s v (records e) asks = (asks.0.0, asks.0.1)
at_desk s v (books c e) asks = (asks.0.0, asks.0.1)
at_desk s v (confirms c) asks = (asks.0.0, asks.0.1)
at_desk s v (withdraws c) asks = (asks.0.0, asks.0.1)
at_desk s v (leaves slot bits) asks = (asks.0.0, asks.0.1)
at_desk s v (ends slot bits) asks = (asks.0.0, asks.0.1)
at_desk s v (turns slot bits) asks = (asks.0.0, asks.0.1)
at_desk s v (sets_amount slot bits) asks = (asks.0.0, asks.0.1)
at_desk s v (sets_burst sub old new) asks = (asks.0.0, asks.0.1)
at_desk s v (sets_most limit old new) asks = (asks.0.0, asks.0.1)
at_desk s v (sets_size host cores memory) asks = (asks.0.0, asks.0.1)
at_desk s v (places slot bits) asks = (asks.0.0, asks.0.1)
at_desk s v (places_size host cores memory) asks = (asks.0.0, asks.0.1)
at_desk s v (places_burst sub burst booked) asks = (asks.0.0, asks.0.1)
at_desk s v (places_most limit most running) asks = (asks.0.0, asks.0.1)

-- one seat has a desk
same_seat : (s : Table) (id j : ℕ) (v x : View) (d e : Desk) → Holds s → get_elem? s.views id ≡ some v → v.desk ≡ Some d → get_elem? s.views j ≡ some x → x.desk ≡ Some e
    → (j ≡ id) × (x ≡ v)
same_seat s id j v x d e h at is there has =
    let S = h.1.own.seats in
    let first = ((S.each id v at).first d is).0 in
    let second = ((S.each j x there).first e has).0 in
    let same : j ≡ id = second ∙ sym first in
    (same, some-injective x v (sym there ∙ ap (get_elem? s.views) same ∙ at))

step_grown : (s : Table) (id : ℕ) (v : View) (k : AnyKind) → Holds s → get_elem? s.views id ≡ some v → MayStep s id v k
    → (j : ℕ) (x : View) (d : Desk) → get_elem? s.views j ≡ some x → x.desk ≡ Some d → HasGrown (steps s id v k) j x (opening_in k x.opening) (entries_in k)
step_grown s id v (of_claimant k) h at asks j x d there has =
    let still = steps_still ((id, k) ∷ []) s (claimants.acts s id v k) h (v, at, asks, refl) j x there in
    let r = still.2 d has in
    (still.0, still.1, record { desk = (r.0, r.1); opening = r.2; journal = r.3 ∙ sym (append-nil x.journal) })
step_grown s id v (of_recorder k) h at asks j x d there has =
    let o = at_desk s v k asks in
    let same = same_seat s id j v x o.0 d h at o.1 there has in
    let w = knows v k (word s (Rattle.recording_core.specs.Records.place k)) in
    let P : ℕ × View → Type 0 = λ p. HasGrown (acts s id v k) p.0 p.1 (opening_in (of_recorder k) p.1.opening) (entries_in (of_recorder k)) in
    subst P (λ i. (sym same.0 i, sym same.1 i)) (w, set_here s.views id v w at, known v o.0 o.1 k (word s (Rattle.recording_core.specs.Records.place k)))

grown : (ms : List Move) (s t : Table) → Holds s → Runs s ms t → (j : ℕ) (x : View) (d : Desk) → get_elem? s.views j ≡ some x → x.desk ≡ Some d → HasGrown t j x (opening_after ms x.opening) (entries_of ms)
grown [] s t h runs j x d there has =
    subst (λ (y : Table). HasGrown y j x x.opening []) runs (x, there, record { desk = (d, has); opening = refl; journal = sym (append-nil x.journal) })
grown (m ∷ ms) s t h runs j x d there has =
    let n = steps s m.0 runs.0 m.1 in
    let a = step_grown s m.0 runs.0 m.1 h runs.1 runs.2 j x d there has in
    let r = grown ms n t (step_holds s m.0 runs.0 m.1 h runs.1 runs.2) runs.3 j a.0 a.2.desk.0 a.1 a.2.desk.1 in (
      r.0,
      r.1,
      record {
        desk = r.2.desk;
        opening = r.2.opening ∙ ap (opening_after ms) a.2.opening;
        journal = r.2.journal ∙ ap (λ (l : List Entry). l ++ entries_of ms) a.2.journal ∙ append_assoc x.journal (entries_in m.1) (entries_of ms);
      },
    )

pub steps_record : (ms : List Move) (s t : Table) → Holds s → Runs s ms t → (id : ℕ) (v : View) (d : Desk) → get_elem? s.views id ≡ some v → v.desk ≡ Some d
    → (w : View) × (get_elem? t.views id ≡ some w) × HasRecorded v ms w
steps_record ms s t h runs id v d at is =
    let g = grown ms s t h runs id v d at is in
    let T = steps_hold ms s t h runs in
    let A = of_first (slice_index t.words 0) (words_of t.words) t.views id g.0 g.2.desk.0 T.1 g.1 g.2.desk.1 in (
      g.0,
      g.1,
      record {
        desk = g.2.desk;
        opening = g.2.opening;
        journal = g.2.journal;
        legal = A.legal;
      },
    )
