-- The rows of frames as changes have left them, and those of frames that open or are blocked.
use Rattle.std.proofs.Common.{◌≡◌, ◌≢◌, ℕ, Bool, true, false, not, cond, eqb, ◌&&◌, ◌||◌, List, [], ◌∷◌, ◌++◌, Option, None, Some, IsSomeAnd, is_some, option_map, refl, sym, ap, subst, ◌∙◌, ◌⊎◌, inl, inr}
use Rattle.std.specs.Prelude.{option_and_then}
use Rattle.std.specs.List.{AllByRecursion, slice_get}
use Rattle.std.proofs.lemmas.Bool.{eq-eqb, ne_eqb}
use Rattle.std.proofs.lemmas.Option.{none-some, same_Some}
use Rattle.farm_types.specs.declared.slot_row.Frame.{Frame}
use Rattle.farm_types.specs.declared.slot_row.SlotRow.{SlotRow}
use Rattle.farm_types.specs.declared.states.FrameState.TheVariants as frame_state
use Rattle.farm_types.specs.Booking.{is_waiting}
use Rattle.farm_types.specs.Farm.{Farm, changed_at, for_some}
use Rattle.farm_types.specs.Settle.{in_state, is_blocked}
use Rattle.farm_types.specs.Settle as settle
use Rattle.farm_types.proofs.Changed.{changed_at_is, changed_at_other, changed_at_same, places}
use Rattle.farm_rows.specs.declared.farm_row.FarmRow.{FarmRow}
use Rattle.farm_rows.specs.declared.farm_row.FarmRow.TheVariants as row
use Rattle.farm_rows.specs.declared.frame_row.FrameRow.{FrameRow}
use Rattle.farm_rows.specs.declared.frame_row.StoredState.TheVariants as stored
use Rattle.farm_rows.specs.declared.row_change.RowChange.{RowChange}
use Rattle.farm_rows.specs.declared.row_change.RowChange.TheVariants as change
use Rattle.farm_rows.specs.declared.row_key.RowKey.{RowKey}
use Rattle.farm_rows.specs.declared.row_key.RowKey.TheVariants as key
use Rattle.farm_rows.specs.Changes.{MakesRows, is_key, row_after, row_at, row_by, row_key, slot_change, used_row}
use Rattle.farm_rows.specs.Rows.{frame_row, is_unused, stored_frame}
use Rattle.farm_rows.proofs.MadeLists.{makes_slot}
use Rattle.farm_rows.proofs.MadeRows.{makes_then}
use Rattle.farm_depends.specs.declared.follow.Follow.{Follow}
use Rattle.farm_depends.specs.Follow.{IsMovable, change_of, is_moved}
use Rattle.farm_depends.specs.FollowRows.{IsActed, IsPut, Notes, Stands, blocked_row, frame_or, frame_put, laid_over, noted, opened_row, stored_in}

-- ---- what changes put in

-- a row that is put in later is there, whatever stood there
later_put : (cs : List RowChange) (k : RowKey) (r p : FarmRow) (old : Option FarmRow) (b : Bool) → (row_after cs k None ≡ Some r → row_after cs k old ≡ Some r) → row_after cs k (cond b (Some p) None) ≡ Some r
    → row_after cs k (cond b (Some p) old) ≡ Some r
later_put cs k r p old true more h = h
later_put cs k r p old false more h = more h

later_gone : (cs : List RowChange) (k : RowKey) (r : FarmRow) (old : Option FarmRow) (b : Bool) → (row_after cs k None ≡ Some r → row_after cs k old ≡ Some r) → row_after cs k (cond b None None) ≡ Some r
    → row_after cs k (cond b None old) ≡ Some r
later_gone cs k r old true more h = h
later_gone cs k r old false more h = more h

later : (cs : List RowChange) (k : RowKey) (r : FarmRow) (old : Option FarmRow) → row_after cs k None ≡ Some r → row_after cs k old ≡ Some r
later [] k r old h = absurd (none-some r h)
later (change.Put p ∷ cs) k r old h = later_put cs k r p old (is_key (row_key p) k) (later cs k r old) h
later (change.Delete gone ∷ cs) k r old h = later_gone cs k r old (is_key gone k) (later cs k r old) h

-- one change, and what is noted of it
module _ (cs : List RowChange) (slot : ℕ) (r : FarmRow) (old : Option FarmRow) where
  frame_by : (x : FrameRow) (frame : Option FrameRow) (b : Bool) → row_after cs (key.Frame slot) (cond b (Some (row.Frame x)) (laid_over frame old)) ≡ Some r → row_after cs (key.Frame slot) (laid_over (cond b (Some x) frame) old) ≡ Some r
  frame_by x frame true h = h
  frame_by x frame false h = h

  gone_by : (was : Option FarmRow) (b : Bool) → row_after cs (key.Frame slot) (cond b None was) ≡ Some r → row_after cs (key.Frame slot) was ≡ Some r
  gone_by was true h = later cs (key.Frame slot) r was h
  gone_by was false h = h

  note_put : (p : FarmRow) (frame : Option FrameRow) → row_after cs (key.Frame slot) (row_by (change.Put p) (key.Frame slot) (laid_over frame old)) ≡ Some r → row_after cs (key.Frame slot) (laid_over (noted (frame_put (change.Put p)) slot frame) old) ≡ Some r
  note_put (row.Frame x) frame h = frame_by x frame (eqb x.slot slot) h
  note_put other frame h = h

  pub note_one : (c : RowChange) (frame : Option FrameRow) → row_after (c ∷ cs) (key.Frame slot) (laid_over frame old) ≡ Some r → row_after cs (key.Frame slot) (laid_over (noted (frame_put c) slot frame) old) ≡ Some r
  note_one (change.Put p) frame h = note_put p frame h
  note_one (change.Delete gone) frame h = gone_by (laid_over frame old) (is_key gone (key.Frame slot)) h

-- ---- where the changes led

-- the row itself
abbrev row_of : FrameRow → Option FarmRow → FrameRow
row_of other (Some (row.Frame r)) = r
row_of other any = other

frame_same : (a b : FrameRow) → Some (row.Frame a) ≡ Some (row.Frame b) → a ≡ b
frame_same a b e = ap (row_of a) e

used_by : (slot : ℕ) (s : SlotRow) → is_some s.frame ≡ true → used_row slot s ≡ Some (row.Frame (frame_row slot s))
used_by slot s framed = ap (λ (b : Bool). cond (not b && eqb s.version 0) None (Some (row.Frame (frame_row slot s)))) framed

own_by : (slot : ℕ) (o : Option SlotRow) (r : FrameRow) → option_and_then (used_row slot) o ≡ Some (row.Frame r) → option_map (frame_row slot) o ≡ Some r
own_by slot None r h = absurd (none-some (row.Frame r) h)
own_by slot (Some s) r h = by (is_unused s) h
  where
    by : (b : Bool) → cond b None (Some (row.Frame (frame_row slot s))) ≡ Some (row.Frame r) → Some (frame_row slot s) ≡ Some r
    by true h = absurd (none-some (row.Frame r) h)
    by false h = ap Some (frame_same (frame_row slot s) r h)

read_by : (slot : ℕ) (o : Option SlotRow) (frame : Option FrameRow) (r : FrameRow) → laid_over frame (option_and_then (used_row slot) o) ≡ Some (row.Frame r) → frame_or slot o frame ≡ Some r
read_by slot o None r h = own_by slot o r h
read_by slot o (Some x) r h = ap Some (frame_same x r h)

pub start_stands : (f0 f : Farm) (acted : List RowChange) (w : Follow) (frames : ℕ → Option FrameRow) → IsActed f0 acted w f → Notes acted frames → Stands f f0.slots f [] frames
start_stands f0 f acted w frames a notes =
    record {
      rows_made = λ k named. refl;
      read = λ slot s at framed.
          let here : row_at f (key.Frame slot) ≡ Some (row.Frame (frame_row slot s)) = ap (option_and_then (used_row slot)) at ∙ used_by slot s framed in
          read_by slot (slice_get f0.slots slot) (frames slot) (frame_row slot s) (notes slot (row_at f0 (key.Frame slot)) (frame_row slot s) (sym (a.rows (key.Frame slot) refl) ∙ here));
    }

-- ---- one frame that moves

opened_is : (slot : ℕ) (s : SlotRow) → opened_row (frame_row slot s) ≡ frame_row slot (in_state frame_state.Waiting s)
opened_is slot s = λ i. record { slot = slot; version = s.version; frame = by s.frame i }
  where
    by : (o : Option Frame) → option_map (stored_in stored.Waiting) (option_map (stored_frame s.proc) o) ≡ option_map (stored_frame s.proc) (option_map (λ (x : Frame). record x { state = frame_state.Waiting }) o)
    by None = refl
    by (Some x) = refl

blocked_is : (raises : Bool) (slot : ℕ) (s : SlotRow) → blocked_row raises (frame_row slot s) ≡ frame_row slot (settle.blocked_row (change_of raises) s)
blocked_is raises slot s = λ i. record { slot = slot; version = change_of raises s.version; frame = by s.frame i }
  where
    by : (o : Option Frame) → option_map (stored_in stored.Depend) (option_map (stored_frame s.proc) o) ≡ option_map (stored_frame s.proc) (option_map (λ (x : Frame). record x { state = frame_state.Depend }) o)
    by None = refl
    by (Some x) = refl

-- the change leaves a frame
abbrev KeepsFrame : (SlotRow → SlotRow) → Type 0
KeepsFrame become = (s : SlotRow) → is_some (become s).frame ≡ is_some s.frame

some_state : {X Y : Type 0} (h : X → Y) (o : Option X) → is_some (option_map h o) ≡ is_some o
some_state h None = refl
some_state h (Some x) = refl

module _ (g : Farm) (own : List SlotRow) (become : SlotRow → SlotRow) (keeps : KeepsFrame become) (moved_row : FrameRow → FrameRow) (is : (slot : ℕ) (s : SlotRow) → moved_row (frame_row slot s) ≡ frame_row slot (become s)) where
  module _ (f : Farm) (rows news : List RowChange) (frames laid : ℕ → Option FrameRow) (slot : ℕ) (s : SlotRow) (at : slice_get f.slots slot ≡ Some s) (framed : is_some s.frame ≡ true)
      (stands : Stands g own f rows frames) (put : IsPut (moved_row (frame_row slot s)) rows news frames laid)
    where
      put_is : slot_change slot (become s) ≡ change.Put (row.Frame (moved_row (frame_row slot s)))
      put_is =
          ap (λ (b : Bool). cond (not b && eqb (become s).version 0) (change.Delete (key.Frame slot)) (change.Put (row.Frame (frame_row slot (become s))))) (keeps s ∙ framed)
          ∙ ap (λ (r : FrameRow). change.Put (row.Frame r)) (sym (is slot s))

      made : MakesRows g (record f { slots = changed_at f.slots slot become }) news
      made =
          let one : MakesRows f (record f { slots = changed_at f.slots slot become }) (slot_change slot (become s) ∷ []) =
          subst (λ (ss : List SlotRow). MakesRows f (record f { slots = ss }) (slot_change slot (become s) ∷ [])) (sym (changed_at_is f.slots slot become s at)) (makes_slot f slot (become s) s at) in
          subst (λ (cs : List RowChange). MakesRows g (record f { slots = changed_at f.slots slot become }) cs) (ap (λ (c : RowChange). rows ++ c ∷ []) put_is ∙ sym put.put)
          (makes_then g f (record f { slots = changed_at f.slots slot become }) rows (slot_change slot (become s) ∷ []) stands.rows_made one)

      noted_here : (n : ℕ) (b : Bool) → eqb (moved_row (frame_row slot s)).slot n ≡ b → laid n ≡ cond b (Some (moved_row (frame_row slot s))) (frames n)
      noted_here n b e = put.noted_then n ∙ ap (λ (c : Bool). cond c (Some (moved_row (frame_row slot s))) (frames n)) e

      slot_is : (moved_row (frame_row slot s)).slot ≡ slot
      slot_is = ap (λ (r : FrameRow). r.slot) (is slot s)

      read_then : (n : ℕ) (t : SlotRow) → slice_get (changed_at f.slots slot become) n ≡ Some t → is_some t.frame ≡ true → frame_or n (slice_get own n) (laid n) ≡ Some (frame_row n t)
      read_then n t here some = by (places n slot)
        where
          by : (n ≡ slot) ⊎ (n ≢ slot) → frame_or n (slice_get own n) (laid n) ≡ Some (frame_row n t)
          by (inl same) =
              let one : become s ≡ t = same_Some (become s) t (sym (changed_at_same f.slots slot become s at) ∙ (ap (slice_get (changed_at f.slots slot become)) (sym same) ∙ here)) in
              ap (frame_or n (slice_get own n)) (noted_here n true (eq-eqb (moved_row (frame_row slot s)).slot n (slot_is ∙ sym same)))
              ∙ (ap Some (is slot s) ∙ λ i. Some (frame_row (sym same i) (one i)))
          by (inr other) =
              ap (frame_or n (slice_get own n)) (noted_here n false (ne_eqb (moved_row (frame_row slot s)).slot n (λ e. other (sym e ∙ slot_is))))
              ∙ stands.read n t (sym (changed_at_other f.slots slot n become other) ∙ here) some

      step_stands : Stands g own (record f { slots = changed_at f.slots slot become }) news laid
      step_stands = record { rows_made = made; read = read_then }

  -- a slot whose frame may move
  pub moved_stands : (f : Farm) (rows news : List RowChange) (frames laid : ℕ → Option FrameRow) (slot : ℕ) → IsMovable f.slots slot → Stands g own f rows frames
      → ((r : FrameRow) → frame_or slot (slice_get own slot) (frames slot) ≡ Some r → IsPut (moved_row r) rows news frames laid) → Stands g own (record f { slots = changed_at f.slots slot become }) news laid
  moved_stands f rows news frames laid slot movable stands puts = by_slot (slice_get f.slots slot) refl movable
    where
      framed_by : (o : Option Frame) → for_some o (λ (x : Frame). is_waiting x.state || is_blocked x.state) ≡ true → is_some o ≡ true
      framed_by None h = h
      framed_by (Some x) h = refl

      by_slot : (o : Option SlotRow) → slice_get f.slots slot ≡ o → IsSomeAnd o (λ (s : SlotRow). (is_moved s ≡ true) × (s.proc ≡ None)) → Stands g own (record f { slots = changed_at f.slots slot become }) news laid
      by_slot None at h = absurd h
      by_slot (Some s) at h =
          let framed = framed_by s.frame h.0 in
          step_stands f rows news frames laid slot s at framed stands (puts (frame_row slot s) (stands.read slot s at framed))

pub opened_stands : (g : Farm) (own : List SlotRow) (f : Farm) (rows news : List RowChange) (frames laid : ℕ → Option FrameRow) (slot : ℕ) → IsMovable f.slots slot → Stands g own f rows frames
    → ((r : FrameRow) → frame_or slot (slice_get own slot) (frames slot) ≡ Some r → IsPut (opened_row r) rows news frames laid)
    → Stands g own (record f { slots = changed_at f.slots slot (in_state frame_state.Waiting) }) news laid
opened_stands g own = moved_stands g own (in_state frame_state.Waiting) (λ s. some_state (λ (x : Frame). record x { state = frame_state.Waiting }) s.frame) opened_row opened_is

pub blocked_stands : (raises : Bool) (g : Farm) (own : List SlotRow) (f : Farm) (rows news : List RowChange) (frames laid : ℕ → Option FrameRow) (slot : ℕ) → IsMovable f.slots slot → Stands g own f rows frames
    → ((r : FrameRow) → frame_or slot (slice_get own slot) (frames slot) ≡ Some r → IsPut (blocked_row raises r) rows news frames laid)
    → Stands g own (record f { slots = changed_at f.slots slot (settle.blocked_row (change_of raises)) }) news laid
blocked_stands raises g own =
    moved_stands g own (settle.blocked_row (change_of raises)) (λ s. some_state (λ (x : Frame). record x { state = frame_state.Depend }) s.frame) (blocked_row raises) (blocked_is raises)

-- ---- the frames of a list, one after the other

-- on the way: the farm so far, of which what is left leads to the farm at the end
pub record IsMoving (put : List ℕ → List SlotRow → List SlotRow) (g : Farm) (own : List SlotRow) (last : Farm) (rows : List RowChange) (frames : ℕ → Option FrameRow) (left : List ℕ) : Type 0 where
  pub farm : Farm
  pub stands : Stands g own farm rows frames
  pub movable : AllByRecursion (IsMovable farm.slots) left
  pub leads : record farm { slots = put left farm.slots } ≡ last

pub end_moving : (put : List ℕ → List SlotRow → List SlotRow) (g : Farm) (own : List SlotRow) (last : Farm) (rows : List RowChange) (frames : ℕ → Option FrameRow) → ((slots : List SlotRow) → put [] slots ≡ slots)
    → IsMoving put g own last rows frames [] → Stands g own last rows frames
end_moving put g own last rows frames none m = subst (λ (f : Farm). Stands g own f rows frames) ((λ i. record m.farm { slots = sym (none m.farm.slots) i }) ∙ m.leads) m.stands
