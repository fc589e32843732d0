-- The rows of the slots that frames are put into.
use Rattle.std.proofs.Common.{◌≡◌, ◌≢◌, ℕ, zero, suc, ◌+◌, ◌≤◌, Bool, true, false, cond, eqb, List, [], ◌∷◌, ◌++◌, length, Option, None, Some, refl, sym, ap, ◌∙◌, arith, append_assoc, append-nil, length-append}
use Rattle.std.specs.Prelude.{is_none, option_and_then}
use Rattle.std.specs.List.{slice_get, slice_set}
use Rattle.std.proofs.lemmas.Bool.{eq-eqb, ne_eqb}
use Rattle.std.proofs.lemmas.Option.{slice_get_past}
use Rattle.farm_types.specs.declared.rows.SubRow.{SubRow}
use Rattle.farm_types.specs.declared.slot_row.Frame.{Frame}
use Rattle.farm_types.specs.declared.slot_row.SlotRow.{SlotRow}
use Rattle.farm_types.specs.Farm.{Farm}
use Rattle.farm_types.specs.Jobs.{fresh_slot, is_free, place_frames, slot_with}
use Rattle.job_book.specs.Book.{IsSameFrame, KeepsFrame}
use Rattle.job_book.specs.Lowest.{lowest_free, places_from, slot_for}
use Rattle.job_book.proofs.PlacementLemmas.FreeSlots.{get_mid}
use Rattle.farm_draft.specs.Rows.{AreInstallable, put_slots}
use Rattle.farm_draft.specs.declared.slot_change.SlotChange.{SlotChange}
use Rattle.farm_rows.specs.declared.farm_row.FarmRow.{FarmRow}
use Rattle.farm_rows.specs.declared.farm_row.FarmRow.TheVariants as row
use Rattle.farm_rows.specs.declared.row_key.RowKey.{RowKey}
use Rattle.farm_rows.specs.declared.row_key.RowKey.TheVariants as key
use Rattle.farm_rows.specs.declared.row_change.RowChange.{RowChange}
use Rattle.farm_rows.specs.Changes.{MakesRows, is_key, row_after, row_at, used_row}
use Rattle.farm_rows.specs.Rows.{frame_row}
use Rattle.farm_changes.specs.RowChanges.{frame_put, frames_put, rows_put}

-- ---- the rows that they make

-- rows of other keys than those of slots from the place on stay
untouched : (p : ℕ) (slots : List SlotRow) (xs : List Frame) (k : RowKey) (old : Option FarmRow) → ((n : ℕ) → p ≤ n → is_key (key.Frame n) k ≡ false) → row_after (frames_put p slots xs) k old ≡ old
untouched p [] [] k old other = refl
untouched p [] (x ∷ xs) k old other =
    ap (λ (b : Bool). row_after (frames_put (p + 1) [] xs) k (cond b (Some (row.Frame (frame_row p (fresh_slot x)))) old)) (other p (omega arith))
    ∙ untouched (p + 1) [] xs k old (λ n le. other n (omega arith))
untouched p (s ∷ ss) [] k old other = refl
untouched p (s ∷ ss) (x ∷ xs) k old other = by (is_free s) (untouched (p + 1) ss xs k old (λ n le. other n (omega arith))) (untouched (p + 1) ss (x ∷ xs) k old (λ n le. other n (omega arith)))
  where
    by : (b : Bool) → row_after (frames_put (p + 1) ss xs) k old ≡ old → row_after (frames_put (p + 1) ss (x ∷ xs)) k old ≡ old
        → row_after (cond b (frame_put p (slot_with x s) ∷ frames_put (p + 1) ss xs) (frames_put (p + 1) ss (x ∷ xs))) k old ≡ old
    by true here later = ap (λ (b : Bool). row_after (frames_put (p + 1) ss xs) k (cond b (Some (row.Frame (frame_row p (slot_with x s)))) old)) (other p (omega arith)) ∙ here
    by false here later = later

-- the row of the slot at that place of a list
abbrev slot_at : ℕ → List SlotRow → ℕ → Option FarmRow
slot_at n slots i = option_and_then (used_row n) (slice_get slots i)

above : (p n : ℕ) → n ≤ p → (m : ℕ) → p + 1 ≤ m → eqb m n ≡ false
above p n le m more = ne_eqb m n (λ e. absurd (omega (arith, e)))

-- a frame that is put at the place is the row there, and later ones leave it
put_here : (p n : ℕ) (ss : List SlotRow) (xs : List Frame) (x : Frame) (s : SlotRow) (old : Option FarmRow) → p ≡ n
    → row_after (frames_put (p + 1) ss xs) (key.Frame n) (cond (eqb p n) (Some (row.Frame (frame_row p (slot_with x s)))) old) ≡ Some (row.Frame (frame_row n (slot_with x s)))
put_here p n ss xs x s old same =
    ap (λ (b : Bool). row_after (frames_put (p + 1) ss xs) (key.Frame n) (cond b (Some (row.Frame (frame_row p (slot_with x s)))) old)) (eq-eqb p n same)
    ∙ untouched (p + 1) ss xs (key.Frame n) (Some (row.Frame (frame_row p (slot_with x s)))) (above p n (omega (arith, same)))
    ∙ ap (λ (m : ℕ). Some (row.Frame (frame_row m (slot_with x s)))) same

-- one that is put at another place isn't
put_there : (p n : ℕ) (ss : List SlotRow) (xs : List Frame) (r old : Option FarmRow) → p ≢ n → row_after (frames_put (p + 1) ss xs) (key.Frame n) (cond (eqb p n) r old) ≡ row_after (frames_put (p + 1) ss xs) (key.Frame n) old
put_there p n ss xs r old other = ap (λ (b : Bool). row_after (frames_put (p + 1) ss xs) (key.Frame n) (cond b r old)) (ne_eqb p n other)

made : (p : ℕ) (slots : List SlotRow) (xs : List Frame) (n i : ℕ) → n ≡ p + i → row_after (frames_put p slots xs) (key.Frame n) (slot_at n slots i) ≡ slot_at n (place_frames slots xs) i
made p [] [] n i is = refl
made p [] (x ∷ xs) n zero is = put_here p n [] xs x (record { version = 0; frame = None; proc = None }) None (omega (arith, is))
made p [] (x ∷ xs) n (suc i) is =
    put_there p n [] xs (Some (row.Frame (frame_row p (fresh_slot x)))) None (λ e. absurd (omega (arith, is, e))) ∙ made (p + 1) [] xs n i (omega (arith, is))
made p (s ∷ ss) [] n i is = refl
made p (s ∷ ss) (x ∷ xs) n i is = by (is_free s) i is (λ j at. made (p + 1) ss xs n j at) (λ j at. made (p + 1) ss (x ∷ xs) n j at)
  where
    by : (b : Bool) (i : ℕ) → n ≡ p + i
        → ((j : ℕ) → n ≡ p + 1 + j → row_after (frames_put (p + 1) ss xs) (key.Frame n) (slot_at n ss j) ≡ slot_at n (place_frames ss xs) j)
        → ((j : ℕ) → n ≡ p + 1 + j → row_after (frames_put (p + 1) ss (x ∷ xs)) (key.Frame n) (slot_at n ss j) ≡ slot_at n (place_frames ss (x ∷ xs)) j)
        → row_after (cond b (frame_put p (slot_with x s) ∷ frames_put (p + 1) ss xs) (frames_put (p + 1) ss (x ∷ xs))) (key.Frame n) (slot_at n (s ∷ ss) i) ≡ slot_at n (cond b (slot_with x s ∷ place_frames ss xs) (s ∷ place_frames ss (x ∷ xs))) i
    by true zero is here later = put_here p n ss xs x s (used_row n s) (omega (arith, is))
    by true (suc i) is here later = put_there p n ss xs (Some (row.Frame (frame_row p (slot_with x s)))) (slot_at n ss i) (λ e. absurd (omega (arith, is, e))) ∙ here i (omega (arith, is))
    by false zero is here later = untouched (p + 1) ss (x ∷ xs) (key.Frame n) (used_row n s) (above p n (omega (arith, is)))
    by false (suc i) is here later = later i (omega (arith, is))

pub makes_frames : (f : Farm) (xs : List Frame) → MakesRows f (record f { slots = place_frames f.slots xs }) (frames_put 0 f.slots xs)
makes_frames f xs (key.Frame n) named = sym (made 0 f.slots xs n n (omega arith))
makes_frames f xs k named = sym (untouched 0 f.slots xs k (row_at f k) (λ n le. refl))

-- ---- rows of slots with frames leave the free slots

none_free : (old new : Option Frame) → IsSameFrame old new → (is_none old ≡ false) × (is_none new ≡ false)
none_free (Some x) (Some y) same = (refl, refl)
none_free (Some x) None same = absurd same
none_free None None same = absurd same
none_free None (Some y) same = absurd same

held : (s : SlotRow) → is_none s.frame ≡ false → is_free s ≡ false
held s is = rw is refl

module _ (r : SlotRow) where
  frames_put-set : (p : ℕ) (slots : List SlotRow) (i : ℕ) (xs : List Frame) → KeepsFrame (slice_get slots i) r → frames_put p (slice_set slots i r) xs ≡ frames_put p slots xs
  frames_put-set p [] i xs keeps = absurd keeps
  frames_put-set p (s ∷ ss) zero [] keeps = refl
  frames_put-set p (s ∷ ss) zero (x ∷ xs) keeps =
      let both = none_free s.frame r.frame keeps in
      ap (λ (b : Bool). cond b (frame_put p (slot_with x r) ∷ frames_put (p + 1) ss xs) (frames_put (p + 1) ss (x ∷ xs))) (held r both.1)
      ∙ sym (ap (λ (b : Bool). cond b (frame_put p (slot_with x s) ∷ frames_put (p + 1) ss xs) (frames_put (p + 1) ss (x ∷ xs))) (held s both.0))
  frames_put-set p (s ∷ ss) (suc i) [] keeps = refl
  frames_put-set p (s ∷ ss) (suc i) (x ∷ xs) keeps =
      ap (λ (cs : List RowChange). cond (is_free s) (frame_put p (slot_with x s) ∷ cs) (frames_put (p + 1) (slice_set ss i r) (x ∷ xs))) (frames_put-set (p + 1) ss i xs keeps)
      ∙ ap (cond (is_free s) (frame_put p (slot_with x s) ∷ frames_put (p + 1) ss xs)) (frames_put-set (p + 1) ss i (x ∷ xs) keeps)

  lowest_free-set : (p : ℕ) (slots : List SlotRow) (i n : ℕ) → KeepsFrame (slice_get slots i) r → lowest_free p (slice_set slots i r) n ≡ lowest_free p slots n
  lowest_free-set p [] i n keeps = absurd keeps
  lowest_free-set p (s ∷ ss) zero zero keeps = refl
  lowest_free-set p (s ∷ ss) zero (suc n) keeps =
      let both = none_free s.frame r.frame keeps in
      ap (λ (b : Bool). cond b (p ∷ lowest_free (p + 1) ss n) (lowest_free (p + 1) ss (suc n))) (held r both.1)
      ∙ sym (ap (λ (b : Bool). cond b (p ∷ lowest_free (p + 1) ss n) (lowest_free (p + 1) ss (suc n))) (held s both.0))
  lowest_free-set p (s ∷ ss) (suc i) zero keeps = refl
  lowest_free-set p (s ∷ ss) (suc i) (suc n) keeps =
      ap (λ (ns : List ℕ). cond (is_free s) (p ∷ ns) (lowest_free (p + 1) (slice_set ss i r) (suc n))) (lowest_free-set (p + 1) ss i n keeps)
      ∙ ap (cond (is_free s) (p ∷ lowest_free (p + 1) ss n)) (lowest_free-set (p + 1) ss i (suc n) keeps)

pub frames_put-slots : (subs : List SubRow) (slots : List SlotRow) (cs : List SlotChange) (xs : List Frame) → AreInstallable subs slots cs → frames_put 0 (put_slots slots cs) xs ≡ frames_put 0 slots xs
frames_put-slots subs slots [] xs ready = refl
frames_put-slots subs slots (c ∷ cs) xs ready = frames_put-slots subs (slice_set slots c.slot c.row) cs xs ready.1 ∙ frames_put-set c.row 0 slots c.slot xs ready.0.keeps

pub lowest_free-slots : (subs : List SubRow) (slots : List SlotRow) (cs : List SlotChange) (n : ℕ) → AreInstallable subs slots cs → lowest_free 0 (put_slots slots cs) n ≡ lowest_free 0 slots n
lowest_free-slots subs slots [] n ready = refl
lowest_free-slots subs slots (c ∷ cs) n ready = lowest_free-slots subs (slice_set slots c.slot c.row) cs n ready.1 ∙ lowest_free-set c.row 0 slots c.slot n ready.0.keeps

-- ---- frames in the lowest free slots

-- past the last slot
past_put : (slots : List SlotRow) (p : ℕ) (xs : List Frame) → length slots ≤ p → rows_put slots (places_from p (length xs)) xs ≡ frames_put p [] xs
past_put slots p [] past = refl
past_put slots p (x ∷ xs) past =
    ap (λ (o : Option SlotRow). frame_put p (slot_for x o) ∷ rows_put slots (places_from (p + 1) (length xs)) xs) (slice_get_past slots p past)
    ∙ ap (λ (cs : List RowChange). frame_put p (fresh_slot x) ∷ cs) (past_put slots (p + 1) xs (omega (arith, past)))

rows_lowest : (slots before ss : List SlotRow) (xs : List Frame) (p : ℕ) → slots ≡ before ++ ss → p ≡ length before → rows_put slots (lowest_free p ss (length xs)) xs ≡ frames_put p ss xs
rows_lowest slots before [] xs p is place = past_put slots p xs (omega (arith, place, ap (λ (rs : List SlotRow). length rs) (is ∙ append-nil before)))
rows_lowest slots before (s ∷ ss) [] p is place = refl
rows_lowest slots before (s ∷ ss) (x ∷ xs) p is place =
    let split = is ∙ sym (append_assoc before (s ∷ []) ss) in
    let next : p + 1 ≡ length (before ++ s ∷ []) = omega (arith, place, length-append before (s ∷ [])) in
    by (is_free s) refl (rows_lowest slots (before ++ s ∷ []) ss xs (p + 1) split next) (rows_lowest slots (before ++ s ∷ []) ss (x ∷ xs) (p + 1) split next)
  where
    by : (b : Bool) → is_free s ≡ b → rows_put slots (lowest_free (p + 1) ss (length xs)) xs ≡ frames_put (p + 1) ss xs
        → rows_put slots (lowest_free (p + 1) ss (suc (length xs))) (x ∷ xs) ≡ frames_put (p + 1) ss (x ∷ xs)
        → rows_put slots (lowest_free p (s ∷ ss) (suc (length xs))) (x ∷ xs) ≡ frames_put p (s ∷ ss) (x ∷ xs)
    by true free here later =
        let at = ap (λ (rs : List SlotRow). slice_get rs p) is ∙ get_mid before s ss p place in
        rw free (ap (λ (o : Option SlotRow). frame_put p (slot_for x o) ∷ rows_put slots (lowest_free (p + 1) ss (length xs)) xs) at ∙ ap (λ (cs : List RowChange). frame_put p (slot_with x s) ∷ cs) here)
    by false free here later = rw free later

pub rows_all : (slots : List SlotRow) (places : List ℕ) (xs : List Frame) → places ≡ lowest_free 0 slots (length xs) → rows_put slots places xs ≡ frames_put 0 slots xs
rows_all slots places xs is = ap (λ (ns : List ℕ). rows_put slots ns xs) is ∙ rows_lowest slots [] slots xs 0 refl refl

-- some frames, and then others
pub rows_put-append : (slots : List SlotRow) (ps qs : List ℕ) (xs ys : List Frame) → length ps ≡ length xs → rows_put slots (ps ++ qs) (xs ++ ys) ≡ rows_put slots ps xs ++ rows_put slots qs ys
rows_put-append slots [] qs [] ys long = refl
rows_put-append slots [] qs (x ∷ xs) ys long = absurd (omega (arith, long))
rows_put-append slots (p ∷ ps) qs [] ys long = absurd (omega (arith, long))
rows_put-append slots (p ∷ ps) qs (x ∷ xs) ys long = ap (λ (cs : List RowChange). frame_put p (slot_for x (slice_get slots p)) ∷ cs) (rows_put-append slots ps qs xs ys (omega (arith, long)))
