-- The rows of the slots that were used say all slots: those between were never used, and the last one was.
use Rattle.std.proofs.Common.{◌≡◌, ℕ, suc, zero, ◌+◌, ◌-◌, eqb, Bool, true, false, not, cond, ◌&&◌, List, [], ◌∷◌, ◌++◌, length, replicate, is_some, Option, Some, None, Result, refl, ap, sym, subst, ◌∙◌, arith}
use Rattle.std.specs.List.{slice_get}
use Rattle.std.proofs.lemmas.Bool.{eqb-true, true≢false}
use Rattle.std.proofs.lemmas.List.{append-nil, append_assoc, length-append, length-replicate, replicate_more}
use Rattle.farm_types.specs.declared.attempt.ProcRow.{ProcRow}
use Rattle.farm_types.specs.declared.slot_row.Frame.{Frame}
use Rattle.farm_types.specs.declared.slot_row.SlotRow.{SlotRow}
use Rattle.farm_types.specs.Farm.{Farm}
use Rattle.farm_types.specs.Kept.{EndsUsed, KeepsRows, is_used}
use Rattle.farm_types.specs.Run.{HasItsAttempt}
use Rattle.farm_rows.specs.declared.farm_row.FarmRow.{FarmRow}
use Rattle.farm_rows.specs.declared.farm_row.FarmRow.TheVariants as row
use Rattle.farm_rows.specs.Recovery.{Said, StoredKey, farm_with, unused_slot, with_slot}
use Rattle.farm_rows.specs.Rows.{frame_row, is_unused, slot_rows}
use Rattle.recovery_law.proofs.Parts.{upto_slots}
use Rattle.recovery_law.proofs.SlotBack.{fit_back}
use Rattle.recovery_law.proofs.Stage.{IsFrom, IsPast, from_key, past_key, row_next}

-- a list that ends with a slot that was used
ends_with : (xs : List SlotRow) (y : SlotRow) → EndsUsed (xs ++ y ∷ []) → is_used y ≡ true
ends_with [] y h = h
ends_with (x ∷ []) y h = h
ends_with (x ∷ (z ∷ zs)) y h = ends_with (z ∷ zs) y h

-- what is at the place behind two lists
pub at_place : {X : Type 0} (xs rest : List X) (x : X) → slice_get (xs ++ x ∷ rest) (length xs) ≡ Some x
at_place [] rest x = refl
at_place (y ∷ ys) rest x =
    let longer : length (y ∷ ys) ≡ suc (length ys) = omega arith in
    ap (slice_get (y ∷ (ys ++ x ∷ rest))) longer ∙ at_place ys rest x

-- a slot that is free at version 0 is as if it was never used
unused_is : (place version : ℕ) (frame : Option Frame) (proc : Option ProcRow) → HasItsAttempt place version frame proc → (not (is_some frame) && eqb version 0) ≡ true
    → record { version = version; frame = frame; proc = proc } ≡ unused_slot
unused_is place version None None own unused = ap (λ (n : ℕ). record { version = n; frame = None; proc = None }) (eqb-true version 0 unused)
unused_is place version None (Some p) own unused = absurd own
unused_is place version (Some x) proc own unused = absurd (true≢false (sym unused))

module _ (format : ℕ) (f : Farm) (k : KeepsRows f) (more : List FarmRow) (said : Result Said StoredKey) (next : (last : Option StoredKey) → IsPast last 8 → farm_with format last (upto_slots f f.slots) more ≡ said) where
  at_end : (had : List SlotRow) (gap : ℕ) → had ++ (replicate gap unused_slot ++ []) ≡ f.slots → had ≡ f.slots
  at_end had zero is = sym (append-nil had) ∙ is
  at_end had (suc gap) is =
      let one : suc gap ≡ gap + 1 = omega arith in
      let last : had ++ (replicate (suc gap) unused_slot ++ []) ≡ (had ++ replicate gap unused_slot) ++ unused_slot ∷ [] =
      ap (λ (xs : List SlotRow). had ++ xs) (append-nil (replicate (suc gap) unused_slot) ∙ ap (λ (n : ℕ). replicate n unused_slot) one ∙ sym (replicate_more gap unused_slot))
      ∙ sym (append_assoc had (replicate gap unused_slot) (unused_slot ∷ [])) in
      absurd (true≢false (sym (ends_with (had ++ replicate gap unused_slot) unused_slot (subst EndsUsed (sym is ∙ last) k.jobs.ends_used))))

  -- the slots from one on are said, whatever stands before them and leads to them
  abbrev AreSaid : List SlotRow → Type 0
  AreSaid rest =
      (had : List SlotRow) (gap place : ℕ) (last : Option StoredKey) → had ++ (replicate gap unused_slot ++ rest) ≡ f.slots → place ≡ length had + gap → IsPast last 8 → IsFrom last 8 place
      → farm_with format last (upto_slots f had) (slot_rows place rest ++ more) ≡ said

  module _ (s : SlotRow) (ss : List SlotRow) (later : AreSaid ss) (had : List SlotRow) (gap place : ℕ) (last : Option StoredKey) (is : had ++ (replicate gap unused_slot ++ s ∷ ss) ≡ f.slots) (place_is : place ≡ length had + gap) (past : IsPast last 8) (from : IsFrom last 8 place) where
    long : length (replicate gap unused_slot) ≡ gap
    long = length-replicate {A = SlotRow} gap unused_slot

    at : slice_get f.slots place ≡ Some s
    at =
        let whole = append_assoc had (replicate gap unused_slot) (s ∷ ss) ∙ is in
        let count = length-append had (replicate gap unused_slot) in
        let here : length (had ++ replicate gap unused_slot) ≡ place = omega (arith, count, long, place_is) in
        subst (λ (n : ℕ). slice_get f.slots n ≡ Some s) here (subst (λ (xs : List SlotRow). slice_get xs (length (had ++ replicate gap unused_slot)) ≡ Some s) whole (at_place (had ++ replicate gap unused_slot) ss s))

    passed : is_unused s ≡ true → farm_with format last (upto_slots f had) (slot_rows (place + 1) ss ++ more) ≡ said
    passed unused =
        let same = unused_is place s.version s.frame s.proc (k.sound.attempts place s at) unused in
        let whole : had ++ (replicate (gap + 1) unused_slot ++ ss) ≡ f.slots =
        ap (λ (xs : List SlotRow). had ++ (xs ++ ss)) (sym (replicate_more gap unused_slot)) ∙ ap (λ (xs : List SlotRow). had ++ xs) (append_assoc (replicate gap unused_slot) (unused_slot ∷ []) ss)
        ∙ ap (λ (t : SlotRow). had ++ (replicate gap unused_slot ++ t ∷ ss)) (sym same) ∙ is in
        later had (gap + 1) (place + 1) last whole (omega (arith, place_is)) past (λ n h. from n (omega (arith, h)))

    told : is_unused s ≡ false → farm_with format last (upto_slots f had) (row.Frame (frame_row place s) ∷ (slot_rows (place + 1) ss ++ more)) ≡ said
    told used =
        let back = fit_back f had k (replicate gap unused_slot) ss s is place (omega (arith, place_is, long)) at used in
        let gap_is : place - length had ≡ gap = omega (arith, place_is) in
        let first = length-append had (replicate gap unused_slot ++ s ∷ []) in
        let second = length-append (replicate gap unused_slot) (s ∷ []) in
        let whole : (had ++ (replicate gap unused_slot ++ s ∷ [])) ++ ss ≡ f.slots =
        append_assoc had (replicate gap unused_slot ++ s ∷ []) ss ∙ ap (λ (xs : List SlotRow). had ++ xs) (append_assoc (replicate gap unused_slot) (s ∷ []) ss) ∙ is in
        row_next format last (upto_slots f had) (row.Frame (frame_row place s)) (slot_rows (place + 1) ss ++ more) (from place (omega arith)) back.0
        ∙ ap (λ (t : SlotRow). farm_with format (Some (8, place)) (upto_slots f (with_slot had place t)) (slot_rows (place + 1) ss ++ more)) back.1
        ∙ ap (λ (n : ℕ). farm_with format (Some (8, place)) (upto_slots f (had ++ (replicate n unused_slot ++ s ∷ []))) (slot_rows (place + 1) ss ++ more)) gap_is
        ∙ later (had ++ (replicate gap unused_slot ++ s ∷ [])) 0 (place + 1) (Some (8, place)) whole (omega (arith, first, second, long, place_is)) (past_key 8 place) (from_key 8 place)

    either : (b : Bool) → is_unused s ≡ b → farm_with format last (upto_slots f had) (cond b (slot_rows (place + 1) ss) (row.Frame (frame_row place s) ∷ slot_rows (place + 1) ss) ++ more) ≡ said
    either true unused = passed unused
    either false used = told used

  slots_from : (rest : List SlotRow) → AreSaid rest
  slots_from [] had gap place last is place_is past from = ap (λ (ss : List SlotRow). farm_with format last (upto_slots f ss) more) (at_end had gap is) ∙ next last past
  slots_from (s ∷ ss) had gap place last is place_is past from = either s ss (slots_from ss) had gap place last is place_is past from (is_unused s) refl

  pub slots_said : (last : Option StoredKey) → IsPast last 7 → farm_with format last (upto_slots f []) (slot_rows 0 f.slots ++ more) ≡ said
  slots_said last past = slots_from f.slots [] 0 0 last refl refl (λ kind n later. past kind n (omega (arith, later))) (λ n from. past 8 n (omega arith))
