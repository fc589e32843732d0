-- The rows that the places make.
use Rattle.std.proofs.Common.{◌≡◌, ℕ, zero, suc, ◌+◌, ◌<◌, List, [], ◌∷◌, length, Option, Some, None, true, false, refl, sym, ap, ◌∙◌, arith, eqb, ltb}
use Rattle.std.specs.List.{find, slice_get}
use Rattle.std.specs.Option.{option_map}
use Rattle.std.proofs.lemmas.Bool.{eq-eqb, ne_eqb, lt-ltb, le-ltb}
use Rattle.farm_types.specs.declared.rows.SubRow.{SubRow}
use Rattle.farm_types.specs.Farm.{changed_at}
use Rattle.farm_types.specs.Subs.{with_sub}
use Rattle.sub_ledger.specs.declared.subs.SubState.{SubState}
use Rattle.sub_ledger.specs.Inside.{row_for, with_place, rows_from, state_in, set_to}
use Rattle.farm_types.proofs.ChangedLists.{changed_at_suc}

-- places from a number on have no row of a number before it
none_before : (sub low : ℕ) (places : List (Option SubState)) → sub < low → find (λ (s : SubRow). eqb s.sub sub) (rows_from low places) ≡ None
none_before sub low [] below = refl
none_before sub low (None ∷ ps) below = none_before sub (low + 1) ps (omega arith)
none_before sub low (Some s ∷ ps) below =
    let apart : eqb low sub ≡ false = ne_eqb low sub (λ e. absurd (omega arith)) in
    rw apart (none_before sub (low + 1) ps (omega arith))

-- the row of a number is that of its place
pub row_from : (low i sub : ℕ) (places : List (Option SubState)) → sub ≡ low + i → find (λ (s : SubRow). eqb s.sub sub) (rows_from low places) ≡ option_map (row_for sub) (state_in (slice_get places i))
row_from low i sub [] is = refl
row_from low zero sub (None ∷ ps) is = none_before sub (low + 1) ps (omega arith)
row_from low zero sub (Some s ∷ ps) is =
    let same : low ≡ sub = omega arith in
    let found : eqb low sub ≡ true = eq-eqb low sub same in
    rw found (ap (λ n. Some (row_for n s)) same)
row_from low (suc i) sub (None ∷ ps) is = row_from (low + 1) i sub ps (omega arith)
row_from low (suc i) sub (Some s ∷ ps) is =
    let apart : eqb low sub ≡ false = ne_eqb low sub (λ e. absurd (omega arith)) in
    rw apart (row_from (low + 1) i sub ps (omega arith))

-- ---- a subscription that is set

module _ (sub size burst : ℕ) where
  abbrev row : SubRow
  row = record { sub = sub; size = size; burst = burst }

  -- it comes before the rows of later numbers
  set_before : (low : ℕ) (places : List (Option SubState)) → sub < low → with_sub row (rows_from low places) ≡ row ∷ rows_from low places
  set_before low [] below = refl
  set_before low (None ∷ ps) below = set_before (low + 1) ps (omega arith)
  set_before low (Some s ∷ ps) below =
      let apart : eqb low sub ≡ false = ne_eqb low sub (λ e. absurd (omega arith)) in
      let earlier : ltb sub low ≡ true = lt-ltb sub low below in
      rw (apart, earlier) refl

  -- the rows with it are those of the places with it
  pub rows_set : (low i : ℕ) (places : List (Option SubState)) → sub ≡ low + i → i < length places
      → rows_from low (changed_at places i (set_to size burst)) ≡ with_sub row (rows_from low places)
  rows_set low i [] is within = absurd (omega arith)
  rows_set low zero (None ∷ ps) is within =
      let same : low ≡ sub = omega arith in
      ap (λ n. record { sub = n; size = size; burst = burst } ∷ rows_from (low + 1) ps) same ∙ sym (set_before (low + 1) ps (omega arith))
  rows_set low zero (Some s ∷ ps) is within =
      let same : low ≡ sub = omega arith in
      let found : eqb low sub ≡ true = eq-eqb low sub same in
      rw found (ap (λ n. record { sub = n; size = size; burst = burst } ∷ rows_from (low + 1) ps) same)
  rows_set low (suc i) (None ∷ ps) is within =
      ap (rows_from low) (changed_at_suc None ps i (set_to size burst)) ∙ rows_set (low + 1) i ps (omega arith) (omega arith)
  rows_set low (suc i) (Some s ∷ ps) is within =
      let apart : eqb low sub ≡ false = ne_eqb low sub (λ e. absurd (omega arith)) in
      let later : ltb sub low ≡ false = le-ltb sub low (omega arith) in
      rw (apart, later)
      (ap (rows_from low) (changed_at_suc (Some s) ps i (set_to size burst))
      ∙ ap (λ rows. row_for low s ∷ rows) (rows_set (low + 1) i ps (omega arith) (omega arith)))

-- ---- a change of what is booked

-- a change that keeps each place's row keeps the rows
pub rows_kept : (change : Option SubState → Option SubState) → ((sub : ℕ) (p : Option SubState) (rows : List SubRow) → with_place sub (change p) rows ≡ with_place sub p rows)
    → (low i : ℕ) (places : List (Option SubState)) → rows_from low (changed_at places i change) ≡ rows_from low places
rows_kept change keeps low i [] = refl
rows_kept change keeps low zero (p ∷ ps) = keeps low p (rows_from (low + 1) ps)
rows_kept change keeps low (suc i) (p ∷ ps) = ap (rows_from low) (changed_at_suc p ps i change) ∙ ap (with_place low p) (rows_kept change keeps (low + 1) i ps)
