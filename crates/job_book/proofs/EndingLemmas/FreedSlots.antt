-- A slot that becomes free: how many are free, and where the lowest is.
use Rattle.std.proofs.Common.{◌≡◌, ℕ, zero, suc, ◌+◌, ◌-◌, ◌≤◌, ◌<◌, Bool, true, false, cond, min, eqb, is_none, ◌&&◌, List, [], ◌∷◌, length, drop, Option, Some, None, refl, ap, ◌∙◌, ◌⊎◌, inl, inr, arith}
use Rattle.std.specs.List.{slice_get}
use Rattle.std.proofs.lemmas.Option.{none-some, same_Some, slice_get_within}
use Rattle.farm_types.specs.declared.slot_row.SlotRow.{SlotRow}
use Rattle.std.specs.Prelude.{nat_lt}
use Rattle.std.proofs.lemmas.Bool.{false≢true}
use Rattle.farm_types.specs.declared.limits.TheConstants.{LAST_VERSION}
use Rattle.farm_types.specs.declared.slot_row.Frame.{Frame}
use Rattle.farm_types.specs.Farm.{changed_at, for_some}
use Rattle.farm_types.specs.Finish.{is_frame_of}
use Rattle.farm_types.specs.Jobs.{free_among, is_free}
use Rattle.farm_types.proofs.Changed.{changed_at_sum, length-changed_at}
use Rattle.farm_types.proofs.ChangedLists.{changed_at_suc}
use Rattle.job_book.specs.declared.ending.freeing.Free.{Free}
use Rattle.job_book.specs.Inside.{KeepsFree}
use Rattle.job_book.proofs.PlacementLemmas.FreeSlots.{fewer_behind, free_cons}

drop_changed : (k i : ℕ) (xs : List SlotRow) (f : SlotRow → SlotRow) → k ≤ i → drop k (changed_at xs i f) ≡ changed_at (drop k xs) (i - k) f
drop_changed zero i xs f less = let e : i - 0 ≡ i = omega arith in rw e refl
drop_changed (suc k) i [] f less = refl
drop_changed (suc k) zero (x ∷ xs) f less = absurd (omega (arith, less))
drop_changed (suc k) (suc i) (x ∷ xs) f less =
    let e : suc i - suc k ≡ i - k = omega arith in
    rw (changed_at_suc x xs i f, e) (drop_changed k i xs f (omega (arith, less)))

get_dropped : (k i : ℕ) (xs : List SlotRow) → k ≤ i → slice_get (drop k xs) (i - k) ≡ slice_get xs i
get_dropped zero i xs less = let e : i - 0 ≡ i = omega arith in ap (slice_get xs) e
get_dropped (suc k) i [] less = refl
get_dropped (suc k) zero (x ∷ xs) less = absurd (omega (arith, less))
get_dropped (suc k) (suc i) (x ∷ xs) less = let e : suc i - suc k ≡ i - k = omega arith in ap (slice_get (drop k xs)) e ∙ get_dropped k i xs (omega (arith, less))

drop_past : (k i : ℕ) (xs : List SlotRow) (f : SlotRow → SlotRow) → i < k → drop k (changed_at xs i f) ≡ drop k xs
drop_past zero i xs f less = absurd (omega (arith, less))
drop_past (suc k) i [] f less = refl
drop_past (suc k) zero (x ∷ xs) f less = refl
drop_past (suc k) (suc i) (x ∷ xs) f less = rw (changed_at_suc x xs i f) (drop_past k i xs f (omega (arith, less)))

le_or : (a b : ℕ) → (a ≤ b) ⊎ (b < a)
le_or zero b = inl (omega arith)
le_or (suc a) zero = inr (omega arith)
le_or (suc a) (suc b) = lift (le_or a b)
  where
    lift : (a ≤ b) ⊎ (b < a) → (suc a ≤ suc b) ⊎ (suc b < suc a)
    lift (inl h) = inl (omega (arith, h))
    lift (inr h) = inr (omega (arith, h))

module _ (slots : List SlotRow) (i : ℕ) (s : SlotRow) (at : slice_get slots i ≡ Some s) (f : SlotRow → SlotRow) (taken : is_free s ≡ false) where
  abbrev weight : SlotRow → ℕ
  weight r = cond (is_free r) 1 0

  -- from a place at or before the slot on, one more is free where the slot is
  behind : (k : ℕ) → k ≤ i → free_among (drop k (changed_at slots i f)) ≡ free_among (drop k slots) + weight (f s)
  behind k less =
      let e = changed_at_sum weight (drop k slots) (i - k) f s (get_dropped k i slots less ∙ at) in
      let none : weight s ≡ 0 = ap (λ (b : Bool). cond b 1 0) taken in
      ap free_among (drop_changed k i slots f less) ∙ omega (arith, e, none)

  -- it wasn't free, so it isn't below the lowest by chance
  pub freed_keeps : (free lowest : ℕ) → KeepsFree free lowest slots → (b : Bool) → is_free (f s) ≡ b → KeepsFree (cond b (free + 1) free) (cond b (min lowest i) lowest) (changed_at slots i f)
  freed_keeps free lowest keeps true is =
      let long = length-changed_at slots i f in
      let one : weight (f s) ≡ 1 = ap (λ (b : Bool). cond b 1 0) is in
      let all = behind 0 (omega arith) in
      let within = slice_get_within slots i s at in
      let low = behind (min lowest i) (omega arith) in
      let from : free_among (drop (min lowest i) slots) ≡ free_among slots = from_by (min lowest i) (omega arith) in
      record {
        free_is = omega (arith, keeps.free_is, all, one, long, within);
        within = omega (arith, keeps.within, long);
        none_below = omega (arith, low, from, all, one);
      }
    where
      same_drop : (k m : ℕ) (xs : List SlotRow) → k ≤ m → free_among (drop m xs) ≤ free_among (drop k xs)
      same_drop zero m xs less = fewer_behind m xs
      same_drop (suc k) zero xs less = absurd (omega (arith, less))
      same_drop (suc k) (suc m) [] less = omega arith
      same_drop (suc k) (suc m) (x ∷ xs) less = same_drop k m xs (omega (arith, less))

      from_by : (k : ℕ) → k ≤ lowest → free_among (drop k slots) ≡ free_among slots
      from_by k less = omega (arith, keeps.none_below, same_drop k lowest slots less, fewer_behind k slots)
  freed_keeps free lowest keeps false is =
      let long = length-changed_at slots i f in
      let none : weight (f s) ≡ 0 = ap (λ (b : Bool). cond b 1 0) is in
      let all = behind 0 (omega arith) in
      record {
        free_is = omega (arith, keeps.free_is, all, none, long);
        within = omega (arith, keeps.within, long);
        none_below = still (le_or lowest i);
      }
    where
      still : (lowest ≤ i) ⊎ (i < lowest) → free_among (drop lowest (changed_at slots i f)) ≡ free_among (changed_at slots i f)
      still (inl less) =
          let low = behind lowest less in
          let none : weight (f s) ≡ 0 = ap (λ (b : Bool). cond b 1 0) is in
          omega (arith, low, none, behind 0 (omega arith), keeps.none_below)
      still (inr more) =
          let all = behind 0 (omega arith) in
          let none : weight (f s) ≡ 0 = ap (λ (b : Bool). cond b 1 0) is in
          ap free_among (drop_past lowest i slots f more) ∙ omega (arith, all, none, keeps.none_below)

-- ---- a slot with a frame

module _ (job : ℕ) where
  taken_by_frame : (o : Option Frame) (c : Bool) → for_some o (λ (x : Frame). eqb x.job job) ≡ true → (is_none o && c) ≡ false
  taken_by_frame None c h = absurd (false≢true h)
  taken_by_frame (Some x) c h = refl

  pub not_free : (s : SlotRow) → is_frame_of job s ≡ true → is_free s ≡ false
  not_free s h = taken_by_frame s.frame (nat_lt s.version LAST_VERSION) h

below_step : (b : Bool) (s : SlotRow) (ss : List SlotRow) → is_free s ≡ b → free_among ss < length ss → free_among (s ∷ ss) < length (s ∷ ss)
below_step true s ss is later = omega (arith, later, free_cons true s ss is)
below_step false s ss is later = omega (arith, later, free_cons false s ss is)

at_most : (slots : List SlotRow) → free_among slots ≤ length slots
at_most [] = omega arith
at_most (s ∷ ss) = by (is_free s) refl (at_most ss)
  where
    by : (b : Bool) → is_free s ≡ b → free_among ss ≤ length ss → free_among (s ∷ ss) ≤ length (s ∷ ss)
    by true is later = omega (arith, later, free_cons true s ss is)
    by false is later = omega (arith, later, free_cons false s ss is)

-- where one isn't free, not all are
pub fewer_free : (slots : List SlotRow) (i : ℕ) (s : SlotRow) → slice_get slots i ≡ Some s → is_free s ≡ false → free_among slots < length slots
fewer_free [] i s at taken = absurd (none-some s at)
fewer_free (r ∷ rs) zero s at taken =
    let same : r ≡ s = same_Some r s at in
    let not_it : is_free r ≡ false = ap is_free same ∙ taken in
    omega (arith, free_cons false r rs not_it, at_most rs)
fewer_free (r ∷ rs) (suc i) s at taken = below_step (is_free r) r rs refl (fewer_free rs i s at taken)

pub picked_free : (b : Bool) (free : Free) (i : ℕ) (slots : List SlotRow) → KeepsFree (cond b (free.count + 1) free.count) (cond b (min free.lowest i) free.lowest) slots
    → KeepsFree (cond b (record { count = free.count + 1; lowest = min free.lowest i }) free).count (cond b (record { count = free.count + 1; lowest = min free.lowest i }) free).lowest slots
picked_free true free i slots keeps = keeps
picked_free false free i slots keeps = keeps
