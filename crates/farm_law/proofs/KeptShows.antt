-- What shows, allocations and subscriptions keep: where one more comes, and where a subscription is set.
use Rattle.std.proofs.Common.{◌≡◌, ℕ, ◌+◌, ◌<◌, ◌≤◌, Bool, true, false, cond, eqb, ltb, List, [], ◌∷◌, ◌++◌, length, Option, Some, None, refl, subst, arith}
use Rattle.std.specs.Prelude.{◌/◌, ◌%◌, is_some}
use Rattle.std.specs.Cmp.Derive.{both_true}
use Rattle.std.proofs.lemmas.Bool.{eqb-true, eqb-false, le-leb, lt-ltb, ltb-true, ltb-false}
use Rattle.std.proofs.lemmas.List.{length-append}
use Rattle.std.specs.List.{find, list_all}
use Rattle.farm_types.proofs.Lists.{and_both}
use Rattle.farm_types.proofs.Passes.{cond_each}
use Rattle.farm_types.specs.declared.limits.TheConstants.{MOST_ALLOCS, MOST_BURST, MOST_SHOWS, SUB_NUMBERS}
use Rattle.farm_types.specs.declared.refusal.Counted.TheVariants as counted
use Rattle.farm_types.specs.declared.rows.AllocRow.{AllocRow}
use Rattle.farm_types.specs.declared.rows.ShowRow.{ShowRow}
use Rattle.farm_types.specs.declared.rows.SubRow.{SubRow}
use Rattle.farm_types.specs.declared.sub_line.SubLine.{SubLine}
use Rattle.farm_types.specs.Farm.{alloc_from, alloc_name, show_from, sub_of}
use Rattle.farm_types.specs.Forms.{is_name_text, is_tag_text}
use Rattle.farm_types.specs.Kept.{KeepsAllocs, KeepsShows, KeepsSubs, alloc_label, is_formed_alloc, is_formed_show, is_kept_sub, show_label}
use Rattle.farm_types.specs.Limits.{SubKeepsLimits}
use Rattle.farm_types.specs.Rising.{IsRising, sub_key}
use Rattle.farm_types.specs.Step.{full_refusal, new_refusal, sub_row}
use Rattle.farm_types.specs.Subs.{with_sub}
use Rattle.farm_law.proofs.KeptLists.{below_more, list_all-more, list_all-weaker}
use Rattle.farm_law.proofs.KeptNames.{differ_more, new_allowed, room_left}

-- ---- shows and allocations

-- a show of a new name comes
pub shows_more : (shows : List ShowRow) (name : List ℕ) → is_name_text name ≡ true → new_refusal name (is_some (show_from 0 name shows)) (full_refusal MOST_SHOWS (length shows) counted.Shows) ≡ None → KeepsShows shows → KeepsShows (shows ++ record { name = name } ∷ [])
shows_more shows name formed accepted k =
    let new = new_allowed name (show_from 0 name shows) _ accepted in
    let row : ShowRow = record { name = name } in
    record {
      count = omega (arith, length-append shows (row ∷ []), room_left MOST_SHOWS (length shows) counted.Shows new.1);
      differ = differ_more show_label shows row new.0 k.differ;
      formed = list_all-more is_formed_show shows row k.formed formed;
    }

-- an allocation of a new name comes
pub allocs_more : (allocs : List AllocRow) (facility tag : List ℕ) → is_tag_text facility ≡ true → is_tag_text tag ≡ true
    → new_refusal (alloc_name facility tag) (is_some (alloc_from 0 (alloc_name facility tag) allocs)) (full_refusal MOST_ALLOCS (length allocs) counted.Allocs) ≡ None → KeepsAllocs allocs → KeepsAllocs (allocs ++ record { facility = facility; tag = tag } ∷ [])
allocs_more allocs facility tag of_facility of_tag accepted k =
    let new = new_allowed (alloc_name facility tag) (alloc_from 0 (alloc_name facility tag) allocs) _ accepted in
    let row : AllocRow = record { facility = facility; tag = tag } in
    record {
      count = omega (arith, length-append allocs (row ∷ []), room_left MOST_ALLOCS (length allocs) counted.Allocs new.1);
      differ = differ_more alloc_label allocs row new.0 k.differ;
      formed = list_all-more is_formed_alloc allocs row k.formed (both_true of_facility of_tag);
    }

-- ---- subscriptions

sub_more : (shows allocs more most : ℕ) → shows ≤ more → allocs ≤ most → (s : SubRow) → is_kept_sub shows allocs s ≡ true → is_kept_sub more most s ≡ true
sub_more shows allocs more most up over s kept =
    let show = and_both (ltb (s.sub / MOST_ALLOCS) shows) _ kept in
    let alloc = and_both (ltb (s.sub % MOST_ALLOCS) allocs) _ show.1 in
    both_true (below_more (s.sub / MOST_ALLOCS) shows more up show.0) (both_true (below_more (s.sub % MOST_ALLOCS) allocs most over alloc.0) alloc.1)

-- there may come shows and allocations
pub subs_more : (subs : List SubRow) (shows allocs more most : ℕ) → shows ≤ more → allocs ≤ most → KeepsSubs subs shows allocs → KeepsSubs subs more most
subs_more subs shows allocs more most up over k =
    record { rise = k.rise; each = list_all-weaker (is_kept_sub shows allocs) (is_kept_sub more most) (sub_more shows allocs more most up over) subs k.each }

-- the number of a show's subscription to an allocation says both
of_number : (show alloc : ℕ) → alloc < MOST_ALLOCS → (sub_of show alloc / MOST_ALLOCS ≡ show) × (sub_of show alloc % MOST_ALLOCS ≡ alloc)
of_number show alloc below = (omega arith, omega arith)

-- the row that a line sets is within the limits
kept_row : (line : SubLine) (show alloc shows allocs : ℕ) → SubKeepsLimits line → allocs ≤ MOST_ALLOCS → show < shows → alloc < allocs → is_kept_sub shows allocs (sub_row (sub_of show alloc) line) ≡ true
kept_row line show alloc shows allocs limits few of_show of_alloc =
    let number = of_number show alloc (omega arith) in
    both_true (lt-ltb _ shows (omega (arith, number.0))) (both_true (lt-ltb _ allocs (omega (arith, number.1))) (both_true (le-leb line.size MOST_BURST limits.size_within) (le-leb line.burst MOST_BURST limits.burst_within)))

rise_by : (row s : SubRow) (ss : List SubRow) (low high : ℕ) (same before : Bool) → eqb s.sub row.sub ≡ same → ltb row.sub s.sub ≡ before → low ≤ row.sub → IsRising sub_key low (s ∷ ss) high
    → (s.sub < row.sub → IsRising sub_key (s.sub + 1) (with_sub row ss) high) → IsRising sub_key low (cond same (row ∷ ss) (cond before (row ∷ s ∷ ss) (s ∷ with_sub row ss))) high
rise_by row s ss low high true before same is from rise later = (from, subst (λ (n : ℕ). IsRising sub_key (n + 1) ss high) (eqb-true s.sub row.sub same) rise.1)
rise_by row s ss low high false true same is from rise later =
    let next = ltb-true row.sub s.sub is in
    (from, (omega (arith, next), rise.1))
rise_by row s ss low high false false same is from rise later = (rise.0, later (omega (arith, ltb-false row.sub s.sub is, eqb-false s.sub row.sub same)))

rising_set : (row : SubRow) (subs : List SubRow) (low high : ℕ) → low ≤ row.sub → row.sub < high → IsRising sub_key low subs high → IsRising sub_key low (with_sub row subs) high
rising_set row [] low high from below rise = (from, omega (arith, below))
rising_set row (s ∷ ss) low high from below rise =
    rise_by row s ss low high (eqb s.sub row.sub) (ltb row.sub s.sub) refl refl from rise (λ past. rising_set row ss (s.sub + 1) high (omega (arith, past)) below rise.1)

all_set : (test : SubRow → Bool) (row : SubRow) (subs : List SubRow) → test row ≡ true → list_all test subs ≡ true → list_all test (with_sub row subs) ≡ true
all_set test row [] here all = both_true here refl
all_set test row (s ∷ ss) here all =
    let both = and_both (test s) (list_all test ss) all in
    cond_each (λ (ys : List SubRow). list_all test ys ≡ true) (eqb s.sub row.sub) (row ∷ ss) (cond (ltb row.sub s.sub) (row ∷ s ∷ ss) (s ∷ with_sub row ss))
    (both_true here both.1)
    (cond_each (λ (ys : List SubRow). list_all test ys ≡ true) (ltb row.sub s.sub) (row ∷ s ∷ ss) (s ∷ with_sub row ss) (both_true here all) (both_true both.0 (all_set test row ss here both.1)))

-- a subscription is set, or comes where its number belongs
pub subs_set : (subs : List SubRow) (line : SubLine) (show alloc shows allocs : ℕ) → SubKeepsLimits line → shows ≤ MOST_SHOWS → allocs ≤ MOST_ALLOCS → show < shows → alloc < allocs
    → KeepsSubs subs shows allocs → KeepsSubs (with_sub (sub_row (sub_of show alloc) line) subs) shows allocs
subs_set subs line show alloc shows allocs limits most few of_show of_alloc k =
    let row = sub_row (sub_of show alloc) line in
    record {
      rise = rising_set row subs 0 SUB_NUMBERS (omega arith) (omega (arith, most, few, of_show, of_alloc)) k.rise;
      each = all_set (is_kept_sub shows allocs) row subs (kept_row line show alloc shows allocs limits few of_show of_alloc) k.each;
    }

-- ---- subscriptions stay

-- a subscription that is there in the first list is there in the second
abbrev pub SubsStay : List SubRow → List SubRow → Type 0
SubsStay old new = (n : ℕ) → is_some (find (λ (s : SubRow). eqb s.sub n) old) ≡ true → is_some (find (λ (s : SubRow). eqb s.sub n) new) ≡ true

there_by : (b : Bool) (s t : SubRow) (old new : Option SubRow) → (is_some old ≡ true → is_some new ≡ true) → is_some (cond b (Some s) old) ≡ true → is_some (cond b (Some t) new) ≡ true
there_by true s t old new later there = refl
there_by false s t old new later there = later there

there_more : (b : Bool) (t : SubRow) (old : Option SubRow) → is_some old ≡ true → is_some (cond b (Some t) old) ≡ true
there_more true t old there = refl
there_more false t old there = there

stay_by : (row s : SubRow) (ss : List SubRow) (same before : Bool) → eqb s.sub row.sub ≡ same → SubsStay ss (with_sub row ss) → SubsStay (s ∷ ss) (cond same (row ∷ ss) (cond before (row ∷ s ∷ ss) (s ∷ with_sub row ss)))
stay_by row s ss true before same later n there =
    subst (λ (number : ℕ). is_some (cond (eqb number n) (Some row) (find (λ (x : SubRow). eqb x.sub n) ss)) ≡ true) (eqb-true s.sub row.sub same)
    (there_by (eqb s.sub n) s row (find (λ (x : SubRow). eqb x.sub n) ss) (find (λ (x : SubRow). eqb x.sub n) ss) (λ h. h) there)
stay_by row s ss false true same later n there = there_more (eqb row.sub n) row (find (λ (x : SubRow). eqb x.sub n) (s ∷ ss)) there
stay_by row s ss false false same later n there = there_by (eqb s.sub n) s s (find (λ (x : SubRow). eqb x.sub n) ss) (find (λ (x : SubRow). eqb x.sub n) (with_sub row ss)) (later n) there

-- setting one leaves the others there
pub subs_stay : (row : SubRow) (subs : List SubRow) → SubsStay subs (with_sub row subs)
subs_stay row [] n there = there_more (eqb row.sub n) row None there
subs_stay row (s ∷ ss) n there = stay_by row s ss (eqb s.sub row.sub) (ltb row.sub s.sub) refl (subs_stay row ss) n there
