-- What rows of frames keep of what is known.
use Rattle.std.proofs.Common.{◌≡◌, ◌≤◌, ◌<◌, ◌≢◌, ℕ, ℤ, suc, zero, ◌+◌, ◌-◌, ◌*◌, ◌^◌, Bool, true, false, cond, not, ◌&&◌, ◌||◌, eqb, List, [], ◌∷◌, ◌++◌, length, map, Option, Some, None, refl, sym, ap, subst, ◌∙◌, ◌⊎◌, inl, inr, arith}
use Rattle.std.specs.Prelude.{IfSome, replicate}
use Rattle.std.specs.List.{list_all, list_any, position_or_len, sum_by}
use Rattle.std.specs.Cmp.{nat_eq_equiv}
use Rattle.std.specs.Cmp.Derive.{both_true}
use Rattle.std.proofs.lemmas.Bool.{eq-eqb, eqb-true, ne_eqb}
use Rattle.std.proofs.lemmas.List.Folds.{list_all-append, list_any-append}
use Rattle.std.proofs.lemmas.Option.{none-some}
use Rattle.farm_types.specs.declared.attempt.ProcRow.{ProcRow}
use Rattle.farm_types.specs.declared.limits.TheConstants.{MOST_LAYERS, SLOT_LIMIT}
use Rattle.farm_types.specs.declared.rows.HostRow.{HostRow}
use Rattle.farm_types.specs.declared.rows.JobRow.{JobRow}
use Rattle.farm_types.specs.declared.rows.LayerRow.{LayerRow}
use Rattle.farm_types.specs.declared.slot_row.Frame.{Frame}
use Rattle.farm_types.specs.declared.slot_row.SlotRow.{SlotRow}
use Rattle.farm_types.specs.Depends.{is_done_state}
use Rattle.farm_types.specs.Farm.{changed_at, for_some, is_placed, slot_from}
use Rattle.farm_types.specs.Operators.{is_left_of}
use Rattle.farm_types.specs.Ranges.{range_numbers}
use Rattle.farm_types.specs.Rising.{job_key, layer_key}
use Rattle.farm_types.specs.Sums.{cores_on, memory_on, total_at, total_in}
use Rattle.farm_types.proofs.Changed.{changed_at_other, changed_at_same, length-changed_at, places}
use Rattle.farm_types.proofs.ChangedLists.{changed_at_suc}
use Rattle.farm_types.proofs.Lists.{and_both, slice_get_below}
use Rattle.farm_rows.specs.declared.farm_row.FarmRow.TheVariants as row
use Rattle.farm_rows.specs.declared.frame_row.FrameRow.{FrameRow}
use Rattle.farm_rows.specs.Recovery.{comes_after, slot_fits, slot_row, unused_slot, with_slot}
use Rattle.row_index.specs.Index.{HostsKnown, JobsKnown, LayerKnown, found_with}
use Rattle.stored_rows.specs.Known.{HasRoom, KnowsHosts, KnowsJobs, KnowsLayers, KnowsSlots, KnowsTold, Rises, found_from, has_left, layer_known, left_at, slot_stands, with_attempt, with_found, with_left}
use Rattle.stored_rows.specs.Told.{Told, told_with}
use Rattle.stored_rows.proofs.FrameFits.{FreeAt, OnHost, free_at, host_of}
use Rattle.stored_rows.proofs.Once.{changed_mapped, once_rising}
use Rattle.stored_rows.proofs.Until.{rises_kept, until_id}
use Rattle.farm_rows.proofs.FrameFits.{slot_parts}
use Rattle.farm_rows.proofs.OneSlotMore.{slots_long, sum_with}

-- ---- totals

-- each total is the amount of its place
abbrev pub Keeps : List ℕ → (ℕ → ℕ) → Type 0
Keeps totals amount = (n : ℕ) → total_at totals n ≡ amount n

module _ (totals : List ℕ) (place amount : ℕ) (old new : ℕ → ℕ) (kept : Keeps totals old) where
  raised_at : (n : ℕ) → (n ≡ place) ⊎ (n ≢ place) → place < length totals → new n ≡ old n + cond (eqb place n) amount 0 → total_at (changed_at totals place (λ x. x + amount)) n ≡ new n
  raised_at n (inl here) below step =
      let x = slice_get_below totals place below in
      let put : total_at (changed_at totals place (λ x. x + amount)) place ≡ x.0 + amount = ap total_in (changed_at_same totals place (λ x. x + amount) x.0 x.1) in
      let had : x.0 ≡ old place = sym (ap total_in x.1) ∙ kept place in
      subst (λ (k : ℕ). total_at (changed_at totals place (λ x. x + amount)) k ≡ new k) (sym here)
      (put ∙ (ap (λ k. k + amount) had ∙ sym (subst (λ (k : ℕ). new k ≡ old k + cond (eqb place k) amount 0) here step ∙ ap (λ b. old place + cond b amount 0) (eq-eqb place place refl))))
  raised_at n (inr apart) below step =
      ap total_in (changed_at_other totals place n (λ x. x + amount) apart) ∙ (kept n ∙ sym (step ∙ (ap (λ b. old n + cond b amount 0) (ne_eqb place n (λ (e : place ≡ n). apart (sym e))) ∙ (omega arith))))

  raised : place < length totals → ((n : ℕ) → new n ≡ old n + cond (eqb place n) amount 0) → Keeps (changed_at totals place (λ x. x + amount)) new
  raised below step n = raised_at n (places n place) below (step n)

-- ---- one slot more

any_gap : (test : SlotRow → Bool) (n : ℕ) (s : SlotRow) (b : Bool) → test unused_slot ≡ false → test s ≡ b → list_any test (replicate n unused_slot ++ s ∷ []) ≡ b
any_gap test zero s true unused is = rw is refl
any_gap test zero s false unused is = rw is refl
any_gap test (suc n) s b unused is = ap (λ (c : Bool). c || list_any test (replicate n unused_slot ++ s ∷ [])) unused ∙ any_gap test n s b unused is

all_gap : (test : SlotRow → Bool) (n : ℕ) (s : SlotRow) → test unused_slot ≡ true → test s ≡ true → list_all test (replicate n unused_slot ++ s ∷ []) ≡ true
all_gap test zero s unused is = both_true is refl
all_gap test (suc n) s unused is = both_true unused (all_gap test n s unused is)

module _ (slots : List SlotRow) (slot : ℕ) (s : SlotRow) (past : length slots ≤ slot) where
  more : List SlotRow
  more = with_slot slots slot s

  any_with : (test : SlotRow → Bool) → test unused_slot ≡ false → list_any test (with_slot slots slot s) ≡ (list_any test slots || test s)
  any_with test unused =
      list_any-append test slots (replicate (slot - length slots) unused_slot ++ s ∷ []) ∙ ap (λ (b : Bool). list_any test slots || b) (any_gap test (slot - length slots) s (test s) unused refl)

  all_with : (test : SlotRow → Bool) → test unused_slot ≡ true → list_all test slots ≡ true → test s ≡ true → list_all test (with_slot slots slot s) ≡ true
  all_with test unused all one =
      list_all-append test slots (replicate (slot - length slots) unused_slot ++ s ∷ []) ∙ both_true all (all_gap test (slot - length slots) s unused one)

-- ---- the first slot with a frame

gap_from : (test : Frame → Bool) (n base : ℕ) (s : SlotRow) → slot_from base test (replicate n unused_slot ++ s ∷ []) ≡ cond (for_some s.frame test) (Some (base + n)) None
gap_from test zero base s = let here : base ≡ base + zero = omega arith in ap (λ (m : ℕ). cond (for_some s.frame test) (Some m) None) here
gap_from test (suc n) base s =
    let here : base + 1 + n ≡ base + suc n = omega arith in
    gap_from test n (base + 1) s ∙ ap (λ (m : ℕ). cond (for_some s.frame test) (Some m) None) here

front_kept : (test : Frame → Bool) (base : ℕ) (xs ys : List SlotRow) → ((n : ℕ) → slot_from n test ys ≡ None) → slot_from base test (xs ++ ys) ≡ slot_from base test xs
front_kept test base [] ys none = none base
front_kept test base (x ∷ xs) ys none = ap (cond (for_some x.frame test) (Some base)) (front_kept test (base + 1) xs ys none)

front_none : (test : Frame → Bool) (base : ℕ) (xs ys : List SlotRow) → slot_from base test xs ≡ None → slot_from base test (xs ++ ys) ≡ slot_from (base + length xs) test ys
front_none test base [] ys none = let here : base ≡ base + 0 = omega arith in ap (λ (m : ℕ). slot_from m test ys) here
front_none test base (x ∷ xs) ys none = step (for_some x.frame test) refl (front_none test (base + 1) xs ys)
  where
    step : (b : Bool) → for_some x.frame test ≡ b → (slot_from (base + 1) test xs ≡ None → slot_from (base + 1) test (xs ++ ys) ≡ slot_from (base + 1 + length xs) test ys)
        → slot_from base test (x ∷ (xs ++ ys)) ≡ slot_from (base + length (x ∷ xs)) test ys
    step true is rest =
        let found : cond true (Some base) (slot_from (base + 1) test xs) ≡ None = subst (λ (b : Bool). cond b (Some base) (slot_from (base + 1) test xs) ≡ None) is none in
        absurd (none-some base (sym found))
    step false is rest =
        let later : cond false (Some base) (slot_from (base + 1) test xs) ≡ None = subst (λ (b : Bool). cond b (Some base) (slot_from (base + 1) test xs) ≡ None) is none in
        let here : base + 1 + length xs ≡ base + length (x ∷ xs) = omega arith in
        ap (λ (b : Bool). cond b (Some base) (slot_from (base + 1) test (xs ++ ys))) is ∙ rest later ∙ ap (λ (m : ℕ). slot_from m test ys) here

module _ (slots : List SlotRow) (slot : ℕ) (s : SlotRow) (past : length slots ≤ slot) (test : Frame → Bool) where
  from_same : for_some s.frame test ≡ false → slot_from 0 test (with_slot slots slot s) ≡ slot_from 0 test slots
  from_same fails =
      let n = slot - length slots in
      front_kept test 0 slots (replicate n unused_slot ++ s ∷ []) (λ m. gap_from test n m s ∙ ap (λ (b : Bool). cond b (Some (m + n)) None) fails)

  from_new : slot_from 0 test slots ≡ None → for_some s.frame test ≡ true → slot_from 0 test (with_slot slots slot s) ≡ Some slot
  from_new none passes =
      let n = slot - length slots in
      let here : 0 + length slots + n ≡ slot = omega (arith, past) in
      front_none test 0 slots (replicate n unused_slot ++ s ∷ []) none
      ∙ gap_from test n (0 + length slots) s ∙ ap (λ (b : Bool). cond b (Some (0 + length slots + n)) None) passes ∙ ap (λ (m : ℕ). Some m) here

-- ---- what is known

module _ (slots : List SlotRow) (slot : ℕ) (s : SlotRow) (past : length slots ≤ slot) where
  -- the slots of a layer none of whose positions the frame has
  found_same : (l : LayerRow) (base : ℕ) (ns : List ℤ) → ((p : ℕ) → base ≤ p → for_some s.frame (is_placed l.job l.place p) ≡ false) → found_from slots l base ns ≡ found_from (with_slot slots slot s) l base ns
  found_same l base [] fails = refl
  found_same l base (n ∷ ns) fails =
      let first = sym (from_same slots slot s past (is_placed l.job l.place base) (fails base (omega arith))) in
      let rest = found_same l (base + 1) ns (λ p from. fails p (omega (arith, from))) in
      λ i. first i ∷ rest i

  module _ (x : Frame) (is : s.frame ≡ Some x) where
    at_frame : (test : Frame → Bool) (b : Bool) → test x ≡ b → for_some s.frame test ≡ b
    at_frame test b e = ap (λ (o : Option Frame). for_some o test) is ∙ e

    -- the slots of the layer at whose position the frame stands
    found_put : (l : LayerRow) (base i : ℕ) (ns : List ℤ) → x.job ≡ l.job → x.layer ≡ l.place → base + i ≡ x.position → slot_from 0 (is_placed x.job x.layer x.position) slots ≡ None
        → changed_at (found_from slots l base ns) i (λ _. Some slot) ≡ found_from (with_slot slots slot s) l base ns
    found_put l base i [] job place at free = refl
    found_put l base zero (n ∷ ns) job place at free =
        let here : x.position ≡ base = omega (arith, at) in
        let none : slot_from 0 (is_placed l.job l.place base) slots ≡ None = subst (λ (f : Frame → Bool). slot_from 0 f slots ≡ None) (λ j. is_placed (job j) (place j) (here j)) free in
        let first = sym (from_new slots slot s past (is_placed l.job l.place base) none
        (at_frame (is_placed l.job l.place base) true (both_true (both_true (eq-eqb x.job l.job job) (eq-eqb x.layer l.place place)) (eq-eqb x.position base here)))) in
        let rest = found_same l (base + 1) ns (λ p from. at_frame (is_placed l.job l.place p) false (and_no (eqb x.job l.job && eqb x.layer l.place) (eqb x.position p) (ne_eqb x.position p (λ e. absurd (omega (arith, e, here, from)))))) in
        λ j. first j ∷ rest j
      where
        and_no : (a b : Bool) → b ≡ false → (a && b) ≡ false
        and_no true b e = e
        and_no false b e = refl
    found_put l base (suc i) (n ∷ ns) job place at free =
        let first = sym (from_same slots slot s past (is_placed l.job l.place base)
        (at_frame (is_placed l.job l.place base) false (and_none (eqb x.job l.job && eqb x.layer l.place) (eqb x.position base) (ne_eqb x.position base (λ e. absurd (omega (arith, e, at))))))) in
        let rest = found_put l (base + 1) i ns job place (omega (arith, at)) free in
        changed_at_suc (slot_from 0 (is_placed l.job l.place base) slots) (found_from slots l (base + 1) ns) i (λ _. Some slot) ∙ (λ j. first j ∷ rest j)
      where
        and_none : (a b : Bool) → b ≡ false → (a && b) ≡ false
        and_none true b e = e
        and_none false b e = refl

    is_its : LayerRow → Bool
    is_its l = eqb l.job x.job && eqb l.place x.layer

    its_parts : (l : LayerRow) → (eqb l.job x.job && eqb l.place x.layer) ≡ true → (x.job ≡ l.job) × (x.layer ≡ l.place)
    its_parts l h =
        let both = and_both (eqb l.job x.job) (eqb l.place x.layer) h in
        (sym (eqb-true l.job x.job both.0), sym (eqb-true l.place x.layer both.1))

    known_put : (l : LayerRow) → slot_from 0 (is_placed x.job x.layer x.position) slots ≡ None → (eqb l.job x.job && eqb l.place x.layer) ≡ true → found_with x.position slot (layer_known slots l) ≡ layer_known (with_slot slots slot s) l
    known_put l free its =
        let parts = its_parts l its in
        let here : 0 + x.position ≡ x.position = omega arith in
        ap (λ (found : List (Option ℕ)). record { numbers = range_numbers l.range; slots = found }) (found_put l 0 x.position (range_numbers l.range) parts.0 parts.1 here free)

    known_other : (l : LayerRow) → (eqb l.job x.job && eqb l.place x.layer) ≡ false → layer_known slots l ≡ layer_known (with_slot slots slot s) l
    known_other l other =
        let turned : (eqb x.job l.job && eqb x.layer l.place) ≡ false = (λ i. nat_eq_equiv.symm x.job l.job i && nat_eq_equiv.symm x.layer l.place i) ∙ other in
        ap (λ (found : List (Option ℕ)). record { numbers = range_numbers l.range; slots = found })
        (found_same l 0 (range_numbers l.range) (λ p from. at_frame (is_placed l.job l.place p) false (ap (λ (b : Bool). b && eqb x.position p) turned)))

  layers_by : (o : Option Frame) (ks : List LayerKnown) (layers : List LayerRow) (last : Option (ℕ × ℕ)) → s.frame ≡ o → FreeAt layers slots o → Rises layer_key layers last 7 → ks ≡ map (layer_known slots) layers
      → with_found layers slot o ks ≡ map (layer_known (with_slot slots slot s)) layers
  layers_by None ks layers last is free rises known =
      known ∙ (λ i. map (λ (l : LayerRow). record { numbers = range_numbers l.range; slots = found_same l 0 (range_numbers l.range) (λ p from. ap (λ (o : Option Frame). for_some o (is_placed l.job l.place p)) is) i }) layers)
  layers_by (Some x) ks layers last is free rises known =
      let test = λ (l : LayerRow). eqb l.job x.job && eqb l.place x.layer in
      let once = once_rising layer_key test (MOST_LAYERS * x.job + x.layer) (λ l its. let parts = its_parts x is l its in omega (arith, parts.0, parts.1)) 0 layers rises.high rises.rise in
      ap (λ (now : List LayerKnown). changed_at now (position_or_len test layers) (found_with x.position slot)) known
      ∙ changed_mapped test (layer_known slots) (layer_known (with_slot slots slot s)) (found_with x.position slot) (λ l its. known_put x is l free.0 its) (λ l other. known_other x is l other) layers once

  layers_kept : (o : Option Frame) (ks : List LayerKnown) (layers : List LayerRow) (last : Option (ℕ × ℕ)) → s.frame ≡ o → FreeAt layers slots o → Rises layer_key layers last 7 → KnowsLayers ks layers slots
      → KnowsLayers (with_found layers slot o ks) layers (with_slot slots slot s)
  layers_kept o ks layers last is free rises k = record { known = layers_by o ks layers last is free rises k.known; places = k.places; numbers = k.numbers }

  -- ---- jobs

  left_more : (j : JobRow) → has_left (with_slot slots slot s) j ≡ (has_left slots j || is_left_of j.job s)
  left_more j = any_with slots slot s past (is_left_of j.job) refl

  left_same : (j : JobRow) → is_left_of j.job s ≡ false → has_left slots j ≡ has_left (with_slot slots slot s) j
  left_same j fails = sym (left_more j ∙ ap (λ (b : Bool). has_left slots j || b) fails ∙ or_none (has_left slots j))
    where
      or_none : (b : Bool) → (b || false) ≡ b
      or_none true = refl
      or_none false = refl

  left_new : (j : JobRow) → is_left_of j.job s ≡ true → true ≡ has_left (with_slot slots slot s) j
  left_new j passes = sym (left_more j ∙ ap (λ (b : Bool). has_left slots j || b) passes ∙ or_some (has_left slots j))
    where
      or_some : (b : Bool) → (b || true) ≡ true
      or_some true = refl
      or_some false = refl

  all_same : (k : JobsKnown) (jobs : List JobRow) (next : ℕ) → ((j : JobRow) → is_left_of j.job s ≡ false) → KnowsJobs k jobs slots next → KnowsJobs k jobs (with_slot slots slot s) next
  all_same k jobs next fails h =
      record { names = h.names; finished = h.finished; finishes = h.finishes; left = h.left ∙ (λ i. map (λ (j : JobRow). left_same j (fails j) i) jobs) }

  left_by : (b : Bool) (x : Frame) (k : JobsKnown) (jobs : List JobRow) (last : Option (ℕ × ℕ)) (next : ℕ) → s.frame ≡ Some x → not (is_done_state x.state) ≡ b → Rises job_key jobs last 6 → KnowsJobs k jobs slots next
      → KnowsJobs (cond b (left_at jobs x k) k) jobs (with_slot slots slot s) next
  left_by true x k jobs last next is left rises h =
      let test = λ (j : JobRow). eqb j.job x.job in
      let turned = λ (j : JobRow) (b : Bool) (e : eqb j.job x.job ≡ b). nat_eq_equiv.symm x.job j.job ∙ e in
      record {
        names = h.names;
        finished = h.finished;
        finishes = h.finishes;
        left = ap (λ (now : List Bool). changed_at now (position_or_len test jobs) (λ _. true)) h.left
            ∙ changed_mapped test (has_left slots) (has_left (with_slot slots slot s)) (λ _. true)
            (λ j its. left_new j (ap (λ (o : Option Frame). for_some o (λ (y : Frame). eqb y.job j.job && not (is_done_state y.state))) is ∙ both_true (turned j true its) left))
            (λ j other. left_same j (ap (λ (o : Option Frame). for_some o (λ (y : Frame). eqb y.job j.job && not (is_done_state y.state))) is ∙ ap (λ (b : Bool). b && not (is_done_state x.state)) (turned j false other)))
            jobs (once_rising job_key test x.job (λ j its. eqb-true j.job x.job its) 0 jobs rises.high rises.rise);
      }
  left_by false x k jobs last next is left rises h =
      all_same k jobs next (λ j. ap (λ (o : Option Frame). for_some o (λ (y : Frame). eqb y.job j.job && not (is_done_state y.state))) is ∙ none_by (eqb x.job j.job) (not (is_done_state x.state)) left) h
    where
      none_by : (a b : Bool) → b ≡ false → (a && b) ≡ false
      none_by true b e = e
      none_by false b e = refl

  jobs_kept : (o : Option Frame) (k : JobsKnown) (jobs : List JobRow) (last : Option (ℕ × ℕ)) (next : ℕ) → s.frame ≡ o → Rises job_key jobs last 6 → KnowsJobs k jobs slots next → KnowsJobs (with_left jobs o k) jobs (with_slot slots slot s) next
  jobs_kept None k jobs last next is rises h = all_same k jobs next (λ j. ap (λ (o : Option Frame). for_some o (λ (y : Frame). eqb y.job j.job && not (is_done_state y.state))) is) h
  jobs_kept (Some x) k jobs last next is rises h = left_by (not (is_done_state x.state)) x k jobs last next is refl rises h

  -- ---- hosts

  hosts_kept : (o : Option ProcRow) (k : HostsKnown) (hosts : List HostRow) → s.proc ≡ o → OnHost hosts o → KnowsHosts k hosts slots → KnowsHosts (with_attempt o k) hosts (with_slot slots slot s)
  hosts_kept None k hosts is on h =
      record {
        names = h.names;
        cores_count = h.cores_count;
        memory_count = h.memory_count;
        cores = λ host. let weighs = ap (cores_on host) is in omega (arith, h.cores host, sum_with (λ (t : SlotRow). cores_on host t.proc) slots slot s refl, weighs);
        memory = λ host. let weighs = ap (memory_on host) is in omega (arith, h.memory host, sum_with (λ (t : SlotRow). memory_on host t.proc) slots slot s refl, weighs);
      }
  hosts_kept (Some p) k hosts is on h =
      record {
        names = h.names;
        cores_count = length-changed_at k.cores p.host (λ n. n + p.cores) ∙ h.cores_count;
        memory_count = length-changed_at k.memory p.host (λ n. n + p.memory) ∙ h.memory_count;
        cores = raised k.cores p.host p.cores (λ host. sum_by (λ (t : SlotRow). cores_on host t.proc) slots) (λ host. sum_by (λ (t : SlotRow). cores_on host t.proc) (with_slot slots slot s)) h.cores (omega (arith, on, h.cores_count))
            (λ host. sum_with (λ (t : SlotRow). cores_on host t.proc) slots slot s refl ∙ ap (λ (o : Option ProcRow). sum_by (λ (t : SlotRow). cores_on host t.proc) slots + cores_on host o) is);
        memory = raised k.memory p.host p.memory (λ host. sum_by (λ (t : SlotRow). memory_on host t.proc) slots) (λ host. sum_by (λ (t : SlotRow). memory_on host t.proc) (with_slot slots slot s)) h.memory (omega (arith, on, h.memory_count))
            (λ host. sum_with (λ (t : SlotRow). memory_on host t.proc) slots slot s refl ∙ ap (λ (o : Option ProcRow). sum_by (λ (t : SlotRow). memory_on host t.proc) slots + memory_on host o) is);
      }

  -- ---- slots

  stands_by : (o : Option Frame) (layers : List LayerRow) → s.frame ≡ o → FreeAt layers slots o → slot_stands layers s ≡ true
  stands_by None layers is free = rw is refl
  stands_by (Some x) layers is free = rw is free.1

  slots_kept : (layers : List LayerRow) (last : Option (ℕ × ℕ)) → slot < SLOT_LIMIT → FreeAt layers slots s.frame → KnowsSlots slots layers last → KnowsSlots (with_slot slots slot s) layers (Some (8, slot))
  slots_kept layers last below free k =
      let long = slots_long slots slot s past in
      record {
        few = omega (arith, long, below);
        until = rw long (until_id 8 slot);
        stand = all_with slots slot s past (slot_stands layers) refl k.stand (stands_by s.frame layers refl free);
      }

module _ (t : Told) (h : HostsKnown) (j : JobsKnown) (l : List LayerKnown) (k : KnowsTold t h j l) where
  -- after a frame
  pub frame_kept : (r : FrameRow) → comes_after t.last (8, r.slot) ≡ true → slot_fits t.farm r ≡ true
      → KnowsTold (told_with t (row.Frame r)) (with_attempt (slot_row t.farm r).proc h) (with_left t.farm.jobs (slot_row t.farm r).frame j) (with_found t.farm.layers r.slot (slot_row t.farm r).frame l)
  frame_kept r after fits =
      let s = slot_row t.farm r in
      let slots = t.farm.slots in
      let past : length slots ≤ r.slot = k.of_slots.until r.slot after in
      let parts = slot_parts t.farm r fits in
      let free = free_at t.farm r.slot r.version r.frame parts.taken in
      let on = host_of t.farm r.slot r.version r.frame parts.taken in
      record {
        of_subs = k.of_subs;
        of_hosts = hosts_kept slots r.slot s past s.proc h t.farm.hosts refl on k.of_hosts;
        of_jobs = jobs_kept slots r.slot s past s.frame j t.farm.jobs t.last t.farm.next_finish refl k.jobs_rise k.of_jobs;
        jobs_rise = rises_kept job_key t.farm.jobs t.last (8, r.slot) 6 after k.jobs_rise;
        of_layers = layers_kept slots r.slot s past s.frame l t.farm.layers t.last refl free k.layers_rise k.of_layers;
        layers_rise = rises_kept layer_key t.farm.layers t.last (8, r.slot) 7 after k.layers_rise;
        of_slots = slots_kept slots r.slot s past t.farm.layers t.last parts.within free k.of_slots;
      }

  -- the same of the slot that the row says
  pub frame_kept_as : (r : FrameRow) → comes_after t.last (8, r.slot) ≡ true → slot_fits t.farm r ≡ true → (s : SlotRow) → s ≡ slot_row t.farm r
      → KnowsTold (record { last = Some (8, r.slot); farm = record t.farm { slots = with_slot t.farm.slots r.slot s }; format = t.format }) (with_attempt s.proc h) (with_left t.farm.jobs s.frame j) (with_found t.farm.layers r.slot s.frame l)
  frame_kept_as r after fits s is =
      subst (λ (u : SlotRow). KnowsTold (record { last = Some (8, r.slot); farm = record t.farm { slots = with_slot t.farm.slots r.slot u }; format = t.format }) (with_attempt u.proc h) (with_left t.farm.jobs u.frame j) (with_found t.farm.layers r.slot u.frame l))
      (sym is) (frame_kept r after fits)

  -- the sums that are kept stay numbers of 64 bits with an attempt that has room
  pub room_known : (o : Option ProcRow) → HasRoom t.farm o → IfSome o (λ (p : ProcRow). (total_at h.cores p.host + p.cores < 2 ^ 64) × (total_at h.memory p.host + p.memory < 2 ^ 64))
  room_known None room = tt
  room_known (Some p) room =
      (subst (λ (n : ℕ). n + p.cores < 2 ^ 64) (sym (k.of_hosts.cores p.host)) room.0, subst (λ (n : ℕ). n + p.memory < 2 ^ 64) (sym (k.of_hosts.memory p.host)) room.1)
