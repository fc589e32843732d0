-- Depends that come and go keep what a farm keeps that isn't settled yet.
use Rattle.std.proofs.Common.{◌≡◌, ◌≤◌, ℕ, ◌+◌, Bool, true, false, cond, ◌&&◌, ◌||◌, not, eqb, leb, List, [], ◌∷◌, ◌++◌, map, length, Option, Some, None, refl, ap, sym, subst, ◌∙◌, arith, length-append}
use Rattle.std.specs.Prelude.{ℤ, pos, negsuc, int_le}
use Rattle.std.specs.List.{AllByRecursion, filter, find, list_all, list_any, position_or_len, slice_get, sum_by}
use Rattle.std.specs.Option.{is_none, is_some}
use Rattle.std.specs.Cmp.Derive.{both_true}
use Rattle.std.proofs.lemmas.Bool.{and_left, eqb-true, le-leb, leb-true, ne_eqb, not-false, not_from_false, not_from_true, or_right, true≢false}
use Rattle.std.proofs.lemmas.List.{length-map}
use Rattle.std.proofs.lemmas.List.Folds.{find_at, list_all-map}
use Rattle.std.proofs.lemmas.List.Sums.{sum_by-append}
use Rattle.farm_types.specs.declared.depend.DependRow.{DependRow}
use Rattle.farm_types.specs.declared.depend.DependSpec.{DependSpec}
use Rattle.farm_types.specs.declared.depend.Group.{Group}
use Rattle.farm_types.specs.declared.depend.MetRow.{MetRow}
use Rattle.farm_types.specs.declared.depend.Place.{Place}
use Rattle.farm_types.specs.declared.slot_row.SlotRow.{SlotRow}
use Rattle.farm_types.specs.Booking.{is_waiting}
use Rattle.farm_types.specs.DependActs.{add_depend, add_depends, depend_refusal, depends_refusal, dropped, end_of, is_running, new_depend, new_groups, satisfied_row, waits_for_itself}
use Rattle.farm_types.specs.Depends.{groups_left, groups_of, is_met, is_open, waits_in}
use Rattle.farm_types.specs.declared.depend.DependEnd.{DependEnd}
use Rattle.farm_types.specs.declared.limits.TheConstants.{LAST_JOB}
use Rattle.farm_types.specs.declared.rows.JobRow.{JobRow}
use Rattle.farm_types.specs.Farm.{Farm, for_some, layers_of}
use Rattle.farm_types.specs.Forms.{is_between, is_frame_number}
use Rattle.farm_types.specs.Formed.{IsFormedDepend, IsFormedPlace, is_frame_named, names_frame, names_layer, names_target_frame, names_target_layer}
use Rattle.farm_types.specs.Kept.{has_no_self_depend, has_part, is_end_there, is_formed_depend, is_formed_end, is_given, is_kept_depend, is_number_named, is_of_pending, is_pending_job}
use Rattle.farm_types.specs.Rising.{IsRising, depend_key, job_key}
use Rattle.farm_types.proofs.Lists.{and_both, for_some_true, found_is, list_all-at, list_all-from_at}
use Rattle.farm_types.proofs.Passes.{for_some-there}
use Rattle.farm_law.proofs.KeptJobsLists.{rising-append, rising_below}
use Rattle.farm_law.proofs.KeptLists.{list_all-each, list_all-more, list_all-weaker}
use Rattle.farm_law.proofs.KeptRuns.{neither}
use Rattle.depend_law.proofs.Accepted.{Accepted, accepted, waits_in_none}
use Rattle.depend_law.proofs.Among.{rising_above}
use Rattle.depend_law.proofs.Fewer.{rising-map, sum_by-map-less}
use Rattle.depend_law.proofs.Marks.{marks}
use Rattle.depend_law.proofs.Stable.{is_open_in, open_in_satisfied}
use Rattle.depend_law.specs.Unsettled.{Unsettled, WaitingOpen}

-- ---- a depend that comes

given : {X : Type 0} (flag : Bool) (part : Option X) → is_some part ≡ flag → is_given flag part ≡ true
given true part is = is
given false part is = ap not is

-- a number that a frame may have is one of 32 bits with a sign
number_within : (z : ℤ) → is_frame_number z ≡ true → (int_le (negsuc 2147483647) z && int_le z (pos 2147483647)) ≡ true
number_within (pos n) h = let both = and_both (int_le (negsuc 9999998) (pos n)) (leb n 9999999) h in le-leb n 2147483647 (omega (arith, leb-true n 9999999 both.1))
number_within (negsuc n) h =
    let both = and_both (leb n 9999998) (int_le (negsuc n) (pos 9999999)) h in
    both_true (le-leb n 2147483647 (omega (arith, leb-true n 9999998 both.0))) refl

number_named : (o : Option ℤ) → is_frame_named o ≡ true → is_number_named o ≡ true
number_named None h = refl
number_named (Some number) h = number_within number h

-- an end that has its form as it is asked for has it as it is recorded
end_formed : (layered framed : Bool) (p : Place) (job : ℕ) → is_between 1 LAST_JOB job ≡ true → IsFormedPlace layered framed p → is_formed_end layered framed (record { job = job; layer = p.layer; frame = p.frame }) ≡ true
end_formed layered framed p job numbered formed =
    both_true numbered (both_true (given layered p.layer formed.layer) (both_true formed.layer_name (both_true (given framed p.frame formed.frame) (number_named p.frame formed.frame_named))))

-- jobs in the order of their numbers, up to the last one
pub record AreNumbered (f : Farm) : Type 0 where
  pub rise : IsRising job_key 1 f.jobs f.next_job
  pub next_within : f.next_job ≤ LAST_JOB + 1

-- the job of an end that is there has such a number
end_numbered : (f : Farm) → AreNumbered f → (e : DependEnd) → is_end_there f e ≡ true → is_between 1 LAST_JOB e.job ≡ true
end_numbered f jobs e there =
    let wanted : JobRow → Bool = λ (j : JobRow). eqb j.job e.job in
    let pending = (and_both (is_of_pending f.jobs e.job) (has_part (layers_of f.layers e.job) e.layer e.frame) there).0 in
    let j = for_some_true (find wanted f.jobs) is_pending_job pending in
    let at : slice_get f.jobs (position_or_len wanted f.jobs) ≡ Some j.0 = sym (find_at wanted f.jobs) ∙ j.1 in
    let above = rising_above job_key 1 f.jobs f.next_job (position_or_len wanted f.jobs) j.0 jobs.rise at in
    let below = rising_below job_key 1 f.jobs f.next_job (position_or_len wanted f.jobs) j.0 jobs.rise at in
    let number : j.0.job ≡ e.job = eqb-true j.0.job e.job (found_is wanted f.jobs j.0 j.1) in
    both_true (le-leb 1 e.job (omega (arith, above, number))) (le-leb e.job LAST_JOB (omega (arith, below, number, jobs.next_within)))

module _ (f : Farm) (spec : DependSpec) where
  groups_added : groups_of (add_depend f spec) ≡ groups_of f
  unfolding groups_of
  groups_added = refl

  left_added : groups_left (add_depend f spec) ≡ groups_left f + length (new_groups f spec)
  left_added =
      let weight = λ (d : DependRow). cond d.met_all 0 (length (groups_of f d)) in
      let alone : 0 + length (new_groups f spec) ≡ length (new_groups f spec) = omega arith in
      ap (λ (groups : DependRow → List Group). sum_by (λ (d : DependRow). cond d.met_all 0 (length (groups d))) (f.depends ++ new_depend f spec ∷ [])) groups_added
      ∙ sum_by-append weight f.depends (new_depend f spec ∷ [])
      ∙ ap (λ (n : ℕ). groups_left f + n) alone

  -- what was open stays open, where the frame waits in none of the new groups
  open_added : (slot : ℕ) → is_open f slot ≡ true → ((n : ℕ) (g : Group) → slice_get (new_groups f spec) n ≡ Some g → waits_in slot g ≡ false) → is_open (add_depend f spec) slot ≡ true
  open_added slot open_now none =
      ap (λ (groups : DependRow → List Group). list_all (λ d. list_all (λ g. is_met f d g || not (waits_in slot g)) (groups d)) (f.depends ++ new_depend f spec ∷ [])) groups_added
      ∙ list_all-more (is_open_in f slot) f.depends (new_depend f spec) open_now
      (list_all-from_at (λ g. is_met f (new_depend f spec) g || not (waits_in slot g)) (new_groups f spec) (λ n g at. or_right _ _ (not_from_false (waits_in slot g) (none n g at))))

  module _ (jobs : AreNumbered f) (k : Unsettled f) (formed : IsFormedDepend spec) (taken : Accepted f spec) where
    runs_open : (slot : ℕ) (s : SlotRow) (b : Bool) → slice_get f.slots slot ≡ Some s → for_some s.frame (λ x. is_running x.state) ≡ b → (b && not (is_open f slot)) ≡ false → (b && not (is_open (add_depend f spec) slot)) ≡ false
    runs_open slot s false at is open_now = refl
    runs_open slot s true at is open_now =
        let running = for_some-there (slice_get f.slots slot) (λ (x : SlotRow). for_some x.frame (λ y. is_running y.state)) s at is in
        not_from_true (is_open (add_depend f spec) slot)
        (open_added slot (not-false (is_open f slot) open_now) (waits_in_none f.slots slot running (new_groups f spec) taken.still))

    selfs_added : list_all (has_no_self_depend (add_depend f spec)) (f.depends ++ new_depend f spec ∷ []) ≡ true
    selfs_added =
        ap (λ (groups : DependRow → List Group). list_all (λ (d : DependRow). d.met_all || is_none (waits_for_itself (groups d))) (f.depends ++ new_depend f spec ∷ [])) groups_added
        ∙ list_all-more (has_no_self_depend f) f.depends (new_depend f spec) k.no_self_depends (ap is_none taken.apart)

    new_formed : is_formed_depend (new_depend f spec) ≡ true
    new_formed =
        both_true (end_formed (names_layer spec.kind) (names_frame spec.kind) spec.waiter (end_of f spec.waiter).job (end_numbered f jobs (end_of f spec.waiter) taken.waiter) formed.waiter)
        (end_formed (names_target_layer spec.kind) (names_target_frame spec.kind) spec.target (end_of f spec.target).job (end_numbered f jobs (end_of f spec.target) taken.target) formed.target)

    added_keeps : Unsettled (add_depend f spec)
    added_keeps =
        record {
          next_within = omega (arith, taken.room.number);
          rise = rising-append depend_key 1 f.next_depend (f.next_depend + 1) f.depends (new_depend f spec ∷ []) k.rise (omega arith, omega arith);
          count = omega (arith, taken.room.depends, length-append f.depends (new_depend f spec ∷ []));
          groups_within = omega (arith, left_added, taken.room.groups_within);
          formed = list_all-more is_formed_depend f.depends (new_depend f spec) k.formed new_formed;
          ends_there = list_all-more (is_kept_depend f) f.depends (new_depend f spec) k.ends_there (both_true taken.waiter taken.target);
          no_self_depends = selfs_added;
          running_open = λ slot s at. runs_open slot s (for_some s.frame (λ x. is_running x.state)) at refl (k.running_open slot s at);
        }

-- a depend that isn't refused
pub add_keeps : (f : Farm) (spec : DependSpec) → AreNumbered f → IsFormedDepend spec → depend_refusal f spec ≡ None → Unsettled f → Unsettled (add_depend f spec)
add_keeps f spec jobs formed none k = added_keeps f spec jobs k formed (accepted f spec jobs.rise none)

-- depends in turn
pub adds_keep : (f : Farm) (specs : List DependSpec) → AreNumbered f → AllByRecursion IsFormedDepend specs → depends_refusal f specs ≡ None → Unsettled f → Unsettled (add_depends f specs)
adds_keep f [] jobs formed none k = k
adds_keep f (spec ∷ specs) jobs formed none k =
    let both = neither (depend_refusal f spec) (depends_refusal (add_depend f spec) specs) none in
    adds_keep (add_depend f spec) specs (record { rise = jobs.rise; next_within = jobs.next_within }) formed.1 both.1 (add_keeps f spec jobs formed.0 both.0 k)

-- ---- a depend that goes

module _ (f : Farm) (depend : ℕ) where
  groups_dropped : groups_of (dropped f depend) ≡ groups_of f
  unfolding groups_of
  groups_dropped = refl

  -- marks of other depends stay
  mark_stays : (d : DependRow) (g : Group) (m : MetRow) (rest : List MetRow) (b : Bool) → eqb m.depend depend ≡ b → eqb d.depend depend ≡ false → list_any (marks d g) (filter (λ (r : MetRow). not (eqb r.depend depend)) rest) ≡ list_any (marks d g) rest
      → list_any (marks d g) (cond (not b) (m ∷ filter (λ (r : MetRow). not (eqb r.depend depend)) rest) (filter (λ (r : MetRow). not (eqb r.depend depend)) rest)) ≡ list_any (marks d g) (m ∷ rest)
  mark_stays d g m rest false is other later = ap (λ (b : Bool). marks d g m || b) later
  mark_stays d g m rest true is other later =
      let apart : eqb m.depend d.depend ≡ false = ne_eqb m.depend d.depend (λ same. true≢false (sym is ∙ (ap (λ (n : ℕ). eqb n depend) same ∙ other))) in
      later ∙ sym (ap (λ (b : Bool). b || list_any (marks d g) rest) (and_left _ _ apart))

  pub marks_stay : (d : DependRow) (g : Group) → eqb d.depend depend ≡ false → (rows : List MetRow) → list_any (marks d g) (filter (λ (r : MetRow). not (eqb r.depend depend)) rows) ≡ list_any (marks d g) rows
  marks_stay d g other [] = refl
  marks_stay d g other (m ∷ ms) = mark_stays d g m ms (eqb m.depend depend) refl other (marks_stay d g other ms)

  -- no frame waits in the depend, and in others as before
  open_in_dropped : (slot : ℕ) (d : DependRow) (b : Bool) → eqb d.depend depend ≡ b → is_open_in f slot d ≡ true → is_open_in (dropped f depend) slot (cond b (record d { met_all = true }) d) ≡ true
  open_in_dropped slot d true is open_now = open_in_satisfied (dropped f depend) slot (record d { met_all = true }) refl
  open_in_dropped slot d false is open_now =
      ap (λ (groups : DependRow → List Group). list_all (λ g. is_met (dropped f depend) d g || not (waits_in slot g)) (groups d)) groups_dropped
      ∙ list_all-from_at (λ g. is_met (dropped f depend) d g || not (waits_in slot g)) (groups_of f d)
      (λ n g at.
      ap (λ (b : Bool). d.met_all || b || not (waits_in slot g)) (marks_stay d g is f.met)
      ∙ list_all-at (λ g. is_met f d g || not (waits_in slot g)) (groups_of f d) n g open_now at)

  open_dropped : (slot : ℕ) → is_open f slot ≡ true → is_open (dropped f depend) slot ≡ true
  open_dropped slot open_now =
      list_all-map (is_open_in (dropped f depend) slot) (satisfied_row depend) f.depends
      ∙ list_all-weaker (is_open_in f slot) (λ d. is_open_in (dropped f depend) slot (satisfied_row depend d)) (λ d. open_in_dropped slot d (eqb d.depend depend) refl) f.depends open_now

  still_free : (state was_open : Bool) (slot : ℕ) → is_open f slot ≡ was_open → (state && not was_open) ≡ false → (state && not (is_open (dropped f depend) slot)) ≡ false
  still_free false was_open slot is h = refl
  still_free true true slot is h = not_from_true (is_open (dropped f depend) slot) (open_dropped slot is)
  still_free true false slot is h = absurd (true≢false h)

  satisfied_key : (d : DependRow) (b : Bool) → depend_key (cond b (record d { met_all = true }) d) ≡ depend_key d
  satisfied_key d true = refl
  satisfied_key d false = refl

  satisfied_left : (d : DependRow) (b : Bool) → cond (cond b (record d { met_all = true }) d).met_all 0 (length (groups_of f (cond b (record d { met_all = true }) d))) ≤ cond d.met_all 0 (length (groups_of f d))
  satisfied_left d true = omega arith
  satisfied_left d false = omega arith

  satisfied_there : (d : DependRow) (b : Bool) → is_kept_depend f d ≡ true → is_kept_depend f (cond b (record d { met_all = true }) d) ≡ true
  satisfied_there d true h = both_true (and_both (is_end_there f d.waiter) (d.met_all || is_end_there f d.target) h).0 refl
  satisfied_there d false h = h

  satisfied_self : (d : DependRow) (b : Bool) → has_no_self_depend f d ≡ true → has_no_self_depend f (cond b (record d { met_all = true }) d) ≡ true
  satisfied_self d true h = refl
  satisfied_self d false h = h

  satisfied_formed : (d : DependRow) (b : Bool) → is_formed_depend d ≡ true → is_formed_depend (cond b (record d { met_all = true }) d) ≡ true
  satisfied_formed d true h = h
  satisfied_formed d false h = h

  left_dropped : groups_left (dropped f depend) ≤ groups_left f
  left_dropped =
      let fewer = sum_by-map-less (λ (d : DependRow). cond d.met_all 0 (length (groups_of f d))) (λ (d : DependRow). cond d.met_all 0 (length (groups_of f d))) (satisfied_row depend) (λ d. satisfied_left d (eqb d.depend depend)) f.depends in
      subst (λ (groups : DependRow → List Group). sum_by (λ (d : DependRow). cond d.met_all 0 (length (groups d))) (map (satisfied_row depend) f.depends) ≤ groups_left f) (sym groups_dropped) fewer

  pub drop_keeps : Unsettled f → Unsettled (dropped f depend)
  drop_keeps k =
      record {
        next_within = k.next_within;
        rise = rising-map depend_key (satisfied_row depend) (λ d. satisfied_key d (eqb d.depend depend)) 1 f.depends f.next_depend k.rise;
        count = omega (arith, k.count, length-map f.depends (satisfied_row depend));
        groups_within = omega (arith, left_dropped, k.groups_within);
        formed = list_all-each is_formed_depend (satisfied_row depend) (λ d. satisfied_formed d (eqb d.depend depend)) f.depends k.formed;
        ends_there = list_all-each (is_kept_depend f) (satisfied_row depend) (λ d. satisfied_there d (eqb d.depend depend)) f.depends k.ends_there;
        no_self_depends = ap (λ (groups : DependRow → List Group). list_all (λ (d : DependRow). d.met_all || is_none (waits_for_itself (groups d))) (map (satisfied_row depend) f.depends)) groups_dropped
            ∙ list_all-each (has_no_self_depend f) (satisfied_row depend) (λ d. satisfied_self d (eqb d.depend depend)) f.depends k.no_self_depends;
        running_open = λ slot s at. still_free (for_some s.frame (λ x. is_running x.state)) (is_open f slot) slot refl (k.running_open slot s at);
      }

  pub drop_leaves_open : WaitingOpen f → WaitingOpen (dropped f depend)
  drop_leaves_open waiting slot s at = still_free (for_some s.frame (λ x. is_waiting x.state)) (is_open f slot) slot refl (waiting slot s at)
