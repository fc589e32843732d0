-- A depend that is asked for: what follows makes the farm after it, and counts the frames that wait by it unmet.
use Rattle.std.proofs.Common.{◌≡◌, ℕ, suc, Bool, true, false, cond, eqb, ◌&&◌, not, List, [], ◌∷◌, ◌++◌, map, length, Option, Some, None, refl, ap, sym, ◌∙◌, arith, append-nil, length-append}
use Rattle.std.specs.Prelude.{nat_eq}
use Rattle.std.specs.List.{IsDistinct, filter, slice_get, sum_by}
use Rattle.std.proofs.lemmas.Bool.{eq-eqb, eqb-true, ne_eqb}
use Rattle.std.proofs.lemmas.List.Sums.{sum_by-cons}
use Rattle.std.proofs.lemmas.Map.Views.{any-filter_same}
use Rattle.farm_types.specs.declared.depend.DependRow.{DependRow}
use Rattle.farm_types.specs.declared.depend.DependSpec.{DependSpec}
use Rattle.farm_types.specs.declared.depend.Group.{Group}
use Rattle.farm_types.specs.declared.depend.Place.{Place}
use Rattle.farm_types.specs.declared.slot_row.SlotRow.{SlotRow}
use Rattle.farm_types.specs.Booking.{is_waiting}
use Rattle.farm_types.specs.DependActs.{add_depend, after_depend, depend_at, depend_refusal, end_of, new_depend, new_groups, place_refusal, unmet_in, unmet_of}
use Rattle.farm_types.specs.Depends.{groups_in, groups_of, is_met}
use Rattle.farm_types.specs.Farm.{Farm, for_some}
use Rattle.farm_types.specs.Formed.{IsFormedDepend}
use Rattle.farm_types.specs.Kept.{IsKeptFarm, KeepsRows, is_end_there}
use Rattle.farm_types.specs.Rising.{depend_key}
use Rattle.farm_types.specs.Settle.{settle, settled_row}
use Rattle.farm_law.proofs.KeptJobsLists.{find_none, found_later, rising_below}
use Rattle.depend_law.proofs.Accepted.{accepted, end_accepted}
use Rattle.depend_law.proofs.Among.{Among, among_cons, among_none, among_right, among_skip, among_then}
use Rattle.depend_law.proofs.GroupSlots.{all_waiters}
use Rattle.depend_law.proofs.Turns.{on_frame}
use Rattle.depend_law.proofs.Waiters.{depend_holds}
use Rattle.depend_book.specs.declared.new_depend.NewDepend.{NewDepend}
use Rattle.farm_depends.specs.Coming.{follow_added, is_unmet, unmet_waiters, waiters_of, waits_at}
use Rattle.farm_depends.specs.Follow.{after_follow, coming, is_listed, row_for}
use Rattle.farm_depends.proofs.ComingLemmas.Blocking.{came_blocked, came_settled}
use Rattle.farm_depends.proofs.ComingLemmas.OpenWith.{AreOwn, groups_now_row, new_met}
use Rattle.farm_depends.proofs.ComingLemmas.WithRow.{met_with, numbered_kept, numbered_met, row_now, with_now}

-- an end that isn't refused is there
pub place_there : (f : Farm) → KeepsRows f → (p : Place) → place_refusal f p ≡ None → is_end_there f (end_of f p) ≡ true
place_there f rows p accepted = end_accepted f rows.jobs.jobs_rise p accepted

-- ---- the frames that wait

pub filter_among : (test : ℕ → Bool) (xs : List ℕ) → Among (filter test xs) xs
filter_among test [] = among_none []
filter_among test (x ∷ xs) = step (test x) (filter_among test xs)
  where
    step : (b : Bool) → Among (filter test xs) xs → Among (cond b (x ∷ filter test xs) (filter test xs)) (x ∷ xs)
    step true later = among_cons x (filter test xs) xs later
    step false later = among_skip x (filter test xs) xs later

among_after : (xs us vs : List ℕ) → Among us vs → Among (xs ++ us) (xs ++ vs)
among_after [] us vs some = some
among_after (x ∷ xs) us vs some = among_cons x (xs ++ us) (xs ++ vs) (among_after xs us vs some)

-- those of some of the groups are some of those of all
pub waiters_among : (test : Group → Bool) (gs : List Group) → Among (waiters_of (filter test gs)) (all_waiters gs)
waiters_among test [] = among_none []
waiters_among test (g ∷ gs) = step (test g) (waiters_among test gs)
  where
    step : (b : Bool) → Among (waiters_of (filter test gs)) (all_waiters gs) → Among (waiters_of (cond b (g ∷ filter test gs) (filter test gs))) (g.waiters ++ all_waiters gs)
    step true later = among_after g.waiters (waiters_of (filter test gs)) (all_waiters gs) later
    step false later = among_then (waiters_of (filter test gs)) (all_waiters gs) (g.waiters ++ all_waiters gs) later (among_right g.waiters (all_waiters gs))

-- how many they are
waiters_count : (gs : List Group) → length (waiters_of gs) ≡ sum_by (λ (g : Group). length g.waiters) gs
waiters_count [] = refl
waiters_count (g ∷ gs) =
    omega (arith, length-append g.waiters (waiters_of gs), waiters_count gs, sum_by-cons (λ (h : Group). length h.waiters) g gs)

filter-alike : (p q : Group → Bool) (gs : List Group) → ((n : ℕ) (g : Group) → slice_get gs n ≡ Some g → p g ≡ q g) → filter p gs ≡ filter q gs
filter-alike p q [] same = refl
filter-alike p q (g ∷ gs) same =
    ap (λ (b : Bool). cond b (g ∷ filter p gs) (filter p gs)) (same 0 g refl) ∙ ap (λ (hs : List Group). cond (q g) (g ∷ hs) hs) (filter-alike p q gs (λ n h at. same (suc n) h at))

-- the frame in the slot waits
waits_there : (slots : List SlotRow) (i : ℕ) (s : SlotRow) → slice_get slots i ≡ Some s → waits_at slots i ≡ on_frame is_waiting s.frame
waits_there slots i s at = ap (λ (o : Option SlotRow). for_some o (λ (r : SlotRow). for_some r.frame (λ x. is_waiting x.state))) at

-- ---- a depend

pub own_coming : (f : Farm) (spec : DependSpec) → (coming f spec).groups ≡ groups_in f.layers f.slots (row_for 0 (coming f spec))
unfolding groups_of
own_coming f spec = refl

module _ (f : Farm) (spec : DependSpec) (kept : IsKeptFarm f) (formed : IsFormedDepend spec) (allowed : depend_refusal f spec ≡ None) where
  abbrev one : NewDepend
  one = coming f spec

  own : AreOwn f.layers f.slots (one ∷ [])
  own = (own_coming f spec, tt)

  -- no frame waits in it twice
  waiters_differ : IsDistinct nat_eq (unmet_waiters f spec)
  waiters_differ =
      let taken = accepted f spec kept.rows.jobs.jobs_rise allowed in
      (waiters_among (is_unmet f.slots) (new_groups f spec)).differ (depend_holds f kept.rows (new_depend f spec) taken.waiter taken.target).all.differ

  listed : (i : ℕ) (s : SlotRow) → slice_get f.slots i ≡ Some s → is_listed (filter (waits_at f.slots) (unmet_waiters f spec)) i ≡ (on_frame is_waiting s.frame && is_listed (unmet_waiters f spec ++ []) i)
  listed i s at =
      any-filter_same (λ n. eqb n i) (waits_at f.slots) (waits_at f.slots i) (λ n is. ap (waits_at f.slots) (eqb-true n i is)) (unmet_waiters f spec)
      ∙ λ j. waits_there f.slots i s at j && is_listed (sym (append-nil (unmet_waiters f spec)) j) i

  -- the frames that it blocks are those that aren't open then
  pub added_farm : after_follow f (follow_added f spec) ≡ after_depend f spec
  added_farm =
      came_blocked f kept.depends (one ∷ []) own true (filter (waits_at f.slots) (unmet_waiters f spec))
      ((filter_among (waits_at f.slots) (unmet_waiters f spec)).differ waiters_differ) listed

  -- ---- how many wait

  not_it : (i : ℕ) (d : DependRow) → slice_get (map (settled_row f) f.depends) i ≡ Some d → eqb d.depend f.next_depend ≡ false
  not_it i d at =
      let below = rising_below depend_key 1 (map (settled_row f) f.depends) f.next_depend i d (numbered_met f kept.depends.rise).rise at in
      ne_eqb d.depend f.next_depend (λ e. absurd (omega (arith, below, e)))

  found_now : depend_at (with_now f one) f.next_depend ≡ Some (row_now f one)
  found_now =
      found_later (λ (d : DependRow). eqb d.depend f.next_depend) (map (settled_row f) f.depends) (row_now f one ∷ [])
      (find_none (λ (d : DependRow). eqb d.depend f.next_depend) (map (settled_row f) f.depends) not_it)
      ∙ ap (λ (b : Bool). cond b (Some (row_now f one)) None) (eq-eqb f.next_depend f.next_depend refl)

  left_now : unmet_in (with_now f one) (Some (row_now f one)) ≡ length (unmet_waiters f spec)
  left_now =
      let numbered = numbered_kept f kept.depends.rise kept.depends.met in
      ap (λ (gs : List Group). sum_by (λ (g : Group). length g.waiters) (filter (λ g. not (is_met (with_now f one) (row_now f one) g)) gs)) (groups_now_row f numbered one)
      ∙ (ap (sum_by (λ (g : Group). length g.waiters))
      (filter-alike (λ g. not (is_met (with_now f one) (row_now f one) g)) (is_unmet f.slots) (new_groups f spec) (λ i g at. ap not (new_met f numbered one i g at)))
      ∙ sym (waiters_count (filter (is_unmet f.slots) (new_groups f spec))))

  count_now : unmet_of (with_now f one) f.next_depend ≡ length (unmet_waiters f spec)
  unfolding unmet_of
  count_now = ap (unmet_in (with_now f one)) found_now ∙ left_now

  -- the frames that wait by it unmet
  pub added_count : length (unmet_waiters f spec) ≡ unmet_of (settle (add_depend f spec)) f.next_depend
  added_count =
      sym (ap (λ (g : Farm). unmet_of g f.next_depend) (came_settled f kept.depends (one ∷ []) own ∙ met_with f one (numbered_kept f kept.depends.rise kept.depends.met)) ∙ count_now)
