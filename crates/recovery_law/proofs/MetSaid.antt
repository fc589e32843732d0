-- Exactly the groups are marked that are met, once nothing is at fault: the rows of met groups are those of the groups that are met now.
use Rattle.std.proofs.Common.{◌≡◌, ◌≤◌, ℕ, ℤ, suc, zero, ◌+◌, ◌*◌, Bool, true, false, cond, ◌&&◌, ◌||◌, not, eqb, leb, List, [], ◌∷◌, ◌++◌, map, length, Some, refl, sym, ap, subst, ◌∙◌, arith, inl, inr}
use Rattle.std.specs.Prelude.{slice_get, is_some}
use Rattle.std.specs.List.{filter, find, list_all, list_any}
use Rattle.std.specs.Cmp.Derive.{both_true}
use Rattle.std.proofs.lemmas.Bool.{eq-eqb, eqb-true, false≢true, leb-true, not-true, or_left, or_parts, or_right}
use Rattle.std.proofs.lemmas.List.{length-append}
use Rattle.std.proofs.lemmas.List.Sums.{sum_by-cons}
use Rattle.std.proofs.lemmas.Option.{none-some, same_Some}
use Rattle.farm_types.specs.declared.depend.DependRow.{DependRow}
use Rattle.farm_types.specs.declared.depend.Group.{Group}
use Rattle.farm_types.specs.declared.depend.MetRow.{MetRow}
use Rattle.farm_types.specs.declared.limits.TheConstants.{MOST_FRAMES, MOST_LAYERS}
use Rattle.farm_types.specs.declared.rows.JobRow.{JobRow}
use Rattle.farm_types.specs.declared.rows.LayerRow.{LayerRow}
use Rattle.farm_types.specs.declared.slot_row.SlotRow.{SlotRow}
use Rattle.farm_types.specs.DependActs.{waits_for_itself}
use Rattle.farm_types.specs.Depends.{are_done, groups_of, is_done, is_marked, is_met, layer_shape, shape_of, slots_placed}
use Rattle.farm_types.specs.Farm.{Farm, layers_of}
use Rattle.farm_types.specs.Groups.{all_slots, part_at}
use Rattle.farm_types.specs.Kept.{KeepsDepends, KeepsRows, frames_said, has_no_self_depend, is_end_there, is_formed_job, is_kept_depend, is_of_pending, is_pending_job}
use Rattle.farm_types.specs.Ranges.{range_numbers}
use Rattle.farm_types.specs.Rising.{IsRising, depend_key}
use Rattle.farm_types.specs.Settle.{is_met_now, met_row, met_rows, met_rows_of, settled_row, with_met}
use Rattle.farm_types.proofs.Lists.{and_both, for_some_true, found_is, list_all-at, list_all-from_at}
use Rattle.farm_law.proofs.Filtered.{rising-filter}
use Rattle.farm_law.proofs.KeptJobsAdded.{in_either}
use Rattle.farm_law.proofs.KeptJobsFormed.{job_formed}
use Rattle.farm_law.proofs.KeptJobsLists.{any_fails, rising-append, rising_below, rising_lower}
use Rattle.depend_law.proofs.Among.{In, in_later, kept_from, rising_above}
use Rattle.depend_law.proofs.GroupSlots.{group_key, groups_among}
use Rattle.depend_law.proofs.Stable.{list_all-same}
use Rattle.farm_rows.specs.declared.farm_row.FarmRow.TheVariants as row
use Rattle.farm_rows.specs.declared.ids.TheConstants.{GROUP_IDS}
use Rattle.farm_rows.specs.Recovery.{end_is_there, groups_so_far, has_group, is_part_in, is_wrongly_marked, met_fits}
use Rattle.recovery_law.proofs.DraftDepends.{is_draft_depend}
use Rattle.recovery_law.proofs.Drafts.{Draft}
use Rattle.recovery_law.proofs.Ended.{NoFault, all_groups, any_there, depends_rise, end_there, found_in, layers_rise}
use Rattle.recovery_law.proofs.Ordered.{InOrder, rises}

-- ---- lists that rise

-- items of two lists with one first item are those behind it too
later_items : {X : Type 0} (key : X → ℕ) (a b : X) (first second : List X) (high : ℕ) → a ≡ b → IsRising key (key a + 1) first high → ((z : X) → In (a ∷ first) z → In (b ∷ second) z) → (z : X) → In first z → In second z
later_items key a b first second high same rise each z at = step (each z (in_later a first z at))
  where
    step : In (b ∷ second) z → In second z
    step (zero, here) = absurd (omega (arith, rising_above key (key a + 1) first high at.0 z rise at.1, ap key same, ap key (same_Some b z here)))
    step (suc n, here) = (n, here)

-- two lists that rise and have the same items are one
same_lists : {X : Type 0} (key : X → ℕ) (low high low' high' : ℕ) (xs ys : List X) → IsRising key low xs high → IsRising key low' ys high' → ((x : X) → In xs x → In ys x) → ((y : X) → In ys y → In xs y) → xs ≡ ys
same_lists key low high low' high' [] [] rx ry to back = refl
same_lists key low high low' high' [] (y ∷ ys) rx ry to back = absurd (none-some y (back y (0, refl)).1)
same_lists key low high low' high' (x ∷ xs) [] rx ry to back = absurd (none-some x (to x (0, refl)).1)
same_lists key low high low' high' (x ∷ xs) (y ∷ ys) rx ry to back =
    let head = heads (to x (0, refl)) (back y (0, refl)) in
    let rest = same_lists key (key x + 1) high (key y + 1) high' xs ys rx.1 ry.1 (later_items key x y xs ys high head rx.1 to) (later_items key y x ys xs high' (sym head) ry.1 back) in
    λ i. head i ∷ rest i
  where
    heads : In (y ∷ ys) x → In (x ∷ xs) y → x ≡ y
    heads (zero, at) there = sym (same_Some y x at)
    heads (suc n, at) (zero, there) = same_Some x y there
    heads (suc n, at) (suc k, there) = absurd (omega (arith, rising_above key (key y + 1) ys high' n x ry.1 at, rising_above key (key x + 1) xs high k y rx.1 there))

in_left : {X : Type 0} (xs ys : List X) (x : X) → In xs x → In (xs ++ ys) x
in_left [] ys x at = absurd (none-some x at.1)
in_left (z ∷ zs) ys x (zero, at) = (0, at)
in_left (z ∷ zs) ys x (suc n, at) = in_later z (zs ++ ys) x (in_left zs ys x (n, at))

in_right : {X : Type 0} (xs ys : List X) (x : X) → In ys x → In (xs ++ ys) x
in_right [] ys x at = at
in_right (z ∷ zs) ys x at = in_later z (zs ++ ys) x (in_right zs ys x at)

in_map : {X Y : Type 0} (make : X → Y) (xs : List X) (x : X) → In xs x → In (map make xs) (make x)
in_map make [] x at = absurd (none-some x at.1)
in_map make (z ∷ zs) x (zero, at) = (0, ap (λ v. Some (make v)) (same_Some z x at))
in_map make (z ∷ zs) x (suc n, at) = in_later (make z) (map make zs) (make x) (in_map make zs x (n, at))

from_map : {X Y : Type 0} (make : X → Y) (xs : List X) (n : ℕ) (y : Y) → slice_get (map make xs) n ≡ Some y → (x : X) × In xs x × (make x ≡ y)
from_map make [] n y at = absurd (none-some y at)
from_map make (z ∷ zs) zero y at = (z, (0, refl), same_Some (make z) y at)
from_map make (z ∷ zs) (suc n) y at = let rest = from_map make zs n y at in (rest.0, in_later z zs rest.0 rest.1, rest.2)

in_kept : {X : Type 0} (test : X → Bool) (xs : List X) (x : X) → In xs x → test x ≡ true → In (filter test xs) x
in_kept test [] x at h = absurd (none-some x at.1)
in_kept test (z ∷ zs) x (zero, at) h =
    let is : test z ≡ true = subst (λ v. test v ≡ true) (sym (same_Some z x at)) h in
    subst (λ (b : Bool). In (cond b (z ∷ filter test zs) (filter test zs)) x) (sym is) (0, at)
in_kept test (z ∷ zs) x (suc n, at) h = step (test z) (in_kept test zs x (n, at) h)
  where
    step : (b : Bool) → In (filter test zs) x → In (cond b (z ∷ filter test zs) (filter test zs)) x
    step true there = in_later z (filter test zs) x there
    step false there = there

any_in : {X : Type 0} (test : X → Bool) (xs : List X) → list_any test xs ≡ true → (x : X) × In xs x × (test x ≡ true)
any_in {X = X} test [] h = absurd (false≢true h)
any_in {X = X} test (z ∷ zs) h = step (test z) refl h (any_in test zs)
  where
    step : (b : Bool) → test z ≡ b → (b || list_any test zs) ≡ true → (list_any test zs ≡ true → (x : X) × In zs x × (test x ≡ true)) → (x : X) × In (z ∷ zs) x × (test x ≡ true)
    step true is h rest = (z, (0, refl), is)
    step false is h rest = let found = rest h in (found.0, in_later z zs found.0 found.1, found.2)

-- ---- positions

slots_long : (slots : List SlotRow) (job layer position : ℕ) (ns : List ℤ) → length (slots_placed slots job layer position ns) ≡ length ns
slots_long slots job layer position [] = refl
slots_long slots job layer position (n ∷ ns) = ap suc (slots_long slots job layer (position + 1) ns)

all_long : (slots : List SlotRow) (ls : List LayerRow) → length (all_slots (map (layer_shape slots) ls)) ≡ frames_said ls
all_long slots [] = refl
all_long slots (l ∷ ls) =
    let own = (layer_shape slots l).slots in
    omega (arith, length-append own (all_slots (map (layer_shape slots) ls)), slots_long slots l.job l.place 0 (range_numbers l.range), all_long slots ls, sum_by-cons (λ (k : LayerRow). length (range_numbers k.range)) l ls)

positions_of : (f : Farm) (d : DependRow) → length (all_slots (shape_of f d.waiter.job).layers) ≤ GROUP_IDS → IsRising group_key 0 (groups_of f d) GROUP_IDS
unfolding groups_of
positions_of f d few =
    (groups_among GROUP_IDS d.any (part_at d.waiter) (part_at d.target) (shape_of f d.waiter.job) (shape_of f d.target.job) (omega arith) few d.kind).rise

abbrev pub met_key : MetRow → ℕ
met_key m = GROUP_IDS * m.depend + m.position

rows_rise : (d : DependRow) (low : ℕ) (gs : List Group) (high : ℕ) → IsRising group_key low gs high → IsRising met_key (GROUP_IDS * d.depend + low) (map (met_row d) gs) (GROUP_IDS * d.depend + high)
rows_rise d low [] high rise = omega (arith, rise)
rows_rise d low (g ∷ gs) high rise =
    (omega (arith, rise.0), subst (λ (n : ℕ). IsRising met_key n (map (met_row d) gs) (GROUP_IDS * d.depend + high)) (omega arith) (rows_rise d (g.position + 1) gs high rise.1))

module _ (f : Farm) where
  own_rise : (d : DependRow) → IsRising group_key 0 (groups_of f d) GROUP_IDS → IsRising met_key (GROUP_IDS * d.depend) (met_rows_of f d) (GROUP_IDS * (d.depend + 1))
  own_rise d rise = by (settled_row f d).met_all
    where
      by : (b : Bool) → IsRising met_key (GROUP_IDS * d.depend) (cond b [] (map (met_row d) (filter (is_met_now f d) (groups_of f d)))) (GROUP_IDS * (d.depend + 1))
      by true = omega arith
      by false =
          subst (λ (n : ℕ). IsRising met_key (GROUP_IDS * d.depend) (map (met_row d) (filter (is_met_now f d) (groups_of f d))) n) (omega arith)
          (subst (λ (n : ℕ). IsRising met_key n (map (met_row d) (filter (is_met_now f d) (groups_of f d))) (GROUP_IDS * d.depend + GROUP_IDS)) (omega arith)
          (rows_rise d 0 (filter (is_met_now f d) (groups_of f d)) GROUP_IDS (rising-filter group_key (is_met_now f d) 0 (groups_of f d) GROUP_IDS rise)))

  all_rise : (low : ℕ) (ds : List DependRow) (high : ℕ) → IsRising depend_key low ds high → ((n : ℕ) (d : DependRow) → slice_get ds n ≡ Some d → IsRising group_key 0 (groups_of f d) GROUP_IDS)
      → IsRising met_key (GROUP_IDS * low) (met_rows f ds) (GROUP_IDS * high)
  all_rise low [] high rise each = omega (arith, rise)
  all_rise low (d ∷ ds) high rise each =
      rising_lower met_key (GROUP_IDS * low) (GROUP_IDS * d.depend) (met_rows_of f d ++ met_rows f ds) (GROUP_IDS * high) (omega (arith, rise.0))
      (rising-append met_key (GROUP_IDS * d.depend) (GROUP_IDS * (d.depend + 1)) (GROUP_IDS * high) (met_rows_of f d) (met_rows f ds) (own_rise d (each 0 d refl))
      (all_rise (d.depend + 1) ds high rise.1 (λ n e at. each (suc n) e at)))

  -- ---- which rows there are

  -- the row of a group that is met, of a depend that isn't satisfied
  record MetBy (ds : List DependRow) (m : MetRow) : Type 0 where
    depend : DependRow
    among : In ds depend
    group : Group
    of_it : In (groups_of f depend) group
    unsettled : (settled_row f depend).met_all ≡ false
    met : is_met_now f depend group ≡ true
    is : met_row depend group ≡ m

  own_by : (d : DependRow) (ds : List DependRow) (b : Bool) (m : MetRow) → (settled_row f d).met_all ≡ b → In (cond b [] (map (met_row d) (filter (is_met_now f d) (groups_of f d)))) m → MetBy (d ∷ ds) m
  own_by d ds true m is at = absurd (none-some m at.1)
  own_by d ds false m is at =
      let group = from_map (met_row d) (filter (is_met_now f d) (groups_of f d)) at.0 m at.1 in
      let kept = kept_from (is_met_now f d) (groups_of f d) group.1.0 group.0 group.1.1 in
      record { depend = d; among = (0, refl); group = group.0; of_it = kept.0; unsettled = is; met = kept.1; is = group.2 }

  met_by : (ds : List DependRow) (m : MetRow) → In (met_rows f ds) m → MetBy ds m
  met_by [] m at = absurd (none-some m at.1)
  met_by (d ∷ ds) m at =
      elim (in_either (met_rows_of f d) (met_rows f ds) at.0 m at.1) [
        | inl own ↦ own_by d ds (settled_row f d).met_all m refl (at.0, own)
        | inr rest ↦ further (met_by ds m rest)
      ]
    where
      further : MetBy ds m → MetBy (d ∷ ds) m
      further k = record { depend = k.depend; among = in_later d ds k.depend k.among; group = k.group; of_it = k.of_it; unsettled = k.unsettled; met = k.met; is = k.is }

  own_row : (d : DependRow) (g : Group) → In (groups_of f d) g → (settled_row f d).met_all ≡ false → is_met_now f d g ≡ true → In (met_rows_of f d) (met_row d g)
  own_row d g at unsettled met =
      subst (λ (b : Bool). In (cond b [] (map (met_row d) (filter (is_met_now f d) (groups_of f d)))) (met_row d g)) (sym unsettled)
      (in_map (met_row d) (filter (is_met_now f d) (groups_of f d)) g (in_kept (is_met_now f d) (groups_of f d) g at met))

  row_of : (ds : List DependRow) (d : DependRow) (g : Group) → In ds d → In (groups_of f d) g → (settled_row f d).met_all ≡ false → is_met_now f d g ≡ true → In (met_rows f ds) (met_row d g)
  row_of [] d g among at unsettled met = absurd (none-some d among.1)
  row_of (e ∷ es) d g (zero, here) at unsettled met =
      in_left (met_rows_of f e) (met_rows f es) (met_row d g) (subst (λ (x : DependRow). In (met_rows_of f x) (met_row d g)) (sym (same_Some e d here)) (own_row d g at unsettled met))
  row_of (e ∷ es) d g (suc n, here) at unsettled met = in_right (met_rows_of f e) (met_rows f es) (met_row d g) (row_of es d g (n, here) at unsettled met)

-- ---- marks

now_is : (m r : Bool) → (not m && (m || r)) ≡ false → (m || r) ≡ m
now_is true r h = refl
now_is false true h = absurd (false≢true (sym h))
now_is false false h = refl

-- the parts of the last test of a depend
record Marked (f : Farm) (d : DependRow) : Type 0 where
  same : (n : ℕ) (g : Group) → slice_get (groups_of f d) n ≡ Some g → is_met_now f d g ≡ is_met f d g
  unsettled : (settled_row f d).met_all ≡ false

marked_parts : (f : Farm) (d : DependRow) → d.met_all ≡ false → is_wrongly_marked f d ≡ false → Marked f d
marked_parts f d unmet right =
    let tests : (list_all (is_met f d) (groups_of f d) || list_any (λ (g : Group). not (is_met f d g) && is_met_now f d g) (groups_of f d)) ≡ false =
    ap (λ (b : Bool). not b && (list_all (is_met f d) (groups_of f d) || list_any (λ (g : Group). not (is_met f d g) && is_met_now f d g) (groups_of f d))) (sym unmet) ∙ right in
    let both = or_parts (list_all (is_met f d) (groups_of f d)) _ tests in
    let alike = λ (n : ℕ) (g : Group) (at : slice_get (groups_of f d) n ≡ Some g). now_is (is_met f d g) (are_done (is_done f.slots) g) (any_fails (λ (x : Group). not (is_met f d x) && is_met_now f d x) (groups_of f d) n g both.1 at) in
    record {
      same = alike;
      unsettled = ap (λ (b : Bool). b || list_all (is_met_now f d) (groups_of f d)) unmet ∙ list_all-same (is_met_now f d) (is_met f d) (groups_of f d) alike ∙ both.0;
    }

settled_by : (f : Farm) (d : DependRow) (b : Bool) → d.met_all ≡ b → is_wrongly_marked f d ≡ false → (settled_row f d).met_all ≡ d.met_all
settled_by f d true is right = ap (λ (b : Bool). b || list_all (is_met_now f d) (groups_of f d)) is ∙ sym is
settled_by f d false is right = (marked_parts f d is right).unsettled ∙ sym is

map_stays : {X : Type 0} (change : X → X) (xs : List X) → ((n : ℕ) (x : X) → slice_get xs n ≡ Some x → change x ≡ x) → map change xs ≡ xs
map_stays change [] same = refl
map_stays change (x ∷ xs) same =
    let here = same 0 x refl in
    let rest = map_stays change xs (λ n y at. same (suc n) y at) in
    λ i. here i ∷ rest i

module _ (f : Farm) (d : Draft f) (o : InOrder f) (fine : NoFault f) (rows : KeepsRows f) where
  settled_stays : (n : ℕ) (e : DependRow) → slice_get f.depends n ≡ Some e → settled_row f e ≡ e
  settled_stays n e at = ap (λ (b : Bool). record e { met_all = b }) (settled_by f e e.met_all refl (fine.marked n e at))

  -- a depend's waiting job has few frames
  positions : (n : ℕ) (e : DependRow) → slice_get f.depends n ≡ Some e → IsRising group_key 0 (groups_of f e) GROUP_IDS
  positions n e at =
      let draft = and_both (end_is_there f e.waiter) _ (list_all-at (is_draft_depend f) f.depends n e d.depends.each at) in
      let pending = and_both (is_of_pending f.jobs e.waiter.job) (is_part_in f e.waiter.job e.waiter.layer e.waiter.frame) draft.0 in
      let job = for_some_true (find (λ (j : JobRow). eqb j.job e.waiter.job) f.jobs) is_pending_job pending.0 in
      let stands = found_in (λ (j : JobRow). eqb j.job e.waiter.job) f.jobs job.0 job.1 in
      let is = eqb-true job.0.job e.waiter.job (found_is (λ (j : JobRow). eqb j.job e.waiter.job) f.jobs job.0 job.1) in
      let layered = rows.jobs.jobs_layered stands.0 job.0 stands.1 job.2 in
      let formed = job_formed (length f.shows) job.0 (list_all-at (is_formed_job (length f.shows)) f.jobs stands.0 job.0 d.jobs.formed stands.1) in
      let few = leb-true job.0.frames MOST_FRAMES (and_both (leb 1 job.0.frames) (leb job.0.frames MOST_FRAMES) formed.frames).1 in
      let said : frames_said (layers_of f.layers e.waiter.job) ≡ job.0.frames = subst (λ (n : ℕ). frames_said (layers_of f.layers n) ≡ job.0.frames) is layered.frames in
      positions_of f e (omega (arith, all_long f.slots (layers_of f.layers e.waiter.job), said, few))

  -- the group of a met row
  record MetOf (m : MetRow) : Type 0 where
    depend : DependRow
    among : In f.depends depend
    unmet : depend.met_all ≡ false
    group : Group
    of_it : In (groups_of f depend) group
    is : met_row depend group ≡ m

  met_of : (m : MetRow) → met_fits f m ≡ true → MetOf m
  met_of m h =
      let e = for_some_true (find (λ (x : DependRow). eqb x.depend m.depend) f.depends) (has_group f m.position) h in
      let has = and_both (not e.0.met_all) _ e.2 in
      let number = eqb-true e.0.depend m.depend (found_is (λ (x : DependRow). eqb x.depend m.depend) f.depends e.0 e.1) in
      let group = any_in (λ (g : Group). eqb g.position m.position) (groups_of f e.0) (subst (λ (gs : List Group). list_any (λ (g : Group). eqb g.position m.position) gs ≡ true) (all_groups f fine e.0) has.1) in
      let position = eqb-true group.0.position m.position group.2 in
      record {
        depend = e.0;
        among = found_in (λ (x : DependRow). eqb x.depend m.depend) f.depends e.0 e.1;
        unmet = not-true e.0.met_all has.0;
        group = group.0;
        of_it = group.1;
        is = λ i. record { depend = number i; position = position i };
      }

  met_rise : IsRising met_key 0 f.met (GROUP_IDS * f.next_depend)
  met_rise =
      rises row.Met 10 met_key (λ x. refl) (GROUP_IDS * f.next_depend) 0 f.met (omega arith)
      (λ n m at.
      let k = met_of m (list_all-at (met_fits f) f.met n m d.met at) in
      let number : k.depend.depend ≡ m.depend = ap (λ (x : MetRow). x.depend) k.is in
      let position : k.group.position ≡ m.position = ap (λ (x : MetRow). x.position) k.is in (
        omega arith,
        omega (
          arith,
          number,
          position,
          rising_below depend_key 1 f.depends f.next_depend k.among.0 k.depend (depends_rise f d o) k.among.1,
          rising_below group_key 0 (groups_of f k.depend) GROUP_IDS k.of_it.0 k.group (positions k.among.0 k.depend k.among.1) k.of_it.1,
        ),
      ))
      o.met

  -- a row that is said is that of a group that is met
  to_rows : (m : MetRow) → In f.met m → In (met_rows f f.depends) m
  to_rows m at =
      let k = met_of m (list_all-at (met_fits f) f.met at.0 m d.met at.1) in
      let number : m.depend ≡ k.depend.depend = sym (ap (λ (x : MetRow). x.depend) k.is) in
      let position : m.position ≡ k.group.position = sym (ap (λ (x : MetRow). x.position) k.is) in
      let marks = λ (x : MetRow). eqb x.depend k.depend.depend && eqb x.position k.group.position in
      let marked : is_marked f k.depend k.group ≡ true = any_there marks f.met at.0 m at.1 (both_true (eq-eqb m.depend k.depend.depend number) (eq-eqb m.position k.group.position position)) in
      let met : is_met f k.depend k.group ≡ true = or_right k.depend.met_all (is_marked f k.depend k.group) marked in
      let parts = marked_parts f k.depend k.unmet (fine.marked k.among.0 k.depend k.among.1) in
      subst (In (met_rows f f.depends)) k.is (row_of f f.depends k.depend k.group k.among k.of_it parts.unsettled (or_left (is_met f k.depend k.group) (are_done (is_done f.slots) k.group) met))

  -- and each of these is said
  from_rows : (m : MetRow) → In (met_rows f f.depends) m → In f.met m
  from_rows m at =
      let k = met_by f f.depends m at in
      let unmet : k.depend.met_all ≡ false = (or_parts k.depend.met_all (list_all (is_met_now f k.depend) (groups_of f k.depend)) k.unsettled).0 in
      let parts = marked_parts f k.depend unmet (fine.marked k.among.0 k.depend k.among.1) in
      let met : is_met f k.depend k.group ≡ true = sym (parts.same k.of_it.0 k.group k.of_it.1) ∙ k.met in
      let marked : is_marked f k.depend k.group ≡ true = ap (λ (b : Bool). b || is_marked f k.depend k.group) (sym unmet) ∙ met in
      let found = any_in (λ (x : MetRow). eqb x.depend k.depend.depend && eqb x.position k.group.position) f.met marked in
      let both = and_both (eqb found.0.depend k.depend.depend) (eqb found.0.position k.group.position) found.2 in
      let number = eqb-true found.0.depend k.depend.depend both.0 in
      let position = eqb-true found.0.position k.group.position both.1 in
      let is : found.0 ≡ met_row k.depend k.group = λ i. record { depend = number i; position = position i } in
      subst (In f.met) (is ∙ k.is) found.1

  met_same : met_rows f f.depends ≡ f.met
  met_same =
      same_lists met_key (GROUP_IDS * 1) (GROUP_IDS * f.next_depend) 0 (GROUP_IDS * f.next_depend) (met_rows f f.depends) f.met
      (all_rise f 1 f.depends f.next_depend (depends_rise f d o) positions) met_rise from_rows to_rows

  -- exactly what is met is marked
  pub met_stays : with_met f ≡ f
  met_stays =
      let depends = map_stays (settled_row f) f.depends settled_stays in
      let met = met_same in
      λ i. record f { depends = depends i; met = met i }

  -- ---- depends

  kept_by : (e : DependRow) (b : Bool) → (b || (end_is_there f e.target && not (is_some (waits_for_itself (groups_so_far f e))))) ≡ true
      → ((b || is_end_there f e.target) ≡ true) × ((b || not (is_some (waits_for_itself (groups_of f e)))) ≡ true)
  kept_by e true h = (refl, refl)
  kept_by e false h =
      let both = and_both (end_is_there f e.target) _ h in (
        end_there f (MOST_LAYERS * f.next_job) (layers_rise f d o) d.slots.kept e.target both.0,
        subst (λ (gs : List Group). not (is_some (waits_for_itself gs)) ≡ true) (all_groups f fine e) both.1,
      )

  pub keeps_depends : KeepsDepends f
  keeps_depends =
      record {
        next_within = d.next_depend;
        rise = depends_rise f d o;
        count = d.depends.count;
        groups_within = d.depends.groups (all_groups f fine);
        formed = d.depends.formed;
        ends_there = list_all-from_at (is_kept_depend f) f.depends
            (λ n e at.
            let draft = and_both (end_is_there f e.waiter) _ (list_all-at (is_draft_depend f) f.depends n e d.depends.each at) in
            both_true (end_there f (MOST_LAYERS * f.next_job) (layers_rise f d o) d.slots.kept e.waiter draft.0) (kept_by e e.met_all draft.1).0);
        no_self_depends = list_all-from_at (has_no_self_depend f) f.depends
            (λ n e at.
            let draft = and_both (end_is_there f e.waiter) _ (list_all-at (is_draft_depend f) f.depends n e d.depends.each at) in
            (kept_by e e.met_all draft.1).1);
        met = met_stays;
        blocked = fine.blocked;
        free_to_run = fine.runs;
      }
