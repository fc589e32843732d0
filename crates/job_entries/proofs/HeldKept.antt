-- What the places of jobs keep where one job changes, leaves or is added, and the lists that they make then.
use Rattle.std.proofs.Common.{◌≡◌, ℕ, suc, zero, ◌+◌, ◌&&◌, Bool, true, false, not, cond, eqb, List, [], ◌∷◌, ◌++◌, map, filter, length, Option, Some, None, option_map, refl, sym, ap, ◌∙◌, append-nil, arith}
use Rattle.std.specs.List.{flat_map, list_any, list_all, position_or_len}
use Rattle.std.proofs.lemmas.Bool.{false≢true, eqb-true, eq-eqb, and_from, or_parts}
use Rattle.std.proofs.lemmas.List.{map_push}
use Rattle.std.proofs.lemmas.List.Concat.{flat_map-append}
use Rattle.std.proofs.lemmas.List.Folds.{list_all-append}
use Rattle.farm_types.specs.declared.rows.JobRow.{JobRow}
use Rattle.farm_types.specs.declared.rows.LayerRow.{LayerRow}
use Rattle.farm_types.specs.declared.states.FrameState.{FrameState}
use Rattle.farm_types.specs.Farm.{changed_at, for_any}
use Rattle.farm_types.specs.Operators.{paused_row}
use Rattle.farm_types.specs.Rising.{IsRising}
use Rattle.farm_types.proofs.ChangedLists.{changed_at_suc, list_all-changed_at, map-map_kept}
use Rattle.farm_types.proofs.Changed.{length-changed_at}
use Rattle.farm_types.proofs.Lists.{and_both, list_all-at}
use Rattle.farm_law.proofs.KeptJobsLists.{rising-append, rising_lower}
use Rattle.job_entries.specs.declared.counts.Counts.{Counts}
use Rattle.job_entries.specs.declared.entries.At.{At}
use Rattle.job_entries.specs.declared.entries.Place.{Place}
use Rattle.job_entries.specs.Counting.{moved}
use Rattle.job_entries.specs.Entries.{IsAt, KeepsEntries, all_of, are_layers, beside, counts_held, emptied, entry_key, has_number, held, index_held, is_held_at, is_whole, layers_held, on_number, place_key, row_of, with_entry, with_held, with_mark, with_moved, with_paused, layer_position}
use Rattle.job_index.specs.Places.{LayerPlaces, marked}
use Rattle.job_entries.specs.OneJob.{AllJobs, OneJob}
use Rattle.job_entries.proofs.Held.{at_number, changed_held, left_held, same_keys, stay_above}
use Rattle.job_entries.proofs.HeldLists.{filter-map, index_marked}

-- ---- what is kept of the places

rising_changed : {X : Type 0} (key : X → ℕ) (f : X → X) → ((x : X) → key (f x) ≡ key x) → (low : ℕ) (xs : List X) (high n : ℕ) → IsRising key low xs high → IsRising key low (changed_at xs n f) high
rising_changed key f same low [] high n rise = rise
rising_changed key f same low (x ∷ xs) high zero rise =
    (omega (arith, same x, rise.0), rising_lower key (key (f x) + 1) (key x + 1) xs high (omega (arith, same x)) rise.1)
rising_changed key f same low (x ∷ xs) high (suc n) rise =
    rw (changed_at_suc x xs n f) (rise.0, rising_changed key f same (key x + 1) xs high n rise.1)

-- a job changed keeps its number and is whole
abbrev pub Keeps : (OneJob → OneJob) → Type 0
Keeps f = (e : OneJob) → ((f e).row.job ≡ e.row.job) × (is_whole e ≡ true → is_whole (f e) ≡ true)

kept_at : (f : OneJob → OneJob) → Keeps f → (key : ℕ) (o : Option OneJob) → for_any o (λ (e : OneJob). eqb e.row.job key && is_whole e) ≡ true → for_any (option_map f o) (λ (e : OneJob). eqb e.row.job key && is_whole e) ≡ true
kept_at f keeps key None is = refl
kept_at f keeps key (Some e) is =
    let both = and_both (eqb e.row.job key) (is_whole e) is in
    and_from (eqb (f e).row.job key) (is_whole (f e)) (ap (λ (n : ℕ). eqb n key) (keeps e).0 ∙ both.0) ((keeps e).1 both.1)

pub changed_places : (f : OneJob → OneJob) → Keeps f → (ps : List Place) (next fit later n : ℕ) → later ≡ fit → KeepsEntries ps next fit → KeepsEntries (changed_at ps n (with_held f)) next later
changed_places f keeps ps next fit later n is ok =
    record {
      rise = rising_changed place_key (with_held f) (λ p. refl) 0 ps next n ok.rise;
      each = list_all-changed_at is_held_at ps n (with_held f) ok.each (λ p at. kept_at f keeps p.job p.held (list_all-at is_held_at ps n p ok.each at));
      room = omega (arith, is, ok.room);
    }

pub emptied_places : (ps : List Place) (next fit later n : ℕ) → later ≡ fit → KeepsEntries ps next fit → KeepsEntries (changed_at ps n emptied) next later
emptied_places ps next fit later n is ok =
    record {
      rise = rising_changed place_key emptied (λ p. refl) 0 ps next n ok.rise;
      each = list_all-changed_at is_held_at ps n emptied ok.each (λ p at. refl);
      room = omega (arith, is, ok.room);
    }

pub moved_keeps : (old new : FrameState) → Keeps (with_moved old new)
moved_keeps old new e = (refl, λ h. h)

pub paused_keeps : (paused : Bool) → Keeps (with_paused paused)
paused_keeps paused e = (refl, λ h. h)

pub mark_whole : (layer position : ℕ) (waits : Bool) → Keeps (with_mark layer position waits)
mark_whole layer position waits e = (
  refl,
  λ h. let both = and_both (are_layers e.row.job 0 e.layers) (eqb (length e.index) (length e.layers)) h in
      and_from (are_layers e.row.job 0 e.layers) _ both.0 (ap (λ (n : ℕ). eqb n (length e.layers)) (length-changed_at e.index layer (marked position waits)) ∙ both.1),
)

-- one more place, behind the others
pub more_places : (ps : List Place) (next fit later : ℕ) (e : OneJob) → later ≡ fit → e.row.job ≡ next → is_whole e ≡ true → KeepsEntries ps next fit
    → KeepsEntries (ps ++ record { job = next; held = Some e } ∷ []) (next + 1) later
more_places ps next fit later e is number whole ok =
    let p : Place = record { job = next; held = Some e } in
    record {
      rise = rising-append place_key 0 next (next + 1) ps (p ∷ []) ok.rise (omega arith, omega arith);
      each = list_all-append is_held_at ps (p ∷ []) ∙ and_from _ _ ok.each (and_from _ _ (and_from (eqb e.row.job next) (is_whole e) (eq-eqb e.row.job next number) whole) refl);
      room = omega (arith, is, ok.room);
    }

-- ---- the lists

pub same_lists : (a b : AllJobs) → a.rows ≡ b.rows → a.counts ≡ b.counts → a.layers ≡ b.layers → a.index ≡ b.index → a.next ≡ b.next → a.numbers ≡ b.numbers → a ≡ b
same_lists a b e0 e1 e2 e3 e4 e5 = λ i. record { rows = e0 i; counts = e1 i; layers = e2 i; index = e3 i; next = e4 i; numbers = e5 i }

-- a place that was found among the numbers that are seen is found among those of the places
pub is_at : {a b : AllJobs} (at : At) → a ≡ b → IsAt at b.numbers → IsAt at a.numbers
is_at at same is = is ∙ ap (λ (l : AllJobs). position_or_len (λ (n : ℕ). eqb n at.job) l.numbers) (sym same)

module _ (at : At) (ps : List Place) (next : ℕ) (rise : IsRising place_key 0 ps next) (each : list_all is_held_at ps ≡ true) (is : IsAt at (map place_key ps)) where
  -- the change at the place is one of the job alone
  pub all_changed : (f : OneJob → OneJob)
      → all_of (map place_key (changed_at ps at.place (with_held f))) (held (changed_at ps at.place (with_held f))) next ≡ all_of (map place_key ps) (map (on_number at.job f) (held ps)) next
  all_changed f =
      ap (λ (ns : List ℕ). all_of ns (held (changed_at ps at.place (with_held f))) next) (same_keys (with_held f) (λ p. refl) ps at.place)
      ∙ ap (λ (n : ℕ). all_of (map place_key ps) (held (changed_at ps n (with_held f))) next) (at_number at ps is)
      ∙ ap (λ (es : List OneJob). all_of (map place_key ps) es next) (changed_held at.job f 0 ps next rise each)

  -- only the job leaves
  pub all_emptied : all_of (map place_key (changed_at ps at.place emptied)) (held (changed_at ps at.place emptied)) next
      ≡ all_of (map place_key ps) (filter (λ (e : OneJob). not (has_number at.job e)) (held ps)) next
  all_emptied =
      ap (λ (ns : List ℕ). all_of ns (held (changed_at ps at.place emptied)) next) (same_keys emptied (λ p. refl) ps at.place)
      ∙ ap (λ (n : ℕ). all_of (map place_key ps) (held (changed_at ps n emptied)) next) (at_number at ps is)
      ∙ ap (λ (es : List OneJob). all_of (map place_key ps) es next) (left_held at.job 0 ps next rise each)

flat_map-kept : {X Y : Type 0} (read : X → List Y) (change : X → X) → ((x : X) → read (change x) ≡ read x) → (xs : List X) → flat_map read (map change xs) ≡ flat_map read xs
flat_map-kept read change same [] = refl
flat_map-kept read change same (x ∷ xs) = rw (same x, flat_map-kept read change same xs) refl

pub all_more : (numbers old : List ℕ) (es : List OneJob) (e : OneJob) (next : ℕ) → all_of numbers (es ++ e ∷ []) (next + 1) ≡ with_entry e numbers (all_of old es next)
all_more numbers old es e next =
    same_lists _ _ (map_push row_of es e) (map_push counts_held es e)
    (flat_map-append layers_held es (e ∷ []) ∙ ap (λ (ls : List LayerRow). flat_map layers_held es ++ ls) (append-nil e.layers))
    (flat_map-append index_held es (e ∷ []) ∙ ap (λ (xs : List LayerPlaces). flat_map index_held es ++ xs) (append-nil e.index)) refl refl

module _ (job : ℕ) (f : OneJob → OneJob) where
  by_number : {Y : Type 0} (read : OneJob → Y) → ((e : OneJob) → read (f e) ≡ read e) → (b : Bool) (e : OneJob) → read (cond b (f e) e) ≡ read e
  by_number read same true e = same e
  by_number read same false e = refl

  on_keeps : {Y : Type 0} (read : OneJob → Y) → ((e : OneJob) → read (f e) ≡ read e) → (e : OneJob) → read (on_number job f e) ≡ read e
  on_keeps read same e = by_number read same (has_number job e) e

pub all_marked : (numbers : List ℕ) (job layer position : ℕ) (waits : Bool) (es : List OneJob) (next : ℕ) → IsRising entry_key 0 es next → list_all is_whole es ≡ true
    → all_of numbers (map (on_number job (with_mark layer position waits)) es) next
    ≡ record (all_of numbers es next) { index = changed_at (flat_map index_held es) (layer_position job layer (flat_map layers_held es)) (marked position waits) }
all_marked numbers job layer position waits es next rise whole =
    let f = with_mark layer position waits in
    same_lists _ _ (map-map_kept row_of (on_number job f) (on_keeps job f row_of (λ e. refl)) es) (map-map_kept counts_held (on_number job f) (on_keeps job f counts_held (λ e. refl)) es)
    (flat_map-kept layers_held (on_number job f) (on_keeps job f layers_held (λ e. refl)) es) (index_marked job layer position waits 0 es next rise whole) refl refl

counts_moved : (job : ℕ) (old new : FrameState) (low : ℕ) (es : List OneJob) (high : ℕ) → IsRising entry_key low es high
    → map counts_held (map (on_number job (with_moved old new)) es) ≡ changed_at (map counts_held es) (position_or_len (λ (j : JobRow). eqb j.job job) (map row_of es)) (moved old new)
counts_moved job old new low [] high rise = refl
counts_moved job old new low (e ∷ es) high rise = by (eqb e.row.job job) refl (counts_moved job old new (e.row.job + 1) es high rise.1)
  where
    by : (b : Bool) → eqb e.row.job job ≡ b → map counts_held (map (on_number job (with_moved old new)) es) ≡ changed_at (map counts_held es) (position_or_len (λ (j : JobRow). eqb j.job job) (map row_of es)) (moved old new)
        → map counts_held (map (on_number job (with_moved old new)) (e ∷ es)) ≡ changed_at (map counts_held (e ∷ es)) (position_or_len (λ (j : JobRow). eqb j.job job) (map row_of (e ∷ es))) (moved old new)
    by true is later =
        let stay = stay_above job (with_moved old new) (e.row.job + 1) es high (omega (arith, eqb-true e.row.job job is)) rise.1 in
        rw (is, stay) refl
    by false is later =
        let at = position_or_len (λ (j : JobRow). eqb j.job job) (map row_of es) in
        let place : 1 + at ≡ suc at = omega arith in
        rw (is, place, changed_at_suc e.counts (map counts_held es) at (moved old new)) (ap (λ (cs : List Counts). e.counts ∷ cs) later)

pub all_moved : (numbers : List ℕ) (job : ℕ) (old new : FrameState) (es : List OneJob) (next : ℕ) → IsRising entry_key 0 es next
    → all_of numbers (map (on_number job (with_moved old new)) es) next
    ≡ record (all_of numbers es next) { counts = changed_at (map counts_held es) (position_or_len (λ (j : JobRow). eqb j.job job) (map row_of es)) (moved old new) }
all_moved numbers job old new es next rise =
    let f = with_moved old new in
    same_lists _ _ (map-map_kept row_of (on_number job f) (on_keeps job f row_of (λ e. refl)) es) (counts_moved job old new 0 es next rise)
    (flat_map-kept layers_held (on_number job f) (on_keeps job f layers_held (λ e. refl)) es) (flat_map-kept index_held (on_number job f) (on_keeps job f index_held (λ e. refl)) es) refl refl

rows_paused : (job : ℕ) (paused : Bool) (es : List OneJob) → map row_of (map (on_number job (with_paused paused)) es) ≡ map (paused_row job paused) (map row_of es)
rows_paused job paused [] = refl
rows_paused job paused (e ∷ es) = by (eqb e.row.job job) refl (rows_paused job paused es)
  where
    by : (b : Bool) → eqb e.row.job job ≡ b → map row_of (map (on_number job (with_paused paused)) es) ≡ map (paused_row job paused) (map row_of es)
        → map row_of (map (on_number job (with_paused paused)) (e ∷ es)) ≡ map (paused_row job paused) (map row_of (e ∷ es))
    by true is later = rw (is, later) refl
    by false is later = rw (is, later) refl

pub all_paused : (numbers : List ℕ) (job : ℕ) (paused : Bool) (es : List OneJob) (next : ℕ)
    → all_of numbers (map (on_number job (with_paused paused)) es) next ≡ record (all_of numbers es next) { rows = map (paused_row job paused) (map row_of es) }
all_paused numbers job paused es next =
    let f = with_paused paused in
    same_lists _ _ (rows_paused job paused es) (map-map_kept counts_held (on_number job f) (on_keeps job f counts_held (λ e. refl)) es)
    (flat_map-kept layers_held (on_number job f) (on_keeps job f layers_held (λ e. refl)) es) (flat_map-kept index_held (on_number job f) (on_keeps job f index_held (λ e. refl)) es) refl refl

-- ---- a job without layers leaves

module _ (job : ℕ) where
  abbrev stays : OneJob → Bool
  stays e = not (has_number job e)

  counts_left : (es : List OneJob) → map counts_held (filter stays es) ≡ beside (λ (j : JobRow). not (eqb j.job job)) (map row_of es) (map counts_held es)
  counts_left [] = refl
  counts_left (e ∷ es) = by (eqb e.row.job job) refl (counts_left es)
    where
      by : (b : Bool) → eqb e.row.job job ≡ b → map counts_held (filter stays es) ≡ beside (λ (j : JobRow). not (eqb j.job job)) (map row_of es) (map counts_held es)
          → map counts_held (filter stays (e ∷ es)) ≡ beside (λ (j : JobRow). not (eqb j.job job)) (map row_of (e ∷ es)) (map counts_held (e ∷ es))
      by true is later = rw is later
      by false is later = rw is (ap (λ (cs : List Counts). e.counts ∷ cs) later)

  any-parts : {X : Type 0} (test : X → Bool) (xs ys : List X) → list_any test (xs ++ ys) ≡ false → (list_any test xs ≡ false) × (list_any test ys ≡ false)
  any-parts test [] ys none = (refl, none)
  any-parts test (x ∷ xs) ys none =
      let split = or_parts (test x) (list_any test (xs ++ ys)) none in
      let rest = any-parts test xs ys split.1 in
      (rw split.0 rest.0, rest.1)

  -- a job that has no layer of its number has none
  no_layers : (ls : List LayerRow) (key : ℕ) → eqb key job ≡ true → are_layers key 0 ls ≡ true → list_any (λ (l : LayerRow). eqb l.job job) ls ≡ false → ls ≡ []
  no_layers [] key is own none = refl
  no_layers (l ∷ ls) key is own none =
      let both = and_both (eqb l.job key && eqb l.place 0) (are_layers key 1 ls) own in
      let parts = and_both (eqb l.job key) (eqb l.place 0) both.0 in
      let its : eqb l.job job ≡ true = ap (λ (n : ℕ). eqb n job) (eqb-true l.job key parts.0) ∙ is in
      absurd (false≢true (sym (rw its at none)))

  empty : {X : Type 0} (xs : List X) → length xs ≡ 0 → xs ≡ []
  empty [] e = refl
  empty (x ∷ xs) e = absurd (omega (arith, e))

  lists_left : (es : List OneJob) → list_all is_whole es ≡ true → list_any (λ (l : LayerRow). eqb l.job job) (flat_map layers_held es) ≡ false
      → (flat_map layers_held (filter stays es) ≡ flat_map layers_held es) × (flat_map index_held (filter stays es) ≡ flat_map index_held es)
  lists_left [] whole none = (refl, refl)
  lists_left (e ∷ es) whole none =
      let both = and_both (is_whole e) (list_all is_whole es) whole in
      let parts = and_both (are_layers e.row.job 0 e.layers) (eqb (length e.index) (length e.layers)) both.0 in
      let split = any-parts (λ (l : LayerRow). eqb l.job job) e.layers (flat_map layers_held es) none in
      by (eqb e.row.job job) refl parts.0 (eqb-true (length e.index) (length e.layers) parts.1) split.0 (lists_left es both.1 split.1)
    where
      by : (b : Bool) → eqb e.row.job job ≡ b → are_layers e.row.job 0 e.layers ≡ true → length e.index ≡ length e.layers → list_any (λ (l : LayerRow). eqb l.job job) e.layers ≡ false
          → (flat_map layers_held (filter stays es) ≡ flat_map layers_held es) × (flat_map index_held (filter stays es) ≡ flat_map index_held es)
          → (flat_map layers_held (filter stays (e ∷ es)) ≡ flat_map layers_held (e ∷ es)) × (flat_map index_held (filter stays (e ∷ es)) ≡ flat_map index_held (e ∷ es))
      by true is own long none later =
          let gone = no_layers e.layers e.row.job is own none in
          let gone_too = empty e.index (long ∙ ap length gone) in
          rw (is, gone, gone_too) later
      by false is own long none later = rw is (ap (λ (ls : List LayerRow). e.layers ++ ls) later.0, ap (λ (xs : List LayerPlaces). e.index ++ xs) later.1)

  pub all_left : (numbers : List ℕ) (es : List OneJob) (next : ℕ) → list_all is_whole es ≡ true → list_any (λ (l : LayerRow). eqb l.job job) (flat_map layers_held es) ≡ false
      → all_of numbers (filter stays es) next
      ≡ record (all_of numbers es next) { rows = filter (λ (j : JobRow). not (eqb j.job job)) (map row_of es); counts = beside (λ (j : JobRow). not (eqb j.job job)) (map row_of es) (map counts_held es) }
  all_left numbers es next whole none =
      let lists = lists_left es whole none in
      same_lists _ _ (filter-map (λ (j : JobRow). not (eqb j.job job)) row_of es) (counts_left es) lists.0 lists.1 refl refl
