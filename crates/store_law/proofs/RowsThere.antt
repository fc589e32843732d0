-- The rows of a farm, kind by kind, and the row of a key.
use Rattle.std.proofs.Common.{◌≡◌, ℕ, suc, zero, ◌+◌, Bool, true, false, cond, eqb, List, [], ◌∷◌, map, Option, Some, None, refl, ap, sym, subst, ◌∙◌, arith, inl, inr, option_map, option_and_then, ◌&&◌}
use Rattle.std.specs.Prelude.{is_some}
use Rattle.std.specs.List.{find, list_any, slice_get}
use Rattle.std.proofs.lemmas.Bool.{eq-eqb, eqb-true, false≢true}
use Rattle.std.proofs.lemmas.Option.{cond_some, none-some, option_and_then_some, same_Some}
use Rattle.std.specs.Cmp.Derive.{both_true}
use Rattle.farm_types.specs.declared.depend.DependRow.{DependRow}
use Rattle.farm_types.specs.declared.depend.MetRow.{MetRow}
use Rattle.farm_types.specs.declared.rows.AllocRow.{AllocRow}
use Rattle.farm_types.specs.declared.rows.HostRow.{HostRow}
use Rattle.farm_types.specs.declared.rows.JobRow.{JobRow}
use Rattle.farm_types.specs.declared.rows.LayerRow.{LayerRow}
use Rattle.farm_types.specs.declared.rows.LimitRow.{LimitRow}
use Rattle.farm_types.specs.declared.rows.ShowRow.{ShowRow}
use Rattle.farm_types.specs.declared.rows.SubRow.{SubRow}
use Rattle.farm_types.specs.declared.slot_row.SlotRow.{SlotRow}
use Rattle.farm_types.specs.Farm.{Farm, empty_farm}
use Rattle.farm_types.specs.Kept.{KeepsRecord}
use Rattle.farm_types.proofs.Lists.{and_both, found_is}
use Rattle.farm_types.proofs.Passes.{option_map-from}
use Rattle.farm_rows.specs.declared.farm_row.FarmRow.{FarmRow}
use Rattle.farm_rows.specs.declared.farm_row.FarmRow.TheVariants as row
use Rattle.farm_rows.specs.declared.row_key.RowKey.{RowKey}
use Rattle.farm_rows.specs.declared.row_key.RowKey.TheVariants as key
use Rattle.farm_rows.specs.Changes.{is_mark, row_at, row_key, used_row}
use Rattle.farm_rows.specs.declared.head_row.TheConstants.{ROW_FORMAT}
use Rattle.farm_rows.specs.Rows.{frame_row, head_in, head_row, is_unused, numbered, recorded_in, recorded_rows, rows_in, rows_of, slot_rows}
use Rattle.recovery_law.proofs.RowKinds.{from_allocs, from_depends, from_hosts, from_jobs, from_layers, from_limits, from_met, from_shows, from_slots, from_subs}
use Rattle.store_law.proofs.Members.{Has, any_has, has_at, has_behind, has_either, has_found, has_front, has_map, has_mapped, one_from_any, place_of, some_found}

-- ---- rows that are numbered by their places

module _ {X : Type 0} (make : ℕ → X → FarmRow) where
  numbered_has : (place : ℕ) (xs : List X) (n : ℕ) (x : X) → slice_get xs n ≡ Some x → Has (numbered make place xs) (make (place + n) x)
  numbered_has place [] n x at = absurd (none-some x at)
  numbered_has place (y ∷ ys) zero x at =
      let here : place ≡ place + 0 = omega arith in
      inl (λ i. make (here i) (same_Some y x at i))
  numbered_has place (y ∷ ys) (suc n) x at =
      let next : (place + 1) + n ≡ place + suc n = omega arith in
      inr (subst (λ (m : ℕ). Has (numbered make (place + 1) ys) (make m x)) next (numbered_has (place + 1) ys n x at))

  pub has_numbered : (xs : List X) (n : ℕ) (x : X) → slice_get xs n ≡ Some x → Has (numbered make 0 xs) (make n x)
  has_numbered xs n x at =
      let from : 0 + n ≡ n = omega arith in
      subst (λ (m : ℕ). Has (numbered make 0 xs) (make m x)) from (numbered_has 0 xs n x at)

  numbered_each : (P : FarmRow → Type 0) (place : ℕ) (xs : List X) → ((n : ℕ) (x : X) → slice_get xs n ≡ Some x → P (make (place + n) x)) → (r : FarmRow) → Has (numbered make place xs) r → P r
  numbered_each P place [] each r h = absurd h
  numbered_each P place (y ∷ ys) each r (inl is) =
      let here : place + 0 ≡ place = omega arith in
      subst P is (subst (λ (m : ℕ). P (make m y)) here (each 0 y refl))
  numbered_each P place (y ∷ ys) each r (inr h) =
      numbered_each P (place + 1) ys
      (λ n x at. let next : place + suc n ≡ (place + 1) + n = omega arith in subst (λ (m : ℕ). P (make m x)) next (each (suc n) x at)) r h

  each_numbered : (P : FarmRow → Type 0) (xs : List X) → ((n : ℕ) (x : X) → slice_get xs n ≡ Some x → P (make n x)) → (r : FarmRow) → Has (numbered make 0 xs) r → P r
  each_numbered P xs each = numbered_each P 0 xs (λ n x at. let from : n ≡ 0 + n = omega arith in subst (λ (m : ℕ). P (make m x)) from (each n x at))

each_mapped : {X : Type 0} (make : X → FarmRow) (P : FarmRow → Type 0) (xs : List X) → ((n : ℕ) (x : X) → slice_get xs n ≡ Some x → P (make x)) → (r : FarmRow) → Has (map make xs) r → P r
each_mapped make P xs each r h =
    let from = has_mapped make xs r h in
    let at = place_of xs from.0 from.1 in
    subst P from.2 (each at.0 from.0 at.1)

-- ---- rows of slots

used_has : (b : Bool) (r : FarmRow) (rest : List FarmRow) → b ≡ false → Has (cond b rest (r ∷ rest)) r
used_has true r rest used = absurd (false≢true (sym used))
used_has false r rest used = inl refl

later_has : (b : Bool) (r s : FarmRow) (rest : List FarmRow) → Has rest s → Has (cond b rest (r ∷ rest)) s
later_has true r s rest h = h
later_has false r s rest h = inr h

slots_has : (place : ℕ) (ss : List SlotRow) (n : ℕ) (s : SlotRow) → slice_get ss n ≡ Some s → is_unused s ≡ false → Has (slot_rows place ss) (row.Frame (frame_row (place + n) s))
slots_has place [] n s at used = absurd (none-some s at)
slots_has place (t ∷ ts) zero s at used =
    let here : place ≡ place + 0 = omega arith in
    let is = same_Some t s at in
    subst (λ (r : FarmRow). Has (slot_rows place (t ∷ ts)) r) (λ i. row.Frame (frame_row (here i) (is i)))
    (used_has (is_unused t) (row.Frame (frame_row place t)) (slot_rows (place + 1) ts) (ap is_unused is ∙ used))
slots_has place (t ∷ ts) (suc n) s at used =
    let next : (place + 1) + n ≡ place + suc n = omega arith in
    later_has (is_unused t) (row.Frame (frame_row place t)) (row.Frame (frame_row (place + suc n) s)) (slot_rows (place + 1) ts)
    (subst (λ (m : ℕ). Has (slot_rows (place + 1) ts) (row.Frame (frame_row m s))) next (slots_has (place + 1) ts n s at used))

used_either : (P : Type 0) (b : Bool) (r s : FarmRow) (rest : List FarmRow) → (b ≡ false → r ≡ s → P) → (Has rest s → P) → Has (cond b rest (r ∷ rest)) s → P
used_either P true r s rest here later h = later h
used_either P false r s rest here later (inl is) = here refl is
used_either P false r s rest here later (inr h) = later h

slots_each : (P : FarmRow → Type 0) (place : ℕ) (ss : List SlotRow) → ((n : ℕ) (s : SlotRow) → slice_get ss n ≡ Some s → is_unused s ≡ false → P (row.Frame (frame_row (place + n) s))) → (r : FarmRow)
    → Has (slot_rows place ss) r → P r
slots_each P place [] each r h = absurd h
slots_each P place (t ∷ ts) each r h =
    let here : place + 0 ≡ place = omega arith in
    used_either (P r) (is_unused t) (row.Frame (frame_row place t)) r (slot_rows (place + 1) ts)
    (λ used is. subst P is (subst (λ (m : ℕ). P (row.Frame (frame_row m t))) here (each 0 t refl used)))
    (slots_each P (place + 1) ts
    (λ n s at used. let next : place + suc n ≡ (place + 1) + n = omega arith in subst (λ (m : ℕ). P (row.Frame (frame_row m s))) next (each (suc n) s at used)) r)
    h

each_slot : (P : FarmRow → Type 0) (ss : List SlotRow) → ((n : ℕ) (s : SlotRow) → slice_get ss n ≡ Some s → is_unused s ≡ false → P (row.Frame (frame_row n s))) → (r : FarmRow)
    → Has (slot_rows 0 ss) r → P r
each_slot P ss each =
    slots_each P 0 ss (λ n s at used. let from : n ≡ 0 + n = omega arith in subst (λ (m : ℕ). P (row.Frame (frame_row m s))) from (each n s at used))

-- ---- all rows

-- a fact of the rows of each kind
pub record EachKind (format : ℕ) (f : Farm) (P : FarmRow → Type 0) : Type 0 where
  pub head : P (row.Head (head_in format f))
  pub shows : (n : ℕ) (x : ShowRow) → slice_get f.shows n ≡ Some x → P (row.Show n x)
  pub allocs : (n : ℕ) (x : AllocRow) → slice_get f.allocs n ≡ Some x → P (row.Alloc n x)
  pub subs : (n : ℕ) (x : SubRow) → slice_get f.subs n ≡ Some x → P (row.Sub x)
  pub hosts : (n : ℕ) (x : HostRow) → slice_get f.hosts n ≡ Some x → P (row.Host n x)
  pub jobs : (n : ℕ) (x : JobRow) → slice_get f.jobs n ≡ Some x → P (row.Job x)
  pub layers : (n : ℕ) (x : LayerRow) → slice_get f.layers n ≡ Some x → P (row.Layer x)
  pub slots : (n : ℕ) (s : SlotRow) → slice_get f.slots n ≡ Some s → is_unused s ≡ false → P (row.Frame (frame_row n s))
  pub depends : (n : ℕ) (x : DependRow) → slice_get f.depends n ≡ Some x → P (row.Depend x)
  pub met : (n : ℕ) (x : MetRow) → slice_get f.met n ≡ Some x → P (row.Met x)
  pub limits : (n : ℕ) (x : LimitRow) → slice_get f.limits n ≡ Some x → P (row.Limit n x)

module _ (format : ℕ) (f : Farm) (P : FarmRow → Type 0) (each : EachKind format f P) (r : FarmRow) where
  of_met : Has (from_met f) r → P r
  of_met = has_either (P r) (map row.Met f.met) (from_limits f) r (each_mapped row.Met P f.met each.met r) (each_numbered row.Limit P f.limits each.limits r)

  of_depends : Has (from_depends f) r → P r
  of_depends = has_either (P r) (map row.Depend f.depends) (from_met f) r (each_mapped row.Depend P f.depends each.depends r) of_met

  of_slots : Has (from_slots f) r → P r
  of_slots = has_either (P r) (slot_rows 0 f.slots) (from_depends f) r (each_slot P f.slots each.slots r) of_depends

  of_layers : Has (from_layers f) r → P r
  of_layers = has_either (P r) (map row.Layer f.layers) (from_slots f) r (each_mapped row.Layer P f.layers each.layers r) of_slots

  of_jobs : Has (from_jobs f) r → P r
  of_jobs = has_either (P r) (map row.Job f.jobs) (from_layers f) r (each_mapped row.Job P f.jobs each.jobs r) of_layers

  of_hosts : Has (from_hosts f) r → P r
  of_hosts = has_either (P r) (numbered row.Host 0 f.hosts) (from_jobs f) r (each_numbered row.Host P f.hosts each.hosts r) of_jobs

  of_subs : Has (from_subs f) r → P r
  of_subs = has_either (P r) (map row.Sub f.subs) (from_hosts f) r (each_mapped row.Sub P f.subs each.subs r) of_hosts

  of_allocs : Has (from_allocs f) r → P r
  of_allocs = has_either (P r) (numbered row.Alloc 0 f.allocs) (from_subs f) r (each_numbered row.Alloc P f.allocs each.allocs r) of_subs

  of_shows : Has (from_shows f) r → P r
  of_shows = has_either (P r) (numbered row.Show 0 f.shows) (from_allocs f) r (each_numbered row.Show P f.shows each.shows r) of_allocs

  -- holds of each row of the farm
  pub each_recorded : Has (recorded_in format f) r → P r
  each_recorded (inl is) = subst P is each.head
  each_recorded (inr h) = of_shows h

flag_true : (b : Bool) (rows : List FarmRow) (r : FarmRow) → Has (cond b rows []) r → (b ≡ true) × Has rows r
flag_true true rows r h = (refl, h)
flag_true false rows r h = absurd h

-- a farm that has a row was made by an entry
pub recorded_has : (format : ℕ) (f : Farm) (r : FarmRow) → Has (rows_in format f) r → (f.recorded ≡ true) × Has (recorded_in format f) r
recorded_has format f r h = flag_true f.recorded (recorded_in format f) r h

-- ---- the rows of a kind are among all

module _ (f : Farm) (r : FarmRow) where
  past_shows : Has (from_allocs f) r → Has (recorded_rows f) r
  past_shows h = inr (has_behind (numbered row.Show 0 f.shows) (from_allocs f) r h)

  past_allocs : Has (from_subs f) r → Has (recorded_rows f) r
  past_allocs h = past_shows (has_behind (numbered row.Alloc 0 f.allocs) (from_subs f) r h)

  past_subs : Has (from_hosts f) r → Has (recorded_rows f) r
  past_subs h = past_allocs (has_behind (map row.Sub f.subs) (from_hosts f) r h)

  past_hosts : Has (from_jobs f) r → Has (recorded_rows f) r
  past_hosts h = past_subs (has_behind (numbered row.Host 0 f.hosts) (from_jobs f) r h)

  past_jobs : Has (from_layers f) r → Has (recorded_rows f) r
  past_jobs h = past_hosts (has_behind (map row.Job f.jobs) (from_layers f) r h)

  past_layers : Has (from_slots f) r → Has (recorded_rows f) r
  past_layers h = past_jobs (has_behind (map row.Layer f.layers) (from_slots f) r h)

  past_slots : Has (from_depends f) r → Has (recorded_rows f) r
  past_slots h = past_layers (has_behind (slot_rows 0 f.slots) (from_depends f) r h)

  past_depends : Has (from_met f) r → Has (recorded_rows f) r
  past_depends h = past_slots (has_behind (map row.Depend f.depends) (from_met f) r h)

  past_met : Has (from_limits f) r → Has (recorded_rows f) r
  past_met h = past_depends (has_behind (map row.Met f.met) (from_limits f) r h)

-- ---- the row of a key is one of the farm's

-- the row is one of the farm's, with that key
abbrev pub IsRowOf : Farm → RowKey → FarmRow → Type 0
IsRowOf f k r = Has (recorded_rows f) r × (row_key r ≡ k)

-- what was made of an item that was found by its number
found_made : {X : Type 0} (make : X → FarmRow) (wanted : X → Bool) (xs : List X) (P : FarmRow → Type 0) (r : FarmRow)
    → ((x : X) → Has xs x → wanted x ≡ true → P (make x)) → option_map make (find wanted xs) ≡ Some r → P r
found_made make wanted xs P r each at =
    let from = option_map-from make (find wanted xs) r at in
    subst P from.2 (each from.0 (has_found wanted xs from.0 from.1) (found_is wanted xs from.0 from.1))

placed_made : {X : Type 0} (make : X → FarmRow) (xs : List X) (n : ℕ) (P : FarmRow → Type 0) (r : FarmRow)
    → ((x : X) → slice_get xs n ≡ Some x → P (make x)) → option_map make (slice_get xs n) ≡ Some r → P r
placed_made make xs n P r each at =
    let from = option_map-from make (slice_get xs n) r at in
    subst P from.2 (each from.0 from.1)

used_made : (slot : ℕ) (s : SlotRow) (b : Bool) (P : FarmRow → Type 0) (r : FarmRow) → is_unused s ≡ b → (is_unused s ≡ false → P (row.Frame (frame_row slot s)))
    → cond b None (Some (row.Frame (frame_row slot s))) ≡ Some r → P r
used_made slot s true P r is each at = absurd (none-some r at)
used_made slot s false P r is each at = subst P (same_Some (row.Frame (frame_row slot s)) r at) (each is)

mark_is : (depend position : ℕ) (m : MetRow) → is_mark depend position m ≡ true → m ≡ record { depend = depend; position = position }
mark_is depend position m h =
    let both = and_both (eqb m.depend depend) (eqb m.position position) h in
    λ i. record { depend = eqb-true m.depend depend both.0 i; position = eqb-true m.position position both.1 i }

row_of_key : (f : Farm) (k : RowKey) (r : FarmRow) → row_at f k ≡ Some r → IsRowOf f k r
row_of_key f key.Head r at = (inl (cond_some f.recorded (row.Head (head_row f)) r at).1, ap row_key (sym (cond_some f.recorded (row.Head (head_row f)) r at).1))
row_of_key f (key.Show show) r at =
    placed_made (row.Show show) f.shows show (IsRowOf f (key.Show show)) r
    (λ x there. (inr (has_front (numbered row.Show 0 f.shows) (from_allocs f) (row.Show show x) (has_numbered row.Show f.shows show x there)), refl)) at
row_of_key f (key.Alloc alloc) r at =
    placed_made (row.Alloc alloc) f.allocs alloc (IsRowOf f (key.Alloc alloc)) r
    (λ x there. (past_shows f (row.Alloc alloc x) (has_front (numbered row.Alloc 0 f.allocs) (from_subs f) (row.Alloc alloc x) (has_numbered row.Alloc f.allocs alloc x there)), refl)) at
row_of_key f (key.Sub sub) r at =
    found_made row.Sub (λ s. eqb s.sub sub) f.subs (IsRowOf f (key.Sub sub)) r
    (λ x there is. (past_allocs f (row.Sub x) (has_front (map row.Sub f.subs) (from_hosts f) (row.Sub x) (has_map row.Sub f.subs x there)), ap key.Sub (eqb-true x.sub sub is))) at
row_of_key f (key.Host host) r at =
    placed_made (row.Host host) f.hosts host (IsRowOf f (key.Host host)) r
    (λ x there. (past_subs f (row.Host host x) (has_front (numbered row.Host 0 f.hosts) (from_jobs f) (row.Host host x) (has_numbered row.Host f.hosts host x there)), refl)) at
row_of_key f (key.Job job) r at =
    found_made row.Job (λ j. eqb j.job job) f.jobs (IsRowOf f (key.Job job)) r
    (λ x there is. (past_hosts f (row.Job x) (has_front (map row.Job f.jobs) (from_layers f) (row.Job x) (has_map row.Job f.jobs x there)), ap key.Job (eqb-true x.job job is))) at
row_of_key f (key.Layer job place) r at =
    found_made row.Layer (λ l. eqb l.job job && eqb l.place place) f.layers (IsRowOf f (key.Layer job place)) r
    (λ x there is.
    let both = and_both (eqb x.job job) (eqb x.place place) is in (
      past_jobs f (row.Layer x) (has_front (map row.Layer f.layers) (from_slots f) (row.Layer x) (has_map row.Layer f.layers x there)),
      λ i. key.Layer (eqb-true x.job job both.0 i) (eqb-true x.place place both.1 i),
    )) at
row_of_key f (key.Frame slot) r at =
    option_and_then_some (used_row slot) (slice_get f.slots slot) r at
    (λ s there made. used_made slot s (is_unused s) (IsRowOf f (key.Frame slot)) r refl
    (λ used. (past_layers f (row.Frame (frame_row slot s)) (has_front (slot_rows 0 f.slots) (from_depends f) (row.Frame (frame_row slot s)) (has_slot f.slots slot s there used)), refl)) made)
  where
    has_slot : (ss : List SlotRow) (n : ℕ) (s : SlotRow) → slice_get ss n ≡ Some s → is_unused s ≡ false → Has (slot_rows 0 ss) (row.Frame (frame_row n s))
    has_slot ss n s there used =
        let from : 0 + n ≡ n = omega arith in
        subst (λ (m : ℕ). Has (slot_rows 0 ss) (row.Frame (frame_row m s))) from (slots_has 0 ss n s there used)
row_of_key f (key.Depend depend) r at =
    found_made row.Depend (λ d. eqb d.depend depend) f.depends (IsRowOf f (key.Depend depend)) r
    (λ x there is. (past_slots f (row.Depend x) (has_front (map row.Depend f.depends) (from_met f) (row.Depend x) (has_map row.Depend f.depends x there)), ap key.Depend (eqb-true x.depend depend is))) at
row_of_key f (key.Met depend position) r at =
    let made = cond_some (list_any (is_mark depend position) f.met) (row.Met (record { depend = depend; position = position })) r at in
    let one = one_from_any (is_mark depend position) f.met made.0 in
    let mark = ap row.Met (mark_is depend position one.0 one.2) ∙ made.1 in
    subst (IsRowOf f (key.Met depend position)) mark (
      past_depends f (row.Met one.0) (has_front (map row.Met f.met) (from_limits f) (row.Met one.0) (has_map row.Met f.met one.0 one.1)),
      ap (λ (m : MetRow). row_key (row.Met m)) (mark_is depend position one.0 one.2),
    )
row_of_key f (key.Limit limit) r at =
    placed_made (row.Limit limit) f.limits limit (IsRowOf f (key.Limit limit)) r
    (λ x there. (past_met f (row.Limit limit x) (has_numbered row.Limit f.limits limit x there), refl)) at

none_at : (k : RowKey) → row_at empty_farm k ≡ None
none_at key.Head = refl
none_at (key.Show show) = refl
none_at (key.Alloc alloc) = refl
none_at (key.Sub sub) = refl
none_at (key.Host host) = refl
none_at (key.Job job) = refl
none_at (key.Layer job place) = refl
none_at (key.Frame slot) = refl
none_at (key.Depend depend) = refl
none_at (key.Met depend position) = refl
none_at (key.Limit limit) = refl

-- the row of a key is one of the farm's rows
pub row_at-has : (f : Farm) → KeepsRecord f → (k : RowKey) (r : FarmRow) → row_at f k ≡ Some r → Has (rows_of f) r × (row_key r ≡ k)
row_at-has f kept k r at = by f.recorded refl
  where
    by : (b : Bool) → f.recorded ≡ b → Has (rows_of f) r × (row_key r ≡ k)
    by true is = let found = row_of_key f k r at in (subst (λ (b : Bool). Has (cond b (recorded_rows f) []) r) (sym is) found.0, found.1)
    by false is = absurd (none-some r (sym (none_at k) ∙ ap (λ (g : Farm). row_at g k) (sym (kept is)) ∙ at))

-- ---- each row of the farm is that of its key

some_mapped : {X Y : Type 0} (make : X → Y) (o : Option X) → is_some o ≡ true → is_some (option_map make o) ≡ true
some_mapped make None h = h
some_mapped make (Some x) h = refl

some_there : {X : Type 0} (o : Option X) (x : X) → o ≡ Some x → is_some o ≡ true
some_there o x at = ap is_some at

some_if : (b : Bool) (r : FarmRow) → b ≡ true → is_some (cond b (Some r) None) ≡ true
some_if true r h = refl
some_if false r h = absurd (false≢true h)

some_used : (slot : ℕ) (s : SlotRow) (b : Bool) → b ≡ false → is_some (cond b None (Some (row.Frame (frame_row slot s)))) ≡ true
some_used slot s true h = absurd (false≢true (sym h))
some_used slot s false h = refl

abbrev HasKey : Farm → FarmRow → Type 0
HasKey f r = is_some (row_at f (row_key r)) ≡ true

each_has_key : (f : Farm) → f.recorded ≡ true → EachKind ROW_FORMAT f (HasKey f)
each_has_key f is =
    record {
      head = some_if f.recorded (row.Head (head_row f)) is;
      shows = λ n x at. some_mapped (row.Show n) (slice_get f.shows n) (some_there (slice_get f.shows n) x at);
      allocs = λ n x at. some_mapped (row.Alloc n) (slice_get f.allocs n) (some_there (slice_get f.allocs n) x at);
      subs = λ n x at. some_mapped row.Sub (find (λ s. eqb s.sub x.sub) f.subs) (some_found (λ s. eqb s.sub x.sub) f.subs x (has_at f.subs n x at) (eq-eqb x.sub x.sub refl));
      hosts = λ n x at. some_mapped (row.Host n) (slice_get f.hosts n) (some_there (slice_get f.hosts n) x at);
      jobs = λ n x at. some_mapped row.Job (find (λ j. eqb j.job x.job) f.jobs) (some_found (λ j. eqb j.job x.job) f.jobs x (has_at f.jobs n x at) (eq-eqb x.job x.job refl));
      layers = λ n x at.
          some_mapped row.Layer (find (λ l. eqb l.job x.job && eqb l.place x.place) f.layers)
          (some_found (λ l. eqb l.job x.job && eqb l.place x.place) f.layers x (has_at f.layers n x at) (both_true (eq-eqb x.job x.job refl) (eq-eqb x.place x.place refl)));
      slots = λ n s at used. ap (λ (o : Option SlotRow). is_some (option_and_then (used_row n) o)) at ∙ some_used n s (is_unused s) used;
      depends = λ n x at.
          some_mapped row.Depend (find (λ d. eqb d.depend x.depend) f.depends)
          (some_found (λ d. eqb d.depend x.depend) f.depends x (has_at f.depends n x at) (eq-eqb x.depend x.depend refl));
      met = λ n x at.
          some_if (list_any (is_mark x.depend x.position) f.met) (row.Met x)
          (any_has (is_mark x.depend x.position) f.met x (has_at f.met n x at) (both_true (eq-eqb x.depend x.depend refl) (eq-eqb x.position x.position refl)));
      limits = λ n x at. some_mapped (row.Limit n) (slice_get f.limits n) (some_there (slice_get f.limits n) x at);
    }

-- the key of a row of the farm has a row
pub has-row_at : (f : Farm) (r : FarmRow) → Has (rows_of f) r → is_some (row_at f (row_key r)) ≡ true
has-row_at f r h =
    let made = recorded_has ROW_FORMAT f r h in
    each_recorded ROW_FORMAT f (HasKey f) (each_has_key f made.0) r made.1
