-- What goes with a job that finishes: its layers, its frames, and the depends in which it waits.
use Rattle.std.proofs.Common.{◌≡◌, ℕ, ◌+◌, ◌<◌, Bool, true, false, not, cond, eqb, ltb, ◌&&◌, ◌||◌, List, [], ◌∷◌, ◌++◌, map, filter, Option, None, Some, option_map, refl, sym, ap, subst, ◌∙◌, arith}
use Rattle.std.specs.Prelude.{is_some, option_and_then}
use Rattle.std.specs.List.{AllByRecursion, find, list_any, slice_get}
use Rattle.std.proofs.lemmas.Bool.{eq-eqb, eqb-true, false≢true, ltb-false, ne_eqb, or_left, or_right}
use Rattle.std.proofs.lemmas.List.Folds.{list_any-append}
use Rattle.std.proofs.lemmas.Option.{none-some, slice_get-map}
use Rattle.farm_types.specs.declared.depend.DependRow.{DependRow}
use Rattle.farm_types.specs.declared.depend.MetRow.{MetRow}
use Rattle.farm_types.specs.declared.rows.LayerRow.{LayerRow}
use Rattle.farm_types.specs.declared.slot_row.SlotRow.{SlotRow}
use Rattle.farm_types.specs.Farm.{Farm, for_some, layer_at}
use Rattle.farm_types.specs.Finish.{freed_row, is_frame_of, marks_of, waits_by, without_waiter}
use Rattle.farm_types.specs.Rising.{IsRising, depend_key}
use Rattle.farm_types.specs.Settle.{raised}
use Rattle.farm_types.specs.declared.limits.TheConstants.{LAST_VERSION}
use Rattle.farm_types.proofs.Lists.{and_both, for_some_true}
use Rattle.farm_rows.specs.declared.farm_row.FarmRow.TheVariants as row
use Rattle.farm_rows.specs.declared.row_key.RowKey.{RowKey}
use Rattle.farm_rows.specs.declared.row_key.RowKey.TheVariants as key
use Rattle.farm_rows.specs.Changes.{MakesRows, is_head, is_mark, is_named_by, row_at, used_row}
use Rattle.depend_graph.specs.Graph.{Watched}
use Rattle.farm_finish.specs.Gone.{depends_gone, freed_frame, layer_gone, mark_gone, rows_gone, version_in}
use Rattle.farm_finish.proofs.RowLemmas.Said.{Says, any_map, either_false, makes_said, says_append, says_map}

-- ---- layers

module _ (job : ℕ) where
  abbrev stays : LayerRow → Bool
  stays l = not (eqb l.job job)

  no_layer : (place : ℕ) (ls : List LayerRow) → find (λ (l : LayerRow). eqb l.job job && eqb l.place place) (filter stays ls) ≡ None
  no_layer place [] = refl
  no_layer place (l ∷ ls) = by_job (eqb l.job job) refl (no_layer place ls) where
    by_job : (b : Bool) → eqb l.job job ≡ b → find (λ (m : LayerRow). eqb m.job job && eqb m.place place) (filter stays ls) ≡ None
        → find (λ (m : LayerRow). eqb m.job job && eqb m.place place) (cond (not b) (l ∷ filter stays ls) (filter stays ls)) ≡ None
    by_job true is later = later
    by_job false is later = ap (λ (b : Bool). cond (b && eqb l.place place) (Some l) (find (λ (m : LayerRow). eqb m.job job && eqb m.place place) (filter stays ls))) is ∙ later

  pub other_layer : (n place : ℕ) (ls : List LayerRow) → eqb job n ≡ false → find (λ (l : LayerRow). eqb l.job n && eqb l.place place) (filter stays ls) ≡ find (λ (l : LayerRow). eqb l.job n && eqb l.place place) ls
  other_layer n place [] apart = refl
  other_layer n place (l ∷ ls) apart = by_job (eqb l.job job) refl (other_layer n place ls apart) where
    by_job : (b : Bool) → eqb l.job job ≡ b → find (λ (m : LayerRow). eqb m.job n && eqb m.place place) (filter stays ls) ≡ find (λ (m : LayerRow). eqb m.job n && eqb m.place place) ls
        → find (λ (m : LayerRow). eqb m.job n && eqb m.place place) (cond (not b) (l ∷ filter stays ls) (filter stays ls)) ≡ cond (eqb l.job n && eqb l.place place) (Some l) (find (λ (m : LayerRow). eqb m.job n && eqb m.place place) ls)
    by_job true is later =
        let other : eqb l.job n ≡ false = ap (λ (m : ℕ). eqb m n) (eqb-true l.job job is) ∙ apart in
        later ∙ sym (ap (λ (b : Bool). cond (b && eqb l.place place) (Some l) (find (λ (m : LayerRow). eqb m.job n && eqb m.place place) ls)) other)
    by_job false is later = ap (cond (eqb l.job n && eqb l.place place) (Some l)) later

-- ---- depends

abbrev pub is_numbered : ℕ → DependRow → Bool
is_numbered n d = eqb d.depend n

-- a depend of that number is among the rows in which a frame of the job waits
abbrev pub waits_in : ℕ → List DependRow → ℕ → Bool
waits_in job rows n = list_any (λ (d : DependRow). waits_by job d && eqb n d.depend) rows

none_above : (n low : ℕ) (ds : List DependRow) (high : ℕ) → n < low → IsRising depend_key low ds high → (find (is_numbered n) ds ≡ None) × ((job : ℕ) → waits_in job ds n ≡ false)
none_above n low [] high less rise = (refl, λ job. refl)
none_above n low (d ∷ ds) high less rise =
    let later = none_above n (d.depend + 1) ds high (omega (arith, less, rise.0)) rise.1 in
    let apart : eqb d.depend n ≡ false = ne_eqb d.depend n (λ e. absurd (omega (arith, e, less, rise.0))) in
    let other : eqb n d.depend ≡ false = ne_eqb n d.depend (λ e. absurd (omega (arith, e, less, rise.0))) in (
      ap (λ (b : Bool). cond b (Some d) (find (is_numbered n) ds)) apart ∙ later.0,
      λ job. ap (λ (b : Bool). (waits_by job d && b) || waits_in job ds n) other ∙ (ap (λ (b : Bool). b || waits_in job ds n) (and_off (waits_by job d)) ∙ later.1 job),
    )
  where
    and_off : (b : Bool) → (b && false) ≡ false
    and_off true = refl
    and_off false = refl

none_filtered : {X : Type 0} (test keep : X → Bool) (xs : List X) → find test xs ≡ None → find test (filter keep xs) ≡ None
none_filtered test keep [] none = refl
none_filtered test keep (x ∷ xs) none = by_test (test x) (keep x) refl none (none_filtered test keep xs) where
  by_test : (a b : Bool) → test x ≡ a → cond a (Some x) (find test xs) ≡ None → (find test xs ≡ None → find test (filter keep xs) ≡ None) → find test (cond b (x ∷ filter keep xs) (filter keep xs)) ≡ None
  by_test true b is found later = absurd (none-some x (sym found))
  by_test false true is found later = ap (λ (b : Bool). cond b (Some x) (find test (filter keep xs))) is ∙ later found
  by_test false false is found later = later found

module _ (job n : ℕ) where
  -- one in which the job waits isn't among the others
  pub gone_depend : (low : ℕ) (ds : List DependRow) (high : ℕ) → IsRising depend_key low ds high → waits_in job ds n ≡ true → find (is_numbered n) (without_waiter job ds) ≡ None
  gone_depend low [] high rise waits = absurd (false≢true waits)
  gone_depend low (d ∷ ds) high rise waits = by_number (waits_by job d) (eqb d.depend n) (eqb n d.depend) refl refl refl waits (gone_depend (d.depend + 1) ds high rise.1) where
    rest : List DependRow
    rest = without_waiter job ds

    by_number : (w a b : Bool) → waits_by job d ≡ w → eqb d.depend n ≡ a → eqb n d.depend ≡ b → ((w && b) || waits_in job ds n) ≡ true → (waits_in job ds n ≡ true → find (is_numbered n) (without_waiter job ds) ≡ None)
        → find (is_numbered n) (cond (not w) (d ∷ without_waiter job ds) (without_waiter job ds)) ≡ None
    by_number true true b w a is there later =
        none_filtered (is_numbered n) (λ (e : DependRow). not (waits_by job e)) ds (none_above n (d.depend + 1) ds high (omega (arith, eqb-true d.depend n a)) rise.1).0
    by_number true false true w a is there later = absurd (false≢true (sym a ∙ eq-eqb d.depend n (sym (eqb-true n d.depend is))))
    by_number true false false w a is there later = later there
    by_number false true b w a is there later =
        absurd (false≢true (sym ((none_above n (d.depend + 1) ds high (omega (arith, eqb-true d.depend n a)) rise.1).1 job) ∙ there))
    by_number false false b w a is there later = ap (λ (c : Bool). cond c (Some d) (find (is_numbered n) (without_waiter job ds))) a ∙ later there

  -- one in which it doesn't wait is
  pub left_depend : (ds : List DependRow) → waits_in job ds n ≡ false → find (is_numbered n) (without_waiter job ds) ≡ find (is_numbered n) ds
  left_depend [] waits = refl
  left_depend (d ∷ ds) waits = by_number (waits_by job d) (eqb d.depend n) refl refl (either_false (waits_by job d && eqb n d.depend) (waits_in job ds n) waits).0 (left_depend ds (either_false (waits_by job d && eqb n d.depend) (waits_in job ds n) waits).1) where
    by_number : (w a : Bool) → waits_by job d ≡ w → eqb d.depend n ≡ a → (waits_by job d && eqb n d.depend) ≡ false → find (is_numbered n) (without_waiter job ds) ≡ find (is_numbered n) ds
        → find (is_numbered n) (cond (not w) (d ∷ without_waiter job ds) (without_waiter job ds)) ≡ cond (eqb d.depend n) (Some d) (find (is_numbered n) ds)
    by_number true true w a off later = absurd (false≢true (sym off ∙ λ i. w i && eq-eqb n d.depend (sym (eqb-true d.depend n a)) i))
    by_number true false w a off later = later ∙ sym (ap (λ (b : Bool). cond b (Some d) (find (is_numbered n) ds)) a)
    by_number false a w is off later = ap (cond (eqb d.depend n) (Some d)) later

-- ---- marks

any_numbered : (n : ℕ) (ds : List DependRow) → list_any (λ (d : DependRow). eqb d.depend n) ds ≡ is_some (find (is_numbered n) ds)
any_numbered n [] = refl
any_numbered n (d ∷ ds) = by_number (eqb d.depend n) (any_numbered n ds) where
  by_number : (b : Bool) → list_any (λ (e : DependRow). eqb e.depend n) ds ≡ is_some (find (is_numbered n) ds) → (b || list_any (λ (e : DependRow). eqb e.depend n) ds) ≡ is_some (cond b (Some d) (find (is_numbered n) ds))
  by_number true later = refl
  by_number false later = later

-- a mark is among those of some depends where its depend is
pub mark_left : (n position : ℕ) (ds : List DependRow) (met : List MetRow) → list_any (is_mark n position) (marks_of ds met) ≡ (is_some (find (is_numbered n) ds) && list_any (is_mark n position) met)
mark_left n position ds [] = sym (and_off (is_some (find (is_numbered n) ds))) where
  and_off : (b : Bool) → (b && false) ≡ false
  and_off true = refl
  and_off false = refl
mark_left n position ds (m ∷ ms) = by_mark (is_mark n position m) (list_any (λ (d : DependRow). eqb d.depend m.depend) ds) refl refl (mark_left n position ds ms) where
  there : Bool
  there = is_some (find (is_numbered n) ds)

  there_is : (b : Bool) → is_mark n position m ≡ true → list_any (λ (d : DependRow). eqb d.depend m.depend) ds ≡ b → is_some (find (is_numbered n) ds) ≡ b
  there_is b is among =
      let number : m.depend ≡ n = eqb-true m.depend n (and_both (eqb m.depend n) (eqb m.position position) is).0 in
      sym (any_numbered n ds) ∙ (ap (λ (k : ℕ). list_any (λ (d : DependRow). eqb d.depend k) ds) (sym number) ∙ among)

  by_mark : (b i : Bool) → is_mark n position m ≡ b → list_any (λ (d : DependRow). eqb d.depend m.depend) ds ≡ i
      → list_any (is_mark n position) (marks_of ds ms) ≡ (is_some (find (is_numbered n) ds) && list_any (is_mark n position) ms)
      → list_any (is_mark n position) (cond i (m ∷ marks_of ds ms) (marks_of ds ms)) ≡ (is_some (find (is_numbered n) ds) && (is_mark n position m || list_any (is_mark n position) ms))
  by_mark false true is among later =
      ap (λ (b : Bool). b || list_any (is_mark n position) (marks_of ds ms)) is
      ∙ (later ∙ sym (ap (λ (b : Bool). is_some (find (is_numbered n) ds) && (b || list_any (is_mark n position) ms)) is))
  by_mark false false is among later = later ∙ sym (ap (λ (b : Bool). is_some (find (is_numbered n) ds) && (b || list_any (is_mark n position) ms)) is)
  by_mark true true is among later =
      ap (λ (b : Bool). b || list_any (is_mark n position) (marks_of ds ms)) is ∙ sym (λ i. there_is true is among i && (is i || list_any (is_mark n position) ms))
  by_mark true false is among later =
      later
      ∙ (ap (λ (b : Bool). b && list_any (is_mark n position) ms) (there_is false is among) ∙ sym (λ i. there_is false is among i && (is i || list_any (is_mark n position) ms)))

-- ---- frames

raised_some : (version : ℕ) → eqb (raised version) 0 ≡ false
raised_some version = by_test (ltb version LAST_VERSION) refl where
  by_test : (b : Bool) → ltb version LAST_VERSION ≡ b → eqb (cond b (version + 1) version) 0 ≡ false
  by_test true is = ne_eqb (version + 1) 0 (λ e. omega (arith, e))
  by_test false is = ne_eqb version 0 (λ e. omega (arith, e, ltb-false version LAST_VERSION is))

module _ (job slot : ℕ) where
  freed_used : (s : SlotRow) → is_frame_of job s ≡ true → used_row slot (freed_row job s) ≡ Some (row.Frame (record { slot = slot; version = raised s.version; frame = None }))
  freed_used s mine =
      ap (λ (b : Bool). used_row slot (cond b (record { version = raised s.version; frame = None; proc = None }) s)) mine
      ∙ ap (λ (b : Bool). cond b None (Some (row.Frame (record { slot = slot; version = raised s.version; frame = None })))) (raised_some s.version)

  pub freed_here : (slots : List SlotRow) (version : ℕ) → for_some (slice_get slots slot) (is_frame_of job) ≡ true → version ≡ version_in (slice_get slots slot)
      → option_and_then (used_row slot) (slice_get (map (freed_row job) slots) slot) ≡ Some (row.Frame (record { slot = slot; version = raised version; frame = None }))
  freed_here slots version mine is =
      let s = for_some_true (slice_get slots slot) (is_frame_of job) mine in
      ap (option_and_then (used_row slot)) (slice_get-map (freed_row job) slots slot ∙ ap (option_map (freed_row job)) s.1)
      ∙ (freed_used s.0 s.2 ∙ ap (λ (v : ℕ). Some (row.Frame (record { slot = slot; version = raised v; frame = None }))) (ap version_in (sym s.1) ∙ sym is))

  kept_row : (o : Option SlotRow) → for_some o (is_frame_of job) ≡ false → option_map (freed_row job) o ≡ o
  kept_row None other = refl
  kept_row (Some s) other = ap (λ (b : Bool). Some (cond b (record { version = raised s.version; frame = None; proc = None }) s)) other

  pub kept_here : (slots : List SlotRow) → for_some (slice_get slots slot) (is_frame_of job) ≡ false → slice_get (map (freed_row job) slots) slot ≡ slice_get slots slot
  kept_here slots other = slice_get-map (freed_row job) slots slot ∙ kept_row (slice_get slots slot) other

-- ---- what names a depend or a mark

none_gone : (n : ℕ) (groups : ℕ → List Watched) (ns : List ℕ) → list_any (is_named_by (key.Depend n)) (depends_gone groups ns) ≡ false → list_any (λ m. eqb m n) ns ≡ false
none_gone n groups [] none = refl
none_gone n groups (m ∷ ms) none =
    let first = either_false (eqb m n) (list_any (is_named_by (key.Depend n)) (map (mark_gone m) (groups m) ++ depends_gone groups ms)) none in
    let both = either_false (list_any (is_named_by (key.Depend n)) (map (mark_gone m) (groups m))) (list_any (is_named_by (key.Depend n)) (depends_gone groups ms))
    (sym (list_any-append (is_named_by (key.Depend n)) (map (mark_gone m) (groups m)) (depends_gone groups ms)) ∙ first.1) in
    λ i. first.0 i || none_gone n groups ms both.1 i

none_marked : (n position : ℕ) (groups : ℕ → List Watched) (ns : List ℕ) → list_any (is_named_by (key.Met n position)) (depends_gone groups ns) ≡ false → list_any (λ m. eqb m n) ns ≡ true
    → list_any (λ (w : Watched). eqb w.group.position position) (groups n) ≡ false
none_marked n position groups [] none there = absurd (false≢true there)
none_marked n position groups (m ∷ ms) none there =
    let both = either_false (list_any (is_named_by (key.Met n position)) (map (mark_gone m) (groups m))) (list_any (is_named_by (key.Met n position)) (depends_gone groups ms))
    (sym (list_any-append (is_named_by (key.Met n position)) (map (mark_gone m) (groups m)) (depends_gone groups ms)) ∙ none) in
    by_number (eqb m n) refl both.0 there (none_marked n position groups ms both.1)
  where
    by_number : (b : Bool) → eqb m n ≡ b → list_any (is_named_by (key.Met n position)) (map (mark_gone m) (groups m)) ≡ false → (b || list_any (λ k. eqb k n) ms) ≡ true
        → (list_any (λ k. eqb k n) ms ≡ true → list_any (λ (w : Watched). eqb w.group.position position) (groups n) ≡ false) → list_any (λ (w : Watched). eqb w.group.position position) (groups n) ≡ false
    by_number true is own any later =
        sym ((λ i. list_any (λ (w : Watched). is i && eqb w.group.position position) (groups m)) ∙ ap (λ (k : ℕ). list_any (λ (w : Watched). eqb w.group.position position) (groups k)) (eqb-true m n is))
        ∙ (sym (any_map (is_named_by (key.Met n position)) (mark_gone m) (groups m)) ∙ own)
    by_number false is own any later = later any

-- ---- all of them

-- The layers, frames and depends are those of the job; of these slots are the versions; and each mark of the farm is of one of its depend's groups.
pub record Covers (f : Farm) (job : ℕ) (acted : List SlotRow) (groups : ℕ → List Watched) (layers : List LayerRow) (frames depends : List ℕ) : Type 0 where
  pub layers_all : (place : ℕ) → list_any (λ (l : LayerRow). eqb l.place place) layers ≡ false → layer_at f job place ≡ None
  pub frames_all : (n : ℕ) → list_any (λ m. eqb m n) frames ≡ for_some (slice_get f.slots n) (is_frame_of job)
  pub versions : (n : ℕ) → for_some (slice_get f.slots n) (is_frame_of job) ≡ true → version_in (slice_get acted n) ≡ version_in (slice_get f.slots n)
  pub waits : (n : ℕ) → list_any (λ m. eqb m n) depends ≡ waits_in job f.depends n
  pub marks : (n position : ℕ) → list_any (is_mark n position) f.met ≡ true → list_any (λ (w : Watched). eqb w.group.position position) (groups n) ≡ true
  pub marked : (n position : ℕ) → list_any (is_mark n position) f.met ≡ true → is_some (find (is_numbered n) f.depends) ≡ true
  pub rise : IsRising depend_key 1 f.depends f.next_depend

module _ (f : Farm) (job : ℕ) (acted : List SlotRow) (groups : ℕ → List Watched) (layers : List LayerRow) (frames depends : List ℕ) (c : Covers f job acted groups layers frames depends) where
  abbrev left : List DependRow
  left = without_waiter job f.depends

  abbrev pub now : Farm
  now = record f { layers = filter (stays job) f.layers; slots = map (freed_row job) f.slots; depends = left; met = marks_of left f.met }

  says_layer : (l : LayerRow) → Says now (layer_gone job l)
  says_layer l = ap (option_map row.Layer) (no_layer job l.place f.layers)

  says_frames : (ns : List ℕ) → ((n : ℕ) → list_any (λ m. eqb m n) ns ≡ true → for_some (slice_get f.slots n) (is_frame_of job) ≡ true) → AllByRecursion (Says now) (map (freed_frame acted) ns)
  says_frames [] mine = tt
  says_frames (n ∷ ns) mine =
      let own = mine n (or_left (eqb n n) (list_any (λ m. eqb m n) ns) (eq-eqb n n refl)) in
      (freed_here job n f.slots (version_in (slice_get acted n)) own (c.versions n own), says_frames ns (λ m there. mine m (or_right (eqb n m) (list_any (λ k. eqb k m) ns) there)))

  gone_from : (n : ℕ) → waits_in job f.depends n ≡ true → find (is_numbered n) left ≡ None
  gone_from n waits = gone_depend job n 1 f.depends f.next_depend c.rise waits

  no_mark : (n position : ℕ) → waits_in job f.depends n ≡ true → list_any (is_mark n position) (marks_of left f.met) ≡ false
  no_mark n position waits = mark_left n position left f.met ∙ ap (λ (o : Option DependRow). is_some o && list_any (is_mark n position) f.met) (gone_from n waits)

  says_marks : (n : ℕ) → waits_in job f.depends n ≡ true → (w : Watched) → Says now (mark_gone n w)
  says_marks n waits w = ap (λ (b : Bool). cond b (Some (row.Met (record { depend = n; position = w.group.position }))) None) (no_mark n w.group.position waits)

  says_depends : (ns : List ℕ) → ((n : ℕ) → list_any (λ m. eqb m n) ns ≡ true → waits_in job f.depends n ≡ true) → AllByRecursion (Says now) (depends_gone groups ns)
  says_depends [] mine = tt
  says_depends (n ∷ ns) mine =
      let own = mine n (or_left (eqb n n) (list_any (λ m. eqb m n) ns) (eq-eqb n n refl)) in (
        ap (option_map row.Depend) (gone_from n own),
        says_append now (map (mark_gone n) (groups n)) (depends_gone groups ns) (says_map now (mark_gone n) (groups n) (says_marks n own))
            (says_depends ns (λ m there. mine m (or_right (eqb n m) (list_any (λ k. eqb k m) ns) there))),
      )

  says_all : AllByRecursion (Says now) (rows_gone acted groups job layers frames depends)
  says_all =
      says_append now (map (layer_gone job) layers) (map (freed_frame acted) frames ++ depends_gone groups depends) (says_map now (layer_gone job) layers says_layer)
      (says_append now (map (freed_frame acted) frames) (depends_gone groups depends) (says_frames frames (λ n there. sym (c.frames_all n) ∙ there)) (says_depends depends (λ n there. sym (c.waits n) ∙ there)))

  -- ---- what isn't named

  parts : (k : RowKey) → list_any (is_named_by k) (rows_gone acted groups job layers frames depends) ≡ false
      → (list_any (is_named_by k) (map (layer_gone job) layers) ≡ false) × ((list_any (is_named_by k) (map (freed_frame acted) frames) ≡ false) × (list_any (is_named_by k) (depends_gone groups depends) ≡ false))
  parts k none =
      let first = either_false (list_any (is_named_by k) (map (layer_gone job) layers)) (list_any (is_named_by k) (map (freed_frame acted) frames ++ depends_gone groups depends))
      (sym (list_any-append (is_named_by k) (map (layer_gone job) layers) (map (freed_frame acted) frames ++ depends_gone groups depends)) ∙ none) in
      let rest = either_false (list_any (is_named_by k) (map (freed_frame acted) frames)) (list_any (is_named_by k) (depends_gone groups depends))
      (sym (list_any-append (is_named_by k) (map (freed_frame acted) frames) (depends_gone groups depends)) ∙ first.1) in
      (first.0, (rest.0, rest.1))

  layer_stays : (n place : ℕ) → list_any (is_named_by (key.Layer n place)) (map (layer_gone job) layers) ≡ false → row_at now (key.Layer n place) ≡ row_at f (key.Layer n place)
  layer_stays n place none = by_job (eqb job n) refl where
    own : list_any (λ (l : LayerRow). eqb job n && eqb l.place place) layers ≡ false
    own = sym (any_map (is_named_by (key.Layer n place)) (layer_gone job) layers) ∙ none

    by_job : (b : Bool) → eqb job n ≡ b → row_at now (key.Layer n place) ≡ row_at f (key.Layer n place)
    by_job true is =
        let here : list_any (λ (l : LayerRow). eqb l.place place) layers ≡ false = sym (λ i. list_any (λ (l : LayerRow). is i && eqb l.place place) layers) ∙ own in
        subst (λ (m : ℕ). row_at now (key.Layer m place) ≡ row_at f (key.Layer m place)) (eqb-true job n is) (ap (option_map row.Layer) (no_layer job place f.layers ∙ sym (c.layers_all place here)))
    by_job false is = ap (option_map row.Layer) (other_layer job n place f.layers is)

  frame_stays : (n : ℕ) → list_any (is_named_by (key.Frame n)) (map (freed_frame acted) frames) ≡ false → row_at now (key.Frame n) ≡ row_at f (key.Frame n)
  frame_stays n none =
      let other : for_some (slice_get f.slots n) (is_frame_of job) ≡ false = sym (c.frames_all n) ∙ (sym (any_map (is_named_by (key.Frame n)) (freed_frame acted) frames) ∙ none) in
      ap (option_and_then (used_row n)) (kept_here job n f.slots other)

  depend_stays : (n : ℕ) → list_any (is_named_by (key.Depend n)) (depends_gone groups depends) ≡ false → row_at now (key.Depend n) ≡ row_at f (key.Depend n)
  depend_stays n none = ap (option_map row.Depend) (left_depend job n f.depends (sym (c.waits n) ∙ none_gone n groups depends none))

  mark_stays : (n position : ℕ) → list_any (is_named_by (key.Met n position)) (depends_gone groups depends) ≡ false → row_at now (key.Met n position) ≡ row_at f (key.Met n position)
  mark_stays n position none =
      ap (λ (b : Bool). cond b (Some (row.Met (record { depend = n; position = position }))) None) (mark_left n position left f.met ∙ by_mark (list_any (is_mark n position) f.met) refl)
    where
      waiting : (b : Bool) → list_any (λ m. eqb m n) depends ≡ b → list_any (is_mark n position) f.met ≡ true → b ≡ false
      waiting true is there = absurd (false≢true (sym (none_marked n position groups depends none is) ∙ c.marks n position there))
      waiting false is there = refl

      by_mark : (b : Bool) → list_any (is_mark n position) f.met ≡ b → (is_some (find (is_numbered n) left) && list_any (is_mark n position) f.met) ≡ list_any (is_mark n position) f.met
      by_mark true there =
          let apart : waits_in job f.depends n ≡ false = sym (c.waits n) ∙ waiting (list_any (λ m. eqb m n) depends) refl there in
          let kept : is_some (find (is_numbered n) left) ≡ true = ap is_some (left_depend job n f.depends apart) ∙ c.marked n position there in
          ap (λ (b : Bool). b && list_any (is_mark n position) f.met) kept
      by_mark false there = (λ i. is_some (find (is_numbered n) left) && there i) ∙ (and_off (is_some (find (is_numbered n) left)) ∙ sym there) where
        and_off : (b : Bool) → (b && false) ≡ false
        and_off true = refl
        and_off false = refl

  others : (k : RowKey) → is_head k ≡ false → list_any (is_named_by k) (rows_gone acted groups job layers frames depends) ≡ false → row_at now k ≡ row_at f k
  others (key.Layer n place) named none = layer_stays n place (parts (key.Layer n place) none).0
  others (key.Frame n) named none = frame_stays n (parts (key.Frame n) none).1.0
  others (key.Depend n) named none = depend_stays n (parts (key.Depend n) none).1.1
  others (key.Met n position) named none = mark_stays n position (parts (key.Met n position) none).1.1
  others other named none = refl

  -- they make the farm without them
  pub makes_gone : MakesRows f now (rows_gone acted groups job layers frames depends)
  makes_gone = makes_said f now (rows_gone acted groups job layers frames depends) says_all others
