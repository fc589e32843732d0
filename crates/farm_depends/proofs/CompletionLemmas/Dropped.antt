-- A depend is dropped: the book of depends without it, and the frames that open.
use Rattle.std.proofs.Common.{◌≡◌, ℕ, suc, ◌≤◌, Bool, true, false, cond, not, ◌||◌, eqb, List, [], ◌∷◌, map, length, Some, refl, sym, ap, subst, ◌∙◌, true≢false, arith}
use Rattle.std.specs.List.{AllZip, filter, list_any, slice_get}
use Rattle.std.proofs.lemmas.Bool.{and_parts, eqb-true}
use Rattle.std.proofs.lemmas.List.Folds.{list_all-map}
use Rattle.std.proofs.lemmas.Map.Views.{any-filter_same}
use Rattle.farm_types.specs.declared.depend.DependRow.{DependRow}
use Rattle.farm_types.specs.declared.depend.Group.{Group}
use Rattle.farm_types.specs.declared.depend.MetRow.{MetRow}
use Rattle.farm_types.specs.declared.limits.TheConstants.{SLOT_LIMIT}
use Rattle.farm_types.specs.declared.slot_row.SlotRow.{SlotRow}
use Rattle.farm_types.specs.DependActs.{dropped, satisfied_row}
use Rattle.farm_types.specs.Depends.{are_done, groups_of, is_done, is_open}
use Rattle.farm_types.specs.Farm.{Farm}
use Rattle.farm_types.specs.Settle.{is_met_now, opened_by, opens, settle, with_met}
use Rattle.farm_types.proofs.Lists.{list_all-from_at}
use Rattle.farm_types.proofs.Passes.{cond_each}
use Rattle.depend_graph.specs.Graph.{Watch, Watched, is_met, is_satisfied, met_group, met_where, opened_between, unmet_of, without_depend}
use Rattle.depend_book.specs.Book.{DependLists, IsBook, dropped_in, joined, marks_of, row_of, rows_of}
use Rattle.depend_law.proofs.Marks.{marks}
use Rattle.farm_depends.specs.declared.follow.Follow.{Follow}
use Rattle.depend_book.specs.Fits.{Fits, group_in}
use Rattle.farm_depends.specs.Follow.{after_follow, is_listed, put_opened}
use Rattle.farm_depends.proofs.BookChanges.{Advances, book_after, groups_after}
use Rattle.farm_depends.proofs.CompletionLemmas.Listed.{blocked_in, blocked_waits, listed_count, listed_opens}
use Rattle.farm_depends.proofs.CompletionLemmas.MetNow.{Settles, Tells, met_now_is, settled_farm}
use Rattle.depend_book.proofs.OpenUnmet.{open_unmet}
use Rattle.farm_depends.proofs.CompletionLemmas.Opens.{only_opened, settled_by}
use Rattle.depend_book.proofs.Pairs.{IsPair, pairs}
use Rattle.farm_depends.proofs.MovingLemmas.PutSlots.{opened_list}
use Rattle.depend_book.proofs.Zips.{map_in_turn, zip_changed, zip_length, zip_made}

-- the blocked frames that wait in no unmet group once the depend is dropped
abbrev pub dropping : Farm → DependLists → ℕ → List ℕ
dropping f b n = filter (blocked_in f.slots) (opened_between b.graph.depends (without_depend b.graph n).depends)

-- ---- the graph

-- the depend with all its groups met
abbrev all_met : Watch → Watch
all_met w = record w { groups = map met_group w.groups }

met_satisfied : (w : Watch) → is_satisfied (all_met w) ≡ true
met_satisfied w = list_all-map is_met met_group w.groups ∙ list_all-from_at (λ (x : Watched). is_met (met_group x)) w.groups (λ k x at. refl)

advance_met : (w : Watch) → Advances w (all_met w)
advance_met w = record { number = refl; groups = sym (map_in_turn group_in met_group group_in (λ x. refl) w.groups); satisfied = λ h. met_satisfied w }

advance_same : (w : Watch) → Advances w w
advance_same w = record { number = refl; groups = refl; satisfied = λ h. h }

advance : (n : ℕ) (w : Watch) → Advances w (met_where n w)
advance n w = cond_each (Advances w) (eqb w.depend n) (all_met w) w (advance_met w) (advance_same w)

-- ---- rows and marks

rows_dropped : (n : ℕ) (ds : List DependRow) (ws : List Watch) → length ds ≡ length ws → rows_of ds ws ≡ rows_of (map (satisfied_row n) ds) ws
rows_dropped n [] ws same = refl
rows_dropped n (d ∷ ds) [] same = absurd (omega arith)
rows_dropped n (d ∷ ds) (w ∷ ws) same =
    let row : row_of d w ≡ row_of (satisfied_row n d) w = cond_each (λ (e : DependRow). row_of d w ≡ row_of e w) (eqb d.depend n) (record d { met_all = true }) d refl refl in
    λ i. row i ∷ rows_dropped n ds ws (omega arith) i

-- marks of other depends are left
marks_left : (n : ℕ) (d : DependRow) (g : Group) (ms : List MetRow) → eqb d.depend n ≡ false → list_any (marks d g) (filter (λ (m : MetRow). not (eqb m.depend n)) ms) ≡ list_any (marks d g) ms
marks_left n d g ms other =
    any-filter_same (marks d g) (λ (m : MetRow). not (eqb m.depend n)) true
    (λ m h. ap (λ (k : ℕ). not (eqb k n)) (eqb-true m.depend d.depend (and_parts (eqb m.depend d.depend) (eqb m.position g.position) h).0) ∙ ap not other) ms

groups_dropped : (f : Farm) (b : DependLists) (n : ℕ) (d : DependRow) → groups_of (dropped (joined f b) n) d ≡ groups_of f d
unfolding groups_of
groups_dropped f b n d = refl

zip_own : {X Y : Type 0} (S : Y → X → Type 0) (h : X → Y) (xs : List X) → ((k : ℕ) (x : X) → slice_get xs k ≡ Some x → S (h x) x) → AllZip S (map h xs) xs
zip_own S h [] each = tt
zip_own S h (x ∷ xs) each = (each 0 x refl, zip_own S h xs (λ k y at. each (suc k) y at))

module _ (f : Farm) (b : DependLists) (n : ℕ) (book : IsBook b) (fits : Fits f b) (met : with_met (joined f b) ≡ joined f b) where
  -- ---- the book

  advances : AllZip Advances b.graph.depends (without_depend b.graph n).depends
  advances = zip_made Advances (met_where n) (advance n) b.graph.depends

  pub dropped_book : IsBook (dropped_in b n)
  dropped_book = book_after b (without_depend b.graph n) book advances book.flags

  pub dropped_fits : Fits f (dropped_in b n)
  dropped_fits = record { done = fits.done; groups = groups_after f f b (without_depend b.graph n) book fits (λ i d at unmet. refl) advances }

  -- ---- the farm

  module _ (i : ℕ) (d : DependRow) (w : Watch) (row : slice_get b.rows i ≡ Some d) (watch : slice_get b.graph.depends i ≡ Some w) (pair : IsPair f d w) where
    -- groups of other depends are met now where they were
    still_met : eqb d.depend n ≡ false → d.met_all ≡ false → (k : ℕ) (x : Watched) → slice_get w.groups k ≡ Some x → x.met ≡ is_met_now (dropped (joined f b) n) d x.group
    still_met other unmet k x group =
        sym (ap (λ (c : Bool). d.met_all || c || are_done (is_done f.slots) x.group) (marks_left n d x.group (marks_of b.graph.depends) other)
        ∙ met_now_is f b book fits met i k d w x row watch group unmet)

    told : eqb d.depend n ≡ false → d.met_all ≡ false → AllZip (Tells (dropped (joined f b) n) d) (groups_of (dropped (joined f b) n) d) w.groups
    told other unmet =
        subst (λ (gs : List Group). AllZip (Tells (dropped (joined f b) n) d) gs w.groups) (pair.groups unmet ∙ sym (groups_dropped f b n d))
        (zip_own (Tells (dropped (joined f b) n) d) group_in w.groups (λ k x group. record { group = refl; met = still_met other unmet k x group }))

    settles_by : (c : Bool) → eqb d.depend n ≡ c → Settles (dropped (joined f b) n) (cond c (record d { met_all = true }) d) (cond c (all_met w) w)
    settles_by true is = record { number = sym pair.number; satisfied = λ h. met_satisfied w; groups = λ unmet. absurd (true≢false unmet) }
    settles_by false is = record { number = sym pair.number; satisfied = λ h. sym pair.all ∙ h; groups = told is }

    settles : Settles (dropped (joined f b) n) (satisfied_row n d) (met_where n w)
    settles =
        subst (λ (k : ℕ). Settles (dropped (joined f b) n) (satisfied_row n d) (cond (eqb k n) (all_met w) w)) pair.number (settles_by (eqb d.depend n) refl)

  all_settle : AllZip (Settles (dropped (joined f b) n)) (map (satisfied_row n) b.rows) (map (met_where n) b.graph.depends)
  all_settle = zip_changed (IsPair f) (Settles (dropped (joined f b) n)) (satisfied_row n) (met_where n) b.rows b.graph.depends (pairs f b book fits) settles

  as_long : length b.rows ≡ length (map (met_where n) b.graph.depends)
  as_long = zip_length (IsPair f) b.rows b.graph.depends (pairs f b book fits) ∙ zip_length Advances b.graph.depends (map (met_where n) b.graph.depends) advances

  pub dropped_farm : joined f (dropped_in b n) ≡ with_met (dropped (joined f b) n)
  dropped_farm =
      ap (λ (ds : List DependRow). record (joined f b) { depends = ds; met = marks_of (map (met_where n) b.graph.depends) }) (rows_dropped n b.rows (map (met_where n) b.graph.depends) as_long)
      ∙ settled_farm (dropped (joined f b) n) (map (met_where n) b.graph.depends) all_settle

  -- ---- frames that open

  module _ (slots : length f.slots ≤ SLOT_LIMIT) (closed : (slot : ℕ) (s : SlotRow) → slice_get f.slots slot ≡ Some s → opens (joined f b) slot s ≡ false) where
    open_then : (slot : ℕ) → is_open (with_met (dropped (joined f b) n)) slot ≡ eqb (unmet_of (without_depend b.graph n).depends slot) 0
    open_then slot = ap (λ (k : Farm). is_open k slot) (sym dropped_farm) ∙ open_unmet f (dropped_in b n) dropped_book dropped_fits slot

    -- they are those that open
    pub dropping_listed : (slot : ℕ) (s : SlotRow) → slice_get f.slots slot ≡ Some s → is_listed (dropping f b n) slot ≡ opens (with_met (dropped (joined f b) n)) slot s
    dropping_listed =
        listed_opens f.slots b.graph.depends (without_depend b.graph n).depends (with_met (dropped (joined f b) n)) (blocked_waits f b book fits closed) open_then slots

    -- opened, they leave the farm settled
    pub dropping_farm : (w : Follow) → w.depends ≡ [] → w.dropped ≡ Some n → w.blocked ≡ [] → w.opened ≡ dropping f b n → after_follow (joined f b) w ≡ settle (dropped (joined f b) n)
    dropping_farm w depends drop blocked opened =
        only_opened (joined f b) w (Some n) (dropping f b n) depends drop blocked opened
        ∙ settled_by (dropped (joined f b) n) (put_opened (dropping f b n) f.slots) (opened_list (with_met (dropped (joined f b) n)) (dropping f b n) f.slots dropping_listed)

    -- and they are counted
    pub dropping_count : opened_by (dropped (joined f b) n) ≡ length (dropping f b n)
    unfolding opened_by
    dropping_count =
        listed_count f.slots b.graph.depends (without_depend b.graph n).depends (with_met (dropped (joined f b) n)) (blocked_waits f b book fits closed) open_then slots
