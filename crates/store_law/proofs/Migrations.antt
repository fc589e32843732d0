-- A migration: the batch of the rows whose spelling has changed since format 1 makes the farm's rows of format 1 those of the format in which rows are
-- written. It names each once, and no row that stays.
use Rattle.std.proofs.Common.{◌≡◌, ℕ, Bool, true, false, List, [], ◌∷◌, cond, map, Some, None, Less, refl, ap, sym, subst, ◌∙◌, inl, inr, is_eq, append-nil, arith}
use Rattle.std.specs.Prelude.{codes, option_and_then}
use Rattle.std.specs.FinMap.{get}
use Rattle.std.specs.List.{AllByRecursion, IsDistinct, filter, slice_get}
use Rattle.std.specs.Ordering.{eq_by_cmp}
use Rattle.std.proofs.lemmas.Bool.{false≢true}
use Rattle.std.proofs.lemmas.Map.Keys.{IsDistinct-cons, sorted_head, sorted_tail}
use Rattle.std.proofs.lemmas.Option.{none-some, same_Some}
use Rattle.serde_json.specs.Find.{get_member}
use Rattle.cue_json.specs.Lines.{object_in}
use Rattle.farm_types.specs.declared.rows.LayerRow.{LayerRow}
use Rattle.farm_types.specs.Farm.{Farm}
use Rattle.farm_types.specs.Kept.{IsKeptFarm}
use Rattle.farm_law.proofs.Filtered.{differ-filter}
use Rattle.farm_rows.specs.declared.farm_row.FarmRow.{FarmRow}
use Rattle.farm_rows.specs.declared.farm_row.FarmRow.TheVariants as row
use Rattle.farm_rows.specs.declared.head_row.HeadRow.{HeadRow}
use Rattle.farm_rows.specs.declared.head_row.TheConstants.{ROW_FORMAT}
use Rattle.farm_rows.specs.Recovery.{format_after}
use Rattle.farm_rows.specs.Rows.{HasRowsIn, head_in, recorded_in, rows_but_head, rows_in, rows_of}
use Rattle.farm_keeper.specs.declared.row.Row.{Row}
use Rattle.farm_keeper.specs.Rows.{Key, NamesEachOnce, after, is_among, key_cmp, key_of, keys_of}
use Rattle.farm_keeper.proofs.RowLaws.{after-other, after-put, same_rows}
use Rattle.row_codec.specs.RowFields.{layer_fields, limit_mark, row_fields, text_in, whole}
use Rattle.row_codec.specs.RowLaws.{Fits}
use Rattle.row_codec.proofs.Objects.{object_back}
use Rattle.row_codec.proofs.ReadBack.{spelled_once}
use Rattle.row_codec.proofs.RowsFit.{fields_fit, keys_rise}
use Rattle.store_law.proofs.Batches.{among_has, contains, has_among, same_options}
use Rattle.store_law.proofs.InOrder.{pairs, rows_rise}
use Rattle.store_law.proofs.Keys.{pair_of}
use Rattle.store_law.proofs.Members.{Has, all_has, has_at, has_kept, has_map, has_mapped, kept_has}
use Rattle.store_law.proofs.RowsFit.{fits_each}
use Rattle.store_law.proofs.StoredRows.{Rise, behind_first, get_row, got_row, none_before_itself}
use Rattle.store_law.specs.Stored.{is_migrated, migration, stored_in, stored_row}

-- ---- each once

nothing_apart : IsDistinct (eq_by_cmp key_cmp) []
unfolding IsDistinct
nothing_apart = tt

all_apart : (first : Key) (rows : List FarmRow) → AllByRecursion (λ key. key_cmp first key ≡ Less) (pairs rows) → AllByRecursion (λ key. eq_by_cmp key_cmp first key ≡ false) (map pair_of rows)
all_apart first [] all = tt
all_apart first (r ∷ rs) all = (ap is_eq all.0, all_apart first rs all.1)

-- rows that rise differ in kind or id
rows_apart : (rows : List FarmRow) → Rise rows → IsDistinct (eq_by_cmp key_cmp) (map pair_of rows)
rows_apart [] rise = nothing_apart
rows_apart (r ∷ rs) rise =
    IsDistinct-cons (eq_by_cmp key_cmp) (pair_of r) (map pair_of rs) (all_apart (pair_of r) rs (sorted_head key_cmp (pair_of r) (pairs rs) rise))
    (rows_apart rs (sorted_tail key_cmp (pair_of r) (pairs rs) rise))

pairs_are : (rows : List FarmRow) → pairs rows ≡ map pair_of rows
pairs_are [] = refl
pairs_are (r ∷ rs) = ap (λ (keys : List Key). pair_of r ∷ keys) (pairs_are rs)

-- ---- rows that stay

-- a row that isn't migrated has one spelling
same_text : (r : FarmRow) → is_migrated r ≡ false → text_in 1 r ≡ text_in ROW_FORMAT r
same_text (row.Head head) stays = absurd (false≢true (sym stays))
same_text (row.Show show r) stays = refl
same_text (row.Alloc alloc r) stays = refl
same_text (row.Sub r) stays = refl
same_text (row.Host host r) stays = refl
same_text (row.Job r) stays = refl
same_text (row.Layer r) stays = absurd (false≢true (sym stays))
same_text (row.Frame r) stays = refl
same_text (row.Depend r) stays = refl
same_text (row.Met r) stays = refl
same_text (row.Limit limit r) stays = refl

-- ---- rows that change

-- a layer's row has its limit's field in one format alone
no_field : (l : LayerRow) → get_member (codes "limit") (layer_fields 1 l) ≡ None
unfolding layer_fields
no_field l = refl

its_field : (l : LayerRow) → get_member (codes "limit") (layer_fields ROW_FORMAT l) ≡ Some (whole (limit_mark l.limit))
unfolding layer_fields
its_field l = refl

layer_changes : (l : LayerRow) → Fits (row.Layer l) → text_in 1 (row.Layer l) ≡ text_in ROW_FORMAT (row.Layer l) → ⊥
layer_changes l fits same =
    let old = object_back (row_fields 1 (row.Layer l)) (fields_fit 1 (row.Layer l) fits) (keys_rise 1 (row.Layer l)) in
    let new = object_back (row_fields ROW_FORMAT (row.Layer l)) (fields_fit ROW_FORMAT (row.Layer l) fits) (keys_rise ROW_FORMAT (row.Layer l)) in
    let both : Some (layer_fields 1 l) ≡ Some (layer_fields ROW_FORMAT l) = sym old ∙ ap object_in same ∙ new in
    none-some (whole (limit_mark l.limit)) (sym (no_field l) ∙ ap (option_and_then (get_member (codes "limit"))) both ∙ its_field l)

module _ (f : Farm) (kept : IsKeptFarm f) (has : HasRowsIn 1 f) (made : f.recorded ≡ true) where
  -- the rows that are put, and their kinds and ids
  abbrev put : List FarmRow
  put = filter is_migrated (rows_of f)

  abbrev named : List Key
  named = keys_of (migration f)

  named_are : named ≡ map pair_of put
  named_are = append-nil (pairs put) ∙ pairs_are put

  pub named_once : NamesEachOnce (migration f)
  named_once =
      subst (IsDistinct (eq_by_cmp key_cmp)) (sym named_are)
      (differ-filter pair_of (eq_by_cmp key_cmp) is_migrated (rows_of f) (rows_apart (rows_of f) (rows_rise ROW_FORMAT f kept (inl refl))))

  has_rows : (format : ℕ) (r : FarmRow) → Has (recorded_in format f) r → Has (rows_in format f) r
  has_rows format r h = subst (λ (b : Bool). Has (cond b (recorded_in format f) []) r) (sym made) h

  from_rows : (format : ℕ) (r : FarmRow) → Has (rows_in format f) r → Has (recorded_in format f) r
  from_rows format r h = subst (λ (b : Bool). Has (cond b (recorded_in format f) []) r) made h

  -- a row that is migrated is named
  is_named : (r : FarmRow) → Has (rows_of f) r → is_migrated r ≡ true → is_among named (pair_of r) ≡ true
  is_named r h migrated =
      has_among named (pair_of r) (subst (λ (keys : List Key). Has keys (pair_of r)) (sym named_are) (has_map pair_of put r (has_kept is_migrated (rows_of f) r migrated h)))

  -- ---- at a kind and an id that isn't named

  module _ (q : Key) (apart : is_among named q ≡ false) where
    -- the farm's own row is named, in either format
    not_head : (format : ℕ) → pair_of (row.Head (head_in format f)) ≡ q → ⊥
    not_head format is = false≢true (sym apart ∙ subst (λ (p : Key). is_among named p ≡ true) is (is_named (row.Head (head_in ROW_FORMAT f)) (has_rows ROW_FORMAT (row.Head (head_in ROW_FORMAT f)) (inl refl)) refl))

    stays_by : (r : FarmRow) → Has (rows_but_head f) r → pair_of r ≡ q → (b : Bool) → is_migrated r ≡ b → is_migrated r ≡ false
    stays_by r h is true migrated = absurd (false≢true (sym apart ∙ subst (λ (p : Key). is_among named p ≡ true) is (is_named r (has_rows ROW_FORMAT r (inr h)) migrated)))
    stays_by r h is false migrated = migrated

    -- a row there is one of both formats, with one spelling
    other_row : (format : ℕ) (r : FarmRow) → Has (recorded_in format f) r → pair_of r ≡ q → Has (rows_but_head f) r × (is_migrated r ≡ false)
    other_row format r (inl here) is = absurd (not_head format (ap pair_of here ∙ is))
    other_row format r (inr h) is = (h, stays_by r h is (is_migrated r) refl)

    old_stays : (text : List ℕ) → get (stored_in 1 f) q ≡ Some text → get (stored_in ROW_FORMAT f) q ≡ Some text
    old_stays text at =
        let got = got_row 1 f q text at in
        let r = got.0 in
        let other = other_row 1 r (from_rows 1 r got.1.0) got.1.1 in
        ap (get (stored_in ROW_FORMAT f)) (sym got.1.1) ∙ get_row ROW_FORMAT f kept (inl refl) r (has_rows ROW_FORMAT r (inr other.0))
        ∙ ap (λ (bytes : List ℕ). Some bytes) (sym (same_text r other.1) ∙ got.1.2)

    new_stood : (text : List ℕ) → get (stored_in ROW_FORMAT f) q ≡ Some text → get (stored_in 1 f) q ≡ Some text
    new_stood text at =
        let got = got_row ROW_FORMAT f q text at in
        let r = got.0 in
        let other = other_row ROW_FORMAT r (from_rows ROW_FORMAT r got.1.0) got.1.1 in
        ap (get (stored_in 1 f)) (sym got.1.1) ∙ get_row 1 f kept has r (has_rows 1 r (inr other.0)) ∙ ap (λ (bytes : List ℕ). Some bytes) (same_text r other.1 ∙ got.1.2)

    at_unnamed : get (after (migration f) (stored_in 1 f)) q ≡ get (stored_in ROW_FORMAT f) q
    at_unnamed = after-other (migration f) (stored_in 1 f) q apart ∙ same_options (get (stored_in 1 f) q) (get (stored_in ROW_FORMAT f) q) old_stays new_stood

  -- ---- at one that is

  at_put : (q : Key) → Has (map pair_of put) q → get (after (migration f) (stored_in 1 f)) q ≡ get (stored_in ROW_FORMAT f) q
  at_put q h =
      let from = has_mapped pair_of put q h in
      let r = from.0 in
      let was = kept_has is_migrated (rows_of f) r from.1 in
      ap (get (after (migration f) (stored_in 1 f))) (sym from.2)
      ∙ after-put (migration f) (stored_in 1 f) (stored_row r) named_once (contains (map stored_row put) (stored_row r) (has_map stored_row put r from.1))
      ∙ sym (get_row ROW_FORMAT f kept (inl refl) r was.0) ∙ ap (get (stored_in ROW_FORMAT f)) from.2

  at_any : (q : Key) (b : Bool) → is_among named q ≡ b → get (after (migration f) (stored_in 1 f)) q ≡ get (stored_in ROW_FORMAT f) q
  at_any q true is = at_put q (subst (λ (keys : List Key). Has keys q) named_are (among_has named q is))
  at_any q false is = at_unnamed q is

  pub rows_migrated : after (migration f) (stored_in 1 f) ≡ stored_in ROW_FORMAT f
  rows_migrated = same_rows (after (migration f) (stored_in 1 f)) (stored_in ROW_FORMAT f) (λ q. at_any q (is_among named q) refl)

  -- ---- what is put wasn't there

  abbrev head : ℕ → FarmRow
  head format = row.Head (head_in format f)

  old_fits : (r : FarmRow) → Has (recorded_in 1 f) r → Fits r
  old_fits r h = all_has Fits (rows_in 1 f) r (fits_each 1 f kept has) (has_rows 1 r h)

  new_fits : (r : FarmRow) → Has (recorded_in ROW_FORMAT f) r → Fits r
  new_fits r h = all_has Fits (rows_of f) r (fits_each ROW_FORMAT f kept (inl refl)) (has_rows ROW_FORMAT r h)

  head_changes : text_in 1 (head 1) ≡ text_in ROW_FORMAT (head ROW_FORMAT) → ⊥
  head_changes same =
      let one = spelled_once ROW_FORMAT (head 1) (head ROW_FORMAT) (old_fits (head 1) (inl refl), inl refl) (new_fits (head ROW_FORMAT) (inl refl), inl refl) refl refl same in
      let formats : 1 ≡ ROW_FORMAT = ap (format_after 0) one in
      omega (arith, formats)

  -- the farm's own row is the first one
  one_head : (h : HeadRow) → Has (rows_but_head f) (row.Head h) → ⊥
  one_head h there =
      let rise = subst (λ (b : Bool). Rise (cond b (recorded_in ROW_FORMAT f) [])) made (rows_rise ROW_FORMAT f kept (inl refl)) in
      none_before_itself (1, 0) (1, 0) refl (behind_first (head ROW_FORMAT) (rows_but_head f) (row.Head h) rise there)

  other_changes : (r : FarmRow) → Has (rows_but_head f) r → is_migrated r ≡ true → get (stored_in 1 f) (pair_of r) ≡ Some (text_in ROW_FORMAT r) → ⊥
  other_changes (row.Head h) there migrated at = one_head h there
  other_changes (row.Layer l) there migrated at =
      let old = get_row 1 f kept has (row.Layer l) (has_rows 1 (row.Layer l) (inr there)) in
      layer_changes l (old_fits (row.Layer l) (inr there)) (same_Some (text_in 1 (row.Layer l)) (text_in ROW_FORMAT (row.Layer l)) (sym old ∙ at))
  other_changes (row.Show n x) there migrated at = false≢true migrated
  other_changes (row.Alloc n x) there migrated at = false≢true migrated
  other_changes (row.Sub x) there migrated at = false≢true migrated
  other_changes (row.Host n x) there migrated at = false≢true migrated
  other_changes (row.Job x) there migrated at = false≢true migrated
  other_changes (row.Frame x) there migrated at = false≢true migrated
  other_changes (row.Depend x) there migrated at = false≢true migrated
  other_changes (row.Met x) there migrated at = false≢true migrated
  other_changes (row.Limit n x) there migrated at = false≢true migrated

  row_changes : (r : FarmRow) → Has (recorded_in ROW_FORMAT f) r → is_migrated r ≡ true → get (stored_in 1 f) (pair_of r) ≡ Some (text_in ROW_FORMAT r) → ⊥
  row_changes r (inl here) migrated at =
      let new = subst (λ (x : FarmRow). get (stored_in 1 f) (pair_of x) ≡ Some (text_in ROW_FORMAT x)) (sym here) at in
      let old = get_row 1 f kept has (head 1) (has_rows 1 (head 1) (inl refl)) in
      head_changes (same_Some (text_in 1 (head 1)) (text_in ROW_FORMAT (head ROW_FORMAT)) (sym old ∙ new))
  row_changes r (inr h) migrated at = other_changes r h migrated at

  pub put_changes : (x : Row) → Has (map stored_row put) x → get (stored_in 1 f) (key_of x) ≡ Some x.bytes → ⊥
  put_changes x h at =
      let from = has_mapped stored_row put x h in
      let was = kept_has is_migrated (rows_of f) from.0 from.1 in
      row_changes from.0 (from_rows ROW_FORMAT from.0 was.0) was.1 (subst (λ (y : Row). get (stored_in 1 f) (key_of y) ≡ Some y.bytes) (sym from.2) at)

-- ---- a farm that has rows in format 1

made_by : (f : Farm) → HasRowsIn 1 f → f.recorded ≡ true
made_by f (inl same) = let never : ⊥ = omega (arith, same) in absurd never
made_by f (inr old) = old.1

pub all_migrated : (f : Farm) → IsKeptFarm f → HasRowsIn 1 f → after (migration f) (stored_in 1 f) ≡ stored_in ROW_FORMAT f
all_migrated f kept has = rows_migrated f kept has (made_by f has)

pub all_named_once : (f : Farm) → IsKeptFarm f → HasRowsIn 1 f → NamesEachOnce (migration f)
all_named_once f kept has = named_once f kept has (made_by f has)

pub all_changed : (f : Farm) (n : ℕ) (r : Row) → IsKeptFarm f → HasRowsIn 1 f → slice_get (migration f).puts n ≡ Some r → get (stored_in 1 f) (key_of r) ≡ Some r.bytes → ⊥
all_changed f n r kept has at there = put_changes f kept has (made_by f has) r (has_at (migration f).puts n r at) there
