-- What is kept, once a row came.
use Rattle.std.proofs.Common.{◌≡◌, ◌∙◌, ◌≤◌, ◌⊎◌, inl, inr, ℕ, ◌+◌, Bool, true, false, ◌&&◌, List, [], ◌∷◌, ◌++◌, map, length, Option, Some, cond, refl, sym, ap, subst, arith}
use Rattle.std.specs.List.{sum_by}
use Rattle.std.proofs.lemmas.Bool.{false≢true, lt-ltb}
use Rattle.std.proofs.lemmas.List.{map-append}
use Rattle.std.proofs.lemmas.List.Sums.{sum_by-append, sum_by-cons}
use Rattle.farm_types.specs.declared.depend.DependRow.{DependRow}
use Rattle.farm_types.specs.declared.depend.Group.{Group}
use Rattle.farm_types.specs.declared.depend.MetRow.{MetRow}
use Rattle.farm_types.specs.declared.rows.LimitRow.{LimitRow}
use Rattle.farm_types.specs.declared.limits.TheConstants.{MOST_GROUPS}
use Rattle.farm_types.specs.Depends.{groups_left}
use Rattle.farm_types.specs.Farm.{Farm}
use Rattle.farm_types.specs.Rising.{depend_key}
use Rattle.farm_law.proofs.KeptLists.{list_all-more}
use Rattle.farm_rows.specs.declared.farm_row.FarmRow.{FarmRow}
use Rattle.farm_rows.specs.declared.farm_row.FarmRow.TheVariants as row
use Rattle.farm_rows.specs.declared.ids.TheConstants.{GROUP_IDS}
use Rattle.farm_rows.specs.Recovery.{StoredKey, comes_after, groups_so_far, key_of, row_fits, with_stored}
use Rattle.farm_rows.specs.Rows.{row_kind}
use Rattle.farm_rows.proofs.RowOrder.{after_then, none_earlier}
use Rattle.stored_rows.specs.SoFar.{HasFewNumbers}
use Rattle.stored_rows.specs.Told.{Accepts, Told, is_next, told_with}
use Rattle.stored_rows.proofs.Until.{rises_kept, rises_more}
use Rattle.stored_farm.specs.Judged.{takes_depend, takes_mark}
use Rattle.stored_farm.specs.Kept.{KeepsDepends, groups_kept, has_own_id, met_id, with_depends}
use Rattle.stored_farm.proofs.JudgedSame.{kept_beside, left_of, mark_below, room_for}

-- limits don't matter to groups
so_far_apart : (f : Farm) (limit : ℕ) (r : LimitRow) (d : DependRow) → groups_so_far f d ≡ groups_so_far (with_stored f (row.Limit limit r)) d
unfolding groups_so_far
so_far_apart f limit r d = refl

limits_apart : (f : Farm) (limit : ℕ) (r : LimitRow) (d : DependRow) → groups_kept f d ≡ groups_kept (with_stored f (row.Limit limit r)) d
limits_apart f limit r d = ap (λ (gs : List Group). cond d.met_all [] gs) (so_far_apart f limit r d)

module _ (rows : Told) (last : Option StoredKey) (ds : List DependRow) (gs : List (List Group)) (ms : List MetRow) (left : ℕ) (h : KeepsDepends rows last ds gs ms left) where
  -- how many groups there are
  pub left_said : left ≡ groups_left (with_depends rows.farm ds ms)
  left_said = h.left_is ∙ (ap (sum_by (λ (xs : List Group). length xs)) h.groups_are ∙ left_of rows.farm ds ms)

  -- after a row of a kind of depends
  comes_later : (key : StoredKey) → key.0 ≤ 11 → comes_after last key ≡ true → (next : StoredKey) → next.0 ≤ 11 → comes_after (Some key) next ≡ true → comes_after rows.last next ≡ true
  comes_later key low after next below follows = after_then rows.last key next (h.comes key low after) follows

  -- a depend more
  pub depend_more : (r : DependRow) → HasFewNumbers rows.farm → comes_after last (9, r.depend) ≡ true → takes_depend (with_depends rows.farm ds ms) r ≡ true
      → KeepsDepends rows (Some (9, r.depend)) (ds ++ r ∷ []) (gs ++ groups_kept rows.farm r ∷ []) ms (left + length (groups_kept rows.farm r))
  depend_more r k after fits =
      let own = groups_kept rows.farm r in
      let long : List Group → ℕ = λ (xs : List Group). length xs in
      record {
        comes = comes_later (9, r.depend) (omega arith) after;
        early = λ key low follows. absurd (none_earlier (9, r.depend) key (omega (arith, low)) follows);
        depends_rise = rises_more depend_key ds r last 9 after h.depends_rise;
        met_rise = rises_kept met_id ms last (9, r.depend) 10 after h.met_rise;
        met_own = h.met_own;
        groups_are = ap (λ (xs : List (List Group)). xs ++ own ∷ []) h.groups_are ∙ sym (map-append (groups_kept rows.farm) ds (r ∷ []));
        left_is = omega (arith, h.left_is, sum_by-append long gs (own ∷ []), sum_by-cons long own []);
        few = room_for rows.farm k ds ms left left_said r h.few fits;
      }

  -- a mark more
  pub mark_more : (m : MetRow) → HasFewNumbers rows.farm → comes_after last (10, met_id m) ≡ true → takes_mark (with_depends rows.farm ds ms) m ≡ true
      → KeepsDepends rows (Some (10, met_id m)) ds gs (ms ++ m ∷ []) left
  mark_more m k after fits =
      record {
        comes = comes_later (10, met_id m) (omega arith) after;
        early = λ key low follows. absurd (none_earlier (10, met_id m) key (omega (arith, low)) follows);
        depends_rise = rises_kept depend_key ds last (10, met_id m) 9 after h.depends_rise;
        met_rise = rises_more met_id ms m last 10 after h.met_rise;
        met_own = list_all-more has_own_id ms m h.met_own (lt-ltb m.position GROUP_IDS (mark_below rows.farm k ds ms m fits));
        groups_are = h.groups_are;
        left_is = h.left_is;
        few = h.few;
      }

  -- another farm, where there are no depends yet
  same_groups : (f : Farm) → ds ≡ [] → gs ≡ map (groups_kept f) ds
  same_groups f none = h.groups_are ∙ (ap (map (groups_kept rows.farm)) none ∙ sym (ap (map (groups_kept f)) none))

  -- a row of a kind before those of depends
  pub early_more : (other : Told) (key : StoredKey) → key.0 ≤ 8 → comes_after last key ≡ true → other.last ≡ Some key → KeepsDepends other (Some key) ds gs ms left
  early_more other key low after is =
      let before = h.early key low after in
      record {
        comes = λ next below follows. subst (λ (o : Option StoredKey). comes_after o next ≡ true) (sym is) follows;
        early = λ next below follows. before;
        depends_rise = rises_kept depend_key ds last key 9 after h.depends_rise;
        met_rise = rises_kept met_id ms last key 10 after h.met_rise;
        met_own = h.met_own;
        groups_are = same_groups other.farm before;
        left_is = h.left_is;
        few = h.few;
      }

  -- where memory ran out at one: nothing comes after
  pub early_lost : (other : Told) (key : StoredKey) → key.0 ≤ 8 → comes_after last key ≡ true → KeepsDepends other (Some (12, 0)) ds gs ms left
  early_lost other key low after =
      let before = h.early key low after in
      record {
        comes = λ next below follows. absurd (none_earlier (12, 0) next (omega (arith, below)) follows);
        early = λ next below follows. absurd (none_earlier (12, 0) next (omega (arith, below)) follows);
        depends_rise = record { high = h.depends_rise.high; rise = h.depends_rise.rise; until = λ id follows. absurd (none_earlier (12, 0) (9, id) (omega arith) follows) };
        met_rise = record { high = h.met_rise.high; rise = h.met_rise.rise; until = λ id follows. absurd (none_earlier (12, 0) (10, id) (omega arith) follows) };
        met_own = h.met_own;
        groups_are = same_groups other.farm before;
        left_is = h.left_is;
        few = h.few;
      }

  -- a limit, whose row comes after those of depends
  pub limit_more : (limit : ℕ) (r : LimitRow) → comes_after last (11, limit) ≡ true → KeepsDepends (told_with rows (row.Limit limit r)) (Some (11, limit)) ds gs ms left
  limit_more limit r after =
      record {
        comes = λ next below follows. follows;
        early = λ next low follows. absurd (none_earlier (11, limit) next (omega (arith, low)) follows);
        depends_rise = rises_kept depend_key ds last (11, limit) 9 after h.depends_rise;
        met_rise = rises_kept met_id ms last (11, limit) 10 after h.met_rise;
        met_own = h.met_own;
        groups_are = h.groups_are ∙ (λ i. map (λ (d : DependRow). limits_apart rows.farm limit r d i) ds);
        left_is = h.left_is;
        few = h.few;
      }

  pub limit_taken : (limit : ℕ) (r : LimitRow) → comes_after last (11, limit) ≡ true → (other : Told) (n : ℕ) → other ≡ told_with rows (row.Limit limit r) → n ≡ limit → KeepsDepends other (Some (11, n)) ds gs ms left
  limit_taken limit r after other n took is =
      subst (λ (m : ℕ). KeepsDepends other (Some (11, m)) ds gs ms left) (sym is) (subst (λ (t : Told). KeepsDepends t (Some (11, limit)) ds gs ms left) (sym took) (limit_more limit r after))

  -- or it didn't fit
  pub early_same : (other : Told) → other ≡ rows → KeepsDepends other last ds gs ms left
  early_same other is = subst (λ (t : Told). KeepsDepends t last ds gs ms left) (sym is) h

-- ---- rows of other kinds don't see depends

-- of a kind before those of depends, or of the one after them
abbrev pub IsOther : FarmRow → Type 0
IsOther r = (row_kind r ≤ 8) ⊎ (row_kind r ≡ 11)

wrong_kind : {X : Type 0} (n : ℕ) → 9 ≤ n → n ≤ 10 → (n ≤ 8) ⊎ (n ≡ 11) → X
wrong_kind n high low (inl early) = absurd (omega (arith, high, early))
wrong_kind n high low (inr late) = absurd (omega (arith, low, late))

pub fits_beside : (format : ℕ) (f : Farm) (ds : List DependRow) (ms : List MetRow) (r : FarmRow) → IsOther r → row_fits format (with_depends f ds ms) r ≡ row_fits format f r
fits_beside format f ds ms (row.Head x) other = refl
fits_beside format f ds ms (row.Show n x) other = refl
fits_beside format f ds ms (row.Alloc n x) other = refl
fits_beside format f ds ms (row.Sub x) other = refl
fits_beside format f ds ms (row.Host n x) other = refl
fits_beside format f ds ms (row.Job x) other = refl
fits_beside format f ds ms (row.Layer x) other = refl
fits_beside format f ds ms (row.Frame x) other = refl
fits_beside format f ds ms (row.Depend x) other = wrong_kind 9 (omega arith) (omega arith) other
fits_beside format f ds ms (row.Met x) other = wrong_kind 10 (omega arith) (omega arith) other
fits_beside format f ds ms (row.Limit n x) other = refl

pub stored_beside : (f : Farm) (ds : List DependRow) (ms : List MetRow) (r : FarmRow) → IsOther r → with_stored (with_depends f ds ms) r ≡ with_depends (with_stored f r) ds ms
stored_beside f ds ms (row.Head x) other = refl
stored_beside f ds ms (row.Show n x) other = refl
stored_beside f ds ms (row.Alloc n x) other = refl
stored_beside f ds ms (row.Sub x) other = refl
stored_beside f ds ms (row.Host n x) other = refl
stored_beside f ds ms (row.Job x) other = refl
stored_beside f ds ms (row.Layer x) other = refl
stored_beside f ds ms (row.Frame x) other = refl
stored_beside f ds ms (row.Depend x) other = wrong_kind 9 (omega arith) (omega arith) other
stored_beside f ds ms (row.Met x) other = wrong_kind 10 (omega arith) (omega arith) other
stored_beside f ds ms (row.Limit n x) other = refl

-- the row was judged by the other rows alone
both_same : (a b c d : Bool) → a ≡ true → c ≡ true → b ≡ d → (a && b) ≡ (c && d)
both_same true b true d p q e = e
both_same false b c d p q e = absurd (false≢true p)
both_same true b false d p q e = absurd (false≢true q)

module _ (rows : Told) (last : Option StoredKey) (ds : List DependRow) (ms : List MetRow) (r : FarmRow) (kind : IsOther r) (after : comes_after last (key_of r) ≡ true) (before : comes_after rows.last (key_of r) ≡ true) where
  abbrev whole : Told → Told
  whole t = record { last = last; farm = with_depends t.farm ds ms; format = t.format }

  same_next : is_next (whole rows) r ≡ is_next rows r
  same_next =
      both_same (comes_after last (key_of r)) (row_fits rows.format (with_depends rows.farm ds ms) r) (comes_after rows.last (key_of r)) (row_fits rows.format rows.farm r) after before
      (fits_beside rows.format rows.farm ds ms r kind)

  pub taken_whole : (other : Told) → Accepts true rows r other → Accepts true (whole rows) r (record { last = Some (key_of r); farm = with_depends other.farm ds ms; format = other.format })
  taken_whole other took =
      let farm = ap (λ (t : Told). with_depends t.farm ds ms) took.1 ∙ sym (stored_beside rows.farm ds ms r kind) in
      (same_next ∙ took.0, λ i. record { last = Some (key_of r); farm = farm i; format = (took.1 i).format })

  pub left_whole : (other : Told) → Accepts false rows r other → Accepts false (whole rows) r (whole other)
  left_whole other took = (same_next ∙ took.0, ap whole took.1)

-- ---- what a row of a depend, or a mark, leaves

abbrev TellsOf : Told → Option StoredKey → List DependRow → List MetRow → Told → Type 0
TellsOf rows last ds ms t = ◌≡◌ {A = Told} (record { last = last; farm = with_depends rows.farm ds ms; format = rows.format }) t

module _ (rows : Told) (last : Option StoredKey) (ds : List DependRow) (gs : List (List Group)) (ms : List MetRow) (left : ℕ) (h : KeepsDepends rows last ds gs ms left) (t : Told) (is : TellsOf rows last ds ms t) (k : HasFewNumbers rows.farm) where
  module _ (r : DependRow) (groups : List Group) (after : comes_after t.last (9, r.depend) ≡ true) (own : groups ≡ groups_kept t.farm r) (fits : takes_depend t.farm r ≡ true) where
    own_groups : groups ≡ groups_kept rows.farm r
    own_groups = own ∙ (ap (λ (u : Told). groups_kept u.farm r) (sym is) ∙ kept_beside rows.farm ds ms r)

    own_fits : takes_depend (with_depends rows.farm ds ms) r ≡ true
    own_fits = ap (λ (u : Told). takes_depend u.farm r) is ∙ fits

    pub depend_room : left + length groups ≤ MOST_GROUPS
    depend_room =
        let room = room_for rows.farm k ds ms left (left_said rows last ds gs ms left h) r h.few own_fits in
        omega (arith, room, ap (λ (xs : List Group). length xs) own_groups)

    pub depend_kept : (n : ℕ) (news : List DependRow) (lists : List (List Group)) (m : ℕ) → n ≡ r.depend → news ≡ ds ++ r ∷ [] → lists ≡ gs ++ groups ∷ [] → m ≡ left + length groups → KeepsDepends rows (Some (9, n)) news lists ms m
    depend_kept n news lists m number now beside all =
        let kept = depend_more rows last ds gs ms left h r k (ap (λ (u : Told). comes_after u.last (9, r.depend)) is ∙ after) own_fits in
        let e = beside ∙ ap (λ (xs : List Group). gs ++ xs ∷ []) own_groups in
        let sum = all ∙ ap (λ (xs : List Group). left + length xs) own_groups in
        subst (λ (x : ℕ). KeepsDepends rows (Some (9, x)) news lists ms m) (sym number)
        (subst (λ (xs : List DependRow). KeepsDepends rows (Some (9, r.depend)) xs lists ms m) (sym now)
        (subst (λ (xs : List (List Group)). KeepsDepends rows (Some (9, r.depend)) (ds ++ r ∷ []) xs ms m) (sym e)
        (subst (λ (x : ℕ). KeepsDepends rows (Some (9, r.depend)) (ds ++ r ∷ []) (gs ++ groups_kept rows.farm r ∷ []) ms x) (sym sum) kept)))

  pub mark_kept : (m : MetRow) (n : ℕ) (news : List MetRow) → comes_after t.last (10, met_id m) ≡ true → takes_mark t.farm m ≡ true → n ≡ met_id m → news ≡ ms ++ m ∷ [] → KeepsDepends rows (Some (10, n)) ds gs news left
  mark_kept m n news after fits number now =
      let kept = mark_more rows last ds gs ms left h m k (ap (λ (u : Told). comes_after u.last (10, met_id m)) is ∙ after) (ap (λ (u : Told). takes_mark u.farm m) is ∙ fits) in
      subst (λ (x : ℕ). KeepsDepends rows (Some (10, x)) ds gs news left) (sym number) (subst (λ (xs : List MetRow). KeepsDepends rows (Some (10, met_id m)) ds gs xs left) (sym now) kept)
