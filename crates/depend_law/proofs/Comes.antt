-- How a depend's row comes from that of an earlier farm: what is met stays so, and each mark that comes is of a group whose targets are done.
use Rattle.std.proofs.Common.{◌≡◌, ◌≤◌, ℕ, suc, zero, ◌+◌, Bool, true, false, cond, ◌&&◌, ◌||◌, not, eqb, List, [], ◌∷◌, ◌++◌, map, Some, refl, ap, sym, subst, ◌∙◌, ◌⊎◌, inl, inr, arith}
use Rattle.std.specs.List.{list_all, slice_get}
use Rattle.std.proofs.lemmas.Bool.{eqb-true, false≢true, or_cases, or_left, or_parts, or_right, true≢false}
use Rattle.std.proofs.lemmas.Option.{none-some, same_Some}
use Rattle.farm_types.specs.declared.depend.DependRow.{DependRow}
use Rattle.farm_types.specs.declared.depend.DependSpec.{DependSpec}
use Rattle.farm_types.specs.declared.depend.Group.{Group}
use Rattle.farm_types.specs.declared.depend.MetRow.{MetRow}
use Rattle.farm_types.specs.DependActs.{add_depend, add_depends, dropped, new_depend, satisfied_row}
use Rattle.farm_types.specs.Depends.{are_done, groups_of, is_done, is_marked, is_met}
use Rattle.farm_types.specs.Farm.{Farm}
use Rattle.farm_types.specs.Rising.{IsRising, depend_key}
use Rattle.farm_types.specs.Settle.{is_met_now, settle, settled_row, with_blocked, with_met}
use Rattle.farm_types.proofs.Lists.{and_both}
use Rattle.farm_law.proofs.KeptJobsLists.{rising-append, rising-map}
use Rattle.depend_law.proofs.MetAgain.{groups_met, met_is, positions_rise}
use Rattle.depend_law.proofs.Marks.{marked_rows, marks}
use Rattle.depend_law.proofs.Shapes.{blocked_frames, opened_frames}
use Rattle.depend_law.proofs.Stable.{SameGroups, met_same, same_groups}
use Rattle.depend_law.proofs.Without.{any_kept}

-- the row of a depend, from that of its number
pub record Comes (D : Group → Type 0) (f g : Farm) (d e : DependRow) : Type 0 where
  pub number : e.depend ≡ d.depend
  pub all : d.met_all ≡ true → e.met_all ≡ true
  pub groups : e.met_all ≡ false → groups_of g e ≡ groups_of f d
  pub stays : (k : ℕ) (x : Group) → slice_get (groups_of f d) k ≡ Some x → is_met f d x ≡ true → is_met g e x ≡ true
  pub earned : (k : ℕ) (x : Group) → e.met_all ≡ false → slice_get (groups_of f d) k ≡ Some x → is_marked g e x ≡ true → (is_marked f d x ≡ true) ⊎ D x

-- the row of a new depend
pub record IsNew (D : Group → Type 0) (f g : Farm) (e : DependRow) : Type 0 where
  pub number : f.next_depend ≤ e.depend
  pub earned : (k : ℕ) (x : Group) → e.met_all ≡ false → slice_get (groups_of g e) k ≡ Some x → is_marked g e x ≡ true → D x

abbrev pub From : (D : Group → Type 0) → Farm → Farm → DependRow → Type 0
From D f g e = ((n : ℕ) × (d : DependRow) × (slice_get f.depends n ≡ Some d) × Comes D f g d e) ⊎ IsNew D f g e

-- so each row of the later farm comes, and numbers go on
pub record AllCome (D : Group → Type 0) (f g : Farm) : Type 0 where
  pub next : f.next_depend ≤ g.next_depend
  pub rows : (n : ℕ) (e : DependRow) → slice_get g.depends n ≡ Some e → From D f g e

-- ---- one after the other

not_all : (a b : Bool) → (a ≡ true → b ≡ true) → b ≡ false → a ≡ false
not_all true b more none = absurd (true≢false (sym (more refl) ∙ none))
not_all false b more none = refl

module _ (D : Group → Type 0) (f a g : Farm) where
  stays_by : (d h e : DependRow) (b : Bool) → h.met_all ≡ b → Comes D f a d h → Comes D a g h e → (k : ℕ) (x : Group) → slice_get (groups_of f d) k ≡ Some x → is_met f d x ≡ true → is_met g e x ≡ true
  stays_by d h e true is first second k x there met = or_left e.met_all (is_marked g e x) (second.all is)
  stays_by d h e false is first second k x there met =
      second.stays k x (ap (λ (gs : List Group). slice_get gs k) (first.groups is) ∙ there) (first.stays k x there met)

  comes_then : (d h e : DependRow) → Comes D f a d h → Comes D a g h e → Comes D f g d e
  comes_then d h e first second =
      record {
        number = second.number ∙ first.number;
        all = λ is. second.all (first.all is);
        groups = λ none. second.groups none ∙ first.groups (not_all h.met_all e.met_all second.all none);
        stays = stays_by d h e h.met_all refl first second;
        earned = λ k x none there marked.
            let unmet = not_all h.met_all e.met_all second.all none in
            was k x unmet there first (second.earned k x none (ap (λ (gs : List Group). slice_get gs k) (first.groups unmet) ∙ there) marked);
      }
    where
      was : (k : ℕ) (x : Group) → h.met_all ≡ false → slice_get (groups_of f d) k ≡ Some x → Comes D f a d h → (is_marked a h x ≡ true) ⊎ D x → (is_marked f d x ≡ true) ⊎ D x
      was k x unmet there first (inl marked) = first.earned k x unmet there marked
      was k x unmet there first (inr done) = inr done

  new_then : (h e : DependRow) → IsNew D f a h → Comes D a g h e → IsNew D f g e
  new_then h e first second =
      record {
        number = omega (arith, first.number, second.number);
        earned = λ k x none there marked.
            let unmet = not_all h.met_all e.met_all second.all none in
            let here : slice_get (groups_of a h) k ≡ Some x = ap (λ (gs : List Group). slice_get gs k) (sym (second.groups none)) ∙ there in
            was k x unmet here first (second.earned k x none here marked);
      }
    where
      was : (k : ℕ) (x : Group) → h.met_all ≡ false → slice_get (groups_of a h) k ≡ Some x → IsNew D f a h → (is_marked a h x ≡ true) ⊎ D x → D x
      was k x unmet here first (inl marked) = first.earned k x unmet here marked
      was k x unmet here first (inr done) = done

  from_then : (e : DependRow) → f.next_depend ≤ a.next_depend → ((n : ℕ) (h : DependRow) → slice_get a.depends n ≡ Some h → From D f a h) → From D a g e → From D f g e
  from_then e next first (inr new) = inr (record { number = omega (arith, next, new.number); earned = new.earned })
  from_then e next first (inl row) = joined (first row.0 row.1 row.2)
    where
      joined : From D f a row.1 → From D f g e
      joined (inl old) = inl (old.0, old.1, old.2, comes_then old.1 row.1 e old.3 row.3)
      joined (inr new) = inr (new_then row.1 e new row.3)

  pub come_then : AllCome D f a → AllCome D a g → AllCome D f g
  come_then first second =
      record { next = omega (arith, first.next, second.next); rows = λ n e at. from_then e first.next first.rows (second.rows n e at) }

-- a weaker fact of what is done
module _ (D E : Group → Type 0) (weaker : (x : Group) → D x → E x) (f g : Farm) where
  either_weaker : {X : Type 0} (x : Group) → X ⊎ D x → X ⊎ E x
  either_weaker x (inl h) = inl h
  either_weaker x (inr h) = inr (weaker x h)

  from_weaker : (e : DependRow) → From D f g e → From E f g e
  from_weaker e (inl row) =
      let c = row.3 in
      inl (row.0, row.1, row.2, record { number = c.number; all = c.all; groups = c.groups; stays = c.stays; earned = λ k x none there marked. either_weaker x (c.earned k x none there marked) })
  from_weaker e (inr new) = inr (record { number = new.number; earned = λ k x none there marked. weaker x (new.earned k x none there marked) })

  pub come_weaker : AllCome D f g → AllCome E f g
  come_weaker all = record { next = all.next; rows = λ n e at. from_weaker e (all.rows n e at) }

-- ---- farms whose depends stay with their groups

module _ (D : Group → Type 0) (f g : Farm) (same : SameGroups f g) where
  marked_same : (d : DependRow) (x : Group) → is_marked g d x ≡ is_marked f d x
  marked_same d x = ap (λ (ms : List MetRow). is_marked (record f { met = ms }) d x) same.met

  pub come_same : g.next_depend ≡ f.next_depend → AllCome D f g
  come_same next =
      record {
        next = omega (arith, next);
        rows = λ n e at.
            let was : slice_get f.depends n ≡ Some e = ap (λ (ds : List DependRow). slice_get ds n) (sym same.depends) ∙ at in
            inl (
              n,
              e,
              was,
              record {
                number = refl;
                all = λ h. h;
                groups = same.groups n e was;
                stays = λ k x there met. met_same f g same e x ∙ met;
                earned = λ k x none there marked. inl (sym (marked_same e x) ∙ marked);
              },
            );
      }

-- ---- depends that are added

-- no mark is of a number that comes
abbrev pub NoneAhead : Farm → Type 0
NoneAhead f = (d : DependRow) (x : Group) → f.next_depend ≤ d.depend → is_marked f d x ≡ false

pub at_end : {X : Type 0} (xs : List X) (y : X) (n : ℕ) (x : X) → slice_get (xs ++ y ∷ []) n ≡ Some x → (slice_get xs n ≡ Some x) ⊎ (y ≡ x)
at_end [] y zero x at = inr (same_Some y x at)
at_end [] y (suc n) x at = absurd (none-some x at)
at_end (z ∷ zs) y zero x at = inl at
at_end (z ∷ zs) y (suc n) x at = at_end zs y n x at

module _ (D : Group → Type 0) (f : Farm) (none : NoneAhead f) (spec : DependSpec) where
  added_groups : (d : DependRow) → groups_of (add_depend f spec) d ≡ groups_of f d
  unfolding groups_of
  added_groups d = refl

  added_row : (n : ℕ) (e : DependRow) → (slice_get f.depends n ≡ Some e) ⊎ (new_depend f spec ≡ e) → From D f (add_depend f spec) e
  added_row n e (inl at) =
      inl (
        n,
        e,
        at,
        record {
          number = refl;
          all = λ h. h;
          groups = λ unmet. added_groups e;
          stays = λ k x there met. met;
          earned = λ k x unmet there marked. inl marked;
        },
      )
  added_row n e (inr is) =
      let number : f.next_depend ≤ e.depend = subst (λ (d : DependRow). f.next_depend ≤ d.depend) is (omega arith) in
      inr (record { number = number; earned = λ k x unmet there marked. absurd (false≢true (sym (none e x number) ∙ marked)) })

  add_comes : AllCome D f (add_depend f spec)
  add_comes = record { next = omega arith; rows = λ n e at. added_row n e (at_end f.depends (new_depend f spec) n e at) }

  none_added : NoneAhead (add_depend f spec)
  none_added d x above = none d x (omega (arith, above))

pub adds_come : (D : Group → Type 0) (f : Farm) (specs : List DependSpec) → NoneAhead f → AllCome D f (add_depends f specs)
adds_come D f [] none = record { next = omega arith; rows = λ n e at. inl (n, e, at, record { number = refl; all = λ h. h; groups = λ unmet. refl; stays = λ k x there met. met; earned = λ k x unmet there marked. inl marked }) }
adds_come D f (spec ∷ specs) none =
    come_then D f (add_depend f spec) (add_depends (add_depend f spec) specs) (add_comes D f none spec) (adds_come D (add_depend f spec) specs (none_added D f none spec))

pub adds_rise : (f : Farm) (specs : List DependSpec) → IsRising depend_key 1 f.depends f.next_depend → IsRising depend_key 1 (add_depends f specs).depends (add_depends f specs).next_depend
adds_rise f [] rise = rise
adds_rise f (spec ∷ specs) rise =
    adds_rise (add_depend f spec) specs (rising-append depend_key 1 f.next_depend (f.next_depend + 1) f.depends (new_depend f spec ∷ []) rise (omega arith, omega arith))

pub adds_slots : (f : Farm) (specs : List DependSpec) → (add_depends f specs).slots ≡ f.slots
adds_slots f [] = refl
adds_slots f (spec ∷ specs) = adds_slots (add_depend f spec) specs

-- ---- a depend that is dropped

pub mapped_at : {X Y : Type 0} (change : X → Y) (xs : List X) (n : ℕ) (y : Y) → slice_get (map change xs) n ≡ Some y → (x : X) × (slice_get xs n ≡ Some x) × (change x ≡ y)
mapped_at change [] n y at = absurd (none-some y at)
mapped_at change (x ∷ xs) zero y at = (x, refl, same_Some (change x) y at)
mapped_at change (x ∷ xs) (suc n) y at = mapped_at change xs n y at

module _ (D : Group → Type 0) (f : Farm) (depend : ℕ) where
  dropped_groups : (d : DependRow) → groups_of (dropped f depend) d ≡ groups_of f d
  unfolding groups_of
  dropped_groups d = refl

  dropped_marks : (d : DependRow) → eqb d.depend depend ≡ false → (x : Group) → is_marked (dropped f depend) d x ≡ is_marked f d x
  dropped_marks d other x =
      any_kept (marks d x) (λ (m : MetRow). not (eqb m.depend depend))
      (λ m h.
      let own = eqb-true m.depend d.depend (and_both (eqb m.depend d.depend) (eqb m.position x.position) h).0 in
      ap not (ap (λ (i : ℕ). eqb i depend) own ∙ other))
      f.met

  dropped_row : (d : DependRow) (b : Bool) → eqb d.depend depend ≡ b → Comes D f (dropped f depend) d (cond b (record d { met_all = true }) d)
  dropped_row d true is =
      record {
        number = refl;
        all = λ h. refl;
        groups = λ none. absurd (true≢false none);
        stays = λ k x there met. refl;
        earned = λ k x none there marked. absurd (true≢false none);
      }
  dropped_row d false is =
      record {
        number = refl;
        all = λ h. h;
        groups = λ none. dropped_groups d;
        stays = λ k x there met. ap (λ (b : Bool). d.met_all || b) (dropped_marks d is x) ∙ met;
        earned = λ k x none there marked. inl (sym (dropped_marks d is x) ∙ marked);
      }

  pub drop_comes : AllCome D f (dropped f depend)
  drop_comes =
      record {
        next = omega arith;
        rows = λ n e at.
            let was = mapped_at (satisfied_row depend) f.depends n e at in
            inl (n, was.0, was.1, subst (Comes D f (dropped f depend) was.0) was.2 (dropped_row was.0 (eqb (was.0).depend depend) refl));
      }

  pub drop_rise : IsRising depend_key 1 f.depends f.next_depend → IsRising depend_key 1 (dropped f depend).depends f.next_depend
  drop_rise rise = rising-map depend_key (satisfied_row depend) (λ d. number_of d (eqb d.depend depend)) 1 f.depends f.next_depend rise
    where
      number_of : (d : DependRow) (b : Bool) → depend_key (cond b (record d { met_all = true }) d) ≡ depend_key d
      number_of d true = refl
      number_of d false = refl

-- ---- a farm that is settled

module _ (f : Farm) (rise : IsRising depend_key 1 f.depends f.next_depend) where
  abbrev D : Group → Type 0
  D x = are_done (is_done f.slots) x ≡ true

  earned_by : (d : DependRow) (x : Group) → d.met_all ≡ false → is_met_now f d x ≡ true → (is_marked f d x ≡ true) ⊎ D x
  earned_by d x unmet now = either (or_cases (is_met f d x) (are_done (is_done f.slots) x) now)
    where
      either : (is_met f d x ≡ true) ⊎ D x → (is_marked f d x ≡ true) ⊎ D x
      either (inl met) = inl (sym (ap (λ (b : Bool). b || is_marked f d x) unmet) ∙ met)
      either (inr done) = inr done

  both_by : (a b : Bool) → (not a && b) ≡ true → b ≡ true
  both_by true b h = absurd (false≢true h)
  both_by false b h = h

  settled_comes : (n : ℕ) (d : DependRow) → slice_get f.depends n ≡ Some d → Comes D f (with_met f) d (settled_row f d)
  settled_comes n d at =
      let positions = positions_rise f d in
      record {
        number = refl;
        all = λ h. or_left d.met_all (list_all (is_met_now f d) (groups_of f d)) h;
        groups = λ none. groups_met f d;
        stays = λ k x there met.
            met_is f f.next_depend rise n d at k x there ∙ or_right (settled_row f d).met_all (is_met_now f d x) (or_left (is_met f d x) (are_done (is_done f.slots) x) met);
        earned = λ k x none there marked.
            earned_by d x (or_parts d.met_all (list_all (is_met_now f d) (groups_of f d)) none).0
            (both_by (settled_row f d).met_all (is_met_now f d x) (sym (marked_rows f 1 f.depends f.next_depend n d positions.0 k x rise at positions.1 there) ∙ marked));
      }

  met_comes : AllCome D f (with_met f)
  met_comes =
      record {
        next = omega arith;
        rows = λ n e at.
            let was = mapped_at (settled_row f) f.depends n e at in
            inl (n, was.0, was.1, subst (Comes D f (with_met f) was.0) was.2 (settled_comes n was.0 was.1));
      }

  pub settle_comes : AllCome D f (settle f)
  unfolding settle
  settle_comes =
      come_then D f (with_met f) (settle f) met_comes
      (come_same D (with_met f) (settle f) (same_groups (with_met f) (settle f) refl refl refl (opened_frames (with_met f) 0 f.slots)) refl)

-- frames that are blocked
pub block_comes : (D : Group → Type 0) (change : ℕ → ℕ) (f : Farm) → AllCome D f (with_blocked change f)
unfolding with_blocked
block_comes D change f = come_same D f (with_blocked change f) (same_groups f (with_blocked change f) refl refl refl (blocked_frames change f 0 f.slots)) refl
