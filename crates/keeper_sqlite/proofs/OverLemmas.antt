-- What a keeper over a connection holds, and what a stop leaves of it.
use Rattle.std.proofs.Common.{◌≡◌, ◌≤◌, inl, inr, List, [], Bool, true, false, refl, sym, ap, subst, ◌∙◌, IsTrue, arith, true≢false}
use Rattle.std.specs.List.{All}
use Rattle.sqlite_value.specs.Order.{Row}
use Rattle.sqlite_trees.specs.declared.store.Shape.TheVariants as shape
use Rattle.sqlite_trees.specs.declared.store.Store.{Ghosts}
use Rattle.sqlite_trees.specs.Objects.{IsListed, catalog_tree}
use Rattle.sqlite_trees.specs.Tree.{Trees}
use Rattle.sqlite_trees.specs.View.{View, IsClean, IsOrdered, IsRolledBack, IsShaped, doubt}
use Rattle.sqlite_schema.specs.Rules.{IsLaidOut}
use Rattle.sqlite_catalog.specs.Listing.{IsSound}
use Rattle.sqlite_catalog.proofs.LayoutLemmas.{laid_out, objects_rise}
use Rattle.sqlite.specs.Effect.{Database, IsDatabase}
use Rattle.sqlite.specs.Held.{Held, state}
use Rattle.sqlite.specs.State.{State, HasCleanDisk, IsLive, Opens, Survives}
use Rattle.sqlite.specs.Steps.{IsFresh}
use Rattle.farm_keeper.specs.Keeping.{HasKept, Keeps}
use Rattle.keeper_sqlite.specs.Remains.{leaves_some}
use Rattle.keeper_sqlite.specs.Table.{no_schema, rows_schema}
use Rattle.keeper_sqlite.specs.Told.{AreShown, HasNumbers, HasTable, Holds, IsMade, IsOver, IsReading, IsReopened, Leaves, told, told_in}
use Rattle.keeper_sqlite.proofs.FoundLemmas.{found_told}
use Rattle.keeper_sqlite.proofs.StepLemmas.{survives_same}

-- the rows that were held before a call that changes nothing are kept after it
module _ (mid new : State) (clean : HasCleanDisk new) (has : HasTable mid) (is_open : IsTrue mid.is_open) (settled : mid.now ≡ mid.committed) (held : Keeps (Holds mid) (Holds new))
    (same : Survives mid new (λ _. ⊥)) (law : (db : Trees) → IsTrue mid.is_open → mid.may_leave db → db ≡ mid.committed.trees) (some : ∥ ((db : Trees) × new.may_leave db) ∥₁) where
  left_before : (db : Trees) → new.may_leave db → mid.may_leave db
  left_before db l = elim (same.crash clean db l) [ inl was ↦ was | inr none ↦ absurd none ]

  pub kept_rows : HasKept (Holds new) (Leaves new) (told_in mid) []
  kept_rows = record {
    held = held (told_in mid) (λ _ _. (has, refl, settled));
    remains = λ other l. inl (l.3 ∙ ap (λ (t : Trees). told (t 0)) (law l.1 is_open (left_before l.1 l.2) ∙ sym (ap (λ (d : Database). d.trees) settled)));
    some = leaves_some new.is_clean new.may_leave clean some;
  }

pub over_made : (old new : State) → old.now.schema ≡ no_schema → doubt old.is_clean ≤ doubt new.is_clean → (HasCleanDisk new → IsMade new)
    → ((db : Trees) → IsTrue new.is_open → new.may_leave db → db ≡ new.committed.trees) → (HasCleanDisk new → ∥ ((db : Trees) × new.may_leave db) ∥₁) → IsOver old new
over_made old new none falls made law some = record {
  told_before = λ c. omega (arith, falls, c);
  kept = λ c.
      let m = made c in
      (told_in new, inl (none, m.none), kept_rows new new c m.has m.is_open m.settled (λ rows h. h) (survives_same new _) law (some c));
}

pub over_found : (old mid new : State) (out : List Row) → old.now.schema ≡ rows_schema → mid.now.schema ≡ rows_schema → doubt old.is_clean ≤ doubt mid.is_clean
    → (IsTrue old.is_open → old.now ≡ old.committed) → (HasCleanDisk mid → IsReopened old mid) → (HasCleanDisk new → IsReading mid out) → All HasNumbers out
    → Keeps (Holds mid) (Holds new) → Survives mid new (λ _. ⊥)
    → ((db : Trees) → IsTrue mid.is_open → mid.may_leave db → db ≡ mid.committed.trees) → (HasCleanDisk new → ∥ ((db : Trees) × new.may_leave db) ∥₁) → IsOver old new
over_found old mid new out was_ours ours falls settled again reading numbers held same law some = record {
  told_before = λ c. omega (arith, falls, same.clean, c);
  kept = λ c.
      let earlier : HasCleanDisk mid = omega (arith, same.clean, c) in
      let r = again earlier in
      let shown = (reading c).are ours in
      let sound : IsDatabase (record { schema = rows_schema; trees = mid.now.trees }) = subst (λ s. IsDatabase (record { schema = s; trees = mid.now.trees })) ours r.sound in
      let has : HasTable mid = record { schema = ours; rows = found_told mid.now.trees sound.obeys (r.ordered ours) out shown numbers } in
      let rows : told_in mid ≡ told_in old = ap (λ (t : Trees). told (t 0)) (r.trees ∙ sym (ap (λ (d : Database). d.trees) (settled r.was_open))) in
      (told_in mid, inr (was_ours, rows), kept_rows mid new c has r.is_open r.settled held same law (some c));
}

-- ---- a connection that is made again over the store of another one

opened_if : (is_open is_broken : Bool) → is_broken ≡ false → (is_open ≡ false → IsTrue is_broken) → IsTrue is_open
opened_if true is_broken unbroken shut = refl
opened_if false is_broken unbroken shut = absurd (true≢false (sym (shut refl) ∙ unbroken))

module _ (old new : View) (clean : IsClean new) (unbroken : new.is_broken ≡ false) (shut : new.is_open ≡ false → IsTrue new.is_broken) (undone : IsRolledBack old new) where
  abbrev is_open : IsTrue new.is_open
  is_open = opened_if new.is_open new.is_broken unbroken shut

  pub is_fresh : IsTrue new.is_numbered → IsFresh new
  is_fresh numbered = record {
    sound = unbroken;
    numbered = numbered;
    clean = (undone.undone is_open).0 ∙ sym ((undone.kept clean).committed is_open);
    unmarked = (undone.kept clean).marks is_open;
  }

module _ {S : Type 0} (g : Ghosts S) (was now : Held S) (store : S) (clean : IsClean (g.view store)) (unbroken : (g.view store).is_broken ≡ false)
    (shut : (g.view store).is_open ≡ false → IsTrue (g.view store).is_broken) (undone : IsRolledBack (g.view was.store) (g.view store)) (opens : Opens (state g now) × IsLive (state g now))
    (trees : (state g now).now.trees ≡ (g.view store).trees) (ordered : IsOrdered (g.view store).shape (g.view store).trees)
    (listed : IsListed ((g.view store).trees catalog_tree) (g.view store).shape (g.view store).reals) where
  in_order : now.schema ≡ rows_schema → IsShaped shape.Table ((state g now).now.trees 0)
  in_order ours =
      let sound : IsSound rows_schema (g.view store).trees =
      subst (λ (d : Database). IsSound d.schema d.trees) (λ i. record { schema = ours i; trees = trees i }) (opens.1 opens.0.is_open).0 in
      let laid : IsLaidOut rows_schema (g.view store).shape = laid_out listed (objects_rise (g.view store) listed ordered) sound.lists.listed in
      subst (IsShaped shape.Table) (sym (ap (λ (t : Trees). t 0) trees)) (subst (λ s. IsShaped s ((g.view store).trees 0)) laid.tables.0 (ordered 0))

  pub reopened : IsReopened (state g was) (state g now)
  reopened =
      let was_whole : IsTrue (g.view store).is_open = opened_if (g.view store).is_open (g.view store).is_broken unbroken shut in
      record {
        was_open = (undone.kept clean).was_open was_whole;
        is_open = opens.0.is_open;
        settled = opens.0.clean;
        trees = trees ∙ (undone.undone was_whole).0;
        sound = (opens.1 opens.0.is_open).0;
        ordered = in_order;
      }
