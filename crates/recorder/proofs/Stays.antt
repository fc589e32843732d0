-- What becomes of a keeper that is told what an entry changes, or isn't told where it changes nothing.
use Rattle.std.proofs.Common.{◌≡◌, refl, sym, ap, subst, ◌∙◌, List, [], ◌∷◌, map, inl, inr, arith, true, false, ◌==◌, length, Option, is_some, Result, Ok, Err, OnOk, OnErr, ◌⊎◌}
use Rattle.std.proofs.lemmas.Bool.{eqb-true, false≢true}
use Rattle.farm_types.specs.declared.entry.Entry.{Entry}
use Rattle.farm_types.specs.Farm.{Farm}
use Rattle.farm_types.specs.Kept.{IsKeptFarm}
use Rattle.farm_types.specs.Run.{IsLegal, IsLegalStep, run_of}
use Rattle.farm_types.specs.Step.{after}
use Rattle.farm_rows.specs.declared.farm_row.FarmRow.{FarmRow}
use Rattle.farm_rows.specs.declared.row_change.RowChange.{RowChange}
use Rattle.farm_rows.specs.declared.row_change.RowChange.TheVariants as change
use Rattle.farm_rows.specs.Changes.{Differs, NamesExactly, change_key, row_at}
use Rattle.farm_rows.specs.Rows.{rows_of}
use Rattle.farm_keeper.specs.declared.row.Batch.{Batch}
use Rattle.farm_keeper.specs.declared.fault.KeeperFault.{KeeperFault}
use Rattle.farm_keeper.specs.declared.fault.KeeperFault.TheVariants as keeper_fault
use Rattle.farm_keeper.specs.Keeping.{Committing, HoldsWith, Keeps, LeavesTaken, MayLeave}
use Rattle.farm_keeper.specs.Rows.{Rows, rows_from}
use Rattle.farm_keeper.specs.Rows as batched
use Rattle.store_law.specs.Stored.{batch_of, stored, stored_in, stored_row}
use Rattle.recorder.specs.declared.refusal.RecordFault.{RecordFault}
use Rattle.recorder.specs.declared.refusal.RecordFault.TheVariants as fault
use Rattle.recorder.specs.Recording.{HasRecorded, HasSameRows, MayBe, StaysRecorded}
use Rattle.recorder.specs.Telling.{IsTold, TakesEach, TellsBatch, TellsOf}

-- ---- lists with and without items

pub empty_list : {A : Type 0} (xs : List A) → (length xs == 0) ≡ true → xs ≡ []
empty_list [] is = refl
empty_list (x ∷ xs) is = let none : length (x ∷ xs) ≡ 0 = eqb-true (length (x ∷ xs)) 0 is in absurd (omega arith)

pub filled_list : {A : Type 0} (xs : List A) → (length xs == 0) ≡ false → xs ≡ [] → ⊥
filled_list {A = A} xs is none = false≢true (sym is ∙ ap (λ (ys : List A). length ys == 0) none)

-- ---- changes name rows that differ

no_difference : (c : RowChange) (row : Option FarmRow) → Differs c row row → ⊥
no_difference (change.Put r) row differs = differs.1 differs.0
no_difference (change.Delete gone) row differs = false≢true (sym (ap is_some differs.0) ∙ differs.1)

-- no change names a row in which a farm differs from itself
same_farm : (f g : Farm) (cs : List RowChange) → (cs ≡ [] → ⊥) → f ≡ g → NamesExactly f g cs → ⊥
same_farm f g [] some is names = some refl
same_farm f g (c ∷ cs) some is names =
    let differs : Differs c (row_at f (change_key c)) (row_at g (change_key c)) = names.each 0 c refl in
    no_difference c (row_at g (change_key c)) (subst (λ (x : Farm). Differs c (row_at x (change_key c)) (row_at g (change_key c))) is differs)

-- ---- a batch that is taken, or refused

taken : (holds holds' left' : Rows → Type 0) (f g : Farm) (batch : Batch) → batched.after batch (stored f) ≡ stored g → HoldsWith batch holds holds'
    → LeavesTaken batch holds left' → holds (stored f) → HasRecorded holds' left' g
taken holds holds' left' f g batch is takes leaves held = record {
  held = subst holds' is (takes (stored f) held);
  remains = λ other now. inl (leaves (stored f) held other now ∙ is);
}

further : (left : Rows → Type 0) (f : Farm) (e : Entry) (legal : IsLegalStep f e) (batch : Batch) (other : Rows) → batched.after batch (stored f) ≡ stored (after f e)
    → Keeps left (MayBe f) → left other ⊎ (other ≡ batched.after batch (stored f)) → MayBe f other
further left f e legal batch other is remains (inl before) = remains other before
further left f e legal batch other is remains (inr now) = inr (record { entry = e; legal = legal; rows_are = now ∙ is })

refused : (holds left holds' left' : Rows → Type 0) (f : Farm) (e : Entry) (legal : IsLegalStep f e) (batch : Batch) → batched.after batch (stored f) ≡ stored (after f e)
    → Keeps holds holds' → MayLeave batch holds left left' → HasRecorded holds left f → HasRecorded holds' left' f
refused holds left holds' left' f e legal batch is keeps leaves has = record {
  held = keeps (stored f) has.held;
  remains = λ other now. further left f e legal batch other is has.remains (leaves (stored f) has.held other now);
}

pub recorded_at : (holds left : Rows → Type 0) {f g : Farm} → g ≡ f → HasRecorded holds left f → HasRecorded holds left g
recorded_at holds left is has = subst (HasRecorded holds left) (sym is) has

-- ---- by the laws of batches, of stores and of runs

module _ (rows : (f g : Farm) (cs : List RowChange) → IsKeptFarm f → IsKeptFarm g → NamesExactly f g cs → batched.after (batch_of cs) (stored f) ≡ stored g)
    (differ : (f g : Farm) → IsKeptFarm f → IsKeptFarm g → stored f ≡ stored g → f ≡ g)
    (runs : (f : Farm) (es : List Entry) → IsKeptFarm f → IsLegal f es → IsKeptFarm (run_of f es))
    (f : Farm) (e : Entry) (kept : IsKeptFarm f) (legal : IsLegalStep f e) (cs : List RowChange) (names : NamesExactly f (after f e) cs) where
  then_kept : IsKeptFarm (after f e)
  then_kept = runs f (e ∷ []) kept (legal, tt)

  stored_then : batched.after (batch_of cs) (stored f) ≡ stored (after f e)
  stored_then = rows f (after f e) cs kept then_kept names

  -- an entry that changes no row leaves the farm as it is
  same_then : cs ≡ [] → f ≡ after f e
  same_then none = differ f (after f e) kept then_kept (subst (λ (xs : List RowChange). batched.after (batch_of xs) (stored f) ≡ stored (after f e)) none stored_then)

  pub untold_stays : cs ≡ [] → (holds left : Rows → Type 0) → HasRecorded holds left f → HasRecorded holds left (after f e)
  untold_stays none holds left has = subst (HasRecorded holds left) (same_then none) has

  -- one that names a change changes a row
  rows_differ : (cs ≡ [] → ⊥) → rows_of f ≡ rows_of (after f e) → ⊥
  unfolding stored_in
  rows_differ some same =
      let same_stores : stored f ≡ stored (after f e) = ap (λ (rs : List FarmRow). rows_from (map stored_row rs)) same in
      same_farm f (after f e) cs some (differ f (after f e) kept then_kept same_stores) names

  -- where each row is as it was, no change is named
  pub none_named : {P : Type 0} → (cs ≡ [] → ⊥) → HasSameRows f (after f e) → P
  none_named some same = absurd (rows_differ some same)

  pub told_stays : {T : Type 0} → (cs ≡ [] → ⊥) → (holds left holds' left' : Rows → Type 0) (r : Result T RecordFault)
      → OnOk r (HoldsWith (batch_of cs) holds holds') → OnErr r (Keeps holds holds') → OnOk r (LeavesTaken (batch_of cs) holds left') → OnErr r (MayLeave (batch_of cs) holds left left')
      → StaysRecorded holds left holds' left' f e r
  told_stays some holds left holds' left' (Ok done) takes keeps leaves_taken leaves =
      λ has. taken holds holds' left' f (after f e) (batch_of cs) stored_then takes leaves_taken has.held
  told_stays some holds left holds' left' (Err fault.Store) takes keeps leaves_taken leaves =
      (rows_differ some, refused holds left holds' left' f e legal (batch_of cs) stored_then keeps leaves)
  told_stays some holds left holds' left' (Err fault.NoMemory) takes keeps leaves_taken leaves =
      refused holds left holds' left' f e legal (batch_of cs) stored_then keeps leaves

  -- what changes no row isn't told to the keeper
  pub untold : cs ≡ [] → {K : Type 0} (commits : Committing K) (k : K) → TakesEach commits f (e ∷ []) k k
  untold none commits k = (k, inl (ap rows_of (same_then none), refl), refl)

  -- the batch of what changes is that of the entry
  told_by : (cs ≡ [] → ⊥) → {K : Type 0} (commits : Committing K) (answer : Result (Unit {0}) KeeperFault) (before now : K) → commits (batch_of cs) answer before now
      → IsTold commits f (after f e) answer before now
  told_by some commits answer before now told = record { batch = batch_of cs; makes = stored_then; changes = rows_differ some; told = told }

  pub told_entry : (cs ≡ [] → ⊥) → {K T : Type 0} (commits : Committing K) (r : Result T RecordFault) (before now : K) → TellsBatch commits (batch_of cs) r before now
      → TellsOf commits f (e ∷ []) r before now
  told_entry some commits (Ok done) before now told = (now, inr (told_by some commits (Ok tt) before now told), refl)
  told_entry some commits (Err fault.Store) before now told = told_by some commits (Err keeper_fault.Failed) before now told
  told_entry some commits (Err fault.NoMemory) before now (inl same) = inl same
  told_entry some commits (Err fault.NoMemory) before now (inr told) = inr (told_by some commits (Err keeper_fault.NoMemory) before now told)
