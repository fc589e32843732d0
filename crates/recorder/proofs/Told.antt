-- What a keeper was told of an entry, by what came of its recording.
use Rattle.std.proofs.Common.{◌≡◌, Bool, false, List, [], ◌∷◌, ◌++◌, append-nil, Result, Err, IsErrAnd, inl, inr, refl, sym, ap, subst, ◌∙◌}
use Rattle.std.proofs.lemmas.Result.{err_from_is_err_and}
use Rattle.farm_types.specs.declared.entry.Entry.{Entry}
use Rattle.farm_types.specs.Farm.{Farm}
use Rattle.farm_types.specs.Run.{run_of}
use Rattle.farm_types.specs.Step.{after}
use Rattle.farm_keeper.specs.declared.fault.KeeperFault.{KeeperFault}
use Rattle.farm_keeper.specs.declared.fault.KeeperFault.TheVariants as keeper_fault
use Rattle.farm_keeper.specs.declared.row.Batch.{Batch}
use Rattle.farm_keeper.specs.Keeping.{Committing}
use Rattle.recorder.specs.declared.refusal.RecordFault.{RecordFault}
use Rattle.recorder.specs.declared.refusal.RecordFault.TheVariants as fault
use Rattle.recorder.specs.Faults.{of_keeper}
use Rattle.recorder.specs.Recording.{Recording}
use Rattle.recorder.specs.Telling.{EndsTelling, TakesEach, Tells, TellsBatch, TellsOf}

module _ {K : Type 0} (commits : Committing K) where
  -- ---- a batch

  -- memory ran out for it
  pub no_batch : {T : Type 0} (batch : Batch) (k : K) (r : Result T RecordFault) → IsErrAnd r (λ why. why ≡ fault.NoMemory) → TellsBatch commits batch r k k
  no_batch {T = T} batch k r err =
      let p = err_from_is_err_and r err in
      subst (λ (q : Result T RecordFault). TellsBatch commits batch q k k) (sym (p.1 ∙ ap Err p.2)) (inl refl)

  refused_by : (T : Type 0) (batch : Batch) (before now : K) (why : KeeperFault) → commits batch (Err why) before now
      → TellsBatch {T = T} commits batch (Err (of_keeper why)) before now
  refused_by T batch before now keeper_fault.Failed told = told
  refused_by T batch before now keeper_fault.NoMemory told = inr told

  -- the keeper refused it
  pub refused_batch : {T : Type 0} (made batch : Batch) (before now : K) (why : KeeperFault) (r : Result T RecordFault) → made ≡ batch
      → IsErrAnd r (λ said. said ≡ of_keeper why) → commits made (Err why) before now → TellsBatch commits batch r before now
  refused_batch {T = T} made batch before now why r is err told =
      let p = err_from_is_err_and r err in
      subst (λ (q : Result T RecordFault). TellsBatch commits batch q before now) (sym (p.1 ∙ ap Err p.2))
      (refused_by T batch before now why (subst (λ (b : Batch). commits b (Err why) before now) is told))

  -- ---- an entry

  -- memory ran out before the keeper was told
  pub not_told : {T : Type 0} (f : Farm) (e : Entry) (k : K) (r : Result T RecordFault) → IsErrAnd r (λ why. why ≡ fault.NoMemory) → TellsOf commits f (e ∷ []) r k k
  not_told {T = T} f e k r err =
      let p = err_from_is_err_and r err in
      subst (λ (q : Result T RecordFault). TellsOf commits f (e ∷ []) q k k) (sym (p.1 ∙ ap Err p.2)) (inl refl)

  -- a fault that is passed on
  pub told_on : {T : Type 0} (f : Farm) (due : List Entry) (before now : K) (why : RecordFault) (r : Result T RecordFault) → IsErrAnd r (λ said. said ≡ why)
      → TellsOf {T = Unit {0}} commits f due (Err why) before now → TellsOf commits f due r before now
  told_on {T = T} f due before now why r err told =
      let p = err_from_is_err_and r err in
      subst (λ (q : Result T RecordFault). TellsOf commits f due q before now) (sym (p.1 ∙ ap Err p.2)) told

  -- the farm and the keeper of a recorder
  pub told_of : {T : Type 0} {a b : Recording K} (due : Farm → List Entry) (k : K) (r : Result T RecordFault) → a ≡ b → TellsOf commits a.farm (due a.farm) r a.keeper k
      → TellsOf commits b.farm (due b.farm) r b.keeper k
  told_of due k r is told = subst (λ (x : Recording K). TellsOf commits x.farm (due x.farm) r x.keeper k) is told

  -- ---- entries in turn

  -- some, and then others
  pub taken_then : (f : Farm) (done more : List Entry) (before mid now : K) → TakesEach commits f done before mid → TakesEach commits (run_of f done) more mid now
      → TakesEach commits f (done ++ more) before now
  taken_then f [] more before mid now first second = subst (λ (k : K). TakesEach commits f more k now) first second
  taken_then f (e ∷ done) more before mid now first second = (first.0, first.1, taken_then (after f e) done more first.0 mid now first.2 second)

  -- all were recorded
  pub tells_all : (f : Farm) (done : List Entry) (before now : K) → TakesEach commits f done before now → Tells commits f done done false before now
  tells_all f done before now taken = record { rest = []; mid = now; all_are = sym (append-nil done); taken = taken; ends = (refl, refl) }

  -- none was
  pub tells_none : (f : Farm) (all : List Entry) (failed : Bool) (before now : K) → EndsTelling commits f all failed before now → Tells commits f all [] failed before now
  tells_none f all failed before now ends = record { rest = all; mid = before; all_are = refl; taken = refl; ends = ends }

  -- the keeper wasn't told
  pub ends_still : (f : Farm) (rest : List Entry) (before now : K) → now ≡ before → EndsTelling commits f rest false before now
  ends_still f [] before now same = (refl, same)
  ends_still f (e ∷ es) before now same = inl same

  pub tells_still : (f : Farm) (all : List Entry) (k : K) → Tells commits f all [] false k k
  tells_still f all k = tells_none f all false k k (ends_still f all k k refl)

  -- one entry, and those behind it
  pub tells_behind : (f next : Farm) (e : Entry) (es done : List Entry) (failed : Bool) (before mid now : K) → next ≡ after f e → TakesEach commits f (e ∷ []) before mid
      → Tells commits next es done failed mid now → Tells commits f (e ∷ es) (e ∷ done) failed before now
  tells_behind f next e es done failed before mid now is first told =
      let later : Tells commits (after f e) es done failed mid now = subst (λ (g : Farm). Tells commits g es done failed mid now) is told in
      record {
        rest = later.rest;
        mid = later.mid;
        all_are = ap (λ (xs : List Entry). e ∷ xs) later.all_are;
        taken = (first.0, first.1, subst (λ (k : K). TakesEach commits (after f e) done k later.mid) first.2 later.taken);
        ends = later.ends;
      }
