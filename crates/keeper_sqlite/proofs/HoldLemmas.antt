-- What is held, and what a stop leaves, after a call.
use Rattle.std.proofs.Common.{◌≡◌, ℕ, List, inl, inr, sym, ap, subst, ◌∙◌, IsTrue}
use Rattle.sqlite.specs.State.{State, HasCleanDisk, IsRolledBack, IsNotRun, KeepsCommit}
use Rattle.sqlite_value.specs.Order.{Row}
use Rattle.sqlite.specs.declared.error.Error.{Error}
use Rattle.sqlite.specs.Effect.{Database}
use Rattle.farm_keeper.specs.Keeping.{Keeps}
use Rattle.keeper_sqlite.specs.Told.{HasTable, Holds, IsTold, IsUndone, told, told_in}

table_moved : (a b : State) → b.now ≡ a.now → HasTable a → HasTable b
table_moved a b same has = record {
  schema = ap (λ (d : Database). d.schema) same ∙ has.schema;
  rows = subst (λ (d : Database). IsTold (d.trees 0)) (sym same) has.rows;
}

told_moved : (a b : State) → b.now ≡ a.now → told_in b ≡ told_in a
told_moved a b same = ap (λ (d : Database). told (d.trees 0)) same

pub held_rolled : (old mid new : State) → (HasCleanDisk new → HasCleanDisk old) → (HasCleanDisk new → KeepsCommit old mid) → (HasCleanDisk new → IsRolledBack mid new)
    → Keeps (Holds old) (Holds new)
held_rolled old mid new clean kept rolled rows held c o =
    let back = rolled c in
    let k = kept c in
    let mid_open = back.was_open o in
    let was = held (clean c) (k.was_open mid_open) in
    let now : new.now ≡ old.now = (back.undone o).0 ∙ k.committed mid_open ∙ sym was.2 in
    (table_moved old new now was.0, told_moved old new now ∙ was.1, now ∙ was.2 ∙ sym (k.committed mid_open) ∙ sym (back.undone o).1)

-- a text that is not run
pub undone_not_run : (old new : State) (sql : List ℕ) (params : Row) (e : Error) → IsNotRun old new sql params e → IsTrue new.is_open → IsUndone old new
unfolding IsNotRun
undone_not_run old new sql params e (inl none) o = record { was_open = none.1.0.was_open; now = λ settled. none.1.0.now_is ∙ settled; committed = none.1.0.committed_is }
undone_not_run old new sql params e (inr failed) o =
    record { was_open = failed.3.was_open o; now = λ _. (failed.3.undone o).0; committed = (failed.3.undone o).1 }
