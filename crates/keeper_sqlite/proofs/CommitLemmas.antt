-- What a transaction that made a batch leaves of its connection, as it ends.
use Rattle.std.proofs.Common.{◌≡◌, ◌<◌, ℕ, List, [], true, false, inl, inr, refl, sym, ap, subst, ◌∙◌, Result, Ok, Err, OnOk, OnErr, IfErr, IsTrue, arith, true≢false}
use Rattle.sqlite_value.specs.Order.{Row}
use Rattle.sqlite_trees.specs.declared.store.Store.{Ghosts}
use Rattle.sqlite_trees.specs.Tree.{Trees}
use Rattle.sqlite.specs.Effect.{Database}
use Rattle.sqlite.specs.Held.{Held, state}
use Rattle.sqlite.specs.State.{State, HasCleanDisk, IsRolledBack, KeepsCommit, Shown, Shows, Survives}
use Rattle.sqlite.specs.Steps.{FailsToCommit}
use Rattle.sqlite.specs.declared.error.Error.{Error}
use Rattle.sqlite.proofs.Callers.{survives_begin}
use Rattle.sqlite.proofs.StateLemmas.{survives_then}
use Rattle.farm_keeper.specs.declared.row.Batch.{Batch}
use Rattle.farm_keeper.specs.Keeping.{Keeps}
use Rattle.farm_keeper.specs.Rows.{after}
use Rattle.keeper_sqlite.specs.Told.{HasChanged, HasTable, Holds, IsReading, IsTold, IsUndone, IsWritten, MayWrite, told}
use Rattle.keeper_sqlite.proofs.DeleteLemmas.{selects}
use Rattle.keeper_sqlite.proofs.HoldLemmas.{held_rolled}
use Rattle.keeper_sqlite.proofs.ReadLemmas.{shown_kept}
use Rattle.keeper_sqlite.proofs.TextLemmas.{select_text}

pub on_ok : {T E A B : Type 0} (r : Result T E) → (A → B) → OnOk r A → OnOk r B
on_ok (Ok x) f a = f a
on_ok (Err e) f a = tt

pub on_err : {T E B : Type 0} (r : Result T E) (P : E → Type 0) → ((e : E) → P e → B) → IfErr r P → OnErr r B
on_err (Ok x) P f p = tt
on_err (Err e) P f p = f e p

module _ {S : Type 0} (g : Ghosts S) (old : Held S) (batch : Batch) where
  abbrev begun : State
  begun = state g (record old { in_transaction = true })

  table_begun : HasTable (state g old) → HasTable begun
  table_begun has = record { schema = has.schema; rows = has.rows }

  module _ (mid : State) (n : ℕ) (some : 0 < n) (changed : HasChanged begun mid n (after batch)) where
    pub written : (new : State) → Shows mid new mid.now mid.now false → IsWritten batch (state g old) new
    written new shown =
        let within = changed.made (changed.opened some) in
        record {
          was_open = changed.opened some;
          is_open = shown.is_open;
          committed = λ _. shown.now_is ∙ sym shown.committed_is;
          kept = λ has.
              let k = within.kept (table_begun has) in (
                record { schema = ap (λ (d : Database). d.schema) shown.now_is ∙ k.0.schema; rows = subst (λ (d : Database). IsTold (d.trees 0)) (sym shown.now_is) k.0.rows },
                ap (λ (d : Database). told (d.trees 0)) shown.now_is ∙ k.1,
              );
        }

    may_write : (db : Trees) → db ≡ mid.now.trees → MayWrite batch (state g old) db
    may_write db is = record {
      was_open = changed.opened some;
      kept = λ has.
          let k = (changed.made (changed.opened some)).kept (table_begun has) in
          (subst (λ (t : Trees). IsTold (t 0)) (sym is) k.0.rows, ap (λ (t : Trees). told (t 0)) is ∙ k.1);
    }

  pub undone : (mid new : State) → KeepsCommit begun mid → IsRolledBack mid new → IsTrue new.is_open → IsUndone (state g old) new
  undone mid new kept back o =
      let mid_open = back.was_open o in
      record {
        was_open = kept.was_open mid_open;
        now = λ _. (back.undone o).0 ∙ kept.committed mid_open;
        committed = (back.undone o).1 ∙ kept.committed mid_open;
      }

  pub failed : (mid new : State) (e : Error) → KeepsCommit begun mid → IsTrue mid.in_transaction → FailsToCommit mid new e → IsTrue new.is_open → IsUndone (state g old) new
  failed mid new e kept inside (inl fails) o = undone mid new kept fails.3 o
  failed mid new e kept inside (inr late) o = absurd (true≢false (sym inside ∙ late.1))

  pub committed_survives : (mid new : State) (n : ℕ) → 0 < n → (HasCleanDisk new → HasChanged begun mid n (after batch)) → Survives begun mid (λ _. ⊥)
      → Survives mid new (λ db. db ≡ mid.now.trees) → Survives (state g old) new (MayWrite batch (state g old))
  committed_survives mid new n some changed inside ends =
      survives_begin g old new (MayWrite batch (state g old)) (survives_then begun mid new (λ _. ⊥) (λ db. db ≡ mid.now.trees) (MayWrite batch (state g old)) (λ _ db none. absurd none)
      (λ clean db is. may_write mid n some (changed clean) db is) inside ends)

  pub dropped_survives : (mid new : State) → Survives begun mid (λ _. ⊥) → Survives mid new (λ _. ⊥) → Survives (state g old) new (MayWrite batch (state g old))
  dropped_survives mid new inside ends =
      survives_begin g old new (MayWrite batch (state g old)) (survives_then begun mid new (λ _. ⊥) (λ _. ⊥) (MayWrite batch (state g old)) (λ _ db none. absurd none)
      (λ _ db none. absurd none) inside ends)

pub err_any : {T E B : Type 0} (r : Result T E) → B → OnErr r B
err_any (Ok x) b = tt
err_any (Err e) b = b

-- ---- a select in a transaction that is rolled back

module _ {S : Type 0} (g : Ghosts S) (old : Held S) where
  abbrev began : State
  began = state g (record old { in_transaction = true })

  pub held_select : (mid new : State) → Survives began mid (λ _. ⊥) → Survives mid new (λ _. ⊥) → (HasCleanDisk mid → KeepsCommit began mid) → (HasCleanDisk new → IsRolledBack mid new)
      → Keeps (Holds (state g old)) (Holds new)
  held_select mid new one two kept rolled = held_rolled (state g old) mid new (λ c. omega (arith, c, one.clean, two.clean))
      (λ c. let k = kept (omega (arith, c, two.clean)) in record { was_open = k.was_open; committed = k.committed }) rolled

  pub reading : (mid : State) (rows : List Row) → Shown select_text [] began mid rows → IsReading (state g old) rows
  reading mid rows h = record {
    was_open = (shown_kept select_text [] began mid rows refl h).0;
    are = λ schema. selects began mid rows schema h;
  }
