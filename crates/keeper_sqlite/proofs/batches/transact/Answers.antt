use Rattle.std.proofs.Common.{rules, ◌≡◌, ◌+◌, length, refl, subst, arith, IsTrue, OnErr, OnOk}
use Rattle.sqlite.specs.Held.{state}
use Rattle.sqlite.specs.State.{HasCleanDisk, Survives}
use Rattle.keeper_sqlite.specs.Told.{IsUndone, IsWritten, MayWrite}
use Rattle.keeper_sqlite.proofs.CommitLemmas.{committed_survives, dropped_survives, err_any, failed, on_err, on_ok, undone, written}
use Rattle.keeper_sqlite.proofs.batches.transact.Goals as goal

pub returns-in_err-change-clause-err : goal.returns-in_err-change-clause-err
returns-in_err-change-clause-err g c =
    let old = c.args.conn.now in
    let mid = state g.S.Store c.change.new.tx.conn.now in
    let end = c.drop-tx.new.self.0 in
    let begun = c.transaction-tx.ensures.begun in
    let same : end ≡ c.conn-1.given.0 = search rules in
    subst (λ h. HasCleanDisk (state g.S.Store h) → IsTrue (state g.S.Store h).is_open → OnErr c.from_residual.result (IsUndone (state g.S.Store old) (state g.S.Store h))) same
    (λ clean o. err_any c.from_residual.result (undone g.S.Store old c.args.batch.now mid (state g.S.Store end)
    ((rw begun at c.change.ensures.kept) (omega (arith, clean, c.drop-tx.ensures.survives.clean)) refl) (c.drop-tx.ensures.undone clean) o))

pub returns-in_err-change-clause-survives : goal.returns-in_err-change-clause-survives
returns-in_err-change-clause-survives g c =
    let old = c.args.conn.now in
    let mid = state g.S.Store c.change.new.tx.conn.now in
    let end = c.drop-tx.new.self.0 in
    let begun = c.transaction-tx.ensures.begun in
    let same : end ≡ c.conn-1.given.0 = search rules in
    subst (λ h. Survives (state g.S.Store old) (state g.S.Store h) (MayWrite c.args.batch.now (state g.S.Store old))) same
    (dropped_survives g.S.Store old c.args.batch.now mid (state g.S.Store end) (rw begun at c.change.ensures.survives) c.drop-tx.ensures.survives)

pub returns-clause-ok : goal.returns-clause-ok
returns-clause-ok g c =
    let old = c.args.conn.now in
    let mid = state g.S.Store c.change.new.tx.conn.now in
    let end = c.commit.new.self.0 in
    let begun = c.transaction-tx.ensures.begun in
    let same : end ≡ c.conn-2-1.given.0 = search rules in
    subst (λ h. HasCleanDisk (state g.S.Store h) → OnOk c.commit.result (IsWritten c.args.batch.now (state g.S.Store old) (state g.S.Store h))) same
    (λ clean. on_ok c.commit.result
    (λ ended. written g.S.Store old c.args.batch.now mid (length c.args.batch.now.puts + length c.args.batch.now.deletes) c.requires.some
    ((rw begun at c.in_ok-change.ensures.changed) (omega (arith, clean, c.commit.ensures.survives.clean)) refl) (state g.S.Store end) ended.1) (c.commit.ensures.ok clean))

pub returns-clause-err : goal.returns-clause-err
returns-clause-err g c =
    let old = c.args.conn.now in
    let mid = state g.S.Store c.change.new.tx.conn.now in
    let end = c.commit.new.self.0 in
    let begun = c.transaction-tx.ensures.begun in
    let same : end ≡ c.conn-2-1.given.0 = search rules in
    subst (λ h. HasCleanDisk (state g.S.Store h) → IsTrue (state g.S.Store h).is_open → OnErr c.commit.result (IsUndone (state g.S.Store old) (state g.S.Store h))) same
    (λ clean o.
    let early : HasCleanDisk mid = omega (arith, clean, c.commit.ensures.survives.clean) in
    on_err c.commit.result _ (λ e fails. failed g.S.Store old c.args.batch.now mid (state g.S.Store end) e ((rw begun at c.change.ensures.kept) early refl)
    ((rw begun at c.in_ok-change.ensures.changed) early refl).mode fails o) (c.commit.ensures.err clean))

pub returns-clause-survives : goal.returns-clause-survives
returns-clause-survives g c =
    let old = c.args.conn.now in
    let mid = state g.S.Store c.change.new.tx.conn.now in
    let end = c.commit.new.self.0 in
    let begun = c.transaction-tx.ensures.begun in
    let same : end ≡ c.conn-2-1.given.0 = search rules in
    subst (λ h. Survives (state g.S.Store old) (state g.S.Store h) (MayWrite c.args.batch.now (state g.S.Store old))) same
    (committed_survives g.S.Store old c.args.batch.now mid (state g.S.Store end) (length c.args.batch.now.puts + length c.args.batch.now.deletes) c.requires.some
    (λ clean. (rw begun at c.in_ok-change.ensures.changed) (omega (arith, clean, c.commit.ensures.survives.clean)) refl) (rw begun at c.change.ensures.survives) c.commit.ensures.survives)
