use Rattle.std.proofs.Common.{rules, ◌≡◌, [], refl, subst, arith}
use Rattle.sqlite.specs.Held.{state}
use Rattle.sqlite.specs.State.{HasCleanDisk}
use Rattle.farm_keeper.specs.Keeping.{Keeps}
use Rattle.keeper_sqlite.specs.Told.{Holds, IsReading}
use Rattle.keeper_sqlite.proofs.CommitLemmas.{held_select, reading}
use Rattle.keeper_sqlite.proofs.ReadLemmas.{failed_kept, shown_kept}
use Rattle.keeper_sqlite.proofs.reading.select.Goals as goal

pub returns-in_err-rows-clause-held : goal.returns-in_err-rows-clause-held
returns-in_err-rows-clause-held g c =
    let old = c.args.conn.now in
    let mid = state g.S.Store c.query_all.new.self.conn.now in
    let end = c.drop-tx.new.self.0 in
    let begun = c.transaction-tx.ensures.begun in
    let same : end ≡ c.conn-1.given.0 = search rules in
    subst (λ h. Keeps (Holds (state g.S.Store old)) (Holds (state g.S.Store h))) same
    (held_select g.S.Store old mid (state g.S.Store end) (rw begun at c.query_all.ensures.survives) c.drop-tx.ensures.survives
    (λ clean. rw begun at (failed_kept _ [] _ mid _ (c.in_err-rows.ensures.err clean))) c.drop-tx.ensures.undone)

pub returns-clause-read : goal.returns-clause-read
returns-clause-read g c =
    let old = c.args.conn.now in
    let mid = state g.S.Store c.query_all.new.self.conn.now in
    let end = c.rollback.new.self.0 in
    let begun = c.transaction-tx.ensures.begun in
    let same : end ≡ c.conn-2-1.given.0 = search rules in
    subst (λ h. HasCleanDisk (state g.S.Store h) → IsReading (state g.S.Store old) c.in_ok-rows.rows.items) same
    (λ clean. reading g.S.Store old mid c.in_ok-rows.rows.items (rw begun at (c.in_ok-rows.ensures.ok (omega (arith, clean, c.rollback.ensures.survives.clean)))))

pub returns-clause-held : goal.returns-clause-held
returns-clause-held g c =
    let old = c.args.conn.now in
    let mid = state g.S.Store c.query_all.new.self.conn.now in
    let end = c.rollback.new.self.0 in
    let begun = c.transaction-tx.ensures.begun in
    let same : end ≡ c.conn-2-1.given.0 = search rules in
    subst (λ h. Keeps (Holds (state g.S.Store old)) (Holds (state g.S.Store h))) same
    (held_select g.S.Store old mid (state g.S.Store end) (rw begun at c.query_all.ensures.survives) c.rollback.ensures.survives
    (λ clean. (shown_kept _ [] _ mid c.in_ok-rows.rows.items refl (rw begun at (c.in_ok-rows.ensures.ok clean))).1) c.rollback.ensures.undone)
