use Rattle.std.proofs.Common.{arith, ◌∙◌}
use Rattle.sqlite.specs.Held.{state}
use Rattle.sqlite.specs.State.{HasCleanDisk}
use Rattle.sqlite.proofs.StateLemmas.{survives_then}
use Rattle.keeper_sqlite.proofs.StepLemmas.{kept_then, put_next}
use Rattle.keeper_sqlite.proofs.batches.put_each.Goals as goal

pub loop-row-preserved : goal.loop-row-preserved
loop-row-preserved g c =
    let old = state g.S.Store c.args.tx.now.conn.now in
    let mid = state g.S.Store c.loop-row.tx.conn.now in
    let new = state g.S.Store c.put_one.new.tx.conn.now in
    let early : HasCleanDisk new → HasCleanDisk mid = λ clean. omega (arith, clean, c.put_one.ensures.survives.clean) in
    record {
      same_reference = c.put_one.ensures.same_reference ∙ c.loop-row.invariant.same_reference;
      changed = λ clean inside.
          let p = c.loop-row.invariant.changed (early clean) inside in
          put_next old mid new c.args.puts.now c.loop-row.row-index c.row-item.result (omega (arith, c.loop-row-test.true)) c.row-item.is p (c.in_ok-put_one.ensures.put clean p.mode);
      kept = λ clean inside.
          kept_then old mid new (c.loop-row.invariant.kept (early clean) inside) (c.put_one.ensures.kept clean (c.loop-row.invariant.changed (early clean) inside).mode);
      survives = survives_then old mid new _ _ (λ _. ⊥) (λ _ db none. none) (λ _ db none. none) c.loop-row.invariant.survives c.put_one.ensures.survives;
    }
