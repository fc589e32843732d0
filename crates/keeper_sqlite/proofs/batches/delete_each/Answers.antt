use Rattle.std.proofs.Common.{arith, refl, ◌∙◌}
use Rattle.sqlite.specs.Held.{state}
use Rattle.sqlite.specs.State.{HasCleanDisk}
use Rattle.sqlite.proofs.StateLemmas.{survives_then}
use Rattle.keeper_sqlite.proofs.StepLemmas.{kept_then, delete_next}
use Rattle.keeper_sqlite.proofs.batches.delete_each.Goals as goal

pub loop-key-preserved : goal.loop-key-preserved
loop-key-preserved g c =
    let old = state g.S.Store c.args.tx.now.conn.now in
    let mid = state g.S.Store c.loop-key.tx.conn.now in
    let new = state g.S.Store c.delete_one.new.tx.conn.now in
    let early : HasCleanDisk new → HasCleanDisk mid = λ clean. omega (arith, clean, c.delete_one.ensures.survives.clean) in
    record {
      same_reference = c.delete_one.ensures.same_reference ∙ c.loop-key.invariant.same_reference;
      changed = λ clean inside.
          let p = c.loop-key.invariant.changed (early clean) inside in
          delete_next old mid new c.args.keys.now c.loop-key.key-index _ _ (omega (arith, c.loop-key-test.true)) refl p (c.in_ok-delete_one.ensures.deleted clean p.mode);
      kept = λ clean inside.
          kept_then old mid new (c.loop-key.invariant.kept (early clean) inside) (c.delete_one.ensures.kept clean (c.loop-key.invariant.changed (early clean) inside).mode);
      survives = survives_then old mid new _ _ (λ _. ⊥) (λ _ db none. none) (λ _ db none. none) c.loop-key.invariant.survives c.delete_one.ensures.survives;
    }
