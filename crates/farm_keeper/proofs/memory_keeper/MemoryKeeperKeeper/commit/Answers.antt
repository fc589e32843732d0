use Rattle.std.proofs.Common.{rules, ◌≡◌, subst, sym}
use Rattle.std.specs.Prelude.{◌⊎◌}
use Rattle.farm_keeper.specs.Keeping.{MayRemain}
use Rattle.farm_keeper.specs.Memory.{Kept, called, refused_with}
use Rattle.farm_keeper.specs.Rows.{Rows, after}
use Rattle.farm_keeper.proofs.KeepingLaws.{remains_or}
use Rattle.farm_keeper.proofs.memory_keeper.MemoryKeeperKeeper.commit.Goals as goal

pub returns-then-count_call-clause-left_err : goal.returns-then-count_call-clause-left_err
returns-then-count_call-clause-left_err c = λ rows same other now.
    let is : c.refuse.new.self ≡ refused_with c.args.batch (called c.args.self.now) = search rules in
    let k = c.args.self.now in
    subst (λ (r : Rows). MayRemain k.rows k.refused other ⊎ (other ≡ after c.args.batch r)) (sym same)
    (remains_or c.args.batch k.rows k.refused other (subst (λ (k : Kept). MayRemain k.rows k.refused other) is now))
