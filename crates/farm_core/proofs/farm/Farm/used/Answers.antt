use Rattle.std.proofs.Common.{arith}
use Rattle.farm_core.proofs.Amounts.{used_most}
use Rattle.farm_core.proofs.farm.Farm.used.Goals as goal

pub overflow_cast-result : goal.overflow_cast-result
overflow_cast-result c =
    let most = used_most c.self.inside.books.farm c.args.host c.self.invariant.kept.rows in
    omega (arith, most.cores_within, c.used_cores.ensures)

pub overflow_cast-result-2 : goal.overflow_cast-result-2
overflow_cast-result-2 c =
    let most = used_most c.self.inside.books.farm c.args.host c.self.invariant.kept.rows in
    omega (arith, most.memory_within, c.used_memory.ensures.value)
