use Rattle.std.proofs.Common.{◌∙◌, ℤ, List, length, sym, ap}
use Rattle.farm_types.specs.Ranges.{range_numbers}
use Rattle.farm_types.proofs.Ranges.{numbers_said}
use Rattle.job_entries.proofs.restored_index.count_numbers.Goals as goal

pub returns-in-Ok : goal.returns-in-Ok
returns-in-Ok c =
    let read = numbers_said c.as_str.result.now c.in-Ok.set c.in-Ok.ensures in
    let text = ap range_numbers c.as_str.ensures in
    ap (λ (ns : List ℤ). length ns) (c.numbers.ensures.value ∙ sym read ∙ text)
