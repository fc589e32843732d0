use Rattle.std.proofs.Common.{SFits, w32, rules}
use Rattle.std.proofs.lemmas.Int.{to_z-of_z}
use Rattle.frame_range.proofs.EmptyLemmas.{single_some, range_some, stepped_some, interleaved_some, inverse_one, inverse_other}
use Rattle.frame_range.proofs.checks.is_empty.Goals as goal

pub returns-in-Single : goal.returns-in-Single
returns-in-Single c = rw c.in-Single.is (single_some _)

pub returns-in-Range : goal.returns-in-Range
returns-in-Range c = rw c.in-Range.is (range_some _ _)

pub returns-in-Stepped : goal.returns-in-Stepped
returns-in-Stepped c = rw c.in-Stepped.is (stepped_some _ _ _)

pub returns-in-Interleaved : goal.returns-in-Interleaved
returns-in-Interleaved c =
    let nonzero = rw c.in-Interleaved.is at c.requires in
    rw c.in-Interleaved.is (interleaved_some _ _ _ nonzero)

pub returns-then-unsigned_abs-eq1 : goal.returns-then-unsigned_abs-eq1
returns-then-unsigned_abs-eq1 c =
    let step_fits : SFits w32 c.in-Inverse.step = search rules in
    let sized = simp to_z-of_z at c.unsigned_abs.ensures.value in
    rw c.in-Inverse.is (inverse_one c.in-Inverse.first c.in-Inverse.last c.in-Inverse.step c.unsigned_abs.result sized c.if-unsigned_abs-eq1.true)

pub returns-else-unsigned_abs-eq1 : goal.returns-else-unsigned_abs-eq1
returns-else-unsigned_abs-eq1 c =
    let first_fits : SFits w32 c.in-Inverse.first = search rules in
    let last_fits : SFits w32 c.in-Inverse.last = search rules in
    let step_fits : SFits w32 c.in-Inverse.step = search rules in
    let sized = simp to_z-of_z at c.unsigned_abs.ensures.value in
    let far = simp to_z-of_z at c.abs_diff.ensures in
    let nonzero = rw c.in-Inverse.is at c.requires in
    rw c.in-Inverse.is (inverse_other c.in-Inverse.first c.in-Inverse.last c.in-Inverse.step c.unsigned_abs.result c.abs_diff.result sized nonzero far c.if-unsigned_abs-eq1.false)
