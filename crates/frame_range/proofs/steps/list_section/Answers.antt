use Rattle.std.proofs.Common.{SFits, w32, rules, ◌<◌}
use Rattle.std.proofs.lemmas.Int.{to_z-of_z}
use Rattle.frame_range.specs.Steps.{section_numbers}
use Rattle.frame_range.proofs.SectionLemmas.{lists_range, lists_stepped, lists_inverse, lists_interleaved}
use Rattle.frame_range.proofs.steps.list_section.Goals as goal

pub returns-in-Single : goal.returns-in-Single
unfolding section_numbers
returns-in-Single c = let fit : SFits w32 c.in-Single.number = search rules in rw c.in-Single.is (simp to_z-of_z at c.list.ensures)

pub returns-in-Range : goal.returns-in-Range
returns-in-Range c =
    let first_fits : SFits w32 c.in-Range.first = search rules in
    let last_fits : SFits w32 c.in-Range.last = search rules in
    let far = simp to_z-of_z at c.abs_diff.ensures in
    let done = simp to_z-of_z at c.list_steps.ensures in
    rw c.in-Range.is (lists_range _ c.list_steps.result c.args.listing.now c.list_steps.new.listing c.in-Range.first c.in-Range.last c.abs_diff.result far done)

pub returns-in-Stepped : goal.returns-in-Stepped
returns-in-Stepped c =
    let first_fits : SFits w32 c.in-Stepped.first = search rules in
    let last_fits : SFits w32 c.in-Stepped.last = search rules in
    let step_fits : SFits w32 c.in-Stepped.step = search rules in
    let far = simp to_z-of_z at c.abs_diff-in-Stepped.ensures in
    let sized = simp to_z-of_z at c.unsigned_abs.ensures.value in
    let done = simp to_z-of_z at c.list_steps-in-Stepped.ensures in
    rw c.in-Stepped.is (lists_stepped _ c.list_steps-in-Stepped.result c.args.listing.now c.list_steps-in-Stepped.new.listing c.in-Stepped.first c.in-Stepped.last c.in-Stepped.step c.unsigned_abs.result c.abs_diff-in-Stepped.result sized far done)

pub returns-in-Inverse : goal.returns-in-Inverse
returns-in-Inverse c =
    let first_fits : SFits w32 c.in-Inverse.first = search rules in
    let last_fits : SFits w32 c.in-Inverse.last = search rules in
    let step_fits : SFits w32 c.in-Inverse.step = search rules in
    let far = simp to_z-of_z at c.abs_diff-in-Inverse.ensures in
    let sized = simp to_z-of_z at c.unsigned_abs-in-Inverse.ensures.value in
    let done = simp to_z-of_z at c.list_others.ensures in
    let some : 0 < c.unsigned_abs-in-Inverse.result = search rules in
    rw c.in-Inverse.is (lists_inverse _ c.list_others.result c.args.listing.now c.list_others.new.listing c.in-Inverse.first c.in-Inverse.last c.in-Inverse.step c.unsigned_abs-in-Inverse.result c.abs_diff-in-Inverse.result sized some far done)

pub returns-in-Interleaved : goal.returns-in-Interleaved
returns-in-Interleaved c =
    let first_fits : SFits w32 c.in-Interleaved.first = search rules in
    let last_fits : SFits w32 c.in-Interleaved.last = search rules in
    let step_fits : SFits w32 c.in-Interleaved.step = search rules in
    let far = simp to_z-of_z at c.abs_diff-in-Interleaved.ensures in
    let sized = simp to_z-of_z at c.unsigned_abs-in-Interleaved.ensures.value in
    let done = simp to_z-of_z at c.list_halves.ensures in
    rw c.in-Interleaved.is (lists_interleaved _ c.list_halves.result c.args.listing.now c.list_halves.new.listing c.in-Interleaved.first c.in-Interleaved.last c.in-Interleaved.step c.unsigned_abs-in-Interleaved.result c.abs_diff-in-Interleaved.result sized far done)
