-- The refusals compute.
use Rattle.std.proofs.Common.{refl}
use Rattle.std.specs.Fmt.{digits}
use Rattle.frame_range.specs.Sections.{section_at}
use Rattle.frame_range.specs.Sets.{add_section, fault_of, numbers_of, set_of}
use Rattle.frame_range.specs.Steps.{section_numbers}
use Rattle.farm_types.specs.DependActs.{depend_refusal}
use Rattle.farm_types.specs.Depends.{groups_of}
use Rattle.farm_types.specs.Ranges.{range_numbers}
use Rattle.farm_types.specs.Settle.{settle, with_blocked}
use Rattle.worked_examples.proofs.waiting.depends_are_refused.Goals as goal

pub returns-clause-unknown : goal.returns-clause-unknown
unfolding depend_refusal
returns-clause-unknown c = refl

pub returns-clause-itself : goal.returns-clause-itself
unfolding depend_refusal digits groups_of range_numbers numbers_of set_of add_section section_at fault_of section_numbers
returns-clause-itself c = refl

pub returns-clause-satisfied : goal.returns-clause-satisfied
unfolding settle with_blocked groups_of range_numbers numbers_of set_of add_section section_at fault_of section_numbers
returns-clause-satisfied c = refl

pub returns-clause-no_depend : goal.returns-clause-no_depend
unfolding settle with_blocked digits groups_of range_numbers numbers_of set_of add_section section_at fault_of section_numbers
returns-clause-no_depend c = refl
