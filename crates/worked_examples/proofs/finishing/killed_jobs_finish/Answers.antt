-- The farms compute.
use Rattle.std.proofs.Common.{refl}
use Rattle.frame_range.specs.Sections.{section_at}
use Rattle.frame_range.specs.Sets.{add_section, fault_of, numbers_of, set_of}
use Rattle.frame_range.specs.Steps.{section_numbers}
use Rattle.farm_types.specs.Depends.{groups_of}
use Rattle.farm_types.specs.Ranges.{range_numbers}
use Rattle.farm_types.specs.Settle.{settle, with_blocked}
use Rattle.farm_types.specs.Step.{finish_all}
use Rattle.worked_examples.proofs.finishing.killed_jobs_finish.Goals as goal

pub returns-clause-finished : goal.returns-clause-finished
unfolding finish_all settle with_blocked groups_of range_numbers numbers_of set_of add_section section_at fault_of section_numbers
returns-clause-finished c = refl

pub returns-clause-eaten : goal.returns-clause-eaten
unfolding finish_all settle with_blocked groups_of range_numbers numbers_of set_of add_section section_at fault_of section_numbers
returns-clause-eaten c = refl

pub returns-clause-layers : goal.returns-clause-layers
unfolding finish_all settle with_blocked groups_of range_numbers numbers_of set_of add_section section_at fault_of section_numbers
returns-clause-layers c = refl

pub returns-clause-opened : goal.returns-clause-opened
unfolding finish_all settle with_blocked groups_of range_numbers numbers_of set_of add_section section_at fault_of section_numbers
returns-clause-opened c = refl

pub returns-clause-versions : goal.returns-clause-versions
unfolding finish_all settle with_blocked groups_of range_numbers numbers_of set_of add_section section_at fault_of section_numbers
returns-clause-versions c = refl

pub returns-clause-stays : goal.returns-clause-stays
unfolding finish_all settle with_blocked groups_of range_numbers numbers_of set_of add_section section_at fault_of section_numbers
returns-clause-stays c = refl

pub returns-clause-both : goal.returns-clause-both
unfolding finish_all settle with_blocked groups_of range_numbers numbers_of set_of add_section section_at fault_of section_numbers
returns-clause-both c = refl

pub returns-clause-gone : goal.returns-clause-gone
unfolding finish_all settle with_blocked groups_of range_numbers numbers_of set_of add_section section_at fault_of section_numbers
returns-clause-gone c = refl

pub returns-clause-refused : goal.returns-clause-refused
unfolding finish_all settle with_blocked groups_of range_numbers numbers_of set_of add_section section_at fault_of section_numbers
returns-clause-refused c = refl
