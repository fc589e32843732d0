-- The farms and their lists compute.
use Rattle.std.proofs.Common.{refl}
use Rattle.std.specs.Fmt.{digits}
use Rattle.frame_range.specs.Sections.{section_at}
use Rattle.frame_range.specs.Sets.{add_section, fault_of, numbers_of, set_of}
use Rattle.frame_range.specs.Steps.{section_numbers}
use Rattle.farm_types.specs.Depends.{groups_of}
use Rattle.farm_types.specs.Ranges.{range_numbers}
use Rattle.farm_types.specs.Settle.{opened_by, settle, with_blocked}
use Rattle.farm_types.specs.Step.{finish_all}
use Rattle.worked_examples.proofs.listing.jobs_show_their_counts.Goals as goal

pub returns-clause-first : goal.returns-clause-first
unfolding digits opened_by settle with_blocked finish_all groups_of range_numbers numbers_of set_of add_section section_at fault_of section_numbers
returns-clause-first c = refl

pub returns-clause-third : goal.returns-clause-third
unfolding digits opened_by settle with_blocked finish_all groups_of range_numbers numbers_of set_of add_section section_at fault_of section_numbers
returns-clause-third c = refl

pub returns-clause-layers : goal.returns-clause-layers
unfolding digits opened_by settle with_blocked finish_all groups_of range_numbers numbers_of set_of add_section section_at fault_of section_numbers
returns-clause-layers c = refl

pub returns-clause-finished : goal.returns-clause-finished
unfolding digits opened_by settle with_blocked finish_all groups_of range_numbers numbers_of set_of add_section section_at fault_of section_numbers
returns-clause-finished c = refl
