-- The farms and their lists compute.
use Rattle.std.proofs.Common.{refl}
use Rattle.std.specs.Fmt.{digits}
use Rattle.frame_range.specs.Sections.{section_at}
use Rattle.frame_range.specs.Sets.{add_section, fault_of, numbers_of, set_of}
use Rattle.frame_range.specs.Steps.{section_numbers}
use Rattle.farm_types.specs.Depends.{groups_of}
use Rattle.farm_types.specs.Ranges.{range_numbers}
use Rattle.farm_types.specs.Settle.{opened_by, settle, with_blocked}
use Rattle.farm_types.specs.Step.{finish_all}
use Rattle.farm_lines.specs.Lists.{page_listed}
use Rattle.worked_examples.proofs.listing.pages_begin_at_their_place.Goals as goal

pub returns-clause-second : goal.returns-clause-second
unfolding page_listed digits opened_by settle with_blocked finish_all groups_of range_numbers numbers_of set_of add_section section_at fault_of section_numbers
returns-clause-second c = refl

pub returns-clause-past : goal.returns-clause-past
unfolding page_listed digits opened_by settle with_blocked finish_all groups_of range_numbers numbers_of set_of add_section section_at fault_of section_numbers
returns-clause-past c = refl
