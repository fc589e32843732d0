-- The farms and their lists compute.
use Rattle.std.proofs.Common.{refl}
use Rattle.std.specs.Fmt.{digits}
use Rattle.frame_range.specs.Sections.{section_at}
use Rattle.frame_range.specs.Sets.{add_section, fault_of, numbers_of, set_of}
use Rattle.frame_range.specs.Steps.{section_numbers}
use Rattle.farm_types.specs.Depends.{groups_of}
use Rattle.farm_types.specs.Ranges.{range_numbers}
use Rattle.farm_types.specs.Settle.{opened_by, settle, with_blocked}
use Rattle.farm_types.specs.Step.{finish_all}
use Rattle.worked_examples.proofs.listing.attempts_are_listed.Goals as goal

pub returns-clause-hosts : goal.returns-clause-hosts
unfolding digits opened_by settle with_blocked finish_all groups_of range_numbers numbers_of set_of add_section section_at fault_of section_numbers
returns-clause-hosts c = refl

pub returns-clause-subs : goal.returns-clause-subs
unfolding digits opened_by settle with_blocked finish_all groups_of range_numbers numbers_of set_of add_section section_at fault_of section_numbers
returns-clause-subs c = refl

pub returns-clause-procs : goal.returns-clause-procs
unfolding digits opened_by settle with_blocked finish_all groups_of range_numbers numbers_of set_of add_section section_at fault_of section_numbers
returns-clause-procs c = refl
