-- The farms compute.
use Rattle.std.proofs.Common.{refl}
use Rattle.std.specs.Fmt.{digits}
use Rattle.std.specs.Str.{chars, is_utf8}
use Rattle.frame_range.specs.Printed.{printed_section}
use Rattle.frame_range.specs.Sections.{section_at}
use Rattle.frame_range.specs.Sets.{add_section, fault_of, numbers_of, set_of}
use Rattle.frame_range.specs.Steps.{section_numbers}
use Rattle.farm_types.specs.Depends.{groups_of}
use Rattle.farm_types.specs.Ranges.{is_range_text, range_numbers}
use Rattle.farm_rows.specs.Recovery.{groups_so_far}
use Rattle.farm_rows.proofs.recovering.rows_at_fault_are_named.Goals as goal

pub returns-clause-boot : goal.returns-clause-boot
unfolding is_utf8 chars groups_so_far groups_of is_range_text range_numbers numbers_of set_of add_section section_at fault_of section_numbers printed_section digits lib.Utf8.encode
returns-clause-boot c = refl

pub returns-clause-number : goal.returns-clause-number
unfolding is_utf8 chars groups_so_far groups_of is_range_text range_numbers numbers_of set_of add_section section_at fault_of section_numbers printed_section digits lib.Utf8.encode
returns-clause-number c = refl

pub returns-clause-open : goal.returns-clause-open
unfolding is_utf8 chars groups_so_far groups_of is_range_text range_numbers numbers_of set_of add_section section_at fault_of section_numbers printed_section digits lib.Utf8.encode
returns-clause-open c = refl

pub returns-clause-limit : goal.returns-clause-limit
unfolding is_utf8 chars groups_so_far groups_of is_range_text range_numbers numbers_of set_of add_section section_at fault_of section_numbers printed_section digits lib.Utf8.encode
returns-clause-limit c = refl

pub returns-clause-new : goal.returns-clause-new
unfolding is_utf8 chars groups_so_far groups_of is_range_text range_numbers numbers_of set_of add_section section_at fault_of section_numbers printed_section digits lib.Utf8.encode
returns-clause-new c = refl
