-- The line and the farms compute.
use Rattle.std.proofs.Common.{refl}
use Rattle.std.specs.Fmt.{digits}
use Rattle.serde_json.proofs.OnLiterals.{serde_json_on_literals}
use Rattle.frame_range.specs.Sections.{section_at}
use Rattle.frame_range.specs.Sets.{add_section, fault_of, numbers_of, set_of}
use Rattle.frame_range.specs.Steps.{section_numbers}
use Rattle.farm_types.specs.DependActs.{unmet_of}
use Rattle.farm_types.specs.Depends.{groups_of}
use Rattle.farm_types.specs.Ranges.{range_numbers}
use Rattle.farm_types.specs.Settle.{opened_by, settle, with_blocked}
use Rattle.farm_types.specs.Step.{finish_all}
use Rattle.farm_lines.specs.DependLines.{depend_at, target_at, waiter_at}
use Rattle.farm_lines.specs.Reply.{depend_data}
use Rattle.worked_examples.proofs.waiting.jobs_wait_for_jobs.Goals as goal

pub returns-clause-asked : goal.returns-clause-asked
unfolding depend_at target_at waiter_at
returns-clause-asked c = refl

pub returns-clause-added : goal.returns-clause-added
unfolding unmet_of settle groups_of range_numbers numbers_of set_of add_section section_at fault_of section_numbers
returns-clause-added c = refl

pub returns-clause-told : goal.returns-clause-told
unfolding serde_json_on_literals digits depend_data unmet_of settle groups_of range_numbers numbers_of set_of add_section section_at fault_of section_numbers
returns-clause-told c = refl

pub returns-clause-blocked : goal.returns-clause-blocked
unfolding settle with_blocked groups_of range_numbers numbers_of set_of add_section section_at fault_of section_numbers
returns-clause-blocked c = refl

pub returns-clause-versions : goal.returns-clause-versions
unfolding settle with_blocked groups_of range_numbers numbers_of set_of add_section section_at fault_of section_numbers
returns-clause-versions c = refl

pub returns-clause-offered : goal.returns-clause-offered
unfolding finish_all settle with_blocked groups_of range_numbers numbers_of set_of add_section section_at fault_of section_numbers
returns-clause-offered c = refl

pub returns-clause-dropped : goal.returns-clause-dropped
unfolding opened_by settle with_blocked groups_of range_numbers numbers_of set_of add_section section_at fault_of section_numbers
returns-clause-dropped c = refl

pub returns-clause-freed : goal.returns-clause-freed
unfolding settle with_blocked groups_of range_numbers numbers_of set_of add_section section_at fault_of section_numbers
returns-clause-freed c = refl
