-- The examples compute.
use Rattle.std.proofs.Common.{refl}
use Rattle.std.specs.Str.{chars}
use Rattle.std.specs.Fmt.{digits}
use Rattle.worked_examples.proofs.tool.lists_are_tables.Goals as goal

pub returns-clause-subs : goal.returns-clause-subs
unfolding chars digits
returns-clause-subs c = refl

pub returns-clause-limits : goal.returns-clause-limits
unfolding chars digits
returns-clause-limits c = refl

pub returns-clause-none : goal.returns-clause-none
unfolding chars digits
returns-clause-none c = refl

pub returns-clause-other_rows : goal.returns-clause-other_rows
unfolding chars digits
returns-clause-other_rows c = refl

pub returns-clause-no_list : goal.returns-clause-no_list
unfolding chars digits
returns-clause-no_list c = refl
