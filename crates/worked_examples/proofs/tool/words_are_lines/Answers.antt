-- The examples compute.
use Rattle.std.proofs.Common.{refl}
use Rattle.serde_json.proofs.OnLiterals.{serde_json_on_literals}
use Rattle.std.specs.Fmt.{digits}
use Rattle.cue_words.specs.Commands.{words_of}
use Rattle.worked_examples.proofs.tool.words_are_lines.Goals as goal

pub returns-clause-list : goal.returns-clause-list
unfolding serde_json_on_literals digits words_of
returns-clause-list c = refl

pub returns-clause-list_of_job : goal.returns-clause-list_of_job
unfolding serde_json_on_literals digits words_of
returns-clause-list_of_job c = refl

pub returns-clause-sub : goal.returns-clause-sub
unfolding serde_json_on_literals digits words_of
returns-clause-sub c = refl

pub returns-clause-limit : goal.returns-clause-limit
unfolding words_of serde_json_on_literals digits
returns-clause-limit c = refl

pub returns-clause-nimby : goal.returns-clause-nimby
unfolding serde_json_on_literals digits words_of
returns-clause-nimby c = refl

pub returns-clause-depend : goal.returns-clause-depend
unfolding serde_json_on_literals digits words_of
returns-clause-depend c = refl

pub returns-clause-kill_job : goal.returns-clause-kill_job
unfolding serde_json_on_literals digits words_of
returns-clause-kill_job c = refl

pub returns-clause-kill_frame : goal.returns-clause-kill_frame
unfolding serde_json_on_literals digits words_of
returns-clause-kill_frame c = refl

pub returns-clause-minus_zero : goal.returns-clause-minus_zero
unfolding serde_json_on_literals digits words_of
returns-clause-minus_zero c = refl

pub returns-clause-tick : goal.returns-clause-tick
unfolding serde_json_on_literals digits words_of
returns-clause-tick c = refl

pub returns-clause-show : goal.returns-clause-show
unfolding serde_json_on_literals digits words_of
returns-clause-show c = refl

pub returns-clause-alloc : goal.returns-clause-alloc
unfolding serde_json_on_literals digits words_of
returns-clause-alloc c = refl

pub returns-clause-lock : goal.returns-clause-lock
unfolding serde_json_on_literals digits words_of
returns-clause-lock c = refl

pub returns-clause-unlock : goal.returns-clause-unlock
unfolding serde_json_on_literals digits words_of
returns-clause-unlock c = refl

pub returns-clause-depend_any : goal.returns-clause-depend_any
unfolding serde_json_on_literals digits words_of
returns-clause-depend_any c = refl

pub returns-clause-pause : goal.returns-clause-pause
unfolding serde_json_on_literals digits words_of
returns-clause-pause c = refl

pub returns-clause-resume : goal.returns-clause-resume
unfolding serde_json_on_literals digits words_of
returns-clause-resume c = refl

pub returns-clause-eat : goal.returns-clause-eat
unfolding serde_json_on_literals digits words_of
returns-clause-eat c = refl

pub returns-clause-retry : goal.returns-clause-retry
unfolding serde_json_on_literals digits words_of
returns-clause-retry c = refl
