-- The examples compute.
use Rattle.std.proofs.Common.{refl}
use Rattle.cue_words.specs.Commands.{words_of}
use Rattle.worked_examples.proofs.tool.words_are_wrong_by_place.Goals as goal

pub returns-clause-none : goal.returns-clause-none
unfolding words_of
returns-clause-none c = refl

pub returns-clause-unknown : goal.returns-clause-unknown
unfolding words_of
returns-clause-unknown c = refl

pub returns-clause-missing : goal.returns-clause-missing
unfolding words_of
returns-clause-missing c = refl

pub returns-clause-too_many : goal.returns-clause-too_many
unfolding words_of
returns-clause-too_many c = refl

pub returns-clause-part_of_a_frame : goal.returns-clause-part_of_a_frame
unfolding words_of
returns-clause-part_of_a_frame c = refl

pub returns-clause-no_number : goal.returns-clause-no_number
unfolding words_of
returns-clause-no_number c = refl

pub returns-clause-eleven_digits : goal.returns-clause-eleven_digits
unfolding words_of
returns-clause-eleven_digits c = refl

pub returns-clause-no_cores : goal.returns-clause-no_cores
unfolding words_of
returns-clause-no_cores c = refl

pub returns-clause-no_most : goal.returns-clause-no_most
unfolding words_of
returns-clause-no_most c = refl

pub returns-clause-no_kind : goal.returns-clause-no_kind
unfolding words_of
returns-clause-no_kind c = refl

pub returns-clause-no_on : goal.returns-clause-no_on
unfolding words_of
returns-clause-no_on c = refl

pub returns-clause-no_spec : goal.returns-clause-no_spec
unfolding words_of
returns-clause-no_spec c = refl

pub returns-clause-two_files : goal.returns-clause-two_files
unfolding words_of
returns-clause-two_files c = refl

pub returns-clause-lone_minus : goal.returns-clause-lone_minus
unfolding words_of
returns-clause-lone_minus c = refl

pub returns-clause-no_frame : goal.returns-clause-no_frame
unfolding words_of
returns-clause-no_frame c = refl

pub returns-clause-frame_missing : goal.returns-clause-frame_missing
unfolding words_of
returns-clause-frame_missing c = refl

pub returns-clause-one_too_many : goal.returns-clause-one_too_many
unfolding words_of
returns-clause-one_too_many c = refl

pub returns-clause-no_any_or_all : goal.returns-clause-no_any_or_all
unfolding words_of
returns-clause-no_any_or_all c = refl

pub returns-clause-another_word_for_on : goal.returns-clause-another_word_for_on
unfolding words_of
returns-clause-another_word_for_on c = refl

pub returns-clause-no_target : goal.returns-clause-no_target
unfolding words_of
returns-clause-no_target c = refl

pub returns-clause-no_file : goal.returns-clause-no_file
unfolding words_of
returns-clause-no_file c = refl
