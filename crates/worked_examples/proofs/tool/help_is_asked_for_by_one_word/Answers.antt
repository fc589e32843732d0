-- The examples compute.
use Rattle.std.proofs.Common.{refl}
use Rattle.cue_words.specs.Commands.{words_of}
use Rattle.worked_examples.proofs.tool.help_is_asked_for_by_one_word.Goals as goal

pub returns-clause-one : goal.returns-clause-one
unfolding words_of
returns-clause-one c = refl

pub returns-clause-two : goal.returns-clause-two
unfolding words_of
returns-clause-two c = refl
