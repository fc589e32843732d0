-- The examples compute.
use Rattle.std.proofs.Common.{refl}
use Rattle.serde_json.proofs.OnLiterals.{serde_json_on_literals}
use Rattle.std.specs.Fmt.{digits}
use Rattle.std.specs.Str.{chars, is_utf8}
use Rattle.cue_json.specs.Lines.{object_in}
use Rattle.cue_words.specs.Commands.{words_of}
use Rattle.worked_examples.proofs.tool.specs_are_handed_on.Goals as goal

pub returns-clause-object : goal.returns-clause-object
unfolding words_of object_in is_utf8 chars serde_json_on_literals digits
returns-clause-object c = refl

pub returns-clause-list : goal.returns-clause-list
unfolding words_of object_in is_utf8 chars serde_json_on_literals digits
returns-clause-list c = refl

pub returns-clause-no_json : goal.returns-clause-no_json
unfolding words_of object_in is_utf8 chars serde_json_on_literals digits
returns-clause-no_json c = refl

pub returns-clause-fraction : goal.returns-clause-fraction
unfolding words_of object_in is_utf8 chars serde_json_on_literals digits
returns-clause-fraction c = refl
