-- Words that name a file are those of a script.
use Rattle.std.proofs.Common.{rules, ◌≡◌, ◌∙◌, Some, sym, ap}
use Rattle.std.specs.Prelude.{option_and_then}
use Rattle.serving.specs.session.specs.Words.{file_of, form_of}
use Rattle.serving.specs.session.proofs.NewKeepers.{files_are_scripts}
use Rattle.cuebot.proofs.answer_words.Goals as goal

pub answer_over_file-requires : goal.answer_over_file-requires
answer_over_file-requires c = λ form formed.
    let is : option_and_then file_of (form_of c.args.words.now) ≡ Some c.in-Some.path.now = search rules in
    files_are_scripts form c.in-Some.path.now (sym (ap (option_and_then file_of) formed) ∙ is)
