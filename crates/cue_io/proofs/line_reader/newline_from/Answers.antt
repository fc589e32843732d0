use Rattle.std.proofs.Common.{List, ℕ, length, subst}
use Rattle.std.proofs.lemmas.List.{take_rest}
use Rattle.memchr.specs.Find.{Nowhere, NoneBefore, Passes}
use Rattle.cue_io.specs.Lines.{is_newline}
use Rattle.cue_io.proofs.NewlineLemmas.{first_found, none_found, none_in_both}
use Rattle.cue_io.proofs.line_reader.newline_from.Goals as goal

pub returns-in-Some : goal.returns-in-Some
returns-in-Some c =
    let IsFound : List ℕ → Type 0 = λ bytes.
    NoneBefore (Passes is_newline bytes) 0 (length bytes) c.in-Some.at × Passes is_newline bytes c.in-Some.at in
    let found = subst IsFound (take_rest c.args.bytes.now c.args.from) c.in-Some.ensures in
    first_found c.args.bytes.now c.args.from c.in-Some.at c.requires.within c.requires.searched found.0 found.1

pub returns-in-None : goal.returns-in-None
returns-in-None c =
    let IsNowhere : List ℕ → Type 0 = λ bytes. Nowhere (Passes is_newline bytes) 0 (length bytes) in
    none_in_both c.args.bytes.now c.args.from c.requires.searched
    (none_found _ (subst IsNowhere (take_rest c.args.bytes.now c.args.from) c.in-None.ensures))
