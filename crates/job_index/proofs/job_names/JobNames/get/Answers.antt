use Rattle.std.proofs.Common.{◌≡◌, ◌∙◌, ℕ, Option, None, Some, map, sym, ap}
use Rattle.std.specs.Option.{option_or}
use Rattle.job_index.specs.Names.{NameList, number_of}
use Rattle.job_index.proofs.TextNumbers.{found_in_both, looked_up, text_number}
use Rattle.job_index.proofs.job_names.JobNames.get.Goals as goal

pub returns-in-Some : goal.returns-in-Some
returns-in-Some c =
    let name = c.args.name.now in
    let late = c.self.inside.late.items in
    let entries = c.self.inside.numbers.entries in
    let here : number_of name (map text_number entries) ≡ Some c.in-Some.job.now = sym (c.in-Some.ensures.value ∙ looked_up name entries) in
    sym (ap (λ (o : Option ℕ). option_or o (number_of name late)) here) ∙ sym (found_in_both name (map text_number entries) late) ∙ ap (λ (l : NameList). number_of name l.pairs) c.self.view_is

pub returns-in-None : goal.returns-in-None
returns-in-None c =
    let name = c.args.name.now in
    let late = c.self.inside.late.items in
    let entries = c.self.inside.numbers.entries in
    let none : number_of name (map text_number entries) ≡ None = sym (c.in-None.ensures.value ∙ looked_up name entries) in
    c.number_among.ensures ∙ ap (number_of name) c.as_slice.ensures.value
    ∙ sym (ap (λ (o : Option ℕ). option_or o (number_of name late)) none) ∙ sym (found_in_both name (map text_number entries) late) ∙ ap (λ (l : NameList). number_of name l.pairs) c.self.view_is
