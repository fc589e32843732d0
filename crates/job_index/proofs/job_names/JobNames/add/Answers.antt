use Rattle.std.proofs.Common.{◌≡◌, ◌∙◌, ◌++◌, ◌∷◌, [], ℕ, List, None, Some, cond, map, length, length-append, ap, string_bytes, arith}
use Rattle.std.specs.Str.{bytes_eq}
use Rattle.std.proofs.lemmas.List.{length-map, map_push}
use Rattle.indexmap.proofs.CallerLemmas.{insert_entry-new}
use Rattle.job_index.specs.Names.{NameList, number_of}
use Rattle.job_index.proofs.TextNumbers.{added_first, added_last, err_holds, if_err_holds, looked_up, none_in_first, ok_holds, text_number}
use Rattle.job_index.proofs.job_names.JobNames.add.Goals as goal

pub returns-in-Ok-clause-others : goal.returns-in-Ok-clause-others
returns-in-Ok-clause-others c other =
    let name = string_bytes c.args.name in
    let job = c.args.job in
    let late = c.self.inside.late.items in
    let old = c.self.inside.numbers in
    let new : number_of name (map text_number old.entries ++ late) ≡ None = ap (λ (l : NameList). number_of name l.pairs) c.self.view_is ∙ c.requires.new in
    let entries = ok_holds _ _ _ c.in-Ok.is c.insert.ensures.entries ∙ insert_entry-new _ old c.args.name job (looked_up name old.entries ∙ none_in_first name (map text_number old.entries) late new) in
    ap (λ (es : List _). number_of other (map text_number es ++ late)) entries ∙ ap (λ (ps : List (List ℕ × ℕ)). number_of other (ps ++ late)) (map_push text_number old.entries (c.args.name, job))
    ∙ added_first name job (map text_number old.entries) late new other ∙ ap (λ (l : NameList). cond (bytes_eq name other) (Some job) (number_of other l.pairs)) c.self.view_is

pub returns-in-Ok-clause-count : goal.returns-in-Ok-clause-count
returns-in-Ok-clause-count c =
    let name = string_bytes c.args.name in
    let job = c.args.job in
    let late = c.self.inside.late.items in
    let old = c.self.inside.numbers in
    let new : number_of name (map text_number old.entries ++ late) ≡ None = ap (λ (l : NameList). number_of name l.pairs) c.self.view_is ∙ c.requires.new in
    let entries = ok_holds _ _ _ c.in-Ok.is c.insert.ensures.entries ∙ insert_entry-new _ old c.args.name job (looked_up name old.entries ∙ none_in_first name (map text_number old.entries) late new) in
    omega (
      arith,
      length-append (map text_number c.insert.new.self.entries) late,
      length-map c.insert.new.self.entries text_number,
      ap (λ (es : List _). length es) entries,
      length-append old.entries ((c.args.name, job) ∷ []),
      length-append (map text_number old.entries) late,
      length-map old.entries text_number,
      ap (λ (l : NameList). length l.pairs) c.self.view_is,
    )

pub returns-in-Err-clause-others : goal.returns-in-Err-clause-others
returns-in-Err-clause-others c other =
    let name = string_bytes c.args.name in
    let job = c.args.job in
    let late = c.self.inside.late.items in
    let old = c.self.inside.numbers in
    let new : number_of name (map text_number old.entries ++ late) ≡ None = ap (λ (l : NameList). number_of name l.pairs) c.self.view_is ∙ c.requires.new in
    let entries = err_holds _ _ _ c.in-Err.is c.insert.ensures.err in
    let back = if_err_holds _ _ _ c.in-Err.is c.insert.ensures.value_returned in
    ap (λ (es : List _). number_of other (map text_number es ++ c.add_late.new.late.items)) entries
    ∙ ap (λ (ls : List (List ℕ × ℕ)). number_of other (map text_number old.entries ++ ls)) (c.add_late.ensures.items ∙ ap (λ p. late ++ (string_bytes p.0, p.1) ∷ []) back)
    ∙ added_last name job (map text_number old.entries) late new other ∙ ap (λ (l : NameList). cond (bytes_eq name other) (Some job) (number_of other l.pairs)) c.self.view_is
