use Rattle.std.proofs.Common.{◌≡◌, ◌∙◌, ◌+◌, ◌≤◌, ◌++◌, ℕ, List, Option, None, cond, is_some, map, filter, length, length-append, sym, ap, subst, arith}
use Rattle.std.specs.Option.{option_or}
use Rattle.std.specs.Str.{bytes_eq}
use Rattle.std.proofs.lemmas.List.{length-map}
use Rattle.std.proofs.lemmas.Map.Text.{hash_map_updates_text}
use Rattle.job_index.specs.Names.{NameList, number_of}
use Rattle.job_index.proofs.TextNumbers.{count_left, fewer_left, found_count, found_in_both, looked_up, name_left, or_by, stays, text_number}
use Rattle.job_index.proofs.job_names.JobNames.remove.Goals as goal

pub returns-clause-others : goal.returns-clause-others
returns-clause-others c other =
    let name = c.args.name.now in
    let old = c.self.inside.numbers in
    let late = c.self.inside.late.items in
    let new = c.swap_remove.new.self in
    let first = sym (looked_up other new.entries) ∙ hash_map_updates_text name old new None c.swap_remove.ensures.updates other ∙ ap (cond (bytes_eq name other) None) (looked_up other old.entries) in
    let second = ap (number_of other) c.remove_late.ensures.items ∙ name_left name other late in
    found_in_both other (map text_number new.entries) c.remove_late.new.late.items
    ∙ ap (λ (o : Option ℕ). option_or o (number_of other c.remove_late.new.late.items)) first ∙ ap (option_or (cond (bytes_eq name other) None (number_of other (map text_number old.entries)))) second
    ∙ or_by (bytes_eq name other) (number_of other (map text_number old.entries)) (number_of other late)
    ∙ ap (cond (bytes_eq name other) None) (sym (found_in_both other (map text_number old.entries) late) ∙ ap (λ (l : NameList). number_of other l.pairs) c.self.view_is)

pub returns-clause-count : goal.returns-clause-count
returns-clause-count c =
    let name = c.args.name.now in
    let old = c.self.inside.numbers in
    let late = c.self.inside.late.items in
    let new = c.swap_remove.new.self in
    let there = number_of name (map text_number old.entries) in
    let found = c.swap_remove.ensures.value ∙ looked_up name old.entries in
    let count : length new.entries + cond (is_some there) 1 0 ≡ length old.entries =
    subst (λ (o : Option ℕ). length new.entries + cond (is_some o) 1 0 ≡ length old.entries) found c.swap_remove.ensures.len in
    let total = found_count name (length new.entries) (length old.entries) (length (filter (stays name) late)) (length late) there (number_of name late) count (fewer_left name late) (count_left name late) in
    let either : number_of name c.args.self.now.pairs ≡ option_or there (number_of name late) = ap (λ (l : NameList). number_of name l.pairs) (sym c.self.view_is) ∙ found_in_both name (map text_number old.entries) late in
    subst (λ (o : Option ℕ). length (map text_number new.entries ++ c.remove_late.new.late.items) + cond (is_some o) 1 0 ≤ length c.args.self.now.pairs) (sym either)
    (omega (
      arith,
      total,
      length-append (map text_number new.entries) c.remove_late.new.late.items,
      length-map new.entries text_number,
      ap (λ (ls : List (List ℕ × ℕ)). length ls) c.remove_late.ensures.items,
      length-append (map text_number old.entries) late,
      length-map old.entries text_number,
      ap (λ (l : NameList). length l.pairs) c.self.view_is,
    ))
