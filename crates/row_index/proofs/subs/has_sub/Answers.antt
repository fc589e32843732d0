use Rattle.std.proofs.Common.{◌∙◌, ap, sym, eqb, ℕ}
use Rattle.std.specs.List.{list_any}
use Rattle.farm_types.specs.declared.rows.SubRow.{SubRow}
use Rattle.farm_types.specs.Farm.{sub_of}
use Rattle.row_index.proofs.Frames.{some_found}
use Rattle.row_index.proofs.SubNumbers.{none_past}
use Rattle.row_index.proofs.subs.has_sub.Goals as goal

pub returns-in-None : goal.returns-in-None
returns-in-None c =
    let n = sub_of c.args.show c.args.alloc in
    let subs = c.args.subs.now in
    sym (none_past n subs c.in-None.ensures.none c.requires.numbered) ∙ sym (some_found (λ (s : SubRow). eqb s.sub n) subs)

pub returns-in-Some : goal.returns-in-Some
returns-in-Some c =
    let n = sub_of c.args.show c.args.alloc in
    let subs = c.args.subs.now in
    c.any_sub.ensures ∙ ap (λ (m : ℕ). list_any (λ (s : SubRow). eqb s.sub m) subs) c.in-Some.ensures.number ∙ sym (some_found (λ (s : SubRow). eqb s.sub n) subs)
