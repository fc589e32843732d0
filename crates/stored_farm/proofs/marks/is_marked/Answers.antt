use Rattle.std.proofs.Common.{◌∙◌, ℕ, eqb, length, ltb, ap, sym}
use Rattle.std.specs.List.{list_any}
use Rattle.std.proofs.lemmas.Bool.{leb-false, leb-true}
use Rattle.farm_types.specs.declared.depend.MetRow.{MetRow}
use Rattle.farm_rows.specs.declared.ids.TheConstants.{GROUP_IDS}
use Rattle.stored_farm.specs.Kept.{met_id}
use Rattle.stored_farm.proofs.Lookups.{any_by_place, marks_by_id, no_mark_past}
use Rattle.stored_farm.proofs.marks.is_marked.Goals as goal

pub returns-then-is_past_ids : goal.returns-then-is_past_ids
returns-then-is_past_ids c =
    sym (no_mark_past c.args.depend c.args.position c.args.met.now (leb-true GROUP_IDS c.args.position (sym c.is_past_ids.ensures ∙ c.if-is_past_ids.true)) c.requires.own)

pub returns : goal.returns
returns c =
    let met = c.args.met.now in
    ap (λ (place : ℕ). ltb place (length met)) c.place_of_id.ensures
    ∙ (any_by_place (λ (m : MetRow). eqb (met_id m) c.mark_id.result) met
    ∙ (ap (λ (id : ℕ). list_any (λ (m : MetRow). eqb (met_id m) id) met) c.mark_id.ensures
    ∙ marks_by_id c.args.depend c.args.position met (leb-false GROUP_IDS c.args.position (sym c.is_past_ids.ensures ∙ c.if-is_past_ids.false)) c.requires.own))
