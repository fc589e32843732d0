use Rattle.std.proofs.Common.{◌∙◌, List, sym, ap}
use Rattle.std.specs.Prelude.{option_copied, slice_get}
use Rattle.farm_types.specs.declared.rows.LimitRow.{LimitRow}
use Rattle.farm_types.specs.Farm.{Farm}
use Rattle.cue_query.proofs.limits.list_limit.Goals as goal

pub shown-requires : goal.shown-requires
shown-requires c =
    let rows = c.limits.ensures.rows ∙ ap (λ (g : Farm). g.limits) c.books.ensures.farm in
    sym (c.row.ensures ∙ ap (λ (ls : List LimitRow). slice_get ls c.args.number) rows) ∙ ap option_copied c.in-Some.is
