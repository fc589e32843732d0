use Rattle.std.proofs.Common.{◌∙◌, map, sym, ap}
use Rattle.std.specs.Prelude.{option_copied}
use Rattle.farm_lines.specs.Lists.{show_row}
use Rattle.farm_types.specs.Farm.{Farm}
use Rattle.std.specs.List.{slice_get}
use Rattle.cue_query.proofs.InTurn.{item_listed, items_listed}
use Rattle.cue_query.proofs.shows.list_shows.Goals as goal

pub loop-show-preserved : goal.loop-show-preserved
loop-show-preserved c =
    let xs = c.args.farm.now.shows in
    let l = c.loop-show in
    let at = sym (c.show.ensures ∙ ap (λ (g : Farm). slice_get g.shows l.number) c.books.ensures.farm) ∙ ap option_copied c.in-Some.is in
    item_listed show_row xs c.args.page.now l.page c.list_show.new.page l.number c.in-Some.show.now (map show_row xs) l.invariant at c.in_ok-list_show.ensures

pub returns : goal.returns
returns c =
    let xs = c.args.farm.now.shows in
    let l = c.loop-show in
    items_listed show_row xs c.args.page.now l.page l.number (map show_row xs) l.invariant (sym (c.show.ensures ∙ ap (λ (g : Farm). slice_get g.shows l.number) c.books.ensures.farm) ∙ ap option_copied c.in_default.is)
