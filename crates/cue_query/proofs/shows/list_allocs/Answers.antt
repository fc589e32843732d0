use Rattle.std.proofs.Common.{◌∙◌, map, sym, ap}
use Rattle.std.specs.Prelude.{option_copied}
use Rattle.farm_lines.specs.Lists.{alloc_row}
use Rattle.farm_types.specs.Farm.{Farm}
use Rattle.std.specs.List.{slice_get}
use Rattle.cue_query.proofs.InTurn.{item_listed, items_listed}
use Rattle.cue_query.proofs.shows.list_allocs.Goals as goal

pub loop-row-preserved : goal.loop-row-preserved
loop-row-preserved c =
    let xs = c.args.farm.now.allocs in
    let l = c.loop-row in
    let at = sym (c.allocation.ensures ∙ ap (λ (g : Farm). slice_get g.allocs l.number) c.books.ensures.farm) ∙ ap option_copied c.in-Some.is in
    item_listed alloc_row xs c.args.page.now l.page c.list_alloc.new.page l.number c.in-Some.row.now (map alloc_row xs) l.invariant at c.in_ok-list_alloc.ensures

pub returns : goal.returns
returns c =
    let xs = c.args.farm.now.allocs in
    let l = c.loop-row in
    items_listed alloc_row xs c.args.page.now l.page l.number (map alloc_row xs) l.invariant (sym (c.allocation.ensures ∙ ap (λ (g : Farm). slice_get g.allocs l.number) c.books.ensures.farm) ∙ ap option_copied c.in_default.is)
