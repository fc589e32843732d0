use Rattle.std.proofs.Common.{◌∙◌, sym, ap}
use Rattle.farm_types.specs.Farm.{is_placed, slot_from}
use Rattle.farm_types.specs.Jobs.{JobLists}
use Rattle.job_book.proofs.PlacementLemmas.LayerLists.{place_read}
use Rattle.job_book.proofs.jobs.Jobs.slot.Goals as goal

pub returns : goal.returns
returns c =
    let entries = c.self.inside.entries in
    c.slot_in.ensures ∙ place_read c.index.result.now entries.index c.args.layer _ c.args.position (c.index.ensures c.args.layer)
    ∙ sym (c.self.invariant.layers.found c.args.job c.args.layer c.args.position)
    ∙ ap (λ (b : JobLists). slot_from 0 (is_placed c.args.job c.args.layer c.args.position) b.slots) c.self.view_is
