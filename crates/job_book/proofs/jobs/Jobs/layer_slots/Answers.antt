use Rattle.std.proofs.Common.{◌∙◌, sym, ap}
use Rattle.farm_types.specs.Farm.{is_placed, slot_from}
use Rattle.farm_types.specs.Jobs.{JobLists}
use Rattle.job_book.proofs.PlacementLemmas.LayerLists.{place_read}
use Rattle.job_book.proofs.jobs.Jobs.layer_slots.Goals as goal

pub returns : goal.returns
returns c position =
    let entries = c.self.inside.entries in
    sym (c.slots_in.ensures position ∙ place_read c.index.result.now entries.index c.args.layer _ position (c.index.ensures c.args.layer)
    ∙ sym (c.self.invariant.layers.found c.args.job c.args.layer position)
    ∙ ap (λ (b : JobLists). slot_from 0 (is_placed c.args.job c.args.layer position) b.slots) c.self.view_is)
