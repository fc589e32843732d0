use Rattle.std.proofs.Common.{◌≡◌, ◌+◌, ◌∙◌, true, Some, drop, length, slice_get, refl, sym, ap, subst, arith}
use Rattle.std.specs.List.{flat_map}
use Rattle.std.proofs.lemmas.Option.{slice_get_read}
use Rattle.farm_types.specs.Farm.{Farm, layers_of}
use Rattle.farm_types.specs.Jobs.{JobLists}
use Rattle.farm_types.specs.Step.{lists_of}
use Rattle.farm_books.specs.Reads.{takes_job}
use Rattle.dispatch_law.specs.ByIndex.{ranks_in_layer}
use Rattle.dispatch_plan.specs.Offers.{IsBilled, IsPending, offered}
use Rattle.dispatch_plan.proofs.JobSteps.{all_offered, of_job, piece_step}
use Rattle.dispatch_plan.proofs.NoneFits.{job_unoffered}
use Rattle.dispatch_plan.proofs.offers.offer_job.Goals as goal

pub returns-then-not-takes_job-clause-items : goal.returns-then-not-takes_job-clause-items
returns-then-not-takes_job-clause-items c =
    job_unoffered c.args.farm.now c.args.host c.args.job c.args.plan.now.items (sym (c.if-not-takes_job.ensures ∙ ap (λ (f : Farm). takes_job f c.args.host c.args.job) c.books.ensures.farm)) c.requires.few

pub offer_layer-requires-clause-there : goal.offer_layer-requires-clause-there
offer_layer-requires-clause-there c =
    let f = c.args.farm.now in
    let layers = c.layers_of-layers.result.now in
    let own : layers ≡ layers_of f.layers c.args.job = c.layers_of-layers.ensures ∙ ap (λ (b : JobLists). layers_of b.layers c.args.job) (c.jobs.ensures ∙ ap lists_of c.books-2.ensures.farm) in
    let at : slice_get layers c.loop-layer.layer-index ≡ Some c.layer-item.result = slice_get_read layers (length layers) c.loop-layer.layer-index c.layer-item.result refl c.loop-layer-test.true c.layer-item.is in
    let it = of_job f c.args.job c.loop-layer.layer-index c.layer-item.result c.kept.ensures.rows c.requires.pending (ap (λ ls. slice_get ls c.loop-layer.layer-index) (sym own) ∙ at) in
    it.there

pub offer_layer-requires-clause-pending : goal.offer_layer-requires-clause-pending
offer_layer-requires-clause-pending c =
    let f = c.args.farm.now in
    let layers = c.layers_of-layers.result.now in
    let own : layers ≡ layers_of f.layers c.args.job = c.layers_of-layers.ensures ∙ ap (λ (b : JobLists). layers_of b.layers c.args.job) (c.jobs.ensures ∙ ap lists_of c.books-2.ensures.farm) in
    let at : slice_get layers c.loop-layer.layer-index ≡ Some c.layer-item.result = slice_get_read layers (length layers) c.loop-layer.layer-index c.layer-item.result refl c.loop-layer-test.true c.layer-item.is in
    let it = of_job f c.args.job c.loop-layer.layer-index c.layer-item.result c.kept.ensures.rows c.requires.pending (ap (λ ls. slice_get ls c.loop-layer.layer-index) (sym own) ∙ at) in
    subst (IsPending f) it.job_is c.requires.pending

pub offer_layer-requires-clause-taken : goal.offer_layer-requires-clause-taken
offer_layer-requires-clause-taken c =
    let f = c.args.farm.now in
    let layers = c.layers_of-layers.result.now in
    let own : layers ≡ layers_of f.layers c.args.job = c.layers_of-layers.ensures ∙ ap (λ (b : JobLists). layers_of b.layers c.args.job) (c.jobs.ensures ∙ ap lists_of c.books-2.ensures.farm) in
    let at : slice_get layers c.loop-layer.layer-index ≡ Some c.layer-item.result = slice_get_read layers (length layers) c.loop-layer.layer-index c.layer-item.result refl c.loop-layer-test.true c.layer-item.is in
    let it = of_job f c.args.job c.loop-layer.layer-index c.layer-item.result c.kept.ensures.rows c.requires.pending (ap (λ ls. slice_get ls c.loop-layer.layer-index) (sym own) ∙ at) in
    subst (λ job. takes_job f c.args.host job ≡ true) it.job_is (sym (c.if-not-takes_job.ensures ∙ ap (λ (f : Farm). takes_job f c.args.host c.args.job) c.books.ensures.farm))

pub offer_layer-requires-clause-short : goal.offer_layer-requires-clause-short
offer_layer-requires-clause-short c =
    let f = c.args.farm.now in
    let layers = c.layers_of-layers.result.now in
    let own : layers ≡ layers_of f.layers c.args.job = c.layers_of-layers.ensures ∙ ap (λ (b : JobLists). layers_of b.layers c.args.job) (c.jobs.ensures ∙ ap lists_of c.books-2.ensures.farm) in
    let at : slice_get layers c.loop-layer.layer-index ≡ Some c.layer-item.result = slice_get_read layers (length layers) c.loop-layer.layer-index c.layer-item.result refl c.loop-layer-test.true c.layer-item.is in
    let it = of_job f c.args.job c.loop-layer.layer-index c.layer-item.result c.kept.ensures.rows c.requires.pending (ap (λ ls. slice_get ls c.loop-layer.layer-index) (sym own) ∙ at) in
    it.short

pub offer_layer-requires-clause-billed : goal.offer_layer-requires-clause-billed
offer_layer-requires-clause-billed c =
    let f = c.args.farm.now in
    let layers = c.layers_of-layers.result.now in
    let own : layers ≡ layers_of f.layers c.args.job = c.layers_of-layers.ensures ∙ ap (λ (b : JobLists). layers_of b.layers c.args.job) (c.jobs.ensures ∙ ap lists_of c.books-2.ensures.farm) in
    let at : slice_get layers c.loop-layer.layer-index ≡ Some c.layer-item.result = slice_get_read layers (length layers) c.loop-layer.layer-index c.layer-item.result refl c.loop-layer-test.true c.layer-item.is in
    let it = of_job f c.args.job c.loop-layer.layer-index c.layer-item.result c.kept.ensures.rows c.requires.pending (ap (λ ls. slice_get ls c.loop-layer.layer-index) (sym own) ∙ at) in
    subst (λ job. IsBilled f c.args.host job c.args.sub) it.job_is c.requires.billed

pub loop-layer-preserved : goal.loop-layer-preserved
loop-layer-preserved c =
    let f = c.args.farm.now in
    let layers = c.layers_of-layers.result.now in
    record {
      items =
          ap (λ ps. offered ps (flat_map (ranks_in_layer f c.args.host) (drop (c.loop-layer.layer-index + 1) layers))) c.offer_layer.ensures.items
          ∙ (sym (piece_step (ranks_in_layer f c.args.host) layers c.loop-layer.layer-index c.layer-item.result c.loop-layer.plan.items (slice_get_read layers (length layers) c.loop-layer.layer-index c.layer-item.result refl c.loop-layer-test.true c.layer-item.is)) ∙ c.loop-layer.invariant.items);
      few = c.offer_layer.ensures.few;
      capacity = c.offer_layer.ensures.capacity ∙ c.loop-layer.invariant.capacity;
    }

pub returns-clause-items : goal.returns-clause-items
returns-clause-items c =
    let f = c.args.farm.now in
    let layers = c.layers_of-layers.result.now in
    let own : layers ≡ layers_of f.layers c.args.job = c.layers_of-layers.ensures ∙ ap (λ (b : JobLists). layers_of b.layers c.args.job) (c.jobs.ensures ∙ ap lists_of c.books-2.ensures.farm) in
    let test = c.loop-layer-test.false in
    sym (all_offered (ranks_in_layer f c.args.host) layers c.loop-layer.layer-index c.loop-layer.plan.items (omega (arith, test)) c.loop-layer.invariant.few)
    ∙ (c.loop-layer.invariant.items ∙ ap (λ ls. offered c.args.plan.now.items (flat_map (ranks_in_layer f c.args.host) ls)) own)
