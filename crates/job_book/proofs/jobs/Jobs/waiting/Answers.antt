use Rattle.std.proofs.Common.{◌∙◌, Option, ℕ, sym, ap, subst}
use Rattle.std.specs.List.{slice_get}
use Rattle.std.specs.Option.{option_and_then}
use Rattle.farm_types.specs.Jobs.{JobLists}
use Rattle.job_book.specs.Index.{WaitsFirst}
use Rattle.job_book.specs.Inside.{book_of}
use Rattle.job_entries.specs.Entries.{layer_position}
use Rattle.job_index.specs.Places.{first_marked}
use Rattle.job_book.proofs.FirstWaiting.{waits_first}
use Rattle.job_book.proofs.jobs.Jobs.waiting.Goals as goal

pub returns : goal.returns
returns c =
    let entries = c.self.inside.entries in
    let is = c.waiting_in.ensures ∙ ap (option_and_then (first_marked c.args.from)) (c.index.ensures c.args.layer) in
    let first = waits_first (book_of c.self.inside) entries.index c.self.invariant.layers c.self.invariant.waiting c.args.job c.args.layer c.args.from in
    subst (λ (o : Option ℕ). WaitsFirst c.args.self.now c.args.job c.args.layer c.args.from o) (sym is)
    (subst (λ (b : JobLists). WaitsFirst b c.args.job c.args.layer c.args.from (option_and_then (first_marked c.args.from) (slice_get entries.index (layer_position c.args.job c.args.layer entries.layers)))) c.self.view_is first)
