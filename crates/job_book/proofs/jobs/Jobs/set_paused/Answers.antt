use Rattle.std.proofs.Common.{◌∙◌, map, sym, ap}
use Rattle.farm_types.specs.Jobs.{JobLists}
use Rattle.farm_types.specs.Operators.{paused_row}
use Rattle.job_entries.specs.declared.entries.At.{At}
use Rattle.job_book.specs.Inside.{book_of}
use Rattle.job_entries.specs.OneJob.{AllJobs}
use Rattle.job_book.proofs.FoundAt.{found_at}
use Rattle.job_book.proofs.EndingLemmas.FinishNumbers.{paused_finishes}
use Rattle.job_book.proofs.PausedJobs.{paused_book, paused_counts, paused_finished, paused_names, paused_ready}
use Rattle.job_book.proofs.jobs.Jobs.set_paused.Goals as goal

pub pause-requires : goal.pause-requires
pause-requires c = found_at c.at-at.result c.self.inside.entries.numbers c.at-at.ensures

pub invariant_of-self : goal.invariant_of-self
invariant_of-self c =
    let inside = c.self.inside in
    let ok = c.self.invariant in
    let job = c.args.job in
    let paused = c.args.paused in
    let jobs = inside.entries.rows in
    let new = c.pause.ensures ∙ ap (λ (a : At). record inside.entries { rows = map (paused_row a.job paused) jobs }) c.at-at.ensures in
    record {
      lists = rw new (paused_book job paused (book_of inside) ok.lists);
      names = rw new (paused_names job paused inside.names.pairs jobs ok.names);
      finishes = rw new (paused_finishes job paused jobs inside.entries.next inside.next_finish ok.finishes);
      finished = rw new (paused_finished job paused jobs inside.finished ok.finished);
      free = ok.free;
      layers = rw new ok.layers;
      waiting = rw new ok.waiting;
      ready = rw new (paused_ready job paused jobs inside.slots.items inside.ready.items ok.ready);
      counts_are = rw new (ok.counts_are ∙ sym (paused_counts job paused jobs inside.slots.items));
      slots_capacity = ok.slots_capacity;
    }

pub returns : goal.returns
returns c =
    let inside = c.self.inside in
    let new = c.pause.ensures ∙ ap (λ (a : At). record inside.entries { rows = map (paused_row a.job c.args.paused) inside.entries.rows }) c.at-at.ensures in
    ap (λ (a : AllJobs). record { jobs = a.rows; layers = a.layers; slots = inside.slots.items; next_job = a.next; next_finish = inside.next_finish }) new
    ∙ ap (λ (b : JobLists). record b { jobs = map (paused_row c.args.job c.args.paused) b.jobs }) c.self.view_is
