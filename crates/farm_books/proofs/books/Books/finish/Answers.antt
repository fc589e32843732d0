use Rattle.std.proofs.Common.{◌≡◌, true, ap, sym, ◌∙◌}
use Rattle.std.specs.List.{list_all}
use Rattle.farm_types.specs.Finish.{with_finished}
use Rattle.farm_types.specs.Jobs.{JobLists}
use Rattle.farm_types.specs.Step.{lists_of, with_lists}
use Rattle.farm_types.specs.Sums.{running_among}
use Rattle.farm_law.proofs.RunningInLimits.{running_freed}
use Rattle.farm_books.specs.Books.{FarmBooks, with_farm}
use Rattle.farm_books.specs.Finish.{has_ended}
use Rattle.farm_books.specs.Inside.{books_of, farm_of, is_framed}
use Rattle.farm_books.specs.Install.{procs_of}
use Rattle.farm_books.proofs.CountedLimits.{freed_framed, own_none}
use Rattle.farm_books.proofs.FreedProcs.{freed_procs}
use Rattle.farm_books.proofs.books.Books.finish.Goals as goal

pub invariant_of-self : goal.invariant_of-self
invariant_of-self c =
    let ended : list_all (has_ended c.args.job) c.self.inside.jobs.slots ≡ true = ap (λ (v : FarmBooks). list_all (has_ended c.args.job) v.farm.slots) c.self.view_is ∙ c.requires.none_live in
    let now = ap (λ (b : JobLists). procs_of b.slots) c.finish.ensures ∙ freed_procs c.args.job c.self.inside.jobs.slots ended in
    let a = c.self.inside in
    let job = c.args.job in
    record {
      attempts_are = c.self.invariant.attempts_are ∙ sym now;
      framed = ap (λ (b : JobLists). list_all is_framed b.slots) c.finish.ensures ∙ freed_framed job a.jobs.slots c.self.invariant.framed;
      running = λ limit below.
          c.self.invariant.running limit below
          ∙ sym (ap (λ (b : JobLists). running_among b.layers limit b.slots) c.finish.ensures ∙ running_freed job a.jobs.layers limit a.jobs.slots (own_none job a.jobs.slots ended));
    }

pub returns : goal.returns
returns c =
    ap (λ (b : JobLists). with_farm (books_of c.self.inside) (with_lists (farm_of c.self.inside) b)) c.finish.ensures
    ∙ ap (λ (v : FarmBooks). with_farm v (with_lists v.farm (with_finished c.args.job (lists_of v.farm)))) c.self.view_is
