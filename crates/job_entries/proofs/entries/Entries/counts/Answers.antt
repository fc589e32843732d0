use Rattle.std.proofs.Common.{◌∙◌, refl, sym, ap, subst}
use Rattle.job_entries.specs.declared.entries.At.{At}
use Rattle.job_entries.specs.Entries.{IsAt, counts_in}
use Rattle.job_entries.proofs.entries.Entries.counts.Goals as goal

pub counts_at-requires : goal.counts_at-requires
counts_at-requires c = subst (λ (a : At). IsAt a c.args.self.now.numbers) (sym c.at-at.ensures) refl

pub returns : goal.returns
returns c = c.counts_at.ensures ∙ ap (λ (a : At). counts_in a.job c.args.self.now) c.at-at.ensures
