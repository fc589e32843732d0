use Rattle.std.proofs.Common.{◌∙◌, eqb, refl, sym, ap, subst}
use Rattle.std.specs.List.{find}
use Rattle.farm_types.specs.declared.rows.JobRow.{JobRow}
use Rattle.job_entries.specs.declared.entries.At.{At}
use Rattle.job_entries.specs.Entries.{IsAt}
use Rattle.job_entries.proofs.entries.Entries.row.Goals as goal

pub row_at-requires : goal.row_at-requires
row_at-requires c = subst (λ (a : At). IsAt a c.args.self.now.numbers) (sym c.at-at.ensures) refl

pub returns : goal.returns
returns c = c.row_at.ensures ∙ ap (λ (a : At). find (λ (j : JobRow). eqb j.job a.job) c.args.self.now.rows) c.at-at.ensures
