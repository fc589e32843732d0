use Rattle.std.proofs.Common.{◌∙◌, refl, sym, ap, subst}
use Rattle.std.specs.List.{slice_get}
use Rattle.job_entries.specs.declared.entries.At.{At}
use Rattle.job_entries.specs.Entries.{IsAt, layer_position}
use Rattle.job_entries.proofs.entries.Entries.index.Goals as goal

pub index_at-requires : goal.index_at-requires
index_at-requires c = subst (λ (a : At). IsAt a c.args.self.now.numbers) (sym c.at-at.ensures) refl

pub returns : goal.returns
returns c layer = c.index_at.ensures layer ∙ ap (λ (a : At). slice_get c.args.self.now.index (layer_position a.job layer c.args.self.now.layers)) c.at-at.ensures
