use Rattle.std.proofs.Common.{◌∙◌, List, option_map, ltb, sym, ap, subst}
use Rattle.std.specs.List.{find}
use Rattle.farm_types.specs.declared.rows.JobRow.{JobRow}
use Rattle.job_entries.specs.declared.entries.Place.{Place}
use Rattle.job_entries.specs.Entries.{ArePlaces, held, row_of}
use Rattle.job_entries.specs.OneJob.{AllJobs, OneJob}
use Rattle.job_entries.proofs.HeldLists.{find-map, number_read}
use Rattle.job_entries.proofs.entries.Entries.after.Goals as goal

pub number_after-requires : goal.number_after-requires
number_after-requires c = subst ArePlaces (sym c.as_slice.ensures.value) (record { next = c.self.inside.next; rise = c.self.invariant.rise; each = c.self.invariant.each })

pub returns : goal.returns
returns c =
    let es = held c.self.inside.places.items in
    c.number_after.ensures ∙ ap (λ (ps : List Place). option_map (λ (e : OneJob). e.row.job) (find (λ (e : OneJob). ltb c.args.after e.row.job) (held ps))) c.as_slice.ensures.value
    ∙ number_read (find (λ (e : OneJob). ltb c.args.after e.row.job) es)
    ∙ ap (option_map (λ (j : JobRow). j.job)) (sym (find-map (λ (j : JobRow). ltb c.args.after j.job) row_of es))
    ∙ ap (λ (a : AllJobs). option_map (λ (j : JobRow). j.job) (find (λ (j : JobRow). ltb c.args.after j.job) a.rows)) c.self.view_is
