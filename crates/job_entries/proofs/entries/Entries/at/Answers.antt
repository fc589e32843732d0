use Rattle.std.proofs.Common.{◌≡◌, ◌∙◌, ℕ, List, eqb, sym, ap, subst}
use Rattle.job_entries.specs.declared.entries.Place.{Place}
use Rattle.job_entries.specs.Entries.{ArePlaces, at_of, place_key, place_of_number}
use Rattle.job_entries.specs.OneJob.{AllJobs}
use Rattle.job_entries.proofs.Held.{position_or_len-map}
use Rattle.job_entries.proofs.entries.Entries.at.Goals as goal

pub place_in-requires : goal.place_in-requires
place_in-requires c = subst ArePlaces (sym c.as_slice.ensures.value) (record { next = c.self.inside.next; rise = c.self.invariant.rise; each = c.self.invariant.each })

pub returns : goal.returns
returns c =
    let job = c.args.job in
    let places = c.self.inside.places.items in
    let place : c.place_in.result ≡ place_of_number job places =
    c.place_in.ensures ∙ ap (λ (ps : List Place). place_of_number c.job.inside.0 ps) c.as_slice.ensures.value ∙ ap (λ (n : ℕ). place_of_number n places) c.job.view_is in
    let found = place ∙ sym (position_or_len-map (λ (n : ℕ). eqb n job) place_key places) in
    (λ i. record { job = job; place = found i }) ∙ ap (λ (a : AllJobs). at_of job a.numbers) c.self.view_is
