use Rattle.std.proofs.Common.{◌∙◌, ℕ, ap}
use Rattle.std.specs.List.{slice_get}
use Rattle.job_entries.specs.Entries.{held_in, place_of_number}
use Rattle.job_entries.proofs.Held.{find_held}
use Rattle.job_entries.proofs.places.entry_in.Goals as goal

pub returns : goal.returns
returns c =
    let places = c.args.places.now in
    c.entry_at.ensures ∙ ap (λ (n : ℕ). held_in (slice_get places n)) (c.place_in.ensures ∙ ap (λ (n : ℕ). place_of_number n places) c.job.view_is)
    ∙ find_held c.args.job 0 places c.requires.next c.requires.rise c.requires.each
