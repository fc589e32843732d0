use Rattle.std.proofs.Common.{◌≡◌, ◌∷◌, [], ◌++◌, ap, ◌∙◌, List, ℕ, true, sym, subst}
use Rattle.std.specs.List.{list_any}
use Rattle.std.specs.Str.{bytes_eq}
use Rattle.farm_types.specs.Kept.{job_label}
use Rattle.farm_rows.specs.Recovery.{comes_after, job_fits}
use Rattle.row_index.proofs.Named.{any_labelled}
use Rattle.stored_rows.specs.Inside.{told_of}
use Rattle.stored_rows.specs.Told.{Told}
use Rattle.stored_rows.proofs.Kept.{job_finish, job_is_new, job_kept}
use Rattle.stored_rows.proofs.stored_rows.StoredRows.push_job.Goals as goal

pub add-requires : goal.add-requires
add-requires c =
    let a = c.self.inside in
    let name = c.args.row.name in
    let fits = subst (λ (t : Told). job_fits t.farm c.args.row ≡ true) (sym c.self.view_is) c.requires.fits in
    record { new = ap (list_any (λ (other : List ℕ). bytes_eq other name)) c.self.invariant.told.of_jobs.names ∙ any_labelled job_label name a.lists.jobs.items ∙ job_is_new (told_of a).farm c.args.row fits }

pub invariant_of-self-2 : goal.invariant_of-self-2
invariant_of-self-2 c =
    let a = c.self.inside in
    let after = subst (λ (t : Told). comes_after t.last (6, c.args.row.job) ≡ true) (sym c.self.view_is) c.requires.after in
    let ends = job_finish (told_of a).farm c.args.row (subst (λ (t : Told). job_fits t.farm c.args.row ≡ true) (sym c.self.view_is) c.requires.fits) in
    let rows : c.push_reserved.new.self.items ≡ a.lists.jobs.items ++ c.args.row ∷ [] = c.push_reserved.ensures.items ∙ ap (λ xs. xs ++ c.args.row ∷ []) c.reserve.ensures.items in
    record { told = rw (c.id_of-id.ensures, rows, c.in_ok-add.ensures.ok) (job_kept (told_of a) a.hosts a.jobs a.layers.items c.self.invariant.told c.args.row after ends); limits = c.self.invariant.limits; format = c.self.invariant.format; room = c.self.invariant.room }
