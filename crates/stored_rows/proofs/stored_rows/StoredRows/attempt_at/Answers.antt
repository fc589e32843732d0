use Rattle.std.proofs.Common.{◌≡◌, ◌∙◌, ap, ℕ, sym, subst, true, List, eqb}
use Rattle.std.specs.Prelude.{slice_get}
use Rattle.std.specs.List.{find}
use Rattle.farm_types.specs.declared.rows.HostRow.{HostRow}
use Rattle.farm_types.specs.declared.rows.JobRow.{JobRow}
use Rattle.farm_types.specs.declared.rows.LayerRow.{LayerRow}
use Rattle.farm_types.specs.Farm.{sub_of, layer_in}
use Rattle.farm_rows.specs.Recovery.{attempt_at, attempt_fits}
use Rattle.row_index.proofs.SubNumbers.{sub_below}
use Rattle.stored_rows.specs.Inside.{told_of}
use Rattle.stored_rows.specs.Told.{Told}
use Rattle.stored_rows.proofs.FrameFits.{running_attempt, running_sub}
use Rattle.stored_rows.proofs.stored_rows.StoredRows.attempt_at.Goals as goal

pub sub_between-requires : goal.sub_between-requires
sub_between-requires c =
    let a = c.self.inside in
    let f = (told_of a).farm in
    let x = c.args.frame.now in
    let job = c.in_ok-job-in-Running.job.now in
    let on = c.in_ok-on-in-Running.on.now in
    let has_job = c.in_ok-job-in-Running.ensures ∙ ap (find (λ (j : JobRow). eqb j.job x.job)) c.as_slice.ensures.value in
    let has_host = c.in_ok-on-in-Running.ensures ∙ ap (λ (n : ℕ). slice_get c.as_slice-in-Running-2.result.now n) c.host.view_is ∙ ap (λ (hs : List HostRow). slice_get hs c.in-Running.host) c.as_slice-in-Running-2.ensures.value in
    let fits = subst (λ (t : Told). attempt_fits t.farm c.args.version x x.state ≡ true) (sym c.self.view_is) c.requires.fits in
    let there = running_sub f x x.state c.in-Running.boot c.in-Running.host c.in-Running.since c.in-Running.is job on (sym has_job) (sym has_host) c.args.version fits in
    record { below = sub_below (sub_of job.show on.alloc) f.subs there c.self.invariant.told.of_subs.numbered }

pub returns-in_ok-on-in-Running-clause-value : goal.returns-in_ok-on-in-Running-clause-value
returns-in_ok-on-in-Running-clause-value c =
    let a = c.self.inside in
    let f = (told_of a).farm in
    let x = c.args.frame.now in
    let job = c.in_ok-job-in-Running.job.now in
    let on = c.in_ok-on-in-Running.on.now in
    let layer = c.in_ok-layer-in-Running.layer.now in
    let has_job = c.in_ok-job-in-Running.ensures ∙ ap (find (λ (j : JobRow). eqb j.job x.job)) c.as_slice.ensures.value in
    let has_layer = c.in_ok-layer-in-Running.ensures ∙ ap (λ (ls : List LayerRow). layer_in ls x.job x.layer) c.as_slice-in-Running.ensures.value in
    let has_host = c.in_ok-on-in-Running.ensures ∙ ap (λ (n : ℕ). slice_get c.as_slice-in-Running-2.result.now n) c.host.view_is ∙ ap (λ (hs : List HostRow). slice_get hs c.in-Running.host) c.as_slice-in-Running-2.ensures.value in
    let is = running_attempt f x x.state c.in-Running.boot c.in-Running.host c.in-Running.since c.in-Running.is job on (sym has_job) (sym has_host) c.args.slot c.args.version layer (sym has_layer) in
    rw c.sub_between.ensures (sym is ∙ ap (λ (t : Told). attempt_at t.farm c.args.slot c.args.version x x.state) c.self.view_is)
