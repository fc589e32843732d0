use Rattle.std.proofs.Common.{◌≡◌, ◌↔◌, Bool, IsTrue, Some, refl, sym, subst}
use Rattle.std.specs.List.{list_any, slice_get}
use Rattle.farm_types.specs.DependActs.{depend_at}
use Rattle.farm_types.specs.Farm.{job_at, layer_at, sub_at}
use Rattle.farm_rows.specs.declared.farm_row.FarmRow.TheVariants as row
use Rattle.farm_rows.specs.declared.row_key.RowKey.TheVariants as key
use Rattle.farm_rows.specs.Changes.{is_mark, row_at}
use Rattle.farm_rows.specs.Rows.{head_row}
use Rattle.farm_core.proofs.SameRow.{alloc_in, at_row, depend_in, head_same, host_in, job_in, layer_in, limit_in, same_by, same_row, show_in, sub_in}
use Rattle.farm_core.proofs.old_rows.has_row.Goals as goal

pub returns-in-Head : goal.returns-in-Head
returns-in-Head c =
    let f = c.args.books.now.farm in
    at_row f c.args.row.now (row.Head c.in-Head.head) c.is_head.result c.in-Head.is (head_same f.recorded (head_row f) c.in-Head.head c.is_head.result c.is_head.ensures)

pub returns-in-Show : goal.returns-in-Show
returns-in-Show c =
    let f = c.args.books.now.farm in
    at_row f c.args.row.now (row.Show c.in-Show.show c.in-Show.row) c.is_show.result c.in-Show.is (same_row (row.Show c.in-Show.show) show_in (λ x. refl) (slice_get f.shows c.in-Show.show) c.in-Show.row c.is_show.result c.is_show.ensures)

pub returns-in-Alloc : goal.returns-in-Alloc
returns-in-Alloc c =
    let f = c.args.books.now.farm in
    at_row f c.args.row.now (row.Alloc c.in-Alloc.alloc c.in-Alloc.row) c.is_alloc.result c.in-Alloc.is (same_row (row.Alloc c.in-Alloc.alloc) alloc_in (λ x. refl) (slice_get f.allocs c.in-Alloc.alloc) c.in-Alloc.row c.is_alloc.result c.is_alloc.ensures)

pub returns-in-Sub : goal.returns-in-Sub
returns-in-Sub c =
    let f = c.args.books.now.farm in
    at_row f c.args.row.now (row.Sub c.in-Sub.row) c.is_sub.result c.in-Sub.is (same_row row.Sub sub_in (λ x. refl) (sub_at f c.in-Sub.row.sub) c.in-Sub.row c.is_sub.result c.is_sub.ensures)

pub returns-in-Host : goal.returns-in-Host
returns-in-Host c =
    let f = c.args.books.now.farm in
    at_row f c.args.row.now (row.Host c.in-Host.host c.in-Host.row) c.is_host.result c.in-Host.is (same_row (row.Host c.in-Host.host) host_in (λ x. refl) (slice_get f.hosts c.in-Host.host) c.in-Host.row c.is_host.result c.is_host.ensures)

pub returns-in-Limit : goal.returns-in-Limit
returns-in-Limit c =
    let f = c.args.books.now.farm in
    at_row f c.args.row.now (row.Limit c.in-Limit.limit c.in-Limit.row) c.is_limit.result c.in-Limit.is (same_row (row.Limit c.in-Limit.limit) limit_in (λ x. refl) (slice_get f.limits c.in-Limit.limit) c.in-Limit.row c.is_limit.result c.is_limit.ensures)

pub returns-in-Job : goal.returns-in-Job
returns-in-Job c =
    let f = c.args.books.now.farm in
    at_row f c.args.row.now (row.Job c.in-Job.row) c.is_job.result c.in-Job.is (same_row row.Job job_in (λ x. refl) (job_at f c.in-Job.row.job) c.in-Job.row c.is_job.result c.is_job.ensures)

pub returns-in-Layer : goal.returns-in-Layer
returns-in-Layer c =
    let f = c.args.books.now.farm in
    at_row f c.args.row.now (row.Layer c.in-Layer.row) c.is_layer.result c.in-Layer.is (same_row row.Layer layer_in (λ x. refl) (layer_at f c.in-Layer.row.job c.in-Layer.row.place) c.in-Layer.row c.is_layer.result c.is_layer.ensures)

pub returns-in-Depend : goal.returns-in-Depend
returns-in-Depend c =
    let f = c.args.books.now.farm in
    at_row f c.args.row.now (row.Depend c.in-Depend.row) c.is_depend.result c.in-Depend.is (same_row row.Depend depend_in (λ x. refl) (depend_at f c.in-Depend.row.depend) c.in-Depend.row c.is_depend.result c.is_depend.ensures)

pub returns-in-Frame : goal.returns-in-Frame
returns-in-Frame c = at_row c.args.books.now.farm c.args.row.now (row.Frame c.in-Frame.row) c.is_frame.result c.in-Frame.is c.is_frame.ensures

pub returns-in-Met : goal.returns-in-Met
returns-in-Met c =
    let f = c.args.books.now.farm in
    let r = c.in-Met.row in
    at_row f c.args.row.now (row.Met r) c.is_met.result c.in-Met.is
    (subst (λ (t : Bool). IsTrue t ↔ (row_at f (key.Met r.depend r.position) ≡ Some (row.Met r))) (sym c.is_met.ensures) (same_by (list_any (is_mark r.depend r.position) f.met) (row.Met r)))
