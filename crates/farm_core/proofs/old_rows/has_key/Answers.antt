use Rattle.std.proofs.Common.{rules, ◌≡◌, ◌∙◌, is_some, sym, ap}
use Rattle.std.specs.List.{list_any, slice_get}
use Rattle.farm_types.specs.DependActs.{depend_at}
use Rattle.farm_types.specs.Farm.{job_at, layer_at, sub_at}
use Rattle.farm_rows.specs.declared.farm_row.FarmRow.TheVariants as row
use Rattle.farm_rows.specs.declared.row_key.RowKey.{RowKey}
use Rattle.farm_rows.specs.Changes.{is_mark, row_at}
use Rattle.farm_rows.specs.Rows.{head_row}
use Rattle.farm_core.proofs.SameRow.{some_by, some_row}
use Rattle.farm_core.proofs.old_rows.has_key.Goals as goal

pub returns-in-Head : goal.returns-in-Head
returns-in-Head c =
    let f = c.args.books.now.farm in
    c.is_recorded.ensures ∙ (sym (some_by f.recorded (row.Head (head_row f))) ∙ ap (λ (k : RowKey). is_some (row_at f k)) (sym c.in-Head.is))

pub returns-in-Show : goal.returns-in-Show
returns-in-Show c =
    let f = c.args.books.now.farm in
    let there : c.is_some.result ≡ is_some (slice_get f.shows c.in-Show.show) = search rules in
    there ∙ (sym (some_row (row.Show c.in-Show.show) (slice_get f.shows c.in-Show.show)) ∙ ap (λ (k : RowKey). is_some (row_at f k)) (sym c.in-Show.is))

pub returns-in-Alloc : goal.returns-in-Alloc
returns-in-Alloc c =
    let f = c.args.books.now.farm in
    let there : c.is_some-in-Alloc.result ≡ is_some (slice_get f.allocs c.in-Alloc.alloc) = search rules in
    there ∙ (sym (some_row (row.Alloc c.in-Alloc.alloc) (slice_get f.allocs c.in-Alloc.alloc)) ∙ ap (λ (k : RowKey). is_some (row_at f k)) (sym c.in-Alloc.is))

pub returns-in-Sub : goal.returns-in-Sub
returns-in-Sub c =
    let f = c.args.books.now.farm in
    let there : c.is_some-in-Sub.result ≡ is_some (sub_at f c.in-Sub.sub) = search rules in
    there ∙ (sym (some_row row.Sub (sub_at f c.in-Sub.sub)) ∙ ap (λ (k : RowKey). is_some (row_at f k)) (sym c.in-Sub.is))

pub returns-in-Host : goal.returns-in-Host
returns-in-Host c =
    let f = c.args.books.now.farm in
    let there : c.is_some-in-Host.result ≡ is_some (slice_get f.hosts c.in-Host.host) = search rules in
    there ∙ (sym (some_row (row.Host c.in-Host.host) (slice_get f.hosts c.in-Host.host)) ∙ ap (λ (k : RowKey). is_some (row_at f k)) (sym c.in-Host.is))

pub returns-in-Job : goal.returns-in-Job
returns-in-Job c =
    let f = c.args.books.now.farm in
    let there : c.is_some-in-Job.result ≡ is_some (job_at f c.in-Job.job) = search rules in
    there ∙ (sym (some_row row.Job (job_at f c.in-Job.job)) ∙ ap (λ (k : RowKey). is_some (row_at f k)) (sym c.in-Job.is))

pub returns-in-Layer : goal.returns-in-Layer
returns-in-Layer c =
    let f = c.args.books.now.farm in
    let there : c.is_some-in-Layer.result ≡ is_some (layer_at f c.in-Layer.job c.in-Layer.place) = search rules in
    there ∙ (sym (some_row row.Layer (layer_at f c.in-Layer.job c.in-Layer.place)) ∙ ap (λ (k : RowKey). is_some (row_at f k)) (sym c.in-Layer.is))

pub returns-in-Depend : goal.returns-in-Depend
returns-in-Depend c =
    let f = c.args.books.now.farm in
    let there : c.is_some-in-Depend.result ≡ is_some (depend_at f c.in-Depend.depend) = search rules in
    there ∙ (sym (some_row row.Depend (depend_at f c.in-Depend.depend)) ∙ ap (λ (k : RowKey). is_some (row_at f k)) (sym c.in-Depend.is))

pub returns-in-Frame : goal.returns-in-Frame
returns-in-Frame c = c.has_frame.ensures ∙ ap (λ (k : RowKey). is_some (row_at c.args.books.now.farm k)) (sym c.in-Frame.is)

pub returns-in-Met : goal.returns-in-Met
returns-in-Met c =
    let f = c.args.books.now.farm in
    let depend = c.in-Met.depend in
    let position = c.in-Met.position in
    c.is_met.ensures
    ∙ (sym (some_by (list_any (is_mark depend position) f.met) (row.Met (record { depend = depend; position = position }))) ∙ ap (λ (k : RowKey). is_some (row_at f k)) (sym c.in-Met.is))

pub returns-in-Limit : goal.returns-in-Limit
returns-in-Limit c =
    let f = c.args.books.now.farm in
    c.has_limit.ensures ∙ (sym (some_row (row.Limit c.in-Limit.limit) (slice_get f.limits c.in-Limit.limit)) ∙ ap (λ (k : RowKey). is_some (row_at f k)) (sym c.in-Limit.is))
