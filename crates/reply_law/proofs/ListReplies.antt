-- What is replied to a list is within its forms and limits.
use Rattle.std.proofs.Common.{◌≡◌, ℕ, List, take, drop, Option, Some, None, Result, Ok, Err}
use Rattle.std.proofs.lemmas.List.Elements.{All-drop, All-take, All-weaker}
use Rattle.farm_types.specs.declared.refusal.Refusal.{Refusal}
use Rattle.farm_types.specs.declared.rows.JobRow.{JobRow}
use Rattle.farm_types.specs.DependActs.{pending_named}
use Rattle.farm_types.specs.Farm.{Farm}
use Rattle.farm_types.specs.Kept.{IsKeptFarm}
use Rattle.farm_lines.specs.declared.limits.TheConstants.{ROWS_EACH}
use Rattle.farm_lines.specs.declared.list_row.ListRow.{ListRow}
use Rattle.farm_lines.specs.declared.list_row.RowKind.{RowKind}
use Rattle.farm_lines.specs.declared.query.Listed.{Listed}
use Rattle.farm_lines.specs.declared.query.Listed.TheVariants as listed
use Rattle.farm_lines.specs.declared.query.Query.{Query}
use Rattle.farm_lines.specs.FormedLines.{IsFormedListed, IsFormedQuery, IsFormedRefusal, IsFormedReply, IsFormedRow, IsName}
use Rattle.farm_lines.specs.Lists.{depend_rows, frame_rows, layer_rows, page_listed, of_job, paged, rows_listed}
use Rattle.farm_lines.specs.RowKinds.{kind_of_row}
use Rattle.farm_lines.specs.Transcript.{list_reply}
use Rattle.reply_law.proofs.Elements.{take_few}
use Rattle.reply_law.proofs.JobRows.{depends_formed, frames_formed, layers_formed}
use Rattle.reply_law.proofs.Refusals.{missing_refuses}
use Rattle.reply_law.proofs.Rows.{AreRows, IsRowOf, allocs_formed, hosts_formed, jobs_formed, limits_formed, procs_formed, shows_formed, subs_formed}

-- all rows of a list, or its refusal
abbrev AreListed : Result (List ListRow) Refusal → Type 0
AreListed (Ok rows) = (keys : RowKind) × AreRows keys rows
AreListed (Err why) = IsFormedRefusal why

of_job_listed : (f : Farm) (name : List ℕ) (rows : ℕ → List ListRow) (o : Option JobRow) → IsName name → ((job : ℕ) → (keys : RowKind) × AreRows keys (rows job)) → AreListed (of_job f name rows o)
of_job_listed f name rows None named each = missing_refuses f name named
of_job_listed f name rows (Some j) named each = each j.job

all_listed : (f : Farm) → IsKeptFarm f → (what : Listed) → IsFormedListed what → AreListed (rows_listed f what)
all_listed f kept listed.Shows formed = (_, shows_formed f kept.rows)
all_listed f kept listed.Allocs formed = (_, allocs_formed f kept.rows)
all_listed f kept listed.Subs formed = (_, subs_formed f kept.rows)
all_listed f kept listed.Limits formed = (_, limits_formed f kept.rows)
all_listed f kept listed.Hosts formed = (_, hosts_formed f kept.rows)
all_listed f kept listed.Jobs formed = (_, jobs_formed f kept.rows)
all_listed f kept (listed.Layers job) formed = of_job_listed f job (layer_rows f) (pending_named f job) formed (λ n. (_, layers_formed f kept.rows n))
all_listed f kept (listed.Frames job) formed = of_job_listed f job (frame_rows f) (pending_named f job) formed (λ n. (_, frames_formed f kept.rows n))
all_listed f kept (listed.Depends job) formed = of_job_listed f job (depend_rows f) (pending_named f job) formed (λ n. (_, depends_formed f kept n))
all_listed f kept listed.Procs formed = (_, procs_formed f kept.rows)

page_formed : (from : ℕ) (read : Result (List ListRow) Refusal) → AreListed read → IsFormedReply (list_reply (paged from read))
page_formed from (Ok rows) are =
    let own = All-take (IsRowOf are.0) ROWS_EACH (drop from rows) (All-drop (IsRowOf are.0) from rows are.1.each) in
    record {
      keys = are.0;
      alike = All-weaker (IsRowOf are.0) (λ row. kind_of_row row ≡ are.0) (λ row h. h.0) (take ROWS_EACH (drop from rows)) own;
      few = take_few ROWS_EACH (drop from rows);
      each_row = All-weaker (IsRowOf are.0) IsFormedRow (λ row h. h.1) (take ROWS_EACH (drop from rows)) own;
      total_within = are.1.count;
    }
page_formed from (Err why) are = are

pub list_formed : (f : Farm) → IsKeptFarm f → (query : Query) → IsFormedQuery query → IsFormedReply (list_reply (page_listed f query))
unfolding page_listed
list_formed f kept query formed = page_formed query.from (rows_listed f query.what) (all_listed f kept query.what formed.listed)
