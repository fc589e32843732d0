use Rattle.std.proofs.Common.{◌∙◌, sym, ap, subst}
use Rattle.std.specs.Prelude.{Ok, Err}
use Rattle.farm_lines.specs.Lists.{page_listed, rows_listed}
use Rattle.farm_lines.specs.declared.reply.ListReply.{ListReply}
use Rattle.std.proofs.lemmas.Result.{err_from_is_err_and}
use Rattle.farm_types.specs.declared.fault.FarmFault.{FarmFault}
use Rattle.cue_query.specs.Queries.{IsListed}
use Rattle.cue_query.proofs.Paged.{listed_paged, refusal_paged}
use Rattle.cue_query.proofs.query.list.Goals as goal

pub returns : goal.returns
unfolding page_listed
returns c =
    let query = c.args.query.now in
    listed_paged query.from (rows_listed c.args.farm.now query.what) c.new-page.result c.list_rows.new.page c.new-page.ensures c.in_ok-list_rows.ensures
    ∙ ap (λ (r : ListReply). Ok r) (sym c.into_reply.ensures)

pub returns-in_err-list_rows : goal.returns-in_err-list_rows
unfolding page_listed
returns-in_err-list_rows c =
    let query = c.args.query.now in
    let rows = rows_listed c.args.farm.now query.what in
    let p = err_from_is_err_and c.from_residual.result c.from_residual.ensures.1 in
    let refused = subst (λ (e : FarmFault). IsListed rows c.new-page.result (Err e) c.list_rows.new.page) (sym p.2) c.in_err-list_rows.ensures in
    refusal_paged query.from rows c.new-page.result c.list_rows.new.page c.from_residual.result p.0 refused p.1
