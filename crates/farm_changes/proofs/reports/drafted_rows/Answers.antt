use Rattle.farm_changes.proofs.DraftedRows.{framed_begun, heard_ends, silenced_is}
use Rattle.farm_changes.proofs.reports.drafted_rows.Goals as goal

pub expire-requires-clause-framed : goal.expire-requires-clause-framed
expire-requires-clause-framed c = framed_begun c.args.books.now.farm c.args.moment c.new-draft.result c.requires.kept c.new-draft.ensures

pub into_rows-requires : goal.into_rows-requires
into_rows-requires c =
    let silenced = silenced_is c.args.books.now.farm c.args.moment c.new-draft.result c.expire.new.self c.new-draft.ensures c.in_ok-expire.ensures in
    heard_ends c.args.books.now.farm c.args.moment c.args.host c.args.heard.now.boot c.args.heard.now.seq c.as_slice.result.now c.expire.new.self c.hear.new.self c.end_all.new.self
    c.requires.kept silenced c.in_ok-hear.ensures c.in_ok-end_all.ensures
