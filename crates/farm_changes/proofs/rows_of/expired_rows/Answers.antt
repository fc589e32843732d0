use Rattle.farm_changes.proofs.DraftedRows.{framed_begun, silenced_ends, silenced_is}
use Rattle.farm_changes.proofs.rows_of.expired_rows.Goals as goal

pub expire-requires-clause-framed : goal.expire-requires-clause-framed
expire-requires-clause-framed c = framed_begun c.args.books.now.farm c.args.moment c.new-draft.result c.requires.kept c.new-draft.ensures

pub into_rows-requires : goal.into_rows-requires
into_rows-requires c =
    silenced_ends c.args.books.now.farm c.args.moment c.expire.new.self c.requires.kept
    (silenced_is c.args.books.now.farm c.args.moment c.new-draft.result c.expire.new.self c.new-draft.ensures c.in_ok-expire.ensures)
