use Rattle.farm_changes.proofs.DraftedRows.{kept_begun, killed_ends, slots_begun}
use Rattle.farm_changes.proofs.prepare_jobs.killed_rows.Goals as goal

pub kill-requires-clause-begins : goal.kill-requires-clause-begins
kill-requires-clause-begins c = slots_begun c.args.books.now.farm c.args.moment c.new-draft.result c.new-draft.ensures

pub kill-requires-clause-kept : goal.kill-requires-clause-kept
kill-requires-clause-kept c = kept_begun c.args.books.now.farm c.args.moment c.new-draft.result c.requires.kept c.new-draft.ensures

pub into_rows-requires : goal.into_rows-requires
into_rows-requires c = killed_ends c.args.books.now.farm c.args.moment c.args.job c.new-draft.result c.kill.new.self c.requires.kept c.new-draft.ensures c.in_ok-kill.ensures
