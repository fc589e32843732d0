use Rattle.std.proofs.Common.{sym, subst}
use Rattle.job_index.specs.Keys.{AreKeys}
use Rattle.job_book.proofs.RestoringLemmas.RestoredKeys.{finished_differ}
use Rattle.job_book.proofs.restoring.keys.finished_of.Goals as goal

pub of_keys-requires : goal.of_keys-requires
of_keys-requires c = subst AreKeys (sym c.in_ok-keys.ensures) (finished_differ c.args.rows.now c.requires.within c.requires.rise)
