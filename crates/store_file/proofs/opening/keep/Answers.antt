use Rattle.sqlite_wal.specs.Files.{image_at}
use Rattle.sqlite.specs.Files.{file_state}
use Rattle.store_file.proofs.KeptLemmas.{kept_file}
use Rattle.store_file.proofs.opening.keep.Goals as goal

pub returns-in-Ok-clause-kept : goal.returns-in-Ok-clause-kept
returns-in-Ok-clause-kept g c clean =
    kept_file (image_at g.S.Start) (file_state c.args.connection) (file_state c.in-Ok.keeper.conn) c.requires.opened c.requires.found c.in-Ok.ensures.over clean
