use Rattle.host_book.specs.Life.{with_life}
use Rattle.farm_draft.specs.Rows.{IsOtherLife}
use Rattle.farm_draft.proofs.PutRows.{IsPicked}
use Rattle.farm_draft.proofs.rows.changed_lives.Given as goal

-- the lives that were kept, with those that are left, come to what all come to
abbrev pub invariant-loop-host : goal.invariant-loop-host
invariant-loop-host l = IsPicked with_life l.books.farm.hosts (IsOtherLife l.books.farm.hosts) l.fn.over.entries l.entries.items l.host-iterator
