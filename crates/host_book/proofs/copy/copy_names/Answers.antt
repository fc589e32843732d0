use Rattle.std.proofs.Common.{◌∙◌, ap, map, string_bytes}
use Rattle.host_book.proofs.Named.{map-copied}
use Rattle.host_book.proofs.copy.copy_names.Goals as goal

pub returns-clause-keys : goal.returns-clause-keys
returns-clause-keys c = ap (map string_bytes) c.in_ok-reserve.ensures.keys ∙ map-copied string_bytes c.args.names.now.keys c.in_ok-copies.copies.keys c.in_ok-copies.ensures.cases
