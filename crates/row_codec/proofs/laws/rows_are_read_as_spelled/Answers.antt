-- The law of the definitions.
use Rattle.row_codec.proofs.Spellings.{read_is_spelled}
use Rattle.row_codec.proofs.laws.rows_are_read_as_spelled.Goals as goal

pub returns : goal.returns
returns c = read_is_spelled
