-- What was read, and so what has the bytes.
use Rattle.row_codec.specs.RowReading.{row_from}
use Rattle.row_codec.proofs.ReadBack.{exact}
use Rattle.row_codec.proofs.decoding.decode.Goals as goal

pub returns-clause-gives : goal.returns-clause-gives
returns-clause-gives c = c.named.ensures (row_from c.args.format c.args.kind c.args.id c.args.bytes.now) c.read_row.ensures

pub returns-clause-exact : goal.returns-clause-exact
returns-clause-exact c = exact c.args.format c.args.kind c.args.id c.args.bytes.now c.named.result (c.named.ensures (row_from c.args.format c.args.kind c.args.id c.args.bytes.now) c.read_row.ensures)
