use Rattle.farm_lines.proofs.NumberLemmas.{number_read}
use Rattle.farm_lines.proofs.number.number_of.Goals as goal

pub returns-then-is_number : goal.returns-then-is_number
returns-then-is_number c =
    let read = number_read c.args.text.now c.parse.result c.ok.result c.parse.ensures.value.0 c.if-is_number.ensures c.ok.ensures.value in
    record { value = read.0; small = read.1 }
