-- The value is whole where no token is left and its numbers fit.
use Rattle.std.proofs.Common.{ap, sym, ◌∙◌}
use Rattle.json.specs.Reads.{token_of}
use Rattle.json.specs.Value.{value_view}
use Rattle.cue_json.specs.Lines.{whole}
use Rattle.cue_json.proofs.DataRead.{fitting, unfitting}
use Rattle.cue_json.proofs.Lines.{more_left, none_left}
use Rattle.cue_json.proofs.line.whole_of.Goals as goal
use Rattle.cue_json.proofs.line.whole_of.Goals.{then-is_some-via-then-is_some, then-is_some-via-else-is_some+then-not-fits}

pub returns-then-is_some : goal.returns-then-is_some
returns-then-is_some c =
    let j = value_view c.args.value in
    elim c.then-is_some.branch [
      | then-is_some-via-then-is_some w ↦ more_left _ token_of c.next.result j c.args.reader.now c.next.new.self c.next.ensures.value w.if-is_some.ensures
      | then-is_some-via-else-is_some+then-not-fits w ↦
          ap (whole j) (none_left _ _ c.next.result c.args.reader.now c.next.ensures.value w.if-is_some.ensures) ∙ unfitting j (sym w.if-not-fits.ensures)
    ]

pub returns : goal.returns
returns c =
    let j = value_view c.args.value in
    ap (whole j) (none_left _ _ c.next.result c.args.reader.now c.next.ensures.value c.if-is_some.ensures) ∙ fitting j (sym c.if-not-fits.ensures)
