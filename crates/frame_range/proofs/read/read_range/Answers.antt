use Rattle.std.proofs.Common.{◌∙◌, ap, sym, SFits, w32, rules}
use Rattle.std.specs.Option.{option_map}
use Rattle.std.proofs.lemmas.Int.{to_z-of_z}
use Rattle.frame_range.specs.Capped.{capped_section}
use Rattle.frame_range.proofs.ReadLemmas.{range_read, range_at_none}
use Rattle.frame_range.proofs.read.read_range.Goals as goal

pub returns-in_ok-last-in-None : goal.returns-in_ok-last-in-None
returns-in_ok-last-in-None c =
    let first_fits : SFits w32 c.in_ok-first-in-None.first = search rules in
    let last_fits : SFits w32 c.in_ok-last-in-None.last = search rules in
    simp to_z-of_z (range_read _ _ _ _ c.in_ok-first-in-None.ensures c.in_ok-last-in-None.ensures ∙ ap (option_map capped_section) (sym (range_at_none c.args.first.now c.args.rest.now (sym c.in-None.ensures))))
