use Rattle.std.proofs.Common.{◌≡◌, map, drop}
use Rattle.cue_json.specs.Fields.{is_expected}
use Rattle.cue_json.proofs.others.is_among.Given as goal

abbrev pub invariant-loop-field : goal.invariant-loop-field
invariant-loop-field l = is_expected (map (λ f. f.now) (drop l.field-index l.fields)) l.key ≡ is_expected (map (λ f. f.now) l.fields) l.key
