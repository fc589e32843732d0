use Rattle.std.proofs.Common.{◌≡◌, None, drop, map, option_map}
use Rattle.json.specs.Value.{members_view}
use Rattle.cue_json.proofs.Unexpected.{least_from}
use Rattle.cue_json.proofs.others.least_other.Given as goal

abbrev pub invariant-loop-member : goal.invariant-loop-member
invariant-loop-member l =
    least_from (map (λ f. f.now) l.fields) (members_view (drop l.member-index l.members)) (option_map (λ k. k.now) l.least) ≡ least_from (map (λ f. f.now) l.fields) (members_view l.members) None
