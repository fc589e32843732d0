use Rattle.std.proofs.Common.{◌≡◌, ◌≤◌, length, take}
use Rattle.json.specs.Find.{get_member}
use Rattle.json.specs.Value.{members_view}
use Rattle.cue_json.proofs.fields.last_of.Given as goal

-- no member from here on has the name
abbrev pub invariant-loop-left : goal.invariant-loop-left
invariant-loop-left l = (get_member l.field (members_view l.members) ≡ get_member l.field (members_view (take l.left l.members))) × (l.left ≤ length l.members)

abbrev pub decreases-loop-left : goal.decreases-loop-left
decreases-loop-left l = l.left
