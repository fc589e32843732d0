use Rattle.std.proofs.Common.{◌≡◌, drop}
use Rattle.std.specs.List.{list_any}
use Rattle.depend_graph.specs.MetAt.{is_met_at}
use Rattle.depend_graph.specs.Watches.{watched_with}
use Rattle.depend_graph.proofs.group_marks.is_met_among.Given as goal

-- a group that is left is met there where any is
abbrev pub invariant-loop-place : goal.invariant-loop-place
invariant-loop-place l =
    list_any (is_met_at l.position) (watched_with (drop l.place l.groups) (drop l.place l.counts)) ≡ list_any (is_met_at l.position) (watched_with l.groups l.counts)
