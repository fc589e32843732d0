use Rattle.std.proofs.Common.{◌∙◌, ◌<◌, ◌≤◌, ℕ, List, map, length, refl, sym, ap, arith}
use Rattle.std.specs.List.{slice_set}
use Rattle.farm_types.specs.Hosts.{booted_row}
use Rattle.host_book.specs.Inside.{name_of, watched_of}
use Rattle.farm_types.proofs.ChangedLists.{map-changed_at_kept, map-changed_at_set}
use Rattle.host_book.proofs.Booted.{name-booted, watched-booted}
use Rattle.host_book.proofs.KeptHosts.{kept_hosts}
use Rattle.host_book.proofs.Oldest.{since-set}
use Rattle.host_book.proofs.hosts.Hosts.boot_again.Goals as goal

pub invariant_of-self : goal.invariant_of-self
invariant_of-self c =
    let rows = c.self.inside.rows.items in
    let i = c.host.inside.0 in
    let line = c.reserved.inside.line in
    let change = booted_row line c.args.now in
    let new = c.boot_at.ensures.items in
    let within : i < length rows = omega (arith, c.requires.there, c.host.view_is, ap length c.self.view_is) in
    let names = ap (map name_of) new ∙ map-changed_at_kept name_of change (name-booted line c.args.now) rows i in
    let watched = ap (λ (ns : List ℕ). slice_set ns i c.args.now) c.self.invariant.watched_are ∙ sym (ap (map watched_of) new ∙ map-changed_at_set watched_of change c.args.now rows i (λ row at. watched-booted line c.args.now row) within) in
    let lower = c.min-self-inside.result in
    let earlier : lower ≤ c.self.inside.oldest = omega arith in
    let before : lower ≤ c.args.now = omega arith in
    let since = since-set c.self.inside.oldest c.args.now lower _ c.self.invariant.since_oldest earlier before i in
    kept_hosts c.self.inside _ c.self.invariant refl names watched since c.boot_at.ensures.capacity refl
