use Rattle.std.proofs.Common.{◌∙◌, ◌<◌, ◌≤◌, ℕ, List, map, length, refl, sym, ap, arith}
use Rattle.std.specs.List.{slice_set}
use Rattle.host_book.specs.Inside.{name_of, watched_of}
use Rattle.host_book.specs.Life.{with_life}
use Rattle.farm_types.proofs.ChangedLists.{map-changed_at_kept, map-changed_at_set}
use Rattle.host_book.proofs.KeptHosts.{kept_hosts}
use Rattle.host_book.proofs.Oldest.{since-set}
use Rattle.host_book.proofs.hosts.Hosts.set_life.Goals as goal

pub invariant_of-self : goal.invariant_of-self
invariant_of-self c =
    let rows = c.self.inside.rows.items in
    let i = c.host.inside.0 in
    let change = with_life c.args.life in
    let new = c.live_at.ensures.items in
    let moment = c.watched_in-watched.result in
    let within : i < length rows = omega (arith, c.requires, c.host.view_is, ap length c.self.view_is) in
    let names = ap (map name_of) new ∙ map-changed_at_kept name_of change (λ row. refl) rows i in
    let watched = ap (λ (ns : List ℕ). slice_set ns i moment) c.self.invariant.watched_are ∙ sym (ap (map watched_of) new ∙ map-changed_at_set watched_of change moment rows i (λ row at. sym c.watched_in-watched.ensures) within) in
    let lower = c.min-self-inside.result in
    let earlier : lower ≤ c.self.inside.oldest = omega arith in
    let before : lower ≤ moment = omega arith in
    let since = since-set c.self.inside.oldest moment lower _ c.self.invariant.since_oldest earlier before i in
    kept_hosts c.self.inside _ c.self.invariant refl names watched since c.live_at.ensures.capacity refl
