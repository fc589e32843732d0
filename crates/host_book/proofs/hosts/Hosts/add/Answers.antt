use Rattle.std.proofs.Common.{◌≡◌, ◌∙◌, ◌≤◌, ℕ, List, None, ap, string_bytes, rules, arith}
use Rattle.std.proofs.lemmas.Grind.{common_steps}
use Rattle.farm_types.specs.declared.boot.BootLine.{BootLine}
use Rattle.farm_types.specs.Farm.{host_from}
use Rattle.host_book.proofs.Named.{unnamed}
use Rattle.host_book.proofs.Oldest.{since-push}
use Rattle.host_book.proofs.hosts.Hosts.add.Goals as goal

pub add_name-requires-clause-new : goal.add_name-requires-clause-new
add_name-requires-clause-new c =
    let rows = c.self.inside.rows.items in
    let name : string_bytes c.reserved.inside.name ≡ c.args.reserved.host = c.reserved.invariant ∙ ap (λ (line : BootLine). line.host) c.reserved.view_is in
    let none : host_from 0 (string_bytes c.reserved.inside.name) rows ≡ None = ap (λ (ns : List ℕ). host_from 0 ns rows) name ∙ ap (host_from 0 c.args.reserved.host) c.self.view_is ∙ c.requires.new in
    unnamed string_bytes (string_bytes c.reserved.inside.name) c.self.inside.names.keys rows c.self.invariant.names_are none

pub invariant_of-self : goal.invariant_of-self
invariant_of-self c =
    let lower = c.min-self-inside.result in
    let earlier : lower ≤ c.self.inside.oldest = omega arith in
    let before : lower ≤ c.args.now = omega arith in
    record {
      count = search rules;
      names_are = grind (arith, common_steps);
      watched_are = grind (arith, common_steps);
      since_oldest = rw c.push_reserved.ensures.items (since-push c.self.inside.oldest c.args.now lower c.self.inside.watched.items c.self.invariant.since_oldest earlier before);
      rows_capacity = search rules;
      names_capacity = grind (arith, common_steps);
      watched_capacity = search rules;
    }
