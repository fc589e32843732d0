use Rattle.std.proofs.Common.{◌≡◌, ◌∙◌, List, true, length, sym, ap, subst, arith}
use Rattle.std.specs.List.{list_all}
use Rattle.farm_types.specs.Rising.{IsRising}
use Rattle.job_entries.specs.declared.entries.Place.{Place}
use Rattle.job_entries.specs.Entries.{held, is_held_at, place_key}
use Rattle.job_entries.proofs.Held.{closed_count, closed_each, closed_held, closed_rise}
use Rattle.job_entries.proofs.entry_changes.make_room.Goals as goal

pub returns-clause-held : goal.returns-clause-held
returns-clause-held c = ap held c.close_up.ensures.items ∙ closed_held c.args.places.now.items

pub returns-clause-rise : goal.returns-clause-rise
returns-clause-rise c next rise = subst (λ (ps : List Place). IsRising place_key 0 ps next) (sym c.close_up.ensures.items) (closed_rise 0 c.args.places.now.items next rise)

pub returns-clause-each : goal.returns-clause-each
returns-clause-each c each = subst (λ (ps : List Place). list_all is_held_at ps ≡ true) (sym c.close_up.ensures.items) (closed_each c.args.places.now.items each)

pub returns-clause-room : goal.returns-clause-room
returns-clause-room c = omega (arith, ap length c.close_up.ensures.items, closed_count c.args.places.now.items, c.requires)
