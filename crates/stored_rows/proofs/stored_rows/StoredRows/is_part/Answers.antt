use Rattle.std.proofs.Common.{rules, ◌≡◌, ◌∙◌, ap, refl, sym, subst, true, List, Option, ℕ}
use Rattle.std.specs.List.{find, list_all}
use Rattle.std.specs.Str.{bytes_eq}
use Rattle.farm_types.specs.declared.rows.LayerRow.{LayerRow}
use Rattle.farm_types.specs.Farm.{for_some, layers_of, for_any}
use Rattle.farm_types.specs.Rising.{IsRising, layer_key}
use Rattle.farm_rows.specs.Recovery.{is_part_in}
use Rattle.row_index.specs.Index.{LayerKnown}
use Rattle.stored_rows.specs.Known.{is_found, slot_stands}
use Rattle.stored_rows.specs.Told.{Told}
use Rattle.stored_rows.proofs.FoundFrames.{part_known}
use Rattle.stored_rows.proofs.stored_rows.StoredRows.is_part.Goals as goal

pub returns-in-Some-known_named : goal.returns-in-Some-known_named
returns-in-Some-known_named c =
    let f = c.args.self.now.farm in
    let end = c.args.end.now in
    let name = c.in-Some.name in
    let high = c.self.invariant.told.layers_rise.high in
    let stand = subst (λ (t : Told). list_all (slot_stands t.farm.layers) t.farm.slots ≡ true) c.self.view_is c.self.invariant.told.of_slots.stand in
    let rise = subst (λ (t : Told). IsRising layer_key 0 t.farm.layers high) c.self.view_is c.self.invariant.told.layers_rise.rise in
    let has : c.has_frame.result ≡ for_any end.frame (is_found c.in-Some-known_named.known.now) = search rules in
    has ∙ ap (λ (o : Option LayerKnown). for_some o (λ k. for_any end.frame (is_found k))) c.in-Some-known_named.ensures
    ∙ part_known f high end.job name end.frame (find (λ (m : LayerRow). bytes_eq m.name name) (layers_of f.layers end.job)) stand rise refl
    ∙ ap (λ (o : Option (List ℕ)). is_part_in f end.job o end.frame) (sym c.in-Some.is)
