use Rattle.std.proofs.Common.{◌≡◌, ◌∙◌, ◌∷◌, [], ◌++◌, ap, sym, subst, true}
use Rattle.farm_types.specs.Rising.{layer_key}
use Rattle.farm_rows.specs.Recovery.{comes_after, layer_fits}
use Rattle.stored_rows.specs.Inside.{told_of}
use Rattle.stored_rows.specs.Told.{Told}
use Rattle.stored_rows.proofs.LayerKept.{layer_below, layer_kept}
use Rattle.stored_rows.proofs.stored_rows.StoredRows.push_layer.Goals as goal

pub invariant_of-self-2 : goal.invariant_of-self-2
invariant_of-self-2 c =
    let a = c.self.inside in
    let r = c.args.row in
    let after = subst (λ (t : Told). comes_after t.last (7, layer_key r) ≡ true) (sym c.self.view_is) c.requires.after in
    let fits = subst (λ (t : Told). layer_fits t.farm r ≡ true) (sym c.self.view_is) c.requires.fits in
    let rows = c.push_reserved-2.ensures.items ∙ ap (λ xs. xs ++ r ∷ []) c.reserve.ensures.items in
    let known = c.push_reserved.ensures.items ∙ (λ i. c.reserve-2.ensures.items i ++ c.in_ok-known.ensures.value i ∷ []) in
    record {
      told = rw (c.layer_key-id.ensures, rows, known)
          (layer_kept (told_of a) a.hosts a.jobs a.layers.items c.self.invariant.told r c.args.set after (layer_below (told_of a).farm r fits) c.requires.range c.in_ok-known.ensures.few);
      limits = c.self.invariant.limits;
      format = c.self.invariant.format;
      room = c.self.invariant.room;
    }
