use Rattle.std.proofs.Common.{◌≡◌, ℕ, List, [], ◌∷◌, ◌++◌, true, refl, sym, subst}
use Rattle.farm_types.specs.declared.rows.SubRow.{SubRow}
use Rattle.farm_rows.specs.Recovery.{comes_after, sub_fits}
use Rattle.stored_rows.specs.Inside.{told_of}
use Rattle.stored_rows.specs.Known.{KnowsSubs}
use Rattle.stored_rows.specs.Told.{Told}
use Rattle.stored_rows.proofs.Kept.{told_kept}
use Rattle.stored_rows.proofs.SubNumbers.{sub_numbered}
use Rattle.stored_rows.proofs.stored_rows.StoredRows.push_sub.Goals as goal

pub invariant_of-self-2 : goal.invariant_of-self-2
invariant_of-self-2 c =
    let a = c.self.inside in
    let after = subst (λ (t : Told). comes_after t.last (4, c.args.row.now.sub) ≡ true) (sym c.self.view_is) c.requires.after in
    let fits = subst (λ (t : Told). sub_fits t.farm c.args.row.now ≡ true) (sym c.self.view_is) c.requires.fits in
    let rows : c.push.new.self.items ≡ a.lists.subs.items ++ c.args.row.now ∷ [] = c.in_ok-push.ensures.items in
    let subs = subst (λ (xs : List SubRow). KnowsSubs a.lists.shows.items xs) (sym rows) (sub_numbered (told_of a).farm c.args.row.now fits c.self.invariant.told.of_subs) in
    record {
      told = told_kept (told_of a) a.hosts a.jobs a.layers.items c.self.invariant.told (4, c.id_of-id.result) _ _ (subst (λ (n : ℕ). comes_after a.last (4, n) ≡ true) (sym c.id_of-id.ensures) after) refl refl refl refl refl subs;
      limits = c.self.invariant.limits;
      format = c.self.invariant.format;
      room = c.self.invariant.room;
    }
