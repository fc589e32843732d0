use Rattle.std.proofs.Common.{◌≡◌, ℕ, List, [], ◌∷◌, ◌++◌, true, refl, sym, subst, ◌∙◌}
use Rattle.farm_types.specs.declared.rows.ShowRow.{ShowRow}
use Rattle.farm_rows.specs.Recovery.{comes_after, show_fits}
use Rattle.stored_rows.specs.Inside.{told_of}
use Rattle.stored_rows.specs.Known.{KnowsSubs}
use Rattle.stored_rows.specs.Told.{Told}
use Rattle.stored_rows.proofs.Kept.{told_kept}
use Rattle.stored_rows.proofs.SubNumbers.{show_numbered}
use Rattle.stored_rows.proofs.stored_rows.StoredRows.push_show.Goals as goal

pub invariant_of-self-2 : goal.invariant_of-self-2
invariant_of-self-2 c =
    let a = c.self.inside in
    let after = subst (λ (t : Told). comes_after t.last (2, c.args.show) ≡ true) (sym c.self.view_is) c.requires.after in
    let fits = subst (λ (t : Told). show_fits t.farm c.args.show c.args.row ≡ true) (sym c.self.view_is) c.requires.fits in
    let shows : c.push.new.self.items ≡ a.lists.shows.items ++ c.args.row ∷ [] = c.in_ok-push.ensures.items in
    let subs = subst (λ (xs : List ShowRow). KnowsSubs xs a.lists.subs.items) (sym shows) (show_numbered (told_of a).farm c.args.show c.args.row fits c.self.invariant.told.of_subs) in
    record {
      told = told_kept (told_of a) a.hosts a.jobs a.layers.items c.self.invariant.told (2, c.from.result) _ _ (subst (λ (n : ℕ). comes_after a.last (2, n) ≡ true) (sym (c.from.ensures ∙ c.show.view_is)) after) refl refl refl refl refl subs;
      limits = c.self.invariant.limits;
      format = c.self.invariant.format;
      room = c.self.invariant.room;
    }
