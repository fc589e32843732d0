use Rattle.std.proofs.Common.{◌≡◌, ℕ, true, refl, sym, subst, ◌∙◌}
use Rattle.farm_rows.specs.Recovery.{comes_after}
use Rattle.stored_rows.specs.Inside.{told_of}
use Rattle.stored_rows.specs.Told.{Told}
use Rattle.stored_rows.proofs.Kept.{told_kept}
use Rattle.stored_rows.proofs.stored_rows.StoredRows.push_alloc.Goals as goal

pub invariant_of-self-2 : goal.invariant_of-self-2
invariant_of-self-2 c =
    let a = c.self.inside in
    let after = subst (λ (t : Told). comes_after t.last (3, c.args.number) ≡ true) (sym c.self.view_is) c.requires.after in
    record {
      told = told_kept (told_of a) a.hosts a.jobs a.layers.items c.self.invariant.told (3, c.from.result) _ _ (subst (λ (n : ℕ). comes_after a.last (3, n) ≡ true) (sym (c.from.ensures ∙ c.number.view_is)) after) refl refl refl refl refl c.self.invariant.told.of_subs;
      limits = c.self.invariant.limits;
      format = c.self.invariant.format;
      room = c.self.invariant.room;
    }
