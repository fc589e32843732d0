use Rattle.std.proofs.Common.{◌≡◌, true, sym, subst}
use Rattle.farm_rows.specs.Recovery.{comes_after, head_fits}
use Rattle.stored_rows.specs.Inside.{told_of}
use Rattle.stored_rows.specs.Told.{Told}
use Rattle.stored_rows.proofs.Kept.{format_known, head_kept}
use Rattle.stored_rows.proofs.stored_rows.StoredRows.push_head.Goals as goal

pub invariant_of-self : goal.invariant_of-self
invariant_of-self c =
    let a = c.self.inside in
    record {
      told = head_kept (told_of a) a.hosts a.jobs a.layers.items c.self.invariant.told c.args.row.now (subst (λ (t : Told). comes_after t.last (1, 0) ≡ true) (sym c.self.view_is) c.requires.after);
      limits = c.self.invariant.limits;
      format = format_known (told_of a).farm c.args.row.now (subst (λ (t : Told). head_fits t.farm c.args.row.now ≡ true) (sym c.self.view_is) c.requires.fits);
      room = c.self.invariant.room;
    }
