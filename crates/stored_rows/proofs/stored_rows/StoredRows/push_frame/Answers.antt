use Rattle.std.proofs.Common.{◌≡◌, List, true, sym, subst, ap, ◌∙◌}
use Rattle.farm_types.specs.declared.rows.JobRow.{JobRow}
use Rattle.farm_types.specs.declared.rows.LayerRow.{LayerRow}
use Rattle.farm_rows.specs.Recovery.{comes_after, slot_fits, slot_row}
use Rattle.stored_rows.specs.Inside.{told_of}
use Rattle.stored_rows.specs.Known.{HasRoom, with_found, with_left}
use Rattle.stored_rows.specs.Told.{Told}
use Rattle.stored_rows.proofs.FrameKept.{frame_kept_as, room_known}
use Rattle.stored_rows.proofs.stored_rows.StoredRows.push_frame.Goals as goal

pub note_attempt-requires : goal.note_attempt-requires
note_attempt-requires c =
    let a = c.self.inside in
    record { room = room_known (told_of a) a.hosts a.jobs a.layers.items c.self.invariant.told c.slot_row-said.result.proc (subst (λ (t : Told). HasRoom t.farm c.slot_row-said.result.proc) (sym c.self.view_is) c.slot_row-said.ensures.room) }

pub invariant_of-self : goal.invariant_of-self
invariant_of-self c =
    let a = c.self.inside in
    let r = c.args.row.now in
    let said = c.slot_row-said.result in
    let after = subst (λ (t : Told). comes_after t.last (8, r.slot) ≡ true) (sym c.self.view_is) c.requires.after in
    let fits = subst (λ (t : Told). slot_fits t.farm r ≡ true) (sym c.self.view_is) c.requires.fits in
    let is : said ≡ slot_row (told_of a).farm r = c.slot_row-said.ensures.value ∙ ap (λ (t : Told). slot_row t.farm r) (sym c.self.view_is) in
    let left = c.note_left.ensures ∙ ap (λ (js : List JobRow). with_left js said.frame a.jobs) c.as_slice-2.ensures.value in
    let slot = c.note_slot.ensures ∙ ap (λ (ls : List LayerRow). with_found ls r.slot said.frame a.layers.items) c.as_slice.ensures.value in
    record {
      told = rw (c.id_of.ensures, c.fill.ensures.items, c.note_attempt.ensures, left, slot) (frame_kept_as (told_of a) a.hosts a.jobs a.layers.items c.self.invariant.told r after fits said is);
      limits = c.self.invariant.limits;
      format = c.self.invariant.format;
      room = rw c.fill.ensures.room c.self.invariant.room;
    }
