use Rattle.std.proofs.Common.{◌≡◌, ◌∷◌, [], ◌++◌, ap, ◌∙◌, List, ℕ, true, sym, subst}
use Rattle.std.specs.List.{list_any}
use Rattle.std.specs.Str.{bytes_eq}
use Rattle.farm_types.specs.Kept.{host_label}
use Rattle.farm_rows.specs.Recovery.{comes_after, host_fits}
use Rattle.row_index.proofs.Named.{any_labelled}
use Rattle.stored_rows.specs.Inside.{told_of}
use Rattle.stored_rows.specs.Told.{Told}
use Rattle.stored_rows.proofs.Kept.{host_is_new, host_kept}
use Rattle.stored_rows.proofs.stored_rows.StoredRows.push_host.Goals as goal

pub add-requires : goal.add-requires
add-requires c =
    let a = c.self.inside in
    let name = c.args.row.name in
    let fits = subst (λ (t : Told). host_fits t.farm c.args.host c.args.row ≡ true) (sym c.self.view_is) c.requires.fits in
    record { new = ap (list_any (λ (other : List ℕ). bytes_eq other name)) c.self.invariant.told.of_hosts.names ∙ any_labelled host_label name a.lists.hosts.items ∙ host_is_new (told_of a).farm c.args.host c.args.row fits }

pub invariant_of-self-2 : goal.invariant_of-self-2
invariant_of-self-2 c =
    let a = c.self.inside in
    let after = subst (λ (t : Told). comes_after t.last (5, c.args.host) ≡ true) (sym c.self.view_is) c.requires.after in
    let rows : c.push_reserved.new.self.items ≡ a.lists.hosts.items ++ c.args.row ∷ [] = c.push_reserved.ensures.items ∙ ap (λ xs. xs ++ c.args.row ∷ []) c.reserve.ensures.items in
    record { told = rw ((c.from.ensures ∙ c.host.view_is), rows, c.in_ok-add.ensures.ok) (host_kept (told_of a) a.hosts a.jobs a.layers.items c.self.invariant.told c.args.host c.args.row after); limits = c.self.invariant.limits; format = c.self.invariant.format; room = c.self.invariant.room }
