use Rattle.std.proofs.Common.{◌≡◌, ◌∷◌, [], ◌++◌, ap, ◌∙◌, List, map, ℕ, true, refl, sym, subst}
use Rattle.std.specs.List.{list_any}
use Rattle.std.specs.Str.{bytes_eq}
use Rattle.std.proofs.lemmas.List.{map_push}
use Rattle.farm_types.specs.Kept.{limit_label}
use Rattle.farm_rows.specs.Recovery.{comes_after, limit_fits}
use Rattle.row_index.proofs.Named.{any_labelled}
use Rattle.stored_rows.specs.Inside.{told_of}
use Rattle.stored_rows.specs.Told.{Told}
use Rattle.stored_rows.proofs.Kept.{limit_is_new, told_kept}
use Rattle.stored_rows.proofs.stored_rows.StoredRows.push_limit.Goals as goal

pub add-requires : goal.add-requires
add-requires c =
    let a = c.self.inside in
    let name = c.args.row.name in
    let fits = subst (λ (t : Told). limit_fits t.format t.farm c.args.limit c.args.row ≡ true) (sym c.self.view_is) c.requires.fits in
    record { new = ap (list_any (λ (other : List ℕ). bytes_eq other name)) c.self.invariant.limits ∙ any_labelled limit_label name a.lists.limits.items ∙ limit_is_new (told_of a).farm a.format c.args.limit c.args.row fits }

pub invariant_of-self-2 : goal.invariant_of-self-2
invariant_of-self-2 c =
    let a = c.self.inside in
    let after = subst (λ (t : Told). comes_after t.last (11, c.args.limit) ≡ true) (sym c.self.view_is) c.requires.after in
    let rows : c.push_reserved.new.self.items ≡ a.lists.limits.items ++ c.args.row ∷ [] = c.push_reserved.ensures.items ∙ ap (λ xs. xs ++ c.args.row ∷ []) c.reserve.ensures.items in
    record {
      told = told_kept (told_of a) a.hosts a.jobs a.layers.items c.self.invariant.told (11, c.from.result) _ _ (subst (λ (n : ℕ). comes_after a.last (11, n) ≡ true) (sym (c.from.ensures ∙ c.limit.view_is)) after) refl refl refl refl refl c.self.invariant.told.of_subs;
      limits = c.in_ok-add.ensures.ok ∙ (ap (λ ns. ns ++ c.args.row.name ∷ []) c.self.invariant.limits ∙ (sym (map_push limit_label a.lists.limits.items c.args.row) ∙ ap (map limit_label) (sym rows)));
      format = c.self.invariant.format;
      room = c.self.invariant.room;
    }
