use Rattle.std.proofs.Common.{◌∙◌, ◌++◌, [], ap, subst, sym}
use Rattle.farm_types.specs.Kept.{IsKeptFarm}
use Rattle.stored_rows.specs.Told.{Told}
use Rattle.recovery.specs.Drafts.{said_as}
use Rattle.recovery.proofs.Reached.{whole_said}
use Rattle.recovery.proofs.draft.FarmDraft.whole.Goals as goal

pub of_lists-requires : goal.of_lists-requires
of_lists-requires c =
    let t = c.args.self in
    subst IsKeptFarm (sym (c.into_lists-lists.ensures ∙ ap (λ (u : Told). u.farm) c.self.view_is))
    (c.farms_said_are_kept.ensures.kept (c.requires.reached.0 ++ []) (said_as t t.farm) (whole_said t c.requires.reached c.requires.fine))
