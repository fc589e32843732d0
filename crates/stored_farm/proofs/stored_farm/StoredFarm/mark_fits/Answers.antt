use Rattle.std.proofs.Common.{◌∙◌, ◌&&◌, ap, sym, subst}
use Rattle.stored_rows.specs.Told.{Told}
use Rattle.stored_farm.specs.Judged.{is_mark_among, takes_mark}
use Rattle.stored_farm.specs.Marks.{EachRises}
use Rattle.stored_farm.proofs.JudgedSame.{each_rises, mark_judged}
use Rattle.stored_farm.proofs.stored_farm.StoredFarm.mark_fits.Goals as goal

pub mark_fits-fits-requires-clause-groups : goal.mark_fits-fits-requires-clause-groups
mark_fits-fits-requires-clause-groups c =
    let a = c.self.inside in
    subst EachRises (sym (c.as_slice-groups.ensures.value ∙ c.self.invariant.groups_are)) (each_rises a.rows.farm c.kept.ensures a.depends.items a.met.items)

pub returns : goal.returns
returns c =
    let m = c.args.mark.now in
    let a = c.self.inside in
    let f = a.rows.farm in
    let groups = c.as_slice-groups.ensures.value ∙ c.self.invariant.groups_are in
    c.both.ensures
    ∙ ((λ i. c.is_recorded.ensures i && (c.mark_fits-fits.ensures ∙ (λ j. is_mark_among (c.as_slice-depends.ensures.value j) (groups j) m)) i)
    ∙ (mark_judged f c.kept.ensures a.depends.items a.met.items m ∙ ap (λ (t : Told). takes_mark t.farm m) c.self.view_is))
