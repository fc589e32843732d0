use Rattle.std.proofs.Common.{◌∷◌, ◌++◌, None, Some, sym, ◌∙◌}
use Rattle.std.proofs.lemmas.Bool.Decides.{Decides-eqb}
use Rattle.std.specs.Cmp.Lexicographic.{nat_list_eq_equiv}
use Rattle.std.proofs.lemmas.Slice.Eq.{strip_prefix_is}
use Rattle.alloc_tags.proofs.Joined.{bytes_eq-goes_on, bytes_eq-fronts_apart}
use Rattle.alloc_tags.proofs.names.is_same_name.Goals as goal

pub returns-in-Some : goal.returns-in-Some
returns-in-Some c =
    let on = strip_prefix_is Decides-eqb c.args.other.now c.args.facility.now (Some c.in-Some.more) c.in-Some.ensures.cases in
    c.goes_on.ensures ∙ sym (bytes_eq-goes_on c.args.facility.now (46 ∷ c.args.tag.now) c.args.other.now (46 ∷ c.args.other_tag.now) c.in-Some.more.now on)

pub returns-in-None : goal.returns-in-None
returns-in-None c =
    let apart = strip_prefix_is Decides-eqb c.args.other.now c.args.facility.now None c.in_default.ensures.cases in
    let others = strip_prefix_is Decides-eqb c.args.facility.now c.args.other.now None c.in-None.ensures.cases in
    sym (bytes_eq-fronts_apart c.args.facility.now (46 ∷ c.args.tag.now) c.args.other.now (46 ∷ c.args.other_tag.now) apart others)

pub returns-in-Some-strip_prefix : goal.returns-in-Some-strip_prefix
returns-in-Some-strip_prefix c =
    let xs = 46 ∷ c.args.tag.now in
    let ys = 46 ∷ c.args.other_tag.now in
    let on = strip_prefix_is Decides-eqb c.args.facility.now c.args.other.now (Some c.in-Some-strip_prefix.more) c.in-Some-strip_prefix.ensures.cases in
    c.goes_on-in-Some-strip_prefix.ensures
    ∙ (sym (bytes_eq-goes_on c.args.other.now ys c.args.facility.now xs c.in-Some-strip_prefix.more.now on) ∙ nat_list_eq_equiv.symm (c.args.other.now ++ ys) (c.args.facility.now ++ xs))
