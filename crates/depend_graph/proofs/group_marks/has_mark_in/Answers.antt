use Rattle.std.proofs.Common.{arith, ◌≡◌, ◌∙◌, true, false, Bool, ◌&&◌, not, eqb, sym, ap}
use Rattle.std.specs.List.{list_any}
use Rattle.std.proofs.lemmas.Bool.{eq-eqb, ne_eqb}
use Rattle.depend_graph.specs.MetAt.{is_met_at}
use Rattle.depend_graph.specs.Watches.{watched_with}
use Rattle.depend_graph.proofs.ProgressLemmas.AllMet.{marked_is}
use Rattle.depend_graph.proofs.group_marks.has_mark_in.Goals as goal

pub returns-then-unmet-eq0 : goal.returns-then-unmet-eq0
returns-then-unmet-eq0 c =
    let d = c.args.listed.now in
    let p = c.args.position in
    let none : eqb d.unmet 0 ≡ true = eq-eqb d.unmet 0 (omega (arith, c.unmet.ensures, c.if-unmet-eq0.true)) in
    sym (marked_is d p c.requires ∙ ap (λ (b : Bool). not b && list_any (is_met_at p) (watched_with d.groups d.counts)) none)

pub returns : goal.returns
returns c =
    let d = c.args.listed.now in
    let p = c.args.position in
    let some : eqb d.unmet 0 ≡ false = ne_eqb d.unmet 0 (λ e. absurd (omega (arith, e, c.unmet.ensures, c.if-unmet-eq0.false))) in
    c.is_met_among.ensures
    ∙ ((λ i. list_any (is_met_at p) (watched_with (c.groups.ensures i) (c.counts.ensures i)))
    ∙ sym (marked_is d p c.requires ∙ ap (λ (b : Bool). not b && list_any (is_met_at p) (watched_with d.groups d.counts)) some))
