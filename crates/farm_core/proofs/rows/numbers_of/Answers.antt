use Rattle.std.proofs.Common.{◌≡◌, ◌∙◌, ◌<◌, ◌++◌, ℕ, List, append-nil, length, map, sym, ap, subst}
use Rattle.farm_types.specs.Rising.{depend_key}
use Rattle.farm_core.specs.AllRows.{numbers_above}
use Rattle.farm_core.proofs.RowsTold.{number_more, numbers_all, numbers_fewer, numbers_none}
use Rattle.farm_core.proofs.rows.numbers_of.Goals as goal

pub loop-depend-init : goal.loop-depend-init
loop-depend-init c =
    let b = c.args.depends.now in
    ap (λ (ns : List ℕ). ns ++ numbers_above 0 b.rows) c.new-numbers.ensures ∙ numbers_all b.rows b.next c.kept.ensures.rise

pub loop-depend-smaller : goal.loop-depend-smaller
loop-depend-smaller c =
    let b = c.args.depends.now in
    let l = c.loop-depend in
    let first = sym c.next.ensures ∙ c.in-Some.is in
    subst (λ (n : ℕ). length (numbers_above n b.rows) < length (numbers_above l.after b.rows)) (sym c.depend.view_is)
    (numbers_fewer l.after c.in-Some.depend b.rows b.next c.kept.ensures.rise first)

pub loop-depend-preserved : goal.loop-depend-preserved
loop-depend-preserved c =
    let b = c.args.depends.now in
    let l = c.loop-depend in
    let first = sym c.next.ensures ∙ c.in-Some.is in
    subst (λ (n : ℕ). c.push.new.self ++ numbers_above n b.rows ≡ map depend_key b.rows) (sym c.depend.view_is)
    (number_more l.numbers c.push.new.self (map depend_key b.rows) l.after c.in-Some.depend b.rows b.next c.kept.ensures.rise first c.in_ok-push.ensures.ok l.invariant)

pub returns : goal.returns
returns c =
    let b = c.args.depends.now in
    let l = c.loop-depend in
    let last = ap (λ (ns : List ℕ). l.numbers ++ ns) (numbers_none l.after b.rows (sym c.next.ensures ∙ c.in_default.is)) in
    sym (append-nil l.numbers) ∙ (sym last ∙ l.invariant)
