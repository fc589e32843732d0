use Rattle.std.proofs.Common.{◌≡◌, ◌∙◌, ℕ, ◌+◌, ◌<◌, List, length, Option, sym, ap, subst}
use Rattle.std.specs.Prelude.{◌==◌}
use Rattle.farm_types.specs.declared.slot_row.SlotRow.{SlotRow}
use Rattle.farm_types.specs.Farm.{Farm, changed_at}
use Rattle.attempt_book.specs.Book.{next_on}
use Rattle.farm_books.specs.Install.{procs_of}
use Rattle.farm_draft.specs.Drafted.{Drafted, with_slots}
use Rattle.farm_draft.specs.Lost.{lost_where}
use Rattle.farm_draft.proofs.FirstAttempts.{fewer_left, first_on-some, left_from, next_on-live}
use Rattle.farm_draft.proofs.LostRows.{lost_all, lost_next}
use Rattle.farm_draft.proofs.draft.Draft.lose.Goals as goal

pub loop-next-smaller : goal.loop-next-smaller
loop-next-smaller c =
    let procs = procs_of c.args.self.now.base.slots in
    let slot = c.in-Some.slot in
    let so_far = c.loop-next.invariant in
    let first = first_on-some procs c.args.host so_far.0 slot (sym so_far.1 ∙ c.in-Some.is) in
    let base = ap (λ (d : Drafted). d.base) c.in_ok-lose_one.ensures ∙ ap (λ (d : Drafted). d.base) so_far.2 in
    let next : c.next_attempt-next.result ≡ next_on procs slot =
    c.next_attempt-next.ensures ∙ (ap (λ (d : Drafted). next_on (procs_of d.base.slots) slot) c.self-in-Some.view_is ∙ ap (λ (f : Farm). next_on (procs_of f.slots) slot) base) in
    subst (λ (o : Option ℕ). left_from (length procs) o < left_from (length procs) c.loop-next.next) (sym next)
    (subst (λ (o : Option ℕ). left_from (length procs) (next_on procs slot) < left_from (length procs) o) (sym c.in-Some.is) (fewer_left procs c.args.host slot first.live))

pub loop-next-preserved : goal.loop-next-preserved
loop-next-preserved c =
    let d = c.args.self.now in
    let procs = procs_of d.base.slots in
    let slot = c.in-Some.slot in
    let so_far = c.loop-next.invariant in
    let at = sym so_far.1 ∙ c.in-Some.is in
    let first = first_on-some procs c.args.host so_far.0 slot at in
    let base = ap (λ (d : Drafted). d.base) c.in_ok-lose_one.ensures ∙ ap (λ (d : Drafted). d.base) so_far.2 in
    let next : c.next_attempt-next.result ≡ next_on procs slot =
    c.next_attempt-next.ensures ∙ (ap (λ (d : Drafted). next_on (procs_of d.base.slots) slot) c.self-in-Some.view_is ∙ ap (λ (f : Farm). next_on (procs_of f.slots) slot) base) in
    let lost = lost_next c.args.host d.base.slots d.farm.slots c.requires so_far.0 slot at in (
      slot + 1,
      next ∙ next_on-live procs c.args.host slot first.live,
      c.in_ok-lose_one.ensures
          ∙ (ap (λ (x : Drafted). with_slots x (changed_at x.farm.slots slot (lost_where (λ n. n == c.args.host)))) so_far.2 ∙ ap (λ (ss : List SlotRow). with_slots d ss) lost),
    )

pub returns : goal.returns
returns c =
    let d = c.args.self.now in
    let so_far = c.loop-next.invariant in
    so_far.2 ∙ ap (λ (ss : List SlotRow). with_slots d ss) (lost_all c.args.host d.base.slots d.farm.slots c.requires so_far.0 (sym so_far.1 ∙ c.in_default.is))
