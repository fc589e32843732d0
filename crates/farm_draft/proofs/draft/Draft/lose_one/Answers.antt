use Rattle.std.proofs.Common.{◌≡◌, ◌∙◌, List, Option, false, sym, ap, option_map}
use Rattle.std.specs.Prelude.{◌==◌}
use Rattle.std.proofs.lemmas.Bool.{not-true}
use Rattle.farm_types.specs.declared.attempt.ProcRow.{ProcRow}
use Rattle.farm_types.specs.declared.slot_row.SlotRow.{SlotRow}
use Rattle.farm_types.specs.Farm.{for_some}
use Rattle.farm_types.specs.Lost.{runs_on}
use Rattle.farm_draft.specs.Drafted.{with_slots}
use Rattle.farm_draft.specs.Rows.{row_of}
use Rattle.farm_draft.proofs.LostRows.{kept_slot}
use Rattle.farm_draft.proofs.draft.Draft.lose_one.Goals as goal

pub returns-in_default-proc : goal.returns-in_default-proc
returns-in_default-proc c =
    let d = c.args.self.now in
    let s = c.in-Some.change.row in
    let off : runs_on (λ n. n == c.args.host) s ≡ false = ap (λ (o : Option ProcRow). for_some o (λ (p : ProcRow). p.host == c.args.host)) c.in_default-proc.is in
    sym (ap (λ (ss : List SlotRow). with_slots d ss) (kept_slot d.farm.slots c.args.slot (λ n. n == c.args.host) s (sym c.slot.ensures.row ∙ ap (option_map row_of) c.in-Some.is) off))

pub returns-then-ne : goal.returns-then-ne
returns-then-ne c =
    let d = c.args.self.now in
    let s = c.in-Some.change.row in
    let apart : (c.in-Some-proc.live.host == c.args.host) ≡ false = not-true (c.in-Some-proc.live.host == c.args.host) (sym c.ne.ensures ∙ c.if-ne.true) in
    let off : runs_on (λ n. n == c.args.host) s ≡ false = ap (λ (o : Option ProcRow). for_some o (λ (p : ProcRow). p.host == c.args.host)) c.in-Some-proc.is ∙ apart in
    sym (ap (λ (ss : List SlotRow). with_slots d ss) (kept_slot d.farm.slots c.args.slot (λ n. n == c.args.host) s (sym c.slot.ensures.row ∙ ap (option_map row_of) c.in-Some.is) off))
