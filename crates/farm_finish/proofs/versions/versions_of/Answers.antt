use Rattle.std.proofs.Common.{◌≡◌, ◌∙◌, ◌+◌, ◌++◌, ◌∷◌, [], ℕ, List, Some, nat_eq, take, sym, ap, subst, arith}
use Rattle.std.specs.Prelude.{if◌then◌else◌}
use Rattle.std.proofs.lemmas.List.{take_more}
use Rattle.std.proofs.lemmas.List.Elements.{All-get_or}
use Rattle.std.proofs.lemmas.Option.{slice_get_within}
use Rattle.indexmap.specs.IndexMap.{get}
use Rattle.farm_draft.specs.Rows.{Stood}
use Rattle.farm_draft.specs.declared.slot_change.SlotChange.{SlotChange}
use Rattle.farm_finish.specs.Versions.{AreLaid}
use Rattle.farm_finish.proofs.CountLemmas.LaidRows.{laid_more}
use Rattle.farm_finish.proofs.versions.versions_of.Goals as goal

pub loop-change-preserved : goal.loop-change-preserved
loop-change-preserved c =
    let l = c.loop-change in
    let rows = c.args.rows.now in
    let slots = c.args.book.now.slots in
    let e = c.change-item.result in
    let more : take (l.change-index + 1) rows ≡ take l.change-index rows ++ e ∷ [] = take_more rows l.change-index e (omega arith) ∙ ap (λ (x : SlotChange). take l.change-index rows ++ x ∷ []) (sym c.change-item.is) in
    let stood : Stood slots e = subst (Stood slots) (sym c.change-item.is) (All-get_or (Stood slots) rows l.change-index e (omega arith) c.requires.stood) in
    let laid : (n : ℕ) → get nat_eq c.lay.new.versions n ≡ (if nat_eq n e.slot then Some e.row.version else get nat_eq l.versions n) =
    subst (λ (d : SlotChange). (n : ℕ) → get nat_eq c.lay.new.versions n ≡ (if nat_eq n d.slot then Some d.row.version else get nat_eq l.versions n)) c.change.view_is c.in_ok-lay.ensures in
    subst (λ (es : List SlotChange). AreLaid slots es (get nat_eq c.lay.new.versions)) (sym more)
    (laid_more slots (take l.change-index rows) e (get nat_eq l.versions) (get nat_eq c.lay.new.versions) (slice_get_within slots e.slot e.was stood) l.invariant laid)
