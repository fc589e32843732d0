-- The look that the claim asks for is the one that was seen; and a seat that is alone finds the word that it saw.
use Rattle.std.proofs.Common.{◌≡◌, ℕ, ◌+◌, ◌-◌, ◌∙◌, ap, rules, subst, sym}
use Rattle.frame_words.specs.Bits.{frame_bits, frame_of}
use Rattle.booking_rule.specs.Alone.{ShowsSlot}
use Rattle.booking_table.specs.declared.seen.Seen.{Seen}
use Rattle.booking_table.specs.Seats.{view}
use Rattle.booking_table.proofs.Found.{waits_found}
use Rattle.booking_table.proofs.Looked.{seen_for}
use Rattle.booking_table.proofs.table.Table.claim.Goals as goal

pub win_slot-found-requires-clause-seen : goal.win_slot-found-requires-clause-seen
win_slot-found-requires-clause-seen c =
    seen_for (view c.args.seat.now).trail c.args.seen _ _ c.args.hold (sym (ap (λ (s : Seen). s.slot) c.seen.view_is)) (sym (ap (λ (s : Seen). s.version) c.seen.view_is))
    c.requires.looked c.requires.seen.3 c.requires.seen.4 c.requires.seen.5

pub returns-then-found-old-clause-alone : goal.returns-then-found-old-clause-alone
returns-then-found-old-clause-alone c =
    λ alone shows.
    let v = view c.args.seat.now in
    let n : ℕ = c.win_slot-found.result in
    let m : ℕ = c.cores-cores.result in
    let slot = ap (λ (s : Seen). s.slot) c.seen.view_is in
    let version = ap (λ (s : Seen). s.version) c.seen.view_is in
    let cores : m ≡ c.args.hold.burst.cores = search rules in
    let word = subst (λ (x : ℕ). ShowsSlot v x (frame_of n)) slot (c.win_slot-found.ensures.alone alone) in
    let found = waits_found v c.args.seen m n word shows c.requires.seen.1 (c.requires.seen.3 ∙ sym cores) in
    let old = c.waiting_word-old.ensures.word ∙ ap (λ (x : ℕ). frame_bits (record { phase = 1; version = x + 1 - 1; host = 0; cores = m })) version in
    absurd (c.if-found-old.true (found ∙ sym old))
