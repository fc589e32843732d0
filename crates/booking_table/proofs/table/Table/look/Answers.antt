use Rattle.std.proofs.Common.{◌≡◌, ℕ, ◌==◌, ◌<◌, ◌^◌, false, sym, ap, ◌∙◌, refl, subst}
use Rattle.farm_types.specs.Limits.{IsBetween}
use Rattle.farm_types.specs.declared.limits.TheConstants.{LEAST_MEMORY, MOST_MEMORY}
use Rattle.frame_words.specs.declared.amount_word.AmountWord.{AmountWord}
use Rattle.frame_words.specs.declared.frame_word.FrameWord.{FrameWord}
use Rattle.frame_words.specs.Bits.{frame_of}
use Rattle.booking_rule.specs.declared.view.View.{View}
use Rattle.booking_rule.specs.Words.{frame_place, amount_place}
use Rattle.booking_rule.specs.Looks.{HasLook}
use Rattle.booking_rule.specs.Ranges.{found_used}
use Rattle.booking_rule.specs.Splits.{look_at}
use Rattle.booking_core.specs.Kinds.{loaded}
use Rattle.booking_table.specs.declared.seen.Seen.{Seen}
use Rattle.booking_table.specs.Seats.{view}
use Rattle.booking_table.specs.Alone.{ShowsSeen}
use Rattle.booking_table.specs.Calls.{seen_of, seen_in, look_by}
use Rattle.booking_table.specs.Holds.{IsLimit}
use Rattle.booking_table.proofs.Found.{limit_fits, saw_after}
use Rattle.booking_table.proofs.Looked.{found_last, looks_at}
use Rattle.booking_table.proofs.table.Table.look.Goals as goal

pub returns-clause-memory : goal.returns-clause-memory
returns-clause-memory c waits =
    let slot = c.args.slot in
    let n = c.load_frame-frame.result in
    let phase : (frame_of n).phase ≡ 1 = ap (λ (f : FrameWord). f.phase) (sym c.unpack.ensures.word) ∙ ap (λ (x : Seen). x.phase) (sym c.seen_of.ensures) ∙ waits in
    let used : ((frame_of n).phase == 0) ≡ false = ap (λ (x : ℕ). x == 0) phase in
    let found = found_last slot (view c.args.seat.now).trail (look_at (frame_place slot) n) refl used in
    let layer = c.load_amount-amount.ensures.layer (ap (λ (v : View). found_used slot v.trail) c.load_frame-frame.ensures.loaded ∙ found) in
    subst (λ (x : Seen). IsBetween LEAST_MEMORY MOST_MEMORY x.memory) (sym c.seen_of.ensures)
    (subst (λ (a : AmountWord). IsBetween LEAST_MEMORY MOST_MEMORY a.memory) (sym c.unpack-2.ensures.word) layer)

pub returns-clause-look : goal.returns-clause-look
returns-clause-look c waits below =
    let slot = c.args.slot in
    let v = view c.args.seat.now in
    let n = c.load_frame-frame.result in
    let m = c.load_amount-amount.result in
    let after = c.load_amount-amount.ensures.loaded ∙ ap (λ (w : View). loaded w (amount_place slot) m) c.load_frame-frame.ensures.loaded in
    let phase : (frame_of n).phase ≡ 1 = ap (λ (f : FrameWord). f.phase) (sym c.unpack.ensures.word) ∙ ap (λ (x : Seen). x.phase) (sym c.seen_of.ensures) ∙ waits in
    let look = looks_at v.trail slot n m c.requires.within phase (subst (λ (f : FrameWord). f.version < 16777215) c.unpack.ensures.word (subst (λ (x : Seen). x.version < 16777215) c.seen_of.ensures below)) in
    let seen : seen_of slot n m ≡ c.seen_of.result = (λ i. seen_in slot (sym c.unpack.ensures.word i) (sym c.unpack-2.ensures.word i)) ∙ sym c.seen_of.ensures in
    subst (λ (x : Seen). HasLook (view c.load_amount-amount.new.seat).trail (look_by x)) seen
    (subst (λ (w : View). HasLook w.trail (look_by (seen_of slot n m))) (sym after) look)

pub returns-clause-fits : goal.returns-clause-fits
returns-clause-fits c =
    let f = c.unpack.ensures.fits in
    let a = c.unpack-2.ensures.fits in
    subst (λ (x : Seen). (x.phase < 16) × (x.version < 2 ^ 24) × (x.cores < 2 ^ 20) × IsLimit x.limit) (sym c.seen_of.ensures)
    (f.0, f.1, f.3, limit_fits c.unpack-2.result.limit a.1)

pub returns-clause-alone : goal.returns-clause-alone
returns-clause-alone c alone =
    let slot = c.args.slot in
    let v = view c.args.seat.now in
    let n = c.load_frame-frame.result in
    let m = c.load_amount-amount.result in
    let shown = c.load_frame-frame.ensures.alone alone in
    let saw = saw_after v (view c.load_frame-frame.new.seat) (look_at (frame_place slot) n) slot n m c.load_frame-frame.ensures.loaded alone shown.0
    c.load_amount-amount.ensures.alone in
    let seen : seen_of slot n m ≡ c.seen_of.result = (λ i. seen_in slot (sym c.unpack.ensures.word i) (sym c.unpack-2.ensures.word i)) ∙ sym c.seen_of.ensures in
    (subst (λ (x : Seen). ShowsSeen v x) seen saw, shown.1)
