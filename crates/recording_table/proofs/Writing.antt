-- What the table does to a word is what the step's kind writes.
use Rattle.std.proofs.Common.{◌≡◌, ℕ, ◌+◌, ◌%◌, ◌^◌, ◌<◌, ◌==◌, Bool, true, false, if◌then◌else◌, refl, ap, ◌∙◌, arith}
use prog.Atomic.{either}
use Rattle.farm_types.specs.declared.entry.Entry.{Entry}
use Rattle.farm_types.specs.Farm.{Farm}
use Rattle.frame_words.specs.Bits.{frame_bits}
use Rattle.booking_rule.specs.declared.hold.Claim.{Claim}
use Rattle.booking_rule.specs.declared.view.View.{View}
use Rattle.booking_rule.specs.Words.{frame_place, sub_place, limit_place, host_place}
use Rattle.booking_core.specs.Kinds.{setup_for, host_amounts}
use Rattle.booking_core.specs.Machine.{word}
use Rattle.recording_core.specs.Records.{running_for, raise_by, cap_and_used}
use Rattle.recording_core.specs.Records.RecorderKind.{opens, closes, records, books, confirms, withdraws, leaves, ends, turns, sets_amount, sets_burst, sets_most, sets_size}
use Rattle.recording_core.specs.Records.RecorderKind.{places, places_size, places_burst, places_most}
use Rattle.recording_core.proofs.Whole.{journal_fits, sets_burst_writes, sets_most_writes}
use Rattle.recording_core.proofs.Placing.{places_size_fits, places_burst_fits, places_most_fits}
use Rattle.recording_core.proofs.Sizing.{sets_size_fits}
use Rattle.recording_table.specs.Steps.{MayTake, Writes}

either_if : (b : Bool) (x y : ℕ) → either b x y ≡ (if b then x else y)
either_if true x y = refl
either_if false x y = refl

small : (x : ℕ) → x < 2 ^ 64 → x % 2 ^ 64 ≡ x
small x lt = omega (arith, lt)

pub opens_writes : (v : View) (f : Farm) → Writes v (opens f) (λ n. n)
opens_writes v f s id h at fits = refl

pub closes_writes : (v : View) → Writes v closes (λ n. n)
closes_writes v s id h at fits = refl

pub records_writes : (v : View) (e : Entry) → MayTake v (records e) → Writes v (records e) (λ n. (n + 1) % 2 ^ 64)
records_writes v e may s id h at fits =
    let asks = may s in small (word s 0 + 1) (journal_fits s id v h at asks.0.0 asks.0.1 asks.1.1)

pub books_writes : (v : View) (c : Claim) (e : Entry) → MayTake v (books c e) → Writes v (books c e) (λ n. (n + 1) % 2 ^ 64)
books_writes v c e may s id h at fits =
    let asks = may s in small (word s 0 + 1) (journal_fits s id v h at asks.0.0 asks.0.1 asks.1.1)

pub confirms_writes : (v : View) (c : Claim) (old new : ℕ) → old ≡ frame_bits (setup_for c) → new ≡ frame_bits (running_for c)
    → Writes v (confirms c) (λ n. either (n == old) new n)
confirms_writes v c old new was is s id h at fits =
    let n = word s (frame_place c.slot) in either_if (n == old) new n ∙ λ i. if n == was i then is i else n

pub withdraws_writes : (v : View) (c : Claim) (old new : ℕ) → old ≡ frame_bits (running_for c) → new ≡ frame_bits (setup_for c)
    → Writes v (withdraws c) (λ n. either (n == old) new n)
withdraws_writes v c old new was is s id h at fits =
    let n = word s (frame_place c.slot) in either_if (n == old) new n ∙ λ i. if n == was i then is i else n

pub leaves_writes : (v : View) (slot bits new : ℕ) → new ≡ bits → Writes v (leaves slot bits) (λ n. new)
leaves_writes v slot bits new is s id h at fits = is

pub ends_writes : (v : View) (slot bits new : ℕ) → new ≡ bits → Writes v (ends slot bits) (λ n. new)
ends_writes v slot bits new is s id h at fits = is

pub turns_writes : (v : View) (slot bits new : ℕ) → new ≡ bits → Writes v (turns slot bits) (λ n. new)
turns_writes v slot bits new is s id h at fits = is

pub sets_amount_writes : (v : View) (slot bits new : ℕ) → new ≡ bits → Writes v (sets_amount slot bits) (λ n. new)
sets_amount_writes v slot bits new is s id h at fits = is

pub burst_writes : (v : View) (sub old new amount : ℕ) → amount ≡ raise_by old new → MayTake v (sets_burst sub old new)
    → Writes v (sets_burst sub old new) (λ n. (n + amount) % 2 ^ 64)
burst_writes v sub old new amount is may s id h at fits =
    ap (λ (x : ℕ). (word s (sub_place sub) + x) % 2 ^ 64) is ∙ sets_burst_writes s id v h at sub old new (may s) fits

pub most_writes : (v : View) (limit old new amount : ℕ) → amount ≡ raise_by old new → MayTake v (sets_most limit old new)
    → Writes v (sets_most limit old new) (λ n. (n + amount) % 2 ^ 64)
most_writes v limit old new amount is may s id h at fits =
    ap (λ (x : ℕ). (word s (limit_place limit) + x) % 2 ^ 64) is ∙ sets_most_writes s id v h at limit old new (may s) fits

pub size_writes : (v : View) (host cores memory amount : ℕ) → amount ≡ host_amounts cores memory → MayTake v (sets_size host cores memory)
    → Writes v (sets_size host cores memory) (λ n. (n + amount) % 2 ^ 64)
size_writes v host cores memory amount is may s id h at fits =
    ap (λ (x : ℕ). (word s (host_place host) + x) % 2 ^ 64) is
    ∙ small (word s (host_place host) + host_amounts cores memory) (sets_size_fits s id v h at host cores memory (may s)).1

-- ---- where words are placed for the first time

pub places_writes : (v : View) (slot bits new : ℕ) → new ≡ bits → Writes v (places slot bits) (λ n. new)
places_writes v slot bits new is s id h at fits = is

pub places_size_writes : (v : View) (host cores memory amount : ℕ) → amount ≡ host_amounts cores memory → MayTake v (places_size host cores memory)
    → Writes v (places_size host cores memory) (λ n. (n + amount) % 2 ^ 64)
places_size_writes v host cores memory amount is may s id h at fits =
    ap (λ (x : ℕ). (word s (host_place host) + x) % 2 ^ 64) is
    ∙ small (word s (host_place host) + host_amounts cores memory) (places_size_fits s id v h at host cores memory (may s)).1

pub places_burst_writes : (v : View) (sub burst booked amount : ℕ) → amount ≡ cap_and_used burst booked → MayTake v (places_burst sub burst booked)
    → Writes v (places_burst sub burst booked) (λ n. (n + amount) % 2 ^ 64)
places_burst_writes v sub burst booked amount is may s id h at fits =
    ap (λ (x : ℕ). (word s (sub_place sub) + x) % 2 ^ 64) is
    ∙ small (word s (sub_place sub) + cap_and_used burst booked) (places_burst_fits s id v h at sub burst booked (may s))

pub places_most_writes : (v : View) (limit most running amount : ℕ) → amount ≡ cap_and_used most running → MayTake v (places_most limit most running)
    → Writes v (places_most limit most running) (λ n. (n + amount) % 2 ^ 64)
places_most_writes v limit most running amount is may s id h at fits =
    ap (λ (x : ℕ). (word s (limit_place limit) + x) % 2 ^ 64) is
    ∙ small (word s (limit_place limit) + cap_and_used most running) (places_most_fits s id v h at limit most running (may s))
