-- How many attempts a host has, counted from one of its own to the next.
use Rattle.std.proofs.Common.{◌≡◌, ℕ, suc, ◌+◌, ◌-◌, ◌≤◌, Bool, true, false, cond, List, [], ◌∷◌, drop, Option, Some, None, refl, sym, ap, ◌∙◌, arith}
use Rattle.std.specs.Prelude.{◌==◌}
use Rattle.std.proofs.lemmas.List.{drop-drop, drop-map}
use Rattle.std.proofs.lemmas.Option.{none-some, same_Some}
use Rattle.attempt_book.specs.Book.{first_in, first_on}
use Rattle.farm_types.specs.declared.slot_row.SlotRow.{SlotRow}
use Rattle.farm_types.specs.Lost.{count_on, runs_on}
use Rattle.farm_books.specs.Install.{proc_in, procs_of}
use Rattle.farm_changes.proofs.CountedHosts.{counted, weight}

-- the attempts on the host
abbrev pub count_of : ℕ → List SlotRow → ℕ
count_of host slots = count_on (λ n. n == host) slots

-- the slot is at the place or behind it, and counts one more than those behind it
record CountsOn (host place slot : ℕ) (slots : List SlotRow) : Type 0 where
  ahead : place ≤ slot
  count : count_of host slots ≡ 1 + count_of host (drop (suc (slot - place)) slots)

on_by : (host place slot : ℕ) (s : SlotRow) (ss : List SlotRow) (b : Bool) → runs_on (λ n. n == host) s ≡ b → cond b (Some place) (first_in host (place + 1) (procs_of ss)) ≡ Some slot
    → (first_in host (place + 1) (procs_of ss) ≡ Some slot → CountsOn host (place + 1) slot ss) → CountsOn host place slot (s ∷ ss)
on_by host place slot s ss true is at later =
    let here : place ≡ slot = same_Some place slot at in
    let near : slot - place ≡ 0 = omega arith in
    let rest : drop (suc (slot - place)) (s ∷ ss) ≡ ss = ap (λ (n : ℕ). drop (suc n) (s ∷ ss)) near in
    record { ahead = omega arith; count = omega (arith, counted (λ n. n == host) s ss, ap weight is, ap (count_of host) rest) }
on_by host place slot s ss false is at later =
    let on = later at in
    let ahead = on.ahead in
    let near : slot - place ≡ suc (slot - (place + 1)) = omega arith in
    let rest : drop (suc (slot - place)) (s ∷ ss) ≡ drop (suc (slot - (place + 1))) ss = ap (λ (n : ℕ). drop (suc n) (s ∷ ss)) near in
    record { ahead = omega arith; count = omega (arith, counted (λ n. n == host) s ss, ap weight is, ap (count_of host) rest, on.count) }

counts_on : (host place slot : ℕ) (slots : List SlotRow) → first_in host place (procs_of slots) ≡ Some slot → CountsOn host place slot slots
counts_on host place slot [] at = absurd (none-some slot at)
counts_on host place slot (s ∷ ss) at = on_by host place slot s ss (runs_on (λ n. n == host) s) refl at (counts_on host (place + 1) slot ss)

off_by : (host place : ℕ) (s : SlotRow) (ss : List SlotRow) (b : Bool) → runs_on (λ n. n == host) s ≡ b → cond b (Some place) (first_in host (place + 1) (procs_of ss)) ≡ None
    → (first_in host (place + 1) (procs_of ss) ≡ None → count_of host ss ≡ 0) → count_of host (s ∷ ss) ≡ 0
off_by host place s ss true is none later = absurd (none-some place (sym none))
off_by host place s ss false is none later = omega (arith, counted (λ n. n == host) s ss, ap weight is, later none)

counts_off : (host place : ℕ) (slots : List SlotRow) → first_in host place (procs_of slots) ≡ None → count_of host slots ≡ 0
counts_off host place [] none = refl
counts_off host place (s ∷ ss) none = off_by host place s ss (runs_on (λ n. n == host) s) refl none (counts_off host (place + 1) ss)

-- ---- by the slots' numbers

dropped : (host from : ℕ) (slots : List SlotRow) (o : Option ℕ) → first_on (procs_of slots) host from ≡ o → first_in host from (procs_of (drop from slots)) ≡ o
dropped host from slots o is = sym (ap (first_in host from) (drop-map proc_in from slots)) ∙ is

-- the first attempt from a slot on counts one more than those behind it
pub count_first : (host from slot : ℕ) (slots : List SlotRow) → first_on (procs_of slots) host from ≡ Some slot → count_of host (drop from slots) ≡ 1 + count_of host (drop (slot + 1) slots)
count_first host from slot slots is =
    let on = counts_on host from slot (drop from slots) (dropped host from slots (Some slot) is) in
    let ahead = on.ahead in
    let there : from + suc (slot - from) ≡ slot + 1 = omega arith in
    on.count ∙ ap (λ (n : ℕ). 1 + n) (ap (count_of host) (drop-drop (suc (slot - from)) from slots ∙ ap (λ (n : ℕ). drop n slots) there))

-- where there is none from a slot on, none is counted
pub count_last : (host from : ℕ) (slots : List SlotRow) → first_on (procs_of slots) host from ≡ None → count_of host (drop from slots) ≡ 0
count_last host from slots is = counts_off host from (drop from slots) (dropped host from slots None is)
