-- A host's own attempts in the order of their slots: the first one at a slot or after it, and what lies before it.
use Rattle.std.proofs.Common.{◌≡◌, ℕ, suc, zero, ◌+◌, ◌-◌, ◌<◌, ◌≤◌, Bool, true, false, cond, List, [], ◌∷◌, length, drop, Option, Some, None, refl, sym, ap, subst, ◌∙◌, arith}
use Rattle.std.specs.List.{slice_get}
use Rattle.std.specs.Prelude.{◌==◌}
use Rattle.std.specs.Option.{option_and_then}
use Rattle.std.proofs.lemmas.Bool.{false≢true, eqb-true}
use Rattle.std.proofs.lemmas.Option.{none-some, same_Some, slice_get_within}
use Rattle.farm_types.specs.declared.attempt.ProcRow.{ProcRow}
use Rattle.farm_types.specs.Farm.{for_some}
use Rattle.attempt_book.specs.Book.{first_in, first_on, flat, next_on}

-- a slot has an attempt on the host
abbrev pub is_on : ℕ → Option ProcRow → Bool
is_on host o = for_some o (λ (p : ProcRow). p.host == host)

abbrev pub IsOn : ℕ → List (Option ProcRow) → ℕ → Type 0
IsOn host procs slot = (p : ProcRow) × (slice_get procs slot ≡ Some (Some p)) × (p.host ≡ host)

-- no slot from one on, and before another, has an attempt on the host
abbrev pub AreOff : ℕ → List (Option ProcRow) → ℕ → ℕ → Type 0
AreOff host procs from to = (i : ℕ) (o : Option ProcRow) → from ≤ i → i < to → slice_get procs i ≡ Some o → is_on host o ≡ false

-- the slot is the first one at another or after it that has an attempt on the host
pub record IsFirst (host : ℕ) (procs : List (Option ProcRow)) (from slot : ℕ) : Type 0 where
  pub ahead : from ≤ slot
  pub live : IsOn host procs slot
  pub before : AreOff host procs from slot

-- ---- counted from a place

on_live : (host : ℕ) (o : Option ProcRow) → is_on host o ≡ true → (p : ProcRow) × (o ≡ Some p) × (p.host ≡ host)
on_live host None on = absurd (false≢true on)
on_live host (Some p) on = (p, refl, eqb-true p.host host on)

off_more : (host : ℕ) (o : Option ProcRow) (os : List (Option ProcRow)) (to : ℕ) → is_on host o ≡ false → AreOff host os 0 to → AreOff host (o ∷ os) 0 (suc to)
off_more host o os to off rest zero x low below at = subst (λ (y : Option ProcRow). is_on host y ≡ false) (same_Some o x at) off
off_more host o os to off rest (suc i) x low below at = rest i x (omega arith) (omega arith) at

-- the first one is so many slots behind the place
abbrev FoundBehind : ℕ → ℕ → List (Option ProcRow) → ℕ → Type 0
FoundBehind host place os slot = (k : ℕ) × (slot ≡ place + k) × IsFirst host os 0 k

found_by : (host place slot : ℕ) (o : Option ProcRow) (os : List (Option ProcRow)) (b : Bool) → is_on host o ≡ b → cond b (Some place) (first_in host (place + 1) os) ≡ Some slot
    → (first_in host (place + 1) os ≡ Some slot → FoundBehind host (place + 1) os slot) → FoundBehind host place (o ∷ os) slot
found_by host place slot o os true on at later =
    let p = on_live host o on in
    let same : place ≡ slot = same_Some place slot at in
    (0, (omega arith), record { ahead = omega arith; live = (p.0, ap Some p.1, p.2); before = λ i x low below at. absurd (omega arith) })
found_by host place slot o os false off at later =
    let rest = later at in
    (suc rest.0, (omega (arith, rest.1)), record { ahead = omega arith; live = rest.2.live; before = off_more host o os rest.0 off rest.2.before })

found_behind : (host place slot : ℕ) (os : List (Option ProcRow)) → first_in host place os ≡ Some slot → FoundBehind host place os slot
found_behind host place slot [] at = absurd (none-some slot at)
found_behind host place slot (o ∷ os) at = found_by host place slot o os (is_on host o) refl at (λ at. found_behind host (place + 1) slot os at)

none_by : (host place : ℕ) (o : Option ProcRow) (os : List (Option ProcRow)) (b : Bool) → is_on host o ≡ b → cond b (Some place) (first_in host (place + 1) os) ≡ None
    → (first_in host (place + 1) os ≡ None → (i : ℕ) (x : Option ProcRow) → slice_get os i ≡ Some x → is_on host x ≡ false)
    → (i : ℕ) (x : Option ProcRow) → slice_get (o ∷ os) i ≡ Some x → is_on host x ≡ false
none_by host place o os true on none later i x at = absurd (none-some place (sym none))
none_by host place o os false off none later zero x at = subst (λ (y : Option ProcRow). is_on host y ≡ false) (same_Some o x at) off
none_by host place o os false off none later (suc i) x at = later none i x at

none_behind : (host place : ℕ) (os : List (Option ProcRow)) → first_in host place os ≡ None → (i : ℕ) (x : Option ProcRow) → slice_get os i ≡ Some x → is_on host x ≡ false
none_behind host place [] none i x at = absurd (none-some x at)
none_behind host place (o ∷ os) none i x at = none_by host place o os (is_on host o) refl none (none_behind host (place + 1) os) i x at

-- ---- by the slots' numbers

slice_get-drop : {X : Type 0} (from i : ℕ) (xs : List X) → slice_get (drop from xs) i ≡ slice_get xs (from + i)
slice_get-drop zero i xs =
    let here : i ≡ 0 + i = omega arith in
    ap (slice_get xs) here
slice_get-drop (suc from) i [] = refl
slice_get-drop (suc from) i (x ∷ xs) =
    let next : suc (from + i) ≡ suc from + i = omega arith in
    slice_get-drop from i xs ∙ ap (slice_get (x ∷ xs)) next

dropped_at : (from i : ℕ) (procs : List (Option ProcRow)) (o : Option ProcRow) → from ≤ i → slice_get procs i ≡ Some o → slice_get (drop from procs) (i - from) ≡ Some o
dropped_at from i procs o low at =
    let here : from + (i - from) ≡ i = omega arith in
    slice_get-drop from (i - from) procs ∙ (ap (slice_get procs) here ∙ at)

pub first_on-some : (procs : List (Option ProcRow)) (host from slot : ℕ) → first_on procs host from ≡ Some slot → IsFirst host procs from slot
first_on-some procs host from slot at =
    let found = found_behind host from slot (drop from procs) at in
    let k = found.0 in
    let p = found.2.live in
    record {
      ahead = omega (arith, found.1);
      live = (p.0, ap (slice_get procs) found.1 ∙ (sym (slice_get-drop from k procs) ∙ p.1), p.2);
      before = λ i o low below at. found.2.before (i - from) o (omega arith) (omega (arith, found.1)) (dropped_at from i procs o low at);
    }

pub first_on-none : (procs : List (Option ProcRow)) (host from : ℕ) → first_on procs host from ≡ None → (i : ℕ) (o : Option ProcRow) → from ≤ i → slice_get procs i ≡ Some o → is_on host o ≡ false
first_on-none procs host from none i o low at = none_behind host from (drop from procs) none (i - from) o (dropped_at from i procs o low at)

-- from a slot with an attempt on the host the next one is the first behind it
pub next_on-live : (procs : List (Option ProcRow)) (host slot : ℕ) → IsOn host procs slot → next_on procs slot ≡ first_on procs host (slot + 1)
next_on-live procs host slot live =
    ap (λ (o : Option (Option ProcRow)). option_and_then (λ (p : ProcRow). first_on procs p.host (slot + 1)) (flat o)) live.1
    ∙ ap (λ (n : ℕ). first_on procs n (slot + 1)) live.2

-- how many slots there are from the one at hand on: none where there is none at hand
abbrev pub left_from : ℕ → Option ℕ → ℕ
left_from count None = 0
left_from count (Some slot) = count - slot

fewer_by : (procs : List (Option ProcRow)) (host from : ℕ) (o : Option ℕ) → first_on procs host (from + 1) ≡ o → from < length procs → left_from (length procs) o < length procs - from
fewer_by procs host from None is there = omega arith
fewer_by procs host from (Some slot) is there =
    let first = first_on-some procs host (from + 1) slot is in
    omega (arith, first.ahead)

-- they get fewer
pub fewer_left : (procs : List (Option ProcRow)) (host slot : ℕ) → IsOn host procs slot → left_from (length procs) (next_on procs slot) < left_from (length procs) (Some slot)
fewer_left procs host slot live =
    subst (λ (o : Option ℕ). left_from (length procs) o < length procs - slot) (sym (next_on-live procs host slot live))
    (fewer_by procs host slot (first_on procs host (slot + 1)) refl (slice_get_within procs slot (Some live.0) live.1))
