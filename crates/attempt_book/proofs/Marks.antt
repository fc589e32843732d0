-- The marks of a host's attempts, from any slot on: where they are, and what they are once one slot changes.
use Rattle.std.proofs.Common.{◌≡◌, ◌≢◌, ℕ, zero, suc, ◌+◌, ◌-◌, ◌<◌, ◌≤◌, min, true, false, List, [], ◌∷◌, length, drop, Option, Some, None, refl, sym, ap, ◌∙◌, inl, inr, arith, length-drop}
use Rattle.std.proofs.Math.Seq.{drop-drop}
use Rattle.std.specs.List.{slice_get, slice_set}
use Rattle.std.proofs.lemmas.Bool.{cases_lt}
use Rattle.std.proofs.lemmas.List.{drop-set-lt, drop-set-add}
use Rattle.farm_types.specs.declared.attempt.ProcRow.{ProcRow}
use Rattle.farm_types.specs.declared.limits.TheConstants.{SLOT_LIMIT}
use Rattle.attempt_book.specs.Book.{first_in, first_on}
use Rattle.attempt_book.specs.Way.{mark_of, mark_on, slot_of}
use Rattle.attempt_book.proofs.Firsts.{is_on, mark_low, mark_high, mark_live, slot_of-mark, first_in-behind, mark_in-put, first_in-cut, first_in-kept, first_in-other}

pub slice_get-drop : {X : Type 0} (n : ℕ) (xs : List X) (i k : ℕ) → k ≡ n + i → slice_get (drop n xs) i ≡ slice_get xs k
slice_get-drop zero xs i k is = let same : i ≡ k = omega arith in ap (slice_get xs) same
slice_get-drop (suc n) [] i k is = refl
slice_get-drop (suc n) (x ∷ xs) i zero is = absurd (omega arith)
slice_get-drop (suc n) (x ∷ xs) i (suc k) is = slice_get-drop n xs i k (omega arith)

from_drop : {X : Type 0} (n : ℕ) (xs : List X) (i k : ℕ) → k ≡ n + i → drop i (drop n xs) ≡ drop k xs
from_drop n xs i k is = drop-drop i n xs ∙ ap (λ m. drop m xs) (sym is)

module _ (procs : List (Option ProcRow)) (host : ℕ) (count : length procs ≤ SLOT_LIMIT) where
  dropped : (from : ℕ) → from ≤ SLOT_LIMIT → from + length (drop from procs) ≤ SLOT_LIMIT
  dropped from within = omega (arith, length-drop from procs)

  pub mark_on-low : (from : ℕ) → from ≤ SLOT_LIMIT → from ≤ mark_on procs host from
  mark_on-low from within = mark_low host from (drop from procs) (dropped from within)

  pub mark_on-high : (from i : ℕ) (p : ProcRow) → slice_get procs i ≡ Some (Some p) → p.host ≡ host → from ≤ i → mark_on procs host from ≤ i
  mark_on-high from i p at on below =
      let place : i ≡ from + (i - from) = omega arith in
      let high : mark_on procs host from ≤ from + (i - from) = mark_high host from (i - from) (drop from procs) p (slice_get-drop from procs (i - from) i place ∙ at) on in
      omega arith

  pub mark_on-live : (from : ℕ) → from ≤ SLOT_LIMIT → mark_on procs host from < SLOT_LIMIT → (p : ProcRow) × (slice_get procs (mark_on procs host from) ≡ Some (Some p)) × (p.host ≡ host)
  mark_on-live from within below =
      let low : from ≤ mark_on procs host from = mark_on-low from within in
      let place : mark_on procs host from ≡ from + (mark_on procs host from - from) = omega arith in
      let p = mark_live host from (mark_on procs host from - from) (drop from procs) (dropped from within) (omega arith) place in
      (p.0, sym (slice_get-drop from procs (mark_on procs host from - from) (mark_on procs host from) place) ∙ p.1, p.2)

  pub slot_of-mark_on : (from : ℕ) → from ≤ SLOT_LIMIT → slot_of (mark_on procs host from) ≡ first_on procs host from
  slot_of-mark_on from within = slot_of-mark host from (drop from procs) (dropped from within)

  pub first_on-behind : (from slot : ℕ) → from ≤ slot → slice_get procs slot ≡ Some None → slot ≤ mark_on procs host from → first_on procs host (slot + 1) ≡ first_on procs host from
  first_on-behind from slot below free near =
      let place : slot ≡ from + (slot - from) = omega arith in
      let after : slot + 1 ≡ from + (slot - from) + 1 = omega arith in
      let end : slot + 1 ≡ from + suc (slot - from) = omega arith in
      ap (first_in host (slot + 1)) (sym (from_drop from procs (suc (slot - from)) (slot + 1) end))
      ∙ first_in-behind host from (slot - from) (slot + 1) (drop from procs) after (slice_get-drop from procs (slot - from) slot place ∙ free) (omega arith)

  -- ---- one slot changes

  module _ (slot : ℕ) (new : Option ProcRow) where
    -- the slots from one on, where it is that slot or one before it, and where it is behind that slot
    set_from : (from : ℕ) → from ≤ slot → drop from (slice_set procs slot new) ≡ slice_set (drop from procs) (slot - from) new
    set_from from below =
        let place : slot ≡ from + (slot - from) = omega arith in
        ap (λ n. drop from (slice_set procs n new)) place ∙ drop-set-add from procs (slot - from) new

    pub first_on-above : (from : ℕ) → slot < from → first_on (slice_set procs slot new) host from ≡ first_on procs host from
    first_on-above from above = ap (first_in host from) (drop-set-lt from procs slot new above)

    pub mark_on-put : (from : ℕ) → from ≤ slot → slot < length procs → is_on host new ≡ true → mark_on (slice_set procs slot new) host from ≡ min (mark_on procs host from) slot
    mark_on-put from below there on =
        let put : mark_of (first_in host from (slice_set (drop from procs) (slot - from) new)) ≡ min (mark_on procs host from) (from + (slot - from)) =
        mark_in-put host from (slot - from) (drop from procs) new on (omega (arith, length-drop from procs)) (dropped from (omega arith)) in
        let place : from + (slot - from) ≡ slot = omega arith in
        ap (λ os. mark_of (first_in host from os)) (set_from from below) ∙ put ∙ ap (min (mark_on procs host from)) place

    pub first_on-cut : (from : ℕ) → from ≤ slot → is_on host new ≡ false → mark_on procs host from ≡ slot → first_on (slice_set procs slot new) host from ≡ first_on procs host (slot + 1)
    first_on-cut from below off here =
        let place : slot ≡ from + (slot - from) = omega arith in
        let after : slot + 1 ≡ from + (slot - from) + 1 = omega arith in
        let end : slot + 1 ≡ from + suc (slot - from) = omega arith in
        ap (first_in host from) (set_from from below)
        ∙ first_in-cut host from (slot - from) (slot + 1) (drop from procs) new off after (here ∙ place)
        ∙ ap (first_in host (slot + 1)) (from_drop from procs (suc (slot - from)) (slot + 1) end)

    pub first_on-kept : (from : ℕ) → from ≤ slot → is_on host new ≡ false → mark_on procs host from ≢ slot → first_on (slice_set procs slot new) host from ≡ first_on procs host from
    first_on-kept from below off apart =
        ap (first_in host from) (set_from from below) ∙ first_in-kept host from (slot - from) (drop from procs) new off (λ e. apart (omega arith))

    other_by : (old : Option ProcRow) (from : ℕ) → slice_get procs slot ≡ Some old → is_on host old ≡ false → is_on host new ≡ false → from ≤ slot → first_on (slice_set procs slot new) host from ≡ first_on procs host from
    other_by old from at off off_new below =
        let place : slot ≡ from + (slot - from) = omega arith in
        ap (first_in host from) (set_from from below) ∙ first_in-other host from (slot - from) (drop from procs) old new (slice_get-drop from procs (slot - from) slot place ∙ at) off off_new

    pub first_on-other : (old : Option ProcRow) (from : ℕ) → slice_get procs slot ≡ Some old → is_on host old ≡ false → is_on host new ≡ false → first_on (slice_set procs slot new) host from ≡ first_on procs host from
    first_on-other old from at off off_new =
        elim (cases_lt slot from) as (λ c. first_on (slice_set procs slot new) host from ≡ first_on procs host from) [
          | inl above ↦ first_on-above from above
          | inr below ↦ other_by old from at off off_new below
        ]
