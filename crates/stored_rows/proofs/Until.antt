-- Rows that come one after the other: which may still come.
use Rattle.std.proofs.Common.{◌≡◌, ◌≤◌, ◌<◌, ℕ, ◌+◌, true, List, [], ◌∷◌, ◌++◌, Option, Some, refl, subst, arith, ◌⊎◌, inl, inr}
use Rattle.farm_types.specs.Rising.{IsRising}
use Rattle.farm_rows.specs.Recovery.{StoredKey, comes_after}
use Rattle.farm_rows.proofs.RowOrder.{after_then, before_kind, before_parts}
use Rattle.stored_rows.specs.Known.{IsUntil, Rises}

-- what may still come after a row of another kind, or of this one
pub until_kept : (last : Option StoredKey) (key : StoredKey) (kind high : ℕ) → comes_after last key ≡ true → IsUntil last kind high → IsUntil (Some key) kind high
until_kept last key kind high after until id h = until id (after_then last key (kind, id) after h)

-- after a row of the kind
pub until_id : (kind id : ℕ) → IsUntil (Some (kind, id)) kind (id + 1)
until_id kind id n h = step (before_parts (kind, id) (kind, n) h)
  where
    step : (kind < kind) ⊎ ((kind ≡ kind) × (id < n)) → id + 1 ≤ n
    step (inl less) = absurd (omega (arith, less))
    step (inr later) = omega (arith, later.1)

-- before a row of the kind
pub until_at : (last : Option StoredKey) (kind id high : ℕ) → comes_after last (kind, id) ≡ true → IsUntil last kind high → high ≤ id
until_at last kind id high after until = until id after

-- before a row of an earlier kind
pub until_none : (last : Option StoredKey) (key : StoredKey) (kind high : ℕ) → key.0 < kind → comes_after last key ≡ true → IsUntil last kind high → high ≡ 0
until_none last key kind high earlier after until =
    let none : high ≤ 0 = until 0 (after_then last key (kind, 0) after (before_kind key (kind, 0) earlier)) in
    omega (arith, none)

not_below : {X : Type 0} (key : X → ℕ) (n : ℕ) (ys : List X) → IsRising key n ys 0 → n ≤ 0
not_below key n [] h = h
not_below key n (y ∷ ys) h = absurd (omega (arith, not_below key (key y + 1) ys h.1))

empty_by : {X : Type 0} (key : X → ℕ) (low : ℕ) (xs : List X) → IsRising key low xs 0 → xs ≡ []
empty_by key low [] rise = refl
empty_by key low (x ∷ xs) rise = absurd (omega (arith, not_below key (key x + 1) xs rise.1))

pub rises_none : {X : Type 0} (key : X → ℕ) (xs : List X) (last : Option StoredKey) (at : StoredKey) (kind : ℕ) → at.0 < kind → comes_after last at ≡ true → Rises key xs last kind → xs ≡ []
rises_none key xs last at kind earlier after k =
    empty_by key 0 xs (subst (λ (high : ℕ). IsRising key 0 xs high) (until_none last at kind k.high earlier after k.until) k.rise)

pub rises_kept : {X : Type 0} (key : X → ℕ) (xs : List X) (last : Option StoredKey) (at : StoredKey) (kind : ℕ) → comes_after last at ≡ true → Rises key xs last kind → Rises key xs (Some at) kind
rises_kept key xs last at kind after k = record { high = k.high; rise = k.rise; until = until_kept last at kind k.high after k.until }

rising_more : {X : Type 0} (key : X → ℕ) (low : ℕ) (xs : List X) (high : ℕ) (x : X) → IsRising key low xs high → high ≤ key x → IsRising key low (xs ++ x ∷ []) (key x + 1)
rising_more key low [] high x rise h = (omega (arith, rise, h), omega arith)
rising_more key low (y ∷ ys) high x rise h = (rise.0, rising_more key (key y + 1) ys high x rise.1 h)

-- one more, whose row comes after the last one
pub rises_more : {X : Type 0} (key : X → ℕ) (xs : List X) (x : X) (last : Option StoredKey) (kind : ℕ) → comes_after last (kind, key x) ≡ true → Rises key xs last kind → Rises key (xs ++ x ∷ []) (Some (kind, key x)) kind
rises_more key xs x last kind after k =
    record { high = key x + 1; rise = rising_more key 0 xs k.high x k.rise (k.until (key x) after); until = until_id kind (key x) }
