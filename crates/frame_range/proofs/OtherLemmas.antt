-- The numbers between steps, and steps of halved sizes, one turn of a loop at a time.
use Rattle.std.proofs.Common.{◌≡◌, ◌≢◌, ℕ, zero, suc, ◌+◌, ◌-◌, ◌/◌, ◌%◌, ◌<◌, ◌≤◌, [], ◌∷◌, ◌++◌, Bool, true, false, refl, arith}
use Rattle.std.specs.Prelude.{ℤ, ◌==◌}
use Rattle.std.proofs.lemmas.Bool.Decides.{Decides-eqb}
use Rattle.frame_range.specs.Away.{away, stride, others_from, halves_from}
use Rattle.frame_range.specs.Steps.{steps_from}

pub test_false : (b : Bool) → (b ≡ true → ⊥) → b ≡ false
test_false true h = absurd (h refl)
test_false false h = refl

pub eqb-no : (a b : ℕ) → a ≢ b → (a == b) ≡ false
eqb-no a b h = test_false (a == b) (λ e. h ((Decides-eqb a b).0 e))

-- an offset that is a multiple of the size is left out
pub others_skip : (first : ℤ) (up : Bool) (size offset span : ℕ) → offset < span + 1 → offset % size ≡ 0 →
    others_from first up size offset ((span + 1) - offset) ≡ others_from first up size (offset + 1) ((span + 1) - (offset + 1))
others_skip first up size offset span within multiple =
    let more : (span + 1) - offset ≡ suc ((span + 1) - (offset + 1)) = omega arith in
    let test : (offset % size == 0) ≡ true = (Decides-eqb (offset % size) 0).1 multiple in
    rw (more, test) refl

-- another one is taken
pub others_take : (first : ℤ) (up : Bool) (size offset span : ℕ) → offset < span + 1 → offset % size ≢ 0 →
    others_from first up size offset ((span + 1) - offset) ≡ away first up offset ∷ others_from first up size (offset + 1) ((span + 1) - (offset + 1))
others_take first up size offset span within other =
    let more : (span + 1) - offset ≡ suc ((span + 1) - (offset + 1)) = omega arith in
    let test : (offset % size == 0) ≡ false = eqb-no (offset % size) 0 other in
    rw (more, test) refl

-- no offset is left
pub others_none : (first : ℤ) (up : Bool) (size offset span : ℕ) → span + 1 ≤ offset → others_from first up size offset ((span + 1) - offset) ≡ []
others_none first up size offset span past =
    let none : (span + 1) - offset ≡ 0 = omega arith in
    rw none refl

-- the steps of one size, and the halves of it after them
pub halves_more : (first : ℤ) (up : Bool) (span turns size : ℕ) → 0 < size → size ≤ turns →
    (rest : ℕ) × (size / 2 ≤ rest) × (halves_from first up span turns size ≡ steps_from first (stride up size) (span / size + 1) ++ halves_from first up span rest (size / 2))
halves_more first up span zero size some enough = absurd (omega arith)
halves_more first up span (suc rest) size some enough =
    let test : (size == 0) ≡ false = eqb-no size 0 (omega arith) in
    (rest, omega arith, rw test refl)

pub halves_none : (first : ℤ) (up : Bool) (span turns size : ℕ) → size ≡ 0 → halves_from first up span turns size ≡ []
halves_none first up span zero size none = refl
halves_none first up span (suc turns) size none = rw none refl
