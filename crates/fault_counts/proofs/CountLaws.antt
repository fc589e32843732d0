-- What a count that rose says of the calls before and after.
use Rattle.std.proofs.Common.{◌≡◌, ◌+◌, ◌<◌, ◌≤◌, ◌⊎◌, ◌∙◌, ℕ, cond, Bool, true, false, inl, inr, arith}
use Rattle.std.specs.Prelude.{min}
use Rattle.std.proofs.lemmas.Bool.{cases_lt}
use Rattle.fault_counts.specs.Counts.{HasRisen, HasRisenAtLeast, HasRisenBy, incremented, incremented_if, last_count}

-- ---- that it rose

-- a count that had risen has risen
pub HasRisen-later : (old mid new : ℕ) → HasRisen old mid → mid ≤ new → HasRisen old new
HasRisen-later old mid new (inl rose) on = inl (omega arith)
HasRisen-later old mid new (inr full) on = inr (omega arith)

-- what rises afterwards has risen
pub HasRisen-earlier : (old mid new : ℕ) → old ≤ mid → HasRisen mid new → HasRisen old new
HasRisen-earlier old mid new on (inl rose) = inl (omega arith)
HasRisen-earlier old mid new on (inr full) = inr full

risen : (old new : ℕ) → new ≡ min (old + 1) last_count → (old < last_count) ⊎ (last_count ≤ old) → HasRisen old new
risen old new is (inl below) = inl (omega (arith, is))
risen old new is (inr full) = inr (omega (arith, is))

-- one more is a rise
pub HasRisen-incremented : (old new : ℕ) → new ≡ incremented old → HasRisen old new
HasRisen-incremented old new is = risen old new is (cases_lt old last_count)

-- ---- by how many

-- no call
pub HasRisenBy-none : (count : ℕ) → HasRisenBy 0 count count
HasRisenBy-none count = inl (omega arith)

by_one : (old new : ℕ) → new ≡ min (old + 1) last_count → HasRisen old new → HasRisenBy 1 old new
by_one old new is (inl rose) = inl (omega (arith, is, rose))
by_one old new is (inr full) = inr (omega (arith, is, full))

-- one more
pub HasRisenBy-incremented : (old new : ℕ) → new ≡ incremented old → HasRisenBy 1 old new
HasRisenBy-incremented old new is = by_one old new is (HasRisen-incremented old new is)

-- a count at its last number stays there
pub last_count-stays : (fault : Bool) (new : ℕ) → new ≡ incremented_if fault last_count → new ≡ last_count
last_count-stays true new is = omega (arith, is)
last_count-stays false new is = is

in_front : (many first next now : ℕ) → HasRisenBy 1 first next → (next ≡ last_count → now ≡ last_count) → HasRisenBy many next now → HasRisenBy (1 + many) first now
in_front many first next now (inl more) stays (inl is) = inl (omega (arith, more, is))
in_front many first next now (inl more) stays (inr full) = inr full
in_front many first next now (inr last) stays rest = inr (stays last)

-- one call more in front
pub HasRisenBy-cons : (fault : Bool) (many first next now : ℕ) → next ≡ incremented_if fault first → (next ≡ last_count → now ≡ last_count) → HasRisenBy many next now
    → HasRisenBy (cond fault 1 0 + many) first now
HasRisenBy-cons true many first next now is stays rest = in_front many first next now (HasRisenBy-incremented first next is) stays rest
HasRisenBy-cons false many first next now is stays (inl rises) = inl (omega (arith, is, rises))
HasRisenBy-cons false many first next now is stays (inr full) = inr full

behind : (many old mid new : ℕ) → mid ≡ old + many → HasRisenBy 1 mid new → HasRisenBy (many + 1) old new
behind many old mid new so_far (inl more) = inl (omega (arith, so_far, more))
behind many old mid new so_far (inr full) = inr full

-- one call more at the end
pub HasRisenBy-push : (fault : Bool) (many old mid new : ℕ) → HasRisenBy many old mid → new ≡ incremented_if fault mid → HasRisenBy (many + cond fault 1 0) old new
HasRisenBy-push false many old mid new (inl so_far) is = inl (omega (arith, is, so_far))
HasRisenBy-push true many old mid new (inl so_far) is = behind many old mid new so_far (HasRisenBy-incremented mid new is)
HasRisenBy-push false many old mid new (inr full) is = inr (is ∙ full)
HasRisenBy-push true many old mid new (inr full) is = inr (omega (arith, is, full))

-- ---- by so many at least

-- no call
pub HasRisenAtLeast-none : (count : ℕ) → HasRisenAtLeast 0 count count
HasRisenAtLeast-none count = inl (omega arith)

-- one after the other
pub HasRisenAtLeast-append : (many more old mid new : ℕ) → HasRisenAtLeast many old mid → HasRisenAtLeast more mid new → HasRisenAtLeast (many + more) old new
HasRisenAtLeast-append many more old mid new first (inr full) = inr full
HasRisenAtLeast-append many more old mid new (inl rose) (inl again) = inl (omega arith)
HasRisenAtLeast-append many more old mid new (inr full) (inl again) = inr (omega arith)
