-- The readings that a clock has to come, where it tells them: a list, its last reading repeated for ever.
use Rattle.std.specs.Prelude.{◌≡◌, ℕ, List, [], ◌∷◌, ◌++◌, Option, None, Some}
use Rattle.std.proofs.Common.{refl, sym, ap, ◌∙◌, subst}

-- the reading that comes next
abbrev pub next_reading : List ℕ → ℕ
next_reading [] = 0
next_reading (reading ∷ later) = reading

-- the readings to come after the next one: the last one stays
abbrev pub after_reading : List ℕ → List ℕ
after_reading [] = []
after_reading (last ∷ []) = last ∷ []
after_reading (reading ∷ next ∷ later) = next ∷ later

-- the readings to come after those that were seen
abbrev pub after_readings : List ℕ → List ℕ → List ℕ
after_readings readings [] = readings
after_readings readings (reading ∷ seen) = after_readings (after_reading readings) seen

-- the readings seen are those that were to come, in order
abbrev pub AreNext : List ℕ → List ℕ → Type 0
AreNext readings [] = Unit {0}
AreNext readings (reading ∷ seen) = (reading ≡ next_reading readings) × AreNext (after_reading readings) seen

-- a clock that had these readings to come told those seen, and has the rest to come
abbrev pub Tells : Option (List ℕ) → Option (List ℕ) → List ℕ → Type 0
Tells None None seen = Unit {0}
Tells None (Some new) seen = ⊥
Tells (Some old) None seen = ⊥
Tells (Some old) (Some new) seen = AreNext old seen × (new ≡ after_readings old seen)

-- a clock that isn't read keeps its readings
pub Tells-none : (readings : Option (List ℕ)) → Tells readings readings []
Tells-none None = tt
Tells-none (Some readings) = (tt, refl)

after_readings-append : (readings first second : List ℕ)
    → after_readings readings (first ++ second) ≡ after_readings (after_readings readings first) second
after_readings-append readings [] second = refl
after_readings-append readings (reading ∷ first) second = after_readings-append (after_reading readings) first second

AreNext-append : (readings first second : List ℕ) → AreNext readings first
    → AreNext (after_readings readings first) second → AreNext readings (first ++ second)
AreNext-append readings [] second a b = b
AreNext-append readings (reading ∷ first) second a b =
    (a.0, AreNext-append (after_reading readings) first second a.1 b)

-- what two calls tell, one after the other
pub Tells-append : (old mid new : Option (List ℕ)) (first second : List ℕ) → Tells old mid first → Tells mid new second
    → Tells old new (first ++ second)
Tells-append None None None first second a b = tt
Tells-append None None (Some new) first second a b = b
Tells-append None (Some mid) new first second a b = absurd a
Tells-append (Some old) None new first second a b = absurd a
Tells-append (Some old) (Some mid) None first second a b = absurd b
Tells-append (Some old) (Some mid) (Some new) first second a b =
    let Next : List ℕ → Type 0 = λ readings. AreNext readings second in (
      AreNext-append old first second a.0 (subst Next a.1 b.0),
      b.1 ∙ ap (λ readings. after_readings readings second) a.1 ∙ sym (after_readings-append old first second),
    )
