-- Keys that rise: one put in or taken out, at the place that a search finds.
use Rattle.std.proofs.Common.{◌≡◌, ℕ, zero, suc, ◌+◌, ◌<◌, ◌≤◌, Bool, true, false, eqb, ltb, List, [], ◌∷◌, length, map, refl, ap, arith}
use Rattle.std.specs.List.{insert, remove, list_any, position_or_len}
use Rattle.std.proofs.lemmas.Bool.{ltb-true, ltb-false, eqb-false, or_parts}
use Rattle.farm_types.specs.Rising.{IsRising}
use Rattle.job_index.specs.Keys.{drop_key, itself, put_key}

-- ---- places

put_step : (b : Bool) (key k : ℕ) (ks : List ℕ) → ltb key k ≡ b → put_key key ks ≡ insert ks (position_or_len (λ (n : ℕ). ltb key n) ks) key
    → put_key key (k ∷ ks) ≡ insert (k ∷ ks) (position_or_len (λ (n : ℕ). ltb key n) (k ∷ ks)) key
put_step true key k ks is later = rw is refl
put_step false key k ks is later =
    let e : 1 + position_or_len (λ (n : ℕ). ltb key n) ks ≡ suc (position_or_len (λ (n : ℕ). ltb key n) ks) = omega arith in
    rw (is, e) (ap (λ ns. k ∷ ns) later)

pub put_is_insert : (key : ℕ) (ks : List ℕ) → put_key key ks ≡ insert ks (position_or_len (λ (n : ℕ). ltb key n) ks) key
put_is_insert key [] = refl
put_is_insert key (k ∷ ks) = put_step (ltb key k) key k ks refl (put_is_insert key ks)

pub map-insert : (f : ℕ → ℕ) (xs : List ℕ) (p x : ℕ) → map f (insert xs p x) ≡ insert (map f xs) p (f x)
map-insert f xs zero x = refl
map-insert f [] (suc p) x = refl
map-insert f (y ∷ ys) (suc p) x = ap (λ ns. f y ∷ ns) (map-insert f ys p x)

drop_step : (b : Bool) (key k : ℕ) (ks : List ℕ) → eqb k key ≡ b → (position_or_len (λ (n : ℕ). eqb n key) ks < length ks → drop_key key ks ≡ remove ks (position_or_len (λ (n : ℕ). eqb n key) ks))
    → position_or_len (λ (n : ℕ). eqb n key) (k ∷ ks) < length (k ∷ ks) → drop_key key (k ∷ ks) ≡ remove (k ∷ ks) (position_or_len (λ (n : ℕ). eqb n key) (k ∷ ks))
drop_step true key k ks is later within = rw is refl
drop_step false key k ks is later within =
    let e : 1 + position_or_len (λ (n : ℕ). eqb n key) ks ≡ suc (position_or_len (λ (n : ℕ). eqb n key) ks) = omega arith in
    let less : 1 + position_or_len (λ (n : ℕ). eqb n key) ks < length (k ∷ ks) = rw is at within in
    rw (is, e) (ap (λ ns. k ∷ ns) (later (omega arith)))

pub drop_is_remove : (key : ℕ) (ks : List ℕ) → position_or_len (λ (n : ℕ). eqb n key) ks < length ks → drop_key key ks ≡ remove ks (position_or_len (λ (n : ℕ). eqb n key) ks)
drop_is_remove key [] within = absurd (omega arith)
drop_is_remove key (k ∷ ks) within = drop_step (eqb k key) key k ks refl (drop_is_remove key ks) within

stay_step : (b : Bool) (key k : ℕ) (ks : List ℕ) → eqb k key ≡ b → (length ks ≤ position_or_len (λ (n : ℕ). eqb n key) ks → drop_key key ks ≡ ks)
    → length (k ∷ ks) ≤ position_or_len (λ (n : ℕ). eqb n key) (k ∷ ks) → drop_key key (k ∷ ks) ≡ k ∷ ks
stay_step true key k ks is later past = let none : length (k ∷ ks) ≤ 0 = rw is at past in absurd (omega arith)
stay_step false key k ks is later past =
    let more : length (k ∷ ks) ≤ 1 + position_or_len (λ (n : ℕ). eqb n key) ks = rw is at past in
    rw is (ap (λ ns. k ∷ ns) (later (omega arith)))

pub drop_stays : (key : ℕ) (ks : List ℕ) → length ks ≤ position_or_len (λ (n : ℕ). eqb n key) ks → drop_key key ks ≡ ks
drop_stays key [] past = refl
drop_stays key (k ∷ ks) past = stay_step (eqb k key) key k ks refl (drop_stays key ks) past

pub map-remove : (f : ℕ → ℕ) (xs : List ℕ) (p : ℕ) → map f (remove xs p) ≡ remove (map f xs) p
map-remove f [] zero = refl
map-remove f (y ∷ ys) zero = refl
map-remove f [] (suc p) = refl
map-remove f (y ∷ ys) (suc p) = ap (λ ns. f y ∷ ns) (map-remove f ys p)

-- ---- order

put_rising_step : (b : Bool) (low key k high : ℕ) (ks : List ℕ) → ltb key k ≡ b → low ≤ key → eqb k key ≡ false → IsRising itself low (k ∷ ks) high → (k + 1 ≤ key → IsRising itself (k + 1) (put_key key ks) high)
    → IsRising itself low (put_key key (k ∷ ks)) high
put_rising_step true low key k high ks is least apart rise later = rw is (least, (omega (arith, ltb-true key k is), rise.1))
put_rising_step false low key k high ks is least apart rise later = rw is (rise.0, later (between (ltb-false key k is) (eqb-false k key apart)))
  where
    between : k ≤ key → (k ≡ key → ⊥) → k + 1 ≤ key
    between le ne = omega (arith, le, ne)

pub put_rising : (low key high : ℕ) (ks : List ℕ) → IsRising itself low ks high → low ≤ key → key < high → list_any (λ (k : ℕ). eqb k key) ks ≡ false → IsRising itself low (put_key key ks) high
put_rising low key high [] rise least below none = (least, omega (arith, below))
put_rising low key high (k ∷ ks) rise least below none =
    let split = or_parts (eqb k key) (list_any (λ (n : ℕ). eqb n key) ks) none in
    put_rising_step (ltb key k) low key k high ks refl least split.0 rise (λ more. put_rising (k + 1) key high ks rise.1 more below split.1)

rising_lower : (low mid high : ℕ) (ks : List ℕ) → low ≤ mid → IsRising itself mid ks high → IsRising itself low ks high
rising_lower low mid high [] h rise = omega (arith, h, rise)
rising_lower low mid high (k ∷ ks) h rise = (omega (arith, h, rise.0), rise.1)

drop_rising_step : (b : Bool) (low key k high : ℕ) (ks : List ℕ) → eqb k key ≡ b → IsRising itself low (k ∷ ks) high → IsRising itself (k + 1) (drop_key key ks) high → IsRising itself low (drop_key key (k ∷ ks)) high
drop_rising_step true low key k high ks is rise later = rw is (rising_lower low (k + 1) high ks (omega (arith, rise.0)) rise.1)
drop_rising_step false low key k high ks is rise later = rw is (rise.0, later)

pub drop_rising : (low key high : ℕ) (ks : List ℕ) → IsRising itself low ks high → IsRising itself low (drop_key key ks) high
drop_rising low key high [] rise = rise
drop_rising low key high (k ∷ ks) rise = drop_rising_step (eqb k key) low key k high ks refl rise (drop_rising (k + 1) key high ks rise.1)
