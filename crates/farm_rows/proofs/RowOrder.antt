-- The order of rows, by kind and then by id.
use Rattle.std.proofs.Common.{◌≡◌, ◌<◌, Bool, true, false, ◌&&◌, ◌||◌, eqb, ltb, Option, Some, None, refl, arith, ◌⊎◌, inl, inr}
use Rattle.std.proofs.lemmas.Bool.{eq-eqb, eqb-true, false≢true, lt-ltb, ltb-true, or_left, or_right}
use Rattle.std.specs.Cmp.Derive.{both_true}
use Rattle.farm_rows.specs.Recovery.{StoredKey, comes_after, is_before}

before_by : (a b c : Bool) (x y : StoredKey) → ltb x.0 y.0 ≡ a → eqb x.0 y.0 ≡ b → ltb x.1 y.1 ≡ c → (a || (b && c)) ≡ true → (x.0 < y.0) ⊎ ((x.0 ≡ y.0) × (x.1 < y.1))
before_by true b c x y kind same id h = inl (ltb-true x.0 y.0 kind)
before_by false true true x y kind same id h = inr (eqb-true x.0 y.0 same, ltb-true x.1 y.1 id)
before_by false true false x y kind same id h = absurd (false≢true h)
before_by false false c x y kind same id h = absurd (false≢true h)

-- a key before another has an earlier kind, or an earlier id of its kind
pub before_parts : (x y : StoredKey) → is_before x y ≡ true → (x.0 < y.0) ⊎ ((x.0 ≡ y.0) × (x.1 < y.1))
before_parts x y h = before_by (ltb x.0 y.0) (eqb x.0 y.0) (ltb x.1 y.1) x y refl refl refl h

pub before_kind : (x y : StoredKey) → x.0 < y.0 → is_before x y ≡ true
before_kind x y h = or_left _ _ (lt-ltb x.0 y.0 h)

pub before_id : (x y : StoredKey) → x.0 ≡ y.0 → x.1 < y.1 → is_before x y ≡ true
before_id x y same h = or_right _ _ (both_true (eq-eqb x.0 y.0 same) (lt-ltb x.1 y.1 h))

pub before_then : (x y z : StoredKey) → is_before x y ≡ true → is_before y z ≡ true → is_before x z ≡ true
before_then x y z first second = step (before_parts x y first) (before_parts y z second)
  where
    step : (x.0 < y.0) ⊎ ((x.0 ≡ y.0) × (x.1 < y.1)) → (y.0 < z.0) ⊎ ((y.0 ≡ z.0) × (y.1 < z.1)) → is_before x z ≡ true
    step (inl a) (inl b) = before_kind x z (omega (arith, a, b))
    step (inl a) (inr b) = before_kind x z (omega (arith, a, b.0))
    step (inr a) (inl b) = before_kind x z (omega (arith, a.0, b))
    step (inr a) (inr b) = before_id x z (omega (arith, a.0, b.0)) (omega (arith, a.1, b.1))

-- what comes after a row comes after the ones before it
pub after_then : (last : Option StoredKey) (y z : StoredKey) → comes_after last y ≡ true → is_before y z ≡ true → comes_after last z ≡ true
after_then None y z first second = refl
after_then (Some x) y z first second = before_then x y z first second

-- after a row of a kind comes none of an earlier one
pub none_earlier : (key other : StoredKey) → other.0 < key.0 → comes_after (Some key) other ≡ true → ⊥
none_earlier key other earlier after = step (before_parts key other after)
  where
    step : (key.0 < other.0) ⊎ ((key.0 ≡ other.0) × (key.1 < other.1)) → ⊥
    step (inl a) = omega (arith, a, earlier)
    step (inr a) = omega (arith, a.0, earlier)
