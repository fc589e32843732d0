-- Ranks are in one order: their comparison has the laws of a total order.
use Rattle.std.proofs.Common.{◌≡◌, ℕ, ◌<◌, ◌*◌, Bool, true, false, cond, eqb, refl, sym, ap, ◌∙◌, arith}
use Rattle.std.proofs.Math.Nat.{mul_right_comm, mul-lt-mul_of_pos_right}
use Rattle.std.specs.Cmp.{IsTotalOrder}
use Rattle.std.specs.declared.cmp.Ordering.{Ordering}
use Rattle.std.specs.declared.cmp.Ordering.TheVariants.{Less, Equal, Greater}
use Rattle.std.specs.Ordering.{MatchOrdering, nat_cmp, ordering_reverse}
use Rattle.std.proofs.lemmas.Bool.Decides.{nat_tests}
use Rattle.std.proofs.lemmas.Cmp.{ranked, tied_itself, nat_cmp_total, nat_list_cmp_total, then_total, on_total, back_total}
use Rattle.farm_types.specs.declared.dispatch.Rank.{Rank}
use Rattle.farm_types.specs.Farm.{Farm}
use Rattle.farm_types.specs.Dispatch.{by_ratio, show_name, rank_cmp}

-- ---- both sides times the same number

less_is : (x y : ℕ) → x < y → nat_cmp x y ≡ Less
less_is x y h = grind (arith, nat_tests)

greater_is : (x y : ℕ) → y < x → nat_cmp x y ≡ Greater
greater_is x y h = grind (arith, nat_tests)

scaled_by : (x y k : ℕ) (o : Ordering) → 0 < k → MatchOrdering o (x < y) (x ≡ y) (y < x) → nat_cmp (x * k) (y * k) ≡ o
scaled_by x y k Less some h = less_is (x * k) (y * k) (mul-lt-mul_of_pos_right h some)
scaled_by x y k Equal some h = ap (λ n. nat_cmp (n * k) (y * k)) h ∙ tied_itself nat_cmp_total (y * k)
scaled_by x y k Greater some h = greater_is (x * k) (y * k) (mul-lt-mul_of_pos_right h some)

scaled : (x y k : ℕ) → 0 < k → nat_cmp (x * k) (y * k) ≡ nat_cmp x y
scaled x y k some = scaled_by x y k (nat_cmp x y) some (ranked x y (nat_cmp x y) refl)

-- ---- cross products of three ratios

module _ (b s c t d u : ℕ) (some_s : 0 < s) (some_t : 0 < t) (some_u : 0 < u) where
  first : nat_cmp ((b * u) * t) ((c * s) * u) ≡ nat_cmp (b * t) (c * s)
  first = ap (λ n. nat_cmp n ((c * s) * u)) (mul_right_comm b u t) ∙ scaled (b * t) (c * s) u some_u

  second : nat_cmp ((c * s) * u) ((d * s) * t) ≡ nat_cmp (c * u) (d * t)
  second = ap (λ n. nat_cmp n ((d * s) * t)) (mul_right_comm c s u) ∙ ap (λ n. nat_cmp ((c * u) * s) n) (mul_right_comm d s t) ∙ scaled (c * u) (d * t) s some_s

  third : nat_cmp (b * u) (d * s) ≡ nat_cmp ((b * u) * t) ((d * s) * t)
  third = sym (scaled (b * u) (d * s) t some_t)

  cross_trans : nat_cmp (b * t) (c * s) ≡ Less → nat_cmp (c * u) (d * t) ≡ Less → nat_cmp (b * u) (d * s) ≡ Less
  cross_trans e k = third ∙ nat_cmp_total.trans ((b * u) * t) ((c * s) * u) ((d * s) * t) (first ∙ e) (second ∙ k)

  cross_congr : nat_cmp (b * t) (c * s) ≡ Equal → nat_cmp (b * u) (d * s) ≡ nat_cmp (c * u) (d * t)
  cross_congr e = third ∙ nat_cmp_total.congr ((b * u) * t) ((c * s) * u) ((d * s) * t) (first ∙ e) ∙ second

-- ---- ratios, where size 0 comes last

positive : (n : ℕ) → eqb n 0 ≡ false → 0 < n
positive n e = grind (arith, nat_tests)

-- two ratios, each of size 0 or not, whose cross products compare so
abbrev placed : Bool → Bool → Ordering → Ordering
placed s t o = cond s (cond t Equal Greater) (cond t Less o)

antisymm_by : (s t : Bool) (o p : Ordering) → o ≡ ordering_reverse p → placed s t o ≡ ordering_reverse (placed t s p)
antisymm_by true true o p e = refl
antisymm_by true false o p e = refl
antisymm_by false true o p e = refl
antisymm_by false false o p e = e

trans_by : (s t u : Bool) (o p q : Ordering) → (s ≡ false → t ≡ false → u ≡ false → o ≡ Less → p ≡ Less → q ≡ Less) → placed s t o ≡ Less → placed t u p ≡ Less → placed s u q ≡ Less
trans_by true true u o p q h e k = cc
trans_by true false u o p q h e k = cc
trans_by false true true o p q h e k = cc
trans_by false true false o p q h e k = cc
trans_by false false true o p q h e k = refl
trans_by false false false o p q h e k = h refl refl refl e k

congr_by : (s t u : Bool) (o p q : Ordering) → (s ≡ false → t ≡ false → u ≡ false → o ≡ Equal → p ≡ q) → placed s t o ≡ Equal → placed s u p ≡ placed t u q
congr_by true true u o p q h e = refl
congr_by true false u o p q h e = cc
congr_by false true u o p q h e = cc
congr_by false false true o p q h e = refl
congr_by false false false o p q h e = h refl refl refl e

abbrev pub ratio_cmp : Rank → Rank → Ordering
ratio_cmp a b = by_ratio a.booked a.size b.booked b.size

pub ratio_total : IsTotalOrder ratio_cmp
ratio_total = record {
  antisymm = λ x y. antisymm_by (eqb x.size 0) (eqb y.size 0) _ _ (nat_cmp_total.antisymm (x.booked * y.size) (y.booked * x.size));
  trans = λ x y z. trans_by (eqb x.size 0) (eqb y.size 0) (eqb z.size 0) _ _ _
      (λ s t u. cross_trans x.booked x.size y.booked y.size z.booked z.size (positive x.size s) (positive y.size t) (positive z.size u));
  congr = λ x y z. congr_by (eqb x.size 0) (eqb y.size 0) (eqb z.size 0) _ _ _
      (λ s t u. cross_congr x.booked x.size y.booked y.size z.booked z.size (positive x.size s) (positive y.size t) (positive z.size u));
}

pub rank_total : (f : Farm) → IsTotalOrder (rank_cmp f)
rank_total f =
    then_total ratio_total
    (then_total (on_total (λ (r : Rank). show_name f r.show) nat_list_cmp_total)
    (then_total (back_total (on_total (λ (r : Rank). r.priority) nat_cmp_total))
    (then_total (on_total (λ (r : Rank). r.job) nat_cmp_total)
    (then_total (on_total (λ (r : Rank). r.layer) nat_cmp_total) (on_total (λ (r : Rank). r.position) nat_cmp_total)))))
