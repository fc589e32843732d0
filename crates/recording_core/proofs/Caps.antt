-- Bursts and mosts are within the greatest.
use Rattle.std.proofs.Common.{◌≡◌, ℕ, ◌≤◌, ◌||◌, Bool, false, if◌then◌else◌, [], ◌∷◌, slice_index, ap, subst}
use Rattle.std.specs.Prelude.{Some}
use mathlib.Core.Option.{some}
use lib.ListN.{get_elem?}
use Rattle.booking_rule.specs.declared.desk.Desk.{Desk}
use Rattle.booking_rule.specs.declared.view.View.{View}
use Rattle.booking_rule.specs.Words.{words_of}
use Rattle.booking_rule.specs.Link.{farm_before, recorded_in, burst_at, most_at}
use Rattle.booking_rule.specs.Kept.{Holds, KeptAs, farm_in}
use Rattle.booking_rule.proofs.Moves.{same_self}
use Rattle.booking_rule.proofs.Own.{of_first}
use Rattle.booking_rule.proofs.Says.{bursts_small, mosts_small}
use Rattle.booking_core.specs.Machine.{Table}

module _ (s : Table) (id : ℕ) (v : View) (h : Holds s) (at : get_elem? s.views id ≡ some v) where
  own : (d : Desk) → v.desk ≡ Some d → KeptAs (slice_index s.words 0) (words_of s.words) s.views id v.opening d v.journal v.trail
  own d is = of_first (slice_index s.words 0) (words_of s.words) s.views id v d h.1 at is

  pub burst_few : (d : Desk) (sub : ℕ) → v.desk ≡ Some d → burst_at (farm_in v) sub ≤ 2000000000
  burst_few d sub is =
      let A = own d is in
      let late : Desk = record d { subs = sub ∷ [] } in
      let done : (recorded_in v.opening v.journal late).burst sub ≡ burst_at (farm_in v) sub =
      ap (λ (b : Bool). if b || false then burst_at (farm_in v) sub else burst_at (farm_before v.opening d.before) sub) (same_self sub) in
      subst (λ (x : ℕ). x ≤ 2000000000) done (bursts_small v.opening v.journal late A.begins.rows A.legal A.before sub)

  pub most_few : (d : Desk) (limit : ℕ) → v.desk ≡ Some d → most_at (farm_in v) limit ≤ 65536
  most_few d limit is =
      let A = own d is in
      let late : Desk = record d { limits = limit ∷ [] } in
      let done : (recorded_in v.opening v.journal late).most limit ≡ most_at (farm_in v) limit =
      ap (λ (b : Bool). if b || false then most_at (farm_in v) limit else most_at (farm_before v.opening d.before) limit) (same_self limit) in
      subst (λ (x : ℕ). x ≤ 65536) done (mosts_small v.opening v.journal late A.begins.rows A.legal A.before limit)
