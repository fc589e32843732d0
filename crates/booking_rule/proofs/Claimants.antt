-- Takes of subscriptions and of limits: one that fits, one that doesn't, and their ways back.
use Rattle.std.proofs.Common.{◌≡◌, ◌≢◌, ℕ, ◌+◌, ◌-◌, ◌<◌, ◌≤◌, Bool, true, if◌then◌else◌, List, [], ◌∷◌, set, sym, refl, ap, ◌∙◌, subst, arith}
use Rattle.std.specs.Prelude.{Option, Some, None}
use mathlib.Core.Option.{some}
use mathlib.Core.Logic.{dite}
use native.Mathlib.Decide.{ℕ_discrete}
use lib.ListN.{get_elem?}
use Rattle.std.proofs.lemmas.Bool.Decides.{nat_tests}
use Rattle.frame_words.specs.declared.sub_word.SubWord.{SubWord}
use Rattle.frame_words.specs.declared.limit_word.LimitWord.{LimitWord}
use Rattle.booking_rule.specs.declared.view.View.{View}
use Rattle.booking_rule.specs.Totals.{total}
use Rattle.booking_rule.specs.Words.{Words, put, with_sub, with_limit}
use Rattle.booking_rule.specs.Recorded.{Recorded}
use Rattle.booking_rule.specs.Views.{take_of, same_take, same_limit, holds, without}
use Rattle.booking_rule.specs.Rule.{Account, sum_of, on_sub, in_flight, granted_on, cores_of, memory_of, booked_of, granted_of, on_limit, limit_in_flight, granted_in, running_of, counted_of, Rule}
use Rattle.booking_rule.proofs.Moves.{same_self, same_not, put_here, put_else, view_moves, claims_view, HoldsRooms, HoldsTakes, HoldsLimits, cores_held, memory_held, granted_held, flight_held, limit_held, limit_flight_held}
use Rattle.booking_rule.proofs.Steps.{total_without, take_same, limit_same}

-- ---- a count that is an account's sum, by number

-- each of the first `top` counts is the sum of its account
pub record AreSums (top : ℕ) (count : ℕ → ℕ) (account : ℕ → Account) (R : Recorded) (W : Words) (views : List View) : Type 0 where
  pub each : (j : ℕ) → j < top → count j ≡ sum_of (account j) R W views

-- ..  and stays so where one count and what one view holds of it change alike, by any amount
pub sums_move : (top : ℕ) (count count' : ℕ → ℕ) (account : ℕ → Account) (R : Recorded) (W : Words) (views : List View) (id : ℕ) (v w : View) (k : ℕ)
    → AreSums top count account R W views → get_elem? views id ≡ some v → k < top
    → count' k + (account k).held v ≡ count k + (account k).held w
    → ((j : ℕ) → j ≢ k → count' j ≡ count j) → ((j : ℕ) → j ≢ k → (account j).held w ≡ (account j).held v)
    → AreSums top count' account R W (set views id w)
sums_move top count count' account R W views id v w k S at lt here same apart = record {
  each = λ j l. dite (ℕ_discrete j k)
      (λ e. let P : ℕ → Type 0 = λ x. count' x ≡ sum_of (account x) R W (set views id w) in
      subst P (sym e) (let m = view_moves (account k) R W views id v w at in let o = S.each k lt in omega arith))
      (λ ne. let m = view_moves (account j) R W views id v w at in let o = S.each j l in let a = same j ne in let b = apart j ne in omega arith);
}

-- ---- a subscription's word and takes

-- all that isn't a subscription's stays; the word's amount and what the view holds of it change alike
pub sub_moves : (R : Recorded) (p : Option ℕ) (W : Words) (views : List View) (id : ℕ) (v w : View) (k : ℕ) (word : SubWord) → Rule R p W views → get_elem? views id ≡ some v → k < 1024
    → HoldsRooms v w → HoldsLimits v w → w.claims ≡ v.claims → word.burst ≡ (W.sub k).burst
    → word.booked + (granted_on k v + in_flight k v.ungranted) ≡ (W.sub k).booked + (granted_on k w + in_flight k w.ungranted)
    → ((j : ℕ) → j ≢ k → granted_on j w ≡ granted_on j v) → ((j : ℕ) → j ≢ k → in_flight j w.ungranted ≡ in_flight j v.ungranted)
    → sum_of (granted_of R.alloc k) R W views + granted_on k w ≤ 4096000000 + granted_on k v
    → Rule R p (with_sub W k word) (set views id w)
sub_moves R p W views id v w k word K at lt rooms limits claims burst here granted_else flight_else bound =
    let booked' : ℕ → ℕ = (λ j. (put W.sub k word j).booked) in
    let S = sums_move 1024 (λ j. (W.sub j).booked) booked' (booked_of R.alloc) R W views id v w k (record { each = K.booked }) at lt
    (let q : booked' k ≡ word.booked = ap (λ (x : SubWord). x.booked) (put_here W.sub k word) in omega arith)
    (λ j ne. ap (λ (x : SubWord). x.booked) (put_else W.sub k word j ne))
    (λ j ne. let a = granted_else j ne in let b = flight_else j ne in omega arith) in
    record {
      shows = K.shows;
      pend = K.pend;
      claims = claims_view R.alloc p W.frame W.amount views id v w K.claims at claims;
      cores = λ h l. (let m = view_moves (cores_of h) R W views id v w at in let o = K.cores h l in let s = cores_held v w h rooms in omega arith);
      memory = λ h l. (let m = view_moves (memory_of h) R W views id v w at in let o = K.memory h l in let s = memory_held v w h rooms in omega arith);
      booked = S.each;
      burst = λ j l. dite (ℕ_discrete j k)
          (λ e. let P : ℕ → Type 0 = λ x. (put W.sub k word x).burst ≡ R.burst x in subst P (sym e) (ap (λ (x : SubWord). x.burst) (put_here W.sub k word) ∙ burst ∙ K.burst k lt))
          (λ ne. ap (λ (x : SubWord). x.burst) (put_else W.sub k word j ne) ∙ K.burst j l);
      within = λ j l. dite (ℕ_discrete j k)
          (λ e. let P : ℕ → Type 0 = λ x. sum_of (granted_of R.alloc x) R W (set views id w) ≤ 4096000000 in
          subst P (sym e) (let m = view_moves (granted_of R.alloc k) R W views id v w at in omega arith))
          (λ ne. let m = view_moves (granted_of R.alloc j) R W views id v w at in let o = K.within j l in let a = granted_else j ne in omega arith);
      running = λ j l. (let m = view_moves (running_of j) R W views id v w at in let o = K.running j l in
          let s = limit_held v w j limits in let t = limit_flight_held v w j limits in omega arith);
      most = K.most;
      few = λ j l. (let m = view_moves (counted_of j) R W views id v w at in let o = K.few j l in let s = limit_held v w j limits in omega arith);
    }

-- what isn't granted counts in what is booked
pub granted_le : (alloc : ℕ → ℕ) (j : ℕ) (R : Recorded) (W : Words) (views : List View) → sum_of (granted_of alloc j) R W views ≤ sum_of (booked_of alloc j) R W views
granted_le alloc j R W views = let t = go views in omega arith
  where
    go : (views : List View) → total (granted_on j) views ≤ total (λ v. granted_on j v + in_flight j v.ungranted) views
    go [] = omega arith
    go (x ∷ xs) = let r = go xs in omega arith

pub on_here : (k cores : ℕ) → on_sub k (take_of k cores) ≡ cores
on_here k cores = grind (arith, nat_tests)

pub on_else : (k j cores : ℕ) → j ≢ k → on_sub j (take_of k cores) ≡ 0
on_else k j cores ne = grind (arith, nat_tests)

module _ (R : Recorded) (p : Option ℕ) (W : Words) (views : List View) (id : ℕ) (v w : View) (k n : ℕ) (K : Rule R p W views) (at : get_elem? views id ≡ some v) (lt : k < 1024) (rooms : HoldsRooms v w) (limits : HoldsLimits v w) (claims : w.claims ≡ v.claims) where
  -- cores are added, and fit
  pub grants : R.burst k ≤ 2000000000 → (W.sub k).booked + n ≤ (W.sub k).burst → w.takes ≡ take_of k n ∷ v.takes → w.ungranted ≡ v.ungranted
      → Rule R p (with_sub W k (record { burst = (W.sub k).burst; booked = (W.sub k).booked + n })) (set views id w)
  grants small fits takes flies =
      let all : (j : ℕ) → granted_on j w ≡ on_sub j (take_of k n) + granted_on j v = λ j. ap (total (on_sub j)) takes in
      let flight : (j : ℕ) → in_flight j w.ungranted ≡ in_flight j v.ungranted = λ j. ap (in_flight j) flies in
      sub_moves R p W views id v w k _ K at lt rooms limits claims refl
      (let a = all k in let b = on_here k n in let c = flight k in omega arith)
      (λ j ne. let a = all j in let b = on_else k j n ne in omega arith)
      (λ j ne. flight j)
      (let a = all k in let b = on_here k n in let o = K.booked k lt in let u = K.burst k lt in let le = granted_le R.alloc k R W views in omega arith)

  -- cores are added, and don't fit: the take isn't granted
  pub overshoots : v.ungranted ≡ None → w.takes ≡ v.takes → w.ungranted ≡ Some (take_of k n)
      → Rule R p (with_sub W k (record { burst = (W.sub k).burst; booked = (W.sub k).booked + n })) (set views id w)
  overshoots none takes flies =
      let all : (j : ℕ) → granted_on j w ≡ granted_on j v = λ j. ap (total (on_sub j)) takes in
      let before : (j : ℕ) → in_flight j v.ungranted ≡ 0 = λ j. ap (in_flight j) none in
      let after : (j : ℕ) → in_flight j w.ungranted ≡ on_sub j (take_of k n) = λ j. ap (in_flight j) flies in
      sub_moves R p W views id v w k _ K at lt rooms limits claims refl
      (let a = all k in let b = on_here k n in let c = before k in let d = after k in omega arith)
      (λ j ne. all j)
      (λ j ne. let b = on_else k j n ne in let c = before j in let d = after j in omega arith)
      (let a = all k in let o = K.within k lt in omega arith)

  -- a granted take is given back
  pub gives : holds same_take (take_of k n) v.takes ≡ true → w.takes ≡ without same_take (take_of k n) v.takes → w.ungranted ≡ v.ungranted
      → Rule R p (with_sub W k (record { burst = (W.sub k).burst; booked = (W.sub k).booked - n })) (set views id w)
  gives has takes flies =
      let all : (j : ℕ) → granted_on j w + on_sub j (take_of k n) ≡ granted_on j v = (λ j.
      let a : granted_on j w ≡ total (on_sub j) (without same_take (take_of k n) v.takes) = ap (total (on_sub j)) takes in
      let b = total_without same_take (on_sub j) (take_of k n) v.takes (take_same (take_of k n)) has in omega arith) in
      let flight : (j : ℕ) → in_flight j w.ungranted ≡ in_flight j v.ungranted = λ j. ap (in_flight j) flies in
      sub_moves R p W views id v w k _ K at lt rooms limits claims refl
      (let a = all k in let b = on_here k n in let c = flight k in let o = K.booked k lt in let m = view_moves (booked_of R.alloc k) R W views id v w at in omega arith)
      (λ j ne. let a = all j in let b = on_else k j n ne in omega arith)
      (λ j ne. flight j)
      (let a = all k in let o = K.within k lt in omega arith)

  -- one that wasn't granted is taken back
  pub retracts : v.ungranted ≡ Some (take_of k n) → w.takes ≡ v.takes → w.ungranted ≡ None
      → Rule R p (with_sub W k (record { burst = (W.sub k).burst; booked = (W.sub k).booked - n })) (set views id w)
  retracts flew takes none =
      let all : (j : ℕ) → granted_on j w ≡ granted_on j v = λ j. ap (total (on_sub j)) takes in
      let before : (j : ℕ) → in_flight j v.ungranted ≡ on_sub j (take_of k n) = λ j. ap (in_flight j) flew in
      let after : (j : ℕ) → in_flight j w.ungranted ≡ 0 = λ j. ap (in_flight j) none in
      sub_moves R p W views id v w k _ K at lt rooms limits claims refl
      (let a = all k in let b = on_here k n in let c = before k in let d = after k in let o = K.booked k lt in let m = view_moves (booked_of R.alloc k) R W views id v w at in omega arith)
      (λ j ne. all j)
      (λ j ne. let b = on_else k j n ne in let c = before j in let d = after j in omega arith)
      (let a = all k in let o = K.within k lt in omega arith)

-- ---- a limit's word and takes

pub limit_moves : (R : Recorded) (p : Option ℕ) (W : Words) (views : List View) (id : ℕ) (v w : View) (k : ℕ) (word : LimitWord) → Rule R p W views → get_elem? views id ≡ some v → k < 255
    → HoldsRooms v w → HoldsTakes v w → w.claims ≡ v.claims → word.most ≡ (W.limit k).most
    → word.running + (granted_in k v + limit_in_flight k v.ungranted_limit) ≡ (W.limit k).running + (granted_in k w + limit_in_flight k w.ungranted_limit)
    → ((j : ℕ) → j ≢ k → granted_in j w ≡ granted_in j v) → ((j : ℕ) → j ≢ k → limit_in_flight j w.ungranted_limit ≡ limit_in_flight j v.ungranted_limit)
    → sum_of (counted_of k) R W views + granted_in k w ≤ 65536 + granted_in k v
    → Rule R p (with_limit W k word) (set views id w)
limit_moves R p W views id v w k word K at lt rooms takes claims most here granted_else flight_else bound =
    let running' : ℕ → ℕ = (λ j. (put W.limit k word j).running) in
    let S = sums_move 255 (λ j. (W.limit j).running) running' running_of R W views id v w k (record { each = K.running }) at lt
    (let q : running' k ≡ word.running = ap (λ (x : LimitWord). x.running) (put_here W.limit k word) in omega arith)
    (λ j ne. ap (λ (x : LimitWord). x.running) (put_else W.limit k word j ne))
    (λ j ne. let a = granted_else j ne in let b = flight_else j ne in omega arith) in
    record {
      shows = K.shows;
      pend = K.pend;
      claims = claims_view R.alloc p W.frame W.amount views id v w K.claims at claims;
      cores = λ h l. (let m = view_moves (cores_of h) R W views id v w at in let o = K.cores h l in let s = cores_held v w h rooms in omega arith);
      memory = λ h l. (let m = view_moves (memory_of h) R W views id v w at in let o = K.memory h l in let s = memory_held v w h rooms in omega arith);
      booked = λ j l. (let m = view_moves (booked_of R.alloc j) R W views id v w at in let o = K.booked j l in
          let s = granted_held v w j takes in let t = flight_held v w j takes in omega arith);
      burst = K.burst;
      within = λ j l. (let m = view_moves (granted_of R.alloc j) R W views id v w at in let o = K.within j l in let s = granted_held v w j takes in omega arith);
      running = S.each;
      most = λ j l. dite (ℕ_discrete j k)
          (λ e. let P : ℕ → Type 0 = λ x. (put W.limit k word x).most ≡ R.most x in subst P (sym e) (ap (λ (x : LimitWord). x.most) (put_here W.limit k word) ∙ most ∙ K.most k lt))
          (λ ne. ap (λ (x : LimitWord). x.most) (put_else W.limit k word j ne) ∙ K.most j l);
      few = λ j l. dite (ℕ_discrete j k)
          (λ e. let P : ℕ → Type 0 = λ x. sum_of (counted_of x) R W (set views id w) ≤ 65536 in
          subst P (sym e) (let m = view_moves (counted_of k) R W views id v w at in omega arith))
          (λ ne. let m = view_moves (counted_of j) R W views id v w at in let o = K.few j l in let a = granted_else j ne in omega arith);
    }

pub counted_le : (j : ℕ) (R : Recorded) (W : Words) (views : List View) → sum_of (counted_of j) R W views ≤ sum_of (running_of j) R W views
counted_le j R W views = let t = go views in omega arith
  where
    go : (views : List View) → total (granted_in j) views ≤ total (λ v. granted_in j v + limit_in_flight j v.ungranted_limit) views
    go [] = omega arith
    go (x ∷ xs) = let r = go xs in omega arith

limit_here : (k : ℕ) → on_limit k k ≡ 1
limit_here k = ap (λ (b : Bool). if b then 1 else 0) (same_self k)

limit_else : (k j : ℕ) → j ≢ k → on_limit j k ≡ 0
limit_else k j ne = ap (λ (b : Bool). if b then 1 else 0) (same_not k j (λ e. ne (sym e)))

module _ (R : Recorded) (p : Option ℕ) (W : Words) (views : List View) (id : ℕ) (v w : View) (k : ℕ) (K : Rule R p W views) (at : get_elem? views id ≡ some v) (lt : k < 255) (rooms : HoldsRooms v w) (takes : HoldsTakes v w) (claims : w.claims ≡ v.claims) where
  -- a place is taken, and fits
  pub grants_limit : R.most k ≤ 65536 → (W.limit k).running + 1 ≤ (W.limit k).most → w.limits ≡ k ∷ v.limits → w.ungranted_limit ≡ v.ungranted_limit
      → Rule R p (with_limit W k (record { most = (W.limit k).most; running = (W.limit k).running + 1 })) (set views id w)
  grants_limit small fits limits flies =
      let all : (j : ℕ) → granted_in j w ≡ on_limit j k + granted_in j v = λ j. ap (total (on_limit j)) limits in
      let flight : (j : ℕ) → limit_in_flight j w.ungranted_limit ≡ limit_in_flight j v.ungranted_limit = λ j. ap (limit_in_flight j) flies in
      limit_moves R p W views id v w k _ K at lt rooms takes claims refl
      (let a = all k in let b = limit_here k in let c = flight k in omega arith)
      (λ j ne. let a = all j in let b = limit_else k j ne in omega arith)
      (λ j ne. flight j)
      (let a = all k in let b = limit_here k in let o = K.running k lt in let u = K.most k lt in let le = counted_le k R W views in omega arith)

  -- a place is taken, and there is none: the take isn't granted
  pub overshoots_limit : v.ungranted_limit ≡ None → w.limits ≡ v.limits → w.ungranted_limit ≡ Some k
      → Rule R p (with_limit W k (record { most = (W.limit k).most; running = (W.limit k).running + 1 })) (set views id w)
  overshoots_limit none limits flies =
      let all : (j : ℕ) → granted_in j w ≡ granted_in j v = λ j. ap (total (on_limit j)) limits in
      let before : (j : ℕ) → limit_in_flight j v.ungranted_limit ≡ 0 = λ j. ap (limit_in_flight j) none in
      let after : (j : ℕ) → limit_in_flight j w.ungranted_limit ≡ on_limit j k = λ j. ap (limit_in_flight j) flies in
      limit_moves R p W views id v w k _ K at lt rooms takes claims refl
      (let a = all k in let b = limit_here k in let c = before k in let d = after k in omega arith)
      (λ j ne. all j)
      (λ j ne. let b = limit_else k j ne in let c = before j in let d = after j in omega arith)
      (let a = all k in let o = K.few k lt in omega arith)

  -- a granted place is given back
  pub gives_limit : holds same_limit k v.limits ≡ true → w.limits ≡ without same_limit k v.limits → w.ungranted_limit ≡ v.ungranted_limit
      → Rule R p (with_limit W k (record { most = (W.limit k).most; running = (W.limit k).running - 1 })) (set views id w)
  gives_limit has limits flies =
      let all : (j : ℕ) → granted_in j w + on_limit j k ≡ granted_in j v = (λ j.
      let a : granted_in j w ≡ total (on_limit j) (without same_limit k v.limits) = ap (total (on_limit j)) limits in
      let b = total_without same_limit (on_limit j) k v.limits (limit_same k) has in omega arith) in
      let flight : (j : ℕ) → limit_in_flight j w.ungranted_limit ≡ limit_in_flight j v.ungranted_limit = λ j. ap (limit_in_flight j) flies in
      limit_moves R p W views id v w k _ K at lt rooms takes claims refl
      (let a = all k in let b = limit_here k in let c = flight k in let o = K.running k lt in let m = view_moves (running_of k) R W views id v w at in omega arith)
      (λ j ne. let a = all j in let b = limit_else k j ne in omega arith)
      (λ j ne. flight j)
      (let a = all k in let o = K.few k lt in omega arith)

  -- one that wasn't granted is taken back
  pub retracts_limit : v.ungranted_limit ≡ Some k → w.limits ≡ v.limits → w.ungranted_limit ≡ None
      → Rule R p (with_limit W k (record { most = (W.limit k).most; running = (W.limit k).running - 1 })) (set views id w)
  retracts_limit flew limits none =
      let all : (j : ℕ) → granted_in j w ≡ granted_in j v = λ j. ap (total (on_limit j)) limits in
      let before : (j : ℕ) → limit_in_flight j v.ungranted_limit ≡ on_limit j k = λ j. ap (limit_in_flight j) flew in
      let after : (j : ℕ) → limit_in_flight j w.ungranted_limit ≡ 0 = λ j. ap (limit_in_flight j) none in
      limit_moves R p W views id v w k _ K at lt rooms takes claims refl
      (let a = all k in let b = limit_here k in let c = before k in let d = after k in let o = K.running k lt in let m = view_moves (running_of k) R W views id v w at in omega arith)
      (λ j ne. all j)
      (λ j ne. let b = limit_else k j ne in let c = before j in let d = after j in omega arith)
      (let a = all k in let o = K.few k lt in omega arith)
