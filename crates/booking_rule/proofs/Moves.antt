-- Sums and claims after a step.
use Rattle.std.proofs.Common.{◌≡◌, ◌≢◌, ℕ, ◌+◌, ◌<◌, Bool, true, false, if◌then◌else◌, ◌==◌, List, [], ◌∷◌, ◌++◌, set, ap, ◌∙◌, arith}
use mathlib.Core.Option.{some}
use Rattle.std.specs.Prelude.{Option, None}
use lib.ListN.{get_elem?}
use Rattle.std.proofs.lemmas.Bool.Decides.{nat_tests}
use Rattle.frame_words.specs.declared.frame_word.FrameWord.{FrameWord}
use Rattle.frame_words.specs.declared.amount_word.AmountWord.{AmountWord}
use Rattle.booking_rule.specs.declared.view.View.{View}
use Rattle.booking_rule.specs.declared.hold.Take.{Take}
use Rattle.booking_rule.specs.declared.hold.Room.{Room}
use Rattle.booking_rule.specs.declared.hold.Claim.{Claim}
use Rattle.booking_rule.specs.Totals.{total}
use Rattle.booking_rule.specs.Words.{Words, put, with_frame}
use Rattle.booking_rule.specs.Recorded.{Recorded}
use Rattle.booking_rule.specs.Rule.{Account, weight, sum_of, cores_in, memory_in, on_sub, in_flight, granted_on, cores_of, memory_of, booked_of, granted_of, on_limit, limit_in_flight, granted_in, running_of, counted_of, Claims, Rule, is_at, claims_at, is_like, claims_like, claim_in}
use Rattle.booking_rule.specs.Seats.{HoldsNone}
use Rattle.booking_rule.proofs.Sums.{total_set, total_snoc, sum_to-change}

pub same_self : (n : ℕ) → (n == n) ≡ true
same_self n = grind (arith, nat_tests)

pub same_not : (j k : ℕ) → j ≢ k → (j == k) ≡ false
same_not j k ne = grind (arith, nat_tests)

module _ {A : Type 0} where
  pub put_here : (f : ℕ → A) (k : ℕ) (x : A) → put f k x k ≡ x
  put_here f k x = ap (λ (b : Bool). if b then x else f k) (same_self k)

  pub put_else : (f : ℕ → A) (k : ℕ) (x : A) (j : ℕ) → j ≢ k → put f k x j ≡ f j
  put_else f k x j ne = ap (λ (b : Bool). if b then x else f j) (same_not j k ne)

-- the law of one replaced item: where one slot's words, what is lent of it, and one view change, a sum changes by the difference of the weights
pub sum_moves : (a : Account) (R R' : Recorded) (W W' : Words) (views : List View) (id : ℕ) (v w : View) (slot : ℕ) → get_elem? views id ≡ some v → slot < 65536
    → ((j : ℕ) → j ≢ slot → weight a R' W' j ≡ weight a R W j)
    → sum_of a R' W' (set views id w) + (weight a R W slot + a.held v) ≡ sum_of a R W views + (weight a R' W' slot + a.held w)
sum_moves a R R' W W' views id v w slot at lt same =
    let s = sum_to-change 65536 slot (weight a R W) (weight a R' W') lt (λ j l ne. same j ne) in
    let t = total_set a.held views id v w at in
    omega arith

-- what a slot's two words weigh
abbrev pub weigh_at : Account → Words → ℕ → ℕ
weigh_at a W slot = a.weigh (W.frame slot) (W.amount slot)

-- the same, where one frame word changes
pub frame_moves : (a : Account) (R : Recorded) (W : Words) (f : FrameWord) (views : List View) (id : ℕ) (v w : View) (slot : ℕ) → get_elem? views id ≡ some v → slot < 65536
    → sum_of a R (with_frame W slot f) (set views id w) + (weigh_at a W slot + a.held v) ≡ sum_of a R W views + (a.weigh f (W.amount slot) + a.held w)
frame_moves a R W f views id v w slot at lt =
    let m = sum_moves a R R W (with_frame W slot f) views id v w slot at lt
    (λ j ne. ap (λ (x : FrameWord). a.weigh x (W.amount j) + a.lend (R.roomed j) (R.billed j) (R.counted j)) (put_else W.frame slot f j ne)) in
    let here : weigh_at a (with_frame W slot f) slot ≡ a.weigh f (W.amount slot) = ap (λ (x : FrameWord). a.weigh x (W.amount slot)) (put_here W.frame slot f) in
    omega arith

-- the same, where no word of a slot changes
pub view_moves : (a : Account) (R : Recorded) (W : Words) (views : List View) (id : ℕ) (v w : View) → get_elem? views id ≡ some v
    → sum_of a R W (set views id w) + a.held v ≡ sum_of a R W views + a.held w
view_moves a R W views id v w at = let t = total_set a.held views id v w at in omega arith

-- the same, of a view more
pub more_moves : (a : Account) (R : Recorded) (W : Words) (views : List View) (u : View) → sum_of a R W (views ++ u ∷ []) ≡ sum_of a R W views + a.held u
more_moves a R W views u = let t = total_snoc a.held views u in omega arith

-- claims stay where neither the frame words nor the claims of the views change
pub claims_view : (alloc : ℕ → ℕ) (pending : Option ℕ) (frame : ℕ → FrameWord) (amount : ℕ → AmountWord) (views : List View) (id : ℕ) (v w : View)
    → Claims alloc pending frame amount views → get_elem? views id ≡ some v → w.claims ≡ v.claims → Claims alloc pending frame amount (set views id w)
claims_view alloc pending frame amount views id v w c at same =
    let at_same : (slot version : ℕ) → total (claims_at slot version) (set views id w) ≡ total (claims_at slot version) views = (λ slot version.
    let t = total_set (claims_at slot version) views id v w at in let s : claims_at slot version w ≡ claims_at slot version v = ap (total (is_at slot version)) same in omega arith) in
    let like_same : (d : Claim) → total (claims_like d) (set views id w) ≡ total (claims_like d) views = (λ d.
    let t = total_set (claims_like d) views id v w at in let s : claims_like d w ≡ claims_like d v = ap (total (is_like d)) same in omega arith) in
    record {
      one = λ slot version lt. (let s = at_same slot version in let o = c.one slot version lt in omega arith);
      claimed = λ slot lt is. like_same (claim_in alloc slot (frame slot) (amount slot)) ∙ c.claimed slot lt is;
      not_later = λ slot version lt later. at_same slot version ∙ c.not_later slot version lt later;
    }

-- ---- a view that holds as much as another

-- .. of a host
pub record HoldsRooms (v w : View) : Type 0 where
  pub rooms : w.rooms ≡ v.rooms

-- .. of a subscription
pub record HoldsTakes (v w : View) : Type 0 where
  pub takes : w.takes ≡ v.takes
  pub ungranted : w.ungranted ≡ v.ungranted

-- .. of a limit
pub record HoldsLimits (v w : View) : Type 0 where
  pub limits : w.limits ≡ v.limits
  pub ungranted : w.ungranted_limit ≡ v.ungranted_limit

-- .. of everything
pub record HoldsAlike (v w : View) : Type 0 where
  pub rooms : HoldsRooms v w
  pub takes : HoldsTakes v w
  pub limits : HoldsLimits v w
  pub claims : w.claims ≡ v.claims

pub cores_held : (v w : View) (h : ℕ) → HoldsRooms v w → (cores_of h).held w ≡ (cores_of h).held v
cores_held v w h same = ap (total (cores_in h)) same.rooms

pub memory_held : (v w : View) (h : ℕ) → HoldsRooms v w → (memory_of h).held w ≡ (memory_of h).held v
memory_held v w h same = ap (total (memory_in h)) same.rooms

pub granted_held : (v w : View) (j : ℕ) → HoldsTakes v w → granted_on j w ≡ granted_on j v
granted_held v w j same = ap (total (on_sub j)) same.takes

pub flight_held : (v w : View) (j : ℕ) → HoldsTakes v w → in_flight j w.ungranted ≡ in_flight j v.ungranted
flight_held v w j same = ap (in_flight j) same.ungranted

pub limit_held : (v w : View) (l : ℕ) → HoldsLimits v w → granted_in l w ≡ granted_in l v
limit_held v w l same = ap (total (on_limit l)) same.limits

pub limit_flight_held : (v w : View) (l : ℕ) → HoldsLimits v w → limit_in_flight l w.ungranted_limit ≡ limit_in_flight l v.ungranted_limit
limit_flight_held v w l same = ap (limit_in_flight l) same.ungranted

-- the rule stays where a view is replaced by one that holds as much
pub rule_view : (R : Recorded) (p : Option ℕ) (W : Words) (views : List View) (id : ℕ) (v w : View) → Rule R p W views → get_elem? views id ≡ some v → HoldsAlike v w → Rule R p W (set views id w)
rule_view R p W views id v w K at same = record {
  shows = K.shows;
  pend = K.pend;
  claims = claims_view R.alloc p W.frame W.amount views id v w K.claims at same.claims;
  cores = λ h l. (let m = view_moves (cores_of h) R W views id v w at in let o = K.cores h l in let s = cores_held v w h same.rooms in omega arith);
  memory = λ h l. (let m = view_moves (memory_of h) R W views id v w at in let o = K.memory h l in let s = memory_held v w h same.rooms in omega arith);
  booked = λ j l. (let m = view_moves (booked_of R.alloc j) R W views id v w at in let o = K.booked j l in
      let s = granted_held v w j same.takes in let t = flight_held v w j same.takes in omega arith);
  burst = K.burst;
  within = λ j l. (let m = view_moves (granted_of R.alloc j) R W views id v w at in let o = K.within j l in let s = granted_held v w j same.takes in omega arith);
  running = λ j l. (let m = view_moves (running_of j) R W views id v w at in let o = K.running j l in
      let s = limit_held v w j same.limits in let t = limit_flight_held v w j same.limits in omega arith);
  most = K.most;
  few = λ j l. (let m = view_moves (counted_of j) R W views id v w at in let o = K.few j l in let s = limit_held v w j same.limits in omega arith);
}

-- ---- a view more, which holds nothing

pub rule_more : (R : Recorded) (p : Option ℕ) (W : Words) (views : List View) (u : View) → Rule R p W views → HoldsNone u → u.ungranted ≡ None → u.ungranted_limit ≡ None
    → Rule R p W (views ++ u ∷ [])
rule_more R p W views u K none flies limit_flies =
    let rooms : (g : Room → ℕ) → total g u.rooms ≡ 0 = λ g. ap (total g) none.rooms in
    let takes : (g : Take → ℕ) → total g u.takes ≡ 0 = λ g. ap (total g) none.takes in
    let limits : (g : ℕ → ℕ) → total g u.limits ≡ 0 = λ g. ap (total g) none.limits in
    let claims : (g : Claim → ℕ) → total g u.claims ≡ 0 = λ g. ap (total g) none.claims in
    let flight : (j : ℕ) → in_flight j u.ungranted ≡ 0 = λ j. ap (in_flight j) flies in
    let limit_flight : (j : ℕ) → limit_in_flight j u.ungranted_limit ≡ 0 = λ j. ap (limit_in_flight j) limit_flies in
    record {
      shows = K.shows;
      pend = K.pend;
      claims = record {
        one = λ slot version lt. (let t = total_snoc (claims_at slot version) views u in let z = claims (is_at slot version) in let o = K.claims.one slot version lt in omega arith);
        claimed = λ slot lt is. (let c = claim_in R.alloc slot (W.frame slot) (W.amount slot) in let t = total_snoc (claims_like c) views u in
            let z = claims (is_like c) in let o = K.claims.claimed slot lt is in omega arith);
        not_later = λ slot version lt later. (let t = total_snoc (claims_at slot version) views u in let z = claims (is_at slot version) in
            let o = K.claims.not_later slot version lt later in omega arith);
      };
      cores = λ h l. (let m = more_moves (cores_of h) R W views u in let z = rooms (cores_in h) in let o = K.cores h l in omega arith);
      memory = λ h l. (let m = more_moves (memory_of h) R W views u in let z = rooms (memory_in h) in let o = K.memory h l in omega arith);
      booked = λ j l. (let m = more_moves (booked_of R.alloc j) R W views u in let z = takes (on_sub j) in let f = flight j in let o = K.booked j l in omega arith);
      burst = K.burst;
      within = λ j l. (let m = more_moves (granted_of R.alloc j) R W views u in let z = takes (on_sub j) in let o = K.within j l in omega arith);
      running = λ j l. (let m = more_moves (running_of j) R W views u in let z = limits (on_limit j) in let f = limit_flight j in let o = K.running j l in omega arith);
      most = K.most;
      few = λ j l. (let m = more_moves (counted_of j) R W views u in let z = limits (on_limit j) in let o = K.few j l in omega arith);
    }
