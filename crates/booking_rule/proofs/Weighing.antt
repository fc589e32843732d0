-- What frame words weigh, and what they show.
use Rattle.std.proofs.Common.{◌≡◌, ◌≢◌, ℕ, ◌+◌, ◌<◌, Bool, true, false, if◌then◌else◌, ◌==◌, ◌&&◌, ◌||◌, List, ◌∷◌, ◌++◌, set, sym, refl, ap, ◌∙◌, subst, arith, inl, ⊎_elim}
use Rattle.std.specs.Prelude.{Option}
use mathlib.Core.Option.{some}
use mathlib.Core.Logic.{dite}
use native.Mathlib.Decide.{ℕ_discrete}
use lib.ListN.{get_elem?}
use Rattle.std.proofs.lemmas.Bool.Decides.{nat_tests}
use Rattle.farm_types.specs.Farm.{sub_of}
use Rattle.frame_words.specs.declared.frame_word.FrameWord.{FrameWord}
use Rattle.frame_words.specs.declared.amount_word.AmountWord.{AmountWord}
use Rattle.booking_rule.specs.declared.view.View.{View}
use Rattle.booking_rule.specs.declared.hold.Claim.{Claim}
use Rattle.booking_rule.specs.declared.hold.Room.{Room}
use Rattle.booking_rule.specs.Totals.{total}
use Rattle.booking_rule.specs.Words.{Words, put, with_frame}
use Rattle.booking_rule.specs.Recorded.{Recorded, Stand}
use Rattle.booking_rule.specs.Views.{take_of, room_of, take_in, room_in, same_take, same_room, holds, without, limit_take, holds_limit, without_limit}
use Rattle.booking_rule.specs.Rule.{NamesHost, is_booked, cores_in, memory_in, on_sub, in_flight, granted_on, cores_of, memory_of, booked_on, booked_of, granted_of, on_limit, limit_in_flight, granted_in, running_on, running_of, counted_of, word_of, IsTaken, ShowsFrame, Shows, RunsAhead, claim_in, is_pending, is_claimed, Claims, Rule}
use Rattle.booking_rule.proofs.Sums.{total_append}
use Rattle.booking_rule.proofs.Moves.{put_here, put_else, frame_moves}
use Rattle.booking_rule.proofs.Steps.{total_without, take_same, room_same, is_limit, limit_weighs, limit_without}

-- ---- what a frame word weighs, with what a view holds

pub record WeighAlike (alloc : ℕ → ℕ) (f g : FrameWord) (a : AmountWord) (v w : View) : Type 0 where
  pub cores : (h : ℕ) → (cores_of h).weigh g a + total (cores_in h) w.rooms ≡ (cores_of h).weigh f a + total (cores_in h) v.rooms
  pub memory : (h : ℕ) → (memory_of h).weigh g a + total (memory_in h) w.rooms ≡ (memory_of h).weigh f a + total (memory_in h) v.rooms
  pub granted : (j : ℕ) → booked_on alloc j g a + granted_on j w ≡ booked_on alloc j f a + granted_on j v
  pub flight : (j : ℕ) → in_flight j w.ungranted ≡ in_flight j v.ungranted
  pub counted : (l : ℕ) → running_on l g a + granted_in l w ≡ running_on l f a + granted_in l v
  pub limit_flight : (l : ℕ) → limit_in_flight l w.ungranted_limit ≡ limit_in_flight l v.ungranted_limit

-- A frame word changes, and what it weighs goes to the view, or comes from there. What the slots show and the claims are given.
pub frame_rule : (R : Recorded) (S : ℕ → Stand) (p q : Option ℕ) (W : Words) (views : List View) (id : ℕ) (v w : View) (slot : ℕ) (f : FrameWord) → Rule R p W views → get_elem? views id ≡ some v → slot < 65536
    → WeighAlike R.alloc (W.frame slot) f (W.amount slot) v w
    → ((j : ℕ) → j < 65536 → Shows (is_pending q j) (S j) (put W.frame slot f j) (W.amount j))
    → ((j : ℕ) → j < 65536 → is_pending q j ≡ true → RunsAhead (S j) (put W.frame slot f j))
    → Claims R.alloc q (put W.frame slot f) W.amount (set views id w)
    → Rule (record R { slot = S }) q (with_frame W slot f) (set views id w)
frame_rule R S p q W views id v w slot f K at lt alike shows pend claims = record {
  shows = shows;
  pend = pend;
  claims = claims;
  cores = λ h l. (let m = frame_moves (cores_of h) R W f views id v w slot at lt in let o = K.cores h l in let a = alike.cores h in omega arith);
  memory = λ h l. (let m = frame_moves (memory_of h) R W f views id v w slot at lt in let o = K.memory h l in let a = alike.memory h in omega arith);
  booked = λ j l. (let m = frame_moves (booked_of R.alloc j) R W f views id v w slot at lt in let o = K.booked j l in let a = alike.granted j in let b = alike.flight j in omega arith);
  burst = K.burst;
  within = λ j l. (let m = frame_moves (granted_of R.alloc j) R W f views id v w slot at lt in let o = K.within j l in let a = alike.granted j in omega arith);
  running = λ j l. (let m = frame_moves (running_of j) R W f views id v w slot at lt in let o = K.running j l in let a = alike.counted j in let b = alike.limit_flight j in omega arith);
  most = K.most;
  few = λ j l. (let m = frame_moves (counted_of j) R W f views id v w slot at lt in let o = K.few j l in let a = alike.counted j in omega arith);
}

-- what the slots show, where one slot's word and record change
pub shows_put : (R : Recorded) (S : ℕ → Stand) (p : Option ℕ) (W : Words) (views : List View) (slot : ℕ) (f : FrameWord) → Rule R p W views → ((j : ℕ) → j ≢ slot → S j ≡ R.slot j)
    → Shows (is_pending p slot) (S slot) f (W.amount slot) → (j : ℕ) → j < 65536 → Shows (is_pending p j) (S j) (put W.frame slot f j) (W.amount j)
shows_put R S p W views slot f K same shows j l = dite (ℕ_discrete j slot)
    (λ e. let P : ℕ → Type 0 = λ x. Shows (is_pending p x) (S x) (put W.frame slot f x) (W.amount x) in
    subst P (sym e) (subst (λ (x : FrameWord). Shows (is_pending p slot) (S slot) x (W.amount slot)) (sym (put_here W.frame slot f)) shows))
    (λ ne. subst (λ (x : Stand). Shows (is_pending p j) x (put W.frame slot f j) (W.amount j)) (sym (same j ne))
    (subst (λ (x : FrameWord). Shows (is_pending p j) (R.slot j) x (W.amount j)) (sym (put_else W.frame slot f j ne)) (K.shows j l)))

-- a slot that doesn't run ahead changes
pub pend_put : (R : Recorded) (S : ℕ → Stand) (p : Option ℕ) (W : Words) (views : List View) (slot : ℕ) (f : FrameWord) → Rule R p W views → ((j : ℕ) → j ≢ slot → S j ≡ R.slot j)
    → is_pending p slot ≡ false → (j : ℕ) → j < 65536 → is_pending p j ≡ true → RunsAhead (S j) (put W.frame slot f j)
pend_put R S p W views slot f K same free j l is = dite (ℕ_discrete j slot)
    (λ e. absurd (clash (sym is ∙ ap (is_pending p) e ∙ free)))
    (λ ne. subst (λ (x : Stand). RunsAhead x (put W.frame slot f j)) (sym (same j ne)) (subst (λ (x : FrameWord). RunsAhead (R.slot j) x) (sym (put_else W.frame slot f j ne)) (K.pend j l is)))
  where
    clash : true ≡ false → ⊥
    clash e = cc

-- a slot whose word isn't RUNNING isn't pending
pub not_pending : (R : Recorded) (p : Option ℕ) (W : Words) (views : List View) (slot : ℕ) → Rule R p W views → slot < 65536 → (W.frame slot).phase ≢ 4 → is_pending p slot ≡ false
not_pending R p W views slot K lt ne = go (is_pending p slot) refl
  where
    go : (b : Bool) → is_pending p slot ≡ b → b ≡ false
    go true e = absurd (ne (K.pend slot lt e).runs)
    go false e = refl

-- ---- what a WAITING word, and a SETUP word, stands for

-- a word that is WAITING stands for a recorded waiting frame
pub stands : (s : Stand) (pending : Bool) (f : FrameWord) → f.phase ≡ 1 → ShowsFrame (s.phase == 1) pending s f → (s.phase ≡ 1) × (s.version ≡ f.version) × (s.cores ≡ f.cores)
stands s pending f waits shows = go (s.phase == 1) refl shows
  where
    exact : f ≡ word_of s → (s.phase ≡ 1) × (s.version ≡ f.version) × (s.cores ≡ f.cores)
    exact e = (ap (λ (x : FrameWord). x.phase) (sym e) ∙ waits, ap (λ (x : FrameWord). x.version) (sym e), ap (λ (x : FrameWord). x.cores) (sym e))

    taken : IsTaken pending s f → (s.phase ≡ 1) × (s.version ≡ f.version) × (s.cores ≡ f.cores)
    taken t = absurd (off pending t.phase)
      where
        off : (b : Bool) → f.phase ≡ (if b then 4 else 3) → ⊥
        off true e = omega arith
        off false e = omega arith

    go : (b : Bool) → (s.phase == 1) ≡ b → ShowsFrame b pending s f → (s.phase ≡ 1) × (s.version ≡ f.version) × (s.cores ≡ f.cores)
    go true e h = ⊎_elim exact taken h
    go false e h = exact h

-- a word that is SETUP is a claim's of a recorded waiting frame, where no frame is recorded as SETUP
pub setup_stands : (s : Stand) (pending : Bool) (f : FrameWord) → f.phase ≡ 3 → s.phase ≢ 3 → ShowsFrame (s.phase == 1) pending s f → (s.phase ≡ 1) × (f.version ≡ s.version + 1) × (s.cores ≡ f.cores)
setup_stands s pending f setup never shows = go (s.phase == 1) refl shows
  where
    exact : f ≡ word_of s → ⊥
    exact e = never (ap (λ (x : FrameWord). x.phase) (sym e) ∙ setup)

    taken : (s.phase == 1) ≡ true → IsTaken pending s f → (s.phase ≡ 1) × (f.version ≡ s.version + 1) × (s.cores ≡ f.cores)
    taken e t = ((grind (arith, nat_tests)), t.version, sym t.cores)

    go : (b : Bool) → (s.phase == 1) ≡ b → ShowsFrame b pending s f → (s.phase ≡ 1) × (f.version ≡ s.version + 1) × (s.cores ≡ f.cores)
    go true e h = ⊎_elim (λ (x : f ≡ word_of s). absurd (exact x)) (taken e) h
    go false e h = absurd (exact h)

-- a recorded word shows its record
pub shows_exact : (b pending : Bool) (s : Stand) → ShowsFrame b pending s (word_of s)
shows_exact true pending s = inl refl
shows_exact false pending s = refl

-- a word that isn't booked is no claim's
pub unclaimed : (pending : Bool) (f : FrameWord) → is_booked f.phase ≡ false → is_claimed pending f ≡ false
unclaimed pending f over = go (f.phase == 3) (f.phase == 4) pending over
  where
    go : (x y b : Bool) → (x || y) ≡ false → (x || (b && y)) ≡ false
    go true y b e = absurd (off e)
      where
        off : true ≡ false → ⊥
        off e = cc
    go false true b e = absurd (off e)
      where
        off : true ≡ false → ⊥
        off e = cc
    go false false true e = refl
    go false false false e = refl

-- what a booked word weighs, as the view's items that it gives
module _ (R : Recorded) (f : FrameWord) (a : AmountWord) (booked : is_booked f.phase ≡ true) where
  pub cores_weighed : (h : ℕ) → (cores_of h).weigh f a ≡ cores_in h (room_of f.host f.cores a.memory)
  cores_weighed h = ap (λ (x : Bool). if x && (f.host == h) then f.cores else 0) booked

  pub memory_weighed : (h : ℕ) → (memory_of h).weigh f a ≡ memory_in h (room_of f.host f.cores a.memory)
  memory_weighed h = ap (λ (x : Bool). if x && (f.host == h) then a.memory else 0) booked

  pub sub_weighed : (j : ℕ) → booked_on R.alloc j f a ≡ on_sub j (take_of (sub_of a.show (R.alloc f.host)) f.cores)
  sub_weighed j = ap (λ (x : Bool). if x && (sub_of a.show (R.alloc f.host) == j) then f.cores else 0) booked

  pub limit_weighed : (l : ℕ) → running_on l f a ≡ is_limit l a.limit
  limit_weighed l = ap (λ (x : Bool). if x && (a.limit == l + 1) then 1 else 0) booked

-- what another word weighs
module _ (R : Recorded) (f : FrameWord) (a : AmountWord) (over : is_booked f.phase ≡ false) where
  pub cores_free : (h : ℕ) → (cores_of h).weigh f a ≡ 0
  cores_free h = ap (λ (x : Bool). if x && (f.host == h) then f.cores else 0) over

  pub memory_free : (h : ℕ) → (memory_of h).weigh f a ≡ 0
  memory_free h = ap (λ (x : Bool). if x && (f.host == h) then a.memory else 0) over

  pub sub_free : (j : ℕ) → booked_on R.alloc j f a ≡ 0
  sub_free j = ap (λ (x : Bool). if x && (sub_of a.show (R.alloc f.host) == j) then f.cores else 0) over

  pub limit_free : (l : ℕ) → running_on l f a ≡ 0
  limit_free l = ap (λ (x : Bool). if x && (a.limit == l + 1) then 1 else 0) over

-- the view's take, limit take and room became the word's
pub record Uses (c : Claim) (v w : View) : Type 0 where
  pub has_take : holds same_take (take_in c) v.takes ≡ true
  pub has_limit : holds_limit c.limit v.limits ≡ true
  pub has_room : holds same_room (room_in c) v.rooms ≡ true
  pub takes : w.takes ≡ without same_take (take_in c) v.takes
  pub limits : w.limits ≡ without_limit c.limit v.limits
  pub rooms : w.rooms ≡ without same_room (room_in c) v.rooms
  pub ungranted : w.ungranted ≡ v.ungranted
  pub ungranted_limit : w.ungranted_limit ≡ v.ungranted_limit

-- .. and the other way
pub record Leaves (c : Claim) (v w : View) : Type 0 where
  pub takes : w.takes ≡ take_in c ∷ v.takes
  pub limits : w.limits ≡ limit_take c.limit ++ v.limits
  pub rooms : w.rooms ≡ room_in c ∷ v.rooms
  pub ungranted : w.ungranted ≡ v.ungranted
  pub ungranted_limit : w.ungranted_limit ≡ v.ungranted_limit

module _ (R : Recorded) (slot : ℕ) (f g : FrameWord) (a : AmountWord) (v w : View) where
  -- a word that isn't booked becomes one that is, with what the view has
  pub uses_alike : is_booked f.phase ≡ false → is_booked g.phase ≡ true → Uses (claim_in R.alloc slot g a) v w → WeighAlike R.alloc f g a v w
  uses_alike over booked u =
      let c = claim_in R.alloc slot g a in
      let rooms : (m : Room → ℕ) → total m w.rooms + m (room_in c) ≡ total m v.rooms = (λ m.
      let x : total m w.rooms ≡ total m (without same_room (room_in c) v.rooms) = ap (total m) u.rooms in
      let y = total_without same_room m (room_in c) v.rooms (room_same (room_in c)) u.has_room in omega arith) in
      record {
        cores = λ h. (let r = rooms (cores_in h) in let x = cores_weighed R g a booked h in let y = cores_free R f a over h in omega arith);
        memory = λ h. (let r = rooms (memory_in h) in let x = memory_weighed R g a booked h in let y = memory_free R f a over h in omega arith);
        granted = λ j. (let t : granted_on j w ≡ total (on_sub j) (without same_take (take_in c) v.takes) = ap (total (on_sub j)) u.takes in
            let r = total_without same_take (on_sub j) (take_in c) v.takes (take_same (take_in c)) u.has_take in let x = sub_weighed R g a booked j in let y = sub_free R f a over j in omega arith);
        flight = λ j. ap (in_flight j) u.ungranted;
        counted = λ l. (let t : granted_in l w ≡ total (on_limit l) (without_limit a.limit v.limits) = ap (total (on_limit l)) u.limits in
            let r = limit_without l a.limit v.limits u.has_limit in let x = limit_weighed R g a booked l in let y = limit_free R f a over l in omega arith);
        limit_flight = λ l. ap (limit_in_flight l) u.ungranted_limit;
      }

  -- a booked word becomes one that isn't, and the view has what it weighed
  pub leaves_alike : is_booked f.phase ≡ true → is_booked g.phase ≡ false → Leaves (claim_in R.alloc slot f a) v w → WeighAlike R.alloc f g a v w
  leaves_alike booked over u =
      let c = claim_in R.alloc slot f a in
      let rooms : (m : Room → ℕ) → total m w.rooms ≡ m (room_in c) + total m v.rooms = λ m. ap (total m) u.rooms in
      record {
        cores = λ h. (let r = rooms (cores_in h) in let x = cores_weighed R f a booked h in let y = cores_free R g a over h in omega arith);
        memory = λ h. (let r = rooms (memory_in h) in let x = memory_weighed R f a booked h in let y = memory_free R g a over h in omega arith);
        granted = λ j. (let t : granted_on j w ≡ on_sub j (take_in c) + granted_on j v = ap (total (on_sub j)) u.takes in
            let x = sub_weighed R f a booked j in let y = sub_free R g a over j in omega arith);
        flight = λ j. ap (in_flight j) u.ungranted;
        counted = λ l. (let t : granted_in l w ≡ total (on_limit l) (limit_take a.limit ++ v.limits) = ap (total (on_limit l)) u.limits in
            let r = total_append (on_limit l) (limit_take a.limit) v.limits in let q = limit_weighs l a.limit in let x = limit_weighed R f a booked l in let y = limit_free R g a over l in omega arith);
        limit_flight = λ l. ap (limit_in_flight l) u.ungranted_limit;
      }

-- a slot's word changes that isn't pending
pub names_put : (p : Option ℕ) (host : ℕ) (F : ℕ → FrameWord) (slot : ℕ) (f : FrameWord) → NamesHost p host F → is_pending p slot ≡ false → NamesHost p host (put F slot f)
names_put p host F slot f names free = record {
  each = λ j lt is. dite (ℕ_discrete j slot)
      (λ e. absurd (clash (sym is ∙ ap (is_pending p) e ∙ free)))
      (λ ne. ap (λ (x : FrameWord). x.host) (put_else F slot f j ne) ∙ names.each j lt is);
}
  where
    clash : true ≡ false → ⊥
    clash e = cc
