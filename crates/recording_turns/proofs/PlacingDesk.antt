-- Steps that place words, as far as the desk and the trail go.
use Rattle.std.proofs.Common.{◌≡◌, ◌≢◌, ℕ, zero, suc, ◌+◌, ◌<◌, ◌≤◌, ◌==◌, ◌||◌, Bool, true, false, List, [], ◌∷◌, ◌++◌, append_assoc, sym, refl, ap, ◌∙◌, subst, arith, inl, inr, ⊎_elim}
use Rattle.std.specs.Prelude.{Option, Some}
use Rattle.std.proofs.lemmas.List.{append-nil}
use mathlib.Core.Logic.{dite}
use native.Mathlib.Decide.{ℕ_discrete}
use Rattle.farm_types.specs.Farm.{Farm}
use Rattle.booking_rule.specs.declared.desk.Desk.{Desk}
use Rattle.booking_rule.specs.declared.hold.Room.{Room}
use Rattle.booking_rule.specs.declared.noted.Noted.{Noted}
use Rattle.booking_rule.specs.declared.view.View.{View}
use Rattle.booking_rule.specs.Recorded.{free_at}
use Rattle.booking_rule.specs.Link.{has, has_limit, stand_at}
use Rattle.booking_rule.specs.Views.{rooms_off, size_set, burst_set, most_set, turned, noted, with_host_done, with_sub_done, with_limit_done, with_done}
use Rattle.booking_rule.proofs.Moves.{same_self, same_not}
use Rattle.recording_turns.specs.Resting.{HoldsNothing}
use Rattle.recording_turns.specs.Placed.{numbers_below, desk_of, IsPlacing, ArePlaced, HasPlaced, Onward}

-- ---- the numbers below one

pub none_below : numbers_below 0 ≡ []
unfolding numbers_below
none_below = refl

pub one_below : (n : ℕ) → n ∷ numbers_below n ≡ numbers_below (n + 1)
unfolding numbers_below
one_below n = let e : suc n ≡ n + 1 = omega arith in ap numbers_below e

or_true : (b c : Bool) → b ≡ true → (b || c) ≡ true
or_true b c e = ap (λ (x : Bool). x || c) e

or_false : (b c : Bool) → b ≡ false → (b || c) ≡ c
or_false b c e = ap (λ (x : Bool). x || c) e

pub has_self : (n : ℕ) (xs : List ℕ) → has n (n ∷ xs) ≡ true
has_self n xs = or_true (n == n) (has n xs) (same_self n)

pub has_more : (n k : ℕ) (xs : List ℕ) → n ≢ k → has k (n ∷ xs) ≡ has k xs
has_more n k xs ne = or_false (n == k) (has k xs) (same_not n k ne)

pub has_below : (n k : ℕ) → k < n → has k (numbers_below n) ≡ true
unfolding numbers_below
has_below zero k lt = absurd (omega (arith, lt))
has_below (suc n) k lt = dite (ℕ_discrete n k)
    (λ e. subst (λ (j : ℕ). has j (n ∷ numbers_below n) ≡ true) e (has_self n (numbers_below n)))
    (λ ne. has_more n k (numbers_below n) ne ∙ has_below n k (omega arith))

pub has_past : (n k : ℕ) → n ≤ k → has k (numbers_below n) ≡ false
unfolding numbers_below
has_past zero k le = refl
has_past (suc n) k le = has_more n k (numbers_below n) (λ e. absurd (omega (arith, le, e))) ∙ has_past n k (omega (arith, le))

pub has_limit_below : (n k : ℕ) → k < n → has_limit (k + 1) (numbers_below n) ≡ true
unfolding numbers_below
has_limit_below zero k lt = absurd (omega (arith, lt))
has_limit_below (suc n) k lt = dite (ℕ_discrete n k)
    (λ e. or_true (k + 1 == n + 1) (has_limit (k + 1) (numbers_below n)) (ap (λ (j : ℕ). k + 1 == j + 1) e ∙ same_self (k + 1)))
    (λ ne. or_false (k + 1 == n + 1) (has_limit (k + 1) (numbers_below n)) (same_not (k + 1) (n + 1) (λ e. ne (omega arith))) ∙ has_limit_below n k (omega arith))

pub has_limit_past : (n k : ℕ) → n ≤ k → has_limit (k + 1) (numbers_below n) ≡ false
unfolding numbers_below
has_limit_past zero k le = refl
has_limit_past (suc n) k le =
    or_false (k + 1 == n + 1) (has_limit (k + 1) (numbers_below n)) (same_not (k + 1) (n + 1) (λ e. absurd (omega (arith, le, e))))
    ∙ has_limit_past n k (omega (arith, le))

-- ---- what stays

pub onward_same : (v : View) → Onward v v
onward_same v = record { like = refl; trail = ([], append-nil v.trail) }

pub onward_then : (u v w : View) → Onward u v → Onward v w → Onward u w
onward_then u v w a b =
    record {
      like = b.like ∙ ap (λ (x : View). record x { desk = w.desk; trail = w.trail }) a.like;
      trail = (a.trail.0 ++ b.trail.0, sym (append_assoc u.trail a.trail.0 b.trail.0) ∙ (ap (λ (l : List Noted). l ++ b.trail.0) a.trail.1 ∙ b.trail.1));
    }

pub free_onward : (v w : View) → Onward v w → HoldsNothing v → HoldsNothing w
free_onward v w o h =
    record {
      takes = ap (λ (x : View). x.takes) o.like ∙ h.takes;
      limits = ap (λ (x : View). x.limits) o.like ∙ h.limits;
      rooms = ap (λ (x : View). x.rooms) o.like ∙ h.rooms;
      claims = ap (λ (x : View). x.claims) o.like ∙ h.claims;
      burst = ap (λ (x : View). x.ungranted) o.like ∙ h.burst;
      place = ap (λ (x : View). x.ungranted_limit) o.like ∙ h.place;
    }

-- a view with another desk and one item more
abbrev stepped : View → Option Desk → Noted → View
stepped v desk item = record v { desk = desk; trail = v.trail ++ item ∷ [] }

stepped_onward : (v : View) (desk : Option Desk) (item : Noted) → Onward v (stepped v desk item)
stepped_onward v desk item = record { like = refl; trail = (item ∷ [], refl) }

-- ---- the steps

module _ (f : Farm) (hosts subs limits : ℕ) (slots : List ℕ) (v w : View) (P : IsPlacing f hosts subs limits slots v) where
  -- the new desk
  abbrev Goes : ℕ → ℕ → ℕ → List ℕ → Type 0
  Goes h s l more = IsPlacing f h s l more w × Onward v w

  placing_at : (h s l : ℕ) (more : List ℕ) (item : Noted) (desk : Option Desk) → w ≡ stepped v desk item
      → desk ≡ Some (desk_of (numbers_below h) (numbers_below s) (numbers_below l) more P.on) → Goes h s l more
  placing_at h s l more item desk is now =
      let o : Onward v w = subst (λ (x : View). Onward v x) (sym is) (stepped_onward v desk item) in (
        record {
          on = P.on;
          desk = ap (λ (x : View). x.desk) is ∙ now;
          opening = ap (λ (x : View). x.opening) is ∙ P.opening;
          journal = ap (λ (x : View). x.journal) is ∙ P.journal;
          free = free_onward v w o P.free;
        },
        o,
      )

  pub host_goes : (item : Noted) → w ≡ size_set v hosts item → Goes (hosts + 1) subs limits slots
  host_goes item is =
      let none : rooms_off hosts v.rooms ≡ v.rooms = ap (rooms_off hosts) P.free.rooms ∙ sym P.free.rooms in
      let desk = with_host_done hosts v.desk in
      placing_at (hosts + 1) subs limits slots item desk
      (is ∙ ap (λ (r : List Room). record v { desk = desk; rooms = r; trail = v.trail ++ item ∷ [] }) none)
      (ap (with_host_done hosts) P.desk
      ∙ ap (λ (l : List ℕ). Some (desk_of l (numbers_below subs) (numbers_below limits) slots P.on)) (one_below hosts))

  pub sub_goes : (item : Noted) → w ≡ burst_set v subs item → Goes hosts (subs + 1) limits slots
  sub_goes item is =
      placing_at hosts (subs + 1) limits slots item (with_sub_done subs v.desk) is
      (ap (with_sub_done subs) P.desk
      ∙ ap (λ (l : List ℕ). Some (desk_of (numbers_below hosts) l (numbers_below limits) slots P.on)) (one_below subs))

  pub limit_goes : (item : Noted) → w ≡ most_set v limits item → Goes hosts subs (limits + 1) slots
  limit_goes item is =
      placing_at hosts subs (limits + 1) slots item (with_limit_done limits v.desk) is
      (ap (with_limit_done limits) P.desk
      ∙ ap (λ (l : List ℕ). Some (desk_of (numbers_below hosts) (numbers_below subs) l slots P.on)) (one_below limits))

  pub slot_goes : (slot : ℕ) (item : Noted) → w ≡ turned v slot item → Goes hosts subs limits (slot ∷ slots)
  slot_goes slot item is = placing_at hosts subs limits (slot ∷ slots) item (with_done slot v.desk) is (ap (with_done slot) P.desk)

  pub amount_goes : (item : Noted) → w ≡ noted v item → Goes hosts subs limits slots
  amount_goes item is = placing_at hosts subs limits slots item v.desk is P.desk

-- ---- slots

-- the next slot was placed, or needs no step
pub next_placed : (f : Farm) (n : ℕ) (slots : List ℕ) → ArePlaced f n slots → ArePlaced f (n + 1) (n ∷ slots)
next_placed f n slots A =
    record {
      done = λ k lt. dite (ℕ_discrete n k)
          (λ e. inl (subst (λ (j : ℕ). has j (n ∷ slots) ≡ true) e (has_self n slots)))
          (λ ne. ⊎_elim
          (λ (h : has k slots ≡ true). inl (has_more n k slots ne ∙ h))
          (λ (s : stand_at f k ≡ free_at 0). inr s)
          (A.done k (omega arith)));
      others = λ k le. has_more n k slots (λ e. absurd (omega (arith, le, e))) ∙ A.others k (omega (arith, le));
    }

pub next_free : (f : Farm) (n : ℕ) (slots : List ℕ) → ArePlaced f n slots → stand_at f n ≡ free_at 0 → ArePlaced f (n + 1) slots
next_free f n slots A free =
    record {
      done = λ k lt. dite (ℕ_discrete n k)
          (λ e. inr (ap (stand_at f) (sym e) ∙ free))
          (λ ne. A.done k (omega arith));
      others = λ k le. A.others k (omega (arith, le));
    }

module _ (f : Farm) (limits n : ℕ) (v w : View) (H : HasPlaced f limits n v) where
  pub turned_goes : (item : Noted) → w ≡ turned v n item → HasPlaced f limits (n + 1) w × Onward v w
  turned_goes item is =
      let g = slot_goes f 4096 1024 limits H.slots v w H.placing n item is in
      (record { slots = n ∷ H.slots; placing = g.0; are = next_placed f n H.slots H.are }, g.1)

  pub noted_goes : (item : Noted) → w ≡ noted v item → HasPlaced f limits n w × Onward v w
  noted_goes item is =
      let g = amount_goes f 4096 1024 limits H.slots v w H.placing item is in
      (record { slots = H.slots; placing = g.0; are = H.are }, g.1)

pub skipped : (f : Farm) (limits n : ℕ) (v : View) → HasPlaced f limits n v → stand_at f n ≡ free_at 0 → HasPlaced f limits (n + 1) v
skipped f limits n v H free = record { slots = H.slots; placing = H.placing; are = next_free f n H.slots H.are free }

-- no slot was placed yet
pub none_placed : (f : Farm) (limits : ℕ) (v : View) → IsPlacing f 4096 1024 limits [] v → HasPlaced f limits 0 v
none_placed f limits v P = record { slots = []; placing = P; are = record { done = λ k lt. absurd (omega (arith, lt)); others = λ k le. refl } }
