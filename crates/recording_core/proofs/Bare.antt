-- While the words are placed for the first time a subscription or a limit that wasn't placed yet counts nothing.
use Rattle.std.proofs.Common.{◌≡◌, ◌≢◌, ℕ, ◌+◌, ◌<◌, Bool, true, false, if◌then◌else◌, ◌==◌, ◌&&◌, List, [], sym, refl, ap, ◌∙◌, subst, arith}
use Rattle.std.specs.Prelude.{Option, Some, None}
use mathlib.Core.Option.{some}
use lib.ListN.{get_elem?}
use Rattle.farm_types.specs.declared.entry.Entry.{Entry}
use Rattle.farm_types.specs.Farm.{empty_farm, sub_of}
use Rattle.frame_words.specs.declared.frame_word.FrameWord.{FrameWord}
use Rattle.booking_rule.specs.declared.desk.Desk.{Desk}
use Rattle.booking_rule.specs.declared.hold.Take.{Take}
use Rattle.booking_rule.specs.declared.view.View.{View}
use Rattle.booking_rule.specs.Totals.{total, sum_to}
use Rattle.booking_rule.specs.Words.{Words}
use Rattle.booking_rule.specs.Recorded.{Recorded, Stand, free_at}
use Rattle.booking_rule.specs.Link.{farm_before, has, has_limit, lent, recorded_in, stand_at, host_alloc}
use Rattle.booking_rule.specs.Rule.{weight, is_booked, booked_of, running_of, billed_on, counted_on, on_sub, in_flight, granted_on, on_limit, limit_in_flight, granted_in, ShowsFrame, is_pending}
use Rattle.booking_rule.specs.Seats.{seats, desk_seats, number_seats}
use Rattle.booking_rule.specs.Kept.{Kept, KeptAs, farm_in}
use Rattle.booking_rule.proofs.Sums.{sum_to-same, sum_to-zero}
use Rattle.booking_rule.proofs.Moves.{same_not}
use Rattle.booking_rule.proofs.Weighing.{sub_free, limit_free}
use Rattle.booking_rule.proofs.Own.{of_first}
use Rattle.booking_rule.proofs.Lending.{lent_placed}
use Rattle.booking_rule.proofs.Sizing.{total_only}

none_stand : (n : ℕ) → stand_at empty_farm n ≡ free_at 0
unfolding stand_at
none_stand n = refl

none_of : {X : Type 0} (x : Option X) → ((y : X) → x ≡ Some y → ⊥) → x ≡ None
none_of None h = refl
none_of (Some y) h = absurd (h y refl)

-- what is lent of a frame isn't billed to another subscription, or counted in another limit
unbilled : (before : Option (List Entry)) (done : Bool) (sub : ℕ) (subs : List ℕ) (alloc : ℕ → ℕ) (on : Bool) (s : Stand) (y : ℕ) → has sub subs ≡ false
    → (on ≡ true → sub_of s.show (alloc s.host) ≡ y) → billed_on alloc sub (lent before done (on && has y subs) s) ≡ 0
unbilled before done sub subs alloc on s y new is = go (is_booked t.phase) refl
  where
    t : Stand
    t = lent before done (on && has y subs) s

    both : (a b : Bool) → (a && b) ≡ true → (a ≡ true) × (b ≡ true)
    both true b e = (refl, e)
    both false b e = absurd (clash e)
      where
        clash : false ≡ true → ⊥
        clash q = cc

    clash : false ≡ true → ⊥
    clash q = cc

    go : (b : Bool) → is_booked (lent before done (on && has y subs) s).phase ≡ b → billed_on alloc sub (lent before done (on && has y subs) s) ≡ 0
    go false q = ap (λ (b : Bool). if b && (sub_of t.show (alloc t.host) == sub) then t.cores else 0) q
    go true q =
        let l = lent_placed before done (on && has y subs) s q in
        let p = both on (has y subs) l.0 in
        let apart : y ≢ sub = (λ e. clash (sym new ∙ (ap (λ (x : ℕ). has x subs) (sym e) ∙ p.1))) in
        let off : (sub_of s.show (alloc s.host) == sub) ≡ false = ap (λ (x : ℕ). x == sub) (is p.0) ∙ same_not y sub apart in
        ap (billed_on alloc sub) l.1 ∙ (ap (λ (b : Bool). if is_booked s.phase && b then s.cores else 0) off ∙ and_off (is_booked s.phase))
      where
        and_off : (b : Bool) → (if b && false then s.cores else 0) ≡ 0
        and_off true = refl
        and_off false = refl

abbrev one_if : Bool → ℕ
one_if b = if b then 1 else 0

uncounted : (before : Option (List Entry)) (done : Bool) (limit : ℕ) (limits : List ℕ) (s : Stand) → has_limit (limit + 1) limits ≡ false
    → counted_on limit (lent before done (has_limit s.limit limits) s) ≡ 0
uncounted before done limit limits s new = go (is_booked (lent before done (has_limit s.limit limits) s).phase) refl
  where
    clash : false ≡ true → ⊥
    clash q = cc

    and_off : (b : Bool) → one_if (b && false) ≡ 0
    and_off true = refl
    and_off false = refl

    go : (b : Bool) → is_booked (lent before done (has_limit s.limit limits) s).phase ≡ b → counted_on limit (lent before done (has_limit s.limit limits) s) ≡ 0
    go false q = ap (λ (b : Bool). one_if (b && ((lent before done (has_limit s.limit limits) s).limit == limit + 1))) q
    go true q =
        let l = lent_placed before done (has_limit s.limit limits) s q in
        let apart : s.limit ≢ limit + 1 = (λ e. clash (sym new ∙ (ap (λ (x : ℕ). has_limit x limits) (sym e) ∙ l.0))) in
        ap (counted_on limit) l.1 ∙ (ap (λ (b : Bool). one_if (is_booked s.phase && b)) (same_not s.limit (limit + 1) apart) ∙ and_off (is_booked s.phase))

-- ---- no other seat holds anything, and no slot's word is booked

module _ (n : ℕ) (W : Words) (views : List View) (id : ℕ) (v : View) (d : Desk) (K : Kept n W views) (at : get_elem? views id ≡ some v) (is : v.desk ≡ Some d) (opening : d.before ≡ None)
    (slots : d.slots ≡ []) where
  abbrev R : Recorded
  R = recorded_in v.opening v.journal d

  own : KeptAs n W views id v.opening d v.journal v.trail
  own = of_first n W views id v d K at is

  free_word : (slot : ℕ) → slot < 65536 → is_booked (W.frame slot).phase ≡ false
  free_word slot l =
      let undone : has slot d.slots ≡ false = ap (has slot) slots in
      let r : R.slot slot ≡ free_at 0 = (λ i. if undone i then stand_at (farm_in v) slot else stand_at (farm_before v.opening (opening i)) slot) ∙ none_stand slot in
      let phase : (R.slot slot).phase ≡ 0 = ap (λ (x : Stand). x.phase) r in
      let shown = subst (λ (b : Bool). ShowsFrame b (is_pending d.pending slot) (R.slot slot) (W.frame slot)) (ap (λ (k : ℕ). k == 1) phase) (own.rule.shows slot l).frame in
      ap (λ (x : FrameWord). is_booked x.phase) shown ∙ ap is_booked phase

  -- another seat is a note, or what is left of one
  others : (j : ℕ) (x : View) → get_elem? views j ≡ some x → j ≢ id → (x.desk ≡ None) × (x.number ≡ None)
  others j x t ne =
      let f = own.seats.each j x t in
      let few = own.alone opening in
      (none_of x.desk (λ y q. ne ((f.first y q).0)), none_of x.number (λ m q. let g = f.number m q in absurd (omega (arith, g.0, few))))

  pub bare_sub : (sub : ℕ) → has sub d.subs ≡ false → v.takes ≡ [] → v.ungranted ≡ None → sub < 1024 → (W.sub sub).booked ≡ 0
  bare_sub sub new takes flies lt =
      let o = own.rule.booked sub lt in
      let zero : sum_to 65536 (weight (booked_of R.alloc sub) R W) ≡ 0 =
      sum_to-same 65536 (λ _. 0) (weight (booked_of R.alloc sub) R W)
      (λ slot l.
      let a = sub_free R (W.frame slot) (W.amount slot) (free_word slot l) sub in
      let s = stand_at (farm_in v) slot in
      let b = unbilled d.before (has slot d.slots) sub d.subs R.alloc (has s.host d.hosts) s (sub_of s.show (host_alloc (farm_in v) s.host)) new
      (λ on. ap (λ (b : Bool). sub_of s.show (if b then host_alloc (farm_in v) s.host else host_alloc (farm_before v.opening d.before) s.host)) on) in
      omega arith)
      ∙ sum_to-zero 65536 in
      let only = total_only (booked_of R.alloc sub).held views id v at (λ j x t ne.
      let o = others j x t ne in
      let g : granted_on sub x ≡ 0 = ap (λ (l : List Take). total (on_sub sub) l) ((own.seats.each j x t).idle o.0 o.1).takes in
      let f = (own.seats.each j x t).flight sub in
      let none : seats x ≡ 0 = (λ i. desk_seats (o.0 i) + number_seats (o.1 i)) in
      omega arith) in
      let mine : granted_on sub v ≡ 0 = ap (λ (l : List Take). total (on_sub sub) l) takes in
      let fly : in_flight sub v.ungranted ≡ 0 = ap (in_flight sub) flies in
      omega arith

  pub bare_limit : (limit : ℕ) → has_limit (limit + 1) d.limits ≡ false → v.limits ≡ [] → v.ungranted_limit ≡ None → limit < 255 → (W.limit limit).running ≡ 0
  bare_limit limit new limits flies lt =
      let o = own.rule.running limit lt in
      let zero : sum_to 65536 (weight (running_of limit) R W) ≡ 0 =
      sum_to-same 65536 (λ _. 0) (weight (running_of limit) R W)
      (λ slot l.
      let a = limit_free R (W.frame slot) (W.amount slot) (free_word slot l) limit in
      let b = uncounted d.before (has slot d.slots) limit d.limits (stand_at (farm_in v) slot) new in
      omega arith)
      ∙ sum_to-zero 65536 in
      let only = total_only (running_of limit).held views id v at (λ j x t ne.
      let o = others j x t ne in
      let g : granted_in limit x ≡ 0 = ap (λ (l : List ℕ). total (on_limit limit) l) ((own.seats.each j x t).idle o.0 o.1).limits in
      let f = (own.seats.each j x t).limit_flight limit in
      let none : seats x ≡ 0 = (λ i. desk_seats (o.0 i) + number_seats (o.1 i)) in
      omega arith) in
      let mine : granted_in limit v ≡ 0 = ap (λ (l : List ℕ). total (on_limit limit) l) limits in
      let fly : limit_in_flight limit v.ungranted_limit ≡ 0 = ap (limit_in_flight limit) flies in
      omega arith
