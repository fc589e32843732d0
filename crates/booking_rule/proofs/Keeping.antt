-- Steps of a claimant on the words of a table: the recorder's seat, or one with a number.
use Rattle.std.proofs.Common.{◌≡◌, ◌≢◌, ℕ, ◌+◌, ◌-◌, ◌*◌, ◌<◌, ◌≤◌, Bool, true, false, if◌then◌else◌, ◌==◌, List, [], ◌∷◌, ◌++◌, set, sym, refl, ap, ◌∙◌, subst, arith, inl, ◌⊎◌, ⊎_elim}
use Rattle.std.specs.Prelude.{Option, Some, None}
use Rattle.std.proofs.lemmas.List.{append-nil}
use Rattle.std.proofs.lemmas.Bool.Decides.{nat_tests}
use mathlib.Core.Option.{some}
use mathlib.Core.List.{IsPrefix}
use mathlib.Core.Logic.{dite}
use native.Mathlib.Decide.{ℕ_discrete}
use lib.ListN.{get_elem?}
use Rattle.farm_types.specs.declared.entry.Entry.{Entry}
use Rattle.farm_types.specs.Farm.{sub_of}
use Rattle.farm_types.specs.Run.{run_of}
use Rattle.frame_words.specs.declared.frame_word.FrameWord.{FrameWord}
use Rattle.frame_words.specs.declared.amount_word.AmountWord.{AmountWord}
use Rattle.frame_words.specs.Bits.{frame_of, amount_of}
use Rattle.booking_rule.specs.declared.view.View.{View}
use Rattle.booking_rule.specs.declared.desk.Desk.{Desk}
use Rattle.booking_rule.specs.declared.hold.Claim.{Claim}
use Rattle.booking_rule.specs.declared.noted.Noted.{Noted}
use Rattle.booking_rule.specs.Totals.{total}
use Rattle.booking_rule.specs.Words.{Words, frame_place, amount_place, put, with_frame, with_host, with_sub, with_limit}
use Rattle.booking_rule.specs.Recorded.{Recorded}
use Rattle.booking_rule.specs.Views.{take_of, room_of, room_in, same_take, same_limit, same_room, same_claim, holds, without}
use Rattle.booking_rule.specs.Link.{farm_of, recorded_in}
use Rattle.booking_rule.specs.Rule.{NamesHost, cores_in, memory_in, is_pending, on_sub, in_flight, on_limit, limit_in_flight, Rule}
use Rattle.booking_rule.specs.Seats.{seats, IsSeated, Seats}
use Rattle.booking_rule.specs.Amounts.{Written}
use Rattle.booking_rule.specs.Looks.{Look, AllStand, HasLook}
use Rattle.booking_rule.specs.Ranges.{Ranged}
use Rattle.booking_rule.specs.Suits.{SuitsOnce, AllSuit}
use Rattle.booking_rule.specs.Resizing.{IsResized, Resizing}
use Rattle.booking_rule.specs.Kept.{Kept}
use Rattle.booking_rule.proofs.Moves.{same_self, same_not, put_here, put_else, HoldsRooms, HoldsTakes, HoldsLimits, HoldsAlike, rule_view}
use Rattle.booking_rule.proofs.Steps.{takes_room, gives_room, room_same, total_without}
use Rattle.booking_rule.proofs.Resizing.{HasItsRooms, resizing_set, resizing_host, resizing_put}
use Rattle.booking_rule.proofs.Claimants.{grants, overshoots, gives, retracts, grants_limit, overshoots_limit, gives_limit, retracts_limit}
use Rattle.booking_rule.proofs.Weighing.{Uses, Leaves, not_pending, names_put}
use Rattle.booking_rule.proofs.Claiming.{wins, drops}
use Rattle.booking_rule.proofs.Looking.{Tells, all_stand, look_stands, saw_amounts, tells_nothing, tells_frame, tells_amount}
use Rattle.booking_rule.proofs.Says.{bursts_small, mosts_small, none_setup, waits_nowhere}
use Rattle.booking_rule.proofs.Seeing.{suited_set, suited_without, looks_set, finds_used, ranged_step, written_more}
use Rattle.booking_rule.proofs.Seating.{desk_steps, seat_steps}

-- what no step of a claimant changes
pub record Stays (v w : View) : Type 0 where
  pub desk : w.desk ≡ v.desk
  pub number : w.number ≡ v.number
  pub opening : w.opening ≡ v.opening
  pub journal : w.journal ≡ v.journal
  pub told : w.told ≡ v.told
  pub desk_trail : w.desk_trail ≡ v.desk_trail
  pub told_trail : w.told_trail ≡ v.told_trail
  pub receipts : w.receipts ≡ v.receipts

-- a take that isn't granted is of a seat that may have one
pub record Flies (v w : View) : Type 0 where
  pub take : (sub : ℕ) → in_flight sub w.ungranted ≤ 1000000 * seats v
  pub limit : (limit : ℕ) → limit_in_flight limit w.ungranted_limit ≤ seats v

-- what the records say, of all that is kept
abbrev pub records_of : {n : ℕ} {W : Words} {views : List View} → Kept n W views → Recorded
records_of K = recorded_in K.opening K.log K.desk

-- hosts that are resized, of all that is kept, over other words and views
abbrev pub ResizingIn : {n : ℕ} {W : Words} {views : List View} → Kept n W views → Words → List View → Type 0
ResizingIn K X us = Resizing (records_of K).cores (records_of K).memory (run_of (farm_of K.opening) K.log) X.host X.frame us

-- the recorder's seat isn't to take or to give there
abbrev pub IsSettledFor : {n : ℕ} {W : Words} {views : List View} → Kept n W views → View → ℕ → Type 0
IsSettledFor K v host =
    (d : Desk) → v.desk ≡ Some d → IsResized ((records_of K).cores host) ((records_of K).memory host) (run_of (farm_of K.opening) K.log) host → ⊥

-- ---- what an item of a trail found

pub record IsFoundFrame (W : Words) (item : Noted) : Type 0 where
  pub slot : ℕ
  pub within : slot < 65536
  pub place : item.word ≡ frame_place slot
  pub word : frame_of item.found ≡ W.frame slot

pub record IsFoundAmount (W : Words) (item : Noted) : Type 0 where
  pub slot : ℕ
  pub within : slot < 65536
  pub place : item.word ≡ amount_place slot
  pub word : amount_of item.found ≡ W.amount slot

-- the word that stands there, where it is a slot's
abbrev pub IsFound : Words → Noted → Type 0
IsFound W item = IsFoundFrame W item ⊎ (IsFoundAmount W item ⊎ ((item.word ≡ 0) ⊎ (131073 ≤ item.word)))

pub found_tells : (n : ℕ) (W : Words) (views : List View) (K : Kept n W views) (item : Noted) → IsFound W item → Tells (records_of K).slot item
found_tells n W views K item f =
    let R = records_of K in
    ⊎_elim
    (λ (x : IsFoundFrame W item). tells_frame R.slot (is_pending K.desk.pending x.slot) x.slot (W.frame x.slot) (W.amount x.slot) item (K.own.rule.shows x.slot x.within) x.within x.place x.word)
    (λ (y : IsFoundAmount W item ⊎ ((item.word ≡ 0) ⊎ (131073 ≤ item.word))). ⊎_elim
    (λ (x : IsFoundAmount W item). tells_amount R.slot (is_pending K.desk.pending x.slot) x.slot (W.frame x.slot) (W.amount x.slot) item (K.own.rule.shows x.slot x.within) x.within x.place x.word)
    (λ (x : (item.word ≡ 0) ⊎ (131073 ≤ item.word)). tells_nothing R.slot item x)
    y)
    f

pub found_finds : (W : Words) (item : Noted) → IsFound W item → (slot : ℕ) → slot < 65536 → finds_used slot item ≡ true → ((W.frame slot).phase == 0) ≡ false
found_finds W item f slot lt used =
    let here : item.word ≡ slot + 1 = grind (arith, nat_tests) in
    let busy : ((frame_of item.found).phase == 0) ≡ false = grind (arith, nat_tests) in
    ⊎_elim
    (λ (x : IsFoundFrame W item). let same : x.slot ≡ slot = (let p = x.place in omega arith) in
    sym (ap (λ (y : FrameWord). y.phase == 0) (x.word ∙ ap W.frame same)) ∙ busy)
    (λ (y : IsFoundAmount W item ⊎ ((item.word ≡ 0) ⊎ (131073 ≤ item.word))). ⊎_elim
    (λ (x : IsFoundAmount W item). let p = x.place in absurd (omega arith))
    (λ (x : (item.word ≡ 0) ⊎ (131073 ≤ item.word)). ⊎_elim (λ (e : item.word ≡ 0). absurd (omega arith)) (λ (e : 131073 ≤ item.word). absurd (omega arith)) x)
    y)
    f

part_le : (b : Bool) (c : ℕ) → (if b then c else 0) ≤ c
part_le true c = omega arith
part_le false c = omega arith

here_of : (host c : ℕ) → (if host == host then c else 0) ≡ c
here_of host c = ap (λ (b : Bool). if b then c else 0) (same_self host)

-- ---- the steps

module _ (n : ℕ) (W : Words) (views : List View) (id : ℕ) (v w : View) (item : Noted) (K : Kept n W views) (at : get_elem? views id ≡ some v) (seated : IsSeated v) (stays : Stays v w) (own : w.trail ≡ v.trail ++ item ∷ []) (found : IsFound W item)
    (other : (item.did == 14) ≡ false) where
  tells : Tells (records_of K).slot item
  tells = found_tells n W views K item found

  finds : (slot : ℕ) → slot < 65536 → finds_used slot item ≡ true → ((W.frame slot).phase == 0) ≡ false
  finds = found_finds W item found

  desk_kept : (X : Words) (d : Desk) → v.desk ≡ Some d → Flies v w → AllSuit (farm_of K.opening) K.log w.claims → Ranged X.frame X.amount (set views id w) → X.amount ≡ W.amount → NamesHost K.desk.pending K.desk.on X.frame → ResizingIn K X (set views id w) → Rule (records_of K) K.desk.pending X (set views id w)
      → Kept n X (set views id w)
  desk_kept X d is flies suits ranged amount ahead resizing rule =
      let A = K.own in
      let m = A.seats.each id v at in
      let now : v.desk ≡ Some K.desk = is ∙ ap (λ (x : Desk). Some x) (m.first d is).1 in
      record {
        seat = K.seat;
        opening = K.opening;
        desk = K.desk;
        log = K.log;
        trail = K.trail ++ item ∷ [];
        own = record {
          journal = A.journal;
          begins = A.begins;
          legal = A.legal;
          before = A.before;
          alone = A.alone;
          ahead = ahead;
          rule = rule;
          suited = suited_set (farm_of K.opening) K.log views id w A.suited suits;
          looks = looks_set (records_of K).slot views id w A.looks (subst (λ (l : List Noted). AllStand (records_of K).slot l) (sym own) (all_stand (records_of K).slot v.trail item (A.looks.each id v at) tells));
          ranged = ranged;
          written = subst (λ (x : ℕ → AmountWord). Written x (K.trail ++ item ∷ [])) (sym amount) (written_more W.amount K.trail item A.written other);
          resizing = resizing;
          seats = subst (λ (l : List Entry). Seats K.seat K.opening K.desk l (K.trail ++ item ∷ []) (set views id w)) (append-nil K.log)
              (desk_steps K.seat K.opening K.desk K.desk K.log [] K.trail (item ∷ []) views id v w [] A.seats at now (stays.desk ∙ now) refl stays.number stays.opening
              (stays.journal ∙ sym (append-nil v.journal)) stays.told own stays.desk_trail stays.told_trail flies.take flies.limit (stays.receipts ∙ sym (append-nil v.receipts)) (inl refl));
        };
      }

  other_kept : (X : Words) → v.desk ≡ None → Flies v w → AllSuit (farm_of K.opening) K.log w.claims → Ranged X.frame X.amount (set views id w) → X.amount ≡ W.amount → NamesHost K.desk.pending K.desk.on X.frame → ResizingIn K X (set views id w) → Rule (records_of K) K.desk.pending X (set views id w)
      → Kept n X (set views id w)
  other_kept X is flies suits ranged amount ahead resizing rule =
      let A = K.own in
      let m = A.seats.each id v at in
      record {
        seat = K.seat;
        opening = K.opening;
        desk = K.desk;
        log = K.log;
        trail = K.trail;
        own = record {
          journal = A.journal;
          begins = A.begins;
          legal = A.legal;
          before = A.before;
          alone = A.alone;
          ahead = ahead;
          rule = rule;
          suited = suited_set (farm_of K.opening) K.log views id w A.suited suits;
          looks = looks_set (records_of K).slot views id w A.looks (subst (λ (l : List Noted). AllStand (records_of K).slot l) (sym own) (all_stand (records_of K).slot v.trail item (A.looks.each id v at) tells));
          ranged = ranged;
          written = subst (λ (x : ℕ → AmountWord). Written x K.trail) (sym amount) A.written;
          resizing = resizing;
          seats = seat_steps K.seat K.opening K.desk K.log K.trail views id v w A.seats at is (stays.desk ∙ is) stays.number stays.opening
              (subst (λ (l : List Entry). IsPrefix l K.log) (sym stays.journal) m.prefix)
              (subst (λ (l : List Entry). IsPrefix l K.log) (sym stays.told) m.told)
              (subst (λ (l : List Noted). IsPrefix l K.trail) (sym stays.desk_trail) m.desk_trail)
              (subst (λ (l : List Noted). IsPrefix l K.trail) (sym stays.told_trail) m.told_trail)
              stays.receipts flies.take flies.limit (λ none. absurd (seated (is, none)));
        };
      }

  -- a step that keeps the rule keeps all of it
  pub stepped : (X : Words) → Flies v w → AllSuit (farm_of K.opening) K.log w.claims → Ranged X.frame X.amount (set views id w) → X.amount ≡ W.amount → NamesHost K.desk.pending K.desk.on X.frame → ResizingIn K X (set views id w) → Rule (records_of K) K.desk.pending X (set views id w)
      → Kept n X (set views id w)
  stepped X flies suits ranged amount ahead resizing rule = go v.desk refl
    where
      go : (x : Option Desk) → v.desk ≡ x → Kept n X (set views id w)
      go None is = other_kept X is flies suits ranged amount ahead resizing rule
      go (Some d) is = desk_kept X d is flies suits ranged amount ahead resizing rule

  -- .. where no word of a slot and no claim changes
  pub stepped_on : (X : Words) → X.frame ≡ W.frame → X.amount ≡ W.amount → Flies v w → w.claims ≡ v.claims → ResizingIn K X (set views id w)
      → Rule (records_of K) K.desk.pending X (set views id w) → Kept n X (set views id w)
  stepped_on X frame amount flies claims resizing rule =
      stepped X flies (subst (λ (l : List Claim). AllSuit (farm_of K.opening) K.log l) (sym claims) (K.own.suited.each id v at))
      (subst (λ (x : (ℕ → FrameWord) × (ℕ → AmountWord)). Ranged x.0 x.1 (set views id w)) (λ i. (sym frame i, sym amount i))
      (ranged_step W.frame W.amount views W.frame id v w item K.own.ranged at own finds (λ slot. refl) (λ slot. refl)))
      amount (subst (λ (x : ℕ → FrameWord). NamesHost K.desk.pending K.desk.on x) (sym frame) K.own.ahead) resizing rule

  -- .. nor any room
  still_rooms : w.rooms ≡ v.rooms → HasItsRooms v w
  still_rooms rooms none = (sym stays.desk ∙ none, rooms)

  still_resizing : w.rooms ≡ v.rooms → ResizingIn K W (set views id w)
  still_resizing rooms =
      resizing_set (records_of K).cores (records_of K).memory (run_of (farm_of K.opening) K.log) W.host W.frame views id v w K.own.resizing at (still_rooms rooms)

  -- .. where a slot's word changes, which stays free or not, with its cores
  ranged_put : (slot : ℕ) (f : FrameWord) → (f.phase == 0) ≡ ((W.frame slot).phase == 0) → f.cores ≡ (W.frame slot).cores → Ranged (put W.frame slot f) W.amount (set views id w)
  ranged_put slot f phase cores =
      ranged_step W.frame W.amount views (put W.frame slot f) id v w item K.own.ranged at own finds
      (λ j. dite (ℕ_discrete j slot)
      (λ e. let P : ℕ → Type 0 = λ x. ((put W.frame slot f x).phase == 0) ≡ ((W.frame x).phase == 0) in subst P (sym e) (ap (λ (x : FrameWord). x.phase == 0) (put_here W.frame slot f) ∙ phase))
      (λ ne. ap (λ (x : FrameWord). x.phase == 0) (put_else W.frame slot f j ne)))
      (λ j. dite (ℕ_discrete j slot)
      (λ e. let P : ℕ → Type 0 = λ x. (put W.frame slot f x).cores ≡ (W.frame x).cores in subst P (sym e) (ap (λ (x : FrameWord). x.cores) (put_here W.frame slot f) ∙ cores))
      (λ ne. ap (λ (x : FrameWord). x.cores) (put_else W.frame slot f j ne)))

  -- the takes that weren't granted stay
  pub still_flies : w.ungranted ≡ v.ungranted → w.ungranted_limit ≡ v.ungranted_limit → Flies v w
  still_flies take limit =
      let m = K.own.seats.each id v at in
      record {
        take = λ sub. (let f = m.flight sub in let e : in_flight sub w.ungranted ≡ in_flight sub v.ungranted = ap (in_flight sub) take in omega arith);
        limit = λ l. (let f = m.limit_flight l in let e : limit_in_flight l w.ungranted_limit ≡ limit_in_flight l v.ungranted_limit = ap (limit_in_flight l) limit in omega arith);
      }

  -- a seat that acts on a host that is resized isn't the recorder's
  no_desk : (host : ℕ) → IsSettledFor K v host → IsResized ((records_of K).cores host) ((records_of K).memory host) (run_of (farm_of K.opening) K.log) host → v.desk ≡ None
  no_desk host settled is = go v.desk refl
    where
      go : (x : Option Desk) → v.desk ≡ x → v.desk ≡ None
      go None q = q
      go (Some d) q = absurd (settled d q is)

  -- ---- a look

  pub looks_kept : HoldsAlike v w → Kept n W (set views id w)
  looks_kept same = stepped_on W refl refl (still_flies same.takes.ungranted same.limits.ungranted) same.claims (still_resizing same.rooms.rooms) (rule_view (records_of K) K.desk.pending W views id v w K.own.rule at same)

  -- ---- takes of a subscription

  module _ (k c : ℕ) (lt : k < 1024) (rooms : HoldsRooms v w) (limits : HoldsLimits v w) (claims : w.claims ≡ v.claims) where
    pub grants_kept : (W.sub k).booked + c ≤ (W.sub k).burst → w.takes ≡ take_of k c ∷ v.takes → w.ungranted ≡ v.ungranted
        → Kept n (with_sub W k (record { burst = (W.sub k).burst; booked = (W.sub k).booked + c })) (set views id w)
    grants_kept fits takes flies =
        stepped_on _ refl refl (still_flies flies limits.ungranted) claims (still_resizing rooms.rooms) (grants (records_of K) K.desk.pending W views id v w k c K.own.rule at lt rooms limits claims (bursts_small K.opening K.log K.desk K.own.begins.rows K.own.legal K.own.before k) fits takes flies)

    pub overshoots_kept : seats v ≡ 1 → c ≤ 1000000 → v.ungranted ≡ None → w.takes ≡ v.takes → w.ungranted ≡ Some (take_of k c)
        → Kept n (with_sub W k (record { burst = (W.sub k).burst; booked = (W.sub k).booked + c })) (set views id w)
    overshoots_kept one few none takes flies =
        stepped_on _ refl refl
        (record {
          take = λ sub. (let e : in_flight sub w.ungranted ≡ on_sub sub (take_of k c) = ap (in_flight sub) flies in let s = small_take sub in omega arith);
          limit = (still_limit limits.ungranted);
        })
        claims
        (still_resizing rooms.rooms)
        (overshoots (records_of K) K.desk.pending W views id v w k c K.own.rule at lt rooms limits claims none takes flies)
      where
        small_take : (sub : ℕ) → on_sub sub (take_of k c) ≤ c
        small_take sub = go (k == sub)
          where
            go : (b : Bool) → (if b then c else 0) ≤ c
            go true = omega arith
            go false = omega arith

        still_limit : w.ungranted_limit ≡ v.ungranted_limit → (l : ℕ) → limit_in_flight l w.ungranted_limit ≤ seats v
        still_limit same l = let f = (K.own.seats.each id v at).limit_flight l in let e : limit_in_flight l w.ungranted_limit ≡ limit_in_flight l v.ungranted_limit = ap (limit_in_flight l) same in omega arith

    pub gives_kept : holds same_take (take_of k c) v.takes ≡ true → w.takes ≡ without same_take (take_of k c) v.takes → w.ungranted ≡ v.ungranted
        → Kept n (with_sub W k (record { burst = (W.sub k).burst; booked = (W.sub k).booked - c })) (set views id w)
    gives_kept has takes flies =
        stepped_on _ refl refl (still_flies flies limits.ungranted) claims (still_resizing rooms.rooms) (gives (records_of K) K.desk.pending W views id v w k c K.own.rule at lt rooms limits claims has takes flies)

    pub retracts_kept : v.ungranted ≡ Some (take_of k c) → w.takes ≡ v.takes → w.ungranted ≡ None
        → Kept n (with_sub W k (record { burst = (W.sub k).burst; booked = (W.sub k).booked - c })) (set views id w)
    retracts_kept flew takes none =
        stepped_on _ refl refl
        (record {
          take = λ sub. (let e : in_flight sub w.ungranted ≡ 0 = ap (in_flight sub) none in omega arith);
          limit = λ l. (let f = (K.own.seats.each id v at).limit_flight l in let e : limit_in_flight l w.ungranted_limit ≡ limit_in_flight l v.ungranted_limit = ap (limit_in_flight l) limits.ungranted in omega arith);
        })
        claims
        (still_resizing rooms.rooms)
        (retracts (records_of K) K.desk.pending W views id v w k c K.own.rule at lt rooms limits claims flew takes none)

  -- ---- takes of a limit

  module _ (k : ℕ) (lt : k < 255) (rooms : HoldsRooms v w) (takes : HoldsTakes v w) (claims : w.claims ≡ v.claims) where
    pub grants_limit_kept : (W.limit k).running + 1 ≤ (W.limit k).most → w.limits ≡ k ∷ v.limits → w.ungranted_limit ≡ v.ungranted_limit
        → Kept n (with_limit W k (record { most = (W.limit k).most; running = (W.limit k).running + 1 })) (set views id w)
    grants_limit_kept fits limits flies =
        stepped_on _ refl refl (still_flies takes.ungranted flies) claims (still_resizing rooms.rooms) (grants_limit (records_of K) K.desk.pending W views id v w k K.own.rule at lt rooms takes claims (mosts_small K.opening K.log K.desk K.own.begins.rows K.own.legal K.own.before k) fits limits flies)

    pub overshoots_limit_kept : seats v ≡ 1 → v.ungranted_limit ≡ None → w.limits ≡ v.limits → w.ungranted_limit ≡ Some k
        → Kept n (with_limit W k (record { most = (W.limit k).most; running = (W.limit k).running + 1 })) (set views id w)
    overshoots_limit_kept one none limits flies =
        stepped_on _ refl refl
        (record {
          take = λ sub. (let f = (K.own.seats.each id v at).flight sub in let e : in_flight sub w.ungranted ≡ in_flight sub v.ungranted = ap (in_flight sub) takes.ungranted in omega arith);
          limit = λ l. (let e : limit_in_flight l w.ungranted_limit ≡ on_limit l k = ap (limit_in_flight l) flies in let s = small_place l in omega arith);
        })
        claims
        (still_resizing rooms.rooms)
        (overshoots_limit (records_of K) K.desk.pending W views id v w k K.own.rule at lt rooms takes claims none limits flies)
      where
        small_place : (l : ℕ) → on_limit l k ≤ 1
        small_place l = go (k == l)
          where
            go : (b : Bool) → (if b then 1 else 0) ≤ 1
            go true = omega arith
            go false = omega arith

    pub gives_limit_kept : holds same_limit k v.limits ≡ true → w.limits ≡ without same_limit k v.limits → w.ungranted_limit ≡ v.ungranted_limit
        → Kept n (with_limit W k (record { most = (W.limit k).most; running = (W.limit k).running - 1 })) (set views id w)
    gives_limit_kept has limits flies =
        stepped_on _ refl refl (still_flies takes.ungranted flies) claims (still_resizing rooms.rooms) (gives_limit (records_of K) K.desk.pending W views id v w k K.own.rule at lt rooms takes claims has limits flies)

    pub retracts_limit_kept : v.ungranted_limit ≡ Some k → w.limits ≡ v.limits → w.ungranted_limit ≡ None
        → Kept n (with_limit W k (record { most = (W.limit k).most; running = (W.limit k).running - 1 })) (set views id w)
    retracts_limit_kept flew limits none =
        stepped_on _ refl refl
        (record {
          take = λ sub. (let f = (K.own.seats.each id v at).flight sub in let e : in_flight sub w.ungranted ≡ in_flight sub v.ungranted = ap (in_flight sub) takes.ungranted in omega arith);
          limit = λ l. (let e : limit_in_flight l w.ungranted_limit ≡ 0 = ap (limit_in_flight l) none in omega arith);
        })
        claims
        (still_resizing rooms.rooms)
        (retracts_limit (records_of K) K.desk.pending W views id v w k K.own.rule at lt rooms takes claims flew limits none)

  -- ---- room of a host

  module _ (host c m : ℕ) (lt : host < 4096) (takes : HoldsTakes v w) (limits : HoldsLimits v w) (claims : w.claims ≡ v.claims) where
    pub takes_room_kept : c ≤ (W.host host).cores → m ≤ (W.host host).memory → w.rooms ≡ room_of host c m ∷ v.rooms
        → Kept n (with_host W host (record { cores = (W.host host).cores - c; memory = (W.host host).memory - m })) (set views id w)
    takes_room_kept some_cores some_memory rooms =
        stepped_on _ refl refl (still_flies takes.ungranted limits.ungranted) claims
        (resizing_host (records_of K).cores (records_of K).memory (run_of (farm_of K.opening) K.log) W.host W.frame views host _ id v w lt K.own.resizing at
        (λ is e. let ec = e.cores in let em = e.memory in (
          omega arith,
          omega arith,
          λ none. let o = e.others id v at (sym stays.desk ∙ none) in let o0 = o.0 in let o1 = o.1 in let pc = part_le (host == host) c in let pm = part_le (host == host) m in (
            (let t : total (cores_in host) w.rooms ≡ cores_in host (room_of host c m) + total (cores_in host) v.rooms = ap (total (cores_in host)) rooms in omega arith),
            (let t : total (memory_in host) w.rooms ≡ memory_in host (room_of host c m) + total (memory_in host) v.rooms = ap (total (memory_in host)) rooms in omega arith),
          ),
        ))
        (λ j ne none o. let o0 = o.0 in let o1 = o.1 in let apart = same_not host j (λ e. ne (sym e)) in (
          (let t : total (cores_in j) w.rooms ≡ cores_in j (room_of host c m) + total (cores_in j) v.rooms = ap (total (cores_in j)) rooms in
              let z : cores_in j (room_of host c m) ≡ 0 = ap (λ (b : Bool). if b then c else 0) apart in omega arith),
          (let t : total (memory_in j) w.rooms ≡ memory_in j (room_of host c m) + total (memory_in j) v.rooms = ap (total (memory_in j)) rooms in
              let z : memory_in j (room_of host c m) ≡ 0 = ap (λ (b : Bool). if b then m else 0) apart in omega arith),
        ))
        (λ none. sym stays.desk ∙ none))
        (takes_room (records_of K) K.desk.pending W views id v w host c m K.own.rule at lt some_cores some_memory rooms takes limits claims)

    pub gives_room_kept : IsSettledFor K v host → holds same_room (room_of host c m) v.rooms ≡ true → w.rooms ≡ without same_room (room_of host c m) v.rooms
        → Kept n (with_host W host (record { cores = (W.host host).cores + c; memory = (W.host host).memory + m })) (set views id w)
    gives_room_kept settled has rooms =
        stepped_on _ refl refl (still_flies takes.ungranted limits.ungranted) claims
        (resizing_host (records_of K).cores (records_of K).memory (run_of (farm_of K.opening) K.log) W.host W.frame views host _ id v w lt K.own.resizing at
        (λ is e. let ec = e.cores in let em = e.memory in
        let none = no_desk host settled is in
        let o = e.others id v at none in let o0 = o.0 in let o1 = o.1 in
        let hc = here_of host c in let hm = here_of host m in
        let tc = total_without same_room (cores_in host) (room_of host c m) v.rooms (room_same (room_of host c m)) has in
        let tm = total_without same_room (memory_in host) (room_of host c m) v.rooms (room_same (room_of host c m)) has in
        let wc : total (cores_in host) w.rooms ≡ total (cores_in host) (without same_room (room_of host c m) v.rooms) = ap (total (cores_in host)) rooms in
        let wm : total (memory_in host) w.rooms ≡ total (memory_in host) (without same_room (room_of host c m) v.rooms) = ap (total (memory_in host)) rooms in
        (omega arith, omega arith, λ _. (omega arith, omega arith)))
        (λ j ne _ o. let o0 = o.0 in let o1 = o.1 in
        let tc = total_without same_room (cores_in j) (room_of host c m) v.rooms (room_same (room_of host c m)) has in
        let tm = total_without same_room (memory_in j) (room_of host c m) v.rooms (room_same (room_of host c m)) has in
        let wc : total (cores_in j) w.rooms ≡ total (cores_in j) (without same_room (room_of host c m) v.rooms) = ap (total (cores_in j)) rooms in
        let wm : total (memory_in j) w.rooms ≡ total (memory_in j) (without same_room (room_of host c m) v.rooms) = ap (total (memory_in j)) rooms in
        (omega arith, omega arith))
        (λ none. sym stays.desk ∙ none))
        (gives_room (records_of K) K.desk.pending W views id v w host c m K.own.rule at lt has rooms takes limits claims)

  -- ---- claims

  pub wins_kept : (c : Claim) (version : ℕ) (seen : AmountWord) → c.slot < 65536 → c.version ≡ version + 1 → c.version < 16777216
      → W.frame c.slot ≡ record { phase = 1; version = version; host = 0; cores = c.cores }
      → sub_of (W.amount c.slot).show ((records_of K).alloc c.host) ≡ c.sub
      → HasLook v.trail (record { slot = c.slot; version = version; cores = c.cores; amount = Some seen }) → seen.limit ≡ c.limit → seen.memory ≡ c.memory
      → Uses c v w → w.claims ≡ c ∷ v.claims → SuitsOnce (farm_of K.opening) K.log c → IsSettledFor K v c.host
      → Kept n (with_frame W c.slot (record { phase = 3; version = c.version; host = c.host; cores = c.cores })) (set views id w)
  wins_kept c version seen lt next below was bills look limit memory uses claims suits settled =
      let l : Look = record { slot = c.slot; version = version; cores = c.cores; amount = Some seen } in
      let same = saw_amounts (records_of K).slot (is_pending K.desk.pending c.slot) l seen (W.frame c.slot) (W.amount c.slot) (K.own.rule.shows c.slot lt) (look_stands (records_of K).slot v.trail l (K.own.looks.each id v at) look) refl
      (ap (λ (x : FrameWord). x.phase) was) (ap (λ (x : FrameWord). x.version) was) in
      stepped _ (still_flies uses.ungranted uses.ungranted_limit)
      (subst (λ (l : List Claim). AllSuit (farm_of K.opening) K.log l) (sym claims) (suits, K.own.suited.each id v at))
      (ranged_put c.slot _ (ap (λ (x : FrameWord). x.phase == 0) (sym was)) (ap (λ (x : FrameWord). x.cores) (sym was))) refl
      (names_put K.desk.pending K.desk.on W.frame c.slot _ K.own.ahead (not_pending (records_of K) K.desk.pending W views c.slot K.own.rule lt (λ e. absurd (let q : (W.frame c.slot).phase ≡ 1 = ap (λ (x : FrameWord). x.phase) was in omega arith))))
      (resizing_put (records_of K).cores (records_of K).memory (run_of (farm_of K.opening) K.log) W.host W.frame views c.slot _ id v w K.own.resizing at
      (λ host l is e. (
        λ on. absurd (let here : IsResized ((records_of K).cores c.host) ((records_of K).memory c.host) (run_of (farm_of K.opening) K.log) c.host =
            (let P : ℕ → Type 0 = λ x. IsResized ((records_of K).cores x) ((records_of K).memory x) (run_of (farm_of K.opening) K.log) x in subst P (sym on) is) in
            let none = no_desk c.host settled here in
            let o : total (cores_in c.host) v.rooms ≡ 0 = (let P : ℕ → Type 0 = λ x. total (cores_in x) v.rooms ≡ 0 in subst P (sym on) (e.others id v at none).0) in
            let t = total_without same_room (cores_in c.host) (room_in c) v.rooms (room_same (room_in c)) uses.has_room in
            let hc = here_of c.host c.cores in
            let few = (K.own.ranged.cores c.slot lt (ap (λ (x : FrameWord). x.phase == 0) was)).0 in
            let same : (W.frame c.slot).cores ≡ c.cores = ap (λ (x : FrameWord). x.cores) was in
            omega arith),
        λ none. (let o = e.others id v at (sym stays.desk ∙ none) in let o0 = o.0 in let o1 = o.1 in
            let tc = total_without same_room (cores_in host) (room_in c) v.rooms (room_same (room_in c)) uses.has_room in
            let tm = total_without same_room (memory_in host) (room_in c) v.rooms (room_same (room_in c)) uses.has_room in
            let wc : total (cores_in host) w.rooms ≡ total (cores_in host) (without same_room (room_in c) v.rooms) = ap (total (cores_in host)) uses.rooms in
            let wm : total (memory_in host) w.rooms ≡ total (memory_in host) (without same_room (room_in c) v.rooms) = ap (total (memory_in host)) uses.rooms in
            (omega arith, omega arith)),
      )))
      (wins (records_of K) K.desk.pending W views id v w K.own.rule at c version lt next below was bills (same.1.1.0 ∙ limit) (same.1.1.1 ∙ memory) uses claims)

  pub drops_kept : (c : Claim) → c.slot < 65536 → W.frame c.slot ≡ record { phase = 3; version = c.version; host = c.host; cores = c.cores }
      → holds same_claim c v.claims ≡ true → Leaves c v w → w.claims ≡ without same_claim c v.claims
      → Kept n (with_frame W c.slot (record { phase = 1; version = c.version - 1; host = 0; cores = c.cores })) (set views id w)
  drops_kept c lt was has leaves claims =
      stepped _ (still_flies leaves.ungranted leaves.ungranted_limit)
      (subst (λ (l : List Claim). AllSuit (farm_of K.opening) K.log l) (sym claims) (suited_without (farm_of K.opening) K.log c v.claims (K.own.suited.each id v at)))
      (ranged_put c.slot _ (ap (λ (x : FrameWord). x.phase == 0) (sym was)) (ap (λ (x : FrameWord). x.cores) (sym was))) refl
      (names_put K.desk.pending K.desk.on W.frame c.slot _ K.own.ahead (not_pending (records_of K) K.desk.pending W views c.slot K.own.rule lt (λ e. absurd (let q : (W.frame c.slot).phase ≡ 3 = ap (λ (x : FrameWord). x.phase) was in omega arith))))
      (resizing_put (records_of K).cores (records_of K).memory (run_of (farm_of K.opening) K.log) W.host W.frame views c.slot _ id v w K.own.resizing at
      (λ host l is e. (
        λ _ three. absurd (omega (arith, three)),
        λ none. (let o = e.others id v at (sym stays.desk ∙ none) in let o0 = o.0 in let o1 = o.1 in
            let away : c.host ≢ host = (λ on. e.unclaimed c.slot lt (ap (λ (x : FrameWord). x.host) was ∙ on) (ap (λ (x : FrameWord). x.phase) was)) in
            let apart = same_not c.host host away in
            let wc : total (cores_in host) w.rooms ≡ cores_in host (room_in c) + total (cores_in host) v.rooms = ap (total (cores_in host)) leaves.rooms in
            let wm : total (memory_in host) w.rooms ≡ memory_in host (room_in c) + total (memory_in host) v.rooms = ap (total (memory_in host)) leaves.rooms in
            let zc : cores_in host (room_in c) ≡ 0 = ap (λ (b : Bool). if b then c.cores else 0) apart in
            let zm : memory_in host (room_in c) ≡ 0 = ap (λ (b : Bool). if b then c.memory else 0) apart in
            (omega arith, omega arith)),
      )))
      (drops (records_of K) K.desk.pending W views id v w K.own.rule at c lt was
      (none_setup K.opening K.log K.desk K.own.begins.rows K.own.legal K.own.before c.slot) (waits_nowhere K.opening K.log K.desk K.own.begins.rows K.own.legal K.own.before c.slot) has leaves claims)
