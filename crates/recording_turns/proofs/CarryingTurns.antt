-- One turn after the other.
use Rattle.std.proofs.Common.{◌≡◌, ◌⊎◌, ℕ, zero, suc, ◌<◌, ◌≤◌, Bool, true, false, not, ◌==◌, ◌||◌, if◌then◌else◌, List, [], ◌∷◌, length, refl, sym, ap, ◌∙◌, subst, arith, inl, inr}
use Rattle.std.specs.Prelude.{Option, Some, None}
use Rattle.std.specs.List.{slice_get}
use Rattle.std.proofs.lemmas.Bool.{false≢true, true≢false}
use Rattle.std.proofs.lemmas.Option.{same_Some, slice_get_within}
use mathlib.Core.Logic.{dite}
use native.Mathlib.Decide.{ℕ_discrete}
use Rattle.farm_types.specs.Farm.{Farm}
use Rattle.farm_types.specs.Kept.{IsKeptFarm}
use Rattle.farm_types.specs.Run.{IsLegalStep, run_of}
use Rattle.farm_types.specs.Step.{after}
use Rattle.farm_rows.specs.declared.row_key.RowKey.TheVariants as key
use Rattle.farm_rows.specs.Changes.{is_key}
use Rattle.farm_rows.proofs.MadeRows.{is_key-true}
use Rattle.frame_words.specs.declared.amount_word.AmountWord.{AmountWord}
use Rattle.frame_words.specs.declared.frame_word.FrameWord.{FrameWord}
use Rattle.booking_rule.specs.declared.desk.Desk.{Desk}
use Rattle.booking_rule.specs.declared.view.View.{View}
use Rattle.booking_rule.specs.Kept.{farm_in}
use Rattle.booking_rule.specs.Link.{IsDone, farm_before, farm_of, has, host_cores, host_memory, stand_at}
use Rattle.booking_rule.specs.Recorded.{Stand}
use Rattle.booking_rule.specs.Rule.{word_of}
use Rattle.booking_rule.proofs.Moves.{same_self}
use Rattle.recording_core.specs.Machine.{stand_recorded}
use Rattle.recording_core.specs.Records.{desk_in}
use Rattle.farm_stands.specs.declared.turn.Turn.{Turn}
use Rattle.farm_stands.specs.declared.turn.Turn.TheVariants as turn
use Rattle.farm_stands.specs.declared.words.SlotWords.{SlotWords}
use Rattle.farm_stands.specs.Turns.{AllTurned, Covers, Says, amounts_in, has_turn, is_done, turn_key, words_in}
use Rattle.farm_stands.proofs.Finishing.{finished}
use Rattle.recording_turns.specs.Carrying.{Carried, CarriedIf, Goes, Going, IsOpen, SlotsDone, Turned, bound, desk_done, is_slot, slot_turn, was_in}
use Rattle.recording_turns.specs.Owing.{AreOn, Owes, Resizes}
use Rattle.recording_turns.specs.Resting.{IsAtRest, WentOn}
use Rattle.recording_turns.proofs.CarryingViews.{was_turned, went_self, went_then}

-- ---- what a desk has noted

or_right : (a b : Bool) → b ≡ true → (a || b) ≡ true
or_right true b h = refl
or_right false b h = h

or_left : (a b : Bool) → a ≡ true → (a || b) ≡ true
or_left true b h = refl
or_left false b h = absurd (false≢true h)

or_false : (a b : Bool) → a ≡ false → (a || b) ≡ b
or_false a b h = ap (λ (x : Bool). x || b) h

-- of the turn's own row
done_here : (t : Turn) (d : Desk) → is_done (desk_done (turn_key t) d) (turn_key t) ≡ true
done_here (turn.Slot slot frame amount) d = or_left (slot == slot) (has slot d.slots) (same_self slot)
done_here (turn.Host host size) d = or_left (host == host) (has host d.hosts) (same_self host)
done_here (turn.Sub sub burst) d = or_left (sub == sub) (has sub d.subs) (same_self sub)
done_here (turn.Limit limit most) d = or_left (limit == limit) (has limit d.limits) (same_self limit)

-- .. and of others
done_stays : (t u : Turn) (d : Desk) → is_done d (turn_key u) ≡ true → is_done (desk_done (turn_key t) d) (turn_key u) ≡ true
done_stays (turn.Slot a x y) (turn.Slot b p q) d h = or_right (a == b) (has b d.slots) h
done_stays (turn.Host a x) (turn.Host b p) d h = or_right (a == b) (has b d.hosts) h
done_stays (turn.Sub a x) (turn.Sub b p) d h = or_right (a == b) (has b d.subs) h
done_stays (turn.Limit a x) (turn.Limit b p) d h = or_right (a == b) (has b d.limits) h
done_stays (turn.Slot a x y) (turn.Host b p) d h = h
done_stays (turn.Slot a x y) (turn.Sub b p) d h = h
done_stays (turn.Slot a x y) (turn.Limit b p) d h = h
done_stays (turn.Host a x) (turn.Slot b p q) d h = h
done_stays (turn.Host a x) (turn.Sub b p) d h = h
done_stays (turn.Host a x) (turn.Limit b p) d h = h
done_stays (turn.Sub a x) (turn.Slot b p q) d h = h
done_stays (turn.Sub a x) (turn.Host b p) d h = h
done_stays (turn.Sub a x) (turn.Limit b p) d h = h
done_stays (turn.Limit a x) (turn.Slot b p q) d h = h
done_stays (turn.Limit a x) (turn.Host b p) d h = h
done_stays (turn.Limit a x) (turn.Sub b p) d h = h

undone_stays : (t u : Turn) (d : Desk) → is_key (turn_key t) (turn_key u) ≡ false → is_done d (turn_key u) ≡ false
    → is_done (desk_done (turn_key t) d) (turn_key u) ≡ false
undone_stays (turn.Slot a x y) (turn.Slot b p q) d e h = or_false (a == b) (has b d.slots) e ∙ h
undone_stays (turn.Host a x) (turn.Host b p) d e h = or_false (a == b) (has b d.hosts) e ∙ h
undone_stays (turn.Sub a x) (turn.Sub b p) d e h = or_false (a == b) (has b d.subs) e ∙ h
undone_stays (turn.Limit a x) (turn.Limit b p) d e h = or_false (a == b) (has b d.limits) e ∙ h
undone_stays (turn.Slot a x y) (turn.Host b p) d e h = h
undone_stays (turn.Slot a x y) (turn.Sub b p) d e h = h
undone_stays (turn.Slot a x y) (turn.Limit b p) d e h = h
undone_stays (turn.Host a x) (turn.Slot b p q) d e h = h
undone_stays (turn.Host a x) (turn.Sub b p) d e h = h
undone_stays (turn.Host a x) (turn.Limit b p) d e h = h
undone_stays (turn.Sub a x) (turn.Slot b p q) d e h = h
undone_stays (turn.Sub a x) (turn.Host b p) d e h = h
undone_stays (turn.Sub a x) (turn.Limit b p) d e h = h
undone_stays (turn.Limit a x) (turn.Slot b p q) d e h = h
undone_stays (turn.Limit a x) (turn.Host b p) d e h = h
undone_stays (turn.Limit a x) (turn.Sub b p) d e h = h

-- no turn of a slot notes a host
slot_hosts : (t : Turn) (d : Desk) → is_slot t ≡ true → (desk_done (turn_key t) d).hosts ≡ d.hosts
slot_hosts (turn.Slot slot frame amount) d is = refl
slot_hosts (turn.Host host size) d is = absurd (false≢true is)
slot_hosts (turn.Sub sub burst) d is = absurd (false≢true is)
slot_hosts (turn.Limit limit most) d is = absurd (false≢true is)

-- ---- a turn that is said needs nothing

-- what the farm says of a slot, as its two words
pub said_of : (g : Farm) (slot : ℕ) (w : SlotWords) (frame : FrameWord) (amount : AmountWord) → w ≡ words_in (stand_at g slot)
    → (frame ≡ w.frame) × (amount ≡ w.amount) → Says g (slot_turn slot frame amount)
said_of g slot w frame amount is same = (same.0 ∙ ap (λ (x : SlotWords). x.frame) is, same.1 ∙ ap (λ (x : SlotWords). x.amount) is)

pub words_said : (g : Farm) (slot : ℕ) (w : SlotWords) (frame : FrameWord) (amount : AmountWord) → w ≡ words_in (stand_at g slot)
    → Says g (slot_turn slot frame amount) → (frame ≡ w.frame) × (amount ≡ w.amount)
words_said g slot w frame amount is said = (said.0 ∙ sym (ap (λ (x : SlotWords). x.frame) is), said.1 ∙ sym (ap (λ (x : SlotWords). x.amount) is))

pub carried_self : (v : View) (g : Farm) (t : Turn) → Says g t → Carried v g t v
carried_self v g t said = record { went = went_self v; desk = inl (refl, said) }

carried_if : (b : Bool) (v : View) (g : Farm) (t : Turn) → Says g t → CarriedIf b v g t v
carried_if true v g t said = carried_self v g t said
carried_if false v g t said = refl

pub said_slot : (v : View) (g : Farm) (t : Turn) → Says g t → CarriedIf (is_slot t) v g t v
said_slot v g t said = carried_if (is_slot t) v g t said

pub said_other : (v : View) (g : Farm) (t : Turn) → Says g t → CarriedIf (not (is_slot t)) v g t v
said_other v g t said = carried_if (not (is_slot t)) v g t said

pub carried_turned : (v w : View) (g : Farm) (t : Turn) → Turned v (turn_key t) w → Carried v g t w
carried_turned v w g t turned = record { went = turned.went; desk = inr turned.desk }

-- ---- one turn more

-- what the next turns of one kind are
record IsNext (sel : Turn → Bool) (i : ℕ) (B B' : Turn → ℕ) : Type 0 where
  own : (u : Turn) → sel u ≡ true → B u ≡ i
  next : (u : Turn) → sel u ≡ true → B' u ≡ suc i
  rest : (u : Turn) → sel u ≡ false → B' u ≡ B u

-- the same with the bounds as they are
record GoesTo (v : View) (g : Farm) (ts : List Turn) (resized : Option ℕ) (B : Turn → ℕ) (w : View) : Type 0 where
  going : Going w g resized
  went : WentOn v w
  covers : Covers (was_in w) g ts
  turned : (j : ℕ) (t : Turn) → slice_get ts j ≡ Some t → j < B t → (is_done (desk_in w.desk) (turn_key t) ≡ true) ⊎ Says g t
  left : (j : ℕ) (t : Turn) → slice_get ts j ≡ Some t → B t ≤ j → is_done (desk_in w.desk) (turn_key t) ≡ false

module _ (v : View) (g : Farm) (ts : List Turn) (resized : Option ℕ) (sel : Turn → Bool) (i : ℕ) (B B' : Turn → ℕ) (N : IsNext sel i B B') (w x : View)
    (G : GoesTo v g ts resized B w) (t : Turn) (at : slice_get ts i ≡ Some t) (going : Going x g resized) where
  same_turn : (j : ℕ) (u : Turn) → slice_get ts j ≡ Some u → j ≡ i → u ≡ t
  same_turn j u here is = same_Some u t (sym here ∙ (ap (slice_get ts) is ∙ at))

  -- another turn was passed over
  passed : sel t ≡ false → x ≡ w → GoesTo v g ts resized B' x
  passed other is =
      subst (GoesTo v g ts resized B') (sym is) (record {
        going = G.going;
        went = G.went;
        covers = G.covers;
        turned = λ j u here below. G.turned j u here (still j u here below (sel u) refl);
        left = λ j u here above. G.left j u here (was j u above (sel u) refl);
      })
    where
      still : (j : ℕ) (u : Turn) → slice_get ts j ≡ Some u → j < B' u → (b : Bool) → sel u ≡ b → j < B u
      still j u here below true is =
          let b = N.own u is in
          let n = N.next u is in
          dite (ℕ_discrete j i)
          (λ e. absurd (true≢false (sym is ∙ (ap sel (same_turn j u here e) ∙ other))))
          (λ ne. omega (arith, b, n, below, ne))
      still j u here below false is = let r = N.rest u is in omega (arith, r, below)

      was : (j : ℕ) (u : Turn) → B' u ≤ j → (b : Bool) → sel u ≡ b → B u ≤ j
      was j u above true is = let b = N.own u is in let n = N.next u is in omega (arith, b, n, above)
      was j u above false is = let r = N.rest u is in omega (arith, r, above)

  module _ (own : sel t ≡ true) (carried : Carried w g t x) where
    abbrev D : Desk
    D = desk_in w.desk

    desk_same : ((x.desk ≡ w.desk) × Says g t) ⊎ (x.desk ≡ Some (desk_done (turn_key t) D)) → was_in x ≡ was_in w
    desk_same (inl same) =
        let opening : x.opening ≡ w.opening = ap (λ (y : View). y.opening) carried.went.like in
        λ k. farm_before (opening k) (desk_in (same.0 k)).before
    desk_same (inr done) = was_turned w x (turn_key t) (record { went = carried.went; desk = done })

    -- what was done stays done
    stays : (u : Turn) → is_done D (turn_key u) ≡ true → ((x.desk ≡ w.desk) × Says g t) ⊎ (x.desk ≡ Some (desk_done (turn_key t) D))
        → is_done (desk_in x.desk) (turn_key u) ≡ true
    stays u done (inl same) = ap (λ (o : Option Desk). is_done (desk_in o) (turn_key u)) same.0 ∙ done
    stays u done (inr now) = ap (λ (o : Option Desk). is_done (desk_in o) (turn_key u)) now ∙ done_stays t u D done

    undone : (u : Turn) → is_key (turn_key t) (turn_key u) ≡ false → is_done D (turn_key u) ≡ false
        → ((x.desk ≡ w.desk) × Says g t) ⊎ (x.desk ≡ Some (desk_done (turn_key t) D)) → is_done (desk_in x.desk) (turn_key u) ≡ false
    undone u apart not_done (inl same) = ap (λ (o : Option Desk). is_done (desk_in o) (turn_key u)) same.0 ∙ not_done
    undone u apart not_done (inr now) = ap (λ (o : Option Desk). is_done (desk_in o) (turn_key u)) now ∙ undone_stays t u D apart not_done

    here_done : ((x.desk ≡ w.desk) × Says g t) ⊎ (x.desk ≡ Some (desk_done (turn_key t) D)) → (is_done (desk_in x.desk) (turn_key t) ≡ true) ⊎ Says g t
    here_done (inl same) = inr same.1
    here_done (inr now) = inl (ap (λ (o : Option Desk). is_done (desk_in o) (turn_key t)) now ∙ done_here t D)

    turned_still : (u : Turn) → (is_done D (turn_key u) ≡ true) ⊎ Says g u → (is_done (desk_in x.desk) (turn_key u) ≡ true) ⊎ Says g u
    turned_still u (inl done) = inl (stays u done carried.desk)
    turned_still u (inr said) = inr said

    turned_by : (j : ℕ) (u : Turn) → slice_get ts j ≡ Some u → j < B' u → (b : Bool) → sel u ≡ b → (is_done (desk_in x.desk) (turn_key u) ≡ true) ⊎ Says g u
    turned_by j u here below true is =
        let b = N.own u is in
        let n = N.next u is in
        dite (ℕ_discrete j i)
        (λ e. subst (λ (y : Turn). (is_done (desk_in x.desk) (turn_key y) ≡ true) ⊎ Says g y) (sym (same_turn j u here e)) (here_done carried.desk))
        (λ ne. turned_still u (G.turned j u here (omega (arith, b, n, below, ne))))
    turned_by j u here below false is = let r = N.rest u is in turned_still u (G.turned j u here (omega (arith, r, below)))

    apart_by : (j : ℕ) (u : Turn) → slice_get ts j ≡ Some u → B' u ≤ j → (b : Bool) → is_key (turn_key t) (turn_key u) ≡ b → b ≡ false
    apart_by j u here above false is = refl
    apart_by j u here above true is =
        let place = G.covers.once i j t u at here is in
        let same = same_turn j u here (sym place) in
        let n = N.next u (ap sel same ∙ own) in
        absurd (omega (arith, place, n, above))

    before_by : (j : ℕ) (u : Turn) → B' u ≤ j → (b : Bool) → sel u ≡ b → B u ≤ j
    before_by j u above true is = let b = N.own u is in let n = N.next u is in omega (arith, b, n, above)
    before_by j u above false is = let r = N.rest u is in omega (arith, r, above)

    taken : GoesTo v g ts resized B' x
    taken =
        record {
          going = going;
          went = went_then v w x G.went carried.went;
          covers = subst (λ (f : Farm). Covers f g ts) (sym (desk_same carried.desk)) G.covers;
          turned = λ j u here below. turned_by j u here below (sel u) refl;
          left = λ j u here above.
              undone u (apart_by j u here above (is_key (turn_key t) (turn_key u)) refl) (G.left j u here (before_by j u above (sel u) refl)) carried.desk;
        }

  taken_if : (b : Bool) → sel t ≡ b → CarriedIf b w g t x → GoesTo v g ts resized B' x
  taken_if true own carried = taken own carried
  taken_if false other same = passed other same

-- ---- of slots, and of others

goes_to : (v : View) (g : Farm) (ts : List Turn) (resized : Option ℕ) (n m : ℕ) (w : View) → Goes v g ts resized n m w
    → GoesTo v g ts resized (λ t. bound n m (is_slot t)) w
goes_to v g ts resized n m w G = record { going = G.going; went = G.went; covers = G.covers; turned = G.turned; left = G.left }

goes_from : (v : View) (g : Farm) (ts : List Turn) (resized : Option ℕ) (n m : ℕ) (w : View) → GoesTo v g ts resized (λ t. bound n m (is_slot t)) w
    → Goes v g ts resized n m w
goes_from v g ts resized n m w G = record { going = G.going; went = G.went; covers = G.covers; turned = G.turned; left = G.left }

bound_is : (n m : ℕ) (b c : Bool) → b ≡ c → bound n m b ≡ (if c then n else m)
bound_is n m b c is = ap (bound n m) is

not_is : (b c : Bool) → not b ≡ c → b ≡ not c
not_is true true is = absurd (false≢true is)
not_is true false is = refl
not_is false true is = refl
not_is false false is = absurd (true≢false is)

pub next_slot : (v : View) (g : Farm) (ts : List Turn) (resized : Option ℕ) (i : ℕ) (w x : View) (t : Turn) → Goes v g ts resized i 0 w
    → slice_get ts i ≡ Some t → Going x g resized → CarriedIf (is_slot t) w g t x → Goes v g ts resized (suc i) 0 x
next_slot v g ts resized i w x t G at going carried =
    let N : IsNext is_slot i (λ u. bound i 0 (is_slot u)) (λ u. bound (suc i) 0 (is_slot u)) = record {
      own = λ u is. bound_is i 0 (is_slot u) true is;
      next = λ u is. bound_is (suc i) 0 (is_slot u) true is;
      rest = λ u is. bound_is (suc i) 0 (is_slot u) false is ∙ sym (bound_is i 0 (is_slot u) false is);
    } in
    goes_from v g ts resized (suc i) 0 x
    (taken_if v g ts resized is_slot i (λ u. bound i 0 (is_slot u)) (λ u. bound (suc i) 0 (is_slot u)) N w x
    (goes_to v g ts resized i 0 w G) t at going (is_slot t) refl carried)

pub next_other : (v : View) (g : Farm) (ts : List Turn) (resized : Option ℕ) (n i : ℕ) (w x : View) (t : Turn) → Goes v g ts resized n i w
    → slice_get ts i ≡ Some t → Going x g resized → CarriedIf (not (is_slot t)) w g t x → Goes v g ts resized n (suc i) x
next_other v g ts resized n i w x t G at going carried =
    let sel : Turn → Bool = λ u. not (is_slot u) in
    let N : IsNext sel i (λ u. bound n i (is_slot u)) (λ u. bound n (suc i) (is_slot u)) = record {
      own = λ u is. bound_is n i (is_slot u) false (not_is (is_slot u) true is);
      next = λ u is. bound_is n (suc i) (is_slot u) false (not_is (is_slot u) true is);
      rest = λ u is. bound_is n (suc i) (is_slot u) true (not_is (is_slot u) false is) ∙ sym (bound_is n i (is_slot u) true (not_is (is_slot u) false is));
    } in
    goes_from v g ts resized n (suc i) x
    (taken_if v g ts resized sel i (λ u. bound n i (is_slot u)) (λ u. bound n (suc i) (is_slot u)) N w x
    (goes_to v g ts resized n i w G) t at going (not (is_slot t)) refl carried)

-- no host is noted by turns of slots
pub hosts_stay : (w x : View) (g : Farm) (t : Turn) → (desk_in w.desk).hosts ≡ [] → CarriedIf (is_slot t) w g t x → (desk_in x.desk).hosts ≡ []
hosts_stay w x g t none carried = by (is_slot t) refl carried
  where
    of : ((x.desk ≡ w.desk) × Says g t) ⊎ (x.desk ≡ Some (desk_done (turn_key t) (desk_in w.desk))) → is_slot t ≡ true → (desk_in x.desk).hosts ≡ []
    of (inl same) is = ap (λ (o : Option Desk). (desk_in o).hosts) same.0 ∙ none
    of (inr done) is = ap (λ (o : Option Desk). (desk_in o).hosts) done ∙ (slot_hosts t (desk_in w.desk) is ∙ none)

    by : (b : Bool) → is_slot t ≡ b → CarriedIf b w g t x → (desk_in x.desk).hosts ≡ []
    by true is carried = of carried.desk is
    by false is same = ap (λ (y : View). (desk_in y.desk).hosts) same ∙ none

-- the turn at hand is open
open_at : (v : View) (g : Farm) (ts : List Turn) (resized : Option ℕ) (n m i : ℕ) (w : View) (t : Turn) → Goes v g ts resized n m w → slice_get ts i ≡ Some t
    → bound n m (is_slot t) ≤ i → IsOpen w t
open_at v g ts resized n m i w t G at above = (G.covers.was i t at, G.covers.in_table i t at, G.left i t at above)

pub open_slot : (v : View) (g : Farm) (ts : List Turn) (resized : Option ℕ) (i : ℕ) (w : View) (t : Turn) → Goes v g ts resized i 0 w → slice_get ts i ≡ Some t
    → is_slot t ≡ true → IsOpen w t
open_slot v g ts resized i w t G at is = let b = bound_is i 0 (is_slot t) true is in open_at v g ts resized i 0 i w t G at (omega (arith, b))

pub open_other : (v : View) (g : Farm) (ts : List Turn) (resized : Option ℕ) (n i : ℕ) (w : View) (t : Turn) → Goes v g ts resized n i w
    → slice_get ts i ≡ Some t
    → is_slot t ≡ false → IsOpen w t
open_other v g ts resized n i w t G at is = let b = bound_is n i (is_slot t) false is in open_at v g ts resized n i i w t G at (omega (arith, b))

-- ---- the start

pub begins : (v : View) (g : Farm) (ts : List Turn) (resized : Option ℕ) → Owes v g ts resized → Goes v g ts resized 0 0 v × ((desk_in v.desk).hosts ≡ [])
begins v g ts resized O =
    let here : desk_in v.desk ≡ O.desk = ap desk_in O.first in
    let was : was_in v ≡ run_of (farm_of v.opening) O.log = ap (λ (x : Desk). farm_before v.opening x.before) here ∙ ap (farm_before v.opening) O.before in
    let hosts : (desk_in v.desk).hosts ≡ [] = ap (λ (x : Desk). x.hosts) here ∙ O.hosts in
    let going : Going v g resized = record {
      first = O.first ∙ ap (λ (x : Desk). Some x) (sym here);
      pending = ap (λ (x : Desk). x.pending) here ∙ O.pending;
      log = O.log;
      before = ap (λ (x : Desk). x.before) here ∙ O.before;
      entry = O.entry;
      kept = subst IsKeptFarm (sym was) O.kept;
      legal = subst (λ (f : Farm). IsLegalStep f O.entry) (sym was) O.legal;
      unbooked = O.unbooked;
      leads = ap (λ (f : Farm). after f O.entry) was ∙ O.leads;
      farm = O.farm;
      resizes = subst (λ (f : Farm). Resizes f g resized) (sym was) O.resizes;
      takes = O.takes;
      places = O.places;
      rooms = O.rooms;
      gone = λ host is listed. absurd (false≢true (ap (has host) (sym hosts) ∙ listed));
      claims = O.claims;
      burst = O.burst;
      place = O.place;
    } in
    let none : (t : Turn) → is_done (desk_in v.desk) (turn_key t) ≡ false =
    λ t. ap (λ (x : Desk). is_done x (turn_key t)) here ∙ none_done t O.desk O.slots O.hosts O.subs O.limits in (
      record {
        going = going;
        went = went_self v;
        covers = subst (λ (f : Farm). Covers f g ts) (sym was) O.covers;
        turned = λ j t at below. (let b = none_bound (is_slot t) in absurd (omega (arith, b, below)));
        left = λ j t at above. none t;
      },
      hosts,
    )
  where
    none_bound : (b : Bool) → bound 0 0 b ≡ 0
    none_bound true = refl
    none_bound false = refl

    none_done : (t : Turn) (d : Desk) → d.slots ≡ [] → d.hosts ≡ [] → d.subs ≡ [] → d.limits ≡ [] → is_done d (turn_key t) ≡ false
    none_done (turn.Slot slot frame amount) d a b c e = ap (has slot) a
    none_done (turn.Host host size) d a b c e = ap (has host) b
    none_done (turn.Sub sub burst) d a b c e = ap (has sub) c
    none_done (turn.Limit limit most) d a b c e = ap (has limit) e

-- .. of the others
pub begins_others : (v : View) (g : Farm) (ts : List Turn) (resized : Option ℕ) (n : ℕ) (w : View) → Goes v g ts resized n 0 w → Goes w g ts resized n 0 w
begins_others v g ts resized n w G = record { going = G.going; went = went_self w; covers = G.covers; turned = G.turned; left = G.left }

-- ---- all slots are done

record SlotAt (ts : List Turn) (slot : ℕ) : Type 0 where
  place : ℕ
  item : Turn
  at : slice_get ts place ≡ Some item
  is : turn_key item ≡ key.Frame slot

slot_named : (ts : List Turn) (slot : ℕ) → has_turn ts (key.Frame slot) ≡ true → SlotAt ts slot
slot_named [] slot h = absurd (false≢true h)
slot_named (t ∷ ts) slot h = by (slot_named ts slot) (is_key (turn_key t) (key.Frame slot)) refl h
  where
    by : (has_turn ts (key.Frame slot) ≡ true → SlotAt ts slot) → (b : Bool) → is_key (turn_key t) (key.Frame slot) ≡ b
        → (b || has_turn ts (key.Frame slot)) ≡ true
        → SlotAt (t ∷ ts) slot
    by later true same h = record { place = zero; item = t; at = refl; is = is_key-true (turn_key t) (key.Frame slot) same }
    by later false same h = let s = later h in record { place = suc s.place; item = s.item; at = s.at; is = s.is }

same_both : (s r : Stand) → word_of s ≡ word_of r → amounts_in s ≡ amounts_in r → s ≡ r
same_both s r frames amounts =
    let phase : s.phase ≡ r.phase = ap (λ (x : FrameWord). x.phase) frames in
    let version : s.version ≡ r.version = ap (λ (x : FrameWord). x.version) frames in
    let host : s.host ≡ r.host = ap (λ (x : FrameWord). x.host) frames in
    let cores : s.cores ≡ r.cores = ap (λ (x : FrameWord). x.cores) frames in
    let show : s.show ≡ r.show = ap (λ (x : AmountWord). x.show) amounts in
    let limit : s.limit ≡ r.limit = ap (λ (x : AmountWord). x.limit) amounts in
    let memory : s.memory ≡ r.memory = ap (λ (x : AmountWord). x.memory) amounts in
    λ i. record { phase = phase i; version = version i; host = host i; cores = cores i; show = show i; limit = limit i; memory = memory i }

-- what is said of one slot by both farms is the same
said_twice : (f g : Farm) (slot : ℕ) (t : Turn) → turn_key t ≡ key.Frame slot → Says f t → Says g t → stand_at g slot ≡ stand_at f slot
said_twice f g slot (turn.Host host size) is a b = absurd cc
said_twice f g slot (turn.Sub sub burst) is a b = absurd cc
said_twice f g slot (turn.Limit limit most) is a b = absurd cc
said_twice f g slot (turn.Slot n frame amount) is a b =
    let same : n ≡ slot = cc in
    let frames : word_of (stand_at g n) ≡ word_of (stand_at f n) = sym b.0 ∙ a.0 in
    let amounts : amounts_in (stand_at g n) ≡ amounts_in (stand_at f n) = sym b.1 ∙ a.1 in
    let one : stand_at g n ≡ stand_at f n = same_both (stand_at g n) (stand_at f n) frames amounts in
    subst (λ (k : ℕ). stand_at g k ≡ stand_at f k) same one

pub slots_done : (v : View) (g : Farm) (ts : List Turn) (resized : Option ℕ) (m : ℕ) (w : View) → Goes v g ts resized (length ts) m w → SlotsDone w g
slots_done v g ts resized m w G = record { each = λ slot. by slot (has slot (desk_in w.desk).slots) refl }
  where
    of_turn : (slot : ℕ) (s : SlotAt ts slot) → has slot (desk_in w.desk).slots ≡ false
        → (is_done (desk_in w.desk) (turn_key s.item) ≡ true) ⊎ Says g s.item → stand_at g slot ≡ stand_at (was_in w) slot
    of_turn slot s not_done (inl done) = absurd (true≢false (sym done ∙ (ap (is_done (desk_in w.desk)) s.is ∙ not_done)))
    of_turn slot s not_done (inr said) = said_twice (was_in w) g slot s.item s.is (G.covers.was s.place s.item s.at) said

    is_slot_by : (t : Turn) (slot : ℕ) → turn_key t ≡ key.Frame slot → is_slot t ≡ true
    is_slot_by (turn.Slot n frame amount) slot is = refl
    is_slot_by (turn.Host host size) slot is = absurd cc
    is_slot_by (turn.Sub sub burst) slot is = absurd cc
    is_slot_by (turn.Limit limit most) slot is = absurd cc

    same : (slot : ℕ) → has slot (desk_in w.desk).slots ≡ false → (b : Bool) → has_turn ts (key.Frame slot) ≡ b → stand_at g slot ≡ stand_at (was_in w) slot
    same slot not_done false none = G.covers.slot slot none
    same slot not_done true named =
        let s = slot_named ts slot named in
        let within = slice_get_within ts s.place s.item s.at in
        let b = bound_is (length ts) m (is_slot s.item) true (is_slot_by s.item slot s.is) in
        of_turn slot s not_done (G.turned s.place s.item s.at (omega (arith, within, b)))

    by : (slot : ℕ) (b : Bool) → has slot (desk_in w.desk).slots ≡ b → stand_recorded w slot ≡ stand_at g slot
    by slot true is =
        ap (λ (c : Bool). if c then stand_at (farm_in w) slot else stand_at (was_in w) slot) is ∙ ap (λ (f : Farm). stand_at f slot) G.going.farm
    by slot false is =
        ap (λ (c : Bool). if c then stand_at (farm_in w) slot else stand_at (was_in w) slot) is
        ∙ sym (same slot is (has_turn ts (key.Frame slot)) refl)

-- ---- the end

pub at_rest : (v : View) (g : Farm) (ts : List Turn) (resized : Option ℕ) (w : View) → Goes v g ts resized (length ts) (length ts) w → IsAtRest w
at_rest v g ts resized w G =
    record {
      settled = record { desk = D; first = G.going.first; log = G.going.log; placed = G.going.before; pending = G.going.pending; done = done };
      free = record {
        takes = G.going.takes;
        limits = G.going.places;
        rooms = none_left resized refl;
        claims = G.going.claims;
        burst = G.going.burst;
        place = G.going.place;
      };
    }
  where
    D : Desk
    D = desk_in w.desk

    all : AllTurned g D ts
    all i t at =
        let within = slice_get_within ts i t at in
        let b = both_bound (length ts) (is_slot t) in
        G.turned i t at (omega (arith, within, b))
      where
        both_bound : (n : ℕ) (b : Bool) → bound n n b ≡ n
        both_bound n true = refl
        both_bound n false = refl

    done : IsDone w.opening w.journal D
    done =
        finished w.opening w.journal D ts
        (subst (λ (x : Farm). Covers (was_in w) x ts) (sym G.going.farm) G.covers)
        (subst (λ (x : Farm). AllTurned x D ts) (sym G.going.farm) all)

    -- the host that is resized has its size
    sized : (host : ℕ) → resized ≡ Some host → (b : Bool) → has host D.hosts ≡ b → w.rooms ≡ []
    sized host is true listed = G.going.gone host is listed
    sized host is false not_listed =
        let r = G.going.resizes.only host is in
        let cores : host_cores (was_in w) host ≡ host_cores g host =
        sym (ap (λ (c : Bool). if c then host_cores (farm_in w) host else host_cores (was_in w) host) not_listed)
        ∙ (done.cores host ∙ ap (λ (x : Farm). host_cores x host) G.going.farm) in
        let memory : host_memory (was_in w) host ≡ host_memory g host =
        sym (ap (λ (c : Bool). if c then host_memory (farm_in w) host else host_memory (was_in w) host) not_listed)
        ∙ (done.memory host ∙ ap (λ (x : Farm). host_memory x host) G.going.farm) in
        absurd (r.1 (cores, memory))

    none_left : (o : Option ℕ) → resized ≡ o → w.rooms ≡ []
    none_left None is = subst (λ (o : Option ℕ). AreOn o w.rooms) is G.going.rooms
    none_left (Some host) is = sized host is (has host D.hosts) refl
