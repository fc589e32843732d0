-- The recorder once an entry was recorded, or none was.
use Rattle.std.proofs.Common.{◌≡◌, ℕ, ◌+◌, Bool, true, false, [], ◌∷◌, ◌++◌, length, length-append, Result, Ok, Err, sym, ap, ◌∙◌, subst}
use Rattle.std.specs.Prelude.{is_ok, if◌then◌else◌}
use Rattle.atomic_table.specs.Seated.{TableId}
use Rattle.atomic_table.specs.declared.shared.Seat.{Seat}
use Rattle.farm_types.specs.declared.entry.Entry.{Entry}
use Rattle.farm_types.specs.Farm.{Farm}
use Rattle.farm_types.specs.Run.{IsLegalStep}
use Rattle.booking_rule.specs.declared.view.View.{View}
use Rattle.booking_rule.specs.Kept.{farm_in}
use Rattle.booking_table.specs.Seats.{IsSameSeat, view}
use Rattle.recording_turns.specs.Resting.{IsAtRest}
use Rattle.booking_recorder.specs.declared.refusal.RecordFault.{RecordFault}
use Rattle.booking_recorder.specs.Recording.{IsHome, Recording}
use Rattle.booking_recorder.specs.Views.{Entered, Enters, Stays}
use Rattle.booking_recorder.proofs.Rests.{begins_same, legal_more, legal_same}

-- how many entries there are after one more, or none
abbrev pub count_after : ℕ → Bool → ℕ
count_after count more = if more then count + 1 else count

-- one entry more, or nothing
module _ (t : TableId) (f g : Farm) (s s' : Seat (Unit {0}) View) (count count' split : ℕ) (e : Entry) (more : Bool) (home : IsHome t f s count split)
    (same : IsSameSeat s s') (rests : IsAtRest (view s')) (leads : g ≡ farm_in (view s')) (counts : count' ≡ (if more then count + 1 else count)) where
  pub home_entered : Entered (view s) e (view s') → more ≡ true → IsLegalStep f e → IsHome t g s' count' split
  home_entered entered is step =
      let opening : (view s').opening ≡ (view s).opening = ap (λ (v : View). v.opening) entered.like in
      let journal : (view s').journal ≡ (view s).journal ++ e ∷ [] = ap (λ (v : View). v.journal) entered.like in
      record {
        seat = (same.0 ∙ home.seat.0, same.2);
        rests = rests;
        farm = leads;
        begins = begins_same (view s) (view s') opening home.begins;
        legal = legal_more (view s) (view s') e opening journal home.legal (subst (λ (x : Farm). IsLegalStep x e) home.farm step);
        counted = counts ∙ ap (count_after count) is ∙ ap (λ (n : ℕ). n + 1) home.counted
            ∙ sym (ap length journal ∙ length-append (view s).journal (e ∷ []));
        split_off = home.split_off ∙ sym entered.split;
        few = home.few;
      }

  pub home_stays : Stays (view s) (view s') → more ≡ false → IsHome t g s' count' split
  home_stays stays is =
      let opening : (view s').opening ≡ (view s).opening = ap (λ (v : View). v.opening) stays.like in
      let journal : (view s').journal ≡ (view s).journal = ap (λ (v : View). v.journal) stays.like in
      record {
        seat = (same.0 ∙ home.seat.0, same.2);
        rests = rests;
        farm = leads;
        begins = begins_same (view s) (view s') opening home.begins;
        legal = legal_same (view s) (view s') opening journal home.legal;
        counted = counts ∙ ap (count_after count) is ∙ home.counted ∙ sym (ap length journal);
        split_off = home.split_off ∙ sym stays.split;
        few = home.few;
      }

-- an entry that is legal on the farm of a recorder
pub step_same : {K : Type 0} (r r' : Recording K) (e : Entry) → r ≡ r' → IsLegalStep r'.farm e → IsLegalStep r.farm e
step_same {K = K} r r' e same step = subst (λ (x : Recording K). IsLegalStep x.farm e) (sym same) step

pub recorded_home : (t : TableId) (f g : Farm) (s s' : Seat (Unit {0}) View) (count count' split : ℕ) (e : Entry) (r : Result (Unit {0}) RecordFault)
    (more : Bool)
    → IsHome t f s count split → IsLegalStep f e → IsSameSeat s s' → IsAtRest (view s') → g ≡ farm_in (view s') → Enters (view s) e r (view s')
    → more ≡ is_ok r → count' ≡ (if more then count + 1 else count) → IsHome t g s' count' split
recorded_home t f g s s' count count' split e (Ok done) more home step same rests leads entered is counts =
    home_entered t f g s s' count count' split e more home same rests leads counts entered is step
recorded_home t f g s s' count count' split e (Err why) more home step same rests leads stays is counts =
    home_stays t f g s s' count count' split e more home same rests leads counts stays is
