-- Depends come to a farm that keeps its own: no frame opens, and those are blocked that wait in groups that aren't met at once.
use Rattle.std.proofs.Common.{◌≡◌, ℕ, Bool, true, false, ◌&&◌, ◌||◌, not, List, [], ◌∷◌, Option, Some, None, refl, ap, sym, ◌∙◌}
use Rattle.std.specs.Prelude.{nat_eq}
use Rattle.std.specs.List.{IsDistinct, slice_get}
use Rattle.std.proofs.lemmas.Bool.{true≢false}
use Rattle.farm_types.specs.declared.slot_row.Frame.{Frame}
use Rattle.farm_types.specs.declared.slot_row.SlotRow.{SlotRow}
use Rattle.farm_types.specs.Booking.{is_waiting}
use Rattle.farm_types.specs.DependActs.{is_running}
use Rattle.farm_types.specs.Depends.{is_open}
use Rattle.farm_types.specs.Farm.{Farm, for_some}
use Rattle.farm_types.specs.Kept.{KeepsDepends}
use Rattle.farm_types.specs.Settle.{blocked_from, blocks, is_blocked, opens, settle, with_blocked, with_met, with_opened}
use Rattle.depend_law.proofs.Turns.{on_frame}
use Rattle.depend_book.specs.declared.new_depend.NewDepend.{NewDepend}
use Rattle.farm_depends.specs.Follow.{change_of, is_listed, put_blocked, with_all, with_row}
use Rattle.farm_depends.proofs.ComingLemmas.OpenWith.{AreOwn, open_with_all, waiters_in}
use Rattle.farm_depends.proofs.MovingLemmas.PutSlots.{blocked_once, opened_list}
use Rattle.farm_depends.proofs.ComingLemmas.WithRow.{Numbered, numbered_kept}

-- ---- tests

not_not : (b : Bool) → not (not b) ≡ b
not_not true = refl
not_not false = refl

shut_by : (blocked was listed now : Bool) → now ≡ (was && not listed) → (blocked && was) ≡ false → false ≡ (blocked && now)
shut_by true was listed now is shut = sym (is ∙ ap (λ (b : Bool). b && not listed) shut)
shut_by false was listed now is shut = refl

block_by : (waits was listed now : Bool) → now ≡ (was && not listed) → (waits && not was) ≡ false → (waits && listed) ≡ (waits && not now)
block_by true true listed now is free = sym (ap not is ∙ not_not listed)
block_by true false listed now is free = absurd (true≢false free)
block_by false was listed now is free = refl

pub waits_free : (frame : Option Frame) (unmet : Bool) → (for_some frame (λ x. is_waiting x.state || is_running x.state) && unmet) ≡ false → (on_frame is_waiting frame && unmet) ≡ false
waits_free None unmet free = refl
waits_free (Some x) unmet free = first (is_waiting x.state) free
  where
    first : (waits : Bool) → ((waits || is_running x.state) && unmet) ≡ false → (waits && unmet) ≡ false
    first true h = h
    first false h = refl

-- ---- slots

-- depends that come leave the slots
pub slots_stay : (f : Farm) (ns : List NewDepend) → (with_all f ns).slots ≡ f.slots
slots_stay f [] = refl
slots_stay f (n ∷ ns) = slots_stay (with_row f n) ns

pub block_makes : (change : ℕ → ℕ) (f : Farm) → record f { slots = blocked_from change f 0 f.slots } ≡ with_blocked change f
unfolding with_blocked
block_makes change f = refl

settle_makes : (f : Farm) → with_opened (with_met f) ≡ settle f
unfolding settle
settle_makes f = refl

module _ (f : Farm) (k : KeepsDepends f) (ns : List NewDepend) (own : AreOwn f.layers f.slots ns) where
  abbrev came : Farm
  came = with_met (with_all f ns)

  numbered : Numbered f
  numbered = numbered_kept f k.rise k.met

  stood : (i : ℕ) (s : SlotRow) → slice_get came.slots i ≡ Some s → slice_get f.slots i ≡ Some s
  stood i s at = ap (λ (ss : List SlotRow). slice_get ss i) (sym (slots_stay f ns)) ∙ at

  open_then : (slot : ℕ) → is_open came slot ≡ (is_open f slot && not (is_listed (waiters_in f.slots ns) slot))
  open_then slot = open_with_all f numbered k.met ns own slot

  -- no blocked frame opens
  none_opens : (i : ℕ) (s : SlotRow) → slice_get came.slots i ≡ Some s → is_listed [] i ≡ opens came i s
  none_opens i s at = shut_by (on_frame is_blocked s.frame) (is_open f i) (is_listed (waiters_in f.slots ns) i) (is_open came i) (open_then i) (k.blocked i s (stood i s at))

  pub came_settled : settle (with_all f ns) ≡ came
  came_settled = sym (settle_makes (with_all f ns)) ∙ ap (λ (ss : List SlotRow). record came { slots = ss }) (sym (opened_list came [] came.slots none_opens))

  module _ (raises : Bool) (list : List ℕ) (differ : IsDistinct nat_eq list)
      (listed : (i : ℕ) (s : SlotRow) → slice_get f.slots i ≡ Some s → is_listed list i ≡ (on_frame is_waiting s.frame && is_listed (waiters_in f.slots ns) i)) where
    same_blocked : (i : ℕ) (s : SlotRow) → slice_get came.slots i ≡ Some s → is_listed list i ≡ blocks came i s
    same_blocked i s at =
        let there = stood i s at in
        listed i s there
        ∙ block_by (on_frame is_waiting s.frame) (is_open f i) (is_listed (waiters_in f.slots ns) i) (is_open came i) (open_then i)
        (waits_free s.frame (not (is_open f i)) (k.free_to_run i s there))

    -- and those are blocked that wait and are listed
    pub came_blocked : record came { slots = put_blocked raises list f.slots } ≡ with_blocked (change_of raises) (settle (with_all f ns))
    came_blocked =
        ap (λ (ss : List SlotRow). record came { slots = put_blocked raises list ss }) (sym (slots_stay f ns))
        ∙ (ap (λ (ss : List SlotRow). record came { slots = ss }) (blocked_once raises came list came.slots differ same_blocked)
        ∙ (block_makes (change_of raises) came ∙ ap (with_blocked (change_of raises)) (sym came_settled)))
