-- What each call that places a word leaves.
use Rattle.std.proofs.Common.{◌≡◌, ℕ, ◌+◌, ◌≤◌, List, sym, ap, ◌∙◌, arith}
use Rattle.farm_types.specs.Farm.{Farm}
use Rattle.farm_types.specs.Kept.{KeepsRows}
use Rattle.farm_types.specs.Sums.{used_cores, used_memory, used_on}
use Rattle.frame_words.specs.declared.frame_word.FrameWord.{FrameWord}
use Rattle.booking_rule.specs.declared.view.View.{View}
use Rattle.booking_rule.specs.Link.{host_cores, host_memory, stand_at}
use Rattle.booking_rule.specs.Recorded.{free_at}
use Rattle.booking_rule.specs.Rule.{word_of}
use Rattle.booking_rule.specs.Words.{host_place, limit_place, sub_place, amount_place}
use Rattle.booking_core.specs.Kinds.{host_amounts, item_of}
use Rattle.entry_law.specs.Used.{UsesAreShown}
use Rattle.farm_stands.specs.declared.bounds.HostSize.{HostSize}
use Rattle.farm_stands.specs.Turns.{size_at}
use Rattle.recording_core.specs.Records.{cap_and_used, placed_burst, placed_most, sized, turn_item, turned_word, wrote_amount}
use Rattle.recording_turns.specs.Placed.{HasPlaced, IsPlacing, Onward}
use Rattle.recording_turns.proofs.PlacingDesk.{host_goes, limit_goes, noted_goes, onward_then, sub_goes, turned_goes}
use Rattle.recording_turns.proofs.PlacingFarm.{cores_fit, memory_fits, stand_free}

module _ (f : Farm) (hosts subs limits : ℕ) (slots : List ℕ) (v w : View) (P : IsPlacing f hosts subs limits slots v) where
  pub size_left : (cores memory : ℕ) → w ≡ sized v hosts cores memory 0 → IsPlacing f (hosts + 1) subs limits slots w × Onward v w
  size_left cores memory is =
      host_goes f hosts subs limits slots v w P (item_of 16 (host_place hosts) (host_amounts cores memory) 0 (0 + host_amounts cores memory)) is

  pub burst_left : (burst booked : ℕ) → w ≡ placed_burst v subs burst booked 0 → IsPlacing f hosts (subs + 1) limits slots w × Onward v w
  burst_left burst booked is =
      sub_goes f hosts subs limits slots v w P (item_of 15 (sub_place subs) (cap_and_used burst booked) 0 (0 + cap_and_used burst booked)) is

  pub most_left : (most running : ℕ) → w ≡ placed_most v limits most running 0 → IsPlacing f hosts subs (limits + 1) slots w × Onward v w
  most_left most running is =
      limit_goes f hosts subs limits slots v w P (item_of 20 (limit_place limits) (cap_and_used most running) 0 (0 + cap_and_used most running)) is

module _ (f : Farm) (limits n : ℕ) (v w : View) (H : HasPlaced f limits n v) where
  pub turn_left : (word found : ℕ) → w ≡ turned_word v n word found → HasPlaced f limits (n + 1) w × Onward v w
  turn_left word found is = turned_goes f limits n v w H (turn_item 13 n word found) is

  pub amount_left : (word found : ℕ) → w ≡ wrote_amount v n word found → HasPlaced f limits n w × Onward v w
  amount_left word found is = noted_goes f limits n v w H (item_of 14 (amount_place n) word found word) is

-- a frame's amounts, and then its word
pub frame_left : (f : Farm) (limits n : ℕ) (v w u : View) (H : HasPlaced f limits n v) (bits was word found : ℕ) → w ≡ wrote_amount v n bits was → u ≡ turned_word w n word found
    → HasPlaced f limits (n + 1) u × Onward v u
frame_left f limits n v w u H bits was word found amount turn =
    let a = amount_left f limits n v w H bits was amount in
    let b = turn_left f limits n w u a.0 word found turn in (b.0, onward_then v w u a.1 b.1)

-- a word that says nothing is that of a slot that was never used
pub never_used : (f : Farm) (n : ℕ) (word : FrameWord) → word ≡ word_of (stand_at f n) → word.phase ≡ 0 → word.version ≡ 0 → stand_at f n ≡ free_at 0
never_used f n word is phase version =
    stand_free f n (ap (λ (x : FrameWord). x.phase) (sym is) ∙ phase) ∙ ap (λ (k : ℕ). free_at k) (ap (λ (x : FrameWord). x.version) (sym is) ∙ version)

-- ---- what a host's running frames use, as it is read

module _ (f : Farm) (kept : KeepsRows f) (uses : UsesAreShown f) (host : ℕ) (size : HostSize) (used : ℕ × ℕ) (size_is : size ≡ size_at f host) (used_is : used ≡ used_on f host) where
  pub cores_hold : used.0 ≤ size.cores
  cores_hold =
      let fits = cores_fit f kept uses host in
      let a : used.0 ≡ used_cores f host = ap (λ (p : ℕ × ℕ). p.0) used_is in
      let b : size.cores ≡ host_cores f host = ap (λ (x : HostSize). x.cores) size_is in
      omega (arith, fits, a, b)

  pub memory_holds : used.1 ≤ size.memory
  memory_holds =
      let fits = memory_fits f kept uses host in
      let a : used.1 ≡ used_memory f host = ap (λ (p : ℕ × ℕ). p.1) used_is in
      let b : size.memory ≡ host_memory f host = ap (λ (x : HostSize). x.memory) size_is in
      omega (arith, fits, a, b)
