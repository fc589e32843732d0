-- What follows a frame that is retried: it isn't done any more, and is blocked where it isn't open. All other frames stay as they are.
use Rattle.std.proofs.Common.{◌≡◌, ℕ, zero, suc, ◌&&◌, ◌||◌, not, Bool, true, false, cond, eqb, ltb, List, [], ◌∷◌, Option, None, Some, Ok, Err, All, IsSomeAnd, option_map, refl, sym, ap, subst, ◌∙◌, inr, arith}
use Rattle.std.specs.Prelude.{Result, is_some}
use Rattle.std.specs.List.{slice_get}
use Rattle.std.proofs.lemmas.Bool.{and_parts, and_right, eqb-false, eqb-true, false_from_ne_true, lt-ltb}
use Rattle.std.proofs.lemmas.List.Elements.{All-from_recursion, All-nil}
use Rattle.std.proofs.lemmas.Option.{none-some}
use Rattle.farm_types.specs.declared.entry.Act.{Act}
use Rattle.farm_types.specs.declared.entry.Act.TheVariants.{RetryFrame}
use Rattle.farm_types.specs.declared.entry.Entry.{Entry}
use Rattle.farm_types.specs.declared.entry.FramePlace.{FramePlace}
use Rattle.farm_types.specs.declared.slot_row.Frame.{Frame}
use Rattle.farm_types.specs.declared.slot_row.SlotRow.{SlotRow}
use Rattle.farm_types.specs.declared.states.FrameState.TheVariants.{Waiting}
use Rattle.farm_types.specs.Booking.{is_waiting}
use Rattle.farm_types.specs.DependActs.{place_refusal}
use Rattle.farm_types.specs.Depends.{is_done, is_done_state, is_open}
use Rattle.farm_types.specs.Farm.{Farm, for_some}
use Rattle.farm_types.specs.Names.{frame_name}
use Rattle.farm_types.specs.Operators.{frame_act_refusal, may_retry, place_of, retried_row, slot_named, slot_row_named, state_refusal, version_refusal, with_row_at}
use Rattle.farm_types.specs.Settle.{blocks, is_blocked, kept_version}
use Rattle.farm_types.specs.Step.{act_refusal, after_act, at_moment, followed, moment_of}
use Rattle.farm_types.proofs.Changed.{changed_at_other, changed_at_same}
use Rattle.farm_types.proofs.Lists.{for_some_true}
use Rattle.farm_law.proofs.KeptRuns.{neither}
use Rattle.depend_law.proofs.KeptTurns.{later_keeps}
use Rattle.depend_law.proofs.Retried.{again_leaves, again_stays}
use Rattle.depend_law.proofs.Settled.{Settled}
use Rattle.depend_law.proofs.Shapes.{changed_frames}
use Rattle.depend_law.proofs.Stable.{SameGroups, open_same, same_groups}
use Rattle.depend_law.proofs.Turns.{on_frame, on_slot}
use Rattle.depend_graph.specs.Graph.{Watch, unmet_of}
use Rattle.depend_book.specs.Book.{DependLists, IsBook, joined}
use Rattle.farm_books.specs.Books.{FarmBooks}
use Rattle.farm_changes.specs.Change.{Makes, after_change}
use Rattle.farm_changes.specs.declared.change.Change.{Change}
use Rattle.farm_types.specs.declared.fault.FarmFault.{FarmFault}
use Rattle.farm_types.specs.declared.fault.FarmFault.TheVariants.{Refused, NoMemory}
use Rattle.farm_depends.specs.declared.follow.Follow.{Follow}
use Rattle.depend_book.specs.Fits.{IsBeside}
use Rattle.farm_depends.specs.Follow.{FollowFits, Follows, IsMovable, PreparesFollow, after_follow, is_listed, is_moved, is_one}
use Rattle.farm_depends.specs.Retrying.{Retries, follow_retry, has_frame, is_shut, reopened_at, shut_at}
use Rattle.farm_depends.proofs.ComingLemmas.Blocking.{block_makes, waits_free}
use Rattle.farm_depends.proofs.Joined.{joined_acted}
use Rattle.depend_book.proofs.OpenUnmet.{open_unmet}
use Rattle.farm_depends.proofs.MovingLemmas.PutSlots.{blocked_list, one_by, picked}
use Rattle.farm_depends.proofs.Quiet.{none_differ}
use Rattle.depend_book.proofs.OneCleared.{and_one}
use Rattle.depend_book.proofs.Zips.{or_none}

-- ---- the frame

again_undone : (frame : Option Frame) → on_frame is_done_state (option_map (λ (x : Frame). record x { state = Waiting; retries = 0 }) frame) ≡ false
again_undone None = refl
again_undone (Some x) = refl

again_waits : (frame : Option Frame) → on_frame is_waiting (option_map (λ (x : Frame). record x { state = Waiting; retries = 0 }) frame) ≡ is_some frame
again_waits None = refl
again_waits (Some x) = refl

again_moved : (frame : Option Frame) → is_some frame ≡ true → for_some (option_map (λ (x : Frame). record x { state = Waiting; retries = 0 }) frame) (λ x. is_waiting x.state || is_blocked x.state) ≡ true
again_moved None h = h
again_moved (Some x) h = refl

-- ---- tests

done_then : (b : Bool) (o : Option SlotRow) → on_slot is_done_state (option_map (picked retried_row b) o) ≡ (on_slot is_done_state o && not b)
done_then b None = refl
done_then true (Some s) = again_undone s.frame ∙ sym (and_right (on_frame is_done_state s.frame) false refl)
done_then false (Some s) = sym (and_one (on_frame is_done_state s.frame))

waits_then : (o : Option SlotRow) → on_slot is_waiting (option_map (picked retried_row true) o) ≡ for_some o (λ (s : SlotRow). is_some s.frame)
waits_then None = refl
waits_then (Some s) = again_waits s.frame

-- the slot is named where its frame was done
named_by : (d was c : Bool) (slot i : ℕ) → eqb slot i ≡ c → (c ≡ true → was ≡ d) → (was && not c) ≡ ((was && not (is_one (cond d (Some slot) None) i)) || false)
named_by true was c slot i is same = ap (λ (b : Bool). was && not b) (sym is) ∙ sym (or_none (was && not (eqb slot i)))
named_by false was true slot i is same = ap (λ (b : Bool). b && false) (same refl) ∙ sym (ap (λ (b : Bool). (b && true) || false) (same refl))
named_by false was false slot i is same = sym (or_none (was && true))

listed_by : (shut : Bool) (slot i : ℕ) → is_listed (cond shut (slot ∷ []) []) i ≡ (shut && eqb slot i)
listed_by true slot i = or_none (eqb slot i)
listed_by false slot i = refl

positive_is : (n : ℕ) → ltb 0 n ≡ not (eqb n 0)
positive_is zero = refl
positive_is (suc n) = lt-ltb 0 (suc n) (omega arith) ∙ sym (ap not (false_from_ne_true (eqb (suc n) 0) (λ h. absurd (omega (arith, eqb-true (suc n) 0 h)))))

-- ---- the farm after the act

module _ (f : Farm) (b : DependLists) (whole : IsBeside f b) (book : IsBook b) (moment slot : ℕ) where
  abbrev old : Farm
  old = joined f b

  abbrev now : Farm
  now = at_moment old moment

  abbrev pub again : Farm
  again = with_row_at now retried_row (Some slot)

  abbrev watches : List Watch
  watches = b.graph.depends

  settled : Settled again
  settled = again_leaves now (later_keeps old moment whole.kept.depends) (Some slot)

  same : SameGroups old again
  same = same_groups old again refl refl refl (changed_frames retried_row again_stays f.slots slot)

  shut_then : (i : ℕ) → not (is_open again i) ≡ ltb 0 (unmet_of watches i)
  shut_then i = ap not (open_same old again same i ∙ open_unmet f b book whole.fits i) ∙ sym (positive_is (unmet_of watches i))

  -- ---- which frames are done

  done_are : (i : ℕ) → is_done again.slots i ≡ ((is_done f.slots i && not (is_one (reopened_at f.slots slot) i)) || false)
  done_are i =
      ap (on_slot is_done_state) (one_by retried_row f.slots slot i (eqb slot i) refl)
      ∙ (done_then (eqb slot i) (slice_get f.slots i)
      ∙ named_by (is_done f.slots slot) (is_done f.slots i) (eqb slot i) slot i refl (λ h. ap (is_done f.slots) (sym (eqb-true slot i h))))

  -- ---- which are blocked

  blocks_at : (i : ℕ) (s : SlotRow) (c : Bool) → eqb slot i ≡ c → slice_get again.slots i ≡ Some s → (is_shut f.slots watches slot && c) ≡ blocks again i s
  blocks_at i s true is at =
      let here : i ≡ slot = sym (eqb-true slot i is) in
      let waits : on_frame is_waiting s.frame ≡ has_frame f.slots i =
      sym (ap (on_slot is_waiting) at) ∙ (ap (on_slot is_waiting) (one_by retried_row f.slots slot i true is) ∙ waits_then (slice_get f.slots i)) in
      and_one (is_shut f.slots watches slot)
      ∙ (ap (is_shut f.slots watches) (sym here) ∙ λ j. sym waits j && sym (shut_then i) j)
  blocks_at i s false is at =
      let was : slice_get f.slots i ≡ Some s = sym (changed_at_other f.slots slot i retried_row (λ e. eqb-false slot i is (sym e))) ∙ at in
      let free = waits_free s.frame (not (is_open old i)) (whole.kept.depends.free_to_run i s was) in
      and_right (is_shut f.slots watches slot) false refl
      ∙ sym (ap (λ (free_now : Bool). on_frame is_waiting s.frame && not free_now) (open_same old again same i) ∙ free)

  same_blocked : (i : ℕ) (s : SlotRow) → slice_get again.slots i ≡ Some s → is_listed (shut_at f.slots watches slot) i ≡ blocks again i s
  same_blocked i s at = listed_by (is_shut f.slots watches slot) slot i ∙ blocks_at i s (eqb slot i) refl at

  -- the frame that is blocked has no attempt
  shut_movable : is_shut f.slots watches slot ≡ true → IsMovable again.slots slot
  shut_movable shut =
      let there : has_frame f.slots slot ≡ true = (and_parts (has_frame f.slots slot) (ltb 0 (unmet_of watches slot)) shut).0 in
      let s = for_some_true (slice_get f.slots slot) (λ (t : SlotRow). is_some t.frame) there in
      subst (λ (o : Option SlotRow). IsSomeAnd o (λ t. (is_moved t ≡ true) × (t.proc ≡ None))) (sym (changed_at_same f.slots slot retried_row s.0 s.1)) (again_moved s.0.frame s.2, refl)

  movable_by : (shut : Bool) → is_shut f.slots watches slot ≡ shut → All (IsMovable again.slots) (cond shut (slot ∷ []) [])
  movable_by true is = All-from_recursion (IsMovable again.slots) (slot ∷ []) (shut_movable is, tt)
  movable_by false is = All-nil _

  -- ---- what follows

  abbrev follow : Follow
  follow = follow_retry f.slots watches slot

  retry_fits : FollowFits old again follow
  retry_fits =
      record {
        groups_stay = same.groups;
        one_kind = inr (inr ((refl, refl), refl));
        room = tt;
        drop_there = tt;
        done_differ = none_differ;
        undone = All-nil _;
        done_are = done_are;
        opened_movable = All-nil _;
        blocked_movable = movable_by (is_shut f.slots watches slot) refl;
      }

  retry_farm : (p : FramePlace) → after_follow again follow ≡ followed (RetryFrame p) again
  retry_farm p =
      (λ i. record (settled.met i) { slots = blocked_list again (shut_at f.slots watches slot) again.slots same_blocked i }) ∙ block_makes kept_version again

  pub retry_follows : (p : FramePlace) → Follows old again (RetryFrame p) follow
  retry_follows p = record { accepted = refl; fits = retry_fits; unreserved = refl; farm = retry_farm p; counts = tt }

-- ---- the act

-- books of these two, as the retry is told of them
abbrev pub books_beside : Farm → DependLists → FarmBooks
books_beside f b = record { farm = f; graph = b.graph }

named_later : (f : Farm) (b : DependLists) (moment : ℕ) (p : FramePlace) → slot_named (at_moment (joined f b) moment) p ≡ slot_named f p
unfolding slot_named
named_later f b moment p = refl

module _ (f : Farm) (b : DependLists) (e : Entry) (change : Change) (whole : IsBeside f b) (made : Makes f e change) (book : IsBook b) (p : FramePlace) (is : e.act ≡ RetryFrame p) where
  abbrev made_farm : Farm
  made_farm = joined (after_change f change) b

  abbrev moment : ℕ
  moment = moment_of f e.moment

  made_again : (slot : ℕ) → slot_named f p ≡ Some slot → made_farm ≡ again f b whole book moment slot
  made_again slot found =
      ap (λ (g : Farm). joined g b) made.farm
      ∙ (joined_acted b f e
      ∙ (ap (after_act (at_moment (joined f b) moment) moment) is
      ∙ ap (with_row_at (at_moment (joined f b) moment) retried_row) (named_later f b moment p ∙ found)))

  -- the frame is there
  place_there : place_refusal f (place_of p) ≡ None
  place_there =
      let first = neither (frame_act_refusal may_retry f p) (version_refusal (frame_name p.frame p.layer) (slot_row_named f p)) (ap (act_refusal f) (sym is) ∙ made.accepted) in
      (neither (place_refusal f (place_of p)) (state_refusal may_retry (slot_row_named f p)) first.0).0

  retry_by : (result : Result Follow FarmFault) → Retries (books_beside f b) p result → PreparesFollow (joined f b) made_farm (RetryFrame p) result
  retry_by (Ok w) r =
      subst (λ (g : Farm). Follows (joined f b) g (RetryFrame p) w) (sym (made_again r.0 r.1))
      (subst (Follows (joined f b) (again f b whole book moment r.0) (RetryFrame p)) (sym r.2) (retry_follows f b whole book moment r.0 p))
  retry_by (Err (Refused why)) r = absurd (none-some why (sym place_there ∙ r))
  retry_by (Err NoMemory) r = tt

  -- what follows the retry, or the refusal
  pub retry_prepared : (result : Result Follow FarmFault) → Retries (books_beside f b) p result → PreparesFollow (joined f b) made_farm e.act result
  retry_prepared result r = subst (λ (act : Act). PreparesFollow (joined f b) made_farm act result) (sym is) (retry_by result r)
