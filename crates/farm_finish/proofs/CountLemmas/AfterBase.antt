-- What the books say of the farm in which jobs finish, after an act that completes frames and what follows it.
use Rattle.std.proofs.Common.{◌≡◌, ℕ, zero, suc, ◌+◌, ◌<◌, Bool, true, false, not, cond, eqb, ◌&&◌, ◌||◌, List, [], ◌∷◌, map, filter, All, Option, None, Some, IsSomeAnd, option_map, refl, sym, ap, ◌∙◌, arith}
use Rattle.std.specs.List.{AllByRecursion, list_all, list_any, slice_get, sum_by}
use Rattle.std.proofs.lemmas.Bool.{eq-eqb, eqb-true, false≢true, ne_eqb, or_right}
use Rattle.std.proofs.lemmas.List.Elements.{All-weaker, recursion_from_All}
use Rattle.std.proofs.lemmas.List.Folds.{list_any-append}
use Rattle.farm_types.specs.declared.depend.DependRow.{DependRow}
use Rattle.farm_types.specs.declared.depend.Group.{Group}
use Rattle.farm_types.specs.declared.slot_row.Frame.{Frame}
use Rattle.farm_types.specs.declared.slot_row.SlotRow.{SlotRow}
use Rattle.farm_types.specs.declared.states.FrameState.{FrameState}
use Rattle.farm_types.specs.declared.states.FrameState.TheVariants as frame_state
use Rattle.farm_types.specs.Booking.{is_waiting}
use Rattle.farm_types.specs.Depends.{groups_of, is_done, is_done_state}
use Rattle.farm_types.specs.Farm.{Farm, changed_at, for_some}
use Rattle.farm_types.specs.Finish.{has_succeeded, is_frame_of, waits_by, was_eaten}
use Rattle.farm_types.specs.Operators.{is_left_of}
use Rattle.farm_types.specs.Rising.{IsRising, depend_key}
use Rattle.farm_types.specs.Settle.{blocked_row, in_state, is_blocked, is_met_now, met_row, met_rows, met_rows_of, settled_row}
use Rattle.farm_types.proofs.Changed.{changed_at_other, changed_at_sum}
use Rattle.farm_rows.specs.Changes.{is_mark}
use Rattle.depend_graph.specs.Graph.{Watch, Watched, groups_at}
use Rattle.depend_book.specs.Book.{waits_in_one, watch_number}
use Rattle.depend_law.proofs.Among.{each_weaker}
use Rattle.depend_book.specs.Fits.{group_in}
use Rattle.farm_depends.specs.Follow.{IsMovable, change_of, is_listed, is_moved, put_blocked, put_opened, slots_after}
use Rattle.farm_depends.specs.declared.follow.Follow.{Follow}
use Rattle.farm_depends.proofs.FollowSlots.{follow_done}
use Rattle.farm_finish.proofs.RowLemmas.Said.{any_map}
use Rattle.farm_depends.proofs.MovingLemmas.Movable.{movable_blocked, movable_opened, movable_put_opened}

-- ---- slots that don't move

opened_other : (list : List ℕ) (slots : List SlotRow) (i : ℕ) → is_listed list i ≡ false → slice_get (put_opened list slots) i ≡ slice_get slots i
opened_other [] slots i none = refl
opened_other (n ∷ ns) slots i none = by_place (eqb n i) refl none (opened_other ns (changed_at slots n (in_state frame_state.Waiting)) i) where
  by_place : (b : Bool) → eqb n i ≡ b → (b || is_listed ns i) ≡ false
      → (is_listed ns i ≡ false → slice_get (put_opened ns (changed_at slots n (in_state frame_state.Waiting))) i ≡ slice_get (changed_at slots n (in_state frame_state.Waiting)) i)
      → slice_get (put_opened ns (changed_at slots n (in_state frame_state.Waiting))) i ≡ slice_get slots i
  by_place true is away later = absurd (false≢true (sym away))
  by_place false is away later = later away ∙ changed_at_other slots n i (in_state frame_state.Waiting) (λ e. false≢true (sym is ∙ eq-eqb n i (sym e)))

blocked_other : (raises : Bool) (list : List ℕ) (slots : List SlotRow) (i : ℕ) → is_listed list i ≡ false → slice_get (put_blocked raises list slots) i ≡ slice_get slots i
blocked_other raises [] slots i none = refl
blocked_other raises (n ∷ ns) slots i none = by_place (eqb n i) refl none (blocked_other raises ns (changed_at slots n (blocked_row (change_of raises))) i) where
  by_place : (b : Bool) → eqb n i ≡ b → (b || is_listed ns i) ≡ false
      → (is_listed ns i ≡ false → slice_get (put_blocked raises ns (changed_at slots n (blocked_row (change_of raises)))) i ≡ slice_get (changed_at slots n (blocked_row (change_of raises))) i)
      → slice_get (put_blocked raises ns (changed_at slots n (blocked_row (change_of raises)))) i ≡ slice_get slots i
  by_place true is away later = absurd (false≢true (sym away))
  by_place false is away later = later away ∙ changed_at_other slots n i (blocked_row (change_of raises)) (λ e. false≢true (sym is ∙ eq-eqb n i (sym e)))

moved_state : (state : FrameState) → (is_waiting state || is_blocked state) ≡ true → is_done_state state ≡ false
moved_state frame_state.Succeeded moved = absurd (false≢true moved)
moved_state frame_state.Eaten moved = absurd (false≢true moved)
moved_state other moved = refl

moved_row : (frame : Option Frame) → for_some frame (λ x. is_waiting x.state || is_blocked x.state) ≡ true → for_some frame (λ x. is_done_state x.state) ≡ false
moved_row None moved = refl
moved_row (Some x) moved = moved_state x.state moved

not_done : (o : Option SlotRow) → IsSomeAnd o (λ s. (is_moved s ≡ true) × (s.proc ≡ None)) → for_some o (λ (s : SlotRow). for_some s.frame (λ x. is_done_state x.state)) ≡ false
not_done None moved = refl
not_done (Some s) moved = moved_row s.frame moved.0

unlisted : (slots : List SlotRow) (list : List ℕ) (n : ℕ) → AllByRecursion (IsMovable slots) list → is_done slots n ≡ true → is_listed list n ≡ false
unlisted slots [] n moved done = refl
unlisted slots (m ∷ ms) n moved done = by_place (eqb m n) refl (unlisted slots ms n moved.1 done) where
  by_place : (b : Bool) → eqb m n ≡ b → is_listed ms n ≡ false → (b || is_listed ms n) ≡ false
  by_place true is later = absurd (false≢true (sym (not_done (slice_get slots m) moved.0) ∙ (ap (is_done slots) (eqb-true m n is) ∙ done)))
  by_place false is later = later

-- a slot whose frame is done stays
pub done_stays : (slots : List SlotRow) (w : Follow) → All (IsMovable slots) w.opened → All (IsMovable slots) w.blocked → (n : ℕ) → is_done (slots_after slots w) n ≡ true → slice_get (slots_after slots w) n ≡ slice_get slots n
done_stays slots w opened blocked n done =
    let was : is_done slots n ≡ true = sym (follow_done slots w opened blocked n) ∙ done in
    blocked_other w.raises w.blocked (put_opened w.opened slots) n (unlisted slots w.blocked n (recursion_from_All (IsMovable slots) w.blocked blocked) was)
    ∙ opened_other w.opened slots n (unlisted slots w.opened n (recursion_from_All (IsMovable slots) w.opened opened) was)

-- a frame of a job of which none is left is done
left_done : (job : ℕ) (o : Option Frame) → for_some o (λ (x : Frame). eqb x.job job && not (is_done_state x.state)) ≡ false → for_some o (λ (x : Frame). eqb x.job job) ≡ true → for_some o (λ (x : Frame). is_done_state x.state) ≡ true
left_done job None none mine = absurd (false≢true mine)
left_done job (Some x) none mine = by_done (is_done_state x.state) refl where
  by_done : (b : Bool) → is_done_state x.state ≡ b → b ≡ true
  by_done true is = refl
  by_done false is = absurd (false≢true (sym none ∙ λ i. mine i && not (is i)))

none_at : (test : SlotRow → Bool) (slots : List SlotRow) (n : ℕ) → list_any test slots ≡ false → for_some (slice_get slots n) test ≡ false
none_at test [] n none = refl
none_at test (s ∷ ss) zero none = by_test (test s) none where
  by_test : (b : Bool) → (b || list_any test ss) ≡ false → b ≡ false
  by_test true off = absurd (false≢true (sym off))
  by_test false off = refl
none_at test (s ∷ ss) (suc n) none = none_at test ss n (by_test (test s) none) where
  by_test : (b : Bool) → (b || list_any test ss) ≡ false → list_any test ss ≡ false
  by_test true off = absurd (false≢true (sym off))
  by_test false off = off

row_done : (job : ℕ) (o : Option SlotRow) → for_some o (is_left_of job) ≡ false → for_some o (is_frame_of job) ≡ true → for_some o (λ (s : SlotRow). for_some s.frame (λ x. is_done_state x.state)) ≡ true
row_done job None none mine = absurd (false≢true mine)
row_done job (Some s) none mine = left_done job s.frame none mine

pub ended_done : (job : ℕ) (slots : List SlotRow) → list_any (is_left_of job) slots ≡ false → (n : ℕ) → for_some (slice_get slots n) (is_frame_of job) ≡ true → is_done slots n ≡ true
ended_done job slots none n mine = row_done job (slice_get slots n) (none_at (is_left_of job) slots n none) mine

-- ---- counts of frames that are done

module _ (job : ℕ) (test : FrameState → Bool) (moved : (state : FrameState) → (is_waiting state || is_blocked state) ≡ true → test state ≡ false) where
  abbrev weight : SlotRow → ℕ
  weight s = cond (for_some s.frame (λ (x : Frame). eqb x.job job && test x.state)) 1 0

  off : (b c : Bool) → c ≡ false → cond {A = ℕ} (b && c) 1 0 ≡ 0
  off true c none = ap (λ (d : Bool). weigh d) none where
    weigh : Bool → ℕ
    weigh d = cond d 1 0
  off false c none = refl

  frame_weighs : (o : Option Frame) → for_some o (λ x. is_waiting x.state || is_blocked x.state) ≡ true → cond {A = ℕ} (for_some o (λ (x : Frame). eqb x.job job && test x.state)) 1 0 ≡ 0
  frame_weighs None is = refl
  frame_weighs (Some x) is = off (eqb x.job job) (test x.state) (moved x.state is)

  changed_weighs : (slots : List SlotRow) (n : ℕ) (change : SlotRow → SlotRow) → ((s : SlotRow) → is_moved s ≡ true → is_moved (change s) ≡ true) → (o : Option SlotRow) → slice_get slots n ≡ o → IsSomeAnd o (λ s. (is_moved s ≡ true) × (s.proc ≡ None))
      → sum_by weight (changed_at slots n change) ≡ sum_by weight slots
  changed_weighs slots n change keeps None at moves = absurd moves
  changed_weighs slots n change keeps (Some s) at moves =
      omega (arith, changed_at_sum weight slots n change s at, frame_weighs s.frame moves.0, frame_weighs (change s).frame (keeps s moves.0))

  opened_moved : (o : Option Frame) → for_some o (λ x. is_waiting x.state || is_blocked x.state) ≡ true → for_some (option_map (λ (x : Frame). record x { state = frame_state.Waiting }) o) (λ x. is_waiting x.state || is_blocked x.state) ≡ true
  opened_moved None is = is
  opened_moved (Some x) is = refl

  blocked_moved : (o : Option Frame) → for_some o (λ x. is_waiting x.state || is_blocked x.state) ≡ true → for_some (option_map (λ (x : Frame). record x { state = frame_state.Depend }) o) (λ x. is_waiting x.state || is_blocked x.state) ≡ true
  blocked_moved None is = is
  blocked_moved (Some x) is = refl

  opened_counts : (list : List ℕ) (slots : List SlotRow) → AllByRecursion (IsMovable slots) list → sum_by weight (put_opened list slots) ≡ sum_by weight slots
  opened_counts [] slots all = refl
  opened_counts (n ∷ ns) slots all =
      let next = changed_at slots n (in_state frame_state.Waiting) in
      opened_counts ns next (each_weaker (IsMovable slots) (IsMovable next) (movable_opened slots n) ns all.1)
      ∙ changed_weighs slots n (in_state frame_state.Waiting) (λ s is. opened_moved s.frame is) (slice_get slots n) refl all.0

  blocked_counts : (raises : Bool) (list : List ℕ) (slots : List SlotRow) → AllByRecursion (IsMovable slots) list → sum_by weight (put_blocked raises list slots) ≡ sum_by weight slots
  blocked_counts raises [] slots all = refl
  blocked_counts raises (n ∷ ns) slots all =
      let next = changed_at slots n (blocked_row (change_of raises)) in
      blocked_counts raises ns next (each_weaker (IsMovable slots) (IsMovable next) (movable_blocked (change_of raises) slots n) ns all.1)
      ∙ changed_weighs slots n (blocked_row (change_of raises)) (λ s is. blocked_moved s.frame is) (slice_get slots n) refl all.0

  pub counts_stay : (slots : List SlotRow) (w : Follow) → All (IsMovable slots) w.opened → All (IsMovable slots) w.blocked → sum_by weight (slots_after slots w) ≡ sum_by weight slots
  counts_stay slots w opened blocked =
      let mid = put_opened w.opened slots in
      let still = All-weaker (IsMovable slots) (IsMovable mid) (movable_put_opened w.opened slots) w.blocked blocked in
      blocked_counts w.raises w.blocked mid (recursion_from_All (IsMovable mid) w.blocked still) ∙ opened_counts w.opened slots (recursion_from_All (IsMovable slots) w.opened opened)

pub not_eaten : (state : FrameState) → (is_waiting state || is_blocked state) ≡ true → was_eaten state ≡ false
not_eaten frame_state.Eaten moved = absurd (false≢true moved)
not_eaten other moved = refl

pub not_succeeded : (state : FrameState) → (is_waiting state || is_blocked state) ≡ true → has_succeeded state ≡ false
not_succeeded frame_state.Succeeded moved = absurd (false≢true moved)
not_succeeded other moved = refl

-- ---- depends

pub waits_settled : (f : Farm) (job n : ℕ) (ds : List DependRow) → waits_in_one job (map (settled_row f) ds) n ≡ waits_in_one job ds n
waits_settled f job n [] = refl
waits_settled f job n (d ∷ ds) = ap (λ (b : Bool). (waits_by job d && eqb n d.depend) || b) (waits_settled f job n ds)

-- ---- marks

any_among : (test keep : Group → Bool) (gs : List Group) → list_any test (filter keep gs) ≡ true → list_any test gs ≡ true
any_among test keep [] there = there
any_among test keep (g ∷ gs) there = by_test (test g) (keep g) there (any_among test keep gs) where
  by_test : (a b : Bool) → list_any test (cond b (g ∷ filter keep gs) (filter keep gs)) ≡ true → (list_any test (filter keep gs) ≡ true → list_any test gs ≡ true) → (test g || list_any test gs) ≡ true
  by_test a true any later = by_own (test g) any where
    by_own : (c : Bool) → (c || list_any test (filter keep gs)) ≡ true → (c || list_any test gs) ≡ true
    by_own true found = refl
    by_own false found = later found
  by_test a false any later = or_right (test g) (list_any test gs) (later any)

mark_of_row : (n position : ℕ) (d : DependRow) (gs : List Group) → list_any (is_mark n position) (map (met_row d) gs) ≡ true → (eqb d.depend n ≡ true) × (list_any (λ (g : Group). eqb g.position position) gs ≡ true)
mark_of_row n position d [] there = absurd (false≢true there)
mark_of_row n position d (g ∷ gs) there = by_number (eqb d.depend n) (eqb g.position position) refl refl there (mark_of_row n position d gs) where
  by_number : (a c : Bool) → eqb d.depend n ≡ a → eqb g.position position ≡ c → ((a && c) || list_any (is_mark n position) (map (met_row d) gs)) ≡ true
      → (list_any (is_mark n position) (map (met_row d) gs) ≡ true → (eqb d.depend n ≡ true) × (list_any (λ (h : Group). eqb h.position position) gs ≡ true))
      → (eqb d.depend n ≡ true) × ((c || list_any (λ (h : Group). eqb h.position position) gs) ≡ true)
  by_number true true number place any later = (number, refl)
  by_number true false number place any later = later any
  by_number false c number place any later = absurd (false≢true (sym number ∙ (later any).0))

no_groups : (n low : ℕ) (ds : List DependRow) (ws : List Watch) (high : ℕ) → n < low → IsRising depend_key low ds high → map depend_key ds ≡ map watch_number ws → groups_at ws n ≡ []
no_groups n low ds [] high less rise same = refl
no_groups n low [] (w ∷ ws) high less rise same = absurd (cc)
no_groups n low (d ∷ ds) (w ∷ ws) high less rise same =
    let number : d.depend ≡ w.depend = head_same d.depend w.depend (map depend_key ds) (map watch_number ws) same in
    ap (λ (b : Bool). cond b w.groups (groups_at ws n)) (ne_eqb w.depend n (λ e. absurd (omega (arith, e, number, rise.0, less))))
    ∙ no_groups n (d.depend + 1) ds ws high (omega (arith, rise.0, less)) rise.1 (tail_same d.depend w.depend (map depend_key ds) (map watch_number ws) same)
  where
    head_same : (a b : ℕ) (xs ys : List ℕ) → a ∷ xs ≡ b ∷ ys → a ≡ b
    head_same a b xs ys e = cc

    tail_same : (a b : ℕ) (xs ys : List ℕ) → a ∷ xs ≡ b ∷ ys → xs ≡ ys
    tail_same a b xs ys e = cc

module _ (f : Farm) (n position : ℕ) where
  abbrev at_position : Group → Bool
  at_position g = eqb g.position position

  abbrev watches_position : Watched → Bool
  watches_position w = eqb w.group.position position

  own_there : (d : DependRow) (b : Bool) → (settled_row f d).met_all ≡ b → list_any (is_mark n position) (cond b [] (map (met_row d) (filter (is_met_now f d) (groups_of f d)))) ≡ true
      → (d.met_all ≡ false) × ((eqb d.depend n ≡ true) × (list_any at_position (groups_of f d) ≡ true))
  own_there d true is there = absurd (false≢true there)
  own_there d false is there =
      let own = mark_of_row n position d (filter (is_met_now f d) (groups_of f d)) there in
      (unmet d.met_all (list_all (is_met_now f d) (groups_of f d)) is, (own.0, any_among at_position (is_met_now f d) (groups_of f d) own.1))
    where
      unmet : (b c : Bool) → (b || c) ≡ false → b ≡ false
      unmet true c away = absurd (false≢true (sym away))
      unmet false c away = refl

  -- the depend of a mark has a group of its position
  pub mark_has_group : (low : ℕ) (ds : List DependRow) (ws : List Watch) (high : ℕ) → IsRising depend_key low ds high → map depend_key ds ≡ map watch_number ws
      → ((i : ℕ) (d : DependRow) (w : Watch) → slice_get ds i ≡ Some d → slice_get ws i ≡ Some w → d.met_all ≡ false → map group_in w.groups ≡ groups_of f d)
      → list_any (is_mark n position) (met_rows f ds) ≡ true → list_any watches_position (groups_at ws n) ≡ true
  mark_has_group low [] ws high rise same groups there = absurd (false≢true there)
  mark_has_group low (d ∷ ds) [] high rise same groups there = absurd (cc)
  mark_has_group low (d ∷ ds) (w ∷ ws) high rise same groups there =
      by_own (list_any (is_mark n position) (met_rows_of f d)) refl (sym (list_any-append (is_mark n position) (met_rows_of f d) (met_rows f ds)) ∙ there)
      (mark_has_group (d.depend + 1) ds ws high rise.1 tails (λ i e v at_e at_v. groups (suc i) e v at_e at_v))
    where
      heads : d.depend ≡ w.depend
      heads = cc_head d.depend w.depend (map depend_key ds) (map watch_number ws) same where
        cc_head : (a b : ℕ) (xs ys : List ℕ) → a ∷ xs ≡ b ∷ ys → a ≡ b
        cc_head a b xs ys e = cc

      tails : map depend_key ds ≡ map watch_number ws
      tails = cc_tail d.depend w.depend (map depend_key ds) (map watch_number ws) same where
        cc_tail : (a b : ℕ) (xs ys : List ℕ) → a ∷ xs ≡ b ∷ ys → xs ≡ ys
        cc_tail a b xs ys e = cc

      by_number : (b : Bool) → eqb w.depend n ≡ b → list_any watches_position (groups_at ws n) ≡ true → list_any watches_position (cond b w.groups (groups_at ws n)) ≡ true
      by_number true is later =
          absurd (false≢true (sym (ap (list_any watches_position) (no_groups n (d.depend + 1) ds ws high (omega (arith, eqb-true w.depend n is, heads)) rise.1 tails)) ∙ later))
      by_number false is later = later

      by_own : (b : Bool) → list_any (is_mark n position) (met_rows_of f d) ≡ b → (b || list_any (is_mark n position) (met_rows f ds)) ≡ true
          → (list_any (is_mark n position) (met_rows f ds) ≡ true → list_any watches_position (groups_at ws n) ≡ true) → list_any watches_position (cond (eqb w.depend n) w.groups (groups_at ws n)) ≡ true
      by_own true is any later =
          let own = own_there d (settled_row f d).met_all refl is in
          let number : eqb w.depend n ≡ true = ap (λ (m : ℕ). eqb m n) (sym heads) ∙ own.1.0 in
          ap (λ (b : Bool). list_any watches_position (cond b w.groups (groups_at ws n))) number
          ∙ (sym (any_map at_position group_in w.groups) ∙ (ap (list_any at_position) (groups 0 d w refl refl own.0) ∙ own.1.1))
      by_own false is any later = by_number (eqb w.depend n) refl (later any)
