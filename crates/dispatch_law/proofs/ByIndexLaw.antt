-- The order of dispatch is that of the index.
use Rattle.std.proofs.Common.{◌≡◌, ℕ, suc, ◌+◌, ◌%◌, ◌<◌, Bool, true, cond, List, [], ◌∷◌, length, Option, Some, None, refl, sym, ap, subst, ◌∙◌, arith, eqb, ◌&&◌}
use Rattle.std.specs.Cmp.Derive.{both_true}
use Rattle.std.specs.Cmp.Lexicographic.{slice_cmp}
use Rattle.std.specs.List.{slice_get}
use Rattle.std.specs.Ordering.{int_eq}
use Rattle.std.specs.Prelude.{nat_lt, nat_le, not}
use Rattle.std.specs.declared.cmp.Ordering.{Ordering}
use Rattle.std.specs.declared.cmp.Ordering.TheVariants.{Less, Equal, Greater}
use Rattle.std.specs.Ordering.{is_gt, nat_cmp, ordering_then}
use Rattle.std.proofs.lemmas.Bool.{eqb-true, eq-eqb, ltb-true, lt-ltb}
use Rattle.std.proofs.lemmas.Cmp.{ranked as number_ranked}
use Rattle.std.proofs.lemmas.Option.{same_Some, slice_get_within}
use Rattle.farm_types.specs.declared.dispatch.Rank.{Rank}
use Rattle.farm_types.specs.declared.rows.HostRow.{HostRow}
use Rattle.farm_types.specs.declared.rows.JobRow.{JobRow}
use Rattle.farm_types.specs.declared.rows.LayerRow.{LayerRow}
use Rattle.farm_types.specs.declared.rows.SubRow.{SubRow}
use Rattle.farm_types.specs.declared.slot_row.Frame.{Frame}
use Rattle.farm_types.specs.declared.slot_row.SlotRow.{SlotRow}
use Rattle.farm_types.specs.declared.states.FrameState.{FrameState}
use Rattle.farm_types.specs.declared.states.FrameState.TheVariants as frame_state
use Rattle.farm_types.specs.declared.limits.TheConstants.{MOST_ALLOCS, LAST_VERSION, MOST_RETRIES}
use Rattle.farm_types.specs.Booking.{is_waiting}
use Rattle.farm_types.specs.Dispatch.{by_ratio, show_name, rank_cmp, rank_of, ranks_from, with_found, insert_rank, sorted_ranks}
use Rattle.farm_types.specs.Farm.{Farm, for_some, layer_at, sub_at, sub_of, is_placed, layers_of, for_any, layer_in}
use Rattle.farm_types.specs.Kept.{KeepsRows, is_kept_slot, is_kept_frame, is_setup}
use Rattle.farm_types.specs.Ranges.{range_numbers}
use Rattle.farm_types.specs.Step.{lists_of}
use Rattle.farm_types.specs.Sums.{booked_in}
use Rattle.farm_types.proofs.Lists.{and_both, found_is, for_some_true, list_all-at}
use Rattle.farm_types.proofs.Passes.{for_some-there}
use Rattle.farm_law.proofs.FoundSlots.{found_slot, some_slot}
use Rattle.farm_law.proofs.KeptJobsCounts.{at_stands, weight_within}
use Rattle.job_book.specs.Book.{count_in, is_in, number_of}
use Rattle.job_book.specs.Index.{is_ready, slot_of}
use Rattle.dispatch_law.specs.ByIndex.{show_of, subs_to, sub_cmp, sorted_subs, ranks_in_layer, ranks_in_job, ranks_in_show, ranks_by_index}
use Rattle.dispatch_law.proofs.Found.{find_has, filter_has}
use Rattle.dispatch_law.proofs.InLayer.{at_rank, have_rank_at}
use Rattle.dispatch_law.proofs.InShow.{show_strict, in_show, show_has}
use Rattle.dispatch_law.proofs.Keys.{HasKeys, subs_less}
use Rattle.dispatch_law.proofs.RankFacts.{IsRanked, ranked, ranks_have, have_rank}
use Rattle.dispatch_law.proofs.RankOrder.{rank_total}
use Rattle.dispatch_law.proofs.Strict.{Has, IsStrict, AreApart, insert_by, sorted_by, sorted_has, has_sorted, sorted_strict, strict_same, flat_strict, flat_from, flat_has}
use Rattle.dispatch_law.proofs.Subs.{sub_found, sub_to, to_sub, subs_strict}

-- ---- the sorted ranks

insert_same : (f : Farm) (x : Rank) (ys : List Rank) → insert_rank f x ys ≡ insert_by (rank_cmp f) x ys
insert_same f x [] = refl
insert_same f x (y ∷ ys) = ap (λ rest. cond (is_gt (rank_cmp f x y)) (y ∷ rest) (x ∷ y ∷ ys)) (insert_same f x ys)

ranks_same : (f : Farm) (xs : List Rank) → sorted_ranks f xs ≡ sorted_by (rank_cmp f) xs
ranks_same f [] = refl
ranks_same f (x ∷ xs) = ap (insert_rank f x) (ranks_same f xs) ∙ insert_same f x (sorted_by (rank_cmp f) xs)

-- ---- ranks that tie are of one place

rest_ties : (o p : Ordering) → ordering_then o p ≡ Equal → p ≡ Equal
rest_ties Less p e = cc
rest_ties Equal p e = e
rest_ties Greater p e = cc

first_ties : (o p : Ordering) → ordering_then o p ≡ Equal → o ≡ Equal
first_ties Less p e = cc
first_ties Equal p e = refl
first_ties Greater p e = cc

pub record AreTied (a b : Rank) : Type 0 where
  pub job_is : a.job ≡ b.job
  pub layer_is : a.layer ≡ b.layer
  pub position_is : a.position ≡ b.position

number_tie : (x y : ℕ) → nat_cmp x y ≡ Equal → x ≡ y
number_tie x y e = number_ranked x y Equal (sym e)

tied : (f : Farm) (a b : Rank) → rank_cmp f a b ≡ Equal → AreTied a b
tied f a b e =
    let by_frame = ordering_then (nat_cmp a.layer b.layer) (nat_cmp a.position b.position) in
    let by_number = ordering_then (nat_cmp a.job b.job) by_frame in
    let by_job = ordering_then (nat_cmp b.priority a.priority) by_number in
    let names = slice_cmp nat_cmp (show_name f a.show) (show_name f b.show) in
    let e1 : ordering_then names by_job ≡ Equal = rest_ties (by_ratio a.booked a.size b.booked b.size) (ordering_then names by_job) e in
    let e2 : by_job ≡ Equal = rest_ties names by_job e1 in
    let e3 : by_number ≡ Equal = rest_ties (nat_cmp b.priority a.priority) by_number e2 in
    let e4 : by_frame ≡ Equal = rest_ties (nat_cmp a.job b.job) by_frame e3 in
    record {
      job_is = number_tie a.job b.job (first_ties (nat_cmp a.job b.job) by_frame e3);
      layer_is = number_tie a.layer b.layer (first_ties (nat_cmp a.layer b.layer) (nat_cmp a.position b.position) e4);
      position_is = number_tie a.position b.position (rest_ties (nat_cmp a.layer b.layer) (nat_cmp a.position b.position) e4);
    }

module _ (f : Farm) (kept : KeepsRows f) where
  -- two ranked slots of one place are one
  one_slot : (host i k : ℕ) (s t : SlotRow) (a b : Rank) → slice_get f.slots i ≡ Some s → slice_get f.slots k ≡ Some t → IsRanked f host i s a → IsRanked f host k t b → AreTied a b → i ≡ k
  one_slot host i k s t a b at_i at_k x y same =
      let jobs : y.frame.job ≡ x.frame.job = ap (λ (r : Rank). r.job) (sym y.rank_is) ∙ (sym same.job_is ∙ ap (λ (r : Rank). r.job) x.rank_is) in
      let layers : y.frame.layer ≡ x.frame.layer = ap (λ (r : Rank). r.layer) (sym y.rank_is) ∙ (sym same.layer_is ∙ ap (λ (r : Rank). r.layer) x.rank_is) in
      let positions : y.frame.position ≡ x.frame.position = ap (λ (r : Rank). r.position) (sym y.rank_is) ∙ (sym same.position_is ∙ ap (λ (r : Rank). r.position) x.rank_is) in
      kept.jobs.frames_once i k s t x.frame y.frame at_i x.frame_is at_k y.frame_is
      (at_stands x.frame.job x.frame.layer x.frame.position y.frame (record { job_is = jobs; layer_is = layers; position_is = positions }))

  -- no two ranks of the slots tie
  ranks_apart : (host place : ℕ) (ss : List SlotRow) → ((k : ℕ) → slice_get f.slots (place + k) ≡ slice_get ss k) → AreApart (rank_cmp f) (ranks_from f host place ss)
  ranks_apart host place [] same = tt
  ranks_apart host place (s ∷ ss) same =
      let next : (k : ℕ) → slice_get f.slots ((place + 1) + k) ≡ slice_get ss k = λ k. ap (slice_get f.slots) (let e : (place + 1) + k ≡ place + suc k = omega arith in e) ∙ same (suc k) in
      let at : slice_get f.slots place ≡ Some s = ap (slice_get f.slots) (let e : place ≡ place + 0 = omega arith in e) ∙ same 0 in
      first_apart host place s ss (rank_of f host place s) refl at next (ranks_apart host (place + 1) ss next)
    where
      first_apart : (host place : ℕ) (s : SlotRow) (ss : List SlotRow) (o : Option Rank) → rank_of f host place s ≡ o → slice_get f.slots place ≡ Some s → ((k : ℕ) → slice_get f.slots ((place + 1) + k) ≡ slice_get ss k)
          → AreApart (rank_cmp f) (ranks_from f host (place + 1) ss) → AreApart (rank_cmp f) (with_found o (ranks_from f host (place + 1) ss))
      first_apart host place s ss None e at next later = later
      first_apart host place s ss (Some r) e at next later = (
        λ y h tie.
            let got = ranks_have f host (place + 1) ss y h in
            let there_at : slice_get f.slots ((place + 1) + got.slot) ≡ Some got.row = next got.slot ∙ got.at in
            let same_place = one_slot host place ((place + 1) + got.slot) s got.row r y at there_at (ranked f host place s r at e)
            (ranked f host ((place + 1) + got.slot) got.row y there_at got.ranks) (tied f r y tie) in
            omega (arith, same_place),
        later,
      )

  -- ---- a slot's frame

  waiting_is : (state : FrameState) → is_waiting state ≡ true → number_of state ≡ number_of frame_state.Waiting
  waiting_is frame_state.Waiting e = refl
  waiting_is frame_state.Setup e = cc
  waiting_is frame_state.Running e = cc
  waiting_is frame_state.Succeeded e = cc
  waiting_is frame_state.Depend e = cc
  waiting_is frame_state.Dead e = cc
  waiting_is frame_state.Eaten e = cc

  -- a frame that waits counts
  counts : (i job : ℕ) (s : SlotRow) (x : Frame) → slice_get f.slots i ≡ Some s → s.frame ≡ Some x → x.job ≡ job → is_waiting x.state ≡ true → 0 < count_in job frame_state.Waiting f.slots
  counts i job s x at framed of_it waits =
      let test : is_in job frame_state.Waiting x ≡ true = both_true (eq-eqb x.job job of_it) (eq-eqb (number_of x.state) (number_of frame_state.Waiting) (waiting_is x.state waits)) in
      let passes : for_some s.frame (is_in job frame_state.Waiting) ≡ true = for_some-there s.frame (is_in job frame_state.Waiting) x framed test in
      let one : ℕ = 1 in
      let none : ℕ = 0 in
      let weight : cond (for_some s.frame (is_in job frame_state.Waiting)) one none ≡ one = ap (λ (b : Bool). cond b one none) passes in
      let least = weight_within (λ (t : SlotRow). cond (for_some t.frame (is_in job frame_state.Waiting)) one none) f.slots i s at in
      omega (arith, weight, least)

  -- the frame's number stands at its position in its layer's range
  pub in_range : (i : ℕ) (s : SlotRow) (x : Frame) (l : LayerRow) → slice_get f.slots i ≡ Some s → s.frame ≡ Some x → layer_at f x.job x.layer ≡ Some l → x.position < length (range_numbers l.range)
  in_range i s x l at framed layered =
      let slot_test : (nat_le s.version LAST_VERSION && for_any s.frame (is_kept_frame f.layers)) ≡ true = list_all-at (is_kept_slot f.layers) f.slots i s kept.jobs.slots_kept at in
      let frame_test : for_any s.frame (is_kept_frame f.layers) ≡ true = (and_both (nat_le s.version LAST_VERSION) (for_any s.frame (is_kept_frame f.layers)) slot_test).1 in
      let tested : is_kept_frame f.layers x ≡ true = subst (λ (o : Option Frame). for_any o (is_kept_frame f.layers) ≡ true) framed frame_test in
      let ranged = (and_both (for_some (layer_in f.layers x.job x.layer) (λ l. for_some (slice_get (range_numbers l.range) x.position) (λ number. int_eq number x.number)))
      (nat_le x.retries MOST_RETRIES && not (is_setup x.state)) tested).0 in
      let found = for_some_true (layer_in f.layers x.job x.layer) (λ l. for_some (slice_get (range_numbers l.range) x.position) (λ number. int_eq number x.number)) ranged in
      let number = for_some_true (slice_get (range_numbers (found.0).range) x.position) (λ number. int_eq number x.number) found.2 in
      let same : found.0 ≡ l = same_Some found.0 l (sym found.1 ∙ layered) in
      subst (λ (m : LayerRow). x.position < length (range_numbers m.range)) same (slice_get_within (range_numbers (found.0).range) x.position number.0 number.1)

  -- the frame is found at its place
  pub found_there : (i : ℕ) (s : SlotRow) (x : Frame) → slice_get f.slots i ≡ Some s → s.frame ≡ Some x → slot_of (lists_of f) x.job x.layer x.position ≡ Some i
  found_there i s x at framed =
      let itself : is_placed x.job x.layer x.position x ≡ true = at_stands x.job x.layer x.position x (record { job_is = refl; layer_is = refl; position_is = refl }) in
      let passes : for_some s.frame (is_placed x.job x.layer x.position) ≡ true = for_some-there s.frame (is_placed x.job x.layer x.position) x framed itself in
      let first = some_slot (is_placed x.job x.layer x.position) 0 i f.slots s at passes in
      let it = found_slot (is_placed x.job x.layer x.position) f.slots first.0 first.1 in
      first.1 ∙ ap Some (sym (kept.jobs.frames_once i first.0 s it.row x it.frame at framed it.at it.is it.passes))

  module _ (host : ℕ) (row : HostRow) (hosted : slice_get f.hosts host ≡ Some row) where
    abbrev subs_here : List SubRow
    subs_here = sorted_subs f (subs_to f row.alloc)

    -- ---- they rise

    -- a rank for the host under a subscription, and that it is of that subscription
    of_sub : (s : SubRow) (a : Rank) → Has subs_here s → (job : JobRow) → job.show ≡ show_of s → (k : HasKeys f host a) → k.job ≡ job → k.sub ≡ s
    of_sub s a h job shows k job_is =
        let to = sub_to f kept.shows (length f.allocs) kept.subs row.alloc s h in
        let rows : k.row ≡ row = same_Some k.row row (sym k.row_is ∙ hosted) in
        let shown : k.job.show ≡ show_of s = ap (λ (j : JobRow). j.show) job_is ∙ shows in
        let alloc = to.alloc_is in
        let number : sub_of (show_of s) row.alloc ≡ s.sub = omega (arith, alloc) in
        let at : sub_of k.job.show k.row.alloc ≡ s.sub = ap (λ n. sub_of n k.row.alloc) shown ∙ (ap (λ (h : HostRow). sub_of (show_of s) h.alloc) rows ∙ number) in
        same_Some k.sub s (sym k.sub_is ∙ (ap (sub_at f) at ∙ sub_found f kept.shows (length f.allocs) kept.subs s to.there))

    subs_apart_less : (s t : SubRow) (a b : Rank) → Has subs_here s → Has subs_here t → sub_cmp f s t ≡ Less → Has (ranks_in_show f host (show_of s)) a → Has (ranks_in_show f host (show_of t)) b → rank_cmp f a b ≡ Less
    subs_apart_less s t a b sh th less ah bh =
        let x = in_show f host (length f.shows) kept.jobs (show_of s) a ah in
        let y = in_show f host (length f.shows) kept.jobs (show_of t) b bh in
        let k = x.of_it.keys in
        let m = y.of_it.keys in
        let ks : k.sub ≡ s = of_sub s a sh x.job x.ready.show_is k x.of_it.job_is in
        let mt : m.sub ≡ t = of_sub t b th y.job y.ready.show_is m y.of_it.job_is in
        let booked_a : booked_in f s.sub ≡ a.booked = ap (λ (z : SubRow). booked_in f z.sub) (sym ks) ∙ sym k.booked_is in
        let size_a : s.size ≡ a.size = ap (λ (z : SubRow). z.size) (sym ks) ∙ sym k.size_is in
        let show_a : show_of s ≡ a.show = sym x.ready.show_is ∙ (ap (λ (j : JobRow). j.show) (sym x.of_it.job_is) ∙ sym k.show_is) in
        let booked_b : booked_in f t.sub ≡ b.booked = ap (λ (z : SubRow). booked_in f z.sub) (sym mt) ∙ sym m.booked_is in
        let size_b : t.size ≡ b.size = ap (λ (z : SubRow). z.size) (sym mt) ∙ sym m.size_is in
        let show_b : show_of t ≡ b.show = sym y.ready.show_is ∙ (ap (λ (j : JobRow). j.show) (sym y.of_it.job_is) ∙ sym m.show_is) in
        subs_less f a b
        (subst (λ n. ordering_then (by_ratio n a.size b.booked b.size) (slice_cmp nat_cmp (show_name f a.show) (show_name f b.show)) ≡ Less) booked_a
        (subst (λ n. ordering_then (by_ratio (booked_in f s.sub) n b.booked b.size) (slice_cmp nat_cmp (show_name f a.show) (show_name f b.show)) ≡ Less) size_a
        (subst (λ n. ordering_then (by_ratio (booked_in f s.sub) s.size n b.size) (slice_cmp nat_cmp (show_name f a.show) (show_name f b.show)) ≡ Less) booked_b
        (subst (λ n. ordering_then (by_ratio (booked_in f s.sub) s.size (booked_in f t.sub) n) (slice_cmp nat_cmp (show_name f a.show) (show_name f b.show)) ≡ Less) size_b
        (subst (λ n. ordering_then (by_ratio (booked_in f s.sub) s.size (booked_in f t.sub) t.size) (slice_cmp nat_cmp (show_name f n) (show_name f b.show)) ≡ Less) show_a
        (subst (λ n. ordering_then (by_ratio (booked_in f s.sub) s.size (booked_in f t.sub) t.size) (slice_cmp nat_cmp (show_name f (show_of s)) (show_name f n)) ≡ Less) show_b less))))))

    index_strict : IsStrict (rank_cmp f) (ranks_by_index f host row.alloc)
    index_strict =
        flat_strict (rank_cmp f) (sub_cmp f) (λ (s : SubRow). ranks_in_show f host (show_of s)) subs_here (subs_strict f kept.shows (length f.allocs) kept.subs row.alloc)
        (λ s h. show_strict f host (length f.shows) kept.jobs (show_of s))
        (λ s t sh th less a b ah bh. subs_apart_less s t a b sh th less ah bh)

    -- ---- each is of a slot

    index_ranks : (r : Rank) → Has (ranks_by_index f host row.alloc) r → Has (ranks_from f host 0 f.slots) r
    index_ranks r h =
        let from = flat_from (λ (s : SubRow). ranks_in_show f host (show_of s)) subs_here r h in
        let x = in_show f host (length f.shows) kept.jobs (show_of from.from) r from.within in
        let it = x.within.within.found in
        have_rank f host 0 f.slots it.slot it.row r it.at (ap (λ n. rank_of f host n it.row) (let e : 0 + it.slot ≡ it.slot = omega arith in e) ∙ it.rank_is)

    -- ---- each slot's is there

    ranks_index : (r : Rank) → Has (ranks_from f host 0 f.slots) r → Has (ranks_by_index f host row.alloc) r
    ranks_index r h =
        let got = ranks_have f host 0 f.slots r h in
        let i = got.slot in
        let s = got.row in
        let rank_is : rank_of f host i s ≡ Some r = ap (λ n. rank_of f host n s) (let e : i ≡ 0 + i = omega arith in e) ∙ got.ranks in
        let has = ranked f host i s r got.at rank_is in
        let x = has.frame in
        let rows : has.row ≡ row = same_Some has.row row (sym has.row_is ∙ hosted) in
        -- its job
        let job_found : has.job.job ≡ x.job = eqb-true has.job.job x.job (found_is (λ (j : JobRow). eqb j.job x.job) f.jobs has.job has.job_is) in
        let job_there = find_has (λ (j : JobRow). eqb j.job x.job) f.jobs has.job has.job_is in
        -- its subscription
        let sub_there = find_has (λ (z : SubRow). eqb z.sub (sub_of has.job.show has.row.alloc)) f.subs has.sub has.sub_is in
        let sub_number : has.sub.sub ≡ sub_of has.job.show has.row.alloc =
        eqb-true has.sub.sub (sub_of has.job.show has.row.alloc) (found_is (λ (z : SubRow). eqb z.sub (sub_of has.job.show has.row.alloc)) f.subs has.sub has.sub_is) in
        let alloc_same : has.row.alloc ≡ row.alloc = ap (λ (z : HostRow). z.alloc) rows in
        let alloc_there : row.alloc < length f.allocs =
        ltb-true row.alloc (length f.allocs) (list_all-at (λ (z : HostRow). nat_lt z.alloc (length f.allocs)) f.hosts host row kept.hosts.allocated hosted) in
        let alloc_count = kept.allocs.count in
        let alloc_is : has.sub.sub % MOST_ALLOCS ≡ row.alloc = omega (arith, sub_number, alloc_same, alloc_there, alloc_count) in
        let show_is : has.job.show ≡ show_of has.sub = omega (arith, sub_number, alloc_same, alloc_there, alloc_count) in
        -- its layer
        let layer_test = found_is (λ (l : LayerRow). eqb l.job x.job && eqb l.place x.layer) f.layers has.layer has.layer_is in
        let layer_both = and_both (eqb has.layer.job x.job) (eqb has.layer.place x.layer) layer_test in
        let layer_job : has.layer.job ≡ x.job = eqb-true has.layer.job x.job layer_both.0 in
        let layer_place : has.layer.place ≡ x.layer = eqb-true has.layer.place x.layer layer_both.1 in
        let layer_there = find_has (λ (l : LayerRow). eqb l.job x.job && eqb l.place x.layer) f.layers has.layer has.layer_is in
        let layer_of_job = filter_has (λ (l : LayerRow). eqb l.job has.job.job) f.layers has.layer layer_there (eq-eqb has.layer.job has.job.job (layer_job ∙ sym job_found)) in
        -- its position
        let within = in_range i s x has.layer got.at has.frame_is has.layer_is in
        let placed : slot_of (lists_of f) has.layer.job has.layer.place x.position ≡ Some i =
        ap (λ n. slot_of (lists_of f) n has.layer.place x.position) layer_job ∙ (ap (λ n. slot_of (lists_of f) x.job n x.position) layer_place ∙ found_there i s x got.at has.frame_is) in
        let at_position = at_rank f host has.layer.job has.layer.place x.position i s r placed got.at rank_is in
        let in_layer : Has (ranks_in_layer f host has.layer) r =
        have_rank_at f host has.layer.job has.layer.place 0 (length (range_numbers has.layer.range)) x.position r at_position (omega arith) (omega (arith, within)) in
        let in_job : Has (ranks_in_job f host has.job.job) r = flat_has (ranks_in_layer f host) (layers_of f.layers has.job.job) has.layer r layer_of_job in_layer in
        -- its show
        let waits = counts i has.job.job s x got.at has.frame_is (sym job_found) has.waits in
        let ready : is_ready (lists_of f) (show_of has.sub) has.job ≡ true =
        both_true (eq-eqb has.job.show (show_of has.sub) show_is) (both_true has.pending (lt-ltb 0 (count_in has.job.job frame_state.Waiting f.slots) waits)) in
        let in_show : Has (ranks_in_show f host (show_of has.sub)) r = show_has f host (length f.shows) kept.jobs (show_of has.sub) has.job r job_there ready in_job in
        flat_has (λ (z : SubRow). ranks_in_show f host (show_of z)) subs_here has.sub r
        (to_sub f kept.shows (length f.allocs) kept.subs row.alloc has.sub sub_there (eq-eqb (has.sub.sub % MOST_ALLOCS) row.alloc alloc_is)) in_show

    -- ---- the law

    -- the order of dispatch is the one that the index lists
    pub index_is_sorted : ranks_by_index f host row.alloc ≡ sorted_ranks f (ranks_from f host 0 f.slots)
    index_is_sorted =
        let all = ranks_from f host 0 f.slots in
        let apart = ranks_apart host 0 f.slots (λ k. ap (slice_get f.slots) (let e : 0 + k ≡ k = omega arith in e)) in
        strict_same (rank_cmp f) (rank_total f) (ranks_by_index f host row.alloc) (sorted_by (rank_cmp f) all) index_strict (sorted_strict (rank_cmp f) (rank_total f) all apart)
        (λ r h. has_sorted (rank_cmp f) all r (index_ranks r h)) (λ r h. ranks_index r (sorted_has (rank_cmp f) all r h))
        ∙ sym (ranks_same f all)
