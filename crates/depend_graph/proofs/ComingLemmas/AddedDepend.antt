-- A depend is added behind all others.
use Rattle.std.proofs.Common.{◌≡◌, ◌≢◌, ◌≤◌, ◌<◌, ◌^◌, ◌*◌, ℕ, zero, suc, ◌+◌, Bool, true, false, cond, eqb, List, [], ◌∷◌, ◌++◌, map, length, Some, refl, sym, ap, subst, ◌∙◌, arith, length-append}
use Rattle.std.specs.Prelude.{◌&&◌, ◌||◌}
use Rattle.std.specs.List.{slice_get, count_by, list_any, All}
use Rattle.std.proofs.lemmas.Bool.{eq-eqb, false≢true}
use Rattle.std.proofs.lemmas.List.{length-map}
use Rattle.std.proofs.lemmas.List.Sums.{length-filter, sum_by_push}
use Rattle.std.proofs.lemmas.Option.{none-some, same_Some, slice_get-map}
use Rattle.farm_types.specs.declared.depend.Group.{Group}
use Rattle.farm_types.specs.declared.limits.TheConstants.{MOST_DEPENDS, MOST_GROUPS}
use Rattle.farm_types.specs.Sums.{total_at}
use Rattle.farm_types.proofs.Changed.{appended_each}
use Rattle.farm_types.proofs.Passes.{option_map-from}
use Rattle.depend_edges.specs.Aims.{aims_from}
use Rattle.depend_edges.specs.Groups.{IsGroup}
use Rattle.depend_edges.specs.Listed.{IsListed, ListedLists, aim_of, has_number, is_enough, is_there, is_unmet}
use Rattle.depend_edges.specs.Ways.{edge_lists, edges_in}
use Rattle.depend_edges.specs.declared.links.Edge.{Edge}
use Rattle.depend_edges.specs.declared.listed.Count.{Count}
use Rattle.depend_edges.proofs.Counts.{count_by-push}
use Rattle.depend_edges.proofs.Targets.{are_done_by, edges_counted, group_at, targets_in}
use Rattle.depend_graph.specs.Added.{count_for, held_in, is_lacking}
use Rattle.depend_graph.specs.Graph.{CanAdd, Watch, Watched, groups_left, is_flagged, unmet_in, unmet_of, watched}
use Rattle.depend_graph.specs.Inside.{KeepsDepends, KeepsSums, there_of, watches}
use Rattle.depend_graph.specs.Marked.{marked_counts, marked_watch, marked_with}
use Rattle.depend_graph.specs.Watches.{KeepsCounts, watch_by, watched_with}
use Rattle.depend_graph.proofs.GoingLemmas.Fewer.{unmet_low}
use Rattle.depend_graph.proofs.ComingLemmas.Held.{held_in_long, held_in_total}
use Rattle.depend_graph.proofs.GoingLemmas.Thinned.{there_left}
use Rattle.depend_graph.proofs.ProgressLemmas.Unchanged.{numbers_any}
use Rattle.depend_graph.proofs.ProgressLemmas.Watches.{satisfied_by, weight_of}

-- ---- lists with one more behind

map-push : {X Y : Type 0} (read : X → Y) (xs : List X) (x : X) → map read (xs ++ x ∷ []) ≡ map read xs ++ read x ∷ []
map-push read [] x = refl
map-push {Y = Y} read (y ∷ ys) x = ap (λ (zs : List Y). read y ∷ zs) (map-push read ys x)

pub watches_push : (ds : List ListedLists) (l : ListedLists) → watches (ds ++ l ∷ []) ≡ watches ds ++ watch_by l ∷ []
watches_push ds l = map-push watch_by ds l

pub there_push : (ds : List ListedLists) (l : ListedLists) → is_there l ≡ true → watches (there_of (ds ++ l ∷ [])) ≡ watches (there_of ds) ++ watch_by l ∷ []
there_push [] l there = ap (λ m. watches (cond m (l ∷ []) [])) there
there_push (d ∷ ds) l there = by_mark (is_there d) (there_push ds l there) where
  by_mark : (m : Bool) → watches (there_of (ds ++ l ∷ [])) ≡ watches (there_of ds) ++ watch_by l ∷ [] → watches (cond m (d ∷ there_of (ds ++ l ∷ [])) (there_of (ds ++ l ∷ []))) ≡ watches (cond m (d ∷ there_of ds) (there_of ds)) ++ watch_by l ∷ []
  by_mark true more = ap (λ (ws : List Watch). watch_by d ∷ ws) more
  by_mark false more = more

pub edge_lists_push : (ds : List ListedLists) (l : ListedLists) → edge_lists (ds ++ l ∷ []) ≡ edge_lists ds ++ l.edges ∷ []
edge_lists_push ds l = map-push edges_in ds l

pub none_at : {X : Type 0} (test : X → Bool) (xs : List X) (p : ℕ) (x : X) → list_any test xs ≡ false → slice_get xs p ≡ Some x → test x ≡ true → ⊥
none_at test [] p x none at passes = none-some x at
none_at {X} test (y ∷ ys) zero x none at passes = false≢true (sym none ∙ (ap (λ b. b || list_any test ys) (ap test (same_Some y x at) ∙ passes)))
none_at test (y ∷ ys) (suc p) x none at passes = none_at test ys p x (rest (test y) (list_any test ys) none) at passes where
  rest : (a b : Bool) → (a || b) ≡ false → b ≡ false
  rest true b is = absurd (false≢true (sym is))
  rest false b is = is

-- how many weren't forgotten
pub there_long : (ds : List ListedLists) → length (watches (there_of ds)) ≡ count_by is_there ds
there_long ds = length-map (there_of ds) watch_by ∙ length-filter is_there ds

-- ---- marks

marked_long : (cs : List Count) (ms : List Bool) → length (marked_counts cs ms) ≡ length cs
marked_long [] ms = refl
marked_long (c ∷ cs) [] = refl
marked_long (c ∷ cs) (m ∷ ms) = omega (arith, marked_long cs ms)

pub marked_none : (ws : List Watched) → marked_with ws [] ≡ ws
marked_none [] = refl
marked_none (w ∷ ws) = refl

pub watches_marked : (ws : List Watched) (ms : List Bool) → length (marked_with ws ms) ≡ length ws
watches_marked [] ms = refl
watches_marked (w ∷ ws) [] = refl
watches_marked (w ∷ ws) (m ∷ ms) = omega (arith, watches_marked ws ms)

pub counts_long : (done : List Bool) (gs : List Group) (ms : List Bool) → length (marked_counts (map (count_for done) gs) ms) ≡ length gs
counts_long done gs ms = marked_long (map (count_for done) gs) ms ∙ length-map gs (count_for done)

-- a count that may be marked lacks as many targets, and is met where it was
pub record IsOr (old new : Count) : Type 0 where
  pub undone : old.undone ≡ new.undone
  pub stays : old.met ≡ true → new.met ≡ true

same_or : (c d : Count) → c ≡ d → IsOr c d
same_or c d same = record { undone = ap (λ (x : Count). x.undone) same; stays = λ met. ap (λ (x : Count). x.met) (sym same) ∙ met }

met_or : (b m : Bool) → b ≡ true → (b || m) ≡ true
met_or true m met = refl
met_or false m met = absurd (false≢true met)

marked_at : (cs : List Count) (ms : List Bool) (k : ℕ) (c : Count) → slice_get (marked_counts cs ms) k ≡ Some c → (x : Count) × (slice_get cs k ≡ Some x) × IsOr x c
marked_at [] ms k c at = absurd (none-some c at)
marked_at (x ∷ xs) [] k c at = (c, at, same_or c c refl)
marked_at (x ∷ xs) (m ∷ ms) zero c at =
    let same : record x { met = x.met || m } ≡ c = same_Some (record x { met = x.met || m }) c at in
    (x, refl, record { undone = ap (λ (y : Count). y.undone) same; stays = λ met. ap (λ (y : Count). y.met) (sym same) ∙ met_or x.met m met })
marked_at (x ∷ xs) (m ∷ ms) (suc k) c at = marked_at xs ms k c at

-- ---- the depend that is added

module _ (done : List Bool) (depend : ℕ) (gs : List Group) (ms : List Bool) (edges : List Edge) (aims : map aim_of edges ≡ aims_from 0 gs) (within : length edges < 2 ^ 32) where
  abbrev pub counts_of : List Count
  counts_of = marked_counts (map (count_for done) gs) ms

  abbrev pub added : ListedLists
  added = record { depend = depend; groups = gs; counts = counts_of; edges = edges; unmet = count_by is_unmet counts_of; gone = false }

  counted : length added.counts ≡ length gs
  counted = counts_long done gs ms

  unmarked : (xs : List Group) → watched_with xs (map (count_for done) xs) ≡ map (watched done) xs
  unmarked [] = refl
  unmarked (g ∷ xs) = λ i. record { group = g; met = sym (are_done_by (is_flagged done) g) i } ∷ unmarked xs i

  marks : (xs : List Group) (bs : List Bool) → watched_with xs (marked_counts (map (count_for done) xs) bs) ≡ marked_with (map (watched done) xs) bs
  marks [] bs = refl
  marks (g ∷ xs) [] = unmarked (g ∷ xs)
  marks (g ∷ xs) (b ∷ bs) = λ i. record { group = g; met = sym (are_done_by (is_flagged done) g) i || b } ∷ marks xs bs i

  pub added_watch : watch_by added ≡ marked_watch done depend gs ms
  added_watch = λ i. record { depend = depend; groups = marks gs ms i }

  pub added_listed : All IsGroup gs → length gs ≤ MOST_GROUPS → IsListed added
  added_listed each few = record { counted = counted; aims = aims; edges_within = within; groups_within = few; each = each; unmet_kept = refl }

  count_is : (k : ℕ) (c : Count) → slice_get added.counts k ≡ Some c → (g : Group) × (slice_get gs k ≡ Some g) × IsOr (count_for done g) c
  count_is k c at =
      let x = marked_at (map (count_for done) gs) ms k c at in
      let g = option_map-from (count_for done) (slice_get gs k) x.0 (sym (slice_get-map (count_for done) gs k) ∙ x.1) in
      (g.0, g.1, subst (λ (y : Count). IsOr y c) (sym g.2) x.2)

  pub added_counts : KeepsCounts done added
  added_counts =
      record {
        undone_kept = λ k c at.
            let x = count_is k c at in
            sym x.2.undone ∙ sym (edges_counted edges gs k (is_lacking done) aims ∙ ap (targets_in (is_lacking done)) x.1);
        met_kept = λ k g c at_group at_count enough.
            let x = count_is k c at_count in
            let same : x.0 ≡ g = same_Some x.0 g (sym x.1 ∙ at_group) in
            x.2.stays ((λ i. is_enough (same i) (x.2.undone i)) ∙ enough);
      }

  module _ (ds : List ListedLists) (unmet : List ℕ) (left : ℕ) (depends : KeepsDepends ds) (sums : KeepsSums unmet left ds) (flags : List Bool)
      (can : CanAdd (record { done = flags; depends = watches (there_of ds) }) depend gs) (places : length ds < 2 * MOST_DEPENDS)
    where
      few : length gs ≤ MOST_GROUPS
      few = omega (arith, can.groups_within)

      fits : groups_left (watches ds) + length gs ≤ MOST_GROUPS
      fits = omega (arith, there_left ds depends, can.groups_within)

      pub push_counts : ((p : ℕ) (d : ListedLists) → slice_get ds p ≡ Some d → KeepsCounts done d) → (p : ℕ) (d : ListedLists) → slice_get (ds ++ added ∷ []) p ≡ Some d → KeepsCounts done d
      push_counts kept = appended_each (λ p d. KeepsCounts done d) ds added kept added_counts

      other_number : (p : ℕ) (d : ListedLists) → slice_get ds p ≡ Some d → is_there d ≡ true → d.depend ≢ depend
      other_number p d at there = λ same. none_at (has_number depend) ds p d (sym (numbers_any depend ds) ∙ can.new) at (λ i. there i && eq-eqb d.depend depend same i)

      pub push_depends : KeepsDepends (ds ++ added ∷ [])
      push_depends =
          record {
            listed = appended_each (λ p d. IsListed d) ds added depends.listed (added_listed can.each few);
            gone_empty = appended_each (λ p d. d.gone ≡ true → d.groups ≡ []) ds added depends.gone_empty (λ gone. absurd (false≢true gone));
            numbers_differ = λ p q d e at_d at_e.
                appended_each (λ n x. slice_get (ds ++ added ∷ []) q ≡ Some e → is_there x ≡ true → is_there e ≡ true → x.depend ≡ e.depend → n ≡ q) ds added
                (λ n x at_x at_q. appended_each (λ m y. is_there x ≡ true → is_there y ≡ true → x.depend ≡ y.depend → n ≡ m) ds added (λ m y at_y there_x there_y same. depends.numbers_differ n m x y at_x at_y there_x there_y same)
                (λ there_x there_y same. absurd (other_number n x at_x there_x same)) q e at_q)
                (λ at_q. appended_each (λ m y. is_there added ≡ true → is_there y ≡ true → depend ≡ y.depend → length ds ≡ m) ds added (λ m y at_y there_x there_y same. absurd (other_number m y at_y there_y (sym same)))
                (λ there_x there_y same. refl) q e at_q)
                p d at_d at_e;
            count_within = omega (arith, count_by-push is_there ds added, there_long ds, can.room);
            places_within = omega (arith, length-append ds (added ∷ []), places);
          }

      weight_by : (b : Bool) → eqb added.unmet 0 ≡ b → cond b left (left + length gs) ≡ left + cond b 0 (length gs)
      weight_by true is = omega arith
      weight_by false is = refl

      weight_is : weight_of (watch_by added) ≡ cond (eqb added.unmet 0) 0 (length gs)
      weight_is =
          ap (λ b. cond b 0 (length (watched_with gs added.counts))) (satisfied_by added counted refl)
          ∙ ap (cond (eqb added.unmet 0) 0) (ap (λ (ws : List Watched). length ws) (marks gs ms) ∙ (watches_marked (map (watched done) gs) ms ∙ length-map gs (watched done)))

      pub push_sums : KeepsSums (held_in unmet gs added.counts) (cond (eqb added.unmet 0) left (left + length gs)) (ds ++ added ∷ [])
      push_sums =
          record {
            unmet_kept = λ s.
                let low : (t : ℕ) → total_at unmet t + length gs ≤ 4294967295 = λ t. omega (arith, sums.unmet_kept t, unmet_low t (watches ds), sums.left_kept, fits) in
                held_in_total unmet gs added.counts s (group_at gs can.each) sums.unmet_counted low
                ∙ (ap (λ n. n + unmet_in s (watch_by added)) (sums.unmet_kept s)
                ∙ (sym (sum_by_push (unmet_in s) (watches ds) (watch_by added)) ∙ ap (λ (ws : List Watch). unmet_of ws s) (sym (watches_push ds added))));
            unmet_counted = held_in_long unmet gs added.counts ∙ sums.unmet_counted;
            left_kept =
                weight_by (eqb added.unmet 0) refl
                ∙ ((λ i. sums.left_kept i + sym weight_is i)
                ∙ (sym (sum_by_push weight_of (watches ds) (watch_by added)) ∙ ap groups_left (sym (watches_push ds added))));
            left_within = at_most (eqb added.unmet 0) (omega (arith, sums.left_kept, fits));
          }
        where
          at_most : (b : Bool) → left + length gs ≤ MOST_GROUPS → cond b left (left + length gs) ≤ MOST_GROUPS
          at_most true fits = omega arith
          at_most false fits = fits
