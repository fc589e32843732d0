-- Frames are done one after the other: the flags and the groups of the graph after them, whatever their order.
use Rattle.std.proofs.Common.{◌≡◌, ◌≢◌, ℕ, suc, ◌<◌, Bool, true, false, cond, ◌||◌, eqb, List, [], ◌∷◌, map, length, Option, Some, refl, sym, ap, subst, ◌∙◌, ◌⊎◌, inl, inr}
use Rattle.std.specs.List.{list_any, slice_get, slice_set}
use Rattle.std.proofs.Math.ListN.{length-set}
use Rattle.std.proofs.lemmas.Bool.{and_from, and_parts, eq-eqb, ne_eqb, false≢true, or_left, or_right}
use Rattle.farm_types.specs.declared.depend.Group.{Group}
use Rattle.farm_types.specs.Depends.{are_done}
use Rattle.farm_types.specs.Farm.{for_some}
use Rattle.farm_types.proofs.Changed.{places, slice_get-set_other, slice_get-set_same}
use Rattle.farm_types.proofs.Lists.{slice_get_below}
use Rattle.depend_graph.specs.Graph.{GraphLists, Watch, Watched, completed, completed_in, is_completed, is_flagged, with_all_done, with_done}
use Rattle.farm_depends.specs.Follow.{is_listed}
use Rattle.depend_law.proofs.Fewer.{are_done_more}
use Rattle.depend_law.proofs.Stable.{list_all-same}
use Rattle.depend_book.proofs.OneCleared.{flagged_within}
use Rattle.depend_book.proofs.Zips.{list_any-alike, list_any-at, map_in_turn, map_kept, or_none}

-- ---- flags

-- the flags once these are done
abbrev pub flags_after : List Bool → List ℕ → List Bool
flags_after flags [] = flags
flags_after flags (s ∷ ss) = flags_after (slice_set flags s true) ss

pub length-flags_after : (flags : List Bool) (done : List ℕ) → length (flags_after flags done) ≡ length flags
length-flags_after flags [] = refl
length-flags_after flags (s ∷ ss) = length-flags_after (slice_set flags s true) ss ∙ length-set flags s true

flag_other : (flags : List Bool) (s slot : ℕ) → slot ≢ s → is_flagged (slice_set flags s true) slot ≡ is_flagged flags slot
flag_other flags s slot apart = ap (λ (o : Option Bool). for_some o (λ flag. flag)) (slice_get-set_other flags s slot true apart)

flag_here : (flags : List Bool) (s : ℕ) → s < length flags → is_flagged (slice_set flags s true) s ≡ true
flag_here flags s within =
    let there = slice_get_below flags s within in
    ap (λ (o : Option Bool). for_some o (λ flag. flag)) (slice_get-set_same flags s there.0 true there.1)

pub flag_set : (flags : List Bool) (s slot : ℕ) → s < length flags → (slot ≡ s) ⊎ (slot ≢ s) → is_flagged (slice_set flags s true) slot ≡ (is_flagged flags slot || eqb s slot)
flag_set flags s slot within (inl e) =
    ap (is_flagged (slice_set flags s true)) e ∙ (flag_here flags s within ∙ sym (or_right (is_flagged flags slot) (eqb s slot) (eq-eqb s slot (sym e))))
flag_set flags s slot within (inr apart) =
    flag_other flags s slot apart ∙ sym (ap (λ (b : Bool). is_flagged flags slot || b) (ne_eqb s slot (λ e. apart (sym e))) ∙ or_none (is_flagged flags slot))

flag_more : (flags : List Bool) (s slot : ℕ) → (slot ≡ s) ⊎ (slot ≢ s) → is_flagged flags slot ≡ true → is_flagged (slice_set flags s true) slot ≡ true
flag_more flags s slot (inl e) is =
    ap (is_flagged (slice_set flags s true)) e ∙ flag_here flags s (subst (λ (n : ℕ). n < length flags) e (flagged_within flags slot (slice_get flags slot) refl is))
flag_more flags s slot (inr apart) is = flag_other flags s slot apart ∙ is

flags_more : (flags : List Bool) (done : List ℕ) (slot : ℕ) → is_flagged flags slot ≡ true → is_flagged (flags_after flags done) slot ≡ true
flags_more flags [] slot is = is
flags_more flags (s ∷ ss) slot is = flags_more (slice_set flags s true) ss slot (flag_more flags s slot (places slot s) is)

or_assoc : (a b c : Bool) → ((a || b) || c) ≡ (a || (b || c))
or_assoc true b c = refl
or_assoc false b c = refl

-- exactly these are done that weren't, and those that were
pub flags_are : (flags : List Bool) (done : List ℕ) (slot : ℕ) → ((k s : ℕ) → slice_get done k ≡ Some s → s < length flags) → is_flagged (flags_after flags done) slot ≡ (is_flagged flags slot || is_listed done slot)
flags_are flags [] slot within = sym (or_none (is_flagged flags slot))
flags_are flags (s ∷ ss) slot within =
    flags_are (slice_set flags s true) ss slot (λ k t at. subst (λ (n : ℕ). t < n) (sym (length-set flags s true)) (within (suc k) t at))
    ∙ (ap (λ (b : Bool). b || is_listed ss slot) (flag_set flags s slot (within 0 s refl) (places slot s)) ∙ or_assoc (is_flagged flags slot) (eqb s slot) (is_listed ss slot))

-- ---- targets

-- the same are done
pub are_done_alike : (p q : ℕ → Bool) (g : Group) → ((k t : ℕ) → slice_get g.targets k ≡ Some t → p t ≡ q t) → are_done p g ≡ are_done q g
are_done_alike p q g same = λ i. cond g.any (list_any-alike p q g.targets same i) (list_all-same p q g.targets same i)

none_at : (s : ℕ) (ts : List ℕ) → list_any (λ t. eqb t s) ts ≡ false → (k t : ℕ) → slice_get ts k ≡ Some t → t ≢ s
none_at s ts none k t at e = false≢true (sym none ∙ list_any-at (λ t. eqb t s) ts k t at (eq-eqb t s e))

-- a frame that isn't among the targets
untouched : (flags : List Bool) (s : ℕ) (g : Group) → list_any (λ t. eqb t s) g.targets ≡ false → are_done (is_flagged (slice_set flags s true)) g ≡ are_done (is_flagged flags) g
untouched flags s g none =
    are_done_alike (is_flagged (slice_set flags s true)) (is_flagged flags) g (λ k t at. flag_other flags s t (none_at s g.targets none k t at))

-- ---- groups

-- whether the group is met once these are done
abbrev pub met_after : List Bool → List ℕ → Group → Bool → Bool
met_after flags [] g met = met
met_after flags (s ∷ ss) g met = met_after (slice_set flags s true) ss g (met || is_completed (slice_set flags s true) s g)

absorbed : (m a : Bool) → (a ≡ true → m ≡ true) → m ≡ (m || a)
absorbed true a h = refl
absorbed false true h = h refl
absorbed false false h = refl

dropped_or : (m c a : Bool) → (c ≡ true → a ≡ true) → ((m || c) || a) ≡ (m || a)
dropped_or true c a h = refl
dropped_or false true a h = sym (h refl)
dropped_or false false a h = refl

-- where its targets are done now, the group is completed, or it was met before
closed_by : (flags : List Bool) (s : ℕ) (g : Group) (met b : Bool) → list_any (λ t. eqb t s) g.targets ≡ b → (are_done (is_flagged flags) g ≡ true → met ≡ true)
    → are_done (is_flagged (slice_set flags s true)) g ≡ true → (met || is_completed (slice_set flags s true) s g) ≡ true
closed_by flags s g met true is closed now = or_right met (is_completed (slice_set flags s true) s g) (and_from (list_any (λ t. eqb t s) g.targets) (are_done (is_flagged (slice_set flags s true)) g) is now)
closed_by flags s g met false is closed now = or_left met (is_completed (slice_set flags s true) s g) (closed (sym (untouched flags s g is) ∙ now))

-- Once these are done, it is met where it was, or where its targets are done then. Their order doesn't matter.
pub met_after_is : (flags : List Bool) (done : List ℕ) (g : Group) (met : Bool) → (are_done (is_flagged flags) g ≡ true → met ≡ true) → met_after flags done g met ≡ (met || are_done (is_flagged (flags_after flags done)) g)
met_after_is flags [] g met closed = absorbed met (are_done (is_flagged flags) g) closed
met_after_is flags (s ∷ ss) g met closed =
    let next = slice_set flags s true in
    met_after_is next ss g (met || is_completed next s g) (closed_by flags s g met (list_any (λ t. eqb t s) g.targets) refl closed)
    ∙ dropped_or met (is_completed next s g) (are_done (is_flagged (flags_after next ss)) g)
    (λ h. are_done_more (is_flagged next) (is_flagged (flags_after next ss)) g (λ slot is. flags_more next ss slot is) (and_parts (list_any (λ t. eqb t s) g.targets) (are_done (is_flagged next) g) h).1)

-- what was met stays so
pub met_stays : (flags : List Bool) (done : List ℕ) (g : Group) (met : Bool) → met ≡ true → met_after flags done g met ≡ true
met_stays flags [] g met is = is
met_stays flags (s ∷ ss) g met is = met_stays (slice_set flags s true) ss g (met || is_completed (slice_set flags s true) s g) (or_left met (is_completed (slice_set flags s true) s g) is)

-- ---- depends

abbrev pub watched_after : List Bool → List ℕ → Watched → Watched
watched_after flags done x = record { group = x.group; met = met_after flags done x.group x.met }

abbrev pub watch_after : List Bool → List ℕ → Watch → Watch
watch_after flags done w = record w { groups = map (watched_after flags done) w.groups }

or_true : (b : Bool) → (b || true) ≡ true
or_true true = refl
or_true false = refl

completed_is : (x : Watched) (b : Bool) → cond b (record x { met = true }) x ≡ record x { met = x.met || b }
completed_is x true = ap (λ (m : Bool). record x { met = m }) (sym (or_true x.met))
completed_is x false = ap (λ (m : Bool). record x { met = m }) (sym (or_none x.met))

one_after : (flags : List Bool) (s : ℕ) (ss : List ℕ) (w : Watch) → watch_after (slice_set flags s true) ss (completed_in (slice_set flags s true) s w) ≡ watch_after flags (s ∷ ss) w
one_after flags s ss w =
    let next = slice_set flags s true in
    ap (λ (xs : List Watched). record w { groups = xs })
    (map_in_turn (watched_after next ss) (completed next s) (watched_after flags (s ∷ ss)) (λ x. ap (watched_after next ss) (completed_is x (is_completed next s x.group))) w.groups)

-- the graph once these are done
pub depends_after : (g : GraphLists) (done : List ℕ) → (with_all_done g done).depends ≡ map (watch_after g.done done) g.depends
depends_after g [] =
    sym (map_kept (watch_after g.done []) (λ w. ap (λ (xs : List Watched). record w { groups = xs }) (map_kept (watched_after g.done []) (λ x. refl) w.groups)) g.depends)
depends_after g (s ∷ ss) =
    depends_after (with_done g s true) ss
    ∙ map_in_turn (watch_after (slice_set g.done s true) ss) (completed_in (slice_set g.done s true) s) (watch_after g.done (s ∷ ss)) (one_after g.done s ss) g.depends

pub done_after : (g : GraphLists) (done : List ℕ) → (with_all_done g done).done ≡ flags_after g.done done
done_after g [] = refl
done_after g (s ∷ ss) = done_after (with_done g s true) ss
