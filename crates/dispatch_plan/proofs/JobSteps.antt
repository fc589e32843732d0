-- A job's ranks, layer by layer; a show's, job by job; and all, subscription by subscription.
use Rattle.std.proofs.Common.{◌≡◌, ℕ, zero, suc, ◌+◌, ◌-◌, ◌≤◌, ◌&&◌, Bool, true, false, cond, List, [], ◌∷◌, length, drop, Some, None, refl, sym, ap, subst, ◌∙◌, arith, eqb, find, filter}
use Rattle.std.specs.List.{slice_get, flat_map}
use Rattle.std.proofs.lemmas.Bool.{eqb-true, eq-eqb, false≢true}
use Rattle.std.proofs.lemmas.Option.{same_Some, none-some}
use Rattle.farm_types.specs.declared.dispatch.Candidate.{Candidate}
use Rattle.farm_types.specs.declared.dispatch.Rank.{Rank}
use Rattle.farm_types.specs.declared.rows.LayerRow.{LayerRow}
use Rattle.farm_types.specs.declared.limits.TheConstants.{CANDIDATES_EACH, MOST_FRAMES}
use Rattle.farm_types.specs.Farm.{Farm, layer_at, layers_of}
use Rattle.farm_types.specs.Kept.{KeepsRows, AreAtPlaces}
use Rattle.farm_types.specs.Ranges.{range_numbers}
use Rattle.farm_types.proofs.Lists.{and_both, found_is}
use Rattle.dispatch_plan.specs.Offers.{IsPending, offered}
use Rattle.dispatch_plan.proofs.Offered.{offered_full, offered_more, offered_none}
use Rattle.dispatch_plan.proofs.Plans.{layer_short}

-- ---- one layer after another

find_by : {X : Type 0} (a b : X → Bool) (x : X) (xs : List X) (p q : Bool) → a x ≡ p → b x ≡ q → find (λ y. a y && b y) xs ≡ find b (filter a xs)
    → cond (p && q) (Some x) (find (λ y. a y && b y) xs) ≡ find b (cond p (x ∷ filter a xs) (filter a xs))
find_by a b x xs true true ap_ bq later = sym (ap (λ t. cond t (Some x) (find b (filter a xs))) bq)
find_by a b x xs true false ap_ bq later = later ∙ sym (ap (λ t. cond t (Some x) (find b (filter a xs))) bq)
find_by a b x xs false q ap_ bq later = later

find_both : {X : Type 0} (a b : X → Bool) (xs : List X) → find (λ y. a y && b y) xs ≡ find b (filter a xs)
find_both a b [] = refl
find_both a b (x ∷ xs) = find_by a b x xs (a x) (b x) refl refl (find_both a b xs)

place_by : (place n : ℕ) (l : LayerRow) (ls : List LayerRow) (b : Bool) → eqb l.place n ≡ b → l.place ≡ place → place ≤ n → (place + 1 ≤ n → find (λ m. eqb m.place n) ls ≡ slice_get ls (n - (place + 1)))
    → cond b (Some l) (find (λ m. eqb m.place n) ls) ≡ slice_get (l ∷ ls) (n - place)
place_by place n l ls true e here low later =
    let same : l.place ≡ n = eqb-true l.place n e in
    let none : n - place ≡ 0 = omega (arith, same, here) in
    ap (slice_get (l ∷ ls)) (sym none)
place_by place n l ls false e here low later =
    let above : place + 1 ≤ n = apart (n - place) refl in
    let next : n - place ≡ suc (n - (place + 1)) = omega (arith, above) in
    later above ∙ ap (slice_get (l ∷ ls)) (sym next)
  where
    apart : (d : ℕ) → d ≡ n - place → place + 1 ≤ n
    apart zero k = (let same : l.place ≡ n = omega (arith, k, here, low) in absurd (false≢true (sym e ∙ eq-eqb l.place n same)))
    apart (suc d) k = omega (arith, k)

find_place : (place n : ℕ) (ls : List LayerRow) → AreAtPlaces place ls → place ≤ n → find (λ m. eqb m.place n) ls ≡ slice_get ls (n - place)
find_place place n [] at low = refl
find_place place n (l ∷ ls) at low = place_by place n l ls (eqb l.place n) refl at.0 low (λ above. find_place (place + 1) n ls at.1 above)

-- a job's layer at a place is the one at that place of its list
layer_is : (f : Farm) (job n : ℕ) → AreAtPlaces 0 (layers_of f.layers job) → layer_at f job n ≡ slice_get (layers_of f.layers job) n
layer_is f job n at =
    find_both (λ (l : LayerRow). eqb l.job job) (λ (l : LayerRow). eqb l.place n) f.layers
    ∙ (find_place 0 n (layers_of f.layers job) at (omega arith) ∙ (let e : n - 0 ≡ n = omega arith in ap (slice_get (layers_of f.layers job)) e))

-- the layers of a pending job
layers_at : (f : Farm) (job : ℕ) → KeepsRows f → IsPending f job → AreAtPlaces 0 (layers_of f.layers job)
layers_at f job kept it = subst (λ n. AreAtPlaces 0 (layers_of f.layers n)) it.number_is ((kept.jobs.jobs_layered it.place it.job it.at it.pending).places)

-- ---- a list of pieces

drop_at : {X : Type 0} (xs : List X) (n : ℕ) (x : X) → slice_get xs n ≡ Some x → drop n xs ≡ x ∷ drop (n + 1) xs
drop_at [] n x e = absurd (none-some x e)
drop_at (y ∷ xs) zero x e = ap (λ z. z ∷ xs) (same_Some y x e)
drop_at (y ∷ xs) (suc n) x e = drop_at xs n x e ∙ (let next : suc (n + 1) ≡ suc n + 1 = omega arith in ap (λ k. x ∷ drop k (y ∷ xs)) next)

drop_past : {X : Type 0} (xs : List X) (n : ℕ) → slice_get xs n ≡ None → drop n xs ≡ []
drop_past [] zero e = refl
drop_past [] (suc n) e = refl
drop_past (y ∷ xs) zero e = absurd (none-some y (sym e))
drop_past (y ∷ xs) (suc n) e = drop_past xs n e

-- the next piece is offered
pub piece_step : {X : Type 0} (g : X → List Rank) (xs : List X) (n : ℕ) (x : X) (plan : List Candidate) → slice_get xs n ≡ Some x → offered plan (flat_map g (drop n xs)) ≡ offered (offered plan (g x)) (flat_map g (drop (n + 1) xs))
piece_step g xs n x plan at = ap (λ ys. offered plan (flat_map g ys)) (drop_at xs n x at) ∙ sym (offered_more plan (g x) (flat_map g (drop (n + 1) xs)))

-- past the last there is none
piece_end : {X : Type 0} (g : X → List Rank) (xs : List X) (n : ℕ) (plan : List Candidate) → slice_get xs n ≡ None → offered plan (flat_map g (drop n xs)) ≡ offered plan []
piece_end g xs n plan past = ap (λ ys. offered plan (flat_map g ys)) (drop_past xs n past)

-- ---- a job's layers

layer_found : (f : Farm) (job n : ℕ) (l : LayerRow) → layer_at f job n ≡ Some l → (l.job ≡ job) × (l.place ≡ n)
layer_found f job n l e =
    let both = and_both (eqb l.job job) (eqb l.place n) (found_is (λ (m : LayerRow). eqb m.job job && eqb m.place n) f.layers l e) in
    (eqb-true l.job job both.0, eqb-true l.place n both.1)

-- what a layer of a pending job's list is asked for
pub record IsOfJob (f : Farm) (job : ℕ) (l : LayerRow) : Type 0 where
  pub there : layer_at f l.job l.place ≡ Some l
  pub job_is : job ≡ l.job
  pub short : length (range_numbers l.range) ≤ MOST_FRAMES

pub of_job : (f : Farm) (job n : ℕ) (l : LayerRow) → KeepsRows f → IsPending f job → slice_get (layers_of f.layers job) n ≡ Some l → IsOfJob f job l
of_job f job n l kept it at =
    let found : layer_at f job n ≡ Some l = layer_is f job n (layers_at f job kept it) ∙ at in
    let is = layer_found f job n l found in
    record {
      there = ap (λ j. layer_at f j l.place) is.0 ∙ (ap (layer_at f job) is.1 ∙ found);
      job_is = sym is.0;
      short = layer_short f job n l kept it at;
    }

-- ---- the end

past_last : {X : Type 0} (xs : List X) (n : ℕ) → length xs ≤ n → slice_get xs n ≡ None
past_last [] n h = refl
past_last (x ∷ xs) zero h = absurd (omega arith)
past_last (x ∷ xs) (suc n) h = past_last xs n (omega arith)

-- what is left past the last piece
pub all_offered : {X : Type 0} (g : X → List Rank) (xs : List X) (n : ℕ) (plan : List Candidate) → length xs ≤ n → length plan ≤ CANDIDATES_EACH → offered plan (flat_map g (drop n xs)) ≡ plan
all_offered g xs n plan past few = piece_end g xs n plan (past_last xs n past) ∙ offered_none plan few

-- a full plan stays as it is
pub full_stays : (plan : List Candidate) (rs : List Rank) → length plan ≤ CANDIDATES_EACH → CANDIDATES_EACH ≤ length plan → offered plan rs ≡ plan
full_stays plan rs few full = offered_full plan rs (omega (arith, few, full))
