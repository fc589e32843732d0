-- What the parts of a world keep of each other: hosts that are there, and runs that go on.
use Rattle.std.proofs.Common.{◌≡◌, ◌≢◌, ℕ, zero, suc, List, [], ◌∷◌, ◌++◌, map, take, Option, None, Some, refl, ap, subst, ◌∙◌, ◌⊎◌, inl, inr, append-nil}
use Rattle.std.specs.List.{AllByRecursion, slice_get, slice_set}
use Rattle.std.specs.Prelude.{IsSomeAnd}
use Rattle.std.proofs.lemmas.Option.{none-some, same_Some}
use Rattle.farm_types.specs.declared.attempt.Attempt.{Attempt}
use Rattle.farm_types.specs.declared.attempt.DoneItem.{DoneItem}
use Rattle.farm_types.specs.declared.entry.Entry.{Entry}
use Rattle.farm_types.specs.Farm.{Farm}
use Rattle.farm_types.specs.Run.{IsLegal, IsLegalStep, run_of}
use Rattle.farm_types.specs.Step.{after}
use Rattle.farm_types.proofs.Changed.{places, slice_get-set_other, slice_get-set_same}
use Rattle.world_law.specs.declared.counted.Counted.{Counted}
use Rattle.world_law.specs.Counting.{count_of, counts_from}
use Rattle.world_law.specs.Promises.{attempts_counted}
use Rattle.world_law.specs.World.{Host}
use Rattle.world_law.proofs.Each.{each_map}

pub some_and : {X : Type 0} (o : Option X) (P : X → Type 0) → IsSomeAnd o P → (x : X) × (o ≡ Some x) × P x
some_and None P h = absurd h
some_and (Some x) P h = (x, refl, h)

-- ---- hosts that are there

still_by : (hosts : List Host) (i n : ℕ) (was now h : Host) → slice_get hosts i ≡ Some was → slice_get hosts n ≡ Some h → (n ≡ i) ⊎ (n ≢ i)
    → (x : Host) × (slice_get (slice_set hosts i now) n ≡ Some x)
still_by hosts i n was now h there at (inl e) =
    (now, ap (λ (k : ℕ). slice_get (slice_set hosts i now) k) e ∙ slice_get-set_same hosts i was now there)
still_by hosts i n was now h there at (inr apart) = (h, slice_get-set_other hosts i n now apart ∙ at)

-- a host is there still where one is set
pub still_there : (hosts : List Host) (i n : ℕ) (was now h : Host) → slice_get hosts i ≡ Some was → slice_get hosts n ≡ Some h
    → (x : Host) × (slice_get (slice_set hosts i now) n ≡ Some x)
still_there hosts i n was now h there at = still_by hosts i n was now h there at (places n i)

-- ---- runs

pub run_append : (f : Farm) (xs ys : List Entry) → run_of f (xs ++ ys) ≡ run_of (run_of f xs) ys
run_append f [] ys = refl
run_append f (x ∷ xs) ys = run_append (after f x) xs ys

-- an entry of a legal run is a legal step after those before it
pub step_at : (f : Farm) (es : List Entry) (k : ℕ) (e : Entry) → IsLegal f es → slice_get es k ≡ Some e → IsLegalStep (run_of f (take k es)) e
step_at f [] k e legal at = absurd (none-some e at)
step_at f (x ∷ es) zero e legal at = subst (IsLegalStep f) (same_Some x e at) legal.0
step_at f (x ∷ es) (suc k) e legal at = step_at (after f x) es k e legal.1 at

-- the farm after it
pub run_next : (f : Farm) (es : List Entry) (k : ℕ) (e : Entry) → slice_get es k ≡ Some e → run_of f (take (suc k) es) ≡ after (run_of f (take k es)) e
run_next f [] k e at = absurd (none-some e at)
run_next f (x ∷ es) zero e at = ap (after f) (same_Some x e at)
run_next f (x ∷ es) (suc k) e at = run_next (after f x) es k e at

-- ---- what is counted

counted_append : (xs ys : List Counted) → attempts_counted (xs ++ ys) ≡ attempts_counted xs ++ attempts_counted ys
counted_append [] ys = refl
counted_append (x ∷ xs) ys = ap (λ (zs : List Attempt). x.attempt ∷ zs) (counted_append xs ys)

count_attempts : (line host : ℕ) (ds : List DoneItem) → attempts_counted (map (count_of line host) ds) ≡ map (λ (d : DoneItem). d.attempt) ds
count_attempts line host [] = refl
count_attempts line host (d ∷ ds) = ap (λ (zs : List Attempt). d.attempt ∷ zs) (count_attempts line host ds)

pub counted_more : (xs : List Counted) (line host : ℕ) (ds : List DoneItem)
    → attempts_counted (xs ++ counts_from line (Some host) ds) ≡ attempts_counted xs ++ map (λ (d : DoneItem). d.attempt) ds
counted_more xs line host ds = counted_append xs (map (count_of line host) ds) ∙ ap (λ (ys : List Attempt). attempts_counted xs ++ ys) (count_attempts line host ds)

pub counted_none : (xs : List Counted) (line : ℕ) (ds : List DoneItem) → xs ++ counts_from line None ds ≡ xs
counted_none xs line ds = append-nil xs

pub each_counted : (P : Counted → Type 0) (line host : ℕ) (ds : List DoneItem) → AllByRecursion (λ (d : DoneItem). P (count_of line host d)) ds → AllByRecursion P (counts_from line (Some host) ds)
each_counted P line host ds all = each_map P (count_of line host) ds all
