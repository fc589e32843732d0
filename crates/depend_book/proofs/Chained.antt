-- The last row of each job among places, and what comes before each row.
use Rattle.std.proofs.Common.{◌≡◌, ℕ, zero, suc, ◌+◌, ◌<◌, ◌≤◌, Bool, true, false, not, cond, List, [], ◌∷◌, ◌++◌, map, drop, get_or, length, eqb, Option, Some, None, ◌⊎◌, inl, inr, refl, sym, ap, subst, ◌∙◌, arith}
use Rattle.std.specs.Prelude.{◌&&◌, ◌||◌}
use Rattle.std.specs.List.{filter}
use Rattle.std.proofs.lemmas.Bool.{eqb-true, eq-eqb, ne_eqb, true≢false}
use Rattle.std.proofs.lemmas.Option.{none-some, same_Some}
use Rattle.farm_types.specs.Finish.{waits_by, without_waiter}
use Rattle.farm_types.specs.Rising.{IsRising}
use Rattle.depend_book.specs.declared.row_list.RowPlace.{RowPlace}
use Rattle.depend_book.specs.Book.{waits_in_one}
use Rattle.depend_book.specs.Rows.{AreChained, WaitsInNone, emptied, emptied_by, is_of, is_there, last_from, met_place, older_of, place_key, row_here, rows_there, satisfied_place, satisfied_places, with_last}
use Rattle.depend_book.proofs.PlaceChanged.{above_stay}

abbrev Seen : Type 0
Seen = ℕ → Option ℕ

-- a row that is gone is no one's last
pub gone_unseen : (x : RowPlace) (seen : Seen) → is_there x ≡ false → with_last x seen ≡ seen
gone_unseen x seen gone = λ i job. cond (gone i && waits_by job x.row) (Some x.row.depend) (seen job)

-- ---- without the places whose rows are gone

pub filter_last : (seen : Seen) (xs : List RowPlace) (job : ℕ) → last_from seen (filter is_there xs) job ≡ last_from seen xs job
filter_last seen [] job = refl
filter_last seen (x ∷ xs) job = by_test (is_there x) refl (λ s. filter_last s xs job) where
  by_test : (b : Bool) → is_there x ≡ b → ((s : Seen) → last_from s (filter is_there xs) job ≡ last_from s xs job) → last_from seen (cond b (x ∷ filter is_there xs) (filter is_there xs)) job ≡ last_from (with_last x seen) xs job
  by_test true is more = more (with_last x seen)
  by_test false is more = more seen ∙ ap (λ (s : Seen). last_from s xs job) (sym (gone_unseen x seen is))

pub filter_chained : (seen : Seen) (xs : List RowPlace) → AreChained seen xs → AreChained seen (filter is_there xs)
filter_chained seen [] c = c
filter_chained seen (x ∷ xs) c = by_test (is_there x) refl (λ s k. filter_chained s xs k) where
  by_test : (b : Bool) → is_there x ≡ b → ((s : Seen) → AreChained s xs → AreChained s (filter is_there xs)) → AreChained seen (cond b (x ∷ filter is_there xs) (filter is_there xs))
  by_test true is more = (c.0, more (with_last x seen) c.1)
  by_test false is more = more seen (subst (λ (s : Seen). AreChained s xs) (gone_unseen x seen is) c.1)

-- ---- one more at the end

pub last_more : (seen : Seen) (xs : List RowPlace) (x : RowPlace) (job : ℕ) → last_from seen (xs ++ x ∷ []) job ≡ with_last x (last_from seen xs) job
last_more seen [] x job = refl
last_more seen (y ∷ ys) x job = last_more (with_last y seen) ys x job

pub chained_more : (seen : Seen) (xs : List RowPlace) (x : RowPlace) → AreChained seen xs → x.older ≡ last_from seen xs x.row.waiter.job → AreChained seen (xs ++ x ∷ [])
chained_more seen [] x c is = (λ there. is, c)
chained_more seen (y ∷ ys) x c is = (c.0, chained_more (with_last y seen) ys x c.1 is)

-- ---- rows that are satisfied

met_last : (b : Bool) (x : RowPlace) (seen : Seen) → with_last (cond b (met_place x) x) seen ≡ with_last x seen
met_last true x seen = refl
met_last false x seen = refl

pub met_lasts : (n : ℕ) (seen : Seen) (xs : List RowPlace) (job : ℕ) → last_from seen (map (satisfied_place n) xs) job ≡ last_from seen xs job
met_lasts n seen [] job = refl
met_lasts n seen (x ∷ xs) job =
    ap (λ (s : Seen). last_from s (map (satisfied_place n) xs) job) (met_last (eqb x.row.depend n) x seen) ∙ met_lasts n (with_last x seen) xs job

pub met_chained : (n : ℕ) (seen : Seen) (xs : List RowPlace) → AreChained seen xs → AreChained seen (map (satisfied_place n) xs)
met_chained n seen [] c = c
met_chained n seen (x ∷ xs) c = by_key (eqb x.row.depend n) (met_chained n (with_last x seen) xs c.1) where
  by_key : (b : Bool) → AreChained (with_last x seen) (map (satisfied_place n) xs) → AreChained seen (cond b (met_place x) x ∷ map (satisfied_place n) xs)
  by_key true more = (c.0, more)
  by_key false more = (c.0, more)

-- ---- the last row of a job goes

-- the last row of a job was seen before, or is among the places
seen_or_within : (xs : List RowPlace) (seen : Seen) (low high job n : ℕ) → IsRising place_key low xs high → last_from seen xs job ≡ Some n → (seen job ≡ Some n) ⊎ (low ≤ n)
seen_or_within [] seen low high job n rise is = inl is
seen_or_within (x ∷ xs) seen low high job n rise is = by_case (seen_or_within xs (with_last x seen) (x.row.depend + 1) high job n rise.1 is) where
  by_test : (b : Bool) → cond b (Some x.row.depend) (seen job) ≡ Some n → (seen job ≡ Some n) ⊎ (low ≤ n)
  by_test true same = inr (omega (arith, rise.0, same_Some x.row.depend n same))
  by_test false same = inl same

  by_case : (with_last x seen job ≡ Some n) ⊎ (x.row.depend + 1 ≤ n) → (seen job ≡ Some n) ⊎ (low ≤ n)
  by_case (inl same) = by_test (is_of job x) same
  by_case (inr above) = inr (omega (arith, rise.0, above))

-- a row at or above which the job has none isn't the last
not_behind : (xs : List RowPlace) (seen : Seen) (low high job n : ℕ) → IsRising place_key low xs high → n < low → last_from seen xs job ≡ Some n → seen job ≡ Some n
not_behind xs seen low high job n rise less is = by_case (seen_or_within xs seen low high job n rise is) where
  by_case : (seen job ≡ Some n) ⊎ (low ≤ n) → seen job ≡ Some n
  by_case (inl same) = same
  by_case (inr above) = absurd (omega (arith, above, less))

-- Behind the job's last row nothing tells of the job.
record Unseen (s t : Seen) (xs : List RowPlace) (job : ℕ) : Type 0 where
  chained : AreChained t xs
  others : (j : ℕ) → (j ≡ job → ⊥) → last_from s xs j ≡ last_from t xs j
  own : last_from t xs job ≡ t job

unseen : (xs : List RowPlace) (s t : Seen) (low high job n : ℕ) → IsRising place_key low xs high → n < low → last_from s xs job ≡ Some n → ((j : ℕ) → (j ≡ job → ⊥) → s j ≡ t j) → AreChained s xs → Unseen s t xs job
unseen [] s t low high job n rise less is alike c = record { chained = c; others = alike; own = refl }
unseen (x ∷ xs) s t low high job n rise less is alike c =
    by_test (is_of job x) refl
    (unseen xs (with_last x s) (with_last x t) (x.row.depend + 1) high job n rise.1 (omega (arith, rise.0, less)) is (λ j apart. ap (λ o. cond (is_of j x) (Some x.row.depend) o) (alike j apart)) c.1)
  where
    before : with_last x s job ≡ Some n
    before = not_behind xs (with_last x s) (x.row.depend + 1) high job n rise.1 (omega (arith, rise.0, less)) is

    by_test : (b : Bool) → is_of job x ≡ b → Unseen (with_last x s) (with_last x t) xs job → Unseen s t (x ∷ xs) job
    by_test true of more = absurd (omega (arith, rise.0, less, same_Some x.row.depend n (sym (ap (λ b. cond b (Some x.row.depend) (s job)) of) ∙ before)))
    by_test false of more =
        record {
          chained = (
            λ there.
                c.0 there ∙ alike x.row.waiter.job (λ e. true≢false (sym (λ i. there i && eq-eqb x.row.waiter.job job e i) ∙ of)),
            more.chained,
          );
          others = more.others;
          own = more.own ∙ ap (λ b. cond b (Some x.row.depend) (t job)) of;
        }

-- What is so where the job's last row goes.
pub record Leaves (seen : Seen) (xs : List RowPlace) (n job : ℕ) : Type 0 where
  pub chained : AreChained seen (map (emptied_by n) xs)
  pub lasts : (j : ℕ) → last_from seen (map (emptied_by n) xs) j ≡ cond (eqb j job) (older_of n xs) (last_from seen xs j)
  pub waits : waits_in_one job (rows_there xs) n ≡ true

or_right : (a b : Bool) → b ≡ true → (a || b) ≡ true
or_right true b is = refl
or_right false b is = is

both_left : (a b : Bool) → (a && b) ≡ true → a ≡ true
both_left true b is = refl
both_left false b is = is

both_right : (a b : Bool) → (a && b) ≡ true → b ≡ true
both_right true b is = is
both_right false b is = absurd (true≢false (sym is))

module _ (n job : ℕ) where
  here : (x : RowPlace) (xs : List RowPlace) (seen : Seen) (high : ℕ) → IsRising place_key (x.row.depend + 1) xs high → AreChained seen (x ∷ xs) → last_from (with_last x seen) xs job ≡ Some n
      → eqb x.row.depend n ≡ true → is_there x ≡ true → waits_by job x.row ≡ true → Leaves seen (x ∷ xs) n job
  here x xs seen high rise c is key there waits =
      let same = eqb-true x.row.depend n key in
      let own : x.row.waiter.job ≡ job = eqb-true x.row.waiter.job job waits in
      let stay = above_stay place_key emptied n (x.row.depend + 1) xs high (omega (arith, same)) rise in
      let whole : map (emptied_by n) (x ∷ xs) ≡ emptied x ∷ xs = λ i. cond (key i) (emptied x) x ∷ stay i in
      let u = unseen xs (with_last x seen) seen (x.row.depend + 1) high job n rise (omega (arith, same)) is
      (λ j apart. λ i. cond (there i && ne_eqb x.row.waiter.job j (λ e. apart (sym e ∙ own)) i) (Some x.row.depend) (seen j)) c.1 in
      record {
        chained = subst (AreChained seen) (sym whole) ((λ t. absurd (true≢false (sym t))), subst (λ (s : Seen). AreChained s xs) (sym (gone_unseen (emptied x) seen refl)) u.chained);
        lasts = λ j.
            ap (λ (ys : List RowPlace). last_from seen ys j) whole
            ∙ (ap (λ (s : Seen). last_from s xs j) (gone_unseen (emptied x) seen refl)
            ∙ (by_job u own j (eqb j job) refl ∙ ap (λ b. cond (eqb j job) (cond b x.older (older_of n xs)) (last_from seen (x ∷ xs) j)) (sym key)));
        waits =
            ap (λ b. waits_in_one job (map row_here (cond b (x ∷ filter is_there xs) (filter is_there xs))) n) there
            ∙ λ i. (waits i && eq-eqb n x.row.depend (sym same) i) || waits_in_one job (rows_there xs) n;
      }
    where
      by_job : Unseen (with_last x seen) seen xs job → x.row.waiter.job ≡ job → (j : ℕ) (b : Bool) → eqb j job ≡ b → last_from seen xs j ≡ cond (eqb j job) x.older (last_from seen (x ∷ xs) j)
      by_job u own j true is_j =
          let e = eqb-true j job is_j in
          ap (last_from seen xs) e ∙ (u.own ∙ (ap seen (sym own) ∙ (sym (c.0 there) ∙ sym (ap (λ b. cond b x.older (last_from seen (x ∷ xs) j)) is_j))))
      by_job u own j false is_j =
          sym (u.others j (λ e. true≢false (sym (eq-eqb j job e) ∙ is_j))) ∙ sym (ap (λ b. cond b x.older (last_from seen (x ∷ xs) j)) is_j)

  pub leaves : (xs : List RowPlace) (seen : Seen) (low high : ℕ) → IsRising place_key low xs high → AreChained seen xs → last_from seen xs job ≡ Some n → (seen job ≡ Some n → ⊥) → Leaves seen xs n job
  leaves [] seen low high rise c is new = absurd (new is)
  leaves (x ∷ xs) seen low high rise c is new = by_key (eqb x.row.depend n) refl (λ before. leaves xs (with_last x seen) (x.row.depend + 1) high rise.1 c.1 is before) where
    not_key : (b : Bool) → cond b (Some x.row.depend) (seen job) ≡ Some n → eqb x.row.depend n ≡ false → ⊥
    not_key true same key = true≢false (sym (eq-eqb x.row.depend n (same_Some x.row.depend n same)) ∙ key)
    not_key false same key = new same

    is_mine : (b : Bool) → is_of job x ≡ b → eqb x.row.depend n ≡ true → is_of job x ≡ true
    is_mine true of key = of
    is_mine false of key =
        absurd (new (sym (ap (λ b. cond b (Some x.row.depend) (seen job)) of) ∙ not_behind xs (with_last x seen) (x.row.depend + 1) high job n rise.1 (omega (arith, eqb-true x.row.depend n key)) is))

    by_key : (b : Bool) → eqb x.row.depend n ≡ b → ((with_last x seen job ≡ Some n → ⊥) → Leaves (with_last x seen) xs n job) → Leaves seen (x ∷ xs) n job
    by_key true key more =
        let mine = is_mine (is_of job x) refl key in
        here x xs seen high rise.1 c is key (both_left (is_there x) (waits_by job x.row) mine) (both_right (is_there x) (waits_by job x.row) mine)
    by_key false key more =
        let rest = more (λ same. not_key (is_of job x) same key) in
        let whole : map (emptied_by n) (x ∷ xs) ≡ x ∷ map (emptied_by n) xs = λ i. cond (key i) (emptied x) x ∷ map (emptied_by n) xs in
        record {
          chained = subst (AreChained seen) (sym whole) (c.0, rest.chained);
          lasts = λ j.
              ap (λ (ys : List RowPlace). last_from seen ys j) whole
              ∙ (rest.lasts j ∙ ap (λ o. cond (eqb j job) o (last_from seen (x ∷ xs) j)) (sym (ap (λ b. cond b x.older (older_of n xs)) key)));
          waits = by_there (is_there x) rest.waits;
        }
      where
        by_there : (t : Bool) → waits_in_one job (rows_there xs) n ≡ true → waits_in_one job (map row_here (cond t (x ∷ filter is_there xs) (filter is_there xs))) n ≡ true
        by_there true w = or_right (waits_by job x.row && eqb n x.row.depend) (waits_in_one job (rows_there xs) n) w
        by_there false w = w

-- ---- where the job has no last row

module _ (job : ℕ) where
  none_seen_before : (xs : List RowPlace) (seen : Seen) → last_from seen xs job ≡ None → seen job ≡ None
  none_seen_before [] seen is = is
  none_seen_before (x ∷ xs) seen is = by_test (is_of job x) (none_seen_before xs (with_last x seen) is) where
    by_test : (b : Bool) → cond b (Some x.row.depend) (seen job) ≡ None → seen job ≡ None
    by_test true same = absurd (none-some x.row.depend (sym same))
    by_test false same = same

  pub none_waits : (xs : List RowPlace) (seen : Seen) → last_from seen xs job ≡ None → WaitsInNone job (rows_there xs)
  none_waits [] seen is = record { kept = refl; none = λ n. refl }
  none_waits (x ∷ xs) seen is = by_test (is_there x) (waits_by job x.row) refl refl (none_seen_before xs (with_last x seen) is) (none_waits xs (with_last x seen) is) where
    by_test : (t w : Bool) → is_there x ≡ t → waits_by job x.row ≡ w → with_last x seen job ≡ None → WaitsInNone job (rows_there xs)
        → WaitsInNone job (map row_here (cond t (x ∷ filter is_there xs) (filter is_there xs)))
    by_test true true there waits before more = absurd (none-some x.row.depend (sym before ∙ λ i. cond (there i && waits i) (Some x.row.depend) (seen job)))
    by_test true false there waits before more =
        record {
          kept = ap (λ b. cond (not b) (x.row ∷ without_waiter job (rows_there xs)) (without_waiter job (rows_there xs))) waits ∙ λ i. x.row ∷ more.kept i;
          none = λ n. ap (λ b. (b && eqb n x.row.depend) || waits_in_one job (rows_there xs) n) waits ∙ more.none n;
        }
    by_test false w there waits before more = more

-- ---- a last row is noted

pub last_noted : (x : RowPlace) (job : ℕ) (o : Option ℕ) → is_there x ≡ true → cond (eqb job x.row.waiter.job) (Some x.row.depend) o ≡ cond (is_of job x) (Some x.row.depend) o
last_noted x job o there = by_job (eqb job x.row.waiter.job) refl where
  by_job : (b : Bool) → eqb job x.row.waiter.job ≡ b → cond (eqb job x.row.waiter.job) (Some x.row.depend) o ≡ cond (is_of job x) (Some x.row.depend) o
  by_job true is = λ i. cond ((is ∙ sym (λ j. there j && eq-eqb x.row.waiter.job job (sym (eqb-true job x.row.waiter.job is)) j)) i) (Some x.row.depend) o
  by_job false is = λ i. cond ((is ∙ sym (λ j. there j && ne_eqb x.row.waiter.job job (λ e. true≢false (sym (eq-eqb job x.row.waiter.job (sym e)) ∙ is)) j)) i) (Some x.row.depend) o

-- what was seen may be written otherwise
pub last_alike : (s t : Seen) → ((j : ℕ) → s j ≡ t j) → (xs : List RowPlace) (job : ℕ) → last_from s xs job ≡ last_from t xs job
last_alike s t same xs job = ap (λ (u : Seen). last_from u xs job) (λ i j. same j i)

-- the place at an index is the next of those that are left
pub next_last : (xs : List RowPlace) (i : ℕ) (x : RowPlace) (seen : Seen) (job : ℕ) → i < length xs → x ≡ get_or xs i x → last_from (with_last x seen) (drop (i + 1) xs) job ≡ last_from seen (drop i xs) job
next_last [] i x seen job within at = absurd (omega arith)
next_last (y ∷ ys) zero x seen job within at = ap (λ (z : RowPlace). last_from (with_last z seen) ys job) at
next_last (y ∷ ys) (suc i) x seen job within at =
    let later : suc i + 1 ≡ suc (i + 1) = omega arith in
    rw later (next_last ys i x seen job (omega arith) at)

-- rows that are satisfied, one after the other
pub all_met_lasts : (ns : List ℕ) (seen : Seen) (xs : List RowPlace) (job : ℕ) → last_from seen (satisfied_places ns xs) job ≡ last_from seen xs job
all_met_lasts [] seen xs job = refl
all_met_lasts (n ∷ ns) seen xs job = all_met_lasts ns seen (map (satisfied_place n) xs) job ∙ met_lasts n seen xs job

pub all_met_chained : (ns : List ℕ) (seen : Seen) (xs : List RowPlace) → AreChained seen xs → AreChained seen (satisfied_places ns xs)
all_met_chained [] seen xs c = c
all_met_chained (n ∷ ns) seen xs c = all_met_chained ns seen (map (satisfied_place n) xs) (met_chained n seen xs c)
