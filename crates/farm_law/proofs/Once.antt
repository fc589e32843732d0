-- No completion of a run counts twice.
use Rattle.std.proofs.Common.{◌≡◌, ℕ, Bool, true, false, cond, List, [], ◌∷◌, ◌++◌, refl, sym, subst, ◌∙◌}
use Rattle.farm_types.specs.declared.attempt.Attempt.{Attempt}
use Rattle.farm_law.proofs.Ended.{end_law, end_all_law}
use Rattle.farm_law.proofs.Spent.{IsSpent, spent_stays, spent_not_live, spent_same, counted_spent}
use Rattle.farm_types.specs.Farm.{Farm}
use Rattle.farm_types.specs.Run.{IsSound, HasItsHosts, AttemptsDiffer, counted_in, is_same}
use Rattle.farm_types.specs.Step.{is_live, end_attempt, end_all}
use Rattle.farm_types.specs.declared.attempt.DoneItem.{DoneItem}
use Rattle.std.proofs.lemmas.Bool.{false≢true, or_from}
use Rattle.std.proofs.lemmas.List.Folds.{list_any-append}
use Rattle.std.specs.List.{list_any}

-- each attempt of the list is spent
abbrev pub AreSpent : Farm → List Attempt → Type 0
AreSpent f [] = Unit {0}
AreSpent f (a ∷ later) = IsSpent f a × AreSpent f later

-- no attempt that is spent is in the list
abbrev pub HasNoSpent : Farm → List Attempt → Type 0
HasNoSpent f xs = (a : Attempt) → IsSpent f a → list_any (is_same a) xs ≡ false

-- From the first farm to the second these attempts end, each once: none of them was spent before, and all are spent after.
pub record CountsOnce (f g : Farm) (xs : List Attempt) : Type 0 where
  pub none : HasNoSpent f xs
  pub spent : AreSpent g xs
  pub differ : AttemptsDiffer xs

pub counts_none : (f g : Farm) → CountsOnce f g []
counts_none f g = record { none = λ a spent. refl; spent = tt; differ = tt }

-- ---- one after the other

AttemptsDiffer-append : (f : Farm) (xs ys : List Attempt) → AttemptsDiffer xs → AttemptsDiffer ys → AreSpent f xs → HasNoSpent f ys → AttemptsDiffer (xs ++ ys)
AttemptsDiffer-append f [] ys dx dy sx none = dy
AttemptsDiffer-append f (x ∷ xs) ys dx dy sx none = (list_any-append (is_same x) xs ys ∙ or_from _ _ dx.0 (none x sx.0), AttemptsDiffer-append f xs ys dx.1 dy sx.1 none)

AreSpent-append : (g k : Farm) (xs ys : List Attempt) → ((a : Attempt) → IsSpent g a → IsSpent k a) → AreSpent g xs → AreSpent k ys → AreSpent k (xs ++ ys)
AreSpent-append g k [] ys stays first second = second
AreSpent-append g k (x ∷ xs) ys stays first second = (stays x first.0, AreSpent-append g k xs ys stays first.1 second)

pub counts_then : (f g k : Farm) (xs ys : List Attempt) → ((a : Attempt) → IsSpent f a → IsSpent g a) → ((a : Attempt) → IsSpent g a → IsSpent k a) → CountsOnce f g xs → CountsOnce g k ys → CountsOnce f k (xs ++ ys)
counts_then f g k xs ys stays_g stays_k first second =
    record {
      none = λ a spent. list_any-append (is_same a) xs ys ∙ or_from _ _ (first.none a spent) (second.none a (stays_g a spent));
      spent = AreSpent-append g k xs ys stays_k first.spent second.spent;
      differ = AttemptsDiffer-append g xs ys first.differ second.differ first.spent second.none;
    }

-- ---- the completions of one report

unlike_by : (f : Farm) (host boot : ℕ) (a : Attempt) (d : DoneItem) (b : Bool) → IsSound f → IsSpent f a → is_live f host boot d.attempt.slot d.attempt.version ≡ true → is_same a d.attempt ≡ b → b ≡ false
unlike_by f host boot a d true ok spent live same =
    absurd (false≢true (sym (spent_not_live f host boot d.attempt ok (spent_same f a d.attempt same spent)) ∙ live))
unlike_by f host boot a d false ok spent live same = refl

-- a completion that changes the farm is of an attempt that wasn't spent
one_counts : (f : Farm) (host boot : ℕ) (d : DoneItem) → IsSound f → is_live f host boot d.attempt.slot d.attempt.version ≡ true → CountsOnce f (end_attempt f host boot d) (d.attempt ∷ [])
one_counts f host boot d ok live =
    record {
      none = λ a spent. or_from _ _ (unlike_by f host boot a d (is_same a d.attempt) ok spent live refl) refl;
      spent = (counted_spent f host boot d ok live, tt);
      differ = (refl, tt);
    }

-- where nothing is live, nothing ends
kept_farm : (f : Farm) (host boot : ℕ) (d : DoneItem) → is_live f host boot d.attempt.slot d.attempt.version ≡ false → end_attempt f host boot d ≡ f
kept_farm f host boot d not_live = rw not_live refl

counts_step : (f : Farm) (host boot : ℕ) (d : DoneItem) (ds : List DoneItem) (b : Bool) → IsSound f → is_live f host boot d.attempt.slot d.attempt.version ≡ b
    → CountsOnce (end_attempt f host boot d) (end_all (end_attempt f host boot d) host boot ds) (counted_in (end_attempt f host boot d) host boot ds)
    → CountsOnce f (end_all (end_attempt f host boot d) host boot ds) (cond b (d.attempt ∷ counted_in (end_attempt f host boot d) host boot ds) (counted_in f host boot ds))
counts_step f host boot d ds true ok live later =
    let now = end_attempt f host boot d in
    let end = end_all now host boot ds in
    counts_then f now end (d.attempt ∷ []) (counted_in now host boot ds) (spent_stays f now (end_law f host boot d).rows.slots) (spent_stays now end (end_all_law now host boot ds).rows.slots) (one_counts f host boot d ok live) later
counts_step f host boot d ds false ok live later =
    subst (λ (g : Farm). CountsOnce g (end_all (end_attempt f host boot d) host boot ds) (counted_in g host boot ds)) (kept_farm f host boot d live) later

-- each completion of a report that changes the farm ends an attempt of its own
pub counts_in : (f : Farm) (host boot : ℕ) (ds : List DoneItem) → IsSound f → HasItsHosts f → CountsOnce f (end_all f host boot ds) (counted_in f host boot ds)
counts_in f host boot [] ok there = counts_none f f
counts_in f host boot (d ∷ ds) ok there =
    let law = end_law f host boot d in
    counts_step f host boot d ds (is_live f host boot d.attempt.slot d.attempt.version) ok refl (counts_in (end_attempt f host boot d) host boot ds (law.sound ok there) (law.hosts ok there))
