-- Attempts that differ, and lists that have one.
use Rattle.std.proofs.Common.{◌≡◌, ℕ, zero, suc, Bool, true, false, cond, eqb, ◌||◌, not, List, [], ◌∷◌, ◌++◌, Some, refl, sym, subst, ◌∙◌, ◌⊎◌, inl, inr}
use Rattle.std.specs.List.{All, AllByRecursion, list_any, slice_get}
use Rattle.std.proofs.lemmas.Bool.{eq-eqb, eqb-true, false≢true}
use Rattle.std.proofs.lemmas.Option.{none-some, same_Some}
use Rattle.std.proofs.lemmas.List.Elements.{All-head, All-tail}
use Rattle.farm_types.specs.declared.attempt.Attempt.{Attempt}
use Rattle.farm_types.specs.declared.attempt.DoneItem.{DoneItem}
use Rattle.farm_types.specs.Run.{AttemptsDiffer, is_same}
use Rattle.farm_types.proofs.Lists.{and_both}
use Rattle.rqd_core.specs.declared.running.Running.{Running}
use Rattle.rqd_core.specs.Life.{is_run, without}
use Rattle.rqd_core.specs.Replies.{is_done, not_acked}
use Rattle.world_law.specs.Among.{Has}

-- ---- tests

pub or_left : (b c : Bool) → b ≡ true → (b || c) ≡ true
or_left true c is = refl
or_left false c is = absurd (false≢true is)

pub or_right : (b c : Bool) → c ≡ true → (b || c) ≡ true
or_right true c is = refl
or_right false c is = is

pub or_of : (b c : Bool) → (b || c) ≡ true → (b ≡ true) ⊎ (c ≡ true)
or_of true c is = inl refl
or_of false c is = inr is

pub neither_of : (b c : Bool) → (b || c) ≡ false → (b ≡ false) × (c ≡ false)
neither_of true c is = absurd (false≢true (sym is))
neither_of false c is = (refl, is)

pub any_append : {X : Type 0} (test : X → Bool) (xs ys : List X) → list_any test xs ≡ true → list_any test (xs ++ ys) ≡ true
any_append test [] ys is = absurd (false≢true is)
any_append test (x ∷ xs) ys is = by (or_of (test x) (list_any test xs) is) (any_append test xs ys)
  where
    by : (test x ≡ true) ⊎ (list_any test xs ≡ true) → (list_any test xs ≡ true → list_any test (xs ++ ys) ≡ true) → list_any test (x ∷ xs ++ ys) ≡ true
    by (inl here) later = or_left (test x) (list_any test (xs ++ ys)) here
    by (inr there) later = or_right (test x) (list_any test (xs ++ ys)) (later there)

pub any_last : {X : Type 0} (test : X → Bool) (xs : List X) (x : X) → test x ≡ true → list_any test (xs ++ x ∷ []) ≡ true
any_last test [] x is = or_left (test x) false is
any_last test (y ∷ xs) x is = or_right (test y) (list_any test (xs ++ x ∷ [])) (any_last test xs x is)

-- what holds of each holds of the one that passes
module _ {X : Type 0} (P : X → Type 0) (test : X → Bool) where
  abbrev pub Passes : Type 0
  Passes = (x : X) × (test x ≡ true) × P x

  pub any_each : (xs : List X) → AllByRecursion P xs → list_any test xs ≡ true → Passes
  any_each [] all is = absurd (false≢true is)
  any_each (x ∷ xs) all is = by (or_of (test x) (list_any test xs) is) (any_each xs all.1)
    where
      by : (test x ≡ true) ⊎ (list_any test xs ≡ true) → (list_any test xs ≡ true → Passes) → Passes
      by (inl here) later = (x, here, all.0)
      by (inr there) later = later there

pub each_of_all : {X : Type 0} (P : X → Type 0) (xs : List X) → All P xs → AllByRecursion P xs
each_of_all P [] all = tt
each_of_all P (x ∷ xs) all = (All-head P x xs all, each_of_all P xs (All-tail P x xs all))

-- ---- attempts

pub same_parts : (a b : Attempt) → is_same a b ≡ true → (a.slot ≡ b.slot) × (a.version ≡ b.version)
same_parts a b is =
    let both = and_both (eqb a.slot b.slot) (eqb a.version b.version) is in
    (eqb-true a.slot b.slot both.0, eqb-true a.version b.version both.1)

pub same_is : (a b : Attempt) → is_same a b ≡ true → a ≡ b
same_is a b is = let parts = same_parts a b is in λ i. record { slot = parts.0 i; version = parts.1 i }

pub same_self : (a : Attempt) → is_same a a ≡ true
same_self a = rw (eq-eqb a.slot a.slot refl, eq-eqb a.version a.version refl) refl

pub same_sym : (a b : Attempt) → is_same a b ≡ true → is_same b a ≡ true
same_sym a b is = subst (λ (x : Attempt). is_same b x ≡ true) (sym (same_is a b is)) (same_self b)

pub apart_sym : (a b : Attempt) → is_same a b ≡ false → is_same b a ≡ false
apart_sym a b apart = by (is_same b a) refl
  where
    by : (c : Bool) → is_same b a ≡ c → c ≡ false
    by true is = absurd (false≢true (sym apart ∙ same_sym b a is))
    by false is = refl

stands_at : (a : Attempt) (xs : List Attempt) (n : ℕ) → slice_get xs n ≡ Some a → list_any (is_same a) xs ≡ true
stands_at a [] n at = absurd (none-some a at)
stands_at a (x ∷ xs) zero at = or_left (is_same a x) (list_any (is_same a) xs) (subst (λ (b : Attempt). is_same a b ≡ true) (sym (same_Some x a at)) (same_self a))
stands_at a (x ∷ xs) (suc n) at = or_right (is_same a x) (list_any (is_same a) xs) (stands_at a xs n at)

-- an attempt that stands in a list
pub stands_any : (a : Attempt) (xs : List Attempt) → Has xs a → list_any (is_same a) xs ≡ true
stands_any a xs has = stands_at a xs has.0 has.1

others_more : (a : Attempt) (xs : List Attempt) (x : Attempt) → list_any (is_same a) xs ≡ false → is_same a x ≡ false → list_any (is_same a) (xs ++ x ∷ []) ≡ false
others_more a [] x none apart = rw apart refl
others_more a (y ∷ xs) x none apart =
    let both = neither_of (is_same a y) (list_any (is_same a) xs) none in
    rw (both.0, others_more a xs x both.1 apart) refl

-- an attempt that none of these is joins them
pub differ_more : (xs : List Attempt) (x : Attempt) → AttemptsDiffer xs → list_any (is_same x) xs ≡ false → AttemptsDiffer (xs ++ x ∷ [])
differ_more [] x differ none = (refl, tt)
differ_more (y ∷ xs) x differ none =
    let both = neither_of (is_same x y) (list_any (is_same x) xs) none in
    (others_more y xs x differ.0 (apart_sym x y both.0), differ_more xs x differ.1 both.1)

-- an attempt that isn't in a list
pub none_in : (a : Attempt) (xs : List Attempt) → (list_any (is_same a) xs ≡ true → ⊥) → list_any (is_same a) xs ≡ false
none_in a xs never = by (list_any (is_same a) xs) refl
  where
    by : (b : Bool) → list_any (is_same a) xs ≡ b → b ≡ false
    by true is = absurd (never is)
    by false is = refl

-- ---- running and finished lists

-- what runs without one that ended
abbrev IsGoneOrRuns : Attempt → Attempt → List Running → Type 0
IsGoneOrRuns a b left = (is_same a b ≡ true) ⊎ (is_run b left ≡ true)

behind_run : (a b : Attempt) (r : Running) (left : List Running) → IsGoneOrRuns a b left → IsGoneOrRuns a b (r ∷ left)
behind_run a b r left (inl gone) = inl gone
behind_run a b r left (inr runs) = inr (or_right (is_same r.attempt b) (is_run b left) runs)

run_step : (a b : Attempt) (r : Running) (rs : List Running) (c : Bool) → is_same r.attempt a ≡ c → (is_same r.attempt b ≡ true) ⊎ (is_run b rs ≡ true)
    → (is_run b rs ≡ true → IsGoneOrRuns a b (without a rs)) → IsGoneOrRuns a b (cond (not c) (r ∷ without a rs) (without a rs))
run_step a b r rs true gone (inl here) later = inl (subst (λ (x : Attempt). is_same x b ≡ true) (same_is r.attempt a gone) here)
run_step a b r rs true gone (inr there) later = later there
run_step a b r rs false kept (inl here) later = inr (or_left (is_same r.attempt b) (is_run b (without a rs)) here)
run_step a b r rs false kept (inr there) later = behind_run a b r (without a rs) (later there)

pub run_left : (a b : Attempt) (running : List Running) → is_run b running ≡ true → (is_same a b ≡ true) ⊎ (is_run b (without a running) ≡ true)
run_left a b [] is = absurd (false≢true is)
run_left a b (r ∷ rs) is = run_step a b r rs (is_same r.attempt a) refl (or_of (is_same r.attempt b) (is_run b rs) is) (run_left a b rs)

-- what is finished is acknowledged, or stays so
abbrev pub IsAckedOrDone : Attempt → List Attempt → List DoneItem → Type 0
IsAckedOrDone a acks kept = ((b : Attempt) × (is_same b a ≡ true) × (list_any (is_same b) acks ≡ true)) ⊎ (is_done a kept ≡ true)

behind_done : (a : Attempt) (acks : List Attempt) (d : DoneItem) (kept : List DoneItem) → IsAckedOrDone a acks kept → IsAckedOrDone a acks (d ∷ kept)
behind_done a acks d kept (inl gone) = inl gone
behind_done a acks d kept (inr done) = inr (or_right (is_same d.attempt a) (is_done a kept) done)

done_step : (a : Attempt) (acks : List Attempt) (d : DoneItem) (ds : List DoneItem) (c : Bool) → list_any (is_same d.attempt) acks ≡ c
    → (is_same d.attempt a ≡ true) ⊎ (is_done a ds ≡ true) → (is_done a ds ≡ true → IsAckedOrDone a acks (not_acked acks ds))
    → IsAckedOrDone a acks (cond (not c) (d ∷ not_acked acks ds) (not_acked acks ds))
done_step a acks d ds true acked (inl here) later = inl (d.attempt, here, acked)
done_step a acks d ds true acked (inr there) later = later there
done_step a acks d ds false kept (inl here) later = inr (or_left (is_same d.attempt a) (is_done a (not_acked acks ds)) here)
done_step a acks d ds false kept (inr there) later = behind_done a acks d (not_acked acks ds) (later there)

pub done_left : (a : Attempt) (acks : List Attempt) (finished : List DoneItem) → is_done a finished ≡ true → IsAckedOrDone a acks (not_acked acks finished)
done_left a acks [] is = absurd (false≢true is)
done_left a acks (d ∷ ds) is =
    done_step a acks d ds (list_any (is_same d.attempt) acks) refl (or_of (is_same d.attempt a) (is_done a ds) is) (done_left a acks ds)
