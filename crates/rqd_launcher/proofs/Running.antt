-- What still runs once an attempt has ended.
use Rattle.std.proofs.Common.{◌≡◌, ℕ, ◌&&◌, ◌||◌, Bool, true, false, cond, not, eqb, List, [], ◌∷◌, map, drop, suc, zero, ◌+◌, arith, Ok, refl, sym, ap, subst, ◌∙◌}
use Rattle.std.specs.Prelude.{None, Option, Some, slice_get}
use Rattle.std.specs.List.{AllByRecursion, IsDistinct}
use Rattle.std.proofs.lemmas.Bool.{eq-eqb, eqb-true, true≢false}
use Rattle.std.proofs.Math.Seq.{drop-nil}
use Rattle.std.proofs.lemmas.List.Elements.{All-from_recursion, All-tail, recursion_from_All}
use Rattle.std.proofs.lemmas.Map.Keys.{IsDistinct-head, IsDistinct-tail}
use Rattle.farm_types.specs.declared.attempt.Attempt.{Attempt}
use Rattle.farm_types.proofs.Lists.{and_both}
use Rattle.farm_types.specs.Run.{is_same}
use Rattle.farm_lines.specs.declared.launch.Launch.{Launch}
use Rattle.rqd_core.specs.declared.running.Running.{Running}
use Rattle.rqd_core.specs.Keeping.{AreStarted}
use Rattle.rqd_core.specs.Life.{Life, attempts_of, is_run, without}
use Rattle.rqd_launcher.specs.declared.call.SpawnAnswer.{SpawnAnswer}
use Rattle.rqd_launcher.specs.declared.call.SpawnAnswer.TheVariants as answer
use Rattle.rqd_launcher.specs.declared.call.SpawnCall.{SpawnCall}
use Rattle.rqd_launcher.specs.declared.call.SpawnTask.{SpawnTask}
use Rattle.rqd_launcher.specs.Carries.{Carries, after_answer, start_of}

-- ---- one attempt or two

same_self : (a : Attempt) → is_same a a ≡ true
same_self a = λ i. eq-eqb a.slot a.slot refl i && eq-eqb a.version a.version refl i

one_attempt : (a b : Attempt) → is_same a b ≡ true → a ≡ b
one_attempt a b same =
    let both = and_both (eqb a.slot b.slot) (eqb a.version b.version) same in
    λ i. record { slot = eqb-true a.slot b.slot both.0 i; version = eqb-true a.version b.version both.1 i }

or_true : (b c : Bool) → c ≡ true → (b || c) ≡ true
or_true true c is = refl
or_true false c is = is

-- who differs from an attempt isn't the attempt
not_both : (r a b : Attempt) → is_same a b ≡ false → is_same r a ≡ true → is_same r b ≡ true → ⊥
not_both r a b apart at_a at_b =
    true≢false (sym (same_self a) ∙ (ap (is_same a) (sym (one_attempt r a at_a) ∙ one_attempt r b at_b) ∙ apart))

turned : (a b : Attempt) → is_same a b ≡ false → is_same b a ≡ false
turned a b apart = by (is_same b a) refl
  where
    by : (c : Bool) → is_same b a ≡ c → c ≡ false
    by true is = absurd (not_both b a b apart is (same_self b))
    by false is = refl

-- ---- the other attempts run on

-- none of these is the attempt
abbrev pub AreOthers : Attempt → List Attempt → Type 0
AreOthers a others = AllByRecursion (λ (b : Attempt). is_same a b ≡ false) others

runs_on : (a b : Attempt) (running : List Running) → is_same a b ≡ false → is_run b running ≡ true → is_run b (without a running) ≡ true
runs_on a b [] apart runs = absurd (true≢false (sym runs))
runs_on a b (r ∷ rs) apart runs = by (is_same r.attempt a) (is_same r.attempt b) refl refl runs (runs_on a b rs apart)
  where
    by : (ends stays : Bool) → is_same r.attempt a ≡ ends → is_same r.attempt b ≡ stays → (stays || is_run b rs) ≡ true
        → (is_run b rs ≡ true → is_run b (without a rs) ≡ true) → is_run b (cond (not ends) (r ∷ without a rs) (without a rs)) ≡ true
    by true true at_a at_b runs later = absurd (not_both r.attempt a b apart at_a at_b)
    by true false at_a at_b runs later = later runs
    by false true at_a at_b runs later = ap (λ (c : Bool). c || is_run b (without a rs)) at_b
    by false false at_a at_b runs later = ap (λ (c : Bool). c || is_run b (without a rs)) at_b ∙ later runs

all_run_on : (a : Attempt) (running : List Running) (rest : List Launch) → AreOthers a (map (λ (k : Launch). k.attempt) rest)
    → AllByRecursion (λ (k : Launch). is_run k.attempt running ≡ true) rest → AllByRecursion (λ (k : Launch). is_run k.attempt (without a running) ≡ true) rest
all_run_on a running [] apart run = tt
all_run_on a running (k ∷ rest) apart run = (runs_on a k.attempt running apart.0 run.0, all_run_on a running rest apart.1 run.1)

-- the starts behind one that failed still run
failed_first : (k : Launch) (rest : List Launch) (running : List Running) → AreStarted (k ∷ rest) running → AreStarted rest (without k.attempt running)
failed_first k rest running started =
    let attempts : List Attempt = map (λ (l : Launch). l.attempt) rest in
    record {
      differ = IsDistinct-tail is_same k.attempt attempts started.differ;
      run =
          All-from_recursion (λ (l : Launch). is_run l.attempt (without k.attempt running) ≡ true) rest
          (all_run_on k.attempt running rest (IsDistinct-head is_same k.attempt attempts started.differ)
          (recursion_from_All (λ (l : Launch). is_run l.attempt running ≡ true) (k ∷ rest) started.run).1);
    }

done_first : (k : Launch) (rest : List Launch) (running : List Running) → AreStarted (k ∷ rest) running → AreStarted rest running
done_first k rest running started = record {
  differ = IsDistinct-tail is_same k.attempt (map (λ (l : Launch). l.attempt) rest) started.differ;
  run = All-tail (λ (l : Launch). is_run l.attempt running ≡ true) k rest started.run;
}

first_answered : (k : Launch) (rest : List Launch) (l : Life) (answer : SpawnAnswer) → AreStarted (k ∷ rest) l.running → AreStarted rest (after_answer l (start_of k) answer).running
first_answered k rest l answer.Failed started = failed_first k rest l.running started
first_answered k rest l other started = done_first k rest l.running started

rest_by : {T E : Type 0} (k : Launch) (rest : List Launch) (done : T) (told : List SpawnCall) (old new : Life) (faults faults_now : ℕ)
    → Carries {T = T} {E = E} (start_of k ∷ []) (Ok done) told old new faults faults_now → AreStarted (k ∷ rest) old.running → AreStarted rest new.running
rest_by k rest done [] old new faults faults_now carried started =
    let none : ◌≡◌ {A = List SpawnTask} [] (start_of k ∷ []) = carried.done in absurd (cc none)
rest_by k rest done (c ∷ d ∷ cs) old new faults faults_now carried started =
    let many : c.task ∷ d.task ∷ map (λ (x : SpawnCall). x.task) cs ≡ start_of k ∷ [] = carried.done in absurd (cc many)
rest_by k rest done (c ∷ []) old new faults faults_now carried started =
    let one : c.task ∷ [] ≡ start_of k ∷ [] = carried.done in
    let task : c.task ≡ start_of k = cc one in
    let life : new ≡ after_answer old (start_of k) c.answer = carried.life_is ∙ ap (λ (t : SpawnTask). after_answer old t c.answer) task in
    subst (λ (l : Life). AreStarted rest l.running) (sym life) (first_answered k rest old c.answer started)

-- the starts behind one that was carried out still run
pub rest_started : {T E : Type 0} {done : T} {told : List SpawnCall} {old new : Life} {faults faults_now : ℕ} (k : Launch) (rest : List Launch)
    → Carries {T = T} {E = E} (start_of k ∷ []) (Ok done) told old new faults faults_now → AreStarted (k ∷ rest) old.running → AreStarted rest new.running
rest_started {done = done} {told = told} {old = old} {new = new} {faults = faults} {faults_now = faults_now} k rest carried started =
    rest_by k rest done told old new faults faults_now carried started

-- ---- what is behind an attempt

stays_whole : (a : Attempt) (rs : List Running) → AreOthers a (attempts_of rs) → without a rs ≡ rs
stays_whole a [] apart = refl
stays_whole a (r ∷ rs) apart = by (is_same r.attempt a) (turned a r.attempt apart.0) (stays_whole a rs apart.1)
  where
    by : (ends : Bool) → ends ≡ false → without a rs ≡ rs → cond (not ends) (r ∷ without a rs) (without a rs) ≡ r ∷ rs
    by true is whole = absurd (true≢false is)
    by false is whole = ap (λ (more : List Running). r ∷ more) whole

first_goes : (r : Running) (rs : List Running) → AreOthers r.attempt (attempts_of rs) → without r.attempt (r ∷ rs) ≡ rs
first_goes r rs apart =
    ap (λ (ends : Bool). cond (not ends) (r ∷ without r.attempt rs) (without r.attempt rs)) (same_self r.attempt) ∙ stays_whole r.attempt rs apart

first_stays : (a : Attempt) (r : Running) (rs : List Running) → is_same r.attempt a ≡ false → without a (r ∷ rs) ≡ r ∷ without a rs
first_stays a r rs apart = ap (λ (ends : Bool). cond (not ends) (r ∷ without a rs) (without a rs)) apart

other_at : (a : Attempt) (rs : List Running) (place : ℕ) (r : Running) (rest : List Running) → AreOthers a (attempts_of rs) → drop place rs ≡ r ∷ rest → is_same a r.attempt ≡ false
other_at a [] place r rest apart is =
    let none : ◌≡◌ {A = List Running} [] (r ∷ rest) = sym (drop-nil place) ∙ is in absurd (cc none)
other_at a (x ∷ xs) zero r rest apart is =
    let here : x ≡ r = cc is in subst (λ (y : Running). is_same a y.attempt ≡ false) here apart.0
other_at a (x ∷ xs) (suc place) r rest apart is = other_at a xs place r rest apart.1 is

-- where an attempt ends, those behind it move up by one
moved_up : (running : List Running) (place : ℕ) (r : Running) (rest : List Running) → IsDistinct is_same (attempts_of running) → drop place running ≡ r ∷ rest
    → drop place (without r.attempt running) ≡ rest
moved_up [] place r rest differ is =
    let none : ◌≡◌ {A = List Running} [] (r ∷ rest) = sym (drop-nil place) ∙ is in absurd (cc none)
moved_up (x ∷ xs) zero r rest differ is =
    let here : x ≡ r = cc is in
    let behind : xs ≡ rest = cc is in
    subst (λ (y : Running). without y.attempt (x ∷ xs) ≡ rest) here (first_goes x xs (IsDistinct-head is_same x.attempt (attempts_of xs) differ) ∙ behind)
moved_up (x ∷ xs) (suc place) r rest differ is =
    let apart : is_same x.attempt r.attempt ≡ false = other_at x.attempt xs place r rest (IsDistinct-head is_same x.attempt (attempts_of xs) differ) is in
    ap (λ (more : List Running). drop (suc place) more) (first_stays r.attempt x xs apart)
    ∙ moved_up xs place r rest (IsDistinct-tail is_same x.attempt (attempts_of xs) differ) is

run_here : (running : List Running) (place : ℕ) (r : Running) (rest : List Running) → drop place running ≡ r ∷ rest → is_run r.attempt running ≡ true
run_here [] place r rest is =
    let none : ◌≡◌ {A = List Running} [] (r ∷ rest) = sym (drop-nil place) ∙ is in absurd (cc none)
run_here (x ∷ xs) zero r rest is =
    let here : x ≡ r = cc is in
    ap (λ (same : Bool). same || is_run r.attempt xs) (ap (λ (y : Running). is_same y.attempt r.attempt) here ∙ same_self r.attempt)
run_here (x ∷ xs) (suc place) r rest is = or_true (is_same x.attempt r.attempt) (is_run r.attempt xs) (run_here xs place r rest is)

-- The attempt stands at this place.
pub record IsAt (running : List Running) (place : ℕ) (a : Attempt) : Type 0 where
  pub run : Running
  pub here : drop place running ≡ run ∷ drop (place + 1) running
  pub named : run.attempt ≡ a

pub is_at : (running : List Running) (place : ℕ) (a : Attempt) → slice_get (attempts_of running) place ≡ Some a → IsAt running place a
is_at [] place a there = let none : ◌≡◌ {A = Option Attempt} None (Some a) = there in absurd (cc none)
is_at (r ∷ rs) zero a there = record { run = r; here = refl; named = cc there }
is_at (r ∷ rs) (suc place) a there =
    let at = is_at rs place a there in
    let next : suc (place + 1) ≡ suc place + 1 = omega arith in
    record { run = at.run; here = at.here ∙ ap (λ (n : ℕ). at.run ∷ drop n (r ∷ rs)) next; named = at.named }

pub at_runs : {running : List Running} {place : ℕ} {a : Attempt} → IsAt running place a → is_run a running ≡ true
at_runs {running} {place} at = subst (λ (b : Attempt). is_run b running ≡ true) at.named (run_here running place at.run (drop (place + 1) running) at.here)

pub at_left : {running : List Running} {place : ℕ} {a : Attempt} → IsAt running place a → attempts_of (drop place running) ≡ a ∷ attempts_of (drop (place + 1) running)
at_left {running} {place} at = ap attempts_of at.here ∙ ap (λ (b : Attempt). b ∷ attempts_of (drop (place + 1) running)) at.named

pub at_ended : {running : List Running} {place : ℕ} {a : Attempt} → IsDistinct is_same (attempts_of running) → IsAt running place a
    → drop place (without a running) ≡ drop (place + 1) running
at_ended {running} {place} differ at =
    ap (λ (b : Attempt). drop place (without b running)) (sym at.named) ∙ moved_up running place at.run (drop (place + 1) running) differ at.here
