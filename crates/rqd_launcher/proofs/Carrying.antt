-- Tasks that are carried out one after the other.
use Rattle.std.proofs.Common.{◌≡◌, ℕ, ◌≤◌, List, [], ◌∷◌, ◌++◌, map, Result, Ok, Err, refl, sym, ap, ◌∙◌, subst, sum_by, arith, append_assoc, append-nil, length-append}
use Rattle.std.proofs.lemmas.List.{map-append}
use Rattle.std.proofs.lemmas.List.Sums.{sum_by-append}
use Rattle.std.specs.Prelude.{IsErrAnd, cond}
use Rattle.fault_counts.specs.Counts.{HasRisenAtLeast}
use Rattle.fault_counts.proofs.CountLaws.{HasRisenAtLeast-append, HasRisenAtLeast-none}
use Rattle.rqd_core.specs.Life.{Life}
use Rattle.rqd_launcher.specs.declared.call.SpawnCall.{SpawnCall}
use Rattle.rqd_launcher.specs.declared.call.SpawnTask.{SpawnTask}
use Rattle.rqd_launcher.specs.Carries.{AreDone, Carries, HaveCauses, after_answer, is_failure, life_after}

-- ---- calls after calls

abbrev pub asked : List SpawnCall → List SpawnTask
asked told = map (λ (c : SpawnCall). c.task) told

asked_more : (first second : List SpawnCall) (left : List SpawnTask) → asked (first ++ second) ++ left ≡ asked first ++ (asked second ++ left)
asked_more first second left =
    ap (λ (tasks : List SpawnTask). tasks ++ left) (map-append (λ (c : SpawnCall). c.task) first second) ∙ append_assoc (asked first) (asked second) left

life_more : (l : Life) (first second : List SpawnCall) → life_after l (first ++ second) ≡ life_after (life_after l first) second
life_more l [] second = refl
life_more l (c ∷ cs) second = life_more (after_answer l c.task c.answer) cs second

-- what a call weighs in the count of faults
abbrev weight : SpawnCall → ℕ
weight c = cond (is_failure c.answer) 1 0

pub HaveCauses-none : (faults : ℕ) → HaveCauses [] faults faults
HaveCauses-none faults = HasRisenAtLeast-none faults

pub HaveCauses-append : (first second : List SpawnCall) (old mid new : ℕ) → HaveCauses first old mid → HaveCauses second mid new → HaveCauses (first ++ second) old new
HaveCauses-append first second old mid new before after =
    subst (λ (many : ℕ). HasRisenAtLeast many old new) (sym (sum_by-append weight first second))
    (HasRisenAtLeast-append (sum_by weight first) (sum_by weight second) old mid new before after)

-- ---- tasks that are left

-- The first of the tasks were done by these calls, and these are left.
pub record IsBegun (all left : List SpawnTask) (told : List SpawnCall) (old new : Life) (faults faults_now : ℕ) : Type 0 where
  pub tasks : asked told ++ left ≡ all
  pub life_is : new ≡ life_after old told
  pub causes : HaveCauses told faults faults_now
  pub rises : faults ≤ faults_now

-- nothing was done
pub none_done : (all : List SpawnTask) (l : Life) (faults : ℕ) → IsBegun all all [] l l faults faults
none_done all l faults = record { tasks = refl; life_is = refl; causes = HaveCauses-none faults; rises = omega arith }

module _ {all left : List SpawnTask} {told : List SpawnCall} {old mid : Life} {faults mid_faults : ℕ} (begun : IsBegun all left told old mid faults mid_faults) where
  -- none is left
  pub all_done : {T E : Type 0} (done : T) → left ≡ [] → Carries {T = T} {E = E} all (Ok done) told old mid faults mid_faults
  all_done done none = record {
    done = sym (append-nil (asked told)) ∙ (ap (λ (tasks : List SpawnTask). asked told ++ tasks) (sym none) ∙ begun.tasks);
    life_is = begun.life_is;
    causes = begun.causes;
    rises = begun.rises;
  }

  module _ {T E : Type 0} {first : List SpawnTask} {result : Result T E} {more : List SpawnCall} {new : Life} {new_faults : ℕ}
      (carried : Carries first result more mid new mid_faults new_faults) where
    life_more_is : new ≡ life_after old (told ++ more)
    life_more_is = carried.life_is ∙ (ap (λ (l : Life). life_after l more) begun.life_is ∙ sym (life_more old told more))

    causes_are : HaveCauses (told ++ more) faults new_faults
    causes_are = HaveCauses-append told more faults mid_faults new_faults begun.causes carried.causes

  done_so : {T E : Type 0} (result : Result T E) (more : List SpawnCall) → AreDone left result more → AreDone all result (told ++ more)
  done_so (Ok done) more is =
      sym (append-nil (asked (told ++ more)))
      ∙ (asked_more told more [] ∙ (ap (λ (tasks : List SpawnTask). asked told ++ tasks) (append-nil (asked more) ∙ is) ∙ begun.tasks))
  done_so (Err fault) more (rest, some, is) =
      (rest, some, asked_more told more rest ∙ (ap (λ (tasks : List SpawnTask). asked told ++ tasks) is ∙ begun.tasks))

  -- the first of those that are left were done too
  pub more_done : {T E : Type 0} {done : T} {first : List SpawnTask} {more : List SpawnCall} {new : Life} {new_faults : ℕ} (rest : List SpawnTask)
      → Carries {T = T} {E = E} first (Ok done) more mid new mid_faults new_faults → left ≡ first ++ rest → IsBegun all rest (told ++ more) old new faults new_faults
  more_done {first = first} {more = more} rest carried is = record {
    tasks =
        asked_more told more rest
        ∙ (ap (λ (tasks : List SpawnTask). asked told ++ (tasks ++ rest)) carried.done ∙ (ap (λ (tasks : List SpawnTask). asked told ++ tasks) (sym is) ∙ begun.tasks));
    life_is = life_more_is carried;
    causes = causes_are carried;
    rises = omega (arith, begun.rises, carried.rises);
  }

  -- those that are left were done with this result
  pub last_done : {T E : Type 0} {result : Result T E} {more : List SpawnCall} {new : Life} {new_faults : ℕ}
      → Carries left result more mid new mid_faults new_faults → Carries all result (told ++ more) old new faults new_faults
  last_done {result = result} {more = more} carried = record {
    done = done_so result more carried.done;
    life_is = life_more_is carried;
    causes = causes_are carried;
    rises = omega (arith, begun.rises, carried.rises);
  }

-- tasks that were cut short, with others behind them
pub cut_short : {T E U : Type 0} {first tasks : List SpawnTask} {fault : E} {told : List SpawnCall} {old new : Life} {faults faults_now : ℕ}
    (rest : List SpawnTask) (result : Result U E) → IsErrAnd result (λ (e : E). e ≡ fault) → Carries {T = T} {E = E} first (Err fault) told old new faults faults_now → tasks ≡ first ++ rest
    → Carries tasks result told old new faults faults_now
cut_short rest (Ok done) err carried is = absurd err
cut_short {told = told} rest (Err again) err carried is =
    let left : List SpawnTask = carried.done.0 in
    record {
      done = (
        left ++ rest,
        omega (arith, length-append left rest, carried.done.1),
        sym (append_assoc (asked told) left rest) ∙ (ap (λ (tasks : List SpawnTask). tasks ++ rest) carried.done.2 ∙ sym is),
      );
      life_is = carried.life_is;
      causes = carried.causes;
      rises = carried.rises;
    }
