-- What follows a depend that is dropped: frames open, and are counted.
use Rattle.std.proofs.Common.{◌≡◌, ◌≤◌, ◌+◌, inl, inr, ℕ, suc, zero, Bool, true, false, cond, List, [], ◌∷◌, length, filter, Option, None, Some, All, refl, sym, ap, subst, ◌∙◌, arith}
use Rattle.std.specs.Prelude.{Err, decimal, is_some, nat_eq}
use Rattle.std.specs.List.{IsDistinct}
use Rattle.std.proofs.lemmas.List.Elements.{All-nil}
use Rattle.farm_types.specs.declared.depend.DependRow.{DependRow}
use Rattle.farm_types.specs.declared.entry.Act.TheVariants as act
use Rattle.farm_types.specs.declared.limits.TheConstants.{SLOT_LIMIT}
use Rattle.farm_types.specs.declared.refusal.Refusal.{Refusal}
use Rattle.farm_types.specs.declared.refusal.Refusal.TheVariants.{Unknown, Satisfied}
use Rattle.farm_types.specs.DependActs.{depend_at, drop_refusal}
use Rattle.farm_types.specs.Depends.{is_done}
use Rattle.farm_types.specs.Farm.{Farm}
use Rattle.depend_graph.specs.Graph.{has_depend, has_opened, numbers_from, opened_between, without_depend}
use Rattle.depend_book.specs.Book.{DependLists, IsBook, joined}
use Rattle.farm_types.specs.Faults.{IsRefusal}
use Rattle.farm_types.specs.declared.fault.FarmFault.{FarmFault}
use Rattle.farm_types.specs.declared.fault.FarmFault.TheVariants.{Refused, NoMemory}
use Rattle.depend_book.specs.Fits.{IsBeside}
use Rattle.farm_depends.specs.Follow.{AreRoomy, Follows, IsDropThere, IsMovable, PreparesFollow}
use Rattle.farm_depends.specs.declared.follow.Follow.{Follow}
use Rattle.farm_depends.proofs.CompletionLemmas.Dropped.{dropping, dropping_count, dropping_farm}
use Rattle.depend_book.proofs.OpenUnmet.{depend_there}
use Rattle.farm_depends.proofs.CompletionLemmas.Opens.{blocked_in, blocked_movable}
use Rattle.farm_depends.proofs.CompletionLemmas.Reopened.{done_listed}
use Rattle.depend_book.proofs.Zips.{or_none}

-- ---- how many

few_by : (n : ℕ) (ns fs : List ℕ) (b : Bool) → length fs ≤ length ns → length (cond b (n ∷ fs) fs) ≤ length (n ∷ ns)
few_by n ns fs true few = omega (arith, few)
few_by n ns fs false few = omega (arith, few)

filter_few : (test : ℕ → Bool) (ns : List ℕ) → length (filter test ns) ≤ length ns
filter_few test [] = omega arith
filter_few test (n ∷ ns) = few_by n ns (filter test ns) (test n) (filter_few test ns)

numbers_many : (count from : ℕ) → length (numbers_from count from) ≡ count
numbers_many zero from = refl
numbers_many (suc count) from = omega (arith, numbers_many count (from + 1))

few_numbers : (p q : ℕ → Bool) (count : ℕ) → length (filter p (filter q (numbers_from count 0))) ≤ count
few_numbers p q count = omega (arith, filter_few p (filter q (numbers_from count 0)), filter_few q (numbers_from count 0), numbers_many count 0)

-- at most as many as there are slots
pub dropping_few : (f : Farm) (b : DependLists) (n : ℕ) → length (dropping f b n) ≤ SLOT_LIMIT
unfolding opened_between
dropping_few f b n = few_numbers (blocked_in f.slots) (has_opened b.graph.depends (without_depend b.graph n).depends) SLOT_LIMIT

-- ---- what follows

none_differ : IsDistinct nat_eq []
unfolding IsDistinct
none_differ = tt

module _ (f : Farm) (b : DependLists) (n : ℕ) (whole : IsBeside f b) (book : IsBook b) (d : DependRow) (found : depend_at (joined f b) n ≡ Some d) where
  there : is_some (depend_at (joined f b) n) ≡ true
  there = ap is_some found

  -- the graph has the depend
  pub drop_in_graph : has_depend b.graph n ≡ true
  drop_in_graph = sym (depend_there f b book whole.fits n) ∙ there

  pub drop_follows : d.met_all ≡ false → (w : Follow) → w.depends ≡ [] → w.spares ≡ [] → w.dropped ≡ Some n → w.done ≡ [] → w.reopened ≡ None → w.opened ≡ dropping f b n → w.blocked ≡ [] → w.count ≡ length w.opened
      → Follows (joined f b) (joined f b) (act.DropDepend n) w
  drop_follows unmet w depends spares dropped done reopened opened blocked count =
      record {
        accepted = ap (drop_refusal n) found ∙ ap (λ (c : Bool). cond {A = Option Refusal} c (Some Satisfied) None) unmet;
        fits = record {
          groups_stay = λ i e at left. refl;
          one_kind = inr (inl (done, reopened));
          room = subst (AreRoomy (joined f b)) (sym depends) tt;
          drop_there = subst (IsDropThere (joined f b)) (sym dropped) there;
          done_differ = subst (IsDistinct nat_eq) (sym done) none_differ;
          undone = subst (All (λ slot. is_done f.slots slot ≡ false)) (sym done) (All-nil _);
          done_are = λ slot. sym (or_none (is_done f.slots slot)) ∙ done_listed (is_done f.slots slot) [] w slot done reopened;
          opened_movable =
              subst (All (IsMovable f.slots)) (sym opened)
              (blocked_movable (joined f b) whole.kept.rows.sound (opened_between b.graph.depends (without_depend b.graph n).depends));
          blocked_movable = subst (All (IsMovable f.slots)) (sym blocked) (All-nil _);
        };
        unreserved = spares;
        farm = dropping_farm f b n book whole.fits whole.kept.depends.met whole.kept.rows.jobs.slot_count whole.kept.depends.blocked w depends dropped blocked opened;
        counts = count ∙ (ap length opened ∙ sym (dropping_count f b n book whole.fits whole.kept.depends.met whole.kept.rows.jobs.slot_count whole.kept.depends.blocked));
      }

-- ---- refusals

-- no depend of that number is there
pub drop_unknown : (f g : Farm) (n : ℕ) (fault : FarmFault) → depend_at f n ≡ None → IsRefusal (Unknown (decimal n)) fault → PreparesFollow f g (act.DropDepend n) (Err fault)
drop_unknown f g n (Refused why) none unknown = ap (drop_refusal n) none ∙ ap Some (sym unknown)
drop_unknown f g n NoMemory none unknown = tt

-- the depend is satisfied
pub drop_satisfied : (f g : Farm) (n : ℕ) (d : DependRow) → depend_at f n ≡ Some d → d.met_all ≡ true → PreparesFollow f g (act.DropDepend n) (Err (Refused Satisfied))
drop_satisfied f g n d found met = ap (drop_refusal n) found ∙ ap (λ (c : Bool). cond {A = Option Refusal} c (Some Satisfied) None) met
