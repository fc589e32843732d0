-- Depends come to a farm in which exactly what is met is marked: the frames that wait in their groups that aren't met at once are open no more, all others
-- as before.
use Rattle.std.proofs.Common.{◌≡◌, ℕ, Bool, true, false, cond, eqb, ◌&&◌, ◌||◌, not, List, [], ◌∷◌, ◌++◌, map, length, Some, refl, ap, sym, ◌∙◌, arith}
use Rattle.std.specs.List.{filter, list_all, list_any, slice_get}
use Rattle.std.proofs.lemmas.Bool.{and_left, ne_eqb, or_from}
use Rattle.std.proofs.lemmas.List.Folds.{list_all-append, list_any-append}
use Rattle.farm_types.specs.declared.depend.DependRow.{DependRow}
use Rattle.farm_types.specs.declared.depend.Group.{Group}
use Rattle.farm_types.specs.declared.depend.MetRow.{MetRow}
use Rattle.farm_types.specs.declared.rows.LayerRow.{LayerRow}
use Rattle.farm_types.specs.declared.slot_row.SlotRow.{SlotRow}
use Rattle.farm_types.specs.Depends.{are_done, groups_in, groups_of, is_done, is_met, is_open, waits_in}
use Rattle.farm_types.specs.Farm.{Farm}
use Rattle.farm_types.specs.Rising.{depend_key}
use Rattle.farm_types.specs.Settle.{is_met_now, met_row, settled_row, with_met}
use Rattle.farm_types.proofs.Lists.{list_all-at}
use Rattle.farm_types.proofs.Passes.{cond_each}
use Rattle.farm_law.proofs.KeptJobsLists.{rising_below}
use Rattle.depend_law.proofs.Marks.{marks}
use Rattle.depend_law.proofs.MetAgain.{met_again, met_is}
use Rattle.depend_law.proofs.Stable.{is_open_in, list_all-same}
use Rattle.depend_book.specs.declared.new_depend.NewDepend.{NewDepend}
use Rattle.farm_depends.specs.Coming.{is_unmet, waiters_of}
use Rattle.farm_depends.specs.Follow.{is_listed, row_for, with_all, with_row}
use Rattle.farm_depends.proofs.ComingLemmas.WithRow.{Numbered, done_now, groups_with, marks_now, met_before_all, met_with, new_row, now_are, numbered_met, numbered_row, row_now, row_settled, with_now}

-- ---- who waits unmet

-- the frames that wait by depends that come, in those of their groups that aren't met at once
abbrev pub waiters_in : List SlotRow → List NewDepend → List ℕ
waiters_in slots [] = []
waiters_in slots (n ∷ ns) = waiters_of (filter (is_unmet slots) n.groups) ++ waiters_in slots ns

-- each has the groups that these layers and slots say
abbrev pub AreOwn : List LayerRow → List SlotRow → List NewDepend → Type 0
AreOwn layers slots [] = Unit {0}
AreOwn layers slots (n ∷ ns) = (n.groups ≡ groups_in layers slots (row_for 0 n)) × AreOwn layers slots ns

not_either : (a b : Bool) → not (a || b) ≡ (not a && not b)
not_either true b = refl
not_either false b = refl

group_listed : (slots : List SlotRow) (slot : ℕ) (g : Group) (gs : List Group) (b : Bool) → are_done (is_done slots) g ≡ b
    → list_all (λ (h : Group). are_done (is_done slots) h || not (waits_in slot h)) gs ≡ not (is_listed (waiters_of (filter (is_unmet slots) gs)) slot)
    → ((b || not (waits_in slot g)) && list_all (λ (h : Group). are_done (is_done slots) h || not (waits_in slot h)) gs)
    ≡ not (is_listed (waiters_of (cond (not b) (g ∷ filter (is_unmet slots) gs) (filter (is_unmet slots) gs))) slot)
group_listed slots slot g gs true is later = later
group_listed slots slot g gs false is later =
    ap (λ (b : Bool). not (waits_in slot g) && b) later
    ∙ sym (ap not (list_any-append (λ n. eqb n slot) g.waiters (waiters_of (filter (is_unmet slots) gs)))
    ∙ not_either (waits_in slot g) (is_listed (waiters_of (filter (is_unmet slots) gs)) slot))

-- the frame waits in no group that isn't done
groups_listed : (slots : List SlotRow) (slot : ℕ) (gs : List Group) → list_all (λ (g : Group). are_done (is_done slots) g || not (waits_in slot g)) gs ≡ not (is_listed (waiters_of (filter (is_unmet slots) gs)) slot)
groups_listed slots slot [] = refl
groups_listed slots slot (g ∷ gs) =
    ap (λ (b : Bool). (are_done (is_done slots) g || not (waits_in slot g)) && b) refl
    ∙ group_listed slots slot g gs (are_done (is_done slots) g) refl (groups_listed slots slot gs)

-- ---- one more

none_of : (d e : DependRow) (g : Group) (gs : List Group) → (e.depend ≡ d.depend → ⊥) → list_any (marks d g) (map (met_row e) gs) ≡ false
none_of d e g [] differ = refl
none_of d e g (h ∷ hs) differ = or_from _ _ (and_left _ _ (ne_eqb e.depend d.depend differ)) (none_of d e g hs differ)

or_none : (b : Bool) → (b || false) ≡ b
or_none true = refl
or_none false = refl

and_all : (b : Bool) → (b && true) ≡ b
and_all true = refl
and_all false = refl

-- what stands at the end
at_end : {X : Type 0} (xs : List X) (x : X) → slice_get (xs ++ x ∷ []) (length xs) ≡ Some x
at_end [] x = refl
at_end (y ∷ ys) x = at_end ys x

all_or_each : (a b : Bool) → (a ≡ true → b ≡ true) → (a || b) ≡ b
all_or_each true b each = sym (each refl)
all_or_each false b each = refl

module _ (f : Farm) (k : Numbered f) (n : NewDepend) where
  groups_now : groups_of (with_now f n) ≡ groups_of f
  unfolding groups_of
  groups_now = refl

  pub groups_now_row : groups_of (with_now f n) (row_now f n) ≡ groups_of f (new_row f n)
  unfolding groups_of
  groups_now_row = refl

  -- marks of the new depend are of no other
  no_other : (d : DependRow) (g : Group) → (f.next_depend ≡ d.depend → ⊥) → list_any (marks d g) (marks_now f n) ≡ false
  no_other d g differ =
      cond_each (λ (rows : List MetRow). list_any (marks d g) rows ≡ false) (list_all (done_now f) (groups_of f (new_row f n))) []
      (map (met_row (new_row f n)) (filter (done_now f) (groups_of f (new_row f n)))) refl
      (none_of d (new_row f n) g (filter (done_now f) (groups_of f (new_row f n))) differ)

  -- a group of it is met where its targets are done
  pub new_met : (i : ℕ) (g : Group) → slice_get (groups_of f (new_row f n)) i ≡ Some g → is_met (with_now f n) (row_now f n) g ≡ done_now f g
  new_met i g at =
      let more = with_row f n in
      let there : slice_get (groups_of more (new_row f n)) i ≡ Some g = ap (λ (groups : DependRow → List Group). slice_get (groups (new_row f n)) i) (groups_with f n) ∙ at in
      let settled : settled_row more (new_row f n) ≡ row_now f n =
      ap (λ (groups : DependRow → List Group). record (new_row f n) { met_all = list_all (is_met_now f (new_row f n)) (groups (new_row f n)) }) (groups_with f n) ∙ row_settled f n k in
      (λ j. is_met (sym (met_with f n k) j) (sym settled j) g)
      ∙ (met_is more more.next_depend (numbered_row f n k).rise (length f.depends) (new_row f n) (at_end f.depends (new_row f n)) i g there
      ∙ ((λ j. (settled j).met_all || now_are f n k j g)
      ∙ all_or_each (row_now f n).met_all (done_now f g) (λ all. list_all-at (done_now f) (groups_of f (new_row f n)) i g all at)))

  new_open : (slot : ℕ) → is_open_in (with_now f n) slot (row_now f n) ≡ not (is_listed (waiters_of (filter (is_unmet f.slots) (groups_of f (new_row f n)))) slot)
  new_open slot =
      ap (list_all (λ g. is_met (with_now f n) (row_now f n) g || not (waits_in slot g))) groups_now_row
      ∙ (list_all-same (λ g. is_met (with_now f n) (row_now f n) g || not (waits_in slot g)) (λ g. done_now f g || not (waits_in slot g)) (groups_of f (new_row f n))
      (λ i g at. ap (λ (b : Bool). b || not (waits_in slot g)) (new_met i g at))
      ∙ groups_listed f.slots slot (groups_of f (new_row f n)))

  module _ (met : with_met f ≡ f) where
    -- what was there is met as before
    old_met : (d : DependRow) (g : Group) → (f.next_depend ≡ d.depend → ⊥) → is_met (with_now f n) d g ≡ is_met f d g
    old_met d g differ =
        ap (λ (ms : List MetRow). d.met_all || list_any (marks d g) (ms ++ marks_now f n)) (ap (λ (h : Farm). h.met) met)
        ∙ ap (λ (b : Bool). d.met_all || b)
        (list_any-append (marks d g) f.met (marks_now f n) ∙ (ap (λ (b : Bool). list_any (marks d g) f.met || b) (no_other d g differ) ∙ or_none (list_any (marks d g) f.met)))

    old_open : (slot i : ℕ) (d : DependRow) → slice_get f.depends i ≡ Some d → is_open_in (with_now f n) slot d ≡ is_open_in f slot d
    old_open slot i d at =
        let below = rising_below depend_key 1 f.depends f.next_depend i d k.rise at in
        ap (λ (groups : DependRow → List Group). list_all (λ g. is_met (with_now f n) d g || not (waits_in slot g)) (groups d)) groups_now
        ∙ list_all-same (λ g. is_met (with_now f n) d g || not (waits_in slot g)) (λ g. is_met f d g || not (waits_in slot g)) (groups_of f d)
        (λ j g there. ap (λ (b : Bool). b || not (waits_in slot g)) (old_met d g (λ e. absurd (omega (arith, below, e)))))

    pub open_with : (slot : ℕ) → is_open (with_met (with_row f n)) slot ≡ (is_open f slot && not (is_listed (waiters_of (filter (is_unmet f.slots) (groups_of f (new_row f n)))) slot))
    open_with slot =
        ap (λ (h : Farm). is_open h slot) (met_with f n k)
        ∙ (ap (λ (h : Farm). list_all (is_open_in (with_now f n) slot) (h.depends ++ row_now f n ∷ [])) met
        ∙ (list_all-append (is_open_in (with_now f n) slot) f.depends (row_now f n ∷ [])
        ∙ λ j. list_all-same (is_open_in (with_now f n) slot) (is_open_in f slot) f.depends (λ i d at. old_open slot i d at) j && (and_all (is_open_in (with_now f n) slot (row_now f n)) ∙ new_open slot) j))

-- ---- many more

not_in_both : (a : Bool) (xs ys : List ℕ) (slot : ℕ) → ((a && not (is_listed xs slot)) && not (is_listed ys slot)) ≡ (a && not (is_listed (xs ++ ys) slot))
not_in_both true xs ys slot = sym (ap not (list_any-append (λ n. eqb n slot) xs ys) ∙ not_either (is_listed xs slot) (is_listed ys slot))
not_in_both false xs ys slot = refl

own_first : (f : Farm) (n : NewDepend) → n.groups ≡ groups_in f.layers f.slots (row_for 0 n) → groups_of f (new_row f n) ≡ n.groups
unfolding groups_of
own_first f n own = sym own

pub open_with_all : (f : Farm) → Numbered f → with_met f ≡ f → (ns : List NewDepend) → AreOwn f.layers f.slots ns → (slot : ℕ) → is_open (with_met (with_all f ns)) slot ≡ (is_open f slot && not (is_listed (waiters_in f.slots ns) slot))
open_with_all f k met [] own slot = ap (λ (g : Farm). is_open g slot) met ∙ sym (and_all (is_open f slot))
open_with_all f k met (n ∷ ns) own slot =
    let more = with_row f n in
    let first = numbered_row f n k in
    ap (λ (g : Farm). is_open g slot) (sym (met_before_all more first ns))
    ∙ (open_with_all (with_met more) (numbered_met more first.rise) (met_again more more.next_depend first.rise) ns own.1 slot
    ∙ (ap (λ (b : Bool). b && not (is_listed (waiters_in f.slots ns) slot))
    (open_with f k n met slot ∙ ap (λ (gs : List Group). is_open f slot && not (is_listed (waiters_of (filter (is_unmet f.slots) gs)) slot)) (own_first f n own.0))
    ∙ not_in_both (is_open f slot) (waiters_of (filter (is_unmet f.slots) n.groups)) (waiters_in f.slots ns) slot))
