-- The rows of slots, then those of depends and marks, lead to the farm after what follows.
use Rattle.std.proofs.Common.{◌≡◌, ◌≤◌, ◌+◌, ℕ, length, eqb, Bool, false, List, [], ◌∷◌, ◌++◌, Option, Some, None, append-nil, refl, ap, sym, subst, ◌∙◌, inl, inr, arith}
use Rattle.std.specs.Prelude.{◌&&◌, ◌||◌}
use Rattle.std.specs.List.{list_any}
use Rattle.std.proofs.lemmas.Bool.{eq-eqb, false≢true}
use Rattle.farm_types.specs.declared.depend.MetRow.{MetRow}
use Rattle.farm_types.specs.Farm.{Farm}
use Rattle.farm_types.specs.declared.limits.TheConstants.{LAST_DEPEND, SLOT_LIMIT}
use Rattle.farm_rows.specs.declared.row_change.RowChange.{RowChange}
use Rattle.farm_rows.specs.Changes.{MakesRows}
use Rattle.farm_rows.proofs.MadeRows.{makes_then}
use Rattle.depend_graph.specs.declared.trials.marks.Marks.{Marks}
use Rattle.depend_graph.specs.Graph.{HasMet, is_mark, with_all_done}
use Rattle.depend_graph.proofs.ProgressLemmas.FlowKept.{never_satisfied}
use Rattle.depend_graph.proofs.TrialLemmas.Telling.{never_met}
use Rattle.depend_book.specs.Book.{DependLists, IsBook, all_done_in, dropped_in, joined}
use Rattle.depend_book.specs.declared.new_depend.NewDepend.{NewDepend}
use Rattle.farm_depends.specs.declared.follow.Follow.{Follow}
use Rattle.depend_book.specs.Fits.{IsBeside}
use Rattle.farm_depends.specs.Follow.{AreRoomy, FollowFits, HasMarks, IsDropThere, IsOneKind, NoneCome, after_follow, depends_after, drop_in, reopened_in, slots_after, with_new_all, with_row}
use Rattle.farm_depends.specs.FollowRows.{all_coming_rows, dropped_rows, met_rows, satisfied_rows}
use Rattle.farm_depends.proofs.Applied.{joined_then, takes}
use Rattle.farm_depends.proofs.RowLemmas.CameRows.{makes_all_new, satisfied_stays}
use Rattle.farm_depends.proofs.RowLemmas.DependRows.{makes_met}
use Rattle.farm_depends.proofs.RowLemmas.MarksMade.{done_changes, dropped_changes, dropping}
use Rattle.depend_book.proofs.OneCleared.{cleared_is}

-- ---- where no frame is done

none_marked : (ms : List MetRow) → ((n p : ℕ) → list_any (is_mark n p) ms ≡ false) → ms ≡ []
none_marked [] none = refl
none_marked (m ∷ ms) none =
    absurd (false≢true (sym (none m.depend m.position) ∙ ap (λ (b : Bool). b || list_any (is_mark m.depend m.position) ms) (λ i. eq-eqb m.depend m.depend refl i && eq-eqb m.position m.position refl i)))

none_listed : (ns : List ℕ) → ((n : ℕ) → list_any (λ m. eqb m n) ns ≡ false) → ns ≡ []
none_listed [] none = refl
none_listed (n ∷ ns) none = absurd (false≢true (sym (none n) ∙ ap (λ (b : Bool). b || list_any (λ m. eqb m n) ns) (eq-eqb n n refl)))

no_rows : (b : DependLists) (marks : Marks) (done : List ℕ) → done ≡ [] → HasMet b.graph.depends (with_all_done b.graph done).depends marks → met_rows b marks ≡ []
no_rows b marks done none has =
    let still : HasMet b.graph.depends b.graph.depends marks = subst (λ (ss : List ℕ). HasMet b.graph.depends (with_all_done b.graph ss).depends marks) none has in
    let met : marks.met ≡ [] = none_marked marks.met (λ n p. still.met n p ∙ never_met b.graph.depends n p) in
    let satisfied : marks.satisfied ≡ [] = none_listed marks.satisfied (λ n. still.satisfied n ∙ never_satisfied b.graph.depends n) in
    λ i. met_rows b (record { met = met i; satisfied = satisfied i })

module _ (f0 f : Farm) (b : DependLists) (w : Follow) (whole : IsBeside f0 b) (book : IsBook b) (fits : FollowFits (joined f0 b) (joined f b) w)
    (count : length (slots_after f.slots w) ≤ SLOT_LIMIT) (has : HasMarks b.graph w)
  where
    abbrev moved : Farm
    moved = record f { slots = slots_after f.slots w }

    abbrev coming : List RowChange
    coming = all_coming_rows b.graph.done b.next w.depends

    abbrev going : List RowChange
    going = dropped_rows b w.dropped

    abbrev meeting : List RowChange
    meeting = met_rows b w.marks

    nothing : (g : Farm) → MakesRows g g []
    nothing g k named = refl

    no_coming : w.depends ≡ [] → MakesRows (joined moved b) (joined moved b) coming
    no_coming none = subst (λ (ns : List NewDepend). MakesRows (joined moved b) (joined moved b) (all_coming_rows b.graph.done b.next ns)) (sym none) (nothing (joined moved b))

    no_going : (c : DependLists) → w.dropped ≡ None → MakesRows (joined moved c) (joined moved c) going
    no_going c none = subst (λ (o : Option ℕ). MakesRows (joined moved c) (joined moved c) (dropped_rows b o)) (sym none) (nothing (joined moved c))

    no_meeting : (c : DependLists) → w.done ≡ [] → MakesRows (joined moved c) (joined moved c) meeting
    no_meeting c none = subst (λ (cs : List RowChange). MakesRows (joined moved c) (joined moved c) cs) (sym (no_rows b w.marks w.done none has)) (nothing (joined moved c))

    module _ (rows : List RowChange) (made : MakesRows (joined f b) (joined moved b) rows) where
      abbrev all_rows : List RowChange
      all_rows = ((rows ++ coming) ++ going) ++ meeting

      together : (c d e : DependLists) → MakesRows (joined moved b) (joined moved c) coming → MakesRows (joined moved c) (joined moved d) going → MakesRows (joined moved d) (joined moved e) meeting
          → joined moved e ≡ joined moved (depends_after b w) → MakesRows (joined f b) (after_follow (joined f b) w) all_rows
      together c d e first second third same =
          let two = makes_then (joined f b) (joined moved b) (joined moved c) rows coming made first in
          let three = makes_then (joined f b) (joined moved c) (joined moved d) (rows ++ coming) going two second in
          let four = makes_then (joined f b) (joined moved d) (joined moved e) ((rows ++ coming) ++ going) meeting three third in
          subst (λ (g : Farm). MakesRows (joined f b) g all_rows) (same ∙ joined_then f0 f b w whole book fits count) four

      -- frames are done
      with_done : NoneCome w → w.reopened ≡ None → MakesRows (joined f b) (after_follow (joined f b) w) all_rows
      with_done none_come none_back =
          together b b (all_done_in b w.done) (no_coming none_come.0) (no_going b none_come.1) (makes_met moved b (all_done_in b w.done) w.marks (done_changes b book w.done w.marks has))
          (λ i. joined moved (all_done_in (reopened_in (drop_in (with_new_all b (sym none_come.0 i)) (sym none_come.1 i)) (sym none_back i)) w.done))

      -- depends come or go
      module _ (none_done : w.done ≡ []) (none_back : w.reopened ≡ None) where
        abbrev more : DependLists
        more = with_new_all b w.depends

        more_book : IsBook more
        more_book = (takes f0 f b w whole book fits count none_done none_back).book

        dropped_by : (o : Option ℕ) → IsDropThere (joined f b) o → MakesRows (joined moved more) (joined moved (drop_in more o)) (dropped_rows b o)
        dropped_by None there = nothing (joined moved more)
        dropped_by (Some n) there =
            subst (λ (cs : List RowChange). MakesRows (joined moved more) (joined moved (dropped_in more n)) cs) (append-nil (satisfied_rows more n) ∙ satisfied_stays f b w.depends n book.rise there)
            (makes_met moved more (dropped_in more n) (dropping more more_book n) (dropped_changes more more_book n))

        with_depends : MakesRows (joined f b) (after_follow (joined f b) w) all_rows
        with_depends =
            together more (drop_in more w.dropped) (drop_in more w.dropped) (makes_all_new moved b w.depends book.rise) (dropped_by w.dropped fits.drop_there) (no_meeting (drop_in more w.dropped) none_done)
            (λ i. joined moved (all_done_in (reopened_in (drop_in more w.dropped) (sym none_back i)) (sym none_done i)))

      -- a frame isn't done any more
      reopened_same : (o : Option ℕ) → joined moved b ≡ joined moved (reopened_in b o)
      reopened_same None = refl
      reopened_same (Some n) = sym (ap (joined moved) (cleared_is b n book))

      with_reopened : NoneCome w → w.done ≡ [] → MakesRows (joined f b) (after_follow (joined f b) w) all_rows
      with_reopened none_come none_done =
          together b b b (no_coming none_come.0) (no_going b none_come.1) (no_meeting b none_done)
          (reopened_same w.reopened ∙ λ i. joined moved (all_done_in (reopened_in (drop_in (with_new_all b (sym none_come.0 i)) (sym none_come.1 i)) w.reopened) (sym none_done i)))

      by_kind : IsOneKind w → MakesRows (joined f b) (after_follow (joined f b) w) all_rows
      by_kind (inl none) = with_done none.0 none.1
      by_kind (inr (inl none)) = with_depends none.0 none.1
      by_kind (inr (inr none)) = with_reopened none.0 none.1

      pub makes_follow : MakesRows (joined f b) (after_follow (joined f b) w) all_rows
      makes_follow = by_kind fits.one_kind

-- a number is left for each depend that comes
pub room_left : (f : Farm) (ns : List NewDepend) → f.next_depend ≤ LAST_DEPEND + 1 → AreRoomy f ns → f.next_depend + length ns ≤ LAST_DEPEND + 1
room_left f [] within room = omega (arith, within)
room_left f (n ∷ ns) within room =
    let first : f.next_depend ≤ LAST_DEPEND = room.0.number_left in
    let next : f.next_depend + 1 ≤ LAST_DEPEND + 1 = omega (arith, first) in
    let rest : (f.next_depend + 1) + length ns ≤ LAST_DEPEND + 1 = room_left (with_row f n) ns next room.1 in
    omega (arith, rest)
