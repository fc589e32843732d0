-- Hosts that are resized, where a view, a slot's word or a host's word changes.
use Rattle.std.proofs.Common.{◌≡◌, ◌≢◌, ℕ, ◌<◌, List, [], ◌∷◌, ◌++◌, length, set, sym, ap, ◌∙◌, subst, ⊎_elim}
use Rattle.std.specs.Prelude.{Some, None}
use mathlib.Core.Option.{some}
use mathlib.Core.Logic.{dite}
use native.Mathlib.Decide.{ℕ_discrete}
use lib.ListN.{get_elem?}
use Rattle.atomic_table.proofs.Lists.{at_set}
use Rattle.farm_types.specs.Farm.{Farm}
use Rattle.frame_words.specs.declared.frame_word.FrameWord.{FrameWord}
use Rattle.frame_words.specs.declared.host_word.HostWord.{HostWord}
use Rattle.booking_rule.specs.declared.desk.Desk.{Desk}
use Rattle.booking_rule.specs.declared.hold.Room.{Room}
use Rattle.booking_rule.specs.declared.view.View.{View}
use Rattle.booking_rule.specs.Totals.{total}
use Rattle.booking_rule.specs.Words.{put}
use Rattle.booking_rule.specs.Rule.{cores_in, memory_in}
use Rattle.booking_rule.specs.Resizing.{IsOfSize, IsResized, HasNoRoom, IsEmptied, Resizing}
use Rattle.booking_rule.proofs.Sums.{at_more}
use Rattle.booking_rule.proofs.Moves.{put_here, put_else}

-- where no host is resized
pub none_resized : (cores memory : ℕ → ℕ) (f : Farm) (H : ℕ → HostWord) (F : ℕ → FrameWord) (views : List View) → ((host : ℕ) → IsOfSize (cores host) (memory host) f host)
    → Resizing cores memory f H F views
none_resized cores memory f H F views same = record { each = λ host lt is. absurd (is.1 (same host)) }

-- a view that, unless it is the recorder's, is one that had no desk either, with the same rooms
abbrev pub HasItsRooms : View → View → Type 0
HasItsRooms v w = w.desk ≡ None → (v.desk ≡ None) × (w.rooms ≡ v.rooms)

-- a view of the recorder's seat
pub of_desk : (v w : View) (d : Desk) → w.desk ≡ Some d → HasItsRooms v w
of_desk v w d is none = absurd (off (sym none ∙ is))
  where
    off : None ≡ Some d → ⊥
    off e = cc

pub no_room : (host : ℕ) (v w : View) → w.rooms ≡ v.rooms → HasNoRoom host v → HasNoRoom host w
no_room host v w rooms none = (ap (λ (l : List Room). total (cores_in host) l) rooms ∙ none.0, ap (λ (l : List Room). total (memory_in host) l) rooms ∙ none.1)

module _ (host : ℕ) (h : HostWord) (F : ℕ → FrameWord) (views : List View) where
  -- another view of a seat
  pub emptied_set : (id : ℕ) (v w : View) → IsEmptied host h F views → get_elem? views id ≡ some v → (w.desk ≡ None → HasNoRoom host w) → IsEmptied host h F (set views id w)
  emptied_set id v w e at mine = record {
    cores = e.cores;
    memory = e.memory;
    unclaimed = e.unclaimed;
    others = λ j x t none. ⊎_elim
        (λ (y : (j ≡ id) × (w ≡ x)). subst (HasNoRoom host) y.1 (mine (ap (λ (z : View). z.desk) y.1 ∙ none)))
        (λ (y : (j ≢ id) × (get_elem? views j ≡ some x)). e.others j x y.1 none)
        (at_set views id j w x t);
  }

  -- another word of a slot, not SETUP
  pub emptied_frame : (slot : ℕ) (f : FrameWord) → IsEmptied host h F views → f.phase ≢ 3 → IsEmptied host h (put F slot f) views
  emptied_frame slot f e other = record {
    cores = e.cores;
    memory = e.memory;
    unclaimed = λ j lt. dite (ℕ_discrete j slot)
        (λ q. let P : ℕ → Type 0 = λ x. (put F slot f x).host ≡ host → (put F slot f x).phase ≢ 3 in
        subst P (sym q) (subst (λ (x : FrameWord). x.host ≡ host → x.phase ≢ 3) (sym (put_here F slot f)) (λ _. other)))
        (λ ne. subst (λ (x : FrameWord). x.host ≡ host → x.phase ≢ 3) (sym (put_else F slot f j ne)) (e.unclaimed j lt));
    others = e.others;
  }

module _ (cores memory : ℕ → ℕ) (f : Farm) (H : ℕ → HostWord) (F : ℕ → FrameWord) (views : List View) where
  pub resizing_set : (id : ℕ) (v w : View) → Resizing cores memory f H F views → get_elem? views id ≡ some v → HasItsRooms v w → Resizing cores memory f H F (set views id w)
  resizing_set id v w r at same = record {
    each = λ host lt is. (let e = r.each host lt is in
        emptied_set host (H host) F views id v w e at (λ none. let s = same none in no_room host v w s.1 (e.others id v at s.0)));
  }

  -- the recorder's seat may have any rooms
  pub resizing_desk : (id : ℕ) (v w : View) (d : Desk) → Resizing cores memory f H F views → get_elem? views id ≡ some v → w.desk ≡ Some d → Resizing cores memory f H F (set views id w)
  resizing_desk id v w d r at is = resizing_set id v w r at (of_desk v w d is)

  pub resizing_frame : (slot : ℕ) (x : FrameWord) → Resizing cores memory f H F views → x.phase ≢ 3 → Resizing cores memory f H (put F slot x) views
  resizing_frame slot x r other = record { each = λ host lt is. emptied_frame host (H host) F views slot x (r.each host lt is) other }

  -- a view more, with no rooms
  pub resizing_more : (u : View) → Resizing cores memory f H F views → u.rooms ≡ [] → Resizing cores memory f H F (views ++ u ∷ [])
  resizing_more u r rooms = record {
    each = λ host lt is. (let e = r.each host lt is in record {
      cores = e.cores;
      memory = e.memory;
      unclaimed = e.unclaimed;
      others = λ j x t none. ⊎_elim
          (λ (y : get_elem? views j ≡ some x). e.others j x y none)
          (λ (y : (j ≡ length views) × (u ≡ x)). subst (HasNoRoom host) y.1
          (ap (λ (l : List Room). total (cores_in host) l) rooms, ap (λ (l : List Room). total (memory_in host) l) rooms))
          (at_more views u x j t);
    });
  }

  -- one host's word changes, which stays empty where the host is resized; so does the view's room
  pub resizing_host : (k : ℕ) (h : HostWord) (id : ℕ) (v w : View) → k < 4096 → Resizing cores memory f H F views → get_elem? views id ≡ some v
      → (IsResized (cores k) (memory k) f k → IsEmptied k (H k) F views → (h.cores ≡ 0) × (h.memory ≡ 0) × (w.desk ≡ None → HasNoRoom k w))
      → ((j : ℕ) → j ≢ k → w.desk ≡ None → HasNoRoom j v → HasNoRoom j w) → (w.desk ≡ None → v.desk ≡ None)
      → Resizing cores memory f (put H k h) F (set views id w)
  resizing_host k h id v w lt r at here apart seat = record {
    each = λ j l. dite (ℕ_discrete j k)
        (λ e. let P : ℕ → Type 0 = λ x. IsResized (cores x) (memory x) f x → IsEmptied x (put H k h x) F (set views id w) in
        subst P (sym e) (λ is. let old = r.each k lt is in let g = here is old in
        subst (λ (x : HostWord). IsEmptied k x F (set views id w)) (sym (put_here H k h))
        (emptied_set k h F views id v w (record { cores = g.0; memory = g.1; unclaimed = old.unclaimed; others = old.others }) at g.2)))
        (λ ne is. let old = r.each j l is in
        subst (λ (x : HostWord). IsEmptied j x F (set views id w)) (sym (put_else H k h j ne))
        (emptied_set j (H j) F views id v w old at (λ none. apart j ne none (old.others id v at (seat none)))));
  }

  -- a slot's word and the view change
  pub resizing_put : (slot : ℕ) (x : FrameWord) (id : ℕ) (v w : View) → Resizing cores memory f H F views → get_elem? views id ≡ some v
      → ((host : ℕ) → host < 4096 → IsResized (cores host) (memory host) f host → IsEmptied host (H host) F views → (x.host ≡ host → x.phase ≢ 3) × (w.desk ≡ None → HasNoRoom host w))
      → Resizing cores memory f H (put F slot x) (set views id w)
  resizing_put slot x id v w r at still = record {
    each = λ host lt is. (let e = r.each host lt is in let g = still host lt is e in let t = emptied_set host (H host) F views id v w e at g.1 in record {
      cores = t.cores;
      memory = t.memory;
      unclaimed = λ j l. dite (ℕ_discrete j slot)
          (λ q. let P : ℕ → Type 0 = λ y. (put F slot x y).host ≡ host → (put F slot x y).phase ≢ 3 in
          subst P (sym q) (subst (λ (y : FrameWord). y.host ≡ host → y.phase ≢ 3) (sym (put_here F slot x)) g.0))
          (λ ne. subst (λ (y : FrameWord). y.host ≡ host → y.phase ≢ 3) (sym (put_else F slot x j ne)) (t.unclaimed j l));
      others = t.others;
    });
  }
