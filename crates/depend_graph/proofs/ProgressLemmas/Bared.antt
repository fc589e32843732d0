-- What no change of the ways changes of the graph.
use Rattle.std.proofs.Common.{◌≡◌, ℕ, Bool, true, false, not, cond, eqb, List, [], ◌∷◌, map, Some, refl, sym, ap, subst, ◌∙◌, arith}
use Rattle.std.specs.Prelude.{◌&&◌}
use Rattle.std.specs.List.{slice_get, count_by, filter}
use Rattle.farm_types.specs.declared.depend.Group.{Group}
use Rattle.depend_edges.specs.Aims.{Aim}
use Rattle.depend_edges.specs.Bare.{Bare, bare_of}
use Rattle.depend_edges.specs.Listed.{ListedLists, aim_of, is_enough, is_there}
use Rattle.depend_edges.specs.declared.listed.Count.{Count}
use Rattle.depend_edges.proofs.Bared.{bare_at, length_bare, listed_bare}
use Rattle.depend_edges.proofs.Counts.{sum_by-mapped}
use Rattle.depend_graph.specs.Graph.{Watch, groups_left, is_flagged, unmet_of}
use Rattle.depend_graph.specs.Inside.{KeepsDepends, KeepsSums, there_of, watches}
use Rattle.depend_graph.specs.Watches.{KeepsCounts, is_undone, watched_with}
use Rattle.depend_graph.proofs.ProgressLemmas.Still.{there_counted}

-- ---- one depend

abbrev aim_undone : List Bool → ℕ → Aim → Bool
aim_undone done group a = eqb a.group group && not (is_flagged done a.slot)

undone_bare : (done : List Bool) (k : ℕ) (d : ListedLists) → count_by (aim_undone done k) (bare_of d).aims ≡ count_by (is_undone done k) d.edges
undone_bare done k d = sum_by-mapped (λ a. cond (aim_undone done k a) 1 0) aim_of d.edges

record CountsBare (done : List Bool) (b : Bare) : Type 0 where
  undone_kept : (k : ℕ) (c : Count) → slice_get b.counts k ≡ Some c → c.undone ≡ count_by (aim_undone done k) b.aims
  met_kept : (k : ℕ) (g : Group) (c : Count) → slice_get b.groups k ≡ Some g → slice_get b.counts k ≡ Some c → is_enough g c.undone ≡ true → c.met ≡ true

-- ---- all depends

module _ (olds news : List ListedLists) (same : map bare_of news ≡ map bare_of olds) where
  pub counts_bare : (done : List Bool) → ((p : ℕ) (d : ListedLists) → slice_get olds p ≡ Some d → KeepsCounts done d) → (p : ℕ) (d : ListedLists) → slice_get news p ≡ Some d → KeepsCounts done d
  counts_bare done counts p d at =
      let x = bare_at olds news same p d at in
      let old = counts p x.0 x.1 in
      let bare : CountsBare done (bare_of d) = subst (CountsBare done) x.2 (record { undone_kept = λ k c at_c. old.undone_kept k c at_c ∙ sym (undone_bare done k x.0); met_kept = old.met_kept }) in
      record { undone_kept = λ k c at_c. bare.undone_kept k c at_c ∙ undone_bare done k d; met_kept = bare.met_kept }

  pub marks_bare : map is_there news ≡ map is_there olds
  marks_bare = marks news ∙ (ap (map (λ (b : Bare). not b.gone)) same ∙ sym (marks olds)) where
    marks : (ds : List ListedLists) → map is_there ds ≡ map (λ (b : Bare). not b.gone) (map bare_of ds)
    marks [] = refl
    marks (d ∷ ds) = ap (λ (bs : List Bool). is_there d ∷ bs) (marks ds)

  abbrev watch_of_bare : Bare → Watch
  watch_of_bare b = record { depend = b.depend; groups = watched_with b.groups b.counts }

  pub watches_bare : watches news ≡ watches olds
  watches_bare = bares news ∙ (ap (map watch_of_bare) same ∙ sym (bares olds)) where
    bares : (ds : List ListedLists) → watches ds ≡ map watch_of_bare (map bare_of ds)
    bares [] = refl
    bares (d ∷ ds) = ap (λ (ws : List Watch). watch_of_bare (bare_of d) ∷ ws) (bares ds)

  pub there_bare : watches (there_of news) ≡ watches (there_of olds)
  there_bare = bares news ∙ (ap (λ (bs : List Bare). map watch_of_bare (filter (λ (b : Bare). not b.gone) bs)) same ∙ sym (bares olds)) where
    bares : (ds : List ListedLists) → watches (there_of ds) ≡ map watch_of_bare (filter (λ (b : Bare). not b.gone) (map bare_of ds))
    bares [] = refl
    bares (d ∷ ds) = by_mark (is_there d) (bares ds) where
      by_mark : (m : Bool) → watches (there_of ds) ≡ map watch_of_bare (filter (λ (b : Bare). not b.gone) (map bare_of ds))
          → watches (cond m (d ∷ there_of ds) (there_of ds)) ≡ map watch_of_bare (cond m (bare_of d ∷ filter (λ (b : Bare). not b.gone) (map bare_of ds)) (filter (λ (b : Bare). not b.gone) (map bare_of ds)))
      by_mark true more = ap (λ (ws : List Watch). watch_of_bare (bare_of d) ∷ ws) more
      by_mark false more = more

  pub depends_bare : KeepsDepends olds → KeepsDepends news
  depends_bare before =
      record {
        listed = listed_bare olds news same before.listed;
        gone_empty = λ p d at gone.
            let x = bare_at olds news same p d at in
            ap (λ (b : Bare). b.groups) (sym x.2) ∙ before.gone_empty p x.0 x.1 (ap (λ (b : Bare). b.gone) x.2 ∙ gone);
        numbers_differ = λ p q d e at_d at_e there_d there_e one.
            let x = bare_at olds news same p d at_d in
            let y = bare_at olds news same q e at_e in
            before.numbers_differ p q x.0 y.0 x.1 y.1 (ap (λ (b : Bare). not b.gone) x.2 ∙ there_d) (ap (λ (b : Bare). not b.gone) y.2 ∙ there_e)
            (ap (λ (b : Bare). b.depend) x.2 ∙ (one ∙ ap (λ (b : Bare). b.depend) (sym y.2)));
        count_within = omega (arith, there_counted olds news marks_bare, before.count_within);
        places_within = omega (arith, length_bare olds news same, before.places_within);
      }

  pub sums_bare : (unmet : List ℕ) (left : ℕ) → KeepsSums unmet left olds → KeepsSums unmet left news
  sums_bare unmet left sums = keep (sym watches_bare) where
    keep : watches olds ≡ watches news → KeepsSums unmet left news
    keep is =
        record {
          unmet_kept = λ slot. sums.unmet_kept slot ∙ ap (λ (ws : List Watch). unmet_of ws slot) is;
          unmet_counted = sums.unmet_counted;
          left_kept = sums.left_kept ∙ ap groups_left is;
          left_within = sums.left_within;
        }
