-- Each row of the book beside its depend of the graph.
use Rattle.std.proofs.Common.{◌≡◌, ℕ, suc, false, List, [], ◌∷◌, map, Some, refl, sym, ap, ◌∙◌, option_map}
use Rattle.std.specs.List.{AllZip, slice_get}
use Rattle.std.proofs.lemmas.Option.{slice_get-map}
use Rattle.farm_types.specs.declared.depend.DependRow.{DependRow}
use Rattle.farm_types.specs.declared.depend.Group.{Group}
use Rattle.farm_types.specs.Depends.{groups_of}
use Rattle.farm_types.specs.Farm.{Farm}
use Rattle.farm_types.specs.Rising.{depend_key}
use Rattle.depend_graph.specs.Graph.{Watch, Watched, is_satisfied}
use Rattle.depend_book.specs.Book.{DependLists, IsBook, joined, row_of, rows_of, watch_number}
use Rattle.depend_book.specs.Fits.{Fits, group_in}
use Rattle.depend_book.proofs.Zips.{nil-cons, same_head, same_tail, zip_left, zip_right}

-- the groups of a depend, beside the book too
pub groups_joined : (f : Farm) (b : DependLists) (d : DependRow) → groups_of (joined f b) d ≡ groups_of f d
unfolding groups_of
groups_joined f b d = refl

-- Row and depend of the graph at one place: they have one number, say alike whether all is met, and have the groups where it isn't.
pub record IsPair (f : Farm) (d : DependRow) (w : Watch) : Type 0 where
  pub number : d.depend ≡ w.depend
  pub all : d.met_all ≡ is_satisfied w
  pub groups : d.met_all ≡ false → map group_in w.groups ≡ groups_of f d

pairs_of : (f : Farm) (ds : List DependRow) (ws : List Watch) → map depend_key ds ≡ map watch_number ws → rows_of ds ws ≡ ds
    → ((i : ℕ) (d : DependRow) (w : Watch) → slice_get ds i ≡ Some d → slice_get ws i ≡ Some w → d.met_all ≡ false → map group_in w.groups ≡ groups_of f d) → AllZip (IsPair f) ds ws
pairs_of f [] [] numbers rows groups = tt
pairs_of f [] (w ∷ ws) numbers rows groups = absurd (nil-cons w.depend (map watch_number ws) numbers)
pairs_of f (d ∷ ds) [] numbers rows groups = absurd (nil-cons d.depend (map depend_key ds) (sym numbers))
pairs_of f (d ∷ ds) (w ∷ ws) numbers rows groups =
    let same = same_head (row_of d w) d (rows_of ds ws) ds rows in (
      record { number = same_head d.depend w.depend (map depend_key ds) (map watch_number ws) numbers; all = sym (ap (λ (e : DependRow). e.met_all) same); groups = groups 0 d w refl refl },
      pairs_of f ds ws (same_tail d.depend w.depend (map depend_key ds) (map watch_number ws) numbers) (same_tail (row_of d w) d (rows_of ds ws) ds rows)
          (λ i e v row watch. groups (suc i) e v row watch),
    )

module _ (f : Farm) (b : DependLists) (book : IsBook b) (fits : Fits f b) where
  pub pairs : AllZip (IsPair f) b.rows b.graph.depends
  pairs = pairs_of f b.rows b.graph.depends book.numbers book.rows_are fits.groups

  -- there is a depend of the graph for each row
  pub watch_at : (i : ℕ) (d : DependRow) → slice_get b.rows i ≡ Some d → (w : Watch) × (slice_get b.graph.depends i ≡ Some w) × IsPair f d w
  watch_at i d at = zip_right (IsPair f) b.rows b.graph.depends pairs i d at

  -- and a row for each depend of the graph
  pub row_at : (i : ℕ) (w : Watch) → slice_get b.graph.depends i ≡ Some w → (d : DependRow) × (slice_get b.rows i ≡ Some d) × IsPair f d w
  row_at i w at = zip_left (IsPair f) b.rows b.graph.depends pairs i w at

-- the group at a place of a depend that isn't satisfied
pub group_at : (f : Farm) (d : DependRow) (w : Watch) → IsPair f d w → d.met_all ≡ false → (k : ℕ) (x : Watched) → slice_get w.groups k ≡ Some x → slice_get (groups_of f d) k ≡ Some x.group
group_at f d w pair unmet k x at =
    ap (λ (gs : List Group). slice_get gs k) (sym (pair.groups unmet)) ∙ (slice_get-map group_in w.groups k ∙ ap (option_map group_in) at)
