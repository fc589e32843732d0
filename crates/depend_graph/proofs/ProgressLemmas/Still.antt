-- What stands at a place of the old depends and of the new ones.
use Rattle.std.proofs.Common.{◌≡◌, ℕ, Bool, true, not, cond, List, [], ◌∷◌, map, Some, refl, sym, ap, ◌∙◌, option_map}
use Rattle.std.specs.List.{slice_get, count_by}
use Rattle.std.proofs.lemmas.Option.{same_Some, slice_get-map}
use Rattle.farm_types.proofs.Passes.{option_map-from}
use Rattle.depend_edges.specs.Listed.{ListedLists, is_there}
use Rattle.depend_edges.specs.Ways.{edge_lists}
use Rattle.depend_edges.specs.declared.links.Edge.{Edge}
use Rattle.depend_edges.proofs.Counts.{sum_by-mapped}
use Rattle.depend_graph.specs.Kept.{Still, still_of}

pub still_at : (olds news : List ListedLists) → map still_of news ≡ map still_of olds → (p : ℕ) (d : ListedLists) → slice_get news p ≡ Some d
    → (old : ListedLists) × (slice_get olds p ≡ Some old) × (still_of old ≡ still_of d)
still_at olds news same p d at =
    let read : option_map still_of (slice_get olds p) ≡ Some (still_of d) = sym (slice_get-map still_of olds p) ∙ (ap (λ (xs : List Still). slice_get xs p) (sym same) ∙ (slice_get-map still_of news p ∙ ap (option_map still_of) at)) in
    option_map-from still_of (slice_get olds p) (still_of d) read

pub still_pair : (olds news : List ListedLists) → map still_of news ≡ map still_of olds → (p : ℕ) (old d : ListedLists) → slice_get olds p ≡ Some old → slice_get news p ≡ Some d → still_of old ≡ still_of d
still_pair olds news same p old d at_old at =
    let x = still_at olds news same p d at in
    ap still_of (same_Some old x.0 (sym at_old ∙ x.1)) ∙ x.2

still_marks : (ds : List ListedLists) → map is_there ds ≡ map (λ (s : Still). not s.gone) (map still_of ds)
still_marks [] = refl
still_marks (d ∷ ds) = ap (λ (bs : List Bool). is_there d ∷ bs) (still_marks ds)

pub there_still : (olds news : List ListedLists) → map still_of news ≡ map still_of olds → map is_there news ≡ map is_there olds
there_still olds news same = still_marks news ∙ (ap (map (λ (s : Still). not s.gone)) same ∙ sym (still_marks olds))

marks_counted : (ds : List ListedLists) → count_by (λ (b : Bool). b) (map is_there ds) ≡ count_by is_there ds
marks_counted ds = sum_by-mapped (λ b. cond b 1 0) is_there ds

pub there_counted : (olds news : List ListedLists) → map is_there news ≡ map is_there olds → count_by is_there news ≡ count_by is_there olds
there_counted olds news same = sym (marks_counted news) ∙ (ap (count_by (λ (b : Bool). b)) same ∙ marks_counted olds)

module _ (olds news : List ListedLists) (same : map still_of news ≡ map still_of olds) where
  pub still_empty : ((p : ℕ) (d : ListedLists) → slice_get olds p ≡ Some d → d.gone ≡ true → d.groups ≡ []) → (p : ℕ) (d : ListedLists) → slice_get news p ≡ Some d → d.gone ≡ true → d.groups ≡ []
  still_empty empty p d at gone =
      let x = still_at olds news same p d at in
      ap (λ (s : Still). s.groups) (sym x.2) ∙ empty p x.0 x.1 (ap (λ (s : Still). s.gone) x.2 ∙ gone)

  pub still_differ : ((p q : ℕ) (d e : ListedLists) → slice_get olds p ≡ Some d → slice_get olds q ≡ Some e → is_there d ≡ true → is_there e ≡ true → d.depend ≡ e.depend → p ≡ q)
      → (p q : ℕ) (d e : ListedLists) → slice_get news p ≡ Some d → slice_get news q ≡ Some e → is_there d ≡ true → is_there e ≡ true → d.depend ≡ e.depend → p ≡ q
  still_differ differ p q d e at_d at_e there_d there_e one =
      let x = still_at olds news same p d at_d in
      let y = still_at olds news same q e at_e in
      differ p q x.0 y.0 x.1 y.1 (ap (λ (s : Still). not s.gone) x.2 ∙ there_d) (ap (λ (s : Still). not s.gone) y.2 ∙ there_e)
      (ap (λ (s : Still). s.depend) x.2 ∙ (one ∙ ap (λ (s : Still). s.depend) (sym y.2)))

still_edges : (ds : List ListedLists) → edge_lists ds ≡ map (λ (s : Still). s.edges) (map still_of ds)
still_edges [] = refl
still_edges (d ∷ ds) = ap (λ (ls : List (List Edge)). d.edges ∷ ls) (still_edges ds)

pub edge_lists-still : (olds news : List ListedLists) → map still_of news ≡ map still_of olds → edge_lists news ≡ edge_lists olds
edge_lists-still olds news same = still_edges news ∙ (ap (map (λ (s : Still). s.edges)) same ∙ sym (still_edges olds))
