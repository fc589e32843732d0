-- One edge of the depends is changed.
use Rattle.std.proofs.Common.{◌≡◌, ◌≢◌, ℕ, Bool, true, false, cond, eqb, List, length, Option, Some, None, refl, sym, ap, ◌∙◌, ◌⊎◌, inl, inr, arith}
use Rattle.std.specs.Prelude.{◌&&◌}
use Rattle.std.specs.List.{slice_get}
use Rattle.std.proofs.lemmas.Bool.{cases_Bool, eq-eqb, eqb-true, ne_eqb}
use Rattle.std.proofs.lemmas.Option.{none-some, same_Some, slice_get_within}
use Rattle.farm_types.specs.Farm.{changed_at}
use Rattle.farm_types.proofs.Changed.{changed_at_other, changed_at_same, length-changed_at, places}
use Rattle.farm_types.proofs.Lists.{and_both, slice_get_below}
use Rattle.depend_edges.specs.Bare.{changed_edge, edge_changed}
use Rattle.depend_edges.specs.Listed.{ListedLists}
use Rattle.depend_edges.specs.Ways.{IsEdge, edge_lists, place_at}
use Rattle.depend_edges.specs.declared.links.Edge.{Edge}
use Rattle.depend_edges.specs.declared.links.EdgeAt.{EdgeAt}
use Rattle.depend_edges.proofs.EdgeLists.{edge_found, edge_is}

-- each edge stands where it stood, changed by its place
pub record IsEdited (change : ℕ → ℕ → Edge → Edge) (olds news : List (List Edge)) : Type 0 where
  pub forth : (p i : ℕ) (y : Edge) → IsEdge olds p i y → IsEdge news p i (change p i y)
  pub back : (p i : ℕ) (x : Edge) → IsEdge news p i x → (y : Edge) × (IsEdge olds p i y) × (change p i y ≡ x)

-- the edge that is named, where one is
abbrev pub edit_of : Option EdgeAt → (Edge → Edge) → ℕ → ℕ → Edge → Edge
edit_of None f p i y = y
edit_of (Some at) f p i y = cond (eqb p at.depend && eqb i at.edge) (f y) y

pub edge_same : (ls : List (List Edge)) (p i : ℕ) (x y : Edge) → IsEdge ls p i x → IsEdge ls p i y → x ≡ y
edge_same ls p i x y at_x at_y =
    let same : at_x.edges ≡ at_y.edges = same_Some at_x.edges at_y.edges (sym at_x.listed ∙ at_y.listed) in
    same_Some x y (sym at_x.there ∙ (ap (λ (es : List Edge). slice_get es i) same ∙ at_y.there))

pub edited_then : (f g : ℕ → ℕ → Edge → Edge) (ls ms ns : List (List Edge)) → IsEdited f ls ms → IsEdited g ms ns → IsEdited (λ p i y. g p i (f p i y)) ls ns
edited_then f g ls ms ns first then =
    record {
      forth = λ p i y is. then.forth p i (f p i y) (first.forth p i y is);
      back = λ p i x is.
          let m = then.back p i x is in
          let y = first.back p i m.0 m.1 in
          (y.0, y.1, ap (g p i) y.2 ∙ m.2);
    }

changed_is : {X : Type 0} (xs : List X) (k : ℕ) (f : X → X) (p : ℕ) (x : X) → slice_get xs p ≡ Some x → slice_get (changed_at xs k f) p ≡ Some (cond (eqb p k) (f x) x)
changed_is xs k f p x at =
    elim (places p k) as (λ c. slice_get (changed_at xs k f) p ≡ Some (cond (eqb p k) (f x) x)) [
      | inl same ↦
          ap (slice_get (changed_at xs k f)) same
          ∙ (changed_at_same xs k f x (ap (slice_get xs) (sym same) ∙ at) ∙ sym (ap (λ b. Some (cond b (f x) x)) (eq-eqb p k same)))
      | inr apart ↦ changed_at_other xs k p f apart ∙ (at ∙ sym (ap (λ b. Some (cond b (f x) x)) (ne_eqb p k apart)))
    ]

module _ (ds : List ListedLists) (at : EdgeAt) (f : Edge → Edge) where
  abbrev news : List ListedLists
  news = changed_at ds at.depend (edge_changed at.edge f)

  edge_by : (d : ListedLists) (i : ℕ) (y : Edge) → slice_get d.edges i ≡ Some y → (b : Bool) → slice_get (cond b (edge_changed at.edge f d) d).edges i ≡ Some (cond (b && eqb i at.edge) (f y) y)
  edge_by d i y there true = changed_is d.edges at.edge f i y there
  edge_by d i y there false = there

  long_by : (d : ListedLists) (b : Bool) → length (cond b (edge_changed at.edge f d) d).edges ≡ length d.edges
  long_by d true = length-changed_at d.edges at.edge f
  long_by d false = refl

  edit_forth : (p i : ℕ) (y : Edge) → IsEdge (edge_lists ds) p i y → IsEdge (edge_lists news) p i (edit_of (Some at) f p i y)
  edit_forth p i y is =
      let d = edge_found ds p i y is in
      edge_is news p i (cond (eqb p at.depend) (edge_changed at.edge f d.0) d.0) (edit_of (Some at) f p i y) (changed_is ds at.depend (edge_changed at.edge f) p d.0 d.1) (edge_by d.0 i y d.2 (eqb p at.depend))

  edit_back : (p i : ℕ) (x : Edge) → IsEdge (edge_lists news) p i x → (y : Edge) × (IsEdge (edge_lists ds) p i y) × (edit_of (Some at) f p i y ≡ x)
  edit_back p i x is =
      let e = edge_found news p i x is in
      let d = slice_get_below ds p (omega (arith, slice_get_within news p e.0 e.1, length-changed_at ds at.depend (edge_changed at.edge f))) in
      let same : cond (eqb p at.depend) (edge_changed at.edge f d.0) d.0 ≡ e.0 = same_Some (cond (eqb p at.depend) (edge_changed at.edge f d.0) d.0) e.0 (sym (changed_is ds at.depend (edge_changed at.edge f) p d.0 d.1) ∙ e.1) in
      let long : length e.0.edges ≡ length d.0.edges = ap (λ (l : ListedLists). length l.edges) (sym same) ∙ long_by d.0 (eqb p at.depend) in
      let y = slice_get_below d.0.edges i (omega (arith, slice_get_within e.0.edges i x e.2, long)) in
      let old = edge_is ds p i d.0 y.0 d.1 y.1 in
      (y.0, old, edge_same (edge_lists news) p i (edit_of (Some at) f p i y.0) x (edit_forth p i y.0 old) is)

pub edited : (at : Option EdgeAt) (f : Edge → Edge) (ds : List ListedLists) → IsEdited (edit_of at f) (edge_lists ds) (edge_lists (changed_edge at f ds))
edited None f ds = record { forth = λ p i y is. is; back = λ p i x is. (x, is, refl) }
edited (Some at) f ds = record { forth = edit_forth ds at f; back = edit_back ds at f }

-- ---- the edge that is named, and each other

pub edit_here : (o : Option EdgeAt) (f : Edge → Edge) (p i : ℕ) (y : Edge) → o ≡ Some (place_at p i) → edit_of o f p i y ≡ f y
edit_here o f p i y is = ap (λ (q : Option EdgeAt). edit_of q f p i y) is ∙ λ k. cond (eq-eqb p p refl k && eq-eqb i i refl k) (f y) y

pub edit_away : (o : Option EdgeAt) (f : Edge → Edge) (p i : ℕ) (y : Edge) → (o ≡ Some (place_at p i) → ⊥) → edit_of o f p i y ≡ y
edit_away None f p i y apart = refl
edit_away (Some at) f p i y apart = by_test (cases_Bool (eqb p at.depend && eqb i at.edge)) where
  by_test : ((eqb p at.depend && eqb i at.edge) ≡ true) ⊎ ((eqb p at.depend && eqb i at.edge) ≡ false) → edit_of (Some at) f p i y ≡ y
  by_test (inr off) = ap (λ b. cond b (f y) y) off
  by_test (inl is) =
      let both = and_both (eqb p at.depend) (eqb i at.edge) is in
      absurd (apart (λ k. Some (record { depend = sym (eqb-true p at.depend both.0) k; edge = sym (eqb-true i at.edge both.1) k })))

pub edit_keeps : {Z : Type 0} (read : Edge → Z) (o : Option EdgeAt) (f : Edge → Edge) (p i : ℕ) (y : Edge) → ((x : Edge) → read (f x) ≡ read x) → read (edit_of o f p i y) ≡ read y
edit_keeps read None f p i y same = refl
edit_keeps read (Some at) f p i y same = by_test (eqb p at.depend && eqb i at.edge) where
  by_test : (b : Bool) → read (cond b (f y) y) ≡ read y
  by_test true = same y
  by_test false = refl

pub is_it : (o : Option EdgeAt) (p i : ℕ) → (o ≡ Some (place_at p i)) ⊎ (o ≡ Some (place_at p i) → ⊥)
is_it None p i = inr (λ is. none-some (place_at p i) is)
is_it (Some at) p i = by_places (places at.depend p) (places at.edge i) where
  by_places : (at.depend ≡ p) ⊎ (at.depend ≢ p) → (at.edge ≡ i) ⊎ (at.edge ≢ i) → (Some at ≡ Some (place_at p i)) ⊎ (Some at ≡ Some (place_at p i) → ⊥)
  by_places (inl same) (inl one) = inl (λ k. Some (record { depend = same k; edge = one k }))
  by_places (inr apart) w = inr (λ is. apart (ap (λ (a : EdgeAt). a.depend) (same_Some at (place_at p i) is)))
  by_places (inl same) (inr apart) = inr (λ is. apart (ap (λ (a : EdgeAt). a.edge) (same_Some at (place_at p i) is)))
