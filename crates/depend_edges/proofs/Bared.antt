-- What no change of the ways changes of the depends.
use Rattle.std.proofs.Common.{◌≡◌, ◌≤◌, ◌<◌, ◌^◌, ℕ, zero, suc, List, [], ◌∷◌, map, length, Option, Some, None, refl, sym, ap, subst, ◌∙◌, arith, option_map}
use Rattle.std.specs.List.{slice_get, count_by, All}
use Rattle.std.proofs.lemmas.List.{length-map}
use Rattle.std.proofs.lemmas.Option.{none-some, same_Some, slice_get-map}
use Rattle.farm_types.specs.declared.limits.TheConstants.{MOST_GROUPS}
use Rattle.farm_types.specs.Farm.{changed_at, changed_by}
use Rattle.farm_types.proofs.Passes.{option_map-from}
use Rattle.depend_edges.specs.Aims.{Aim, aims_from}
use Rattle.depend_edges.specs.Bare.{Bare, bare_of, changed_edge, edge_changed}
use Rattle.depend_edges.specs.Groups.{IsGroup}
use Rattle.depend_edges.specs.Listed.{IsListed, ListedLists, aim_of, is_unmet}
use Rattle.depend_edges.specs.declared.links.Edge.{Edge}
use Rattle.depend_edges.specs.declared.links.EdgeAt.{EdgeAt}

-- ---- one depend

record IsBare (b : Bare) : Type 0 where
  counted : length b.counts ≡ length b.groups
  aims : b.aims ≡ aims_from 0 b.groups
  aims_within : length b.aims < 2 ^ 32
  groups_within : length b.groups ≤ MOST_GROUPS
  each : All IsGroup b.groups
  unmet_kept : b.unmet ≡ count_by is_unmet b.counts

pub edges_long : (d : ListedLists) → length (bare_of d).aims ≡ length d.edges
edges_long d = length-map d.edges aim_of

is_bare : (d : ListedLists) → IsListed d → IsBare (bare_of d)
is_bare d one =
    record { counted = one.counted; aims = one.aims; aims_within = omega (arith, edges_long d, one.edges_within); groups_within = one.groups_within; each = one.each; unmet_kept = one.unmet_kept }

is_listed : (d : ListedLists) → IsBare (bare_of d) → IsListed d
is_listed d one =
    record { counted = one.counted; aims = one.aims; edges_within = omega (arith, edges_long d, one.aims_within); groups_within = one.groups_within; each = one.each; unmet_kept = one.unmet_kept }

-- ---- all depends

module _ (olds news : List ListedLists) (same : map bare_of news ≡ map bare_of olds) where
  pub bare_at : (p : ℕ) (d : ListedLists) → slice_get news p ≡ Some d → (old : ListedLists) × (slice_get olds p ≡ Some old) × (bare_of old ≡ bare_of d)
  bare_at p d at =
      let read : option_map bare_of (slice_get olds p) ≡ Some (bare_of d) = sym (slice_get-map bare_of olds p) ∙ (ap (λ (xs : List Bare). slice_get xs p) (sym same) ∙ (slice_get-map bare_of news p ∙ ap (option_map bare_of) at)) in
      option_map-from bare_of (slice_get olds p) (bare_of d) read

  pub length_bare : length news ≡ length olds
  length_bare = sym (length-map news bare_of) ∙ (ap (λ (xs : List Bare). length xs) same ∙ length-map olds bare_of)

  pub listed_bare : ((p : ℕ) (d : ListedLists) → slice_get olds p ≡ Some d → IsListed d) → (p : ℕ) (d : ListedLists) → slice_get news p ≡ Some d → IsListed d
  listed_bare listed p d at =
      let x = bare_at p d at in
      is_listed d (subst IsBare x.2 (is_bare x.0 (listed p x.0 x.1)))

-- ---- one edge whose way changes

aims_changed : (es : List Edge) (i : ℕ) (f : Edge → Edge) → ((e : Edge) → aim_of (f e) ≡ aim_of e) → map aim_of (changed_at es i f) ≡ map aim_of es
aims_changed es i f same = by_found es i (slice_get es i) refl where
  by_found : (es : List Edge) (i : ℕ) (o : Option Edge) → slice_get es i ≡ o → map aim_of (changed_by es i f o) ≡ map aim_of es
  by_found es i None at = refl
  by_found [] i (Some e) at = absurd (none-some e at)
  by_found (x ∷ xs) zero (Some e) at = ap (λ (a : Aim). a ∷ map aim_of xs) (same e ∙ ap aim_of (sym (same_Some x e at)))
  by_found (x ∷ xs) (suc i) (Some e) at = ap (λ (as_of : List Aim). aim_of x ∷ as_of) (by_found xs i (Some e) at)

bare_changed : (ds : List ListedLists) (p : ℕ) (f : ListedLists → ListedLists) → ((d : ListedLists) → bare_of (f d) ≡ bare_of d) → map bare_of (changed_at ds p f) ≡ map bare_of ds
bare_changed ds p f same = by_found ds p (slice_get ds p) refl where
  by_found : (ds : List ListedLists) (p : ℕ) (o : Option ListedLists) → slice_get ds p ≡ o → map bare_of (changed_by ds p f o) ≡ map bare_of ds
  by_found ds p None at = refl
  by_found [] p (Some d) at = absurd (none-some d at)
  by_found (x ∷ xs) zero (Some d) at = ap (λ (b : Bare). b ∷ map bare_of xs) (same d ∙ ap bare_of (sym (same_Some x d at)))
  by_found (x ∷ xs) (suc p) (Some d) at = ap (λ (bs : List Bare). bare_of x ∷ bs) (by_found xs p (Some d) at)

pub bare_edit : (o : Option EdgeAt) (f : Edge → Edge) (ds : List ListedLists) → ((e : Edge) → aim_of (f e) ≡ aim_of e) → map bare_of (changed_edge o f ds) ≡ map bare_of ds
bare_edit None f ds same = refl
bare_edit (Some at) f ds same =
    bare_changed ds at.depend (edge_changed at.edge f)
    (λ d i. record { depend = d.depend; groups = d.groups; counts = d.counts; aims = aims_changed d.edges at.edge f same i; unmet = d.unmet; gone = d.gone })
