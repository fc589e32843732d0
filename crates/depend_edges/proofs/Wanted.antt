-- The ways along some of the edges, where others are wanted, or others are there.
use Rattle.std.proofs.Common.{◌≡◌, ◌≤◌, ◌<◌, ℕ, zero, suc, ◌+◌, Bool, true, false, not, eqb, ltb, List, [], ◌∷◌, ◌++◌, length, Option, Some, None, refl, sym, ap, subst, ◌∙◌, inl, inr, arith}
use Rattle.std.specs.Prelude.{◌&&◌}
use Rattle.std.specs.List.{slice_get}
use Rattle.std.proofs.lemmas.Bool.{cases_lt, eq-eqb, ne_eqb, lt-ltb, le-ltb, false≢true}
use Rattle.std.proofs.lemmas.Option.{none-some, same_Some, slice_get_within}
use Rattle.farm_types.specs.Farm.{changed_at}
use Rattle.farm_types.proofs.Changed.{changed_at_other, changed_at_same, places}
use Rattle.farm_types.proofs.Lists.{and_both}
use Rattle.depend_edges.specs.Listed.{ListedLists, emptied}
use Rattle.depend_edges.specs.Ways.{IsEdge, IsEdgeOf, IsLast, IsPrevOf, KeepsWays, KeepsWaysOf, edge_lists, is_ahead_of, is_any, is_before, is_outside, is_wanted_ahead}
use Rattle.depend_edges.specs.declared.links.Edge.{Edge}
use Rattle.depend_edges.specs.declared.links.EdgeAt.{EdgeAt}
use Rattle.depend_edges.proofs.Before.{Before, before_true, true_before}
use Rattle.depend_edges.proofs.EdgeLists.{edge_found, edge_is}
use Rattle.depend_edges.proofs.Linked.{both_true}
use Rattle.depend_edges.proofs.Moved.{moved}

-- ---- from some lists and wanted places to others, where the wanted edges are the same

module _ (ls ms : List (List Edge)) (w v : ℕ → ℕ → Bool) (first : List (Option EdgeAt)) (forth : (p i : ℕ) (e : Edge) → IsEdge ls p i e → w p i ≡ true → (IsEdge ms p i e) × (v p i ≡ true))
    (back : (p i : ℕ) (e : Edge) → IsEdge ms p i e → v p i ≡ true → (IsEdge ls p i e) × (w p i ≡ true))
  where
    edge_on : (slot : ℕ) (a : EdgeAt) (of : IsEdgeOf ls slot a) → w a.depend a.edge ≡ true → (IsEdgeOf ms slot a) × (v a.depend a.edge ≡ true)
    edge_on slot a of on =
        let x = forth a.depend a.edge of.edge of.there on in
        (record { edge = of.edge; there = x.0; slot_is = of.slot_is }, x.1)

    last_on : (slot : ℕ) (o : Option EdgeAt) → IsLast ls slot w o → IsLast ms slot v o
    last_on slot o last =
        moved ls ms slot w v o (λ a is of on. edge_on slot a of on) (λ p i e there on is. let x = back p i e there is in (e, x.0, on, x.1)) last

    ahead_on : (slot q j : ℕ) (o : Option EdgeAt) → IsLast ls slot (is_wanted_ahead w q j) o → IsLast ms slot (is_wanted_ahead v q j) o
    ahead_on slot q j o last =
        moved ls ms slot (is_wanted_ahead w q j) (is_wanted_ahead v q j) o
        (λ a is of on.
        let both = and_both (w a.depend a.edge) (is_before a.depend a.edge q j) on in
        let x = edge_on slot a of both.0 in
        (x.0, both_true (v a.depend a.edge) (is_before a.depend a.edge q j) x.1 both.1))
        (λ p i e there on is.
        let both = and_both (v p i) (is_before p i q j) is in
        let x = back p i e there both.0 in
        (e, x.0, on, both_true (w p i) (is_before p i q j) x.1 both.1)) last

    prev_on : (slot p i : ℕ) (o : Option EdgeAt) → IsPrevOf first ls slot w p i o → IsPrevOf first ms slot v p i o
    prev_on slot p i None is = is
    prev_on slot p i (Some q) is =
        let x = forth q.depend q.edge is.edge is.there is.wanted_is in
        record { edge = is.edge; there = x.0; slot_is = is.slot_is; wanted_is = x.1; next_is = is.next_is }

    pub ways_on : KeepsWaysOf w first ls → KeepsWaysOf v first ms
    ways_on ways =
        record {
          first_kept = λ slot o at. last_on slot o (ways.first_kept slot o at);
          next_kept = λ p i e there on.
              let x = back p i e there on in
              ahead_on e.slot p i e.next (ways.next_kept p i e x.0 x.1);
          prev_kept = λ p i e there on.
              let x = back p i e there on in
              prev_on e.slot p i e.prev (ways.prev_kept p i e x.0 x.1);
        }

pub any_ways : (first : List (Option EdgeAt)) (ls : List (List Edge)) → KeepsWays first ls → KeepsWaysOf is_any first ls
any_ways first ls ways =
    record { first_kept = ways.first_kept; next_kept = λ p i e there on. ways.next_kept p i e there; prev_kept = λ p i e there on. ways.prev_kept p i e there }

pub all_ways : (first : List (Option EdgeAt)) (ls : List (List Edge)) → KeepsWaysOf is_any first ls → KeepsWays first ls
all_ways first ls ways =
    record { first_kept = ways.first_kept; next_kept = λ p i e there. ways.next_kept p i e there refl; prev_kept = λ p i e there. ways.prev_kept p i e there refl }

-- ---- outside of the first edges of one depend

pub outside_by : (place n p i : ℕ) → is_outside place n p i ≡ true → p ≡ place → n ≤ i
outside_by place n p i is same =
    elim (cases_lt i n) as (λ c. n ≤ i) [
      | inl low ↦ absurd (false≢true ((λ k. not (sym (eq-eqb p place same) k && sym (lt-ltb i n low) k)) ∙ is))
      | inr high ↦ high
    ]

pub outside_true : (place n p i : ℕ) → (p ≡ place → n ≤ i) → is_outside place n p i ≡ true
outside_true place n p i high =
    elim (places p place) as (λ c. is_outside place n p i ≡ true) [
      | inl same ↦ ap (λ b. not (eqb p place && b)) (le-ltb i n (high same)) ∙ off (eqb p place)
      | inr apart ↦ ap (λ b. not (b && ltb i n)) (ne_eqb p place apart)
    ]
  where
    off : (b : Bool) → not (b && false) ≡ true
    off true = refl
    off false = refl

pub begin_outside : (first : List (Option EdgeAt)) (ls : List (List Edge)) (place : ℕ) → KeepsWays first ls → KeepsWaysOf (is_outside place 0) first ls
begin_outside first ls place ways =
    ways_on ls ls is_any (is_outside place 0) first (λ p i e there on. (there, outside_true place 0 p i (λ same. omega arith))) (λ p i e there on. (there, refl)) (any_ways first ls ways)

-- once all edges of a depend are off their ways, nothing need be left of it
pub emptied_ways : (first : List (Option EdgeAt)) (ds : List ListedLists) (place : ℕ) (d : ListedLists) → slice_get ds place ≡ Some d → KeepsWaysOf (is_outside place (length d.edges)) first (edge_lists ds)
    → KeepsWays first (edge_lists (changed_at ds place emptied))
emptied_ways first ds place d at ways =
    all_ways first (edge_lists news) (ways_on (edge_lists ds) (edge_lists news) (is_outside place (length d.edges)) is_any first forth back ways)
  where
    news : List ListedLists
    news = changed_at ds place emptied

    forth : (p i : ℕ) (e : Edge) → IsEdge (edge_lists ds) p i e → is_outside place (length d.edges) p i ≡ true → (IsEdge (edge_lists news) p i e) × (is_any p i ≡ true)
    forth p i e there on =
        let x = edge_found ds p i e there in
        elim (places p place) as (λ c. (IsEdge (edge_lists news) p i e) × (is_any p i ≡ true)) [
          | inl same ↦
              let one : x.0 ≡ d = same_Some x.0 d (sym x.1 ∙ (ap (slice_get ds) same ∙ at)) in
              absurd (omega (arith, outside_by place (length d.edges) p i on same, slice_get_within x.0.edges i e x.2, ap (λ (l : ListedLists). length l.edges) one))
          | inr apart ↦ (edge_is news p i x.0 e (changed_at_other ds place p emptied apart ∙ x.1) x.2, refl)
        ]

    back : (p i : ℕ) (e : Edge) → IsEdge (edge_lists news) p i e → is_any p i ≡ true → (IsEdge (edge_lists ds) p i e) × (is_outside place (length d.edges) p i ≡ true)
    back p i e there on =
        let x = edge_found news p i e there in
        elim (places p place) as (λ c. (IsEdge (edge_lists ds) p i e) × (is_outside place (length d.edges) p i ≡ true)) [
          | inl same ↦
              let one : emptied d ≡ x.0 = same_Some (emptied d) x.0 (sym (changed_at_same ds place emptied d at) ∙ (ap (slice_get news) (sym same) ∙ x.1)) in
              absurd (none-some e (ap (λ (l : ListedLists). slice_get l.edges i) one ∙ x.2))
          | inr apart ↦
              (edge_is ds p i x.0 e (sym (changed_at_other ds place p emptied apart) ∙ x.1) x.2, outside_true place (length d.edges) p i (λ same. absurd (apart same)))
        ]

-- ---- the edges of the depends before a place

list_within : (ls : List (List Edge)) (p i : ℕ) (e : Edge) → IsEdge ls p i e → p < length ls
list_within ls p i e there = slice_get_within ls p there.edges there.listed

ahead_low : (place p i : ℕ) → is_ahead_of place 0 p i ≡ true → p < place
ahead_low place p i is = by_order (true_before p i place 0 is) where
  by_order : Before p i place 0 → p < place
  by_order (inl low) = low
  by_order (inr same) = absurd (omega (arith, same.1))

-- nothing is on a way
pub no_ways : (first : List (Option EdgeAt)) (ls : List (List Edge)) → ((slot : ℕ) (o : Option EdgeAt) → slice_get first slot ≡ Some o → o ≡ None) → KeepsWaysOf (is_ahead_of 0 0) first ls
no_ways first ls none =
    record {
      first_kept = λ slot o at.
          subst (IsLast ls slot (is_ahead_of 0 0)) (sym (none slot o at))
          (record { one = λ a is. absurd (none-some a is); wanted_one = λ a is. absurd (none-some a is); last = λ p i e there on is. absurd (omega (arith, ahead_low 0 p i is)) });
      next_kept = λ p i e there is. absurd (omega (arith, ahead_low 0 p i is));
      prev_kept = λ p i e there is. absurd (omega (arith, ahead_low 0 p i is));
    }

-- once all edges of the depend at a place are on their ways, those of all depends up to it are
pub next_place : (first : List (Option EdgeAt)) (ls : List (List Edge)) (place : ℕ) (edges : List Edge) → slice_get ls place ≡ Some edges → (count : ℕ) → length edges ≤ count → KeepsWaysOf (is_ahead_of place count) first ls
    → KeepsWaysOf (is_ahead_of (place + 1) 0) first ls
next_place first ls place edges at count all ways =
    ways_on ls ls (is_ahead_of place count) (is_ahead_of (place + 1) 0) first
    (λ p i e there is. (there, before_true p i (place + 1) 0 (inl (up (true_before p i place count is)))))
    (λ p i e there is. (there, before_true p i place count (down p i e there (ahead_low (place + 1) p i is)))) ways
  where
    up : {p i : ℕ} → Before p i place count → p < place + 1
    up (inl low) = omega arith
    up (inr same) = omega (arith, same.0)

    down : (p i : ℕ) (e : Edge) → IsEdge ls p i e → p < place + 1 → Before p i place count
    down p i e there low =
        elim (places p place) as (λ c. Before p i place count) [
          | inl same ↦
              let one : there.edges ≡ edges = same_Some there.edges edges (sym there.listed ∙ (ap (slice_get ls) same ∙ at)) in
              inr (same, omega (arith, slice_get_within there.edges i e there.there, ap (λ (es : List Edge). length es) one))
          | inr apart ↦ inl (omega (arith, apart))
        ]

-- the depends before the end are all depends
pub all_places : (first : List (Option EdgeAt)) (ls : List (List Edge)) (place : ℕ) → length ls ≤ place → KeepsWaysOf (is_ahead_of place 0) first ls → KeepsWays first ls
all_places first ls place all ways =
    all_ways first ls (ways_on ls ls (is_ahead_of place 0) is_any first (λ p i e there is. (there, refl))
    (λ p i e there is. (there, before_true p i place 0 (inl (omega (arith, list_within ls p i e there))))) ways)

-- ---- one depend more, behind all others

pub put_last : {X : Type 0} (xs : List X) (x : X) (p : ℕ) → p ≡ length xs → slice_get (xs ++ x ∷ []) p ≡ Some x
put_last [] x zero is = refl
put_last [] x (suc p) is = absurd (omega arith)
put_last (y ∷ ys) x zero is = absurd (omega arith)
put_last (y ∷ ys) x (suc p) is = put_last ys x p (omega arith)

put_before : {X : Type 0} (xs : List X) (x : X) (p : ℕ) → p < length xs → slice_get (xs ++ x ∷ []) p ≡ slice_get xs p
put_before [] x p below = absurd (omega arith)
put_before (y ∷ ys) x zero below = refl
put_before (y ∷ ys) x (suc p) below = put_before ys x p (omega arith)

pub begin_ahead : (first : List (Option EdgeAt)) (ls : List (List Edge)) (edges : List Edge) (place : ℕ) → length ls ≡ place → KeepsWays first ls → KeepsWaysOf (is_ahead_of place 0) first (ls ++ edges ∷ [])
begin_ahead first ls edges place long ways =
    ways_on ls (ls ++ edges ∷ []) is_any (is_ahead_of place 0) first
    (λ p i e there is.
    let low = list_within ls p i e there in
    (record { edges = there.edges; listed = put_before ls edges p low ∙ there.listed; there = there.there }, before_true p i place 0 (inl (omega (arith, long)))))
    (λ p i e there is.
    let low = ahead_low place p i is in
    (record { edges = there.edges; listed = sym (put_before ls edges p (omega (arith, long))) ∙ there.listed; there = there.there }, refl)) (any_ways first ls ways)
