-- No moment that is watched is before the bound: what lowers it, what raises it, and what it shows.
use Rattle.std.proofs.Common.{◌≡◌, ℕ, ◌≤◌, min, List, [], ◌∷◌, ◌++◌, map, length, filter, Bool, false, cond, refl, sym, ap, subst, ◌∙◌, arith}
use Rattle.std.specs.List.{slice_set, fold}
use Rattle.std.proofs.lemmas.Bool.Decides.{nat_tests}
use Rattle.std.proofs.lemmas.List.Elements.{All-nil, All-cons, All-head, All-tail, All-set, All-push, All-weaker}
use Rattle.farm_types.specs.declared.rows.HostRow.{HostRow}
use Rattle.farm_types.specs.Hosts.{count_unheard, is_unheard}
use Rattle.host_book.specs.Inside.{AllSince, is_past, least_of, never_past, watched_of}
use Rattle.host_book.proofs.Unheard.{past_is_unheard}

-- ---- a lower bound

since_earlier : (earlier bound : ℕ) (moments : List ℕ) → earlier ≤ bound → AllSince bound moments → AllSince earlier moments
since_earlier earlier bound moments before = All-weaker (λ n. bound ≤ n) (λ n. earlier ≤ n) (λ n after. omega arith) moments

module _ (bound moment lower : ℕ) (moments : List ℕ) (since : AllSince bound moments) (earlier : lower ≤ bound) (before : lower ≤ moment) where
  lowered : AllSince lower moments
  lowered = since_earlier lower bound moments earlier since

  -- a moment takes the place of another one
  pub since-set : (i : ℕ) → AllSince lower (slice_set moments i moment)
  since-set i = All-set (λ n. lower ≤ n) moments i moment before lowered

  -- a moment is added
  pub since-push : AllSince lower (moments ++ moment ∷ [])
  since-push = All-push (λ n. lower ≤ n) moments moment lowered before

-- ---- a higher bound

fold_min-le : (a : ℕ) (moments : List ℕ) → fold min a moments ≤ a
fold_min-le a [] = omega arith
fold_min-le a (n ∷ ns) = omega (arith, fold_min-le (min a n) ns)

since_fold_min : (a : ℕ) (moments : List ℕ) → AllSince (fold min a moments) moments
since_fold_min a [] = All-nil (λ n. fold min a [] ≤ n)
since_fold_min a (n ∷ ns) =
    let least = fold min (min a n) ns in
    All-cons (λ k. least ≤ k) n ns (omega (arith, fold_min-le (min a n) ns)) (since_fold_min (min a n) ns)

-- no moment is before the least one
pub since_least : (bound : ℕ) (moments : List ℕ) → bound ≡ least_of moments → AllSince bound moments
since_least bound moments is = subst (λ (b : ℕ). AllSince b moments) (sym is) (since_fold_min never_past moments)

-- ---- no silent host

not_past : (moment bound heard : ℕ) → is_past moment bound ≡ false → bound ≤ heard → is_past moment heard ≡ false
not_past moment bound heard soon before = grind (arith, nat_tests)

module _ (moment bound : ℕ) (within : moment ≤ never_past) (soon : is_past moment bound ≡ false) where
  heard_soon : (row : HostRow) → bound ≤ watched_of row → is_unheard moment row ≡ false
  heard_soon row before = sym (past_is_unheard moment row within) ∙ not_past moment bound (watched_of row) soon before

  count_by : (hosts : List HostRow) → AllSince bound (map watched_of hosts) → count_unheard moment hosts ≡ 0
  count_by [] since = refl
  count_by (row ∷ rows) since =
      let P : ℕ → Type 0 = λ n. bound ≤ n in
      let here = heard_soon row (All-head P (watched_of row) (map watched_of rows) since) in
      let others = filter (is_unheard moment) rows in
      ap (λ (b : Bool). length (cond b (row ∷ others) others)) here ∙ count_by rows (All-tail P (watched_of row) (map watched_of rows) since)

  -- where the moment is not past the bound, no host is unheard
  pub count_unheard-since : (hosts : List HostRow) (watched : List ℕ) → watched ≡ map watched_of hosts → AllSince bound watched → count_unheard moment hosts ≡ 0
  count_unheard-since hosts watched these since = count_by hosts (subst (λ (ns : List ℕ). AllSince bound ns) these since)
