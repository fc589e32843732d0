-- The subscriptions to an allocation, by their ratio and then by the show's name.
use Rattle.std.proofs.Common.{◌≡◌, ℕ, ◌%◌, ◌<◌, Bool, true, cond, List, [], ◌∷◌, length, Some, refl, sym, ap, subst, ◌∙◌, arith, eqb, ◌&&◌}
use Rattle.std.specs.Cmp.{IsTotalOrder}
use Rattle.std.specs.Cmp.Lexicographic.{slice_cmp}
use Rattle.std.specs.FinMap.{slice_cmp-IsAntisymmetric, nat_cmp-IsAntisymmetric}
use Rattle.std.specs.List.{slice_get}
use Rattle.std.specs.Prelude.{nat_lt, nat_le}
use Rattle.std.specs.declared.cmp.Ordering.{Ordering}
use Rattle.std.specs.declared.cmp.Ordering.TheVariants.{Less, Equal, Greater}
use Rattle.std.specs.Ordering.{is_gt, nat_cmp, ordering_then}
use Rattle.std.proofs.lemmas.Bool.{eqb-true, ltb-true}
use Rattle.std.proofs.lemmas.Cmp.{nat_list_cmp_total, then_total, on_total, ranked}
use Rattle.farm_types.specs.declared.dispatch.Rank.{Rank}
use Rattle.farm_types.specs.declared.rows.ShowRow.{ShowRow}
use Rattle.farm_types.specs.declared.rows.SubRow.{SubRow}
use Rattle.farm_types.specs.declared.limits.TheConstants.{MOST_ALLOCS, MOST_BURST, SUB_NUMBERS}
use Rattle.farm_types.specs.Dispatch.{by_ratio, name_of, show_name}
use Rattle.farm_types.specs.Farm.{Farm, sub_at}
use Rattle.farm_types.specs.Kept.{KeepsShows, KeepsSubs, show_label, is_kept_sub}
use Rattle.farm_types.specs.Rising.{sub_key}
use Rattle.farm_types.specs.Sums.{booked_in}
use Rattle.farm_types.proofs.Lists.{and_both, list_all-at, slice_get_below}
use Rattle.dispatch_law.specs.ByIndex.{show_of, subs_to, sub_cmp, insert_sub, sorted_subs}
use Rattle.dispatch_law.proofs.Distinct.{names_apart}
use Rattle.dispatch_law.proofs.Found.{has_filter, filter_has}
use Rattle.dispatch_law.proofs.InShow.{rising_strict, rising_found, filter_strict}
use Rattle.dispatch_law.proofs.RankOrder.{ratio_total}
use Rattle.dispatch_law.proofs.Strict.{Has, has_first, has_later, IsStrict, insert_by, sorted_by, sorted_has, has_sorted, sorted_strict, AreApart}

-- ---- their order

abbrev as_rank : Farm → SubRow → Rank
as_rank f s =
    record { booked = booked_in f s.sub; size = s.size; show = 0; priority = 0; job = 0; layer = 0; position = 0; candidate = record { slot = 0; version = 0; sub = 0; host = 0 } }

pub sub_total : (f : Farm) → IsTotalOrder (sub_cmp f)
sub_total f = then_total (on_total (as_rank f) ratio_total) (on_total (λ (s : SubRow). show_name f (show_of s)) nat_list_cmp_total)

insert_same : (f : Farm) (x : SubRow) (ys : List SubRow) → insert_sub f x ys ≡ insert_by (sub_cmp f) x ys
insert_same f x [] = refl
insert_same f x (y ∷ ys) = ap (λ rest. cond (is_gt (sub_cmp f x y)) (y ∷ rest) (x ∷ y ∷ ys)) (insert_same f x ys)

pub subs_same : (f : Farm) (xs : List SubRow) → sorted_subs f xs ≡ sorted_by (sub_cmp f) xs
subs_same f [] = refl
subs_same f (x ∷ xs) = ap (insert_sub f x) (subs_same f xs) ∙ insert_same f x (sorted_by (sub_cmp f) xs)

-- ---- no two tie

last_ties : (o p : Ordering) → ordering_then o p ≡ Equal → p ≡ Equal
last_ties Less p e = cc
last_ties Equal p e = e
last_ties Greater p e = cc

module _ (f : Farm) (shows : KeepsShows f.shows) (allocs : ℕ) (subs : KeepsSubs f.subs (length f.shows) allocs) where
  pub subs_rise : IsStrict (λ (x y : SubRow). nat_cmp x.sub y.sub) f.subs
  subs_rise = rising_strict sub_key 0 SUB_NUMBERS f.subs subs.rise

  pub sub_found : (s : SubRow) → Has f.subs s → sub_at f s.sub ≡ Some s
  sub_found s h = rising_found sub_key f.subs s subs_rise h

  -- its show is there
  show_there : (s : SubRow) → Has f.subs s → show_of s < length f.shows
  show_there s h =
      let test = list_all-at (is_kept_sub (length f.shows) allocs) f.subs h.place s subs.each h.at in
      let rest : Bool = nat_lt (s.sub % MOST_ALLOCS) allocs && (nat_le s.size MOST_BURST && nat_le s.burst MOST_BURST) in
      ltb-true (show_of s) (length f.shows) (and_both (nat_lt (show_of s) (length f.shows)) rest test).0

  named : (s : SubRow) → Has f.subs s → (row : ShowRow) × (slice_get f.shows (show_of s) ≡ Some row)
  named s h = slice_get_below f.shows (show_of s) (show_there s h)

  -- two subscriptions to one allocation of shows of one name have one number
  one_number : (alloc : ℕ) (s t : SubRow) → Has f.subs s → Has f.subs t → s.sub % MOST_ALLOCS ≡ alloc → t.sub % MOST_ALLOCS ≡ alloc → show_name f (show_of s) ≡ show_name f (show_of t) → s.sub ≡ t.sub
  one_number alloc s t hs ht as_ at_ names =
      let x = named s hs in
      let y = named t ht in
      let same : x.0.name ≡ y.0.name = ap name_of (sym x.1) ∙ (names ∙ ap name_of y.1) in
      let places : show_of s ≡ show_of t = names_apart show_label f.shows (show_of s) (show_of t) x.0 y.0 shows.differ x.1 y.1 same in
      omega (arith, as_, at_, places)

  abbrev subs_of : ℕ → List SubRow
  subs_of alloc = subs_to f alloc

  subs_apart : (alloc : ℕ) (xs : List SubRow) → ((s : SubRow) → Has xs s → Has (subs_of alloc) s) → IsStrict (λ (x y : SubRow). nat_cmp x.sub y.sub) xs → AreApart (sub_cmp f) xs
  subs_apart alloc [] within s = tt
  subs_apart alloc (x ∷ xs) within s = (
    λ y h tie.
        let a = has_filter (λ (z : SubRow). eqb (z.sub % MOST_ALLOCS) alloc) f.subs x (within x (has_first x xs)) in
        let b = has_filter (λ (z : SubRow). eqb (z.sub % MOST_ALLOCS) alloc) f.subs y (within y (has_later x y xs h)) in
        let ties : slice_cmp nat_cmp (show_name f (show_of x)) (show_name f (show_of y)) ≡ Equal =
        last_ties (by_ratio (booked_in f x.sub) x.size (booked_in f y.sub) y.size) (slice_cmp nat_cmp (show_name f (show_of x)) (show_name f (show_of y))) tie in
        let names = slice_cmp-IsAntisymmetric nat_cmp-IsAntisymmetric (show_name f (show_of x)) (show_name f (show_of y)) ties in
        let same = one_number alloc x y a.there b.there (eqb-true (x.sub % MOST_ALLOCS) alloc a.passes) (eqb-true (y.sub % MOST_ALLOCS) alloc b.passes) names in
        let below = ranked x.sub y.sub Less (sym (s.0 y h)) in
        omega (arith, same, below),
    subs_apart alloc xs (λ z h. within z (has_later x z xs h)) s.1,
  )

  pub subs_strict : (alloc : ℕ) → IsStrict (sub_cmp f) (sorted_subs f (subs_of alloc))
  subs_strict alloc =
      subst (IsStrict (sub_cmp f)) (sym (subs_same f (subs_of alloc)))
      (sorted_strict (sub_cmp f) (sub_total f) (subs_of alloc)
      (subs_apart alloc (subs_of alloc) (λ s h. h) (filter_strict (λ (x y : SubRow). nat_cmp x.sub y.sub) (λ (z : SubRow). eqb (z.sub % MOST_ALLOCS) alloc) f.subs subs_rise)))

  -- a subscription to the allocation
  pub record IsTo (alloc : ℕ) (s : SubRow) : Type 0 where
    pub there : Has f.subs s
    pub alloc_is : s.sub % MOST_ALLOCS ≡ alloc

  pub sub_to : (alloc : ℕ) (s : SubRow) → Has (sorted_subs f (subs_of alloc)) s → IsTo alloc s
  sub_to alloc s h =
      let got = has_filter (λ (z : SubRow). eqb (z.sub % MOST_ALLOCS) alloc) f.subs s (sorted_has (sub_cmp f) (subs_of alloc) s (subst (λ xs. Has xs s) (subs_same f (subs_of alloc)) h)) in
      record { there = got.there; alloc_is = eqb-true (s.sub % MOST_ALLOCS) alloc got.passes }

  pub to_sub : (alloc : ℕ) (s : SubRow) → Has f.subs s → eqb (s.sub % MOST_ALLOCS) alloc ≡ true → Has (sorted_subs f (subs_of alloc)) s
  to_sub alloc s h passes =
      subst (λ xs. Has xs s) (sym (subs_same f (subs_of alloc)))
      (has_sorted (sub_cmp f) (subs_of alloc) s (filter_has (λ (z : SubRow). eqb (z.sub % MOST_ALLOCS) alloc) f.subs s h passes))
