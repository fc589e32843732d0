-- What the rows of a table answer at a kind and an id.
use Rattle.std.proofs.Common.{◌≡◌, ◌⊎◌, inl, inr, ℕ, ℤ, pos, List, [], ◌∷◌, map, Bool, true, false, cond, ◌&&◌, Option, None, Some, refl, sym, ap, subst, ◌∙◌, true≢false, Less, Equal, Greater, Ordering, is_eq, int_cmp}
use Rattle.std.specs.Ordering.{eq_by_cmp}
use Rattle.std.specs.Cmp.{int_cmp_total}
use Rattle.std.specs.FinMap.{find, get, get-from_entries, get-insert, get-remove, insert, remove, int_cmp-IsAntisymmetric}
use Rattle.std.proofs.lemmas.Bool.{and_from, and_parts}
use Rattle.std.proofs.lemmas.Cmp.{tied_itself}
use Rattle.std.proofs.lemmas.Map.Views.{tells_apart}
use Rattle.sqlite_value.specs.Order.{Row, column, bytes, value_cmp}
use Rattle.sqlite_value.specs.declared.value.Value.TheVariants.{Int}
use Rattle.sqlite_value.specs.declared.keys.Collation.TheVariants.{Binary}
use Rattle.sqlite_value.proofs.OrderLemmas.{value_cmp-Int}
use Rattle.sqlite_sql.specs.Ops.{binary, is_true, from_truth}
use Rattle.sqlite_schema.specs.Rules.{equal}
use Rattle.sqlite_rules.specs.Lists.{Has}
use Rattle.farm_keeper.specs.Rows.{Key, key_cmp}
use Rattle.farm_keeper.proofs.RowLaws.{exact_key, key_total, same_rows}
use Rattle.keeper_sqlite.specs.Told.{entry_in, key_in, natural, told}

abbrev pub Each : List Row → Type 0
Each rows = (a b : Row) → Has rows a → Has rows b → key_in a ≡ key_in b → a ≡ b

same_key : (q k : Key) → ((eq_by_cmp key_cmp q k ≡ true) × (q ≡ k)) ⊎ ((eq_by_cmp key_cmp q k ≡ false) × (q ≡ k → ⊥))
same_key q k = go (eq_by_cmp key_cmp q k) refl
  where
    go : (b : Bool) → eq_by_cmp key_cmp q k ≡ b → ((eq_by_cmp key_cmp q k ≡ true) × (q ≡ k)) ⊎ ((eq_by_cmp key_cmp q k ≡ false) × (q ≡ k → ⊥))
    go true e = inl (e, tells_apart exact_key q k e)
    go false e = inr (e, λ same. true≢false (sym (ap is_eq (tied_itself key_total q)) ∙ ap (eq_by_cmp key_cmp q) same ∙ e))

abbrev seen : Key → List Row → Option (List ℕ)
seen q rows = find key_cmp q (map entry_in rows)

pub looked : (q : Key) (rows : List Row) → ((r : Row) × Has rows r × (key_in r ≡ q)) ⊎ ((r : Row) → Has rows r → key_in r ≡ q → ⊥)
looked q [] = inr (λ r none _. none)
looked q (r ∷ rows) = elim (same_key q (key_in r)) [
  | inl here ↦ inl (r, inl refl, sym here.1)
  | inr other ↦ elim (looked q rows) [
    | inl found ↦ inl (found.0, inr found.1, found.2)
    | inr none ↦ inr (λ x h is. elim h [ inl same ↦ other.1 (sym is ∙ ap key_in same) | inr later ↦ none x later is ])
  ]
]

pub find_none : (q : Key) (rows : List Row) → ((r : Row) → Has rows r → key_in r ≡ q → ⊥) → seen q rows ≡ None
find_none q [] none = refl
find_none q (r ∷ rows) none = elim (same_key q (key_in r)) [
  | inl here ↦ absurd (none r (inl refl) (sym here.1))
  | inr other ↦ ap (λ b. cond b (Some (bytes (column r 3))) (seen q rows)) other.0 ∙ find_none q rows (λ x h. none x (inr h))
]

pub find_has : (q : Key) (rows : List Row) (r : Row) → Has rows r → key_in r ≡ q → Each rows → seen q rows ≡ Some (bytes (column r 3))
find_has q [] r h is each = absurd h
find_has q (x ∷ rows) r h is each = elim (same_key q (key_in x)) [
  | inl here ↦ ap (λ b. cond b (Some (bytes (column x 3))) (seen q rows)) here.0 ∙ ap (λ (y : Row). Some (bytes (column y 3))) (each x r (inl refl) h (sym here.1 ∙ sym is))
  | inr other ↦ ap (λ b. cond b (Some (bytes (column x 3))) (seen q rows)) other.0 ∙ (elim h [
    | inl same ↦ absurd (other.1 (sym is ∙ ap key_in same))
    | inr more ↦ find_has q rows r more is (λ a b p s. each a b (inr p) (inr s))
  ])
]

pub told_at : (rows : List Row) (q : Key) → get (told rows) q ≡ seen q rows
told_at rows q = get-from_entries key_total (map entry_in rows) q

module _ (rows now : List Row) (k : Key) (each : Each rows) (each_now : Each now) (keeps : (r : Row) → Has rows r → (key_in r ≡ k → ⊥) → Has now r) where
  -- at another kind and id
  elsewhere : (q : Key) → (q ≡ k → ⊥) → ((r : Row) → Has now r → key_in r ≡ q → Has rows r) → seen q now ≡ seen q rows
  elsewhere q other from = elim (looked q rows) [
    | inl r ↦ find_has q now r.0 (keeps r.0 r.1 (λ e. other (sym r.2 ∙ e))) r.2 each_now ∙ sym (find_has q rows r.0 r.1 r.2 each)
    | inr none ↦ find_none q now (λ r h e. none r (from r h e) e) ∙ sym (find_none q rows none)
  ]

  pub told_put : (n : Row) (content : List ℕ) → Has now n → key_in n ≡ k → bytes (column n 3) ≡ content → ((r : Row) → Has now r → (r ≡ n) ⊎ Has rows r) → told now ≡ insert (told rows) k content
  told_put n content there is has from =
      same_rows _ _ (λ q. told_at now q ∙ at q ∙ sym (get-insert key_total (told rows) k content q ∙ ap (cond (eq_by_cmp key_cmp q k) (Some content)) (told_at rows q)))
    where
      at : (q : Key) → seen q now ≡ cond (eq_by_cmp key_cmp q k) (Some content) (seen q rows)
      at q = elim (same_key q k) [
        | inl here ↦ find_has q now n there (is ∙ sym here.1) each_now ∙ ap Some has ∙ sym (ap (λ b. cond b (Some content) (seen q rows)) here.0)
        | inr other ↦ elsewhere q other.1 (λ r h e. elim (from r h) [ inl same ↦ absurd (other.1 (sym e ∙ ap key_in same ∙ is)) | inr was ↦ was ])
            ∙ sym (ap (λ b. cond b (Some content) (seen q rows)) other.0)
      ]

  pub told_removed : ((r : Row) → Has now r → Has rows r × (key_in r ≡ k → ⊥)) → told now ≡ remove (told rows) k
  told_removed from =
      same_rows _ _ (λ q. told_at now q ∙ at q ∙ sym (get-remove key_total (told rows) k q ∙ ap (cond (eq_by_cmp key_cmp q k) None) (told_at rows q)))
    where
      at : (q : Key) → seen q now ≡ cond (eq_by_cmp key_cmp q k) None (seen q rows)
      at q = elim (same_key q k) [
        | inl here ↦ find_none q now (λ r h e. (from r h).1 (e ∙ here.1)) ∙ sym (ap (λ b. cond b None (seen q rows)) here.0)
        | inr other ↦ elsewhere q other.1 (λ r h e. (from r h).0) ∙ sym (ap (λ b. cond b None (seen q rows)) other.0)
      ]

-- ---- keys as SQL compares them

truth_back : (b : Bool) → is_true (from_truth (Some b)) ≡ b
truth_back true = refl
truth_back false = refl

pub equal_int : (m n : ℤ) → equal Binary (Int m) (Int n) ≡ is_eq (int_cmp m n)
unfolding binary
equal_int m n = truth_back (is_eq (value_cmp (Int m) (Int n))) ∙ ap is_eq (value_cmp-Int m n)

pub equal_is : (o : Ordering) → is_eq o ≡ true → o ≡ Equal
equal_is Less h = absurd (cc)
equal_is Equal h = refl
equal_is Greater h = absurd (cc)

same_number : (m n : ℕ) → is_eq (int_cmp (pos m) (pos n)) ≡ true → m ≡ n
same_number m n h = ap natural (int_cmp-IsAntisymmetric (pos m) (pos n) (equal_is _ h))

number_same : (m n : ℕ) → m ≡ n → is_eq (int_cmp (pos m) (pos n)) ≡ true
number_same m n same = subst (λ x. is_eq (int_cmp (pos m) (pos x)) ≡ true) same (ap is_eq (tied_itself int_cmp_total (pos m)))

abbrev pub same_place : ℕ → ℕ → ℕ → ℕ → Bool
same_place kind id kind' id' = is_eq (int_cmp (pos kind) (pos kind')) && (is_eq (int_cmp (pos id) (pos id')) && true)

pub place_is : (kind id kind' id' : ℕ) → same_place kind id kind' id' ≡ true → ◌≡◌ {A = Key} (kind, id) (kind', id')
place_is kind id kind' id' h =
    let both = and_parts _ _ h in
    let second = and_parts _ _ both.1 in
    λ i. (same_number kind kind' both.0 i, same_number id id' second.0 i)

pub is_place : (kind id kind' id' : ℕ) → ◌≡◌ {A = Key} (kind, id) (kind', id') → same_place kind id kind' id' ≡ true
is_place kind id kind' id' same =
    and_from _ _ (number_same kind kind' (ap (λ (k : Key). k.0) same)) (and_from _ _ (number_same id id' (ap (λ (k : Key). k.1) same)) refl)
