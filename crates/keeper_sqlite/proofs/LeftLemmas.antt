-- What a table has once the rows of a kind and an id are taken out.
use Rattle.std.proofs.Common.{◌≡◌, inl, inr, ℤ, List, [], ◌∷◌, map, filter, Bool, false, not, refl, sym, ap, subst, ◌∙◌, true≢false, Less, Equal, Greater, is_eq}
use Rattle.std.proofs.lemmas.Bool.{cases_Bool, false_from_ne_true, not-true}
use Rattle.std.proofs.lemmas.Cmp.{tied_itself}
use Rattle.sqlite_value.specs.Order.{Row, value_cmp}
use Rattle.sqlite_value.specs.declared.value.Value.TheVariants.{Int}
use Rattle.sqlite_value.proofs.OrderLemmas.{value_cmp_total}
use Rattle.sqlite_trees.specs.Tree.{rowid, IsTable, has_rowid, put_row, without_rowid}
use Rattle.sqlite_rules.specs.Calls.{ids_of}
use Rattle.sqlite_rules.specs.Edit.{id_in, without_all}
use Rattle.sqlite_rules.specs.Lists.{Has}
use Rattle.sqlite_rules.proofs.ListLemmas.{all_has, all_from, has_filtered, has_kept}
use Rattle.sqlite_rules.proofs.PlaceLemmas.{tied_same}
use Rattle.sqlite_rules.proofs.ProbeLemmas.{mapped_has}
use Rattle.farm_keeper.specs.Rows.{Key}
use Rattle.keeper_sqlite.specs.Told.{IsFit, IsTold, key_in}
use Rattle.keeper_sqlite.proofs.KeyLemmas.{equal_is}

pub unmapped : {A B : Type 0} (f : A → B) (xs : List A) (y : B) → Has (map f xs) y → (x : A) × Has xs x × (y ≡ f x)
unmapped f [] y h = absurd h
unmapped f (x ∷ xs) y (inl same) = (x, inl refl, same)
unmapped f (x ∷ xs) y (inr later) = let r = unmapped f xs y later in (r.0, inr r.1, r.2)

-- ---- rows that no rowid of a list takes

abbrev Lacks : List ℤ → Row → Type 0
Lacks ids x = (id : ℤ) → Has ids id → has_rowid id x ≡ false

left_from : (ids : List ℤ) (rows : List Row) (x : Row) → Has (without_all rows ids) x → Has rows x × Lacks ids x
left_from [] rows x h = (h, λ id none. absurd none)
left_from (id ∷ ids) rows x h =
    let r = left_from ids (without_rowid id rows) x h in
    let was = has_filtered (λ y. not (has_rowid id y)) rows x r.0 in
    (was.0, λ other k. elim k [ inl e ↦ rw e (not-true _ was.1) | inr more ↦ r.1 other more ])

left_has : (ids : List ℤ) (rows : List Row) (x : Row) → Has rows x → Lacks ids x → Has (without_all rows ids) x
left_has [] rows x h lacks = h
left_has (id ∷ ids) rows x h lacks = left_has ids (without_rowid id rows) x (has_kept (λ y. not (has_rowid id y)) rows x h (ap not (lacks id (inl refl)))) (λ other k. lacks other (inr k))

filter_table : (p : Row → Bool) (rows : List Row) → IsTable rows → IsTable (filter p rows)
filter_table p [] up = tt
filter_table p (r ∷ rows) up = elim (cases_Bool (p r)) [
  | inl e ↦ rw e (all_from _ (filter p rows) (λ y h. all_has _ rows y up.0 (has_filtered p rows y h).0), filter_table p rows up.1)
  | inr e ↦ rw e (filter_table p rows up.1)
]

pub left_table : (ids : List ℤ) (rows : List Row) → IsTable rows → IsTable (without_all rows ids)
left_table [] rows up = up
left_table (id ∷ ids) rows up = left_table ids (without_rowid id rows) (filter_table _ rows up)

abbrev pub Tied : Row → Row → Type 0
Tied a b = value_cmp (rowid a) (rowid b) ≡ Equal

pub put_spares : (new : Row) (rows : List Row) (x : Row) → Has rows x → (Tied x new → ⊥) → Has (put_row new rows) x
put_spares new [] x h other = absurd h
put_spares new (r ∷ rows) x h other = go (value_cmp (rowid r) (rowid new)) refl (put_spares new rows x)
  where
    go : (o : _) → value_cmp (rowid r) (rowid new) ≡ o → (Has rows x → (Tied x new → ⊥) → Has (put_row new rows) x) → Has (put_row new (r ∷ rows)) x
    go Less e later = rw e (elim h [ inl same ↦ inl same | inr more ↦ inr (later more other) ])
    go Equal e later = rw e (elim h [ inl same ↦ absurd (other (rw same e)) | inr more ↦ inr more ])
    go Greater e later = rw e (inr h)

-- ---- the rowids that are taken out are those of a kind and an id

-- these are the rowids of the rows of a kind and an id
pub record AreThose (rows : List Row) (k : Key) (found : List Row) : Type 0 where
  pub sound : (x : Row) → Has found x → (r : Row) × Has rows r × (key_in r ≡ k) × (x ≡ rowid r ∷ [])
  pub complete : (r : Row) → Has rows r → key_in r ≡ k → Has found (rowid r ∷ [])

is_own : (r : Row) → IsFit r → Int (id_in (rowid r)) ≡ rowid r
is_own r fit = subst (λ (x : Row). Int (id_in (rowid x)) ≡ rowid x) (sym fit.is) refl

module _ (rows : List Row) (is : IsTold rows) (k : Key) (found : List Row) (those : AreThose rows k found) where
  abbrev left : List Row
  left = without_all rows (ids_of found)

  pub stays : (r : Row) → Has rows r → (key_in r ≡ k → ⊥) → Has left r
  stays r h other = left_has (ids_of found) rows r h (λ id there. false_from_ne_true _ (λ tie.
      let x = unmapped (λ (y : Row). id_in (rowid y)) found id there in
      let t = those.sound x.0 x.1 in
      let number : id ≡ id_in (rowid t.0) = x.2 ∙ ap (λ (y : Row). id_in (rowid y)) t.3 in
      let tied : Tied r t.0 = subst (λ v. value_cmp (rowid r) v ≡ Equal) (ap Int number ∙ is_own t.0 (is.fit t.0 t.1)) (equal_is _ tie) in
      other (ap key_in (tied_same rows r t.0 is.table h t.1 tied) ∙ t.2)))

  pub went_out : (r : Row) → Has left r → Has rows r × (key_in r ≡ k → ⊥)
  went_out r h =
      let from = left_from (ids_of found) rows r h in (
        from.0,
        λ same.
            let lacks = from.1 (id_in (rowid r)) (mapped_has (λ (y : Row). id_in (rowid y)) found (rowid r ∷ []) (those.complete r from.0 same)) in
            let tie : value_cmp (rowid r) (Int (id_in (rowid r))) ≡ Equal = subst (λ v. value_cmp (rowid r) v ≡ Equal) (sym (is_own r (is.fit r from.0))) (tied_itself value_cmp_total (rowid r)) in
            true≢false (sym (ap is_eq tie) ∙ lacks),
      )

  pub left_told : IsTold left
  left_told = record {
    table = left_table (ids_of found) rows is.table;
    fit = λ r h. is.fit r (went_out r h).0;
    each = λ a b p q. is.each a b (went_out a p).0 (went_out b q).0;
  }
