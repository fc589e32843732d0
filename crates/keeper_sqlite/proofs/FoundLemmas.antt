-- The rows of a table that was there are well formed: by the rules of its schema, where kinds and ids are not negative.
use Rattle.std.proofs.Common.{◌≡◌, ℕ, ℤ, pos, List, [], ◌∷◌, drop, Bool, true, false, not, ◌&&◌, None, Some, refl, sym, ap, ◌∙◌, true≢false, Ordering, Less, Equal, Greater, is_eq, int_cmp, IsTrue}
use Rattle.std.specs.Ordering.{is_ne}
use Rattle.std.specs.List.{All}
use Rattle.std.proofs.lemmas.Bool.{and_from, and_parts}
use Rattle.sqlite_value.specs.Order.{Row, column, value_cmp}
use Rattle.sqlite_value.specs.declared.value.Value.{Value}
use Rattle.sqlite_value.specs.declared.value.Value.TheVariants.{Null, Int, Real, Text, Blob}
use Rattle.sqlite_value.specs.Keys.{first_key, plain}
use Rattle.sqlite_value.proofs.OrderLemmas.{value_cmp-Int}
use Rattle.sqlite_sql.specs.Ops.{binary, is_null, is_true, from_truth}
use Rattle.sqlite_schema.specs.Rules.{Obeys, agree, are_present, are_typed, clashes, differ, guards, is_of, passes}
use Rattle.sqlite_schema.specs.declared.schema.Constraint.TheVariants.{Datatype, NotNull, Unique}
use Rattle.sqlite_trees.specs.Tree.{Trees, rowid, IsTable}
use Rattle.sqlite_trees.specs.View.{IsShaped, is_int}
use Rattle.sqlite_trees.specs.declared.store.Shape.TheVariants as shape
use Rattle.sqlite_rules.specs.Lists.{Has}
use Rattle.sqlite_rules.proofs.ListLemmas.{all_has, some_from}
use Rattle.sqlite_rules.proofs.PlaceLemmas.{tied_same}
use Rattle.sqlite.specs.Kind.TheVariants.{Integer, Blob as BlobKind}
use Rattle.farm_keeper.specs.Rows.{Key}
use Rattle.keeper_sqlite.specs.Table.{rows_schema, rows_table}
use Rattle.keeper_sqlite.specs.Told.{AreShown, HasNumbers, IsFit, IsTold, key_in, row_of, shown}
use Rattle.keeper_sqlite.proofs.AnswerLemmas.{from_all}
use Rattle.keeper_sqlite.proofs.KeyLemmas.{equal_int, equal_is, is_place, same_place}

-- ---- values of their columns' types

integer : (v : Value) → is_of Integer v ≡ true → is_null v ≡ false → (n : ℤ) × (v ≡ Int n)
integer Null typed there = absurd (true≢false there)
integer (Int n) typed there = (n, refl)
integer (Real x) typed there = absurd (true≢false (sym typed))
integer (Text t) typed there = absurd (true≢false (sym typed))
integer (Blob b) typed there = absurd (true≢false (sym typed))

blob : (v : Value) → is_of BlobKind v ≡ true → is_null v ≡ false → (b : List ℕ) × (v ≡ Blob b)
blob Null typed there = absurd (true≢false there)
blob (Int n) typed there = absurd (true≢false (sym typed))
blob (Real x) typed there = absurd (true≢false (sym typed))
blob (Text t) typed there = absurd (true≢false (sym typed))
blob (Blob b) typed there = (b, refl)

rowid_is : (v : Value) → IsTrue (is_int v) → (n : ℤ) × (v ≡ Int n)
rowid_is Null is = absurd (true≢false (sym is))
rowid_is (Int n) is = (n, refl)
rowid_is (Real x) is = absurd (true≢false (sym is))
rowid_is (Text t) is = absurd (true≢false (sym is))
rowid_is (Blob b) is = absurd (true≢false (sym is))

there : (b : Bool) → not b ≡ true → b ≡ false
there true h = absurd (true≢false (sym h))
there false h = refl

-- a row with its four values
record IsFull (row : Row) : Type 0 where
  place : ℤ
  kind : ℤ
  id : ℤ
  content : List ℕ
  is : row ≡ Int place ∷ Int kind ∷ Int id ∷ Blob content ∷ []

full : (row : Row) → IsTrue (is_int (rowid row)) → are_typed None 0 rows_table.columns (drop 1 row) ≡ true → are_present None 0 rows_table.columns row ≡ true → IsFull row
full [] keyed typed present = absurd (true≢false (sym keyed))
full (p ∷ []) keyed typed present = absurd (true≢false (sym present))
full (p ∷ a ∷ []) keyed typed present = absurd (true≢false (sym (and_parts (not (is_null a)) false present).1))
full (p ∷ a ∷ b ∷ []) keyed typed present =
    absurd (true≢false (sym (and_parts (not (is_null b)) false (and_parts (not (is_null a)) (not (is_null b) && false) present).1).1))
full (p ∷ a ∷ b ∷ c ∷ []) keyed typed present =
    let two = and_parts _ _ typed in
    let three = and_parts _ _ two.1 in
    let last = and_parts _ _ three.1 in
    let two' = and_parts _ _ present in
    let three' = and_parts _ _ two'.1 in
    let last' = and_parts _ _ three'.1 in
    let place = rowid_is p keyed in
    let kind = integer a two.0 (there _ two'.0) in
    let id = integer b three.0 (there _ three'.0) in
    let content = blob c last.0 (there _ last'.0) in
    record { place = place.0; kind = kind.0; id = id.0; content = content.0; is = λ i. place.1 i ∷ kind.1 i ∷ id.1 i ∷ content.1 i ∷ [] }
full (p ∷ a ∷ b ∷ c ∷ d ∷ more) keyed typed present =
    let two = and_parts (is_of Integer a) (is_of Integer b && (is_of BlobKind c && false)) typed in
    let three = and_parts (is_of Integer b) (is_of BlobKind c && false) two.1 in
    absurd (true≢false (sym (and_parts (is_of BlobKind c) false three.1).1))

fit : (row : Row) → IsFull row → HasNumbers (shown row) → IsFit row
fit row f n =
    let kind : Int f.kind ≡ Int (pos n.kind) = sym (ap (λ (r : Row). column r 1) f.is) ∙ n.kind_is in
    let id : Int f.id ≡ Int (pos n.id) = sym (ap (λ (r : Row). column r 2) f.is) ∙ n.id_is in
    record { place = f.place; kind = n.kind; id = n.id; content = f.content; is = f.is ∙ (λ i. Int f.place ∷ kind i ∷ id i ∷ Blob f.content ∷ []) }

-- ---- no two rows have one kind and id

not_eq : (o : Ordering) → is_ne o ≡ not (is_eq o)
not_eq Less = refl
not_eq Equal = refl
not_eq Greater = refl

truth_back : (b : Bool) → is_true (from_truth (Some b)) ≡ b
truth_back true = refl
truth_back false = refl

differ_int : (m n : ℤ) → differ (Int m) (Int n) ≡ not (is_eq (int_cmp m n))
unfolding binary
differ_int m n = truth_back (is_ne (value_cmp (Int m) (Int n))) ∙ ap is_ne (value_cmp-Int m n) ∙ not_eq (int_cmp m n)

abbrev places : List ℕ
places = 1 ∷ 2 ∷ []

agree_is : (p q : ℤ) (kind id kind' id' : ℕ) (b c : List ℕ) → agree plain places (row_of p kind id b) places (row_of q kind' id' c) ≡ same_place kind id kind' id'
unfolding first_key
agree_is p q kind id kind' id' b c = rw (equal_int (pos kind) (pos kind'), equal_int (pos id) (pos id')) refl

abbrev clash : Row → Row → Bool
clash row other = agree plain places other places row && differ (rowid other) (rowid row)

module _ (rows : List Row) (table : IsTable rows) (fits : (r : Row) → Has rows r → IsFit r) (unique : (r : Row) → Has rows r → clashes plain places rows r ≡ false) where
  tied : (a b : Row) (p : Has rows a) (q : Has rows b) → key_in a ≡ key_in b → value_cmp (rowid a) (rowid b) ≡ Equal
  tied a b p q same =
      let x = fits a p in
      let y = fits b q in
      let keys : ◌≡◌ {A = Key} (x.kind, x.id) (y.kind, y.id) = sym (ap key_in x.is) ∙ same ∙ ap key_in y.is in
      let agrees : agree plain places a places b ≡ true =
      (λ i. agree plain places (x.is i) places (y.is i)) ∙ agree_is x.place y.place x.kind x.id y.kind y.id x.content y.content ∙ is_place x.kind x.id y.kind y.id keys in
      let differs : differ (rowid a) (rowid b) ≡ not (is_eq (int_cmp x.place y.place)) = (λ i. differ (rowid (x.is i)) (rowid (y.is i))) ∙ differ_int x.place y.place in
      let cmp : value_cmp (rowid a) (rowid b) ≡ int_cmp x.place y.place = (λ i. value_cmp (rowid (x.is i)) (rowid (y.is i))) ∙ value_cmp-Int x.place y.place in
      cmp ∙ equal_is _ (go (is_eq (int_cmp x.place y.place)) (sym differs) agrees)
    where
      go : (e : Bool) → not e ≡ differ (rowid a) (rowid b) → agree plain places a places b ≡ true → e ≡ true
      go true is agrees = refl
      go false is agrees = absurd (true≢false (sym (some_from (clash b) rows a p (and_from _ _ agrees (sym is))) ∙ unique b q))

  pub each : (a b : Row) → Has rows a → Has rows b → key_in a ≡ key_in b → a ≡ b
  each a b p q same = tied_same rows a b table p q (tied a b p q same)

-- ---- the table

module _ (db : Trees) (obeys : Obeys rows_schema db) (shaped : IsShaped shape.Table (db 0)) (out : List Row) (are : AreShown (db 0) out) (numbers : All HasNumbers out) where
  fits : (r : Row) → Has (db 0) r → IsFit r
  fits r h =
      let typed = all_has (λ row. passes Datatype rows_schema db rows_table row ≡ true) (db 0) r (obeys.rules Datatype).0 h in
      let present = all_has (λ row. passes NotNull rows_schema db rows_table row ≡ true) (db 0) r (obeys.rules NotNull).0 h in
      let keyed = all_has (λ (row : Row). IsTrue (is_int (rowid row))) (db 0) r shaped.1 h in
      fit r (full r keyed (and_parts _ _ typed).0 present) (from_all HasNumbers out (shown r) numbers (are.complete r h))

  unique : (r : Row) → Has (db 0) r → clashes plain places (db 0) r ≡ false
  unique r h = there _ (and_parts _ _ (all_has (λ row. passes Unique rows_schema db rows_table row ≡ true) (db 0) r (obeys.rules Unique).0 h)).0

  pub found_told : IsTold (db 0)
  found_told = record { table = shaped.0; fit = fits; each = each (db 0) shaped.0 fits unique }
