-- Changes of rows: none, one, and one list after the other.
use Rattle.std.proofs.Common.{◌≡◌, ℕ, Bool, true, false, cond, eqb, List, [], ◌∷◌, ◌++◌, Option, None, Some, refl, sym, ap, ◌∙◌}
use Rattle.std.proofs.lemmas.Bool.{eq-eqb, eqb-true, false≢true}
use Rattle.std.specs.Cmp.Derive.{both_true}
use Rattle.farm_types.specs.Farm.{Farm}
use Rattle.farm_types.proofs.Lists.{and_both}
use Rattle.farm_rows.specs.declared.farm_row.FarmRow.{FarmRow}
use Rattle.farm_rows.specs.declared.farm_row.FarmRow.TheVariants as row
use Rattle.farm_rows.specs.declared.row_key.RowKey.{RowKey}
use Rattle.farm_rows.specs.declared.row_key.RowKey.TheVariants as key
use Rattle.farm_rows.specs.declared.row_change.RowChange.{RowChange}
use Rattle.farm_rows.specs.declared.row_change.RowChange.TheVariants as change
use Rattle.farm_rows.specs.Changes.{MakesBookRows, MakesRows, beside, is_head, is_key, row_after, row_at, row_by, row_key}
use Rattle.farm_rows.specs.Rows.{head_row}

-- ---- keys

pub is_key-same : (k : RowKey) → is_key k k ≡ true
is_key-same key.Head = refl
is_key-same (key.Show a) = eq-eqb a a refl
is_key-same (key.Alloc a) = eq-eqb a a refl
is_key-same (key.Sub a) = eq-eqb a a refl
is_key-same (key.Host a) = eq-eqb a a refl
is_key-same (key.Job a) = eq-eqb a a refl
is_key-same (key.Layer a m) = both_true (eq-eqb a a refl) (eq-eqb m m refl)
is_key-same (key.Frame a) = eq-eqb a a refl
is_key-same (key.Depend a) = eq-eqb a a refl
is_key-same (key.Met a m) = both_true (eq-eqb a a refl) (eq-eqb m m refl)
is_key-same (key.Limit a) = eq-eqb a a refl

pub is_key-true : (j k : RowKey) → is_key j k ≡ true → j ≡ k
is_key-true key.Head key.Head h = refl
is_key-true (key.Show a) (key.Show b) h = ap key.Show (eqb-true a b h)
is_key-true (key.Alloc a) (key.Alloc b) h = ap key.Alloc (eqb-true a b h)
is_key-true (key.Sub a) (key.Sub b) h = ap key.Sub (eqb-true a b h)
is_key-true (key.Host a) (key.Host b) h = ap key.Host (eqb-true a b h)
is_key-true (key.Job a) (key.Job b) h = ap key.Job (eqb-true a b h)
is_key-true (key.Layer a m) (key.Layer b n) h =
    let both = and_both (eqb a b) (eqb m n) h in
    ap (λ (x : ℕ). key.Layer x m) (eqb-true a b both.0) ∙ ap (key.Layer b) (eqb-true m n both.1)
is_key-true (key.Frame a) (key.Frame b) h = ap key.Frame (eqb-true a b h)
is_key-true (key.Depend a) (key.Depend b) h = ap key.Depend (eqb-true a b h)
is_key-true (key.Met a m) (key.Met b n) h =
    let both = and_both (eqb a b) (eqb m n) h in
    ap (λ (x : ℕ). key.Met x m) (eqb-true a b both.0) ∙ ap (key.Met b) (eqb-true m n both.1)
is_key-true (key.Limit a) (key.Limit b) h = ap key.Limit (eqb-true a b h)
is_key-true j k h = absurd (false≢true h)

-- ---- one list after the other

pub row_after-append : (cs ds : List RowChange) (k : RowKey) (old : Option FarmRow) → row_after (cs ++ ds) k old ≡ row_after ds k (row_after cs k old)
row_after-append [] ds k old = refl
row_after-append (c ∷ cs) ds k old = row_after-append cs ds k (row_by c k old)

pub makes_then : (f g h : Farm) (cs ds : List RowChange) → MakesRows f g cs → MakesRows g h ds → MakesRows f h (cs ++ ds)
makes_then f g h cs ds first second k named = second k named ∙ ap (row_after ds k) (first k named) ∙ sym (row_after-append cs ds k (row_at f k))

pub makes_books_then : (f g h : Farm) (cs ds : List RowChange) → MakesBookRows f g cs → MakesBookRows g h ds → MakesBookRows f h (cs ++ ds)
makes_books_then f g h cs ds first second depends met next =
    makes_then (beside f depends met next) (beside g depends met next) (beside h depends met next) cs ds (first depends met next) (second depends met next)

-- ---- one change

-- a row is put in where all others stay
pub makes_put : (f g : Farm) (r : FarmRow) → row_at g (row_key r) ≡ Some r → ((k : RowKey) → is_head k ≡ false → is_key (row_key r) k ≡ false → row_at g k ≡ row_at f k) → MakesRows f g (change.Put r ∷ [])
makes_put f g r here others k named = by (is_key (row_key r) k) refl
  where
    by : (b : Bool) → is_key (row_key r) k ≡ b → row_at g k ≡ cond (is_key (row_key r) k) (Some r) (row_at f k)
    by true e = ap (row_at g) (sym (is_key-true (row_key r) k e)) ∙ here ∙ sym (ap (λ (b : Bool). cond b (Some r) (row_at f k)) e)
    by false e = others k named e ∙ sym (ap (λ (b : Bool). cond b (Some r) (row_at f k)) e)

-- a row is taken out where all others stay
pub makes_delete : (f g : Farm) (gone : RowKey) → row_at g gone ≡ None → ((k : RowKey) → is_head k ≡ false → is_key gone k ≡ false → row_at g k ≡ row_at f k) → MakesRows f g (change.Delete gone ∷ [])
makes_delete f g gone here others k named = by (is_key gone k) refl
  where
    by : (b : Bool) → is_key gone k ≡ b → row_at g k ≡ cond (is_key gone k) None (row_at f k)
    by true e = ap (row_at g) (sym (is_key-true gone k e)) ∙ here ∙ sym (ap (λ (b : Bool). cond b None (row_at f k)) e)
    by false e = others k named e ∙ sym (ap (λ (b : Bool). cond b None (row_at f k)) e)

-- with the farm's own row at the end, they make every row
pub makes_all : (f g : Farm) (cs : List RowChange) → g.recorded ≡ true → MakesRows f g cs → (k : RowKey) → row_at g k ≡ row_after (cs ++ change.Put (row.Head (head_row g)) ∷ []) k (row_at f k)
makes_all f g cs recorded makes key.Head =
    ap (λ (b : Bool). cond b (Some (row.Head (head_row g))) None) recorded ∙ sym (row_after-append cs (change.Put (row.Head (head_row g)) ∷ []) key.Head (row_at f key.Head))
makes_all f g cs recorded makes k = makes k refl ∙ sym (row_after-append cs (change.Put (row.Head (head_row g)) ∷ []) k (row_at f k))
