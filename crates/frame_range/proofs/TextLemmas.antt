-- Bytes of texts, and where the first one that passes a test stands.
use Rattle.std.proofs.Common.{◌≡◌, ℕ, suc, ◌+◌, ◌≤◌, List, [], ◌∷◌, ◌++◌, length, Bool, true, false, cond, refl, sym, ap, ◌∙◌, arith, subst, true≢false, take, drop}
use Rattle.std.specs.Prelude.{Option, Some, None, ◌||◌, ◌&&◌, ◌==◌, slice_index}
use Rattle.std.specs.Char.{is_ascii_digit}
use Rattle.std.specs.Option.{option_map}
use Rattle.std.specs.List.{position, list_any}
use Rattle.std.specs.Str.{all_ascii_digits}
use Rattle.std.proofs.lemmas.Bool.{leb-true}
use Rattle.frame_range.specs.Sections.{is_dash, is_mark}
use Rattle.frame_range.specs.Sets.{is_comma}
use Rattle.frame_range.proofs.OtherLemmas.{eqb-no}
use Rattle.frame_range.proofs.PieceLemmas.{position-cons}

pub both_true : (a b : Bool) → (a && b) ≡ true → (a ≡ true) × (b ≡ true)
both_true true b h = (refl, h)
both_true false b h = absurd (true≢false (sym h))

pub or_false : (a b : Bool) → a ≡ false → b ≡ false → (a || b) ≡ false
or_false true b h k = absurd (true≢false h)
or_false false b h k = k

pub neither_true : (a b : Bool) → (a || b) ≡ false → (a ≡ false) × (b ≡ false)
neither_true true b h = absurd (true≢false h)
neither_true false b h = (refl, h)

-- ---- digits

pub digit_low : (b : ℕ) → is_ascii_digit b ≡ true → 48 ≤ b
digit_low b h = leb-true 48 b (both_true _ _ h).0

pub digit_high : (b : ℕ) → is_ascii_digit b ≡ true → b ≤ 57
digit_high b h = leb-true b 57 (both_true _ _ h).1

-- a digit isn't a byte outside of 48 to 57
pub digit_not : (c b : ℕ) → ((c ≤ 57) → (48 ≤ c) → b ≡ c → ⊥) → is_ascii_digit b ≡ true → (b == c) ≡ false
digit_not c b h d = eqb-no b c (λ e. h (omega (arith, e, digit_high b d)) (omega (arith, e, digit_low b d)) e)

pub digit_is_no_dash : (b : ℕ) → is_ascii_digit b ≡ true → is_dash b ≡ false
digit_is_no_dash b d = eqb-no b 45 (λ e. omega (arith, e, digit_low b d))

pub digit_is_no_space : (b : ℕ) → is_ascii_digit b ≡ true → (b == 32) ≡ false
digit_is_no_space b d = eqb-no b 32 (λ e. omega (arith, e, digit_low b d))

pub digit_is_no_comma : (b : ℕ) → is_ascii_digit b ≡ true → is_comma b ≡ false
digit_is_no_comma b d = eqb-no b 44 (λ e. omega (arith, e, digit_low b d))

pub digit_is_no_mark : (b : ℕ) → is_ascii_digit b ≡ true → is_mark b ≡ false
digit_is_no_mark b d =
    or_false (b == 120) (b == 121 || b == 58) (eqb-no b 120 (λ e. omega (arith, e, digit_high b d)))
    (or_false (b == 121) (b == 58) (eqb-no b 121 (λ e. omega (arith, e, digit_high b d))) (eqb-no b 58 (λ e. omega (arith, e, digit_high b d))))

pub digits_lack : (p : ℕ → Bool) → ((b : ℕ) → is_ascii_digit b ≡ true → p b ≡ false) → (ds : List ℕ) → all_ascii_digits ds ≡ true → list_any p ds ≡ false
digits_lack p h [] k = refl
digits_lack p h (d ∷ ds) k =
    let parts = both_true (is_ascii_digit d) (all_ascii_digits ds) k in
    or_false (p d) (list_any p ds) (h d parts.0) (digits_lack p h ds parts.1)

-- ---- the first byte that passes

pub position_none : (p : ℕ → Bool) (xs : List ℕ) → list_any p xs ≡ false → position p xs ≡ None
position_none p [] h = refl
position_none p (x ∷ xs) h =
    let parts = neither_true (p x) (list_any p xs) h in
    position-cons p x xs ∙ ap (λ (b : Bool). cond b (Some 0) (option_map suc (position p xs))) parts.0 ∙ ap (option_map suc) (position_none p xs parts.1)

pub position_at : (p : ℕ → Bool) (xs : List ℕ) (m : ℕ) (ys : List ℕ) → list_any p xs ≡ false → p m ≡ true → position p (xs ++ m ∷ ys) ≡ Some (length xs)
position_at p [] m ys h k = position-cons p m ys ∙ ap (λ (b : Bool). cond b (Some 0) (option_map suc (position p ys))) k
position_at p (x ∷ xs) m ys h k =
    let parts = neither_true (p x) (list_any p xs) h in
    position-cons p x (xs ++ m ∷ ys) ∙ ap (λ (b : Bool). cond b (Some 0) (option_map suc (position p (xs ++ m ∷ ys)))) parts.0
    ∙ ap (option_map suc) (position_at p xs m ys parts.1 k)

-- what a text is where it is cut
pub record IsCut (p : ℕ → Bool) (text : List ℕ) (i : ℕ) : Type 0 where
  pub cut : text ≡ take i text ++ slice_index text i ∷ drop (i + 1) text
  pub passes : p (slice_index text i) ≡ true

cut_step : (p : ℕ → Bool) (x : ℕ) (xs : List ℕ) (t : Bool) (o : Option ℕ) (i : ℕ) → p x ≡ t → cond t (Some 0) (option_map suc o) ≡ Some i →
    ((j : ℕ) → o ≡ Some j → IsCut p xs j) → IsCut p (x ∷ xs) i
cut_step p x xs true o i px h rest =
    let none : 0 ≡ i = cc in
    subst (λ (k : ℕ). IsCut p (x ∷ xs) k) none (record { cut = refl; passes = px })
cut_step p x xs false None i px h rest = absurd (cc)
cut_step p x xs false (Some j) i px h rest =
    let next : suc j ≡ i = cc in
    let onward : suc j + 1 ≡ suc (j + 1) = omega arith in
    let found = rest j refl in
    subst (λ (k : ℕ). IsCut p (x ∷ xs) k) next
    (record {
      cut = ap (λ (l : List ℕ). x ∷ l) found.cut ∙ ap (λ (k : ℕ). x ∷ (take j xs ++ slice_index xs j ∷ drop k (x ∷ xs))) (sym onward);
      passes = found.passes;
    })

pub position_found : (p : ℕ → Bool) (xs : List ℕ) (i : ℕ) → position p xs ≡ Some i → IsCut p xs i
position_found p [] i h = absurd (cc)
position_found p (x ∷ xs) i h = cut_step p x xs (p x) (position p xs) i refl (sym (position-cons p x xs) ∙ h) (λ j k. position_found p xs j k)

pub drop_next : (xs : List ℕ) (m : ℕ) (ys : List ℕ) → drop (suc (length xs)) (xs ++ m ∷ ys) ≡ ys
drop_next [] m ys = refl
drop_next (x ∷ xs) m ys = drop_next xs m ys
