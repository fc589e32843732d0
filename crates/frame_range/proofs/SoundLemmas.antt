-- What is read is spelled.
use Rattle.std.proofs.Common.{◌≡◌, ℕ, suc, ◌+◌, List, [], ◌∷◌, ◌++◌, Bool, true, false, cond, refl, sym, ap, ◌∙◌, arith, subst, take, drop, replicate, ⊎_elim, inl, inr}
use Rattle.std.specs.Prelude.{ℤ, pos, Option, Some, None, ◌==◌, slice_index}
use Rattle.std.specs.Option.{option_map}
use Rattle.std.specs.List.{position}
use Rattle.std.specs.Str.{all_ascii_digits}
use Rattle.std.proofs.lemmas.Bool.{eqb-true}
use Rattle.frame_range.specs.declared.section.Section.{Section}
use Rattle.frame_range.specs.declared.section.Section.TheVariants.{Single, Range}
use Rattle.frame_range.specs.Grammar.{IsDigits, IsNumber, IsForm, Spells}
use Rattle.frame_range.specs.Number.{value_from, digits_at, number_at, negative}
use Rattle.frame_range.specs.Sections.{without_front, without_back, onto_back, trimmed, is_dash, is_mark, marked, marked_of, range_of, range_at, section_at}
use Rattle.frame_range.proofs.ReadLemmas.{range_at_none}
use Rattle.frame_range.proofs.TextLemmas.{position_found}
use Rattle.frame_range.proofs.GrammarLemmas.{mark_is, section_at_none, section_at_some, range_at_some}

mapped : {A B : Type 0} (f : A → B) (o : Option A) (z : B) → option_map f o ≡ Some z → (n : A) × (o ≡ Some n) × (f n ≡ z)
mapped f None z h = absurd (cc)
mapped f (Some n) z h = (n, refl, cc)

-- ---- numbers

pub record HasDigits (ds : List ℕ) (n : ℕ) : Type 0 where
  pub digits : IsDigits ds
  pub value : value_from 0 ds ≡ n

digits_step : (d : ℕ) (ds : List ℕ) (n : ℕ) (t : Bool) → all_ascii_digits (d ∷ ds) ≡ t → cond t (Some (value_from 0 (d ∷ ds))) None ≡ Some n → HasDigits (d ∷ ds) n
digits_step d ds n true e h = record { digits = record { some = omega arith; digits = e }; value = cc }
digits_step d ds n false e h = absurd (cc)

digits_are : (ds : List ℕ) (n : ℕ) → digits_at ds ≡ Some n → HasDigits ds n
digits_are [] n h = absurd (cc)
digits_are (d ∷ ds) n h = digits_step d ds n (all_ascii_digits (d ∷ ds)) refl h

number_step : (b : ℕ) (bs : List ℕ) (z : ℤ) (t : Bool) → (b == 45) ≡ t →
    cond t (option_map negative (digits_at bs)) (option_map pos (digits_at (b ∷ bs))) ≡ Some z → IsNumber (b ∷ bs) z
number_step b bs z true e h =
    let found = mapped negative (digits_at bs) z h in
    let has = digits_are bs found.0 found.1 in
    (bs, has.digits, inr (ap (λ (c : ℕ). c ∷ bs) (eqb-true b 45 e), sym found.2 ∙ ap negative (sym has.value)))
number_step b bs z false e h =
    let found = mapped pos (digits_at (b ∷ bs)) z h in
    let has = digits_are (b ∷ bs) found.0 found.1 in
    (b ∷ bs, has.digits, inl (refl, sym found.2 ∙ ap pos (sym has.value)))

pub number_is : (x : List ℕ) (z : ℤ) → number_at x ≡ Some z → IsNumber x z
number_is [] z h = absurd (cc)
number_is (b ∷ bs) z h = number_step b bs z (b == 45) refl h

-- ---- forms

range_form : (x y text : List ℕ) (o p : Option ℤ) (s : Section) → text ≡ x ++ 45 ∷ y → number_at x ≡ o → number_at y ≡ p → range_of o p ≡ Some s → IsForm text s
range_form x y text None p s cut e f h = absurd (cc)
range_form x y text (Some a) None s cut e f h = absurd (cc)
range_form x y text (Some a) (Some b) s cut e f h =
    let same : Range a b ≡ s = cc in
    subst (IsForm text) same (x, y, number_is x a e, number_is y b f, cut)

marked_form : (m : ℕ) (text x y z : List ℕ) (a b n : ℤ) → is_mark m ≡ true → text ≡ x ++ 45 ∷ (y ++ m ∷ z) → IsNumber x a → IsNumber y b → IsNumber z n → IsForm text (marked m a b n)
marked_form m text x y z a b n mark cut p q r =
    ⊎_elim
    (λ (e : m ≡ 120). at 120 e (x, y, z, p, q, r, cut ∙ ap (λ (k : ℕ). x ++ 45 ∷ (y ++ k ∷ z)) e))
    (λ more. ⊎_elim
    (λ (e : m ≡ 121). at 121 e (x, y, z, p, q, r, cut ∙ ap (λ (k : ℕ). x ++ 45 ∷ (y ++ k ∷ z)) e))
    (λ (e : m ≡ 58). at 58 e (x, y, z, p, q, r, cut ∙ ap (λ (k : ℕ). x ++ 45 ∷ (y ++ k ∷ z)) e))
    more)
    (mark_is m mark)
  where
    at : (k : ℕ) → m ≡ k → IsForm text (marked k a b n) → IsForm text (marked m a b n)
    at k e h = subst (λ (j : ℕ). IsForm text (marked j a b n)) (sym e) h

marks_form : (m : ℕ) (text x y z : List ℕ) (o p q : Option ℤ) (s : Section) → is_mark m ≡ true → text ≡ x ++ 45 ∷ (y ++ m ∷ z) →
    number_at x ≡ o → number_at y ≡ p → number_at z ≡ q → marked_of m o p q ≡ Some s → IsForm text s
marks_form m text x y z None p q s mark cut e f g h = absurd (cc)
marks_form m text x y z (Some a) None q s mark cut e f g h = absurd (cc)
marks_form m text x y z (Some a) (Some b) None s mark cut e f g h = absurd (cc)
marks_form m text x y z (Some a) (Some b) (Some n) s mark cut e f g h =
    let same : marked m a b n ≡ s = cc in
    subst (IsForm text) same (marked_form m text x y z a b n mark cut (number_is x a e) (number_is y b f) (number_is z n g))

dash_form : (x rest text : List ℕ) (o : Option ℕ) (s : Section) → text ≡ x ++ 45 ∷ rest → position is_mark rest ≡ o → range_at x rest ≡ Some s → IsForm text s
dash_form x rest text None s cut e h =
    range_form x rest text (number_at x) (number_at rest) s cut refl refl (sym (range_at_none x rest e) ∙ h)
dash_form x rest text (Some i) s cut e h =
    let found = position_found is_mark rest i e in
    marks_form (slice_index rest i) text x (take i rest) (drop (i + 1) rest) (number_at x) (number_at (take i rest)) (number_at (drop (i + 1) rest)) s
    found.passes (cut ∙ ap (λ (l : List ℕ). x ++ 45 ∷ l) found.cut) refl refl refl (sym (range_at_some x rest i e) ∙ h)

single_form : (text : List ℕ) (s : Section) → option_map Single (number_at text) ≡ Some s → IsForm text s
single_form text s h =
    let found = mapped (λ (n : ℤ). Single n) (number_at text) s h in
    subst (IsForm text) found.2 (number_is text found.0 found.1)

read_step : (text : List ℕ) (o : Option ℕ) (s : Section) → position is_dash (drop 1 text) ≡ o → section_at text ≡ Some s → IsForm text s
read_step text None s e h = single_form text s (sym (section_at_none text e) ∙ h)
read_step [] (Some i) s e h = absurd (cc)
read_step (b ∷ bs) (Some i) s e h =
    let found = position_found is_dash bs i e in
    let dash : slice_index bs i ≡ 45 = eqb-true (slice_index bs i) 45 found.passes in
    let one : i + 1 ≡ suc i = omega arith in
    let two : i + 2 ≡ suc (i + 1) = omega arith in
    dash_form (take (i + 1) (b ∷ bs)) (drop (i + 2) (b ∷ bs)) (b ∷ bs) (position is_mark (drop (i + 2) (b ∷ bs))) s
    (ap (λ (l : List ℕ). b ∷ l) (found.cut ∙ ap (λ (c : ℕ). take i bs ++ c ∷ drop (i + 1) bs) dash)
    ∙ ap (λ (k : ℕ). take k (b ∷ bs) ++ 45 ∷ drop (i + 1) bs) (sym one)
    ∙ ap (λ (k : ℕ). take (i + 1) (b ∷ bs) ++ 45 ∷ drop k (b ∷ bs)) (sym two))
    refl (sym (section_at_some (b ∷ bs) i e) ∙ h)

pub read_form : (text : List ℕ) (s : Section) → section_at text ≡ Some s → IsForm text s
read_form text s h = read_step text (position is_dash (drop 1 text)) s refl h

-- ---- spaces

pub record Fronted (text : List ℕ) : Type 0 where
  pub count : ℕ
  pub is : text ≡ replicate count 32 ++ without_front text

front_step : (b : ℕ) (bs : List ℕ) (t : Bool) → (b == 32) ≡ t → Fronted bs →
    (n : ℕ) × (b ∷ bs ≡ replicate n 32 ++ cond t (without_front bs) (b ∷ bs))
front_step b bs true e h = (suc h.count, ap (λ (c : ℕ). c ∷ bs) (eqb-true b 32 e) ∙ ap (λ (l : List ℕ). 32 ∷ l) h.is)
front_step b bs false e h = (0, refl)

front_is : (text : List ℕ) → Fronted text
front_is [] = record { count = 0; is = refl }
front_is (b ∷ bs) = let step = front_step b bs (b == 32) refl (front_is bs) in record { count = step.0; is = step.1 }

pub record Backed (text : List ℕ) : Type 0 where
  pub count : ℕ
  pub is : text ≡ without_back text ++ replicate count 32

alone_step : (b : ℕ) (count : ℕ) (t : Bool) → (b == 32) ≡ t → (n : ℕ) × (b ∷ replicate count 32 ≡ cond t [] (b ∷ []) ++ replicate n 32)
alone_step b count true e = (suc count, ap (λ (c : ℕ). c ∷ replicate count 32) (eqb-true b 32 e))
alone_step b count false e = (count, refl)

back_step : (b : ℕ) (bs kept : List ℕ) (count : ℕ) → bs ≡ kept ++ replicate count 32 → (n : ℕ) × (b ∷ bs ≡ onto_back b kept ++ replicate n 32)
back_step b bs [] count h = let step = alone_step b count (b == 32) refl in (step.0, ap (λ (l : List ℕ). b ∷ l) h ∙ step.1)
back_step b bs (c ∷ cs) count h = (count, ap (λ (l : List ℕ). b ∷ l) h)

back_is : (text : List ℕ) → Backed text
back_is [] = record { count = 0; is = refl }
back_is (b ∷ bs) =
    let rest = back_is bs in
    let step = back_step b bs (without_back bs) rest.count rest.is in
    record { count = step.0; is = step.1 }

pub read_spells : (text : List ℕ) (s : Section) → section_at (trimmed text) ≡ Some s → Spells text s
read_spells text s h =
    let front = front_is text in
    let back = back_is (without_front text) in
    (front.count, back.count, trimmed text, read_form (trimmed text) s h, front.is ∙ ap (λ (l : List ℕ). replicate front.count 32 ++ l) back.is)
