-- Reading a section: its numbers are read capped.
use Rattle.std.proofs.Common.{◌≡◌, ℕ, ◌+◌, List, [], ◌∷◌, ◌++◌, length, Bool, true, false, cond, refl, sym, ap, ◌∙◌, arith, take, drop, ◌<◌, ◌≤◌, ◌-◌, ◌≢◌, get_or}
use Rattle.std.specs.Prelude.{ℤ, ◌==◌, Option, Some, None, slice_index}
use Rattle.std.specs.Option.{option_map}
use Rattle.std.specs.List.{position}
use Rattle.frame_range.specs.declared.section.Section.{Section}
use Rattle.frame_range.specs.declared.section.Section.TheVariants.{Range, Stepped, Inverse, Interleaved}
use Rattle.std.proofs.lemmas.List.{take_more}
use Rattle.frame_range.proofs.OtherLemmas.{eqb-no}
use Rattle.frame_range.specs.Capped.{capped, capped_section}
use Rattle.frame_range.specs.Number.{number_at}
use Rattle.frame_range.specs.Sections.{is_mark, marked, marked_of, range_of, range_at, without_back, onto_back}

pub range_read : (o p : Option ℤ) (x y : ℤ) → Some x ≡ option_map capped o → Some y ≡ option_map capped p →
    Some (Range x y) ≡ option_map capped_section (range_of o p)
range_read None p x y e f = absurd (cc)
range_read (Some a) None x y e f = absurd (cc)
range_read (Some a) (Some b) x y e f = cc

capped_stepped : (m n : Bool) (a b c : ℤ) →
    cond m (Stepped (capped a) (capped b) (capped c)) (cond n (Inverse (capped a) (capped b) (capped c)) (Interleaved (capped a) (capped b) (capped c)))
    ≡ capped_section (cond m (Stepped a b c) (cond n (Inverse a b c) (Interleaved a b c)))
capped_stepped true n a b c = refl
capped_stepped false true a b c = refl
capped_stepped false false a b c = refl

marked_some : (mark : ℕ) (a b c x y z : ℤ) → Some x ≡ Some (capped a) → Some y ≡ Some (capped b) → Some z ≡ Some (capped c) →
    marked mark x y z ≡ capped_section (marked mark a b c)
marked_some mark a b c x y z e f g =
    let p : x ≡ capped a = cc in
    let q : y ≡ capped b = cc in
    let r : z ≡ capped c = cc in
    ap (λ (v : ℤ). marked mark v y z) p ∙ ap (λ (v : ℤ). marked mark (capped a) v z) q ∙ ap (λ (v : ℤ). marked mark (capped a) (capped b) v) r
    ∙ capped_stepped (mark == 120) (mark == 121) a b c

marked_read : (mark : ℕ) (o p q : Option ℤ) (x y z : ℤ) → Some x ≡ option_map capped o → Some y ≡ option_map capped p → Some z ≡ option_map capped q →
    Some (marked mark x y z) ≡ option_map capped_section (marked_of mark o p q)
marked_read mark None p q x y z e f g = absurd (cc)
marked_read mark (Some a) None q x y z e f g = absurd (cc)
marked_read mark (Some a) (Some b) None x y z e f g = absurd (cc)
marked_read mark (Some a) (Some b) (Some c) x y z e f g = ap (λ (s : Section). Some s) (marked_some mark a b c x y z e f g)

pub range_at_none : (first rest : List ℕ) → position is_mark rest ≡ None → range_at first rest ≡ range_of (number_at first) (number_at rest)
range_at_none first rest e =
    ap (λ (o : Option ℕ). elim o [
      | None ↦ range_of (number_at first) (number_at rest)
      | Some i ↦ marked_of (slice_index rest i) (number_at first) (number_at (take i rest)) (number_at (drop (i + 1) rest))
    ]) e

-- the section that the mark says, of the numbers as they are read
pub marked_gives : (mark : ℕ) (o p q : Option ℤ) (x y z : ℤ) (r : Section) → r ≡ marked mark x y z → Some x ≡ option_map capped o → Some y ≡ option_map capped p →
    Some z ≡ option_map capped q → Some r ≡ option_map capped_section (marked_of mark o p q)
marked_gives mark o p q x y z r is e f g = ap (λ (s : Section). Some s) is ∙ marked_read mark o p q x y z e f g

-- a space at the back makes no difference
pub without_back_space : (text : List ℕ) → without_back (text ++ 32 ∷ []) ≡ without_back text
without_back_space [] = refl
without_back_space (b ∷ bs) = ap (onto_back b) (without_back_space bs)

back_last : (test : Bool) (b : ℕ) → test ≡ false → cond test [] (b ∷ []) ≡ b ∷ []
back_last true b h = absurd (cc)
back_last false b h = refl

onto_more : (b c : ℕ) (bs : List ℕ) → onto_back b (bs ++ c ∷ []) ≡ b ∷ (bs ++ c ∷ [])
onto_more b c [] = refl
onto_more b c (x ∷ bs) = refl

-- a text that ends with another byte stays
pub without_back_other : (text : List ℕ) (b : ℕ) → (b == 32) ≡ false → without_back (text ++ b ∷ []) ≡ text ++ b ∷ []
without_back_other [] b h = back_last (b == 32) b h
without_back_other (c ∷ cs) b h = ap (onto_back c) (without_back_other cs b h) ∙ onto_more c b cs

take_last : (text : List ℕ) (n : ℕ) → 0 < n → n ≤ length text → take n text ≡ take (n - 1) text ++ get_or text (n - 1) 0 ∷ []
take_last text n some within =
    let next : n ≡ (n - 1) + 1 = omega arith in
    ap (λ (m : ℕ). take m text) next ∙ take_more text (n - 1) 0 (omega arith)

-- one space less at the back
pub back_step : (text : List ℕ) (n : ℕ) → 0 < n → n ≤ length text → get_or text (n - 1) 0 ≡ 32 → without_back (take (n - 1) text) ≡ without_back (take n text)
back_step text n some within space =
    sym (ap without_back (take_last text n some within ∙ ap (λ (b : ℕ). take (n - 1) text ++ b ∷ []) space) ∙ without_back_space (take (n - 1) text))

-- no space is at the back
pub back_done : (text : List ℕ) (n : ℕ) → 0 < n → n ≤ length text → get_or text (n - 1) 0 ≢ 32 → take n text ≡ without_back (take n text)
back_done text n some within other =
    take_last text n some within
    ∙ sym (ap without_back (take_last text n some within) ∙ without_back_other (take (n - 1) text) (get_or text (n - 1) 0) (eqb-no (get_or text (n - 1) 0) 32 other))

pub back_none : (text : List ℕ) (n : ℕ) → n ≤ 0 → take n text ≡ without_back (take n text)
back_none text n none = let zero_is : n ≡ 0 = omega arith in rw zero_is refl
