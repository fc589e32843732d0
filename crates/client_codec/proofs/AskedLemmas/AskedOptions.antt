-- Members that may be left out: where they are there, they are found, expected, and fit.
use Rattle.std.proofs.Common.{◌≡◌, ℕ, ◌||◌, Bool, true, false, List, ◌++◌, Option, Some, None, Ordering, Less, Equal, Greater, nat_cmp, refl, ap, ◌∙◌}
use Rattle.std.specs.Prelude.{bytes_eq, is_some, option_map}
use Rattle.std.specs.Cmp.Lexicographic.{slice_cmp}
use Rattle.std.specs.Option.{IfSome}
use Rattle.std.specs.Ordering.{match_ordering}
use Rattle.std.proofs.lemmas.List.Folds.{list_any-append}
use Rattle.serde_json.specs.Data.{Data, string, Members, member}
use Rattle.serde_json.specs.Find.{get_member}
use Rattle.cue_json.specs.Fields.{first_other, is_expected}
use Rattle.farm_lines.specs.DependLines.{key_if}
use Rattle.farm_lines.specs.RequestText.{with_signed, with_text}
use Rattle.farm_lines.specs.Words.{signed}
use Rattle.object_writer.proofs.DataBack.{Fits, is_next, MembersFit, members_above}

-- a member that is spelled so, where there is one
pub record IsOptional {X : Type 0} (spelled : X → Data) (adds : List ℕ → Option X → Members → Members) : Type 0 where
  pub none : (key : List ℕ) (rest : Members) → adds key None rest ≡ rest
  pub some : (key : List ℕ) (x : X) (rest : Members) → adds key (Some x) rest ≡ member key (spelled x) rest

pub optional_text : IsOptional string with_text
optional_text = record { none = λ key rest. refl; some = λ key x rest. refl }

pub optional_signed : IsOptional signed with_signed
optional_signed = record { none = λ key rest. refl; some = λ key x rest. refl }

abbrev is_other : Ordering → Bool
is_other Less = true
is_other Equal = false
is_other Greater = true

passed : (o : Ordering) (e : Data) (found : Option Data) → is_other o ≡ true → match_ordering o found (Some e) found ≡ found
passed Less e found h = refl
passed Equal e found h = absurd (cc)
passed Greater e found h = refl

module _ {X : Type 0} {spelled : X → Data} {adds : List ℕ → Option X → Members → Members} (optional : IsOptional spelled adds) where
  -- a member of another key is passed over
  pub skip : (k l : List ℕ) (o : Option X) (rest : Members) (found : Option Data) → is_other (slice_cmp nat_cmp k l) ≡ true → get_member k rest ≡ found → get_member k (adds l o rest) ≡ found
  skip k l None rest found h is = ap (get_member k) (optional.none l rest) ∙ is
  skip k l (Some x) rest found h is = ap (get_member k) (optional.some l x rest) ∙ passed (slice_cmp nat_cmp k l) (spelled x) (get_member k rest) h ∙ is

  -- its own is found where it is there, and the rest has none
  pub own : (k : List ℕ) (o : Option X) (rest : Members) → slice_cmp nat_cmp k k ≡ Equal → get_member k rest ≡ None → get_member k (adds k o rest) ≡ option_map spelled o
  own k None rest same none = ap (get_member k) (optional.none k rest) ∙ none
  own k (Some x) rest same none = ap (get_member k) (optional.some k x rest) ∙ rw same refl

  -- it is expected where it is there
  pub expected : (keys : List (List ℕ)) (k : List ℕ) (o : Option X) (rest : Members) → (is_some o ≡ true → is_expected keys k ≡ true) → first_other keys rest ≡ None
      → first_other keys (adds k o rest) ≡ None
  expected keys k None rest h is = ap (first_other keys) (optional.none k rest) ∙ is
  expected keys k (Some x) rest h is = ap (first_other keys) (optional.some k x rest) ∙ rw (h refl) is

  pub adds_fit : (n : ℕ) (last k : List ℕ) (o : Option X) (rest : Members) → is_next last k ≡ true → IfSome o (λ x. Fits n (spelled x)) → MembersFit n k rest → MembersFit n last (adds k o rest)
  adds_fit n last k None rest next fits more = rw (optional.none k rest) (members_above n last k rest next more)
  adds_fit n last k (Some x) rest next fits more = rw (optional.some k x rest) (next, fits, more)

-- ---- keys that a kind of depend names

or_true : (b : Bool) → (b || true) ≡ true
or_true true = refl
or_true false = refl

pub in_front : (xs ys : List (List ℕ)) (key : List ℕ) → is_expected xs key ≡ true → is_expected (xs ++ ys) key ≡ true
in_front xs ys key h = list_any-append (λ field. bytes_eq field key) xs ys ∙ rw h refl

pub in_back : (xs ys : List (List ℕ)) (key : List ℕ) → is_expected ys key ≡ true → is_expected (xs ++ ys) key ≡ true
in_back xs ys key h = list_any-append (λ field. bytes_eq field key) xs ys ∙ rw h (or_true (is_expected xs key))

pub named_key : (named : Bool) (key : List ℕ) → named ≡ true → bytes_eq key key ≡ true → is_expected (key_if named key) key ≡ true
named_key true key h same = rw same refl
named_key false key h same = absurd (cc)
