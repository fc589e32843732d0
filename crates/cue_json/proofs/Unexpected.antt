-- Members go in in byte order of their keys, so the first key that isn't expected is the least one.
use Rattle.std.proofs.Common.{◌≡◌, ℕ, Bool, true, false, cond, List, [], ◌∷◌, Option, Some, None, Ordering, Less, Equal, Greater, refl, sym, ap, subst, ◌∙◌}
use Rattle.std.specs.Cmp.Lexicographic.{slice_cmp}
use Rattle.std.specs.List.{AllByRecursion}
use Rattle.std.specs.List.Sorted.{IsStrictlySortedBy}
use Rattle.std.specs.Ordering.{match_ordering, nat_cmp}
use Rattle.json.specs.Json as json
use Rattle.serde_json.specs.Data.{Data, Members, member, no_members, put}
use Rattle.cue_json.specs.Fields.{first_other, is_expected, keys_in, lesser}
use Rattle.cue_json.specs.View.{data_of, members_data}
use Rattle.cue_json.proofs.Order.{before, same, turned}

abbrev Ascend : Members → Type 0
Ascend ms = IsStrictlySortedBy (slice_cmp nat_cmp) (keys_in ms)

abbrev IsBelow : List ℕ → List (List ℕ) → Type 0
IsBelow k keys = AllByRecursion (λ key. slice_cmp nat_cmp k key ≡ Less) keys

below_all : (k l : List ℕ) (keys : List (List ℕ)) → slice_cmp nat_cmp k l ≡ Less → IsBelow l keys → IsBelow k keys
below_all k l [] is h = tt
below_all k l (key ∷ keys) is h = (before k l key is h.0, below_all k l keys is h.1)

-- ---- what is put in keeps the order

below_put_at : (o : Ordering) (low k l : List ℕ) (d e : Data) (ms : Members) → slice_cmp nat_cmp low k ≡ Less → IsBelow low (keys_in (member l e ms)) → IsBelow low (keys_in (put k d ms))
    → IsBelow low (keys_in (match_ordering o (member k d (member l e ms)) (member l d ms) (member l e (put k d ms))))
below_put_at Less low k l d e ms is h later = (is, h)
below_put_at Equal low k l d e ms is h later = h
below_put_at Greater low k l d e ms is h later = (h.0, later)

below_put : (low k : List ℕ) (d : Data) (ms : Members) → slice_cmp nat_cmp low k ≡ Less → IsBelow low (keys_in ms) → IsBelow low (keys_in (put k d ms))
below_put low k d no_members is h = (is, tt)
below_put low k d (member l e ms) is h = below_put_at (slice_cmp nat_cmp k l) low k l d e ms is h (below_put low k d ms is h.1)

ascend_put_at : (o : Ordering) (k l : List ℕ) (d e : Data) (ms : Members) → slice_cmp nat_cmp k l ≡ o → Ascend (member l e ms) → Ascend (put k d ms)
    → Ascend (match_ordering o (member k d (member l e ms)) (member l d ms) (member l e (put k d ms)))
unfolding IsStrictlySortedBy
ascend_put_at Less k l d e ms is h later = ((is, below_all k l (keys_in ms) is h.0), h)
ascend_put_at Equal k l d e ms is h later = h
ascend_put_at Greater k l d e ms is h later = (below_put l k d ms (turned k l is) h.0, later)

ascend_put : (k : List ℕ) (d : Data) (ms : Members) → Ascend ms → Ascend (put k d ms)
unfolding IsStrictlySortedBy
ascend_put k d no_members h = (tt, tt)
ascend_put k d (member l e ms) h = ascend_put_at (slice_cmp nat_cmp k l) k l d e ms refl h (ascend_put k d ms h.1)

ascend_from : (ms : json.Members) (found : Members) → Ascend found → Ascend (members_data ms found)
ascend_from json.no_members found h = h
ascend_from (json.member k j ms) found h = ascend_from ms (put k (data_of j) found) (ascend_put k (data_of j) found h)

pub keys_ascend : (ms : json.Members) → Ascend (members_data ms no_members)
unfolding IsStrictlySortedBy
keys_ascend ms = ascend_from ms no_members tt

-- ---- the first other key

abbrev with_other : List (List ℕ) → List ℕ → Option (List ℕ) → Option (List ℕ)
with_other fields k least = cond (is_expected fields k) least (Some (lesser k least))

abbrev pub least_from : List (List ℕ) → json.Members → Option (List ℕ) → Option (List ℕ)
least_from fields json.no_members least = least
least_from fields (json.member k j ms) least = least_from fields ms (with_other fields k least)

-- a key below all others is the lesser
abbrev IsLesser : List ℕ → Option (List ℕ) → Type 0
IsLesser k least = lesser k least ≡ k

lesser_at : (fields : List (List ℕ)) (k l : List ℕ) (ms : Members) (b : Bool) → slice_cmp nat_cmp k l ≡ Less → IsLesser k (first_other fields ms)
    → IsLesser k (cond b (first_other fields ms) (Some l))
lesser_at fields k l ms true is later = later
lesser_at fields k l ms false is later = rw is refl

is_lesser : (fields : List (List ℕ)) (k : List ℕ) (ms : Members) → IsBelow k (keys_in ms) → IsLesser k (first_other fields ms)
is_lesser fields k no_members h = refl
is_lesser fields k (member l e ms) h = lesser_at fields k l ms (is_expected fields l) h.0 (is_lesser fields k ms h.1)

put_first : (fields : List (List ℕ)) (k : List ℕ) (rest : Members) (b : Bool) → IsLesser k (first_other fields rest)
    → cond b (first_other fields rest) (Some k) ≡ cond b (first_other fields rest) (Some (lesser k (first_other fields rest)))
put_first fields k rest true is = refl
put_first fields k rest false is = ap Some (sym is)

put_same : (k : List ℕ) (later : Option (List ℕ)) (b : Bool) → cond b later (Some k) ≡ cond b (cond b later (Some k)) (Some (lesser k (cond b later (Some k))))
put_same k later true = refl
put_same k later false = ap Some (itself k)
  where
    itself : (k : List ℕ) → k ≡ lesser k (Some k)
    itself k = each (slice_cmp nat_cmp k k)
      where
        each : (o : Ordering) → k ≡ match_ordering o k k k
        each Less = refl
        each Equal = refl
        each Greater = refl

put_after : (k l : List ℕ) (later : Option (List ℕ)) (expected own : Bool) → slice_cmp nat_cmp k l ≡ Greater
    → cond own (cond expected later (Some (lesser k later))) (Some l) ≡ cond expected (cond own later (Some l)) (Some (lesser k (cond own later (Some l))))
put_after k l later true true is = refl
put_after k l later true false is = refl
put_after k l later false true is = refl
put_after k l later false false is = rw is refl

other_put_at : (o : Ordering) (fields : List (List ℕ)) (k l : List ℕ) (d e : Data) (ms : Members) → slice_cmp nat_cmp k l ≡ o → Ascend (member l e ms)
    → first_other fields (put k d ms) ≡ with_other fields k (first_other fields ms)
    → first_other fields (match_ordering o (member k d (member l e ms)) (member l d ms) (member l e (put k d ms))) ≡ with_other fields k (first_other fields (member l e ms))
unfolding IsStrictlySortedBy
other_put_at Less fields k l d e ms is h later = put_first fields k (member l e ms) (is_expected fields k) (is_lesser fields k (member l e ms) (is, below_all k l (keys_in ms) is h.0))
other_put_at Equal fields k l d e ms is h later =
    subst (λ key. first_other fields (member l d ms) ≡ with_other fields key (first_other fields (member l e ms))) (sym (same k l is))
    (put_same l (first_other fields ms) (is_expected fields l))
other_put_at Greater fields k l d e ms is h later =
    ap (λ rest. cond (is_expected fields l) rest (Some l)) later ∙ put_after k l (first_other fields ms) (is_expected fields k) (is_expected fields l) is

other_put : (fields : List (List ℕ)) (k : List ℕ) (d : Data) (ms : Members) → Ascend ms → first_other fields (put k d ms) ≡ with_other fields k (first_other fields ms)
unfolding IsStrictlySortedBy
other_put fields k d no_members h = refl
other_put fields k d (member l e ms) h = other_put_at (slice_cmp nat_cmp k l) fields k l d e ms refl h (other_put fields k d ms h.1)

others_from : (fields : List (List ℕ)) (ms : json.Members) (found : Members) → Ascend found → first_other fields (members_data ms found) ≡ least_from fields ms (first_other fields found)
others_from fields json.no_members found h = refl
others_from fields (json.member k j ms) found h =
    others_from fields ms (put k (data_of j) found) (ascend_put k (data_of j) found h) ∙ ap (least_from fields ms) (other_put fields k (data_of j) found h)

pub others_are_least : (fields : List (List ℕ)) (ms : json.Members) → first_other fields (members_data ms no_members) ≡ least_from fields ms None
unfolding IsStrictlySortedBy
others_are_least fields ms = others_from fields ms no_members tt
