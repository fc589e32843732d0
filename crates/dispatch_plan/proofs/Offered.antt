-- Offering in pieces is offering all.
use Rattle.std.proofs.Common.{◌≡◌, ℕ, zero, suc, ◌+◌, ◌≤◌, List, [], ◌∷◌, ◌++◌, take, length, length-append, refl, sym, ap, ◌∙◌, append_assoc, arith}
use Rattle.std.proofs.lemmas.List.{append-nil, map-append}
use Rattle.farm_types.specs.declared.dispatch.Candidate.{Candidate}
use Rattle.farm_types.specs.declared.dispatch.Rank.{Rank}
use Rattle.farm_types.specs.declared.limits.TheConstants.{CANDIDATES_EACH}
use Rattle.dispatch_plan.specs.Offers.{candidates_of, offered}

take_again : {X : Type 0} (n : ℕ) (xs ys : List X) → take n (take n xs ++ ys) ≡ take n (xs ++ ys)
take_again zero xs ys = refl
take_again (suc n) [] ys = refl
take_again (suc n) (x ∷ xs) ys = ap (λ zs. x ∷ zs) (take_again n xs ys)

take_full : {X : Type 0} (n : ℕ) (xs ys : List X) → length xs ≡ n → take n (xs ++ ys) ≡ xs
take_full zero [] ys e = refl
take_full zero (x ∷ xs) ys e = absurd (omega arith)
take_full (suc n) [] ys e = absurd (omega arith)
take_full (suc n) (x ∷ xs) ys e = ap (λ zs. x ∷ zs) (take_full n xs ys (omega arith))

take_few : {X : Type 0} (n : ℕ) (xs : List X) → length xs ≤ n → take n xs ≡ xs
take_few zero [] h = refl
take_few zero (x ∷ xs) h = absurd (omega arith)
take_few (suc n) [] h = refl
take_few (suc n) (x ∷ xs) h = ap (λ zs. x ∷ zs) (take_few n xs (omega arith))

-- some ranks, and then others
pub offered_more : (plan : List Candidate) (rs qs : List Rank) → offered (offered plan rs) qs ≡ offered plan (rs ++ qs)
unfolding offered
offered_more plan rs qs =
    take_again CANDIDATES_EACH (plan ++ candidates_of rs) (candidates_of qs)
    ∙ ap (take CANDIDATES_EACH) (append_assoc plan (candidates_of rs) (candidates_of qs) ∙ ap (λ cs. plan ++ cs) (sym (map-append (λ (r : Rank). r.candidate) rs qs)))

-- to a full plan nothing is added
pub offered_full : (plan : List Candidate) (rs : List Rank) → length plan ≡ CANDIDATES_EACH → offered plan rs ≡ plan
unfolding offered
offered_full plan rs full = take_full CANDIDATES_EACH plan (candidates_of rs) full

-- no ranks
pub offered_none : (plan : List Candidate) → length plan ≤ CANDIDATES_EACH → offered plan [] ≡ plan
unfolding offered
offered_none plan few = ap (take CANDIDATES_EACH) (append-nil plan) ∙ take_few CANDIDATES_EACH plan few

-- one rank, where there is room
pub offered_one : (plan : List Candidate) (r : Rank) → length plan + 1 ≤ CANDIDATES_EACH → offered plan (r ∷ []) ≡ plan ++ r.candidate ∷ []
unfolding offered
offered_one plan r room = take_few CANDIDATES_EACH (plan ++ r.candidate ∷ []) (room_for plan r.candidate room)
  where
    room_for : (xs : List Candidate) (c : Candidate) → length xs + 1 ≤ CANDIDATES_EACH → length (xs ++ c ∷ []) ≤ CANDIDATES_EACH
    room_for xs c h = grind (arith, length-append)
