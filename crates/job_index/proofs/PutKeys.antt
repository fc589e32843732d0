-- Keys that are put in and taken out: their order, how many there are, and which jobs they are of.
use Rattle.std.proofs.Common.{◌≡◌, ℕ, suc, ◌+◌, ◌*◌, ◌%◌, ◌<◌, Bool, true, false, cond, eqb, ltb, List, [], ◌∷◌, length, refl, ap, ◌∙◌, arith}
use Rattle.std.specs.List.{list_any}
use Rattle.std.proofs.lemmas.Bool.{or_parts, or_from, eq-eqb, lt-ltb, ltb-true, ltb-false, le-ltb}
use Rattle.job_index.specs.declared.ready_jobs.TheConstants.{JOB_NUMBERS}
use Rattle.job_index.specs.Keys.{drop_key, put_key, sorted}

pub number_of_key : (b a : ℕ) → a < JOB_NUMBERS → (b * JOB_NUMBERS + a) % JOB_NUMBERS ≡ a
number_of_key b a less = omega arith

-- ---- one key more or fewer

commute_first : (b : Bool) (a c : ℕ) (ks : List ℕ) → ltb a c ≡ b → (a ≡ c → ⊥) → cond (ltb a c) (a ∷ c ∷ ks) (c ∷ a ∷ ks) ≡ cond (ltb c a) (c ∷ a ∷ ks) (a ∷ c ∷ ks)
commute_first true a c ks is apart = let idle : ltb c a ≡ false = le-ltb c a (omega (arith, ltb-true a c is)) in rw (is, idle) refl
commute_first false a c ks is apart = let busy : ltb c a ≡ true = lt-ltb c a (omega (arith, ltb-false a c is, apart)) in rw (is, busy) refl

commute_step : (x y : Bool) (a c k : ℕ) (ks : List ℕ) → ltb a k ≡ x → ltb c k ≡ y → (a ≡ c → ⊥) → put_key a (put_key c ks) ≡ put_key c (put_key a ks) → put_key a (put_key c (k ∷ ks)) ≡ put_key c (put_key a (k ∷ ks))
commute_step true true a c k ks xa yc apart later = rw (xa, yc) (rw xa (commute_first (ltb a c) a c (k ∷ ks) refl apart))
commute_step true false a c k ks xa yc apart later =
    let idle : ltb c a ≡ false = le-ltb c a (omega (arith, ltb-true a k xa, ltb-false c k yc)) in
    rw (xa, yc) (rw (idle, xa) refl)
commute_step false true a c k ks xa yc apart later =
    let idle : ltb a c ≡ false = le-ltb a c (omega (arith, ltb-false a k xa, ltb-true c k yc)) in
    rw (xa, yc) (rw (idle, xa) refl)
commute_step false false a c k ks xa yc apart later = rw (xa, yc) (rw xa (ap (λ ns. k ∷ ns) later))

pub commute : (a c : ℕ) (ks : List ℕ) → (a ≡ c → ⊥) → put_key a (put_key c ks) ≡ put_key c (put_key a ks)
commute a c [] apart = commute_first (ltb a c) a c [] refl apart
commute a c (k ∷ ks) apart = commute_step (ltb a k) (ltb c k) a c k ks refl refl apart (commute a c ks apart)

drop_put_step : (b : Bool) (key k : ℕ) (ks : List ℕ) → ltb key k ≡ b → eqb k key ≡ false → drop_key key (put_key key ks) ≡ ks → drop_key key (put_key key (k ∷ ks)) ≡ k ∷ ks
drop_put_step true key k ks is apart later = rw is (rw (eq-eqb key key refl) refl)
drop_put_step false key k ks is apart later = rw is (rw apart (ap (λ ns. k ∷ ns) later))

pub drop_put : (key : ℕ) (ks : List ℕ) → list_any (λ (k : ℕ). eqb k key) ks ≡ false → drop_key key (put_key key ks) ≡ ks
drop_put key [] none = rw (eq-eqb key key refl) refl
drop_put key (k ∷ ks) none =
    let split = or_parts (eqb k key) (list_any (λ (n : ℕ). eqb n key) ks) none in
    drop_put_step (ltb key k) key k ks refl split.0 (drop_put key ks split.1)

none-put_step : (b : Bool) (test : ℕ → Bool) (key k : ℕ) (ks : List ℕ) → ltb key k ≡ b → test key ≡ false → test k ≡ false → list_any test ks ≡ false → list_any test (put_key key ks) ≡ false → list_any test (put_key key (k ∷ ks)) ≡ false
none-put_step true test key k ks is here first rest later = rw is (or_from _ _ here (or_from _ _ first rest))
none-put_step false test key k ks is here first rest later = rw is (or_from _ _ first later)

pub none-put : (test : ℕ → Bool) (key : ℕ) (ks : List ℕ) → test key ≡ false → list_any test ks ≡ false → list_any test (put_key key ks) ≡ false
none-put test key [] here rest = or_from _ _ here refl
none-put test key (k ∷ ks) here rest =
    let split = or_parts (test k) (list_any test ks) rest in
    none-put_step (ltb key k) test key k ks refl here split.0 split.1 (none-put test key ks here split.1)

length-put_step : (b : Bool) (key k : ℕ) (ks : List ℕ) → ltb key k ≡ b → length (put_key key ks) ≡ suc (length ks) → length (put_key key (k ∷ ks)) ≡ suc (suc (length ks))
length-put_step true key k ks is later = rw is refl
length-put_step false key k ks is later = rw is (ap suc later)

pub length-put : (key : ℕ) (ks : List ℕ) → length (put_key key ks) ≡ suc (length ks)
length-put key [] = refl
length-put key (k ∷ ks) = length-put_step (ltb key k) key k ks refl (length-put key ks)

pub length-sorted : (ks : List ℕ) → length (sorted ks) ≡ length ks
length-sorted [] = refl
length-sorted (k ∷ ks) = length-put k (sorted ks) ∙ ap suc (length-sorted ks)
