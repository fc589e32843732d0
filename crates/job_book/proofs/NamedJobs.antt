-- The jobs of a name.
use Rattle.std.proofs.Common.{◌≡◌, ℕ, suc, ◌+◌, ◌≤◌, ◌&&◌, Bool, true, false, cond, eqb, ltb, List, [], ◌∷◌, ◌++◌, map, filter, length, length-append, append-nil, Option, Some, None, option_map, is_some, refl, sym, ap, ◌∙◌, arith}
use Rattle.std.specs.List.{find, position_or_len, list_any, AllZip}
use Rattle.std.specs.Str.{bytes_eq}
use Rattle.std.proofs.lemmas.Bool.{false≢true, eq-eqb, ne_eqb, lt-ltb}
use Rattle.std.proofs.lemmas.Bool.Decides.{nat_tests}
use Rattle.std.proofs.lemmas.List.{map-append}
use Rattle.std.proofs.lemmas.Slice.Eq.{bytes_eq-Decides}
use Rattle.std.proofs.lemmas.List.Elements.{filter-append}
use Rattle.farm_types.specs.declared.rows.JobRow.{JobRow}
use Rattle.farm_types.specs.Booking.{is_pending}
use Rattle.farm_types.specs.Jobs.{is_pending_named}
use Rattle.farm_types.specs.Kept.{is_of_pending}
use Rattle.farm_types.specs.Rising.{IsRising, job_key}
use Rattle.job_book.specs.Names.{KeepsNames, as_list, is_named}
use Rattle.job_index.specs.Names.{number_of}

ltb-suc : (a b : ℕ) → ltb (suc a) (suc b) ≡ ltb a b
ltb-suc a b = grind (arith, nat_tests)

any_step : {X : Type 0} (b : Bool) (test : X → Bool) (x : X) (xs : List X) → test x ≡ b → ltb (position_or_len test xs) (length xs) ≡ list_any test xs
    → ltb (position_or_len test (x ∷ xs)) (length (x ∷ xs)) ≡ list_any test (x ∷ xs)
any_step true test x xs is later = rw is (lt-ltb 0 (length (x ∷ xs)) (omega arith))
any_step false test x xs is later =
    let e : 1 + position_or_len test xs ≡ suc (position_or_len test xs) = omega arith in
    rw (is, e) (ltb-suc (position_or_len test xs) (length xs) ∙ later)

-- a place below the length is found where an item passes
pub found_any : {X : Type 0} (test : X → Bool) (xs : List X) → ltb (position_or_len test xs) (length xs) ≡ list_any test xs
found_any test [] = refl
found_any test (x ∷ xs) = any_step (test x) test x xs refl (found_any test xs)

-- ---- the job of a name

pub any_found : {X : Type 0} (test : X → Bool) (xs : List X) → list_any test xs ≡ is_some (find test xs)
any_found test [] = refl
any_found test (x ∷ xs) = by (test x) refl (any_found test xs)
  where
    by : (b : Bool) → test x ≡ b → list_any test xs ≡ is_some (find test xs) → list_any test (x ∷ xs) ≡ is_some (find test (x ∷ xs))
    by true is later = rw is refl
    by false is later = rw is later

abbrev first_of : List ℕ → Option ℕ
first_of [] = None
first_of (n ∷ ns) = Some n

first_listed : (o : Option ℕ) → first_of (as_list o) ≡ o
first_listed None = refl
first_listed (Some n) = refl

pub first_found : (test : JobRow → Bool) (jobs : List JobRow) → first_of (map job_key (filter test jobs)) ≡ option_map job_key (find test jobs)
first_found test [] = refl
first_found test (j ∷ js) = by (test j) refl (first_found test js)
  where
    by : (b : Bool) → test j ≡ b → first_of (map job_key (filter test js)) ≡ option_map job_key (find test js) → first_of (map job_key (filter test (j ∷ js))) ≡ option_map job_key (find test (j ∷ js))
    by true is later = rw is refl
    by false is later = rw is later

-- the number that the name leads to is that of the first job of the name
pub name_found : (names : List (List ℕ × ℕ)) (jobs : List JobRow) → KeepsNames names jobs → (name : List ℕ) → number_of name names ≡ option_map job_key (find (is_named name) jobs)
name_found names jobs keeps name = sym (first_listed (number_of name names)) ∙ ap first_of (sym (keeps.named name)) ∙ first_found (is_named name) jobs

-- what is found, where the number's job is pending
abbrev pub if_pending : List JobRow → Option ℕ → Option ℕ
if_pending jobs None = None
if_pending jobs (Some n) = cond (is_of_pending jobs n) (Some n) None

none_named : (name : List ℕ) (jobs : List JobRow) → map job_key (filter (is_named name) jobs) ≡ [] → find (is_pending_named name) jobs ≡ None
none_named name [] none = refl
none_named name (j ∷ js) none = by (bytes_eq j.name name) refl (none_named name js)
  where
    by : (b : Bool) → bytes_eq j.name name ≡ b → (map job_key (filter (is_named name) js) ≡ [] → find (is_pending_named name) js ≡ None) → find (is_pending_named name) (j ∷ js) ≡ None
    by true is later = let impossible : job_key j ∷ map job_key (filter (is_named name) js) ≡ [] = rw is at none in absurd (cc)
    by false is later =
        let idle : is_pending_named name j ≡ false = rw is (and_false (is_pending j.state)) in
        rw idle (later (rw is at none))
      where
        and_false : (a : Bool) → (a && false) ≡ false
        and_false true = refl
        and_false false = refl

-- the number of a job that has the name is at least the least
at_least_listed : (name : List ℕ) (low high : ℕ) (jobs : List JobRow) (n : ℕ) → IsRising job_key low jobs high → map job_key (filter (is_named name) jobs) ≡ n ∷ [] → low ≤ n
at_least_listed name low high [] n rise is = absurd (cc)
at_least_listed name low high (j ∷ js) n rise is = by (bytes_eq j.name name) refl (at_least_listed name (j.job + 1) high js n rise.1)
  where
    head_is : (a b : ℕ) (xs ys : List ℕ) → a ∷ xs ≡ b ∷ ys → a ≡ b
    head_is a b xs ys e = cc

    by : (b : Bool) → bytes_eq j.name name ≡ b → (map job_key (filter (is_named name) js) ≡ n ∷ [] → j.job + 1 ≤ n) → low ≤ n
    by true same later = let e = head_is j.job n (map job_key (filter (is_named name) js)) [] (rw same at is) in omega (arith, rise.0, e)
    by false other later = let more = later (rw other at is) in omega (arith, rise.0, more)

one_named : (name : List ℕ) (low high : ℕ) (jobs : List JobRow) (n : ℕ) → IsRising job_key low jobs high → map job_key (filter (is_named name) jobs) ≡ n ∷ []
    → option_map job_key (find (is_pending_named name) jobs) ≡ if_pending jobs (Some n)
one_named name low high [] n rise is = absurd (cc)
one_named name low high (j ∷ js) n rise is = by (bytes_eq j.name name) refl (one_named name (j.job + 1) high js n rise.1)
  where
    head_is : (a b : ℕ) (xs ys : List ℕ) → a ∷ xs ≡ b ∷ ys → a ≡ b
    head_is a b xs ys e = cc

    tail_is : (a b : ℕ) (xs ys : List ℕ) → a ∷ xs ≡ b ∷ ys → xs ≡ ys
    tail_is a b xs ys e = cc

    here : (p : Bool) → is_pending j.state ≡ p → bytes_eq j.name name ≡ true → j.job ≡ n → find (is_pending_named name) js ≡ None → option_map job_key (find (is_pending_named name) (j ∷ js)) ≡ if_pending (j ∷ js) (Some n)
    here true pending same number none = rw (same, pending, eq-eqb j.job n number, pending) (ap Some number)
    here false pending same number none = rw (same, pending, eq-eqb j.job n number, pending, none) refl

    by : (b : Bool) → bytes_eq j.name name ≡ b → (map job_key (filter (is_named name) js) ≡ n ∷ [] → option_map job_key (find (is_pending_named name) js) ≡ if_pending js (Some n))
        → option_map job_key (find (is_pending_named name) (j ∷ js)) ≡ if_pending (j ∷ js) (Some n)
    by true same later =
        let all : j.job ∷ map job_key (filter (is_named name) js) ≡ n ∷ [] = rw same at is in
        here (is_pending j.state) refl same (head_is _ _ _ _ all) (none_named name js (tail_is _ _ _ _ all))
    by false other later =
        let rest : map job_key (filter (is_named name) js) ≡ n ∷ [] = rw other at is in
        let apart : eqb j.job n ≡ false = ne_eqb j.job n (λ e. absurd (omega (arith, e, at_least_listed name (j.job + 1) high js n rise.1 rest))) in
        let idle : is_pending_named name j ≡ false = rw other (and_false (is_pending j.state)) in
        rw (idle, apart) (later rest)
      where
        and_false : (a : Bool) → (a && false) ≡ false
        and_false true = refl
        and_false false = refl

-- the pending job of a name is the one that the name leads to, where that is pending
pub pending_found : (names : List (List ℕ × ℕ)) (low high : ℕ) (jobs : List JobRow) → IsRising job_key low jobs high → KeepsNames names jobs → (name : List ℕ)
    → option_map job_key (find (is_pending_named name) jobs) ≡ if_pending jobs (number_of name names)
pending_found names low high jobs rise keeps name = by (number_of name names) (keeps.named name)
  where
    by : (o : Option ℕ) → map job_key (filter (is_named name) jobs) ≡ as_list o → option_map job_key (find (is_pending_named name) jobs) ≡ if_pending jobs o
    by None is = ap (option_map job_key) (none_named name jobs is)
    by (Some n) is = one_named name low high jobs n rise is

some_mapped : (o : Option JobRow) → is_some (option_map job_key o) ≡ is_some o
some_mapped None = refl
some_mapped (Some j) = refl

-- whether a pending job has the name
pub pending_any : (names : List (List ℕ × ℕ)) (low high : ℕ) (jobs : List JobRow) → IsRising job_key low jobs high → KeepsNames names jobs → (name : List ℕ)
    → is_some (if_pending jobs (number_of name names)) ≡ list_any (is_pending_named name) jobs
pending_any names low high jobs rise keeps name =
    ap (λ (o : Option ℕ). is_some o) (sym (pending_found names low high jobs rise keeps name)) ∙ some_mapped (find (is_pending_named name) jobs) ∙ sym (any_found (is_pending_named name) jobs)

pub some_if : (b : Bool) (n : ℕ) → b ≡ is_some (cond b (Some n) None)
some_if true n = refl
some_if false n = refl

-- ---- one job more

-- no job has the name of the new one
pub unnamed : (names : List (List ℕ × ℕ)) (jobs : List JobRow) (name : List ℕ) → KeepsNames names jobs → list_any (is_named name) jobs ≡ false → number_of name names ≡ None
unnamed names jobs name keeps none = name_found names jobs keeps name ∙ ap (option_map job_key) (nothing (find (is_named name) jobs) (sym (any_found (is_named name) jobs) ∙ none))
  where
    nothing : (o : Option JobRow) → is_some o ≡ false → o ≡ None
    nothing None e = refl
    nothing (Some j) e = absurd (false≢true (sym e))

pub keeps_more : (names more : List (List ℕ × ℕ)) (jobs : List JobRow) (j : JobRow) → list_any (is_named j.name) jobs ≡ false
    → ((other : List ℕ) → number_of other more ≡ cond (bytes_eq j.name other) (Some j.job) (number_of other names)) → length more ≡ length names + 1 → KeepsNames names jobs → KeepsNames more (jobs ++ j ∷ [])
keeps_more names more jobs j none found count keeps =
    record {
      named = λ name. by (bytes_eq j.name name) name refl;
      as_many = omega (arith, keeps.as_many, count, length-append jobs (j ∷ []));
    }
  where
    by : (b : Bool) (name : List ℕ) → bytes_eq j.name name ≡ b → map job_key (filter (is_named name) (jobs ++ j ∷ [])) ≡ as_list (number_of name more)
    by true name is =
        let same : j.name ≡ name = (bytes_eq-Decides j.name name).0 is in
        let new : number_of name names ≡ None = ap (λ (n : List ℕ). number_of n names) (sym same) ∙ unnamed names jobs j.name keeps none in
        let had : map job_key (filter (is_named name) jobs) ≡ [] = keeps.named name ∙ ap as_list new in
        ap (map job_key) (filter-append (is_named name) jobs (j ∷ []))
        ∙ map-append job_key (filter (is_named name) jobs) (filter (is_named name) (j ∷ []))
        ∙ rw (had, found name, is) refl
    by false name is =
        ap (map job_key) (filter-append (is_named name) jobs (j ∷ []))
        ∙ map-append job_key (filter (is_named name) jobs) (filter (is_named name) (j ∷ []))
        ∙ rw (found name, is) (append-nil (map job_key (filter (is_named name) jobs)) ∙ keeps.named name)

-- ---- texts

module _ {K : Type 0} (text : K → List ℕ) where
  -- equal texts, one by one
  pub map-copied : (keys copies : List K) → AllZip (λ (s t : K). text t ≡ text s) keys copies → map text copies ≡ map text keys
  map-copied [] [] zip = refl
  map-copied [] (y ∷ ys) zip = absurd zip
  map-copied (x ∷ xs) [] zip = absurd zip
  map-copied (x ∷ xs) (y ∷ ys) zip = λ j. zip.0 j ∷ map-copied xs ys zip.1 j
