-- Numbers by name, as a map holds them.
use Rattle.std.proofs.Common.{◌≡◌, ℕ, Bool, true, false, cond, not, is_some, ◌+◌, ◌≤◌, length, filter, arith, List, [], ◌∷◌, ◌++◌, map, Option, Some, None, refl, sym, ap, subst, ◌∙◌, string_bytes, Result, Ok, OnOk, Err, OnErr, IfErr}
use Rattle.std.specs.Prelude.{String}
use Rattle.std.specs.List.{AllZip}
use Rattle.std.specs.Option.{option_or}
use Rattle.std.proofs.lemmas.Slice.Eq.{bytes_eq-Decides}
use Rattle.std.specs.Cmp.Lexicographic.{nat_list_eq_equiv}
use Rattle.std.specs.Map.{lookup}
use Rattle.std.specs.Str.{bytes_eq}
use Rattle.job_index.specs.Names.{number_of}

module _ {Y : Type 0} where
  abbrev pub text_number : String Y × ℕ → List ℕ × ℕ
  text_number e = (string_bytes e.0, e.1)

  pub looked_up : (name : List ℕ) (es : List (String Y × ℕ)) → lookup (λ k. bytes_eq name (string_bytes k)) es ≡ number_of name (map text_number es)
  looked_up name [] = refl
  looked_up name (e ∷ es) = ap (cond (bytes_eq name (string_bytes e.0)) (Some e.1)) (looked_up name es)

  -- equal names with equal numbers
  pub copied : (es fs : List (String Y × ℕ)) → AllZip (λ (p q : String Y × ℕ). (string_bytes q.0 ≡ string_bytes p.0) × (q.1 ≡ p.1)) es fs → map text_number fs ≡ map text_number es
  copied [] [] zip = refl
  copied [] (f ∷ fs) zip = absurd zip
  copied (e ∷ es) [] zip = absurd zip
  copied (e ∷ es) (f ∷ fs) zip = λ i. (zip.0.0 i, zip.0.1 i) ∷ copied es fs zip.1 i

-- ---- two lists of names

pub found_in_both : (name : List ℕ) (ps qs : List (List ℕ × ℕ)) → number_of name (ps ++ qs) ≡ option_or (number_of name ps) (number_of name qs)
found_in_both name [] qs = refl
found_in_both name (p ∷ ps) qs = by (bytes_eq name p.0) refl (found_in_both name ps qs)
  where
    by : (b : Bool) → bytes_eq name p.0 ≡ b → number_of name (ps ++ qs) ≡ option_or (number_of name ps) (number_of name qs) → number_of name ((p ∷ ps) ++ qs) ≡ option_or (number_of name (p ∷ ps)) (number_of name qs)
    by true is later = rw is refl
    by false is later = rw is later

or_parts : (o q : Option ℕ) → option_or o q ≡ None → (o ≡ None) × (q ≡ None)
or_parts None q is = (refl, is)
or_parts (Some n) q is = absurd (cc)

pub none_in_first : (name : List ℕ) (ps qs : List (List ℕ × ℕ)) → number_of name (ps ++ qs) ≡ None → number_of name ps ≡ None
none_in_first name ps qs none = (or_parts (number_of name ps) (number_of name qs) (sym (found_in_both name ps qs) ∙ none)).0

pub or_by : (b : Bool) (o q : Option ℕ) → option_or (cond b None o) (cond b None q) ≡ cond b None (option_or o q)
or_by true o q = refl
or_by false o q = refl

module _ (name : List ℕ) (job : ℕ) (ps qs : List (List ℕ × ℕ)) (new : number_of name (ps ++ qs) ≡ None) where
  parts : (number_of name ps ≡ None) × (number_of name qs ≡ None)
  parts = or_parts (number_of name ps) (number_of name qs) (sym (found_in_both name ps qs) ∙ new)

  of_new : (other : List ℕ) → number_of other ((name, job) ∷ []) ≡ cond (bytes_eq name other) (Some job) None
  of_new other = ap (λ (b : Bool). cond b (Some job) None) (nat_list_eq_equiv.symm other name)

  -- one more name, behind the first list
  pub added_first : (other : List ℕ) → number_of other ((ps ++ (name, job) ∷ []) ++ qs) ≡ cond (bytes_eq name other) (Some job) (number_of other (ps ++ qs))
  added_first other =
      found_in_both other (ps ++ (name, job) ∷ []) qs ∙ ap (λ (o : Option ℕ). option_or o (number_of other qs)) (found_in_both other ps ((name, job) ∷ []) ∙ ap (option_or (number_of other ps)) (of_new other))
      ∙ by (bytes_eq name other) refl ∙ ap (cond (bytes_eq name other) (Some job)) (sym (found_in_both other ps qs))
    where
      nothing : (o : Option ℕ) → option_or o None ≡ o
      nothing None = refl
      nothing (Some n) = refl

      by : (b : Bool) → bytes_eq name other ≡ b
          → option_or (option_or (number_of other ps) (cond (bytes_eq name other) (Some job) None)) (number_of other qs) ≡ cond (bytes_eq name other) (Some job) (option_or (number_of other ps) (number_of other qs))
      by true is =
          let same : name ≡ other = (bytes_eq-Decides name other).0 is in
          let none : number_of other ps ≡ None = ap (λ (n : List ℕ). number_of n ps) (sym same) ∙ parts.0 in
          rw (is, none) refl
      by false is = rw is (ap (λ (o : Option ℕ). option_or o (number_of other qs)) (nothing (number_of other ps)))

  -- behind the second
  pub added_last : (other : List ℕ) → number_of other (ps ++ (qs ++ (name, job) ∷ [])) ≡ cond (bytes_eq name other) (Some job) (number_of other (ps ++ qs))
  added_last other =
      found_in_both other ps (qs ++ (name, job) ∷ []) ∙ ap (option_or (number_of other ps)) (found_in_both other qs ((name, job) ∷ []) ∙ ap (option_or (number_of other qs)) (of_new other))
      ∙ by (bytes_eq name other) refl ∙ ap (cond (bytes_eq name other) (Some job)) (sym (found_in_both other ps qs))
    where
      nothing : (o : Option ℕ) → option_or o None ≡ o
      nothing None = refl
      nothing (Some n) = refl

      by : (b : Bool) → bytes_eq name other ≡ b
          → option_or (number_of other ps) (option_or (number_of other qs) (cond (bytes_eq name other) (Some job) None)) ≡ cond (bytes_eq name other) (Some job) (option_or (number_of other ps) (number_of other qs))
      by true is =
          let same : name ≡ other = (bytes_eq-Decides name other).0 is in
          let none : number_of other ps ≡ None = ap (λ (n : List ℕ). number_of n ps) (sym same) ∙ parts.0 in
          let none_too : number_of other qs ≡ None = ap (λ (n : List ℕ). number_of n qs) (sym same) ∙ parts.1 in
          rw (is, none, none_too) refl
      by false is = rw is (ap (option_or (number_of other ps)) (nothing (number_of other qs)))

-- ---- a name that goes

module _ (name : List ℕ) where
  abbrev pub stays : List ℕ × ℕ → Bool
  stays p = not (bytes_eq name p.0)

  left_step : (b c : Bool) (other : List ℕ) (p : List ℕ × ℕ) (ps : List (List ℕ × ℕ)) → bytes_eq name p.0 ≡ b → bytes_eq other p.0 ≡ c → number_of other (filter stays ps) ≡ cond (bytes_eq name other) None (number_of other ps)
      → number_of other (filter stays (p ∷ ps)) ≡ cond (bytes_eq name other) None (number_of other (p ∷ ps))
  left_step true true other p ps is same later =
      let it : bytes_eq name other ≡ true = (bytes_eq-Decides name other).1 ((bytes_eq-Decides name p.0).0 is ∙ sym ((bytes_eq-Decides other p.0).0 same)) in
      rw (is, same) (later ∙ ap (λ (b : Bool). cond b None (number_of other ps)) it ∙ sym (ap (λ (b : Bool). cond b None (Some p.1)) it))
  left_step true false other p ps is same later = rw (is, same) later
  left_step false true other p ps is same later =
      let apart : bytes_eq name other ≡ false = ap (bytes_eq name) ((bytes_eq-Decides other p.0).0 same) ∙ is in
      rw (is, same) (rw apart refl)
  left_step false false other p ps is same later = rw (is, same) later

  pub name_left : (other : List ℕ) (ps : List (List ℕ × ℕ)) → number_of other (filter stays ps) ≡ cond (bytes_eq name other) None (number_of other ps)
  name_left other [] = by (bytes_eq name other)
    where
      nothing : Option ℕ
      nothing = None

      by : (b : Bool) → nothing ≡ cond b nothing nothing
      by true = refl
      by false = refl
  name_left other (p ∷ ps) = left_step (bytes_eq name p.0) (bytes_eq other p.0) other p ps refl refl (name_left other ps)

  count_step : (b : Bool) (p : List ℕ × ℕ) (ps : List (List ℕ × ℕ)) → bytes_eq name p.0 ≡ b → length (filter stays ps) ≤ length ps → length (filter stays ps) + cond (is_some (number_of name ps)) 1 0 ≤ length ps
      → length (filter stays (p ∷ ps)) + cond (is_some (number_of name (p ∷ ps))) 1 0 ≤ length (p ∷ ps)
  count_step true p ps is fewer later = rw is (omega (arith, fewer))
  count_step false p ps is fewer later = rw is (omega (arith, later))

  fewer_step : (b : Bool) (p : List ℕ × ℕ) (ps : List (List ℕ × ℕ)) → bytes_eq name p.0 ≡ b → length (filter stays ps) ≤ length ps → length (filter stays (p ∷ ps)) ≤ length (p ∷ ps)
  fewer_step true p ps is later = rw is (omega (arith, later))
  fewer_step false p ps is later = rw is (omega (arith, later))

  pub fewer_left : (ps : List (List ℕ × ℕ)) → length (filter stays ps) ≤ length ps
  fewer_left [] = omega arith
  fewer_left (p ∷ ps) = fewer_step (bytes_eq name p.0) p ps refl (fewer_left ps)

  pub count_left : (ps : List (List ℕ × ℕ)) → length (filter stays ps) + cond (is_some (number_of name ps)) 1 0 ≤ length ps
  count_left [] = omega arith
  count_left (p ∷ ps) = count_step (bytes_eq name p.0) p ps refl (fewer_left ps) (count_left ps)

  -- found in one of two lists
  pub found_count : (a b c d : ℕ) (o q : Option ℕ) → a + cond (is_some o) 1 0 ≡ b → c ≤ d → c + cond (is_some q) 1 0 ≤ d → a + c + cond (is_some (option_or o q)) 1 0 ≤ b + d
  found_count a b c d None q first fewer second = omega (arith, first, second)
  found_count a b c d (Some n) q first fewer second = omega (arith, first, fewer)

-- what holds where a result is `Ok`
pub ok_holds : {T E : Type 0} (r : Result T E) (v : T) (P : Type 0) → r ≡ Ok v → OnOk r P → P
ok_holds r v P is h = subst (λ (s : Result _ _). OnOk s P) is h

pub err_holds : {T E : Type 0} (r : Result T E) (e : E) (P : Type 0) → r ≡ Err e → OnErr r P → P
err_holds r e P is h = subst (λ (s : Result _ _). OnErr s P) is h

pub if_err_holds : {T E : Type 0} (r : Result T E) (e : E) (P : E → Type 0) → r ≡ Err e → IfErr r P → P e
if_err_holds r e P is h = subst (λ (s : Result _ _). IfErr s P) is h
