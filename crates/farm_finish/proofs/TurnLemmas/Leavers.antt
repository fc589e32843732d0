-- Which finished job leaves, as jobs finish one after the other.
use Rattle.std.proofs.Common.{◌≡◌, ◌≤◌, ◌<◌, ℕ, zero, suc, ◌+◌, ◌-◌, Bool, true, false, cond, ltb, List, [], ◌∷◌, ◌++◌, take, drop, length, None, Some, refl, sym, ap, ◌∙◌, arith, length-append}
use Rattle.std.specs.List.{slice_get}
use Rattle.std.proofs.lemmas.Bool.{le-ltb, lt-ltb, ltb-false, ltb-true}
use Rattle.std.proofs.lemmas.Option.{none-some, same_Some}
use Rattle.farm_types.specs.declared.limits.TheConstants.{MOST_FINISHED}
use Rattle.job_book.specs.Finished.{leaver}
use Rattle.farm_finish.specs.Gone.{leaving}

append_assoc : (xs ys zs : List ℕ) → (xs ++ ys) ++ zs ≡ xs ++ (ys ++ zs)
append_assoc [] ys zs = refl
append_assoc (x ∷ xs) ys zs = ap (λ (ns : List ℕ). x ∷ ns) (append_assoc xs ys zs)

length_drop : (c : ℕ) (xs : List ℕ) → length (drop c xs) ≡ length xs - c
length_drop zero xs = omega arith
length_drop (suc c) [] = omega arith
length_drop (suc c) (x ∷ xs) = omega (arith, length_drop c xs)

drop_append : (c : ℕ) (xs ys : List ℕ) → c ≤ length xs → drop c xs ++ ys ≡ drop c (xs ++ ys)
drop_append zero xs ys within = refl
drop_append (suc c) [] ys within = absurd (omega (arith, within))
drop_append (suc c) (x ∷ xs) ys within = drop_append c xs ys (omega (arith, within))

drop_nil : (c : ℕ) → drop {A = ℕ} c [] ≡ []
drop_nil zero = refl
drop_nil (suc c) = refl

drop_twice : (c a : ℕ) (xs : List ℕ) → drop a (drop c xs) ≡ drop (c + a) xs
drop_twice zero a xs = ap (λ (n : ℕ). drop n xs) (omega arith)
drop_twice (suc c) a [] = drop_nil a ∙ sym (drop_nil (suc c + a))
drop_twice (suc c) a (x ∷ xs) = let later : suc (c + a) ≡ suc c + a = omega arith in drop_twice c a xs ∙ ap (λ (n : ℕ). drop n (x ∷ xs)) later

head_drop : (c : ℕ) (xs : List ℕ) → slice_get (drop c xs) 0 ≡ slice_get xs c
head_drop zero xs = refl
head_drop (suc c) [] = refl
head_drop (suc c) (x ∷ xs) = head_drop c xs

take_next : (i n : ℕ) (ns : List ℕ) → slice_get ns i ≡ Some n → take i ns ++ n ∷ [] ≡ take (suc i) ns
take_next i n [] at = absurd (none-some n at)
take_next zero n (m ∷ ms) at = ap (λ (k : ℕ). k ∷ []) (sym (same_Some m n at))
take_next (suc i) n (m ∷ ms) at = ap (λ (ks : List ℕ). m ∷ ks) (take_next i n ms at)

pub length_take : (i n : ℕ) (ns : List ℕ) → slice_get ns i ≡ Some n → length (take i ns) ≡ i
length_take i n [] at = absurd (none-some n at)
length_take zero n (m ∷ ms) at = refl
length_take (suc i) n (m ∷ ms) at = omega (arith, length_take i n ms at)

slice_take : (c i : ℕ) (ns : List ℕ) → c < i → slice_get (take i ns) c ≡ slice_get ns c
slice_take c zero ns less = absurd (omega (arith, less))
slice_take c (suc i) [] less = refl
slice_take zero (suc i) (n ∷ ns) less = refl
slice_take (suc c) (suc i) (n ∷ ns) less = slice_take c i ns (omega (arith, less))

slice_front : (c i : ℕ) (xs ns : List ℕ) → c < length xs + i → slice_get (xs ++ take i ns) c ≡ slice_get (xs ++ ns) c
slice_front c i [] ns less = slice_take c i ns (omega (arith, less))
slice_front zero i (x ∷ xs) ns less = refl
slice_front (suc c) i (x ∷ xs) ns less = slice_front c i xs ns (omega (arith, less))

module _ (finished jobs : List ℕ) (i job : ℕ) (at : slice_get jobs i ≡ Some job) where
  abbrev so_far : List ℕ
  so_far = finished ++ take i jobs

  abbrev c : ℕ
  c = length finished + i - MOST_FINISHED

  abbrev order : List ℕ
  order = drop c so_far ++ job ∷ []

  long : length so_far ≡ length finished + i
  long = omega (arith, length-append finished (take i jobs), length_take i job jobs at)

  within : c ≤ length so_far
  within = omega (arith, long)

  count : length order ≡ (length finished + i - c) + 1
  count = omega (arith, length-append (drop c so_far) (job ∷ []), length_drop c so_far, long)

  all : order ≡ drop c (finished ++ take (suc i) jobs)
  all = drop_append c so_far (job ∷ []) within ∙ ap (drop c) (append_assoc finished (take i jobs) (job ∷ []) ∙ ap (λ (ns : List ℕ). finished ++ ns) (take_next i job jobs at))

  by_count : (b : Bool) → ltb MOST_FINISHED (length finished + i + 1) ≡ b → cond (ltb MOST_FINISHED (length order)) (slice_get order 0) None ≡ cond b (slice_get (finished ++ jobs) (length finished + i + 1 - MOST_FINISHED - 1)) None
  by_count true is =
      let more = ltb-true MOST_FINISHED (length finished + i + 1) is in
      let many : MOST_FINISHED < length order = omega (arith, count, more) in
      let place : length finished + i + 1 - MOST_FINISHED - 1 ≡ c = omega (arith, more) in
      ap (λ (b : Bool). cond b (slice_get order 0) None) (lt-ltb MOST_FINISHED (length order) many)
      ∙ (ap (λ (ns : List ℕ). slice_get ns 0) all
      ∙ (head_drop c (finished ++ take (suc i) jobs) ∙ (slice_front c (suc i) finished jobs (omega arith) ∙ sym (ap (slice_get (finished ++ jobs)) place))))
  by_count false is =
      let few = ltb-false MOST_FINISHED (length finished + i + 1) is in
      ap (λ (b : Bool). cond b (slice_get order 0) None) (le-ltb MOST_FINISHED (length order) (omega (arith, count, few)))

  -- the finished ones that are still there, and the job, of which the first leaves where there is one too many
  pub leaver_is : leaver order ≡ leaving finished jobs (length finished + i + 1)
  leaver_is = by_count (ltb MOST_FINISHED (length finished + i + 1)) refl

-- one turn more
pub order_next : (finished rest : List ℕ) (job i : ℕ) → drop (length (drop (length (finished ++ job ∷ []) - MOST_FINISHED) (finished ++ job ∷ [])) + i - MOST_FINISHED) (drop (length (finished ++ job ∷ []) - MOST_FINISHED) (finished ++ job ∷ []) ++ rest)
    ≡ drop (length finished + suc i - MOST_FINISHED) (finished ++ job ∷ rest)
order_next finished rest job i =
    let order = finished ++ job ∷ [] in
    let c = length order - MOST_FINISHED in
    let within : c ≤ length order = omega arith in
    let sum : c + (length (drop c order) + i - MOST_FINISHED) ≡ length finished + suc i - MOST_FINISHED = omega (arith, length_drop c order, length-append finished (job ∷ [])) in
    ap (drop (length (drop c order) + i - MOST_FINISHED)) (drop_append c order rest within ∙ ap (drop c) (append_assoc finished (job ∷ []) rest))
    ∙ (drop_twice c (length (drop c order) + i - MOST_FINISHED) (finished ++ job ∷ rest) ∙ ap (λ (n : ℕ). drop n (finished ++ job ∷ rest)) sum)
