-- Six words, and what they ask.
use Rattle.std.proofs.Common.{◌≡◌, ◌<◌, ◌≤◌, ℕ, true, slice_index_or, length, arith, List, [], ◌∷◌, sym, ap, ◌∙◌, None, Some, if◌then◌else◌}
use Rattle.farm_lines.specs.Points.{cores_of}
use Rattle.rqd_core.specs.declared.config.RqdConfig.{RqdConfig}
use Rattle.rqd_session.specs.Words.{amount_of, are_names, asked_of, asked_with, config_of, rounds_of}

-- the words are these six
pub six_words : (words : List (List ℕ)) (name alloc cores memory nonce rounds : List ℕ) → 6 ≤ length words → length words < 7 → name ≡ slice_index_or words 0 name
    → alloc ≡ slice_index_or words 1 alloc → cores ≡ slice_index_or words 2 cores → memory ≡ slice_index_or words 3 memory → nonce ≡ slice_index_or words 4 nonce
    → rounds ≡ slice_index_or words 5 rounds → asked_of words ≡ asked_of (name ∷ alloc ∷ cores ∷ memory ∷ nonce ∷ rounds ∷ [])
six_words [] name alloc cores memory nonce rounds long short n a c m o r = absurd (omega (arith, long))
six_words (w0 ∷ []) name alloc cores memory nonce rounds long short n a c m o r = absurd (omega (arith, long))
six_words (w0 ∷ w1 ∷ []) name alloc cores memory nonce rounds long short n a c m o r = absurd (omega (arith, long))
six_words (w0 ∷ w1 ∷ w2 ∷ []) name alloc cores memory nonce rounds long short n a c m o r = absurd (omega (arith, long))
six_words (w0 ∷ w1 ∷ w2 ∷ w3 ∷ []) name alloc cores memory nonce rounds long short n a c m o r = absurd (omega (arith, long))
six_words (w0 ∷ w1 ∷ w2 ∷ w3 ∷ w4 ∷ []) name alloc cores memory nonce rounds long short n a c m o r = absurd (omega (arith, long))
six_words (w0 ∷ w1 ∷ w2 ∷ w3 ∷ w4 ∷ w5 ∷ w6 ∷ more) name alloc cores memory nonce rounds long short n a c m o r = absurd (omega (arith, short))
six_words (w0 ∷ w1 ∷ w2 ∷ w3 ∷ w4 ∷ w5 ∷ []) name alloc cores memory nonce rounds long short n a c m o r =
    let name_is : w0 ≡ name = sym n in
    let alloc_is : w1 ≡ alloc = sym a in
    let cores_is : w2 ≡ cores = sym c in
    let memory_is : w3 ≡ memory = sym m in
    let nonce_is : w4 ≡ nonce = sym o in
    let rounds_is : w5 ≡ rounds = sym r in
    λ i. asked_of (name_is i ∷ alloc_is i ∷ cores_is i ∷ memory_is i ∷ nonce_is i ∷ rounds_is i ∷ [])

-- each of them is valid
pub six_valid : (name alloc cores memory nonce rounds : List ℕ) (c m o r : ℕ) → are_names name alloc ≡ true → cores_of cores ≡ Some c → amount_of memory ≡ Some m
    → amount_of nonce ≡ Some o → rounds_of rounds ≡ Some r
    → asked_of (name ∷ alloc ∷ cores ∷ memory ∷ nonce ∷ rounds ∷ [])
    ≡ Some (record { config = record { name = name; alloc = alloc; cores = c; memory = m; nonce = o }; rounds = r })
six_valid name alloc cores memory nonce rounds c m o r named cores_are memory_is nonce_is rounds_are =
    let config : RqdConfig = record { name = name; alloc = alloc; cores = c; memory = m; nonce = o } in
    let read : asked_of (name ∷ alloc ∷ cores ∷ memory ∷ nonce ∷ rounds ∷ []) ≡ asked_with (config_of name alloc (Some c) (Some m) (Some o)) (Some r)
    = λ i. asked_with (config_of name alloc (cores_are i) (memory_is i) (nonce_is i)) (rounds_are i) in
    read ∙ ap (λ valid. asked_with (if valid then Some config else None) (Some r)) named
