-- The words that ask for a scheduler that serves connections.
use Rattle.std.specs.Prelude.{ℕ, List, [], ◌∷◌, codes, bytes_eq, Option, None, Some, if◌then◌else◌}
use Rattle.session.specs.Words.{number_between}
use Rattle.serving.specs.declared.serve_words.ServeForm.{ServeForm}

-- what they ask for: a store, a port, and how many workers are to take how many connections
pub record ServeWords : Type 0 where
  pub store : List ℕ
  pub port : ℕ
  pub workers : ℕ
  pub connections : ℕ

-- the code's form
abbrev pub serve_words : ServeForm → ServeWords
serve_words form = record { store = form.store.now; port = form.port; workers = form.workers; connections = form.connections }

-- all three numbers are there
abbrev pub numbered_words : List ℕ → Option ℕ → Option ℕ → Option ℕ → Option ServeWords
numbered_words store (Some port) (Some workers) (Some connections) =
    Some (record { store = store; port = port; workers = workers; connections = connections })
numbered_words store port workers connections = None

-- any store but the empty word, and numbers of 1 to 10 digits within their limits
abbrev pub stored_words : List ℕ → List ℕ → List ℕ → List ℕ → Option ServeWords
stored_words store port workers connections =
    if bytes_eq store (codes "") then None
    else numbered_words store (number_between 1 65535 port) (number_between 1 64 workers) (number_between 1 1000000000 connections)

-- the valid words: `serve` with these four
abbrev pub serve_form : List (List ℕ) → Option ServeWords
serve_form (word ∷ store ∷ port ∷ workers ∷ connections ∷ []) =
    if bytes_eq word (codes "serve") then stored_words store port workers connections else None
serve_form words = None
