-- All six words are valid.
use Rattle.std.proofs.Common.{rules, ◌≡◌, true, List, ℕ, Some, sym, ap, ◌∙◌}
use Rattle.farm_lines.specs.Points.{cores_of}
use Rattle.rqd_session.specs.Words.{Asked, amount_of, are_names, rounds_of}
use Rattle.rqd_session.proofs.WordLemmas.{six_valid, six_words}
use Rattle.rqd_session.proofs.words.read_words.Goals as goal

pub returns-in_ok-rounds-in-len6 : goal.returns-in_ok-rounds-in-len6
returns-in_ok-rounds-in-len6 c =
    let name : c.name-item.result ≡ c.as_str-name.result.now = sym c.as_str-name.ensures in
    let alloc : c.alloc-item.result ≡ c.as_str-alloc.result.now = sym c.as_str-alloc.ensures in
    let cores : cores_of c.cores-item.result ≡ Some c.in_ok-cores-in-len6.cores = ap cores_of (sym c.as_str.ensures) ∙ sym c.in_ok-cores-in-len6.ensures in
    let memory : amount_of c.memory-item.result ≡ Some c.in_ok-memory-in-len6.memory = ap amount_of (sym c.as_str-in-len6.ensures) ∙ sym c.in_ok-memory-in-len6.ensures in
    let nonce : amount_of c.nonce-item.result ≡ Some c.in_ok-nonce-in-len6.nonce = ap amount_of (sym c.as_str-in-len6-2.ensures) ∙ sym c.in_ok-nonce-in-len6.ensures in
    let rounds : rounds_of c.rounds-item.result ≡ Some c.in_ok-rounds-in-len6.rounds = ap rounds_of (sym c.as_str-in-len6-3.ensures) ∙ sym c.in_ok-rounds-in-len6.ensures in
    let are : c.are_names.result ≡ true = search rules in
    let named : are_names c.name-item.result c.alloc-item.result ≡ are_names c.as_str-name.result.now c.as_str-alloc.result.now = λ i. are_names (name i) (alloc i) in
    let asked : List ℕ → List ℕ → Asked = λ n a. record {
      config = record { name = n; alloc = a; cores = c.in_ok-cores-in-len6.cores; memory = c.in_ok-memory-in-len6.memory; nonce = c.in_ok-nonce-in-len6.nonce };
      rounds = c.in_ok-rounds-in-len6.rounds;
    } in
    (λ i. Some (asked (sym name i) (sym alloc i)))
    ∙ sym (six_words c.args.words.now c.name-item.result c.alloc-item.result c.cores-item.result c.memory-item.result c.nonce-item.result c.rounds-item.result
    c.in-len6.len_at_least c.in-len6.len_below c.name-item.is c.alloc-item.is c.cores-item.is c.memory-item.is c.nonce-item.is c.rounds-item.is
    ∙ six_valid c.name-item.result c.alloc-item.result c.cores-item.result c.memory-item.result c.nonce-item.result c.rounds-item.result c.in_ok-cores-in-len6.cores
    c.in_ok-memory-in-len6.memory c.in_ok-nonce-in-len6.nonce c.in_ok-rounds-in-len6.rounds (named ∙ sym c.are_names.ensures ∙ are) cores memory nonce rounds)
