-- The words of the daemon: what its host tells of itself, and how many rounds it makes.
use Rattle.std.specs.Prelude.{ℕ, ◌&&◌, Bool, List, [], ◌∷◌, is_some, Option, None, Some, option_and_then, if◌then◌else◌}
use Rattle.farm_types.specs.Forms.{is_between, is_name_text}
use Rattle.farm_lines.specs.Points.{cores_of, number_of}
use Rattle.farm_lines.specs.Request.{alloc_of_name}
use Rattle.rqd_core.specs.declared.config.RqdConfig.{RqdConfig}
use Rattle.rqd_session.specs.declared.words.AskedWords.{AskedWords}
use Rattle.rqd_session.specs.declared.words.TheConstants.{MOST_ROUNDS, MOST_NUMBER}

-- what valid words say
pub record Asked : Type 0 where
  pub config : RqdConfig
  pub rounds : ℕ

-- the code's words
abbrev pub asked_words : AskedWords → Asked
asked_words a = record {
  config = record { name = a.name.now; alloc = a.alloc.now; cores = a.cores; memory = a.memory; nonce = a.nonce };
  rounds = a.rounds;
}

abbrev pub checked_between : ℕ → ℕ → ℕ → Option ℕ
checked_between least most n = if is_between least most n then Some n else None

-- the number of 1 to 20 digits, where it is one of 64 bits
abbrev pub amount_of : List ℕ → Option ℕ
amount_of text = option_and_then (checked_between 0 MOST_NUMBER) (number_of 20 text)

-- the number of 1 to 10 digits, where it is one from 1 to 1,000,000,000
abbrev pub rounds_of : List ℕ → Option ℕ
rounds_of text = option_and_then (checked_between 1 MOST_ROUNDS) (number_of 10 text)

-- a host's name, and the name of an allocation
abbrev pub are_names : List ℕ → List ℕ → Bool
are_names name alloc = is_name_text name && is_some (alloc_of_name alloc)

abbrev pub config_of : List ℕ → List ℕ → Option ℕ → Option ℕ → Option ℕ → Option RqdConfig
config_of name alloc (Some cores) (Some memory) (Some nonce) =
    if are_names name alloc then Some (record { name = name; alloc = alloc; cores = cores; memory = memory; nonce = nonce }) else None
config_of name alloc cores memory number = None

abbrev pub asked_with : Option RqdConfig → Option ℕ → Option Asked
asked_with (Some config) (Some rounds) = Some (record { config = config; rounds = rounds })
asked_with config rounds = None

-- The words NAME ALLOC CORES MEMORY NONCE ROUNDS: a name, `facility.tag`, a cores text, two numbers of 64 bits in 1 to 20 digits each, and a number from 1
-- to 1,000,000,000 in 1 to 10 digits.
abbrev pub asked_of : List (List ℕ) → Option Asked
asked_of (name ∷ alloc ∷ cores ∷ memory ∷ nonce ∷ rounds ∷ []) =
    asked_with (config_of name alloc (cores_of cores) (amount_of memory) (amount_of nonce)) (rounds_of rounds)
asked_of words = None
