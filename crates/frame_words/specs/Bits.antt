-- The words by their bits, both ways.
use Rattle.std.specs.Prelude.{ℕ, ◌+◌, ◌*◌, ◌/◌, ◌%◌, ◌^◌, ◌<◌}
use Rattle.frame_words.specs.declared.amount_word.AmountWord.{AmountWord}
use Rattle.frame_words.specs.declared.frame_word.FrameWord.{FrameWord}
use Rattle.frame_words.specs.declared.host_word.HostWord.{HostWord}
use Rattle.frame_words.specs.declared.limit_word.LimitWord.{LimitWord}
use Rattle.frame_words.specs.declared.sub_word.SubWord.{SubWord}

-- ---- a slot

abbrev pub FitsFrame : FrameWord → Type 0
FitsFrame w = (w.phase < 16) × (w.version < 2 ^ 24) × (w.host < 2 ^ 16) × (w.cores < 2 ^ 20)

abbrev pub frame_bits : FrameWord → ℕ
frame_bits w = w.phase * 2 ^ 60 + w.version * 2 ^ 36 + w.host * 2 ^ 20 + w.cores

abbrev pub frame_of : ℕ → FrameWord
frame_of bits = record { phase = bits / 2 ^ 60; version = bits / 2 ^ 36 % 2 ^ 24; host = bits / 2 ^ 20 % 2 ^ 16; cores = bits % 2 ^ 20 }

abbrev pub FitsAmount : AmountWord → Type 0
FitsAmount w = (w.show < 2 ^ 16) × (w.limit < 2 ^ 8) × (w.memory < 2 ^ 40)

abbrev pub amount_bits : AmountWord → ℕ
amount_bits w = w.show * 2 ^ 48 + w.limit * 2 ^ 40 + w.memory

abbrev pub amount_of : ℕ → AmountWord
amount_of bits = record { show = bits / 2 ^ 48; limit = bits / 2 ^ 40 % 2 ^ 8; memory = bits % 2 ^ 40 }

-- ---- a host

abbrev pub FitsHost : HostWord → Type 0
FitsHost w = (w.cores < 2 ^ 24) × (w.memory < 2 ^ 40)

abbrev pub host_bits : HostWord → ℕ
host_bits w = w.cores * 2 ^ 40 + w.memory

abbrev pub host_of : ℕ → HostWord
host_of bits = record { cores = bits / 2 ^ 40; memory = bits % 2 ^ 40 }

-- ---- a subscription and a limit: a cap and what is used of it

abbrev pub pair_bits : ℕ × ℕ → ℕ
pair_bits p = p.0 * 2 ^ 32 + p.1

abbrev pub pair_of : ℕ → ℕ × ℕ
pair_of bits = (bits / 2 ^ 32, bits % 2 ^ 32)

abbrev pub sub_bits : SubWord → ℕ
sub_bits w = pair_bits (w.burst, w.booked)

abbrev pub sub_of : ℕ → SubWord
sub_of bits = record { burst = (pair_of bits).0; booked = (pair_of bits).1 }

abbrev pub limit_bits : LimitWord → ℕ
limit_bits w = pair_bits (w.most, w.running)

abbrev pub limit_of : ℕ → LimitWord
limit_of bits = record { most = (pair_of bits).0; running = (pair_of bits).1 }
