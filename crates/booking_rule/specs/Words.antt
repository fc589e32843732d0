-- The words of the table, unpacked.
use Rattle.std.specs.Prelude.{ℕ, ◌==◌, ◌+◌, if◌then◌else◌, List, slice_index}
use Rattle.frame_words.specs.declared.frame_word.FrameWord.{FrameWord}
use Rattle.frame_words.specs.declared.amount_word.AmountWord.{AmountWord}
use Rattle.frame_words.specs.declared.host_word.HostWord.{HostWord}
use Rattle.frame_words.specs.declared.sub_word.SubWord.{SubWord}
use Rattle.frame_words.specs.declared.limit_word.LimitWord.{LimitWord}
use Rattle.frame_words.specs.Bits.{frame_of, amount_of, host_of, sub_of, limit_of}

-- by the number of the slot, host, subscription or limit
pub record Words : Type 0 where
  pub frame : ℕ → FrameWord
  pub amount : ℕ → AmountWord
  pub host : ℕ → HostWord
  pub sub : ℕ → SubWord
  pub limit : ℕ → LimitWord

-- the function with another value at one number
abbrev pub put : {A : Type 0} → (ℕ → A) → ℕ → A → ℕ → A
put f k x j = if j == k then x else f j

abbrev pub with_frame : Words → ℕ → FrameWord → Words
with_frame W slot word = record W { frame = put W.frame slot word }

abbrev pub with_amount : Words → ℕ → AmountWord → Words
with_amount W slot word = record W { amount = put W.amount slot word }

abbrev pub with_host : Words → ℕ → HostWord → Words
with_host W host word = record W { host = put W.host host word }

abbrev pub with_sub : Words → ℕ → SubWord → Words
with_sub W sub word = record W { sub = put W.sub sub word }

abbrev pub with_limit : Words → ℕ → LimitWord → Words
with_limit W limit word = record W { limit = put W.limit limit word }

-- ---- where each word stands in the table, after the journal's

abbrev pub frame_place : ℕ → ℕ
frame_place slot = slot + 1

abbrev pub amount_place : ℕ → ℕ
amount_place slot = slot + 65537

abbrev pub host_place : ℕ → ℕ
host_place host = host + 131073

abbrev pub sub_place : ℕ → ℕ
sub_place sub = sub + 135169

abbrev pub limit_place : ℕ → ℕ
limit_place limit = limit + 136193

-- how many words the table has
abbrev pub all_words : ℕ
all_words = 136448

abbrev pub words_of : List ℕ → Words
words_of ws =
    record {
      frame = λ slot. frame_of (slice_index ws (frame_place slot));
      amount = λ slot. amount_of (slice_index ws (amount_place slot));
      host = λ host. host_of (slice_index ws (host_place host));
      sub = λ sub. sub_of (slice_index ws (sub_place sub));
      limit = λ limit. limit_of (slice_index ws (limit_place limit));
    }
