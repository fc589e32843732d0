-- What a seat that is alone finds: the words that its journal's farm has it expect.
use Rattle.std.proofs.Common.{◌≡◌, ◌≢◌, ℕ, zero, suc, ◌+◌, ◌-◌, ◌*◌, ◌/◌, ◌%◌, ◌^◌, ◌<◌, ◌==◌, false, List, [], sym, refl, ap, ◌∙◌, subst, arith}
use Rattle.std.specs.Prelude.{Some, None}
use Rattle.frame_words.specs.declared.amount_word.AmountWord.{AmountWord}
use Rattle.frame_words.specs.declared.frame_word.FrameWord.{FrameWord}
use Rattle.frame_words.specs.declared.host_word.HostWord.{HostWord}
use Rattle.frame_words.specs.Bits.{amount_of, frame_bits, frame_of, host_bits, host_of}
use Rattle.booking_rule.specs.declared.hold.Claim.{Claim}
use Rattle.booking_rule.specs.declared.noted.Noted.{Noted}
use Rattle.booking_rule.specs.declared.view.View.{View}
use Rattle.booking_rule.specs.Alone.{IsAlone, ShowsRoom, ShowsSlot}
use Rattle.booking_rule.specs.Kept.{farm_in}
use Rattle.booking_rule.specs.Link.{limit_code, stand_at}
use Rattle.booking_rule.specs.Recorded.{Stand}
use Rattle.booking_rule.specs.Rule.{ShowsAmount, word_of}
use Rattle.booking_rule.specs.Views.{noted}
use Rattle.booking_rule.proofs.Says.{stand_nowhere}
use Rattle.booking_table.specs.declared.seen.Seen.{Seen}
use Rattle.booking_table.specs.Alone.{SawStand}
use Rattle.booking_table.specs.Calls.{limit_in, seen_of}
use Rattle.booking_table.specs.Holds.{IsLimit}

-- ---- a word is known by its parts

pub frame_known : (n m : ℕ) → frame_of n ≡ frame_of m → n ≡ m
frame_known n m same =
    let phase : n / 2 ^ 60 ≡ m / 2 ^ 60 = ap (λ (w : FrameWord). w.phase) same in
    let version : n / 2 ^ 36 % 2 ^ 24 ≡ m / 2 ^ 36 % 2 ^ 24 = ap (λ (w : FrameWord). w.version) same in
    let host : n / 2 ^ 20 % 2 ^ 16 ≡ m / 2 ^ 20 % 2 ^ 16 = ap (λ (w : FrameWord). w.host) same in
    let cores : n % 2 ^ 20 ≡ m % 2 ^ 20 = ap (λ (w : FrameWord). w.cores) same in omega (arith, phase, version, host, cores)

pub frame_is : (n : ℕ) (w : FrameWord) → frame_of n ≡ w → n ≡ frame_bits w
frame_is n w is = whole ∙ ap frame_bits is
  where
    whole : n ≡ frame_bits (frame_of n)
    whole = omega arith

pub host_known : (n m : ℕ) → host_of n ≡ host_of m → n ≡ m
host_known n m same =
    let cores : n / 2 ^ 40 ≡ m / 2 ^ 40 = ap (λ (w : HostWord). w.cores) same in
    let memory : n % 2 ^ 40 ≡ m % 2 ^ 40 = ap (λ (w : HostWord). w.memory) same in omega (arith, cores, memory)

-- ---- one item more in the trail

pub alone_noted : (cs : List Claim) (v : View) (item : Noted) → IsAlone cs v → IsAlone cs (noted v item)
alone_noted cs v item a = record { desk = a.desk; first = a.first; split = a.split; pending = a.pending; done = a.done; claims = a.claims }

room_noted : (v : View) (item : Noted) (host : ℕ) (word : HostWord) → ShowsRoom (noted v item) host word → ShowsRoom v host word
room_noted v item host word shows = record { cores = shows.cores; memory = shows.memory }

-- ---- a host's word, found twice

pub room_once : (v : View) (host : ℕ) (a b : HostWord) → ShowsRoom v host a → ShowsRoom v host b → a ≡ b
room_once v host a b first second =
    let c = first.cores in
    let d = second.cores in
    let m = first.memory in
    let n = second.memory in
    let cores : a.cores ≡ b.cores = omega (arith, c, d) in
    let memory : a.memory ≡ b.memory = omega (arith, m, n) in
    λ i. record { cores = cores i; memory = memory i }

-- by a load, and by an exchange after it
pub room_after : (v w : View) (item : Noted) (host : ℕ) (word : HostWord) → w ≡ noted v item → IsAlone [] v
    → (IsAlone [] w → ShowsRoom w host word) → ShowsRoom v host word
room_after v w item host word is alone shows =
    let all = subst (λ (x : View). IsAlone [] x → ShowsRoom x host word) is shows in
    room_noted v item host word (all (alone_noted [] v item alone))

pub room_unmoved : (v w : View) (item : Noted) (host expected found : ℕ) → w ≡ noted v item → IsAlone [] v → ShowsRoom v host (host_of expected)
    → (IsAlone [] w → ShowsRoom w host (host_of found)) → found ≡ expected
room_unmoved v w item host expected found is alone first second =
    host_known found expected
    (room_once v host (host_of found) (host_of expected) (room_after v w item host (host_of found) is alone second) first)

-- ---- a slot's words

code_back : (code : ℕ) → limit_code (limit_in code) ≡ code
code_back zero = refl
code_back (suc n) = omega arith

pub saw : (s : Stand) (slot n m : ℕ) → frame_of n ≡ word_of s → ShowsAmount s (amount_of m) → SawStand s (seen_of slot n m)
saw s slot n m frame amount = record {
  phase = ap (λ (w : FrameWord). w.phase) frame;
  version = ap (λ (w : FrameWord). w.version) frame;
  cores = ap (λ (w : FrameWord). w.cores) frame;
  show = λ used. (amount used).0;
  limit = λ used. code_back (amount_of m).limit ∙ (amount used).1.0;
  memory = λ used. (amount used).1.1;
}

pub saw_after : (v w : View) (item : Noted) (slot n m : ℕ) → w ≡ noted v item → IsAlone [] v → ShowsSlot v slot (frame_of n)
    → (IsAlone [] w → ShowsAmount (stand_at (farm_in w) slot) (amount_of m)) → SawStand (stand_at (farm_in v) slot) (seen_of slot n m)
saw_after v w item slot n m is alone frame amount =
    let all = subst (λ (x : View). IsAlone [] x → ShowsAmount (stand_at (farm_in x) slot) (amount_of m)) is amount in
    saw (stand_at (farm_in v) slot) slot n m frame (all (alone_noted [] v item alone))

pub limit_fits : (code : ℕ) → code < 256 → IsLimit (limit_in code)
limit_fits zero lt = tt
limit_fits (suc n) lt = omega (arith, lt)

-- the word that is claimed is the waiting frame's
pub waits_found : (v : View) (seen : Seen) (cores found : ℕ) → ShowsSlot v seen.slot (frame_of found) → SawStand (stand_at (farm_in v) seen.slot) seen
    → seen.phase ≡ 1 → seen.cores ≡ cores
    → found ≡ frame_bits (record { phase = 1; version = seen.version + 1 - 1; host = 0; cores = cores })
waits_found v seen cores found shows sees waits same =
    let s = stand_at (farm_in v) seen.slot in
    let phase : s.phase ≡ 1 = sym sees.phase ∙ waits in
    let version : s.version ≡ seen.version + 1 - 1 = (let e = sees.version in omega (arith, e)) in
    let host = stand_nowhere (farm_in v) seen.slot phase in
    let amount : s.cores ≡ cores = sym sees.cores ∙ same in
    frame_is found (record { phase = 1; version = seen.version + 1 - 1; host = 0; cores = cores })
    (shows ∙ λ i. record { phase = phase i; version = version i; host = host i; cores = amount i })
