-- The bits of words: both ways, and with amounts added or taken away.
use Rattle.std.proofs.Common.{◌≡◌, ℕ, ◌+◌, ◌-◌, ◌*◌, ◌/◌, ◌%◌, ◌^◌, ◌<◌, ◌≤◌, arith}
use Rattle.frame_words.specs.declared.frame_word.FrameWord.{FrameWord}
use Rattle.frame_words.specs.Bits.{FitsFrame, frame_bits, frame_of, host_bits, host_of, sub_of, limit_of}

-- ---- a slot's word

pub frame_back : (w : FrameWord) → FitsFrame w → frame_of (frame_bits w) ≡ w
frame_back w fits =
    let p : frame_bits w / 2 ^ 60 ≡ w.phase = omega (arith, fits.0, fits.1, fits.2, fits.3) in
    let v : frame_bits w / 2 ^ 36 % 2 ^ 24 ≡ w.version = omega (arith, fits.0, fits.1, fits.2, fits.3) in
    let h : frame_bits w / 2 ^ 20 % 2 ^ 16 ≡ w.host = omega (arith, fits.0, fits.1, fits.2, fits.3) in
    let c : frame_bits w % 2 ^ 20 ≡ w.cores = omega (arith, fits.0, fits.1, fits.2, fits.3) in
    λ i. record { phase = p i; version = v i; host = h i; cores = c i }

-- ---- a host's

pub host_back : (cores memory : ℕ) → memory < 2 ^ 40
    → host_of (host_bits (record { cores = cores; memory = memory })) ≡ record { cores = cores; memory = memory }
host_back cores memory fits =
    let c : (cores * 2 ^ 40 + memory) / 2 ^ 40 ≡ cores = omega (arith, fits) in
    let m : (cores * 2 ^ 40 + memory) % 2 ^ 40 ≡ memory = omega (arith, fits) in
    λ i. record { cores = c i; memory = m i }

pub host_more : (n cores memory : ℕ) → (host_of n).memory + memory < 2 ^ 40
    → host_of (n + host_bits (record { cores = cores; memory = memory })) ≡ record { cores = (host_of n).cores + cores; memory = (host_of n).memory + memory }
host_more n cores memory fits =
    let c : (n + (cores * 2 ^ 40 + memory)) / 2 ^ 40 ≡ n / 2 ^ 40 + cores = omega (arith, fits) in
    let m : (n + (cores * 2 ^ 40 + memory)) % 2 ^ 40 ≡ n % 2 ^ 40 + memory = omega (arith, fits) in
    λ i. record { cores = c i; memory = m i }

-- ---- a cap and what is used of it

more_cap : (n c : ℕ) → n % 2 ^ 32 + c < 2 ^ 32 → (n + c) / 2 ^ 32 ≡ n / 2 ^ 32
more_cap n c fits = omega (arith, fits)

more_used : (n c : ℕ) → n % 2 ^ 32 + c < 2 ^ 32 → (n + c) % 2 ^ 32 ≡ n % 2 ^ 32 + c
more_used n c fits = omega (arith, fits)

less_cap : (n c : ℕ) → c ≤ n % 2 ^ 32 → (n - c) / 2 ^ 32 ≡ n / 2 ^ 32
less_cap n c le = omega (arith, le)

less_used : (n c : ℕ) → c ≤ n % 2 ^ 32 → (n - c) % 2 ^ 32 ≡ n % 2 ^ 32 - c
less_used n c le = omega (arith, le)

pub sub_more : (n c : ℕ) → (sub_of n).booked + c < 2 ^ 32 → sub_of (n + c) ≡ record { burst = (sub_of n).burst; booked = (sub_of n).booked + c }
sub_more n c fits = λ i. record { burst = more_cap n c fits i; booked = more_used n c fits i }

pub sub_less : (n c : ℕ) → c ≤ (sub_of n).booked → sub_of (n - c) ≡ record { burst = (sub_of n).burst; booked = (sub_of n).booked - c }
sub_less n c le = λ i. record { burst = less_cap n c le i; booked = less_used n c le i }

pub limit_more : (n c : ℕ) → (limit_of n).running + c < 2 ^ 32 → limit_of (n + c) ≡ record { most = (limit_of n).most; running = (limit_of n).running + c }
limit_more n c fits = λ i. record { most = more_cap n c fits i; running = more_used n c fits i }

pub limit_less : (n c : ℕ) → c ≤ (limit_of n).running → limit_of (n - c) ≡ record { most = (limit_of n).most; running = (limit_of n).running - c }
limit_less n c le = λ i. record { most = less_cap n c le i; running = less_used n c le i }

-- ---- no word leaves its 64 bits

pub used_stays : (n c : ℕ) → n < 2 ^ 64 → n % 2 ^ 32 + c < 2 ^ 32 → (n + c) % 2 ^ 64 ≡ n + c
used_stays n c small fits = omega (arith, small, fits)

pub less_stays : (n c : ℕ) → n < 2 ^ 64 → c ≤ n → (n + (2 ^ 64 - c)) % 2 ^ 64 ≡ n - c
less_stays n c small le = omega (arith, small, le)
