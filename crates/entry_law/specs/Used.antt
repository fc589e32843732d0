-- What running frames use, as words show them.
use Rattle.std.specs.Prelude.{◌≡◌, ℕ, ◌+◌, ◌==◌, ◌&&◌, Bool, if◌then◌else◌}
use Rattle.booking_rule.specs.Link.{host_alloc, stand_at}
use Rattle.booking_rule.specs.Recorded.{Stand}
use Rattle.booking_rule.specs.Rule.{is_booked}
use Rattle.booking_rule.specs.Totals.{sum_to}
use Rattle.farm_types.specs.Farm.{Farm, sub_of}
use Rattle.farm_types.specs.Sums.{booked_in, running_in, used_cores, used_memory}

-- an amount of each slot whose frame is booked and that passes the test, added up
abbrev pub sum_of_booked : Farm → (Stand → Bool) → (Stand → ℕ) → ℕ
sum_of_booked f test amount = sum_to 65536 (λ n. if is_booked (stand_at f n).phase && test (stand_at f n) then amount (stand_at f n) else 0)

-- What live attempts use of each host, subscription and limit is what booked frames use.
pub record UsesAreShown (f : Farm) : Type 0 where
  pub cores : (host : ℕ) → used_cores f host ≡ sum_of_booked f (λ s. s.host == host) (λ s. s.cores)
  pub memory : (host : ℕ) → used_memory f host ≡ sum_of_booked f (λ s. s.host == host) (λ s. s.memory)
  pub booked : (sub : ℕ) → booked_in f sub ≡ sum_of_booked f (λ s. sub_of s.show (host_alloc f s.host) == sub) (λ s. s.cores)
  pub running : (limit : ℕ) → running_in f limit ≡ sum_of_booked f (λ s. s.limit == limit + 1) (λ s. 1)
