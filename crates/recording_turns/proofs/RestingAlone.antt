-- The recorder's seat at rest, while no other seat was split off.
use Rattle.std.proofs.Common.{◌≡◌, ℕ, ◌+◌, ◌-◌, List, [], sym, ap, ◌∙◌, subst, arith}
use Rattle.std.specs.Prelude.{Some, None}
use Rattle.farm_types.specs.Farm.{Farm}
use Rattle.farm_types.specs.Sums.{used_cores, used_memory}
use Rattle.frame_words.specs.declared.host_word.HostWord.{HostWord}
use Rattle.booking_rule.specs.declared.hold.Claim.{Claim}
use Rattle.booking_rule.specs.declared.hold.Room.{Room}
use Rattle.booking_rule.specs.declared.view.View.{View}
use Rattle.booking_rule.specs.Alone.{IsAlone, ShowsRoom}
use Rattle.booking_rule.specs.Kept.{farm_in}
use Rattle.booking_rule.specs.Link.{host_cores, host_memory}
use Rattle.booking_rule.specs.Rule.{cores_in, memory_in}
use Rattle.booking_rule.specs.Totals.{total}
use Rattle.recording_turns.specs.Resting.{IsAtRest, IsSettled, split_in}
use Rattle.recording_turns.specs.Sizes.{free_of}

-- with these claims
pub alone_settled : (cs : List Claim) (v : View) → IsSettled v → split_in v.desk ≡ 0 → v.claims ≡ cs → IsAlone cs v
alone_settled cs v s split claims =
    record { desk = s.desk; first = s.first; split = sym (ap split_in s.first) ∙ split; pending = s.pending; done = s.done; claims = claims }

pub alone_at_rest : (v : View) → IsAtRest v → split_in v.desk ≡ 0 → IsAlone [] v
alone_at_rest v rests split = alone_settled [] v rests.settled split rests.free.claims

-- what is free of a host is its size less what frames use
pub shows_free : (v : View) (f : Farm) (host : ℕ) (word : HostWord) → farm_in v ≡ f → v.rooms ≡ [] → ShowsRoom v host word → word ≡ free_of f host
shows_free v f host word farm none shows =
    let cores = shows.cores in
    let memory = shows.memory in
    let no_cores : total (cores_in host) v.rooms ≡ 0 = ap (λ (l : List Room). total (cores_in host) l) none in
    let no_memory : total (memory_in host) v.rooms ≡ 0 = ap (λ (l : List Room). total (memory_in host) l) none in
    let c : word.cores ≡ host_cores (farm_in v) host - used_cores (farm_in v) host = omega (arith, cores, no_cores) in
    let m : word.memory ≡ host_memory (farm_in v) host - used_memory (farm_in v) host = omega (arith, memory, no_memory) in
    (λ i. record { cores = c i; memory = m i }) ∙ ap (λ (g : Farm). free_of g host) farm
