use Rattle.std.proofs.Common.{◌≡◌, ◌∙◌, ◌<◌, ℕ, List, eqb, length, map, sym, ap, arith}
use Rattle.std.specs.List.{position_or_len, remove}
use Rattle.job_index.specs.Keys.{drop_key, job_of}
use Rattle.job_index.proofs.KeyLists.{drop_is_remove, drop_stays, map-remove, drop_rising}
use Rattle.job_index.proofs.ready_jobs.ReadyJobs.take.Goals as goal

drop_at : (key place : ℕ) (keys these new : List ℕ) → these ≡ keys → place ≡ position_or_len (λ (k : ℕ). eqb k key) these → place < length keys → new ≡ remove keys place → new ≡ drop_key key keys
drop_at key place keys these new same is within set =
    let at : place ≡ position_or_len (λ (k : ℕ). eqb k key) keys = is ∙ ap (position_or_len (λ (k : ℕ). eqb k key)) same in
    set ∙ ap (remove keys) at ∙ sym (drop_is_remove key keys (omega (arith, at, within)))

pub returns-then-place-len : goal.returns-then-place-len
returns-then-place-len c =
    let within : c.place_of_key-place.result < length c.self.inside.keys.items = omega (arith, c.self.inside.keys.ok.0) in
    drop_at c.args.key c.place_of_key-place.result c.self.inside.keys.items c.as_slice.result.now c.remove.new.self.items c.as_slice.ensures.value c.place_of_key-place.ensures within c.remove.ensures.items
    ∙ ap (drop_key c.args.key) c.self.view_is

pub returns-else-place-len : goal.returns-else-place-len
returns-else-place-len c =
    let keys = c.self.inside.keys.items in
    let at : c.place_of_key-place.result ≡ position_or_len (λ (k : ℕ). eqb k c.args.key) keys = c.place_of_key-place.ensures ∙ ap (position_or_len (λ (k : ℕ). eqb k c.args.key)) c.as_slice.ensures.value in
    sym c.self.view_is ∙ sym (drop_stays c.args.key keys (omega (arith, at, c.self.inside.keys.ok.0))) ∙ ap (drop_key c.args.key) c.self.view_is

pub invariant_of-self : goal.invariant_of-self
invariant_of-self c =
    let keys = c.self.inside.keys.items in
    let place = c.place_of_key-place.result in
    let within : place < length keys = omega (arith, c.self.inside.keys.ok.0) in
    let new = drop_at c.args.key place keys c.as_slice.result.now c.remove.new.self.items c.as_slice.ensures.value c.place_of_key-place.ensures within c.remove.ensures.items in
    record {
      rising = rw new (drop_rising 0 c.args.key 18446744073709551616 keys c.self.invariant.rising);
      jobs_are =
          c.remove-then-place-len.ensures.items ∙ ap (λ (ns : List ℕ). remove ns place) c.self.invariant.jobs_are ∙ sym (map-remove job_of keys place) ∙ ap (map job_of) (sym c.remove.ensures.items);
      keys_capacity = omega (arith, c.remove.ensures.capacity, c.self.invariant.keys_capacity);
      jobs_capacity = omega (arith, c.remove-then-place-len.ensures.capacity, c.self.invariant.jobs_capacity);
    }
