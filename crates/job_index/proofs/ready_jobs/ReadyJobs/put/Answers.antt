use Rattle.std.proofs.Common.{◌≡◌, ◌∙◌, ◌<◌, ℕ, List, ltb, map, sym, ap, subst, arith}
use Rattle.std.specs.List.{insert, position_or_len}
use Rattle.job_index.specs.Keys.{CanPut, job_of, put_key}
use Rattle.job_index.proofs.KeyLists.{put_is_insert, map-insert, put_rising}
use Rattle.job_index.proofs.ready_jobs.ReadyJobs.put.Goals as goal

put_at : (key place : ℕ) (keys these new : List ℕ) → these ≡ keys → place ≡ position_or_len (λ (k : ℕ). ltb key k) these → new ≡ insert keys place key → new ≡ put_key key keys
put_at key place keys these new same is set = set ∙ ap (λ (p : ℕ). insert keys p key) (is ∙ ap (position_or_len (λ (k : ℕ). ltb key k)) same) ∙ sym (put_is_insert key keys)

pub returns : goal.returns
returns c =
    put_at c.args.key c.place_behind-place.result c.self.inside.keys.items c.as_slice.result.now c.insert_at.new.items.items c.as_slice.ensures.value c.place_behind-place.ensures.value c.insert_at.ensures.items
    ∙ ap (put_key c.args.key) c.self.view_is

pub invariant_of-self : goal.invariant_of-self
invariant_of-self c =
    let keys = c.self.inside.keys.items in
    let place = c.place_behind-place.result in
    let can = subst (CanPut c.args.key) (sym c.self.view_is) c.requires in
    let new = put_at c.args.key place keys c.as_slice.result.now c.insert_at.new.items.items c.as_slice.ensures.value c.place_behind-place.ensures.value c.insert_at.ensures.items in
    let below : c.args.key < 18446744073709551616 = omega (arith, c.ranges.key.fits) in
    record {
      rising = rw new (put_rising 0 c.args.key 18446744073709551616 keys c.self.invariant.rising (omega arith) below can.new);
      jobs_are =
          c.insert_at-2.ensures.items ∙ ap (λ (ns : List ℕ). insert ns place c.job_of.result) c.self.invariant.jobs_are ∙ ap (insert (map job_of keys) place) c.job_of.ensures
          ∙ sym (map-insert job_of keys place c.args.key) ∙ ap (map job_of) (sym c.insert_at.ensures.items);
      keys_capacity = omega (arith, c.insert_at.ensures.capacity, c.self.invariant.keys_capacity);
      jobs_capacity = omega (arith, c.insert_at-2.ensures.capacity, c.self.invariant.jobs_capacity);
    }
