use Rattle.std.proofs.Common.{◌≡◌, ◌∙◌, ℕ, suc, ◌+◌, ◌++◌, ◌∷◌, [], List, Some, length, take, refl, sym, ap, subst, arith, length-append}
use Rattle.std.specs.List.{slice_get}
use Rattle.std.proofs.lemmas.Option.{none-some}
use Rattle.depend_book.specs.Book.{waiting_from}
use Rattle.depend_book.specs.Rows.{last_in, none_seen, older_of, rows_there}
use Rattle.depend_book.proofs.WaitingDown.{Falls, down_rows, falls_down, older_is, take_next, take_past, within}
use Rattle.depend_book.proofs.waiting.walk_back.Goals as goal

pub loop-next-init : goal.loop-next-init
loop-next-init c =
    let xs = c.args.places.now in
    let job = c.args.job in
    let all = waiting_from job [] (rows_there xs) in
    let down = falls_down job (λ n. older_of n xs) none_seen [] xs c.requires.places.chained refl (λ i n at. absurd (none-some n at)) (λ k x at. older_is k 1 xs c.requires.rise.0 x c.requires.rise.1 at) in
    record {
      found = c.new-found.ensures ∙ sym (ap (λ (ns : List ℕ). take (length ns) all) c.new-found.ensures);
      next = c.last_in-next.ensures ∙ (ap (last_in c.args.newest.now) c.number_of.ensures ∙ (c.requires.places.last job ∙ (down.1 ∙ (ap (λ (ns : List ℕ). slice_get ns 0) (sym (down_rows job [] xs)) ∙ sym (ap (λ (ns : List ℕ). slice_get all (length ns)) c.new-found.ensures)))));
    }

pub loop-next-smaller : goal.loop-next-smaller
loop-next-smaller c =
    let l = c.loop-next in
    let d = c.in-Some.depend in
    let all = waiting_from c.args.job [] (rows_there c.args.places.now) in
    let more = within (length l.found) d all (sym l.invariant.next ∙ c.in-Some.is) in
    omega (arith, more, ap (λ (ns : List ℕ). length ns) c.in_ok-push.ensures.ok, length-append l.found (d ∷ []))

pub loop-next-preserved : goal.loop-next-preserved
loop-next-preserved c =
    let l = c.loop-next in
    let xs = c.args.places.now in
    let job = c.args.job in
    let d = c.in-Some.depend in
    let all = waiting_from job [] (rows_there xs) in
    let news = c.push.new.self in
    let at : slice_get all (length l.found) ≡ Some d = sym l.invariant.next ∙ c.in-Some.is in
    let one = c.in_ok-push.ensures.ok in
    let long : length news ≡ suc (length l.found) = omega (arith, ap (λ (ns : List ℕ). length ns) one, length-append l.found (d ∷ [])) in
    let down = falls_down job (λ n. older_of n xs) none_seen [] xs c.requires.places.chained refl (λ i n e. absurd (none-some n e)) (λ k x e. older_is k 1 xs c.requires.rise.0 x c.requires.rise.1 e) in
    let falls = subst (Falls job (λ n. older_of n xs)) (sym (down_rows job [] xs)) down.0 in
    record {
      found = one ∙ (ap (λ (ns : List ℕ). ns ++ d ∷ []) l.invariant.found ∙ (sym (take_next (length l.found) d all at) ∙ ap (λ (n : ℕ). take n all) (sym long)));
      next = c.older_in-next.ensures ∙ (falls (length l.found) d at ∙ ap (slice_get all) (sym long));
    }

pub returns : goal.returns
returns c =
    let l = c.loop-next in
    let all = waiting_from c.args.job [] (rows_there c.args.places.now) in
    l.invariant.found ∙ take_past (length l.found) all (sym l.invariant.next ∙ c.in_default.is)
