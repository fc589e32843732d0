use Rattle.std.proofs.Common.{ap, arith, inl, sym, ◌∙◌}
use Rattle.std.proofs.lemmas.Bool.{false≢true}
use Rattle.booking_rule.specs.declared.view.View.{View}
use Rattle.booking_table.specs.declared.seen.Seen.{Seen}
use Rattle.shared_rounds.proofs.Held.{looked_on}
use Rattle.shared_rounds.proofs.Sought.{all_of, due_grown}
use Rattle.shared_rounds.proofs.claiming.look_for.Goals as goal

pub look-seen-requires-clause-within : goal.look-seen-requires-clause-within
look-seen-requires-clause-within g c = c.requires.due.slot

pub found_word-requires : goal.found_word-requires
found_word-requires g c = let e = c.look-seen.ensures.fits in record { fits = (e.0, e.1, e.2) }

pub returns-then-is_waiting_at-clause-goes : goal.returns-then-is_waiting_at-clause-goes
returns-then-is_waiting_at-clause-goes g c =
    let e = c.look-seen.ensures.looked in
    looked_on c.args.pass.now.view c.look-seen.new.self.view c.args.candidate.now.slot e.0 e.1 c.requires.holds e.3

pub returns-then-is_waiting_at-clause-wanted : goal.returns-then-is_waiting_at-clause-wanted
returns-then-is_waiting_at-clause-wanted g c =
    let v = c.args.pass.now.view in
    let w = c.look-seen.new.self.view in
    let e = c.look-seen.ensures in
    let is = c.is_waiting_at.ensures.0 c.if-is_waiting_at.true in
    let same = is.1 in
    let below = c.requires.due.below in
    let steps = (looked_on v w c.args.candidate.now.slot e.looked.0 e.looked.1 c.requires.holds e.looked.3).steps in
    record {
      due = due_grown v w c.args.candidate.now (ap (λ (x : View). x.opening) steps.like) (all_of v.journal w.journal (ap (λ (x : View). x.journal) steps.like)) c.requires.due;
      at = ap (λ (s : Seen). s.slot) e.looked.2;
      phase = is.0;
      version = is.1;
      look = e.look is.0 (omega (arith, same, below));
      cores = e.cores is.0;
      memory = e.memory is.0;
      limit = e.fits.3;
      few = e.fits.2;
    }

pub returns-then-is_waiting_at-clause-answer : goal.returns-then-is_waiting_at-clause-answer
returns-then-is_waiting_at-clause-answer g c = (c.look-seen.ensures.looked, c.is_waiting_at.ensures.0 c.if-is_waiting_at.true)

pub returns-clause-goes : goal.returns-clause-goes
returns-clause-goes g c =
    let e = c.look-seen.ensures.looked in
    looked_on c.args.pass.now.view c.look-seen.new.self.view c.args.candidate.now.slot e.0 e.1 c.requires.holds e.3

pub returns-clause-answer : goal.returns-clause-answer
returns-clause-answer g c =
    inl (
      c.look-seen.result,
      c.look-seen.ensures.looked,
      λ waits. false≢true (sym c.if-is_waiting_at.false ∙ c.is_waiting_at.ensures.1 waits),
      c.found_word.ensures.word,
    )
