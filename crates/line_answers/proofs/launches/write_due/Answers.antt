-- The walk begins at the first of the host's own attempts, and goes on to the next.
use Rattle.std.proofs.Common.{arith, rules, ap, ◌∙◌, ◌++◌, [], refl, subst, List}
use Rattle.std.specs.Prelude.{option_to_list}
use Rattle.farm_types.specs.Farm.{Farm}
use Rattle.farm_lines.specs.declared.launch.Launch.{Launch}
use Rattle.attempt_book.specs.Book.{first_on, next_on}
use Rattle.farm_books.specs.Install.{procs_of}
use Rattle.line_answers.specs.Launches.{HasWritten, due_at, told}
use Rattle.line_answers.proofs.WalkLemmas.{walk_begins, walk_ends, walk_goes_on, walk_shortens}
use Rattle.line_answers.proofs.WrittenLaunches.{long_as, none_written, one_more}
use Rattle.line_answers.proofs.launches.write_due.Goals as goal

pub loop-next-init : goal.loop-next-init
loop-next-init c = record {
  found = [];
  walked = walk_begins c.args.farm.now c.args.host (told c.args.heard.now c.args.running.now) c.first_attempt-next.result [] (c.first_attempt-next.ensures ∙ ap (λ (g : Farm). first_on (procs_of g.slots) c.args.host 0) c.books.ensures.farm) refl;
  written = none_written c.args.out.now c.new-launched.result c.new-launched.ensures;
}

pub loop-next-preserved : goal.loop-next-preserved
loop-next-preserved c =
    let report = told c.args.heard.now c.args.running.now in
    let before = c.loop-next.invariant in
    let here = option_to_list (due_at c.args.farm.now c.args.host report c.in-Some.slot) in
    record {
      found = before.found ++ here;
      walked = walk_goes_on c.args.farm.now c.args.host report c.in-Some.slot c.loop-next.next c.next_attempt-next.result before.found (before.found ++ here) before.walked c.in-Some.is
          (omega (arith, long_as c.args.out.now c.loop-next.out before.found c.loop-next.launched before.written)) refl (c.next_attempt-next.ensures ∙ ap (λ (g : Farm). next_on (procs_of g.slots) c.in-Some.slot) c.books-in-Some.ensures.farm);
      written = one_more c.args.out.now c.loop-next.out c.write_at.new.out before.found here c.loop-next.launched c.write_at.new.launched before.written c.in_ok-write_at.ensures;
    }

pub loop-next-smaller : goal.loop-next-smaller
loop-next-smaller c =
    walk_shortens c.args.farm.now c.args.host (told c.args.heard.now c.args.running.now) c.in-Some.slot c.loop-next.next c.next_attempt-next.result c.loop-next.invariant.walked.own c.in-Some.is (c.next_attempt-next.ensures ∙ ap (λ (g : Farm). next_on (procs_of g.slots) c.in-Some.slot) c.books-in-Some.ensures.farm)

pub returns : goal.returns
returns c = subst (λ (ls : List Launch). HasWritten c.args.out.now ls c.loop-next.out c.loop-next.launched) (walk_ends c.args.farm.now c.args.host (told c.args.heard.now c.args.running.now) c.loop-next.next c.loop-next.invariant.found c.loop-next.invariant.walked (search rules)) c.loop-next.invariant.written
