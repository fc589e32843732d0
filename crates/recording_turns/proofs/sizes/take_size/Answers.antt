use Rattle.std.proofs.Common.{◌≡◌, sym, ◌∙◌}
use Rattle.booking_table.specs.Seats.{view}
use Rattle.recording_turns.specs.Sizes.{free_of}
use Rattle.recording_turns.proofs.RestingAlone.{alone_at_rest, shows_free}
use Rattle.recording_turns.proofs.SizesTaken.{has_size}
use Rattle.recording_turns.proofs.sizes.take_size.Goals as goal

pub returns-clause-answer : goal.returns-clause-answer
returns-clause-answer c =
    let f = c.args.farm.now in
    let free = c.free_word-cores.result in
    let is : free ≡ free_of f c.args.host = λ i. record { cores = c.free_word-cores.ensures.cores i; memory = c.free_word-cores.ensures.memory i } in (
      is,
      has_size (view c.args.seat.now) f c.args.host free (view c.take_whole.new.seat) c.requires.farm c.requires.rests c.kept.ensures
          (c.used_is_running.ensures f c.kept.ensures) c.requires.there is c.free_word-cores.ensures.within c.in_ok-take_whole.ensures.answer,
    )

pub returns-in_err-take_whole-clause-alone : goal.returns-in_err-take_whole-clause-alone
returns-in_err-take_whole-clause-alone c =
    λ split.
    let v = view c.args.seat.now in
    let f = c.args.farm.now in
    let free = c.free_word-cores.result in
    let is : free ≡ free_of f c.args.host = λ i. record { cores = c.free_word-cores.ensures.cores i; memory = c.free_word-cores.ensures.memory i } in
    let shows = c.in_err-take_whole.ensures.alone (alone_at_rest v c.requires.rests split) in
    absurd (c.in_err-take_whole.ensures.answer.0 (shows_free v f c.args.host _ c.requires.farm c.requires.rests.free.rooms shows ∙ sym is))
