use Rattle.std.proofs.Common.{refl, inl, append-nil, ◌≡◌, ◌<◌, false, inr, [], List, ℕ, length, ◌++◌, sym, ◌∙◌, ap, subst, arith, true≢false, eqb-true}
use Rattle.std.proofs.lemmas.Bool.{eqb-false}
use Rattle.cue_io.specs.Input.{Takes-append, Takes-none}
use Rattle.cue_io.specs.Lines.{has_newline}
use Rattle.cue_io.specs.Reader.{Held}
use Rattle.cue_io.specs.Steps.{IsFirstNewline}
use Rattle.cue_io.proofs.StepLemmas.{GoesOn-start}
use Rattle.cue_io.proofs.AnswerLemmas.{GoesOn-fetched, MayFetch, MayFetch-passed, Moves-ended, Moves-line, Moves-over, Moves-read, Moves-spent, front_kept, WasNeeded-read, none_after_read}
use Rattle.cue_io.proofs.line_reader.LineReader.advance.Goals as goal
use Rattle.cue_io.specs.declared.limits.TheConstants.{BYTE_LIMIT}

pub returns-then-has_ended-clause-moves : goal.returns-then-has_ended-clause-moves
returns-then-has_ended-clause-moves g c =
    Moves-ended (g.S.Source.left c.args.source.now) c.args.self.now (sym c.has_ended.ensures.ended ∙ c.if-has_ended.true)
    c.has_ended.ensures.sound

pub returns-in-Some-clause-moves : goal.returns-in-Some-clause-moves
returns-in-Some-clause-moves g c =
    let so_far = c.reads.invariant.1 in
    let first : IsFirstNewline c.reads.self.bytes c.in-Some.at =
    subst (λ (bytes : List ℕ). IsFirstNewline bytes c.in-Some.at) c.held.ensures c.in-Some.ensures.1 in
    let inside : c.in-Some.at < length c.reads.self.bytes =
    subst (λ (bytes : List ℕ). c.in-Some.at < length bytes) c.held.ensures c.in-Some.ensures.0 in
    Moves-line (g.S.Source.left c.args.source.now) (g.S.Source.left c.reads.source) c.args.self.now c.reads.self c.give.new.self
    c.reads.invariant.0 c.in-Some.at c.give.result so_far.takes so_far.goes_on inside first c.give.ensures.found c.give.ensures.after

pub returns-then-is_spent-clause-moves : goal.returns-then-is_spent-clause-moves
returns-then-is_spent-clause-moves g c =
    let so_far = c.reads.invariant.1 in
    Moves-spent (g.S.Source.left c.args.source.now) (g.S.Source.left c.reads.source) c.args.self.now c.reads.self
    c.reads.invariant.0 so_far.takes so_far.goes_on (sym (ap has_newline c.held.ensures) ∙ c.in_default.ensures)
    (eqb-true c.reads.self.taken BYTE_LIMIT (sym c.is_spent.ensures ∙ c.if-is_spent.true))

pub returns-in-Err-clause-moves : goal.returns-in-Err-clause-moves
returns-in-Err-clause-moves g c =
    let so_far = c.reads.invariant.1 in
    let may : MayFetch c.args.self.now c.reads.invariant.0 c.pass_over.new.self =
    MayFetch-passed c.args.self.now c.reads.self c.pass_over.new.self c.reads.invariant.0 so_far.goes_on
    (sym (ap has_newline c.held.ensures) ∙ c.in_default.ensures)
    (eqb-false c.reads.self.taken BYTE_LIMIT (sym c.is_spent.ensures ∙ c.if-is_spent.false))
    c.pass_over.ensures in
    Moves-read (g.S.Source.left c.args.source.now) (g.S.Source.left c.fetch.new.source) c.args.self.now c.pass_over.new.self
    c.fetch.new.self c.reads.invariant.0 (rw c.in-Err.ensures.kept so_far.takes) may c.in-Err.ensures.err

pub returns-in-Ok-eq0-clause-moves : goal.returns-in-Ok-eq0-clause-moves
returns-in-Ok-eq0-clause-moves g c =
    let so_far = c.reads.invariant.1 in
    let took = c.reads.invariant.0 in
    let fresh = c.in-Ok-eq0.ensures.ok.0 in
    let fetches = c.in-Ok-eq0.ensures.ok.1 in
    let may : MayFetch c.args.self.now took c.pass_over.new.self =
    MayFetch-passed c.args.self.now c.reads.self c.pass_over.new.self took so_far.goes_on
    (sym (ap has_newline c.held.ensures) ∙ c.in_default.ensures)
    (eqb-false c.reads.self.taken BYTE_LIMIT (sym c.is_spent.ensures ∙ c.if-is_spent.false))
    c.pass_over.ensures in
    Moves-over c.args.self.now c.pass_over.new.self c.fetch.new.self took fresh
    (g.S.Source.left c.reads.source) (g.S.Source.left c.fetch.new.source) c.in-Ok-eq0.field-0 may fetches
    (g.S.Source.left c.args.source.now) c.finish.result c.finish.new.self so_far.takes c.in-Ok-eq0.field-0-test
    c.finish.ensures.found c.finish.ensures.after

pub returns-in-Some-clause-needed : goal.returns-in-Some-clause-needed
returns-in-Some-clause-needed g c = c.reads.invariant.1.needed

pub returns-then-is_spent-clause-needed : goal.returns-then-is_spent-clause-needed
returns-then-is_spent-clause-needed g c = c.reads.invariant.1.needed

pub returns-in-Err-clause-needed : goal.returns-in-Err-clause-needed
returns-in-Err-clause-needed g c =
    let so_far = c.reads.invariant.1 in
    let left = g.S.Source.left c.reads.source in
    inr (WasNeeded-read c.args.self.now.bytes c.reads.invariant.0 [] (g.S.Source.left c.args.source.now) left
    (g.S.Source.left c.fetch.new.source) (g.S.Source.last c.fetch.new.source) so_far.takes
    (rw c.in-Err.ensures.kept (Takes-none left)) c.in-Err.ensures.brought
    (so_far.front (sym (ap has_newline c.held.ensures) ∙ c.in_default.ensures)))

pub returns-in-Ok-eq0-clause-needed : goal.returns-in-Ok-eq0-clause-needed
returns-in-Ok-eq0-clause-needed g c =
    let so_far = c.reads.invariant.1 in
    let fetches = c.in-Ok-eq0.ensures.ok.1 in
    inr (WasNeeded-read c.args.self.now.bytes c.reads.invariant.0 c.in-Ok-eq0.ensures.ok.0 (g.S.Source.left c.args.source.now)
    (g.S.Source.left c.reads.source) (g.S.Source.left c.fetch.new.source) (g.S.Source.last c.fetch.new.source) so_far.takes
    fetches.takes (c.in-Ok-eq0.ensures.brought ∙ sym fetches.count_is)
    (so_far.front (sym (ap has_newline c.held.ensures) ∙ c.in_default.ensures)))

pub reads-init : goal.reads-init
reads-init g c =
    let bytes = c.args.self.now.bytes in (
      [],
      record {
        takes = Takes-none (g.S.Source.left c.args.source.now);
        goes_on = GoesOn-start c.args.self.now (sym c.has_ended.ensures.ended ∙ c.if-has_ended.false) c.has_ended.ensures.sound.within;
        searched = omega arith;
        none = refl;
        unread = λ held. (refl, refl);
        needed = inl refl;
        front = λ none. ap has_newline (append-nil bytes) ∙ none;
        rises = omega arith;
      },
    )

pub reads-preserved : goal.reads-preserved
reads-preserved g c =
    let so_far = c.reads.invariant.1 in
    let took = c.reads.invariant.0 in
    let fresh = c.in-Ok.ensures.ok.0 in
    let fetches = c.in-Ok.ensures.ok.1 in
    let may : MayFetch c.args.self.now took c.pass_over.new.self =
    MayFetch-passed c.args.self.now c.reads.self c.pass_over.new.self took so_far.goes_on
    (sym (ap has_newline c.held.ensures) ∙ c.in_default.ensures)
    (eqb-false c.reads.self.taken BYTE_LIMIT (sym c.is_spent.ensures ∙ c.if-is_spent.false))
    c.pass_over.ensures in
    let none : has_newline c.reads.self.bytes ≡ false = sym (ap has_newline c.held.ensures) ∙ c.in_default.ensures in
    let front = front_kept c.args.self.now c.pass_over.new.self c.fetch.new.self took fresh
    (g.S.Source.left c.reads.source) (g.S.Source.left c.fetch.new.source) c.in-Ok.field-0 may fetches in (
      took ++ fresh,
      record {
        takes = Takes-append (g.S.Source.left c.args.source.now) (g.S.Source.left c.reads.source) (g.S.Source.left c.fetch.new.source)
            took fresh so_far.takes fetches.takes;
        goes_on = GoesOn-fetched c.args.self.now c.pass_over.new.self c.fetch.new.self took fresh
            (g.S.Source.left c.reads.source) (g.S.Source.left c.fetch.new.source) c.in-Ok.field-0 may fetches;
        searched = rw c.held-searched.ensures front.0;
        none = rw c.held-searched.ensures front.1;
        unread = λ held. absurd (true≢false (sym held ∙ sym (ap (λ (reader : Held). has_newline reader.bytes) (so_far.unread held).0)
            ∙ sym (ap has_newline c.held.ensures) ∙ c.in_default.ensures));
        needed = inr (WasNeeded-read c.args.self.now.bytes took fresh (g.S.Source.left c.args.source.now) (g.S.Source.left c.reads.source)
            (g.S.Source.left c.fetch.new.source) (g.S.Source.last c.fetch.new.source) so_far.takes fetches.takes
            (c.in-Ok.ensures.brought ∙ sym fetches.count_is) (so_far.front none));
        front = none_after_read c.args.self.now.bytes took fresh c.pass_over.new.self.bytes c.fetch.new.self.bytes (so_far.front none)
            (ap (λ (reader : Held). reader.bytes) fetches.new_is);
        rises = omega (arith, so_far.rises, c.in-Ok.ensures.rises);
      },
    )
