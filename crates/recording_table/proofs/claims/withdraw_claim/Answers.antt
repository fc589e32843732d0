use Rattle.std.proofs.Common.{◌≡◌, sym, ap, subst, ◌∙◌, rules}
use Rattle.frame_words.specs.Bits.{frame_bits}
use Rattle.booking_rule.specs.declared.hold.Claim.{Claim}
use Rattle.booking_core.specs.Kinds.{setup_for}
use Rattle.booking_table.specs.Seats.{view}
use Rattle.booking_table.specs.Holds.{claim_with}
use Rattle.recording_core.specs.Records.{running_for}
use Rattle.recording_core.specs.Records.RecorderKind.{withdraws}
use Rattle.recording_table.specs.Calls.{withdrawn}
use Rattle.recording_table.specs.Steps.{MayTake}
use Rattle.recording_table.proofs.Bookable.{withdraw_won}
use Rattle.recording_table.proofs.Writing.{withdraws_writes}
use Rattle.recording_table.proofs.claims.withdraw_claim.Goals as goal

pub exchange-requires-clause-may : goal.exchange-requires-clause-may
exchange-requires-clause-may c =
    let slot : c.slot-slot.result ≡ c.args.claim.now.slot = search rules in
    let version : c.version-version.result ≡ c.args.claim.now.version = search rules in
    let host : c.host-host.result ≡ c.args.claim.now.hold.host = search rules in
    let sub : c.sub.result ≡ c.args.claim.now.hold.burst.sub = search rules in
    let cores : c.cores-cores.result ≡ c.args.claim.now.hold.burst.cores = search rules in
    let limit : c.limit.result ≡ c.args.claim.now.hold.burst.limit = search rules in
    let memory : c.memory.result ≡ c.args.claim.now.hold.memory = search rules in
    subst (λ (x : Claim). MayTake (view c.args.seat.now) (withdraws x))
    (λ i. claim_with (sym slot i) (sym version i) (sym host i) (sym sub i) (sym cores i) (sym limit i) (sym memory i)) c.requires.may

pub exchange-requires-clause-writes : goal.exchange-requires-clause-writes
exchange-requires-clause-writes c =
    let claim : Claim =
    claim_with c.slot-slot.result c.version-version.result c.host-host.result c.sub.result c.cores-cores.result c.limit.result c.memory.result in
    let was : c.word_in-old.result ≡ frame_bits (running_for claim) = search rules in
    let is : c.word_in-new.result ≡ frame_bits (setup_for claim) = search rules in
    withdraws_writes (view c.args.seat.now) claim c.word_in-old.result c.word_in-new.result was is

pub returns-clause-withdrawn : goal.returns-clause-withdrawn
returns-clause-withdrawn c =
    let slot : c.slot-slot.result ≡ c.args.claim.now.slot = search rules in
    let version : c.version-version.result ≡ c.args.claim.now.version = search rules in
    let host : c.host-host.result ≡ c.args.claim.now.hold.host = search rules in
    let sub : c.sub.result ≡ c.args.claim.now.hold.burst.sub = search rules in
    let cores : c.cores-cores.result ≡ c.args.claim.now.hold.burst.cores = search rules in
    let limit : c.limit.result ≡ c.args.claim.now.hold.burst.limit = search rules in
    let memory : c.memory.result ≡ c.args.claim.now.hold.memory = search rules in
    let claim : Claim =
    claim_with c.slot-slot.result c.version-version.result c.host-host.result c.sub.result c.cores-cores.result c.limit.result c.memory.result in
    c.exchange.ensures.knows
    ∙ (withdraw_won (view c.args.seat.now) claim c.exchange.result c.exchange.ensures.finds
    ∙ ap (withdrawn (view c.args.seat.now)) (λ i. claim_with (slot i) (version i) (host i) (sub i) (cores i) (limit i) (memory i)))
