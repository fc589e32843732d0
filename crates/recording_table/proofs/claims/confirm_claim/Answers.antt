use Rattle.std.proofs.Common.{◌≡◌, sym, subst, rules}
use Rattle.frame_words.specs.Bits.{frame_bits}
use Rattle.booking_rule.specs.declared.hold.Claim.{Claim}
use Rattle.booking_core.specs.Kinds.{setup_for}
use Rattle.booking_table.specs.Seats.{view}
use Rattle.booking_table.specs.Holds.{claim_with}
use Rattle.recording_core.specs.Records.{running_for}
use Rattle.recording_core.specs.Records.RecorderKind.{confirms}
use Rattle.recording_table.specs.Steps.{MayTake}
use Rattle.recording_table.proofs.Writing.{confirms_writes}
use Rattle.recording_table.proofs.claims.confirm_claim.Goals as goal

pub exchange-found-requires-clause-may : goal.exchange-found-requires-clause-may
exchange-found-requires-clause-may c =
    let slot : c.slot-slot.result ≡ c.args.claim.now.slot = search rules in
    let version : c.version-version.result ≡ c.args.claim.now.version = search rules in
    let host : c.host-host.result ≡ c.args.claim.now.hold.host = search rules in
    let sub : c.sub.result ≡ c.args.claim.now.hold.burst.sub = search rules in
    let cores : c.cores-cores.result ≡ c.args.claim.now.hold.burst.cores = search rules in
    let limit : c.limit.result ≡ c.args.claim.now.hold.burst.limit = search rules in
    let memory : c.memory.result ≡ c.args.claim.now.hold.memory = search rules in
    subst (λ (x : Claim). MayTake (view c.args.seat.now) (confirms x))
    (λ i. claim_with (sym slot i) (sym version i) (sym host i) (sym sub i) (sym cores i) (sym limit i) (sym memory i)) c.requires.may

pub exchange-found-requires-clause-writes : goal.exchange-found-requires-clause-writes
exchange-found-requires-clause-writes c =
    let claim : Claim =
    claim_with c.slot-slot.result c.version-version.result c.host-host.result c.sub.result c.cores-cores.result c.limit.result c.memory.result in
    let was : c.word_in-old.result ≡ frame_bits (setup_for claim) = search rules in
    let is : c.word_in-new.result ≡ frame_bits (running_for claim) = search rules in
    confirms_writes (view c.args.seat.now) claim c.word_in-old.result c.word_in-new.result was is
