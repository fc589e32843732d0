-- The steps one after the other.
use Rattle.std.proofs.lemmas.Result.{on_ok_weaker}
use Rattle.farm_lines.specs.Reply.{entries_full}
use Rattle.report_codec.proofs.fault_reply.write_entries_full.Goals as goal

pub returns : goal.returns
unfolding entries_full
returns c =
    on_ok_weaker c.end_object.result
    (λ done. cc (done, c.in_ok-text-2.ensures, c.in_ok-text.ensures, c.in_ok-truth.ensures, c.in_ok-whole-2.ensures, c.in_ok-whole.ensures, c.in_ok-begin_object.ensures))
    c.end_object.ensures
