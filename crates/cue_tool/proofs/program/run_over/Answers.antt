-- The call, with its causes.
use Rattle.cue_tool.proofs.program.run_over.Goals as goal

pub returns : goal.returns
returns g c =
    let call = c.run_cue-status.ensures.call in
    (call.0, record { is_call = call.1; read = c.run_cue-status.ensures.read; write = c.run_cue-status.ensures.write }, call.1.moved.prints)
