use Rattle.std.proofs.Common.{◌∙◌, sym}
use Rattle.motion_history.proofs.KeptLemmas.{kept-length}
use Rattle.motion_history.proofs.history.History.entries.Goals as goal

pub returns : goal.returns
returns c = rw (← c.self.view_is) (c.len.ensures ∙ sym (kept-length c.self.inside))
