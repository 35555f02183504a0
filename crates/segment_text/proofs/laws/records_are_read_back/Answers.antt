-- Kind by kind.
use Rattle.segment_text.proofs.back.Axes.{axis-back, axis-only}
use Rattle.segment_text.proofs.back.Commands.{wanted-back, wanted-only}
use Rattle.segment_text.proofs.back.Groups.{group-back, group-only}
use Rattle.segment_text.proofs.back.Instances.{instance-back, instance-only}
use Rattle.segment_text.proofs.laws.records_are_read_back.Goals as goal

pub returns-clause-read : goal.returns-clause-read
returns-clause-read c = record { axes = axis-back; groups = group-back; instances = instance-back; commands = wanted-back }

pub returns-clause-spelled : goal.returns-clause-spelled
returns-clause-spelled c = record {
  axes = λ d fields a h. let is = axis-only d fields a h in record { spelled = is.spelled; is = is.is };
  groups = λ d fields g h. let is = group-only d fields g h in record { spelled = is.spelled; is = is.is };
  instances = λ d fields i h. let is = instance-only d fields i h in record { spelled = is.spelled; is = is.is };
  commands = λ fields w h. let is = wanted-only fields w h in record { spelled = λ n. is.spelled; is = is.is };
}
