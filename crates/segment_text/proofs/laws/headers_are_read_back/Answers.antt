-- The whole header.
use Rattle.segment_text.proofs.back.Spelled.{text-only}
use Rattle.segment_text.proofs.back.Whole.{header-back, headers-tell}
use Rattle.segment_text.proofs.laws.headers_are_read_back.Goals as goal

pub returns-clause-read : goal.returns-clause-read
returns-clause-read c = header-back

pub returns-clause-told : goal.returns-clause-told
returns-clause-told c = headers-tell

pub returns-clause-spelled : goal.returns-clause-spelled
returns-clause-spelled c = text-only
