use Rattle.cam_table.proofs.TableTests.{is_cam_table-told}
use Rattle.cam_table.proofs.laws.cam_tables_are_told.Goals as goal

pub returns : goal.returns
returns c points = is_cam_table-told points
