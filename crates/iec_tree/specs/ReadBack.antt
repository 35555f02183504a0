-- What is read of a type, a block or a function as it is written.
use Rattle.std.specs.Prelude.{◌≡◌, Some, codes, ◌++◌}
use Rattle.iec_tree.specs.Elementary as elementary
use Rattle.iec_tree.specs.Functions as named
use Rattle.iec_tree.specs.Motion.{motion_named, motion_text}
use Rattle.iec_tree.specs.Standard.{standard_named, standard_text}
use Rattle.iec_tree.specs.declared.elementary.Elementary.{Elementary}
use Rattle.iec_tree.specs.declared.function.Function.{Function}
use Rattle.iec_tree.specs.declared.motion.Motion.{Motion}
use Rattle.iec_tree.specs.declared.standard.Standard.{Standard}

-- each is read as the one that it is written as; a motion block also with `MC_` in front, and
-- `REAL` stands for `LREAL`
pub record AreReadBack : Type 0 where
  pub types : (e : Elementary) →
      elementary.elementary_named (elementary.elementary_text e) ≡ Some e
  pub real_types : (e : Elementary) →
      elementary.elementary_named (elementary.real_text e) ≡ Some e
  pub standard : (s : Standard) → standard_named (standard_text s) ≡ Some s
  pub motion : (m : Motion) → motion_named (motion_text m) ≡ Some m
  pub prefixed : (m : Motion) → motion_named (codes "MC_" ++ motion_text m) ≡ Some m
  pub functions : (f : Function) → named.function_named (named.function_text f) ≡ Some f
  pub real_functions : (f : Function) → named.function_named (named.real_text f) ≡ Some f
