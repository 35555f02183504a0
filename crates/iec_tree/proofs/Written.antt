-- Each type, block and function has a text of its own.
-- for: names_are_read_back
use Rattle.std.proofs.Common.{◌≡◌, ◌++◌, refl, Some}
use Rattle.std.specs.Prelude.{codes}
use Rattle.iec_tree.specs.Elementary as elementary
use Rattle.iec_tree.specs.Functions as named
use Rattle.iec_tree.specs.Motion.{motion_named, motion_text, without_prefix}
use Rattle.iec_tree.specs.Standard.{standard_named, standard_text}
use Rattle.iec_tree.specs.declared.elementary.Elementary.{Elementary}
use Rattle.iec_tree.specs.declared.elementary.Elementary.TheVariants as type
use Rattle.iec_tree.specs.declared.function.Function.{Function}
use Rattle.iec_tree.specs.declared.function.Function.TheVariants as function
use Rattle.iec_tree.specs.declared.motion.Motion.{Motion}
use Rattle.iec_tree.specs.declared.motion.Motion.TheVariants as block
use Rattle.iec_tree.specs.declared.standard.Standard.{Standard}
use Rattle.iec_tree.specs.declared.standard.Standard.TheVariants as timer

pub types : (e : Elementary) → elementary.elementary_named (elementary.elementary_text e) ≡ Some e
unfolding elementary.elementary_text elementary.real_text elementary.elementary_named elementary.is_written
types type.Bool = refl
types _ = refl

pub real_types : (e : Elementary) → elementary.elementary_named (elementary.real_text e) ≡ Some e
unfolding elementary.elementary_text elementary.real_text elementary.elementary_named elementary.is_written
real_types type.Bool = refl
real_types _ = refl

pub standard : (s : Standard) → standard_named (standard_text s) ≡ Some s
unfolding standard_text standard_named
standard timer.Ton = refl
standard _ = refl

pub motion : (m : Motion) → motion_named (motion_text m) ≡ Some m
unfolding motion_text motion_named without_prefix
motion block.Power = refl
motion _ = refl

pub prefixed : (m : Motion) → motion_named (codes "MC_" ++ motion_text m) ≡ Some m
unfolding motion_text motion_named without_prefix
prefixed block.Power = refl
prefixed _ = refl

pub functions : (f : Function) → named.function_named (named.function_text f) ≡ Some f
unfolding named.function_text named.real_text named.function_named named.is_written
functions function.Abs = refl
functions _ = refl

pub real_functions : (f : Function) → named.function_named (named.real_text f) ≡ Some f
unfolding named.function_text named.real_text named.function_named named.is_written
real_functions function.Abs = refl
real_functions _ = refl
