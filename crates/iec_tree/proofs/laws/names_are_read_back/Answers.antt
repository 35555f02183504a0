use Rattle.iec_tree.proofs.Written.{functions, motion, prefixed, real_functions, real_types, standard, types}
use Rattle.iec_tree.proofs.laws.names_are_read_back.Goals as goal

pub returns : goal.returns
returns c = record {
  types = types;
  real_types = real_types;
  standard = standard;
  motion = motion;
  prefixed = prefixed;
  functions = functions;
  real_functions = real_functions;
}
