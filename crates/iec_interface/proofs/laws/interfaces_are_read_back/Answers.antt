-- Block by block, and word by word.
use Rattle.iec_interface.proofs.ReadBack.{apart, directions, inputs, mc_directions, mc_modes, modes, objects, outputs}
use Rattle.iec_interface.proofs.laws.interfaces_are_read_back.Goals as goal

pub returns : goal.returns
returns c = record {
  inputs = inputs;
  outputs = outputs;
  apart = apart;
  objects = objects;
  directions = directions;
  mc_directions = mc_directions;
  modes = modes;
  mc_modes = mc_modes;
}
