mod Going
mod Verdicts
