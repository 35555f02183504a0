mod Endings
mod NameLemmas
mod Numbers
mod Passed
mod Written
