mod Exact
mod Final
mod Found
mod ItemLemmas
mod Leads
mod Runs
