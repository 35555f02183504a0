mod NamesKept
