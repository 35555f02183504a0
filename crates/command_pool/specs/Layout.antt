-- How the lists of a pool are laid out: records in one array, each linked to the next by its place.
use Rattle.std.specs.Prelude.{ℕ, zero, suc, ◌+◌, ◌-◌, pos, List, [], ◌∷◌, None, length, map, replicate, slice_index, slice_index_or, slice_set, nat_eq, if◌then◌else◌}
use Rattle.plc_types.specs.declared.kind.BlockKind.TheVariants as kind
use Rattle.plc_types.specs.declared.kind.BufferMode.TheVariants as mode
use Rattle.command_pool.specs.declared.linking.Queue.{Queue}
use Rattle.command_pool.specs.declared.linking.Record.{Record}
use Rattle.command_pool.specs.declared.wanted.Follow.TheVariants as follow
use Rattle.command_pool.specs.declared.wanted.Wanted.{Wanted}
use Rattle.command_pool.specs.Waiting.{detached}

-- the places after the records. This project's profile
unfoldable pub links_of : List Record → List ℕ
links_of records = map (λ (r : Record). r.next) records

-- the commands in the records. This project's profile
unfoldable pub commands_of : List Record → List Wanted
commands_of records = map (λ (r : Record). r.wanted) records

-- no command. This project's profile
abbrev pub unused : Wanted
unused = record {
  kind = kind.Power;
  owner = None;
  target = None;
  targets = replicate 6 (pos 0);
  rates = record { v = pos 0; a = pos 0; d = pos 0 };
  mode = mode.Aborting;
  follow = follow.None;
}

-- the command in the record at a place. This project's profile
unfoldable pub command_at : List Wanted → ℕ → Wanted
command_at commands place = slice_index_or commands place unused

-- the places of this many records from one on, each linked to the next. This project's profile
unfoldable pub places : List ℕ → ℕ → ℕ → List ℕ
places links place zero = []
places links place (suc n) = place ∷ places links (slice_index links place) n

-- the places of a list's records. This project's profile
unfoldable pub chain : List ℕ → Queue → List ℕ
chain links q = places links q.first q.count

-- the places of the records of all lists. This project's profile
unfoldable pub chains : List ℕ → List Queue → List (List ℕ)
chains links queues = map (chain links) queues

-- how often a place stands in a list of places. This project's profile
unfoldable pub times : ℕ → List ℕ → ℕ
times place [] = 0
times place (p ∷ ps) = (if nat_eq place p then 1 else 0) + times place ps

-- how often a place stands in several lists of places. This project's profile
unfoldable pub times_in_all : ℕ → List (List ℕ) → ℕ
times_in_all place [] = 0
times_in_all place (c ∷ cs) = times place c + times_in_all place cs

-- how many places stand in several lists of places. This project's profile
unfoldable pub count_in_all : List (List ℕ) → ℕ
count_in_all [] = 0
count_in_all (c ∷ cs) = length c + count_in_all cs

-- the last of some places, or the one given where there is none. This project's profile
unfoldable pub end_of : List ℕ → ℕ → ℕ
end_of [] place = place
end_of (p ∷ ps) place = end_of ps p

-- a list with no record. This project's profile
abbrev pub empty : Queue
empty = record { first = 0; last = 0; count = 0 }

-- the places of a list's first and last record, by the list's number. This project's profile
unfoldable pub queue_at : List Queue → ℕ → Queue
queue_at queues list = slice_index_or queues list empty

-- the commands of each list. This project's profile
unfoldable pub lists_of : List ℕ → List Wanted → List Queue → List (List Wanted)
lists_of links commands queues = map (map (command_at commands)) (chains links queues)

-- a list with one record more at its end. This project's profile
unfoldable pub longer : Queue → ℕ → Queue
longer q place = if nat_eq q.count 0 then record { first = place; last = place; count = 1 }
    else record { first = q.first; last = place; count = q.count + 1 }

-- the links where a list has one record more at its end. This project's profile
unfoldable pub links_with : List ℕ → Queue → ℕ → List ℕ
links_with links q place = if nat_eq q.count 0 then links else slice_set links q.last place

-- a list without its first record. This project's profile
unfoldable pub shorter : List ℕ → Queue → Queue
shorter links q = record { first = slice_index links q.first; last = q.last; count = q.count - 1 }

-- the commands where those in the records at some places have lost the owner. This project's
-- profile
unfoldable pub detached_in : ℕ → List ℕ → List Wanted → List Wanted
detached_in owner [] commands = commands
detached_in owner (p ∷ ps) commands = detached_in owner ps (slice_set commands p (detached owner (command_at commands p)))

-- this many places in the array's order, from one on. This project's profile
unfoldable pub rising : ℕ → ℕ → List ℕ
rising place zero = []
rising place (suc n) = place ∷ rising (suc place) n
