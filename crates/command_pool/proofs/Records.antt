-- Reading and writing one record of the array.
-- for: add, command, copy_from and others
use Rattle.std.proofs.Common.{◌≡◌, sym, ap, ◌∙◌, ℕ, ◌<◌, List, [], ◌∷◌, ◌++◌, length, get_or, set}
use Rattle.std.proofs.lemmas.List.{get_or-map, map-set, map-append, set-get_or, length-map}
use Rattle.command_pool.specs.declared.linking.Record.{Record}
use Rattle.command_pool.specs.Layout.{links_of, commands_of, command_at, unused}

pub length-links_of : (rs : List Record) → length (links_of rs) ≡ length rs
unfolding links_of
length-links_of rs = length-map rs (λ (r : Record). r.next)

pub length-commands_of : (rs : List Record) → length (commands_of rs) ≡ length (links_of rs)
unfolding commands_of links_of
length-commands_of rs = length-map rs (λ (r : Record). r.wanted) ∙ sym (length-map rs (λ (r : Record). r.next))

-- a record that was read has the link and the command at its place
pub link_read : (rs : List Record) (i : ℕ) (r : Record) → i < length rs → r ≡ get_or rs i r → r.next ≡ get_or (links_of rs) i 0
unfolding links_of
link_read rs i r lt e = ap (λ (s : Record). s.next) e ∙ sym (get_or-map (λ (s : Record). s.next) rs i r 0 lt)

pub command_read : (rs : List Record) (i : ℕ) (r : Record) → i < length rs → r ≡ get_or rs i r → r.wanted ≡ command_at (commands_of rs) i
unfolding commands_of command_at
command_read rs i r lt e = ap (λ (s : Record). s.wanted) e ∙ sym (get_or-map (λ (s : Record). s.wanted) rs i r unused lt)

-- another record at a place
pub links_of-set : (rs : List Record) (i : ℕ) (r : Record) → links_of (set rs i r) ≡ set (links_of rs) i r.next
unfolding links_of
links_of-set rs i r = map-set (λ (s : Record). s.next) rs i r

pub commands_of-set : (rs : List Record) (i : ℕ) (r : Record) → commands_of (set rs i r) ≡ set (commands_of rs) i r.wanted
unfolding commands_of
commands_of-set rs i r = map-set (λ (s : Record). s.wanted) rs i r

-- a record that keeps its link, and one that keeps its command
pub links_of-filled : (rs : List Record) (i : ℕ) (r : Record) → r.next ≡ get_or (links_of rs) i 0 → links_of (set rs i r) ≡ links_of rs
links_of-filled rs i r e = links_of-set rs i r ∙ (ap (set (links_of rs) i) e ∙ set-get_or (links_of rs) i 0)

pub commands_of-linked : (rs : List Record) (i : ℕ) (r : Record) → r.wanted ≡ command_at (commands_of rs) i → commands_of (set rs i r) ≡ commands_of rs
unfolding command_at
commands_of-linked rs i r e = commands_of-set rs i r ∙ (ap (set (commands_of rs) i) e ∙ set-get_or (commands_of rs) i unused)

-- one record more after some
pub links_of-push : (rs : List Record) (r : Record) → links_of (rs ++ r ∷ []) ≡ links_of rs ++ r.next ∷ []
unfolding links_of
links_of-push rs r = map-append (λ (s : Record). s.next) rs (r ∷ [])
