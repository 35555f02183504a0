-- How a name is kept: its bytes, and zeros after them.
use Rattle.std.specs.Prelude.{ℕ, ◌≡◌, ◌≤◌, ◌-◌, List, take, drop, length, replicate, ◌++◌, IsTrue}
use Rattle.std.proofs.Common.{arith}
use Rattle.std.proofs.lemmas.List.{take-append-drop, length-take-le}
use Rattle.iec_tokens.specs.Names.{is_name}
use Rattle.iec_tokens.specs.declared.name.Name.TheInside.{Inside}

-- the bytes of a name
abbrev pub bytes_of : Inside → List ℕ
bytes_of n = take n.len n.bytes

-- 32 bytes, of which those of the name come first and the others are zero.
pub record IsNameBytes (n : Inside) : Type 0 where
  pub room : length n.bytes ≡ 32
  pub few : n.len ≤ 32
  pub named : IsTrue (is_name (take n.len n.bytes))
  pub padded : drop n.len n.bytes ≡ replicate (32 - n.len) 0

-- how the name with these bytes is kept
abbrev pub inside_of : List ℕ → Inside
inside_of bytes = record { bytes = bytes ++ replicate (32 - length bytes) 0; len = length bytes }

padded_again : (bytes : List ℕ) (len : ℕ) → length bytes ≡ 32 → len ≤ 32 → drop len bytes ≡ replicate (32 - len) 0 →
    take len bytes ++ replicate (32 - len) 0 ≡ bytes
padded_again bytes len room few padded = rw (← padded) (take-append-drop len bytes)

kept_len : (bytes : List ℕ) (len : ℕ) → length bytes ≡ 32 → len ≤ 32 → length (take len bytes) ≡ len
kept_len bytes len room few = length-take-le len bytes (omega arith)

-- a name is kept in one way alone
pub inside_of-bytes_of : (n : Inside) → IsNameBytes n → inside_of (bytes_of n) ≡ n
inside_of-bytes_of n h =
    let l : length (take n.len n.bytes) ≡ n.len = kept_len n.bytes n.len h.room h.few in
    let b : take n.len n.bytes ++ replicate (32 - n.len) 0 ≡ n.bytes = padded_again n.bytes n.len h.room h.few h.padded in
    let c : take n.len n.bytes ++ replicate (32 - length (take n.len n.bytes)) 0 ≡ n.bytes = rw l b in
    λ i. record { bytes = c i; len = l i }
