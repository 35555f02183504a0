-- What an object from outside says of its content; nothing is said where it gives nothing.
use Rattle.std.specs.Prelude.{◌≡◌, ℕ, ◌<◌, List, length, take, Option, Some, None, IfSome, IsSomeAnd}
use Rattle.std.specs.Io.{StartsWith}
use Rattle.std.specs.Io.KnownBytes.{Appends}

-- the files by their names: the bytes of each, or nothing where there is no file
abbrev pub FileMap : Type 0
FileMap = List ℕ → Option (List ℕ)

-- the known map has exactly these bytes under the name; this project's profile
abbrev pub HasFile : Option FileMap → List ℕ → List ℕ → Type 0
HasFile told name bytes = IfSome told (λ files. files name ≡ Some bytes)

-- the map is reported and has no file of the name; this project's profile
abbrev pub LacksFile : Option FileMap → List ℕ → Type 0
LacksFile told name = IsSomeAnd told (λ files. files name ≡ None)

-- the known map has a file of the name, and it begins with these bytes; this project's profile
abbrev pub BeginsFile : Option FileMap → List ℕ → List ℕ → Type 0
BeginsFile told name bytes =
    IfSome told (λ files. IsSomeAnd (files name) (λ file. StartsWith file bytes))

-- the known map has a file of the name, and it has more bytes than this; this project's profile
abbrev pub IsLonger : Option FileMap → List ℕ → ℕ → Type 0
IsLonger told name budget =
    IfSome told (λ files. IsSomeAnd (files name) (λ file. budget < length file))

-- some first bytes of the piece were appended, and not all; this project's profile
pub record AppendsPart (old new : Option (List ℕ)) (piece : List ℕ) : Type 0 where
  pub taken : ℕ
  pub within : taken < length piece
  pub appended : Appends old new (take taken piece)
