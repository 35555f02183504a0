-- What stands in the files in memory, and what their calls leave.
use Rattle.std.specs.Prelude.{◌≡◌, ◌≢◌, ℕ, ◌+◌, ◌-◌, ◌^◌, min, List, Option, Some, None, option_map}
use Rattle.std.specs.BTreeMap.{get_by_text}
use Rattle.outside.specs.declared.memory_files.MemoryFiles.{MemoryFiles}

-- the bytes of the file of this name, or nothing
abbrev pub file_of : MemoryFiles → List ℕ → Option (List ℕ)
file_of m name = option_map (λ v. v.items) (get_by_text m.files name)

-- the numbers of the reads that fail
abbrev pub fails_of : MemoryFiles → List ℕ
fails_of m = m.fails.items

-- how many reads there were, up to the end of 32 bits
abbrev pub reads_of : MemoryFiles → ℕ
reads_of m = m.reads

-- how many reads failed by their number, up to the end of 64 bits
abbrev pub faults_of : MemoryFiles → ℕ
faults_of m = m.faults

-- there is no file, nothing was read, and the reads of these numbers will fail
pub record IsNew (m : MemoryFiles) (failing : List ℕ) : Type 0 where
  pub files : (name : List ℕ) → file_of m name ≡ None
  pub fails : fails_of m ≡ failing
  pub reads : reads_of m ≡ 0
  pub faults : faults_of m ≡ 0

-- the reads are counted as before
pub record KeepsCounts (old new : MemoryFiles) : Type 0 where
  pub fails : fails_of new ≡ fails_of old
  pub reads : reads_of new ≡ reads_of old
  pub faults : faults_of new ≡ faults_of old

-- each file is as it was
abbrev pub KeepsFiles : MemoryFiles → MemoryFiles → Type 0
KeepsFiles old new = (name : List ℕ) → file_of new name ≡ file_of old name

-- the file of this name has these bytes, and the other files are as they were
pub record PutsFile (old new : MemoryFiles) (name bytes : List ℕ) : Type 0 where
  pub file : file_of new name ≡ Some bytes
  pub others : (other : List ℕ) → other ≢ name → file_of new other ≡ file_of old other
  pub counts : KeepsCounts old new

-- all is as it was
pub record IsUnchanged (old new : MemoryFiles) : Type 0 where
  pub files : KeepsFiles old new
  pub counts : KeepsCounts old new

-- there is one read more, and the files and the listed numbers are as they were
pub record CountsRead (old new : MemoryFiles) : Type 0 where
  pub files : KeepsFiles old new
  pub fails : fails_of new ≡ fails_of old
  pub reads : reads_of new ≡ min (reads_of old + 1) (2 ^ 32 - 1)
