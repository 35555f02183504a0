-- The rules of a configuration by their numbers. This project's profile.
use Rattle.std.specs.Prelude.{ℕ}
use Rattle.machine_words.specs.declared.rule.ItemRules.{ItemRules}

-- the text isn't TOML
abbrev pub no_toml : ℕ
no_toml = 1

-- a key is missing or unknown, or what stands under it is of another type
abbrev pub wrong_key : ℕ
wrong_key = 2

-- what stands for a quantity isn't one
abbrev pub no_quantity : ℕ
no_quantity = 3

-- a name is none or is used already, or what is named isn't there or isn't free
abbrev pub wrong_name : ℕ
wrong_name = 4

-- a value is outside its range
abbrev pub out_of_range : ℕ
out_of_range = 5

-- there are too many or too few of a kind
abbrev pub wrong_count : ℕ
wrong_count = 6

-- points make no cam table
abbrev pub no_table : ℕ
no_table = 7

-- there are too many keys and values
abbrev pub crowded : ℕ
crowded = 8

-- the rules that the numbers of a drive break
abbrev pub drive_rules : ItemRules
drive_rules = record { wrong = out_of_range; too_many = wrong_count }

-- the rules that the points of a cam table break
abbrev pub table_rules : ItemRules
table_rules = record { wrong = no_table; too_many = wrong_count }
